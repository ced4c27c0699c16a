use Rattle.std.proofs.Common.{◌∙◌, ap, sym, is_some}
use Rattle.sender_core.proofs.TagMaps.{get_tag}
use Rattle.sender_core.proofs.state.State.put.Goals as goal

pub replace-requires-clause-present : goal.replace-requires-clause-present
replace-requires-clause-present g c = ap is_some (get_tag c.args.self.now.labels.entries c.args.tag) ∙ sym c.contains_key.ensures ∙ c.if-contains_key.true

pub add-requires-clause-absent : goal.add-requires-clause-absent
add-requires-clause-absent g c = ap is_some (get_tag c.args.self.now.labels.entries c.args.tag) ∙ sym c.contains_key.ensures ∙ c.if-contains_key.false
