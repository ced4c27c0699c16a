use Rattle.std.proofs.Common.{◌∙◌, ap, sym, is_some}
use Rattle.sender_core.specs.States.{contents_of}
use Rattle.sender_core.proofs.Entering.{absent}
use Rattle.sender_core.proofs.TagMaps.{get_tag}
use Rattle.sender_core.proofs.state.State.drop_tag.Goals as goal

pub remove-requires-clause-present : goal.remove-requires-clause-present
remove-requires-clause-present g c = ap is_some (get_tag c.args.self.now.labels.entries c.args.tag) ∙ sym c.contains_key.ensures ∙ c.if-contains_key.true

pub returns-in_ok-note-clause-stepped : goal.returns-in_ok-note-clause-stepped
returns-in_ok-note-clause-stepped g c =
    absent (contents_of c.args.self.now) (contents_of c.note.new.self) c.args.tag (ap is_some (get_tag c.args.self.now.labels.entries c.args.tag) ∙ sym c.contains_key.ensures ∙ c.if-contains_key.false) c.in_ok-note.ensures.noted
