use Rattle.std.proofs.Common.{◌∙◌, ap, is_some}
use Rattle.sender_core.proofs.Growing.{room-found}
use Rattle.sender_core.proofs.rows.has_room.Goals as goal

pub returns : goal.returns
returns g c = c.is_some.ensures ∙ ap is_some c.accepting.ensures.first ∙ room-found c.args.capacity c.args.bin c.args.tag.now c.args.row.now 0
