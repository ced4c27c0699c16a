use Rattle.std.proofs.Common.{◌∙◌, sym, ap, arith}
use Rattle.psi_frames.specs.Rounds.{is_full}
use Rattle.psi_frames.proofs.Counting.{full-sized}
use Rattle.psi_frames.proofs.open_round.OpenRound.is_full.Goals as goal

pub returns : goal.returns
returns c =
    let frames = c.self.inside.frames in
    c.is_full_size.ensures
    ∙ sym (full-sized c.self.inside.has_go c.len.result c.self.inside.bytes frames.items (omega (arith, c.len.ensures, frames.ok.0)) c.self.invariant)
    ∙ ap is_full c.self.view_is
