use Rattle.std.proofs.Common.{List, ℕ, get_or, ap, ◌∙◌, arith}
use Rattle.std.proofs.lemmas.List.FromFn.{get_or-map-range_with_len}
use Rattle.psi_receiver.specs.Openings.{is_zero_in}
use Rattle.psi_receiver.proofs.plane.Plane.is_zero.Goals as goal

pub returns : goal.returns
returns c =
    c.index.ensures
    ∙ ap (λ bits. get_or bits c.args.bin c.index.result.now) c.self.invariant
    ∙ get_or-map-range_with_len (is_zero_in c.self.inside.slots) 0 819 c.args.bin c.args.bin c.index.result.now c.requires (omega arith)
    ∙ ap (λ (slots : List ℕ). is_zero_in slots c.args.bin) c.self.view_is
