use Rattle.psi_frames.specs.Parts.{AreParts}
use Rattle.std.proofs.Common.{ℕ, List, subst, sym, ◌++◌}
use Rattle.psi_frames.proofs.Heads.{parts-extended}
use Rattle.psi_frames.proofs.begun.Begun.extend.Goals as goal

pub invariant_of-self-2 : goal.invariant_of-self-2
invariant_of-self-2 c =
    let h = c.self.inside.head in
    let body = c.self.inside.body.items in
    let first = c.split_at.result.0.now in
    let more = c.split_at.result.1.now in
    let now = parts-extended h body c.args.piece.now first more c.room.result c.room.ensures.value c.split_at.ensures.front c.split_at.ensures.back c.self.invariant (λ i. (c.type_inv.piece i).fits) in
    subst (λ (g : List ℕ). AreParts g c.extend_from_slice.new.self.items) (sym c.with-self-inside.ensures)
    (subst (λ (b : List ℕ). AreParts (h ++ first) b) (sym c.in_ok-extend_from_slice.ensures.items) now)
