use Rattle.std.proofs.Common.{◌≡◌, ◌≤◌, ◌+◌, ℕ, List, ◌++◌, length, take, sym, ap, ◌∙◌, arith, length-append}
use Rattle.psi_frames.proofs.Heads.{head-joined}
use Rattle.psi_frames.proofs.begun.Begun.front.Goals as goal

pub returns : goal.returns
returns c =
    let h = c.self.inside.head in
    let body = c.self.inside.body.items in
    let piece = c.args.piece.now in
    let few : length h ≤ 11 = omega (arith, ap length c.with-head.ensures, length-append h (take c.room.result piece), c.items.ensures.few) in
    let joined : take 11 ((h ++ body) ++ piece) ≡ c.items.result.now =
    head-joined h body piece few c.self.invariant.filled ∙ ap (λ (n : ℕ). h ++ take n piece) (sym c.room.ensures.value) ∙ sym c.with-head.ensures ∙ sym c.items.ensures.value in
    let same : (h ++ body) ++ piece ≡ c.args.self.now ++ piece = ap (λ (t : List ℕ). t ++ piece) c.self.view_is in
    c.front_of.ensures (c.args.self.now ++ piece) (ap (take 11) (sym same) ∙ joined)
    (length-append c.args.self.now piece ∙ ap (λ (n : ℕ). n + length piece) (sym c.len.ensures))
