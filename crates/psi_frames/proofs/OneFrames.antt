-- An input has one list of whole frames, and one fault behind them or none.
use Rattle.std.proofs.Common.{◌≡◌, ℕ, List, [], length, Option, None, Some, refl, sym, ap, ◌∙◌, arith}
use Rattle.psi_frames.specs.Cuts.{BeginsWhole}
use Rattle.psi_frames.specs.Frames.{Fault, FramesAreOne, Table, front_fault}
use Rattle.psi_frames.proofs.Readings.{one-cut}

-- no whole frame begins what stands behind the whole frames
pub stuck : (table : Table) (rest : List ℕ) (fault : Option Fault) → front_fault table rest ≡ fault → (fault ≡ None → rest ≡ []) → BeginsWhole table rest → ⊥
stuck table rest None first none begins = let some = begins.some in omega (arith, some, ap length (none refl))
stuck table rest (Some fault) first none begins = absurd (let faultless = begins.faultless in cc)

pub one_list : FramesAreOne
one_list table bytes fs gs f h x y =
    let one = one-cut table fs gs x.rest y.rest x.each y.each (stuck table x.rest f x.first x.ended) (stuck table y.rest h y.first y.ended) (sym x.whole ∙ y.whole) in
    (one.0, sym x.first ∙ ap (front_fault table) one.1 ∙ y.first)
