use Rattle.std.proofs.Common.{ℕ, ◌<◌, ◌≤◌, List, Option, length, get_or, arith, subst, sym, ◌∙◌}
use Rattle.std.specs.List.{Contains}
use Rattle.std.proofs.lemmas.List.{get_or_default}
use Rattle.cuckoo_place.specs.Searches.{Holds}
use Rattle.cuckoo_place.proofs.first.place_of.Goals as goal

-- the item's position is not past the end
found : (list : List ℕ) (holders : List (Option ℕ)) (item n : ℕ) → ((k : ℕ) → k < n → ¬ Holds holders item (get_or list k 0)) → length list ≤ n → (p : ℕ) × (Contains list p × Holds holders item p) → ⊥
found list holders item n none end held =
    let at = held.1.0 in
    none at.0 (omega (arith, at.1)) (subst (λ q. Holds holders item q) (sym at.2 ∙ get_or_default list at.0 held.0 0 at.1) held.1.1)

pub returns-clause-own : goal.returns-clause-own
returns-clause-own c = absurd (found c.args.list.now c.args.holders.now c.args.item c.loop-place.place-index c.loop-place.invariant c.loop-place-test.false c.requires.held)

pub returns-clause-held : goal.returns-clause-held
returns-clause-held c = absurd (found c.args.list.now c.args.holders.now c.args.item c.loop-place.place-index c.loop-place.invariant c.loop-place-test.false c.requires.held)
