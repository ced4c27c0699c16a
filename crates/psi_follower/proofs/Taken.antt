-- One entry more of what a follower takes.
use Rattle.std.specs.Prelude.{◌≡◌, ◌⊎◌, ℕ, zero, suc, ◌+◌, ◌-◌, ◌<◌, ◌≤◌, List, [], ◌∷◌, ◌++◌, length, take, drop, slice_index_or, slice_get, Some}
use Rattle.std.proofs.Common.{refl, sym, ap, ◌∙◌, subst, arith, length-append, inl, inr}
use Rattle.std.proofs.Math.Seq.{take-append_seam, drop-append_seam, take-append-add, drop-append-add}
use Rattle.std.proofs.lemmas.List.{take_all, take_more, take-append-le, drop-append-le, drop_all, length-drop, get_or-drop, length-take-le}
use Rattle.psi_bundle.specs.declared.history.Entry.{Entry}
use Rattle.psi_bundle.specs.Versions.{Version}
use Rattle.psi_bundle.specs.Steps.{step}
use Rattle.psi_bundle.specs.Histories.{replay, IsLegal}
use Rattle.sender_core.proofs.Consistency.{legal-append}
use Rattle.psi_follower.specs.Taking.{HasTaken, IsRefused, IsTakenTo}
use Rattle.psi_follower.specs.Inner.Entering.{StandsAt, IsNext}

nil-right : {A : Type 0} (xs : List A) → xs ++ [] ≡ xs
nil-right [] = refl
nil-right (x ∷ xs) = ap (λ ys. x ∷ ys) (nil-right xs)

assoc : {A : Type 0} (xs ys zs : List A) → (xs ++ ys) ++ zs ≡ xs ++ (ys ++ zs)
assoc [] ys zs = refl
assoc (x ∷ xs) ys zs = ap (λ ws. x ∷ ws) (assoc xs ys zs)

module _ (start : Version) (old : List Entry) (first : ℕ) where
  -- nothing is taken yet
  pub taken-none : first ≤ length old → IsLegal start old → HasTaken start old first [] old
  taken-none reaches legal = let none : List Entry = [] in record {
    reaches = reaches;
    again = take_all (length old - first) none (omega arith);
    gained = sym (ap (λ (es : List Entry). old ++ es) (drop_all (length old - first) none (omega arith)) ∙ nil-right old);
    legal = legal;
  }

  module _ (es now : List Entry) (taken : HasTaken start old first es now) where
    length-now : length now ≡ length old + (length es - (length old - first))
    length-now = ap length taken.gained ∙ length-append old (drop (length old - first) es) ∙ ap (λ (n : ℕ). length old + n) (length-drop (length old - first) es)

    -- the place of the next one is kept, or is the next place of all
    pub taken-reaches : first + length es ≤ length now
    taken-reaches = omega (arith, length-now, taken.reaches)

    module _ (e : Entry) where
      -- the entry stands at its place already
      pub taken-again : {new : List Entry} → StandsAt now (first + length es) e new → HasTaken start old first (es ++ e ∷ []) new
      taken-again {new = new} stands = record {
        reaches = taken.reaches;
        again = again;
        gained = stands.2 ∙ taken.gained ∙ ap (λ (xs : List Entry). old ++ xs) (none ∙ sym (drop_all (length old - first) (es ++ e ∷ []) (omega (arith, within, length-append es (e ∷ [])))));
        legal = subst (IsLegal start) (sym stands.2) taken.legal;
      }
        where
          within : first + length es < length old
          within = omega (arith, stands.0, length-now, taken.reaches)

          none : drop (length old - first) es ≡ []
          none = drop_all (length old - first) es (omega (arith, within))

          here : now ≡ old
          here = taken.gained ∙ ap (λ (xs : List Entry). old ++ xs) none ∙ nil-right old

          kept : slice_index_or (drop first old) (length es) e ≡ e
          kept = get_or-drop first old (length es) e ∙ ap (λ (xs : List Entry). slice_index_or xs (first + length es) e) (sym here) ∙ stands.1

          more : take (length es + 1) (drop first old) ≡ take (length es) (drop first old) ++ e ∷ []
          more = take_more (drop first old) (length es) e (omega (arith, within, length-drop first old)) ∙ ap (λ (x : Entry). take (length es) (drop first old) ++ x ∷ []) kept

          again : take (length old - first) (es ++ e ∷ []) ≡ take (length (es ++ e ∷ [])) (drop first old)
          again =
              take_all (length old - first) (es ++ e ∷ []) (omega (arith, within, length-append es (e ∷ [])))
              ∙ ap (λ (xs : List Entry). xs ++ e ∷ []) (sym (take_all (length old - first) es (omega (arith, within))) ∙ taken.again)
              ∙ sym more
              ∙ ap (λ (n : ℕ). take n (drop first old)) (sym (length-append es (e ∷ [])))

      -- the entry is the next one
      pub taken-next : {new : List Entry} → IsNext start now (first + length es) e new → HasTaken start old first (es ++ e ∷ []) new
      taken-next {new = new} next = record {
        reaches = taken.reaches;
        again =
            take-append-le (length old - first) es (e ∷ []) (omega (arith, beyond)) ∙ taken.again
            ∙ take_all (length es) (drop first old) (omega (arith, beyond, length-drop first old))
            ∙ sym (take_all (length (es ++ e ∷ [])) (drop first old) (omega (arith, beyond, length-drop first old, length-append es (e ∷ []))));
        gained =
            next.2 ∙ ap (λ (xs : List Entry). xs ++ e ∷ []) taken.gained ∙ assoc old (drop (length old - first) es) (e ∷ [])
            ∙ ap (λ (xs : List Entry). old ++ xs) (sym (drop-append-le (length old - first) es (e ∷ []) (omega (arith, beyond))));
        legal = subst (IsLegal start) (sym next.2) (legal-append start now e taken.legal next.1);
      }
        where
          beyond : length old ≤ first + length es
          beyond = omega (arith, next.0, length-now)

      -- either of the two
      pub taken-more : {new : List Entry} → StandsAt now (first + length es) e new ⊎ IsNext start now (first + length es) e new → HasTaken start old first (es ++ e ∷ []) new
      taken-more {new = new} either =
          elim either [
            | inl stands ↦ taken-again stands
            | inr next ↦ taken-next next
          ]

-- a loop over entries: one more of them
pub taken-at : (start : Version) (old : List Entry) (first : ℕ) (entries now new : List Entry) (i place : ℕ) (e : Entry) → i < length entries → e ≡ slice_index_or entries i e → place ≡ first + i
    → HasTaken start old first (take i entries) now → StandsAt now place e new ⊎ IsNext start now place e new → HasTaken start old first (take (i + 1) entries) new
taken-at start old first entries now new i place e lt is at taken either =
    let n : length (take i entries) ≡ i = length-take-le i entries (omega (arith, lt)) in
    let here : place ≡ first + length (take i entries) = at ∙ ap (λ (k : ℕ). first + k) (sym n) in
    subst (λ (es : List Entry). HasTaken start old first es new) (ap (λ (x : Entry). take i entries ++ x ∷ []) is ∙ sym (take_more entries i e lt))
    (taken-more start old first (take i entries) now taken e (subst (λ (k : ℕ). StandsAt now k e new ⊎ IsNext start now k e new) here either))

-- the place of the next one
pub taken-reached : (start : Version) (old : List Entry) (first : ℕ) (entries now : List Entry) (i place : ℕ) → i ≤ length entries → place ≡ first + i → HasTaken start old first (take i entries) now → place ≤ length now
taken-reached start old first entries now i place le at taken =
    omega (arith, taken-reaches start old first (take i entries) now taken, length-take-le i entries le, at)

-- the entry that is refused
pub taken-to : (start : Version) (old : List Entry) (first : ℕ) (entries now new : List Entry) (i place at : ℕ) (e : Entry) → slice_get entries i ≡ Some e → place ≡ first + i → HasTaken start old first (take i entries) now
    → (at ≡ place) × IsRefused start now place e × (new ≡ now) → IsTakenTo start old first entries at new
taken-to start old first entries now new i place at e here is taken refused = record {
  number = i;
  refused = e;
  at = here;
  taken = subst (HasTaken start old first (take i entries)) (sym refused.2) taken;
  differs = subst (λ (k : ℕ). IsRefused start new k e) (sym refused.0) (subst (λ (es : List Entry). IsRefused start es place e) (sym refused.2) refused.1);
  stands = refused.0 ∙ is;
}
