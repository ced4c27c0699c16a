-- The items of a text's first lines, and the set of them.
use Rattle.std.proofs.Common.{◌≡◌, ℕ, ◌+◌, ◌<◌, ◌≤◌, Bool, true, false, not, List, [], ◌∷◌, ◌++◌, length, refl, sym, ap, ◌∙◌, arith, length-append, inl, inr, Bor, append_assoc, Ordering, ◌||◌, ◌==◌, cond}
use Rattle.std.specs.Ordering.{nat_cmp}
use Rattle.std.specs.Cmp.Lexicographic.{slice_cmp}
use Rattle.std.specs.BTreeSet.{BTreeSet, contains, Updates}
use Rattle.std.specs.Str.{bytes_eq}
use Rattle.std.proofs.lemmas.Bool.{cases_Bool}
use Rattle.std.proofs.lemmas.Grind.{common_steps}
use Rattle.std.proofs.lemmas.List.{append-nil}
use Rattle.std.proofs.lemmas.List.Folds.{list_any-append}
use Rattle.std.proofs.lemmas.Slice.Eq.{bytes_eq-Decides}
use Rattle.std.proofs.lemmas.Map.Text.{is_eq-slice_cmp}
use Rattle.psi_cli.specs.ItemTexts.{item_lines, items_of, without_repeats}
use Rattle.psi_cli.proofs.ItemLines.{item_lines-none}
use Rattle.psi_cli.proofs.Repeats.{has, with_one, without_repeats-none, without_repeats-more}

-- how the set orders its keys
abbrev pub compared : Bor (List ℕ) → Bor (List ℕ) → Ordering
compared x y = slice_cmp nat_cmp x.now y.now

-- the items of the lines before `rest`, and the set of them
pub record AreSoFar (text rest : List ℕ) (items : List (List ℕ)) (seen : BTreeSet (Bor (List ℕ))) : Type 0 where
  pub done : List (List ℕ)
  pub lines : done ++ item_lines rest ≡ item_lines text
  pub items_are : items ≡ without_repeats done
  pub known : (q : Bor (List ℕ)) → contains compared seen q ≡ has items q.now
  pub few : length items + length rest ≤ length text

or-true : (b : Bool) → (b || (true || false)) ≡ true
or-true true = refl
or-true false = refl

or-false : (b : Bool) → (b || (false || false)) ≡ b
or-false true = refl
or-false false = refl

-- before the first line
pub so_far-none : (text : List ℕ) (seen : BTreeSet (Bor (List ℕ))) → ((q : Bor (List ℕ)) → contains compared seen q ≡ false) → AreSoFar text text [] seen
so_far-none text seen empty = record { done = []; lines = refl; items_are = sym without_repeats-none; known = empty; few = omega arith }

-- what the list has with one line more
has-with_one : (items : List (List ℕ)) (line q : List ℕ) → has (with_one items line (has items line)) q ≡ cond (bytes_eq line q) true (has items q)
has-with_one items line q = elim (cases_Bool (has items line)) [
  | inl there ↦ elim (cases_Bool (bytes_eq line q)) [
    | inl same ↦
        let q_is : line ≡ q = (bytes_eq-Decides line q).0 same in
        rw (there, same) (ap (has items) (sym q_is) ∙ there)
    | inr differs ↦ rw (there, differs) refl
  ]
  | inr missing ↦ elim (cases_Bool (bytes_eq line q)) [
    | inl same ↦ rw (missing, list_any-append, same) (or-true (has items q))
    | inr differs ↦ rw (missing, list_any-append, differs) (or-false (has items q))
  ]
]

-- one line more
pub so_far-more : (text rest behind line : List ℕ) (items next : List (List ℕ)) (seen now : BTreeSet (Bor (List ℕ))) (key : Bor (List ℕ))
    → AreSoFar text rest items seen → item_lines rest ≡ line ∷ item_lines behind → length behind < length rest → key.now ≡ line
    → next ≡ with_one items line (has items line) → length next ≤ length items + 1 → Updates compared seen now key true
    → AreSoFar text behind next now
so_far-more text rest behind line items next seen now key h first shorter key_is next_is one_more updates = record {
  done = h.done ++ line ∷ [];
  lines = append_assoc h.done (line ∷ []) (item_lines behind) ∙ ap (λ (ls : List (List ℕ)). h.done ++ ls) (sym first) ∙ h.lines;
  items_are = next_is ∙ ap (λ (xs : List (List ℕ)). with_one xs line (has xs line)) h.items_are ∙ sym (without_repeats-more h.done line);
  known = λ q.
      updates.0 q
      ∙ ap (λ (b : Bool). cond b true (contains compared seen q)) (is_eq-slice_cmp key.now q.now ∙ ap (λ (bs : List ℕ). bytes_eq bs q.now) key_is)
      ∙ ap (λ (b : Bool). cond (bytes_eq line q.now) true b) (h.known q)
      ∙ sym (ap (λ (xs : List (List ℕ)). has xs q.now) next_is ∙ has-with_one items line q.now);
  few = omega (arith, h.few, shorter, one_more);
}

-- behind the last line
pub so_far-all : (text rest : List ℕ) (items : List (List ℕ)) (seen : BTreeSet (Bor (List ℕ))) → AreSoFar text rest items seen → (length rest == 0) ≡ true
    → items ≡ items_of text
so_far-all text [] items seen h end = h.items_are ∙ ap without_repeats (sym (append-nil h.done) ∙ ap (λ (ls : List (List ℕ)). h.done ++ ls) (sym item_lines-none) ∙ h.lines)
so_far-all text (b ∷ rest) items seen h end = absurd (let long : length (b ∷ rest) ≡ 0 = grind (arith, common_steps) in omega (arith, long))

-- what is the other of two truth values
pub flipped : (a b : Bool) → not b ≡ a → b ≡ not a
flipped a true e = ap not e
flipped a false e = ap not e

-- a list with one element more
pub one_more : (items : List (List ℕ)) (line : List ℕ) (next : List (List ℕ)) → next ≡ items ++ line ∷ [] → length next ≤ length items + 1
one_more items line next e = omega (arith, ap length e, length-append items (line ∷ []))
