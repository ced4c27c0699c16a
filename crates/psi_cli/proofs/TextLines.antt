-- Texts of lines, one line more.
use Rattle.std.proofs.Common.{◌≡◌, ℕ, ◌<◌, ◌+◌, List, [], ◌∷◌, ◌++◌, codes, length, take, get_or, refl, sym, ap, ◌∙◌, append_assoc, append-nil}
use Rattle.std.specs.Fmt.{decimal}
use Rattle.std.specs.List.{flat_map}
use Rattle.std.proofs.lemmas.Grind.{flat_map-append}
use Rattle.std.proofs.lemmas.List.{take_more}
use Rattle.psi_receiver.specs.declared.found.Found.{Found}
use Rattle.psi_cli.specs.Texts.{crowded_line, crowded_text, found_line, found_text, newline, shown_bytes, shown_item}

-- a text of one line more
lines_more : {A : Type 0} (line : A → List ℕ) (before now : List ℕ) (xs : List A) (x : A) → before ≡ flat_map line xs → now ≡ before ++ line x → now ≡ flat_map line (xs ++ x ∷ [])
lines_more {A} line before now xs x is more =
    more
    ∙ ap (λ (t : List ℕ). t ++ line x) is
    ∙ ap (λ (t : List ℕ). flat_map line xs ++ t) (sym (append-nil (line x)))
    ∙ sym (flat_map-append line xs (x ∷ []))

-- three parts behind a text
three : (before a b c : List ℕ) → before ++ a ++ b ++ c ≡ before ++ (a ++ b ++ c)
three before a b c = simp append_assoc refl

four : (before a b c d : List ℕ) → before ++ a ++ b ++ c ++ d ≡ before ++ (a ++ b ++ c ++ d)
four before a b c d = simp append_assoc refl

pub crowded-more : (items : List (List ℕ)) (before now shown : List ℕ) (xs : List ℕ) (x : ℕ) → before ≡ crowded_text items xs → shown ≡ shown_item items x → now ≡ before ++ codes "crowded " ++ shown ++ newline
    → now ≡ crowded_text items (xs ++ x ∷ [])
unfolding crowded_line
crowded-more items before now shown xs x is item more =
    let shown_so : now ≡ before ++ codes "crowded " ++ shown_item items x ++ newline = more ∙ ap (λ (t : List ℕ). before ++ codes "crowded " ++ t ++ newline) item in
    lines_more (crowded_line items) before now xs x is (shown_so ∙ three before (codes "crowded ") (shown_item items x) newline)

-- one element more
pub one_more-taken : {A : Type 0} (xs : List A) (i : ℕ) (d : A) → i < length xs → take i xs ++ get_or xs i d ∷ [] ≡ take (i + 1) xs
one_more-taken xs i d lt = sym (take_more xs i d lt)

pub found-more : (items : List (List ℕ)) (before now item label : List ℕ) (xs : List Found) (x : Found) → before ≡ found_text items xs → item ≡ shown_item items x.item → label ≡ shown_bytes x.label
    → now ≡ before ++ item ++ 32 ∷ decimal x.bundle ++ 32 ∷ label ++ newline → now ≡ found_text items (xs ++ x ∷ [])
unfolding found_line
found-more items before now item label xs x is item_is label_is more =
    let shown_so : now ≡ before ++ shown_item items x.item ++ 32 ∷ decimal x.bundle ++ 32 ∷ shown_bytes x.label ++ newline = more ∙ (λ i. before ++ item_is i ++ 32 ∷ decimal x.bundle ++ 32 ∷ label_is i ++ newline) in
    lines_more (found_line items) before now xs x is (shown_so ∙ four before (shown_item items x.item) (32 ∷ decimal x.bundle) (32 ∷ shown_bytes x.label) newline)
