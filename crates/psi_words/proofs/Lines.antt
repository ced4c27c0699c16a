-- A command line, and its parts: the words before the command word, that word, and the words behind it.
use Rattle.std.proofs.Common.{◌≡◌, ℕ, zero, suc, ◌+◌, ◌-◌, Bool, true, false, ◌==◌, inl, inr, List, [], ◌∷◌, ◌++◌, codes, length, map, take, drop, Option, None, Some, refl, sym, ap, subst, ◌∙◌, length-append, length-drop, add-one, arith}
use Rattle.std.specs.List.{find, slice_get}
use Rattle.std.specs.Str.{bytes_eq}
use Rattle.std.proofs.lemmas.Bool.{cases_Bool}
use Rattle.std.proofs.lemmas.Bool.Decides.{nat_tests}
use Rattle.std.proofs.lemmas.List.{drop-map, take_all}
use Rattle.psi_words.specs.Forms.{Form}
use Rattle.psi_words.specs.Forms.Form.{Known}
use Rattle.psi_words.specs.Grammar.{Lead, Words, CommandRow, drop_word, first_wrong, forms_of, is_counted, is_named, judged, judged_row, lead_forms, lead_of, rows}
use Rattle.psi_words.specs.Leads.{judged_behind, judged_found, judged_named, wrong_or}

-- the word behind n words
get-drop : (n : ℕ) (line behind : Words) (word : List ℕ) → drop n line ≡ word ∷ behind → slice_get line n ≡ Some word
get-drop zero line behind word e = rw e refl
get-drop (suc n) [] behind word e = cc e
get-drop (suc n) (w ∷ line) behind word e = get-drop n line behind word e

-- and what stands behind that one
drop-more : (n : ℕ) (line behind : Words) (word : List ℕ) → drop n line ≡ word ∷ behind → drop (suc n) line ≡ behind
drop-more zero line behind word e = rw e refl
drop-more (suc n) [] behind word e = cc e
drop-more (suc n) (w ∷ line) behind word e = drop-more n line behind word e

-- how many words there are
length-parts : (n : ℕ) (line behind : Words) (word : List ℕ) → drop n line ≡ word ∷ behind → length line ≡ n + suc (length behind)
length-parts n line behind word e =
    let parts : length (drop n line) ≡ suc (length behind) = rw e refl in
    omega (arith, parts, length-drop n line)

-- DROP is the second word
drop_word-is : (first second word : List ℕ) (line : Words) → drop_word (first ∷ second ∷ line) ≡ Some word → second ≡ word
drop_word-is first second word line e =
    elim (cases_Bool (bytes_eq first (codes "form2"))) [
      | inl is ↦ let some : Some second ≡ Some word = rw is at e in cc some
      | inr is ↦ cc (rw is at e)
    ]

-- the first word that is not of its form is DROP, or else among those behind the command word
first_wrong-parts : (word_of_drop : Option (List ℕ)) (counted : Bool) (forms : List Form) (line behind : Words) (word : List ℕ)
    → drop_word line ≡ word_of_drop
    → drop (length (lead_forms (record { drop = word_of_drop; counted = counted }))) line ≡ word ∷ behind
    → first_wrong 0 (lead_forms (record { drop = word_of_drop; counted = counted }) ++ Known ∷ forms) line
    ≡ wrong_or word_of_drop (first_wrong (length (lead_forms (record { drop = word_of_drop; counted = counted })) + 1) forms behind)
first_wrong-parts None false forms line behind word d e = rw e refl
first_wrong-parts None true forms [] behind word d e = cc e
first_wrong-parts None true forms (a ∷ line) behind word d e = rw e refl
first_wrong-parts (Some w) counted forms [] behind word d e = cc d
first_wrong-parts (Some w) counted forms (a ∷ []) behind word d e = cc e
first_wrong-parts (Some w) false forms (a ∷ b ∷ line) behind word d e = rw (drop_word-is a b w line d, e) refl
first_wrong-parts (Some w) true forms (a ∷ b ∷ []) behind word d e = cc e
first_wrong-parts (Some w) true forms (a ∷ b ∷ c ∷ line) behind word d e = rw (drop_word-is a b w line d, e) refl

-- sums of one number with two others are equal exactly where those are
eqb-parts : (n a b : ℕ) → (n + suc a == n + suc b) ≡ (a == b)
eqb-parts n a b = grind (arith, nat_tests)

-- what a command gives
judged_row-parts : (row : CommandRow) (line behind : Words) (word : List ℕ) → drop (length (lead_forms (lead_of line))) line ≡ word ∷ behind
    → judged_row (Some row) line ≡ judged_behind row (lead_of line) behind
judged_row-parts row line behind word e =
    let n = length (lead_forms (lead_of line)) in
    let words = length-parts n line behind word e in
    let forms : length (forms_of (lead_of line) row) ≡ n + suc (length row.forms) = length-append (lead_forms (lead_of line)) (Known ∷ row.forms) in
    let wrong = first_wrong-parts (drop_word line) (is_counted line) row.forms line behind word refl e in
    let rest : drop (n + 1) line ≡ behind = ap (λ k. drop k line) (add-one n) ∙ drop-more n line behind word e in
    rw (words, forms, eqb-parts n (length behind) (length row.forms), wrong, rest) refl

-- the command of a line, by its parts
judged-parts : (line behind : Words) (word : List ℕ) → drop (length (lead_forms (lead_of line))) line ≡ word ∷ behind
    → judged line ≡ judged_named (lead_of line) word behind
judged-parts line behind word e =
    rw (get-drop (length (lead_forms (lead_of line))) line behind word e) (found (find (is_named (lead_of line) word) rows)) where
      found : (row : Option CommandRow) → judged_row row line ≡ judged_found row (lead_of line) behind
      found None = refl
      found (Some row) = judged_row-parts row line behind word e

pub judged-lead : (lead : Lead) (line behind : Words) (word : List ℕ) → lead ≡ lead_of line → drop (length (lead_forms lead)) line ≡ word ∷ behind
    → judged line ≡ judged_named lead word behind
judged-lead lead line behind word is e =
    let P : Lead → Type 0 = λ l. drop (length (lead_forms l)) line ≡ word ∷ behind in
    judged-parts line behind word (subst P is e) ∙ ap (λ l. judged_named l word behind) (sym is)

-- the parts of a line, from the parts of the list of its texts
pub parts-texts : {A : Type 0} (text : A → List ℕ) (words behind : List A) (word : A) (n : ℕ)
    → take (length words - n) (drop n words) ≡ word ∷ behind → drop n (map text words) ≡ text word ∷ map text behind
parts-texts text words behind word n e =
    let whole = take_all (length words - n) (drop n words) (omega (arith, length-drop n words)) in
    drop-map text n words ∙ ap (map text) (sym whole ∙ e)
