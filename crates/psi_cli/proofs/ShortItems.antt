-- Items that are not too long, and those that are.
use Rattle.std.proofs.Common.{◌≡◌, ℕ, ◌≤◌, Bool, true, false, nat_le, List, length, map, sym, ap, ◌∙◌, arith}
use Rattle.std.specs.List.{All, list_all}
use Rattle.std.proofs.lemmas.Bool.Decides.{nat_tests}
use Rattle.std.proofs.lemmas.List.Folds.{list_all-map}
use Rattle.std.proofs.lemmas.List.Sums.{AllPass-from_list_all, list_all-from_AllPass}
use Rattle.psi_cli.specs.ItemTexts.{IsItemText, items_of, most_item, most_item_text}

-- an item that is not too long
abbrev pub IsShort : List ℕ → Type 0
IsShort item = length item ≤ most_item

abbrev pub is_short : List ℕ → Bool
is_short item = nat_le (length item) most_item

-- the test tells it
all_short : (items : List (List ℕ)) → list_all is_short items ≡ true → All IsShort items
all_short items test = λ k d lt. let h = AllPass-from_list_all is_short items test k d lt in grind (arith, nat_tests)

pub item_text : (text : List ℕ) → length text ≤ most_item_text → list_all is_short (items_of text) ≡ true → IsItemText text
item_text text few test = record { few_bytes = few; short = all_short (items_of text) test }

some_long : (items : List (List ℕ)) → list_all is_short items ≡ false → All IsShort items → ⊥
some_long items test each =
    let all : list_all is_short items ≡ true = list_all-from_AllPass is_short items (λ k d lt. let h = each k d lt in grind (arith, nat_tests)) in
    cc

pub no_item_text : (text : List ℕ) → list_all is_short (items_of text) ≡ false → IsItemText text → ⊥
no_item_text text test is = some_long (items_of text) test is.short

-- the test of the items as the program has them
pub tested : {A : Type 0} (shown : A → List ℕ) (xs : List A) (text : List ℕ) (b : Bool) → b ≡ list_all (λ x. nat_le (length (shown x)) most_item) xs → map shown xs ≡ items_of text → list_all is_short (items_of text) ≡ b
tested shown xs text b is items = ap (list_all is_short) (sym items) ∙ list_all-map is_short shown xs ∙ sym is
