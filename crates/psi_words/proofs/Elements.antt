-- Lists of a known length, by their elements.
use Rattle.std.proofs.Common.{◌≡◌, ◌≤◌, ◌<◌, List, [], ◌∷◌, length, get_or, refl, arith}

pub none_are : {A : Type 0} (xs : List A) → length xs ≡ 0 → xs ≡ []
none_are [] none = refl
none_are (x ∷ xs) none = absurd (omega arith)

pub two_are : {A : Type 0} (xs : List A) (a b : A) → 2 ≤ length xs → length xs < 3 → a ≡ get_or xs 0 a → b ≡ get_or xs 1 b → xs ≡ a ∷ b ∷ []
two_are [] a b more less ea eb = absurd (omega arith)
two_are (x ∷ []) a b more less ea eb = absurd (omega arith)
two_are (x ∷ y ∷ []) a b more less ea eb = rw (ea, eb) refl
two_are (x ∷ y ∷ z ∷ xs) a b more less ea eb = absurd (omega arith)

pub three_are : {A : Type 0} (xs : List A) (a b c : A) → 3 ≤ length xs → length xs < 4
    → a ≡ get_or xs 0 a → b ≡ get_or xs 1 b → c ≡ get_or xs 2 c → xs ≡ a ∷ b ∷ c ∷ []
three_are [] a b c more less ea eb ec = absurd (omega arith)
three_are (x ∷ []) a b c more less ea eb ec = absurd (omega arith)
three_are (x ∷ y ∷ xs) a b c more less ea eb ec =
    rw (ea, two_are (y ∷ xs) b c (omega arith) (omega arith) eb ec) refl

pub five_are : {A : Type 0} (xs : List A) (a b c d e : A) → 5 ≤ length xs → length xs < 6
    → a ≡ get_or xs 0 a → b ≡ get_or xs 1 b → c ≡ get_or xs 2 c → d ≡ get_or xs 3 d → e ≡ get_or xs 4 e
    → xs ≡ a ∷ b ∷ c ∷ d ∷ e ∷ []
five_are [] a b c d e more less ea eb ec ed ee = absurd (omega arith)
five_are (x ∷ []) a b c d e more less ea eb ec ed ee = absurd (omega arith)
five_are (x ∷ y ∷ xs) a b c d e more less ea eb ec ed ee =
    rw (ea, eb, three_are xs c d e (omega arith) (omega arith) ec ed ee) refl

pub six_are : {A : Type 0} (xs : List A) (a b c d e f : A) → 6 ≤ length xs → length xs < 7
    → a ≡ get_or xs 0 a → b ≡ get_or xs 1 b → c ≡ get_or xs 2 c → d ≡ get_or xs 3 d → e ≡ get_or xs 4 e → f ≡ get_or xs 5 f
    → xs ≡ a ∷ b ∷ c ∷ d ∷ e ∷ f ∷ []
six_are [] a b c d e f more less ea eb ec ed ee ef = absurd (omega arith)
six_are (x ∷ xs) a b c d e f more less ea eb ec ed ee ef =
    rw (ea, five_are xs b c d e f (omega arith) (omega arith) eb ec ed ee ef) refl
