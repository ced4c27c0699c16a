-- The steps of the transforms: four numbers at a time, two stages at once.
use Rattle.std.specs.Prelude.{◌≡◌, ◌≢◌, ℕ, ◌+◌, ◌-◌, ◌*◌, ◌/◌, ◌%◌, ◌^◌, ◌<◌, List, map, slice_index}
use Rattle.std.specs.List.{All}
use Rattle.negacyclic.specs.declared.factors.Factor.{Factor}
use Rattle.negacyclic.specs.declared.factors.Weights.{Weights}

-- ---- factors

-- the quotient of the factor times 2^64, by which a product is divided without a division (Shoup)
pub record IsFactor (q number quotient : ℕ) : Type 0 where
  pub reduced : number < q
  pub scaled : quotient ≡ number * 2 ^ 64 / q

abbrev pub AreFactors : (q : ℕ) → List Factor → Type 0
AreFactors q factors = All (λ f. IsFactor q f.number f.quotient) factors

abbrev pub numbers_of : List Factor → List ℕ
numbers_of factors = map (λ f. f.number) factors

-- the places l to 2l - 1 have the odd powers of x^s
pub record HasPowers (q x l s : ℕ) (numbers : List ℕ) : Type 0 where
  pub each : (j : ℕ) → j < l → slice_index numbers (l + j) % q ≡ x ^ (s * (2 * j + 1)) % q

-- so at each power of two below 4096, with the powers that go with it
pub record IsTable (q x : ℕ) (numbers : List ℕ) : Type 0 where
  pub level : (k : ℕ) → k < 12 → HasPowers q x (2 ^ k) (2 ^ (11 - k)) numbers

-- ---- four numbers

-- forward: with a = x0 + w1·x2, b = x1 + w1·x3, c = x0 - w1·x2, d = x1 - w1·x3 the four are a + w2·b, c + w3·d, a - w2·b and c - w3·d, modulo q
pub record IsCrossed (q w1 w2 w3 x0 x1 x2 x3 y0 y1 y2 y3 : ℕ) : Type 0 where
  pub first : y0 % q ≡ (x0 + w1 * x2 + w2 * (x1 + w1 * x3)) % q
  pub second : (y1 + (w1 * x2 + w3 * (w1 * x3))) % q ≡ (x0 + w3 * x1) % q
  pub third : (y2 + w2 * (x1 + w1 * x3)) % q ≡ (x0 + w1 * x2) % q
  pub fourth : (y3 + (w1 * x2 + w3 * x1)) % q ≡ (x0 + w3 * (w1 * x3)) % q

-- backward: with a = y0 + y2, b = y1 + y3, c = w2·(y2 - y0), d = w3·(y3 - y1) the four are a + b, c + d, w1·(b - a) and w1·(d - c), modulo q
pub record IsUncrossed (q w1 w2 w3 y0 y1 y2 y3 x0 x1 x2 x3 : ℕ) : Type 0 where
  pub first : x0 % q ≡ (y0 + y2 + (y1 + y3)) % q
  pub second : (x1 + (w2 * y0 + w3 * y1)) % q ≡ (w2 * y2 + w3 * y3) % q
  pub third : (x2 + w1 * (y0 + y2)) % q ≡ (w1 * (y1 + y3)) % q
  pub fourth : (x3 + w1 * (w2 * y2 + w3 * y1)) % q ≡ (w1 * (w2 * y0 + w3 * y3)) % q

-- four numbers below a bound
pub record AreFourBelow (bound a b c d : ℕ) : Type 0 where
  pub first : a < bound
  pub second : b < bound
  pub third : c < bound
  pub fourth : d < bound

-- the same four numbers
pub record AreSame (a b c d e f g h : ℕ) : Type 0 where
  pub first : a ≡ e
  pub second : b ≡ f
  pub third : c ≡ g
  pub fourth : d ≡ h

-- ---- in lists

-- forward: from four places, h apart, to the four quarters
abbrev pub AreCrossed : (q w1 w2 w3 h at place : ℕ) → (from to : List ℕ) → Type 0
AreCrossed q w1 w2 w3 h at place from to =
    IsCrossed q w1 w2 w3
    (slice_index from at) (slice_index from (at + h)) (slice_index from (at + 2 * h)) (slice_index from (at + 3 * h))
    (slice_index to place) (slice_index to (place + 1024)) (slice_index to (place + 2048)) (slice_index to (place + 3072))

-- the four quarters at a place are below a bound
abbrev pub QuartersBelow : (bound place : ℕ) → List ℕ → Type 0
QuartersBelow bound place to = AreFourBelow bound (slice_index to place) (slice_index to (place + 1024)) (slice_index to (place + 2048)) (slice_index to (place + 3072))

-- the four quarters are as they were, but at one place
pub record QuartersKept (place : ℕ) (before after : List ℕ) : Type 0 where
  pub each : (i : ℕ) → i < 1024 → i ≢ place
      → AreSame
      (slice_index after i) (slice_index after (i + 1024)) (slice_index after (i + 2048)) (slice_index after (i + 3072))
      (slice_index before i) (slice_index before (i + 1024)) (slice_index before (i + 2048)) (slice_index before (i + 3072))

-- the first n places of a forward pass with l rows of h places: what is written is below the bound
pub record ArePlaced (q bound l h : ℕ) (numbers from to : List ℕ) (n : ℕ) : Type 0 where
  pub crossed : (j r : ℕ) → j < l → r < h → j * h + r < n
      → AreCrossed q (slice_index numbers (l + j)) (slice_index numbers (2 * l + j)) (slice_index numbers (3 * l + j)) h (4 * (j * h) + r) (j * h + r) from to
  pub below : (j r : ℕ) → j < l → r < h → j * h + r < n → QuartersBelow bound (j * h + r) to

-- backward: from the four quarters to four places, h apart
abbrev pub AreUncrossed : (q w1 w2 w3 h at place : ℕ) → (from to : List ℕ) → Type 0
AreUncrossed q w1 w2 w3 h at place from to =
    IsUncrossed q w1 w2 w3
    (slice_index from place) (slice_index from (place + 1024)) (slice_index from (place + 2048)) (slice_index from (place + 3072))
    (slice_index to at) (slice_index to (at + h)) (slice_index to (at + 2 * h)) (slice_index to (at + 3 * h))

-- the four places, h apart, are below a bound
abbrev pub StepsBelow : (bound h at : ℕ) → List ℕ → Type 0
StepsBelow bound h at to = AreFourBelow bound (slice_index to at) (slice_index to (at + h)) (slice_index to (at + 2 * h)) (slice_index to (at + 3 * h))

-- all places are as they were, but four, h apart
pub record StepsKept (h at : ℕ) (before after : List ℕ) : Type 0 where
  pub each : (i : ℕ) → i ≢ at → i ≢ at + h → i ≢ at + 2 * h → i ≢ at + 3 * h → slice_index after i ≡ slice_index before i

-- the first n places of a backward pass with l rows of h places: what is written is below the bound
pub record AreReplaced (q bound l h : ℕ) (numbers from to : List ℕ) (n : ℕ) : Type 0 where
  pub uncrossed : (j r : ℕ) → j < l → r < h → j * h + r < n
      → AreUncrossed q (slice_index numbers (2 * l - 1 - j)) (slice_index numbers (4 * l - 1 - j)) (slice_index numbers (3 * l - 1 - j)) h (4 * (j * h) + r) (j * h + r) from to
  pub below : (j r : ℕ) → j < l → r < h → j * h + r < n → StepsBelow bound h (4 * (j * h) + r) to

-- ---- the factors of two stages

-- the three are factors
abbrev pub AreWeights : (q : ℕ) → Weights → Type 0
AreWeights q w = IsFactor q w.first.number w.first.quotient × IsFactor q w.second.number w.second.quotient × IsFactor q w.third.number w.third.quotient
