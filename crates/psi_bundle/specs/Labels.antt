-- How a label of at most 40 bytes lies in 40 bytes: zeros behind it.
use Rattle.std.specs.Prelude.{◌≡◌, ℕ, ◌-◌, ◌≤◌, List, length, take, drop, ◌++◌, replicate}
use Rattle.std.proofs.Common.{ap, ◌∙◌, sym, arith, length-append}
use Rattle.std.proofs.lemmas.List.{length-take-le, length-replicate, take-append-drop, drop-replicate}
use Rattle.std.proofs.Math.Seq.{drop-append_seam}

-- n bytes of 40 are shown, and the others are zeros
pub record IsPadded (bytes : List ℕ) (n : ℕ) : Type 0 where
  pub whole : length bytes ≡ 40
  pub short : n ≤ 40
  pub zeros : drop n bytes ≡ replicate (40 - n) 0

-- the bytes, and zeros behind them up to 40
abbrev pub padded : List ℕ → List ℕ
padded shown = shown ++ replicate (40 - length shown) 0

-- the shown bytes are as many as they are said to be
pub length-shown : (bytes : List ℕ) (n : ℕ) → IsPadded bytes n → length (take n bytes) ≡ n
length-shown bytes n h = let short : n ≤ length bytes = omega (arith, h.whole, h.short) in length-take-le n bytes short

-- padding the shown bytes gives all of them back
pub padded-shown : (bytes : List ℕ) (n : ℕ) → IsPadded bytes n → padded (take n bytes) ≡ bytes
padded-shown bytes n h =
    ap (λ (k : ℕ). take n bytes ++ replicate (40 - k) 0) (length-shown bytes n h)
    ∙ ap (λ (rest : List ℕ). take n bytes ++ rest) (sym h.zeros) ∙ take-append-drop n bytes

-- n bytes written over the front of forty zeros are padded
pub padded_by : (front shown : List ℕ) (n : ℕ) → front ≡ shown → length shown ≡ n → n ≤ 40 → IsPadded (front ++ drop n (replicate 40 0)) n
padded_by front shown n e l short =
    let rest : drop n (replicate 40 0) ≡ replicate (40 - n) 0 = drop-replicate n 40 0 in
    let cut : length front ≡ n = ap length e ∙ l in
    let rest_len : length (drop n (replicate 40 0)) ≡ 40 - n = ap length rest ∙ length-replicate (40 - n) 0 in
    record {
      whole = length-append front (drop n (replicate 40 0)) ∙ omega (arith, cut, rest_len);
      short = short;
      zeros = ap (λ (k : ℕ). drop k (front ++ drop n (replicate 40 0))) (sym cut) ∙ drop-append_seam front (drop n (replicate 40 0)) ∙ rest;
    }
