-- Frames fall into one list of rounds.
use Rattle.std.proofs.Common.{◌≡◌, ℕ, suc, ◌+◌, ◌<◌, true, false, List, [], ◌∷◌, ◌++◌, length, take, drop, refl, sym, ap, subst, ◌∙◌, arith, inl, inr, length-append}
use Rattle.std.specs.Prelude.{IsTrue}
use Rattle.std.specs.List.{flat_map}
use Rattle.std.proofs.Math.Seq.{drop-append_seam, take-append_seam}
use Rattle.std.proofs.lemmas.Bool.{cases_lt}
use Rattle.std.proofs.lemmas.List.{take-append-le}
use Rattle.std.proofs.lemmas.List.Elements.{All-head, All-same, All-tail}
use Rattle.psi_frames.specs.declared.frame.Frame.{Frame}
use Rattle.psi_frames.specs.Rounds.{AreRounds, IsRound, RoundsAreOne, is_full}

-- the frames of some rounds
abbrev all_of : List (List Frame) → List Frame
all_of rounds = flat_map (λ round. round) rounds

-- the rounds behind the first one
tail-rounds : (round : List Frame) (rounds : List (List Frame)) (frames : List Frame) → AreRounds (round ∷ rounds) frames → AreRounds rounds (all_of rounds)
tail-rounds round rounds frames are = record {
  all = refl;
  each = All-tail IsRound round rounds are.each;
  full = λ k lt.
      let step : k + 1 + 1 ≡ suc (k + 1) = omega arith in
      let all = All-same (λ r. IsTrue (is_full r)) (round ∷ take (k + 1) rounds) (take (k + 1 + 1) (round ∷ rounds)) (sym (ap (λ (n : ℕ). take n (round ∷ rounds)) step)) (are.full (k + 1) (omega (arith, lt))) in
      All-tail (λ r. IsTrue (is_full r)) round (take (k + 1) rounds) all;
}

-- a round that others follow is full
first-full : (a b : List Frame) (rounds : List (List Frame)) (frames : List Frame) → AreRounds (a ∷ b ∷ rounds) frames → is_full a ≡ true
first-full a b rounds frames are =
    let all = All-same (λ r. IsTrue (is_full r)) (a ∷ []) (take (0 + 1) (a ∷ b ∷ rounds)) refl (are.full 0 (omega arith)) in
    All-head (λ r. IsTrue (is_full r)) a [] all

-- a shorter front of a round is not
front-open : (a b x y : List Frame) → a ++ x ≡ b ++ y → IsRound b → length a < length b → is_full a ≡ false
front-open a b x y same round lt =
    let front : a ≡ take (length a) b =
    sym (take-append_seam a x) ∙ ap (take (length a)) same ∙ take-append-le (length a) b y (omega (arith, lt)) in
    ap is_full front ∙ round.first_full (length a) lt

-- so no first round is shorter than another one
not-shorter : (a : List Frame) (cs : List (List Frame)) (frames b y : List Frame) → AreRounds (a ∷ cs) frames → a ++ all_of cs ≡ b ++ y → IsRound b → length a < length b → ⊥
not-shorter a [] frames b y are same round lt = omega (arith, lt, ap length same, length-append a [], length-append b y)
not-shorter a (c ∷ ds) frames b y are same round lt =
    let full = first-full a c ds frames are in
    let open_still = front-open a b (c ++ all_of ds) y same round lt in
    absurd (cc)

pub one_list : RoundsAreOne
one_list frames [] [] x y = refl
one_list frames [] (b ∷ bs) x y =
    let some = (All-head IsRound b bs y.each).some in
    absurd (omega (arith, some, ap length (sym x.all ∙ y.all), length-append b (all_of bs)))
one_list frames (a ∷ cs) [] x y =
    let some = (All-head IsRound a cs x.each).some in
    absurd (omega (arith, some, ap length (sym x.all ∙ y.all), length-append a (all_of cs)))
one_list frames (a ∷ cs) (b ∷ bs) x y = elim (cases_lt (length a) (length b)) [
  | inl shorter ↦ absurd (not-shorter a cs frames b (all_of bs) x (sym x.all ∙ y.all) (All-head IsRound b bs y.each) shorter)
  | inr from ↦ elim (cases_lt (length b) (length a)) [
    | inl longer ↦ absurd (not-shorter b bs frames a (all_of cs) y (sym y.all ∙ x.all) (All-head IsRound a cs x.each) longer)
    | inr other ↦
        let size : length a ≡ length b = omega (arith, from, other) in
        let all : a ++ all_of cs ≡ b ++ all_of bs = sym x.all ∙ y.all in
        let first : a ≡ b = sym (take-append_seam a (all_of cs)) ∙ (λ i. take (size i) (all i)) ∙ take-append_seam b (all_of bs) in
        let rest : all_of cs ≡ all_of bs = sym (drop-append_seam a (all_of cs)) ∙ (λ i. drop (size i) (all i)) ∙ drop-append_seam b (all_of bs) in
        let more = one_list (all_of cs) cs bs (tail-rounds a cs frames x) (subst (AreRounds bs) (sym rest) (tail-rounds b bs frames y)) in
        λ i. first i ∷ more i
  ]
]
