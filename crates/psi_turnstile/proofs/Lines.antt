-- Beginnings of lists.
use Rattle.std.proofs.Common.{◌≡◌, ℕ, ◌+◌, ◌<◌, ◌≤◌, cond, ltb, Bool, true, false, List, [], ◌∷◌, ◌++◌, length, sym, refl, ap, ◌∙◌, subst, arith, length-append, append_assoc, ltb-true, ltb-false, Option, Some, ◌⊎◌, inl, inr}
use Rattle.psi_turnstile.specs.Counting.{IsPrefix, ArePrefixes}
use Rattle.psi_turnstile.specs.declared.view.View.{View}
use Rattle.psi_turnstile.specs.declared.view.Stage.TheVariants.{Away, Waits, Ahead, Inside}
use Rattle.psi_turnstile.specs.Knowing.{at, saw, longer, joined, Follows, Added}
use Rattle.psi_turnstile.specs.Telling.{Sat}

module _ {A : Type 0} where
  pub begins_self : (xs : List A) → IsPrefix xs xs
  begins_self xs = ([], search (Rattle.std.proofs.Common.rules))

  pub begins_more : (xs log news : List A) → IsPrefix xs log → IsPrefix xs (log ++ news)
  begins_more xs log news p = (p.0 ++ news, ap (λ (l : List A). l ++ news) p.1 ∙ append_assoc xs p.0 news)

  pub begin_more : (xss : List (List A)) (log news : List A) → ArePrefixes xss log → ArePrefixes xss (log ++ news)
  begin_more [] log news p = tt
  begin_more (xs ∷ xss) log news p = (begins_more xs log news p.0, begin_more xss log news p.1)

  pub begin_both : (xss yss : List (List A)) (log : List A) → ArePrefixes xss log → ArePrefixes yss log → ArePrefixes (xss ++ yss) log
  begin_both [] yss log p q = q
  begin_both (xs ∷ xss) yss log p q = (p.0, begin_both xss yss log p.1 q)

  pub begins_short : (xs log : List A) → IsPrefix xs log → length xs ≤ length log
  begins_short xs log p = let a = ap length p.1 in let b = length-append xs p.0 in omega (arith, a ∙ b)

  pub begins_all : (xs log : List A) → IsPrefix xs log → length log ≤ length xs → xs ≡ log
  begins_all xs log p h = go p.0 p.1
    where
      go : (rest : List A) → log ≡ xs ++ rest → xs ≡ log
      go [] e = search Rattle.std.proofs.Common.rules
      go (r ∷ rest) e = let a = ap length e in let b = length-append xs (r ∷ rest) in absurd (omega (arith, a ∙ b))

  pub longer_begins : (xs ys log : List A) → IsPrefix xs log → IsPrefix ys log → IsPrefix (longer xs ys) log
  longer_begins xs ys log p q = elim (ltb (length xs) (length ys)) as (λ b. IsPrefix (cond b ys xs) log) [ true ↦ q | false ↦ p ]

  pub longer_long : (xs ys : List A) → (length xs ≤ length (longer xs ys)) × (length ys ≤ length (longer xs ys))
  longer_long xs ys = go (ltb (length xs) (length ys)) refl
    where
      go : (b : Bool) → ltb (length xs) (length ys) ≡ b → (length xs ≤ length (cond b ys xs)) × (length ys ≤ length (cond b ys xs))
      go true e = let l = ltb-true (length xs) (length ys) e in (omega arith, omega arith)
      go false e = let l = ltb-false (length xs) (length ys) e in (omega arith, omega arith)

  begin_left : (xss yss : List (List A)) (log : List A) → ArePrefixes (xss ++ yss) log → ArePrefixes xss log
  begin_left [] yss log p = tt
  begin_left (xs ∷ xss) yss log p = (p.0, begin_left xss yss log p.1)

  begin_right : (xss yss : List (List A)) (log : List A) → ArePrefixes (xss ++ yss) log → ArePrefixes yss log
  begin_right [] yss log p = p
  begin_right (xs ∷ xss) yss log p = begin_right xss yss log p.1

  -- what follows two joined seats follows each
  pub follows_first : {Z : Type 0} (log : List A) (v w : View A Z) → Follows log (joined v w) → Follows log v
  follows_first log v w f = let t = f.taken in record { seen = t.0; taken = begin_left v.taken w.taken log t.1.1 }

  pub follows_second : {Z : Type 0} (log : List A) (v w : View A Z) → Follows log (joined v w) → Follows log w
  follows_second log v w f = let t = f.taken in record { seen = t.1.0; taken = begin_right v.taken w.taken log t.1.1 }

-- What the steps of a turn tell of its seat, which begins as k
module _ {B E Z : Type 0} (v k : View E Z) (m m' : Sat B E Z) (t t' : ℕ) (same : v ≡ k) (drawn : m ≡ (at (Waits t) v, [])) (ahead : m' ≡ (at (Ahead t') m.0, [])) where
  at_turn : m'.0 ≡ at (Ahead t') v
  at_turn = ap (λ (x : Sat B E Z). x.0) ahead ∙ ap (λ (x : Sat B E Z). at (Ahead t') x.0) drawn

  pub turn_base : (z : Z) → m'.0.base ≡ Some z → k.base ≡ Some z
  turn_base z e = ap (λ (x : View E Z). x.base) (sym same) ∙ (ap (λ (x : View E Z). x.base) (sym at_turn) ∙ e)

  pub turn_follows : (met : List E) → Follows met m'.0 → Follows met k
  turn_follows met f = let h = subst (Follows met) at_turn f in let g : Follows met v = record { seen = h.seen; taken = h.taken } in subst (Follows met) same g

  pub turn_added : (met : List E) (inside counted away : Sat B E Z) (u : ℕ) (hand : List (ℕ × Option B)) → inside ≡ (at (Inside u) (saw met m'.0), hand) → Added inside.0.seen inside.0.own counted.0
      → away ≡ (at Away counted.0, []) → Added met k.own away.0
  turn_added met inside counted away u hand went a left =
      let seen : inside.0.seen ≡ met = ap (λ (x : Sat B E Z). x.0.seen) went in
      let own : inside.0.own ≡ k.own = ap (λ (x : Sat B E Z). x.0.own) went ∙ (ap (λ (x : View E Z). x.own) at_turn ∙ ap (λ (x : View E Z). x.own) same) in
      let here : Added met k.own counted.0 = subst (λ (x : List E × List ℕ). Added x.0 x.1 counted.0) (λ i. (seen i, own i)) a in
      let there : Added met k.own (at Away counted.0) = here in
      subst (Added met k.own) (ap (λ (x : Sat B E Z). x.0) (sym left)) there

module _ {E Z : Type 0} where
  pub follows_added : (met : List E) (own : List ℕ) (w k : View E Z) → Added met own w → Follows met k → Follows w.seen k
  follows_added met own w k (inl p) f = subst (λ (l : List E). Follows l k) (sym p.0) f
  follows_added met own w k (inr p) f = let g : Follows (met ++ p.0 ∷ []) k = record { seen = begins_more k.seen met (p.0 ∷ []) f.seen; taken = begin_more k.taken met (p.0 ∷ []) f.taken } in
      subst (λ (l : List E). Follows l k) (sym p.1) g
