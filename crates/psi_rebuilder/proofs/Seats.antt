-- Seats that take turns and make no entry.
use Rattle.std.proofs.Common.{◌≡◌, ◌≤◌, inl, inr, List, [], ◌∷◌, ◌++◌, length, sym, ap, ◌∙◌, subst, arith, append_assoc, length-append}
use Rattle.std.proofs.lemmas.List.{append-nil}
use Rattle.std.proofs.lemmas.Option.{same_Some}
use Rattle.psi_turnstile.specs.Counting.{IsPrefix, ArePrefixes}
use Rattle.live_sender.specs.declared.origin.Origin.{Origin}
use Rattle.live_sender.specs.Histories.{IsHistory}
use Rattle.live_sender.proofs.Prefixes.{prefix-self, prefix-then}
use Rattle.live_sender.specs.Turns.{GoesOn, IsSeated, Known, Went}
use Rattle.psi_rebuilder.specs.Building.{HasTurned}

module _ {A : Type 0} where
  prefixes-then : (xss : List (List A)) (ys zs : List A) → ArePrefixes xss ys → IsPrefix ys zs → ArePrefixes xss zs
  prefixes-then [] ys zs p q = tt
  prefixes-then (xs ∷ xss) ys zs p q = (prefix-then xs ys zs p.0 q, prefixes-then xss ys zs p.1 q)

-- some turns, and some more
went-then : (z : Origin) (v u w : Known) → Went z v u → Went z u w → Went z v w
went-then z v u w a b = record {
  follows = record { seen = prefix-then v.seen u.seen w.seen a.follows.seen b.follows.seen; taken = prefixes-then v.taken u.seen w.seen a.follows.taken b.follows.seen };
  keeps = record { base = b.keeps.base ∙ a.keeps.base; opening = b.keeps.opening ∙ a.keeps.opening; share = b.keeps.share ∙ a.keeps.share; taken = b.keeps.taken };
  places = b.places;
  history = b.history;
}

pub turned-then : (v u w : Known) → HasTurned v u → HasTurned u w → HasTurned v w
turned-then v u w (inl same) b = subst (λ (x : Known). HasTurned x w) same b
turned-then v u w (inr a) (inl same) = subst (λ (x : Known). HasTurned v x) (sym same) (inr a)
turned-then v u w (inr a) (inr b) =
    let same : b.0 ≡ a.0 = same_Some b.0 a.0 (sym b.1 ∙ a.2.keeps.base ∙ a.1) in
    inr (a.0, a.1, went-then a.0 v u w a.2 (subst (λ (o : Origin). Went o u w) same b.2))

pub turned-follows : (v w : Known) → HasTurned v w → IsPrefix v.seen w.seen
turned-follows v w (inl same) = subst (λ (x : Known). IsPrefix v.seen x.seen) (sym same) (prefix-self v.seen)
turned-follows v w (inr a) = a.2.follows.seen

pub turned-base : (v w : Known) → HasTurned v w → w.base ≡ v.base
turned-base v w (inl same) = ap (λ (x : Known). x.base) same
turned-base v w (inr a) = a.2.keeps.base

pub goes-on : (z : Origin) (v w : Known) → IsSeated z v → HasTurned v w → GoesOn z v w
goes-on z v w s (inl same) = record {
  follows = subst (λ (x : Known). IsPrefix v.seen x.seen) (sym same) (prefix-self v.seen);
  keeps = record {
    base = ap (λ (x : Known). x.base) same;
    opening = ap (λ (x : Known). x.opening) same;
    share = ap (λ (x : Known). x.share) same;
    taken = ap (λ (x : Known). x.taken) same ∙ s.taken;
  };
  history = subst (λ (x : Known). IsHistory z x.seen) (sym same) s.history;
}
goes-on z v w s (inr a) =
    let same : a.0 ≡ z = same_Some a.0 z (sym a.1 ∙ s.base) in
    record { follows = a.2.follows.seen; keeps = a.2.keeps; history = subst (λ (o : Origin). IsHistory o w.seen) same a.2.history }
