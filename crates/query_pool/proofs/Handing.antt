-- Dealing and merging, one request or reply at a time.
use Rattle.std.specs.Prelude.{◌≡◌, ℕ, ◌+◌, ◌<◌, nat_eq, true, cond, List, [], ◌∷◌, ◌++◌, length, map, replicate, count_by}
use Rattle.std.proofs.Common.{refl, sym, ap, ◌∙◌, subst, arith, append_assoc, append-nil, length-append}
use mathlib.Core.List.{reverse}
use Rattle.std.proofs.lemmas.Bool.Decides.{nat_tests}
use Rattle.std.proofs.lemmas.List.{length-reverse, map-append, nil_from_length, reverse-append}
use Rattle.std.proofs.lemmas.List.Sums.{sum_by-append}
use Rattle.psi_frames.specs.declared.reply.Reply.{Reply}
use Rattle.psi_frames.specs.declared.request.Request.{Request}
use Rattle.query_pool.specs.Joined.{lane_of, lane_requests, list_at, picked}
use Rattle.query_pool.proofs.Shares.{lane-more, length-picked, none-at, picked-front}

-- Of all requests these are left to be dealt; the others are in the lanes, and their lanes in the order.
pub record IsDealt (workers : ℕ) (all left : List Request) (lanes : List (List Request)) (order : List ℕ) (index : ℕ) : Type 0 where
  pub done : List Request
  pub split : all ≡ done ++ left
  pub index_is : index ≡ length done
  pub order_is : order ≡ map (lane_of workers) done
  pub lanes_are : (l : ℕ) → list_at lanes l ≡ lane_requests workers done l

pub dealt-none : (workers n : ℕ) (all : List Request) (lanes : List (List Request)) (order : List ℕ) → lanes ≡ replicate n [] → order ≡ [] → IsDealt workers all all lanes order 0
dealt-none workers n all lanes order none start = record {
  done = [];
  split = refl;
  index_is = refl;
  order_is = start;
  lanes_are = λ l. ap (λ (xss : List (List Request)). list_at xss l) none ∙ none-at n l;
}

pub dealt-more : (workers : ℕ) (all left : List Request) (r : Request) (lanes next : List (List Request)) (order after : List ℕ) (index : ℕ) → IsDealt workers all (r ∷ left) lanes order index
    → ((l : ℕ) → list_at next l ≡ list_at lanes l ++ picked l (lane_of workers r ∷ []) (r ∷ [])) → after ≡ order ++ lane_of workers r ∷ [] → IsDealt workers all left next after (index + 1)
dealt-more workers all left r lanes next order after index h more order_more =
    let size = length-append h.done (r ∷ []) in
    record {
      done = h.done ++ r ∷ [];
      split = h.split ∙ sym (append_assoc h.done (r ∷ []) left);
      index_is = omega (arith, size, h.index_is);
      order_is = order_more ∙ ap (λ (ks : List ℕ). ks ++ lane_of workers r ∷ []) h.order_is ∙ sym (map-append (lane_of workers) h.done (r ∷ []));
      lanes_are = λ l. more l ∙ ap (λ (rs : List Request). rs ++ picked l (lane_of workers r ∷ []) (r ∷ [])) (h.lanes_are l) ∙ sym (lane-more workers l h.done r);
    }

-- an index of a request that is left fits
pub dealt-few : (workers : ℕ) (all left : List Request) (lanes : List (List Request)) (order : List ℕ) (index : ℕ) → IsDealt workers all left lanes order index → index + length left ≡ length all
dealt-few workers all left lanes order index h = let size = ap length h.split ∙ length-append h.done left in omega (arith, size, h.index_is)

-- all are dealt
pub dealt-order : (workers : ℕ) (all left : List Request) (lanes : List (List Request)) (order : List ℕ) (index : ℕ) → IsDealt workers all left lanes order index → left ≡ [] → order ≡ map (lane_of workers) all
dealt-order workers all left lanes order index h none =
    let all_is : all ≡ h.done = h.split ∙ ap (λ (rs : List Request). h.done ++ rs) none ∙ append-nil h.done in h.order_is ∙ ap (map (lane_of workers)) (sym all_is)

pub dealt-lanes : (workers : ℕ) (all left : List Request) (lanes : List (List Request)) (order : List ℕ) (index : ℕ) → IsDealt workers all left lanes order index → left ≡ []
    → (l : ℕ) → list_at lanes l ≡ lane_requests workers all l
dealt-lanes workers all left lanes order index h none l =
    let all_is : all ≡ h.done = h.split ∙ ap (λ (rs : List Request). h.done ++ rs) none ∙ append-nil h.done in h.lanes_are l ∙ ap (λ (rs : List Request). lane_requests workers rs l) (sym all_is)

-- Of the order these are left; the replies of the others were taken from behind, and stand the other way round.
pub record IsMerged (order : List ℕ) (given : List (List Reply)) (left : List ℕ) (now : List (List Reply)) (merged : List Reply) : Type 0 where
  pub behind : List ℕ
  pub split : order ≡ left ++ behind
  pub number : length merged ≡ length behind
  pub lists : (l : ℕ) → list_at given l ≡ list_at now l ++ picked l behind (reverse merged)

pub merged-none : (order : List ℕ) (given : List (List Reply)) (merged : List Reply) → merged ≡ [] → IsMerged order given order given merged
merged-none order given merged none = subst (IsMerged order given order given) (sym none) (record {
  behind = [];
  split = sym (append-nil order);
  number = refl;
  lists = λ l. sym (append-nil (list_at given l));
})

pub merged-more : (order : List ℕ) (given : List (List Reply)) (left ks : List ℕ) (k : ℕ) (now next : List (List Reply)) (merged : List Reply) (y : Reply) → left ≡ ks ++ k ∷ []
    → IsMerged order given left now merged → ((l : ℕ) → list_at now l ≡ list_at next l ++ picked l (k ∷ []) (y ∷ [])) → IsMerged order given ks next (merged ++ y ∷ [])
merged-more order given left ks k now next merged y last h taken =
    let size = length-append merged (y ∷ []) in
    let back : reverse (merged ++ y ∷ []) ≡ y ∷ reverse merged = reverse-append merged (y ∷ []) in
    record {
      behind = k ∷ h.behind;
      split = h.split ∙ ap (λ (l : List ℕ). l ++ h.behind) last ∙ append_assoc ks (k ∷ []) h.behind;
      number = omega (arith, size, h.number);
      lists = λ l.
          h.lists l ∙ ap (λ (ys : List Reply). ys ++ picked l h.behind (reverse merged)) (taken l)
          ∙ append_assoc (list_at next l) (picked l (k ∷ []) (y ∷ [])) (picked l h.behind (reverse merged))
          ∙ ap (λ (ys : List Reply). list_at next l ++ ys) (picked-front l k h.behind y (reverse merged) ∙ ap (λ (zs : List Reply). picked l (k ∷ h.behind) zs) (sym back));
    }

-- how many replies of a lane are left
left-count : (order : List ℕ) (given : List (List Reply)) (left : List ℕ) (now : List (List Reply)) (merged : List Reply) → IsMerged order given left now merged
    → (l : ℕ) → length (list_at given l) ≡ count_by (λ k. nat_eq k l) order → length (list_at now l) ≡ count_by (λ k. nat_eq k l) left
left-count order given left now merged h l count =
    let all = ap length (h.lists l) ∙ length-append (list_at now l) (picked l h.behind (reverse merged)) in
    let back = length-picked l h.behind (reverse merged) (length-reverse merged ∙ h.number) in
    let whole = ap (count_by (λ k. nat_eq k l)) h.split ∙ sum_by-append (λ (n : ℕ). cond (nat_eq n l) 1 0) left h.behind in
    omega (arith, all, back, whole, count)

-- so there is one for the last of the order
pub merged-some : (order : List ℕ) (given : List (List Reply)) (left ks : List ℕ) (k : ℕ) (now : List (List Reply)) (merged : List Reply) → left ≡ ks ++ k ∷ [] → IsMerged order given left now merged
    → ((l : ℕ) → length (list_at given l) ≡ count_by (λ n. nat_eq n l) order) → 0 < length (list_at now k)
merged-some order given left ks k now merged last h counts =
    let size = left-count order given left now merged h k (counts k) in
    let all = ap (count_by (λ n. nat_eq n k)) last ∙ sum_by-append (λ (n : ℕ). cond (nat_eq n k) 1 0) ks (k ∷ []) in
    let same : nat_eq k k ≡ true = grind (arith, nat_tests) in
    let one : count_by (λ n. nat_eq n k) (k ∷ []) ≡ 1 = rw same refl in
    omega (arith, size, all, one)

-- all are merged
pub merged-all : (order : List ℕ) (given : List (List Reply)) (left : List ℕ) (now : List (List Reply)) (merged : List Reply) → left ≡ [] → IsMerged order given left now merged
    → ((l : ℕ) → length (list_at given l) ≡ count_by (λ n. nat_eq n l) order) → (l : ℕ) → list_at given l ≡ picked l order (reverse merged)
merged-all order given left now merged none h counts l =
    let size = left-count order given left now merged h l (counts l) ∙ ap (count_by (λ n. nat_eq n l)) none in
    let empty : list_at now l ≡ [] = nil_from_length (list_at now l) size in
    let all : h.behind ≡ order = sym (h.split ∙ ap (λ (ks : List ℕ). ks ++ h.behind) none) in
    h.lists l ∙ ap (λ (ys : List Reply). ys ++ picked l h.behind (reverse merged)) empty ∙ ap (λ (ks : List ℕ). picked l ks (reverse merged)) all

pub merged-number : (order : List ℕ) (given : List (List Reply)) (left : List ℕ) (now : List (List Reply)) (merged : List Reply) → left ≡ [] → IsMerged order given left now merged → length (reverse merged) ≡ length order
merged-number order given left now merged none h =
    let all : h.behind ≡ order = sym (h.split ∙ ap (λ (ks : List ℕ). ks ++ h.behind) none) in length-reverse merged ∙ h.number ∙ ap length all
