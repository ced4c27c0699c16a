-- Segments of a legal history, fed to one who has a front of it.
use Rattle.std.specs.Prelude.{◌≡◌, ◌≢◌, ◌⊎◌, ℕ, zero, suc, min, ◌+◌, ◌-◌, ◌<◌, ◌≤◌, List, [], ◌∷◌, ◌++◌, length, take, drop, slice_index_or, slice_get, Some}
use Rattle.std.proofs.Common.{refl, sym, ap, ◌∙◌, subst, arith, length-append, inl, inr}
use Rattle.std.proofs.Math.Seq.{take-append_seam, drop-append_seam, take-length}
use Rattle.std.proofs.Math.ListN.{get_or-append}
use Rattle.std.proofs.lemmas.List.{drop-append-le, drop_all, drop-take, length-drop, take-append-drop, get_or-drop, get_or-take, length-take, take_min}
use Rattle.std.proofs.lemmas.Option.{get_or_from_slice_get, slice_get-get_or, slice_get_read}
use Rattle.std.proofs.lemmas.Bool.{cases_lt}
use Rattle.psi_bundle.specs.declared.history.Entry.{Entry}
use Rattle.psi_bundle.specs.Versions.{Version}
use Rattle.psi_bundle.specs.Steps.{step}
use Rattle.psi_bundle.specs.Histories.{replay, version_at, IsLegal}
use Rattle.psi_frames.proofs.NeverMoved.{legal-at}
use Rattle.psi_follower.specs.Taking.{HasTaken, IsRefused, IsTakenTo}

-- what is kept is a front of the history
pub record IsFront (history have : List Entry) : Type 0 where
  pub rest : List Entry
  pub whole : history ≡ have ++ rest

-- these entries stand in the history from that place on
pub record IsSegment (history : List Entry) (first : ℕ) (entries : List Entry) : Type 0 where
  pub number : ℕ
  pub stands : entries ≡ take number (drop first history)

take_twice : {A : Type 0} (k n : ℕ) (xs : List A) → (j : ℕ) × (take k (take n xs) ≡ take j xs)
take_twice zero n xs = (0, refl)
take_twice (suc k) zero xs = (0, refl)
take_twice (suc k) (suc n) [] = (0, refl)
take_twice (suc k) (suc n) (x ∷ xs) = let h = take_twice k n xs in (suc h.0, ap (λ ys. x ∷ ys) h.1)

-- the first of them too
pub segment-front : (history : List Entry) (first k : ℕ) (entries : List Entry) → IsSegment history first entries → IsSegment history first (take k entries)
segment-front history first k entries s = record {
  number = (take_twice k s.number (drop first history)).0;
  stands = ap (take k) s.stands ∙ (take_twice k s.number (drop first history)).1;
}

pub segment-all : (history : List Entry) (first n : ℕ) (entries : List Entry) → entries ≡ take n (drop first history) → IsSegment history first entries
segment-all history first n entries is = record { number = n; stands = is }

-- nothing is a front
pub front-none : (history : List Entry) → IsFront history []
front-none history = record { rest = history; whole = refl }

pub front-length : (history have : List Entry) → IsFront history have → length have ≤ length history
front-length history have f = omega (arith, ap length f.whole, length-append have f.rest)

pub front-take : (history have : List Entry) → IsFront history have → have ≡ take (length have) history
front-take history have f = sym (ap (take (length have)) f.whole ∙ take-append_seam have f.rest)

assoc : {A : Type 0} (xs ys zs : List A) → (xs ++ ys) ++ zs ≡ xs ++ (ys ++ zs)
assoc [] ys zs = refl
assoc (x ∷ xs) ys zs = ap (λ ws. x ∷ ws) (assoc xs ys zs)

module _ (history : List Entry) (start : Version) (old : List Entry) (first : ℕ) (f : IsFront history old) where
  -- what a segment has behind the front
  behind : (entries : List Entry) → first ≤ length old → IsSegment history first entries → (j : ℕ) × (drop (length old - first) entries ≡ take j f.rest)
  behind entries reaches s = by_order (cases_lt s.number (length old - first))
    where
      here : drop first history ≡ drop first old ++ f.rest
      here = ap (drop first) f.whole ∙ drop-append-le first old f.rest reaches

      n : length (drop first old) ≡ length old - first
      n = length-drop first old

      by_order : (s.number < length old - first) ⊎ (length old - first ≤ s.number) → (j : ℕ) × (drop (length old - first) entries ≡ take j f.rest)
      by_order (inl few) =
          (0, drop_all (length old - first) entries (omega (arith, few, ap length s.stands, length-take s.number (drop first history))))
      by_order (inr many) =
          let whole : s.number ≡ (length old - first) + (s.number - (length old - first)) = omega (arith, many) in (
            s.number - (length old - first),
            ap (drop (length old - first)) (s.stands ∙ (λ i. take (whole i) (here i)))
                ∙ drop-take (length old - first) (s.number - (length old - first)) (drop first old ++ f.rest)
                ∙ ap (take (s.number - (length old - first))) (ap (λ (k : ℕ). drop k (drop first old ++ f.rest)) (sym n) ∙ drop-append_seam (drop first old) f.rest),
          )

  -- what is kept behind a segment is a front again, and no shorter
  pub front-taken : (entries new : List Entry) → IsSegment history first entries → HasTaken start old first entries new → IsFront history new × (length old ≤ length new)
  front-taken entries new s taken =
      let more = behind entries taken.reaches s in (
        record {
          rest = drop more.0 f.rest;
          whole =
              f.whole ∙ ap (λ (es : List Entry). old ++ es) (sym (take-append-drop more.0 f.rest)) ∙ sym (assoc old (take more.0 f.rest) (drop more.0 f.rest))
              ∙ ap (λ (es : List Entry). es ++ drop more.0 f.rest) (sym (taken.gained ∙ ap (λ (es : List Entry). old ++ es) more.1));
        },
        omega (arith, ap length taken.gained, length-append old (drop (length old - first) entries)),
      )

  -- no entry of a segment is refused
  pub none-refused : (entries new : List Entry) (place : ℕ) → IsLegal start history → IsSegment history first entries → IsTakenTo start old first entries place new → ⊥
  none-refused entries new place legal s h = absurd_by h.differs
    where
      e : Entry
      e = h.refused

      front : IsFront history new
      front = (front-taken (take h.number entries) new (segment-front history first h.number entries s) h.taken).0

      within : h.number < length entries
      within = slice_get-within entries h.number e h.at where
        slice_get-within : (xs : List Entry) (i : ℕ) (x : Entry) → slice_get xs i ≡ Some x → i < length xs
        slice_get-within [] i x here = absurd cc
        slice_get-within (y ∷ ys) zero x here = omega arith
        slice_get-within (y ∷ ys) (suc i) x here = omega (arith, slice_get-within ys i x here)

      few : (h.number < s.number) × (place < length history)
      few =
          let n = ap length s.stands ∙ length-take s.number (drop first history) in
          (omega (arith, within, n), omega (arith, within, n, length-drop first history, h.stands))

      at : (d : Entry) → slice_index_or history place d ≡ e
      at d =
          ap (λ (k : ℕ). slice_index_or history k d) h.stands ∙ sym (get_or-drop first history h.number d) ∙ sym (get_or-take s.number (drop first history) h.number d few.0)
          ∙ ap (λ (es : List Entry). slice_index_or es h.number d) (sym s.stands) ∙ get_or_from_slice_get entries h.number e d h.at

      absurd_by : IsRefused start new place e → ⊥
      absurd_by (inl other) =
          other.1 (sym (get_or-append new front.rest e place other.0) ∙ ap (λ (es : List Entry). slice_index_or es place e) (sym front.whole) ∙ at e)
      absurd_by (inr next) =
          next.1 (legal-at start history place e legal (slice_get_read history (length history) place e refl few.1 (sym (at e)))
          ∙ ap (λ (es : List Entry). (step (replay start es) e.call).answer) (ap (λ (k : ℕ). take k history) next.0 ∙ sym (front-take history new front)))
