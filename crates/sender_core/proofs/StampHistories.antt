-- What stamps tell of every history from a start without stamps.
use Rattle.std.proofs.Common.{◌≡◌, ◌⊎◌, ℕ, zero, suc, ◌+◌, ◌≤◌, List, [], ◌∷◌, ◌++◌, length, map, take, drop, max, Some, inl, inr, refl, sym, ap, ◌∙◌, subst, arith, append_assoc, length-append}
use Rattle.std.specs.Prelude.{slice_get}
use Rattle.std.specs.List.{fold}
use Rattle.std.proofs.lemmas.Bool.{cases_lt}
use Rattle.std.proofs.lemmas.List.{append-nil, take-append-le, take-append-drop, get_or_past}
use Rattle.std.proofs.lemmas.List.Sums.{fold-append}
use Rattle.std.proofs.lemmas.Option.{none-some, same_Some, slice_get_within, get_or_from_slice_get}
use Rattle.std.proofs.Math.Seq.{take-length}
use Rattle.psi_bundle.specs.declared.history.Entry.{Entry}
use Rattle.psi_bundle.specs.Versions.{Version, Row, Stamped, row_at, greatest_stamp}
use Rattle.psi_bundle.specs.Histories.{after, replay, version_at}
use Rattle.psi_bundle.proofs.Steps.{count-step}
use Rattle.sender_core.specs.Kept.{IsStart}
use Rattle.sender_core.specs.Stamps.{bundle_at, StampsTell, RowsStand, EqualStampsMeanEqualBundles}
use Rattle.sender_core.proofs.StampSteps.{Grows, IsNew, Changes, step-rows, step-length}

-- ---- beginnings of a history

pub version-more : (start : Version) (es rest : List Entry) (k : ℕ) → k ≤ length es → version_at start (es ++ rest) k ≡ version_at start es k
version-more start es rest k le = ap (replay start) (take-append-le k es rest le)

pub version-all : (start : Version) (es : List Entry) → version_at start es (length es) ≡ replay start es
version-all start es = ap (replay start) (take-length es)

replay-one : (start : Version) (es : List Entry) (e : Entry) → replay start (es ++ e ∷ []) ≡ after (replay start es) e
replay-one start es e = fold-append after start es (e ∷ [])

-- the version after so many entries
version-end : (start : Version) (es : List Entry) (k : ℕ) → k ≡ length es → version_at start es k ≡ replay start es
version-end start es k same = ap (version_at start es) same ∙ version-all start es

count-replay : (start : Version) (es : List Entry) (n : ℕ) → start.count ≡ n → (replay start es).count ≡ n + length es
count-replay start [] n h = omega (arith, h)
count-replay start (e ∷ es) n h = omega (arith, count-replay (after start e) es (n + 1) (omega (arith, count-step start e.call, h)))

pub length-replay : (start : Version) (es : List Entry) → length (replay start es).rows ≡ length start.rows
length-replay start [] = refl
length-replay start (e ∷ es) = length-replay (after start e) es ∙ step-length start e.call

-- ---- greatest stamps

max-start : (xs : List ℕ) (a : ℕ) → a ≤ fold max a xs
max-start [] a = omega arith
max-start (x ∷ xs) a = omega (arith, max-start xs (max a x))

max-each : (row : Row) (a u : ℕ) (b : Stamped) → slice_get row u ≡ Some b → b.stamp ≤ fold max a (map (λ k. k.stamp) row)
max-each [] a u b e = absurd (none-some b e)
max-each (k ∷ ks) a zero b e =
    let same : k.stamp ≡ b.stamp = ap (λ (x : Stamped). x.stamp) (same_Some k b e) in
    omega (arith, same, max-start (map (λ (x : Stamped). x.stamp) ks) (max a k.stamp))
max-each (k ∷ ks) a (suc u) b e = max-each ks (max a k.stamp) u b e

pub stamp-below : (row : Row) (u : ℕ) (b : Stamped) → slice_get row u ≡ Some b → b.stamp ≤ greatest_stamp row
stamp-below row u b e = max-each row 0 u b e

-- a row without new stamps that has each bundle of the old one
same-row : (old new : Row) → length old ≤ length new → ((u : ℕ) (b : Stamped) → slice_get new u ≡ Some b → slice_get old u ≡ Some b) → new ≡ old
same-row [] [] longer each = refl
same-row [] (y ∷ ys) longer each = absurd (none-some y (each 0 y refl))
same-row (x ∷ xs) [] longer each = absurd (omega arith)
same-row (x ∷ xs) (y ∷ ys) longer each =
    let first : x ≡ y = same_Some x y (each 0 y refl) in
    let rest : ys ≡ xs = same-row xs ys (omega arith) (λ u b e. each (suc u) b e) in
    λ i. sym first i ∷ rest i

-- ---- one entry more

module _ (start : Version) where
  -- what is told of one history
  abbrev Tells : List Entry → Type 0
  Tells es = (r u : ℕ) (b : Stamped) → bundle_at (replay start es).rows r u ≡ Some b → (b.stamp ≤ length es) × (bundle_at (version_at start es b.stamp).rows r u ≡ Some b)

  abbrev Stands : List Entry → Type 0
  Stands es =
      (r from : ℕ) → from ≤ length es → greatest_stamp (row_at (replay start es).rows r) ≤ from
      → (row_at (replay start es).rows r ≡ row_at (version_at start es from).rows r) ⊎ (row_at (replay start es).rows r ≡ [])

  -- a bundle with the newest stamp
  told-new : (es : List Entry) (r u : ℕ) (b : Stamped) → b.stamp ≡ length es → bundle_at (replay start es).rows r u ≡ Some b
      → (b.stamp ≤ length es) × (bundle_at (version_at start es b.stamp).rows r u ≡ Some b)
  told-new es r u b newest e = (omega (arith, newest), ap (λ (v : Version). bundle_at v.rows r u) (version-end start es b.stamp newest) ∙ e)

  module _ (es : List Entry) (e : Entry) (counted : (replay start es).count ≡ length es) where
    longer-one : length (es ++ e ∷ []) ≡ length es + 1
    longer-one = length-append es (e ∷ [])

    rows-one : (r : ℕ) → Changes (length es + 1) (row_at (replay start es).rows r) (row_at (replay start (es ++ e ∷ [])).rows r)
    rows-one r =
        subst (λ (v : Version). Changes (length es + 1) (row_at (replay start es).rows r) (row_at v.rows r)) (sym (replay-one start es e))
        (subst (λ (n : ℕ). Changes (n + 1) (row_at (replay start es).rows r) (row_at (after (replay start es) e).rows r)) counted (step-rows (replay start es) e.call r))

    tell-more : Tells es → Tells (es ++ e ∷ [])
    tell-more told r u b is =
        elim (rows-one r) [
          | inl grown ↦ elim (grown.each u b is) [
            | inl before ↦
                let old = told r u b before in
                (omega (arith, old.0, longer-one), ap (λ (v : Version). bundle_at v.rows r u) (version-more start es (e ∷ []) b.stamp old.0) ∙ old.1)
            | inr new ↦ told-new (es ++ e ∷ []) r u b (new ∙ sym longer-one) is
          ]
          | inr all_new ↦ told-new (es ++ e ∷ []) r u b (all_new u b is ∙ sym longer-one) is
        ]

    new-none : (from : ℕ) (row : Row) → from ≤ length es → greatest_stamp row ≤ from → IsNew (length es + 1) row → row ≡ []
    new-none from [] le below new = refl
    new-none from (b ∷ bs) le below new = absurd (omega (arith, le, below, stamp-below (b ∷ bs) 0 b refl, new 0 b refl))

    stand-more : Stands es → Stands (es ++ e ∷ [])
    stand-more stood r from le below =
        elim (cases_lt (length es) from) [
          | inl past ↦ inl (ap (λ (v : Version). row_at v.rows r) (sym (version-end start (es ++ e ∷ []) from (omega (arith, le, past, longer-one)))))
          | inr within ↦ elim (rows-one r) [
            | inl grown ↦
                let old = row_at (replay start es).rows r in
                let now = row_at (replay start (es ++ e ∷ [])).rows r in
                let same : now ≡ old = same-row old now grown.longer (λ u b is. as-before from now old within below grown u b is) in
                elim (stood r from within (subst (λ (row : Row). greatest_stamp row ≤ from) same below)) [
                  | inl stands ↦ inl (same ∙ stands ∙ ap (λ (v : Version). row_at v.rows r) (sym (version-more start es (e ∷ []) from within)))
                  | inr none ↦ inr (same ∙ none)
                ]
            | inr new ↦ inr (new-none from (row_at (replay start (es ++ e ∷ [])).rows r) within below new)
          ]
        ]
      where
        as-before : (from : ℕ) (now old : Row) → from ≤ length es → greatest_stamp now ≤ from → Grows (length es + 1) old now → (u : ℕ) (b : Stamped) → slice_get now u ≡ Some b → slice_get old u ≡ Some b
        as-before from now old within below grown u b is =
            elim (grown.each u b is) [
              | inl before ↦ before
              | inr new ↦ absurd (omega (arith, within, below, stamp-below now u b is, new))
            ]

  -- ---- every history

  module _ (begun : IsStart start) where
    counted : (es : List Entry) → (replay start es).count ≡ length es
    counted es = omega (arith, count-replay start es 0 begun.no_entries)

    first-stamp : (r u : ℕ) (b : Stamped) → bundle_at start.rows r u ≡ Some b → b.stamp ≡ 0
    first-stamp r u b is =
        elim (cases_lt r (length start.rows)) [
          | inl lt ↦
              let within = slice_get_within (row_at start.rows r) u b is in
              ap (λ (k : Stamped). k.stamp) (sym (get_or_from_slice_get (row_at start.rows r) u b b is)) ∙ begun.no_stamps r [] lt u b within
          | inr past ↦ absurd (none-some b (sym (ap (λ (row : Row). slice_get row u) (get_or_past start.rows r [] past)) ∙ is))
        ]

    tell-first : Tells []
    tell-first r u b is = told-new [] r u b (first-stamp r u b is) is

    stand-first : Stands []
    stand-first r from le below = inl (ap (λ (v : Version). row_at v.rows r) (sym (version-end start [] from (omega arith))))

    tell-rest : (done rest : List Entry) → Tells done → Stands done → Tells (done ++ rest) × Stands (done ++ rest)
    tell-rest done [] told stood = (subst Tells (sym (append-nil done)) told, subst Stands (sym (append-nil done)) stood)
    tell-rest done (e ∷ rest) told stood =
        let more = tell-rest (done ++ e ∷ []) rest (tell-more done e (counted done) told) (stand-more done e (counted done) stood) in
        let same : (done ++ e ∷ []) ++ rest ≡ done ++ e ∷ rest = append_assoc done (e ∷ []) rest in
        (subst Tells same more.0, subst Stands same more.1)

pub stamps-tell : StampsTell
stamps-tell start es begun = (tell-rest start begun [] es (tell-first start begun) (stand-first start begun)).0

pub rows-stand : RowsStand
rows-stand start es begun = (tell-rest start begun [] es (tell-first start begun) (stand-first start begun)).1

-- a bundle of any beginning stood there after as many entries as its stamp says
told-at : (start : Version) (es : List Entry) → IsStart start → (k r u : ℕ) (b : Stamped) → bundle_at (version_at start es k).rows r u ≡ Some b → bundle_at (version_at start es b.stamp).rows r u ≡ Some b
told-at start es begun k r u b is =
    let told = stamps-tell start (take k es) begun r u b is in
    ap (λ (v : Version). bundle_at v.rows r u) (sym (taken (told.0))) ∙ told.1
  where
    taken : b.stamp ≤ length (take k es) → version_at start (take k es) b.stamp ≡ version_at start es b.stamp
    taken le = sym (version-more start (take k es) (drop k es) b.stamp le) ∙ ap (λ (xs : List Entry). version_at start xs b.stamp) (take-append-drop k es)

pub equal-stamps : EqualStampsMeanEqualBundles
equal-stamps start es begun j k r u a b is_a is_b same =
    same_Some a b (sym (told-at start es begun j r u a is_a) ∙ ap (λ (s : ℕ). bundle_at (version_at start es s).rows r u) same ∙ told-at start es begun k r u b is_b)
