-- A plane's coefficients side by side, written slot by slot.
use Rattle.std.proofs.Common.{◌≡◌, ℕ, zero, suc, Bool, true, false, ◌+◌, ◌*◌, ◌/◌, ◌%◌, ◌<◌, ◌≤◌, List, ◌++◌, length, get_or, set, take, drop, replicate, if◌then◌else◌, refl, ap, ◌∙◌, sym, subst, inl, inr, arith}
use Rattle.std.specs.Prelude.{nat_lt}
use Rattle.std.proofs.lemmas.Bool.{cases_eq, cases_lt, lt-ltb, le-ltb}
use Rattle.std.proofs.lemmas.List.{get_or_past, get_or-drop, get_or-take, length-drop, length-take-le, get_or-set_same, get_or-set_other, length-replicate, length-set}
use Rattle.std.proofs.lemmas.Grind.{get_or-set_at}
use Rattle.std.proofs.Math.Seq.{take-append_seam}
use Rattle.psi_residue.specs.Numbers.{degree_inverse, root_inverse}
use Rattle.psi_residue.specs.Parameters.{Parameters}
use Rattle.psi_residue.specs.Slots.{packed, packed_at, packed_list}
use Rattle.psi_residue.proofs.Sums.{table-same}
use Rattle.negacyclic.proofs.TransformLaws.{coefficient-same, zeros-any}
use Rattle.psi_bundle.specs.declared.member.Member.{Member}
use Rattle.psi_bundle.specs.Bins.{bin_at}
use Rattle.psi_bundle.specs.Planes.{one_coefficient, packed_plane, part_coefficient, slot_coefficient}
use Rattle.psi_bundle.proofs.Planes.{slot_coefficient-below}
use Rattle.bundle_cache.specs.Caches.{transforms_of}
use Rattle.bundle_cache.specs.Columns.{AreCells, AreColumns, AreFilled, IsWritten, coefficient_at, column, row_of_column}

-- ---- one slot

pub written_none : (slot : ℕ) (cs old : List ℕ) → IsWritten slot cs 0 old old
written_none slot cs old = record { size = refl; here = λ k lt. absurd (omega arith); above = λ k le. refl; others = λ s k lt ne. refl }

pub written_more : (slot : ℕ) (cs old new : List ℕ) (k x : ℕ) → slot < 4096 → 4096 * (k + 1) ≤ length new → x ≡ get_or cs k 0
    → IsWritten slot cs k old new → IsWritten slot cs (k + 1) old (set new (4096 * k + slot) x)
written_more slot cs old new k x in_range room is h = record {
  size = length-set new (4096 * k + slot) x ∙ h.size;
  here = λ i lt.
      elim (cases_eq i k) [
        | inl same ↦ get_or-set_at new (4096 * k + slot) (4096 * i + slot) x 0 (omega (arith, same)) (omega (arith, same, room, in_range)) ∙ is ∙ ap (λ (j : ℕ). get_or cs j 0) (sym same)
        | inr other ↦ get_or-set_other new (4096 * k + slot) (4096 * i + slot) x 0 (λ e. other (omega (arith, e))) ∙ h.here i (omega (arith, other))
      ];
  above = λ i le. get_or-set_other new (4096 * k + slot) (4096 * i + slot) x 0 (λ e. absurd (omega (arith, e))) ∙ h.above i (omega arith);
  others = λ s i lt ne. get_or-set_other new (4096 * k + slot) (4096 * i + s) x 0 (λ e. ne (omega (arith, e, lt, in_range))) ∙ h.others s i lt ne;
}

-- ---- all slots

pub filled-none : (p : Parameters) (bins : List (List Member)) (plane : ℕ) (columns : List ℕ) → columns ≡ replicate (4096 * (p.capacity + 1)) 0 → AreFilled p bins plane 0 columns
filled-none p bins plane columns is = record {
  size = ap length is ∙ length-replicate {A = ℕ} (4096 * (p.capacity + 1)) 0;
  done = λ slot k lt. absurd (omega arith);
  rest = λ slot k le lt. ap (λ (xs : List ℕ). get_or xs (4096 * k + slot) 0) is ∙ zeros-any (4096 * (p.capacity + 1)) (4096 * k + slot);
}

pub filled-more : (p : Parameters) (bins : List (List Member)) (plane slot : ℕ) (cs old new : List ℕ) → slot < 4095
    → ((k : ℕ) → k ≤ p.capacity → get_or cs k 0 ≡ slot_coefficient p bins plane slot k)
    → IsWritten slot cs (length cs) old new → AreFilled p bins plane slot old → AreFilled p bins plane (slot + 1) new
filled-more p bins plane slot cs old new in_range each w h = record {
  size = w.size ∙ h.size;
  done = λ s k lt le.
      elim (cases_eq s slot) [
        | inl same ↦ ap (λ (t : ℕ). coefficient_at new t k) same ∙ here k ∙ each k le ∙ ap (λ (t : ℕ). slot_coefficient p bins plane t k) (sym same)
        | inr other ↦ w.others s k (omega arith) other ∙ h.done s k (omega (arith, other)) le
      ];
  rest = λ s k le lt. w.others s k lt (λ e. absurd (omega (arith, e))) ∙ h.rest s k (omega arith) lt;
}
  where
    here : (k : ℕ) → coefficient_at new slot k ≡ get_or cs k 0
    here k =
        elim (cases_lt k (length cs)) [
          | inl inside ↦ w.here k inside
          | inr past ↦ w.above k past ∙ h.rest slot k (omega arith) (omega arith) ∙ sym (get_or_past cs k 0 past)
        ]

pub filled-all : (p : Parameters) (bins : List (List Member)) (plane slot : ℕ) (columns : List ℕ) → 4095 ≤ slot → AreFilled p bins plane slot columns → slot ≤ 4095 → AreColumns p bins plane (set columns 4095 1)
unfolding slot_coefficient
filled-all p bins plane slot columns all h only = record {
  size = length-set columns 4095 1 ∙ h.size;
  each = λ s k lt le.
      elim (cases_lt s 4095) [
        | inl before ↦
            let other : 4096 * k + s ≡ 4095 → ⊥ = λ e. absurd (omega (arith, e)) in
            get_or-set_other columns 4095 (4096 * k + s) 1 0 other ∙ h.done s k (omega arith) le
        | inr last ↦
            let is : s ≡ 4095 = omega arith in
            let test : nat_lt s 4095 ≡ false = le-ltb s 4095 last in
            ap (λ (t : ℕ). coefficient_at (set columns 4095 1) t k) is ∙ constant k
            ∙ ap (λ (b : Bool). if b then part_coefficient p (bin_at bins (s / 5)) plane (s % 5) k else one_coefficient k) (sym test)
      ];
}
  where
    constant : (k : ℕ) → coefficient_at (set columns 4095 1) 4095 k ≡ one_coefficient k
    constant zero = get_or-set_same columns 4095 1 0 (omega (arith, h.size))
    constant (suc k) =
        get_or-set_other columns 4095 (4096 * suc k + 4095) 1 0 (λ e. absurd (omega (arith, e))) ∙ h.rest 4095 (suc k) (omega arith) (omega arith)

-- ---- what a slot has

pub slot-part : (p : Parameters) (bins : List (List Member)) (plane slot k : ℕ) → slot < 4095 → slot_coefficient p bins plane slot k ≡ part_coefficient p (bin_at bins (slot / 5)) plane (slot % 5) k
unfolding slot_coefficient
slot-part p bins plane slot k lt = let test : nat_lt slot 4095 ≡ true = lt-ltb slot 4095 lt in rw test refl

-- ---- columns

column-at : (columns : List ℕ) (k slot : ℕ) → slot < 4096 → get_or (column columns k) slot 0 ≡ coefficient_at columns slot k
column-at columns k slot lt = get_or-take 4096 (drop (4096 * k) columns) slot 0 lt ∙ get_or-drop (4096 * k) columns slot 0

pub cells-ready : (p : Parameters) (bins : List (List Member)) (plane count : ℕ) (columns : List ℕ) → count ≡ p.capacity + 1 → count ≤ 4096 → AreColumns p bins plane columns → AreCells count columns
cells-ready p bins plane count columns number few h k lt = record {
  power = omega arith;
  size = omega (arith, h.size);
  values = record {
    size = length-take-le 4096 (drop (4096 * k) columns) (omega (arith, length-drop (4096 * k) columns, h.size));
    below = λ slot below. subst (λ (u : ℕ). u < 65537) (sym (column-at columns k slot below ∙ h.each slot k below (omega arith))) (slot_coefficient-below p bins plane slot k);
  };
}

packed_at-same : (v w : ℕ → ℕ) (i : ℕ) → ((j : ℕ) → j < 4096 → v j ≡ w j) → packed_at v i ≡ packed_at w i
unfolding packed_at
packed_at-same v w i h = coefficient-same 65537 4096 root_inverse degree_inverse v w i h

-- the row of a column is that of the plane's packed coefficients
pub row_of_column-is : (p : Parameters) (bins : List (List Member)) (plane k : ℕ) (columns : List ℕ) → k ≤ p.capacity → AreColumns p bins plane columns
    → row_of_column columns k ≡ transforms_of (packed_plane p bins plane k)
unfolding row_of_column packed_list packed
row_of_column-is p bins plane k columns le h =
    ap transforms_of
    (table-same 4096 (packed_at (λ j. get_or (column columns k) j 0)) (packed_at (λ slot. slot_coefficient p bins plane slot k))
    (λ i lt. packed_at-same (λ j. get_or (column columns k) j 0) (λ slot. slot_coefficient p bins plane slot k) i (λ slot below. column-at columns k slot below ∙ h.each slot k below le)))

-- a list that was written as a whole through a slice
pub whole-written : (new old : List ℕ) (len : ℕ) → length new ≡ len → take len (new ++ drop (length new) old) ≡ new
whole-written new old len e = ap (λ (n : ℕ). take n (new ++ drop (length new) old)) (sym e) ∙ take-append_seam new (drop (length new) old)
