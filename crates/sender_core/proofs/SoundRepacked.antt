-- A row that is packed anew leaves a sound set.
use Rattle.std.proofs.Common.{◌≡◌, ℕ, ◌+◌, ◌*◌, ◌/◌, ◌%◌, ◌≤◌, ◌<◌, true, List, [], ◌∷◌, ◌++◌, length, map, set, sum, leb, All, Contains, inl, inr, sym, ap, ◌∙◌, subst, arith, le_trans}
use Rattle.std.proofs.lemmas.Bool.{cases_lt}
use Rattle.std.proofs.lemmas.List.{length-set, set_past}
use Rattle.std.proofs.lemmas.List.Elements.{All-from_recursion, All-set, Contains-push_cases}
use Rattle.std.proofs.lemmas.List.Sums.{sum-map, sum_by-set}
use Rattle.std.proofs.lemmas.Nat.{mul-le}
use Rattle.psi_residue.specs.Parameters.{Parameters}
use Rattle.psi_bundle.specs.declared.member.Member.{Member}
use Rattle.psi_bundle.specs.declared.history.Call.TheVariants as call
use Rattle.item_slots.specs.Tags.{bins_of_row}
use Rattle.psi_bundle.specs.Bins.{AreApart, accepts, bin_at}
use Rattle.psi_bundle.specs.Versions.{Version, Row, row_at, bins_at, standing, members_of_row, packed_row, greatest_stamp, IsSound}
use Rattle.psi_bundle.specs.Steps.{step, repack}
use Rattle.sender_core.specs.Soundness.{HasRoom}
use Rattle.sender_core.proofs.SoundLists.{set-cases}
use Rattle.sender_core.proofs.SoundCells.{cell}
use Rattle.sender_core.proofs.SoundPlaced.{joined-within, joined-apart}
use Rattle.sender_core.proofs.SoundPacked.{of_bin, packed-each, shaped-packed, standing-packed, held-members, members-have, length-packed}
use Rattle.sender_core.proofs.SoundSteps.{sound-unchanged, chosen-sound, BelongsAt}

in_nothing : (m : Member) → Contains [] m → ⊥
in_nothing m c = let within : c.0 < 0 = c.1 in omega arith

-- the row packed anew
abbrev packed_anew : Version → ℕ → Row
packed_anew v r = packed_row v.parameters.capacity (v.count + 1) (members_of_row (row_at v.rows r))

-- what holds of each bin of the rows, and stays where a bin of row r takes one of the row's members, holds of each bin afterwards
repacked-each : (P : ℕ → ℕ → List Member → Type 0) (v : Version) (r : ℕ) → HasRoom v.parameters → ((s b : ℕ) → P s b [])
    → ((b : ℕ) (bin : List Member) (m : Member) → Contains (of_bin b (members_of_row (row_at v.rows r))) m → accepts v.parameters.capacity bin m.tag ≡ true → P r b bin → P r b (bin ++ m ∷ []))
    → ((s u b : ℕ) → P s b (cell v.rows s u b)) → (s u b : ℕ) → P s b (cell (set v.rows r (packed_anew v r)) s u b)
repacked-each P v r room none joins each s u b =
    elim (set-cases v.rows r s (packed_anew v r) []) [
      | inl same ↦ subst (λ row. P s b (bin_at (bins_at row u) b)) (sym same) (each s u b)
      | inr new ↦ subst (λ row. P s b (bin_at (bins_at row u) b)) (sym new.2) (subst (λ k. P k b (bin_at (bins_at (packed_anew v r) u) b)) (sym new.0)
          (packed-each (λ c bin. P r c bin) v.parameters.capacity (v.count + 1) (members_of_row (row_at v.rows r)) [] room.some_members joins (λ w c. none r c) u b))
    ]

repacked-standing : (v : Version) (r p : ℕ) (tag : List ℕ) → standing (row_at (set v.rows r (packed_anew v r)) (p / bins_of_row)) (p % bins_of_row) tag ≡ standing (row_at v.rows (p / bins_of_row)) (p % bins_of_row) tag
repacked-standing v r p tag =
    let b = p % bins_of_row in
    let ms = members_of_row (row_at v.rows r) in
    elim (set-cases v.rows r (p / bins_of_row) (packed_anew v r) []) [
      | inl same ↦ ap (λ (row : Row). standing row b tag) same
      | inr new ↦
          let whole = standing-packed v.parameters.capacity (v.count + 1) ms [] b tag tt (omega arith) in
          let all = held-members (row_at v.rows r) b tag in
          let packed : standing (packed_anew v r) b tag ≡ standing (row_at v.rows r) b tag = omega (arith, whole, all) in
          ap (λ (row : Row). standing row b tag) new.2 ∙ packed ∙ ap (λ (k : ℕ). standing (row_at v.rows k) b tag) (sym new.0)
    ]

-- a row in place of one of at least as many bundles
fewer : (rows : List Row) (r : ℕ) (row : Row) → length row ≤ length (row_at rows r) → sum (map (λ w. length w) (set rows r row)) ≤ sum (map (λ w. length w) rows)
fewer rows r row less =
    let before = sum-map (λ (w : Row). length w) rows in
    let after = sum-map (λ (w : Row). length w) (set rows r row) in
    elim (cases_lt r (length rows)) [
      | inl lt ↦ let change = sum_by-set (λ (w : Row). length w) rows r row [] lt in omega (arith, before, after, change, less)
      | inr past ↦ omega (arith, ap (λ (ws : List Row). sum (map (λ w. length w) ws)) (set_past rows r row past))
    ]

smaller-within : (p : Parameters) (few many : ℕ) → few ≤ many → (many * (1 + p.units) ≤ 64) × (many * (1 + p.units) * (p.capacity + 1) ≤ 4096)
    → (few * (1 + p.units) ≤ 64) × (few * (1 + p.units) * (p.capacity + 1) ≤ 4096)
smaller-within p few many le h =
    let planes = mul-le few (1 + p.units) many (1 + p.units) le (omega arith) in
    let cells = mul-le (few * (1 + p.units)) (p.capacity + 1) (many * (1 + p.units)) (p.capacity + 1) planes (omega arith) in
    (le_trans planes h.0, le_trans cells h.1)

pub sound-repacked : (v : Version) (r : ℕ) → HasRoom v.parameters → IsSound v → IsSound (repack v r (packed_anew v r)).version
sound-repacked v r room h =
    let capacity = v.parameters.capacity in
    let n = v.parameters.rows in
    let ms = members_of_row (row_at v.rows r) in
    let fewer_bundles : length (packed_anew v r) ≤ length (row_at v.rows r) =
    length-packed capacity (v.count + 1) (row_at v.rows r) room.some_members (λ u b. record { apart = h.apart r u b; within = h.within_capacity r u b }) in
    record {
      each_row = length-set v.rows r (packed_anew v r) ∙ h.each_row;
      each_bin = All-set (λ row. All (λ u. length u.bins ≡ bins_of_row) row) v.rows r (packed_anew v r)
          (All-from_recursion (λ u. length u.bins ≡ bins_of_row) (packed_anew v r) (shaped-packed capacity (v.count + 1) ms [] tt)) h.each_bin;
      present = λ tag label e p c. repacked-standing v r p tag ∙ h.present tag label e p c;
      nothing_else = repacked-each (λ s b bin. (m : Member) → Contains bin m → BelongsAt n v.labels s b m) v r room
          (λ s b m c. absurd (in_nothing m c))
          (λ b bin m found accepted old x c. elim (Contains-push_cases bin m x c) [
            | inl before ↦ old x before
            | inr is ↦ subst (λ y. BelongsAt n v.labels r b y) is (members-have (BelongsAt n v.labels r b) (row_at v.rows r) b (λ u. h.nothing_else r u b) m found)
          ])
          h.nothing_else;
      within_capacity = repacked-each (λ s b bin. length bin ≤ capacity) v r room (λ s b. omega arith) (λ b bin m found accepted old. joined-within capacity bin m accepted) h.within_capacity;
      apart = repacked-each (λ s b bin. AreApart bin) v r room (λ s b i j d before within. absurd (omega arith)) (λ b bin m found accepted old. joined-apart capacity bin m accepted old) h.apart;
      labelled = h.labelled;
      limits = smaller-within v.parameters (sum (map (λ row. length row) (set v.rows r (packed_anew v r)))) (sum (map (λ row. length row) v.rows)) (fewer v.rows r (packed_anew v r) fewer_bundles) h.limits;
    }

-- a Repack of a sound set leaves a sound set
pub sound-repack : (v : Version) (r from : ℕ) → HasRoom v.parameters → IsSound v → IsSound (step v (call.Repack r from)).version
unfolding step
sound-repack v r from room h =
    chosen-sound (leb (greatest_stamp (row_at v.rows r)) from) (repack v r (packed_anew v r)) _ (λ old. sound-repacked v r room h) (λ moved. sound-unchanged v h)
