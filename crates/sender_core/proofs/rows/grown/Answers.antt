use Rattle.std.proofs.Common.{◌≡◌, ◌<◌, ◌/◌, ◌*◌, ◌∙◌, sym, ap, refl, ◌+◌, drop, subst, length, arith, slice_index, ℕ}
use Rattle.std.specs.List.{All}
use Rattle.std.proofs.lemmas.List.{length-map, drop_all}
use Rattle.psi_bundle.specs.declared.member.Member.{Member}
use Rattle.sender_core.specs.Kept.{rows_of}
use Rattle.sender_core.specs.Shown.{kept_of_rows}
use Rattle.sender_core.proofs.Counting.{size-kept}
use Rattle.sender_core.proofs.Growing.{grown_by, room-read, grown-one, grown-same, grown-roomy, size-grown, rise-from}
use Rattle.sender_core.proofs.rows.grown.Goals as goal
use Rattle.sender_core.proofs.rows.grown.Goals.{then-opened-row+then-not-has_room, else-opened-row, else-opened-row-via-then-opened-row+else-not-has_room, else-opened-row-via-else-opened-row}

pub loop-p-preserved : goal.loop-p-preserved
loop-p-preserved g c =
    elim c.if-opened-row.branch [
      | then-opened-row+then-not-has_room w ↦ (
        (λ i. w.grown-is i + grown_by c.args.capacity c.args.tag.now (rows_of (kept_of_rows c.args.rows.now)) (w.opened-is i) (drop (c.loop-p.p-index + 1) c.args.places.now))
            ∙ grown-one c.args.capacity c.args.tag.now (rows_of (kept_of_rows c.args.rows.now)) c.loop-p.opened c.loop-p.grown _ c.args.places.now c.loop-p.p-index (slice_index c.args.places.now c.loop-p.p-index)
            c.loop-p-test.true refl c.loop-p.invariant.0 w.if-opened-row.true
            (sym (room-read c.args.capacity (slice_index c.args.places.now c.loop-p.p-index) c.args.tag.now c.args.rows.now w.index-rows-row.result w.deref.result.now w.has_room.result (within g c) w.index-rows-row.is w.deref.ensures.value w.has_room.ensures) ∙ w.if-not-has_room.true),
        omega (arith, w.grown-is, c.loop-p.invariant.1),
      )
      | else-opened-row w ↦ (
        (λ i. w.grown-is i + grown_by c.args.capacity c.args.tag.now (rows_of (kept_of_rows c.args.rows.now)) (w.opened-is i) (drop (c.loop-p.p-index + 1) c.args.places.now))
            ∙ elim w.else-opened-row.branch [
              | else-opened-row-via-then-opened-row+else-not-has_room v ↦
                  grown-roomy c.args.capacity c.args.tag.now (rows_of (kept_of_rows c.args.rows.now)) c.loop-p.opened c.loop-p.grown _ c.args.places.now c.loop-p.p-index (slice_index c.args.places.now c.loop-p.p-index)
                  c.loop-p-test.true refl c.loop-p.invariant.0
                  (sym (room-read c.args.capacity (slice_index c.args.places.now c.loop-p.p-index) c.args.tag.now c.args.rows.now v.index-rows-row.result v.deref.result.now v.has_room.result (within g c) v.index-rows-row.is v.deref.ensures.value v.has_room.ensures) ∙ v.if-not-has_room.false)
              | else-opened-row-via-else-opened-row v ↦
                  grown-same c.args.capacity c.args.tag.now (rows_of (kept_of_rows c.args.rows.now)) c.loop-p.opened c.loop-p.grown _ c.args.places.now c.loop-p.p-index (slice_index c.args.places.now c.loop-p.p-index)
                  c.loop-p-test.true refl c.loop-p.invariant.0 v.if-opened-row.false
            ],
        omega (arith, w.grown-is, c.loop-p.invariant.1),
      )
    ]
  where
    within : (g : _) (c : goal.Joined-opened-row g) → slice_index c.args.places.now c.loop-p.p-index / 819 < length c.args.rows.now
    within g c = omega (arith, c.requires.within c.loop-p.p-index 0 c.loop-p-test.true)

pub returns-clause-number : goal.returns-clause-number
returns-clause-number g c stamp label =
    let m : Member = record { tag = c.args.tag.now; label = label } in
    let rows = kept_of_rows c.args.rows.now in
    let n : length (rows_of rows) ≡ length c.args.rows.now = length-map rows _ ∙ length-map c.args.rows.now _ in
    let rise = rise-from (819 * length (rows_of rows)) c.args.places.now 0 (λ some. omega arith) c.requires.rise
    (subst (λ (k : ℕ). All (λ p. p < 819 * k) c.args.places.now) (sym n) c.requires.within) in
    let grown = size-grown c.args.capacity stamp m c.requires.some (rows_of rows) c.args.places.now rise in
    let all : grown_by c.args.capacity c.args.tag.now (rows_of rows) c.loop-p.opened (drop c.loop-p.p-index c.args.places.now) ≡ 0 =
    ap (grown_by c.args.capacity c.args.tag.now (rows_of rows) c.loop-p.opened) (drop_all c.loop-p.p-index c.args.places.now (omega (arith, c.loop-p-test.false))) in
    omega (arith, grown, size-kept rows, c.loop-p.invariant.0, all)
