use Rattle.std.proofs.Common.{◌≡◌, ◌∙◌, ◌+◌, ◌<◌, sym, length, arith}
use Rattle.std.proofs.lemmas.List.{length-map}
use Rattle.sender_core.specs.Kept.{kept_row}
use Rattle.sender_core.specs.States.{contents_of}
use Rattle.sender_core.specs.Shown.{kept_of_row, kept_of_rows}
use Rattle.sender_core.proofs.Counting.{length-row}
use Rattle.sender_core.proofs.RowLists.{newest-read, length-read}
use Rattle.sender_core.proofs.Repacking.{moved, emptied, packed-in, bare-empty, bare-packed}
use Rattle.sender_core.proofs.state.State.repack.Goals as goal

pub overflow_cast-before : goal.overflow_cast-before
overflow_cast-before g c =
    let rows = c.args.self.now.rows.items in
    let within : c.args.row < length rows = omega (arith, c.requires.in_range, c.requires.ready.each_row, length-map rows (λ row. kept_of_row row.items)) in
    let row = c.index-2.result.now in
    omega (arith, c.len-before.ensures, row.ok.0, length-read rows c.args.row row within c.index-2.ensures, length-row (kept_of_rows rows) c.args.row, c.requires.ready.few_bundles)

pub returns-then-stamp-from-clause-stepped : goal.returns-then-stamp-from-clause-stepped
returns-then-stamp-from-clause-stepped g c =
    let rows = c.args.self.now.rows.items in
    let within : c.args.row < length rows = omega (arith, c.requires.in_range, c.requires.ready.each_row, length-map rows (λ row. kept_of_row row.items)) in
    let newest = newest-read rows c.args.row c.index.result.now c.deref.result.now c.newest-stamp.result within c.index.ensures c.newest-stamp.ensures c.deref.ensures.value in
    moved (contents_of c.args.self.now) (contents_of c.note.new.self) c.args.row c.args.from c.newest-stamp.result newest c.if-stamp-from.true c.in_ok-note.ensures.noted

pub returns-then-before-eq0-clause-stepped : goal.returns-then-before-eq0-clause-stepped
returns-then-before-eq0-clause-stepped g c =
    let rows = c.args.self.now.rows.items in
    let within : c.args.row < length rows = omega (arith, c.requires.in_range, c.requires.ready.each_row, length-map rows (λ row. kept_of_row row.items)) in
    let newest = newest-read rows c.args.row c.index.result.now c.deref.result.now c.newest-stamp.result within c.index.ensures c.newest-stamp.ensures c.deref.ensures.value in
    let row = c.index-2.result.now in
    let before : c.len-before.result ≡ length (kept_row (kept_of_rows rows) c.args.row) = omega (arith, c.len-before.ensures, row.ok.0, length-read rows c.args.row row within c.index-2.ensures) in
    emptied (contents_of c.args.self.now) (contents_of c.note-then-before-eq0.new.self) c.args.row c.args.from c.newest-stamp.result newest c.if-stamp-from.false c.len-before.result before c.if-before-eq0.true
    c.in_ok-note-2.ensures.noted

pub overflow_cast-after : goal.overflow_cast-after
overflow_cast-after g c =
    let rows = c.args.self.now.rows.items in
    let within : c.args.row < length rows = omega (arith, c.requires.in_range, c.requires.ready.each_row, length-map rows (λ row. kept_of_row row.items)) in
    let newest = newest-read rows c.args.row c.index.result.now c.deref.result.now c.newest-stamp.result within c.index.ensures c.newest-stamp.ensures c.deref.ensures.value in
    let row = c.index-2.result.now in
    let before : c.len-before.result ≡ length (kept_row (kept_of_rows rows) c.args.row) = omega (arith, c.len-before.ensures, row.ok.0, length-read rows c.args.row row within c.index-2.ensures) in
    let fewer = c.requires.packed.fewer (omega (arith, newest, c.if-stamp-from.false)) (omega (arith, before, c.if-before-eq0.false)) in
    omega (arith, c.len-after.ensures, c.args.packed.ok.0, fewer, length-row (kept_of_rows rows) c.args.row, c.requires.ready.few_bundles)

pub returns-clause-stepped : goal.returns-clause-stepped
returns-clause-stepped g c =
    let rows = c.args.self.now.rows.items in
    let within : c.args.row < length rows = omega (arith, c.requires.in_range, c.requires.ready.each_row, length-map rows (λ row. kept_of_row row.items)) in
    let newest = newest-read rows c.args.row c.index.result.now c.deref.result.now c.newest-stamp.result within c.index.ensures c.newest-stamp.ensures c.deref.ensures.value in
    let row = c.index-2.result.now in
    let before : c.len-before.result ≡ length (kept_row (kept_of_rows rows) c.args.row) = omega (arith, c.len-before.ensures, row.ok.0, length-read rows c.args.row row within c.index-2.ensures) in
    let bundled = c.requires.packed.bundled (omega (arith, newest, c.if-stamp-from.false)) (omega (arith, before, c.if-before-eq0.false)) in
    packed-in (contents_of c.args.self.now) (contents_of c.put_in.new.self) c.args.row c.args.from c.newest-stamp.result newest c.if-stamp-from.false c.args.packed.items
    (kept_of_row c.in_ok-bundles.bundles.items) c.count.result c.count.ensures c.in_ok-bundles.ensures bundled c.len-before.result c.len-after.result before
    (omega (arith, c.len-after.ensures, c.args.packed.ok.0)) c.in_ok-put_in.ensures.entered

pub returns-then-before-eq0-clause-bare : goal.returns-then-before-eq0-clause-bare
returns-then-before-eq0-clause-bare g c =
    let rows = c.args.self.now.rows.items in
    let within : c.args.row < length rows = omega (arith, c.requires.in_range, c.requires.ready.each_row, length-map rows (λ row. kept_of_row row.items)) in
    let row = c.index-2.result.now in
    let before : c.len-before.result ≡ length (kept_row (kept_of_rows rows) c.args.row) = omega (arith, c.len-before.ensures, row.ok.0, length-read rows c.args.row row within c.index-2.ensures) in
    bare-empty (kept_of_rows rows) (contents_of c.note-then-before-eq0.new.self).rows c.args.row c.in_ok-note-2.ensures.noted.stands (sym before ∙ c.if-before-eq0.true)

pub returns-clause-bare : goal.returns-clause-bare
returns-clause-bare g c =
    let rows = c.args.self.now.rows.items in
    let within : c.args.row < length (kept_of_rows rows) = omega (arith, c.requires.in_range, c.requires.ready.each_row) in
    bare-packed (kept_of_rows rows) (contents_of c.put_in.new.self).rows c.args.row (c.count.result + 1) (kept_of_row c.in_ok-bundles.bundles.items) c.args.packed.items within
    c.in_ok-put_in.ensures.entered.stands c.in_ok-bundles.ensures
