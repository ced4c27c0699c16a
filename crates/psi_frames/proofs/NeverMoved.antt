-- On one lane no reply is Moved: no stamp is behind the version's own entries.
use Rattle.std.proofs.Common.{◌≡◌, ℕ, zero, suc, ◌+◌, ◌<◌, ◌≤◌, ◌/◌, ◌%◌, Bool, true, false, List, [], ◌∷◌, length, map, max, take, Some, refl, sym, ap, ◌∙◌, subst, arith, slice_get, slice_index_or}
use Rattle.std.specs.Prelude.{is_some, nat_le, if◌then◌else◌}
use Rattle.std.specs.FinMap as fin
use Rattle.std.specs.List.{All, fold}
use Rattle.std.specs.Option.{option_map}
use Rattle.std.proofs.lemmas.Bool.{leb-false}
use Rattle.std.proofs.lemmas.List.Elements.{All-cons, All-head, All-nil, All-set, All-tail, All-weaker}
use Rattle.std.proofs.lemmas.Option.{none-some, same_Some, slice_get_within}
use Rattle.psi_bundle.specs.declared.history.Answer.TheVariants as answer
use Rattle.psi_bundle.specs.declared.history.Call.{Call}
use Rattle.psi_bundle.specs.declared.history.Call.TheVariants as call
use Rattle.psi_bundle.specs.declared.history.Entry.{Entry}
use Rattle.psi_bundle.specs.declared.member.Member.{Member}
use Rattle.psi_bundle.specs.Bins.{accepts, bin_at, holds, relabelled, without}
use Rattle.item_slots.specs.Tags.{bins_of_row, positions_of}
use Rattle.psi_bundle.specs.Versions.{Row, Version, changed_at, first_fit, greatest_stamp, joined, members_of_row, packed_row, placed, placed_at, row_at, with_bin}
use Rattle.psi_bundle.specs.Steps.{Step, add, fits, remove, repack, replace, step}
use Rattle.psi_bundle.specs.Histories.{IsLegal, after, replay, version_at}
use Rattle.psi_bundle.proofs.Steps.{count-step}
use Rattle.psi_frames.specs.declared.reply.Reply.TheVariants as reply
use Rattle.psi_frames.specs.declared.request.Request.{Request}
use Rattle.psi_frames.specs.declared.request.Request.TheVariants as request
use Rattle.psi_frames.specs.OneLane.{HasNoStamps, OneLaneNeverMoves}
use Rattle.psi_frames.specs.Requests.{call_of, code_of}
use Rattle.psi_frames.specs.Served.{Exchange, IsRecorded, answer_of, exchanges, from_of, from_or_zero, place_of}
use Rattle.psi_frames.proofs.Placed.{placed_uncoded}
use Rattle.psi_frames.proofs.Places.{makes_call}

-- ---- stamps of rows

-- no bundle of the row is stamped behind n entries
abbrev IsWithin : ℕ → Row → Type 0
IsWithin n row = All (λ u. u.stamp ≤ n) row

-- nor any of the rows
abbrev AreWithin : ℕ → List Row → Type 0
AreWithin n rows = All (IsWithin n) rows

row-later : (m n : ℕ) → m ≤ n → (row : Row) → IsWithin m row → IsWithin n row
row-later m n le row h = All-weaker (λ u. u.stamp ≤ m) (λ u. u.stamp ≤ n) (λ u low. omega (arith, low, le)) row h

rows-later : (m n : ℕ) → m ≤ n → (rows : List Row) → AreWithin m rows → AreWithin n rows
rows-later m n le rows h = All-weaker (IsWithin m) (IsWithin n) (row-later m n le) rows h

none-within : (n : ℕ) → IsWithin n []
none-within n = All-nil (λ u. u.stamp ≤ n)

row-within : (n : ℕ) (rows : List Row) (r : ℕ) → AreWithin n rows → IsWithin n (row_at rows r)
row-within n [] r h = none-within n
row-within n (row ∷ rows) zero h = All-head (IsWithin n) row rows h
row-within n (row ∷ rows) (suc r) h = row-within n rows r (All-tail (IsWithin n) row rows h)

fit-within : (n capacity b : ℕ) (m : Member) (row : Row) → IsWithin n row → IsWithin n (first_fit capacity n b m row)
unfolding first_fit
fit-within n capacity b m [] h = All-cons (λ u. u.stamp ≤ n) _ [] (omega arith) (none-within n)
fit-within n capacity b m (u ∷ us) h = by_test (accepts capacity (bin_at u.bins b) m.tag) (fit-within n capacity b m us (All-tail (λ u. u.stamp ≤ n) u us h)) where
  by_test : (t : Bool) → IsWithin n (first_fit capacity n b m us) → IsWithin n (if t then joined n b m u ∷ us else u ∷ first_fit capacity n b m us)
  by_test true rest = All-cons (λ u. u.stamp ≤ n) (joined n b m u) us (omega arith) (All-tail (λ u. u.stamp ≤ n) u us h)
  by_test false rest = All-cons (λ u. u.stamp ≤ n) u (first_fit capacity n b m us) (All-head (λ u. u.stamp ≤ n) u us h) rest

placed-within : (n capacity : ℕ) (m : Member) (ps : List ℕ) (rows : List Row) → AreWithin n rows → AreWithin n (fold (placed_at capacity n m) rows ps)
unfolding placed_at
placed-within n capacity m [] rows h = h
placed-within n capacity m (p ∷ ps) rows h =
    placed-within n capacity m ps (placed_at capacity n m rows p)
    (All-set (IsWithin n) rows (p / bins_of_row) _ (fit-within n capacity (p % bins_of_row) m (row_at rows (p / bins_of_row)) (row-within n rows (p / bins_of_row) h)) h)

change-within : (n b : ℕ) (change : List Member → List Member) (tag : List ℕ) (row : Row) → IsWithin n row
    → IsWithin n (map (λ u. if holds (bin_at u.bins b) tag then with_bin n b (change (bin_at u.bins b)) u else u) row)
change-within n b change tag [] h = none-within n
change-within n b change tag (u ∷ us) h =
    All-cons (λ v. v.stamp ≤ n) (if holds (bin_at u.bins b) tag then with_bin n b (change (bin_at u.bins b)) u else u) _ (by_test (holds (bin_at u.bins b) tag))
    (change-within n b change tag us (All-tail (λ v. v.stamp ≤ n) u us h)) where
      by_test : (t : Bool) → (if t then with_bin n b (change (bin_at u.bins b)) u else u).stamp ≤ n
      by_test true = omega arith
      by_test false = All-head (λ v. v.stamp ≤ n) u us h

changed-within : (n : ℕ) (change : List Member → List Member) (tag : List ℕ) (ps : List ℕ) (rows : List Row) → AreWithin n rows → AreWithin n (fold (changed_at n change tag) rows ps)
unfolding changed_at
changed-within n change tag [] rows h = h
changed-within n change tag (p ∷ ps) rows h =
    changed-within n change tag ps (changed_at n change tag rows p)
    (All-set (IsWithin n) rows (p / bins_of_row) _ (change-within n (p % bins_of_row) change tag (row_at rows (p / bins_of_row)) (row-within n rows (p / bins_of_row) h)) h)

packed-within : (n capacity : ℕ) (ms : List (ℕ × Member)) (row : Row) → IsWithin n row → IsWithin n (fold (λ row m. first_fit capacity n m.0 m.1 row) row ms)
packed-within n capacity [] row h = h
packed-within n capacity (m ∷ ms) row h = packed-within n capacity ms (first_fit capacity n m.0 m.1 row) (fit-within n capacity m.0 m.1 row h)

greatest-within : (n a : ℕ) (row : Row) → a ≤ n → IsWithin n row → fold max a (map (λ u. u.stamp) row) ≤ n
greatest-within n a [] le h = le
greatest-within n a (u ∷ us) le h =
    let here = All-head (λ v. v.stamp ≤ n) u us h in
    greatest-within n (max a u.stamp) us (omega (arith, le, here)) (All-tail (λ v. v.stamp ≤ n) u us h)

-- ---- stamps of versions

-- no bundle of the version is stamped behind its entries
abbrev IsStamped : Version → Type 0
IsStamped v = AreWithin v.count v.rows

chosen : (t : Bool) (x y : Step) → IsStamped x.version → IsStamped y.version → IsStamped (if t then x else y).version
chosen true x y p q = p
chosen false x y p q = q

stamped-step : (v : Version) (c : Call) → IsStamped v → IsStamped (step v c).version
unfolding step
stamped-step v (call.Put tag label) h =
    let later = rows-later v.count (v.count + 1) (omega arith) v.rows h in
    let ps = positions_of v.parameters.rows tag in
    let rows = placed v.parameters (v.count + 1) (record { tag = tag; label = label }) v.rows in
    chosen (is_some (fin.get v.labels tag)) (replace v tag label) (add v tag label rows) (changed-within (v.count + 1) (λ bin. relabelled bin tag label) tag ps v.rows later)
    (chosen (fits v.parameters rows) _ _ (placed-within (v.count + 1) v.parameters.capacity (record { tag = tag; label = label }) ps v.rows later) later)
stamped-step v (call.Drop tag) h =
    let later = rows-later v.count (v.count + 1) (omega arith) v.rows h in
    chosen (is_some (fin.get v.labels tag)) (remove v tag) _ (changed-within (v.count + 1) (λ bin. without bin tag) tag (positions_of v.parameters.rows tag) v.rows later) later
stamped-step v call.Ask h = rows-later v.count (v.count + 1) (omega arith) v.rows h
stamped-step v (call.Repack r from) h =
    let later = rows-later v.count (v.count + 1) (omega arith) v.rows h in
    let packed = packed_row v.parameters.capacity (v.count + 1) (members_of_row (row_at v.rows r)) in
    chosen (nat_le (greatest_stamp (row_at v.rows r)) from) (repack v r packed) _
    (All-set (IsWithin (v.count + 1)) v.rows r packed (packed-within (v.count + 1) v.parameters.capacity (members_of_row (row_at v.rows r)) [] (none-within (v.count + 1))) later) later

stamped-replay : (v : Version) (es : List Entry) → IsStamped v → IsStamped (replay v es)
stamped-replay v [] h = h
stamped-replay v (e ∷ es) h = stamped-replay (after v e) es (stamped-step v e.call h)

count-replay : (v : Version) (es : List Entry) → (replay v es).count ≡ v.count + length es
count-replay v [] = omega arith
count-replay v (e ∷ es) = omega (arith, count-replay (after v e) es, count-step v e.call)

-- ---- no call moves whose `from` is not before the version's entries

-- the `from` of a Repack is not before the version's entries
abbrev IsSince : Version → Call → Type 0
IsSince v c = (row from : ℕ) → c ≡ call.Repack row from → v.count ≤ from

-- neither of two steps moves
either_moves : (t : Bool) (x y : Step) (stamp : ℕ) → (x.answer ≡ answer.Moved stamp → ⊥) → (y.answer ≡ answer.Moved stamp → ⊥) → (if t then x else y).answer ≡ answer.Moved stamp → ⊥
either_moves true x y stamp p q = p
either_moves false x y stamp p q = q

no_move : (v : Version) (c : Call) (stamp : ℕ) → IsStamped v → IsSince v c → (step v c).answer ≡ answer.Moved stamp → ⊥
unfolding step
no_move v (call.Put tag label) stamp h since e =
    let rows = placed v.parameters (v.count + 1) (record { tag = tag; label = label }) v.rows in
    either_moves (is_some (fin.get v.labels tag)) (replace v tag label) (add v tag label rows) stamp (λ is. cc) (λ is. either_moves (fits v.parameters rows) _ _ stamp (λ is. cc) (λ is. cc) is) e
no_move v (call.Drop tag) stamp h since e = either_moves (is_some (fin.get v.labels tag)) (remove v tag) _ stamp (λ is. cc) (λ is. cc) e
no_move v call.Ask stamp h since e = cc
no_move v (call.Repack r from) stamp h since e =
    by_test (nat_le (greatest_stamp (row_at v.rows r)) from) refl (repack v r (packed_row v.parameters.capacity (v.count + 1) (members_of_row (row_at v.rows r)))) _ (λ is. cc) e where
      by_test : (old : Bool) → nat_le (greatest_stamp (row_at v.rows r)) from ≡ old → (x y : Step) → (x.answer ≡ answer.Moved stamp → ⊥) → (if old then x else y).answer ≡ answer.Moved stamp → ⊥
      by_test true test x y other is = other is
      by_test false test x y other is =
          let late : from < greatest_stamp (row_at v.rows r) = leb-false (greatest_stamp (row_at v.rows r)) from test in
          let early = greatest-within v.count 0 (row_at v.rows r) (omega arith) (row-within v.count v.rows r h) in
          let low = since r from refl in
          omega (arith, late, early, low)

-- ---- histories

-- an entry of a legal history is the step's
pub legal-at : (v : Version) (es : List Entry) (k : ℕ) (e : Entry) → IsLegal v es → slice_get es k ≡ Some e → e.answer ≡ (step (version_at v es k) e.call).answer
legal-at v [] k e legal at = absurd (none-some e at)
legal-at v (x ∷ xs) zero e legal at =
    let same : x ≡ e = same_Some x e at in
    subst (λ (y : Entry). y.answer ≡ (step v y.call).answer) same legal.0
legal-at v (x ∷ xs) (suc k) e legal at = legal-at (after v x) xs k e legal.1 at

size-take : (es : List Entry) (k : ℕ) → k ≤ length es → length (take k es) ≡ k
size-take es zero le = refl
size-take [] (suc k) le = absurd (omega (arith, le))
size-take (e ∷ es) (suc k) le = ap suc (size-take es k (omega (arith, le)))

-- the call of a request that is told a `from`
since-request : (v : Version) (r : Request) (from : ℕ) (c : Call) → call_of r from ≡ Some c → v.count ≤ from → IsSince v c
since-request v (request.Put session number tag label) from c is le row own e = absurd (let same : call.Put tag label ≡ c = same_Some _ c is in cc)
since-request v (request.Drop session number tag) from c is le row own e = absurd (let same : call.Drop tag ≡ c = same_Some _ c is in cc)
since-request v (request.Ask session number query) from c is le row own e = absurd (let same : call.Ask ≡ c = same_Some _ c is in cc)
since-request v (request.Repack session number row) from c is le other own e =
    let same : call.Repack row from ≡ call.Repack other own = same_Some _ c is ∙ e in
    let froms : from ≡ own = cc in
    omega (arith, le, froms)
since-request v (request.Bad session number code) from c is le row own e = absurd (none-some c is)

stamped-start : (v : Version) → v.count ≡ 0 → HasNoStamps v → IsStamped v
stamped-start v none h = All-weaker (λ row. All (λ u. u.stamp ≡ 0) row) (IsWithin v.count) (λ row each. All-weaker (λ u. u.stamp ≡ 0) (λ u. u.stamp ≤ v.count) (λ u z. omega (arith, z)) row each) v.rows h

-- the entry of a reply that is Moved
moved-entry : (history : List Entry) (e : Exchange) (place from stamp : ℕ) (c : Call) → e.reply ≡ reply.Moved place from stamp → call_of e.request from ≡ Some c
    → IsRecorded history e → slice_get history place ≡ Some (record { call = c; answer = answer.Moved stamp })
moved-entry history e place from stamp c moved calls recorded =
    let told : answer_of e.reply ≡ Some (answer.Moved stamp) = ap answer_of moved in
    let with_call : option_map (λ (d : Call). record { call = d; answer = answer.Moved stamp }) (call_of e.request (from_or_zero e.reply)) ≡ Some (record { call = c; answer = answer.Moved stamp }) =
    ap (λ (n : ℕ). option_map (λ (d : Call). record { call = d; answer = answer.Moved stamp }) (call_of e.request n)) (ap from_or_zero moved)
    ∙ ap (option_map (λ (d : Call). record { call = d; answer = answer.Moved stamp })) calls in
    recorded place (answer.Moved stamp) (ap place_of moved) told ∙ with_call

pub never_moved : OneLaneNeverMoves
never_moved p start given history rounds sents none_yet unstamped served one i d lt place from stamp moved =
    let e = slice_index_or (exchanges rounds sents) i d in
    let at : place_of e.reply ≡ Some place = ap place_of moved in
    let own : place ≡ from = same_Some place from (sym at ∙ one.own_from i d lt from (ap from_of moved)) in
    let uncoded = placed_uncoded e (code_of e.request) place refl (served.served.coded i d lt) at in
    let made = makes_call e.request from uncoded in
    let c = made.0 in
    let entry : Entry = record { call = c; answer = answer.Moved stamp } in
    let recorded : slice_get history place ≡ Some entry = moved-entry history e place from stamp c moved made.1 (served.served.history_of.recorded i d lt) in
    let v = version_at start history place in
    let legal : answer.Moved stamp ≡ (step v c).answer = legal-at start history place entry served.served.stepped.legal recorded in
    let within = slice_get_within history place entry recorded in
    let count : v.count ≡ place = count-replay start (take place history) ∙ omega (arith, none_yet, size-take history place (omega (arith, within))) in
    no_move v c stamp (stamped-replay start (take place history) (stamped-start start none_yet unstamped)) (since-request v e.request from c made.1 (omega (arith, count, own))) (sym legal)
