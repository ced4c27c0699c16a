-- What is always true of a book is true of a new one and stays true with each step.
use Rattle.std.specs.Prelude.{◌≡◌, ℕ, zero, suc, ◌+◌, ◌≤◌, ◌<◌, List, [], ◌∷◌, ◌++◌, length, map, replicate, Option, Some, None, IfSome, Result, Ok, Err, IfOk, OnOk, OnErr}
use Rattle.std.specs.List.{All}
use Rattle.std.specs.FinMap as fin
use Rattle.std.proofs.Common.{refl, sym, ap, ◌∙◌, arith, subst, length-append, inl, inr}
use Rattle.std.proofs.lemmas.List.{length-map}
use Rattle.std.proofs.lemmas.List.Elements.{All-replicate, All-nil, All-push, All-weaker}
use Rattle.std.proofs.lemmas.List.Sums.{fold-append}
use Rattle.psi_residue.specs.Parameters.{Parameters, parameter_bytes}
use Rattle.psi_bundle.specs.declared.member.Member.{Member}
use Rattle.psi_bundle.specs.declared.history.Call.{Call}
use Rattle.psi_bundle.specs.declared.history.Answer.{Answer}
use Rattle.psi_bundle.specs.declared.history.Entry.{Entry}
use Rattle.psi_bundle.specs.Versions.{Version, Row, IsSound, empty_version, planes_of}
use Rattle.psi_bundle.specs.Steps.{step}
use Rattle.psi_bundle.specs.Histories.{after, replay, version_at, IsLegal, IsFitting, HasBytes, HoldBytes, most_entries}
use Rattle.noise_ledger.specs.Verdicts.{ArePassed}
use Rattle.sender_core.specs.Kept.{Kept, Contents, row_of, rows_of, version_of, start_of, start_from, labels_in, empty_start, empty_contents, kept_row, kept_at, CacheSuits, IsSameOrBare, IsAsBefore, IsStep, CanStep, IsStart, HoldsBytes, IsConsistent}
use Rattle.sender_core.specs.Sights.{with_cached_bins}
use Rattle.sender_core.specs.Soundness.{HasRoom}
use Rattle.sender_core.proofs.SoundSteps.{sound-empty}
use Rattle.sender_core.proofs.SoundHistories.{sound-step, sound-version_at}
use Rattle.sender_core.proofs.Counting.{size-kept}
use Rattle.sender_core.proofs.HistoryBytes.{empty-bytes, step-bytes, versions-bytes}

-- one entry more is legal where its answer is the step's
pub legal-append : (v : Version) (es : List Entry) (e : Entry) → IsLegal v es → e.answer ≡ (step (replay v es) e.call).answer → IsLegal v (es ++ e ∷ [])
legal-append v [] e l h = (h, tt)
legal-append v (x ∷ es) e l h = (l.0, legal-append (after v x) es e l.1 h)

-- no bundles, no stamps
pub unstamped : (n : ℕ) → All (λ row. All (λ u. u.stamp ≡ 0) row) (replicate {A = Row} n [])
unstamped n = All-replicate (λ row. All (λ u. u.stamp ≡ 0) row) n [] (All-nil (λ u. u.stamp ≡ 0))

-- one step of a book, and what it keeps
module _ {C : Type 0} (old new : Contents C) (c : Call) (answer : Answer) (h : IsStep old new c answer) where
  abbrev entry : Entry
  entry = record { call = c; answer = answer }

  pub same-start : start_of old ≡ start_of new
  same-start = λ i. record { parameters = sym h.same_parameters i; count = 0; labels = fin.from_entries (sym h.same_start i).labels; rows = (sym h.same_start i).rows }

  pub legal-after : (start : Version) → IsLegal start old.journal → replay start old.journal ≡ version_of old → IsLegal start new.journal
  legal-after start legal replayed =
      let answered : answer ≡ (step (replay start old.journal) c).answer = h.answered ∙ ap (λ (w : Version). (step w c).answer) (sym replayed) in
      subst (IsLegal start) (sym h.journal) (legal-append start old.journal entry legal answered)

  pub replayed-after : (start : Version) → replay start old.journal ≡ version_of old → replay start new.journal ≡ version_of new
  replayed-after start replayed =
      ap (replay start) h.journal ∙ fold-append after start old.journal (entry ∷ []) ∙ ap (λ (w : Version). after w entry) replayed ∙ sym h.version

  pub bytes-after : HoldsBytes old → IsFitting old.parameters c × HasBytes c → HoldsBytes new
  bytes-after was taken = record {
    start = subst (λ (w : Version). HoldBytes w.labels) same-start was.start;
    calls =
        let before : All (λ e. IsFitting old.parameters e.call × HasBytes e.call) (old.journal ++ entry ∷ []) =
        All-push (λ e. IsFitting old.parameters e.call × HasBytes e.call) old.journal entry was.calls taken in
        subst (λ (p : Parameters). All (λ e. IsFitting p e.call × HasBytes e.call) new.journal) (sym h.same_parameters)
        (subst (λ (es : List Entry). All (λ e. IsFitting old.parameters e.call × HasBytes e.call) es) (sym h.journal) before);
    version = subst (λ (w : Version). HoldBytes w.labels) (sym h.version) (step-bytes (version_of old) c was.version taken.1);
  }

  pub few-after : length old.journal < most_entries → length new.journal ≤ most_entries
  few-after free = let more : length new.journal ≡ length old.journal + 1 = ap length h.journal ∙ length-append old.journal (entry ∷ []) in omega (arith, more, free)

-- rows without bundles
module _ (C : Type 0) where
  pub no_row : (n r : ℕ) → kept_row {C = C} (replicate n []) r ≡ []
  no_row zero r = refl
  no_row (suc n) zero = refl
  no_row (suc n) (suc r) = no_row n r

  pub rows_alone : (n : ℕ) → rows_of {C = C} (replicate n []) ≡ replicate n []
  rows_alone zero = refl
  rows_alone (suc n) = ap (λ (rows : List Row). [] ∷ rows) (rows_alone n)

  -- a start without bundles is the empty one
  pub start-empty : (p : Parameters) (rows : List (List (Kept C))) → rows ≡ replicate p.rows [] → start_from (rows_of rows) ≡ empty_start p
  start-empty p rows are = ap (λ (rs : List (List (Kept C))). start_from (rows_of rs)) are ∙ ap start_from (rows_alone p.rows) ∙ ap (λ (ls : List (List ℕ × List ℕ)). record { labels = ls; rows = replicate p.rows [] }) (no_labels p.rows)
    where
      no_labels : (n : ℕ) → labels_in (replicate n []) ≡ []
      no_labels zero = refl
      no_labels (suc n) = no_labels n

module _ {C : Type 0} (contents : C → List (List Member)) (is_under : C → List ℕ → Type 0) where
  still_suits : (p : Parameters) (stamp : ℕ) (old new : Kept C) → CacheSuits contents is_under p old → IsSameOrBare stamp old new → CacheSuits contents is_under p new
  still_suits p stamp old new h (inl same) = subst (CacheSuits contents is_under p) (sym same) h
  still_suits p stamp old new h (inr bare) = subst (λ (o : Option C). IfSome o (λ c. (contents c ≡ new.bins) × is_under c (parameter_bytes p))) (sym bare.1) tt

  pub caches-after : (old new : Contents C) (c : Call) (answer : Answer) → IsStep old new c answer → (p : Parameters) → ((r u : ℕ) → CacheSuits contents is_under p (kept_at (kept_row old.rows r) u)) → (r u : ℕ) → CacheSuits contents is_under p (kept_at (kept_row new.rows r) u)
  caches-after old new c answer h p each r u = still_suits p (length old.journal + 1) (kept_at (kept_row old.rows r) u) (kept_at (kept_row new.rows r) u) (each r u) (h.caches r u)

  -- after one step
  consistent-after : (old new : Contents C) (c : Call) (answer : Answer) → IsConsistent contents is_under old → length old.journal < most_entries → IsFitting old.parameters c × HasBytes c
      → IsStep old new c answer → IsConsistent contents is_under new
  consistent-after old new c answer was free taken h =
      let v = version_of old in
      let room : HasRoom old.parameters = record { some_rows = was.passed.ranges.some_rows; some_members = was.passed.ranges.some_members } in
      let start = same-start old new c answer h in
      record {
        passed = subst ArePassed (sym h.same_parameters) was.passed;
        sound = subst IsSound (sym h.version) (sound-step v c room was.sound taken.0);
        begun = subst IsStart start was.begun;
        few = few-after old new c answer h free;
        legal = subst (λ (w : Version). IsLegal w new.journal) start (legal-after old new c answer h (start_of old) was.legal was.replayed);
        replayed = ap (λ (w : Version). replay w new.journal) (sym start) ∙ replayed-after old new c answer h (start_of old) was.replayed;
        caches = caches-after old new c answer h new.parameters
            (λ r u. subst (λ (p : Parameters). CacheSuits contents is_under p (kept_at (kept_row old.rows r) u)) (sym h.same_parameters) (was.caches r u));
        bytes = bytes-after old new c answer h was.bytes taken;
      }

  -- after a call that was refused
  consistent-before : (old new : Contents C) → IsConsistent contents is_under old → IsAsBefore old new → IsConsistent contents is_under new
  consistent-before old new was kept =
      let same : IsConsistent contents is_under (record old { room = new.room }) =
      record { passed = was.passed; sound = was.sound; begun = was.begun; few = was.few; legal = was.legal; replayed = was.replayed; caches = was.caches; bytes = record { start = was.bytes.start; calls = was.bytes.calls; version = was.bytes.version } } in
      subst (IsConsistent contents is_under) (sym kept) same

  -- after one call, whether it was taken or refused
  pub consistent-either : {T E : Type 0} (r : Result T E) (old new : Contents C) (c : Call) (answer : T → Answer) → IsConsistent contents is_under old → length old.journal < most_entries
      → IsFitting old.parameters c × HasBytes c → IfOk r (λ t. IsStep old new c (answer t)) → OnErr r (IsAsBefore old new) → IsConsistent contents is_under new
  consistent-either (Ok t) old new c answer was free fit h kept = consistent-after old new c (answer t) was free fit h
  consistent-either (Err e) old new c answer was free fit h kept = consistent-before old new was kept

  pub consistent-done : {E : Type 0} (r : Result (Unit {0}) E) (old new : Contents C) (c : Call) (answer : Answer) → IsConsistent contents is_under old → length old.journal < most_entries
      → IsFitting old.parameters c × HasBytes c → OnOk r (IsStep old new c answer) → OnErr r (IsAsBefore old new) → IsConsistent contents is_under new
  consistent-done (Ok t) old new c answer was free fit h kept = consistent-after old new c answer was free fit h
  consistent-done (Err e) old new c answer was free fit h kept = consistent-before old new was kept

  -- a book is ready for a step
  pub ready : (h : Contents C) → IsConsistent contents is_under h → CanStep h
  ready h was =
      let planes : planes_of h.parameters (rows_of h.rows) ≤ 64 = was.sound.limits.0 in
      record {
        some_rows = was.passed.ranges.some_rows;
        few_rows = was.passed.ranges.few_rows;
        some_members = was.passed.ranges.some_members;
        few_units = was.passed.ranges.few_units;
        each_row = sym (length-map h.rows row_of) ∙ was.sound.each_row;
        few_bundles = omega (arith, planes, size-kept h.rows);
        few_entries = was.few;
      }

  -- a new book
  pub consistent-empty : (p : Parameters) → ArePassed p → IsConsistent contents is_under (empty_contents p)
  consistent-empty p passed =
      let is : version_of {C = C} (empty_contents p) ≡ empty_version p = ap (λ (rows : List Row). record { parameters = p; count = 0; labels = fin.empty; rows = rows }) (rows_alone C p.rows) in
      record {
        passed = passed;
        sound = subst IsSound (sym is) (sound-empty p);
        begun = record { sound = sound-empty p; no_entries = refl; no_stamps = unstamped p.rows };
        few = omega arith;
        legal = tt;
        replayed = sym is;
        caches = λ r u. subst (λ (ks : List (Kept C)). CacheSuits contents is_under p (kept_at ks u)) (sym (no_row C p.rows r)) tt;
        bytes = record { start = empty-bytes p; calls = All-nil (λ e. IsFitting p e.call × HasBytes e.call); version = empty-bytes p };
      }

  -- a bundle is seen as it is kept
  seen_one : (p : Parameters) (stamp : ℕ) (bins : List (List Member)) (o : Option C) → IfSome o (λ c. (contents c ≡ bins) × is_under c (parameter_bytes p))
      → with_cached_bins contents (record { stamp = stamp; bins = bins; cache = o }) ≡ record { stamp = stamp; bins = bins; cache = o }
  seen_one p stamp bins (Some c) h = λ i. record { stamp = stamp; bins = h.0 i; cache = Some c }
  seen_one p stamp bins None h = refl

  seen_row : (p : Parameters) (ks : List (Kept C)) → ((u : ℕ) → CacheSuits contents is_under p (kept_at ks u)) → map (with_cached_bins contents) ks ≡ ks
  seen_row p [] h = refl
  seen_row p (k ∷ ks) h = λ i. seen_one p k.stamp k.bins k.cache (h 0) i ∷ seen_row p ks (λ u. h (suc u)) i

  pub seen_rows : (p : Parameters) (rows : List (List (Kept C))) → ((r u : ℕ) → CacheSuits contents is_under p (kept_at (kept_row rows r) u)) → map (map (with_cached_bins contents)) rows ≡ rows
  seen_rows p [] h = refl
  seen_rows p (ks ∷ rows) h = λ i. seen_row p ks (λ u. h 0 u) i ∷ seen_rows p rows (λ r u. h (suc r) u) i

  -- each version that its journal leads to is sound and holds bytes
  pub versions-keep : (h : Contents C) → IsConsistent contents is_under h → (k : ℕ) → IsSound (version_at (start_of h) h.journal k) × HoldBytes (version_at (start_of h) h.journal k).labels
  versions-keep h was k =
      let room : HasRoom h.parameters = record { some_rows = was.passed.ranges.some_rows; some_members = was.passed.ranges.some_members } in (
        sound-version_at (start_of h) h.journal room was.begun.sound
            (All-weaker (λ e. IsFitting h.parameters e.call × HasBytes e.call) (λ e. IsFitting h.parameters e.call) (λ e is. is.0) h.journal was.bytes.calls) k,
        versions-bytes (start_of h) h.journal was.bytes.start
            (All-weaker (λ e. IsFitting h.parameters e.call × HasBytes e.call) (λ e. HasBytes e.call) (λ e is. is.1) h.journal was.bytes.calls) k,
      )
