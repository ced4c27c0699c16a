-- What a turn at the sender does to its seat, and what the reply to it tells.
use Rattle.std.specs.Prelude.{◌≡◌, ℕ, ◌≤◌, List, [], ◌∷◌, ◌++◌, length, take, Some}
use Rattle.std.proofs.Common.{refl, sym, ap, ◌∙◌, subst, arith, inl, inr}
use Rattle.std.proofs.lemmas.Option.{none-some, same_Some}
use Rattle.std.proofs.lemmas.List.Sums.{fold-append}
use Rattle.std.proofs.Math.Seq.{take-append_seam}
use Rattle.psi_residue.specs.Parameters.{Parameters}
use Rattle.psi_bundle.specs.declared.history.Answer.{Answer}
use Rattle.psi_bundle.specs.declared.history.Call.{Call}
use Rattle.psi_bundle.specs.declared.history.Call.TheVariants as call
use Rattle.psi_bundle.specs.declared.history.Entry.{Entry}
use Rattle.psi_bundle.specs.Histories.{after, replay, version_at}
use Rattle.psi_bundle.specs.Steps.{step}
use Rattle.psi_bundle.specs.Versions.{Version}
use Rattle.bundle_cache.specs.Caches.{CacheOf, cached_bins, is_cached_under}
use Rattle.query_codec.specs.Replies.{reply_body}
use Rattle.psi_frames.specs.declared.reply.Reply.{Reply}
use Rattle.psi_frames.specs.declared.reply.Reply.TheVariants as reply
use Rattle.psi_frames.specs.Served.{answer_of, body_of, from_of, from_or_zero, place_of}
use Rattle.sender_core.specs.Kept.{View, RowSight, kept_at, kept_row, rows_of}
use Rattle.sender_core.proofs.SoundSteps.{step-parameters}
use Rattle.live_sender.specs.declared.origin.Origin.{Origin}
use Rattle.live_sender.specs.Histories.{first_version, IsHistory}
use Rattle.live_sender.specs.Turns.{Known, Entered, ShowsAt, Stayed, ViewsRow, Went, GoesOn}
use Rattle.query_pool.specs.Caching.{AreRowsOfSet, HasOwnCache}
use Rattle.query_pool.specs.Exchanges.{HasGoneOn, IsBodyAt, IsToldEntry, IsToldFrom, Tells}
use Rattle.live_sender.proofs.Prefixes.{prefix-length, prefix-then}

-- ---- the seat

pub gone : (v w : Known) → ((z : Origin) × (v.base ≡ Some z) × Went z v w) → HasGoneOn v w
gone v w h = (h.0, h.1, record { follows = h.2.follows.seen; keeps = h.2.keeps; history = h.2.history })

-- for the base that the seat is known to have
pub gone-from : (z : Origin) (v w : Known) → v.base ≡ Some z → HasGoneOn v w → GoesOn z v w
gone-from z v w is h = subst (λ (y : Origin). GoesOn y v w) (same_Some h.0 z (sym h.1 ∙ is)) h.2

-- ---- the reply

pub told-entry : (v w : Known) (c : Call) (a : Answer) (place : ℕ) (told : Reply) → Entered v w c a place → place_of told ≡ Some place → answer_of told ≡ Some a → Tells v w c told
told-entry v w c a place told e at tells = inl (record {
  met = e.met;
  answer = a;
  begins = e.begins.seen;
  seen = e.seen;
  own = e.own ∙ ap (λ (n : ℕ). v.own ++ n ∷ []) e.at;
  at = at ∙ ap Some e.at;
  tells = tells;
})

-- ---- a query

pub replay-parameters : (v : Version) (es : List Entry) → (replay v es).parameters ≡ v.parameters
replay-parameters v [] = refl
replay-parameters v (e ∷ es) = replay-parameters (after v e) es ∙ step-parameters v e.call

-- an Ask changes no row
rows-asked : (v : Version) (e : Entry) → e.call ≡ call.Ask → (after v e).rows ≡ v.rows
unfolding step
rows-asked v e is = ap (λ (c : Call). (step v c).version.rows) is

module _ (z : Origin) (w : Known) (place : ℕ) (s : View CacheOf) (shows : ShowsAt cached_bins is_cached_under z w.seen place s) where
  -- behind the Ask the set has the rows that were shown
  rows-behind : (v : Known) (a : Answer) → Entered v w call.Ask a place → (replay (first_version z) w.seen).rows ≡ rows_of s.rows
  rows-behind v a e =
      let start = first_version z in
      let entry : Entry = record { call = call.Ask; answer = a } in
      let at : s.place ≡ length e.met = shows.at ∙ e.at in
      let behind : (replay start w.seen).rows ≡ (replay start e.met).rows =
      ap (λ (es : List Entry). (replay start es).rows) e.seen
      ∙ ap (λ (v : Version). v.rows) (fold-append after start e.met (entry ∷ [])) ∙ rows-asked (replay start e.met) entry refl in
      let before : version_at start w.seen s.place ≡ replay start e.met =
      (λ i. replay start (take (at i) (e.seen i))) ∙ ap (replay start) (take-append_seam e.met (entry ∷ [])) in
      behind ∙ ap (λ (v : Version). v.rows) (sym before) ∙ sym shows.shown.1

  pub rows-shown : (p : Parameters) (v : Known) (a : Answer) → z.parameters ≡ p → IsHistory z w.seen → Entered v w call.Ask a place → AreRowsOfSet p s.rows
  rows-shown p v a under history e = record {
    set = replay (first_version z) w.seen;
    sound = history.sound;
    under = replay-parameters (first_version z) w.seen ∙ under;
    shown = rows-behind v a e;
    caches = λ r u. subst (λ (q : Parameters). HasOwnCache q (kept_at (kept_row s.rows r) u)) under (shows.shown.2 r u);
  }

  -- the body is that of the set at its place
  pub body-there : (p : Parameters) (query : List (List (List ℕ))) (body : List ℕ) (told : Reply) → z.parameters ≡ p → body ≡ reply_body p (rows_of s.rows) query
      → place_of told ≡ Some place → body_of told ≡ Some body → IsBodyAt z w.seen query told
  body-there p query body told under is at has = λ x b at_x has_b.
      let same : body ≡ b = same_Some body b (sym has ∙ has_b) in
      let there : s.place ≡ x = shows.at ∙ same_Some place x (sym at ∙ at_x) in
      sym same ∙ is ∙ (λ i. reply_body (sym under i) (shows.shown.1 i) query)
      ∙ ap (λ (n : ℕ). reply_body z.parameters (version_at (first_version z) w.seen n).rows query) there

-- ---- a Repack

from-told : (told : Reply) (from : ℕ) → from_of told ≡ Some from → from_or_zero told ≡ from
from-told (reply.Repacked place own before after) from is = same_Some own from is
from-told (reply.Moved place own stamp) from is = same_Some own from is
from-told (reply.Added place) from is = absurd (none-some from is)
from-told (reply.Replaced place) from is = absurd (none-some from is)
from-told (reply.Removed place) from is = absurd (none-some from is)
from-told (reply.Absent place) from is = absurd (none-some from is)
from-told (reply.Full place planes cells) from is = absurd (none-some from is)
from-told (reply.Answer place body) from is = absurd (none-some from is)
from-told (reply.Refused code) from is = absurd (none-some from is)

-- a seat that made no entry, and then made one
module _ (u v w : Known) (gone_on : HasGoneOn u v) (stayed : Stayed u v) where
  later-entry : (c : Call) (told : Reply) → IsToldEntry v w c told → Tells u w c told
  later-entry c told e = inl (record {
    met = e.met;
    answer = e.answer;
    begins = prefix-then u.seen v.seen e.met gone_on.2.follows e.begins;
    seen = e.seen;
    own = e.own ∙ ap (λ (xs : List ℕ). xs ++ length e.met ∷ []) stayed;
    at = e.at;
    tells = e.tells;
  })

  later : (c : Call) (told : Reply) → Tells v w c told → Tells u w c told
  later c told (inl e) = later-entry c told e
  later c told (inr f) = inr (record { stayed = f.stayed ∙ stayed; full = f.full; tells = f.tells })

  -- the row was viewed in the first turn, and is committed in the second
  pub repacked : (z : Origin) (row : ℕ) (view : RowSight CacheOf) (a : Answer) (place from : ℕ) (told : Reply) → ViewsRow cached_bins is_cached_under z v.seen row view
      → Entered v w (call.Repack view.row view.from) a place → from ≡ view.from → place_of told ≡ Some place → answer_of told ≡ Some a → from_of told ≡ Some from
      → Tells u w (call.Repack row (from_or_zero told)) told
  repacked z row view a place from told views e is at tells has =
      let same : view.from ≡ from_or_zero told = sym is ∙ sym (from-told told from has) in
      subst (λ (c : Call). Tells u w c told) (λ i. call.Repack (views.which i) (same i)) (later (call.Repack view.row view.from) told (told-entry v w (call.Repack view.row view.from) a place told e at tells))

  pub repack-from : (z : Origin) (row : ℕ) (view : RowSight CacheOf) (a : Answer) (place from : ℕ) (told : Reply) → ViewsRow cached_bins is_cached_under z v.seen row view
      → Entered v w (call.Repack view.row view.from) a place → from ≡ view.from → place_of told ≡ Some place → from_of told ≡ Some from → IsToldFrom u told
  repack-from z row view a place from told views e is at has = λ f x has_f at_x.
      let first : length u.seen ≤ length v.seen = prefix-length u.seen v.seen gone_on.2.follows in
      let behind : length v.seen ≤ length e.met = prefix-length v.seen e.met e.begins.seen in
      let own : from ≡ f = same_Some from f (sym has ∙ has_f) in
      let there : place ≡ x = same_Some place x (sym at ∙ at_x) in
      (omega (arith, first, own, is, views.from), omega (arith, behind, own, is, views.from, there, e.at))
