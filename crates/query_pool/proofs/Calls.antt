-- What each request makes of a book, by what its call makes of it.
use Rattle.std.specs.Prelude.{◌≡◌, ℕ, ◌≤◌, ◌<◌, Bool, true, false, nat_lt, Option, Some, None, List, [], ◌∷◌, ◌++◌, length, if◌then◌else◌}
use Rattle.std.proofs.Common.{refl, sym, ap, ◌∙◌, inl, inr, lt-ltb}
use Rattle.std.proofs.lemmas.Bool.{le-ltb}
use Rattle.std.proofs.lemmas.List.{append-nil}
use Rattle.psi_residue.specs.Parameters.{Parameters}
use Rattle.bundle_cache.specs.Caches.{CacheOf}
use Rattle.psi_bundle.specs.declared.history.Answer.{Answer}
use Rattle.psi_bundle.specs.declared.history.Call.{Call}
use Rattle.psi_bundle.specs.Versions.{Version}
use Rattle.query_codec.specs.Replies.{reply_body}
use Rattle.psi_bundle.specs.Histories.{most_entries}
use Rattle.psi_frames.specs.declared.reply.Reply.{Reply}
use Rattle.psi_frames.specs.declared.reply.Reply.TheVariants as reply
use Rattle.psi_frames.specs.declared.request.Request.{Request}
use Rattle.psi_frames.specs.declared.request.Request.TheVariants as request
use Rattle.psi_frames.specs.OneLane.{call_on, entries_by, reply_by, reply_telling, refusal_code, version_by}
use Rattle.psi_frames.specs.Requests.{call_of, code_of, asked_ciphertexts}
use Rattle.psi_frames.specs.Served.{from_of}
use Rattle.sender_core.specs.Kept.{Contents, version_of}
use Rattle.query_pool.specs.Alone.{IsAnsweredAlone, IsCalled, IsEntered, IsFull}
use Rattle.query_pool.specs.Rounds.{IsNoMoved}

-- with room in the journal a request makes its call
call-made : (v : Version) (r : Request) (c : Call) → v.count < most_entries → call_of r v.count ≡ Some c → call_on v r ≡ Some c
unfolding call_on
call-made v r c room is = let test : nat_lt v.count most_entries ≡ true = lt-ltb v.count most_entries room in rw test is

-- a request whose call is entered
entered : (p : Parameters) (old new : Contents CacheOf) (r : Request) (c : Call) (body : List ℕ) (told : Reply) → call_of r (length old.journal) ≡ Some c
    → body ≡ reply_body p (version_of old).rows (asked_ciphertexts r) → IsEntered old new c body told → IsAnsweredAlone p old new r told
entered p old new r c body told is asked e =
    let v = version_of old in
    let made = call-made v r c e.room is in
    record {
      reply =
          e.tells ∙ (λ i. reply_telling (e.stepped.answered i) (length old.journal) (asked i))
          ∙ sym (ap (reply_by p v r) made);
      version = e.stepped.version ∙ sym (ap (version_by v) made);
      entries =
          e.stepped.journal ∙ ap (λ (a : Answer). old.journal ++ record { call = c; answer = a } ∷ []) e.stepped.answered
          ∙ sym (ap (λ (o : Option Call). old.journal ++ entries_by v o) made);
      parameters = e.stepped.same_parameters;
      start = e.stepped.same_start;
    }

-- a request that makes no call, and changes nothing
uncalled : (p : Parameters) (old new : Contents CacheOf) (r : Request) (told : Reply) → call_on (version_of old) r ≡ None → version_of new ≡ version_of old → new.journal ≡ old.journal
    → new.parameters ≡ old.parameters → new.start ≡ old.start → told ≡ reply.Refused (refusal_code (code_of r)) → IsAnsweredAlone p old new r told
uncalled p old new r told none same journal parameters start is =
    let v = version_of old in
    record {
      reply = is ∙ sym (ap (reply_by p v r) none);
      version = same ∙ sym (ap (version_by v) none);
      entries = journal ∙ sym (append-nil old.journal) ∙ sym (ap (λ (o : Option Call). old.journal ++ entries_by v o) none);
      parameters = parameters;
      start = start;
    }

-- a full journal takes no call
full-none : (v : Version) (r : Request) → most_entries ≤ v.count → call_on v r ≡ None
unfolding call_on
full-none v r full = let test : nat_lt v.count most_entries ≡ false = le-ltb v.count most_entries full in rw test refl

-- a request with a code makes none
coded-none : (v : Version) (session number code : ℕ) → call_on v (request.Bad session number code) ≡ None
unfolding call_on
coded-none v session number code = either (nat_lt v.count most_entries) None where
  either : (b : Bool) (o : Option Call) → (if b then o else o) ≡ o
  either true o = refl
  either false o = refl

-- a request whose call met a full journal
met_full : (p : Parameters) (old new : Contents CacheOf) (r : Request) (told : Reply) → code_of r ≡ None → IsFull old new told → IsAnsweredAlone p old new r told
met_full p old new r told uncoded f =
    uncalled p old new r told (full-none (version_of old) r f.full) (ap version_of f.kept) (ap (λ (h : Contents CacheOf). h.journal) f.kept) (ap (λ (h : Contents CacheOf). h.parameters) f.kept)
    (ap (λ (h : Contents CacheOf). h.start) f.kept) (f.tells ∙ ap (λ (o : Option ℕ). reply.Refused (refusal_code o)) (sym uncoded))

pub answered : (p : Parameters) (old new : Contents CacheOf) (r : Request) (c : Call) (body : List ℕ) (told : Reply) → code_of r ≡ None → call_of r (length old.journal) ≡ Some c
    → body ≡ reply_body p (version_of old).rows (asked_ciphertexts r) → IsCalled old new c body told → IsAnsweredAlone p old new r told
answered p old new r c body told uncoded is asked (inl e) = entered p old new r c body told is asked e
answered p old new r c body told uncoded is asked (inr f) = met_full p old new r told uncoded f

-- a request with a code
pub coded : (p : Parameters) (h : Contents CacheOf) (session number code : ℕ) → IsAnsweredAlone p h h (request.Bad session number code) (reply.Refused code)
coded p h session number code = uncalled p h h (request.Bad session number code) (reply.Refused code) (coded-none (version_of h) session number code) refl refl refl refl refl

-- a reply without a `from` tells no row that moved
pub no_from-no_moved : (r : Reply) → from_of r ≡ None → IsNoMoved r
no_from-no_moved r none = λ place from stamp is. let some = ap from_of is in absurd (cc)
