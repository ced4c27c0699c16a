-- The turns of a follower that is fed segments of one legal history.
use Rattle.std.specs.Prelude.{◌≡◌, ℕ, ◌≤◌, List, [], ◌∷◌, length, take, drop, Result, Ok, Err}
use Rattle.std.specs.List.{All, AllPairs}
use Rattle.std.proofs.Common.{refl, sym, ap, ◌∙◌, subst, arith}
use Rattle.std.proofs.lemmas.List.Elements.{All-head, All-tail, All-cons, All-nil, All-weaker}
use Rattle.std.proofs.lemmas.List.Kept.{AllPairs-cons}
use Rattle.psi_residue.specs.Parameters.{Parameters}
use Rattle.psi_bundle.specs.declared.history.Entry.{Entry}
use Rattle.psi_bundle.specs.Versions.{empty_version}
use Rattle.psi_bundle.specs.Histories.{IsLegal}
use Rattle.sender_core.specs.declared.answers.Placed.{Placed}
use Rattle.psi_follower.specs.declared.follower.FeedFault.{FeedFault}
use Rattle.psi_follower.specs.declared.follower.FeedFault.TheVariants as feed_fault
use Rattle.psi_follower.specs.declared.follower.AnswerFault.{AnswerFault}
use Rattle.psi_follower.specs.declared.follower.AnswerFault.TheVariants as answer_fault
use Rattle.psi_follower.specs.Taking.{IsFed}
use Rattle.psi_follower.specs.Answering.{IsAnswered, body_after}
use Rattle.psi_follower.specs.Replicas.{Turn, fed, asked, Turns, Run, IsOf, IsNotDiffering, IsOfPrefix, IsRight, HasAtLeast, IsNoOlder}
use Rattle.psi_follower.proofs.Segments.{IsFront, segment-front, segment-all, front-none, front-length, front-take, front-taken, none-refused}

-- what one turn leaves: it is right, a front is kept, no shorter one
record IsKept (p : Parameters) (history old : List Entry) (t : Turn) (new : List Entry) : Type 0 where
  right : IsRight p history t
  front : IsFront history new
  longer : length old ≤ length new

module _ (p : Parameters) (history : List Entry) (legal : IsLegal (empty_version p) history) where
  fed-kept : (old : List Entry) (first n : ℕ) (entries : List Entry) (told : Result ℕ FeedFault) (new : List Entry) → IsFront history old → entries ≡ take n (drop first history)
      → IsFed (empty_version p) old first entries told new → IsKept p history old (fed first entries told) new
  fed-kept old first n entries (Ok have) new f is h =
      let more = front-taken history (empty_version p) old first f entries new (segment-all history first n entries is) h.0 in
      record { right = tt; front = more.0; longer = more.1 }
  fed-kept old first n entries (Err (feed_fault.Gap have)) new f is h = record {
    right = tt;
    front = subst (IsFront history) (sym h.2) f;
    longer = omega (arith, ap length h.2);
  }
  fed-kept old first n entries (Err (feed_fault.Differs place)) new f is h = absurd (none-refused history (empty_version p) old first f entries new place legal (segment-all history first n entries is) h)
  fed-kept old first n entries (Err feed_fault.NoMemory) new f is h =
      let more = front-taken history (empty_version p) old first f (take h.0 entries) new (segment-front history first h.0 entries (segment-all history first n entries is)) h.1 in
      record { right = tt; front = more.0; longer = more.1 }

  asked-right : (old : List Entry) (floor : ℕ) (query : List (List (List ℕ))) (told : Result (Placed (List ℕ)) AnswerFault) → IsFront history old → IsAnswered p old floor query told → IsOfPrefix p history floor query told
  asked-right old floor query (Ok told) f h = (
    omega (arith, h.0, h.1),
    omega (arith, h.1, front-length history old f),
    h.2 ∙ ap (λ (es : List Entry). body_after p es query) (front-take history old f ∙ ap (λ (k : ℕ). take k history) (sym h.1)),
  )
  asked-right old floor query (Err fault) f h = tt

  kept : (old : List Entry) (t : Turn) (new : List Entry) → IsFront history old → IsOf history t → Turns p old t new → IsKept p history old t new
  kept old (fed first entries told) new f of h = fed-kept old first of.0 entries told new f of.1 h
  kept old (asked floor query told) new f of h = record {
    right = asked-right old floor query told f h.1;
    front = subst (IsFront history) (sym h.0) f;
    longer = omega (arith, ap length h.0);
  }

  fewer : (m n : ℕ) → m ≤ n → (t : Turn) → HasAtLeast n t → HasAtLeast m t
  fewer m n le (fed first entries told) h = tt
  fewer m n le (asked floor query (Ok told)) h = omega (arith, le, h)
  fewer m n le (asked floor query (Err fault)) h = tt

  -- an answer is from all that is kept
  at_least : (old : List Entry) (t : Turn) (new : List Entry) → Turns p old t new → HasAtLeast (length old) t
  at_least old (fed first entries told) new h = tt
  at_least old (asked floor query (Ok told)) new h = omega (arith, h.1.1)
  at_least old (asked floor query (Err fault)) new h = tt

  no_older : (old : List Entry) (t : Turn) (new : List Entry) (ts : List Turn) → Turns p old t new → All (HasAtLeast (length old)) ts → All (IsNoOlder t) ts
  no_older old (fed first entries told) new ts h later = λ k d lt. tt
  no_older old (asked floor query (Ok told)) new ts h later = subst (λ (n : ℕ). All (HasAtLeast n) ts) (sym h.1.1) later
  no_older old (asked floor query (Err fault)) new ts h later = λ k d lt. tt

  -- all turns
  record AreKept (old : List Entry) (ts : List Turn) : Type 0 where
    right : All (IsRight p history) ts
    later : All (HasAtLeast (length old)) ts
    ordered : AllPairs IsNoOlder ts

  all-kept : (ts : List Turn) (old : List Entry) → IsFront history old → All (IsOf history) ts → Run p old ts → AreKept old ts
  all-kept [] old f of h = record {
    right = All-nil (IsRight p history);
    later = All-nil (HasAtLeast (length old));
    ordered = λ i j d before lt. absurd (omega (arith, lt));
  }
  all-kept (t ∷ ts) old f of h =
      let one = kept old t h.0 f (All-head (IsOf history) t ts of) h.1 in
      let rest = all-kept ts h.0 one.front (All-tail (IsOf history) t ts of) h.2 in
      let later : All (HasAtLeast (length old)) ts = λ k d lt. fewer (length old) (length h.0) one.longer _ (rest.later k d lt) in record {
        right = All-cons (IsRight p history) t ts one.right rest.right;
        later = All-cons (HasAtLeast (length old)) t ts (at_least old t h.0 h.1) later;
        ordered = AllPairs-cons IsNoOlder t ts (no_older old t h.0 ts h.1 later) rest.ordered;
      }

  pub replicates : (ts : List Turn) → All (IsOf history) ts → Run p [] ts → All (IsRight p history) ts × AllPairs IsNoOlder ts
  replicates ts of h =
      let all = all-kept ts [] (front-none history) of h in
      (all.right, all.ordered)
