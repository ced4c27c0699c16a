-- Seats split off, and seats taken in, one more at a time.
use Rattle.std.specs.Prelude.{◌≡◌, ℕ, zero, suc, ◌+◌, ◌-◌, ◌/◌, ◌^◌, ◌≤◌, List, [], ◌∷◌, ◌++◌, length, map}
use Rattle.std.specs.Global.{Vec}
use Rattle.std.proofs.Common.{refl, sym, ap, ◌∙◌, subst, arith, append_assoc, append-nil}
use Rattle.std.proofs.lemmas.List.{flat_map_more, map-append}
use Rattle.std.proofs.lemmas.List.Elements.{All-nil, All-push, All-weaker}
use Rattle.std.proofs.lemmas.List.Sums.{sum_by_push}
use Rattle.psi_turnstile.specs.Counting.{IsPrefix}
use Rattle.psi_turnstile.specs.Knowing.{Follows, joined, keeps_rest, saw, takes_half}
use Rattle.psi_frames.specs.declared.reply.Reply.{Reply}
use Rattle.live_sender.specs.Turns.{Known}
use Rattle.query_pool.specs.declared.jobs.Job.{Job}
use Rattle.query_pool.specs.declared.jobs.Work.{Work}
use Rattle.query_pool.specs.declared.lane.Done.{Done}
use Rattle.query_pool.specs.Seats.{AreCut, AreMet, IsFresh, doubled}

pub prefix-trans : {X : Type 0} (xs ys zs : List X) → IsPrefix xs ys → IsPrefix ys zs → IsPrefix xs zs
prefix-trans {X} xs ys zs p q = (p.0 ++ q.0, q.1 ∙ ap (λ (l : List X). l ++ q.0) p.1 ∙ append_assoc xs p.0 q.0)

pub cut-none : (v : Known) → AreCut v v []
cut-none v = record { same = refl; shares = omega arith; each = All-nil (IsFresh v) }

pub cut-more : (v left : Known) (seats : List Known) → AreCut v left seats → AreCut v (keeps_rest left) (seats ++ takes_half left ∷ [])
cut-more v left seats c =
    let sum = sum_by_push (λ (s : Known). s.share) seats (takes_half left) in
    let fresh : IsFresh v (takes_half left) = record { base = ap (λ (k : Known). k.base) c.same; seen = ap (λ (k : Known). k.seen) c.same; taken = refl; own = refl } in
    record {
      same = ap (λ (k : Known). record k { share = left.share - left.share / 2 }) c.same;
      shares = omega (arith, sum, c.shares);
      each = All-push (IsFresh v) seats (takes_half left) c.each fresh;
    }

pub meet-none : (v : Known) → AreMet v v []
meet-none v = record {
  base = refl;
  opening = refl;
  share = omega arith;
  own = sym (append-nil v.own);
  seen = ([], sym (append-nil v.seen));
  each = All-nil (λ (s : Known). IsPrefix s.seen v.seen);
}

pub meet-more : (v u note next : Known) (seats : List Known) → AreMet v u seats → next ≡ saw next.seen (joined u note) → Follows next.seen u → Follows next.seen note
    → AreMet v next (seats ++ note ∷ [])
meet-more v u note next seats m looked follows theirs =
    let sum = sum_by_push (λ (s : Known). s.share) seats note in
    let share : next.share ≡ u.share + note.share = ap (λ (k : Known). k.share) looked in
    let own : next.own ≡ u.own ++ note.own = ap (λ (k : Known). k.own) looked in
    record {
      base = ap (λ (k : Known). k.base) looked ∙ m.base;
      opening = ap (λ (k : Known). k.opening) looked ∙ m.opening;
      share = omega (arith, sum, share, m.share);
      own = own ∙ ap (λ (xs : List ℕ). xs ++ note.own) m.own ∙ flat_map_more (λ (s : Known). s.own) v.own seats note;
      seen = prefix-trans v.seen u.seen next.seen m.seen follows.seen;
      each = All-push (λ (s : Known). IsPrefix s.seen next.seen) seats note
          (All-weaker (λ (s : Known). IsPrefix s.seen u.seen) (λ (s : Known). IsPrefix s.seen next.seen) (λ s p. prefix-trans s.seen u.seen next.seen p follows.seen) seats m.each) theirs.seen;
    }

pub doubled-up : (m n : ℕ) → m ≤ n → doubled m ≤ doubled n
doubled-up zero zero le = omega arith
doubled-up zero (suc n) le = let rest = doubled-up zero n (omega arith) in omega (arith, rest)
doubled-up (suc m) zero le = absurd (omega (arith, le))
doubled-up (suc m) (suc n) le = let rest = doubled-up m n (omega (arith, le)) in omega (arith, rest)

pub some-share : (n : ℕ) → 1 ≤ doubled n
some-share n = doubled-up zero n (omega arith)

-- Of the threads that are done these are left; the seats of the others are taken in, and their replies are there.
pub record MeetsSoFar (v u : Known) (all left : List Done) (replies : List (Vec Reply)) : Type 0 where
  pub done : List Done
  pub split : all ≡ done ++ left
  pub met : AreMet v u (map (λ d. d.seat.knows) done)
  pub replies_are : replies ≡ map (λ d. d.replies) done

pub meets-none : (v : Known) (all : List Done) (replies : List (Vec Reply)) → replies ≡ [] → MeetsSoFar v v all all replies
meets-none v all replies none = record { done = []; split = refl; met = meet-none v; replies_are = none }

pub meets-more : (v u next : Known) (all left : List Done) (d : Done) (replies after : List (Vec Reply)) → MeetsSoFar v u all (d ∷ left) replies
    → next ≡ saw next.seen (joined u d.seat.knows) → Follows next.seen u → Follows next.seen d.seat.knows → after ≡ replies ++ d.replies ∷ [] → MeetsSoFar v next all left after
meets-more v u next all left d replies after h looked follows theirs more = record {
  done = h.done ++ d ∷ [];
  split = h.split ∙ sym (append_assoc h.done (d ∷ []) left);
  met = subst (AreMet v next) (sym (map-append (λ (e : Done). e.seat.knows) h.done (d ∷ []))) (meet-more v u d.seat.knows next (map (λ e. e.seat.knows) h.done) h.met looked follows theirs);
  replies_are = more ∙ ap (λ (rs : List (Vec Reply)). rs ++ d.replies ∷ []) h.replies_are ∙ sym (map-append (λ (e : Done). e.replies) h.done (d ∷ []));
}

-- all are taken in
meets-done : (v u : Known) (all left : List Done) (replies : List (Vec Reply)) (h : MeetsSoFar v u all left replies) → left ≡ [] → h.done ≡ all
meets-done v u all left replies h none = sym (h.split ∙ ap (λ (ds : List Done). h.done ++ ds) none ∙ append-nil h.done)

pub meets-seats : (v u : Known) (all left : List Done) (replies : List (Vec Reply)) → MeetsSoFar v u all left replies → left ≡ [] → AreMet v u (map (λ d. d.seat.knows) all)
meets-seats v u all left replies h none = subst (λ (ds : List Done). AreMet v u (map (λ d. d.seat.knows) ds)) (meets-done v u all left replies h none) h.met

pub meets-replies : (v u : Known) (all left : List Done) (replies : List (Vec Reply)) → MeetsSoFar v u all left replies → left ≡ [] → replies ≡ map (λ d. d.replies) all
meets-replies v u all left replies h none = h.replies_are ∙ ap (map (λ (d : Done). d.replies)) (meets-done v u all left replies h none)

-- Of the works these are left; the others have jobs, and for these there is a share.
pub record CutsSoFar (v u : Known) (all left : List Work) (jobs : List Job) : Type 0 where
  pub works : all ≡ map (λ j. j.work) jobs ++ left
  pub seats : AreCut v u (map (λ j. j.seat.knows) jobs)
  pub share : doubled (length left) ≤ u.share

pub cuts-none : (v : Known) (all : List Work) (jobs : List Job) → jobs ≡ [] → doubled (length all) ≤ v.share → CutsSoFar v v all all jobs
cuts-none v all jobs none share = subst (CutsSoFar v v all all) (sym none) (record { works = refl; seats = cut-none v; share = share })

-- there is a share for one split more
pub cuts-two : (v u : Known) (all left : List Work) (w : Work) (jobs : List Job) → CutsSoFar v u all (w ∷ left) jobs → 2 ≤ u.share
cuts-two v u all left w jobs h = let one = some-share (length left) in let share = h.share in omega (arith, one, share)

pub cuts-more : (v u next : Known) (all left : List Work) (w : Work) (j : Job) (jobs after : List Job) → CutsSoFar v u all (w ∷ left) jobs → next ≡ keeps_rest u → j.seat.knows ≡ takes_half u → j.work ≡ w
    → after ≡ jobs ++ j ∷ [] → CutsSoFar v next all left after
cuts-more v u next all left w j jobs after h rest half work more = subst (CutsSoFar v next all left) (sym more) (record {
  works =
      h.works ∙ ap (λ (k : Work). map (λ i. i.work) jobs ++ k ∷ left) (sym work) ∙ sym (append_assoc (map (λ i. i.work) jobs) (j.work ∷ []) left)
      ∙ ap (λ (ws : List Work). ws ++ left) (sym (map-append (λ (i : Job). i.work) jobs (j ∷ [])));
  seats =
      subst (λ (t : Known × List Known). AreCut v t.0 t.1) (λ i. (sym rest i, sym (map-append (λ (k : Job). k.seat.knows) jobs (j ∷ []) ∙ ap (λ (k : Known). map (λ i. i.seat.knows) jobs ++ k ∷ []) half) i))
      (cut-more v u (map (λ i. i.seat.knows) jobs) h.seats);
  share = let kept : next.share ≡ u.share - u.share / 2 = ap (λ (k : Known). k.share) rest in let share = h.share in omega (arith, kept, share);
})

-- all have jobs
pub cuts-works : (v u : Known) (all left : List Work) (jobs : List Job) → CutsSoFar v u all left jobs → left ≡ [] → map (λ j. j.work) jobs ≡ all
cuts-works v u all left jobs h none = sym (h.works ∙ ap (λ (ws : List Work). map (λ j. j.work) jobs ++ ws) none ∙ append-nil (map (λ j. j.work) jobs))

-- the whole share is enough for the seats of a round
pub share-enough : (n share : ℕ) → n ≤ 12 → share ≡ 2 ^ 32 → doubled n ≤ share
share-enough n share few whole = let most = doubled-up n 12 few in let size : doubled 12 ≡ 4096 = refl in omega (arith, most, size, whole)
