use Rattle.std.proofs.Common.{◌∙◌, ◌++◌, length-append, take, arith, inl, inr, refl}
use Rattle.std.proofs.KnownBytes.{Consumes-kept, Consumes-trans}
use Rattle.std.proofs.lemmas.Result.{err_from_is_err_and}
use Rattle.query_pool.proofs.Leaving.{at-read_fault, caught-up, end-consumed, end-left, end-told, leaves-end, leaves-last, leaves-new, leaves-piece, new-hears, one-failed, one-piece, stands-here}
use Rattle.query_pool.proofs.run.Run.serve_all.Goals as goal

pub returns-in_err-feed : goal.returns-in_err-feed
returns-in_err-feed g c =
    let exit = err_from_is_err_and c.from_residual.result c.from_residual.ensures.1 in
    rw (exit.1, exit.2) (leaves-new _ _ _ _ c.requires.new c.requires.begins)

pub loop-self-init : goal.loop-self-init
loop-self-init g c = record {
  hearing = new-hears _ _ _ _ _ c.requires.new c.requires.begins c.in_ok-feed.ensures.fed c.in_ok-feed.ensures.requests;
  under = c.requires.under;
  kind = refl;
}

pub take_piece-requires-clause-standing : goal.take_piece-requires-clause-standing
take_piece-requires-clause-standing g c =
    let h = c.loop-self.invariant.hearing in
    rw c.loop-self.invariant.kind (record { mark = _; bytes = h.bytes; stands = h.stands; room_is = h.room_is })

pub last_round-requires-clause-standing : goal.last_round-requires-clause-standing
last_round-requires-clause-standing g c =
    let h = c.loop-self.invariant.hearing in
    rw c.loop-self.invariant.kind (c.loop-self.feed, record { mark = _; bytes = h.bytes; stands = h.stands })

pub loop-self-preserved : goal.loop-self-preserved
loop-self-preserved g c =
    let h = c.loop-self.invariant.hearing in
    let piece = take c.in-Ok.count c.read.new.buf in
    let left = c.in_ok-room-in-Ok.ensures.left in
    let goes = rw c.loop-self.invariant.kind at c.in_ok-room-in-Ok.ensures.goes in
    record {
      hearing = record {
        bytes = h.bytes ++ piece;
        stands = goes _ h.bytes h.stands h.room_is;
        room_is = omega (arith, left, h.room_is, length-append h.bytes piece);
        none_ready = c.in_ok-room-in-Ok.ensures.taken;
        faultless = c.in_ok-room-in-Ok.ensures.faultless;
        consumed = Consumes-trans _ _ _ h.bytes piece h.consumed c.in-Ok.ensures.bytes.0;
        no_read_failed = c.in-Ok.ensures.cause.kept ∙ h.no_read_failed;
      };
      under = c.in_ok-room-in-Ok.ensures.under;
      kind = c.in_ok-room-in-Ok.ensures.kind ∙ c.loop-self.invariant.kind;
    }

pub returns-in_err-last_round-in-Ok-eq0 : goal.returns-in_err-last_round-in-Ok-eq0
returns-in_err-last_round-in-Ok-eq0 g c =
    let h = c.loop-self.invariant.hearing in
    let none = c.in-Ok-eq0.field-0-test in
    let last = c.in-Ok-eq0.ensures.bytes.0 in
    let stops = rw c.loop-self.invariant.kind at c.in_err-last_round-in-Ok-eq0.ensures.stops in
    let exit = err_from_is_err_and c.from_residual-in_err-last_round-in-Ok-eq0.result c.from_residual-in_err-last_round-in-Ok-eq0.ensures.1 in
    rw (exit.1, exit.2)
    (leaves-last _ _ _ _ c.loop-self.feed h.bytes _
    (end-consumed _ _ _ h.bytes _ c.read.new.buf none h.consumed last)
    (caught-up _ _ _ h.bytes _ _ _ h.stands h.none_ready h.faultless)
    (inl (c.in-Ok-eq0.ensures.cause.kept ∙ h.no_read_failed, end-left _ _ _ h.bytes _ c.read.new.buf none h.consumed last c.in-Ok-eq0.ensures.end)) _
    (stops _ h.bytes c.loop-self.feed h.none_ready (stands-here _ _ _ h.bytes _ _ _ h.stands)))

pub returns-in-Ok-eq0 : goal.returns-in-Ok-eq0
returns-in-Ok-eq0 g c =
    let h = c.loop-self.invariant.hearing in
    let none = c.in-Ok-eq0.field-0-test in
    let last = c.in-Ok-eq0.ensures.bytes.0 in
    let all = rw c.loop-self.invariant.kind at c.in_ok-last_round-in-Ok-eq0.ensures.all in
    leaves-end _ _ _ _ c.loop-self.feed h.bytes _ c.end.result
    (all _ h.bytes c.loop-self.feed h.none_ready h.stands)
    (end-told _ _ _ h.bytes _ c.read.new.buf none h.consumed last c.in-Ok-eq0.ensures.end)
    (end-left _ _ _ h.bytes _ c.read.new.buf none h.consumed last c.in-Ok-eq0.ensures.end)
    (c.in-Ok-eq0.ensures.cause.kept ∙ h.no_read_failed) c.end.ensures.ok c.end.ensures.err

pub returns-in_err-room-in-Ok : goal.returns-in_err-room-in-Ok
returns-in_err-room-in-Ok g c =
    let h = c.loop-self.invariant.hearing in
    let piece = take c.in-Ok.count c.read.new.buf in
    let stops = rw c.loop-self.invariant.kind at c.in_err-room-in-Ok.ensures.stops in
    let exit = err_from_is_err_and c.from_residual-in_err-room-in-Ok.result c.from_residual-in_err-room-in-Ok.ensures.1 in
    rw (exit.1, exit.2)
    (leaves-piece _ _ _ _ c.take_piece.new.feed h.bytes piece c.loop-self.room _ h.room_is
    (Consumes-trans _ _ _ h.bytes piece h.consumed c.in-Ok.ensures.bytes.0) (c.in-Ok.ensures.cause.kept ∙ h.no_read_failed)
    (one-piece c.in-Ok.count c.read.new.buf (omega (arith, c.in-Ok.ensures.bound, c.read.auto.buf)))
    (caught-up _ _ _ h.bytes _ _ _ h.stands h.none_ready h.faultless) _
    (stops _ h.bytes (stands-here _ _ _ h.bytes _ _ _ h.stands) h.room_is))

pub returns-in_err-last_round-in-Err : goal.returns-in_err-last_round-in-Err
returns-in_err-last_round-in-Err g c =
    let h = c.loop-self.invariant.hearing in
    let stops = rw c.loop-self.invariant.kind at c.in_err-last_round-in-Err.ensures.stops in
    let exit = err_from_is_err_and c.from_residual-in_err-last_round-in-Err.result c.from_residual-in_err-last_round-in-Err.ensures.1 in
    rw (exit.1, exit.2)
    (leaves-last _ _ _ _ c.loop-self.feed h.bytes _
    (Consumes-kept _ _ _ h.bytes h.consumed c.in-Err.ensures.refused)
    (caught-up _ _ _ h.bytes _ _ _ h.stands h.none_ready h.faultless)
    (inr (one-failed _ _ _ h.no_read_failed c.in-Err.ensures.cause.failed)) _
    (stops _ h.bytes c.loop-self.feed h.none_ready (stands-here _ _ _ h.bytes _ _ _ h.stands)))

pub returns-in-Err : goal.returns-in-Err
returns-in-Err g c =
    let h = c.loop-self.invariant.hearing in
    let all = rw c.loop-self.invariant.kind at c.in_ok-last_round-in-Err.ensures.all in
    λ served entries replies.
    at-read_fault _ _ _ _ c.loop-self.feed h.bytes _ served entries replies
    (all _ h.bytes c.loop-self.feed h.none_ready h.stands) h.faultless
    (Consumes-kept _ _ _ h.bytes h.consumed c.in-Err.ensures.refused) (one-failed _ _ _ h.no_read_failed c.in-Err.ensures.cause.failed)
