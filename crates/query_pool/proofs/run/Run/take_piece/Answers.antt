use Rattle.std.proofs.Common.{◌∙◌}
use Rattle.std.proofs.lemmas.Result.{err_from_is_err_and}
use Rattle.query_pool.proofs.Pieces.{bad-same, room-limit, stands-heard, stands-whole, stops-drain, stops-hear, stops-piece}
use Rattle.query_pool.proofs.run.Run.take_piece.Goals as goal

pub returns-in_err-is_good-clause-stops : goal.returns-in_err-is_good-clause-stops
returns-in_err-is_good-clause-stops g c =
    let exit = err_from_is_err_and c.from_residual.result c.from_residual.ensures.1 in
    rw (exit.1, exit.2) (λ mark bytes stands e. stops-hear _ _ mark bytes c.args.piece.now c.args.room _ _ _ stands e)

pub drain-requires-clause-standing : goal.drain-requires-clause-standing
drain-requires-clause-standing g c =
    let s = c.requires.standing in
    record { mark = s.mark; bytes = _; stands = stands-heard _ _ s.mark s.bytes _ _ _ _ _ s.stands c.in_ok-is_good.ensures.fed c.hear.ensures.table (room-limit s.bytes c.args.piece.now c.args.room s.room_is) }

pub returns-in_err-drain-clause-stops : goal.returns-in_err-drain-clause-stops
returns-in_err-drain-clause-stops g c =
    let exit = err_from_is_err_and c.from_residual-in_err-drain.result c.from_residual-in_err-drain.ensures.1 in
    rw (exit.1, exit.2) (λ mark bytes stands e.
    stops-drain _ mark bytes c.args.piece.now c.args.room _ _ _ _
    (c.in_err-drain.ensures.stops mark _ (stands-heard _ _ mark bytes _ _ _ _ _ stands c.in_ok-is_good.ensures.fed c.hear.ensures.table (room-limit bytes c.args.piece.now c.args.room e))))

pub returns-then-is_good-clause-goes : goal.returns-then-is_good-clause-goes
returns-then-is_good-clause-goes g c = λ mark bytes stands e.
    stands-whole _ _ mark bytes c.args.piece.now c.args.room _ _ _ (c.in_ok-is_good.ensures.whole c.if-is_good.true)
    (c.in_ok-drain.ensures.goes mark _ (stands-heard _ _ mark bytes _ _ _ _ _ stands c.in_ok-is_good.ensures.fed c.hear.ensures.table (room-limit bytes c.args.piece.now c.args.room e)))

pub last_round-requires-clause-standing : goal.last_round-requires-clause-standing
last_round-requires-clause-standing g c =
    let s = c.requires.standing in
    let heard = stands-heard _ _ s.mark s.bytes _ _ _ _ _ s.stands c.in_ok-is_good.ensures.fed c.hear.ensures.table (room-limit s.bytes c.args.piece.now c.args.room s.room_is) in
    (c.drain.new.feed, rw c.in_ok-drain.ensures.kind (record { mark = s.mark; bytes = _; stands = c.in_ok-drain.ensures.goes s.mark _ heard }))

pub returns-in_err-last_round-clause-stops : goal.returns-in_err-last_round-clause-stops
returns-in_err-last_round-clause-stops g c =
    let exit = err_from_is_err_and c.from_residual-in_err-last_round.result c.from_residual-in_err-last_round.ensures.1 in
    let stops = rw c.in_ok-drain.ensures.kind at c.in_err-last_round.ensures.stops in
    rw (exit.1, exit.2) (λ mark bytes stands e.
    stops-piece _ mark bytes c.args.piece.now c.args.room _ _ _ _ (bad-same c.hear.new.feed c.drain.new.feed c.args.room c.args.piece.now c.in_ok-drain.ensures.fault (c.in_ok-is_good.ensures.bad c.if-is_good.false))
    (stops mark _ _ c.in_ok-drain.ensures.taken
    (c.in_ok-drain.ensures.goes mark _ (stands-heard _ _ mark bytes _ _ _ _ _ stands c.in_ok-is_good.ensures.fed c.hear.ensures.table (room-limit bytes c.args.piece.now c.args.room e)))))

pub returns-clause-stops : goal.returns-clause-stops
returns-clause-stops g c =
    let all = rw c.in_ok-drain.ensures.kind at c.in_ok-last_round.ensures.all in
    λ mark bytes stands e. (
      all mark _ _ c.in_ok-drain.ensures.taken
          (c.in_ok-drain.ensures.goes mark _ (stands-heard _ _ mark bytes _ _ _ _ _ stands c.in_ok-is_good.ensures.fed c.hear.ensures.table (room-limit bytes c.args.piece.now c.args.room e))),
      bad-same c.hear.new.feed c.drain.new.feed c.args.room c.args.piece.now c.in_ok-drain.ensures.fault (c.in_ok-is_good.ensures.bad c.if-is_good.false),
    )
