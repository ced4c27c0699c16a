use Rattle.std.proofs.Common.{ℕ, arith, length-take}
use Rattle.std.proofs.lemmas.Result.{err_from_is_err_and}
use Rattle.psi_outside.proofs.Pieces.{taken_kept, taken_more, within_more}
use Rattle.psi_outside.proofs.reading.read_all.Goals as goal

pub returns-in_err-count-clause-front : goal.returns-in_err-count-clause-front
returns-in_err-count-clause-front g c = taken_kept _ _ _ _ _ c.loop-bytes.invariant.read c.in_err-count.ensures.refused

pub returns-in_err-append-clause-front : goal.returns-in_err-append-clause-front
returns-in_err-append-clause-front g c = taken_more _ _ _ _ _ _ c.loop-bytes.invariant.read c.in_ok-count.ensures.bytes.0

pub returns-in_err-append-clause-within : goal.returns-in_err-append-clause-within
returns-in_err-append-clause-within g c =
    let exit = err_from_is_err_and c.from_residual-in_err-append.result c.from_residual-in_err-append.ensures.1 in
    rw (exit.1, exit.2) (within_more _ _ _ _ _ _ c.args.limit c.in_err-append.ensures.no_fault c.loop-bytes.invariant.bound
    (omega (arith, c.in_ok-count.ensures.bound.0, length-take {A = ℕ})) c.loop-bytes.invariant.read c.in_ok-count.ensures.bytes.0)
