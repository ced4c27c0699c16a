use Rattle.std.proofs.Common.{◌∙◌, ◌++◌, take}
use Rattle.std.proofs.KnownBytes.{Appends-trans}
use Rattle.psi_outside.proofs.Pieces.{moves_front, front_done, on_err}
use Rattle.psi_outside.proofs.writing.write_pieces.Goals as goal

pub returns-in_err-count-clause-front : goal.returns-in_err-count-clause-front
returns-in_err-count-clause-front g c =
    let (done, split, appended) = c.loop-rest.invariant.front in
    on_err _ _ (front_done _ _ _ _ done _ split appended c.in_err-count.ensures.bytes)

pub loop-rest-preserved : goal.loop-rest-preserved
loop-rest-preserved g c =
    let (done, split, appended) = c.loop-rest.invariant.front in
    let rest = c.loop-rest.rest.now in
    let n = c.in_ok-count.count in
    record {
      front = (done ++ take n rest, moves_front _ done rest n split, Appends-trans _ _ _ _ _ appended c.in_ok-count.ensures.bytes);
      faults = c.in_ok-count.ensures.cause.kept ∙ c.loop-rest.invariant.faults;
      flushed = c.in_ok-count.ensures.flushed ∙ c.loop-rest.invariant.flushed;
    }
