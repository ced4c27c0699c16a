use Rattle.std.specs.Prelude.{⊤}
use Rattle.std.proofs.Common.{◌∙◌, ap, sym}
use Rattle.std.proofs.lemmas.Result.{err_from_is_err_and}
use Rattle.psi_frames.specs.Feeds.{Feeding}
use Rattle.query_pool.proofs.Going.{round-open, stands-take, stops-take}
use Rattle.query_pool.proofs.run.Run.drain.Goals as goal

pub take_frame-requires-clause-open_round : goal.take_frame-requires-clause-open_round
take_frame-requires-clause-open_round g c =
    rw c.loop-frame.invariant.kind
    (round-open _ _ _ _ _ _ _ c.loop-frame.invariant.standing.stands c.in-Some.frame c.next.new.self.ready (ap (λ (f : Feeding). f.ready) c.in-Some.ensures.taken))

pub loop-frame-preserved : goal.loop-frame-preserved
loop-frame-preserved g c =
    let inv = c.loop-frame.invariant in
    let takes = rw inv.kind at c.in_ok-take_frame.ensures.takes in
    record {
      standing = record { mark = inv.standing.mark; bytes = inv.standing.bytes; stands = stands-take _ _ _ _ _ _ _ _ _ _ _ _ inv.standing.stands c.in-Some.ensures.taken c.in-Some.ensures.fed takes };
      goes = λ mark bytes stands. stands-take _ _ _ mark bytes _ _ _ _ _ _ _ (inv.goes mark bytes stands) c.in-Some.ensures.taken c.in-Some.ensures.fed takes;
      fault = sym (ap (λ (f : Feeding). f.fault) c.in-Some.ensures.taken) ∙ inv.fault;
      under = c.in_ok-take_frame.ensures.under;
      kind = c.in_ok-take_frame.ensures.kind ∙ inv.kind;
    }

pub returns-in_err-take_frame-clause-stops : goal.returns-in_err-take_frame-clause-stops
returns-in_err-take_frame-clause-stops g c =
    let inv = c.loop-frame.invariant in
    let stops = rw inv.kind at c.in_err-take_frame.ensures.stops in
    let exit = err_from_is_err_and c.from_residual.result c.from_residual.ensures.1 in
    rw (exit.1, exit.2) (λ mark bytes stands. stops-take _ _ (λ rounds sents waiting. ⊤) mark bytes _ _ _ _ _ _ _ (inv.goes mark bytes stands) c.in-Some.ensures.taken c.in-Some.ensures.fed _ stops)
