use Rattle.query_pool.proofs.Going.{counted-with}
use Rattle.query_pool.proofs.run.Run.take_frame.Goals as goal

pub serve_round-requires-clause-round : goal.serve_round-requires-clause-round
serve_round-requires-clause-round g c = rw c.in_ok-push.ensures.kind (counted-with _ _ _ c.args.frame c.in_ok-push.ensures.pushed _ c.requires.open_round)
