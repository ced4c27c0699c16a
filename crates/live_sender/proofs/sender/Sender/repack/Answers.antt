use Rattle.live_sender.proofs.sender.Sender.repack.Goals as goal

pub turn-requires-clause-can : goal.turn-requires-clause-can
turn-requires-clause-can g c κs within = λ z e. (c.requires.of_history z e, c.requires.packed z e)
