use Rattle.std.proofs.Common.{◌+◌, ◌-◌, ◌*◌}
use Rattle.psi_receiver.proofs.turns.+threads.Given as goal

abbrev pub decreases-in_threads : goal.decreases-in_threads
decreases-in_threads g l = 2 * l.threads

abbrev pub decreases-others : goal.decreases-others
decreases-others g l = 2 * (l.threads - 1) + 1
