use Rattle.psi_follower.proofs.Turning.{replicates}
use Rattle.psi_follower.proofs.laws.replicas.Goals as goal

pub returns : goal.returns
returns c p history turns legal of run = replicates p history legal turns of run
