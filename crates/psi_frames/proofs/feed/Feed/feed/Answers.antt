use Rattle.psi_frames.proofs.Feeding.{faulty-in}
use Rattle.psi_frames.proofs.feed.Feed.feed.Goals as goal

pub returns-in-Some-clause-fed_faulty : goal.returns-in-Some-clause-fed_faulty
returns-in-Some-clause-fed_faulty c = λ fault met. faulty-in c.args.self.now c.args.piece.now fault met
