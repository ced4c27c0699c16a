use Rattle.psi_frames.proofs.Readings.{apart_requests}
use Rattle.psi_frames.proofs.laws.no_request_begins_another.Goals as goal

pub returns : goal.returns
returns c = apart_requests
