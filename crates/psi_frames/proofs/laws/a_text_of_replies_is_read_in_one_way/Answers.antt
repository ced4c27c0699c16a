use Rattle.psi_frames.proofs.ReplyTexts.{one_way, read_back, their_text}
use Rattle.psi_frames.proofs.laws.a_text_of_replies_is_read_in_one_way.Goals as goal

pub returns-clause-one : goal.returns-clause-one
returns-clause-one c = one_way

pub returns-clause-text : goal.returns-clause-text
returns-clause-text c = their_text

pub returns-clause-read_back : goal.returns-clause-read_back
returns-clause-read_back c = read_back
