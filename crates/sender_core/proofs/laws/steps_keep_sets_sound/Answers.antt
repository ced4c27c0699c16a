use Rattle.sender_core.proofs.SoundSteps.{sound-empty}
use Rattle.sender_core.proofs.SoundHistories.{sound-step, sound-version_at}
use Rattle.sender_core.proofs.laws.steps_keep_sets_sound.Goals as goal

pub returns-clause-begins : goal.returns-clause-begins
returns-clause-begins c = sound-empty

pub returns-clause-goes_on : goal.returns-clause-goes_on
returns-clause-goes_on c = sound-step

pub returns-clause-through : goal.returns-clause-through
returns-clause-through c = sound-version_at
