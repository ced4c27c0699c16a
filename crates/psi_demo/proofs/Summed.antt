-- What `summary` hands out.
use Rattle.std.proofs.Common.{◌≡◌, ℕ, ◌<◌, List, slice_index, subst}
use Rattle.psi_frames.specs.declared.reply.Reply.{Reply}
use Rattle.psi_frames.specs.Served.{Sent}
use Rattle.psi_demo.specs.declared.fault.SumFault.{SumFault}
use Rattle.psi_demo.specs.declared.fault.SumFault.TheVariants as sum
use Rattle.psi_demo.specs.Faults.{IsRefused, IsSumFault}
use Rattle.psi_demo.specs.Opening.{IsBodiesFault}
use Rattle.psi_demo.specs.Replies.{AreSent, IsReadFault, replies_of}
use Rattle.psi_demo.specs.Summaries.{AreStable, ForTally, bodies_of, tally_of}
use Rattle.psi_demo.specs.Texts.{IsSummary, summary_text}
use Rattle.psi_demo.proofs.Tallies.{for-tally}

pub read-fault : (number : ℕ) (bytes : List ℕ) (fault : SumFault) → IsReadFault bytes fault → IsSumFault number bytes fault
read-fault number bytes (sum.Torn offset) why = why
read-fault number bytes (sum.Codec fault) why = absurd why
read-fault number bytes sum.NoMemory why = tt

pub opened-fault : (number : ℕ) (bytes : List ℕ) (told : List Reply) (sents : List Sent) (fault : SumFault) → ((i : ℕ) → slice_index bytes i < 256) → AreSent bytes sents → told ≡ replies_of sents
    → IsBodiesFault number (bodies_of told) fault → IsSumFault number bytes fault
opened-fault number bytes told sents (sum.Torn offset) each sent same why = absurd why
opened-fault number bytes told sents (sum.Codec fault) each sent same why =
    for-tally bytes (IsRefused number fault) sents each sent (subst (λ (rs : List Reply). IsRefused number fault (tally_of rs)) same (record { placed = why.0; first = why.1 }))
opened-fault number bytes told sents sum.NoMemory each sent same why = tt

pub summed : (number : ℕ) (bytes : List ℕ) (told : List Reply) (sents : List Sent) (stable text : List ℕ) → ((i : ℕ) → slice_index bytes i < 256) → AreSent bytes sents → told ≡ replies_of sents
    → AreStable number (bodies_of told) stable → text ≡ summary_text number (tally_of told) stable → ForTally bytes (λ tally. IsSummary number tally text)
summed number bytes told sents stable text each sent same opened lines =
    for-tally bytes (λ tally. IsSummary number tally text) sents each sent
    (subst (λ (rs : List Reply). IsSummary number (tally_of rs) text) same (record { stable = stable; opened = opened; lines = lines }))
