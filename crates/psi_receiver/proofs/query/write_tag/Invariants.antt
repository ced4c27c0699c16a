use Rattle.psi_receiver.proofs.Writes.{IsWriting}
use Rattle.psi_receiver.proofs.query.write_tag.Given as goal

abbrev pub invariant-loop-part : goal.invariant-loop-part
invariant-loop-part l = IsWriting l.tag l.initial.values l.bin l.part l.values
