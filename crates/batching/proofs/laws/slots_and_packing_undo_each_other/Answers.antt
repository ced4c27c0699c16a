use Rattle.batching.proofs.Batches.{slots_of-packed_list, packed_list-slots_of}
use Rattle.batching.proofs.laws.slots_and_packing_undo_each_other.Goals as goal

pub returns-clause-slots_of_packed : goal.returns-clause-slots_of_packed
returns-clause-slots_of_packed c = slots_of-packed_list

pub returns-clause-packed_slots : goal.returns-clause-packed_slots
returns-clause-packed_slots c = packed_list-slots_of
