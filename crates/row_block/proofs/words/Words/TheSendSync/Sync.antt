-- A `&` to the memory shows its words, which many threads may read.
use Rattle.std.proofs.Common.{length}
use denote.Array.{Array}
use denote.Builtin.{u64}
use denote.Struct.Owning.{shape, to}
use denote.Param.Send.{IsSync, struct_sync, array_sync, sendable}
use Rattle.std.proofs.alloc.Global.TheSendSync as handle
use Rattle.row_block.proofs.Crossing.{seen}
use Rattle.row_block.specs.contracts.words.Words.{the_row, the_type}

word_sync : IsSync u64
word_sync = search sendable

pub sync : IsSync the_row
sync = record { shared = λ d b o κ. let n = length d.written in ((struct_sync (shape the_type) (search sendable, (search sendable, (handle.the_field_sync, tt)))).shared (to the_type d) b o κ, seen (Array u64 n) (array_sync u64 n word_sync) d.start d.written κ) }
