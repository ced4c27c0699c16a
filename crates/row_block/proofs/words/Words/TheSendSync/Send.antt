-- The memory may go to another thread, since any thread may give an allocation of the heap back.
use Rattle.std.proofs.Common.{◌-◌, ◌*◌, length}
use mir.Raw.{raw}
use mir.Syntax.{ty_array}
use denote.Array.{Array}
use denote.Builtin.{u64}
use denote.Memory.{lone}
use denote.RawPtr.{◌+ₚ◌}
use denote.Struct.Struct.{exits_of}
use denote.Struct.Owning.{shape, fields, to}
use denote.Param.Send.{IsSend, AllSend, owning_send, struct_send, array_send, sendable}
use Rattle.std.specs.Mem.{type_size}
use Rattle.std.proofs.Crossing as heap
use Rattle.std.proofs.alloc.Global.TheSendSync as handle
use Rattle.row_block.proofs.Crossing.{quiet, lies, room}
use Rattle.row_block.specs.contracts.words.Words.{the_row, the_type}

word_send : IsSend u64
word_send = search sendable

pub send : IsSend the_row
send =
    let all : AllSend (fields the_type) = (search sendable, (search sendable, (handle.the_field_send, tt))) in
    owning_send the_type all
    (λ d. let n = length d.written in (
      lies (Array u64 n) (array_send u64 n word_send) d.start d.written,
      (room (raw (ty_array (lone u64.mir) (d.room - n))) (d.start +ₚ n * type_size u64), heap.frees.frees d.alloc (raw (ty_array (lone u64.mir) d.room)) d.start),
    ))
    (λ k. quiet (to the_type) (exits_of k (fields the_type)) ((struct_send (shape the_type) all).leaving k))
