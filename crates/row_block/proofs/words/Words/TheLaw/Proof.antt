-- A `&` to the memory is made where one to its words is: it lends them, and neither the room behind them nor the right to free.
use Rattle.std.proofs.Common.{◌-◌, ◌*◌, length}
use base.Fraction.{full_share}
use base.Fml.{fsep}
use contract.BorrowLft.{⊑_static}
use mir.Raw.{raw as bare}
use mir.Syntax.{ty_array}
use denote.Array.{Array, Array-row_laws}
use denote.Builtin.{u64}
use denote.Memory.{lone}
use denote.Param.Shared.{copy_shared}
use denote.RawPtr.{lies_at, room_for, ◌+ₚ◌}
use denote.Shares.{Shares-less, Shares-Array}
use denote.Struct.Field.{RawPtr-field, usize-field}
use denote.Struct.Laws.{RawPtr-copy, usize-copy}
use denote.Struct.Lending.{lent_at, lent_at_shr_laws, Lends-lies, Lends-first, of_Lends}
use Rattle.std.specs.contracts.impls.GlobalAllocator.TheImpl.{ghosts}
use Rattle.std.specs.Mem.{type_size}
use Rattle.std.specs.contracts.alloc.Global as heap
use Rattle.std.proofs.alloc.Global.TheLaws as heap_laws
use Rattle.row_block.proofs.Memory.{word_laws}
use Rattle.row_block.specs.contracts.words.Words as C
use Rattle.row_block.proofs.words.Words.TheLaw.Statement.{statement}

pub shares : statement
shares = of_Lends C.struct (C.the_codes heap.the_row.coded) C.the_heap C.the_lent (λ d p. lent_at_shr_laws (Array u64 (length d.written)) (Array-row_laws u64 word_laws.shr_laws (length d.written)) d.start d.written)
    (copy_shared RawPtr-field RawPtr-copy, (copy_shared usize-field usize-copy, (heap_laws.the_field_shared, tt))) (λ M 𝓤 𝓛 d p.
    let l = C.the_row.lives in let n = length d.written in
    Lends-first 𝓛 (lies_at (Array u64 n) full_share d.start d.written) (fsep (room_for (bare (ty_array (lone u64.mir) (d.room - n))) (d.start +ₚ n * type_size u64)) (ghosts.dealloc_token d.alloc (bare (ty_array (lone u64.mir) d.room)) d.start)) (lent_at (Array u64 n) d.start d.written) l
    (Lends-lies 𝓛 (Array u64 n) l d.start d.written (Shares-Array 𝓛 u64 tt n l (Shares-less 𝓛 u64 u64.lives l (⊑_static l) (word_laws.shares 𝓛)) d.written)))
