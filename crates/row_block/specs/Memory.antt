-- What the memory of a block owns and lends.
use Rattle.std.specs.Prelude.{ℕ, List, length}
use Rattle.std.specs.Allocator.{block_with_items}
use Rattle.std.specs.Borrow.{u64}
use Rattle.std.specs.declared.alloc.Global.{Global}
use Rattle.std.specs.contracts.impls.GlobalAllocator.TheImpl.{ghosts}
use base.Fml.{Fml, Lft}
use denote.Array.{Array}
use denote.RawPtr.{Ptr}
use denote.Struct.Lending.{lent_at}

-- the words at the start of an allocation with room for so many words, the room behind them, and the right to give the allocation back
abbrev pub words_owned : Global → Ptr → ℕ → List ℕ → Fml
words_owned alloc start room words = block_with_items (ghosts.dealloc_token alloc) u64 start (length words) room words

-- a shared view of the words
abbrev pub words_lent : Ptr → List ℕ → Lft → Fml
words_lent start words = lent_at (Array u64 (length words)) start words
