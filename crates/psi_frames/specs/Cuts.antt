-- What a feed finds at the front of bytes.
use Rattle.std.specs.Prelude.{◌≡◌, ℕ, ◌+◌, ◌<◌, Bool, List, [], ◌++◌, length, Option, None, Some}
use Rattle.byteorder.specs.Endian.{big_number}
use Rattle.psi_frames.specs.declared.front.Front.{Front}
use Rattle.psi_frames.specs.declared.front.Front.TheVariants as front
use Rattle.psi_frames.specs.declared.front.HeadFault.{HeadFault}
use Rattle.psi_frames.specs.declared.front.HeadFault.TheVariants as head
use Rattle.psi_frames.specs.declared.frame.Frame.{Frame}
use Rattle.psi_frames.specs.Frames.{Fault, Length, Kind, Table, front_fault}
use Rattle.psi_frames.specs.Feeds.{Feeding, HasFed, IsBegun, IsCut, table_of}

-- the fault that a frame's first bytes decide
abbrev pub fault_of : HeadFault → Fault
fault_of (head.Length n) = Length n
fault_of (head.Kind k) = Kind k

-- the same of one that may have come
abbrev pub fault_met : Option HeadFault → Option Fault
fault_met None = None
fault_met (Some fault) = Some (fault_of fault)

-- the bytes begin with a whole frame
pub record BeginsWhole (table : Table) (bytes : List ℕ) : Type 0 where
  pub some : 0 < length bytes
  pub faultless : front_fault table bytes ≡ None

-- what stands at the front of bytes: a frame that has begun, or none; a whole frame, and where it ends; or a fault
abbrev pub IsFront : Table → List ℕ → Front → Type 0
IsFront table bytes front.Begun = IsBegun table bytes
IsFront table bytes (front.Whole end) = BeginsWhole table bytes × (end ≡ 4 + big_number 4 bytes)
IsFront table bytes (front.Faulty fault) = front_fault table bytes ≡ Some (fault_of fault)

-- without a fault a feed has a frame that has begun, or none; behind a fault it has no bytes
abbrev pub IsFeed : (replies : Bool) → (rest : List ℕ) → Option HeadFault → Type 0
IsFeed replies rest None = IsBegun (table_of replies) rest
IsFeed replies rest (Some fault) = rest ≡ []

-- The frames of the bytes came behind those that were ready.
pub record IsTaken (table : Table) (bytes : List ℕ) (old new : List Frame) (rest : List ℕ) (fault : Option Fault) : Type 0 where
  pub frames : List Frame
  pub ready : new ≡ old ++ frames
  pub cut : IsCut table bytes frames rest fault

-- whatever was fed before, the feed stands behind the piece now
abbrev pub TakesIn : (old new : Feeding) → (piece : List ℕ) → Type 0
TakesIn old new piece = (bytes : List ℕ) (taken : List Frame) → HasFed old bytes taken → HasFed new (bytes ++ piece) taken
