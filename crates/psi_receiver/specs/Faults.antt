-- Why items are not asked for, and why a reply is not opened (the limit of an item and the order of the faults are this project's own).
use Rattle.std.specs.Prelude.{◌≡◌, ℕ, Bool, nat_lt, List, length, Option, None, Some, ⊤}
use Rattle.cuckoo_place.specs.Placements.{IsPlacement, IsCrowded, HasNoPlacement}
use Rattle.cuckoo_place.specs.declared.Unplaced.{Unplaced}
use Rattle.cuckoo_place.specs.declared.Unplaced.TheVariants as unplaced
use Rattle.query_codec.specs.declared.fault.CodecFault.{CodecFault}
use Rattle.query_codec.specs.declared.fault.CodecFault.TheVariants as codec
use Rattle.psi_receiver.specs.declared.fault.AskFault.{AskFault}
use Rattle.psi_receiver.specs.declared.fault.AskFault.TheVariants as ask
use Rattle.psi_receiver.specs.declared.fault.OpenFault.{OpenFault}
use Rattle.psi_receiver.specs.declared.fault.OpenFault.TheVariants as opening
use Rattle.psi_receiver.specs.Placements.{position_sets}

-- an item is too long
abbrev pub is_long : List ℕ → Bool
is_long item = nat_lt 255 (length item)

-- the tags have a placement
abbrev pub HavePlacement : (rows : ℕ) → (tags : List (List ℕ)) → Type 0
HavePlacement rows tags = (places : List ℕ) × IsPlacement (position_sets rows tags) places

-- the tags have none, since the positions of these items in rising order are together fewer than they
pub record AreTooMany (rows : ℕ) (tags : List (List ℕ)) (items : List ℕ) : Type 0 where
  pub crowded : IsCrowded (position_sets rows tags) items
  pub none : HasNoPlacement (position_sets rows tags)

-- why there is no query, by the first item that is too long and by the tags
abbrev pub IsAskFault : (rows : ℕ) → (long : Option ℕ) → (tags : List (List ℕ)) → AskFault → Type 0
IsAskFault rows long tags (ask.TooLong item) = long ≡ Some item
IsAskFault rows long tags (ask.Crowded items) = (long ≡ None) × AreTooMany rows tags items.items
IsAskFault rows long tags ask.NoMemory = ⊤

-- why a reply is not opened, by the first item that is too long, by the tags and by the fault of the reply
abbrev pub IsOpenFault : (rows : ℕ) → (long : Option ℕ) → (tags : List (List ℕ)) → (reply : Option CodecFault) → OpenFault → Type 0
IsOpenFault rows long tags reply (opening.TooLong item) = long ≡ Some item
IsOpenFault rows long tags reply (opening.Crowded items) = (long ≡ None) × AreTooMany rows tags items.items
IsOpenFault rows long tags reply (opening.Codec fault) = (long ≡ None) × HavePlacement rows tags × (reply ≡ Some fault)
IsOpenFault rows long tags reply opening.NoMemory = ⊤

-- tags that are not placed are a fault of asking, and of opening
abbrev pub ask_unplaced : Unplaced → AskFault
ask_unplaced (unplaced.Crowded items) = ask.Crowded items
ask_unplaced unplaced.NoMemory = ask.NoMemory

abbrev pub open_unplaced : Unplaced → OpenFault
open_unplaced (unplaced.Crowded items) = opening.Crowded items
open_unplaced unplaced.NoMemory = opening.NoMemory

-- a reply that is not read is a fault of opening
abbrev pub open_unread : CodecFault → OpenFault
open_unread (codec.Length want) = opening.Codec (codec.Length want)
open_unread codec.WrongParams = opening.Codec codec.WrongParams
open_unread (codec.Residue index) = opening.Codec (codec.Residue index)
open_unread codec.NoMemory = opening.NoMemory

-- why a reply is not read, by its fault
abbrev pub IsUnread : (reply : Option CodecFault) → OpenFault → Type 0
IsUnread reply (opening.TooLong item) = ⊥
IsUnread reply (opening.Crowded items) = ⊥
IsUnread reply (opening.Codec fault) = reply ≡ Some fault
IsUnread reply opening.NoMemory = ⊤
