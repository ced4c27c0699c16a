-- What a feed has of the bytes that came: whole frames, the bytes of a begun frame, or the fault that ends them.
use Rattle.std.specs.Prelude.{◌≡◌, ◌⊎◌, ℕ, Bool, true, false, List, [], ◌∷◌, ◌++◌, Option, None, Some}
use Rattle.std.specs.List.{All}
use Rattle.psi_frames.specs.declared.frame.Frame.{Frame}
use Rattle.psi_frames.specs.declared.fault.FrameFault.{FrameFault}
use Rattle.psi_frames.specs.declared.fault.FrameFault.TheVariants as told
use Rattle.psi_frames.specs.Frames.{Fault, Short, Length, Kind, IsFrame, Table, frames_bytes, front_fault, reply_table, request_table}

-- A feed: whether it reads replies, the whole frames that were not yet taken, the bytes of a begun frame, and the fault that it met.
pub record Feeding : Type 0 where
  pub replies : Bool
  pub ready : List Frame
  pub rest : List ℕ
  pub fault : Option Fault

-- the table that a feed reads by
abbrev pub table_of : Bool → Table
table_of true = reply_table
table_of false = request_table

-- bytes of a frame that is not whole yet, or none
abbrev pub IsBegun : Table → List ℕ → Type 0
IsBegun table bytes = (bytes ≡ []) ⊎ (front_fault table bytes ≡ Some Short)

-- What stands behind the whole frames: without a fault it is the rest, a begun frame. Else it begins with the fault, which is a wrong
-- length word or kind, and there is no rest.
abbrev pub EndsIn : Table → (tail rest : List ℕ) → Option Fault → Type 0
EndsIn table tail rest None = (tail ≡ rest) × IsBegun table rest
EndsIn table tail rest (Some fault) = (front_fault table tail ≡ Some fault) × (rest ≡ []) × (fault ≡ Short → ⊥)

-- The bytes are whole frames, and behind them a begun frame or a fault.
pub record IsCut (table : Table) (bytes : List ℕ) (frames : List Frame) (rest : List ℕ) (fault : Option Fault) : Type 0 where
  pub tail : List ℕ
  pub whole : bytes ≡ frames_bytes frames ++ tail
  pub each : All (IsFrame table) frames
  pub ended : EndsIn table tail rest fault

-- The feed stands behind these bytes, of which these frames were taken.
abbrev pub HasFed : Feeding → (bytes : List ℕ) → (taken : List Frame) → Type 0
HasFed f bytes taken = IsCut (table_of f.replies) bytes (taken ++ f.ready) f.rest f.fault

-- a fault as it is told
abbrev pub told_fault : Fault → FrameFault
told_fault Short = told.Short
told_fault (Length n) = told.Length n
told_fault (Kind k) = told.Kind k

-- what is told where the bytes end: the fault, or else that a frame has begun
abbrev pub end_fault : Option Fault → (rest : List ℕ) → Option Fault
end_fault (Some fault) rest = Some fault
end_fault None [] = None
end_fault None (byte ∷ bytes) = Some Short

-- What a feed has, taken or not, is decided by the bytes alone, and not by the pieces in which they came.
abbrev pub PiecesDoNotMatter : Type 0
PiecesDoNotMatter =
    (a b : Feeding) (bytes : List ℕ) (taken other : List Frame) → a.replies ≡ b.replies → HasFed a bytes taken → HasFed b bytes other
    → (taken ++ a.ready ≡ other ++ b.ready) × (a.rest ≡ b.rest) × (a.fault ≡ b.fault)
