-- What the top call says of a command, by its kind.
use Rattle.std.specs.Prelude.{◌≡◌, ◌⊎◌, ◌<◌, ◌≤◌, ℕ, Bool, List, [], length, Option, None, IfSome, IsSome, IsSomeAnd, ⊤}
use Rattle.psi_residue.specs.Parameters.{Parameters}
use Rattle.noise_ledger.specs.Verdicts.{ArePassed}
use Rattle.psi_frames.specs.declared.frame.Frame.{Frame}
use Rattle.psi_frames.specs.Frames.{AreWholeFrames, Fault, most_bytes, request_table}
use Rattle.psi_demo.specs.Items.{asked_tags, demo_parameters}
use Rattle.psi_demo.specs.Summaries.{AreUnplaced}
use Rattle.psi_receiver.specs.Faults.{HavePlacement}
use Rattle.query_pool.specs.Inputs.{AreBadFrames, AreGoodFrames}
use Rattle.psi_cli.specs.Kinds.{IsAlone, Kind, is_alone}
use Rattle.psi_cli.specs.Readers.{Reader}
use Rattle.psi_cli.specs.Worlds.{Given}

-- ---- what holds of one kind

-- of rounds: of their parameters, and whether one lane alone answers
abbrev pub IfRounds : Kind → (Parameters → (alone : Bool) → Type 0) → Type 0
IfRounds (Kind.Rounds p lanes) P = P p (is_alone lanes)
IfRounds (Kind.Reads reader) P = ⊤
IfRounds (Kind.Figures p) P = ⊤
IfRounds (Kind.Demonstration number workers) P = ⊤
IfRounds Kind.Help P = ⊤
IfRounds Kind.NoCommand P = ⊤

-- of rounds that one lane alone answers
abbrev pub IfOneLane : Kind → (Parameters → Type 0) → Type 0
IfOneLane (Kind.Rounds p lanes) P = IsAlone lanes → P p
IfOneLane (Kind.Reads reader) P = ⊤
IfOneLane (Kind.Figures p) P = ⊤
IfOneLane (Kind.Demonstration number workers) P = ⊤
IfOneLane Kind.Help P = ⊤
IfOneLane Kind.NoCommand P = ⊤

-- of a command that reads a text
abbrev pub IfReads : Kind → (Reader → Type 0) → Type 0
IfReads (Kind.Rounds p lanes) P = ⊤
IfReads (Kind.Reads reader) P = P reader
IfReads (Kind.Figures p) P = ⊤
IfReads (Kind.Demonstration number workers) P = ⊤
IfReads Kind.Help P = ⊤
IfReads Kind.NoCommand P = ⊤

-- of the parameters of `params`
abbrev pub IfFigures : Kind → (Parameters → Type 0) → Type 0
IfFigures (Kind.Rounds p lanes) P = ⊤
IfFigures (Kind.Reads reader) P = ⊤
IfFigures (Kind.Figures p) P = P p
IfFigures (Kind.Demonstration number workers) P = ⊤
IfFigures Kind.Help P = ⊤
IfFigures Kind.NoCommand P = ⊤

-- of the words of `demo`
abbrev pub IfDemo : Kind → ((number workers : ℕ) → Type 0) → Type 0
IfDemo (Kind.Rounds p lanes) P = ⊤
IfDemo (Kind.Reads reader) P = ⊤
IfDemo (Kind.Figures p) P = ⊤
IfDemo (Kind.Demonstration number workers) P = P number workers
IfDemo Kind.Help P = ⊤
IfDemo Kind.NoCommand P = ⊤

-- of `help`
abbrev pub IfHelp : Kind → Type 0 → Type 0
IfHelp (Kind.Rounds p lanes) P = ⊤
IfHelp (Kind.Reads reader) P = ⊤
IfHelp (Kind.Figures p) P = ⊤
IfHelp (Kind.Demonstration number workers) P = ⊤
IfHelp Kind.Help P = P
IfHelp Kind.NoCommand P = ⊤

-- of all but rounds
abbrev pub IfNoRounds : Kind → Type 0 → Type 0
IfNoRounds (Kind.Rounds p lanes) P = ⊤
IfNoRounds (Kind.Reads reader) P = P
IfNoRounds (Kind.Figures p) P = P
IfNoRounds (Kind.Demonstration number workers) P = P
IfNoRounds Kind.Help P = P
IfNoRounds Kind.NoCommand P = P

-- of all that read nothing, whatever comes
abbrev pub IfNoReading : Kind → Type 0 → Type 0
IfNoReading (Kind.Rounds p lanes) P = ⊤
IfNoReading (Kind.Reads reader) P = ⊤
IfNoReading (Kind.Figures p) P = P
IfNoReading (Kind.Demonstration number workers) P = P
IfNoReading Kind.Help P = P
IfNoReading Kind.NoCommand P = P

-- ---- what words ask for

-- parameters that are refused are given
abbrev pub AreRefused : Kind → Type 0
AreRefused (Kind.Rounds p lanes) = ArePassed p → ⊥
AreRefused (Kind.Reads reader) = ArePassed reader.parameters → ⊥
AreRefused (Kind.Figures p) = ArePassed p → ⊥
AreRefused (Kind.Demonstration number workers) = ⊥
AreRefused Kind.Help = ⊥
AreRefused Kind.NoCommand = ⊥

-- a command that reads its source to its end
abbrev pub IsReading : Kind → Type 0
IsReading (Kind.Rounds p lanes) = ⊤
IsReading (Kind.Reads reader) = ⊤
IsReading (Kind.Figures p) = ⊥
IsReading (Kind.Demonstration number workers) = ⊥
IsReading Kind.Help = ⊥
IsReading Kind.NoCommand = ⊥

-- ---- bad inputs, items without a placement, and what is complete

-- what was told is a bad input, as far as it is told
abbrev pub IsBadInput : Kind → Given → Type 0
IsBadInput (Kind.Rounds p lanes) given = IfSome given.source.left AreBadFrames
IsBadInput (Kind.Reads reader) given = reader.may_be_bad given
IsBadInput (Kind.Figures p) given = ⊥
IsBadInput (Kind.Demonstration number workers) given = ⊥
IsBadInput Kind.Help given = ⊥
IsBadInput Kind.NoCommand given = ⊥

-- the words ask for a command with parameters that pass, and a bad input is told
abbrev pub IsToldBad : Kind → Given → Type 0
IsToldBad (Kind.Rounds p lanes) given = ArePassed p × IsSomeAnd given.source.left AreBadFrames
IsToldBad (Kind.Reads reader) given = ArePassed reader.parameters × reader.is_bad given
IsToldBad (Kind.Figures p) given = ⊥
IsToldBad (Kind.Demonstration number workers) given = ⊥
IsToldBad Kind.Help given = ⊥
IsToldBad Kind.NoCommand given = ⊥

-- the words ask for items to be placed, all that is tested before is told and good, and the items have no placement
abbrev pub IsToldCrowded : Kind → Given → Type 0
IsToldCrowded (Kind.Rounds p lanes) given = ⊥
IsToldCrowded (Kind.Reads reader) given = ArePassed reader.parameters × reader.is_crowded given
IsToldCrowded (Kind.Figures p) given = ⊥
IsToldCrowded (Kind.Demonstration number workers) given = AreUnplaced (asked_tags number)
IsToldCrowded Kind.Help given = ⊥
IsToldCrowded Kind.NoCommand given = ⊥

-- The text that crowded items write is so, where they are told. Those of `demo` have no placement, and write nothing.
abbrev pub IfCrowded : Kind → Given → (List ℕ → Type 0) → Type 0
IfCrowded (Kind.Rounds p lanes) given Is = ⊥
IfCrowded (Kind.Reads reader) given Is = (text : List ℕ) × reader.crowd given text × Is text
IfCrowded (Kind.Figures p) given Is = ⊥
IfCrowded (Kind.Demonstration number workers) given Is = AreUnplaced (asked_tags number) × Is []
IfCrowded Kind.Help given Is = ⊥
IfCrowded Kind.NoCommand given Is = ⊥

-- All is told and good: the parameters pass, and the input, the file and the asked items are such that nothing but a fault or want of memory keeps the
-- command from being done.
abbrev pub IsToldGood : Kind → Given → Type 0
IsToldGood (Kind.Rounds p lanes) given = ArePassed p × IsSomeAnd given.source.left AreGoodFrames
IsToldGood (Kind.Reads reader) given = ArePassed reader.parameters × reader.is_good given
IsToldGood (Kind.Figures p) given = ArePassed p
IsToldGood (Kind.Demonstration number workers) given = HavePlacement demo_parameters.rows (asked_tags number)
IsToldGood Kind.Help given = ⊤
IsToldGood Kind.NoCommand given = ⊥
