-- What `params`, `ask` and `open` come to: a status, and the text that is written with it.
use Rattle.std.specs.Prelude.{◌≡◌, ◌⊎◌, ℕ, List, map, Option, Some, IfSome, Ok, Err}
use Rattle.item_slots.specs.Tags.{tag_of}
use Rattle.psi_residue.specs.Parameters.{Parameters}
use Rattle.noise_ledger.specs.declared.ledger.Ledger.{Ledger}
use Rattle.noise_ledger.specs.declared.ledger.ParamFault.{ParamFault}
use Rattle.noise_ledger.specs.Verdicts.{ArePassed, judged}
use Rattle.query_codec.specs.Replies.{IsReply}
use Rattle.psi_outside.specs.Names.{FileMap, file_at}
use Rattle.psi_frames.specs.Frames.{ask_kind, spelled}
use Rattle.psi_receiver.specs.declared.found.Found.{Found}
use Rattle.psi_receiver.specs.Faults.{AreTooMany, HavePlacement}
use Rattle.psi_receiver.specs.Openings.{AreOpened}
use Rattle.psi_receiver.specs.Queries.{IsQueryOf}
use Rattle.psi_cli.specs.declared.status.Status.{Status}
use Rattle.psi_cli.specs.declared.status.Status.TheVariants as status
use Rattle.psi_cli.specs.AnswerFiles.{IsAnswerFile}
use Rattle.psi_cli.specs.ItemTexts.{IsItemText, items_of}
use Rattle.psi_cli.specs.Texts.{crowded_text, figures_text, found_text, refusal_text}

-- ---- `params`

-- the figures of parameters that pass
pub record AreFigures (p : Parameters) (text : List ℕ) : Type 0 where
  pub passed : ArePassed p
  pub ledger : Ledger
  pub judged_so : judged p ≡ Ok ledger
  pub lines : text ≡ figures_text p ledger

-- why parameters are refused
pub record IsRefusal (p : Parameters) (text : List ℕ) : Type 0 where
  pub refused : ArePassed p → ⊥
  pub fault : ParamFault
  pub judged_so : judged p ≡ Err fault
  pub lines : text ≡ refusal_text fault

-- what `params` comes to
abbrev pub ParamsMake : Parameters → Status → List ℕ → Type 0
ParamsMake p status.Done text = AreFigures p text
ParamsMake p status.Parameters text = IsRefusal p text
ParamsMake p status.Words text = ⊥
ParamsMake p status.BadInput text = ⊥
ParamsMake p status.ReadFault text = ⊥
ParamsMake p status.WriteFault text = ⊥
ParamsMake p status.NoMemory text = ⊥
ParamsMake p status.Crowded text = ⊥

-- ---- `ask` and `open`

-- a text is written with the status 0 or 8
abbrev pub IsDoneOrCrowded : Status → Type 0
IsDoneOrCrowded s = (s ≡ status.Done) ⊎ (s ≡ status.Crowded)

-- the one holds with 0, and the other with 8
abbrev pub DoneOrCrowded : (done crowded : Type 0) → Status → Type 0
DoneOrCrowded done crowded status.Done = done
DoneOrCrowded done crowded status.Crowded = crowded
DoneOrCrowded done crowded status.Words = ⊥
DoneOrCrowded done crowded status.Parameters = ⊥
DoneOrCrowded done crowded status.BadInput = ⊥
DoneOrCrowded done crowded status.ReadFault = ⊥
DoneOrCrowded done crowded status.WriteFault = ⊥
DoneOrCrowded done crowded status.NoMemory = ⊥

-- items without a placement: more than their positions together
pub record AreCrowded (rows : ℕ) (items : List (List ℕ)) (text : List ℕ) : Type 0 where
  pub crowded : List ℕ
  pub too_many : AreTooMany rows (map tag_of items) crowded
  pub lines : text ≡ crowded_text items crowded

module _ (p : Parameters) (seed : List ℕ) where
  -- the frame that asks for items
  pub record IsAskFrame (session number : ℕ) (items : List (List ℕ)) (text : List ℕ) : Type 0 where
    pub body : List ℕ
    pub query : IsQueryOf p seed (map tag_of items) body
    pub frame : text ≡ spelled ask_kind session number body

  -- the items that a reply body opens to
  pub record AreFound (items : List (List ℕ)) (body text : List ℕ) : Type 0 where
    pub found : List Found
    pub reply : IsReply p body
    pub opened : AreOpened p seed (map tag_of items) body found
    pub lines : text ≡ found_text items found

  -- what `ask` comes to, by its items
  abbrev pub AskMakes : (session number : ℕ) → (items : List (List ℕ)) → Status → List ℕ → Type 0
  AskMakes session number items s text =
      DoneOrCrowded (IsAskFrame session number items text) (AreCrowded p.rows items text) s

  -- what `open` comes to, by its items and a reply body
  abbrev pub OpenMakes : (items : List (List ℕ)) → (body : List ℕ) → Status → List ℕ → Type 0
  OpenMakes items body s text =
      DoneOrCrowded (AreFound items body text) (AreCrowded p.rows items text) s

-- the file of a name is an answer with this body
pub record HasAnswer (files : FileMap) (name body : List ℕ) : Type 0 where
  pub file : List ℕ
  pub there : file_at files name ≡ Some file
  pub answer : IsAnswerFile file body

-- The file of a name has no answer that `open` takes: if it has one, the items have a placement and its body is refused.
pub record IsNoAnswer (p : Parameters) (items : List (List ℕ)) (files : FileMap) (name : List ℕ) : Type 0 where
  pub file : List ℕ
  pub there : file_at files name ≡ Some file
  pub refused :
      (body : List ℕ) → IsAnswerFile file body
      → HavePlacement p.rows (map tag_of items) × (IsReply p body → ⊥)

module _ (p : Parameters) (seed : List ℕ) where
  -- what `open` comes to, by its items and its file
  pub record OpensFile (items : List (List ℕ)) (files : FileMap) (name : List ℕ) (s : Status) (text : List ℕ) : Type 0 where
    pub body : List ℕ
    pub file : HasAnswer files name body
    pub makes : OpenMakes p seed items body s text

  -- The same of `ask` and `open`, by the text of their items, where that and the files are told.
  pub record AsksText (session number : ℕ) (left : Option (List ℕ)) (s : Status) (text : List ℕ) : Type 0 where
    pub ends_so : IsDoneOrCrowded s
    pub item_text : IfSome left IsItemText
    pub makes : IfSome left (λ bytes. AskMakes p seed session number (items_of bytes) s text)

  pub record OpensText (name : List ℕ) (left : Option (List ℕ)) (files : Option FileMap) (s : Status) (text : List ℕ) : Type 0 where
    pub ends_so : IsDoneOrCrowded s
    pub item_text : IfSome left IsItemText
    pub makes : IfSome left (λ bytes. IfSome files (λ known. OpensFile (items_of bytes) known name s text))
    pub crowded : s ≡ status.Crowded → IfSome left (λ bytes. AreCrowded p.rows (items_of bytes) text)
