-- Why `open` comes to nothing behind its items.
use Rattle.std.specs.Prelude.{◌≡◌, ℕ, List, map, Option, Some, IfSome, ⊤}
use Rattle.item_slots.specs.Tags.{tag_of}
use Rattle.psi_residue.specs.Parameters.{Parameters}
use Rattle.psi_outside.specs.Causes.{Rose}
use Rattle.psi_outside.specs.Ends.{FilesTold}
use Rattle.psi_outside.specs.Names.{FileMap, file_at}
use Rattle.query_codec.specs.Replies.{IsReply}
use Rattle.psi_receiver.specs.Faults.{HavePlacement}
use Rattle.psi_cli.specs.declared.status.Status.{Status}
use Rattle.psi_cli.specs.declared.status.Status.TheVariants as status
use Rattle.psi_cli.specs.AnswerFiles.{IsAnswerFile}

-- the file of a name has no answer
pub record HasNoAnswer (files : FileMap) (name : List ℕ) : Type 0 where
  pub file : List ℕ
  pub there : file_at files name ≡ Some file
  pub none : (body : List ℕ) → IsAnswerFile file body → ⊥

-- why a file gives no reply body, by the status
abbrev pub HasNoFile : (old new : FilesTold) → (name : List ℕ) → Status → Type 0
HasNoFile old new name status.BadInput =
    IfSome old.files (λ map. HasNoAnswer map name) × (new.faults ≡ old.faults)
HasNoFile old new name status.ReadFault = Rose old.faults new.faults
HasNoFile old new name status.NoMemory = ⊤
HasNoFile old new name status.Done = ⊥
HasNoFile old new name status.Words = ⊥
HasNoFile old new name status.Parameters = ⊥
HasNoFile old new name status.WriteFault = ⊥
HasNoFile old new name status.Crowded = ⊥

-- the items have a placement, but the body is no reply
pub record IsRefusedBody (p : Parameters) (items : List (List ℕ)) (body : List ℕ) : Type 0 where
  pub placed : HavePlacement p.rows (map tag_of items)
  pub refused : IsReply p body → ⊥

-- why a body is not opened, by the status
abbrev pub IsUnopened : Parameters → (items : List (List ℕ)) → (body : List ℕ) → Status → Type 0
IsUnopened p items body status.BadInput = IsRefusedBody p items body
IsUnopened p items body status.NoMemory = ⊤
IsUnopened p items body status.Done = ⊥
IsUnopened p items body status.Words = ⊥
IsUnopened p items body status.Parameters = ⊥
IsUnopened p items body status.ReadFault = ⊥
IsUnopened p items body status.WriteFault = ⊥
IsUnopened p items body status.Crowded = ⊥
