-- What holds of `ask` and `open` as commands that read a text: what they come to, and what is bad, crowded and good, exclude each other.
use Rattle.std.proofs.Common.{◌≡◌, ◌⊎◌, ℕ, List, map, Option, None, Some, Result, Ok, Err, refl, sym, ◌∙◌, subst, inl, inr}
use Rattle.std.specs.Option.{IfSome, IsSomeAnd}
use Rattle.item_slots.specs.Tags.{tag_of}
use Rattle.cuckoo_place.specs.Placements.{HasNoPlacement}
use Rattle.psi_residue.specs.Parameters.{Parameters}
use Rattle.psi_outside.specs.Names.{FileMap}
use Rattle.query_codec.specs.Replies.{IsReply}
use Rattle.psi_words.specs.declared.command.Command.{Command}
use Rattle.psi_words.specs.declared.command.Command.TheVariants as command
use Rattle.psi_words.specs.declared.fault.WordFault.{WordFault}
use Rattle.psi_receiver.specs.Faults.{HavePlacement}
use Rattle.psi_receiver.specs.Placements.{position_sets}
use Rattle.psi_cli.specs.declared.status.Status.{Status}
use Rattle.psi_cli.specs.declared.status.Status.TheVariants as status
use Rattle.psi_cli.specs.AnswerFiles.{IsAnswerFile}
use Rattle.psi_cli.specs.Answered.{IfReads}
use Rattle.psi_cli.specs.AskAndOpen.{HaveNoPlace, HavePlace, IsBadOpening, IsToldAnswer, IsToldReply, MayBeBadOpening, asking, opening}
use Rattle.psi_cli.specs.Commands.{word_parameters}
use Rattle.psi_cli.specs.ItemTexts.{IsItemText, items_of}
use Rattle.psi_cli.specs.Kinds.{Kind, command_kind, kind_of}
use Rattle.psi_cli.specs.Outcomes.{AreCrowded, AreFound, AsksText, HasAnswer, IsAskFrame, IsDoneOrCrowded, IsNoAnswer, OpenMakes, OpensFile, OpensText}
use Rattle.psi_cli.specs.Readers.{Reader}
use Rattle.psi_cli.specs.Worlds.{Given}

-- what the clauses of the top call need of a command that reads a text
pub record IsLawful (r : Reader) : Type 0 where
  pub ends_so : (g : Given) (s : Status) (text : List ℕ) → r.makes g s text → IsDoneOrCrowded s
  pub never_bad : (g : Given) (s : Status) (text : List ℕ) → r.makes g s text → r.is_bad g → ⊥
  pub done_placed : (g : Given) (text : List ℕ) → r.makes g status.Done text → r.is_crowded g → ⊥
  pub bad_placed : (g : Given) → r.may_be_bad g → r.is_crowded g → ⊥
  pub crowded_bad : (g : Given) (text : List ℕ) → r.makes g status.Crowded text → r.is_good g → ⊥
  pub bad_good : (g : Given) → r.may_be_bad g → r.is_good g → ⊥
  pub crowd : (g : Given) (text : List ℕ) → r.makes g status.Crowded text → r.crowd g text

-- ---- `ask`

-- a text of items that is told to be none
told_items : (left : Option (List ℕ)) → IfSome left IsItemText → IsSomeAnd left (λ bytes. IsItemText bytes → ⊥) → ⊥
told_items None is none = none
told_items (Some bytes) is none = none is

-- a query's tags have a placement
query_placed : (p : Parameters) (seed : List ℕ) (session number : ℕ) (items : List (List ℕ)) (text : List ℕ) → IsAskFrame p seed session number items text
    → HasNoPlacement (position_sets p.rows (map tag_of items)) → ⊥
query_placed p seed session number items text asked none = let placed = asked.query.1 in none placed.0 placed.1.placement

not_placed : (p : Parameters) (seed : List ℕ) (session number : ℕ) (text : List ℕ) (left : Option (List ℕ))
    → IfSome left (λ bytes. IsAskFrame p seed session number (items_of bytes) text)
    → IsSomeAnd left (λ bytes. IsItemText bytes × HaveNoPlace p.rows bytes) → ⊥
not_placed p seed session number text None asked none = none
not_placed p seed session number text (Some bytes) asked none = query_placed p seed session number (items_of bytes) text asked none.1

-- a text that may be none of items is told to be one
no_items : (left : Option (List ℕ)) (P : List ℕ → Type 0) → IfSome left (λ bytes. IsItemText bytes → ⊥) → IsSomeAnd left (λ bytes. IsItemText bytes × P bytes) → ⊥
no_items None P none is = is
no_items (Some bytes) P none is = none is.0

-- crowded items have no placement
crowd_placed : (rows : ℕ) (text : List ℕ) (left : Option (List ℕ)) → IfSome left (λ bytes. AreCrowded rows (items_of bytes) text)
    → IsSomeAnd left (λ bytes. IsItemText bytes × HavePlace rows bytes) → ⊥
crowd_placed rows text None many placed = placed
crowd_placed rows text (Some bytes) many placed = many.too_many.none placed.1.0 placed.1.1

ask_lawful : (p : Parameters) (seed : List ℕ) (session number : ℕ) → IsLawful (asking p seed session number)
ask_lawful p seed session number = record {
  ends_so = λ g s text makes. makes.ends_so;
  never_bad = λ g s text makes is. told_items g.source.left makes.item_text is;
  done_placed = λ g text makes none. not_placed p seed session number text g.source.left makes.makes none;
  bad_placed = λ g bad none. no_items g.source.left (λ bytes. HaveNoPlace p.rows bytes) bad none;
  crowded_bad = λ g text makes good. crowd_placed p.rows text g.source.left makes.makes good;
  bad_good = λ g bad good. no_items g.source.left (λ bytes. HavePlace p.rows bytes) bad good;
  crowd = λ g text makes. makes.makes;
}

-- ---- `open`

same_some : {A : Type 0} (x y : A) → Some x ≡ Some y → x ≡ y
same_some x y e = cc

-- items with a placement are not crowded, and a body that is refused gives nothing found
not_both : (p : Parameters) (seed : List ℕ) (items : List (List ℕ)) (body : List ℕ) (s : Status) (text : List ℕ) → OpenMakes p seed items body s text
    → HavePlacement p.rows (map tag_of items) → (IsReply p body → ⊥) → ⊥
not_both p seed items body status.Done text makes placed refused = refused makes.reply
not_both p seed items body status.Crowded text makes placed refused = makes.too_many.none placed.0 placed.1
not_both p seed items body status.Words text makes placed refused = makes
not_both p seed items body status.Parameters text makes placed refused = makes
not_both p seed items body status.BadInput text makes placed refused = makes
not_both p seed items body status.ReadFault text makes placed refused = makes
not_both p seed items body status.WriteFault text makes placed refused = makes
not_both p seed items body status.NoMemory text makes placed refused = makes

-- what an answer's body makes is not refused
refused_file : (p : Parameters) (items : List (List ℕ)) (known : FileMap) (name body : List ℕ) → IsNoAnswer p items known name → HasAnswer known name body
    → HavePlacement p.rows (map tag_of items) × (IsReply p body → ⊥)
refused_file p items known name body none has =
    let same : has.file ≡ none.file = same_some has.file none.file (sym has.there ∙ none.there) in
    none.refused body (subst (λ (f : List ℕ). IsAnswerFile f body) same has.answer)

module _ (p : Parameters) (seed name : List ℕ) where
  -- what is made of an answer is not made of none
  told_file : (text : List ℕ) (s : Status) (left : Option (List ℕ)) (files : Option FileMap) → IfSome left IsItemText
      → IfSome left (λ bytes. IfSome files (λ known. OpensFile p seed (items_of bytes) known name s text))
      → IsSomeAnd left (λ bytes. (IsItemText bytes → ⊥) ⊎ IsSomeAnd files (λ known. IsNoAnswer p (items_of bytes) known name)) → ⊥
  told_file text s None files is makes none = none
  told_file text s (Some bytes) files is makes (inl none) = none is
  told_file text s (Some bytes) None is makes (inr none) = none
  told_file text s (Some bytes) (Some known) is makes (inr none) =
      let refused = refused_file p (items_of bytes) known name makes.body none makes.file in
      not_both p seed (items_of bytes) makes.body s text makes.makes refused.0 refused.1

  -- found items have a placement
  not_found : (text : List ℕ) (left : Option (List ℕ)) (files : Option FileMap)
      → IfSome left (λ bytes. IfSome files (λ known. OpensFile p seed (items_of bytes) known name status.Done text))
      → IsSomeAnd left (λ bytes. IsItemText bytes × HaveNoPlace p.rows bytes × IsSomeAnd files (λ known. (body : List ℕ) × HasAnswer known name body)) → ⊥
  not_found text None files found none = none
  not_found text (Some bytes) None found none = none.2
  not_found text (Some bytes) (Some known) found none = let placed = found.makes.opened.1 in none.1 placed.0 placed.1.placement

  -- crowded items have none
  not_crowded : (text : List ℕ) (left : Option (List ℕ)) (files : Option FileMap)
      → IfSome left (λ bytes. IfSome files (λ known. OpensFile p seed (items_of bytes) known name status.Crowded text))
      → IsSomeAnd left (λ bytes. IsItemText bytes × HavePlace p.rows bytes × IsSomeAnd files (λ known. (body : List ℕ) × HasAnswer known name body × IsReply p body)) → ⊥
  not_crowded text None files many good = good
  not_crowded text (Some bytes) None many good = good.2
  not_crowded text (Some bytes) (Some known) many good = many.makes.too_many.none good.1.0 good.1.1

  -- a bad opening has no answer, or items with a placement
  bad_placed : (left : Option (List ℕ)) (files : Option FileMap)
      → IfSome left (λ bytes. IfSome files (λ known. (IsItemText bytes → ⊥) ⊎ IsNoAnswer p (items_of bytes) known name))
      → IsSomeAnd left (λ bytes. IsItemText bytes × HaveNoPlace p.rows bytes × IsSomeAnd files (λ known. (body : List ℕ) × HasAnswer known name body)) → ⊥
  bad_placed None files b none = none
  bad_placed (Some bytes) None b none = none.2
  bad_placed (Some bytes) (Some known) (inl b) none = b none.0
  bad_placed (Some bytes) (Some known) (inr b) none =
      let placed = (refused_file p (items_of bytes) known name none.2.0 b none.2.1).0 in none.1 placed.0 placed.1

  bad_good : (left : Option (List ℕ)) (files : Option FileMap)
      → IfSome left (λ bytes. IfSome files (λ known. (IsItemText bytes → ⊥) ⊎ IsNoAnswer p (items_of bytes) known name))
      → IsSomeAnd left (λ bytes. IsItemText bytes × HavePlace p.rows bytes × IsSomeAnd files (λ known. (body : List ℕ) × HasAnswer known name body × IsReply p body)) → ⊥
  bad_good None files b good = good
  bad_good (Some bytes) None b good = good.2
  bad_good (Some bytes) (Some known) (inl b) good = b good.0
  bad_good (Some bytes) (Some known) (inr b) good = (refused_file p (items_of bytes) known name good.2.0 b good.2.1).1 good.2.2

  opens_crowded : (text : List ℕ) (left : Option (List ℕ)) (files : Option FileMap) → OpensText p seed name left files status.Crowded text
      → IfSome left (λ bytes. AreCrowded p.rows (items_of bytes) text × IfSome files (λ known. (body : List ℕ) × HasAnswer known name body))
  opens_crowded text None files h = tt
  opens_crowded text (Some bytes) None h = (h.crowded refl, tt)
  opens_crowded text (Some bytes) (Some known) h = let file = h.makes in (h.crowded refl, (file.body, file.file))

  open_lawful : IsLawful (opening p seed name)
  open_lawful = record {
    ends_so = λ g s text makes. makes.ends_so;
    never_bad = λ g s text makes is. told_file text s g.source.left g.files.files makes.item_text makes.makes is;
    done_placed = λ g text makes none. not_found text g.source.left g.files.files makes.makes none;
    bad_placed = λ g bad none. bad_placed g.source.left g.files.files bad none;
    crowded_bad = λ g text makes good. not_crowded text g.source.left g.files.files makes.makes good;
    bad_good = λ g bad good. bad_good g.source.left g.files.files bad good;
    crowd = λ g text makes. opens_crowded text g.source.left g.files.files makes;
  }

-- ---- all commands

command_lawful : (c : Command) → IfReads (command_kind c) IsLawful
command_lawful (command.Serve rows capacity units dropped counted workers builders) = tt
command_lawful (command.Replay rows capacity units dropped counted) = tt
command_lawful (command.Params rows capacity units dropped counted) = tt
command_lawful (command.Ask rows capacity units dropped counted seed session number) =
    ask_lawful (word_parameters rows capacity units dropped counted) seed session number
command_lawful (command.Open rows capacity units dropped counted seed name) =
    open_lawful (word_parameters rows capacity units dropped counted) seed name
command_lawful (command.Demo number workers) = tt
command_lawful command.Help = tt

pub all_lawful : (r : Result Command WordFault) → IfReads (kind_of r) IsLawful
all_lawful (Ok c) = command_lawful c
all_lawful (Err fault) = tt
