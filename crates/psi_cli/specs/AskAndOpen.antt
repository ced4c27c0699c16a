-- The two commands of the receiver, `ask` and `open`, as commands that read a text.
use Rattle.std.specs.Prelude.{◌⊎◌, ℕ, List, map, Option, None, Some, IfSome, IsSomeAnd}
use Rattle.item_slots.specs.Tags.{tag_of}
use Rattle.cuckoo_place.specs.Placements.{HasNoPlacement}
use Rattle.psi_residue.specs.Parameters.{Parameters}
use Rattle.query_codec.specs.Replies.{IsReply}
use Rattle.psi_receiver.specs.Faults.{HavePlacement}
use Rattle.psi_receiver.specs.Placements.{position_sets}
use Rattle.psi_cli.specs.ItemTexts.{IsItemText, items_of, most_item_text}
use Rattle.psi_cli.specs.Outcomes.{AreCrowded, AsksText, HasAnswer, IsNoAnswer, OpensText}
use Rattle.psi_cli.specs.Readers.{Reader}
use Rattle.psi_cli.specs.Worlds.{Given}

-- the items of a text have no placement, or have one
abbrev pub HaveNoPlace : (rows : ℕ) → (bytes : List ℕ) → Type 0
HaveNoPlace rows bytes = HasNoPlacement (position_sets rows (map tag_of (items_of bytes)))

abbrev pub HavePlace : (rows : ℕ) → (bytes : List ℕ) → Type 0
HavePlace rows bytes = HavePlacement rows (map tag_of (items_of bytes))

-- ---- `ask`: the text is none of items, or all of its items have a placement, or not

abbrev pub asking : Parameters → (seed : List ℕ) → (session number : ℕ) → Reader
asking p seed session number = record {
  parameters = p;
  most = most_item_text;
  takes = IsItemText;
  file = None;
  makes = λ given s text. AsksText p seed session number given.source.left s text;
  may_be_bad = λ given. IfSome given.source.left (λ bytes. IsItemText bytes → ⊥);
  is_bad = λ given. IsSomeAnd given.source.left (λ bytes. IsItemText bytes → ⊥);
  is_crowded = λ given. IsSomeAnd given.source.left (λ bytes. IsItemText bytes × HaveNoPlace p.rows bytes);
  crowd = λ given text. IfSome given.source.left (λ bytes. AreCrowded p.rows (items_of bytes) text);
  is_good = λ given. IsSomeAnd given.source.left (λ bytes. IsItemText bytes × HavePlace p.rows bytes);
}

-- ---- `open`: the same, and the file has an answer that is taken, or not

module _ (p : Parameters) (name : List ℕ) where
  -- the file has an answer
  abbrev pub IsToldAnswer : Given → Type 0
  IsToldAnswer given = IsSomeAnd given.files.files (λ known. (body : List ℕ) × HasAnswer known name body)

  -- the file has an answer whose body is a reply
  abbrev pub IsToldReply : Given → Type 0
  IsToldReply given =
      IsSomeAnd given.files.files (λ known. (body : List ℕ) × HasAnswer known name body × IsReply p body)

  -- the text is none of items, or the file has no answer that is taken: as far as both are told
  abbrev pub MayBeBadOpening : Given → Type 0
  MayBeBadOpening given =
      IfSome given.source.left (λ bytes. IfSome given.files.files (λ known.
      (IsItemText bytes → ⊥) ⊎ IsNoAnswer p (items_of bytes) known name))

  -- the same, where it is told
  abbrev pub IsBadOpening : Given → Type 0
  IsBadOpening given =
      IsSomeAnd given.source.left (λ bytes.
      (IsItemText bytes → ⊥) ⊎ IsSomeAnd given.files.files (λ known. IsNoAnswer p (items_of bytes) known name))

abbrev pub opening : Parameters → (seed name : List ℕ) → Reader
opening p seed name = record {
  parameters = p;
  most = most_item_text;
  takes = IsItemText;
  file = Some name;
  makes = λ given s text. OpensText p seed name given.source.left given.files.files s text;
  may_be_bad = MayBeBadOpening p name;
  is_bad = IsBadOpening p name;
  is_crowded = λ given.
      IsSomeAnd given.source.left (λ bytes. IsItemText bytes × HaveNoPlace p.rows bytes × IsToldAnswer p name given);
  crowd = λ given text.
      IfSome given.source.left (λ bytes. AreCrowded p.rows (items_of bytes) text
      × IfSome given.files.files (λ known. (body : List ℕ) × HasAnswer known name body));
  is_good = λ given.
      IsSomeAnd given.source.left (λ bytes. IsItemText bytes × HavePlace p.rows bytes × IsToldReply p name given);
}
