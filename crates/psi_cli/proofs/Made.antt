-- What `ask` and `open` make of their items.
use Rattle.std.proofs.Common.{◌≡◌, ℕ, ◌*◌, List, [], ◌∷◌, ◌++◌, length, map, drop, Option, None, Some, Result, ◌⊎◌, refl, sym, ap, ◌∙◌, subst, inl, inr}
use Rattle.std.specs.List.{All, range_with_len}
use Rattle.std.specs.Option.{IfSome}
use Rattle.std.specs.Result.{IfErr, IsErrAnd}
use Rattle.std.proofs.Math.Seq.{drop-append_seam}
use Rattle.std.proofs.lemmas.List.{append-nil}
use Rattle.std.proofs.lemmas.List.Elements.{All-map}
use Rattle.std.proofs.lemmas.Result.{err_from_is_err_and}
use Rattle.byteorder.specs.Endian.{big_bytes}
use Rattle.item_slots.specs.Tags.{tag_of}
use Rattle.psi_residue.specs.Ciphertexts.{IsCiphertext}
use Rattle.psi_residue.specs.Parameters.{Parameters}
use Rattle.noise_ledger.specs.Verdicts.{ArePassed}
use Rattle.psi_outside.specs.Ends.{FilesTold, SourceTold}
use Rattle.psi_outside.specs.Names.{FileMap, file_at}
use Rattle.query_codec.specs.declared.fault.CodecFault.{CodecFault}
use Rattle.query_codec.specs.Queries.{query_length}
use Rattle.query_codec.specs.Replies.{IsReply, reply_fault}
use Rattle.query_codec.proofs.QueryBodies.{IsQuery-written}
use Rattle.query_codec.proofs.ReplyBodies.{no_fault-IsReply}
use Rattle.psi_frames.specs.declared.frame.Frame.{Frame}
use Rattle.psi_frames.specs.Frames.{ask_kind, spelled}
use Rattle.psi_frames.proofs.FrameLaws.{one_frame}
use Rattle.psi_receiver.specs.declared.found.Found.{Found}
use Rattle.psi_receiver.specs.declared.placement.Placed.{Placed}
use Rattle.psi_receiver.specs.Faults.{AreTooMany, HavePlacement}
use Rattle.psi_receiver.specs.Openings.{AreOpened}
use Rattle.psi_receiver.specs.Queries.{IsQueryOf, query_ciphertext, encrypted_powers}
use Rattle.psi_receiver.proofs.Encryptions.{encrypted-ciphertext, length-query}
use Rattle.psi_cli.specs.declared.status.Status.{Status}
use Rattle.psi_cli.specs.declared.status.Status.TheVariants as status
use Rattle.psi_cli.specs.AnswerFiles.{IsAnswerFile}
use Rattle.psi_cli.specs.ItemTexts.{IsItemText, items_of, most_item_text}
use Rattle.psi_cli.specs.AskAndOpen.{MayBeBadOpening, asking, opening}
use Rattle.psi_cli.specs.Inner.Opening.{HasNoAnswer, HasNoFile, IsRefusedBody, IsUnopened}
use Rattle.psi_cli.specs.Outcomes.{AreCrowded, AreFound, HasAnswer, IsAskFrame, IsNoAnswer}
use Rattle.psi_cli.specs.Readers.{HasReadText, ReadsNothing}
use Rattle.psi_cli.specs.Reading.{HasNoItems, IsReadWithin}
use Rattle.psi_cli.specs.Texts.{crowded_text, found_text}
use Rattle.psi_cli.specs.Worlds.{Given, given}
use Rattle.psi_cli.proofs.ReadTexts.{ended_tested, within_about}

-- an answer that hands an error on
pub handed : {A : Type 0} (r : Result A Status) (s : Status) (P : Status → Type 0) → IsErrAnd r (λ t. t ≡ s) → P s → IfErr r P
handed r s P is h = let e = err_from_is_err_and r is in rw e.1 (subst P (sym e.2) h)

-- the tags of items that are shown by their bytes
pub tags_shown : {A : Type 0} (shown : A → List ℕ) (xs : List A) → map (λ x. tag_of (shown x)) xs ≡ map tag_of (map shown xs)
tags_shown shown [] = refl
tags_shown shown (x ∷ xs) = ap (λ (ts : List (List ℕ)). tag_of (shown x) ∷ ts) (tags_shown shown xs)

pub frame_made : (p : Parameters) (seed : List ℕ) (session number : ℕ) (items : List (List ℕ)) (tags : List (List ℕ)) (body text : List ℕ) → tags ≡ map tag_of items → IsQueryOf p seed tags body
    → text ≡ spelled ask_kind session number body → IsAskFrame p seed session number items text
frame_made p seed session number items tags body text same query is = record { body = body; query = subst (λ (ts : List (List ℕ)). IsQueryOf p seed ts body) same query; frame = is }

pub crowd_made : (rows : ℕ) (items : List (List ℕ)) (tags : List (List ℕ)) (crowded text : List ℕ) → tags ≡ map tag_of items → AreTooMany rows tags crowded → text ≡ crowded_text items crowded → AreCrowded rows items text
crowd_made rows items tags crowded text same many is = record { crowded = crowded; too_many = subst (λ (ts : List (List ℕ)). AreTooMany rows ts crowded) same many; lines = is }

pub found_made : (p : Parameters) (seed : List ℕ) (items : List (List ℕ)) (tags : List (List ℕ)) (body text : List ℕ) (found : List Found) → tags ≡ map tag_of items → AreOpened p seed tags body found → IsReply p body
    → text ≡ found_text items found → AreFound p seed items body text
found_made p seed items tags body text found same opened reply is = record { found = found; reply = reply; opened = subst (λ (ts : List (List ℕ)). AreOpened p seed ts body found) same opened; lines = is }

pub body_refused : (p : Parameters) (items : List (List ℕ)) (tags : List (List ℕ)) (body : List ℕ) (fault : CodecFault) → tags ≡ map tag_of items → HavePlacement p.rows tags → reply_fault p body ≡ Some fault → IsRefusedBody p items body
body_refused p items tags body fault same placed some = record {
  placed = subst (HavePlacement p.rows) same placed;
  refused = λ reply. let none = no_fault-IsReply p body reply in absurd (cc);
}

-- ---- the file of `open`

-- a file has one answer at most
pub same_answer : (file a b : List ℕ) → IsAnswerFile file a → IsAnswerFile file b → a ≡ b
same_answer file a b h k =
    let one : h.frame ≡ k.frame = (one_frame h.frame k.frame [] [] h.one.is_frame.spellable k.one.is_frame.spellable
    (append-nil _ ∙ sym h.one.whole ∙ k.one.whole ∙ sym (append-nil _))).0 in
    let content : big_bytes 8 h.place ++ a ≡ big_bytes 8 k.place ++ b = h.tells.same_body ∙ ap (λ (f : Frame). f.body) one ∙ sym k.tells.same_body in
    sym (drop-append_seam (big_bytes 8 h.place) a) ∙ ap (drop 8) content ∙ drop-append_seam (big_bytes 8 k.place) b

no_answer : (p : Parameters) (name : List ℕ) (left : Option (List ℕ)) (files : Option FileMap) → IfSome files (λ known. HasNoAnswer known name)
    → IfSome left (λ bytes. IfSome files (λ known. (IsItemText bytes → ⊥) ⊎ IsNoAnswer p (items_of bytes) known name))
no_answer p name None files h = tt
no_answer p name (Some bytes) None h = tt
no_answer p name (Some bytes) (Some known) h = inr (record { file = h.file; there = h.there; refused = λ body is. absurd (h.none body is) })

-- a text that is none of items is no input of `open`
no_text : (p : Parameters) (name : List ℕ) (left : Option (List ℕ)) (files : Option FileMap) → IfSome left (λ bytes. IsItemText bytes → ⊥)
    → IfSome left (λ bytes. IfSome files (λ known. (IsItemText bytes → ⊥) ⊎ IsNoAnswer p (items_of bytes) known name))
no_text p name None files h = tt
no_text p name (Some bytes) None h = tt
no_text p name (Some bytes) (Some known) h = inl h

refused_answer : (p : Parameters) (name : List ℕ) (items : List (List ℕ)) (body : List ℕ) (left : Option (List ℕ)) (files : Option FileMap) → IsRefusedBody p items body
    → IfSome left (λ bytes. items ≡ items_of bytes) → IfSome files (λ known. HasAnswer known name body)
    → IfSome left (λ bytes. IfSome files (λ known. (IsItemText bytes → ⊥) ⊎ IsNoAnswer p (items_of bytes) known name))
refused_answer p name items body None files why is h = tt
refused_answer p name items body (Some bytes) None why is h = tt
refused_answer p name items body (Some bytes) (Some known) why is h =
    inr (record {
      file = h.file;
      there = h.there;
      refused = λ other answer.
          let same : body ≡ other = same_answer h.file body other h.answer answer in
          (subst (λ (xs : List (List ℕ)). HavePlacement p.rows (map tag_of xs)) is why.placed, λ reply. why.refused (subst (IsReply p) (sym same) reply));
    })

-- ---- why `ask` and `open` come to nothing

-- no items were read, whatever the files are
pub asks_none : (p : Parameters) (seed : List ℕ) (session number : ℕ) (old new : SourceTold) (files : FilesTold) (s : Status) → ArePassed p → HasNoItems old new s
    → ReadsNothing (asking p seed session number) (given old files) (given new files) s
asks_none p seed session number old new files status.BadInput passed why =
    record { passed = passed; bad = why.no_item_text; no_read_failed = record { source = why.no_read_failed; file = refl }; tested = why.tested }
asks_none p seed session number old new files status.ReadFault passed why = record { passed = passed; failed = inl (record { source = why; unread = refl }) }
asks_none p seed session number old new files status.NoMemory passed why = why
asks_none p seed session number old new files status.Done passed why = absurd why
asks_none p seed session number old new files status.Words passed why = absurd why
asks_none p seed session number old new files status.Parameters passed why = absurd why
asks_none p seed session number old new files status.WriteFault passed why = absurd why
asks_none p seed session number old new files status.Crowded passed why = absurd why

module _ (p : Parameters) (seed name : List ℕ) (old new : Given) (passed : ArePassed p) where
  pub opens_none : (s : Status) → new.files ≡ old.files → HasNoItems old.source new.source s → ReadsNothing (opening p seed name) old new s
  opens_none status.BadInput quiet why =
      record { passed = passed; bad = no_text p name old.source.left old.files.files why.no_item_text; no_read_failed = record { source = why.no_read_failed; file = ap (λ (f : FilesTold). f.faults) quiet }; tested = why.tested }
  opens_none status.ReadFault quiet why = record { passed = passed; failed = inl (record { source = why; unread = quiet }) }
  opens_none status.NoMemory quiet why = why
  opens_none status.Done quiet why = absurd why
  opens_none status.Words quiet why = absurd why
  opens_none status.Parameters quiet why = absurd why
  opens_none status.WriteFault quiet why = absurd why
  opens_none status.Crowded quiet why = absurd why

  module _ (read : HasReadText (opening p seed name) old new) (within : IsReadWithin most_item_text old.source new.source) where
    -- a file that is not read, or has no answer
    pub no_file : (s : Status) → HasNoFile old.files new.files name s → ReadsNothing (opening p seed name) old new s
    no_file status.BadInput why = record {
      passed = passed;
      bad = no_answer p name old.source.left old.files.files why.0;
      no_read_failed = record { source = read.no_read_failed; file = why.1 };
      tested = ended_tested most_item_text old.source new.source read.ended within;
    }
    no_file status.ReadFault why = record { passed = passed; failed = inr (record { file = refl; read = read; failed = why }) }
    no_file status.NoMemory why = within_about most_item_text old.source new.source within
    no_file status.Done why = absurd why
    no_file status.Words why = absurd why
    no_file status.Parameters why = absurd why
    no_file status.WriteFault why = absurd why
    no_file status.Crowded why = absurd why

    -- an answer whose body is refused
    pub unopened : (items : List (List ℕ)) (body : List ℕ) (s : Status) → new.files.faults ≡ old.files.faults
        → IfSome old.source.left (λ bytes. items ≡ items_of bytes) → IfSome old.files.files (λ known. HasAnswer known name body) → IsUnopened p items body s
        → ReadsNothing (opening p seed name) old new s
    unopened items body status.BadInput quiet are has why = record {
      passed = passed;
      bad = refused_answer p name items body old.source.left old.files.files why are has;
      no_read_failed = record { source = read.no_read_failed; file = quiet };
      tested = ended_tested most_item_text old.source new.source read.ended within;
    }
    unopened items body status.NoMemory quiet are has why = within_about most_item_text old.source new.source within
    unopened items body status.Done quiet are has why = absurd why
    unopened items body status.Words quiet are has why = absurd why
    unopened items body status.Parameters quiet are has why = absurd why
    unopened items body status.ReadFault quiet are has why = absurd why
    unopened items body status.WriteFault quiet are has why = absurd why
    unopened items body status.Crowded quiet are has why = absurd why

-- a file in which no answer was found
pub file_without : (files : Option FileMap) (name file shown : List ℕ) (found : Option (List ℕ)) → IfSome files (λ known. file_at known name ≡ Some file) → shown ≡ file
    → (found ≡ None → (body : List ℕ) → IsAnswerFile shown body → ⊥) → found ≡ None → IfSome files (λ known. HasNoAnswer known name)
file_without None name file shown found there same none is = tt
file_without (Some known) name file shown found there same none is =
    record { file = file; there = there; none = λ body answer. none is body (subst (λ (bytes : List ℕ). IsAnswerFile bytes body) (sym same) answer) }
