-- What rounds leave, in plain words.
use Rattle.std.proofs.Common.{◌≡◌, ◌⊎◌, ℕ, ◌<◌, Bool, true, List, [], ◌∷◌, ◌++◌, length, take, Option, None, Some, IsSome, refl, sym, ap, ◌∙◌, subst, arith, inl, inr, append-nil}
use Rattle.std.specs.Io.KnownBytes.{Appends}
use Rattle.std.specs.List.{All, AllByRecursion}
use Rattle.std.specs.Option.{IfSome, IsSomeAnd}
use Rattle.std.proofs.lemmas.List.Elements.{All-from_recursion, All-head, recursion_from_All}
use Rattle.psi_residue.specs.Parameters.{Parameters}
use Rattle.noise_ledger.specs.Verdicts.{ArePassed}
use Rattle.psi_outside.specs.Causes.{Rose, count_on}
use Rattle.psi_outside.specs.Ends.{Ends, FilesTold, SinkTold}
use Rattle.psi_bundle.specs.declared.history.Entry.{Entry}
use Rattle.psi_bundle.specs.Versions.{empty_version}
use Rattle.psi_frames.specs.declared.frame.Frame.{Frame}
use Rattle.psi_frames.specs.Frames.{AreWholeFrames, Fault, IsFrame, IsSpellable, Table, frames_bytes, front_fault, most_bytes, request_table}
use Rattle.psi_frames.specs.Served.{text_of}
use Rattle.psi_frames.proofs.Feeding.{no_fault}
use Rattle.psi_frames.proofs.FrameLaws.{same_front}
use Rattle.psi_frames.proofs.Readings.{begins-frame}
use Rattle.query_pool.specs.Serving.{IsFlushedBehind, IsServingStatus}
use Rattle.psi_serve.proofs.OneSets.{replies-of}
use Rattle.psi_cli.specs.declared.status.Status.{Status}
use Rattle.psi_cli.specs.declared.status.Status.TheVariants as status
use Rattle.query_pool.specs.Inputs.{AreBadFrames, AreGoodFrames}
use Rattle.query_pool.proofs.Once.{not-both}
use Rattle.psi_cli.specs.Headline.{AnswersInput, Headline, IsAnswered}
use Rattle.psi_cli.specs.Reading.{IsEnded}
use Rattle.psi_cli.specs.Runs.{RefusesParameters, RunsRounds, ServedSo, ServesRounds}
use Rattle.psi_cli.specs.Statuses.{Ended, IsOrFails, IsReadWhole, IsRefusedOrFails, IsStatus}
use Rattle.psi_cli.specs.Worlds.{Given, IsFlushedSo, NoReadFailed, NothingRead, World, ends_of}
use Rattle.psi_cli.proofs.QueryOpenings.{answers-open, empty-known}

-- ---- whole frames and bad ones

told_bad : (left : Option (List ℕ)) (input : List ℕ) → IfSome left (λ bytes. bytes ≡ input) → AreBadFrames input → IfSome left AreBadFrames
told_bad None input told bad = tt
told_bad (Some bytes) input told bad = subst AreBadFrames (sym told) bad

told_good : (left : Option (List ℕ)) (input : List ℕ) → IfSome left (λ bytes. bytes ≡ input) → AreGoodFrames input → IsSomeAnd left AreBadFrames → ⊥
told_good None input told good b = b
told_good (Some bytes) input told good b = not-both bytes (subst AreGoodFrames (sym told) good) b

told_not_bad : (left : Option (List ℕ)) (input : List ℕ) → IfSome left (λ bytes. bytes ≡ input) → AreBadFrames input → IsSomeAnd left AreGoodFrames → ⊥
told_not_bad None input told b good = good
told_not_bad (Some bytes) input told b good = not-both bytes good (subst AreBadFrames (sym told) b)

-- what rounds write with 0
told_text : (p : Parameters) (alone : Bool) (left : Option (List ℕ)) (input text : List ℕ) (old new : Option (List ℕ)) → IfSome left (λ bytes. bytes ≡ input)
    → IsAnswered p alone input text → Appends old new text → IfSome left (λ bytes. (t : List ℕ) × IsAnswered p alone bytes t × Appends old new t)
told_text p alone None input text old new told answered appended = tt
told_text p alone (Some bytes) input text old new told answered appended = (text, subst (λ (b : List ℕ). IsAnswered p alone b text) (sym told) answered, appended)

flushed_behind : (old new : SinkTold) (text : List ℕ) → IsFlushedBehind old new text → Appends old.written new.written text → IsFlushedSo old new
flushed_behind old new text (inl all) appended = inl all
flushed_behind old new text (inr none) appended = inr (subst (λ (t : List ℕ). Appends old.written new.written t) none.0 appended, none.1)

-- one fault more
rose-once : (before now : ℕ) → now ≡ count_on before → Rose before now
rose-once before now once = omega (arith, once)

-- no entries were given
none_given : (P : Entry → Type 0) → All P []
none_given P = λ k d lt. absurd (omega (arith, lt))

-- ---- by the number of its status

-- no serving ends with 2, 3 or 8
served_not : (k : ℕ) → IsServingStatus k → (k ≡ 2) ⊎ ((k ≡ 3) ⊎ (k ≡ 8)) → ⊥
served_not k (inl e) (inl f) = omega (arith, e, f)
served_not k (inl e) (inr (inl f)) = omega (arith, e, f)
served_not k (inl e) (inr (inr f)) = omega (arith, e, f)
served_not k (inr (inl e)) (inl f) = omega (arith, e, f)
served_not k (inr (inl e)) (inr (inl f)) = omega (arith, e, f)
served_not k (inr (inl e)) (inr (inr f)) = omega (arith, e, f)
served_not k (inr (inr (inl e))) (inl f) = omega (arith, e, f)
served_not k (inr (inr (inl e))) (inr (inl f)) = omega (arith, e, f)
served_not k (inr (inr (inl e))) (inr (inr f)) = omega (arith, e, f)
served_not k (inr (inr (inr (inl e)))) (inl f) = omega (arith, e, f)
served_not k (inr (inr (inr (inl e)))) (inr (inl f)) = omega (arith, e, f)
served_not k (inr (inr (inr (inl e)))) (inr (inr f)) = omega (arith, e, f)
served_not k (inr (inr (inr (inr e)))) (inl f) = omega (arith, e, f)
served_not k (inr (inr (inr (inr e)))) (inr (inl f)) = omega (arith, e, f)
served_not k (inr (inr (inr (inr e)))) (inr (inr f)) = omega (arith, e, f)

module _ (p : Parameters) (alone : Bool) (old new : Ends) (n : ℕ) where
  pub rounds_status : RunsRounds p alone old new n → IsStatus n
  rounds_status (inr refused) = (status.Parameters, refused.status_is)
  rounds_status (inl so) = by_number so.leaves.statuses where
    by_number : IsServingStatus so.served.status → IsStatus n
    by_number (inl e) = (status.Done, sym so.status_is ∙ e)
    by_number (inr (inl e)) = (status.BadInput, sym so.status_is ∙ e)
    by_number (inr (inr (inl e))) = (status.ReadFault, sym so.status_is ∙ e)
    by_number (inr (inr (inr (inl e)))) = (status.WriteFault, sym so.status_is ∙ e)
    by_number (inr (inr (inr (inr e)))) = (status.NoMemory, sym so.status_is ∙ e)

  -- with another status than 3 they were served
  served_so : RunsRounds p alone old new n → (n ≡ 3 → ⊥) → ServedSo p alone old new n
  served_so (inl so) other = so
  served_so (inr refused) other = absurd (other refused.status_is)

  pub refused_so : RunsRounds p alone old new n → n ≡ 3 → RefusesParameters p old new n
  refused_so (inr refused) e = refused
  refused_so (inl so) e = absurd (served_not so.served.status so.leaves.statuses (inr (inl (so.status_is ∙ e))))

  pub rounds_words : RunsRounds p alone old new n → n ≡ 2 → ⊥
  rounds_words (inr refused) e = let f : n ≡ 3 = refused.status_is in omega (arith, f, e)
  rounds_words (inl so) e = served_not so.served.status so.leaves.statuses (inl (so.status_is ∙ e))

  pub rounds_never : RunsRounds p alone old new n → n ≡ 8 → ⊥
  rounds_never (inr refused) e = let f : n ≡ 3 = refused.status_is in omega (arith, f, e)
  rounds_never (inl so) e = served_not so.served.status so.leaves.statuses (inr (inr (so.status_is ∙ e)))

  pub refused_rounds : RunsRounds p alone old new n → (ArePassed p → ⊥) → IsRefusedOrFails n
  refused_rounds (inl so) never = absurd (never so.passed)
  refused_rounds (inr refused) never = inl refused.status_is

  -- 0
  pub rounds_done : RunsRounds p alone old new n → n ≡ 0 → AnswersInput p alone old.source old.sink new.sink
  rounds_done runs e =
      let so = served_so runs (λ f. omega (arith, e, f)) in
      let d = so.leaves.done (so.status_is ∙ e) in
      let r = replies-of (empty_version p) alone d.frames d.replied.sents d.replied.replies in
      told_text p alone old.source.left d.input (text_of d.replied.sents) old.sink.written new.sink.written d.told
      (record {
        few_bytes = d.size;
        frames = d.frames;
        whole = d.whole;
        sents = d.replied.sents;
        replies = r;
        opens = answers-open p (empty_version p) [] d.frames r.rounds r.serve.0 d.replied.sents so.passed (empty-known p) (none_given _) d.whole.each r.are_rounds.all r.serve.1.served;
        text_is = refl;
      }) d.replied.written

  pub rounds_ended : RunsRounds p alone old new n → n ≡ 0 → IsEnded old.source new.source
  rounds_ended runs e =
      let so = served_so runs (λ f. omega (arith, e, f)) in (so.leaves.done (so.status_is ∙ e)).ended

  pub rounds_flushed : RunsRounds p alone old new n → n ≡ 0 → IsFlushedSo old.sink new.sink
  rounds_flushed runs e =
      let so = served_so runs (λ f. omega (arith, e, f)) in
      let d = so.leaves.done (so.status_is ∙ e) in
      flushed_behind old.sink new.sink (text_of d.replied.sents) d.replied.flushed d.replied.written

  pub rounds_unfailed : RunsRounds p alone old new n → n ≡ 0 → new.sink.faults ≡ old.sink.faults
  rounds_unfailed runs e =
      let so = served_so runs (λ f. omega (arith, e, f)) in (so.leaves.done (so.status_is ∙ e)).replied.no_write_failed

  pub rounds_quiet : RunsRounds p alone old new n → IsReadWhole n → new.source.faults ≡ old.source.faults
  rounds_quiet runs (inl e) =
      let f : n ≡ 0 = e in
      let so = served_so runs (λ g. omega (arith, f, g)) in (so.leaves.done (so.status_is ∙ f)).no_read_failed
  rounds_quiet runs (inr (inl e)) =
      let f : n ≡ 4 = e in
      let so = served_so runs (λ g. omega (arith, f, g)) in (so.leaves.bad_input (so.status_is ∙ f)).no_read_failed
  rounds_quiet runs (inr (inr e)) = absurd (rounds_never runs e)

  -- 4, 5 and 6
  pub rounds_bad : RunsRounds p alone old new n → n ≡ 4 → IfSome old.source.left AreBadFrames
  rounds_bad runs e =
      let so = served_so runs (λ f. omega (arith, e, f)) in
      let b = so.leaves.bad_input (so.status_is ∙ e) in
      told_bad old.source.left b.input b.told (record { frames = b.frames; fault = b.fault; whole = b.whole; bad = b.bad })

  pub rounds_read : RunsRounds p alone old new n → n ≡ 5 → Rose old.source.faults new.source.faults
  rounds_read runs e =
      let so = served_so runs (λ f. omega (arith, e, f)) in rose-once old.source.faults new.source.faults (so.leaves.read_fault (so.status_is ∙ e)).failed

  pub rounds_write : RunsRounds p alone old new n → n ≡ 6 → Rose old.sink.faults new.sink.faults
  rounds_write runs e =
      let so = served_so runs (λ f. omega (arith, e, f)) in (so.leaves.write_fault (so.status_is ∙ e)).failed

  -- bad and good frames
  pub rounds_bad_only : RunsRounds p alone old new n → ArePassed p → IsSomeAnd old.source.left AreBadFrames → IsOrFails status.BadInput n
  rounds_bad_only (inr refused) passed b = absurd (refused.refused passed)
  rounds_bad_only (inl so) passed b = by_number so.leaves.statuses where
    by_number : IsServingStatus so.served.status → IsOrFails status.BadInput n
    by_number (inl e) = let d = so.leaves.done e in absurd (told_good old.source.left d.input d.told (record { size = d.size; frames = d.frames; whole = d.whole }) b)
    by_number (inr (inl e)) = inl (sym so.status_is ∙ e)
    by_number (inr (inr (inl e))) = inr (inl (sym so.status_is ∙ e))
    by_number (inr (inr (inr (inl e)))) = inr (inr (inl (sym so.status_is ∙ e)))
    by_number (inr (inr (inr (inr e)))) = inr (inr (inr (sym so.status_is ∙ e)))

  pub rounds_complete : RunsRounds p alone old new n → ArePassed p → IsSomeAnd old.source.left AreGoodFrames → IsOrFails status.Done n
  rounds_complete (inr refused) passed good = absurd (refused.refused passed)
  rounds_complete (inl so) passed good = by_number so.leaves.statuses where
    by_number : IsServingStatus so.served.status → IsOrFails status.Done n
    by_number (inl e) = inl (sym so.status_is ∙ e)
    by_number (inr (inl e)) = let b = so.leaves.bad_input e in absurd (told_not_bad old.source.left b.input b.told (record { frames = b.frames; fault = b.fault; whole = b.whole; bad = b.bad }) good)
    by_number (inr (inr (inl e))) = inr (inl (sym so.status_is ∙ e))
    by_number (inr (inr (inr (inl e)))) = inr (inr (inl (sym so.status_is ∙ e)))
    by_number (inr (inr (inr (inr e)))) = inr (inr (inr (sym so.status_is ∙ e)))

-- ---- with the files, of which none is read

module _ (p : Parameters) (alone : Bool) (old new : World) (n : ℕ) (runs : ServesRounds p alone old new n) where
  pub rounds_no_read : IsReadWhole n → NoReadFailed old.given new.given
  rounds_no_read is = record {
    source = rounds_quiet p alone (ends_of old) (ends_of new) n runs.rounds is;
    file = ap (λ (f : FilesTold). f.faults) runs.no_file;
  }

  pub rounds_headline : n ≡ 0 → Headline p alone old new
  rounds_headline e = record {
    answered = rounds_done p alone (ends_of old) (ends_of new) n runs.rounds e;
    ended = rounds_ended p alone (ends_of old) (ends_of new) n runs.rounds e;
    flushed = rounds_flushed p alone (ends_of old) (ends_of new) n runs.rounds e;
    no_read_failed = rounds_no_read (inl e);
    no_write_failed = rounds_unfailed p alone (ends_of old) (ends_of new) n runs.rounds e;
  }

  -- refused parameters leave all unread
  pub rounds_unread : n ≡ 3 → NothingRead old.given new.given
  rounds_unread e =
      let refused = refused_so p alone (ends_of old) (ends_of new) n runs.rounds e in
      λ i. record { source = (ap (λ (w : Ends). w.source) refused.nothing) i; files = runs.no_file i }
