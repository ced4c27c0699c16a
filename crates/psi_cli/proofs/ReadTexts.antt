-- How far a text was read.
use Rattle.std.proofs.Common.{◌≡◌, ◌⊎◌, ℕ, ◌+◌, ◌<◌, ◌≤◌, List, [], length, Option, None, Some, refl, sym, ap, ◌∙◌, subst, arith, append-nil, inl, inr}
use Rattle.std.specs.Io.KnownBytes.{Consumes}
use Rattle.std.specs.Option.{IfSome}
use Rattle.psi_outside.specs.Ends.{SourceTold}
use Rattle.psi_outside.specs.Reading.{HasTakenAtMost, piece_size}
use Rattle.psi_cli.specs.declared.status.Status.{Status}
use Rattle.psi_cli.specs.declared.status.Status.TheVariants as status
use Rattle.psi_cli.specs.ItemTexts.{IsItemText, most_item_text}
use Rattle.psi_cli.specs.Reading.{HasNoItems, IsEnded, IsNoItemText, IsReadAbout, IsReadWithin, IsTested}

-- nothing was taken
consumes_none : (left : Option (List ℕ)) → Consumes left left []
consumes_none None = tt
consumes_none (Some bytes) = refl

pub nothing_taken : (most : ℕ) (source : SourceTold) → IsReadAbout most source source
nothing_taken most source = ([], consumes_none source.left, omega arith)

-- a text that was read to its end
all_taken : (left now : Option (List ℕ)) (text : List ℕ) → IfSome left (λ bytes. text ≡ bytes) → IfSome left (λ _. now ≡ Some []) → Consumes left now text
all_taken None now text told ended = tt
all_taken (Some bytes) now text told ended = subst (λ (o : Option (List ℕ)). Consumes (Some bytes) o text) (sym ended) (sym told ∙ sym (append-nil text))

pub read_to_end : (most : ℕ) (old new : SourceTold) (text : List ℕ) → IfSome old.left (λ bytes. text ≡ bytes) → IsEnded old new → length text ≤ most
    → IsReadWithin most old new
read_to_end most old new text told ended few = (text, all_taken old.left new.left text told ended, few)

-- at most so many bytes are at most a piece more
pub within_about : (most : ℕ) (old new : SourceTold) → IsReadWithin most old new → IsReadAbout most old new
within_about most old new h = (h.0, h.1, omega (arith, h.2))

-- a text that was read to its end is tested
pub ended_tested : (most : ℕ) (old new : SourceTold) → IsEnded old new → IsReadWithin most old new → IsTested most old new
ended_tested most old new ended within = record { told = by_told old.left ended; about = within_about most old new within } where
  by_told : (o : Option (List ℕ)) → IfSome o (λ _. new.left ≡ Some []) → IfSome o (λ bytes. (most < length bytes) ⊎ (new.left ≡ Some []))
  by_told None e = tt
  by_told (Some bytes) e = inr e

-- a text that was read to its end and has no items
no_text : (o : Option (List ℕ)) (text : List ℕ) → IfSome o (λ bytes. text ≡ bytes) → (IsItemText text → ⊥) → IfSome o (λ bytes. IsItemText bytes → ⊥)
no_text None text told none = tt
no_text (Some bytes) text told none = λ is. none (subst IsItemText (sym told) is)

pub no_items_in : (old new : SourceTold) (text : List ℕ) (s : Status) → IfSome old.left (λ bytes. text ≡ bytes) → IsEnded old new → new.faults ≡ old.faults
    → length text ≤ most_item_text → IsNoItemText text s → HasNoItems old new s
no_items_in old new text status.BadInput told ended quiet few why = record {
  no_item_text = no_text old.left text told why;
  no_read_failed = quiet;
  tested = ended_tested most_item_text old new ended (read_to_end most_item_text old new text told ended few);
}
no_items_in old new text status.NoMemory told ended quiet few why = within_about most_item_text old new (read_to_end most_item_text old new text told ended few)
no_items_in old new text status.Done told ended quiet few why = absurd why
no_items_in old new text status.Words told ended quiet few why = absurd why
no_items_in old new text status.Parameters told ended quiet few why = absurd why
no_items_in old new text status.ReadFault told ended quiet few why = absurd why
no_items_in old new text status.WriteFault told ended quiet few why = absurd why
no_items_in old new text status.Crowded told ended quiet few why = absurd why
