-- Lists of entries as bytes: one more of them, and where they break.
use Rattle.std.specs.Prelude.{◌≡◌, ◌≢◌, ℕ, ◌+◌, ◌<◌, ◌≤◌, Bool, true, false, List, [], ◌∷◌, ◌++◌, length, take, drop}
use Rattle.std.specs.List.{All, flat_map}
use Rattle.std.proofs.Common.{refl, sym, ap, ◌∙◌, subst, arith, length-append, append_assoc}
use Rattle.std.proofs.Math.Seq.{take-append_seam, take-append-add}
use Rattle.std.proofs.lemmas.Bool.{false≢true}
use Rattle.std.proofs.lemmas.Grind.{flat_map-append}
use Rattle.std.proofs.lemmas.List.{take-append-drop, length-take-le, length-drop}
use Rattle.std.proofs.lemmas.List.Elements.{All-append, All-cons, All-nil}
use Rattle.item_slots.proofs.BigBytes.{bytes_from}
use Rattle.psi_residue.specs.Parameters.{Parameters}
use Rattle.psi_bundle.specs.Histories.{AreBytes}
use Rattle.psi_follower.specs.declared.entry_bytes.Fed.{Fed}
use Rattle.psi_follower.specs.EntryBytes.{entry_bytes, list_bytes, IsReadable, BreakAt}
use Rattle.psi_follower.specs.Inner.EntryFronts.{is_entry_front, front_entry, entry_size}
use Rattle.psi_follower.proofs.EntryFronts.{front-spelled, front-size, front-readable, entry-written}

nil-right : (xs : List ℕ) → xs ++ [] ≡ xs
nil-right [] = refl
nil-right (x ∷ xs) = ap (λ (ys : List ℕ). x ∷ ys) (nil-right xs)

module _ (p : Parameters) (bytes : List ℕ) (each : AreBytes bytes) (feds : List Fed) (at : ℕ) (read : list_bytes feds ≡ take at bytes) (all : All (IsReadable p) feds) (within : at ≤ length bytes) where
  -- one entry more
  module _ (fed : Fed) (size : ℕ) (front : is_entry_front p (drop at bytes) ≡ true) (is : fed ≡ front_entry p (drop at bytes)) (is_size : size ≡ entry_size p (drop at bytes)) where
    here : AreBytes (drop at bytes)
    here = bytes_from at bytes each

    spelled : take size (drop at bytes) ≡ entry_bytes fed.place fed.entry
    spelled =
        let f = front_entry p (drop at bytes) in
        ap (λ (n : ℕ). take n (drop at bytes)) (is_size ∙ front-size p (drop at bytes) here front)
        ∙ ap (take (length (entry_bytes f.place f.entry))) (front-spelled p (drop at bytes) here front)
        ∙ take-append_seam (entry_bytes f.place f.entry) (drop (entry_size p (drop at bytes)) (drop at bytes))
        ∙ ap (λ (g : Fed). entry_bytes g.place g.entry) (sym is)

    pub list-more : list_bytes (feds ++ fed ∷ []) ≡ take (at + size) bytes
    list-more =
        flat_map-append (λ (g : Fed). entry_bytes g.place g.entry) feds (fed ∷ [])
        ∙ (λ i. read i ++ (nil-right (entry_bytes fed.place fed.entry) ∙ sym spelled) i)
        ∙ sym (take-append-add (take at bytes) (drop at bytes) size)
        ∙ (λ i. take (length-take-le at bytes within i + size) (take-append-drop at bytes i))

    pub all-more : All (IsReadable p) (feds ++ fed ∷ [])
    all-more = All-append (IsReadable p) feds (fed ∷ []) all (All-cons (IsReadable p) fed [] (subst (IsReadable p) (sym is) (front-readable p (drop at bytes) here front)) (All-nil (IsReadable p)))

  -- no entry begins there
  pub breaks : at < length bytes → is_entry_front p (drop at bytes) ≡ false → BreakAt p bytes at
  breaks lt none = record {
    feds = feds;
    rest = drop at bytes;
    front = sym (take-append-drop at bytes) ∙ ap (λ (ys : List ℕ). ys ++ drop at bytes) (sym read);
    each = all;
    at = sym (ap length read ∙ length-take-le at bytes within);
    some = λ e. omega (arith, ap length e, length-drop at bytes, lt);
    none = λ f more readable e. false≢true (sym none ∙ ap (is_entry_front p) e ∙ entry-written p f more readable);
  }
