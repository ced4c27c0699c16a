-- Reading and writing piece by piece.
use Rattle.std.specs.Prelude.{◌≡◌, ℕ, ◌-◌, ◌≤◌, List, ◌++◌, length, take, drop, Option, Some, None, Result, Ok, Err, OnErr}
use Rattle.std.specs.Io.KnownBytes.{Appends, Consumes, Keeps}
use Rattle.std.proofs.Common.{sym, ap, ◌∙◌, subst, arith, append_assoc, length-append, take-append-drop}
use Rattle.std.proofs.Math.Seq.{take-append_seam, take-length}
use Rattle.std.proofs.KnownBytes.{Consumes-kept, Consumes-trans}
use Rattle.std.proofs.lemmas.List.{take_rest}
use Rattle.psi_outside.specs.declared.faults.ReadFault.{ReadFault}
use Rattle.psi_outside.specs.declared.faults.ReadFault.TheVariants.{Failed, TooLong, NoMemory}
use Rattle.psi_outside.specs.Reading.{IsReadCounted, IsWithin, piece_size}

-- the front of the rest goes over to what is done
pub moves_front : (all done rest : List ℕ) (n : ℕ) → all ≡ done ++ rest → all ≡ (done ++ take n rest) ++ take (length rest - n) (drop n rest)
moves_front all done rest n e =
    e
    ∙ ap (λ (l : List ℕ). done ++ l) (sym (take-append-drop n rest))
    ∙ sym (append_assoc done (take n rest) (drop n rest))
    ∙ ap (λ (l : List ℕ). (done ++ take n rest) ++ l) (sym (take_rest rest n))

appends_kept : (a b c : Option (List ℕ)) (bs : List ℕ) → Appends a b bs → Keeps b c → Appends a c bs
appends_kept None b c bs p q = tt
appends_kept (Some x) None c bs p q = absurd p
appends_kept (Some x) (Some y) None bs p q = absurd q
appends_kept (Some x) (Some y) (Some z) bs p q = q ∙ p

-- what is done is a front of the text, and a call that fails keeps it
pub front_done : (a b c : Option (List ℕ)) (all done rest : List ℕ) → all ≡ done ++ rest → Appends a b done → Keeps b c → (n : ℕ) × Appends a c (take n all)
front_done a b c all done rest e h k =
    (length done, subst (Appends a c) (sym (ap (take (length done)) e ∙ take-append_seam done rest)) (appends_kept a b c done h k))

pub on_err : {T E : Type 0} (r : Result T E) (P : Type 0) → P → OnErr r P
on_err (Ok x) P p = tt
on_err (Err e) P p = p

-- the whole text is a front of it, where the flush fails
pub whole_kept : {T E : Type 0} (r : Result T E) (a b c : Option (List ℕ)) (text : List ℕ) → Appends a b text → Keeps b c → OnErr r ((n : ℕ) × Appends a c (take n text))
whole_kept r a b c text h k = on_err r _ (length text, subst (Appends a c) (sym (take-length text)) (appends_kept a b c text h k))

-- what was taken before is a front of what was left, where the next read fails, and with a piece more, where that is not kept
pub taken_kept : {T E : Type 0} (r : Result T E) (a b c : Option (List ℕ)) (bytes : List ℕ) → Consumes a b bytes → Keeps b c → OnErr r ((taken : List ℕ) × Consumes a c taken)
taken_kept r a b c bytes h k = on_err r _ (bytes, Consumes-kept a b c bytes h k)

-- no more than one piece past the limit was taken, where the bytes with that piece are not kept
pub within_more : (fault : ReadFault) (a b c : Option (List ℕ)) (bytes piece : List ℕ) (limit : ℕ)
    → IsReadCounted 0 0 fault → length bytes ≤ limit → length piece ≤ piece_size → Consumes a b bytes → Consumes b c piece → IsWithin limit a c fault
within_more Failed a b c bytes piece limit no_fault few one h k = absurd (omega (arith, no_fault))
within_more TooLong a b c bytes piece limit no_fault few one h k =
    (bytes ++ piece, Consumes-trans a b c bytes piece h k, omega (arith, few, one, length-append bytes piece))
within_more NoMemory a b c bytes piece limit no_fault few one h k =
    (bytes ++ piece, Consumes-trans a b c bytes piece h k, omega (arith, few, one, length-append bytes piece))

pub taken_more : {T E : Type 0} (r : Result T E) (a b c : Option (List ℕ)) (bytes piece : List ℕ) → Consumes a b bytes → Consumes b c piece → OnErr r ((taken : List ℕ) × Consumes a c taken)
taken_more r a b c bytes piece h k = on_err r _ (bytes ++ piece, Consumes-trans a b c bytes piece h k)
