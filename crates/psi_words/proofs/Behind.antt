-- The words behind a command word, read one after another: the first that is not of its form.
use Rattle.std.proofs.Common.{◌≡◌, ℕ, ◌+◌, Bool, true, ◌⊎◌, inl, inr, List, [], ◌∷◌, ◌++◌, length, Option, None, Some, Result, Ok, Err, refl, sym, ap, ◌∙◌, arith}
use Rattle.std.specs.Result.{IfErr, IsErrAnd, result_unwrap_or}
use Rattle.std.proofs.lemmas.Result.{err_from_is_err_and}
use Rattle.std.proofs.lemmas.Bool.{cases_Bool}
use Rattle.std.proofs.lemmas.List.{length_push}
use Rattle.psi_words.specs.declared.command.Command.{Command}
use Rattle.psi_words.specs.declared.fault.WordFault.{WordFault}
use Rattle.psi_words.specs.declared.fault.WordFault.TheVariants.{NoMemory}
use Rattle.psi_words.specs.Forms.{Form, is_of, read}
use Rattle.psi_words.specs.Forms.Form.{Number}
use Rattle.psi_words.specs.Grammar.{KeepsName, Lead, Words, first_wrong, judged_value, lead_forms}
use Rattle.psi_words.specs.Leads.{first_wrong_behind, wrong_or}

-- ---- what words give

-- the value of an answer
value_in : {A : Type 0} (given x : A) (r : Result A WordFault) → r ≡ Ok given → r ≡ Ok x → x ≡ given
value_in {A} given x r e f = ap (λ (q : Result A WordFault). result_unwrap_or q given) (sym f ∙ e)

-- what is given is given where no word is wrong
given-Ok : {A : Type 0} (wrong : Option ℕ) (given x : A) → judged_value wrong given ≡ Ok x → (wrong ≡ None) × (x ≡ given)
given-Ok None given x e = (refl, value_in given x (Ok given) refl e)
given-Ok (Some k) given x e = cc e

-- a word that is not of its form is so whatever is given
given-Err : {A B : Type 0} (wrong : Option ℕ) (given : A) (other : B) (fault : WordFault) → judged_value wrong given ≡ Err fault
    → (k : ℕ) × (wrong ≡ Some k) × (judged_value (Some k) other ≡ Err fault)
given-Err None given other fault e = cc e
given-Err (Some k) given other fault e = (k, refl, cc e)

-- ---- the first word that is not of its form, and the words that follow

-- behind words of their forms it is among those that follow
first_wrong-None : (number : ℕ) (forms more : List Form) (words rest : Words) → length forms ≡ length words
    → first_wrong number forms words ≡ None → first_wrong number (forms ++ more) (words ++ rest) ≡ first_wrong (number + length forms) more rest
first_wrong-None number [] more [] rest same none = ap (λ n. first_wrong n more rest) (omega arith)
first_wrong-None number [] more (w ∷ words) rest same none = absurd (omega arith)
first_wrong-None number (f ∷ forms) more [] rest same none = absurd (omega arith)
first_wrong-None number (f ∷ forms) more (w ∷ words) rest same none =
    elim (cases_Bool (is_of f w)) [
      | inl is ↦
          let more_words = first_wrong-None (number + 1) forms more words rest (omega arith) (rw is at none) in
          let numbers : number + 1 + length forms ≡ number + length (f ∷ forms) = omega arith in
          rw is (more_words ∙ ap (λ n. first_wrong n more rest) numbers)
      | inr is ↦ cc (rw is at none)
    ]

-- it stays the first
first_wrong-Some : (number k : ℕ) (forms more : List Form) (words rest : Words)
    → first_wrong number forms words ≡ Some k → first_wrong number (forms ++ more) (words ++ rest) ≡ Some k
first_wrong-Some number k [] more words rest some = cc some
first_wrong-Some number k (f ∷ forms) more [] rest some = cc some
first_wrong-Some number k (f ∷ forms) more (w ∷ words) rest some =
    elim (cases_Bool (is_of f w)) [
      | inl is ↦ rw is (first_wrong-Some (number + 1) k forms more words rest (rw is at some))
      | inr is ↦ rw is (rw is at some)
    ]

-- the same with DROP before the words
behind-None : (drop : Option (List ℕ)) (number : ℕ) (forms more : List Form) (words rest : Words) → length forms ≡ length words
    → wrong_or drop (first_wrong number forms words) ≡ None
    → wrong_or drop (first_wrong number (forms ++ more) (words ++ rest)) ≡ first_wrong (number + length forms) more rest
behind-None None number forms more words rest same none = first_wrong-None number forms more words rest same none
behind-None (Some d) number forms more words rest same none =
    elim (cases_Bool (is_of (Number 0 255) d)) [
      | inl is ↦ rw is (first_wrong-None number forms more words rest same (rw is at none))
      | inr is ↦ cc (rw is at none)
    ]

behind-Some : (drop : Option (List ℕ)) (number k : ℕ) (forms more : List Form) (words rest : Words)
    → wrong_or drop (first_wrong number forms words) ≡ Some k
    → wrong_or drop (first_wrong number (forms ++ more) (words ++ rest)) ≡ Some k
behind-Some None number k forms more words rest some = first_wrong-Some number k forms more words rest some
behind-Some (Some d) number k forms more words rest some =
    elim (cases_Bool (is_of (Number 0 255) d)) [
      | inl is ↦ rw is (first_wrong-Some number k forms more words rest (rw is at some))
      | inr is ↦ rw is (rw is at some)
    ]

-- ---- one word after another

-- words that were read are of their forms
pub record AreRead (lead : Lead) (forms : List Form) (words : Words) : Type 0 where
  pub same : length forms ≡ length words
  pub none : first_wrong_behind forms lead words ≡ None

-- words that gave a value were read
pub AreRead-given : {A : Type 0} (lead : Lead) (forms : List Form) (words : Words) (given x : A) → length forms ≡ length words
    → judged_value (first_wrong_behind forms lead words) given ≡ Ok x → AreRead lead forms words × (x ≡ given)
AreRead-given lead forms words given x same e =
    let ok = given-Ok (first_wrong_behind forms lead words) given x e in
    (record { same = same; none = ok.0 }, ok.1)

-- a word that was read is of its form, and has its value
read-Ok : {A : Type 0} (form : Form) (number : ℕ) (word : List ℕ) (value x : A) → read form number word value ≡ Ok x → (is_of form word ≡ true) × (x ≡ value)
read-Ok form number word value x e =
    elim (cases_Bool (is_of form word)) [
      | inl is ↦ (is, value_in value x (read form number word value) (rw is refl) e)
      | inr is ↦ cc (rw is at e)
    ]

-- the next word was read too
pub AreRead-next : {A : Type 0} (lead : Lead) (forms : List Form) (words : Words) (form : Form) (number : ℕ) (word : List ℕ) (value x : A)
    → AreRead lead forms words → number ≡ length (lead_forms lead) + 1 + length forms → read form number word value ≡ Ok x
    → AreRead lead (forms ++ form ∷ []) (words ++ word ∷ []) × (x ≡ value)
AreRead-next lead forms words form number word value x are at e =
    let ok = read-Ok form number word value x e in (
      record {
        same = omega (arith, are.same, length_push forms form, length_push words word);
        none =
            behind-None lead.drop (length (lead_forms lead) + 1) forms (form ∷ []) words (word ∷ []) are.same are.none
            ∙ rw ok.0 refl;
      },
      ok.1,
    )

-- words of which one was not read give its fault, whatever follows
pub gives-fault : {A B : Type 0} (lead : Lead) (forms more : List Form) (words rest : Words) (given : A) (other : B) (fault : WordFault)
    → judged_value (first_wrong_behind forms lead words) given ≡ Err fault
    → judged_value (first_wrong_behind (forms ++ more) lead (words ++ rest)) other ≡ Err fault
gives-fault lead forms more words rest given other fault e =
    let bad = given-Err (first_wrong_behind forms lead words) given other fault e in
    rw (behind-Some lead.drop (length (lead_forms lead) + 1) bad.0 forms more words rest bad.1) bad.2

-- behind words that were read a word that was not gives its fault, whatever follows
pub gives-fault_next : {A B : Type 0} (lead : Lead) (forms more : List Form) (words rest : Words) (form : Form) (number : ℕ) (word : List ℕ) (value : A)
    (other : B) (fault : WordFault) → AreRead lead forms words → number ≡ length (lead_forms lead) + 1 + length forms
    → read form number word value ≡ Err fault
    → judged_value (first_wrong_behind (forms ++ form ∷ more) lead (words ++ word ∷ rest)) other ≡ Err fault
gives-fault_next lead forms more words rest form number word value other fault are at e =
    elim (cases_Bool (is_of form word)) [
      | inl is ↦ cc (rw is at e)
      | inr is ↦
          rw (
            behind-None lead.drop (length (lead_forms lead) + 1) forms (form ∷ more) words (word ∷ rest) are.same are.none,
            is,
            ← at,
          ) (cc (rw is at e))
    ]

-- words that were all read give what is given
pub gives-Ok : {A : Type 0} (lead : Lead) (forms : List Form) (words : Words) (given : A) → AreRead lead forms words
    → judged_value (first_wrong_behind forms lead words) given ≡ Ok given
gives-Ok lead forms words given are = rw are.none refl

-- an answer that hands a fault on
pub hands_on : {A : Type 0} (r : Result A WordFault) (fault : WordFault) → IsErrAnd r (λ f. f ≡ fault) → r ≡ Err fault
hands_on r fault is = let e = err_from_is_err_and r is in e.1 ∙ ap Err e.2

-- with no words before the command word, none were read yet
pub AreRead-nil : (lead : Lead) → lead_forms lead ≡ [] → AreRead lead [] []
AreRead-nil lead e = record { same = refl; none = nothing lead.drop lead.counted e } where
  nothing : (drop : Option (List ℕ)) (counted : Bool) → lead_forms (record { drop = drop; counted = counted }) ≡ [] → wrong_or drop None ≡ None
  nothing None counted e = refl
  nothing (Some word) counted e = cc e

-- a word of its form is read
pub read-is : {A : Type 0} (form : Form) (number : ℕ) (word : List ℕ) (value : A) → is_of form word ≡ true → read form number word value ≡ Ok value
read-is form number word value is = rw is refl

-- a fault that is the judged one
pub judged_fault : (r judged : Result Command WordFault) (fault : WordFault) → r ≡ Err fault → judged ≡ Err fault
    → IfErr r (λ f. (judged ≡ Err f) ⊎ ((f ≡ NoMemory) × KeepsName judged))
judged_fault r judged fault e j = rw e (inl j)

-- want of memory
pub judged_memory : (r judged : Result Command WordFault) (fault : WordFault) (command : Command)
    → r ≡ Err fault → fault ≡ NoMemory → judged ≡ Ok command → KeepsName (Ok command)
    → IfErr r (λ f. (judged ≡ Err f) ⊎ ((f ≡ NoMemory) × KeepsName judged))
judged_memory r judged fault command e memory j keeps = rw (e, j) (inr (memory, keeps))
