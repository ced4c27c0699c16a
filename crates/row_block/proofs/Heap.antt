-- The heap's `allocate` and `deallocate` at a call: what each is handed, and what a caller has of it.
use Rattle.std.proofs.Common.{◌≡◌, ℕ, ◌^◌, ◌<◌, Bool, true, false, List, [], ◌∷◌, ◌++◌, Ok, Err, refl, ap, ◌∙◌, w64}
use seplogic.Ra.Ura.{Ura}
use mir.Syntax.{Ty, impl, tnil, dnil}
use mir.Val.{Val, vint, vptr, vunit, of_list}
use base.Logic.{SProp, ent, sep, guard, emp, fst∗, never, id⊢}
use base.Fml.{Lft, Share, ftrue, fsep, flft, froom}
use prog.Memory.{Memory, size, align, capped}
use prog.Routine.{Routine}
use types.Logic.{Logic, sem}
use types.Kit.{‵, raw, ◌⊛◌, some, later, ◌$◌, ◌∵◌, !, qed, move, keep, drop, use0, use1, use2, split, join, pick, fsplit, fjoin, fpick, feq_l, feq_i, flt_i, check, show, await, updating, now as at_once, done}
use types.Match.{live}
use contract.Monad.{Fun, fact, fact_i}
use denote.Builtin.{unit}
use denote.RawPtr.{Ptr, block_ptr, null_ptr, ptr_val, room_for, in_a_block}
use denote.Steps.{nothing, only}
use denote.Triple.Spec.{triple_of}
use denote.Triple.Statement.{Contract}
use Rattle.std.specs.Allocator.{block_if_ok}
use Rattle.std.specs.contracts.alloc.Global as heap
use Rattle.std.specs.contracts.impls.GlobalAllocator.TheImpl.{ghosts, dict}
use Rattle.std.specs.contracts.impls.GlobalAllocator.allocate as AL
use Rattle.std.specs.contracts.impls.GlobalAllocator.deallocate as DE
use Rattle.std.proofs.alloc.Global.TheLaws as heap_laws
use Rattle.std.proofs.alloc.Calls.{Al, Answer, answer_val, Answered, Fits, got, seen, token}
use Rattle.std.proofs.Handle.{heap_val}

abbrev pub Z : Al
Z = record { row = heap.the_row; laws = heap_laws.the_row_laws; g = ghosts; d = dict; drops = impl [] tnil dnil }

pub handle_typed : Fits Z heap_val
handle_typed = (tt, ((tt, tt), tt))

module _ {M : Type 1} {𝓤 : Ura M} (𝓛 : Logic 𝓤) (at_mem : Memory → SProp 𝓤) (run : Routine → Fun 𝓤) where
  open 𝓛 use {H, A}

  abbrev pub Takes : Contract 𝓤
  Takes = triple_of 𝓛 AL.signature (AL.spec 𝓛 at_mem run)

  abbrev pub Gives : Contract 𝓤
  Gives = triple_of 𝓛 DE.signature (DE.spec 𝓛 at_mem run)

  module _ (κ : Lft) (q : Share) (p : ℕ × ℕ) (a : heap.the_row.Denot) (n al : ℕ) (τ : Ty) where
    abbrev Said : Type 0
    Said = (capped (size τ) ≡ n) × (capped (align τ) ≡ al)

    abbrev pub at_takes : Takes.Ghost
    at_takes = (((κ, tt), (q, tt), tt, (record { ref_ptr = p; now = a }, (n, (al, tt))), (vptr p.0 p.1 ∷ [], (vint w64 n ∷ [], (vint w64 al ∷ [], tt)))), τ)

    pub Takes-goes : Said → n < 2 ^ 64 → al < 2 ^ 64 → ent 𝓤 (sep 𝓤 (sem 𝓛 (seen Z κ p a)) (A.lft κ q)) (Takes.pre at_takes)
    Takes-goes said fn fal =
        qed 𝓛 (‵ (seen Z κ p a) ∷ ‵ (flft κ q) ∷ []) ∵
        use0 𝓛 (raw (fact 𝓤 Said)) (fact_i 𝓤 Said (emp 𝓤) said) $
        nothing ! $ flt_i ! al (2 ^ 64) fal $ feq_i ! (List Val) (vint w64 al ∷ []) (vint w64 al ∷ []) refl $ fjoin ! $ fjoin ! $
        flt_i ! n (2 ^ 64) fn $ feq_i ! (List Val) (vint w64 n ∷ []) (vint w64 n ∷ []) refl $ fjoin ! $ fjoin ! $ move ! (2 ∷ []) $
        feq_i ! (List Val) (vptr p.0 p.1 ∷ []) (vptr p.0 p.1 ∷ []) refl $ fjoin ! $ move ! (0 ∷ 1 ∷ []) $ fjoin ! $
        move ! (2 ∷ []) $ nothing ! $ move ! (1 ∷ 0 ∷ []) $ join ! $ join ! $ join ! $ done !

    answered : (v : Val) (r : Answer.Denot) → ent 𝓤 (sep 𝓤 (sem 𝓛 (Answer.own_val r (v ∷ []))) (sem 𝓛 (block_if_ok (token Z a) τ r))) (Answered Z 𝓛 at_mem run a τ v)
    answered v (Ok r) =
        qed 𝓛 (‵ (Answer.own_val (Ok r) (v ∷ [])) ∷ ‵ (fsep (room_for τ r) (token Z a τ r)) ∷ []) ∵
        fpick ! (λ us. fsplit ! $ feq_l ! (λ e. fpick ! (λ vss. fsplit ! $ feq_l ! (λ e'. fsplit ! $ feq_l ! (λ e''. drop ! $
        in_a_block ! r (λ z. fsep (room_for τ z) (token Z a τ z)) (fst∗ 𝓤 (never 𝓤) (sem 𝓛 (token Z a τ null_ptr))) (λ b o at.
        show ! (λ (c : Bool × (ℕ × ℕ)). guard 𝓤 (v ≡ answer_val c.0 c.1.0 c.1.1) (sem 𝓛 (got (token Z a) τ c.0 c.1.0 c.1.1))) (true, (b, o)) $
        check ! (ap only e ∙ ap (λ (ws : List Val). live 0 (of_list ws)) (e' ∙ ap (λ (ws : List Val). ws ++ []) (e'' ∙ ap (λ (z : Ptr). ptr_val z ∷ []) at))) $ done !))))))
    answered v (Err x) =
        qed 𝓛 (‵ (Answer.own_val (Err x) (v ∷ [])) ∷ ‵ ftrue ∷ []) ∵
        fpick ! (λ us. fsplit ! $ feq_l ! (λ e. fpick ! (λ vss. fsplit ! $ feq_l ! (λ e'. fsplit ! $ fpick ! (λ none. fsplit ! $ feq_l ! (λ e''. keep ! [] $
        show ! (λ (c : Bool × (ℕ × ℕ)). guard 𝓤 (v ≡ answer_val c.0 c.1.0 c.1.1) (sem 𝓛 (got (token Z a) τ c.0 c.1.0 c.1.1))) (false, (0, 0)) $
        check ! (ap only e ∙ ap (λ (ws : List Val). live 1 (of_list ws)) (e' ∙ ap (λ (ws : List Val). ws ++ []) e'')) $ done !))))))

    pub Takes-gives : (v : Val) → ent 𝓤 (Takes.post at_takes v) (H.⇛ (sep 𝓤 (Answered Z 𝓛 at_mem run a τ v) (A.lft κ q)))
    Takes-gives v =
        qed 𝓛 (raw (Takes.post at_takes v) ∷ []) ∵ updating ! $
        use1 𝓛 (later (some (λ (r : Answer.Denot). ((‵ (flft κ q) ⊛ ‵ ftrue) ⊛ ‵ (Answer.own_val r (v ∷ [])))
        ⊛ some (λ (ws : Unit {0} × (Unit {0} × (Unit {0} × Unit {0}))). ‵ (fsep ftrue (fsep ftrue (fsep ftrue ftrue))) ⊛ ‵ (block_if_ok (token Z a) τ r))))) (id⊢ 𝓤 _) $ await ! tt $ pick ! (λ r.
        split ! $ move ! (1 ∷ []) $ pick ! (λ ws. split ! $ drop ! $ move ! (1 ∷ []) $ split ! $ split ! $ keep ! (2 ∷ 3 ∷ 0 ∷ []) $
        use2 𝓛 (raw (Answered Z 𝓛 at_mem run a τ v)) (answered v r) $ at_once ! $ done !))

    module _ (b o : ℕ) where
      abbrev pub at_gives : Gives.Ghost
      at_gives = (((κ, tt), (q, tt), tt, (record { ref_ptr = p; now = a }, (block_ptr b o, (n, (al, tt)))), (vptr p.0 p.1 ∷ [], (vptr b o ∷ [], (vint w64 n ∷ [], (vint w64 al ∷ [], tt))))), τ)

      pub Gives-goes : Said → n < 2 ^ 64 → al < 2 ^ 64
          → ent 𝓤 (sep 𝓤 (H.room τ b o) (sep 𝓤 (sem 𝓛 (token Z a τ (block_ptr b o))) (sep 𝓤 (sem 𝓛 (seen Z κ p a)) (A.lft κ q)))) (Gives.pre at_gives)
      Gives-goes said fn fal =
          qed 𝓛 (‵ (froom τ b o) ∷ ‵ (token Z a τ (block_ptr b o)) ∷ ‵ (seen Z κ p a) ∷ ‵ (flft κ q) ∷ []) ∵ fjoin ! $
          use0 𝓛 (raw (fact 𝓤 Said)) (fact_i 𝓤 Said (emp 𝓤) said) $ join ! $
          nothing ! $ flt_i ! al (2 ^ 64) fal $ feq_i ! (List Val) (vint w64 al ∷ []) (vint w64 al ∷ []) refl $ fjoin ! $ fjoin ! $
          flt_i ! n (2 ^ 64) fn $ feq_i ! (List Val) (vint w64 n ∷ []) (vint w64 n ∷ []) refl $ fjoin ! $ fjoin ! $
          feq_i ! (List Val) (vptr b o ∷ []) (vptr b o ∷ []) refl $ fjoin ! $ move ! (2 ∷ []) $ feq_i ! (List Val) (vptr p.0 p.1 ∷ []) (vptr p.0 p.1 ∷ []) refl $ fjoin ! $ move ! (0 ∷ 1 ∷ []) $ fjoin ! $
          move ! (2 ∷ []) $ nothing ! $ move ! (1 ∷ 0 ∷ []) $ join ! $ join ! $ join ! $ done !

      pub Gives-gives : (v : Val) → ent 𝓤 (Gives.post at_gives v) (H.⇛ (guard 𝓤 (v ≡ vunit) (A.lft κ q)))
      Gives-gives v =
          qed 𝓛 (raw (Gives.post at_gives v) ∷ []) ∵ updating ! $
          use1 𝓛 (later (some (λ (r : Unit {0}). ((‵ (flft κ q) ⊛ ‵ ftrue) ⊛ ‵ (unit.own_val r (v ∷ []))) ⊛ some (λ (ws : Unit {0} × (Unit {0} × (Unit {0} × (Unit {0} × Unit {0})))). ‵ (fsep ftrue (fsep ftrue (fsep ftrue (fsep ftrue ftrue)))) ⊛ ‵ ftrue)))) (id⊢ 𝓤 _) $ await ! tt $ pick ! (λ r.
          split ! $ split ! $ move ! (1 ∷ []) $ feq_l ! (λ e. split ! $ at_once ! $ check ! (ap only e) $ keep ! (0 ∷ []) $ done !))
