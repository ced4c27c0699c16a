-- `open` lends the handle to the heap, and owns the block that it answers: no word of it is written.
use Rattle.std.proofs.Common.{◌≡◌, ℕ, ◌+◌, ◌-◌, ◌*◌, ◌^◌, ◌<◌, ◌≤◌, true, false, [], ◌∷◌, IfOk, Ok, Err, refl, ap, ◌∙◌, lit<, w64, arith}
use Rattle.std.proofs.raw_atomic.Walks.{proved}
use seplogic.Ra.Ura.{Ura}
use base.Fraction.{full_share}
use base.Fml.{Lft, Share, ftrue, fat, froom, flft}
use base.Logic.{SProp, ent, sep, wand, apply∗, id⊢}
use mir.Syntax.{Body, ty_array}
use mir.Raw.{raw as bare}
use mir.Val.{Val, vint, vstruct, vcons, vnil}
use prog.Capped.{capped_is}
use prog.Memory.{Memory, size, align, capped}
use prog.RawLaws.{size-raw, align-raw}
use prog.Routine.{Routine}
use prog.Wp.{Env, Tables, Wp, WpFn, after_seq, at_return}
use sound.WpLaws.{fm_of}
use types.Logic.{Logic, sem}
use types.Kit.{⋆, ‵, raw, ◌⊛◌, some, later, await, pick, at_ret, any_q, Post as After, ◌$◌, ◌∵◌, !, qed, by, move, keep, drop, use0, use1, use2, split, split3, join, rewrite, fsplit, fjoin, suffices, done}
use types.Match.{live, vrt, in_variant}
use types.Part.{whole, agg}
use types.Run.{stop, fld, from, lit, bin, addr, of_opd, and_then, no_more, first, exec, returns, enter, switches_on}
use types.ByLocal.{alloc_all, pass_all, free_all, look_at, get, get_in, get_tag, sets, sets_last, lands_as, take_at, give_at, env}
use types.Tokens.{lft_new}
use contract.BorrowLft.{⊑_static}
use contract.Monad.{Fun, fact}
use contract.Running.{tables, tables_of}
use borrow.Table.OneValue.{part_in, part_out}
use denote.Array.{Array}
use denote.Builtin.{u64, usize}
use denote.Exit.{yes}
use denote.Laws.{Is, shows}
use denote.Memory.{part_at}
use denote.Param.{param, layout}
use denote.Plain.{uint_vals, uint_Tells}
use denote.RattleType.{RattleType, owns}
use denote.RawPtr.{block_ptr}
use denote.Signature.{plain}
use denote.Steps.{heard, nothing, owned, only, peeks}
use denote.Struct.Declared as Declared
use denote.Struct.Struct.{Struct, Struct-Makes}
use denote.Triple.Call.{calls_at}
use denote.Triple.Statement.{Triple}
use denote.Triple.Walked.{says, Stays, walk_of, stay_dropped, Goes-dropped, ends_at}
use Rattle.std.specs.contracts.alloc.AllocError as AE
use Rattle.std.specs.contracts.alloc.Global as heap
use Rattle.std.specs.contracts.result.Result as RS
use Rattle.std.proofs.Handle.{heap_val, heap_Tells}
use Rattle.std.proofs.RawLayout.{as_written}
use Rattle.std.proofs.RcSteps.{Good, first_Good}
use Rattle.std.proofs.ResultValues.{ok_of, err_of}
use Rattle.std.proofs.VecSteps.Rows.{empty}
use Rattle.std.proofs.VecSteps.Shapes.{after, head, arm_body}
use Rattle.std.proofs.alloc.Calls.{Answered, Answer-typed, Lent, lends, seen, answers}
use Rattle.std.proofs.impls.GlobalAllocator.allocate.Met as allocate-thm
use Rattle.std.proofs.impls.GlobalAllocator.allocate.Symbol as allocate
use Rattle.row_block.proofs.Heap.{Z, handle_typed, Takes, at_takes, Takes-goes, Takes-gives}
use Rattle.row_block.proofs.Memory.{E, τ, words_val, words_made}
use Rattle.row_block.specs.contracts.words.Words as W
use Rattle.row_block.specs.contracts.words.Words.open as F
use Rattle.row_block.proofs.words.Words.open.Statement.{statement}
use Rattle.row_block.proofs.words.Words.open.Code as code

abbrev stayed : Stays F.ended.signature.params F.ended.kept
stayed = (stay_dropped _ yes, (stay_dropped _ yes, tt))

abbrev Out : RattleType
Out = RS.the_row W.the_row AE.the_row

from_start : (o : ℕ) → o ≡ o + 0 * 8
from_start o = omega arith

less_none : (n : ℕ) → n ≡ n - 0
less_none n = omega arith

abbrev new_words : (heap.the_row).Denot → ℕ → ℕ → (room : ℕ) → (0 < room) × (room ≤ 2 ^ 25) → (W.the_row).Denot
new_words a b o room asked = record { start = block_ptr b o; room = room; alloc = a; written = []; fits = omega (arith, asked.0); small = asked }

module _ {M : Type 1} {𝓤 : Ura M} (𝓛 : Logic 𝓤) (at_mem : Memory → SProp 𝓤) (run : Routine → Fun 𝓤) (a : (heap.the_row).Denot) (room : ℕ) where
  open 𝓛 use {H, A}

  abbrev bound : (walk_of 𝓛 F.ended stayed (F.clauses 𝓛 at_mem run)).Ghost
  bound = ((tt, tt, tt, (a, (room, tt)), (heap_val ∷ [], (vint w64 room ∷ [], tt))), tt)

  abbrev Post : Val → SProp 𝓤
  Post = (walk_of 𝓛 F.ended stayed (F.clauses 𝓛 at_mem run)).post bound

  abbrev Asked : Type 0
  Asked = (0 < room) × (room ≤ 2 ^ 25)

  exits : (r : Out.Denot) (v : Val) → IfOk r (λ w. (w.room ≡ room) × (w.written ≡ [])) → ent 𝓤 (⋆ 𝓛 (‵ (Out.own_val r (v ∷ [])) ∷ [])) (Post v)
  exits r v g =
      qed 𝓛 (‵ (Out.own_val r (v ∷ [])) ∷ []) ∵
      suffices ! _ (ends_at 𝓛 F.ended stayed (F.clauses 𝓛 at_mem run) bound v r (tt, (tt, tt)) (tt, (tt, tt))) $ says ! g $
      nothing ! $ nothing ! $ fjoin ! $ nothing ! $ fjoin ! $ join ! $ nothing ! $ join ! $ done !

  module _ (𝓣 : Tables 𝓤 H) (callee : Triple 𝓤 (𝓣.C allocate.name) (Takes 𝓛 at_mem run)) where
    walk : Asked → ent 𝓤 (⋆ 𝓛 (‵ ((heap.the_row).own_val a (heap_val ∷ [])) ∷ [])) (WpFn 𝓤 H 𝓣.C 𝓣.Λ code.function (heap_val ∷ vint w64 room ∷ []) Post)
    walk asked =
        let typed = handle_typed in
        let many : room * 8 < 2 ^ 64 = omega (arith, asked.1) in
        let block = bare (ty_array τ room) in
        let said : (capped (size block) ≡ room * 8) × (capped (align block) ≡ 8) = (ap capped (size-raw (ty_array τ room)) ∙ capped_is (room * 8) many, ap capped (align-raw (ty_array τ room)) ∙ capped_is 8 (lit< tt)) in
        qed 𝓛 (‵ ((heap.the_row).own_val a (heap_val ∷ [])) ∷ []) ∵ enter ! 𝓣.C 𝓣.Λ code.function (heap_val ∷ vint w64 room ∷ []) _ $
        alloc_all ! (λ l. pass_all ! refl (typed, ((tt, record { fits = omega (arith, asked.1) }), tt)) $
        let En : Env 𝓤 H = env (code.function).locals l in
        let both : Body = head (after 4 (code.function).body) in
        let Then : After 𝓤 H = any_q (after_seq 𝓤 H (Wp 𝓤 H 𝓣.C 𝓣.Λ En (after 5 (code.function).body) (at_return 𝓤 H En Post)) (at_return 𝓤 H En Post)) in
        sets ! (of_opd ! (get ! refl)) refl typed $
        sets ! (addr ! (from ! (stop !))) refl (tt, tt) $
        sets ! (bin ! (get ! refl) (lit ! tt) (record { fits = many })) refl (tt, record { fits = many }) $
        -- the handle is lent to the heap
        take_at ! 3 $
        use2 𝓛 (‵ (part_at (param 0 heap.the_row) full_share a (l 3) 0)) (part_in 𝓛 (param 0 heap.the_row) refl full_share a (l 3) 0 heap_val) $
        lft_new ! tt (λ α. move ! (1 ∷ 0 ∷ []) $
        use2 𝓛 (later (some (λ (n : ℕ × Share). raw (Lent Z 𝓛 (α ∷ []) full_share (l 3, 0) a n)))) (lends Z 𝓛 (α ∷ []) full_share (⊑_static (α ∷ [])) (l 3, 0) a) $ await ! tt $ pick ! (λ m.
        let κ : Lft = m.0 ∷ α ∷ [] in
        let Ends : SProp 𝓤 = wand 𝓤 (A.lft κ m.1) (H.⇛ (sep 𝓤 (sem 𝓛 (part_at (param 0 heap.the_row) full_share a (l 3) 0)) (A.lft (α ∷ []) full_share))) in
        use1 𝓛 (‵ (seen Z κ (l 3, 0) a) ⊛ ‵ (flft κ m.1) ⊛ raw Ends) (id⊢ 𝓤 _) $ split3 ! $
        let y : (Takes 𝓛 at_mem run).Ghost = at_takes 𝓛 at_mem run κ m.1 (l 3, 0) a (room * 8) 8 block in
        use2 𝓛 (raw ((Takes 𝓛 at_mem run).pre y)) (Takes-goes 𝓛 at_mem run κ m.1 (l 3, 0) a (room * 8) 8 block said many (lit< tt)) $
        calls_at ! (fm_of 𝓤 H 𝓛.laws 𝓣) (Takes 𝓛 at_mem run) callee y (and_then ! (get ! refl) (and_then ! (get ! refl) (and_then ! (lit ! tt) (no_more !)))) (λ v.
        use1 𝓛 (later (raw (Answered Z 𝓛 at_mem run a block v) ⊛ ‵ (flft κ m.1))) (Takes-gives 𝓛 at_mem run κ m.1 (l 3, 0) a (room * 8) 8 block v) $ await ! tt $ split ! $
        -- [the answer; the loan's token; the way back]. The handle comes back
        move ! (1 ∷ 2 ∷ []) $ use2 𝓛 (later (‵ (part_at (param 0 heap.the_row) full_share a (l 3) 0) ⊛ ‵ (flft (α ∷ []) full_share))) (apply∗ 𝓤 (A.lft κ m.1) (H.⇛ (sep 𝓤 (sem 𝓛 (part_at (param 0 heap.the_row) full_share a (l 3) 0)) (A.lft (α ∷ []) full_share)))) $ await ! tt $ split ! $
        use1 𝓛 (some (λ (u : Val). ‵ (fat full_share (layout heap.the_row) (l 3) 0 u) ⊛ ‵ ((heap.the_row).own_val a (u ∷ [])))) (part_out 𝓛 (param 0 heap.the_row) refl full_share a (l 3) 0) $ pick ! (λ u. split ! $ move ! (1 ∷ []) $
        peeks ! heap.the_row (Is heap.the_row) (shows 𝓛 heap.the_row) a (u ∷ []) (λ is. let same : u ≡ heap_val = ap only (heap_Tells a (u ∷ []) is) in
        rewrite ! 0 (λ (w : Val). ‵ ((heap.the_row).own_val a (w ∷ []))) same refl $ rewrite ! 1 (λ (w : Val). ‵ (fat full_share (layout heap.the_row) (l 3) 0 w)) same refl $
        move ! (1 ∷ []) $ give_at ! 3 $ move ! (2 ∷ []) $
        -- [the answer; the handle; a token]
        answers Z ! at_mem run a block v
        (λ b o e.
        let made : Val = words_val (block_ptr b o) room in let new = new_words a b o room asked in
        let typed_words : Good (layout W.the_row) made = (tt, (tt, (record { fits = omega (arith, asked.1) }, (handle_typed.1, tt)))) in
        let ok = first_Good (layout W.the_row) made typed_words in
        lands_as ! e refl (Answer-typed true b o) $ first ! $ switches_on ! (get_tag ! (vrt ! refl (fld ! refl (stop !))) (whole !)) $ exec ! 𝓣.C 𝓣.Λ En (arm_body 0 both) Then $
        sets ! (of_opd ! (get_in ! (vrt ! refl (fld ! refl (stop !))) (in_variant ! 0 0 refl refl (whole !)))) refl (tt, tt) $
        sets ! (of_opd ! (get ! refl)) refl (tt, tt) $ sets ! (of_opd ! (get ! refl)) refl typed $
        sets ! (agg ! (and_then ! (get ! refl) (and_then ! (get ! refl) (and_then ! (get ! refl) (no_more !))))) refl typed_words $
        sets_last ! (agg ! (and_then ! (lit ! tt) (and_then ! (get ! refl) (no_more !)))) refl ok $
        exec ! 𝓣.C 𝓣.Λ En (after 5 (code.function).body) (at_ret En Post) $ sets ! (of_opd ! (get ! refl)) refl ok $
        as_written ! (ty_array τ room) b o $ rewrite ! 0 (λ (k : ℕ). ‵ (froom (ty_array τ room) b k)) (from_start o) refl $ rewrite ! 0 (λ (k : ℕ). ‵ (froom (ty_array τ k) b (o + 0 * 8))) (less_none room) refl $
        use0 𝓛 (‵ (part_at (Array u64 0) full_share [] b o)) (empty E 𝓛 [] b o refl) $
        words_made ! a b o 0 room [] new.fits asked refl $
        use1 𝓛 (‵ (Out.own_val (Ok new) (live 0 (vcons made vnil) ∷ []))) (ok_of 𝓛 W.the_row AE.the_row new made) $
        returns ! (look_at ! 0 refl) $ free_all ! refl $ keep ! (0 ∷ []) $ by ! (exits (Ok new) (live 0 (vcons made vnil)) (refl, refl)))
        (λ e.
        let Refusal : RattleType = Struct (Declared.shape AE.the_type) in
        let none : Val = live 1 (vcons (vstruct vnil) vnil) in
        lands_as ! e refl (Answer-typed false 0 0) $ first ! $ switches_on ! (get_tag ! (vrt ! refl (fld ! refl (stop !))) (whole !)) $ exec ! 𝓣.C 𝓣.Λ En (arm_body 1 both) Then $
        sets ! (of_opd ! (get_in ! (vrt ! refl (fld ! refl (stop !))) (in_variant ! 1 0 refl refl (whole !)))) refl (tt, tt) $
        sets_last ! (agg ! (and_then ! (lit ! tt) (and_then ! (get ! refl) (no_more !)))) refl (tt, (record { fits = lit< tt }, (tt, tt))) $
        exec ! 𝓣.C 𝓣.Λ En (after 5 (code.function).body) (at_ret En Post) $ sets ! (of_opd ! (get ! refl)) refl (tt, (record { fits = lit< tt }, (tt, tt))) $
        owned ! Refusal (Is Refusal) (Struct-Makes 𝓛 (Declared.shape AE.the_type) tt) tt (vstruct vnil ∷ []) (tt, (refl, tt)) $
        use1 𝓛 (‵ (Out.own_val (Err (record {})) (none ∷ []))) (err_of 𝓛 W.the_row AE.the_row (record {}) (vstruct vnil)) $
        returns ! (look_at ! 0 refl) $ free_all ! refl $ keep ! (0 ∷ []) $ by ! (exits (Err (record {})) none tt))))))))

pub open_spec : {M : Type 1} → statement M
unfolding tables_of
open_spec 𝓤 𝓛 𝓜 𝓡 wired =
    let c = F.clauses 𝓛 𝓜.mem 𝓡.returns in
    let 𝓣 : Tables 𝓤 𝓛.H = tables_of 𝓤 𝓛.H 𝓜 (tables 𝓤 𝓛.H 𝓜 𝓡 𝓡.env) in
    proved 𝓛 F.ended stayed c 𝓜 𝓡 (Goes-dropped 𝓛 0 (plain (λ _. heap.the_row)) yes (λ κs x w. refl), (Goes-dropped 𝓛 0 (plain (λ _. usize)) yes (λ κs x w. refl), tt))
    F.Key.name code.function (code.unfolded 𝓤 𝓛.H 𝓜 𝓡 wired)
    (λ κs. ((λ _. heap_val ∷ []), (uint_vals w64, tt))) (λ κs. (heap_Tells, (uint_Tells w64, tt))) (λ κs qs bounds a _ are.
    qed 𝓛 ((‵ ftrue ⊛ ‵ (owns (heap.the_row ∷ usize ∷ []) a (heap_val ∷ [], (vint w64 a.1.0 ∷ [], tt)))) ∷ raw (fact 𝓤 ((0 < a.1.0) × (a.1.0 ≤ 2 ^ 25))) ∷ []) ∵
    move ! (1 ∷ []) $ heard ! ((0 < a.1.0) × (a.1.0 ≤ 2 ^ 25)) (λ asked. split ! $ drop ! $ fsplit ! $ keep ! (0 ∷ []) $
    by ! (walk 𝓛 𝓜.mem 𝓡.returns a.0 a.1.0 𝓣 (allocate-thm.met 𝓤 𝓛 𝓜 𝓡 (code.calls-std_heap::GlobalAllocator::allocate 𝓡.env wired)) asked)))
