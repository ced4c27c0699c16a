-- The drop gives the whole block back by the handle, which lies in a field.
use Rattle.std.proofs.Common.{◌≡◌, ℕ, ◌+◌, ◌-◌, ◌*◌, ◌^◌, ◌<◌, List, [], ◌∷◌, ◌++◌, length, refl, sym, ap, subst, ◌∙◌, lit<, w64, arith}
use Rattle.std.proofs.raw_atomic.Walks.{proved_at}
use seplogic.Ra.Ura.{Ura}
use base.Fraction.{full_share}
use base.Fml.{Lft, ftrue, froom, flft}
use base.Logic.{SProp, ent}
use lib.Dec.{T}
use mir.Syntax.{Ty, Tys, tnil, tcons, ty_array, ty_int, ty_ptr, ty_unit}
use mir.Raw.{raw as bare}
use mir.Val.{Val, Vals, vint, vptr, vunit, vcons, vnil, has_ty, WT}
use prog.Capped.{capped_is}
use prog.Memory.{Memory, size, align, capped}
use prog.RawLaws.{size-raw, align-raw}
use prog.Routine.{Routine}
use prog.Wp.{Env, WpFn, Tables}
use sound.WpLaws.{fm_of}
use types.Logic.{Logic}
use types.Kit.{⋆, ‵, raw, ◌⊛◌, prop, later, given, await, learn, at_ret, ◌$◌, ◌∵◌, !, qed, by, move, keep, drop, use1, use2, use3, split, join, regoal, fsplit, fjoin, feq_i, suffices, done}
use types.Part.{whole, sub}
use types.Run.{stop, fld, from, lit, bin, addr, unit_lit, of_opd, and_then, no_more, first, blocks, exec, returns, enter}
use types.ByLocal.{alloc_all, pass_all, free_all, look_at, get, get_in, sets, lands_last, take_at, give_at, env}
use types.Tokens.{lft_new}
use contract.BorrowLft.{⊑_static}
use contract.Monad.{Fun}
use contract.Running.{tables, tables_of}
use denote.Array.{Array}
use denote.Builtin.{u64}
use denote.Memory.{part_at}
use denote.Param.{layout}
use denote.RattleType.{owns}
use denote.RawPtr.{block_ptr}
use denote.Signature.{plain, types_at}
use denote.Steps.{nothing}
use denote.Triple.Call.{calls_at_last}
use denote.Triple.Entry.{alive}
use denote.Triple.Statement.{Triple}
use denote.Triple.Walked.{Stays, walk_of, stay_dropped, ends_at}
use Rattle.std.specs.contracts.alloc.Global as heap
use Rattle.std.proofs.Handle.{heap_val}
use Rattle.std.proofs.RawLayout.{as_raw}
use Rattle.std.proofs.RcSteps.{Good}
use Rattle.std.proofs.VecSteps.Rows.{all_room}
use Rattle.std.proofs.VecSteps.Shapes.{after}
use Rattle.std.proofs.alloc.Calls.{Goes-blank, lends_field, takes_back, token}
use Rattle.std.proofs.impls.GlobalAllocator.deallocate.Met as deallocate-thm
use Rattle.std.proofs.impls.GlobalAllocator.deallocate.Symbol as deallocate
use Rattle.row_block.proofs.Heap.{Z, handle_typed, Gives, at_gives, Gives-goes, Gives-gives}
use Rattle.row_block.proofs.Memory.{E, τ, words_val, words_had}
use Rattle.row_block.specs.contracts.words.Words as W
use Rattle.row_block.specs.contracts.words.Words.drop as F
use Rattle.row_block.proofs.words.Words.drop.Statement.{statement}
use Rattle.row_block.proofs.words.Words.drop.Code as code

abbrev stayed : Stays F.ended.signature.params F.ended.kept
stayed = (stay_dropped (plain (λ _. W.the_row)) (F.ended.kept).0, tt)

-- the fields as they lie in memory, and where the handle lies
abbrev fields : Tys
fields = tcons ty_ptr (tcons (ty_int w64) (tcons (layout heap.the_row) tnil))

abbrev handle_at : ℕ
handle_at = 16

module _ {M : Type 1} {𝓤 : Ura M} (𝓛 : Logic 𝓤) (at_mem : Memory → SProp 𝓤) (run : Routine → Fun 𝓤) (d : (W.the_row).Denot) (vs : List Val) where
  open 𝓛 use {H, A}

  abbrev bound : (walk_of 𝓛 F.ended stayed (F.clauses 𝓛 at_mem run)).Ghost
  bound = ((tt, tt, tt, (d, tt), (vs, tt)), tt)

  abbrev Post : Val → SProp 𝓤
  Post = (walk_of 𝓛 F.ended stayed (F.clauses 𝓛 at_mem run)).post bound

  exits : ent 𝓤 (⋆ 𝓛 []) (Post vunit)
  exits =
      qed 𝓛 [] ∵ suffices ! _ (ends_at 𝓛 F.ended stayed (F.clauses 𝓛 at_mem run) bound vunit tt (tt, tt) (tt, tt)) $
      feq_i ! (List Val) (vunit ∷ []) (vunit ∷ []) refl $ nothing ! $ nothing ! $ fjoin ! $ join ! $ nothing ! $ join ! $ nothing ! $ move ! (1 ∷ 0 ∷ []) $ done !

  module _ (𝓣 : Tables 𝓤 H) (callee : Triple 𝓤 (𝓣.C deallocate.name) (Gives 𝓛 at_mem run)) where
    walk : (b o : ℕ)
        → ent 𝓤 (⋆ 𝓛 (‵ (part_at (Array u64 (length d.written)) full_share d.written b o) ∷ ‵ (froom (ty_array τ (d.room - length d.written)) b (o + length d.written * 8)) ∷ ‵ (token Z d.alloc (bare (ty_array τ d.room)) (block_ptr b o)) ∷ ‵ ((heap.the_row).own_val d.alloc (heap_val ∷ [])) ∷ []))
        (WpFn 𝓤 H 𝓣.C 𝓣.Λ code.function (words_val (block_ptr b o) d.room ∷ []) Post)
    walk b o =
        let n = length d.written in let room = d.room in let little = d.small.1 in
        let many : room * 8 < 2 ^ 64 = omega (arith, little) in let fits : room < 2 ^ 64 = omega (arith, little) in
        let block : Ty = bare (ty_array τ room) in
        let said : (capped (size block) ≡ room * 8) × (capped (align block) ≡ 8) = (ap capped (size-raw (ty_array τ room)) ∙ capped_is (room * 8) many, ap capped (align-raw (ty_array τ room)) ∙ capped_is 8 (lit< tt)) in
        let words : Vals = vcons (vptr b o) (vcons (vint w64 room) (vcons heap_val vnil)) in
        let typed : Good (layout W.the_row) (words_val (block_ptr b o) room) = (tt, (tt, (record { fits = fits }, (handle_typed.1, tt)))) in
        qed 𝓛 (‵ (part_at (Array u64 n) full_share d.written b o) ∷ ‵ (froom (ty_array τ (room - n)) b (o + n * 8)) ∷ ‵ (token Z d.alloc block (block_ptr b o)) ∷ ‵ ((heap.the_row).own_val d.alloc (heap_val ∷ [])) ∷ []) ∵
        use2 𝓛 (‵ (froom (ty_array τ room) b o)) (all_room E 𝓛 b o n room d.written d.fits) $ as_raw ! (ty_array τ room) b o $
        enter ! 𝓣.C 𝓣.Λ code.function (words_val (block_ptr b o) room ∷ []) _ $ alloc_all ! (λ l. pass_all ! refl (typed, tt) $
        let En : Env 𝓤 H = env (code.function).locals l in
        sets ! (of_opd ! (get ! refl)) refl typed $ first ! $ blocks ! $
        sets ! (addr ! (from ! (fld ! refl (stop !)))) refl (tt, tt) $
        sets ! (of_opd ! (get_in ! (fld ! refl (stop !)) (sub ! 0 refl (whole !)))) refl (tt, tt) $
        sets ! (of_opd ! (get ! refl)) refl (tt, tt) $
        sets ! (of_opd ! (get_in ! (fld ! refl (stop !)) (sub ! 1 refl (whole !)))) refl (tt, record { fits = fits }) $
        sets ! (bin ! (get ! refl) (lit ! tt) (record { fits = many })) refl (tt, record { fits = many }) $
        -- the handle's field is lent to the heap
        lft_new ! tt (λ α. take_at ! 2 $ move ! (0 ∷ 4 ∷ 1 ∷ []) $
        lends_field Z (W.the_type).name fields 2 handle_at (l 2) 0 words d.alloc (α ∷ []) full_share ! tt refl (⊑_static (α ∷ [])) (λ m.
        let κ : Lft = m.0 ∷ α ∷ [] in let hp : ℕ × ℕ = (l 2, 0 + handle_at) in
        let y : (Gives 𝓛 at_mem run).Ghost = at_gives 𝓛 at_mem run κ m.1 hp d.alloc (room * 8) 8 block b o in
        join ! $ move ! (2 ∷ 3 ∷ 0 ∷ []) $ use3 𝓛 (raw ((Gives 𝓛 at_mem run).pre y)) (Gives-goes 𝓛 at_mem run κ m.1 hp d.alloc (room * 8) 8 block b o said many (lit< tt)) $
        calls_at_last ! (fm_of 𝓤 H 𝓛.laws 𝓣) (Gives 𝓛 at_mem run) callee y (and_then ! (get ! refl) (and_then ! (get ! refl) (and_then ! (get ! refl) (and_then ! (lit ! tt) (no_more !))))) (λ v.
        use1 𝓛 (later (given (v ≡ vunit) (‵ (flft κ m.1)))) (Gives-gives 𝓛 at_mem run κ m.1 hp d.alloc (room * 8) 8 block b o v) $ await ! tt $ learn ! (λ e.
        takes_back Z (W.the_type).name fields 2 handle_at (l 2) 0 words d.alloc (α ∷ []) full_share ! tt m (λ hv fa. give_at ! 2 $
        lands_last ! refl (subst (λ (u : Val). T (has_ty ty_unit u) × WT u) (sym e) (tt, tt)) $ exec ! 𝓣.C 𝓣.Λ En (after 2 (code.function).body) (at_ret En Post) $
        sets ! (of_opd ! (unit_lit !)) refl (tt, tt) $ returns ! (look_at ! 0 refl) $ free_all ! refl $ keep ! [] $ by ! exits))))))

pub drop_spec : {M : Type 1} → statement M
unfolding tables_of
drop_spec 𝓤 𝓛 𝓜 𝓡 wired =
    let c = F.clauses 𝓛 𝓜.mem 𝓡.returns in
    let 𝓣 : Tables 𝓤 𝓛.H = tables_of 𝓤 𝓛.H 𝓜 (tables 𝓤 𝓛.H 𝓜 𝓡 𝓡.env) in
    proved_at 𝓛 F.ended stayed c 𝓜 𝓡 (Goes-blank 𝓛 0 (plain (λ _. W.the_row)) (F.ended.kept).0 (λ κs x f. tt), tt) F.Key.name code.function (code.unfolded 𝓤 𝓛.H 𝓜 𝓡 wired) (λ z are.
    let d = z.0.3.0 in let vs = z.0.4.0 in let P = (walk_of 𝓛 F.ended stayed c).post z in
    qed 𝓛 ((raw (alive 𝓛 F.signature z.0.0 z.0.1) ⊛ ‵ (owns (types_at F.signature.params z.0.0) z.0.3 z.0.4)) ∷ ‵ ftrue ∷ []) ∵
    split ! $ drop ! $ fsplit ! $ words_had ! d vs (λ b o at is fits.
    regoal ! (λ (us : List Val). prop (WpFn 𝓤 𝓛.H 𝓣.C 𝓣.Λ code.function (us ++ []) P)) is refl $ keep ! (0 ∷ 1 ∷ 2 ∷ 3 ∷ []) $
    by ! (walk 𝓛 𝓜.mem 𝓡.returns d vs 𝓣 (deallocate-thm.met 𝓤 𝓛 𝓜 𝓡 (code.calls-std_heap::GlobalAllocator::deallocate 𝓡.env wired)) b o)))
