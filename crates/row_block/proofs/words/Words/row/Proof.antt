-- `row` reads the pointer through the `&`, and lends a part of the words.
use Rattle.std.proofs.Common.{◌≡◌, ℕ, ◌+◌, ◌*◌, ◌^◌, ◌<◌, ◌≤◌, List, [], ◌∷◌, length, take, drop as drop_l, length-take, length-drop, refl, sym, ap, w64, arith}
use Rattle.std.proofs.raw_atomic.Walks.{proved}
use seplogic.Ra.Ura.{Ura}
use base.Fml.{Lft, Share, Fml, ftrue, fhide, flft}
use base.Logic.{SProp, ent, sep}
use mir.Syntax.{named}
use mir.Val.{Val, vint, vptr}
use prog.Memory.{Memory}
use prog.Routine.{Routine}
use prog.Wp.{Env, WpFn, Tables}
use types.Logic.{Logic, sem}
use types.Kit.{⋆, ‵, raw, ◌⊛◌, at_ret, ◌$◌, ◌∵◌, !, qed, by, move, keep, drop, use1, split, join, fsplit, fjoin, feq_i, flt_i, suffices, frame, done}
use types.Part.{agg}
use types.Run.{stop, fld, look, load, lit, bin, of_opd, and_then, no_more, first, blocks, exec, returns, enter}
use types.ByLocal.{alloc_all, pass_all, free_all, look_at, get, through, sets, sets_last, env}
use contract.Monad.{Fun, fact}
use contract.Running.{tables, tables_of}
use denote.Builtin.{u64, usize, RefOf}
use denote.Exit.{yes}
use denote.Memory.{hidden_shr}
use denote.Opens.{shr_dup, unhide, hide}
use denote.Plain.{uint_vals, uint_Tells, uint_row_laws}
use denote.RattleType.{RattleType, RowLaws, owns}
use denote.RawPtr.{RawPtr, block_of, count_of, InBlock, ptr_row_laws}
use denote.Ref.{Bor, ShrRef, shr_vals, shr_Tells}
use denote.Signature.{plain}
use denote.Slice.{slice_val, elements_shared}
use denote.Steps.{heard, nothing}
use denote.Struct.Lending.{in_block_says, lent_out}
use denote.Struct.Owning.{shape, to}
use denote.Struct.Struct.{Struct, Struct-row_laws}
use denote.Triple.Walked.{says, Stays, walk_of, stay_dropped, Goes-dropped, ends_at}
use Rattle.std.specs.contracts.alloc.Global as heap
use Rattle.std.proofs.alloc.Global.TheLaws as heap_laws
use Rattle.std.proofs.VecSteps.Shapes.{after}
use Rattle.std.proofs.Words.{pointer_in, pointer_out}
use Rattle.row_block.proofs.Memory.{part_seen}
use Rattle.row_block.specs.contracts.words.Words as W
use Rattle.row_block.specs.contracts.words.Words.row as F
use Rattle.row_block.proofs.words.Words.row.Statement.{statement}
use Rattle.row_block.proofs.words.Words.row.Code as code

abbrev Fields : RattleType
Fields = Struct (shape W.the_type)

fields_laws : RowLaws Fields
fields_laws = Struct-row_laws (shape W.the_type) (ptr_row_laws, (uint_row_laws w64, (heap_laws.the_field_shared.shr_laws, tt)))

abbrev stayed : Stays F.ended.signature.params F.ended.kept
stayed = (stay_dropped (RefOf (0 ∷ []) tt (plain (λ _. W.the_row)) (λ _. tt)) yes, (stay_dropped _ yes, (stay_dropped _ yes, tt)))

module _ {M : Type 1} {𝓤 : Ura M} (𝓛 : Logic 𝓤) (at_mem : Memory → SProp 𝓤) (run : Routine → Fun 𝓤) (κ : Lft) (q : Share) (rb ro : ℕ) (d : (W.the_row).Denot) (from width : ℕ) where
  open 𝓛 use {H, A}

  abbrev self : Bor (W.the_row).Denot
  self = record { ref_ptr = (rb, ro); now = d }

  abbrev bound : (walk_of 𝓛 F.ended stayed (F.clauses 𝓛 at_mem run)).Ghost
  bound = (((κ, tt), (q, tt), tt, (self, (from, (width, tt))), (vptr rb ro ∷ [], (vint w64 from ∷ [], (vint w64 width ∷ [], tt)))), tt)

  abbrev Post : Val → SProp 𝓤
  Post = (walk_of 𝓛 F.ended stayed (F.clauses 𝓛 at_mem run)).post bound

  abbrev words : List ℕ
  words = take width (drop_l from d.written)

  abbrev S : Fml
  S = hidden_shr Fields κ (to W.the_type d) rb ro

  shows_start : ent 𝓤 (sem 𝓛 S) (sep 𝓤 (sem 𝓛 (hidden_shr RawPtr κ d.start rb (ro + 0))) (sem 𝓛 S))
  shows_start = qed 𝓛 (‵ S ∷ []) ∵ shr_dup ! Fields fields_laws (to W.the_type d) rb ro κ $ unhide ! $ fsplit ! $ fsplit ! $ hide ! $ keep ! (0 ∷ 3 ∷ []) $ done !

  module _ (asked : from + width ≤ length d.written) where
    long : length words ≡ width
    long = omega (arith, length-take width (drop_l from d.written), length-drop from d.written, asked)

    exits : ent 𝓤 (⋆ 𝓛 (‵ (flft κ q) ∷ ‵ (fhide (elements_shared u64 words (block_of d.start) (from * 8 + count_of d.start) κ)) ∷ [])) (Post (slice_val (block_of d.start, from * 8 + count_of d.start) width))
    exits =
        let at : ℕ × ℕ = (block_of d.start, from * 8 + count_of d.start) in let little = d.small.1 in let below = d.fits in
        qed 𝓛 (‵ (flft κ q) ∷ ‵ (fhide (elements_shared u64 words (block_of d.start) (from * 8 + count_of d.start) κ)) ∷ []) ∵
        suffices ! _ (ends_at 𝓛 F.ended stayed (F.clauses 𝓛 at_mem run) bound (slice_val at width) (record { ref_ptr = at; now = words }) (tt, (tt, (tt, tt))) (tt, (tt, (tt, tt)))) $ says ! refl $
        nothing ! $ move ! (1 ∷ 0 ∷ []) $ join ! $ frame ! $ nothing ! $ nothing ! $ fjoin ! $ nothing ! $ fjoin ! $ nothing ! $ fjoin ! $ frame ! $
        flt_i ! (length words * 8) (2 ^ 63) (omega (arith, long, little, below, asked)) $ flt_i ! (length words) (2 ^ 64) (omega (arith, long, little, below, asked)) $ fjoin ! $
        feq_i ! (List Val) (slice_val at width ∷ []) (slice_val at (length words) ∷ []) (ap (λ k. slice_val at k ∷ []) (sym long)) $ fjoin ! $ fjoin ! $ done !

    module _ (𝓣 : Tables 𝓤 H) where
      walk : ent 𝓤 (⋆ 𝓛 (‵ (hidden_shr W.the_row κ d rb ro) ∷ ‵ (flft κ q) ∷ [])) (WpFn 𝓤 H 𝓣.C 𝓣.Λ code.function (vptr rb ro ∷ vint w64 from ∷ vint w64 width ∷ []) Post)
      walk =
          let little = d.small.1 in let below = d.fits in let at : ℕ × ℕ = (block_of d.start, from * 8 + count_of d.start) in
          let far : from * 8 < 2 ^ 64 = omega (arith, little, below, asked) in let fwidth : width < 2 ^ 64 = omega (arith, little, below, asked) in
          qed 𝓛 (‵ (hidden_shr W.the_row κ d rb ro) ∷ ‵ (flft κ q) ∷ []) ∵ enter ! 𝓣.C 𝓣.Λ code.function (vptr rb ro ∷ vint w64 from ∷ vint w64 width ∷ []) _ $
          alloc_all ! (λ l. pass_all ! refl ((tt, tt), ((tt, record { fits = omega (arith, far) }), ((tt, record { fits = fwidth }), tt))) $
          let En : Env 𝓤 H = env (code.function).locals l in
          use1 𝓛 (‵ S ⊛ ‵ (fhide (W.the_lent d d.start κ))) (lent_out 𝓛 W.struct (W.the_codes heap.the_row.coded) W.the_heap W.the_lent κ d rb ro) $ split ! $ move ! (1 ∷ []) $
          unhide ! $ fsplit ! $ use1 𝓛 (raw (fact 𝓤 (InBlock d.start))) (in_block_says 𝓛 d.start) $ heard ! (InBlock d.start) (λ inb. fsplit ! $ drop ! $
          use1 𝓛 (‵ (elements_shared u64 words at.0 at.1 κ)) (part_seen 𝓛 (block_of d.start) κ d.written from width (count_of d.start) (omega (arith, asked))) $ hide ! $ move ! (1 ∷ 2 ∷ []) $
          first ! $ blocks ! $ pointer_in ! tt d.start inb rb (ro + 0) shows_start (λ q'.
          sets ! (of_opd ! (load ! (through ! refl (fld ! refl (stop !))) (look ! 1 refl))) refl (tt, tt) $ pointer_out ! tt d.start inb rb (ro + 0) $
          sets ! (bin ! (get ! refl) (lit ! tt) (record { fits = far })) refl (tt, record { fits = far }) $
          sets ! (bin ! (get ! refl) (get ! refl) tt) refl (tt, tt) $
          sets_last ! (agg ! (and_then ! (get ! refl) (and_then ! (get ! refl) (no_more !)))) refl (tt, (tt, (record { fits = fwidth }, tt))) $
          exec ! 𝓣.C 𝓣.Λ En (after 1 (code.function).body) (at_ret En Post) $ sets ! (of_opd ! (get ! refl)) refl (tt, (tt, (record { fits = fwidth }, tt))) $
          returns ! (look_at ! 0 refl) $ free_all ! refl $ keep ! (0 ∷ 2 ∷ []) $ by ! exits)))

pub row_spec : {M : Type 1} → statement M
unfolding tables_of
row_spec 𝓤 𝓛 𝓜 𝓡 wired =
    let c = F.clauses 𝓛 𝓜.mem 𝓡.returns in
    let 𝓣 : Tables 𝓤 𝓛.H = tables_of 𝓤 𝓛.H 𝓜 (tables 𝓤 𝓛.H 𝓜 𝓡 𝓡.env) in
    proved 𝓛 F.ended stayed c 𝓜 𝓡 (Goes-dropped 𝓛 1 (RefOf (0 ∷ []) tt (plain (λ _. W.the_row)) (λ _. tt)) yes (λ κs x w. refl), (Goes-dropped 𝓛 1 (plain (λ _. usize)) yes (λ κs x w. refl), (Goes-dropped 𝓛 1 (plain (λ _. usize)) yes (λ κs x w. refl), tt)))
    F.Key.name code.function (code.unfolded 𝓤 𝓛.H 𝓜 𝓡 wired)
    (λ κs. (shr_vals, (uint_vals w64, (uint_vals w64, tt)))) (λ κs. (shr_Tells (named 0) κs.0 W.the_row, (uint_Tells w64, (uint_Tells w64, tt)))) (λ κs qs bounds a _ are.
    let κ = κs.0 in let q = qs.0 in let Asked = a.1.0 + a.1.1.0 ≤ length a.0.now.written in
    qed 𝓛 (((‵ (flft κ q) ⊛ ‵ ftrue) ⊛ ‵ (owns (ShrRef (named 0) κ W.the_row ∷ usize ∷ usize ∷ []) a (shr_vals a.0, (vint w64 a.1.0 ∷ [], (vint w64 a.1.1.0 ∷ [], tt))))) ∷ raw (fact 𝓤 Asked) ∷ []) ∵
    move ! (1 ∷ []) $ heard ! Asked (λ asked. split ! $ split ! $ move ! (2 ∷ []) $ fsplit ! $ fsplit ! $ keep ! (1 ∷ 3 ∷ []) $
    by ! (walk 𝓛 𝓜.mem 𝓡.returns κ q a.0.ref_ptr.0 a.0.ref_ptr.1 a.0.now a.1.0 a.1.1.0 asked 𝓣)))
