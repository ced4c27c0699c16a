-- `push_row` keeps the words below its place, and writes the row's words behind them, one by one.
use Rattle.std.proofs.Common.{◌≡◌, ℕ, zero, suc, ◌+◌, ◌-◌, ◌*◌, ◌^◌, ◌<◌, ◌≤◌, List, [], ◌∷◌, ◌++◌, length, get_or, set, take, length-take, length-append, append_assoc, append-nil, refl, sym, ap, ◌∙◌, lit<, ltb→lt, nltb→le, w64, MutBor, arith}
use Rattle.std.proofs.raw_atomic.Walks.{proved}
use Rattle.std.proofs.ptr.Rows.{one_more, take_snoc, take_all}
use mathlib.Core.WellFounded.InvImage
use lib.WfN.{lt-wf_rel}
use seplogic.Ra.Ura.{Ura}
use base.Fraction.{full_share}
use base.Fml.{Lft, GName, Share, ftrue, fat, froom, fhide, flft, fobs, fauth, fbor, fobor}
use base.Logic.{SProp, ent}
use mir.Raw.{raw as bare}
use mir.Syntax.{Body, named, ty_int, ty_array}
use mir.Val.{Val, vint, vptr, vunit}
use prog.Memory.{Memory}
use prog.Routine.{Routine}
use prog.Wp.{Env, Out, Wp, WpFn, Tables, at_return, after_seq, after_block, after_turn}
use types.Logic.{Logic}
use types.Kit.{Item, Sq, any_q, runs, ⋆, ‵, raw, ◌⊛◌, at_ret, ◌$◌, ◌∵◌, !, qed, by, move, keep, drop, use1, use2, split, split3, join, rewrite, fsplit, fsplit3, fjoin, fjoin3, feq_i, suffices, frame, done}
use types.Part.{whole, sub, look_in}
use types.Run.{stop, fld, look, load, init, lit, bin, unit_lit, of_opd, assigns, first, blocks, skips, jumps, branches, exec, returns, enter, loops, again, Below, well_typed}
use types.ByLocal.{alloc_all, pass_all, free_all, look_at, get, get_in, through, sets, sets_last, holding, forget_but, take_at, give_at, env}
use types.SemTy.{Body as Borrowed}
use contract.Monad.{Fun, fact}
use contract.Running.{tables, tables_of}
use denote.Builtin.{u64, usize, SliceRefOf}
use denote.Copied.{uint_Copied}
use denote.Exit.{yes}
use denote.Index.{place, place_is, others, takes, puts, row, looks_slice, shuts_slice}
use denote.Memory.{cell_at, mem, part_at, shares}
use denote.Opens.{Shut}
use denote.Plain.{uint_vals, uint_Tells, uint_in, uint_out}
use denote.RattleType.{owns}
use denote.RawPtr.{block_ptr}
use denote.Ref.{MutRef, mut_vals, mut_Tells}
use denote.Signature.{plain}
use denote.Slice.{ShrSlice, slice_val, shr_slice_vals, shr_slice_Tells, elements_shared}
use denote.Steps.{heard, nothing, opens, closes}
use denote.Triple.Walked.{says, Stays, walk_of, stay_dropped, stay_ref, Goes-dropped, Goes-ref, ends_at}
use Rattle.std.specs.contracts.alloc.Global as heap
use Rattle.std.proofs.Handle.{heap_val}
use Rattle.std.proofs.VecSteps.Rows.{spare, snoc}
use Rattle.std.proofs.VecSteps.Shapes.{after}
use Rattle.std.proofs.alloc.Calls.{token}
use Rattle.row_block.proofs.Heap.{Z}
use Rattle.row_block.proofs.Memory.{E, τ, words_val, words_had, words_made, words_at, room_at, keeps}
use Rattle.row_block.specs.contracts.words.Words as W
use Rattle.row_block.specs.contracts.words.Words.push_row as F
use Rattle.row_block.proofs.words.Words.push_row.Statement.{statement}
use Rattle.row_block.proofs.words.Words.push_row.Code as code

abbrev stayed : Stays F.ended.signature.params F.ended.kept
stayed = (stay_ref (0 ∷ []) tt (plain (λ _. W.the_row)), (stay_dropped _ yes, (stay_dropped (SliceRefOf (1 ∷ []) tt (plain (λ _. u64)) (λ _. tt)) yes, tt)))

set_same : (xs : List ℕ) (i : ℕ) → set xs i (get_or xs i 0) ≡ xs
set_same [] i = refl
set_same (x ∷ xs) zero = refl
set_same (x ∷ xs) (suc i) = ap (λ (l : List ℕ). x ∷ l) (set_same xs i)

module _ {M : Type 1} {𝓤 : Ura M} (𝓛 : Logic 𝓤) where
  -- a word of the row is read
  row_out : (p : Share) (ys : List ℕ) (i b o : ℕ) → i < length ys
      → ent 𝓤 (⋆ 𝓛 (‵ (row u64 p ys b o) ∷ [])) (⋆ 𝓛 (‵ (fat p τ b (i * 8 + o) (vint w64 (get_or ys i 0))) ∷ ‵ (others (shares u64) p ys i b o) ∷ []))
  row_out p ys i b o inside =
      qed 𝓛 (‵ (row u64 p ys b o) ∷ []) ∵
      use1 𝓛 (‵ (part_at u64 p (get_or ys i 0) b (place 8 o i)) ⊛ ‵ (others (shares u64) p ys i b o)) (takes (shares u64) p 𝓛 ys i 0 b o inside) $ split ! $
      rewrite ! 0 (λ (k : ℕ). ‵ (part_at u64 p (get_or ys i 0) b k)) (place_is 8 o i) refl $
      use1 𝓛 (‵ (fat p τ b (i * 8 + o) (vint w64 (get_or ys i 0)))) (uint_out 𝓛 p w64 (get_or ys i 0) b (i * 8 + o)) $ done !

  row_in : (p : Share) (ys : List ℕ) (i b o : ℕ) → i < length ys
      → ent 𝓤 (⋆ 𝓛 (‵ (fat p τ b (i * 8 + o) (vint w64 (get_or ys i 0))) ∷ ‵ (others (shares u64) p ys i b o) ∷ [])) (⋆ 𝓛 (‵ (row u64 p ys b o) ∷ []))
  row_in p ys i b o inside =
      qed 𝓛 (‵ (fat p τ b (i * 8 + o) (vint w64 (get_or ys i 0))) ∷ ‵ (others (shares u64) p ys i b o) ∷ []) ∵
      use1 𝓛 (‵ (part_at u64 p (get_or ys i 0) b (i * 8 + o))) (uint_in 𝓛 p w64 (get_or ys i 0) b (i * 8 + o)) $
      rewrite ! 0 (λ (k : ℕ). ‵ (part_at u64 p (get_or ys i 0) b k)) (sym (place_is 8 o i)) refl $
      use2 𝓛 (‵ (row u64 p (set ys i (get_or ys i 0)) b o)) (puts (shares u64) p 𝓛 ys i (get_or ys i 0) b o inside) $
      rewrite ! 0 (λ (zs : List ℕ). ‵ (row u64 p zs b o)) (set_same ys i) refl $ done !

  -- a word is written behind n words
  room_out : (b o at n room : ℕ) → at ≡ n * 8 + o → n < room
      → ent 𝓤 (⋆ 𝓛 (‵ (room_at 𝓛 b o room n) ∷ [])) (⋆ 𝓛 (‵ (froom τ b at) ∷ ‵ (room_at 𝓛 b o room (n + 1)) ∷ []))
  room_out b o at n room e less =
      qed 𝓛 (‵ (room_at 𝓛 b o room n) ∷ []) ∵ use1 𝓛 (‵ (froom τ b (n * 8 + o)) ⊛ ‵ (room_at 𝓛 b o room (n + 1))) (spare E 𝓛 b o n room less) $ split ! $
      rewrite ! 0 (λ (k : ℕ). ‵ (froom τ b k)) (sym e) refl $ done !

  word_in : (b o at n y : ℕ) (xs : List ℕ) → at ≡ n * 8 + o
      → ent 𝓤 (⋆ 𝓛 (‵ (words_at 𝓛 b o n xs) ∷ ‵ (fat full_share τ b at (vint w64 y)) ∷ [])) (⋆ 𝓛 (‵ (words_at 𝓛 b o (n + 1) (xs ++ y ∷ [])) ∷ []))
  word_in b o at n y xs e =
      qed 𝓛 (‵ (words_at 𝓛 b o n xs) ∷ ‵ (fat full_share τ b at (vint w64 y)) ∷ []) ∵ move ! (1 ∷ []) $
      use1 𝓛 (‵ (part_at u64 full_share y b at)) (uint_in 𝓛 full_share w64 y b at) $ rewrite ! 0 (λ (k : ℕ). ‵ (part_at u64 full_share y b k)) e refl $ move ! (1 ∷ 0 ∷ []) $
      by ! (snoc E 𝓛 b o n xs y)

abbrev moves : Body
moves = after 3 code.Mir.turn-1

abbrev rest : Body
rest = after 2 (code.function).body

module _ {M : Type 1} {𝓤 : Ura M} (𝓛 : Logic 𝓤) (at_mem : Memory → SProp 𝓤) (run : Routine → Fun 𝓤) (𝓣 : Tables 𝓤 𝓛.H) (κ κ₁ : Lft) (q q₁ : Share) (rb ro : ℕ) (γ : GName) (d : (W.the_row).Denot) (from sb so : ℕ) (ys : List ℕ) (asked : (from ≤ length d.written) × (from + length ys ≤ d.room)) where
  open 𝓛 use {H, A}

  abbrev self : MutBor (W.the_row).Denot
  self = record { ref_ptr = (rb, ro); ghost_name = γ; now = d }

  abbrev bound : (walk_of 𝓛 F.ended stayed (F.clauses 𝓛 at_mem run)).Ghost
  bound = (((κ, (κ₁, tt)), (q, (q₁, tt)), tt, (self, (from, (record { ref_ptr = (sb, so); now = ys }, tt))), (vptr rb ro ∷ [], (vint w64 from ∷ [], (slice_val (sb, so) (length ys) ∷ [], tt)))), tt)

  abbrev Post : Val → SProp 𝓤
  Post = (walk_of 𝓛 F.ended stayed (F.clauses 𝓛 at_mem run)).post bound

  abbrev kept : List ℕ
  kept = take from d.written

  abbrev m : ℕ
  m = length ys

  written_fits : length (kept ++ ys) ≤ d.room
  written_fits = omega (arith, length-append kept ys, length-take from d.written, asked.0, asked.1)

  abbrev new : ℕ → ℕ → (W.the_row).Denot
  new b o = record { start = block_ptr b o; room = d.room; alloc = d.alloc; written = kept ++ ys; fits = written_fits; small = d.small }

  exits : (b o : ℕ) → ent 𝓤 (⋆ 𝓛 (‵ (fobs γ ((W.the_row).coded.code (new b o))) ∷ ‵ (fbor κ (Borrowed (mem W.the_row) rb ro γ)) ∷ ‵ (flft κ q) ∷ ‵ (flft κ₁ q₁) ∷ [])) (Post vunit)
  exits b o =
      qed 𝓛 (‵ (fobs γ ((W.the_row).coded.code (new b o))) ∷ ‵ (fbor κ (Borrowed (mem W.the_row) rb ro γ)) ∷ ‵ (flft κ q) ∷ ‵ (flft κ₁ q₁) ∷ []) ∵
      suffices ! _ (ends_at 𝓛 F.ended stayed (F.clauses 𝓛 at_mem run) bound vunit tt (new b o, (tt, (tt, tt))) (tt, (tt, (tt, tt)))) $ says ! (refl, refl) $
      nothing ! $ move ! (4 ∷ 0 ∷ []) $ join ! $ move ! (3 ∷ 0 ∷ []) $ join ! $ frame ! $
      feq_i ! (List Val) (vptr rb ro ∷ []) (vptr rb ro ∷ []) refl $ fjoin3 ! $ nothing ! $ nothing ! $ fjoin ! $ nothing ! $ fjoin ! $ move ! (1 ∷ 0 ∷ []) $ fjoin ! $
      feq_i ! (List Val) (vunit ∷ []) (vunit ∷ []) refl $ move ! (1 ∷ 0 ∷ []) $ done !

  module _ (b o : ℕ) (p : Share) (l : ℕ → ℕ) where
    abbrev En : Env 𝓤 H
    En = env (code.function).locals l

    abbrev Left : Type 0
    Left = (i : ℕ) × (i ≤ m)

    abbrev Nearer : Left → Left → Type 0
    Nearer t u = m - t.0 < m - u.0

    abbrev Now : Left → List (Item 𝓤)
    Now t = ‵ (row u64 p ys sb so) ∷ ‵ (words_at 𝓛 b o (from + t.0) (kept ++ take t.0 ys)) ∷ ‵ (room_at 𝓛 b o d.room (from + t.0))
        ∷ ‵ (token Z d.alloc (bare (ty_array τ d.room)) (block_ptr b o)) ∷ ‵ ((heap.the_row).own_val d.alloc (heap_val ∷ [])) ∷ ‵ (cell_at full_share (W.the_row).mir (words_val (block_ptr b o) d.room ∷ []) rb ro)
        ∷ ‵ (fobor κ q (Borrowed (mem W.the_row) rb ro γ)) ∷ ‵ (fobs γ ((W.the_row).coded.code d)) ∷ ‵ (fauth γ ((W.the_row).coded.code d)) ∷ Shut 𝓛 κ₁ q₁ (row u64 p ys sb so)
        ∷ holding 𝓛 En ((1, vptr rb ro) ∷ (2, vint w64 from) ∷ (3, slice_val (sb, so) m) ∷ (4, vint w64 t.0) ∷ (5, vptr b (from * 8 + o)) ∷ [])

    abbrev Turned : Left → Out → SProp 𝓤
    Turned t = after_turn 𝓤 H (Below 𝓛 Nearer Now t) (after_block 𝓤 H (after_block 𝓤 H (after_seq 𝓤 H (Wp 𝓤 H 𝓣.C 𝓣.Λ En rest (at_return 𝓤 H En Post)) (at_return 𝓤 H En Post))))

    turns : (t : Left) → Sq 𝓛 (Now t) (runs 𝓣.C 𝓣.Λ En code.Mir.turn-1 (any_q (Turned t)))
    unfolding after_turn
    turns t =
        let i : ℕ = t.0 in let le = t.1 in let little = d.small.1 in let fm : m < 2 ^ 64 = omega (arith, asked.1, little) in
        sets ! (of_opd ! (get_in ! (fld ! refl (stop !)) (sub ! 1 refl (whole !)))) refl (tt, record { fits = fm }) $
        sets ! (bin ! (get ! refl) (get ! refl) tt) refl (tt, tt) $ first ! $ branches ! (get ! refl)
        (λ less. let inside : i < m = ltb→lt i m less in let y : ℕ = get_or ys i 0 in let n : ℕ = from + i in
        let f₈ : i * 8 < 2 ^ 64 = omega (arith, inside, asked.1, little) in let f₁ : i + 1 < 2 ^ 64 = omega (arith, inside, fm) in
        let at : i * 8 + (from * 8 + o) ≡ n * 8 + o = omega arith in
        let grown : kept ++ take i ys ++ y ∷ [] ≡ kept ++ take (suc i) ys = append_assoc kept (take i ys) (y ∷ []) ∙ ap (λ (zs : List ℕ). kept ++ zs) (sym (take_snoc ys i 0 inside)) in
        let next : n + 1 ≡ from + suc i = omega arith in
        skips ! $ exec ! 𝓣.C 𝓣.Λ En moves (any_q (Turned t)) $
        sets ! (bin ! (get ! refl) (lit ! tt) (record { fits = f₈ })) refl (tt, record { fits = f₈ }) $
        sets ! (bin ! (get_in ! (fld ! refl (stop !)) (sub ! 0 refl (whole !))) (get ! refl) tt) refl (tt, tt) $
        use1 𝓛 (‵ (fat p τ sb (i * 8 + so) (vint w64 y)) ⊛ ‵ (others (shares u64) p ys i sb so)) (row_out 𝓛 p ys i sb so inside) $ split ! $ well_typed ! (λ good.
        sets ! (of_opd ! (load ! (through ! refl (stop !)) (look ! 0 refl))) refl good $
        use2 𝓛 (‵ (row u64 p ys sb so)) (row_in 𝓛 p ys i sb so inside) $
        sets ! (bin ! (get ! refl) (lit ! tt) (record { fits = f₈ })) refl (tt, record { fits = f₈ }) $
        sets ! (bin ! (get ! refl) (get ! refl) tt) refl (tt, tt) $
        move ! (2 ∷ []) $ use1 𝓛 (‵ (froom τ b (i * 8 + (from * 8 + o))) ⊛ ‵ (room_at 𝓛 b o d.room (n + 1))) (room_out 𝓛 b o (i * 8 + (from * 8 + o)) n d.room at (omega (arith, inside, asked.1))) $ split ! $
        assigns ! (of_opd ! (get ! refl)) (through ! refl (stop !)) (init ! 0 refl good) $
        -- [the word; the room; the row; the words; ..]
        move ! (3 ∷ 0 ∷ []) $ use2 𝓛 (‵ (words_at 𝓛 b o (n + 1) (kept ++ take i ys ++ y ∷ []))) (word_in 𝓛 b o (i * 8 + (from * 8 + o)) n y (kept ++ take i ys) at) $ move ! (2 ∷ 0 ∷ 1 ∷ []) $
        sets_last ! (bin ! (get ! refl) (lit ! tt) (record { fits = f₁ })) refl (tt, record { fits = f₁ }) $
        rewrite ! 1 (λ (zs : List ℕ). ‵ (words_at 𝓛 b o (n + 1) zs)) grown refl $ rewrite ! 1 (λ (k : ℕ). ‵ (words_at 𝓛 b o k (kept ++ take (suc i) ys))) next refl $
        rewrite ! 2 (λ (k : ℕ). ‵ (room_at 𝓛 b o d.room k)) next refl $
        forget_but ! En (1 ∷ 2 ∷ 3 ∷ 4 ∷ 5 ∷ []) refl $ take_at ! 4 $ rewrite ! 0 (λ (k : ℕ). ‵ (fat full_share (ty_int w64) (l 4) zero (vint w64 k))) (one_more i) refl $ give_at ! 4 $
        again ! Nearer Now t (suc i, omega (arith, inside)) (omega (arith, inside))))
        (λ over. let ge : m ≤ i = nltb→le i m over in let end : i ≡ m = omega (arith, ge, le) in
        let all : kept ++ take i ys ≡ kept ++ ys = ap (λ (zs : List ℕ). kept ++ zs) (ap (λ (k : ℕ). take k ys) end ∙ take_all ys) in
        let long : from + i ≡ length (kept ++ ys) = omega (arith, end, length-append kept ys, length-take from d.written, asked.0) in
        jumps ! $ exec ! 𝓣.C 𝓣.Λ En rest (at_ret En Post) $
        move ! (0 ∷ 9 ∷ []) $ shuts_slice ! tt u64 p ys sb so $
        -- [the row's token; the words; the room; the right to free; the handle; the cell; the open borrow, in three entries]
        move ! (1 ∷ 2 ∷ 3 ∷ 4 ∷ []) $ rewrite ! 0 (λ (zs : List ℕ). ‵ (words_at 𝓛 b o (from + i) zs)) all refl $
        words_made ! d.alloc b o (from + i) d.room (kept ++ ys) written_fits d.small long $
        move ! (2 ∷ 0 ∷ 3 ∷ 4 ∷ 5 ∷ []) $ closes ! tt W.the_row (new b o) (words_val (block_ptr b o) d.room ∷ []) rb ro $
        sets ! (of_opd ! (unit_lit !)) refl (tt, tt) $ returns ! (look_at ! 0 refl) $ free_all ! refl $ keep ! (0 ∷ 1 ∷ 2 ∷ 3 ∷ []) $ by ! (exits b o))

  walk : ent 𝓤 (⋆ 𝓛 (‵ (fobs γ ((W.the_row).coded.code d)) ∷ ‵ (fbor κ (Borrowed (mem W.the_row) rb ro γ)) ∷ ‵ (flft κ q) ∷ ‵ (fhide (elements_shared u64 ys sb so κ₁)) ∷ ‵ (flft κ₁ q₁) ∷ []))
      (WpFn 𝓤 H 𝓣.C 𝓣.Λ code.function (vptr rb ro ∷ vint w64 from ∷ slice_val (sb, so) m ∷ []) Post)
  walk =
      let little = d.small.1 in let fm : m < 2 ^ 64 = omega (arith, asked.1, little) in let ff : from < 2 ^ 64 = omega (arith, asked.1, little) in let f₈ : from * 8 < 2 ^ 64 = omega (arith, asked.1, little) in
      let none : from ≡ from + 0 = omega arith in let start : kept ≡ kept ++ take 0 ys = sym (append-nil kept) in
      qed 𝓛 (‵ (fobs γ ((W.the_row).coded.code d)) ∷ ‵ (fbor κ (Borrowed (mem W.the_row) rb ro γ)) ∷ ‵ (flft κ q) ∷ ‵ (fhide (elements_shared u64 ys sb so κ₁)) ∷ ‵ (flft κ₁ q₁) ∷ []) ∵
      enter ! 𝓣.C 𝓣.Λ code.function (vptr rb ro ∷ vint w64 from ∷ slice_val (sb, so) m ∷ []) _ $
      alloc_all ! (λ l. pass_all ! refl ((tt, tt), ((tt, record { fits = ff }), ((tt, (tt, (record { fits = fm }, tt))), tt))) $
      sets ! (of_opd ! (lit ! tt)) refl (tt, record { fits = lit< tt }) $
      opens ! tt W.the_row {h = d} rb ro (λ us. move ! (1 ∷ []) $ words_had ! d us (λ b o e is fits.
      rewrite ! 4 (λ (ws : List Val). ‵ (cell_at full_share (W.the_row).mir ws rb ro)) is refl $
      move ! (8 ∷ 9 ∷ []) $ looks_slice ! tt u64 (uint_Copied 𝓛 w64) ys sb so (λ p.
      -- [the row; its way back; the `&`; the words; the room; the right to free; the handle; the cell; the open borrow, in three entries]
      first ! $ blocks ! $ sets ! (of_opd ! (load ! (through ! refl (fld ! refl (stop !))) (look_in ! 7 (sub ! 0 refl (whole !))))) refl (tt, tt) $
      sets ! (bin ! (get ! refl) (lit ! tt) (record { fits = f₈ })) refl (tt, record { fits = f₈ }) $
      sets ! (bin ! (get ! refl) (get ! refl) tt) refl (tt, tt) $
      move ! (3 ∷ 4 ∷ []) $ use2 𝓛 (‵ (words_at 𝓛 b o from kept) ⊛ ‵ (room_at 𝓛 b o d.room from)) (keeps 𝓛 b o d.room from d.written asked.0 d.fits) $ split ! $
      move ! (4 ∷ []) $ drop ! $ move ! (2 ∷ 0 ∷ 1 ∷ 4 ∷ 5 ∷ 6 ∷ 7 ∷ 8 ∷ 9 ∷ 3 ∷ []) $
      rewrite ! 1 (λ (zs : List ℕ). ‵ (words_at 𝓛 b o from zs)) start refl $ rewrite ! 1 (λ (k : ℕ). ‵ (words_at 𝓛 b o k (kept ++ take 0 ys))) none refl $ rewrite ! 2 (λ (k : ℕ). ‵ (room_at 𝓛 b o d.room k)) none refl $
      forget_but ! (En b o p l) (1 ∷ 2 ∷ 3 ∷ 4 ∷ 5 ∷ []) refl $
      blocks ! $ loops ! 𝓣 (Nearer b o p l) (InvImage.wf (λ (t : Left b o p l). m - t.0) lt-wf_rel.wf) (Now b o p l) (turns b o p l) (0, omega arith)))))

pub push_row_spec : {M : Type 1} → statement M
unfolding tables_of
push_row_spec 𝓤 𝓛 𝓜 𝓡 wired =
    let c = F.clauses 𝓛 𝓜.mem 𝓡.returns in
    let 𝓣 : Tables 𝓤 𝓛.H = tables_of 𝓤 𝓛.H 𝓜 (tables 𝓤 𝓛.H 𝓜 𝓡 𝓡.env) in
    proved 𝓛 F.ended stayed c 𝓜 𝓡 (Goes-ref 𝓛 2 0 tt (plain (λ _. W.the_row)), (Goes-dropped 𝓛 2 (plain (λ _. usize)) yes (λ κs x w. refl), (Goes-dropped 𝓛 2 (SliceRefOf (1 ∷ []) tt (plain (λ _. u64)) (λ _. tt)) yes (λ κs x w. refl), tt)))
    F.Key.name code.function (code.unfolded 𝓤 𝓛.H 𝓜 𝓡 wired)
    (λ κs. (mut_vals, (uint_vals w64, (shr_slice_vals, tt)))) (λ κs. (mut_Tells (named 0) κs.0 W.the_row, (uint_Tells w64, (shr_slice_Tells (named 1) κs.1.0 u64, tt)))) (λ κs qs bounds a _ are.
    let κ = κs.0 in let κ₁ = κs.1.0 in let q = qs.0 in let q₁ = qs.1.0 in let ys = a.1.1.0.now in
    let Asked = (a.1.0 ≤ length a.0.now.written) × (a.1.0 + length ys ≤ a.0.now.room) in
    qed 𝓛 (((‵ (flft κ q) ⊛ ‵ (flft κ₁ q₁) ⊛ ‵ ftrue) ⊛ ‵ (owns (MutRef (named 0) κ W.the_row ∷ usize ∷ ShrSlice (named 1) κ₁ u64 ∷ []) a (mut_vals a.0, (vint w64 a.1.0 ∷ [], (shr_slice_vals a.1.1.0, tt))))) ∷ raw (fact 𝓤 Asked) ∷ []) ∵
    move ! (1 ∷ []) $ heard ! Asked (λ asked. split ! $ split3 ! $ move ! (3 ∷ []) $ fsplit3 ! $ fsplit3 ! $ move ! (4 ∷ []) $ fsplit ! $ fsplit ! $ keep ! (4 ∷ 5 ∷ 7 ∷ 1 ∷ 8 ∷ []) $
    by ! (walk 𝓛 𝓜.mem 𝓡.returns 𝓣 κ κ₁ q q₁ a.0.ref_ptr.0 a.0.ref_ptr.1 a.0.ghost_name a.0.now a.1.0 a.1.1.0.ref_ptr.0 a.1.1.0.ref_ptr.1 ys asked)))
