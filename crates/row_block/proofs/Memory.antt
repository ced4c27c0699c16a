-- The memory of a block: what it owns is taken apart and made.
use Rattle.std.proofs.Common.{◌≡◌, ℕ, ◌+◌, ◌-◌, ◌*◌, ◌^◌, ◌<◌, ◌≤◌, List, [], ◌∷◌, ◌++◌, length, zero, suc, take, drop as drop_l, length-take, length-drop, take-append-drop, refl, sym, ap, subst, ◌∙◌, w64, arith}
use seplogic.Ra.Ura.{Ura}
use base.Fraction.{full_share}
use base.Fml.{Lft, Fml, fsep, froom}
use base.Logic.{ent, never, fst∗, snd∗, via, mono_r, id⊢}
use mir.Syntax.{Ty, ty_array, ty_int}
use mir.Raw.{raw as bare}
use mir.Val.{Val, vint, vptr, vstruct, vcons, vnil, of_list}
use types.Logic.{Logic, sem}
use types.Kit.{Goal, Step, step, Seq, Item, ⋆, ‵, ◌⊛◌, given, learn, split, use1, use2, ◌$◌, ◌∵◌, !, qed, keep, done, move, drop, rewrite, fsplit, fjoin, fpick, fpack, feq_l, feq_i, flt_l, flt_i}
use denote.Array.{Array}
use denote.Builtin.{u64}
use denote.Index.{place, place_is, row}
use denote.Laws.{Is, shows}
use denote.Memory.{part_at, shared_of}
use denote.Slice.{elements_shared}
use denote.Param.Laws.{Laws, of_field}
use denote.Param.Shared.{copy_shared}
use denote.RattleType.{Valss}
use denote.RawPtr.{Ptr, block_ptr, null_ptr, ptr_val, in_a_block, room_for, ◌+ₚ◌}
use denote.Steps.{nothing, peeks}
use denote.Struct.Field.{u64-field}
use denote.Struct.Laws.{u64-laws, u64-copy}
use denote.Struct.Struct.{within}
use denote.Struct.Owning.{shape, to}
use Rattle.std.specs.contracts.alloc.Global as heap
use Rattle.std.proofs.Handle.{heap_val, heap_Tells}
use Rattle.std.proofs.RawLayout.{as_raw, as_written}
use Rattle.std.proofs.alloc.Calls.{token}
use Rattle.std.proofs.VecSteps.El.{El}
use Rattle.std.proofs.VecSteps.Rows.{apart, whole, row_cut, row_room, glued}
use Rattle.row_block.specs.Memory.{words_owned}
use Rattle.row_block.specs.contracts.words.Words as W
use Rattle.row_block.proofs.Heap.{Z}

pub word_laws : Laws u64
word_laws = of_field u64-field u64-laws refl (copy_shared u64-field u64-copy)

-- words, as the library's lemmas on elements take them
abbrev pub E : El
E = record { row = u64; laws = word_laws; al = Z }

abbrev pub τ : Ty
τ = ty_int w64

abbrev pub words_val : Ptr → ℕ → Val
words_val p n = vstruct (vcons (ptr_val p) (vcons (vint w64 n) (vcons heap_val vnil)))

module _ {M : Type 1} {𝓤 : Ura M} {𝓛 : Logic 𝓤} {K : Type 0} {Γ : List (Item 𝓤)} {G : Goal 𝓤 𝓛.H} where
  -- the handle, the words, the room behind them, and the right to free
  pub words_had : K → (d : (W.the_row).Denot) (vs : List Val)
      → ((b o : ℕ) → d.start ≡ block_ptr b o → vs ≡ words_val (block_ptr b o) d.room ∷ [] → d.room < 2 ^ 64
      → Seq K 𝓛 (‵ (part_at (Array u64 (length d.written)) full_share d.written b o) ∷ ‵ (froom (ty_array τ (d.room - length d.written)) b (o + length d.written * 8)) ∷ ‵ (token Z d.alloc (bare (ty_array τ d.room)) (block_ptr b o)) ∷ ‵ ((heap.the_row).own_val d.alloc (heap_val ∷ [])) ∷ Γ) G)
      → Seq K 𝓛 (‵ ((W.the_row).own_val d vs) ∷ Γ) G
  words_had t d vs k =
      let n = length d.written in
      fsplit t $ fpick t (λ vss. fsplit t $ feq_l t (λ all. fsplit t $ feq_l t (λ e₀. fsplit t $ fsplit t $ feq_l t (λ e₁. flt_l t (λ fits. fsplit t $
      peeks t heap.the_row (Is heap.the_row) (shows 𝓛 heap.the_row) d.alloc vss.1.1.0 (λ is. let e₂ = heap_Tells d.alloc vss.1.1.0 is in
      rewrite t 0 (λ (us : List Val). ‵ ((heap.the_row).own_val d.alloc us)) e₂ refl $ move t (1 ∷ []) $ drop t $ move t (1 ∷ []) $
      in_a_block t d.start (λ p. words_owned d.alloc p d.room d.written) (fst∗ 𝓤 (never 𝓤) (sem 𝓛 (fsep (room_for (bare (ty_array τ (d.room - n))) (null_ptr +ₚ n * 8)) (token Z d.alloc (bare (ty_array τ d.room)) null_ptr)))) (λ b o e.
      fsplit t $ move t (1 ∷ []) $ fsplit t $ as_written t (ty_array τ (d.room - n)) b (o + n * 8) $ move t (2 ∷ 0 ∷ 1 ∷ 3 ∷ []) $
      k b o e (all ∙ ((λ i. vstruct (of_list (e₀ i ++ (e₁ i ++ (e₂ i ++ [])))) ∷ []) ∙ ap (λ (p : Ptr). words_val p d.room ∷ []) e)) fits)))))))

  -- made of these, at any record of these fields
  pub words_made : K → (a : (heap.the_row).Denot) (b o n room : ℕ) (xs : List ℕ) (fits : length xs ≤ room) (small : (0 < room) × (room ≤ 2 ^ 25)) → n ≡ length xs
      → Step K 𝓛 (‵ ((W.the_row).own_val (record { start = block_ptr b o; room = room; alloc = a; written = xs; fits = fits; small = small }) (words_val (block_ptr b o) room ∷ [])) ∷ Γ) G
      (‵ (part_at (Array u64 n) full_share xs b o) ∷ ‵ (froom (ty_array τ (room - n)) b (o + n * 8)) ∷ ‵ (token Z a (bare (ty_array τ room)) (block_ptr b o)) ∷ ‵ ((heap.the_row).own_val a (heap_val ∷ [])) ∷ Γ) G
  words_made t a b o n room xs fits small e = step (λ s.
      let d : (W.the_row).Denot = record { start = block_ptr b o; room = room; alloc = a; written = xs; fits = fits; small = small } in
      rewrite t 0 (λ (k : ℕ). ‵ (part_at (Array u64 k) full_share xs b o)) e refl $ rewrite t 1 (λ (k : ℕ). ‵ (froom (ty_array τ (room - k)) b (o + k * 8))) e refl $
      move t (1 ∷ 2 ∷ []) $ as_raw t (ty_array τ (room - length xs)) b (o + length xs * 8) $ fjoin t $ move t (1 ∷ 0 ∷ []) $ fjoin t $
      nothing t $ move t (2 ∷ 0 ∷ []) $ fjoin t $
      flt_i t room (2 ^ 64) (omega (arith, small.1)) $ feq_i t (List Val) (vint w64 room ∷ []) (vint w64 room ∷ []) refl $ fjoin t $ fjoin t $
      feq_i t (List Val) (vptr b o ∷ []) (vptr b o ∷ []) refl $ fjoin t $
      feq_i t (List Val) (words_val (block_ptr b o) room ∷ []) (words_val (block_ptr b o) room ∷ []) refl $ fjoin t $
      fpack t (Valss (shape W.the_type).fields) (within (shape W.the_type) (to W.the_type d) (words_val (block_ptr b o) room ∷ [])) (vptr b o ∷ [], (vint w64 room ∷ [], (heap_val ∷ [], tt))) $ fjoin t $ s)

-- a part of what a `&` to words shows
module _ {M : Type 1} {𝓤 : Ura M} (𝓛 : Logic 𝓤) (b : ℕ) (κ : Lft) where
  from_on : (xs : List ℕ) (i o at : ℕ) → i ≤ length xs → at ≡ i * 8 + o → ent 𝓤 (sem 𝓛 (elements_shared u64 xs b o κ)) (sem 𝓛 (elements_shared u64 (drop_l i xs) b at κ))
  from_on xs zero o at le e = let same : o ≡ at = omega (arith, e) in subst (λ k. ent 𝓤 (sem 𝓛 (elements_shared u64 xs b o κ)) (sem 𝓛 (elements_shared u64 xs b k κ))) same (id⊢ 𝓤 _)
  from_on [] (suc i) o at le e = absurd (omega (arith, le))
  from_on (x ∷ xs) (suc i) o at le e = via 𝓤 (sem 𝓛 (elements_shared u64 xs b (o + 8) κ)) (snd∗ 𝓤 (sem 𝓛 (shared_of u64 x b o κ)) (sem 𝓛 (elements_shared u64 xs b (o + 8) κ))) (from_on xs i (o + 8) at (omega (arith, le)) (omega (arith, e)))

  up_to : (n : ℕ) (xs : List ℕ) (o : ℕ) → ent 𝓤 (sem 𝓛 (elements_shared u64 xs b o κ)) (sem 𝓛 (elements_shared u64 (take n xs) b o κ))
  up_to zero xs o = qed 𝓛 (‵ (elements_shared u64 xs b o κ) ∷ []) ∵ keep ! [] $ done !
  up_to (suc n) [] o = id⊢ 𝓤 _
  up_to (suc n) (x ∷ xs) o = mono_r 𝓤 (sem 𝓛 (shared_of u64 x b o κ)) (up_to n xs (o + 8))

  pub part_seen : (xs : List ℕ) (i n o : ℕ) → i ≤ length xs → ent 𝓤 (sem 𝓛 (elements_shared u64 xs b o κ)) (sem 𝓛 (elements_shared u64 (take n (drop_l i xs)) b (i * 8 + o) κ))
  part_seen xs i n o le = via 𝓤 (sem 𝓛 (elements_shared u64 (drop_l i xs) b (i * 8 + o) κ)) (from_on xs i o (i * 8 + o) le refl) (up_to n (drop_l i xs) (i * 8 + o))

module _ {M : Type 1} {𝓤 : Ura M} (𝓛 : Logic 𝓤) (b o : ℕ) where
  abbrev pub words_at : ℕ → List ℕ → Fml
  words_at n xs = part_at (Array u64 n) full_share xs b o

  abbrev pub room_at : ℕ → ℕ → Fml
  room_at room n = froom (ty_array τ (room - n)) b (o + n * 8)

  -- the first words are kept, and the others are room again
  pub keeps : (room from : ℕ) (xs : List ℕ) → from ≤ length xs → length xs ≤ room
      → ent 𝓤 (⋆ 𝓛 (‵ (words_at (length xs) xs) ∷ ‵ (room_at room (length xs)) ∷ [])) (⋆ 𝓛 (‵ (words_at from (take from xs)) ∷ ‵ (room_at room from) ∷ []))
  keeps room from xs le fits =
      let n = length xs in let kept = take from xs in let rest = drop_l from xs in
      let long : length kept ≡ from = omega (arith, length-take from xs, le) in
      let left : length rest ≡ n - from = omega (arith, length-drop from xs) in
      let start : place 8 o (length kept) ≡ o + from * 8 = omega (arith, place_is 8 o (length kept), long) in
      let on : o + n * 8 ≡ o + from * 8 + length rest * 8 = omega (arith, left, le) in
      let all : length rest + (room - n) ≡ room - from = omega (arith, left, le, fits) in
      qed 𝓛 (‵ (words_at n xs) ∷ ‵ (room_at room n) ∷ []) ∵
      use1 𝓛 (given (length xs ≡ n) (‵ (row u64 full_share xs b o))) (apart E 𝓛 full_share n xs b o) $ learn ! (λ _.
      rewrite ! 0 (λ (ys : List ℕ). ‵ (row u64 full_share ys b o)) (sym (take-append-drop from xs)) refl $
      use1 𝓛 (‵ (row u64 full_share kept b o) ⊛ ‵ (row u64 full_share rest b (place 8 o (length kept)))) (row_cut E 𝓛 full_share kept rest b o) $ split ! $
      use1 𝓛 (‵ (words_at from kept)) (whole E 𝓛 full_share from kept b o long) $ move ! (1 ∷ 2 ∷ []) $
      rewrite ! 0 (λ (k : ℕ). ‵ (row u64 full_share rest b k)) start refl $ use1 𝓛 (‵ (froom (ty_array τ (length rest)) b (o + from * 8))) (row_room E 𝓛 rest b (o + from * 8)) $
      rewrite ! 1 (λ (k : ℕ). ‵ (froom (ty_array τ (room - n)) b k)) on refl $
      use2 𝓛 (‵ (room_at room from)) (glued E 𝓛 (length rest) (room - n) (room - from) b (o + from * 8) all) $ move ! (1 ∷ 0 ∷ []) $ done !)
