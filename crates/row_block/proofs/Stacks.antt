-- A shelf's places: what giving and taking make of them.
use Rattle.std.proofs.Common.{◌≡◌, ℕ, zero, suc, ◌+◌, ◌-◌, ◌<◌, ◌≤◌, Option, Some, None, List, [], ◌∷◌, ◌++◌, length, map, replicate, get_or, set, length-append, refl, sym, ap, subst, ◌∙◌, arith}
use Rattle.std.proofs.lemmas.List.{get_or_append_left}
use Rattle.std.proofs.lemmas.List.Elements.{All-append}
use Rattle.std.specs.List.{All}
use Rattle.row_block.specs.Rows.{Block}
use Rattle.row_block.specs.Shelves.{IsShelf}
use Rattle.row_block.specs.Places.{blocks_in, filled, kept_in, IsStacked}
use Rattle.row_block.specs.declared.shelf.Shelf.TheInside.{Inside}

none_in : (k : ℕ) → blocks_in (replicate k None) ≡ []
unfolding blocks_in
none_in zero = refl
none_in (suc k) = none_in k

blocks_filled : (bs : List Block) (k : ℕ) → blocks_in (map Some bs ++ replicate k None) ≡ bs
unfolding blocks_in
blocks_filled [] k = none_in k
blocks_filled (b ∷ bs) k = ap (λ (l : List Block). b ∷ l) (blocks_filled bs k)

set_behind : (bs : List Block) (b : Block) (k : ℕ) → set (map Some bs ++ replicate (suc k) None) (length bs) (Some b) ≡ map Some (bs ++ b ∷ []) ++ replicate k None
set_behind [] b k = refl
set_behind (x ∷ bs) b k = ap (λ (l : List (Option Block)). Some x ∷ l) (set_behind bs b k)

last_at : (bs : List Block) (b : Block) (k : ℕ) (d : Option Block) → get_or (map Some (bs ++ b ∷ []) ++ replicate k None) (length bs) d ≡ Some b
last_at [] b k d = refl
last_at (x ∷ bs) b k d = last_at bs b k d

last_off : (bs : List Block) (b : Block) (k : ℕ) → set (map Some (bs ++ b ∷ []) ++ replicate k None) (length bs) None ≡ map Some bs ++ replicate (suc k) None
last_off [] b k = refl
last_off (x ∷ bs) b k = ap (λ (l : List (Option Block)). Some x ∷ l) (last_off bs b k)

-- a list that is not empty has a last element
record Ends (bs : List Block) : Type 0 where
  front : List Block
  last : Block
  is : bs ≡ front ++ last ∷ []

ends : (bs : List Block) → 0 < length bs → Ends bs
ends [] more = absurd (omega (arith, more))
ends (b ∷ []) more = record { front = []; last = b; is = refl }
ends (b ∷ c ∷ bs) more = let e = ends (c ∷ bs) (omega arith) in record { front = b ∷ e.front; last = e.last; is = ap (λ (l : List Block). b ∷ l) e.is }

all_one : (b : Block) → b.held ≡ [] → All (λ (x : Block). x.held ≡ []) (b ∷ [])
all_one b none zero d less = none
all_one b none (suc i) d less = absurd (omega (arith, less))

at_end : (bs : List Block) (b d : Block) → get_or (bs ++ b ∷ []) (length bs) d ≡ b
at_end [] b d = refl
at_end (x ∷ bs) b d = at_end bs b d

in_front : (bs : List Block) (b : Block) → All (λ (x : Block). x.held ≡ []) (bs ++ b ∷ []) → All (λ (x : Block). x.held ≡ []) bs
in_front bs b all k d less = subst (λ (x : Block). x.held ≡ []) (get_or_append_left bs (b ∷ []) d k less) (all k d (omega (arith, less, length-append bs (b ∷ []))))

-- a shelf that has room takes a block without rows
pub record Given (s : Inside) (b : Block) (after : Inside) : Type 0 where
  pub kept : kept_in after ≡ kept_in s ++ b ∷ []
  pub stacked : IsStacked after

pub gives : (s : Inside) (b : Block) → IsStacked s → length (kept_in s) < 8 → b.held ≡ [] → Given s b (record s { places = set s.places s.count (Some b); count = s.count + 1 })
gives s b stacked less none =
    let bs = kept_in s in let n = length bs in let k = 8 - (n + 1) in
    let one_more : length (bs ++ b ∷ []) ≡ n + 1 = length-append bs (b ∷ []) in
    let room : 8 - n ≡ suc k = omega (arith, less) in
    let left : 8 - length (bs ++ b ∷ []) ≡ k = ap (λ (i : ℕ). 8 - i) one_more in
    let written : set s.places s.count (Some b) ≡ filled (bs ++ b ∷ []) =
    ap (λ (l : List (Option Block)). set l s.count (Some b)) stacked.places ∙ ap (λ (i : ℕ). set (filled bs) i (Some b)) stacked.count
    ∙ ap (λ (i : ℕ). set (map Some bs ++ replicate i None) n (Some b)) room ∙ set_behind bs b k ∙ ap (λ (i : ℕ). map Some (bs ++ b ∷ []) ++ replicate i None) (sym left) in
    let kept : blocks_in (set s.places s.count (Some b)) ≡ bs ++ b ∷ [] = ap blocks_in written ∙ blocks_filled (bs ++ b ∷ []) (8 - length (bs ++ b ∷ [])) in
    record {
      kept = kept;
      stacked = record {
        places = written ∙ ap filled (sym kept);
        count = omega (arith, stacked.count, one_more, ap length kept);
        shelf = subst IsShelf (sym kept) (record { room = omega (arith, one_more, less); cleared = All-append (λ (x : Block). x.held ≡ []) bs (b ∷ []) stacked.shelf.cleared (all_one b none) });
      };
    }

-- the block given last leaves
pub record Taken (s after : Inside) (got : Option Block) : Type 0 where
  pub block : Block
  pub is : got ≡ Some block
  pub kept : kept_in s ≡ kept_in after ++ block ∷ []
  pub none : block.held ≡ []
  pub stacked : IsStacked after

pub takes : (s : Inside) → IsStacked s → (n : ℕ) → s.count ≡ n + 1 → (new got d : Option Block) → new ≡ None → got ≡ get_or s.places n d → Taken s (record s { places = set s.places n new; count = n }) got
takes s stacked n count new got d is_none is_got =
    let bs = kept_in s in let e = ends bs (omega (arith, count, stacked.count)) in let k = 8 - (n + 1) in
    let whole : length bs ≡ n + 1 = omega (arith, count, stacked.count) in
    let long : length e.front ≡ n = omega (arith, ap length e.is, length-append e.front (e.last ∷ []), whole) in
    let room : length bs ≤ 8 = stacked.shelf.room in
    let before : s.places ≡ map Some (e.front ++ e.last ∷ []) ++ replicate k None =
    stacked.places ∙ ap (λ (i : ℕ). map Some bs ++ replicate (8 - i) None) whole ∙ ap (λ (l : List Block). map Some l ++ replicate k None) e.is in
    let found : get_or s.places n d ≡ Some e.last = ap (λ (l : List (Option Block)). get_or l n d) before ∙ ap (λ (i : ℕ). get_or (map Some (e.front ++ e.last ∷ []) ++ replicate k None) i d) (sym long) ∙ last_at e.front e.last k d in
    let more : suc k ≡ 8 - length e.front = omega (arith, long, whole, room) in
    let written : set s.places n new ≡ filled e.front =
    ap (λ (o : Option Block). set s.places n o) is_none ∙ ap (λ (l : List (Option Block)). set l n None) before ∙ ap (λ (i : ℕ). set (map Some (e.front ++ e.last ∷ []) ++ replicate k None) i None) (sym long)
    ∙ last_off e.front e.last k ∙ ap (λ (i : ℕ). map Some e.front ++ replicate i None) more in
    let kept : blocks_in (set s.places n new) ≡ e.front = ap blocks_in written ∙ blocks_filled e.front (8 - length e.front) in
    let all = subst (All (λ (x : Block). x.held ≡ [])) e.is stacked.shelf.cleared in
    record {
      block = e.last;
      is = is_got ∙ found;
      kept = e.is ∙ ap (λ (l : List Block). l ++ e.last ∷ []) (sym kept);
      none = subst (λ (x : Block). x.held ≡ []) (at_end e.front e.last e.last) (all (length e.front) e.last (omega (arith, length-append e.front (e.last ∷ []))));
      stacked = record {
        places = written ∙ ap filled (sym kept);
        count = omega (arith, long, ap length kept);
        shelf = subst IsShelf (sym kept) (record { room = omega (arith, long, whole, room); cleared = in_front e.front e.last all });
      };
    }

pub nothing_kept : blocks_in (None ∷ None ∷ None ∷ None ∷ None ∷ None ∷ None ∷ None ∷ []) ≡ []
unfolding blocks_in
nothing_kept = refl

pub begins : IsStacked (record { places = None ∷ None ∷ None ∷ None ∷ None ∷ None ∷ None ∷ None ∷ []; count = 0 })
unfolding blocks_in
begins = record { places = refl; count = refl; shelf = record { room = omega arith; cleared = λ k d less. absurd (omega (arith, less)) } }
