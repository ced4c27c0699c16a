-- The rows of a block in its words: reading, pushing and clearing, and what is true of them.
use Rattle.std.proofs.Common.{◌≡◌, ℕ, zero, suc, ◌+◌, ◌*◌, ◌^◌, ◌<◌, ◌≤◌, List, [], ◌∷◌, ◌++◌, length, take, drop, length-take, length-drop, length-append, get_or, refl, sym, ap, subst, ◌∙◌, arith}
use Rattle.std.proofs.Math.Seq.{take-take, drop-drop}
use Rattle.std.proofs.lemmas.List.{take-append-le, drop-append-le, drop-take, take_all}
use Rattle.std.proofs.lemmas.List.Elements.{All-take, All-drop, All-append}
use Rattle.std.specs.List.{All}
use Rattle.row_block.specs.Rows.{Block, IsBlock, empty_block, pushed, cleared}
use Rattle.row_block.specs.Layout.{rows_of, IsLaidOut, block_of}
use Rattle.row_block.specs.declared.block.RowBlock.TheInside.{Inside}
use Rattle.row_block.specs.declared.words.Words.{Words}

times_suc : (n w : ℕ) → suc n * w ≡ w + n * w
times_suc n w = omega arith

no_times : (w : ℕ) → 0 * w ≡ 0
no_times w = omega arith

-- one row more fits below the row behind it
pub times_below : (k n w : ℕ) → k < n → k * w + w ≤ n * w
times_below k zero w less = absurd (omega (arith, less))
times_below zero (suc n) w less = omega arith
times_below (suc k) (suc n) w less = omega (arith, times_below k n w (omega (arith, less)))

pub length-rows_of : (n w : ℕ) (xs : List ℕ) → length (rows_of n w xs) ≡ n
unfolding rows_of
length-rows_of zero w xs = refl
length-rows_of (suc n) w xs = omega (arith, length-rows_of n w (drop w xs))

pub no_rows : (w : ℕ) (xs : List ℕ) → rows_of 0 w xs ≡ []
unfolding rows_of
no_rows w xs = refl

pub row_at : (n w k : ℕ) (xs : List ℕ) (d : List ℕ) → k < n → get_or (rows_of n w xs) k d ≡ take w (drop (k * w) xs)
unfolding rows_of
row_at zero w k xs d less = absurd (omega (arith, less))
row_at (suc n) w zero xs d less = ap (λ (i : ℕ). take w (drop i xs)) (sym (no_times w))
row_at (suc n) w (suc k) xs d less = row_at n w k (drop w xs) d (omega (arith, less)) ∙ ap (take w) (drop-drop (k * w) w xs ∙ ap (λ (i : ℕ). drop i xs) (sym (times_suc k w)))

rows_pushed : (n w : ℕ) (xs row : List ℕ) → n * w ≤ length xs → length row ≡ w → rows_of (suc n) w (take (n * w) xs ++ row) ≡ rows_of n w xs ++ row ∷ []
unfolding rows_of
rows_pushed zero w xs row le e = ap (λ (k : ℕ). take w (take k xs ++ row) ∷ []) (no_times w) ∙ ap (λ (zs : List ℕ). zs ∷ []) (take_all w row (omega (arith, e)))
rows_pushed (suc n) w xs row le e =
    let before = take (suc n * w) xs in let more = times_suc n w in
    let long : w ≤ length before = omega (arith, length-take (suc n * w) xs, more, le) in
    let first : take w (before ++ row) ≡ take w xs = take-append-le w before row long ∙ take-take w (suc n * w) xs (omega (arith, more)) in
    let others : drop w (before ++ row) ≡ take (n * w) (drop w xs) ++ row = drop-append-le w before row long ∙ ap (λ (zs : List ℕ). zs ++ row) (ap (λ (k : ℕ). drop w (take k xs)) more ∙ drop-take w (n * w) xs) in
    let behind : rows_of (suc n) w (drop w (before ++ row)) ≡ rows_of n w (drop w xs) ++ row ∷ [] = ap (rows_of (suc n) w) others ∙ rows_pushed n w (drop w xs) row (omega (arith, length-drop w xs, more, le)) e in
    λ i. first i ∷ behind i

-- the fields of a block that stands for `now`
pub held_is : (b : Inside) (now : Block) → block_of b ≡ now → b.held ≡ length now.held
held_is b now e = sym (length-rows_of b.held b.width b.words.written) ∙ ap (λ (z : Block). length z.held) e

pub row_is : (b : Inside) (now : Block) (k : ℕ) → block_of b ≡ now → k < length now.held → take b.width (drop (k * b.width) b.words.written) ≡ get_or now.held k []
row_is b now k e less = sym (row_at b.held b.width k b.words.written [] (omega (arith, less, held_is b now e))) ∙ ap (λ (z : Block). get_or z.held k []) e

pub is_block : (b : Inside) (now : Block) → block_of b ≡ now → IsLaidOut b → IsBlock now
is_block b now e laid =
    let n = b.held in let w = b.width in let xs = b.words.written in
    let row = λ (k : ℕ) (d : List ℕ) (less : k < length (rows_of n w xs)). row_at n w k xs d (omega (arith, less, length-rows_of n w xs)) in
    let long = λ (k : ℕ) (less : k < length (rows_of n w xs)). times_below k n w (omega (arith, less, length-rows_of n w xs)) in
    let written = laid.written in
    subst IsBlock e (record {
      room = omega (arith, length-rows_of n w xs, laid.held);
      one_row = laid.one_row;
      one_word = laid.one_word;
      small = laid.small;
      wide = λ k d less. ap length (row k d less) ∙ omega (arith, length-take w (drop (k * w) xs), length-drop (k * w) xs, long k less, written);
      words = λ k d less. subst (All (λ (x : ℕ). x < 2 ^ 64)) (sym (row k d less)) (All-take (λ (x : ℕ). x < 2 ^ 64) w (drop (k * w) xs) (All-drop (λ (x : ℕ). x < 2 ^ 64) (k * w) xs laid.words));
    })

pub opens : (words : Words) (rows width : ℕ) → block_of (record { words = words; held = 0; rows = rows; width = width }) ≡ empty_block rows width
opens words rows width = λ i. record { held = no_rows width words.written i; rows = rows; width = width }

pub clears : (b : Inside) (now : Block) → block_of b ≡ now → block_of (record b { held = 0 }) ≡ cleared now
clears b now e = opens b.words b.rows b.width ∙ ap cleared e

-- after a row was pushed
module _ (b : Inside) (now : Block) (e : block_of b ≡ now) (laid : IsLaidOut b) (words : Words) (row : List ℕ) (grown : words.written ≡ take (b.held * b.width) b.words.written ++ row) (wide : length row ≡ now.width) where
  width_is : length row ≡ b.width
  width_is = wide ∙ sym (ap (λ (z : Block). z.width) e)

  pub pushes : block_of (record b { words = words; held = b.held + 1 }) ≡ pushed now row
  pushes =
      let one_more : b.held + 1 ≡ suc b.held = omega arith in
      let more = ap (rows_of (b.held + 1) b.width) grown ∙ ap (λ (k : ℕ). rows_of k b.width (take (b.held * b.width) b.words.written ++ row)) one_more ∙ rows_pushed b.held b.width b.words.written row laid.written width_is in
      (λ i. record { held = more i; rows = b.rows; width = b.width }) ∙ ap (λ (z : Block). pushed z row) e

  pub stays : words.room ≡ b.words.room → length now.held < now.rows → All (λ (x : ℕ). x < 2 ^ 64) row → IsLaidOut (record b { words = words; held = b.held + 1 })
  stays same less below = record {
    room = same ∙ laid.room;
    held = omega (arith, less, held_is b now e, ap (λ (z : Block). z.rows) e);
    written = let w = laid.written in omega (arith, ap length grown, length-append (take (b.held * b.width) b.words.written) row, length-take (b.held * b.width) b.words.written, width_is, w);
    one_row = laid.one_row;
    one_word = laid.one_word;
    small = laid.small;
    words = subst (All (λ (x : ℕ). x < 2 ^ 64)) (sym grown) (All-append (λ (x : ℕ). x < 2 ^ 64) (take (b.held * b.width) b.words.written) row (All-take (λ (x : ℕ). x < 2 ^ 64) (b.held * b.width) b.words.written laid.words) below);
  }
