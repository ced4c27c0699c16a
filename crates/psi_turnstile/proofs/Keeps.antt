-- Each step keeps the rule.
use Rattle.std.proofs.Common.{◌≡◌, ◌≢◌, ℕ, zero, suc, ◌+◌, ◌-◌, ◌/◌, ◌%◌, ◌^◌, ◌<◌, ◌≤◌, List, [], ◌∷◌, ◌++◌, length, set, slice_index, sym, refl, ap, ◌∙◌, subst, ⊎_elim, inl, inr, arith, Option, Some, None, length-append, append-nil, lt_of_not-le}
use mathlib.Core.Logic.{dite}
use mathlib.Core.Option.{none, some, some-injective, some-ne-none}
use mathlib.Core.Option as maybe
use native.Mathlib.Decide.{ℕ_discrete, dec_le}
use lib.ListN.{get_elem?}
use lib.Seq.{set-get_or}
use Rattle.atomic_table.specs.Table.{State, step, keeps, takes, gives, rest, stepped, Allows, Splits, Joins, opening, Final, Seen}
use Rattle.atomic_table.proofs.Lists.{at_set, set_else, at_longer, at_snoc, one_turn}
use Rattle.psi_turnstile.specs.declared.view.Stage.{Stage}
use Rattle.psi_turnstile.specs.declared.view.Stage.TheVariants.{Away, Waits, Ahead, Inside}
use Rattle.psi_turnstile.specs.declared.view.View.{View}
use Rattle.psi_turnstile.specs.Counting.{same, below, times, total, IsPrefix, ArePrefixes}
use Rattle.psi_turnstile.specs.Knowing.{at, saw, keeps_rest, takes_half, longer, joined, spent, Follows, Places}
use Rattle.psi_turnstile.specs.Rule.{ticket_at, in_line_at, ticket_in, in_line, share_of, own_in, Stands, Knows, Shelf, Counted, Ruled, opener}
use Rattle.psi_turnstile.specs.Telling.{Sat, IsFree, IsWaiting, IsAhead, IsInside, Grows, drew, looked, looked_up, checked, counted, left, went_in}
use Rattle.psi_turnstile.proofs.Sums.{same_yes, below_yes, below_no, below_one, below_some, below_next, times_append, times_none, times_one, total_one, total_set, total_push, total_at, total_two, total_only, total_le}
use Rattle.psi_turnstile.proofs.Lines.{begins_self, begins_more, begin_more, begin_both, begins_short, begins_all, longer_begins, longer_long}

there_now : {A : Type 0} (l : List A) (i : ℕ) (a b : A) → get_elem? l i ≡ some a → get_elem? (set l i b) i ≡ some b
there_now [] i a b e = absurd (some-ne-none a (sym e))
there_now (x ∷ xs) zero a b e = refl
there_now (x ∷ xs) (suc i) a b e = there_now xs i a b e

-- the ticket of a stage
abbrev number : Stage → ℕ
number Away = 0
number (Waits t) = t
number (Ahead t) = t
number (Inside t) = t

-- which kind a stage is
abbrev kind : Stage → ℕ
kind Away = 0
kind (Waits t) = 1
kind (Ahead t) = 2
kind (Inside t) = 3

abbrev holds_one : Option ℕ → ℕ
holds_one None = 0
holds_one (Some j) = 1

abbrev seat_of : Option ℕ → ℕ
seat_of None = 0
seat_of (Some j) = j

abbrev value_or : {A : Type 0} → A → Option A → A
value_or d None = d
value_or d (Some a) = a

line_one : (st : Stage) → in_line_at st ≤ 1
line_one Away = omega arith
line_one (Waits t) = omega arith
line_one (Ahead t) = omega arith
line_one (Inside t) = omega arith

module _ {E : Type 0} where
  -- nobody was inside, and now the seat id is
  stands_in : (served : ℕ) (h h' : Option ℕ) (log : List E) (j : ℕ) (seen : List E) (st : Stage) → h ≡ None → Stands served h log j seen st → Stands served h' log j seen st
  stands_in served h h' log j seen Away e p = tt
  stands_in served h h' log j seen (Waits t) e p = tt
  stands_in served h h' log j seen (Ahead t) e p = p
  stands_in served h h' log j seen (Inside t) e p = let q : holds_one None ≡ 1 = ap holds_one (sym e ∙ p.1) in absurd (omega arith)

  -- the history grows while another seat is inside
  stands_on : (served : ℕ) (h : Option ℕ) (log log' : List E) (id j : ℕ) (seen : List E) (st : Stage) → h ≡ Some id → j ≢ id → Stands served h log j seen st → Stands served h log' j seen st
  stands_on served h log log' id j seen Away e n p = tt
  stands_on served h log log' id j seen (Waits t) e n p = tt
  stands_on served h log log' id j seen (Ahead t) e n p = p
  stands_on served h log log' id j seen (Inside t) e n p = absurd (n (ap seat_of (sym p.1 ∙ e)))

  -- another seat leaves
  stands_off : (served : ℕ) (h : Option ℕ) (log : List E) (j : ℕ) (seen : List E) (st : Stage) → (ticket_at served st ≡ 1 → ⊥) → Stands served h log j seen st → Stands (served + 1) None log j seen st
  stands_off served h log j seen Away n p = tt
  stands_off served h log j seen (Waits t) n p = tt
  stands_off served h log j seen (Ahead t) n p = absurd (n (same_yes served t (sym p)))
  stands_off served h log j seen (Inside t) n p = absurd (n (same_yes served t (sym p.0)))

module _ {E Z : Type 0} where
  -- a view that is inside stays so
  inside_still : (views : List (View E Z)) (id h : ℕ) (v w : View E Z) → get_elem? views id ≡ some v → ((t : ℕ) → v.stage ≡ Inside t → w.stage ≡ Inside t)
      → (u : View E Z) × (t : ℕ) × (get_elem? views h ≡ some u) × (u.stage ≡ Inside t) → (u : View E Z) × (t : ℕ) × (get_elem? (set views id w) h ≡ some u) × (u.stage ≡ Inside t)
  inside_still views id h v w here stay p = dite (ℕ_discrete h id)
      (λ e. let q : v ≡ p.0 = some-injective v p.0 (sym here ∙ (ap (get_elem? views) (sym e) ∙ p.2)) in
      (w, p.1, ap (get_elem? (set views id w)) e ∙ there_now views id v w here, stay p.1 (ap (λ (x : View E Z). x.stage) q ∙ p.3)))
      (λ n. (p.0, p.1, set_else views id h w n ∙ p.2, p.3))

  -- some view has seen it all, still
  seen_still : (views : List (View E Z)) (log : List E) (id : ℕ) (v w : View E Z) → get_elem? views id ≡ some v → (v.seen ≡ log → w.seen ≡ log)
      → (j : ℕ) × (u : View E Z) × (get_elem? views j ≡ some u) × (u.seen ≡ log) → (j : ℕ) × (u : View E Z) × (get_elem? (set views id w) j ≡ some u) × (u.seen ≡ log)
  seen_still views log id v w here stay p = dite (ℕ_discrete p.0 id)
      (λ e. let q : v ≡ p.1 = some-injective v p.1 (sym here ∙ (ap (get_elem? views) (sym e) ∙ p.2)) in
      (id, w, there_now views id v w here, stay (ap (λ (x : View E Z). x.seen) q ∙ p.3)))
      (λ n. (p.0, p.1, set_else views id p.0 w n ∙ p.2, p.3))

module _ {B E Z : Type 0} (base : B → Z) (entries : B → List E) where
  abbrev St : Type 0
  St = State (Option B) (View E Z)

  shelf_still : (z : Z) (log : List E) (homes : List (maybe.Option (Option B))) (views : List (View E Z)) (id : ℕ) (v w : View E Z) → get_elem? views id ≡ some v
      → ((t : ℕ) → v.stage ≡ Inside t → w.stage ≡ Inside t) → (h : Option ℕ) → Shelf base entries z log homes views h → Shelf base entries z log homes (set views id w) h
  shelf_still z log homes views id v w here stay None p = p
  shelf_still z log homes views id v w here stay (Some h) p = (p.0, inside_still views id h v w here stay p.1)

  knows : (s : St) (c : Counted base entries s) (id : ℕ) (v : View E Z) → get_elem? s.views id ≡ some v → 1 ≤ v.share → Knows c.z c.opening c.log c.served c.holder id v
  knows s c id v here alive = ⊎_elim (λ (e : v ≡ spent). absurd (let h : v.share ≡ 0 = ap (λ (u : View E Z). u.share) e in omega arith)) (λ k. k) (c.each_seat id v here)

  -- what the whole share has, from the sums
  ruled : (s : St) → Counted base entries s → Ruled base entries s
  ruled s c = record {
    counted = c;
    whole = λ j v here all x. let k = knows s c j v here (omega arith) in
        let only : total (own_in x) s.views ≡ times x v.own = total_only (own_in x) s.views j v here (λ i u other there.
        ⊎_elim (λ (e : u ≡ spent). ap (λ (y : View E Z). times x y.own) e ∙ times_none x)
        (λ (y : Knows c.z c.opening c.log c.served c.holder i u). absurd (let two : v.share + u.share ≤ total share_of s.views = total_two share_of s.views j i v u other here there in let a = y.alive in let b = c.shares in omega arith))
        (c.each_seat i u there)) in
        let o = c.owns x in let w : slice_index s.words 2 ≡ length c.log = ap (λ (ws : List ℕ). slice_index ws 2) c.words in
        let sum : times x v.own + below x c.opening ≡ below x (length c.log) = omega arith in
        ap (λ (n : ℕ). times x v.own + below x n) k.same_opening ∙ (sum ∙ ap (below x) (sym w));
  }

  places : (s : St) → Ruled base entries s → (id : ℕ) (v : View E Z) (n : ℕ) → get_elem? s.views id ≡ some v → 1 ≤ v.share → slice_index s.words 2 ≡ n → Places n v
  places s r id v n here alive e = let c = r.counted in let k = knows s c id v here alive in let all : length c.log ≡ n = sym (ap (λ (ws : List ℕ). slice_index ws 2) c.words) ∙ e in record {
    once = λ x. let a : times x v.own ≤ total (own_in x) s.views = total_at (own_in x) s.views id v here in let b = c.owns x in let o = below_one x (length c.log) in omega arith;
    within = λ x p. let a : times x v.own ≤ total (own_in x) s.views = total_at (own_in x) s.views id v here in let b = c.owns x in let o = below_one x (length c.log) in let low = below_some x (length c.log) (omega arith) in
        let same_opening = k.same_opening in
        (dite (dec_le c.opening x) (λ h. omega arith) (λ h. let l = below_yes x c.opening (lt_of_not-le h) in absurd (omega arith)), omega arith);
    whole = λ all x. r.whole id v here all x ∙ ap (below x) e;
  }

  -- A step of the seat id from v to w, after which the history is log', and so on
  moved : (s : St) (c : Counted base entries s) (id : ℕ) (v w : View E Z) → get_elem? s.views id ≡ some v
      → (words' : List ℕ) (homes' : List (maybe.Option (Option B))) (log' : List E) (served' drawn' : ℕ) (holder' : Option ℕ)
      → words' ≡ (drawn' % 2 ^ 64) ∷ (served' % 2 ^ 64) ∷ length log' ∷ []
      → ((x : ℕ) → (ticket_in x w + below x served') + below x c.drawn ≡ (ticket_in x v + below x c.served) + below x drawn')
      → (in_line w + served') + c.drawn ≡ (in_line v + c.served) + drawn'
      → w.share ≡ v.share
      → length c.log ≤ length log'
      → ((x : ℕ) → times x w.own + below x (length c.log) ≡ times x v.own + below x (length log'))
      → ((j : ℕ) (u : View E Z) → j ≢ id → get_elem? s.views j ≡ some u → Knows c.z c.opening c.log c.served c.holder j u → Knows c.z c.opening log' served' holder' j u)
      → Knows c.z c.opening log' served' holder' id w
      → Shelf base entries c.z log' homes' (set s.views id w) holder'
      → (j : ℕ) × (u : View E Z) × (get_elem? (set s.views id w) j ≡ some u) × (u.seen ≡ log')
      → Ruled base entries record { words = words'; homes = homes'; views = set s.views id w }
  moved s c id v w here words' homes' log' served' drawn' holder' is_words tick line share longer_now own others mine shelf long = ruled _ record {
    z = c.z;
    opening = c.opening;
    log = log';
    served = served';
    drawn = drawn';
    holder = holder';
    words = is_words;
    tickets = λ x. let a = total_set (ticket_in x) s.views id v w here in let b = c.tickets x in let d = tick x in omega arith;
    line = let a = total_set in_line s.views id v w here in let b = c.line in omega arith;
    shares = let a = total_set share_of s.views id v w here in let b = c.shares in omega arith;
    opened = let a = c.opened in omega arith;
    owns = λ x. let a = total_set (own_in x) s.views id v w here in let b = c.owns x in let d = own x in omega arith;
    each_seat = λ j u there. ⊎_elim (λ (t : (j ≡ id) × (w ≡ u)). inr (subst (λ (y : ℕ × View E Z). Knows c.z c.opening log' served' holder' y.0 y.1) (λ i. (sym t.0 i, t.1 i)) mine))
        (λ (t : (j ≢ id) × (get_elem? s.views j ≡ some u)). ⊎_elim (λ (e : u ≡ spent). inl e) (λ (k : Knows c.z c.opening c.log c.served c.holder j u). inr (others j u t.0 t.1 k)) (c.each_seat j u t.1))
        (at_set s.views id j w u there);
    shelf = shelf;
    longest = long;
  }

  -- a load after which only the seat's own stage, and what it has seen, may differ
  quiet : (s : St) (c : Counted base entries s) (i id : ℕ) (v w : View E Z) → get_elem? s.views id ≡ some v
      → ((x : ℕ) → ticket_in x w ≡ ticket_in x v) → in_line w ≡ in_line v → w.share ≡ v.share → w.own ≡ v.own → Knows c.z c.opening c.log c.served c.holder id w
      → ((t : ℕ) → v.stage ≡ Inside t → w.stage ≡ Inside t) → (v.seen ≡ c.log → w.seen ≡ c.log)
      → Ruled base entries record { words = set s.words i (slice_index s.words i); homes = s.homes; views = set s.views id w }
  quiet s c i id v w here tick line share own mine stay seen = moved s c id v w here (set s.words i (slice_index s.words i)) s.homes c.log c.served c.drawn c.holder (set-get_or s.words i 0 ∙ c.words)
      (λ x. let a = tick x in omega arith) (omega arith) share (omega arith) (λ x. ap (λ (ys : List ℕ). times x ys + below x (length c.log)) own) (λ j u n at_j k. k) mine
      (shelf_still c.z c.log s.homes s.views id v w here stay c.holder c.shelf) (seen_still s.views c.log id v w here seen c.longest)

  not_inside : (st st' : Stage) (t : ℕ) {A : Type 0} → st ≡ st' → kind st' < 3 → st ≡ Inside t → A
  not_inside st st' t e small f = let h : kind st' ≡ 3 = ap kind (sym e ∙ f) in absurd (omega arith)

  pub draws : (slots id : ℕ) (m : Sat B E Z) → IsFree m → Allows (Ruled base entries) slots id m 0 (λ n. (n + 1) % 2 ^ 64) (drew (step slots 0 1 0 none) m)
  draws slots id m free s r _ here _ = let c = r.counted in let v : View E Z = m.0 in let d : ℕ = c.drawn in let k = knows s c id v here free.2 in let w : View E Z = at (Waits d) v in
      let wrap : (d % 2 ^ 64 + 1) % 2 ^ 64 ≡ (d + 1) % 2 ^ 64 = omega arith in (
        w,
        keeps,
        tt,
        moved s c id v w here _ s.homes c.log c.served (d + 1) c.holder
            (ap (λ (ws : List ℕ). set ws 0 ((slice_index ws 0 + 1) % 2 ^ 64)) c.words ∙ (λ i. wrap i ∷ (c.served % 2 ^ 64) ∷ length c.log ∷ []))
            (λ x. let a = below_next x d in let b : ticket_in x v ≡ 0 = ap (ticket_at x) free.0 in omega arith)
            (let b : in_line v ≡ 0 = ap in_line_at free.0 in omega arith)
            refl (omega arith) (λ x. refl) (λ j u n at_j y. y)
            record { same_base = k.same_base; same_opening = k.same_opening; seen = k.seen; taken = k.taken; stands = tt; alive = k.alive; own = k.own }
            (shelf_still c.z c.log s.homes s.views id v w here (λ t e. not_inside v.stage Away t free.0 (omega arith) e) c.holder c.shelf)
            (seen_still s.views c.log id v w here (λ e. e) c.longest),
        (d, sym (ap (λ (ws : List ℕ). slice_index ws 0) c.words), λ i. (w, free.1 i)),
      )

  -- a ticket that a view has is not yet served and was drawn
  in_range : (s : St) (c : Counted base entries s) (id : ℕ) (v : View E Z) (t : ℕ) → get_elem? s.views id ≡ some v → ticket_in t v ≡ 1 → (c.served ≤ t) × (t < c.drawn)
  in_range s c id v t here is = let a : ticket_in t v ≤ total (ticket_in t) s.views = total_at (ticket_in t) s.views id v here in let b = c.tickets t in let o = below_one t c.drawn in
      (dite (dec_le c.served t) (λ h. h) (λ h. let l = below_yes t c.served (lt_of_not-le h) in absurd (omega arith)), below_some t c.drawn (omega arith))

  -- no two views have the ticket that is served
  alone : (s : St) (c : Counted base entries s) (id j : ℕ) (v u : View E Z) (t : ℕ) → j ≢ id → get_elem? s.views id ≡ some v → get_elem? s.views j ≡ some u → ticket_in t v ≡ 1 → ticket_in t u ≡ 1 → ⊥
  alone s c id j v u t n here there a b = let two : ticket_in t v + ticket_in t u ≤ total (ticket_in t) s.views = total_two (ticket_in t) s.views id j v u n here there in let d = c.tickets t in let o = below_one t c.drawn in omega arith

  narrow : (s : St) (c : Counted base entries s) → c.drawn ≤ c.served + 2 ^ 32
  narrow s c = let a = total_le in_line share_of s.views (λ j u there. ⊎_elim (λ (e : u ≡ spent). let l : in_line u ≡ 0 = ap in_line e in omega arith)
      (λ (k : Knows c.z c.opening c.log c.served c.holder j u). let l = line_one u.stage in let o = k.alive in omega arith) (c.each_seat j u there)) in
      let b = c.line in let d = c.shares in omega arith

  pub looks : (slots id : ℕ) (m : Sat B E Z) (n : ℕ) → IsWaiting n m → Allows (Ruled base entries) slots id m 1 (λ x. x) (looked (step slots 1 0 0 none) m)
  looks slots id m n waits s r _ here _ = let c = r.counted in let v : View E Z = m.0 in let t : ℕ = waits.0 in let k = knows s c id v here waits.4 in let found : ℕ = slice_index s.words 1 in
      let is : found ≡ c.served % 2 ^ 64 = ap (λ (ws : List ℕ). slice_index ws 1) c.words in let one : ticket_in t v ≡ 1 = ap (ticket_at t) waits.2 ∙ same_yes t t refl in let range = in_range s c id v t here one in
      let low = range.0 in let high = range.1 in let close = narrow s c in let again : (t' : ℕ) → v.stage ≡ Waits t' → t ≡ t' = λ t' e. ap number (sym waits.2 ∙ e) in
      dite (ℕ_discrete found (t % 2 ^ 64))
      (λ hit. let mine : c.served ≡ t = one_turn c.served t 18446744073709551616 low (omega arith) (sym is ∙ hit) in let w : View E Z = at (Ahead t) v in (
        w,
        keeps,
        tt,
        quiet s c 1 id v w here (λ x. sym (ap (ticket_at x) waits.2)) (sym (ap in_line_at waits.2)) refl refl
            record { same_base = k.same_base; same_opening = k.same_opening; seen = k.seen; taken = k.taken; stands = sym mine; alive = k.alive; own = k.own }
            (λ x e. not_inside v.stage (Waits t) x waits.2 (omega arith) e) (λ e. e),
        λ t' e. ((λ _ i. (at (Ahead (again t' e i)) v, m.1)), λ ne. absurd (ne (hit ∙ ap (λ (x : ℕ). x % 2 ^ 64) (again t' e)))),
      ))
      (λ miss. (
        v,
        keeps,
        tt,
        quiet s c 1 id v v here (λ x. refl) refl refl refl k (λ x e. e) (λ e. e),
        λ t' e. ((λ hit. absurd (miss (hit ∙ ap (λ (x : ℕ). x % 2 ^ 64) (sym (again t' e))))), λ _. refl),
      ))

  pub looks_up : (slots id : ℕ) (m : Sat B E Z) → IsFree m → Allows (Ruled base entries) slots id m 2 (λ x. x) (looked_up (step slots 2 0 0 none) m)
  looks_up slots id m free s r _ here _ = let c = r.counted in let v : View E Z = m.0 in let k = knows s c id v here free.2 in let w : View E Z = saw c.log v in let short = begins_short v.seen c.log k.seen in (
    w,
    keeps,
    tt,
    quiet s c 2 id v w here (λ x. refl) refl refl refl
        record {
          same_base = k.same_base;
          same_opening = k.same_opening;
          seen = begins_self c.log;
          taken = tt;
          stands = subst (Stands c.served c.holder c.log id c.log) (sym free.0) tt;
          alive = k.alive;
          own = λ x p. let l = k.own x p in omega arith;
        }
        (λ t e. not_inside v.stage Away t free.0 (omega arith) e) (λ _. refl),
    (c.log, refl, ap (λ (ws : List ℕ). slice_index ws 2) c.words, record { seen = k.seen; taken = k.taken }, places s r id v (slice_index s.words 2) here free.2 refl),
  )

  pub checks : (slots id : ℕ) (m : Sat B E Z) → IsFree m → Allows (Ruled base entries) slots id m 2 (λ x. x) (checked (step slots 2 0 0 none) m)
  checks slots id m free s r _ here _ = let c = r.counted in let v : View E Z = m.0 in let k = knows s c id v here free.2 in (
    v,
    keeps,
    tt,
    quiet s c 2 id v v here (λ x. refl) refl refl refl k (λ x e. e) (λ e. e),
    (refl, (let a : v.share ≤ total share_of s.views = total_at share_of s.views id v here in let b = c.shares in omega arith), places s r id v (slice_index s.words 2) here free.2 refl),
  )

  -- at the turn of the seat id nobody is inside
  empty : (s : St) (c : Counted base entries s) (id : ℕ) (v : View E Z) (t : ℕ) → get_elem? s.views id ≡ some v → v.stage ≡ Ahead t → t ≡ c.served
      → (h : Option ℕ) → c.holder ≡ h → Shelf base entries c.z c.log s.homes s.views h → Shelf base entries c.z c.log s.homes s.views None × (c.holder ≡ None)
  empty s c id v t here stage turn None is p = (p, is)
  empty s c id v t here stage turn (Some h) is p = let f = p.1 in let u : View E Z = f.0 in let t' : ℕ = f.1 in let there : get_elem? s.views h ≡ some u = f.2 in let inside : u.stage ≡ Inside t' = f.3 in
      dite (ℕ_discrete h id)
      (λ e. let q : v ≡ u = some-injective v u (sym here ∙ (ap (get_elem? s.views) (sym e) ∙ there)) in
      not_inside v.stage (Ahead t) t' stage (omega arith) (ap (λ (y : View E Z). y.stage) q ∙ inside))
      (λ n. absurd (⊎_elim
      (λ (e : u ≡ spent). not_inside u.stage Away t' (ap (λ (y : View E Z). y.stage) e) (omega arith) inside)
      (λ (k : Knows c.z c.opening c.log c.served c.holder h u). let st = subst (Stands c.served c.holder c.log h u.seen) inside k.stands in
      alone s c id h v u c.served n here there (ap (ticket_at c.served) stage ∙ same_yes c.served t (sym turn)) (ap (ticket_at c.served) inside ∙ same_yes c.served t' (sym st.0)))
      (c.each_seat h u there)))

  pub goes_in : (slots id : ℕ) (m : Sat B E Z) → IsAhead m → Allows (Ruled base entries) slots id m 2 (λ x. x) (went_in base entries (step slots 2 0 0 none) m)
  goes_in slots id m ahead s r _ here _ = let c = r.counted in let v : View E Z = m.0 in let t : ℕ = ahead.0 in let stage : v.stage ≡ Ahead t = ahead.1 in let k = knows s c id v here ahead.3 in
      let turn : t ≡ c.served = subst (Stands c.served c.holder c.log id v.seen) stage k.stands in let home = empty s c id v t here stage turn c.holder refl c.shelf in
      let b : B = home.0.0 in let at_home : s.homes ≡ some (Some b) ∷ [] = home.0.1 in let stands_for : base b ≡ c.z = home.0.2 in let all : entries b ≡ c.log = home.0.3 in
      let w : View E Z = at (Inside t) (saw (entries b) v) in let short = begins_short v.seen c.log k.seen in let long : length (entries b) ≡ length c.log = ap length all in
      let again : (t' : ℕ) → v.stage ≡ Ahead t' → t ≡ t' = λ t' e. ap number (sym stage ∙ e) in
      let follows : Follows c.log v = record { seen = k.seen; taken = k.taken } in (
        w,
        takes 0 (Some b),
        ap (λ (hs : List (maybe.Option (Option B))). get_elem? hs 0) at_home,
        moved s c id v w here (set s.words 2 (slice_index s.words 2)) (set s.homes 0 none) c.log c.served c.drawn (Some id) (set-get_or s.words 2 0 ∙ c.words)
            (λ x. let e : ticket_in x v ≡ same x t = ap (ticket_at x) stage in omega arith) (let e : in_line v ≡ 1 = ap in_line_at stage in omega arith) refl (omega arith) (λ x. refl)
            (λ j u n there y. record { same_base = y.same_base; same_opening = y.same_opening; seen = y.seen; taken = y.taken; stands = stands_in c.served c.holder (Some id) c.log j u.seen u.stage home.1 y.stands; alive = y.alive; own = y.own })
            record {
              same_base = k.same_base;
              same_opening = k.same_opening;
              seen = subst (λ (l : List E). IsPrefix l c.log) (sym all) (begins_self c.log);
              taken = tt;
              stands = (turn, refl, all);
              alive = k.alive;
              own = λ x p. let l = k.own x p in omega arith;
            }
            (ap (λ (hs : List (maybe.Option (Option B))). set hs 0 none) at_home, (w, t, there_now s.views id v w here, refl))
            (id, w, there_now s.views id v w here, all),
        λ t' e. (b, (λ i. (at (Inside (again t' e i)) (saw (entries b) v), (0, Some b) ∷ ahead.2 i)), k.same_base ∙ ap Some (sym stands_for), subst (λ (l : List E). Follows l v) (sym all) follows),
      )

  -- the entry of the seat inside, if there is one, is counted
  adds : (slots id : ℕ) (m : Sat B E Z) (k : ℕ) (log' : List E) (own' : List ℕ) (news : List E) (s : St) (r : Ruled base entries s) → IsInside None m → get_elem? s.views id ≡ some m.0
      → (m.0.seen ≡ r.counted.log → log' ≡ r.counted.log ++ news) → (m.0.seen ≡ r.counted.log → length log' ≡ length r.counted.log + k) → length log' < 2 ^ 64
      → (m.0.seen ≡ r.counted.log → (x : ℕ) → times x own' + below x (length r.counted.log) ≡ times x m.0.own + below x (length log'))
      → Ruled base entries record { words = set s.words 2 ((slice_index s.words 2 + k) % 2 ^ 64); homes = s.homes; views = set s.views id (record m.0 { seen = log'; own = own' }) }
      × (slice_index (set s.words 2 ((slice_index s.words 2 + k) % 2 ^ 64)) 2 ≡ length log')
  adds slots id m k log' own' news s r inside here grown len fits own = let c = r.counted in let v : View E Z = m.0 in let t : ℕ = inside.0 in let stage : v.stage ≡ Inside t = inside.1 in
      let y = knows s c id v here inside.3 in let st = subst (Stands c.served c.holder c.log id v.seen) stage y.stands in let held : c.holder ≡ Some id = st.1 in let all : v.seen ≡ c.log = st.2 in
      let w : View E Z = record v { seen = log'; own = own' } in let g = grown all in let n = len all in let o = own all in let shelf = subst (Shelf base entries c.z c.log s.homes s.views) held c.shelf in
      let count : (length c.log + k) % 2 ^ 64 ≡ length log' = omega arith in
      let more : (l : List E) → IsPrefix l c.log → IsPrefix l log' = λ l p. subst (IsPrefix l) (sym g) (begins_more l c.log news p) in
      let mores : (ls : List (List E)) → ArePrefixes ls c.log → ArePrefixes ls log' = λ ls p. subst (ArePrefixes ls) (sym g) (begin_more ls c.log news p) in
      let seen_all : length v.seen ≡ length c.log = ap length all in (
        moved s c id v w here _ s.homes log' c.served c.drawn c.holder
            (ap (λ (ws : List ℕ). set ws 2 ((slice_index ws 2 + k) % 2 ^ 64)) c.words ∙ (λ i. (c.drawn % 2 ^ 64) ∷ (c.served % 2 ^ 64) ∷ count i ∷ []))
            (λ x. refl) refl refl (omega arith) o
            (λ j u other there z. record {
              same_base = z.same_base;
              same_opening = z.same_opening;
              seen = more u.seen z.seen;
              taken = mores u.taken z.taken;
              stands = stands_on c.served c.holder c.log log' id j u.seen u.stage held other z.stands;
              alive = z.alive;
              own = z.own;
            })
            record {
              same_base = y.same_base;
              same_opening = y.same_opening;
              seen = begins_self log';
              taken = mores v.taken y.taken;
              stands = subst (Stands c.served c.holder log' id log') (sym stage) (st.0, held, refl);
              alive = y.alive;
              own = λ x p. dite (dec_le (length log') x) (λ h. let a = below_no x (length log') h in let b = below_no x (length c.log) (omega arith) in let e = o x in let l = y.own x (omega arith) in absurd (omega arith)) lt_of_not-le;
            }
            (subst (Shelf base entries c.z log' s.homes (set s.views id w)) (sym held) (shelf.0, (w, t, there_now s.views id v w here, stage)))
            (id, w, there_now s.views id v w here, refl),
        ap (λ (ws : List ℕ). slice_index (set ws 2 ((slice_index ws 2 + k) % 2 ^ 64)) 2) c.words ∙ count,
      )

  pub counts : (slots id : ℕ) (m : Sat B E Z) (k : ℕ) (log' : List E) → IsInside None m → Grows m.0.seen k log' → length log' < 2 ^ 64
      → Allows (Ruled base entries) slots id m 2 (λ n. (n + k) % 2 ^ 64) (counted log' (step slots 2 k 0 none) m)
  counts slots id m k log' inside (inl p) fits s r _ here _ = let v : View E Z = m.0 in let w : View E Z = record v { seen = log'; own = v.own } in let c = r.counted in
      let same_len : length log' ≡ length v.seen = ap length p.1 in
      let rule = adds slots id m k log' v.own [] s r inside here (λ all. p.1 ∙ (all ∙ sym (append-nil c.log))) (λ all. let e : length v.seen ≡ length c.log = ap length all in let z = p.0 in omega arith) fits
      (λ all x. ap (λ (n : ℕ). times x v.own + below x n) (sym (ap length all) ∙ sym same_len)) in (
        w,
        keeps,
        tt,
        rule.0,
        (refl, refl, inl (p.1, refl), places _ rule.0 id w (length log') (there_now s.views id v w here) inside.3 rule.1),
      )
  counts slots id m k log' inside (inr p) fits s r _ here _ = let v : View E Z = m.0 in let c = r.counted in let e : E = p.0 in let own' : List ℕ = v.own ++ length v.seen ∷ [] in
      let w : View E Z = record v { seen = log'; own = own' } in let long : length log' ≡ length v.seen + 1 = ap length p.2 ∙ length-append v.seen (e ∷ []) in
      let rule = adds slots id m k log' own' (e ∷ []) s r inside here (λ all. p.2 ∙ ap (λ (l : List E). l ++ e ∷ []) all) (λ all. let f : length v.seen ≡ length c.log = ap length all in let z = p.1 in omega arith) fits
      (λ all x. let f : length v.seen ≡ length c.log = ap length all in let a = times_append x v.own (length v.seen ∷ []) in let b = times_one x (length v.seen) in let d = below_next x (length v.seen) in
      let a' : times x own' ≡ times x v.own + times x (length v.seen ∷ []) = a in
      let g : below x (length log') ≡ below x (length v.seen + 1) = ap (below x) long in let h : below x (length v.seen) ≡ below x (length c.log) = ap (below x) f in omega arith) in (
        w,
        keeps,
        tt,
        rule.0,
        (refl, refl, inr (e, p.2, refl), places _ rule.0 id w (length log') (there_now s.views id v w here) inside.3 rule.1),
      )

  pub leaves : (slots id : ℕ) (m : Sat B E Z) (b : B) → IsInside (Some b) m → m.0.base ≡ Some (base b) → m.0.seen ≡ entries b
      → Allows (Ruled base entries) slots id m 1 (λ n. (n + 1) % 2 ^ 64) (left (step slots 1 1 0 none) m)
  leaves slots id m b inside stands_for lists s r _ here _ = let c = r.counted in let v : View E Z = m.0 in let t : ℕ = inside.0 in let stage : v.stage ≡ Inside t = inside.1 in let hand = inside.2 in
      let k = knows s c id v here inside.3 in let st = subst (Stands c.served c.holder c.log id v.seen) stage k.stands in let turn : t ≡ c.served = st.0 in let held : c.holder ≡ Some id = st.1 in let all : v.seen ≡ c.log = st.2 in
      let shelf = subst (Shelf base entries c.z c.log s.homes s.views) held c.shelf in let w : View E Z = at Away v in let n : ℕ = c.served in let wrap : (n % 2 ^ 64 + 1) % 2 ^ 64 ≡ (n + 1) % 2 ^ 64 = omega arith in
      let base_is : base b ≡ c.z = ap (value_or c.z) (sym stands_for ∙ k.same_base) in
      let rule = moved s c id v w here (set s.words 1 ((slice_index s.words 1 + 1) % 2 ^ 64)) (set s.homes 0 (some (Some b))) c.log (n + 1) c.drawn None
      (ap (λ (ws : List ℕ). set ws 1 ((slice_index ws 1 + 1) % 2 ^ 64)) c.words ∙ (λ i. (c.drawn % 2 ^ 64) ∷ wrap i ∷ length c.log ∷ []))
      (λ x. let a = below_next x n in let e : ticket_in x v ≡ same x n = ap (ticket_at x) stage ∙ ap (same x) turn in omega arith)
      (let e : in_line v ≡ 1 = ap in_line_at stage in omega arith)
      refl (omega arith) (λ x. refl)
      (λ j u other there y. record {
        same_base = y.same_base;
        same_opening = y.same_opening;
        seen = y.seen;
        taken = y.taken;
        stands = stands_off n c.holder c.log j u.seen u.stage (λ one. alone s c id j v u n other here there (ap (ticket_at n) stage ∙ same_yes n t (sym turn)) one) y.stands;
        alive = y.alive;
        own = y.own;
      })
      record { same_base = k.same_base; same_opening = k.same_opening; seen = k.seen; taken = k.taken; stands = tt; alive = k.alive; own = k.own }
      (b, ap (λ (hs : List (maybe.Option (Option B))). set hs 0 (some (Some b))) shelf.0, base_is, sym lists ∙ all)
      (seen_still s.views c.log id v w here (λ e. e) c.longest) in (
        w,
        gives,
        tt,
        subst (λ (cs : List (ℕ × Option B)). Ruled base entries (stepped s 1 ((slice_index s.words 1 + 1) % 2 ^ 64) id cs w gives)) (sym hand) rule,
        (λ i. (w, ap rest hand i)),
      )

  known_rest : (s : St) (c : Counted base entries s) (id : ℕ) (v : View E Z) → Knows c.z c.opening c.log c.served c.holder id v → 2 ≤ v.share → Knows c.z c.opening c.log c.served c.holder id (keeps_rest v)
  known_rest s c id v k two = let n : ℕ = v.share in let h : 1 ≤ n - n / 2 = omega arith in
      record { same_base = k.same_base; same_opening = k.same_opening; seen = k.seen; taken = k.taken; stands = k.stands; alive = h; own = k.own }

  known_half : (s : St) (c : Counted base entries s) (id j : ℕ) (v : View E Z) → Knows c.z c.opening c.log c.served c.holder id v → 2 ≤ v.share → Knows c.z c.opening c.log c.served c.holder j (takes_half v)
  known_half s c id j v k two = let n : ℕ = v.share in let h : 1 ≤ n / 2 = omega arith in
      record { same_base = k.same_base; same_opening = k.same_opening; seen = k.seen; taken = tt; stands = tt; alive = h; own = λ x p. let e = times_none x in absurd (omega arith) }

  known_both : (s : St) (c : Counted base entries s) (id other : ℕ) (v w : View E Z) → v.stage ≡ Away → Knows c.z c.opening c.log c.served c.holder id v → Knows c.z c.opening c.log c.served c.holder other w
      → Knows c.z c.opening c.log c.served c.holder id (joined v w)
  known_both s c id other v w away k y = let size = longer_long v.seen w.seen in let size_v = size.0 in let size_w = size.1 in let a = k.alive in record {
    same_base = k.same_base;
    same_opening = k.same_opening;
    seen = longer_begins v.seen w.seen c.log k.seen y.seen;
    taken = (k.seen, (y.seen, begin_both v.taken w.taken c.log k.taken y.taken));
    stands = subst (Stands c.served c.holder c.log id (longer v.seen w.seen)) (sym away) tt;
    alive = omega arith;
    own = λ x p. let e = times_append x v.own w.own in dite (dec_le 1 (times x v.own)) (λ q. let l = k.own x q in omega arith) (λ q. let z = lt_of_not-le q in let l = y.own x (omega arith) in omega arith);
  }

  shelf_longer : (z : Z) (log : List E) (homes : List (maybe.Option (Option B))) (views : List (View E Z)) (o : View E Z) → (h : Option ℕ) → Shelf base entries z log homes views h → Shelf base entries z log homes (views ++ o ∷ []) h
  shelf_longer z log homes views o None p = p
  shelf_longer z log homes views o (Some h) p = let f = p.1 in (p.0, (f.0, f.1, at_longer views (o ∷ []) h f.0 f.2, f.3))

  first_seat : (b : B) (j : ℕ) (u : View E Z) → get_elem? (opener base entries b ∷ []) j ≡ some u → Knows (base b) (length (entries b)) (entries b) 0 None j u
  first_seat b zero u e = subst (Knows (base b) (length (entries b)) (entries b) 0 None 0) (some-injective (opener base entries b) u e)
      record { same_base = refl; same_opening = refl; seen = begins_self (entries b); taken = tt; stands = tt; alive = omega arith; own = λ x p. let z = times_none x in absurd (omega arith) }
  first_seat b (suc j) u e = absurd (some-ne-none u (sym e))

  -- beside a seat with the whole share nobody is inside
  nobody_in : (s : St) (c : Counted base entries s) (id : ℕ) (v : View E Z) → get_elem? s.views id ≡ some v → v.stage ≡ Away → v.share ≡ 2 ^ 32
      → (h : Option ℕ) → Shelf base entries c.z c.log s.homes s.views h → Shelf base entries c.z c.log s.homes s.views None
  nobody_in s c id v here away whole None p = p
  nobody_in s c id v here away whole (Some h) p = let f = p.1 in let u : View E Z = f.0 in let t : ℕ = f.1 in let there : get_elem? s.views h ≡ some u = f.2 in let inside : u.stage ≡ Inside t = f.3 in
      dite (ℕ_discrete h id)
      (λ e. let q : v ≡ u = some-injective v u (sym here ∙ (ap (get_elem? s.views) (sym e) ∙ there)) in not_inside v.stage Away t away (omega arith) (ap (λ (y : View E Z). y.stage) q ∙ inside))
      (λ n. absurd (⊎_elim
      (λ (e : u ≡ spent). not_inside u.stage Away t (ap (λ (y : View E Z). y.stage) e) (omega arith) inside)
      (λ (k : Knows c.z c.opening c.log c.served c.holder h u). let two : v.share + u.share ≤ total share_of s.views = total_two share_of s.views id h v u n here there in let a = k.alive in let b = c.shares in omega arith)
      (c.each_seat h u there)))

  pub splits : (id : ℕ) (v : View E Z) → v.stage ≡ Away → 2 ≤ v.share → Splits (Ruled base entries) id v (keeps_rest v) (takes_half v)
  splits id v away two s r here = let c = r.counted in let k = knows s c id v here (omega arith) in let w : View E Z = keeps_rest v in let o : View E Z = takes_half v in let vs : List (View E Z) = set s.views id w in ruled _ record {
    z = c.z;
    opening = c.opening;
    log = c.log;
    served = c.served;
    drawn = c.drawn;
    holder = c.holder;
    words = c.words;
    tickets = λ x. let a = total_set (ticket_in x) s.views id v w here in let b = total_push (ticket_in x) vs o in let d = c.tickets x in omega arith;
    line = let a = total_set in_line s.views id v w here in let b = total_push in_line vs o in let d = c.line in omega arith;
    shares = let a = total_set share_of s.views id v w here in let b = total_push share_of vs o in let d = c.shares in omega arith;
    opened = c.opened;
    owns = λ x. let a = total_set (own_in x) s.views id v w here in let b = total_push (own_in x) vs o in let d = c.owns x in let e = times_none x in omega arith;
    each_seat = λ j u there. ⊎_elim
        (λ (there' : get_elem? vs j ≡ some u). ⊎_elim
        (λ (t : (j ≡ id) × (w ≡ u)). inr (subst (λ (y : ℕ × View E Z). Knows c.z c.opening c.log c.served c.holder y.0 y.1) (λ i. (sym t.0 i, t.1 i)) (known_rest s c id v k two)))
        (λ (t : (j ≢ id) × (get_elem? s.views j ≡ some u)). c.each_seat j u t.1)
        (at_set s.views id j w u there'))
        (λ (e : o ≡ u). inr (subst (Knows c.z c.opening c.log c.served c.holder j) e (known_half s c id j v k two)))
        (at_snoc vs o u j there);
    shelf = shelf_longer c.z c.log s.homes vs o c.holder (shelf_still c.z c.log s.homes s.views id v w here (λ t e. e) c.holder c.shelf);
    longest = let l = seen_still s.views c.log id v w here (λ e. e) c.longest in (l.0, l.1, at_longer vs (o ∷ []) l.0 l.1 l.2, l.3);
  }

  pub joins : (id : ℕ) (v : View E Z) (other : ℕ) (w : View E Z) → v.stage ≡ Away → w.stage ≡ Away → 1 ≤ v.share → 1 ≤ w.share → Joins (Ruled base entries) id v other w (joined v w) spent
  joins id v other w away away' some_share some_share' s r here apart there = let c = r.counted in let both : View E Z = joined v w in let vs : List (View E Z) = set s.views id both in
      let there' : get_elem? s.views other ≡ some w = sym (set_else s.views id other both apart) ∙ there in let k = knows s c id v here some_share in let y = knows s c other w there' some_share' in
      let gone : View E Z = spent in let away_v : (x : ℕ) → ticket_in x w ≡ 0 = λ x. ap (ticket_at x) away' in let line_w : in_line w ≡ 0 = ap in_line_at away' in ruled _ record {
        z = c.z;
        opening = c.opening;
        log = c.log;
        served = c.served;
        drawn = c.drawn;
        holder = c.holder;
        words = c.words;
        tickets = λ x. let a = total_set (ticket_in x) s.views id v both here in let b = total_set (ticket_in x) vs other w gone there in let d = c.tickets x in let e = away_v x in omega arith;
        line = let a = total_set in_line s.views id v both here in let b = total_set in_line vs other w gone there in let d = c.line in omega arith;
        shares = let a = total_set share_of s.views id v both here in let b = total_set share_of vs other w gone there in let d = c.shares in omega arith;
        opened = c.opened;
        owns = λ x. let a = total_set (own_in x) s.views id v both here in let b = total_set (own_in x) vs other w gone there in let d = c.owns x in let e = times_none x in let f = times_append x v.own w.own in omega arith;
        each_seat = λ j u at_j. ⊎_elim (λ (t : (j ≡ other) × (gone ≡ u)). inl (sym t.1))
            (λ (t : (j ≢ other) × (get_elem? vs j ≡ some u)). ⊎_elim
            (λ (q : (j ≡ id) × (both ≡ u)). inr (subst (λ (x : ℕ × View E Z). Knows c.z c.opening c.log c.served c.holder x.0 x.1) (λ i. (sym q.0 i, q.1 i)) (known_both s c id other v w away k y)))
            (λ (q : (j ≢ id) × (get_elem? s.views j ≡ some u)). c.each_seat j u q.1)
            (at_set s.views id j both u t.1))
            (at_set vs other j gone u at_j);
        shelf = shelf_still c.z c.log s.homes vs other w gone there (λ t e. not_inside w.stage Away t away' (omega arith) e) c.holder
            (shelf_still c.z c.log s.homes s.views id v both here (λ t e. e) c.holder c.shelf);
        longest = let l = c.longest in let at_both : get_elem? (set vs other gone) id ≡ some both = set_else vs other id gone (λ e. apart (sym e)) ∙ there_now s.views id v both here in
            let long : length c.log ≤ length both.seen → both.seen ≡ c.log = begins_all both.seen c.log (longer_begins v.seen w.seen c.log k.seen y.seen) in let size = longer_long v.seen w.seen in
            let size_v = size.0 in let size_w = size.1 in
            dite (ℕ_discrete l.0 id)
            (λ e. let q : v ≡ l.1 = some-injective v l.1 (sym here ∙ (ap (get_elem? s.views) (sym e) ∙ l.2)) in let f : length v.seen ≡ length c.log = ap (λ (x : View E Z). length x.seen) q ∙ ap length l.3 in (id, both, at_both, long (omega arith)))
            (λ n. dite (ℕ_discrete l.0 other)
            (λ e. let q : w ≡ l.1 = some-injective w l.1 (sym there' ∙ (ap (get_elem? s.views) (sym e) ∙ l.2)) in let f : length w.seen ≡ length c.log = ap (λ (x : View E Z). length x.seen) q ∙ ap length l.3 in (id, both, at_both, long (omega arith)))
            (λ n'. (l.0, l.1, set_else vs other l.0 gone n' ∙ (set_else s.views id l.0 both n ∙ l.2), l.3)));
      }

  pub opens : (b : B) → Ruled base entries (opening (0 ∷ 0 ∷ length (entries b) ∷ []) (Some b ∷ []) (opener base entries b))
  opens b = let v : View E Z = opener base entries b in ruled _ record {
    z = base b;
    opening = length (entries b);
    log = entries b;
    served = 0;
    drawn = 0;
    holder = None;
    words = refl;
    tickets = λ x. let a = total_one (ticket_in x) v in omega arith;
    line = let a = total_one in_line v in omega arith;
    shares = let a = total_one share_of v in omega arith;
    opened = omega arith;
    owns = λ x. let a = total_one (own_in x) v in let e = times_none x in omega arith;
    each_seat = λ j u there. inr (first_seat b j u there);
    shelf = (b, refl, refl, refl);
    longest = (0, v, refl, refl);
  }

  -- the only seat gets the value, which stands for the whole history
  pub closes : (id : ℕ) (v : View E Z) → v.stage ≡ Away → v.share ≡ 2 ^ 32 → (words : List ℕ) (slots : List (Option B)) → Final (Seen (Ruled base entries) id v) words slots
      → (b : B) × (get_elem? slots 0 ≡ some (Some b)) × (v.base ≡ Some (base b)) × Follows (entries b) v × Places (length (entries b)) v
  closes id v away whole words slots end = let s = end.0 in let r = end.1.0 in let here = end.1.1 in let c = r.counted in let k = knows s c id v here (omega arith) in
      let home = nobody_in s c id v here away whole c.holder c.shelf in let b : B = home.0 in let all : entries b ≡ c.log = home.3 in let follows : Follows c.log v = record { seen = k.seen; taken = k.taken } in (
        b,
        end.4 0 (Some b) (ap (λ (hs : List (maybe.Option (Option B))). get_elem? hs 0) home.1),
        k.same_base ∙ ap Some (sym home.2),
        subst (λ (l : List E). Follows l v) (sym all) follows,
        places s r id v (length (entries b)) here (omega arith) (ap (λ (ws : List ℕ). slice_index ws 2) c.words ∙ ap length (sym all)),
      )

  pub opens_with : (b b' : B) (n : ℕ) (xs : List (Option B)) → n ≡ length (entries b) → xs ≡ Some b ∷ [] → b' ≡ b → Ruled base entries (opening (0 ∷ 0 ∷ n ∷ []) xs (opener base entries b'))
  opens_with b b' n xs count one same = subst (λ (x : ℕ × List (Option B) × B). Ruled base entries (opening (0 ∷ 0 ∷ x.0 ∷ []) x.1 (opener base entries x.2))) (λ i. (sym count i, sym one i, sym same i)) (opens b)

  pub closes_with : (id : ℕ) (v k : View E Z) → v ≡ k → v.stage ≡ Away → k.share ≡ 2 ^ 32 → (words : List ℕ) (slots : List (Option B)) → Final (Seen (Ruled base entries) id v) words slots
      → (o : Option B) (b : B) → get_elem? slots 0 ≡ some o → o ≡ Some b → (k.base ≡ Some (base b)) × Follows (entries b) k × Places (length (entries b)) k
  closes_with id v k same away whole words slots end o b there got = let e = closes id v away (ap (λ (x : View E Z). x.share) same ∙ whole) words slots end in
      let is : e.0 ≡ b = ap (value_or e.0) (some-injective (Some e.0) o (sym e.1 ∙ there) ∙ got) in
      subst (λ (x : B × View E Z). (x.1.base ≡ Some (base x.0)) × Follows (entries x.0) x.1 × Places (length (entries x.0)) x.1) (λ i. (is i, same i)) (e.2, e.3, e.4)
