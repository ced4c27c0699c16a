use Rattle.std.proofs.Common.{◌≡◌, ℕ, ◌<◌, ◌/◌, ◌%◌, min, List, [], ◌∷◌, ◌++◌, Vec, Global, length, map, ap, ◌∙◌, sym, arith, replicate}
use Rattle.std.specs.declared.sync.Arc.{Arc}
use Rattle.std.specs.Arc.{arc_value}
use Rattle.std.proofs.lemmas.List.{map_push, append-nil, length-replicate}
use Rattle.page_list.proofs.Paging.{Shows, Shows-filled}
use Rattle.page_list.proofs.list.filled_pages.Goals as goal
use Rattle.page_list.proofs.list.filled_pages.Goals.{then-len-gt0+in_ok-rest+in_ok-new+in_ok-push, else-len-gt0}

-- the pages show the value so many times
filled : (g : _) (c : goal.After-drop-full-2 g) → Shows arc_value c.args.len c.if-len-gt0.pages.items (replicate c.args.len (arc_value c.args.value.now))
filled g c =
    let n : ℕ = c.args.len in
    let v : g.row.V.Denot = arc_value c.args.value.now in
    let full : map arc_value c.in_ok-pages.pages.items ≡ replicate (n / 64) (replicate 64 v)
    = c.in_ok-pages.ensures ∙ ap (λ (page : List g.row.V.Denot). replicate (n / 64) page) (c.in_ok-full.ensures.ok ∙ c.in_ok-filled.ensures) in
    elim c.if-len-gt0.branch [
      | then-len-gt0+in_ok-rest+in_ok-new+in_ok-push w ↦
          let rest : List (List g.row.V.Denot) = replicate (n % 64) v ∷ [] in
          let page : arc_value w.in_ok-new.field-0 ≡ replicate (n % 64) v = w.in_ok-new.ensures.ok ∙ w.in_ok-rest.ensures in
          let pages : map arc_value c.if-len-gt0.pages.items ≡ replicate (n / 64) (replicate 64 v) ++ rest
          = ap (λ (pages : Vec (Arc (List g.row.V.Denot) Global) Global). map arc_value pages.items) w.pages-is
          ∙ ap (λ (handles : List (Arc (List g.row.V.Denot) Global)). map arc_value handles) w.in_ok-push.ensures.items
          ∙ map_push arc_value c.in_ok-pages.pages.items w.in_ok-new.field-0
          ∙ ap (λ (ps : List (List g.row.V.Denot)). ps ++ arc_value w.in_ok-new.field-0 ∷ []) full
          ∙ ap (λ (p : List g.row.V.Denot). replicate (n / 64) (replicate 64 v) ++ p ∷ []) page in
          let some : 0 < n % 64 = w.if-len-gt0.true in
          let size : length (replicate (n % 64) v) ≡ min (n % 64) 64 = length-replicate (n % 64) v ∙ omega arith in
          Shows-filled arc_value n c.if-len-gt0.pages.items v rest (some, size, omega arith) (append-nil (replicate (n % 64) v)) pages
      | else-len-gt0 w ↦
          let none : n % 64 ≡ 0 = omega (arith, w.if-len-gt0.false) in
          let pages : map arc_value c.if-len-gt0.pages.items ≡ replicate (n / 64) (replicate 64 v) ++ []
          = ap (λ (pages : Vec (Arc (List g.row.V.Denot) Global) Global). map arc_value pages.items) w.pages-is
          ∙ full
          ∙ sym (append-nil (replicate (n / 64) (replicate 64 v))) in
          Shows-filled arc_value n c.if-len-gt0.pages.items v [] none (ap (λ (k : ℕ). replicate {A = g.row.V.Denot} k v) (sym none)) pages
    ]

pub returns : goal.returns
returns g c = record { paged = (filled g c).paged; values = (filled g c).values }
