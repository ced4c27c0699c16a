-- What a call of the book does, told by its history.
use Rattle.std.proofs.Common.{◌≡◌, ℕ, ◌++◌, [], ◌∷◌, List, length, refl, sym, ap, ◌∙◌, subst}
use Rattle.std.specs.Prelude.{Result, Ok, Err, IfOk, IfErr, OnOk, OnErr}
use Rattle.psi_turnstile.specs.Counting.{IsPrefix}
use Rattle.psi_bundle.specs.declared.member.Member.{Member}
use Rattle.psi_bundle.specs.declared.history.Call.{Call}
use Rattle.psi_bundle.specs.declared.history.Call.TheVariants as Call
use Rattle.psi_bundle.specs.declared.history.Answer.{Answer}
use Rattle.psi_bundle.specs.declared.history.Answer.TheVariants.{Seen}
use Rattle.psi_bundle.specs.declared.history.Entry.{Entry}
use Rattle.sender_core.specs.declared.answers.Placed.{Placed}
use Rattle.sender_core.specs.declared.answers.Refusal.{Refusal}
use Rattle.sender_core.specs.Kept.{Contents, CacheSuits, IsAsBefore, IsConsistent, IsStep, RowSight, View, kept_at, start_of}
use Rattle.sender_core.specs.Given.{IsViewOf, row_sight_of, sight_of}
use Rattle.sender_core.specs.Answers.{cause_at}
use Rattle.live_sender.specs.declared.origin.Origin.{Origin}
use Rattle.live_sender.specs.Histories.{first_version, origin_of, IsHistory}
use Rattle.live_sender.specs.Acts.{DoesCall, Stays}
use Rattle.live_sender.specs.Turns.{ShowsAt, ViewsRow}
use Rattle.live_sender.proofs.Books.{book-of, history-of, shows}
use Rattle.live_sender.proofs.Going.{shown-goes}

module _ {C : Type 0} (contents : C → List (List Member)) (is_under : C → List ℕ → Type 0) where
  -- the call is entered or refused
  does-by : {T : Type 0} (told : T → Answer) (c : Call) (old new : Contents C) (r : Result (Placed T) Refusal) → IsConsistent contents is_under new
      → IfOk r (λ p. IsStep old new c (told p.answer)) → IfOk r (λ p. p.place ≡ length old.journal) → IfErr r (λ refusal. refusal ≡ cause_at (length old.journal))
      → OnErr r (IsAsBefore old new) → DoesCall told c (origin_of old) old.journal new.journal r
  does-by told c old new (Ok p) is step place cause kept =
      let same : origin_of new ≡ origin_of old = λ i. record { parameters = step.same_parameters i; start = step.same_start i } in
      (record { history = subst (λ (z : Origin). IsHistory z new.journal) same (history-of contents is_under new is); entry = step.journal; at = place }, tt)
  does-by told c old new (Err refusal) is step place cause kept =
      let same : origin_of new ≡ origin_of old = ap origin_of kept in (
        tt,
        (
          record {
            history = subst (λ (z : Origin). IsHistory z new.journal) same (history-of contents is_under new is);
            same = ap (λ (h : Contents C). h.journal) kept;
          },
          cause,
        ),
      )

  -- the same, where the book is told as `old`
  pub does-call : {T : Type 0} (told : T → Answer) (c : Call) (h old new : Contents C) (r : Result (Placed T) Refusal) → h ≡ old → IsConsistent contents is_under new
      → IfOk r (λ p. IsStep h new c (told p.answer)) → IfOk r (λ p. p.place ≡ length h.journal) → IfErr r (λ refusal. refusal ≡ cause_at (length h.journal))
      → OnErr r (IsAsBefore h new) → DoesCall told c (origin_of old) old.journal new.journal r
  does-call told c h old new r same is step place cause kept =
      subst (λ (k : Contents C). DoesCall told c (origin_of k) k.journal new.journal r) same (does-by told c h new r is step place cause kept)

  -- nothing changed
  pub stays : (h old : Contents C) → h ≡ old → IsConsistent contents is_under h → Stays (origin_of old) old.journal old.journal
  stays h old same is = record { history = subst (λ (k : Contents C). IsHistory (origin_of k) k.journal) same (history-of contents is_under h is); same = refl }

  -- the snapshot of an entry shows the bundles that it met
  pub asked : {E : Type 0} (h old new : Contents C) (r : Result (Placed (View C)) E) → h ≡ old → IsConsistent contents is_under h → OnOk r (IsStep h new Call.Ask Seen)
      → IfOk r (λ p. p.answer ≡ record { place = length h.journal; rows = h.rows }) → IfOk r (λ p. p.place ≡ length h.journal)
      → IfOk r (λ p. ShowsAt contents is_under (origin_of old) new.journal p.place p.answer)
  asked h old new (Ok p) same is step shown place =
      let z = origin_of h in
      let before : ShowsAt contents is_under z h.journal (length h.journal) (sight_of h) = shows contents is_under z h.journal h (book-of contents is_under h is) in
      let longer : IsPrefix h.journal new.journal = (record { call = Call.Ask; answer = Seen } ∷ [], step.journal) in
      let here : ShowsAt contents is_under z new.journal (length h.journal) (sight_of h) =
      record { at = before.at; shown = shown-goes (first_version z) h.journal new.journal longer contents is_under (sight_of h) before.shown; rows = before.rows } in
      subst (λ (k : Contents C). ShowsAt contents is_under (origin_of k) new.journal p.place p.answer) same
      (subst (λ (n : ℕ). ShowsAt contents is_under z new.journal n p.answer) (sym place) (subst (λ (s : View C). ShowsAt contents is_under z new.journal (length h.journal) s) (sym shown) here))
  asked h old new (Err e) same is step shown place = tt

  -- the view of a row shows the bundles that stand there
  pub viewed : {E : Type 0} (h old : Contents C) (row : ℕ) (r : Result (RowSight C) E) → h ≡ old → IsConsistent contents is_under h → IfOk r (λ v. v ≡ row_sight_of h row)
      → IfOk r (λ v. IsViewOf (start_of h) h.journal v) → IfOk r (ViewsRow contents is_under (origin_of old) old.journal row)
  viewed h old row (Ok v) same is shown given =
      subst (λ (k : Contents C). ViewsRow contents is_under (origin_of k) k.journal row v) same
      (record {
        which = ap (λ (w : RowSight C). w.row) shown;
        from = ap (λ (w : RowSight C). w.from) shown;
        shown = given;
        caches = λ u. subst (λ (w : RowSight C). CacheSuits contents is_under h.parameters (kept_at w.bundles u)) (sym shown) (is.caches row u);
      })
  viewed h old row (Err e) same is shown given = tt
