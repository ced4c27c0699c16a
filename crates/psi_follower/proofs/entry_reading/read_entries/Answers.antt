use Rattle.std.proofs.Common.{◌≡◌, ◌∙◌, ◌++◌, ◌∷◌, [], ap, refl, sym, subst, drop, length, List, ℕ, arith, length-drop}
use Rattle.std.specs.List.{All}
use Rattle.noise_ledger.specs.Verdicts.{parameters_of}
use Rattle.psi_follower.specs.declared.entry_bytes.Fed.{Fed}
use Rattle.psi_follower.specs.EntryBytes.{IsReadable, list_bytes}
use Rattle.psi_follower.specs.Inner.EntryFronts.{is_entry_front, front_entry, entry_size}
use Rattle.psi_follower.proofs.EntryLists.{list-more, all-more, breaks}
use Rattle.psi_follower.proofs.entry_reading.read_entries.Goals as goal

pub returns-in_default-clause-fault : goal.returns-in_default-clause-fault
returns-in_default-clause-fault c =
    let p = parameters_of c.args.params.now in
    let bytes = c.args.bytes.now in
    breaks p bytes (λ i. omega (arith, c.type_inv.bytes i)) c.loop-at.feds.items c.loop-at.at c.loop-at.invariant.0 c.loop-at.invariant.1 c.loop-at.invariant.2 c.loop-at-test.true
    (ap (is_entry_front p) (sym c.from.ensures) ∙ c.in_default.ensures.none refl)

pub loop-at-preserved : goal.loop-at-preserved
loop-at-preserved c =
    let p = parameters_of c.args.params.now in
    let bytes = c.args.bytes.now in
    let front = ap (is_entry_front p) (sym c.from.ensures) ∙ c.in-Some.ensures.front in
    let fed = c.in-Some.ensures.entry ∙ ap (front_entry p) c.from.ensures in
    let size = c.in-Some.ensures.size ∙ ap (entry_size p) c.from.ensures in (
      ap list_bytes c.in-Ok.ensures.items ∙ list-more p bytes (λ i. omega (arith, c.type_inv.bytes i)) c.loop-at.feds.items c.loop-at.at c.loop-at.invariant.0 c.loop-at.invariant.1 c.loop-at.invariant.2 c.in-Some.fed c.in-Some.size front fed size,
      subst (All (IsReadable p)) (sym c.in-Ok.ensures.items)
          (all-more p bytes (λ i. omega (arith, c.type_inv.bytes i)) c.loop-at.feds.items c.loop-at.at c.loop-at.invariant.0 c.loop-at.invariant.1 c.loop-at.invariant.2 c.in-Some.fed c.in-Some.size front fed size),
      omega (arith, c.in-Some.ensures.within, ap length c.from.ensures, length-drop c.loop-at.at bytes, c.loop-at.invariant.2),
    )
