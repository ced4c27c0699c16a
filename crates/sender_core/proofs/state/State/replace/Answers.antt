use Rattle.std.proofs.Common.{◌∙◌, ap, refl, length, List}
use Rattle.std.specs.FinMap as fin
use Rattle.psi_bundle.specs.declared.history.Entry.{Entry}
use Rattle.psi_bundle.specs.declared.history.Call.TheVariants as Call
use Rattle.psi_bundle.specs.declared.history.Answer.TheVariants.{Replaced}
use Rattle.sender_core.specs.Kept.{version_of}
use Rattle.sender_core.specs.States.{contents_of}
use Rattle.sender_core.specs.Shown.{kept_of_rows}
use Rattle.sender_core.proofs.Entering.{entered-after, replaced-by}
use Rattle.sender_core.proofs.state.State.replace.Goals as goal

pub returns-clause-stepped : goal.returns-clause-stepped
returns-clause-stepped g c =
    let old = contents_of c.args.self.now in
    let new = contents_of c.enter.new.self in
    let rows = kept_of_rows c.change_member.new.rows.items in
    let labels = fin.insert (version_of old).labels c.args.tag c.args.label in
    let e : Entry = record { call = Call.Put c.args.tag c.args.label; answer = Replaced } in
    let entered = entered-after old new (contents_of (record c.args.self.now { rows = c.change_member.new.rows; journal = c.reserve.new.self })) labels labels rows e refl refl c.reserve.ensures.items refl c.in_ok-enter.ensures.entered in
    replaced-by old new c.count.result old.rows rows c.list.result.now c.args.tag (c.count.ensures ∙ ap (λ (es : List Entry). length es) c.reserve.ensures.items) refl (c.list.ensures.listed ∙ c.positions-places.ensures.listed)
    c.in_ok-log.ensures.caches c.args.label c.requires.present c.in_ok-log.ensures.made entered
