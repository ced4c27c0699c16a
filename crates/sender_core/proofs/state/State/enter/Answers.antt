use Rattle.std.proofs.Common.{refl}
use Rattle.std.specs.FinMap as fin
use Rattle.psi_bundle.specs.declared.history.Call.TheVariants as Call
use Rattle.sender_core.specs.Kept.{version_of}
use Rattle.sender_core.specs.States.{contents_of}
use Rattle.sender_core.proofs.TagMaps.{one_given}
use Rattle.sender_core.proofs.Entering.{entered-after}
use Rattle.sender_core.proofs.state.State.enter.Goals as goal

pub returns-clause-entered : goal.returns-clause-entered
returns-clause-entered g c =
    let old = contents_of c.args.self.now in
    let given = one_given c.args.self.now.labels.entries c.insert.new.self.entries c.args.tag c.args.label (λ q. c.in_default.ensures.updates.0 q) in
    entered-after old (contents_of c.write.new.self) (record old { labels = c.insert.new.self.entries }) _ (fin.insert (version_of old).labels c.args.tag c.args.label) old.rows
    (record { call = Call.Put c.args.tag c.args.label; answer = c.args.answer }) refl refl refl given c.write.ensures
