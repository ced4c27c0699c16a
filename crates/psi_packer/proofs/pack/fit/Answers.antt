use Rattle.std.proofs.Common.{◌∙◌, sym, ap, List}
use Rattle.std.specs.List.{position_from}
use Rattle.psi_bundle.specs.declared.member.Member.{Member}
use Rattle.psi_bundle.specs.Bins.{accepts, bin_at}
use Rattle.psi_packer.proofs.Fitting.{found-accepts, fits-at, fits-none}
use Rattle.psi_packer.proofs.pack.fit.Goals as goal

pub add-requires-clause-accepted : goal.add-requires-clause-accepted
add-requires-clause-accepted c =
    let test = λ (u : List (List Member)). accepts c.args.capacity (bin_at u c.args.bin) c.args.member.now.tag in
    let m : Member = record { tag = c.args.member.now.tag; label = c.args.member.now.label } in
    found-accepts c.args.capacity c.args.bin m c.args.packed.now.items c.in-Some.i c.index.result.now (ap (position_from test 0) (sym c.deref.ensures.value) ∙ sym c.in-Some.ensures.first) c.index.ensures

pub returns-in_ok-bundle-in-Some : goal.returns-in_ok-bundle-in-Some
returns-in_ok-bundle-in-Some c =
    let test = λ (u : List (List Member)). accepts c.args.capacity (bin_at u c.args.bin) c.args.member.now.tag in
    let m : Member = record { tag = c.args.member.now.tag; label = c.args.member.now.label } in
    fits-at c.args.capacity c.args.bin m c.args.packed.now.items c.in-Some.i c.index.result.now c.in_ok-bundle-in-Some.bundle
    (ap (position_from test 0) (sym c.deref.ensures.value) ∙ sym c.in-Some.ensures.first) c.index.ensures c.in_ok-bundle-in-Some.ensures

pub returns-in_ok-push-in-None : goal.returns-in_ok-push-in-None
returns-in_ok-push-in-None c =
    let test = λ (u : List (List Member)). accepts c.args.capacity (bin_at u c.args.bin) c.args.member.now.tag in
    let m : Member = record { tag = c.args.member.now.tag; label = c.args.member.now.label } in
    fits-none c.args.capacity c.args.bin m c.args.packed.now.items c.in_ok-bundle-in-None.bundle c.push.new.self.items
    (ap (position_from test 0) (sym c.deref.ensures.value) ∙ sym c.in-None.ensures.first) c.in_ok-bundle-in-None.ensures c.in_ok-push-in-None.ensures.items
