use Rattle.std.proofs.Common.{◌<◌, ◌/◌, ◌%◌, ◌∙◌, [], sym, ap, length, arith}
use Rattle.std.specs.List.{position_from}
use Rattle.std.specs.Arc.{arc_value}
use Rattle.std.proofs.lemmas.Result.{on_ok_weaker}
use Rattle.psi_bundle.specs.declared.cached.Shown.{Shown}
use Rattle.psi_bundle.specs.declared.member.Member.{Member}
use Rattle.psi_bundle.specs.Bins.{accepts, bin_at}
use Rattle.sender_core.specs.Shown.{kept_of_rows}
use Rattle.sender_core.proofs.RowLists.{found-accepts, placed-found, placed-none}
use Rattle.sender_core.proofs.rows.place_at.Goals as goal

pub add-requires-clause-accepted : goal.add-requires-clause-accepted
add-requires-clause-accepted g c =
    let v = c.index-bundles.result.now in
    let m : Member = record { tag = c.args.member.now.tag; label = c.args.member.now.label } in
    let test = λ (u : Shown g.row.C.Denot). accepts c.args.capacity (bin_at (arc_value u.bundle) (c.args.p % 819)) m.tag in
    found-accepts c.args.capacity c.args.stamp (c.args.p % 819) m v.items c.in-Some.index c.index.result.now c.deref-in-Some.result.now
    (ap (position_from test 0) (sym c.deref.ensures.value) ∙ sym c.in-Some.ensures.first) c.index.ensures c.deref-in-Some.ensures

pub returns-in_ok-shown-in-Some-clause-fitted : goal.returns-in_ok-shown-in-Some-clause-fitted
returns-in_ok-shown-in-Some-clause-fitted g c =
    let items = c.args.rows.now.items in
    let m : Member = record { tag = c.args.member.now.tag; label = c.args.member.now.label } in
    let within : c.args.p / 819 < length items = omega (arith, c.requires.within) in
    on_ok_weaker c.replace.result
    (λ is. (placed-found c.args.capacity c.args.stamp c.args.p m items c.index-bundles.result.now within c.index-bundles.ensures c.deref.result.now c.deref.ensures.value
    c.in_ok-shown-in-Some.shown c.deref-in-Some.result.now c.in_ok-bundle-in-Some.bundle c.in_ok-shown-in-Some.ensures c.in-Some.index c.index.result.now
    (sym c.in-Some.ensures.first) c.index.ensures c.deref-in-Some.ensures c.in_ok-bundle-in-Some.ensures (kept_of_rows c.replace.new.rows.items) is).0) c.replace.ensures.replaced

pub returns-in_ok-shown-in-Some-clause-caches : goal.returns-in_ok-shown-in-Some-clause-caches
returns-in_ok-shown-in-Some-clause-caches g c =
    let items = c.args.rows.now.items in
    let m : Member = record { tag = c.args.member.now.tag; label = c.args.member.now.label } in
    let within : c.args.p / 819 < length items = omega (arith, c.requires.within) in
    on_ok_weaker c.replace.result
    (λ is. (placed-found c.args.capacity c.args.stamp c.args.p m items c.index-bundles.result.now within c.index-bundles.ensures c.deref.result.now c.deref.ensures.value
    c.in_ok-shown-in-Some.shown c.deref-in-Some.result.now c.in_ok-bundle-in-Some.bundle c.in_ok-shown-in-Some.ensures c.in-Some.index c.index.result.now
    (sym c.in-Some.ensures.first) c.index.ensures c.deref-in-Some.ensures c.in_ok-bundle-in-Some.ensures (kept_of_rows c.replace.new.rows.items) is).1) c.replace.ensures.replaced

pub returns-in_ok-shown-in-None-clause-fitted : goal.returns-in_ok-shown-in-None-clause-fitted
returns-in_ok-shown-in-None-clause-fitted g c =
    let items = c.args.rows.now.items in
    let m : Member = record { tag = c.args.member.now.tag; label = c.args.member.now.label } in
    let within : c.args.p / 819 < length items = omega (arith, c.requires.within) in
    on_ok_weaker c.append.result
    (λ is. (placed-none c.args.capacity c.args.stamp c.args.p m items c.index-bundles.result.now within c.index-bundles.ensures c.deref.result.now c.deref.ensures.value
    c.in_ok-shown-in-None.shown [] c.in_ok-bundle-in-None.bundle c.in_ok-shown-in-None.ensures
    (sym c.in-None.ensures.first) c.in_ok-bundle-in-None.ensures (kept_of_rows c.append.new.rows.items) is).0) c.append.ensures.appended
