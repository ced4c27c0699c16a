use Rattle.std.proofs.Common.{◌∙◌, ap, sym, List}
use Rattle.std.specs.List.{fold}
use Rattle.std.proofs.Math.ListN.{drop_of_length-le}
use Rattle.psi_bundle.specs.declared.cached.Shown.{Shown}
use Rattle.psi_bundle.specs.Versions.{members_of_row}
use Rattle.psi_bundle.specs.Shows.{shown_row}
use Rattle.psi_packer.specs.Packing.{unstamped_row, fitted}
use Rattle.psi_packer.proofs.Fitting.{packed-are}
use Rattle.psi_packer.proofs.pack.pack_row.Goals as goal

pub returns : goal.returns
returns g c =
    let done = drop_of_length-le c.args.bundles.now {i = c.loop-shown.shown-index} c.loop-shown-test.false in
    packed-are c.args.capacity c.loop-shown.packed.items (shown_row c.args.bundles.now)
    (ap (λ (us : List (Shown g.row.C.Denot)). fold (fitted c.args.capacity) (unstamped_row c.loop-shown.packed.items) (members_of_row (shown_row us))) (sym done) ∙ c.loop-shown.invariant)
