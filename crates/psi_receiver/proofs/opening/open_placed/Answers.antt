use Rattle.std.proofs.Common.{◌≡◌, map, ◌∙◌}
use Rattle.std.specs.Result.{IfOk}
use Rattle.std.proofs.lemmas.Result.{IfOk-weaker}
use Rattle.rayon.proofs.ToStd.{slice-AllZip}
use Rattle.noise_ledger.specs.Verdicts.{parameters_of}
use Rattle.psi_receiver.specs.Openings.{OpenedReply, opened_item}
use Rattle.psi_receiver.proofs.Planes.{lists-joined}
use Rattle.psi_receiver.proofs.Writes.{all-shown}
use Rattle.psi_receiver.proofs.opening.open_placed.Goals as goal

pub returns : goal.returns
returns g c =
    let reply : OpenedReply = record { parameters = parameters_of c.args.params.now; counts = c.args.counts.now; planes = c.args.planes.now } in
    let placed = c.args.placed.now in
    let done = c.in_ok-collect.ensures in
    let chain = rw (c.map.ensures.base, c.map.ensures.f) at done.1 in
    let made = rw c.in_ok-lists.was at done.2 in
    let each = slice-AllZip chain.0 placed (chain.1 ∙ c.par_iter.ensures) (λ x r. IfOk r (λ found. found.items ≡ opened_item reply x)) done.0 chain.2 in
    let lists = (λ i. map (λ list. list.items) (made.2 i)) ∙ all-shown (opened_item reply) (λ list. list.items) placed done.0 made.0 each made.1 in
    IfOk-weaker c.join.result _ _ (λ found e. e ∙ lists-joined (λ list. list.items) reply placed c.in_ok-lists.lists.items lists) c.join.ensures
