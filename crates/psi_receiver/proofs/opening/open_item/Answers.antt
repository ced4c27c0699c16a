use Rattle.std.proofs.Common.{◌≡◌, ◌+◌, ◌/◌, ◌%◌, ◌++◌, ◌∷◌, [], ℕ, ◌-◌, length, drop, get_or, take, ap, sym, ◌∙◌, arith}
use Rattle.std.specs.List.{sum}
use Rattle.std.proofs.lemmas.List.{get_or_default}
use Rattle.noise_ledger.specs.Verdicts.{parameters_of}
use Rattle.query_codec.proofs.QueryBodies.{all_behind}
use Rattle.psi_receiver.specs.Openings.{OpenedReply, opens_in, opened_label}
use Rattle.psi_receiver.proofs.Opened.{bundle-last, planes-within, opens-told, label-told}
use Rattle.psi_receiver.proofs.Steps.{opened_below, opened_below-none, opened_below-yes, opened_below-no, opened_below-all}
use Rattle.psi_receiver.proofs.opening.open_item.Goals as goal
use Rattle.psi_receiver.proofs.opening.open_item.Goals.{then-is_zero+in_ok-label+in_ok-push, else-is_zero}

pub loop-bundle-init : goal.loop-bundle-init
loop-bundle-init c =
    c.new-found.ensures.items
    ∙ sym (opened_below-none (record { parameters = parameters_of c.args.params.now; counts = c.args.counts.now; planes = c.args.planes.now }) c.args.x.now)

pub planes_of_bundle-own-requires : goal.planes_of_bundle-own-requires
planes_of_bundle-own-requires c =
    let number : c.bundles_before-first.result + c.from.result ≡ sum (take (c.args.x.now.position / 819) c.args.counts.now) + c.loop-bundle.bundle =
    λ i. (c.bundles_before-first.ensures.sum ∙ ap (λ (q : ℕ). sum (take (q / 819) c.args.counts.now)) c.from-row.ensures) i + c.from.ensures i in
    let count : get_or c.args.counts.now (c.from-row.result / 819) 0 ≡ get_or c.args.counts.now (c.args.x.now.position / 819) 0 = ap (λ (q : ℕ). get_or c.args.counts.now (q / 819) 0) c.from-row.ensures in
    let last = bundle-last c.args.counts.now c.args.x.now.position c.loop-bundle.bundle (c.bundles_before-first.result + c.from.result) c.requires.within (omega (arith, count)) number in
    record { within = planes-within c.args.counts.now c.args.planes.now (c.bundles_before-first.result + c.from.result) c.args.params.now.units last c.requires.whole }

pub loop-bundle-preserved : goal.loop-bundle-preserved
loop-bundle-preserved c =
    let reply : OpenedReply = record { parameters = parameters_of c.args.params.now; counts = c.args.counts.now; planes = c.args.planes.now } in
    let number : c.bundles_before-first.result + c.from.result ≡ sum (take (c.args.x.now.position / 819) c.args.counts.now) + c.loop-bundle.bundle =
    λ i. (c.bundles_before-first.ensures.sum ∙ ap (λ (q : ℕ). sum (take (q / 819) c.args.counts.now)) c.from-row.ensures) i + c.from.ensures i in
    let own = c.planes_of_bundle-own.result.now in
    let bin_is = ap (λ (q : ℕ). q % 819) c.from-bin.ensures in
    let root = c.index-own-0.is ∙ get_or_default own 0 c.index-own-0.result [] (omega (arith, c.planes_of_bundle-own.ensures.number)) in
    let told : opens_in reply c.args.x.now.position c.loop-bundle.bundle ≡ c.is_zero.result =
    opens-told reply c.args.x.now.position c.loop-bundle.bundle own c.index-own-0.result (c.bundles_before-first.result + c.from.result) (c.from-bin.result % 819) c.is_zero.result
    number c.planes_of_bundle-own.ensures.planes root bin_is c.is_zero.ensures in
    elim c.if-is_zero.branch [
      | then-is_zero+in_ok-label+in_ok-push w ↦
          let units = take (length own - 1) (drop 1 own) in
          let label_is : w.in_ok-label.field-0 ≡ opened_label reply c.args.x.now.position c.loop-bundle.bundle =
          label-told reply c.args.x.now.position c.loop-bundle.bundle own units (c.bundles_before-first.result + c.from.result) (c.from-bin.result % 819) w.in_ok-label.field-0
          number c.planes_of_bundle-own.ensures.planes c.planes_of_bundle-own.ensures.number (all_behind 1 own) bin_is w.in_ok-label.ensures in
          ap (λ v. v.items) w.found-is
          ∙ w.in_ok-push.ensures.items
          ∙ (λ i. c.loop-bundle.invariant i ++ record { item = c.args.x.now.item; bundle = c.loop-bundle.bundle; label = label_is i } ∷ [])
          ∙ sym (opened_below-yes reply c.args.x.now c.loop-bundle.bundle (told ∙ w.if-is_zero.true))
      | else-is_zero w ↦
          ap (λ v. v.items) w.found-is
          ∙ c.loop-bundle.invariant
          ∙ sym (opened_below-no reply c.args.x.now c.loop-bundle.bundle (told ∙ w.if-is_zero.false))
    ]

pub returns : goal.returns
returns c =
    let reply : OpenedReply = record { parameters = parameters_of c.args.params.now; counts = c.args.counts.now; planes = c.args.planes.now } in
    let count : get_or c.args.counts.now (c.from-row.result / 819) 0 ≡ get_or c.args.counts.now (c.args.x.now.position / 819) 0 = ap (λ (q : ℕ). get_or c.args.counts.now (q / 819) 0) c.from-row.ensures in
    let all : c.loop-bundle.bundle ≡ get_or c.args.counts.now (c.args.x.now.position / 819) 0 = omega (arith, count) in
    c.loop-bundle.invariant
    ∙ ap (λ (n : ℕ). opened_below reply c.args.x.now n) all
    ∙ opened_below-all reply c.args.x.now
