use Rattle.std.proofs.Common.{rules, ◌≡◌, ◌++◌, ◌∷◌, List, sym, refl, subst}
use Rattle.std.specs.Prelude.{IsSome}
use Rattle.std.specs.List.{All}
use Rattle.std.specs.Global.{Vec}
use Rattle.std.specs.Vec.Iter.{into_iter_items}
use Rattle.std.proofs.lemmas.List.Elements.{All-head, All-push, All-tail}
use Rattle.noise_ledger.specs.Verdicts.{parameters_of}
use Rattle.psi_frames.specs.Requests.{IsFit}
use Rattle.query_pool.specs.declared.jobs.Work.{Work}
use Rattle.query_pool.specs.declared.jobs.Work.TheVariants as kinds
use Rattle.query_pool.specs.declared.lane.Numbered.{Numbered}
use Rattle.query_pool.specs.Dealing.{asked_lists}
use Rattle.query_pool.specs.Jobs.{IsWork, request_lists}
use Rattle.query_pool.specs.Lanes.{asked}
use Rattle.query_pool.proofs.Shares.{works-more}
use Rattle.query_pool.proofs.works.works_of_lanes.Goals as goal

pub loop-requests-preserved : goal.loop-requests-preserved
loop-requests-preserved c =
    let p = parameters_of c.args.params.now in
    let v = c.in-Some.requests in
    let left = into_iter_items c.loop-requests.requests-iterator in
    let rest = into_iter_items c.next.new.self in
    let all = asked_lists (into_iter_items c.into_iter-requests-iterator.result) in
    let works = c.loop-requests.works.items in
    let work : Work = kinds.Lane c.in_ok-scratch.scratch v in
    let next : left ≡ v ∷ rest = search rules in
    let fit = subst (λ (vs : List (Vec Numbered)). All (All (IsFit p)) (asked_lists vs)) next c.loop-requests.invariant.fit in
    let was = subst (λ (vs : List (Vec Numbered)). all ≡ request_lists works ++ asked_lists vs) next c.loop-requests.invariant.lists in
    let ready : IsWork p work = (record { under = c.in_ok-scratch.ensures.parameters; block = subst IsSome (sym c.in_ok-scratch.ensures.block) refl }, All-head (All (IsFit p)) (asked v.items) (asked_lists rest) fit) in
    record {
      lists = works-more all works c.push.new.self.items work v rest was refl c.in_ok-push.ensures.items;
      ready = subst (All (IsWork p)) (sym c.in_ok-push.ensures.items) (All-push (IsWork p) works work c.loop-requests.invariant.ready ready);
      fit = All-tail (All (IsFit p)) (asked v.items) (asked_lists rest) fit;
    }
