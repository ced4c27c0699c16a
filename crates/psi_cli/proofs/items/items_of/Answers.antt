use Rattle.std.proofs.Common.{◌≡◌, true, false, map, refl, sym, ap, ◌∙◌, arith}
use Rattle.std.specs.BTreeMap.{is_at}
use Rattle.std.specs.BTreeSet.{contains}
use Rattle.std.specs.List.{list_any}
use Rattle.psi_cli.proofs.Repeats.{has, with_one}
use Rattle.psi_cli.proofs.SoFar.{compared, so_far-none, so_far-more, so_far-all, flipped, one_more}
use Rattle.psi_cli.proofs.items.items_of.Goals as goal

pub loop-rest-init : goal.loop-rest-init
loop-rest-init c =
    rw c.new-items.ensures.items (so_far-none c.args.text.now c.new-seen.result (λ q. ap (list_any (is_at (compared q))) c.new-seen.ensures.empty))

-- the line is there already
pub loop-rest-preserved : goal.loop-rest-preserved
loop-rest-preserved c =
    let items = map (λ item. item.items) c.loop-rest.items.items in
    let line = c.first_line.result.0 in
    let there : has items line.now ≡ true =
    sym (c.loop-rest.invariant.known line) ∙ flipped false (contains compared c.loop-rest.seen line) (sym c.in_ok-insert.ensures.added ∙ c.if-branch.false) in
    so_far-more c.args.text.now c.loop-rest.rest.now c.first_line.result.1.now line.now items items c.loop-rest.seen c.insert.new.self line c.loop-rest.invariant
    c.first_line.ensures.lines c.first_line.ensures.shorter refl (sym (ap (with_one items line.now) there)) (omega arith) c.in_ok-insert.ensures.updates

-- the line is a new item
pub loop-rest-preserved-in_ok-add : goal.loop-rest-preserved-in_ok-add
loop-rest-preserved-in_ok-add c =
    let items = map (λ item. item.items) c.loop-rest.items.items in
    let next = map (λ item. item.items) c.add.new.items.items in
    let line = c.first_line.result.0 in
    let missing : has items line.now ≡ false =
    sym (c.loop-rest.invariant.known line) ∙ flipped true (contains compared c.loop-rest.seen line) (sym c.in_ok-insert.ensures.added ∙ c.if-branch.true) in
    so_far-more c.args.text.now c.loop-rest.rest.now c.first_line.result.1.now line.now items next c.loop-rest.seen c.insert.new.self line c.loop-rest.invariant
    c.first_line.ensures.lines c.first_line.ensures.shorter refl (c.in_ok-add.ensures.added ∙ sym (ap (with_one items line.now) missing)) (one_more items line.now next c.in_ok-add.ensures.added) c.in_ok-insert.ensures.updates

pub returns-clause-items : goal.returns-clause-items
returns-clause-items c = so_far-all c.args.text.now c.loop-rest.rest.now (map (λ item. item.items) c.loop-rest.items.items) c.loop-rest.seen c.loop-rest.invariant (sym c.is_empty.ensures ∙ c.loop-rest-test.false)
