use Rattle.std.proofs.Common.{List, ℕ, ◌++◌, ap, ◌∙◌}
use Rattle.psi_demo.specs.Items.{asked_tags, item_tag, run}
use Rattle.psi_demo.proofs.items.asked_tags.Goals as goal

pub returns : goal.returns
unfolding asked_tags
returns c =
    let stable = run (item_tag c.args.number) 0 8 38 in
    let others = run (item_tag c.args.number) 100000 1 22 in
    c.in_ok-push_tags-2.ensures
    ∙ ap (λ (t : List (List ℕ)). t ++ others) (c.in_ok-push_tags.ensures ∙ ap (λ (t : List (List ℕ)). t ++ stable) c.new-tags.ensures.items)
