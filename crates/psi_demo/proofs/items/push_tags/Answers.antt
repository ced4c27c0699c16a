use Rattle.psi_demo.specs.Items.{item_tag}
use Rattle.psi_demo.proofs.Made.{pushed}
use Rattle.psi_demo.proofs.items.push_tags.Goals as goal

pub loop-k-preserved : goal.loop-k-preserved
loop-k-preserved c =
    pushed c.args.tags.now.items c.loop-k.tags.items c.push_tag.new.tags.items (item_tag c.args.number) c.args.first c.args.step c.loop-k.k c.loop-k.invariant c.in_ok-push_tag.ensures
