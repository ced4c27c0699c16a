use Rattle.std.proofs.Common.{map, take, string_bytes, ap, ◌∙◌}
use Rattle.psi_cli.specs.Texts.{crowded_text}
use Rattle.psi_cli.proofs.TextLines.{crowded-more, one_more-taken}
use Rattle.psi_cli.proofs.texts.crowded_text.Goals as goal

pub loop-number-preserved : goal.loop-number-preserved
loop-number-preserved c =
    let items = map (λ item. item.items) c.args.items.now in
    crowded-more items (string_bytes c.loop-number.text) (string_bytes c.push_crowded.new.text) c.as_str.result.now (take c.loop-number.number-index c.args.numbers.now) _ c.loop-number.invariant
    (c.as_str.ensures.value ∙ c.in_ok-item.ensures) c.in_ok-push_crowded.ensures ∙ ap (crowded_text items) (one_more-taken c.args.numbers.now c.loop-number.number-index 0 c.loop-number-test.true)
