use Rattle.std.proofs.Common.{◌∷◌, ◌++◌, [], map, take, string_bytes, ap, ◌∙◌}
use Rattle.std.proofs.lemmas.List.{get_or_default}
use Rattle.psi_receiver.specs.declared.found.Found.{Found}
use Rattle.psi_cli.specs.Texts.{found_text, shown_bytes}
use Rattle.psi_cli.proofs.TextLines.{found-more, one_more-taken}
use Rattle.psi_cli.proofs.texts.found_text.Goals as goal

pub loop-one-preserved : goal.loop-one-preserved
loop-one-preserved c =
    let items = map (λ item. item.items) c.args.items.now in
    let one = c.one-item.result in
    found-more items (string_bytes c.loop-one.text) (string_bytes c.push_found.new.text) c.as_str.result.now c.as_str-in-loop-one.result.now (take c.loop-one.one-index c.args.found.now) one c.loop-one.invariant
    (c.as_str.ensures.value ∙ c.in_ok-item.ensures) (c.as_str-in-loop-one.ensures.value ∙ c.in_ok-label.ensures ∙ ap shown_bytes c.bytes.ensures) c.in_ok-push_found.ensures
    ∙ ap (λ (x : Found). found_text items (take c.loop-one.one-index c.args.found.now ++ x ∷ [])) (c.one-item.is ∙ get_or_default c.args.found.now c.loop-one.one-index one one c.loop-one-test.true)
    ∙ ap (found_text items) (one_more-taken c.args.found.now c.loop-one.one-index one c.loop-one-test.true)
