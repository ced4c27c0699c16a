use Rattle.std.proofs.Common.{true, false, map, sym, ap, ◌∙◌}
use Rattle.psi_cli.proofs.ShortItems.{item_text, no_item_text, tested}
use Rattle.psi_cli.proofs.reading.short_items.Goals as goal

pub returns-then-are_short-clause-text : goal.returns-then-are_short-clause-text
returns-then-are_short-clause-text c =
    item_text c.args.text.now c.requires.few
    (tested (λ item. item.items) c.deref.result.now c.args.text.now true (sym c.if-are_short.true ∙ c.are_short.ensures) (ap (map (λ item. item.items)) c.deref.ensures.value ∙ c.in_ok-items.ensures.items))

pub returns-else-are_short-clause-fault : goal.returns-else-are_short-clause-fault
returns-else-are_short-clause-fault c =
    no_item_text c.args.text.now
    (tested (λ item. item.items) c.deref.result.now c.args.text.now false (sym c.if-are_short.false ∙ c.are_short.ensures) (ap (map (λ item. item.items)) c.deref.ensures.value ∙ c.in_ok-items.ensures.items))
