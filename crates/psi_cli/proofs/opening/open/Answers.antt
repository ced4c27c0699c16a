use Rattle.std.proofs.Common.{◌≡◌, ℕ, Vec, Global, map, ap, ◌∙◌}
use Rattle.item_slots.specs.Tags.{tag_of}
use Rattle.noise_ledger.specs.Verdicts.{parameters_of}
use Rattle.psi_cli.specs.Texts.{crowded_text, found_text}
use Rattle.psi_cli.proofs.Made.{body_refused, crowd_made, found_made, tags_shown}
use Rattle.psi_cli.proofs.opening.open.Goals as goal

pub returns-in-Ok-clause-made : goal.returns-in-Ok-clause-made
returns-in-Ok-clause-made g c =
    let items = map (λ item. item.items) c.args.items.now in
    let tags : c.deref.result.now ≡ map tag_of items = c.deref.ensures.value ∙ c.in_ok-tags.ensures ∙ tags_shown (λ item. item.items) c.args.items.now in
    found_made (parameters_of c.args.params.now) c.args.seed.now items c.deref.result.now c.args.body.now c.into_bytes.result.items c.in-Ok.found.items tags c.in-Ok.ensures.opened c.in-Ok.ensures.reply
    (ap (λ (v : Vec ℕ Global). v.items) c.into_bytes.ensures.value ∙ c.in_ok-found_text-in-Ok.ensures ∙ ap (found_text items) c.deref-in-Ok.ensures.value)

pub returns-in-Err-Crowded-clause-made : goal.returns-in-Err-Crowded-clause-made
returns-in-Err-Crowded-clause-made g c =
    let items = map (λ item. item.items) c.args.items.now in
    let tags : c.deref.result.now ≡ map tag_of items = c.deref.ensures.value ∙ c.in_ok-tags.ensures ∙ tags_shown (λ item. item.items) c.args.items.now in
    let fault = rw c.in-Err-Crowded.field-0-is at c.in-Err-Crowded.ensures.fault in
    crowd_made c.args.params.now.rows items c.deref.result.now c.in-Err-Crowded.crowded.items c.into_bytes-in-Err-Crowded.result.items tags fault.1
    (ap (λ (v : Vec ℕ Global). v.items) c.into_bytes-in-Err-Crowded.ensures.value ∙ c.in_ok-crowded_text-in-Err-Crowded.ensures ∙ ap (crowded_text items) c.deref-in-Err-Crowded.ensures.value ∙ ap (λ (v : Vec ℕ Global). crowded_text items v.items) c.in-Err-Crowded.crowded-is)

pub returns-in-Err-Codec-clause-fault : goal.returns-in-Err-Codec-clause-fault
returns-in-Err-Codec-clause-fault g c =
    let items = map (λ item. item.items) c.args.items.now in
    let tags : c.deref.result.now ≡ map tag_of items = c.deref.ensures.value ∙ c.in_ok-tags.ensures ∙ tags_shown (λ item. item.items) c.args.items.now in
    let fault = rw c.in-Err-Codec.field-0-is at c.in-Err-Codec.ensures.fault in
    body_refused (parameters_of c.args.params.now) items c.deref.result.now c.args.body.now c.in-Err-Codec.field-0-0 tags fault.1 fault.2
