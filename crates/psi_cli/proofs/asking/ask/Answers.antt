use Rattle.std.proofs.Common.{◌≡◌, ℕ, Vec, Global, map, ap, ◌∙◌}
use Rattle.item_slots.specs.Tags.{tag_of}
use Rattle.noise_ledger.specs.Verdicts.{parameters_of}
use Rattle.psi_cli.specs.Texts.{crowded_text}
use Rattle.psi_receiver.proofs.Encryptions.{query-size}
use Rattle.psi_cli.proofs.Made.{crowd_made, frame_made, tags_shown}
use Rattle.psi_cli.proofs.asking.ask.Goals as goal

pub query_frame-requires-clause-sized : goal.query_frame-requires-clause-sized
query_frame-requires-clause-sized g c = query-size (parameters_of c.args.params.now) c.args.seed.now c.deref.result.now c.in-Ok.query.items c.in-Ok.ensures.query

pub returns-in-Ok : goal.returns-in-Ok
returns-in-Ok g c =
    let items = map (λ item. item.items) c.args.items.now in
    let tags : c.deref.result.now ≡ map tag_of items = c.deref.ensures.value ∙ c.in_ok-tags.ensures ∙ tags_shown (λ item. item.items) c.args.items.now in
    frame_made (parameters_of c.args.params.now) c.args.seed.now c.args.address.session c.args.address.number items c.deref.result.now c.in-Ok.query.items c.in_ok-query_frame-in-Ok.field-0.items
    tags c.in-Ok.ensures.query c.in_ok-query_frame-in-Ok.ensures

pub returns-in-Err-Crowded : goal.returns-in-Err-Crowded
returns-in-Err-Crowded g c =
    let items = map (λ item. item.items) c.args.items.now in
    let tags : c.deref.result.now ≡ map tag_of items = c.deref.ensures.value ∙ c.in_ok-tags.ensures ∙ tags_shown (λ item. item.items) c.args.items.now in
    let fault = rw c.in-Err-Crowded.field-0-is at c.in-Err-Crowded.ensures.fault in
    crowd_made c.args.params.now.rows items c.deref.result.now c.in-Err-Crowded.crowded.items c.into_bytes.result.items tags fault.1
    (ap (λ (v : Vec ℕ Global). v.items) c.into_bytes.ensures.value ∙ c.in_ok-crowded_text-in-Err-Crowded.ensures ∙ ap (crowded_text items) c.deref-in-Err-Crowded.ensures.value ∙ ap (λ (v : Vec ℕ Global). crowded_text items v.items) c.in-Err-Crowded.crowded-is)
