use Rattle.std.proofs.Common.{◌≡◌, ◌∙◌, ap, sym, refl, drop, ℕ, List}
use Rattle.noise_ledger.specs.Verdicts.{parameters_of}
use Rattle.psi_bundle.specs.declared.history.Answer.{Answer}
use Rattle.psi_bundle.specs.declared.history.Call.{Call}
use Rattle.psi_follower.specs.Inner.EntryFronts.{front_answer, front_call}
use Rattle.psi_follower.proofs.EntryLaws.{behind-told, entry-told}
use Rattle.psi_follower.proofs.entry_reading.read_entry.Goals as goal

pub returns-in_err-answer-clause-none : goal.returns-in_err-answer-clause-none
returns-in_err-answer-clause-none c _ =
    entry-told (parameters_of c.args.params.now) c.args.bytes.now c.read_u64-place.result c.read_u64-place.ensures c.front_call-call.result c.from-behind.result.now c.from.result.now c.call_size-size.result
    c.from-behind.ensures c.call_size-size.ensures c.from.ensures c.if-bytes-lt8.false c.if-place-ge-ENTRIES.false (sym c.is_call_front.ensures ∙ c.if-not-is_call_front.false) c.front_call-call.ensures.call
    ∙ c.in_err-answer.ensures.none refl

pub returns-clause-front : goal.returns-clause-front
returns-clause-front c =
    entry-told (parameters_of c.args.params.now) c.args.bytes.now c.read_u64-place.result c.read_u64-place.ensures c.front_call-call.result c.from-behind.result.now c.from.result.now c.call_size-size.result
    c.from-behind.ensures c.call_size-size.ensures c.from.ensures c.if-bytes-lt8.false c.if-place-ge-ENTRIES.false (sym c.is_call_front.ensures ∙ c.if-not-is_call_front.false) c.front_call-call.ensures.call
    ∙ c.in_ok-answer.ensures.front

pub returns-clause-entry : goal.returns-clause-entry
returns-clause-entry c =
    let p = parameters_of c.args.params.now in
    let behind = behind-told p c.args.bytes.now c.read_u64-place.result c.read_u64-place.ensures c.front_call-call.result c.from-behind.result.now c.from.result.now c.call_size-size.result
    c.from-behind.ensures c.call_size-size.ensures c.from.ensures in
    let call : c.front_call-call.result ≡ front_call p (drop 8 c.args.bytes.now) = c.front_call-call.ensures.call ∙ ap (front_call p) c.from-behind.ensures in
    let told = c.in_ok-answer.ensures.answer ∙ ap front_answer behind in
    λ i. record { place = c.read_u64-place.ensures i; entry = record { call = call i; answer = told i } }
