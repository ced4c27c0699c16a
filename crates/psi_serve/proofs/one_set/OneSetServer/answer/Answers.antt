use Rattle.std.proofs.Common.{◌≡◌, ◌∙◌, List, Option, ap, sym, subst, refl, arith, IfSome, length}
use Rattle.std.specs.List.{All}
use Rattle.std.proofs.lemmas.List.{length-map}
use Rattle.noise_ledger.specs.Verdicts.{parameters_of}
use Rattle.psi_frames.specs.declared.frame.Frame.{Frame}
use Rattle.psi_frames.specs.Frames.{IsFrame, request_table}
use Rattle.psi_frames.specs.Requests.{requests_from}
use Rattle.psi_frames.specs.Texts.{address_of}
use Rattle.psi_frames.proofs.RoundRequests.{round-few}
use Rattle.psi_serve.proofs.OneRound.{answers-frames, kind-stays, old-under, own-stays, text-addressed}
use Rattle.psi_serve.proofs.OneSets.{round-of}
use Rattle.psi_serve.proofs.one_set.OneSetServer.answer.Goals as goal

pub requests_of_round-requires-clause-each : goal.requests_of_round-requires-clause-each
requests_of_round-requires-clause-each g c =
    let ready = c.requires.round in
    subst (λ (fs : List Frame). All (IsFrame request_table) fs) (sym (c.take-frames.ensures.frames ∙ ready.state.0)) ready.each

pub requests_of_round-requires-clause-few : goal.requests_of_round-requires-clause-few
requests_of_round-requires-clause-few g c =
    let ready = c.requires.round in
    let few = round-few ready.waiting (round-of _ _ ready.waiting ready.is_round) in
    let same = ap length (c.take-frames.ensures.frames ∙ ready.state.0) in
    omega (arith, few, same)

pub text_of-requires-clause-fits : goal.text_of-requires-clause-fits
text_of-requires-clause-fits g c = rw c.deref-3.ensures.value c.in_ok-replies.ensures.told.has.fits

pub text_of-requires-clause-one_each : goal.text_of-requires-clause-one_each
text_of-requires-clause-one_each g c =
    let each = c.in_ok-replies.ensures.told.has.one_each in
    let all = ap length c.in_ok-addresses.ensures ∙ length-map c.deref.result.now address_of ∙ ap length c.deref.ensures.value in
    let lent = ap length c.deref-2.ensures.value in
    let replies = ap length c.deref-3.ensures.value in
    omega (arith, each, all, lent, replies)

pub returns-clause-answers : goal.returns-clause-answers
returns-clause-answers g c =
    let p = parameters_of c.args.params.now in
    let requests = c.in_ok-requests.requests.items in
    let replies = c.in_ok-replies.replies.items in
    let told = c.in_ok-replies.ensures.told in
    let are = c.in_ok-requests.ensures.requests ∙ ap (λ (fs : List Frame). requests_from p 0 fs) c.take-frames.ensures.frames in
    let text = text-addressed c.in_ok-text.text.items requests c.deref.result.now c.in_ok-addresses.addresses.items c.deref-2.result.now replies c.deref-3.result.now
    c.in_ok-text.ensures c.deref-2.ensures.value c.deref-3.ensures.value c.in_ok-addresses.ensures c.deref.ensures.value in
    answers-frames p c.args.self.now.alone told.old told.new c.args.self.now.waiting requests replies (old-under p _ told.old told.was c.requires.under.2) are told.has _ _ told.was told.is
    c.replies_to.new.self.alone c.replies_to.ensures.alone c.args.self.now.waiting c.replies_to.new.self.waiting refl (c.replies_to.ensures.waiting ∙ c.take-frames.ensures.none_left) c.in_ok-text.text.items _ text (omega (arith, c.len.ensures, c.in_ok-replies.replies.ok.0))

pub returns-clause-under : goal.returns-clause-under
returns-clause-under g c =
    let p = parameters_of c.args.params.now in
    let told = c.in_ok-replies.ensures.told in
    let are = c.in_ok-requests.ensures.requests ∙ ap (λ (fs : List Frame). requests_from p 0 fs) c.take-frames.ensures.frames in
    rw (c.replies_to.ensures.round, c.replies_to.ensures.alone) (
      c.requires.under.0,
      c.requires.under.1,
      own-stays p c.args.self.now.alone told.old told.new c.args.self.now.waiting c.in_ok-requests.requests.items c.in_ok-replies.replies.items (old-under p _ told.old told.was c.requires.under.2) are told.has _ _ told.was told.is,
    )

pub returns-clause-kind : goal.returns-clause-kind
returns-clause-kind g c =
    let p = parameters_of c.args.params.now in
    let told = c.in_ok-replies.ensures.told in
    let are = c.in_ok-requests.ensures.requests ∙ ap (λ (fs : List Frame). requests_from p 0 fs) c.take-frames.ensures.frames in
    kind-stays p c.args.self.now.alone told.old told.new c.args.self.now.waiting c.in_ok-requests.requests.items c.in_ok-replies.replies.items (old-under p _ told.old told.was c.requires.under.2) are told.has _ _ told.was told.is c.replies_to.new.self.alone c.replies_to.ensures.alone
