-- The demonstration: replies that serve its script, and what its run leaves.
use Rattle.std.proofs.Common.{◌≡◌, ℕ, nat_eq, List, [], ◌∷◌, ◌++◌, length, take, Option, None, Some, Result, Ok, Err, refl, sym, ap, ◌∙◌, subst, inl, inr, append-nil, arith}
use Rattle.std.specs.List.{All}
use Rattle.std.specs.Io.KnownBytes.{Appends}
use Rattle.std.specs.Option.{IfSome}
use Rattle.std.specs.Result.{IfErr, IfOk}
use Rattle.std.proofs.lemmas.Bool.{eq-eqb}
use Rattle.psi_outside.specs.Ends.{Ends, SinkTold}
use Rattle.psi_frames.specs.declared.frame.Frame.{Frame}
use Rattle.psi_frames.specs.Frames.{AreWholeFrames, IsFrame, IsSpellable, Table, frames_bytes, most_bytes, request_table}
use Rattle.psi_frames.specs.Served.{Sent, text_of}
use Rattle.psi_frames.proofs.FrameLaws.{length-frame_append, same_front}
use Rattle.query_pool.specs.declared.round.Served.{Served}
use Rattle.psi_bundle.specs.Versions.{empty_version}
use Rattle.psi_frames.proofs.OneFrames.{one_list}
use Rattle.psi_serve.specs.Serving.{AreRepliesTo, HasServed}
use Rattle.psi_serve.proofs.OneSets.{replies-of}
use Rattle.psi_demo.specs.Items.{demo_parameters}
use Rattle.psi_demo.specs.Scripts.{IsScriptText}
use Rattle.psi_demo.specs.Summaries.{ForTally}
use Rattle.psi_demo.specs.Texts.{IsSummary}
use Rattle.psi_cli.specs.declared.outcome.Outcome.{Outcome}
use Rattle.psi_cli.specs.declared.status.Status.{Status}
use Rattle.psi_cli.specs.declared.status.Status.TheVariants as status
use Rattle.psi_cli.specs.Demonstrations.{Demonstrates, IsDemonstration, ServesFrames, ShowsNothing, ShowsSo}
use Rattle.psi_cli.specs.Leaving.{Finishes}
use Rattle.psi_cli.specs.Statuses.{status_number}
use Rattle.psi_cli.specs.Worlds.{IsUntouched}

-- ---- what serves a script

-- the text of replies to frames
replies_serve : (workers : ℕ) (frames : List Frame) (sents : List Sent) (text : List ℕ) → AreRepliesTo demo_parameters (empty_version demo_parameters) (nat_eq workers 1) frames sents → text ≡ text_of sents → ServesFrames workers frames text
replies_serve workers frames sents text r e = record {
  serving = record {
    rounds = r.rounds;
    are_rounds = r.are_rounds;
    serving = record { history = r.serve.0; sents = sents; served = r.serve.1.served; text_is = e };
  };
  one_lane = λ one. record {
    rounds = r.rounds;
    are_rounds = r.are_rounds;
    one_lane = record { history = r.serve.0; sents = sents; served = r.serve.1.served; one_lane = r.serve.1.one_lane (eq-eqb workers 1 one); text_is = e };
  };
}

-- what a run in memory wrote to a sink that held nothing serves the frames of its input
pub serves_frames : (workers : ℕ) (bytes input replies : List ℕ) (frames : List Frame) (old new : Ends) (served : Served)
    → old.source.left ≡ Some input → input ≡ bytes → old.sink.written ≡ Some [] → new.sink.written ≡ Some replies → HasServed (empty_version demo_parameters) (nat_eq workers 1) old new served → served.status ≡ 0
    → AreWholeFrames request_table bytes frames None → ServesFrames workers frames replies
serves_frames workers bytes input replies frames old new served left is none now so done whole =
    let d = so.done done in
    let told : input ≡ d.input = subst (λ (o : Option (List ℕ)). IfSome o (λ b. b ≡ d.input)) left d.told in
    let same : d.frames ≡ frames = (one_list request_table d.input d.frames frames None None d.whole (subst (λ (b : List ℕ). AreWholeFrames request_table b frames None) (sym is ∙ told) whole)).0 in
    let text : Appends (Some []) (Some replies) (text_of d.replied.sents) =
    subst (λ (o : Option (List ℕ)). Appends (Some []) o (text_of d.replied.sents)) now
    (subst (λ (o : Option (List ℕ)). Appends o new.sink.written (text_of d.replied.sents)) none d.replied.written) in
    replies_serve workers frames d.replied.sents replies (subst (λ (fs : List Frame). AreRepliesTo demo_parameters (empty_version demo_parameters) (nat_eq workers 1) fs d.replied.sents) same (replies-of (empty_version demo_parameters) (nat_eq workers 1) d.frames d.replied.sents d.replied.replies)) text

-- the summary of what serves a script
pub is_demonstration : (number workers : ℕ) (bytes replies text : List ℕ) → IsScriptText number bytes
    → ((frames : List Frame) → AreWholeFrames request_table bytes frames None → ServesFrames workers frames replies)
    → ForTally replies (λ tally. IsSummary number tally text) → IsDemonstration number workers text
is_demonstration number workers bytes replies text script serves summary =
    record { frames = script.frames; script = script.script; replies = replies; serves = serves script.frames script.whole; summary = summary }

-- ---- what its run leaves

shows_nothing : (number workers : ℕ) (old new : SinkTold) (s : Status) → ShowsNothing number s → IsUntouched old new → ShowsSo number workers old new s
shows_nothing number workers old new status.Crowded why none = (why, none)
shows_nothing number workers old new status.NoMemory why none = none
shows_nothing number workers old new status.Done why none = absurd why
shows_nothing number workers old new status.Words why none = absurd why
shows_nothing number workers old new status.Parameters why none = absurd why
shows_nothing number workers old new status.BadInput why none = absurd why
shows_nothing number workers old new status.ReadFault why none = absurd why
shows_nothing number workers old new status.WriteFault why none = absurd why

pub demonstrates : (number workers : ℕ) (old new : SinkTold) (made : Result Outcome Status) (s : Status) (n : ℕ) → n ≡ status_number s
    → IfOk made (λ o. (o.status ≡ status.Done) × IsDemonstration number workers o.text.items) → IfErr made (ShowsNothing number) → Finishes made old new s → Demonstrates number workers old new n
demonstrates number workers old new (Ok o) s n e makes why (inl w) = (status.Done, e ∙ ap status_number (w.0 ∙ makes.0), (o.text.items, makes.1, w.1))
demonstrates number workers old new (Ok o) s n e makes why (inr w) = (status.WriteFault, e ∙ ap status_number w.0, (o.text.items, makes.1, w.1))
demonstrates number workers old new (Err t) s n e makes why w = (t, e ∙ ap status_number w.0, shows_nothing number workers old new t why w.1)
