use Rattle.std.proofs.Common.{rules, ◌<◌, ◌^◌, ◌++◌, List, ℕ, ap, refl, arith, ◌∙◌}
use Rattle.std.specs.List.{All}
use Rattle.psi_frames.specs.declared.frame.Frame.{Frame}
use Rattle.psi_frames.specs.Frames.{frame_bytes}
use Rattle.psi_demo.specs.Scripts.{Unnumbered}
use Rattle.psi_demo.proofs.Numbering.{request-frame, writes-one}
use Rattle.psi_demo.proofs.written.Written.add.Goals as goal

pub returns : goal.returns
returns c =
    let x : Unnumbered = record { kind = c.args.kind; session = c.args.session; body = c.args.body.items } in
    let frame : List ℕ → Frame = λ body. record { kind = c.args.kind; session = c.args.session; number = c.args.self.now.requests; body = body } in
    let bytes : All (λ b. b < 2 ^ 8) c.args.body.items = search rules in
    writes-one c.args.self.now _ x
    (c.in_ok-extend_from_slice.ensures.items ∙ ap (λ (t : List ℕ). c.args.self.now.text.items ++ t) (c.deref.ensures.value ∙ c.in_ok-text.ensures.frame ∙ ap (λ (b : List ℕ). frame_bytes (frame b)) c.of.ensures)) refl
    (request-frame c.args.kind c.args.session c.args.self.now.requests c.args.body.items c.requires.some c.requires.kind c.ranges.session.fits (omega (arith, c.requires.few)) bytes c.requires.small)
