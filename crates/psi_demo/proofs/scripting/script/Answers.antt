use Rattle.std.proofs.Common.{List, ℕ, ◌≡◌, length, ap, arith, subst, ◌∙◌}
use Rattle.psi_demo.specs.Items.{asked_tags}
use Rattle.psi_demo.specs.Scripts.{IsAsked}
use Rattle.psi_demo.proofs.Made.{length-asked}
use Rattle.psi_demo.proofs.ScriptFrames.{whole-script}
use Rattle.psi_demo.proofs.scripting.script.Goals as goal

pub query-requires-after_bounds : goal.query-requires-after_bounds
query-requires-after_bounds g c κs within = omega (arith, ap length (c.deref.ensures.value ∙ c.in_ok-tags.ensures), length-asked c.args.number)

pub query-requires-2-after_bounds : goal.query-requires-2-after_bounds
query-requires-2-after_bounds g c κs within = omega (arith, ap length (c.deref-2.ensures.value ∙ c.in_ok-tags.ensures), length-asked c.args.number)

pub query-requires-3-after_bounds : goal.query-requires-3-after_bounds
query-requires-3-after_bounds g c κs within = omega (arith, ap length (c.deref-3.ensures.value ∙ c.in_ok-tags.ensures), length-asked c.args.number)

pub returns-clause-script : goal.returns-clause-script
returns-clause-script g c =
    let number = c.args.number in
    let first : c.deref.result.now ≡ asked_tags number = c.deref.ensures.value ∙ c.in_ok-tags.ensures in
    let second : c.deref-2.result.now ≡ asked_tags number = c.deref-2.ensures.value ∙ c.in_ok-tags.ensures in
    let third : c.deref-3.result.now ≡ asked_tags number = c.deref-3.ensures.value ∙ c.in_ok-tags.ensures in
    whole-script number c.in_ok-first.first.items c.in_ok-second.second.items c.in_ok-third.third.items c.in_ok-write_script.field-0.items
    (subst (λ (ts : List (List ℕ)). IsAsked number 0 ts c.in_ok-first.first.items) first c.in_ok-first.ensures.asked)
    (subst (λ (ts : List (List ℕ)). IsAsked number 1 ts c.in_ok-second.second.items) second c.in_ok-second.ensures.asked)
    (subst (λ (ts : List (List ℕ)). IsAsked number 2 ts c.in_ok-third.third.items) third c.in_ok-third.ensures.asked)
    c.in_ok-write_script.ensures.text c.in_ok-write_script.ensures.each
