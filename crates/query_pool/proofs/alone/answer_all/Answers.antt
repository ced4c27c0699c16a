use Rattle.std.proofs.Common.{rules, ◌≡◌, ◌∙◌, ◌++◌, [], ◌∷◌, List, refl, sym, subst, arith}
use Rattle.std.specs.Prelude.{IsSome}
use Rattle.std.specs.List.{All}
use Rattle.std.specs.Vec.Iter.{into_iter_items}
use Rattle.std.proofs.lemmas.List.{nil_from_length}
use Rattle.noise_ledger.specs.Verdicts.{parameters_of}
use Rattle.bundle_cache.specs.Queries.{ScratchOf}
use Rattle.psi_frames.specs.declared.request.Request.{Request}
use Rattle.sender_core.specs.Kept.{version_of}
use Rattle.query_pool.specs.Caching.{IsScratch}
use Rattle.psi_frames.specs.Requests.{IsFit}
use Rattle.query_pool.proofs.Turns.{IsUnderWay, addressed-told, all-behind, all-entered, all-told, length-told, under_way-first, under_way-more, under_way-told}
use Rattle.query_pool.proofs.alone.answer_all.Goals as goal

pub loop-request-init : goal.loop-request-init
loop-request-init g c =
    let p = parameters_of c.args.params.now in
    let given : into_iter_items c.into_iter-request-iterator.result ≡ c.args.requests.items = c.into_iter-request-iterator.ensures.into_iter_gives.0 in
    record {
      way =
          under_way-told p c.args.book c.args.book _ _ [] c.in_ok-replies.replies.items (sym c.in_ok-replies.ensures.items)
          (under_way-first p c.args.book (into_iter_items c.into_iter-request-iterator.result) (subst (λ (rs : List Request). All (IsFit p) rs) (sym given) c.requires.fit));
      scratch = record { under = c.in_ok-scratch.ensures.parameters; block = subst IsSome (sym c.in_ok-scratch.ensures.block) refl };
    }

pub reply_to-requires-clause-same : goal.reply_to-requires-clause-same
reply_to-requires-clause-same g c _ _ = c.loop-request.invariant.way.parameters ∙ c.requires.same

pub reply_to-requires-clause-scratch : goal.reply_to-requires-clause-scratch
reply_to-requires-clause-scratch g c _ _ = c.loop-request.invariant.scratch

pub reply_to-requires-clause-fit : goal.reply_to-requires-clause-fit
reply_to-requires-clause-fit g c _ _ =
    let p = parameters_of c.args.params.now in
    let left = into_iter_items c.loop-request.request-iterator in
    let rest = into_iter_items c.next.new.self in
    let next : left ≡ c.in-Some.request ∷ rest = search rules in
    (subst (λ (rs : List Request). All (IsFit p) rs) next c.loop-request.invariant.way.fit) 0 c.in-Some.request (omega arith)

pub loop-request-preserved : goal.loop-request-preserved
loop-request-preserved g c =
    let p = parameters_of c.args.params.now in
    let r = c.in-Some.request in
    let left = into_iter_items c.loop-request.request-iterator in
    let rest = into_iter_items c.next.new.self in
    let all = into_iter_items c.into_iter-request-iterator.result in
    let told = c.loop-request.replies.items in
    let next : left ≡ r ∷ rest = search rules in
    let reply = c.in_ok-reply_to.field-0 in
    let was = subst (λ (rs : List Request). IsUnderWay p c.args.book all rs c.loop-request.book told) next c.loop-request.invariant.way in
    record {
      way =
          under_way-told p c.args.book c.reply_to.new.book all rest (told ++ reply ∷ []) c.push.new.self.items (sym c.in_ok-push.ensures.items)
          (under_way-more p c.args.book c.loop-request.book c.reply_to.new.book all rest r told reply was c.in_ok-reply_to.ensures.answered c.in_ok-reply_to.ensures.unmoved c.in_ok-reply_to.ensures.fits);
      scratch = subst (λ (s : ScratchOf). IsScratch p s) (sym c.in_ok-reply_to.ensures.scratch) c.loop-request.invariant.scratch;
    }

-- no request is left
none-left : (g : _) (c : goal.Joined-scratch-4 g) → into_iter_items c.loop-request.request-iterator ≡ []
none-left g c = nil_from_length (into_iter_items c.loop-request.request-iterator) (omega (arith, c.loop-request.request-iterator.rest.ok.0, c.in-None.ensures.steps.0))

-- the whole round is told
way-whole : (g : _) (c : goal.Joined-scratch-4 g) → IsUnderWay (parameters_of c.args.params.now) c.args.book c.args.requests.items (into_iter_items c.loop-request.request-iterator) c.loop-request.book c.loop-request.replies.items
way-whole g c =
    subst (λ (rs : List Request). IsUnderWay (parameters_of c.args.params.now) c.args.book rs (into_iter_items c.loop-request.request-iterator) c.loop-request.book c.loop-request.replies.items) c.into_iter-request-iterator.ensures.into_iter_gives.0 c.loop-request.invariant.way

pub returns-clause-one_each : goal.returns-clause-one_each
returns-clause-one_each g c =
    let p = parameters_of c.args.params.now in
    length-told p (version_of c.args.book) c.args.requests.items c.loop-request.replies.items (all-told p c.args.book c.loop-request.book c.args.requests.items _ c.loop-request.replies.items (none-left g c) (way-whole g c))

pub returns-clause-replies : goal.returns-clause-replies
returns-clause-replies g c =
    let p = parameters_of c.args.params.now in
    addressed-told p (version_of c.args.book) c.args.requests.items c.loop-request.replies.items (all-told p c.args.book c.loop-request.book c.args.requests.items _ c.loop-request.replies.items (none-left g c) (way-whole g c))

pub returns-clause-entries : goal.returns-clause-entries
returns-clause-entries g c = all-entered (parameters_of c.args.params.now) c.args.book c.loop-request.book c.args.requests.items _ c.loop-request.replies.items (none-left g c) (way-whole g c)

pub returns-clause-version : goal.returns-clause-version
returns-clause-version g c = all-behind (parameters_of c.args.params.now) c.args.book c.loop-request.book c.args.requests.items _ c.loop-request.replies.items (none-left g c) (way-whole g c)

pub returns-clause-parameters : goal.returns-clause-parameters
returns-clause-parameters g c = c.loop-request.invariant.way.parameters

pub returns-clause-start : goal.returns-clause-start
returns-clause-start g c = c.loop-request.invariant.way.start

pub returns-clause-unmoved : goal.returns-clause-unmoved
returns-clause-unmoved g c = c.loop-request.invariant.way.unmoved

pub returns-clause-fits : goal.returns-clause-fits
returns-clause-fits g c = c.loop-request.invariant.way.fits
