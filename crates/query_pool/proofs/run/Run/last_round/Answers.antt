use Rattle.std.proofs.Common.{◌≡◌, ◌∙◌, ◌<◌, ℕ, nat_eq, true, false, arith}
use Rattle.std.proofs.lemmas.Bool.Decides.{nat_tests}
use Rattle.query_pool.proofs.Going.{all-none, last-goes, last-stops, round-counted}
use Rattle.query_pool.proofs.run.Run.last_round.Goals as goal

none_length : (n : ℕ) → nat_eq n 0 ≡ true → n ≡ 0
none_length n test = grind (arith, nat_tests, test)

some_length : (n : ℕ) → nat_eq n 0 ≡ false → 0 < n
some_length n test = grind (arith, nat_tests, test)

pub returns-then-is_empty-clause-all : goal.returns-then-is_empty-clause-all
returns-then-is_empty-clause-all g c = λ mark bytes feed empty stands.
    all-none _ _ mark bytes feed _ _ stands empty (none_length _ (c.is_empty.ensures stands.rounds stands.sents stands.waiting stands.state ∙ c.if-is_empty.true))

pub serve_round-requires-clause-round : goal.serve_round-requires-clause-round
serve_round-requires-clause-round g c =
    let (feed, s) = c.requires.standing in
    let stands = s.stands in
    round-counted _ _ _ _ _ _ _ stands (some_length _ (c.is_empty.ensures stands.rounds stands.sents stands.waiting stands.state ∙ c.if-is_empty.false))

pub returns-clause-all : goal.returns-clause-all
returns-clause-all g c =
    last-goes _ _ _ _ _ _ _ c.serve_round.result (λ rounds sents waiting state. some_length _ (c.is_empty.ensures rounds sents waiting state ∙ c.if-is_empty.false)) c.serve_round.ensures.gone

pub returns-clause-stops : goal.returns-clause-stops
returns-clause-stops g c =
    last-stops _ _ _ _ _ _ c.serve_round.result (λ rounds sents waiting state. some_length _ (c.is_empty.ensures rounds sents waiting state ∙ c.if-is_empty.false)) c.serve_round.ensures.stops
