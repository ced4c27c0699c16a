use Rattle.std.proofs.Common.{◌∙◌, sym, refl}
use Rattle.psi_serve.proofs.one_set.OneSet.replies_to.Goals as goal

pub returns-in_ok-round-in-Some-clause-told : goal.returns-in_ok-round-in-Some-clause-told
returns-in_ok-round-in-Some-clause-told g c =
    let has = c.requires.answers c.in-Some.book c.args.requests c.round.result c.round.ensures in
    record {
      old = c.in-Some.book;
      new = c.in_ok-round-in-Some.round.book;
      was = sym c.take.ensures.value ∙ c.in-Some.is;
      is = refl;
      has = rw c.in_ok-round-in-Some.was at has;
    }
