use Rattle.std.proofs.Common.{◌++◌, List, ℕ, inl, inr, subst}
use Rattle.psi_frames.specs.Feeds.{HasFed}
use Rattle.query_pool.proofs.Pieces.{front-min}
use Rattle.query_pool.proofs.run.hear.Goals as goal

pub returns-in_default-clause-fed : goal.returns-in_default-clause-fed
returns-in_default-clause-fed c = λ bytes taken fed.
    let seen = front-min c.min-seen.result c.args.room c.args.piece.now c.min-seen.ensures in
    elim c.in-Err.ensures.err [
      | inl memory ↦ absurd (c.in_default.not-NoMemory memory)
      | inr met ↦ subst (λ (t : List ℕ). HasFed c.feed.new.self (bytes ++ t) taken) seen (c.in-Err.ensures.fed_faulty met.0 met.1 bytes taken fed)
    ]

pub returns-in_default-clause-bad : goal.returns-in_default-clause-bad
returns-in_default-clause-bad c = λ _. elim c.in-Err.ensures.err [ inl memory ↦ absurd (c.in_default.not-NoMemory memory) | inr met ↦ inl (met.0, met.1, met.3) ]
