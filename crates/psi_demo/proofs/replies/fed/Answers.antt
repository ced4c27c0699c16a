use Rattle.std.proofs.Common.{[], inl, inr, ◌∙◌}
use Rattle.psi_demo.proofs.replies.fed.Goals as goal

pub returns-in-Ok-clause-fed : goal.returns-in-Ok-clause-fed
returns-in-Ok-clause-fed c = c.in-Ok.ensures.fed [] [] c.in_ok-feed.ensures.fed

pub returns-in_default-clause-fed : goal.returns-in_default-clause-fed
returns-in_default-clause-fed c = elim c.in-Err.ensures.err [
  | inl memory ↦ absurd (c.in_default.not-NoMemory memory)
  | inr met ↦ c.in-Err.ensures.fed_faulty met.0 met.1 [] [] c.in_ok-feed.ensures.fed
]

pub returns-in_default-clause-replies : goal.returns-in_default-clause-replies
returns-in_default-clause-replies c = c.feed.ensures.table ∙ c.in_ok-feed.ensures.replies
