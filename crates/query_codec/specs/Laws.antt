-- No body begins another one.
use Rattle.std.specs.Prelude.{◌≡◌, ℕ, List, [], ◌++◌}
use Rattle.psi_residue.specs.Parameters.{Parameters}
use Rattle.query_codec.specs.Queries.{IsQuery}
use Rattle.query_codec.specs.Replies.{IsReply}

-- of queries under the same parameters
abbrev pub QueriesStandApart : Type 0
QueriesStandApart = (p : Parameters) (body rest : List ℕ) → IsQuery p body → IsQuery p (body ++ rest) → rest ≡ []

-- of replies under the same parameters
abbrev pub RepliesStandApart : Type 0
RepliesStandApart = (p : Parameters) (body rest : List ℕ) → IsReply p body → IsReply p (body ++ rest) → rest ≡ []
