-- Rounds that one lane alone answers: what is written is the one-lane text.
use Rattle.std.proofs.Common.{◌≡◌, ℕ, Bool, true, List, Option, None, Some}
use Rattle.std.specs.Io.KnownBytes.{Appends}
use Rattle.std.specs.Option.{IfSome}
use Rattle.psi_residue.specs.Parameters.{Parameters}
use Rattle.psi_cli.specs.Headline.{IsAnswered, IsOneLaneAnswer}

-- an answer of one lane alone
answer_one : (p : Parameters) (alone : Bool) (bytes text : List ℕ) → alone ≡ true → IsAnswered p alone bytes text → IsOneLaneAnswer p bytes text
answer_one p alone bytes text same a = record {
  frames = a.frames;
  whole = a.whole;
  one_lane = record {
    rounds = a.replies.rounds;
    are_rounds = a.replies.are_rounds;
    one_lane = record {
      history = a.replies.serve.0;
      sents = a.sents;
      served = a.replies.serve.1.served;
      one_lane = a.replies.serve.1.one_lane same;
      text_is = a.text_is;
    };
  };
  unmoved = a.replies.serve.1.unmoved same;
}

pub text_one : (p : Parameters) (alone : Bool) (left : Option (List ℕ)) (old new : Option (List ℕ)) → alone ≡ true → IfSome left (λ bytes. (text : List ℕ) × IsAnswered p alone bytes text × Appends old new text)
    → IfSome left (λ bytes. (text : List ℕ) × IsOneLaneAnswer p bytes text × Appends old new text)
text_one p alone None old new same h = tt
text_one p alone (Some bytes) old new same h = (h.0, answer_one p alone bytes h.0 same h.1, h.2)
