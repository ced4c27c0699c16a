use Rattle.std.proofs.Common.{◌≡◌, ◌<◌, ◌^◌, drop}
use Rattle.std.specs.List.{fold}
use Rattle.psi_words.specs.Forms.{written_number}
use Rattle.psi_words.proofs.Digits.{and_digit}
use Rattle.psi_words.proofs.forms.digits_value.Given as goal

abbrev pub invariant-loop-digit : goal.invariant-loop-digit
invariant-loop-digit l = (fold and_digit l.number (drop l.digit-index l.digits) ≡ written_number l.digits) × (l.number < 2 ^ 64)
