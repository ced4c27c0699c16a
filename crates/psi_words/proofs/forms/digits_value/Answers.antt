use Rattle.std.proofs.Common.{arith}
use Rattle.psi_words.specs.Forms.{written_number}
use Rattle.psi_words.proofs.Digits.{le-fold-drop, none_above}
use Rattle.psi_words.proofs.forms.digits_value.Goals as goal

pub returns-in_err-checked_mul : goal.returns-in_err-checked_mul
returns-in_err-checked_mul c =
    let more = le-fold-drop c.loop-digit.number c.args.digits.now c.loop-digit.digit-index (omega arith) in
    let over = c.in_err-checked_mul.ensures in
    none_above _ _ (written_number c.args.digits.now) c.from_residual.ensures (omega (arith, more, c.loop-digit.invariant.0, over))

pub returns-in_err-number : goal.returns-in_err-number
returns-in_err-number c =
    let more = le-fold-drop c.loop-digit.number c.args.digits.now c.loop-digit.digit-index (omega arith) in
    let over = c.in_err-number.ensures in
    let ten = c.in_ok-checked_mul.ensures in
    none_above _ _ (written_number c.args.digits.now) c.from_residual-in_err-number.ensures
    (omega (arith, more, c.loop-digit.invariant.0, over, ten, c.from.ensures))
