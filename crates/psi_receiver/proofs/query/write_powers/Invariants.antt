use Rattle.std.proofs.Common.{◌≡◌, ◌<◌, ◌^◌, ◌%◌, ℕ, get_or}
use Rattle.psi_receiver.proofs.query.write_powers.Given as goal

abbrev pub invariant-loop-slot : goal.invariant-loop-slot
invariant-loop-slot l = (n : ℕ) → n < l.slot → get_or l.out n 0 ≡ get_or l.values n 0 ^ l.exponent % 65537
