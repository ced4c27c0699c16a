use Rattle.std.proofs.Common.{◌≡◌, ◌-◌, arith}
use Rattle.std.specs.Vec.{vec_len, vec_capacity}
use Rattle.noise_ledger.specs.Verdicts.{parameters_of}
use Rattle.sender_core.specs.Shown.{kept_of_rows}
use Rattle.sender_core.proofs.Consistency.{start-empty}
use Rattle.sender_core.proofs.state.State.empty.Goals as goal

pub returns : goal.returns
returns g c =
    let start = start-empty g.row.C.Denot (parameters_of c.args.params.now) (kept_of_rows c.in_ok-empty_rows.field-0.items) c.in_ok-empty_rows.ensures in
    let room : vec_capacity c.new-2.result - vec_len c.new-2.result ≡ 0 = omega (arith, c.new-2.ensures.len, c.new-2.ensures.capacity) in
    λ i. record {
      parameters = parameters_of c.args.params.now;
      start = start i;
      labels = c.new.ensures.empty i;
      rows = c.in_ok-empty_rows-2.ensures i;
      journal = c.new-2.ensures.items i;
      room = room i;
    }
