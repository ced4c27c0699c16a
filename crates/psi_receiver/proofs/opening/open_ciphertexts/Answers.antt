use Rattle.std.proofs.Common.{refl}
use Rattle.std.specs.List.{range_with_len}
use Rattle.std.specs.Result.{IfOk}
use Rattle.std.proofs.lemmas.Result.{IfOk-weaker}
use Rattle.noise_ledger.specs.Verdicts.{parameters_of}
use Rattle.psi_receiver.specs.Openings.{IsOpenedPlane}
use Rattle.psi_receiver.proofs.Planes.{IsReply-opened, lists-opened}
use Rattle.psi_receiver.proofs.Worked.{numbers-zip}
use Rattle.psi_receiver.proofs.opening.open_ciphertexts.Goals as goal

pub returns : goal.returns
returns g c =
    let p = parameters_of c.args.params.now in
    let n = c.args.number in
    let places = range_with_len 0 n in
    let results = c.in_ok-planes.planes.items in
    let each = numbers-zip (λ i r. IfOk r (IsOpenedPlane p c.args.key.now c.args.reply.now i)) n results c.in_ok-planes.ensures.len (λ i d lt. (c.in_ok-planes.ensures.each i d lt).1.met) in
    record {
      opened = IfOk-weaker c.values_of.result _ _ (λ v e. lists-opened p c.args.key.now c.args.reply.now n places results v.items c.requires.number refl each e) c.values_of.ensures;
      reply = IfOk-weaker c.values_of.result _ _ (λ v e. IsReply-opened p c.args.key.now c.args.reply.now n places results v.items c.requires.head c.requires.number refl each e) c.values_of.ensures;
    }
