use Rattle.std.proofs.Common.{◌≡◌, List, ℕ, ◌++◌, ap, sym, subst, ◌∙◌, arith}
use Rattle.std.specs.List.{flat_map}
use Rattle.byteorder.specs.Endian.{big_bytes}
use Rattle.psi_residue.specs.Parameters.{parameter_bytes}
use Rattle.noise_ledger.specs.Verdicts.{parameters_of}
use Rattle.query_codec.specs.Ciphertexts.{ciphertexts_bytes}
use Rattle.query_codec.specs.Replies.{IsReply, reply_counts, reply_ciphertexts, reply_bytes}
use Rattle.query_codec.proofs.ReplyBodies.{IsReply-written, few_planes, counts_back, reply_read_back, reply_bytes-is}
use Rattle.query_codec.proofs.reply.write_reply.Goals as goal

pub overflow_mul-size-2 : goal.overflow_mul-size-2
overflow_mul-size-2 c =
    let few = few_planes (parameters_of c.args.params.now) c.args.counts.now c.requires.passed.ranges.few_units c.requires.passed.ranges.few_rows c.requires.rows (λ i. (c.type_inv.counts i).fits) in
    record { fits = omega (arith, few, c.requires.planes) }

pub overflow_add-size-2 : goal.overflow_add-size-2
overflow_add-size-2 c =
    let few = few_planes (parameters_of c.args.params.now) c.args.counts.now c.requires.passed.ranges.few_units c.requires.passed.ranges.few_rows c.requires.rows (λ i. (c.type_inv.counts i).fits) in
    let rows = c.requires.passed.ranges.few_rows in
    record { fits = omega (arith, few, c.requires.planes, c.requires.rows, rows) }

written : (c : goal.In_ok-append_ciphertexts) → c.append_ciphertexts.new.text.items ≡ reply_bytes (parameters_of c.args.params.now) c.args.counts.now c.args.cts.now
written c =
    let p = parameters_of c.args.params.now in
    let header : c.extend_from_slice.new.self.items ≡ parameter_bytes p = c.in_ok-extend_from_slice.ensures.items ∙ (λ i. c.in_ok-body.ensures.items i ++ c.to_bytes.ensures i) in
    let numbers : c.append_counts.new.text.items ≡ parameter_bytes p ++ flat_map (big_bytes 2) c.args.counts.now =
    c.in_ok-append_counts.ensures ∙ ap (λ (xs : List ℕ). xs ++ flat_map (big_bytes 2) c.args.counts.now) header in
    c.in_ok-append_ciphertexts.ensures.appended ∙ ap (λ (xs : List ℕ). xs ++ ciphertexts_bytes c.args.cts.now) numbers ∙ reply_bytes-is p c.args.counts.now c.args.cts.now

pub returns-clause-written : goal.returns-clause-written
returns-clause-written c = written c

pub returns-clause-reply : goal.returns-clause-reply
returns-clause-reply c =
    let p = parameters_of c.args.params.now in
    subst (λ (body : List ℕ). IsReply p body) (sym (written c))
    (IsReply-written p c.args.counts.now c.args.cts.now c.requires.rows (λ i. (c.type_inv.counts i).fits) c.requires.planes c.in_ok-append_ciphertexts.ensures.each)

pub returns-clause-counts_back : goal.returns-clause-counts_back
returns-clause-counts_back c =
    let p = parameters_of c.args.params.now in
    ap (λ (body : List ℕ). reply_counts p body) (written c) ∙ counts_back p c.args.counts.now c.args.cts.now c.requires.rows (λ i. (c.type_inv.counts i).fits)

pub returns-clause-read_back : goal.returns-clause-read_back
returns-clause-read_back c =
    let p = parameters_of c.args.params.now in
    ap (λ (body : List ℕ). reply_ciphertexts p body) (written c)
    ∙ reply_read_back p c.args.counts.now c.args.cts.now c.requires.rows (λ i. (c.type_inv.counts i).fits) c.requires.planes c.in_ok-append_ciphertexts.ensures.each
