use Rattle.std.proofs.Common.{refl, ◌∙◌}
use Rattle.std.proofs.lemmas.Result.{err_from_is_err_and, on_ok_weaker, IfOk-weaker, IfErr-weaker}
use Rattle.noise_ledger.specs.Verdicts.{parameters_of}
use Rattle.query_codec.specs.Queries.{powers_of}
use Rattle.query_codec.proofs.QueryBodies.{AreCiphertexts-behind, IfOk-both, no_fault-IsQuery, no_wrong-behind, query_ciphertexts-is, spelled_query}
use Rattle.query_codec.proofs.query.read_query.Goals as goal

pub returns-in_err-test_head-clause-refused : goal.returns-in_err-test_head-clause-refused
returns-in_err-test_head-clause-refused c =
    let p = err_from_is_err_and c.from_residual.result c.from_residual.ensures.1 in
    rw (p.1, p.2)
    (λ other q.
    let none = no_fault-IsQuery (parameters_of c.args.params.now) c.args.body.now q in
    let some = c.in_err-test_head.ensures.fault in
    absurd cc)

pub returns-clause-read : goal.returns-clause-read
returns-clause-read c =
    IfOk-weaker c.read_ciphertexts.result _ _
    (λ cts e. e ∙ query_ciphertexts-is (parameters_of c.args.params.now) c.args.body.now c.ciphertexts.result c.ciphertexts.ensures.number) c.read_ciphertexts.ensures.read

pub returns-clause-spelled : goal.returns-clause-spelled
returns-clause-spelled c =
    let p = parameters_of c.args.params.now in
    let body = c.args.body.now in
    let count = c.ciphertexts.result in
    let number = c.ciphertexts.ensures.number in
    IfOk-both c.read_ciphertexts.result _ _ _
    (λ cts e are.
    spelled_query p body cts.items c.in_ok-test_head.ensures.header (AreCiphertexts-behind body 8 8 count (powers_of p) refl number are) (λ i. (c.type_inv.body i).fits) (e ∙ query_ciphertexts-is p body count number))
    c.read_ciphertexts.ensures.read c.read_ciphertexts.ensures.whole

pub returns-clause-refused : goal.returns-clause-refused
returns-clause-refused c =
    IfErr-weaker c.read_ciphertexts.result _ _
    (λ fault h other q. no_wrong-behind c.args.body.now 8 8 c.ciphertexts.result (powers_of (parameters_of c.args.params.now)) refl c.ciphertexts.ensures.number q.fit fault h other)
    c.read_ciphertexts.ensures.fault

pub returns-clause-faultless : goal.returns-clause-faultless
returns-clause-faultless c =
    let p = parameters_of c.args.params.now in
    let body = c.args.body.now in
    on_ok_weaker c.read_ciphertexts.result
    (λ are.
    let behind = AreCiphertexts-behind body 8 8 c.ciphertexts.result (powers_of p) refl c.ciphertexts.ensures.number are in
    no_fault-IsQuery p body (record { size = c.in_ok-test_head.ensures.size; header = c.in_ok-test_head.ensures.header; fit = behind.fit }))
    c.read_ciphertexts.ensures.whole
