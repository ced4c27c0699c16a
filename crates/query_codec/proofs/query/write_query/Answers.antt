use Rattle.std.proofs.Common.{◌≡◌, List, ℕ, ◌++◌, ap, sym, subst, ◌∙◌}
use Rattle.psi_residue.specs.Parameters.{parameter_bytes}
use Rattle.noise_ledger.specs.Verdicts.{parameters_of}
use Rattle.query_codec.specs.Ciphertexts.{ciphertexts_bytes}
use Rattle.query_codec.specs.Queries.{IsQuery, query_ciphertexts, query_body}
use Rattle.query_codec.proofs.QueryBodies.{IsQuery-written, query_read_back, query_body-is}
use Rattle.query_codec.proofs.query.write_query.Goals as goal

written : (c : goal.In_ok-append_ciphertexts) → c.append_ciphertexts.new.text.items ≡ query_body (parameters_of c.args.params.now) c.args.query.now
written c =
    let p = parameters_of c.args.params.now in
    let header : c.extend_from_slice.new.self.items ≡ parameter_bytes p = c.in_ok-extend_from_slice.ensures.items ∙ (λ i. c.in_ok-body.ensures.items i ++ c.to_bytes.ensures i) in
    c.in_ok-append_ciphertexts.ensures.appended ∙ ap (λ (xs : List ℕ). xs ++ ciphertexts_bytes c.args.query.now) header ∙ query_body-is p c.args.query.now

pub returns-clause-written : goal.returns-clause-written
returns-clause-written c = written c

pub returns-clause-query : goal.returns-clause-query
returns-clause-query c =
    let p = parameters_of c.args.params.now in
    subst (λ (body : List ℕ). IsQuery p body) (sym (written c)) (IsQuery-written p c.args.query.now c.in_ok-append_ciphertexts.ensures.each c.requires.number)

pub returns-clause-read_back : goal.returns-clause-read_back
returns-clause-read_back c =
    let p = parameters_of c.args.params.now in
    ap (λ (body : List ℕ). query_ciphertexts p body) (written c) ∙ query_read_back p c.args.query.now c.in_ok-append_ciphertexts.ensures.each c.requires.number
