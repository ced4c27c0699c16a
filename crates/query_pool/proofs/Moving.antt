-- A row that is packed as it stands has not moved.
use Rattle.std.specs.Prelude.{◌≡◌, ℕ, suc, ◌≤◌, max, true, nat_le, Some, List, [], ◌∷◌, length, map, slice_get}
use Rattle.std.specs.List.{fold}
use Rattle.std.proofs.Common.{refl, sym, ap, ◌∙◌, subst, arith}
use Rattle.std.proofs.lemmas.Bool.{le-leb}
use Rattle.std.proofs.lemmas.Option.{same_Some}
use Rattle.psi_bundle.specs.declared.history.Answer.{Answer}
use Rattle.psi_bundle.specs.declared.history.Answer.TheVariants as answer
use Rattle.psi_bundle.specs.declared.history.Call.TheVariants as call
use Rattle.psi_bundle.specs.declared.member.Member.{Member}
use Rattle.psi_bundle.specs.Steps.{step}
use Rattle.psi_bundle.specs.Versions.{Row, Stamped, Version, greatest_stamp, row_at}
use Rattle.psi_frames.specs.declared.reply.Reply.{Reply}
use Rattle.psi_frames.specs.Served.{answer_of}
use Rattle.sender_core.specs.Kept.{Contents, IsConsistent, start_of, version_of}
use Rattle.sender_core.specs.Stamps.{bundle_at}
use Rattle.sender_core.proofs.StampHistories.{stamps-tell}
use Rattle.query_pool.specs.Rounds.{IsNoMoved}

-- the greatest stamp is within a bound that all are within
greatest-within : (n so_far : ℕ) (row : Row) → so_far ≤ n → ((u : ℕ) (b : Stamped) → slice_get row u ≡ Some b → b.stamp ≤ n) → fold max so_far (map (λ u. u.stamp) row) ≤ n
greatest-within n so_far [] h each = h
greatest-within n so_far (u ∷ us) h each =
    let here : u.stamp ≤ n = each 0 u refl in
    greatest-within n (max so_far u.stamp) us (omega (arith, h, here)) (λ v b is. each (suc v) b is)

-- the answer of a repack whose row has no later stamp
done-stands : (v : Version) (r from : ℕ) → greatest_stamp (row_at v.rows r) ≤ from → (stamp : ℕ) → (step v (call.Repack r from)).answer ≡ answer.Moved stamp → ⊥
unfolding step
done-stands v r from within stamp =
    let test : nat_le (greatest_stamp (row_at v.rows r)) from ≡ true = le-leb (greatest_stamp (row_at v.rows r)) from within in
    rw test (λ is. absurd (cc))

-- in a book no stamp is above the number of entries
stamps-within : {C : Type 0} (contents : C → List (List Member)) (is_under : C → List ℕ → Type 0) (h : Contents C) → IsConsistent contents is_under h
    → (r : ℕ) → greatest_stamp (row_at (version_of h).rows r) ≤ length h.journal
stamps-within contents is_under h consistent r =
    greatest-within (length h.journal) 0 (row_at (version_of h).rows r) (omega arith)
    (λ u b is. (stamps-tell (start_of h) h.journal consistent.begun r u b (subst (λ (v : Version). bundle_at v.rows r u ≡ Some b) (sym consistent.replayed) is)).0)

pub not-moved : {C : Type 0} (contents : C → List (List Member)) (is_under : C → List ℕ → Type 0) (h : Contents C) → IsConsistent contents is_under h
    → (row from : ℕ) (a : Answer) (told : Reply) → from ≡ length h.journal → a ≡ (step (version_of h) (call.Repack row from)).answer → answer_of told ≡ Some a → IsNoMoved told
not-moved contents is_under h consistent row from a told all stepped tells = λ place own stamp is.
    let moved : Some (answer.Moved stamp) ≡ Some a = sym (ap answer_of is) ∙ tells in
    let same : a ≡ answer.Moved stamp = sym (same_Some (answer.Moved stamp) a moved) in
    done-stands (version_of h) row from (subst (λ (n : ℕ). greatest_stamp (row_at (version_of h).rows row) ≤ n) (sym all) (stamps-within contents is_under h consistent row)) stamp (sym stepped ∙ same)
