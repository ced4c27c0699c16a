-- The planes of a reply, opened one by one.
use Rattle.std.proofs.Common.{◌≡◌, ℕ, zero, suc, ◌+◌, ◌*◌, List, [], ◌∷◌, map, drop, Result, Ok, ap, subst, sym, ◌∙◌, arith, ℤ}
use Rattle.std.specs.List.{AllZip, flat_map, range_with_len}
use Rattle.std.specs.Result.{IfOk}
use Rattle.std.proofs.lemmas.List.Folds.{flat_map-map}
use Rattle.std.proofs.lemmas.Simd.{map-map}
use Rattle.psi_residue.specs.Parameters.{Parameters}
use Rattle.query_codec.specs.Ciphertexts.{AreBelow, ciphertext_in, ciphertexts_in}
use Rattle.query_codec.specs.Replies.{IsReply, IsReplyHead, reply_planes, reply_ciphertext, reply_ciphertexts, reply_counts, reply_head}
use Rattle.query_codec.proofs.Residues.{AreBelow-joined}
use Rattle.psi_receiver.specs.declared.found.Found.{Found}
use Rattle.psi_receiver.specs.declared.placement.Placed.{Placed}
use Rattle.psi_receiver.specs.Openings.{IsOpenedPlane, OpenedReply, opened, opened_item, opened_slots}

-- the slots of n planes from number a on, and that their residues are below their moduli
record AreOpenedPlanes (p : Parameters) (key : List ℤ) (body : List ℕ) (a n : ℕ) (planes : List (List ℕ)) : Type 0 where
  pub slots : planes ≡ map (λ c. opened_slots key (reply_ciphertext p body c)) (range_with_len a n)
  pub below : AreBelow (drop (reply_head p) body) (16384 * a) (16384 * (a + n))

-- results that are all there are opened planes
each-opened : {E : Type 0} (p : Parameters) (key : List ℤ) (body : List ℕ) (a n : ℕ) (rs : List (Result (List ℕ) E)) (ys : List (List ℕ))
    → AllZip (λ c r. IfOk r (IsOpenedPlane p key body c)) (range_with_len a n) rs → rs ≡ map Ok ys → AreOpenedPlanes p key body a n ys
each-opened p key body a zero [] [] all e = record { slots = λ i. []; below = λ i low high. absurd (omega arith) }
each-opened p key body a zero [] (y ∷ ys) all e = absurd cc
each-opened p key body a zero (r ∷ rs) ys all e = absurd all
each-opened p key body a (suc n) [] ys all e = absurd all
each-opened p key body a (suc n) (r ∷ rs) [] all e = absurd cc
each-opened {E} p key body a (suc n) (r ∷ rs) (y ∷ ys) all e =
    let here : r ≡ Ok y = cc in
    let later : rs ≡ map Ok ys = cc in
    let plane : IsOpenedPlane p key body a y = subst (λ (q : Result (List ℕ) E). IfOk q (IsOpenedPlane p key body a)) here all.0 in
    let rest = each-opened p key body (a + 1) n rs ys all.1 later in
    let last : a + 1 + n ≡ a + suc n = omega arith in
    let behind : AreBelow (drop (reply_head p) body) (16384 * (a + 1)) (16384 * (a + suc n)) = subst (λ (k : ℕ). AreBelow (drop (reply_head p) body) (16384 * (a + 1)) (16384 * k)) last rest.below in
    record {
      slots = λ i. plane.opened i ∷ rest.slots i;
      below = AreBelow-joined (drop (reply_head p) body) (16384 * a) (16384 * (a + 1)) (16384 * (a + suc n)) plane.below behind;
    }

-- of all planes: they are those of the reply's ciphertexts
pub lists-opened : {E : Type 0} (p : Parameters) (key : List ℤ) (body : List ℕ) (n : ℕ) (cs : List ℕ) (rs : List (Result (List ℕ) E)) (ys : List (List ℕ)) → n ≡ reply_planes p (reply_counts p body) → cs ≡ range_with_len 0 n
    → AllZip (λ c r. IfOk r (IsOpenedPlane p key body c)) cs rs → rs ≡ map Ok ys → ys ≡ map (opened_slots key) (reply_ciphertexts p body)
unfolding reply_ciphertexts ciphertexts_in
lists-opened {E} p key body n cs rs ys number from all e =
    let all_n = subst (λ (xs : List ℕ). AllZip (λ c r. IfOk r (IsOpenedPlane p key body c)) xs rs) from all in
    (each-opened p key body 0 n rs ys all_n e).slots
    ∙ ap (λ (k : ℕ). map (λ c. opened_slots key (reply_ciphertext p body c)) (range_with_len 0 k)) number
    ∙ sym (map-map (opened_slots key) (ciphertext_in (drop (reply_head p) body)) (range_with_len 0 (reply_planes p (reply_counts p body))))

-- and the body is a reply
pub IsReply-opened : {E : Type 0} (p : Parameters) (key : List ℤ) (body : List ℕ) (n : ℕ) (cs : List ℕ) (rs : List (Result (List ℕ) E)) (ys : List (List ℕ)) → IsReplyHead p body → n ≡ reply_planes p (reply_counts p body) → cs ≡ range_with_len 0 n
    → AllZip (λ c r. IfOk r (IsOpenedPlane p key body c)) cs rs → rs ≡ map Ok ys → IsReply p body
IsReply-opened {E} p key body n cs rs ys head number from all e =
    let all_n = subst (λ (xs : List ℕ). AllZip (λ c r. IfOk r (IsOpenedPlane p key body c)) xs rs) from all in
    let are = each-opened p key body 0 n rs ys all_n e in
    record { head = head; fit = λ i lt. are.below i (omega arith) (omega (arith, number, lt)) }

-- ---- the items

-- what each item opens to, one after another
pub lists-joined : {V : Type 0} (view : V → List Found) (reply : OpenedReply) (placed : List Placed) (lists : List V) → map view lists ≡ map (opened_item reply) placed → flat_map view lists ≡ opened reply placed
unfolding opened
lists-joined view reply placed lists e =
    sym (flat_map-map (λ ys. ys) view lists) ∙ ap (flat_map (λ ys. ys)) e ∙ flat_map-map (λ ys. ys) (opened_item reply) placed
