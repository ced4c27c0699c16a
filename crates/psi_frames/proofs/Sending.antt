-- The text of replies with their addresses, one by one.
use Rattle.std.specs.Prelude.{◌≡◌, ℕ, suc, ◌+◌, ◌<◌, ◌≤◌, List, [], ◌∷◌, ◌++◌, length, map, drop, slice_index_or}
use Rattle.std.proofs.Common.{refl, sym, ap, ◌∙◌, arith, append_assoc, append-nil}
use Rattle.std.proofs.Math.Seq.{drop-cons}
use Rattle.std.proofs.lemmas.List.{drop_all}
use Rattle.psi_frames.specs.declared.reply.Reply.{Reply}
use Rattle.psi_frames.specs.declared.request.Request.{Request}
use Rattle.psi_frames.specs.Frames.{reply_frame_bytes}
use Rattle.psi_frames.specs.Requests.{number_of, session_of}
use Rattle.psi_frames.specs.Served.{Sent, addressed, text_of}
use Rattle.psi_frames.specs.declared.texts.Address.{Address}
use Rattle.psi_frames.specs.Texts.{address_of, sent_to}

-- what is written, and the text of the replies that are left
abbrev pub left_text : List Address → List Reply → ℕ → List ℕ
left_text addresses replies i = text_of (sent_to (drop i addresses) (drop i replies))

next_sent : (addresses : List Address) (replies : List Reply) (a : Address) (r : Reply) → text_of (sent_to (a ∷ addresses) (r ∷ replies)) ≡ reply_frame_bytes a.session a.number r ++ text_of (sent_to addresses replies)
unfolding sent_to
next_sent addresses replies a r = refl

dropped : {X : Type 0} (xs : List X) (i : ℕ) (x d : X) → i < length xs → x ≡ slice_index_or xs i d → drop i xs ≡ x ∷ drop (i + 1) xs
dropped {X} xs i x d lt here =
    let next : suc i ≡ i + 1 = omega arith in
    drop-cons xs i d lt ∙ ap (λ (y : X). y ∷ drop (suc i) xs) (sym here) ∙ ap (λ (n : ℕ). x ∷ drop n xs) next

pub text-more : (addresses : List Address) (replies : List Reply) (i : ℕ) (a d : Address) (r : Reply) (text whole : List ℕ) → i < length addresses → i < length replies
    → a ≡ slice_index_or addresses i d → r ≡ slice_index_or replies i r → text ++ left_text addresses replies i ≡ whole
    → (text ++ reply_frame_bytes a.session a.number r) ++ left_text addresses replies (i + 1) ≡ whole
text-more addresses replies i a d r text whole la lr ha hr told =
    append_assoc text (reply_frame_bytes a.session a.number r) (left_text addresses replies (i + 1))
    ∙ ap (λ (t : List ℕ). text ++ t)
    (sym ((λ k. text_of (sent_to (dropped addresses i a d la ha k) (dropped replies i r r lr hr k))) ∙ next_sent (drop (i + 1) addresses) (drop (i + 1) replies) a r))
    ∙ told

none_sent : text_of (sent_to [] []) ≡ []
unfolding sent_to
none_sent = refl

pub text-all : (addresses : List Address) (replies : List Reply) (i : ℕ) (text whole : List ℕ) → length replies ≤ i → length replies ≡ length addresses
    → text ++ left_text addresses replies i ≡ whole → text ≡ whole
text-all addresses replies i text whole le same told =
    let none_a : drop i addresses ≡ [] = drop_all i addresses (omega (arith, le, same)) in
    let none_r : drop i replies ≡ [] = drop_all i replies le in
    sym (append-nil text) ∙ ap (λ (t : List ℕ). text ++ t) (sym ((λ k. text_of (sent_to (none_a k) (none_r k))) ∙ none_sent)) ∙ told

-- they are the replies to the requests
pub sent-addressed : (requests : List Request) (replies : List Reply) → sent_to (map address_of requests) replies ≡ addressed requests replies
unfolding sent_to
sent-addressed [] replies = refl
sent-addressed (r ∷ rs) [] = refl
sent-addressed (r ∷ rs) (y ∷ ys) = ap (λ (s : List Sent). record { session = session_of r; number = number_of r; reply = y } ∷ s) (sent-addressed rs ys)
