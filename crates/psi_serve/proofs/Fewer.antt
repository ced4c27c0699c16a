-- The entries of a history: the replies that have a place.
use Rattle.std.specs.Prelude.{◌≡◌, ℕ, ◌+◌, Bool, List, [], ◌∷◌, length, Option, None, Some}
use Rattle.std.specs.List.{filter_map}
use Rattle.std.proofs.Common.{refl, sym, ap, ◌∙◌, arith, subst}
use Rattle.psi_residue.specs.Parameters.{Parameters}
use Rattle.psi_bundle.specs.declared.history.Entry.{Entry}
use Rattle.psi_bundle.specs.Versions.{Version}
use Rattle.psi_frames.specs.declared.frame.Frame.{Frame}
use Rattle.psi_frames.specs.declared.request.Request.{Request}
use Rattle.psi_frames.specs.Rounds.{request_rounds}
use Rattle.psi_frames.specs.Served.{HaveOneReplyEach, Sent, all_places, exchanges, numbered, place_of}
use Rattle.psi_frames.proofs.Lanes.{paired}
use Rattle.psi_frames.proofs.Renumbered.{length-numbered, length-replies}
use Rattle.query_pool.specs.Serving.{entries_of}
use Rattle.sender_core.specs.Kept.{Contents, start_of}
use Rattle.psi_serve.specs.Serving.{AreServedAlong, HasServedFrom}

-- the places of the exchanges are those of the replies
places-paired : (ns : List (ℕ × Request)) (sents : List Sent) → length ns ≡ length sents → all_places (paired ns sents) ≡ filter_map (λ s. place_of s.reply) sents
places-paired [] [] e = refl
places-paired [] (s ∷ sents) e = absurd (omega (arith, e))
places-paired (n ∷ ns) [] e = absurd (omega (arith, e))
places-paired (n ∷ ns) (s ∷ sents) e = simp (places-paired ns sents (omega (arith, e)))

places-entries : (rounds : List (List Request)) (sents : List Sent) → HaveOneReplyEach rounds sents → length (all_places (exchanges rounds sents)) ≡ entries_of sents
places-entries rounds sents each = ap length (places-paired (numbered rounds) sents (length-numbered rounds ∙ sym (length-replies rounds sents each)))

pub entries-along : (p : Parameters) (start : Version) (alone : Bool) (history : List Entry) (rounds : List (List Frame)) (sents : List Sent) → AreServedAlong p start alone history rounds sents
    → length history ≡ entries_of sents
entries-along p start alone history rounds sents along =
    let places = places-entries (request_rounds p rounds) sents along.served.one_each in
    omega (arith, along.served.served.history_of.no_others, places)

-- of a book that is there, and of none
pub entries-some : {C : Type 0} (alone : Bool) (book : Option (Contents C)) (own : Contents C) (rounds : List (List Frame)) (sents : List Sent) (n : ℕ) → book ≡ Some own → n ≡ length own.journal
    → HasServedFrom alone book rounds sents → n ≡ entries_of sents
entries-some {C} alone book own rounds sents n is counted had =
    counted ∙ entries-along own.parameters (start_of own) alone own.journal rounds sents (subst (λ (b : Option (Contents C)). HasServedFrom alone b rounds sents) is had)

pub entries-none : {C : Type 0} (alone : Bool) (book : Option (Contents C)) (rounds : List (List Frame)) (sents : List Sent) → book ≡ None → HasServedFrom alone book rounds sents → 0 ≡ entries_of sents
entries-none {C} alone book rounds sents is had = absurd (subst (λ (b : Option (Contents C)). HasServedFrom alone b rounds sents) is had)
