-- One request after another: what is told so far, and what is left, is all of it.
use Rattle.std.specs.Prelude.{◌≡◌, suc, List, [], ◌∷◌, ◌++◌, length, map}
use Rattle.std.specs.List.{All, fold}
use Rattle.std.proofs.Common.{refl, sym, ap, ◌∙◌, subst, arith, append_assoc}
use Rattle.std.proofs.lemmas.List.{append-nil}
use Rattle.std.proofs.lemmas.List.Elements.{All-push, All-tail}
use Rattle.psi_residue.specs.Parameters.{Parameters}
use Rattle.bundle_cache.specs.Caches.{CacheOf}
use Rattle.psi_bundle.specs.Versions.{Version}
use Rattle.psi_frames.specs.declared.reply.Reply.{Reply}
use Rattle.psi_frames.specs.declared.request.Request.{Request}
use Rattle.psi_frames.specs.Frames.{answer_fits}
use Rattle.psi_frames.specs.OneLane.{call_on, entries_by, lane_history, lane_next, lane_replies, lane_reply}
use Rattle.psi_frames.specs.Requests.{IsFit, number_of, session_of}
use Rattle.psi_frames.specs.Served.{Sent, addressed}
use Rattle.sender_core.specs.Kept.{Contents, version_of}
use Rattle.query_pool.specs.Alone.{IsAnsweredAlone}
use Rattle.query_pool.specs.Rounds.{IsNoMoved}

-- the replies alone
abbrev pub replies_alone : List Sent → List Reply
replies_alone sents = map (λ s. s.reply) sents

-- A round on its way: from a book, behind some of its requests.
pub record IsUnderWay (p : Parameters) (given : Contents CacheOf) (all : List Request) (left : List Request) (now : Contents CacheOf) (told : List Reply) : Type 0 where
  pub replies : told ++ replies_alone (lane_replies p (version_of now) left) ≡ replies_alone (lane_replies p (version_of given) all)
  pub entries : now.journal ++ lane_history (version_of now) left ≡ given.journal ++ lane_history (version_of given) all
  pub version : fold lane_next (version_of now) left ≡ fold lane_next (version_of given) all
  pub parameters : now.parameters ≡ given.parameters
  pub start : now.start ≡ given.start
  pub fit : All (IsFit p) left
  pub unmoved : All IsNoMoved told
  pub fits : All answer_fits told

-- one request more
pub under_way-more : (p : Parameters) (given now next : Contents CacheOf) (all rs : List Request) (r : Request) (told : List Reply) (t : Reply)
    → IsUnderWay p given all (r ∷ rs) now told → IsAnsweredAlone p now next r t → IsNoMoved t → answer_fits t → IsUnderWay p given all rs next (told ++ t ∷ [])
unfolding lane_replies lane_history
under_way-more p given now next all rs r told t h a moved fits =
    let v = version_of now in
    let w = version_of next in
    record {
      replies =
          append_assoc told (t ∷ []) (replies_alone (lane_replies p w rs))
          ∙ (λ i. told ++ a.reply i ∷ replies_alone (lane_replies p (a.version i) rs)) ∙ h.replies;
      entries =
          (λ i. a.entries i ++ lane_history (a.version i) rs)
          ∙ append_assoc now.journal (entries_by v (call_on v r)) (lane_history (lane_next v r) rs) ∙ h.entries;
      version = ap (λ (x : Version). fold lane_next x rs) a.version ∙ h.version;
      parameters = a.parameters ∙ h.parameters;
      start = a.start ∙ h.start;
      fit = All-tail (IsFit p) r rs h.fit;
      unmoved = All-push IsNoMoved told t h.unmoved moved;
      fits = All-push answer_fits told t h.fits fits;
    }

-- with equal replies
pub under_way-told : (p : Parameters) (given now : Contents CacheOf) (all left : List Request) (told same : List Reply) → told ≡ same → IsUnderWay p given all left now told → IsUnderWay p given all left now same
under_way-told p given now all left told same is h = subst (λ (ts : List Reply). IsUnderWay p given all left now ts) is h

pub under_way-first : (p : Parameters) (given : Contents CacheOf) (all : List Request) → All (IsFit p) all → IsUnderWay p given all all given []
under_way-first p given all fit = record {
  replies = refl;
  entries = refl;
  version = refl;
  parameters = refl;
  start = refl;
  fit = fit;
  unmoved = λ k d lt. absurd (omega arith);
  fits = λ k d lt. absurd (omega arith);
}

-- ---- behind the last request

pub all-told : (p : Parameters) (given now : Contents CacheOf) (all left : List Request) (told : List Reply) → left ≡ [] → IsUnderWay p given all left now told
    → told ≡ replies_alone (lane_replies p (version_of given) all)
unfolding lane_replies
all-told p given now all left told none h = sym (append-nil told) ∙ ap (λ (rs : List Request). told ++ replies_alone (lane_replies p (version_of now) rs)) (sym none) ∙ h.replies

pub all-entered : (p : Parameters) (given now : Contents CacheOf) (all left : List Request) (told : List Reply) → left ≡ [] → IsUnderWay p given all left now told
    → now.journal ≡ given.journal ++ lane_history (version_of given) all
unfolding lane_history
all-entered p given now all left told none h = sym (append-nil now.journal) ∙ ap (λ (rs : List Request). now.journal ++ lane_history (version_of now) rs) (sym none) ∙ h.entries

pub all-behind : (p : Parameters) (given now : Contents CacheOf) (all left : List Request) (told : List Reply) → left ≡ [] → IsUnderWay p given all left now told
    → version_of now ≡ fold lane_next (version_of given) all
all-behind p given now all left told none h = ap (λ (rs : List Request). fold lane_next (version_of now) rs) (sym none) ∙ h.version

-- the replies with the addresses of their requests
addressed-lane : (p : Parameters) (v : Version) (rs : List Request) → addressed rs (replies_alone (lane_replies p v rs)) ≡ lane_replies p v rs
unfolding lane_replies
addressed-lane p v [] = refl
addressed-lane p v (r ∷ rs) = ap (λ (sents : List Sent). record { session = session_of r; number = number_of r; reply = lane_reply p v r } ∷ sents) (addressed-lane p (lane_next v r) rs)

pub addressed-told : (p : Parameters) (v : Version) (rs : List Request) (told : List Reply) → told ≡ replies_alone (lane_replies p v rs) → addressed rs told ≡ lane_replies p v rs
addressed-told p v rs told is = ap (addressed rs) is ∙ addressed-lane p v rs

-- one for each request
length-lane : (p : Parameters) (v : Version) (rs : List Request) → length (replies_alone (lane_replies p v rs)) ≡ length rs
unfolding lane_replies
length-lane p v [] = refl
length-lane p v (r ∷ rs) = ap suc (length-lane p (lane_next v r) rs)

pub length-told : (p : Parameters) (v : Version) (rs : List Request) (told : List Reply) → told ≡ replies_alone (lane_replies p v rs) → length told ≡ length rs
length-told p v rs told is = ap length is ∙ length-lane p v rs
