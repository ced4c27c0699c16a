-- A set of which nothing was served yet.
use Rattle.std.specs.Prelude.{◌≡◌, ℕ, Bool, true, List, [], Option, Some, IfSome}
use Rattle.std.proofs.Common.{refl, sym, ap, ◌∙◌, subst}
use Rattle.std.proofs.lemmas.List.Elements.{All-nil}
use Rattle.psi_residue.specs.Parameters.{Parameters}
use Rattle.psi_bundle.specs.declared.history.Entry.{Entry}
use Rattle.psi_bundle.specs.declared.member.Member.{Member}
use Rattle.psi_bundle.specs.Histories.{IsLegal}
use Rattle.psi_bundle.specs.Versions.{Version}
use Rattle.psi_frames.specs.declared.frame.Frame.{Frame}
use Rattle.psi_frames.specs.Served.{IsServed}
use Rattle.psi_frames.proofs.Joins.{none_lane, none_served}
use Rattle.query_pool.specs.Servers.{IsBeginning}
use Rattle.sender_core.specs.Kept.{Contents, IsConsistent, start_of}
use Rattle.psi_serve.specs.Books.{IsBookUnder, IsOwnBook}
use Rattle.psi_serve.specs.Serving.{AreServedAlong, HasServedFrom, IsUnmoved, ServeSet, SetKind, kind_of, one_set}

-- no rounds are served by no replies
none-along : (p : Parameters) (start : Version) (alone : Bool) (journal : List Entry) → journal ≡ [] → AreServedAlong p start alone journal [] []
none-along p start alone journal none = record {
  served = subst (λ (j : List Entry). IsServed p start [] j [] []) (sym none) (none_served p start [] tt);
  one_lane = λ _. none_lane;
  unmoved = λ _. All-nil IsUnmoved;
}

pub none-serve : (alone : Bool) (start : Version) → ServeSet alone (Some start) [] []
none-serve alone start = ([], none-along start.parameters start alone [] refl)

module _ {C : Type 0} (alone : Bool) (book : Contents C) (own : Option (Contents C)) (waiting : List Frame) (is : own ≡ Some book) (none_waits : waiting ≡ []) (none_entered : book.journal ≡ []) where
  pub begins : IsBeginning (one_set (kind_of alone own)) (λ rounds sents w. (waiting ≡ w) × HasServedFrom alone own rounds sents)
  begins = record {
    state = (
      none_waits,
      subst (λ (b : Option (Contents C)). HasServedFrom alone b [] []) (sym is) (none-along book.parameters (start_of book) alone book.journal none_entered),
    );
    serves = subst (λ (k : SetKind). ServeSet k.alone k.start [] []) (sym (ap (kind_of alone) is)) (none-serve alone (start_of book));
  }

-- a book with these parameters
pub under-of : {C : Type 0} (contents : C → List (List Member)) (under : C → List ℕ → Type 0) (p : Parameters) (book : Contents C) (own : Option (Contents C)) → own ≡ Some book → IsConsistent contents under book → book.parameters ≡ p
    → IsOwnBook p own
under-of {C} contents under p book own is consistent same =
    subst (λ (b : Option (Contents C)). IfSome b (IsBookUnder p)) (sym is) (record { parameters = same; legal = consistent.legal; leads = consistent.replayed; no_stamps = consistent.begun.no_stamps })
