-- The receipts of a builder, one after another.
use Rattle.std.proofs.Common.{◌≡◌, ℕ, ◌≤◌, inl, List, [], ◌∷◌, ◌++◌, length, map, Some, None, refl, sym, ap, ◌∙◌, subst, arith}
use Rattle.std.specs.List.{All}
use Rattle.std.proofs.lemmas.List.{append-nil, map-append}
use Rattle.std.proofs.lemmas.Option.{none-some}
use Rattle.std.proofs.lemmas.List.Elements.{All-push, All-weaker, All-nil}
use Rattle.std.proofs.lemmas.List.Quantifiers.{all_pairs_push}
use Rattle.psi_turnstile.specs.Counting.{IsPrefix}
use Rattle.psi_bundle.specs.declared.history.Entry.{Entry}
use Rattle.sender_core.specs.declared.receipt.Now.{Now}
use Rattle.sender_core.specs.declared.install.Install.{Install}
use Rattle.sender_core.specs.declared.install.Install.TheVariants.{Installed, Stale}
use Rattle.sender_core.specs.Kept.{Job}
use Rattle.sender_core.specs.Tries.{Tried}
use Rattle.bundle_cache.specs.Caches.{CacheOf}
use Rattle.live_sender.specs.declared.origin.Origin.{Origin}
use Rattle.live_sender.specs.Histories.{first_version}
use Rattle.live_sender.specs.Turns.{Known}
use Rattle.live_sender.specs.Tries.{IsTriedAt, NamesIfInstalled, receipt_at}
use Rattle.live_sender.proofs.Going.{named-goes}
use Rattle.live_sender.proofs.Prefixes.{prefix-length, prefix-then}
use Rattle.psi_rebuilder.specs.Building.{HasTurned, IsFetched, IsOfJob, NamesUnlessStale, RiseWithin}
use Rattle.psi_rebuilder.specs.Outcomes.{IsReceipt}
use Rattle.psi_rebuilder.proofs.Seats.{turned-base, turned-follows, turned-then}

-- ---- moments

pub rise-none : (low high : ℕ) → RiseWithin low high []
rise-none low high = record { rise = λ i j d before within. absurd (omega arith); within = λ k d lt. absurd (omega arith) }

-- one more, at the end
pub rise-more : (low high : ℕ) (ms : List ℕ) → low ≤ high → RiseWithin low high ms → RiseWithin low high (ms ++ high ∷ [])
rise-more low high ms le h = record {
  rise = all_pairs_push (λ m n. m ≤ n) ms high h.rise (λ k d lt. (h.within k d lt).1);
  within = All-push (λ m. (low ≤ m) × (m ≤ high)) ms high h.within (le, omega arith);
}

rise-further : (low high more : ℕ) (ms : List ℕ) → high ≤ more → RiseWithin low high ms → RiseWithin low more ms
rise-further low high more ms le h = record {
  rise = h.rise;
  within = All-weaker (λ m. (low ≤ m) × (m ≤ high)) (λ m. (low ≤ m) × (m ≤ more)) (λ m is. (is.0, omega (arith, is.1, le))) ms h.within;
}

-- ---- what is done so far

-- a builder has gone from v to w, with these receipts
pub record HasBuilt (skip : ℕ) (v w : Known) (receipts : List Tried) : Type 0 where
  pub turned : HasTurned v w
  pub own : w.own ≡ v.own
  pub moments : RiseWithin (length v.seen) (length w.seen) (map (λ r. r.at) receipts)
  pub named : (z : Origin) → v.base ≡ Some z → All (NamesUnlessStale z w.seen) receipts
  pub fetched : (z : Origin) → v.base ≡ Some z → All (IsFetched z skip w.seen) receipts

pub built-none : (skip : ℕ) (v : Known) (receipts : List Tried) → receipts ≡ [] → HasBuilt skip v v receipts
built-none skip v receipts none =
    subst (λ (rs : List Tried). HasBuilt skip v v rs) (sym none)
    (record {
      turned = inl refl;
      own = refl;
      moments = rise-none (length v.seen) (length v.seen);
      named = λ z e. All-nil (NamesUnlessStale z v.seen);
      fetched = λ z e. All-nil (IsFetched z skip v.seen);
    })

-- a bundle that was fetched, as the history goes on
fetched-goes : (z : Origin) (skip : ℕ) (es fs : List Entry) → IsPrefix es fs → (r : Tried) → IsFetched z skip es r → IsFetched z skip fs r
fetched-goes z skip es fs longer r h = record { seen = h.seen; begins = prefix-then h.seen es fs h.begins longer; before = h.before; task = h.task; bare = h.bare; told = h.told }

-- turns that bring no receipt
pub built-then : (skip : ℕ) (v u w : Known) (receipts : List Tried) → HasBuilt skip v u receipts → HasTurned u w → w.own ≡ u.own → HasBuilt skip v w receipts
built-then skip v u w receipts h turned own =
    let longer = turned-follows u w turned in
    record {
      turned = turned-then v u w h.turned turned;
      own = own ∙ h.own;
      moments = rise-further (length v.seen) (length u.seen) (length w.seen) (map (λ r. r.at) receipts) (prefix-length u.seen w.seen longer) h.moments;
      named = λ z e.
          All-weaker (NamesUnlessStale z u.seen) (NamesUnlessStale z w.seen) (λ r names none. named-goes (first_version z) u.seen w.seen longer r (names none)) receipts (h.named z e);
      fetched = λ z e. All-weaker (IsFetched z skip u.seen) (IsFetched z skip w.seen) (fetched-goes z skip u.seen w.seen longer) receipts (h.fetched z e);
    }

-- one receipt more
pub built-more : (skip : ℕ) (v u w : Known) (receipts : List Tried) (r : Tried) → HasBuilt skip v u receipts → HasTurned u w → w.own ≡ u.own → IsReceipt u w r
    → ((z : Origin) → u.base ≡ Some z → IsFetched z skip w.seen r) → HasBuilt skip v w (receipts ++ r ∷ [])
built-more skip v u w receipts r before turned own is fetched =
    let h = built-then skip v u w receipts before turned own in
    let reached = prefix-length v.seen w.seen (turned-follows v w h.turned) in
    let more = rise-more (length v.seen) (length w.seen) (map (λ r. r.at) receipts) reached h.moments in
    let moments : map (λ r. r.at) receipts ++ length w.seen ∷ [] ≡ map (λ r. r.at) (receipts ++ r ∷ []) =
    ap (λ (n : ℕ). map (λ r. r.at) receipts ++ n ∷ []) (sym is.moment) ∙ sym (map-append (λ (r : Tried). r.at) receipts (r ∷ [])) in
    record {
      turned = h.turned;
      own = h.own;
      moments = subst (λ (ms : List ℕ). RiseWithin (length v.seen) (length w.seen) ms) moments more;
      named = λ z e. All-push (NamesUnlessStale z w.seen) receipts r (h.named z e) (is.named z (turned-base v u before.turned ∙ e));
      fetched = λ z e. All-push (IsFetched z skip w.seen) receipts r (h.fetched z e) (fetched z (turned-base v u before.turned ∙ e));
    }

-- the receipts in other words
pub built-told : (skip : ℕ) (v w : Known) (receipts same : List Tried) → same ≡ receipts → HasBuilt skip v w receipts → HasBuilt skip v w same
built-told skip v w receipts same is h = subst (λ (rs : List Tried). HasBuilt skip v w rs) (sym is) h

-- ---- the moments at the end

pub moments-none : (skip : ℕ) (v w : Known) (receipts : List Tried) → HasBuilt skip v w receipts → RiseWithin (length v.seen) (length w.seen) (map (λ r. r.at) receipts ++ [])
moments-none skip v w receipts h = subst (λ (ms : List ℕ). RiseWithin (length v.seen) (length w.seen) ms) (sym (append-nil (map (λ r. r.at) receipts))) h.moments

pub moments-all : (skip : ℕ) (v w : Known) (receipts : List Tried) (place : ℕ) → place ≡ length w.seen → HasBuilt skip v w receipts → RiseWithin (length v.seen) (length w.seen) (map (λ r. r.at) receipts ++ place ∷ [])
moments-all skip v w receipts place is h =
    let reached = prefix-length v.seen w.seen (turned-follows v w h.turned) in
    subst (λ (n : ℕ). RiseWithin (length v.seen) (length w.seen) (map (λ r. r.at) receipts ++ n ∷ [])) (sym is) (rise-more (length v.seen) (length w.seen) (map (λ r. r.at) receipts) reached h.moments)

-- ---- the receipt of one try

-- told by what the seat knew before it fetched
pub receipt-before : (v u w : Known) (r : Tried) → u.base ≡ v.base → IsReceipt u w r → IsReceipt v w r
receipt-before v u w r same is = record { moment = is.moment; named = λ z e. is.named z (same ∙ e) }

module _ (v w : Known) (y : Origin) (t : Job) (c : CacheOf) (answer : Install CacheOf) (base : v.base ≡ Some y) (tried : (z : Origin) → v.base ≡ Some z → IsTriedAt (first_version z) w.seen t c answer) where
  -- a cache that was put in
  pub installed-told : (receipt : Tried) → answer ≡ Installed receipt → receipt ≡ receipt_at w.seen t None
  installed-told receipt is = (subst (λ (a : Install CacheOf). IsTriedAt (first_version y) w.seen t c a) is (tried y base)).0

  pub installed-receipt : (receipt : Tried) → answer ≡ Installed receipt → ((z : Origin) → v.base ≡ Some z → NamesIfInstalled (first_version z) w.seen answer) → IsReceipt v w receipt
  installed-receipt receipt is names = record {
    moment = ap (λ (r : Tried). r.at) (installed-told receipt is);
    named = λ z e none. subst (λ (a : Install CacheOf). NamesIfInstalled (first_version z) w.seen a) is (names z e);
  }

  pub installed-job : (receipt : Tried) → answer ≡ Installed receipt → IsOfJob t receipt
  installed-job receipt is = let told = installed-told receipt is in (ap (λ (r : Tried). r.row) told, ap (λ (r : Tried). r.index) told, ap (λ (r : Tried). r.stamp) told)

  -- one that came too late
  pub stale-told : (receipt : Tried) (back : CacheOf) → answer ≡ Stale receipt back → (back ≡ c) × ((now : Now) × (receipt ≡ receipt_at w.seen t (Some now)))
  stale-told receipt back is = let at_stale = subst (λ (a : Install CacheOf). IsTriedAt (first_version y) w.seen t c a) is (tried y base) in (at_stale.0, (at_stale.1.0, at_stale.1.1))

  pub stale-receipt : (receipt : Tried) (back : CacheOf) → answer ≡ Stale receipt back → IsReceipt v w receipt
  stale-receipt receipt back is =
      let told = stale-told receipt back is in
      record {
        moment = ap (λ (r : Tried). r.at) told.1.1;
        named = λ z e none. absurd (none-some told.1.0 (sym none ∙ ap (λ (r : Tried). r.instead) told.1.1));
      }

  pub stale-job : (receipt : Tried) (back : CacheOf) → answer ≡ Stale receipt back → IsOfJob t receipt
  stale-job receipt back is =
      let told = (stale-told receipt back is).1.1 in
      (ap (λ (r : Tried). r.row) told, ap (λ (r : Tried). r.index) told, ap (λ (r : Tried). r.stamp) told)
