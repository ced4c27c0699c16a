-- The members of a sound version are found, and so are items that it has.
use Rattle.std.proofs.Common.{◌≡◌, ◌≢◌, ℕ, zero, suc, ◌+◌, ◌*◌, ◌/◌, ◌%◌, ◌<◌, ◌≤◌, Bool, true, false, cond, ◌&&◌, List, [], ◌∷◌, length, get_or, map, take, drop, Option, None, Some, refl, ap, subst, ◌∙◌, sym, inl, inr, arith}
use Rattle.std.specs.Prelude.{nat_eq}
use Rattle.std.specs.FinMap as fin
use Rattle.std.specs.List.{All, Contains, count_by, filter, flat_map, list_all, list_any, range_with_len}
use Rattle.std.proofs.lemmas.Bool.{cases_Bool, cases_eq, cases_lt}
use Rattle.std.proofs.lemmas.List.{drop-drop, get_or_default, get_or-map, length-map, take_all}
use Rattle.std.proofs.lemmas.List.Elements.{All-map, Contains-append_left, Contains-append_right}
use Rattle.std.proofs.lemmas.List.FromFn.{get_or-map-range_with_len, length-map-range_with_len}
use Rattle.std.proofs.lemmas.List.Sums.{sum_by-cons}
use Rattle.std.proofs.lemmas.Slice.Eq.{bytes_eq-Decides}
use Rattle.psi_residue.specs.Parameters.{Parameters}
use Rattle.item_slots.specs.Tags.{parts, positions_of, slot_value, tag_of}
use Rattle.cuckoo_place.specs.Placements.{IsPlacement}
use Rattle.noise_ledger.specs.Verdicts.{ArePassed}
use Rattle.query_codec.proofs.Pieces.{pieces}
use Rattle.psi_bundle.specs.declared.member.Member.{Member}
use Rattle.psi_bundle.specs.Bins.{AreApart, bin_at, roots_of, same_tag}
use Rattle.psi_bundle.specs.Histories.{AreBytes, HoldBytes}
use Rattle.psi_bundle.specs.Versions.{Row, Stamped, Version, row_at, bins_at, standing, IsSound}
use Rattle.psi_receiver.specs.declared.found.Found.{Found}
use Rattle.psi_receiver.specs.declared.placement.Placed.{Placed}
use Rattle.psi_receiver.specs.Findings.{bin_in, has_roots, root_label, found_label, found_at, found_item, found}
use Rattle.psi_receiver.specs.Laws.{answer_to, item_at}
use Rattle.psi_receiver.specs.Placements.{placed_tags, placed_item, position_sets}
use Rattle.psi_receiver.proofs.Bins.{HasRoot, one_member, root-found, root-of_member}
use Rattle.psi_receiver.proofs.Joined.{opened-found, placed-own}
use Rattle.psi_receiver.proofs.Labels.{labels-same, root_label-is}
use Rattle.psi_receiver.proofs.Strangers.{contains-later}
use Rattle.psi_receiver.proofs.TagBytes.{tag_of-bytes}

-- ---- elements of lists

contains-first : {X : Type 0} (x : X) (xs : List X) → Contains (x ∷ xs) x
contains-first x xs = (zero, omega arith, refl)

contains-mapped : {X Y : Type 0} (f : X → Y) (xs : List X) (x : X) → Contains xs x → Contains (map f xs) (f x)
contains-mapped f xs x (k, lt, same) = (k, omega (arith, lt, length-map xs f), get_or-map f xs k x (f x) lt ∙ ap f same)

contains-flat : {X Y : Type 0} (f : X → List Y) (xs : List X) (x : X) (y : Y) (k : ℕ) → k < length xs → get_or xs k x ≡ x → Contains (f x) y → Contains (flat_map f xs) y
contains-flat f [] x y k lt same h = absurd (omega arith)
contains-flat {X} {Y} f (z ∷ xs) x y zero lt same h = Contains-append_left (f z) (flat_map f xs) y (subst (λ (u : X). Contains (f u) y) (sym same) h)
contains-flat f (z ∷ xs) x y (suc k) lt same h = Contains-append_right (f z) (flat_map f xs) y (contains-flat f xs x y k (omega arith) same h)

contains-kept : (b : Bool) (u : ℕ) (us : List ℕ) → b ≡ true → Contains (cond b (u ∷ us) us) u
contains-kept true u us e = contains-first u us
contains-kept false u us e = absurd cc

contains-passed : (b : Bool) (v : ℕ) (us : List ℕ) (u : ℕ) → Contains us u → Contains (cond b (v ∷ us) us) u
contains-passed true v us u h = contains-later v us u h
contains-passed false v us u h = h

contains-filtered : (test : ℕ → Bool) (a n u : ℕ) → a ≤ u → u < a + n → test u ≡ true → Contains (filter test (range_with_len a n)) u
contains-filtered test a zero u low high passes = absurd (omega arith)
contains-filtered test a (suc n) u low high passes =
    elim (cases_eq u a) [
      | inl same ↦
          subst (λ (k : ℕ). Contains (filter test (range_with_len a (suc n))) k) (sym same)
          (contains-kept (test a) a (filter test (range_with_len (a + 1) n)) (ap test (sym same) ∙ passes))
      | inr other ↦ contains-passed (test a) a (filter test (range_with_len (a + 1) n)) u (contains-filtered test (a + 1) n u (omega arith) (omega arith) passes)
    ]

-- ---- a tag that stands in a row stands in a bundle

abbrev held : List Member → List ℕ → ℕ
held bin tag = count_by (λ m. same_tag m.tag tag) bin

abbrev one_if : Bool → ℕ
one_if b = cond b 1 0

-- a member with the tag
pub record Holds (bin : List Member) (tag : List ℕ) : Type 0 where
  pub member : Member
  pub number : ℕ
  pub within : number < length bin
  pub stands : get_or bin number member ≡ member
  pub same : member.tag ≡ tag

holds-later : (m : Member) (bin : List Member) (tag : List ℕ) → Holds bin tag → Holds (m ∷ bin) tag
holds-later m bin tag h = record { member = h.member; number = suc h.number; within = let within = h.within in omega arith; stands = h.stands; same = h.same }

held-member : (bin : List Member) (tag : List ℕ) → 0 < held bin tag → Holds bin tag
held-member [] tag some = absurd (omega (arith, some))
held-member (m ∷ bin) tag some =
    elim (cases_Bool (same_tag m.tag tag)) [
      | inl equal ↦ record { member = m; number = 0; within = omega arith; stands = refl; same = (bytes_eq-Decides m.tag tag).0 equal }
      | inr other ↦
          let cons : held (m ∷ bin) tag ≡ one_if (same_tag m.tag tag) + held bin tag = sum_by-cons (λ (x : Member). one_if (same_tag x.tag tag)) m bin in
          let none : one_if (same_tag m.tag tag) ≡ 0 = ap one_if other in
          holds-later m bin tag (held-member bin tag (omega (arith, some, cons, none)))
    ]

-- a bundle of the row whose bin holds the tag
pub record StandsAt (row : Row) (b : ℕ) (tag : List ℕ) : Type 0 where
  pub bundle : ℕ
  pub within : bundle < length row
  pub holds : Holds (bin_at (bins_at row bundle) b) tag

stands-later : (x : Stamped) (row : Row) (b : ℕ) (tag : List ℕ) → StandsAt row b tag → StandsAt (x ∷ row) b tag
stands-later x row b tag h = record { bundle = suc h.bundle; within = let within = h.within in omega arith; holds = h.holds }

standing-bundle : (row : Row) (b : ℕ) (tag : List ℕ) → 0 < standing row b tag → StandsAt row b tag
standing-bundle [] b tag some = absurd (omega (arith, some))
standing-bundle (x ∷ row) b tag some =
    elim (cases_lt 0 (held (bin_at x.bins b) tag)) [
      | inl here ↦ record { bundle = 0; within = omega arith; holds = held-member (bin_at x.bins b) tag here }
      | inr none ↦
          let cons : standing (x ∷ row) b tag ≡ held (bin_at x.bins b) tag + standing row b tag = sum_by-cons (λ (n : ℕ). n) (held (bin_at x.bins b) tag) (map (λ u. held (bin_at u.bins b) tag) row) in
          stands-later x row b tag (standing-bundle row b tag (omega (arith, some, cons, none)))
    ]

-- ---- the member's slot values are roots, and its label is found

all_five : (f : ℕ → Bool) → ((part : ℕ) → part < 5 → f part ≡ true) → list_all f parts ≡ true
all_five f h = λ i. h 0 (omega arith) i && (h 1 (omega arith) i && (h 2 (omega arith) i && (h 3 (omega arith) i && (h 4 (omega arith) i && true))))

root-there : (bin : List Member) (tag : List ℕ) (part : ℕ) → (h : Holds bin tag) → list_any (nat_eq (slot_value tag part)) (roots_of bin part) ≡ true
root-there bin tag part h =
    root-of_member bin part h.number (slot_value tag part) h.member h.within h.stands (ap (λ (t : List ℕ). slot_value t part) (sym h.same))

roots-there : (bin : List Member) (tag : List ℕ) → Holds bin tag → has_roots bin tag ≡ true
unfolding has_roots
roots-there bin tag h = all_five (λ part. list_any (nat_eq (slot_value tag part)) (roots_of bin part)) (λ part lt. root-there bin tag part h)

-- the member with a part's slot value is the one that has the tag
same-member : (bin : List Member) (tag : List ℕ) (part : ℕ) → AreApart bin → part < 5 → (h : Holds bin tag) → (r : HasRoot bin (slot_value tag part) part) → r.member ≡ h.member
same-member bin tag part apart lt h r =
    sym r.stands
    ∙ ap (λ (k : ℕ). get_or bin k r.member) (one_member bin part r.number h.number r.member apart lt r.within h.within values)
    ∙ get_or_default bin h.number r.member h.member h.within
    ∙ h.stands
  where
    values : slot_value (get_or bin r.number r.member).tag part ≡ slot_value (get_or bin h.number r.member).tag part
    values =
        ap (λ (m : Member). slot_value m.tag part) r.stands
        ∙ sym r.same
        ∙ ap (λ (t : List ℕ). slot_value t part) (sym h.same)
        ∙ ap (λ (m : Member). slot_value m.tag part) (sym (get_or_default bin h.number r.member h.member h.within ∙ h.stands))

-- a label of whole units, part by part
label-parts : (label : List ℕ) (unit : ℕ) → flat_map (λ part. take 2 (drop (2 * (5 * unit + part)) label)) parts ≡ take 10 (drop (10 * unit) label)
label-parts label unit =
    pieces (λ part. take 2 (drop (2 * (5 * unit + part)) label)) 2 (drop (10 * unit) label) 5
    (λ part lt.
    let e : 2 * (5 * unit + part) ≡ 10 * unit + 2 * part = omega arith in
    ap (λ (n : ℕ). take 2 (drop n label)) e ∙ ap (λ (xs : List ℕ). take 2 xs) (sym (drop-drop (2 * part) (10 * unit) label)))

label-whole : (label : List ℕ) (units : ℕ) → length label ≡ 10 * units → flat_map (λ unit. flat_map (λ part. take 2 (drop (2 * (5 * unit + part)) label)) parts) (range_with_len 0 units) ≡ label
label-whole label units size =
    pieces (λ unit. flat_map (λ part. take 2 (drop (2 * (5 * unit + part)) label)) parts) 10 label units (λ unit lt. label-parts label unit)
    ∙ take_all (10 * units) label (omega (arith, size))

label-there : (p : Parameters) (bin : List Member) (tag : List ℕ) → AreApart bin → (h : Holds bin tag) → length h.member.label ≡ 10 * p.units → found_label p bin tag ≡ h.member.label
unfolding found_label
label-there p bin tag apart h size =
    labels-same (λ unit part. take 2 (drop (2 * (5 * unit + part)) (root_label bin tag part))) (λ unit part. take 2 (drop (2 * (5 * unit + part)) h.member.label)) p.units
    (λ unit part below lt. ap (λ (label : List ℕ). take 2 (drop (2 * (5 * unit + part)) label)) (here part lt))
    ∙ label-whole h.member.label p.units size
  where
    here : (part : ℕ) → part < 5 → root_label bin tag part ≡ h.member.label
    here part lt =
        let r = root-found (slot_value tag part) part bin (root-there bin tag part h) in
        root_label-is bin tag part r ∙ ap (λ (m : Member). m.label) (same-member bin tag part apart lt h r)

-- ---- members are found

-- an option that is none or some
missing : (o : Option (List ℕ)) → ((label : List ℕ) → o ≡ Some label → ⊥) → o ≡ None
missing None h = refl
missing (Some label) h = absurd (h label refl)

same_label : (a b : List ℕ) → Some a ≡ Some b → a ≡ b
same_label a b e = cc

found-in_bundle : (v : Version) (placed_tags : List Placed) (x : Placed) (label : List ℕ) → IsSound v → Contains placed_tags x → fin.get v.labels x.tag ≡ Some label
    → (s : StandsAt (row_at v.rows (x.position / 819)) (x.position % 819) x.tag) → Contains (found v.parameters v.rows placed_tags) (record { item = x.item; bundle = s.bundle; label = label })
unfolding found found_item
found-in_bundle v placed_tags x label sound within known s =
    contains-flat (found_item v.parameters v.rows) placed_tags x (record { item = x.item; bundle = s.bundle; label = label }) within.0 within.1 within.2
    (subst (λ (l : List ℕ). Contains (found_item v.parameters v.rows x) (record { item = x.item; bundle = s.bundle; label = l })) labelled
    (contains-mapped (found_at v.parameters v.rows x) (filter (λ u. has_roots (bin_in v.rows x.position u) x.tag) (range_with_len 0 (length (row_at v.rows (x.position / 819))))) s.bundle
    (contains-filtered (λ u. has_roots (bin_in v.rows x.position u) x.tag) 0 (length (row_at v.rows (x.position / 819))) s.bundle (omega arith) (let inside = s.within in omega arith) (roots-there bin x.tag h))))
  where
    bin : List Member
    bin = bin_in v.rows x.position s.bundle

    h : Holds (bin_in v.rows x.position s.bundle) x.tag
    h = s.holds

    told : fin.get v.labels h.member.tag ≡ Some h.member.label
    told = (sound.nothing_else (x.position / 819) s.bundle (x.position % 819) h.member (h.number, h.within, h.stands)).0

    label-is : h.member.label ≡ label
    label-is = same_label h.member.label label (sym told ∙ ap (λ (t : List ℕ). fin.get v.labels t) h.same ∙ known)

    labelled : found_label v.parameters (bin_in v.rows x.position s.bundle) x.tag ≡ label
    labelled =
        label-there v.parameters bin x.tag (sound.apart (x.position / 819) s.bundle (x.position % 819)) h (sound.labelled h.member.tag h.member.label told) ∙ label-is

pub member-found : (v : Version) (placed_tags : List Placed) (x : Placed) (label : List ℕ)
    → IsSound v → Contains placed_tags x → Contains (positions_of v.parameters.rows x.tag) x.position → fin.get v.labels x.tag ≡ Some label
    → (u : ℕ) × Contains (found v.parameters v.rows placed_tags) (record { item = x.item; bundle = u; label = label })
member-found v placed_tags x label sound within own known =
    let once = sound.present x.tag label known x.position own in
    let s = standing-bundle (row_at v.rows (x.position / 819)) (x.position % 819) x.tag (omega (arith, once)) in
    (s.bundle, found-in_bundle v placed_tags x label sound within known s)

-- ---- items are found

placed-at : (tags : List (List ℕ)) (places : List ℕ) (i : ℕ) → i < length tags → Contains (placed_tags tags places) (placed_item tags places i)
unfolding placed_tags
placed-at tags places i lt =
    (i, omega (arith, lt, length-map-range_with_len (placed_item tags places) 0 (length tags)), get_or-map-range_with_len (placed_item tags places) 0 (length tags) i i (placed_item tags places i) lt (omega arith))

tags-bytes : (items : List (List ℕ)) → All AreBytes (map tag_of items)
tags-bytes items = All-map AreBytes tag_of items (λ k d lt. tag_of-bytes (get_or items k d))

tag-at : (items : List (List ℕ)) (i : ℕ) → i < length items → get_or (map tag_of items) i [] ≡ tag_of (item_at items i)
tag-at items i lt = get_or-map tag_of items i [] [] lt

pub item-found : (v : Version) (seed : List ℕ) (items : List (List ℕ)) (places : List ℕ)
    → ArePassed v.parameters → IsSound v → HoldBytes v.labels → IsPlacement (position_sets v.parameters.rows (map tag_of items)) places
    → (i : ℕ) (label : List ℕ) → i < length items → fin.get v.labels (tag_of (item_at items i)) ≡ Some label
    → (u : ℕ) × Contains (answer_to v seed items places) (record { item = i; bundle = u; label = label })
item-found v seed items places passed sound bytes placement i label lt known =
    let tags = map tag_of items in
    let within : i < length (map tag_of items) = omega (arith, lt, length-map items tag_of) in
    let h = member-found v (placed_tags tags places) (placed_item tags places i) label sound (placed-at tags places i within) (placed-own v.parameters.rows tags places i placement within)
    (ap (λ (t : List ℕ). fin.get v.labels t) (tag-at items i lt) ∙ known) in
    (h.0, subst (λ (fs : List Found). Contains fs (record { item = i; bundle = h.0; label = label })) (sym (opened-found v seed tags places passed sound bytes (tags-bytes items) placement)) h.1)

pub unfound-missing : (v : Version) (seed : List ℕ) (items : List (List ℕ)) (places : List ℕ)
    → ArePassed v.parameters → IsSound v → HoldBytes v.labels → IsPlacement (position_sets v.parameters.rows (map tag_of items)) places
    → (i : ℕ) → i < length items → All (λ f. f.item ≢ i) (answer_to v seed items places)
    → fin.get v.labels (tag_of (item_at items i)) ≡ None
unfound-missing v seed items places passed sound bytes placement i lt none =
    missing (fin.get v.labels (tag_of (item_at items i)))
    (λ label known.
    let h = item-found v seed items places passed sound bytes placement i label lt known in
    let f : Found = record { item = i; bundle = h.0; label = label } in
    none h.1.0 f h.1.1 (ap (λ (x : Found). x.item) h.1.2))
