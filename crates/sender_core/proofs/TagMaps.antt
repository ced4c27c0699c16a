-- A map that is kept by tag, as a finite map.
use Rattle.std.specs.Prelude.{◌≡◌, ℕ, Bool, List, [], ◌∷◌, Some, None, cond}
use Rattle.std.specs.Ordering.{nat_cmp}
use Rattle.std.specs.declared.cmp.Ordering.{Ordering}
use Rattle.std.specs.Cmp.{eq_by_cmp_equiv}
use Rattle.std.specs.Cmp.Lexicographic.{slice_cmp, nat_list_cmp_total}
use Rattle.std.specs.BTreeMap.{is_at}
use Rattle.std.specs.Map.{lookup}
use Rattle.std.specs.FinMap as fin
use Rattle.std.specs.FinMap.{find, same_map, get-insert, get-remove, get-from_entries, slice_cmp-IsAntisymmetric, nat_cmp-IsAntisymmetric}
use Rattle.std.proofs.Common.{refl, sym, ap, ◌∙◌}

-- tags are ordered by their bytes
abbrev pub tag_cmp : List ℕ → List ℕ → Ordering
tag_cmp = slice_cmp nat_cmp

find_tag : (es : List (List ℕ × List ℕ)) (q : List ℕ) → find tag_cmp q es ≡ lookup (is_at (tag_cmp q)) es
find_tag [] q = refl
find_tag (e ∷ es) q = ap (cond (is_at (tag_cmp q) e.0) (Some e.1)) (find_tag es q)

-- what the map that the entries make has at a tag
pub get_tag : (es : List (List ℕ × List ℕ)) (q : List ℕ) → fin.get (fin.from_entries {R = tag_cmp} es) q ≡ lookup (is_at (tag_cmp q)) es
get_tag es q = get-from_entries nat_list_cmp_total es q ∙ find_tag es q

-- entries that differ at one tag make maps that differ there
pub one_given : (es fs : List (List ℕ × List ℕ)) (s n : List ℕ) → ((q : List ℕ) → lookup (is_at (tag_cmp q)) fs ≡ cond (is_at (tag_cmp s) q) (Some n) (lookup (is_at (tag_cmp q)) es))
    → fin.from_entries {R = tag_cmp} fs ≡ fin.insert (fin.from_entries es) s n
one_given es fs s n h = same_map nat_list_cmp_total (slice_cmp-IsAntisymmetric nat_cmp-IsAntisymmetric) _ _ (λ q.
    get_tag fs q ∙ h q ∙ ap (λ (b : Bool). cond b (Some n) (lookup (is_at (tag_cmp q)) es)) ((eq_by_cmp_equiv nat_list_cmp_total).symm s q)
    ∙ sym (get-insert nat_list_cmp_total (fin.from_entries es) s n q ∙ ap (cond (is_at (tag_cmp q) s) (Some n)) (get_tag es q)))

-- entries without one tag make a map without it
pub one_taken : (es fs : List (List ℕ × List ℕ)) (s : List ℕ) → ((q : List ℕ) → lookup (is_at (tag_cmp q)) fs ≡ cond (is_at (tag_cmp s) q) None (lookup (is_at (tag_cmp q)) es))
    → fin.from_entries {R = tag_cmp} fs ≡ fin.remove (fin.from_entries es) s
one_taken es fs s h = same_map nat_list_cmp_total (slice_cmp-IsAntisymmetric nat_cmp-IsAntisymmetric) _ _ (λ q.
    get_tag fs q ∙ h q ∙ ap (λ (b : Bool). cond b None (lookup (is_at (tag_cmp q)) es)) ((eq_by_cmp_equiv nat_list_cmp_total).symm s q)
    ∙ sym (get-remove nat_list_cmp_total (fin.from_entries es) s q ∙ ap (cond (is_at (tag_cmp q) s) None) (get_tag es q)))
