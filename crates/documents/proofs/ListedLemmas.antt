-- Documents by their names, and all of them in order.
use Rattle.std.proofs.Common.{◌≡◌, ◌≢◌, ℕ, ◌&&◌, Bool, true, false, cond, List, [], ◌∷◌, get_or, Some, Contains, refl, sym, ◌∙◌, ap, subst}
use Rattle.std.specs.Prelude.{AllPairs, bytes_eq, T}
use Rattle.std.specs.List.{AllByRecursion}
use Rattle.std.specs.List.Sorted.{IsStrictlySortedBy}
use Rattle.std.specs.Map.{keys_of, lookup}
use Rattle.std.specs.FinMap.{entries, entries_sorted, find, is_sorted, get, get-entries}
use Rattle.std.specs.FinMap.Entries.{below_all}
use Rattle.std.specs.Ordering.{nat_cmp, is_eq, is_lt, eq_by_cmp}
use Rattle.std.specs.declared.cmp.Ordering.{Ordering}
use Rattle.std.specs.declared.cmp.Ordering.TheVariants.{Less, Equal, Greater}
use Rattle.std.specs.Cmp.{tied_itself, eq_by_cmp_equiv}
use Rattle.std.specs.Cmp.Lexicographic.{slice_cmp, nat_list_cmp_total, texts_ties}
use Rattle.std.proofs.lemmas.Map.Keys.{IsDistinct-from_sorted, Less-from_sorted}
use Rattle.std.proofs.lemmas.Map.Lookups.{exact_bytes}
use Rattle.std.proofs.lemmas.Map.Views.{tells_apart, Contains-from_lookup, lookup-from_Contains}
use Rattle.documents.specs.Documents.{Document, Documents, document, listed, RisesByName}
use Rattle.documents.proofs.ElementLemmas.{bytes_eq-sym, map_twice, Contains-map, map-Contains}
use Rattle.documents.proofs.RisingLemmas.{rises_by}

pub ties : (x y : List ℕ) → bytes_eq x y ≡ is_eq (slice_cmp nat_cmp y x)
ties x y = bytes_eq-sym x y ∙ texts_ties y x

-- ---- in the order of names

both : (a b : Bool) → T (a && b) → T a × T b
both true true h = (tt, tt)
both true false h = absurd h
both false b h = absurd h

less : (o : Ordering) → T (is_lt o) → o ≡ Less
less Less h = refl
less Equal h = absurd h
less Greater h = absurd h

below : (name : List ℕ) (es : List (List ℕ × List ℕ)) → T (below_all (slice_cmp nat_cmp) name es)
    → AllByRecursion (λ k. slice_cmp nat_cmp name k ≡ Less) (keys_of es)
below name [] h = tt
below name (e ∷ es) h =
    let parts = both (is_lt (slice_cmp nat_cmp name e.0)) (below_all (slice_cmp nat_cmp) name es) h in
    (less (slice_cmp nat_cmp name e.0) parts.0, below name es parts.1)

sorted : (es : List (List ℕ × List ℕ)) → T (is_sorted (slice_cmp nat_cmp) es) → IsStrictlySortedBy (slice_cmp nat_cmp) (keys_of es)
unfolding IsStrictlySortedBy
sorted [] h = tt
sorted (e ∷ es) h =
    let parts = both (below_all (slice_cmp nat_cmp) e.0 es) (is_sorted (slice_cmp nat_cmp) es) h in
    (below e.0 es parts.0, sorted es parts.1)

pub listed-rises : (documents : Documents) → RisesByName (listed documents)
listed-rises documents =
    rises_by (slice_cmp nat_cmp) (λ (d : Document). d.name) (listed documents)
    (subst (IsStrictlySortedBy (slice_cmp nat_cmp)) (sym (map_twice (λ (e : List ℕ × List ℕ). document e.0 e.1) (λ d. d.name) (entries documents)))
    (sorted (entries documents) (entries_sorted documents)))

pub names_differ : (documents : Documents) → AllPairs (λ d e. d.name ≢ e.name) (listed documents)
names_differ documents = λ i j d before inside same.
    let rising = Less-from_sorted (λ (d e : Document). slice_cmp nat_cmp d.name e.name) (listed documents) i j d (listed-rises documents) before inside in
    let tied : Less ≡ Equal =
    sym rising ∙ ap (slice_cmp nat_cmp (get_or (listed documents) i d).name) (sym same) ∙ tied_itself nat_list_cmp_total (get_or (listed documents) i d).name in
    cc

-- ---- what is listed is what is found

find-lookup : (name : List ℕ) (es : List (List ℕ × List ℕ)) → find (slice_cmp nat_cmp) name es ≡ lookup (eq_by_cmp (slice_cmp nat_cmp) name) es
find-lookup name [] = refl
find-lookup name (e ∷ es) = ap (λ rest. cond (is_eq (slice_cmp nat_cmp name e.0)) (Some e.1) rest) (find-lookup name es)

pub get-lookup : (documents : Documents) (name : List ℕ) → get documents name ≡ lookup (eq_by_cmp (slice_cmp nat_cmp) name) (entries documents)
get-lookup documents name = get-entries documents name ∙ find-lookup name (entries documents)

pub listed-found : (documents : Documents) (d : Document) → get documents d.name ≡ Some d.body → Contains (listed documents) d
listed-found documents d found =
    Contains-map (λ (e : List ℕ × List ℕ). document e.0 e.1) (entries documents) (d.name, d.body)
    (Contains-from_lookup {eq = eq_by_cmp (slice_cmp nat_cmp)} (tells_apart exact_bytes) d.name d.body (entries documents)
    (sym (get-lookup documents d.name) ∙ found))

pub found-listed : (documents : Documents) (d : Document) → Contains (listed documents) d → get documents d.name ≡ Some d.body
found-listed documents d there =
    let at = map-Contains (λ (e : List ℕ × List ℕ). document e.0 e.1) (entries documents) d there in
    let found : get documents at.0.0 ≡ Some at.0.1 =
    get-lookup documents at.0.0
    ∙ lookup-from_Contains (eq_by_cmp_equiv nat_list_cmp_total) at.0.0 at.0.1 (entries documents)
    (IsDistinct-from_sorted (slice_cmp nat_cmp) (keys_of (entries documents)) (sorted (entries documents) (entries_sorted documents))) at.1 in
    subst (λ (x : Document). get documents x.name ≡ Some x.body) at.2 found
