-- The contents of names with late numbers.
use Rattle.std.proofs.Common.{◌≡◌, ℕ, ◌<◌, ◌≤◌, List, length, Some, Contains, sym, ◌∙◌, ap, subst, arith}
use Rattle.std.specs.Borrow.{Bor}
use Rattle.std.specs.FinMap.{entries, values, get}
use Rattle.std.proofs.lemmas.Bool.{le-leb}
use Rattle.std.proofs.lemmas.List.{get_or_default, length-map, get_or-map}
use Rattle.std.proofs.lemmas.List.Elements.{Contains-get_or}
use Rattle.documents.proofs.ElementLemmas.{Contains-map, map-Contains, Contains-filter, filter-Contains}
use Rattle.names.specs.declared.content.Content.{Content}
use Rattle.names.specs.Contents.{Contents, contents_of, is_since, since}
use Rattle.segments.specs.Contents.{Content as Trigrams}
use Rattle.versions.specs.Private.Version.{Entry, IsSaid, IsVersion}
use Rattle.versions.specs.Private.Fresh.{no_entry, as_entry, unnamed, entry_at, number_at, AreAnalysed, NumbersTell}
use Rattle.versions.proofs.BodyLemmas.{entry_found, found_entry}

-- a name's content is among them, if its number is late enough
pub since_has : (contents : Contents) (base : ℕ) (name : List ℕ) (c : Content) → get contents name ≡ Some c → base ≤ c.number → Contains (since base contents) c
since_has contents base name c found low =
    Contains-filter (is_since base) (values contents) c (Contains-map (λ (e : Entry). e.1) (entries contents) (name, c) (found_entry contents name c found))
    (le-leb base c.number low)

-- and each of them is some name's
pub since_named : (contents : Contents) (base : ℕ) (c : Content) → Contains (since base contents) c → (name : List ℕ) × (get contents name ≡ Some c)
since_named contents base c there =
    let inside = filter-Contains (is_since base) (values contents) c there in
    let e = map-Contains (λ (e : Entry). e.1) (entries contents) c inside.0 in
    (e.0.0, entry_found contents e.0 e.1 ∙ ap Some e.2)

module _ (version analysed : ℕ) (contents : Contents) (all : List Trigrams) (is : IsVersion version analysed contents all)
    (base : ℕ) (given : List (Bor Content)) (given_is : contents_of given ≡ since base contents) where
  there_at : (i : ℕ) → i < length (unnamed given) → Contains (since base contents) (entry_at (unnamed given) i).1
  there_at i inside =
      let at = map-Contains as_entry given (entry_at (unnamed given) i) (Contains-get_or (unnamed given) i no_entry inside) in
      subst (Contains (since base contents)) (ap (λ (e : Entry). e.1) at.2)
      (subst (λ (xs : List Content). Contains xs at.0.now) given_is (Contains-map (λ (c : Bor Content). c.now) given at.0 at.1))

  pub since_tell : NumbersTell (unnamed given)
  since_tell i j inside within e =
      let one = since_named contents base (entry_at (unnamed given) i).1 (there_at i inside) in
      let other = since_named contents base (entry_at (unnamed given) j).1 (there_at j within) in
      is.same one.0 other.0 (entry_at (unnamed given) i).1 (entry_at (unnamed given) j).1 one.1 other.1 e

-- what is analysed of them is analysed of all entries
pub analysed_all : (base end : ℕ) (contents : Contents) (given : List (Bor Content)) (more : List Trigrams) → contents_of given ≡ since base contents
    → AreAnalysed base end (unnamed given) more → AreAnalysed base end (entries contents) more
analysed_all base end contents given more given_is are = record {
  in_order = are.in_order;
  from = are.from;
  below = are.below;
  found = found;
}
  where
    found : (i : ℕ) → i < length (entries contents) → base ≤ number_at (entries contents) i → number_at (entries contents) i < end → IsSaid more (entry_at (entries contents) i).1
    found i inside from less =
        let e = entry_at (entries contents) i in
        let there = Contains-get_or (entries contents) i no_entry inside in
        let late : Contains (since base contents) e.1 =
        Contains-filter (is_since base) (values contents) e.1 (Contains-map (λ (x : Entry). x.1) (entries contents) e there) (le-leb base e.1.number from) in
        let at = map-Contains (λ (c : Bor Content). c.now) given e.1 (subst (λ (xs : List Content). Contains xs e.1) (sym given_is) late) in
        let j = at.1.0 in
        let long = length-map given as_entry in
        let within : j < length given = at.1.1 in
        let same : (entry_at (unnamed given) j).1 ≡ e.1 =
        ap (λ (x : Entry). x.1) (get_or-map as_entry given j at.0 no_entry within ∙ ap as_entry (get_or_default given j at.0 at.0 within ∙ at.1.2)) ∙ at.2 in
        let number : number_at (unnamed given) j ≡ number_at (entries contents) i = ap (λ (c : Content). c.number) same in
        subst (IsSaid more) same (are.found j (omega (arith, within, long)) (omega (arith, from, number)) (omega (arith, less, number)))
