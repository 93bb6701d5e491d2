-- Contents that are matched before the documents.
use Rattle.std.proofs.Common.{◌≡◌, ℕ, suc, Bool, true, false, not, ◌+◌, ◌<◌, ◌≤◌, ◌⊎◌, inl, inr, Option, Some, None, List, [], ◌∷◌, ◌++◌, map, length, take, drop, refl, sym, ◌∙◌, ap, subst, arith, append_assoc, Contains}
use Rattle.std.specs.Prelude.{All, AllPairs, get_or, if◌then◌else◌}
use Rattle.std.proofs.Math.Dec.{eqb}
use Rattle.std.proofs.lemmas.Bool.{eqb-true, eq-eqb, false≢true}
use Rattle.std.proofs.lemmas.List.{map-append, length-append, length-map, length-take, length-drop, take-append-drop, get_or_append_left, nil_from_length}
use Rattle.std.proofs.lemmas.List.Elements.{All-append, All-contains, All-contains_itself, All-get_or, All-map, All-nil, All-push, All-take, All-weaker}
use Rattle.documents.proofs.ElementLemmas.{Contains-cons}
use Rattle.documents.specs.Shared.{NumbersTellBodies}
use Rattle.documents.specs.declared.document.SharedDocument.{SharedDocument}
use Rattle.prepare.specs.Pattern.{Test}
use Rattle.views.specs.declared.places.Place.{Place}
use Rattle.views.specs.Found.{Hit, lines_of_document}
use Rattle.views.specs.Places.{hit_in, IsPlaced}
use Rattle.search.specs.Private.Added.{AddsPlacesUpTo, AddsUpTo, IsPlaceIn, IsReached}
use Rattle.search.specs.Private.Documents.{lines_of_taken}
use Rattle.prepare.specs.Tests.{test_of}
use Rattle.search.specs.declared.gathered.Wanted.{Wanted}
use Rattle.search.specs.Private.Known.{EntryHasBody, FindsHits, HasBody, HasEnough, IsEntry, IsInside, IsTold, Knows, IsUnder, moved_to, room_for}
use Rattle.search.proofs.PlaceLemmas.{placed-before, placed-last}
use Rattle.search.specs.Selects.{Selects, IsAsked}
use Rattle.search.specs.declared.known.Entry.{Entry}
use Rattle.search.proofs.SelectsLemmas.{Contains-kept}
use Rattle.simulation.proofs.Forward.{le_or_lt}

-- ---- the lines of an entry, under a name

moved-hits : (name body : List ℕ) (number : ℕ) (places : List Place) → map (hit_in name body) (map (moved_to number) places) ≡ map (hit_in name body) places
moved-hits name body number [] = refl
moved-hits name body number (place ∷ places) = ap (λ hits. hit_in name body place ∷ hits) (moved-hits name body number places)

moved-inside : (number : ℕ) (body : List ℕ) (places : List Place) → All (IsPlaceIn 0 body) places → All (IsPlaceIn number body) (map (moved_to number) places)
moved-inside number body places inside =
    All-map (IsPlaceIn number body) (moved_to number) places
    (All-weaker (IsPlaceIn 0 body) (λ place. IsPlaceIn number body (moved_to number place))
    (λ place is. record { document = refl; ordered = is.ordered; inside = is.inside }) places inside)

module _ (most : Option ℕ) (test : Test) (number : ℕ) (name : List ℕ) (entry : Entry) (count : ℕ) (old new : List Place)
    (is : IsEntry test entry) (size : count ≡ room_for most (length old) (length entry.places.items)) (enough : HasEnough most (length old) entry)
    (grown : new ≡ old ++ map (moved_to number) (take count entry.places.items)) where
  abbrev places : List Place
  places = entry.places.items

  abbrev under : IsUnder test entry name
  under = is.under name

  abbrev hits : List Place → List Hit
  hits some = map (hit_in name entry.held) some

  none_left : length places ≤ count → drop count places ≡ []
  none_left all = nil_from_length (drop count places) (omega (arith, length-drop count places))

  full : (m : Option ℕ) → count ≡ room_for m (length old) (length places) → (IsReached m (length old + length places)) ⊎ (count < length places)
      → IsReached m (length new)
  full None e (inl h) = h
  full None e (inr fewer) = absurd (omega (arith, e, fewer))
  full (Some m) e (inl h) =
      omega (arith, e, h, ap length grown, length-append old (map (moved_to number) (take count places)), length-map (take count places) (moved_to number), length-take count places)
  full (Some m) e (inr fewer) =
      omega (arith, e, fewer, ap length grown, length-append old (map (moved_to number) (take count places)), length-map (take count places) (moved_to number), length-take count places)

  ends : (length places ≤ count) ⊎ (count < length places) → HasEnough most (length old) entry
      → (hits (drop count places) ++ under.rest ≡ []) ⊎ IsReached most (length new)
  ends fits (inr h) = inr (full most size (inl h))
  ends (inl all) (inl whole) = inl (ap (λ ps. hits ps ++ under.rest) (none_left all) ∙ under.whole whole)
  ends (inr fewer) (inl whole) = inr (full most size (inr fewer))

  pub entry-adds : AddsPlacesUpTo most test number name entry.held (lines_of_document name entry.held) old new
  entry-adds = record {
    added = map (moved_to number) (take count places);
    appended = grown;
    inside = moved-inside number entry.held (take count places) (All-take (IsPlaceIn 0 entry.held) count places is.inside);
    rest = hits (drop count places) ++ under.rest;
    selected =
        (let same : hits places ++ under.rest ≡ hits (map (moved_to number) (take count places)) ++ (hits (drop count places) ++ under.rest) =
        ap (λ ps. hits ps ++ under.rest) (sym (take-append-drop count places))
        ∙ (ap (λ hs. hs ++ under.rest) (map-append (hit_in name entry.held) (take count places) (drop count places))
        ∙ (append_assoc (hits (take count places)) (hits (drop count places)) under.rest
        ∙ ap (λ hs. hs ++ (hits (drop count places) ++ under.rest)) (sym (moved-hits name entry.held number (take count places))))) in
        subst (λ hs. Selects (IsAsked test) (lines_of_document name entry.held) hs) same under.selected);
    ended = ends (le_or_lt (length places) count) enough;
  }

pub was_false : (b : Bool) → not b ≡ true → b ≡ false
was_false true e = absurd (false≢true e)
was_false false e = refl

-- the places of an entry, in the last of some documents
pub placed-moved : (documents : List SharedDocument) (own : SharedDocument) (entry : Entry) (number count : ℕ) (old new : List Place) → number ≡ length documents
    → own.held ≡ entry.held → IsInside entry → new ≡ old ++ map (moved_to number) (take count entry.places.items) → All (IsPlaced documents) old
    → All (IsPlaced (documents ++ own ∷ [])) new
placed-moved documents own entry number count old new last same inside grown placed =
    let added = map (moved_to number) (take count entry.places.items) in
    let there = moved-inside number entry.held (take count entry.places.items) (All-take (IsPlaceIn 0 entry.held) count entry.places.items inside) in
    let here = subst (λ n. All (IsPlaceIn n own.held) added) last (subst (λ body. All (IsPlaceIn number body) added) (sym same) there) in
    subst (λ places. All (IsPlaced (documents ++ own ∷ [])) places) (sym grown)
    (All-append (IsPlaced (documents ++ own ∷ [])) old added
    (All-weaker (IsPlaced documents) (IsPlaced (documents ++ own ∷ [])) (placed-before documents (own ∷ [])) old placed)
    (All-weaker (IsPlaceIn (length documents) own.held) (IsPlaced (documents ++ own ∷ [])) (placed-last documents own) added here))

-- what was found of a body, as an entry
pub entry-is : (most : Option ℕ) (test : Test) (entry : Entry) (body : List ℕ) (old : List Place) → old ≡ [] → body ≡ entry.held
    → ((name : List ℕ) → AddsPlacesUpTo most test 0 name body (lines_of_document name body) old entry.places.items)
    → (entry.whole ≡ true → IsReached most (length entry.places.items) → ⊥) → IsEntry test entry
entry-is most test entry body old none same adds fewer = record {
  inside = subst (λ ps. All (IsPlaceIn 0 entry.held) ps) (sym (all [])) (own []).inside;
  under =
      λ name. record {
        rest = (own name).rest;
        selected =
            subst (λ ps. Selects (IsAsked test) (lines_of_document name entry.held) (map (hit_in name entry.held) ps ++ (own name).rest)) (sym (all name))
            (own name).selected;
        whole = λ whole. elim (own name).ended [ inl empty ↦ empty | inr full ↦ absurd (fewer whole full) ];
      };
}
  where
    own : (name : List ℕ) → AddsPlacesUpTo most test 0 name entry.held (lines_of_document name entry.held) old entry.places.items
    own name = subst (λ text. AddsPlacesUpTo most test 0 name text (lines_of_document name text) old entry.places.items) same (adds name)

    all : (name : List ℕ) → entry.places.items ≡ (own name).added
    all name = (own name).appended ∙ ap (λ ps. ps ++ (own name).added) none

-- ---- numbers tell bodies

pairs-left : {X : Type 0} (R : X → X → Type 0) (xs ys : List X) → AllPairs R (xs ++ ys) → AllPairs R xs
pairs-left R xs ys pairs = λ i j d low inside.
    subst (λ x. R x (get_or xs j d)) (get_or_append_left xs ys d i (omega (arith, low, inside)))
    (subst (λ y. R (get_or (xs ++ ys) i d) y) (get_or_append_left xs ys d j inside)
    (pairs i j d low (omega (arith, inside, length-append xs ys))))

pub told-take : (n : ℕ) (ds : List SharedDocument) → NumbersTellBodies ds → NumbersTellBodies (take n ds)
told-take n ds pairs =
    pairs-left (λ d e. d.number ≡ e.number → d.held ≡ e.held) (take n ds) (drop n ds)
    (subst (λ all. NumbersTellBodies all) (sym (take-append-drop n ds)) pairs)

-- the body of the first document with this number
pub body_by : List SharedDocument → ℕ → List ℕ
body_by [] number = []
body_by (d ∷ ds) number = if eqb d.number number then d.held else body_by ds number

body_there : (ds : List SharedDocument) → NumbersTellBodies ds → (d : SharedDocument) → Contains ds d → d.held ≡ body_by ds d.number
unfolding body_by
body_there [] pairs d there = absurd (omega (arith, there.1))
body_there (x ∷ ds) pairs d there =
    go (Contains-cons x ds d there) (body_there ds (λ i j e low inside. pairs (suc i) (suc j) e (omega (arith, low)) (omega (arith, inside))) d)
  where
    first : x ≡ d → d.held ≡ body_by (x ∷ ds) d.number
    first is = subst (λ e. e.held ≡ body_by (x ∷ ds) e.number) is (rw (eq-eqb x.number x.number refl) refl)

    same : eqb x.number d.number ≡ true → Contains ds d → x.held ≡ d.held
    same e rest =
        subst (λ f. x.number ≡ f.number → x.held ≡ f.held) rest.2 (pairs 0 (suc rest.0) d (omega arith) (omega (arith, rest.1)))
        (eqb-true x.number d.number e)

    later : (b : Bool) → eqb x.number d.number ≡ b → Contains ds d → (Contains ds d → d.held ≡ body_by ds d.number)
        → d.held ≡ body_by (x ∷ ds) d.number
    later true e rest deeper = rw e (sym (same e rest))
    later false e rest deeper = rw e (deeper rest)

    go : (x ≡ d) ⊎ Contains ds d → (Contains ds d → d.held ≡ body_by ds d.number) → d.held ≡ body_by (x ∷ ds) d.number
    go (inl is) deeper = first is
    go (inr rest) deeper = later (eqb x.number d.number) refl rest deeper

-- the documents that are kept have the bodies that their numbers tell
pub kept-bodies : {Has : SharedDocument → Type 0} (all kept : List SharedDocument) → NumbersTellBodies all → Selects Has all kept
    → All (HasBody (body_by all)) kept
kept-bodies all kept pairs selected =
    All-weaker (Contains kept) (HasBody (body_by all)) (λ d there. body_there all pairs d (Contains-kept d selected there).0) kept
    (All-contains_itself kept)

-- what holds for each of some documents, for one of them
pub at-place : (P : SharedDocument → Type 0) (documents : List SharedDocument) (i : ℕ) (d : SharedDocument) → i < length documents
    → d ≡ get_or documents i d → All P documents → P d
at-place P documents i d inside is all = subst P (sym is) (All-get_or P documents i d inside all)

-- one more of the documents
pub have-more : (body : ℕ → List ℕ) (documents firsts new : List SharedDocument) (i : ℕ) (d shared : SharedDocument) → i < length documents
    → d ≡ get_or documents i d → shared ≡ d → new ≡ firsts ++ shared ∷ [] → All (HasBody body) documents → All (HasBody body) firsts
    → All (HasBody body) new
have-more body documents firsts new i d shared inside is same grown have before =
    subst (λ ds. All (HasBody body) ds) (sym grown)
    (All-push (HasBody body) firsts shared before (subst (HasBody body) (sym same) (at-place (HasBody body) documents i d inside is have)))

-- one more entry
pub entries-more : (P : Entry → Type 0) (entries new : List Entry) (entry : Entry) → new ≡ entries ++ entry ∷ [] → P entry → All P entries → All P new
entries-more P entries new entry grown is before = subst (λ es. All P es) (sym grown) (All-push P entries entry before is)

-- entries with the bodies that numbers tell, beside documents that have them
pub told-by : (body : ℕ → List ℕ) (entries : List Entry) (documents : List SharedDocument) → All (EntryHasBody body) entries → All (HasBody body) documents
    → All (IsTold entries) documents
told-by body entries documents known have =
    All-weaker (HasBody body) (IsTold entries)
    (λ document has. All-weaker (EntryHasBody body) (λ entry. entry.number ≡ document.number → entry.held ≡ document.held)
    (λ entry own same. own ∙ (ap body same ∙ sym has)) entries known)
    documents have

pub told-at : (entries : List Entry) (documents : List SharedDocument) (i : ℕ) (d : SharedDocument) → i < length documents → d ≡ get_or documents i d
    → All (IsTold entries) documents → IsTold entries d
told-at entries documents = at-place (IsTold entries) documents

pub none-told : (documents : List SharedDocument) → All (IsTold []) documents
none-told documents = All-weaker (Contains documents) (IsTold []) (λ document there. All-nil (λ entry. entry.number ≡ document.number → entry.held ≡ document.held)) documents (All-contains_itself documents)

-- ---- the hits of a document

module _ (wanted : Wanted) (document : SharedDocument) (most : Option ℕ) (old new : List Hit) where
  abbrev wanted_test : Test
  wanted_test = test_of wanted.prepared.now.line

  abbrev entries : List Entry
  entries = wanted.known.now.entries.items

  pub finds-known : (entry : Entry) → Knows wanted → Contains entries entry → entry.number ≡ document.number → HasEnough most (length old) entry
      → ((test : Test) → IsEntry test entry → HasEnough most (length old) entry
      → AddsUpTo most (IsAsked test) (lines_of_document document.name entry.held) old new)
      → FindsHits wanted document most old new
  finds-known entry knows there number enough adds = record {
    own = record { number = document.number; name = document.name; held = entry.held };
    told =
        λ told.
        ap (λ held. record { number = document.number; name = document.name; held = held })
        (All-contains (λ e. e.number ≡ document.number → e.held ≡ document.held) entries entry told there number);
    adds = adds wanted_test (All-contains (IsEntry wanted_test) entries entry knows there) enough;
  }

  pub finds-scanned : AddsUpTo most (IsAsked wanted_test) (lines_of_taken document) old new → FindsHits wanted document most old new
  finds-scanned adds = record { own = document; told = λ told. refl; adds = adds }

-- ---- a document with the body of an entry

abbrev pub own_of : Entry → SharedDocument → SharedDocument
own_of entry document = record { number = document.number; name = document.name; held = entry.held }

-- a document that is made of handles
pub own-is : (entry : Entry) (document : SharedDocument) (name held : List ℕ) → name ≡ document.name → held ≡ entry.held
    → record { number = document.number; name = name; held = held } ≡ own_of entry document
own-is entry document name held n h =
    ap (λ x. record { number = document.number; name = x; held = held }) n ∙ ap (λ x. record { number = document.number; name = document.name; held = x }) h
