-- What is shown of two lists of hits, one after the other, whose documents have different names.
use Rattle.std.proofs.Common.{◌≡◌, ℕ, ◌+◌, Bool, true, false, not, List, [], ◌∷◌, ◌++◌, map, length, refl, sym, ◌∙◌, ap}
use Rattle.std.specs.Prelude.{filter, flat_map, if◌then◌else◌}
use Rattle.std.specs.List.{AllByRecursion}
use Rattle.std.specs.Str.{bytes_eq}
use Rattle.std.proofs.lemmas.Grind.{flat_map-append}
use Rattle.std.proofs.lemmas.List.{append-nil, length-append}
use Rattle.std.proofs.lemmas.List.Elements.{filter-append}
use Rattle.documents.proofs.ElementLemmas.{bytes_eq-refl, bytes_eq-sym}
use Rattle.documents.specs.Documents.{Document}
use Rattle.request.specs.declared.options.View.{View}
use Rattle.search.specs.Private.Gathered.{all_stretches}
use Rattle.views.specs.Found.{Hit}
use Rattle.views.specs.View.{count, shows_names, stretches}
use Rattle.views.specs.Rows.{body_of, hits_in, name_with_count, names_of, total}

-- ---- lists

pub All-both : {X : Type 0} (P : X → Type 0) (xs ys : List X) → AllByRecursion P xs → AllByRecursion P ys → AllByRecursion P (xs ++ ys)
All-both P [] ys a b = b
All-both P (x ∷ xs) ys a b = (a.0, All-both P xs ys a.1 b)

pub All-left : {X : Type 0} (P : X → Type 0) (xs ys : List X) → AllByRecursion P (xs ++ ys) → AllByRecursion P xs
All-left P [] ys h = tt
All-left P (x ∷ xs) ys h = (h.0, All-left P xs ys h.1)

pub All-right : {X : Type 0} (P : X → Type 0) (xs ys : List X) → AllByRecursion P (xs ++ ys) → AllByRecursion P ys
All-right P [] ys h = h
All-right P (x ∷ xs) ys h = All-right P xs ys h.1

pub All-each : {X : Type 0} (P Q : X → Type 0) (xs : List X) → ((x : X) → P x → Q x) → AllByRecursion P xs → AllByRecursion Q xs
All-each P Q [] f h = tt
All-each P Q (x ∷ xs) f h = (f x h.0, All-each P Q xs f h.1)

-- what holds of both sides of each pair holds from the other side, too
pub All-turned : {X Y : Type 0} (R : X → Y → Type 0) (xs : List X) (ys : List Y) → AllByRecursion (λ x. AllByRecursion (λ y. R x y) ys) xs
    → AllByRecursion (λ y. AllByRecursion (λ x. R x y) xs) ys
All-turned R xs [] h = tt
All-turned R xs (y ∷ ys) h = (
  All-each (λ x. AllByRecursion (λ z. R x z) (y ∷ ys)) (λ x. R x y) xs (λ x each. each.0) h,
  All-turned R xs ys (All-each (λ x. AllByRecursion (λ z. R x z) (y ∷ ys)) (λ x. AllByRecursion (λ z. R x z) ys) xs (λ x each. each.1) h),
)

All-filtered : {X : Type 0} (P : X → Type 0) (p : X → Bool) (xs : List X) → AllByRecursion P xs → AllByRecursion P (filter p xs)
All-filtered P p [] h = tt
All-filtered P p (x ∷ xs) h = go (p x) (All-filtered P p xs h.1)
  where
    go : (b : Bool) → AllByRecursion P (filter p xs) → AllByRecursion P (if b then x ∷ filter p xs else filter p xs)
    go true rest = (h.0, rest)
    go false rest = rest

filter-all : {X : Type 0} (p : X → Bool) (xs : List X) → AllByRecursion (λ x. p x ≡ true) xs → filter p xs ≡ xs
filter-all p [] h = refl
filter-all p (x ∷ xs) h = rw h.0 (ap (λ rest. x ∷ rest) (filter-all p xs h.1))

filter-none : {X : Type 0} (p : X → Bool) (xs : List X) → AllByRecursion (λ x. p x ≡ false) xs → filter p xs ≡ []
filter-none p [] h = refl
filter-none p (x ∷ xs) h = rw h.0 (filter-none p xs h.1)

pub flat_map-same : {X Y : Type 0} (f g : X → List Y) (xs : List X) → AllByRecursion (λ x. f x ≡ g x) xs → flat_map f xs ≡ flat_map g xs
flat_map-same f g [] h = refl
flat_map-same f g (x ∷ xs) h = ap (λ ys. ys ++ flat_map f xs) h.0 ∙ ap (λ ys. g x ++ ys) (flat_map-same f g xs h.1)

pub map-same : {X Y : Type 0} (f g : X → Y) (xs : List X) → AllByRecursion (λ x. f x ≡ g x) xs → map f xs ≡ map g xs
map-same f g [] h = refl
map-same f g (x ∷ xs) h = ap (λ y. y ∷ map f xs) h.0 ∙ ap (λ ys. g x ∷ ys) (map-same f g xs h.1)

-- ---- names

-- No hit of the second list has this name.
abbrev pub HasOther : List Hit → List ℕ → Type 0
HasOther hits of = AllByRecursion (λ other. bytes_eq other.name of ≡ false) hits

-- No hit of the one list has the name of a hit of the other.
abbrev pub AreApart : List Hit → List Hit → Type 0
AreApart xs ys = AllByRecursion (λ x. HasOther ys x.name) xs

pub apart-turned : (xs ys : List Hit) → AreApart xs ys → AreApart ys xs
apart-turned xs ys apart =
    All-each (λ y. AllByRecursion (λ x. bytes_eq y.name x.name ≡ false) xs) (λ y. HasOther xs y.name) ys
    (λ y each. All-each (λ x. bytes_eq y.name x.name ≡ false) (λ x. bytes_eq x.name y.name ≡ false) xs (λ x e. bytes_eq-sym x.name y.name ∙ e) each)
    (All-turned (λ x y. bytes_eq y.name x.name ≡ false) xs ys apart)

-- what holds of each hit's name holds of each name
pub All-names : (P : List ℕ → Type 0) (hits : List Hit) → AllByRecursion (λ found. P found.name) hits → AllByRecursion P (names_of hits)
unfolding names_of
All-names P [] h = tt
All-names P (x ∷ hits) h = (h.0, All-filtered P (λ other. not (bytes_eq other x.name)) (names_of hits) (All-names P hits h.1))

pub names-append : (xs ys : List Hit) → AreApart xs ys → names_of (xs ++ ys) ≡ names_of xs ++ names_of ys
unfolding names_of
names-append [] ys apart = refl
names-append (x ∷ xs) ys apart =
    let test = λ (other : List ℕ). not (bytes_eq other x.name) in
    let others : AllByRecursion (λ other. not (bytes_eq other x.name) ≡ true) (names_of ys) =
    All-names (λ other. not (bytes_eq other x.name) ≡ true) ys
    (All-each (λ y. bytes_eq y.name x.name ≡ false) (λ y. not (bytes_eq y.name x.name) ≡ true) ys (λ y e. ap not e) apart.0) in
    ap (λ names. x.name ∷ names)
    (ap (λ names. filter test names) (names-append xs ys apart.1)
    ∙ (filter-append test (names_of xs) (names_of ys) ∙ ap (λ names. filter test (names_of xs) ++ names) (filter-all test (names_of ys) others)))

-- the hits of one document
pub names-one : (of : List ℕ) (x : Hit) (xs : List Hit) → x.name ≡ of → AllByRecursion (λ found. found.name ≡ of) xs → names_of (x ∷ xs) ≡ of ∷ []
unfolding names_of
names-one of x xs here each =
    let test = λ (other : List ℕ). not (bytes_eq other x.name) in
    let none : filter test (names_of xs) ≡ [] =
    filter-none test (names_of xs)
    (All-names (λ other. not (bytes_eq other x.name) ≡ false) xs
    (All-each (λ found. found.name ≡ of) (λ found. not (bytes_eq found.name x.name) ≡ false) xs
    (λ found e. ap not (ap (λ n. bytes_eq n x.name) (e ∙ sym here) ∙ bytes_eq-refl x.name)) each)) in
    ap (λ names. x.name ∷ names) none ∙ ap (λ n. n ∷ []) here

pub hits_in-all : (of : List ℕ) (xs : List Hit) → AllByRecursion (λ found. found.name ≡ of) xs → hits_in of xs ≡ xs
hits_in-all of xs each =
    filter-all (λ found. bytes_eq found.name of) xs
    (All-each (λ found. found.name ≡ of) (λ found. bytes_eq found.name of ≡ true) xs (λ found e. ap (λ n. bytes_eq n of) e ∙ bytes_eq-refl of) each)

hits_in-front : (of : List ℕ) (xs ys : List Hit) → HasOther ys of → hits_in of (xs ++ ys) ≡ hits_in of xs
hits_in-front of xs ys others =
    filter-append (λ found. bytes_eq found.name of) xs ys
    ∙ (ap (λ hits. hits_in of xs ++ hits) (filter-none (λ found. bytes_eq found.name of) ys others) ∙ append-nil (hits_in of xs))

hits_in-back : (of : List ℕ) (xs ys : List Hit) → HasOther xs of → hits_in of (xs ++ ys) ≡ hits_in of ys
hits_in-back of xs ys others =
    filter-append (λ found. bytes_eq found.name of) xs ys
    ∙ ap (λ hits. hits ++ hits_in of ys) (filter-none (λ found. bytes_eq found.name of) xs others)

-- ---- rows of hits and names

module _ (xs ys : List Hit) (apart : AreApart xs ys) where
  -- the hits with the name of a hit at the front, and with that of one at the back
  pub each-front : AllByRecursion (λ of. hits_in of (xs ++ ys) ≡ hits_in of xs) (names_of xs)
  each-front =
      All-each (λ of. HasOther ys of) (λ of. hits_in of (xs ++ ys) ≡ hits_in of xs) (names_of xs) (λ of. hits_in-front of xs ys)
      (All-names (λ of. HasOther ys of) xs apart)

  pub each-back : AllByRecursion (λ of. hits_in of (xs ++ ys) ≡ hits_in of ys) (names_of ys)
  each-back =
      All-each (λ of. HasOther xs of) (λ of. hits_in of (xs ++ ys) ≡ hits_in of ys) (names_of ys) (λ of. hits_in-back of xs ys)
      (All-names (λ of. HasOther xs of) ys (apart-turned xs ys apart))

  pub stretches-append : (most : ℕ) (documents : List Document)
      → all_stretches most documents (xs ++ ys) ≡ all_stretches most documents xs ++ all_stretches most documents ys
  stretches-append most documents =
      let rows = λ (hits : List Hit) (of : List ℕ). stretches most (hits_in of hits) of (body_of of documents) in
      ap (λ names. flat_map (rows (xs ++ ys)) names) (names-append xs ys apart)
      ∙ (flat_map-append (rows (xs ++ ys)) (names_of xs) (names_of ys)
      ∙ (ap (λ front. front ++ flat_map (rows (xs ++ ys)) (names_of ys))
      (flat_map-same (rows (xs ++ ys)) (rows xs) (names_of xs)
      (All-each (λ of. hits_in of (xs ++ ys) ≡ hits_in of xs) (λ of. rows (xs ++ ys) of ≡ rows xs of) (names_of xs)
      (λ of e. ap (λ hits. stretches most hits of (body_of of documents)) e) each-front))
      ∙ ap (λ back. flat_map (rows xs) (names_of xs) ++ back)
      (flat_map-same (rows (xs ++ ys)) (rows ys) (names_of ys)
      (All-each (λ of. hits_in of (xs ++ ys) ≡ hits_in of ys) (λ of. rows (xs ++ ys) of ≡ rows ys of) (names_of ys)
      (λ of e. ap (λ hits. stretches most hits of (body_of of documents)) e) each-back))))

  -- names with their numbers of hits
  pub counts-front : (names : List (List ℕ)) → AllByRecursion (λ of. hits_in of (xs ++ ys) ≡ hits_in of xs) names
      → map (name_with_count (xs ++ ys)) names ≡ map (name_with_count xs) names
  counts-front names each =
      map-same (name_with_count (xs ++ ys)) (name_with_count xs) names
      (All-each (λ of. hits_in of (xs ++ ys) ≡ hits_in of xs) (λ of. name_with_count (xs ++ ys) of ≡ name_with_count xs of) names
      (λ of e. ap (λ hits. count of (length hits)) e) each)

  pub counts-back : (names : List (List ℕ)) → AllByRecursion (λ of. hits_in of (xs ++ ys) ≡ hits_in of ys) names
      → map (name_with_count (xs ++ ys)) names ≡ map (name_with_count ys) names
  counts-back names each =
      map-same (name_with_count (xs ++ ys)) (name_with_count ys) names
      (All-each (λ of. hits_in of (xs ++ ys) ≡ hits_in of ys) (λ of. name_with_count (xs ++ ys) of ≡ name_with_count ys of) names
      (λ of e. ap (λ hits. count of (length hits)) e) each)

  pub total-append : (shown : View) → total shown (xs ++ ys) ≡ total shown xs + total shown ys
  total-append shown = go (shows_names shown)
    where
      go : (names : Bool) → (if names then length (names_of (xs ++ ys)) else length (xs ++ ys))
          ≡ (if names then length (names_of xs) else length xs) + (if names then length (names_of ys) else length ys)
      go true = ap length (names-append xs ys apart) ∙ length-append (names_of xs) (names_of ys)
      go false = length-append xs ys
