-- Documents by their numbers, and in the order of their names.
use Rattle.std.proofs.Common.{◌≡◌, ◌≢◌, ℕ, suc, ◌==◌, ◌||◌, ◌&&◌, ◌⊎◌, inl, inr, Bool, true, false, cond, List, [], ◌∷◌, map}
use Rattle.std.proofs.Common.{get_or, Option, Some, None, Contains, refl, sym, ◌∙◌, ap, subst, arith}
use Rattle.std.specs.Prelude.{All, AllPairs, bytes_eq, filter}
use Rattle.std.specs.List.{AllByRecursion}
use Rattle.std.specs.declared.cmp.Ordering.TheVariants.{Less}
use Rattle.std.proofs.lemmas.Bool.{false≢true}
use Rattle.std.proofs.lemmas.Bool.Decides.{nat_tests}
use Rattle.std.proofs.Math.Path.{fun_ext}
use Rattle.query.specs.Query.{Formula, is_met}
use Rattle.posting.specs.ListValue.{has}
use Rattle.posting.specs.Postings.{trigrams_with}
use Rattle.std.specs.Ordering.{nat_cmp}
use Rattle.std.specs.Cmp.Lexicographic.{slice_cmp}
use Rattle.std.specs.List.Sorted.{IsStrictlySortedBy}
use Rattle.std.specs.Cmp.{both_ways}
use Rattle.std.proofs.Math.Bool.{or-true}
use Rattle.index.specs.declared.sets.Sets.{Sets}
use Rattle.index.specs.Private.Numbered.{Document, document, document_at, number_of, meets, is_picked, IsInNameOrder, RisesByName}
use Rattle.documents.specs.Text.{IsName}
use Rattle.prefixes.specs.Under.{begins_with}
use Rattle.index.specs.Private.Sets.{AreSetsOf, trigrams_shown}
use Rattle.index.proofs.DocumentLemmas.{same_name, bytes_eq-refl, Contains-cons, Contains-head, Contains-tail}
use Rattle.index.proofs.DocumentLemmas.{filter-Contains, Contains-filter}
use Rattle.index.proofs.StoredLemmas.{Numbered}

-- ---- each name once

abbrev pub Named : List Document → Type 0
Named [] = Unit {0}
Named (d ∷ ds) = All (λ e. d.name ≢ e.name) ds × Named ds

pub Named-pairs : (ds : List Document) → AllPairs (λ d e. d.name ≢ e.name) ds → Named ds
Named-pairs [] apart = tt
Named-pairs (d ∷ ds) apart = (
  λ k x inside.
      apart 0 (suc k) x (omega arith) (omega arith),
  Named-pairs ds (λ i j x before inside. apart (suc i) (suc j) x (omega arith) (omega arith)),
)

-- ---- a document by its number and by its name

pub document_at-Contains : (ds : List Document) → Numbered ds → (d : Document) → Contains ds d → document_at d.number ds ≡ Some (d.name, d.body)
unfolding document_at
document_at-Contains [] numbered d h = absurd (omega (arith, h.1))
document_at-Contains (x ∷ ds) numbered d h = go (Contains-cons x ds d h) (document_at-Contains ds numbered.1 d)
  where
    go : (x ≡ d) ⊎ Contains ds d → (Contains ds d → document_at d.number ds ≡ Some (d.name, d.body)) → document_at d.number (x ∷ ds) ≡ Some (d.name, d.body)
    go (inl is) deeper =
        let same : x.number ≡ d.number = ap (λ y. y.number) is in
        let here : (x.number == d.number) ≡ true = grind (arith, nat_tests) in
        rw here (ap (λ y. Some (y.name, y.body)) is)
    go (inr there) deeper =
        let above = numbered.0 there.0 d there.1 in
        let is : (get_or ds there.0 d).number ≡ d.number = ap (λ y. y.number) there.2 in
        let apart : (x.number == d.number) ≡ false = grind (arith, nat_tests) in
        rw apart (deeper there)

pub number_of-Contains : (ds : List Document) → Named ds → (d : Document) → Contains ds d → number_of d.name ds ≡ Some d.number
unfolding number_of
number_of-Contains [] named d h = absurd (omega (arith, h.1))
number_of-Contains (x ∷ ds) named d h = go (bytes_eq x.name d.name) refl (Contains-cons x ds d h) (number_of-Contains ds named.1 d)
  where
    go : (t : Bool) → bytes_eq x.name d.name ≡ t → (x ≡ d) ⊎ Contains ds d → (Contains ds d → number_of d.name ds ≡ Some d.number)
        → cond t (Some x.number) (number_of d.name ds) ≡ Some d.number
    go true e (inl is) deeper = ap (λ y. Some y.number) is
    go true e (inr there) deeper = absurd (named.0 there.0 d there.1 (same_name x.name d.name e ∙ ap (λ y. y.name) (sym there.2)))
    go false e (inl is) deeper = absurd (false≢true (sym e ∙ subst (λ y. bytes_eq x.name y.name ≡ true) is (bytes_eq-refl x.name)))
    go false e (inr there) deeper = deeper there

-- ---- some of the documents

names-above : (name : List ℕ) (p : Document → Bool) (xs : List Document)
    → AllByRecursion (λ n. slice_cmp nat_cmp name n ≡ Less) (map (λ d. d.name) xs)
    → AllByRecursion (λ n. slice_cmp nat_cmp name n ≡ Less) (map (λ d. d.name) (filter p xs))
names-above name p [] h = tt
names-above name p (y ∷ xs) h = pick (p y) (names-above name p xs h.1)
  where
    pick : (t : Bool) → AllByRecursion (λ n. slice_cmp nat_cmp name n ≡ Less) (map (λ d. d.name) (filter p xs))
        → AllByRecursion (λ n. slice_cmp nat_cmp name n ≡ Less) (map (λ d. d.name) (cond t (y ∷ filter p xs) (filter p xs)))
    pick true rest = (h.0, rest)
    pick false rest = rest

pub rises-filter : (p : Document → Bool) (ds : List Document) → RisesByName ds → RisesByName (filter p ds)
unfolding IsStrictlySortedBy
rises-filter p [] rises = tt
rises-filter p (x ∷ ds) rises = go (p x) (names-above x.name p ds rises.0) (rises-filter p ds rises.1)
  where
    go : (t : Bool) → AllByRecursion (λ n. slice_cmp nat_cmp x.name n ≡ Less) (map (λ d. d.name) (filter p ds)) → RisesByName (filter p ds)
        → RisesByName (cond t (x ∷ filter p ds) (filter p ds))
    go true above deeper = (above, deeper)
    go false above deeper = deeper

-- the documents that pass a test are in order where all are
pub some_in_order : (ds : List Document) → RisesByName ds → (p : Document → Bool) → IsInNameOrder (filter p ds) (filter p ds)
some_in_order ds rises p = record { rises = rises-filter p ds rises; same = λ d. (λ h. h, λ h. h) }

-- no document is chosen where no name begins with the text
pub none_in_order : (numbers text : List ℕ) (ds : List Document) → All (λ d. IsName d.name) ds
    → ((name : List ℕ) → IsName name → begins_with text name ≡ false) → IsInNameOrder (filter (is_picked numbers text) ds) []
unfolding IsStrictlySortedBy
none_in_order numbers text ds names none = subst (λ xs. IsInNameOrder xs []) (sym (nothing ds names)) (record {
  rises = tt;
  same = λ d. (λ h. h, λ h. h);
})
  where
    and_no : (t : Bool) → (t && false) ≡ false
    and_no true = refl
    and_no false = refl

    nothing : (ds : List Document) → All (λ d. IsName d.name) ds → filter (is_picked numbers text) ds ≡ []
    nothing [] names = refl
    nothing (d ∷ ds) names =
        let other : begins_with text d.name ≡ false = none d.name (names 0 d (omega arith)) in
        let out : is_picked numbers text d ≡ false = ap (λ t. has numbers d.number && t) other ∙ and_no (has numbers d.number) in
        ap (λ t. cond t (d ∷ filter (is_picked numbers text) ds) (filter (is_picked numbers text) ds)) out
        ∙ nothing ds (λ k x inside. names (suc k) x (omega arith))

-- ---- candidates

pub candidates_are : (ds : List Document) → Numbered ds → (sets : Sets) (formula : Formula) → AreSetsOf ds sets → None ≡ sets.waiting
    → filter (λ n. is_met formula (trigrams_with sets.postings n)) sets.live.members ≡ map (λ d. d.number) (filter (meets formula) ds)
candidates_are ds numbered sets formula kept all =
    ap (λ xs. filter (λ n. is_met formula (trigrams_with sets.postings n)) xs) kept.live
    ∙ go ds (λ d there.
    ap (is_met formula)
    (fun_ext (λ t. kept.postings t d.number (rw (← all) refl) ∙ ap (λ found. trigrams_shown found t) (document_at-Contains ds numbered d there))))
  where
    go : (ds : List Document) → ((d : Document) → Contains ds d → is_met formula (trigrams_with sets.postings d.number) ≡ meets formula d)
        → filter (λ n. is_met formula (trigrams_with sets.postings n)) (map (λ d. d.number) ds)
        ≡ map (λ d. d.number) (filter (meets formula) ds)
    go [] each = refl
    go (d ∷ ds) each = rw (each d (Contains-head d ds)) (pick (meets formula d) (go ds (λ x there. each x (Contains-tail d ds x there))))
      where
        pick : (t : Bool)
            → filter (λ n. is_met formula (trigrams_with sets.postings n)) (map (λ d. d.number) ds)
            ≡ map (λ d. d.number) (filter (meets formula) ds)
            → cond t (d.number ∷ filter (λ n. is_met formula (trigrams_with sets.postings n)) (map (λ d. d.number) ds))
            (filter (λ n. is_met formula (trigrams_with sets.postings n)) (map (λ d. d.number) ds))
            ≡ map (λ d. d.number) (cond t (d ∷ filter (meets formula) ds) (filter (meets formula) ds))
        pick true e = ap (λ xs. d.number ∷ xs) e
        pick false e = e

-- ---- documents by a list of their numbers

number_among : (ds : List Document) (number : ℕ) → has (map (λ d. d.number) ds) number ≡ true → (x : Document) × Contains ds x × (x.number ≡ number)
number_among [] number e = absurd (false≢true e)
number_among (d ∷ ds) number e = go (d.number == number) refl e (number_among ds number)
  where
    go : (t : Bool) → (d.number == number) ≡ t → (t || has (map (λ d. d.number) ds) number) ≡ true
        → (has (map (λ d. d.number) ds) number ≡ true → (x : Document) × Contains ds x × (x.number ≡ number))
        → (x : Document) × Contains (d ∷ ds) x × (x.number ≡ number)
    go true same h deeper = (d, Contains-head d ds, grind (arith, nat_tests))
    go false same h deeper = let at = deeper h in (at.0, Contains-tail d ds at.0 at.1, at.2)

has_number : (ds : List Document) (d : Document) → Contains ds d → has (map (λ x. x.number) ds) d.number ≡ true
has_number [] d h = absurd (omega (arith, h.1))
has_number (x ∷ ds) d h = go (Contains-cons x ds d h) (has_number ds d)
  where
    go : (x ≡ d) ⊎ Contains ds d → (Contains ds d → has (map (λ x. x.number) ds) d.number ≡ true)
        → (x.number == d.number || has (map (λ x. x.number) ds) d.number) ≡ true
    go (inl is) deeper =
        let same : x.number ≡ d.number = ap (λ y. y.number) is in
        let here : (x.number == d.number) ≡ true = grind (arith, nat_tests) in
        rw here refl
    go (inr rest) deeper = rw (deeper rest) (or-true (x.number == d.number))

-- a number is among those of the documents that pass a test exactly if its document passes
pub chosen_at : (ds : List Document) → Numbered ds → (p : Document → Bool) (d : Document) → Contains ds d
    → has (map (λ x. x.number) (filter p ds)) d.number ≡ p d
chosen_at ds numbered p d there =
    both_ways (has (map (λ x. x.number) (filter p ds)) d.number) (p d) forth
    (λ passes. has_number (filter p ds) d (Contains-filter p ds d there passes))
  where
    pair_or : Option (List ℕ × List ℕ) → List ℕ × List ℕ
    pair_or None = ([], [])
    pair_or (Some e) = e

    forth : has (map (λ x. x.number) (filter p ds)) d.number ≡ true → p d ≡ true
    forth h =
        let x = number_among (filter p ds) d.number h in
        let at = filter-Contains p ds x.0 x.1 in
        let texts : (x.0.name, x.0.body) ≡ (d.name, d.body) =
        ap pair_or
        (sym (document_at-Contains ds numbered x.0 at.0)
        ∙ (ap (λ n. document_at n ds) x.2 ∙ document_at-Contains ds numbered d there)) in
        sym (ap (λ n. p (document n x.0.name x.0.body)) x.2 ∙ ap (λ t. p (document d.number t.0 t.1)) texts) ∙ at.1
