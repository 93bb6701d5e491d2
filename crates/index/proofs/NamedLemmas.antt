-- The documents of an index, which are found by their d for, and then by the numbers of their contents.
use Rattle.std.proofs.Common.{◌≡◌, ◌≢◌, ℕ, suc, ◌^◌, ◌<◌, ◌≤◌, ◌==◌, ◌&&◌, not, ◌++◌, ◌⊎◌, inl, inr, Bool, true, false, cond, List, [], ◌∷◌, map, length}
use Rattle.std.proofs.Common.{get_or, Option, Some, None, Contains, refl, sym, ◌∙◌, ap, subst, arith}
use Rattle.std.specs.Prelude.{All, AllPairs, IsSome, IfSome, bytes_eq, filter, option_map, sum}
use Rattle.std.specs.List.{AllByRecursion}
use Rattle.std.specs.List.Sorted.{IsStrictlySortedBy, IsStrictlyIncreasing}
use Rattle.std.specs.Map.{keys_of, lookup}
use Rattle.std.specs.Ordering.{nat_cmp, is_eq}
use Rattle.std.specs.declared.cmp.Ordering.TheVariants.{Less, Equal}
use Rattle.std.specs.Cmp.{tied_itself}
use Rattle.std.specs.Cmp.Lexicographic.{slice_cmp, nat_list_cmp_total}
use Rattle.std.specs.BTreeMap.{BTreeMap, get, is_at}
use Rattle.std.specs.BTreeMap.Range.{entries_between, range_contains}
use Rattle.std.specs.BTreeSet.{BTreeSet, IsOrdered}
use Rattle.std.specs.declared.ops.Bound.{Bound}
use Rattle.std.specs.declared.ops.Bound.TheVariants.{Unbounded}
use Rattle.std.specs.FinMap.{find, get-from_entries}
use Rattle.std.specs.FinMap as map
use Rattle.std.proofs.lemmas.Bool.{false≢true}
use Rattle.std.proofs.lemmas.Bool.Decides.{nat_tests}
use Rattle.std.proofs.lemmas.List.{length-map}
use Rattle.std.proofs.lemmas.List.Elements.{All-map, Contains-get_or}
use Rattle.std.proofs.lemmas.List.Filters.{length-filter_both}
use Rattle.std.proofs.lemmas.Map.Keys.{Less-from_sorted}
use Rattle.std.proofs.lemmas.Map.Lookups.{exact_bytes}
use Rattle.std.proofs.lemmas.Map.Views.{All-found, btree_set_contains_iff}
use Rattle.query.specs.Query.{Formula, is_met}
use Rattle.query.specs.Trigrams.{trigrams_of_body}
use Rattle.posting.specs.ListValue.{has}
use Rattle.prefixes.specs.Under.{begins_with}
use Rattle.documents.specs.Text.{IsBody}
use Rattle.index.specs.declared.store.Store.{Store}
use Rattle.index.specs.Private.Numbered.{Document, document, document_at, number_of, meets, is_under, state, IsGoodDocument, IsState, IsInNameOrder, RisesByName}
use Rattle.index.specs.Private.Contents.{Groups, IsAlone, AreChosen, body_of, body_at, has_name, is_kept_with, is_name_in, is_number, named, count_in, names_count}
use Rattle.index.specs.Private.Plain.{entry, plain_documents}
use Rattle.index.specs.Private.Chosen.{document_numbered, document_named, documents_named, IsFirstUnder}
use Rattle.index.specs.Private.Store.{stored, IsIndex}
use Rattle.index.proofs.DocumentLemmas.{same_name, bytes_eq-refl, Contains-cons, Contains-head, Contains-tail, Contains-map, map-Contains, Contains-filter, filter-Contains}
use Rattle.index.proofs.DocumentLemmas.{filter_mapped, filter_same, Contains-number_of}
use Rattle.documents.proofs.RisingLemmas.{rises_by, same_elements, rise-filter}
use Rattle.index.proofs.StoredLemmas.{Numbered, Numbered-rise}
use Rattle.index.proofs.UnderLemmas.{picked, picked-first}
use Rattle.index.proofs.OrderLemmas.{Named, Named-pairs, number_of-Contains, document_at-Contains, rises-filter, some_in_order, chosen_at}
use Rattle.index.proofs.ChosenLemmas.{count-numbered}
use Rattle.documents.proofs.ListedLemmas.{ties}

-- the document of an entry
abbrev pub shown : List Document → List ℕ × ℕ → Document
shown contents e = document e.1 e.0 (body_at contents e.1)

pub number_of-shown : (contents : List Document) (q : List ℕ) (es : List (List ℕ × ℕ)) → number_of q (map (shown contents) es) ≡ lookup (is_at (slice_cmp nat_cmp q)) es
unfolding number_of
number_of-shown contents q [] = refl
number_of-shown contents q (e ∷ es) =
    ap (λ t. cond t (Some e.1) (number_of q (map (shown contents) es))) (ties e.0 q)
    ∙ ap (λ rest. cond (is_eq (slice_cmp nat_cmp q e.0)) (Some e.1) rest) (number_of-shown contents q es)

-- the number under a name
pub number-named : (numbers : BTreeMap (List ℕ) ℕ) (contents : List Document) (q : List ℕ) → number_of q (named numbers contents) ≡ get (slice_cmp nat_cmp) numbers q
number-named numbers contents q = number_of-shown contents q numbers.entries

find-shown : (contents : List Document) (q : List ℕ) (es : List (List ℕ × ℕ))
    → find (slice_cmp nat_cmp) q (map entry (map (shown contents) es)) ≡ option_map (body_at contents) (lookup (is_at (slice_cmp nat_cmp q)) es)
find-shown contents q [] = refl
find-shown contents q (e ∷ es) = go (is_eq (slice_cmp nat_cmp q e.0)) (find-shown contents q es)
  where
    go : (t : Bool) → find (slice_cmp nat_cmp) q (map entry (map (shown contents) es)) ≡ option_map (body_at contents) (lookup (is_at (slice_cmp nat_cmp q)) es)
        → cond t (Some (body_at contents e.1)) (find (slice_cmp nat_cmp) q (map entry (map (shown contents) es)))
        ≡ option_map (body_at contents) (cond t (Some e.1) (lookup (is_at (slice_cmp nat_cmp q)) es))
    go true rest = refl
    go false rest = rest

-- the body under a name
pub body-named : (numbers : BTreeMap (List ℕ) ℕ) (contents : List Document) (q : List ℕ)
    → map.get (plain_documents (named numbers contents)) q ≡ option_map (body_at contents) (get (slice_cmp nat_cmp) numbers q)
body-named numbers contents q =
    get-from_entries nat_list_cmp_total (map entry (named numbers contents)) q ∙ find-shown contents q numbers.entries

-- no body under a name without a number
pub no_body_named : (ds : List Document) (q : List ℕ) → number_of q ds ≡ None → map.get (plain_documents ds) q ≡ None
unfolding number_of
no_body_named ds q none = get-from_entries nat_list_cmp_total (map entry ds) q ∙ go ds none
  where
    go : (ds : List Document) → number_of q ds ≡ None → find (slice_cmp nat_cmp) q (map entry ds) ≡ None
    go [] none = refl
    go (d ∷ ds) none = pick (bytes_eq d.name q) (is_eq (slice_cmp nat_cmp q d.name)) (ties d.name q) none (go ds)
      where
        pick : (t u : Bool) → t ≡ u → cond t (Some d.number) (number_of q ds) ≡ None → (number_of q ds ≡ None → find (slice_cmp nat_cmp) q (map entry ds) ≡ None)
            → cond u (Some d.body) (find (slice_cmp nat_cmp) q (map entry ds)) ≡ None
        pick true u e none deeper = cc
        pick false true e none deeper = absurd (false≢true e)
        pick false false e none deeper = deeper none

rises-shown : (contents : List Document) (es : List (List ℕ × ℕ)) → IsStrictlySortedBy (slice_cmp nat_cmp) (keys_of es) → RisesByName (map (shown contents) es)
unfolding IsStrictlySortedBy
rises-shown contents [] sorted = tt
rises-shown contents (e ∷ es) sorted = (above es sorted.0, rises-shown contents es sorted.1)
  where
    above : (fs : List (List ℕ × ℕ)) → AllByRecursion (λ k. slice_cmp nat_cmp e.0 k ≡ Less) (keys_of fs)
        → AllByRecursion (λ n. slice_cmp nat_cmp e.0 n ≡ Less) (map (λ d. d.name) (map (shown contents) fs))
    above [] h = tt
    above (f ∷ fs) h = (h.0, above fs h.1)

names_apart : (ds : List Document) → RisesByName ds → AllPairs (λ d e. d.name ≢ e.name) ds
names_apart ds rises = λ i j d before inside same.
    let rising = Less-from_sorted (λ (x y : Document). slice_cmp nat_cmp x.name y.name) ds i j d (rises_by (slice_cmp nat_cmp) (λ x. x.name) ds rises) before inside in
    let tied : Less ≡ Equal =
    sym rising ∙ ap (slice_cmp nat_cmp (get_or ds i d).name) (sym same) ∙ tied_itself nat_list_cmp_total (get_or ds i d).name in
    cc

-- ---- contents by their numbers

-- what has a number is found
at_number : (ds : List Document) (n : ℕ) → IsSome (document_at n ds) → (first : List ℕ) × Contains ds (document n first (body_at ds n))
unfolding document_at
at_number [] n h = absurd (false≢true h)
at_number (d ∷ ds) n h = go (d.number == n) refl h (at_number ds n)
  where
    go : (t : Bool) → (d.number == n) ≡ t → IsSome (cond t (Some (d.name, d.body)) (document_at n ds))
        → (IsSome (document_at n ds) → (first : List ℕ) × Contains ds (document n first (body_at ds n)))
        → (first : List ℕ) × Contains (d ∷ ds) (document n first (body_of (cond t (Some (d.name, d.body)) (document_at n ds))))
    go true e h deeper =
        let same : d.number ≡ n = grind (arith, nat_tests) in
        (d.name, subst (λ k. Contains (d ∷ ds) (document k d.name d.body)) same (Contains-head d ds))
    go false e h deeper = let at = deeper h in (at.0, Contains-tail d ds (document n at.0 (body_at ds n)) at.1)

kept_there : (content : Option (List ℕ × List ℕ)) (q : List ℕ) → is_kept_with q content ≡ true → IsSome content
kept_there None q h = absurd (false≢true h)
kept_there (Some d) q h = refl

same_itself : (n : ℕ) → (n == n) ≡ true
same_itself n = grind (arith, nat_tests)

pub number_is : (n : ℕ) (found : Option ℕ) → is_number n found ≡ true → found ≡ Some n
number_is n None h = absurd (false≢true h)
number_is n (Some m) h = let same : m ≡ n = grind (arith, nat_tests) in ap Some same

-- the names of a content
abbrev names_listed : Option (BTreeSet (List ℕ)) → Option (List ℕ × List ℕ) → List (List ℕ)
names_listed None None = []
names_listed None (Some d) = d.0 ∷ []
names_listed (Some names) content = names.keys

listed-has : (names : Option (BTreeSet (List ℕ))) (content : Option (List ℕ × List ℕ)) (q : List ℕ) → Contains (names_listed names content) q
    → is_name_in names content q ≡ true
listed-has None None q h = absurd (omega (arith, h.1))
listed-has None (Some d) q h =
    elim (Contains-cons d.0 [] q h) [
      | inl is ↦ subst (λ n. bytes_eq d.0 n ≡ true) is (bytes_eq-refl d.0)
      | inr rest ↦ absurd (omega (arith, rest.1))
    ]
listed-has (Some names) content q h = (btree_set_contains_iff nat_list_cmp_total exact_bytes names q).1 h

has-listed : (names : Option (BTreeSet (List ℕ))) (content : Option (List ℕ × List ℕ)) (q : List ℕ) → is_name_in names content q ≡ true
    → Contains (names_listed names content) q
has-listed None None q h = absurd (false≢true h)
has-listed None (Some d) q h = subst (Contains (d.0 ∷ [])) (same_name d.0 q h) (Contains-head d.0 [])
has-listed (Some names) content q h = (btree_set_contains_iff nat_list_cmp_total exact_bytes names q).0 h

listed-rises : (names : Option (BTreeSet (List ℕ))) (content : Option (List ℕ × List ℕ)) → IfSome names (IsOrdered (slice_cmp nat_cmp))
    → IsStrictlySortedBy (slice_cmp nat_cmp) (names_listed names content)
unfolding IsStrictlySortedBy
listed-rises None None h = tt
listed-rises None (Some d) h = (tt, tt)
listed-rises (Some names) content h = h

listed-count : (names : Option (BTreeSet (List ℕ))) (content : Option (List ℕ × List ℕ)) → IsSome content → length (names_listed names content) ≡ count_in names
listed-count None None there = absurd (false≢true there)
listed-count None (Some d) there = refl
listed-count (Some names) content there = refl

-- ---- the documents with a name

named_none : (name : List ℕ) (ds : List Document) → All (λ e. name ≢ e.name) ds → document_named ds name ≡ []
named_none name [] apart = refl
named_none name (x ∷ ds) apart = go (bytes_eq x.name name) refl (named_none name ds (λ k d inside. apart (suc k) d (omega arith)))
  where
    go : (t : Bool) → bytes_eq x.name name ≡ t → document_named ds name ≡ [] → cond t (x ∷ document_named ds name) (document_named ds name) ≡ []
    go true e rest = absurd (apart 0 x (omega arith) (sym (same_name x.name name e)))
    go false e rest = rest

named_one : (ds : List Document) → Named ds → (d : Document) → Contains ds d → document_named ds d.name ≡ d ∷ []
named_one [] apart d h = absurd (omega (arith, h.1))
named_one (x ∷ ds) apart d h = go (bytes_eq x.name d.name) refl (Contains-cons x ds d h) (named_one ds apart.1 d)
  where
    go : (t : Bool) → bytes_eq x.name d.name ≡ t → (x ≡ d) ⊎ Contains ds d → (Contains ds d → document_named ds d.name ≡ d ∷ [])
        → cond t (x ∷ document_named ds d.name) (document_named ds d.name) ≡ d ∷ []
    go true e (inl is) deeper =
        ap (λ xs. x ∷ xs) (named_none d.name ds (subst (λ (y : Document). All (λ z. y.name ≢ z.name) ds) is apart.0)) ∙ ap (λ y. y ∷ []) is
    go true e (inr there) deeper = absurd (apart.0 there.0 d there.1 (same_name x.name d.name e ∙ ap (λ y. y.name) (sym there.2)))
    go false e (inl is) deeper = absurd (false≢true (sym e ∙ subst (λ (y : Document). bytes_eq x.name y.name ≡ true) is (bytes_eq-refl x.name)))
    go false e (inr there) deeper = deeper there

named-shown : (ds : List Document) → Named ds → (contents : List Document) (es : List (List ℕ × ℕ))
    → ((e : List ℕ × ℕ) → Contains es e → Contains ds (shown contents e)) → documents_named ds (keys_of es) ≡ map (shown contents) es
named-shown ds apart contents [] each = refl
named-shown ds apart contents (e ∷ es) each =
    ap (λ xs. xs ++ documents_named ds (keys_of es)) (named_one ds apart (shown contents e) (each e (Contains-head e es)))
    ∙ ap (λ xs. shown contents e ∷ xs) (named-shown ds apart contents es (λ f there. each f (Contains-tail e es f there)))

all_of_number : (n : ℕ) (body : List ℕ) (ds : List Document) → ((d : Document) → Contains ds d → (d.number ≡ n) × (d.body ≡ body))
    → ds ≡ map (λ q. document n q body) (map (λ d. d.name) ds)
all_of_number n body [] each = refl
all_of_number n body (d ∷ ds) each =
    let is = each d (Contains-head d ds) in
    ap (λ k. document k d.name d.body ∷ ds) is.0
    ∙ ap (λ b. document n d.name b ∷ ds) is.1
    ∙ ap (λ xs. document n d.name body ∷ xs) (all_of_number n body ds (λ x there. each x (Contains-tail d ds x there)))

pub body_is : (o : Option (List ℕ × List ℕ)) (body : List ℕ) → option_map (λ d. d.1) o ≡ Some body → body_of o ≡ body
body_is None body e = cc
body_is (Some d) body e = cc

pub body_there : (o : Option (List ℕ × List ℕ)) → IsSome o → option_map (λ d. d.1) o ≡ Some (body_of o)
body_there None h = absurd (false≢true h)
body_there (Some d) h = refl

-- ---- what an index keeps

module _ {version : ℕ} {numbers : BTreeMap (List ℕ) ℕ} {groups : Groups} {store : Store} {held_bytes : ℕ} (is : IsIndex version numbers groups store held_bytes) where
  abbrev contents : List Document
  contents = stored store

  abbrev documents : List Document
  documents = named numbers contents

  pub content_of_name : (n : ℕ) (q : List ℕ) → has_name groups contents n q ≡ true → IsSome (document_at n contents)
  content_of_name n q h = go (get nat_cmp groups n) refl h
    where
      go : (names : Option (BTreeSet (List ℕ))) → get nat_cmp groups n ≡ names → is_name_in names (document_at n contents) q ≡ true
          → IsSome (document_at n contents)
      go None e h = kept_there (document_at n contents) q h
      go (Some names) e h = is.groups_of.there n (subst IsSome (sym e) refl)

  pub name_of_number : (q : List ℕ) (n : ℕ) → get (slice_cmp nat_cmp) numbers q ≡ Some n → has_name groups contents n q ≡ true
  name_of_number q n found = is.names n q ∙ ap (is_number n) found ∙ same_itself n

  -- the content that a name is to leave has it
  pub left_name : (q : List ℕ) (old : Option ℕ) → old ≡ get (slice_cmp nat_cmp) numbers q → IfSome old (λ n. has_name groups contents n q ≡ true)
  left_name q None e = tt
  left_name q (Some n) e = name_of_number q n (sym e)

  pub number_of_name : (q : List ℕ) (n : ℕ) → has_name groups contents n q ≡ true → get (slice_cmp nat_cmp) numbers q ≡ Some n
  number_of_name q n h = number_is n (get (slice_cmp nat_cmp) numbers q) (sym (is.names n q) ∙ h)

  pub content_of_number : (q : List ℕ) (n : ℕ) → get (slice_cmp nat_cmp) numbers q ≡ Some n → IsSome (document_at n contents)
  content_of_number q n found = content_of_name n q (name_of_number q n found)

  -- the body of a document by the number under its name
  pub body-found : (q : List ℕ) (found : Option ℕ) → number_of q documents ≡ found → map.get (plain_documents documents) q ≡ option_map (body_at contents) found
  body-found q found e = body-named numbers contents q ∙ ap (option_map (body_at contents)) (sym (number-named numbers contents q) ∙ e)

  pub numbered_contents : Numbered contents
  numbered_contents = Numbered-rise contents is.contents.rise

  good_content : (n : ℕ) → IsSome (document_at n contents) → (0 < n) × (n ≤ version) × IsBody (body_at contents n)
  good_content n there =
      let at = at_number contents n there in
      subst (λ (d : Document). (0 < d.number) × (d.number ≤ version) × IsBody d.body) at.1.2 (is.contents.good at.1.0 (document n at.0 (body_at contents n)) at.1.1)

  pub rises-documents : RisesByName documents
  rises-documents = rises-shown contents numbers.entries is.ordered

  pub named_documents : Named documents
  named_documents = Named-pairs documents (names_apart documents rises-documents)

  body_of_document : (d : Document) → Contains documents d → d.body ≡ body_at contents d.number
  body_of_document d there =
      let at = map-Contains (shown contents) numbers.entries d there in
      subst (λ (x : Document). x.body ≡ body_at contents x.number) at.2 refl

  pub state_of_index : IsState (state version documents)
  state_of_index = record {
    rise = rises-documents;
    good =
        All-map (λ d. IsGoodDocument version d) (shown contents) numbers.entries (λ k e inside.
        good (get_or numbers.entries k e) (All-found nat_list_cmp_total numbers is.ordered k e inside));
    names = names_apart documents rises-documents;
    same = λ d e here there alike. body_of_document d here ∙ ap (body_at contents) alike ∙ sym (body_of_document e there);
  }
    where
      good : (e : List ℕ × ℕ) → get (slice_cmp nat_cmp) numbers e.0 ≡ Some e.1 → IsGoodDocument version (shown contents e)
      good e found =
          let of_content = good_content e.1 (content_of_number e.0 e.1 found) in
          (of_content.0, of_content.1, is.good e.0 (subst IsSome (sym found) refl), of_content.2)

  -- ---- the documents that have a content

  names-numbered : (n : ℕ) → map (λ d. d.name) (document_numbered documents n) ≡ names_listed (get nat_cmp groups n) (document_at n contents)
  names-numbered n =
      same_elements nat_list_cmp_total (map (λ d. d.name) (document_numbered documents n)) (names_listed (get nat_cmp groups n) (document_at n contents))
      (rises-filter (λ d. d.number == n) documents rises-documents)
      (listed-rises (get nat_cmp groups n) (document_at n contents) (is.groups_of.ordered n)) forth back
    where
      forth : (q : List ℕ) → Contains (map (λ d. d.name) (document_numbered documents n)) q → Contains (names_listed (get nat_cmp groups n) (document_at n contents)) q
      forth q h =
          let at = map-Contains (λ d. d.name) (document_numbered documents n) q h in
          let from = filter-Contains (λ d. d.number == n) documents at.0 at.1 in
          let number : at.0.number ≡ n = let yes = from.1 in grind (arith, nat_tests) in
          let found : number_of at.0.name documents ≡ Some at.0.number = number_of-Contains documents named_documents at.0 from.0 in
          let name : get (slice_cmp nat_cmp) numbers q ≡ Some n =
          sym (number-named numbers contents q) ∙ (ap (λ x. number_of x documents) (sym at.2) ∙ (found ∙ ap Some number)) in
          has-listed (get nat_cmp groups n) (document_at n contents) q (name_of_number q n name)

      back : (q : List ℕ) → Contains (names_listed (get nat_cmp groups n) (document_at n contents)) q → Contains (map (λ d. d.name) (document_numbered documents n)) q
      back q h =
          let found = number_of_name q n (listed-has (get nat_cmp groups n) (document_at n contents) q h) in
          let at = Contains-number_of documents q n (number-named numbers contents q ∙ found) in
          Contains-map (λ d. d.name) (document_numbered documents n) (document n q at.0)
          (Contains-filter (λ d. d.number == n) documents (document n q at.0) at.1 (same_itself n))

  pub numbered-names : (n : ℕ)
      → document_numbered documents n ≡ map (λ q. document n q (body_at contents n)) (names_listed (get nat_cmp groups n) (document_at n contents))
  numbered-names n =
      all_of_number n (body_at contents n) (document_numbered documents n) each
      ∙ ap (map (λ q. document n q (body_at contents n))) (names-numbered n)
    where
      each : (d : Document) → Contains (document_numbered documents n) d → (d.number ≡ n) × (d.body ≡ body_at contents n)
      each d there =
          let from = filter-Contains (λ x. x.number == n) documents d there in
          let number : d.number ≡ n = let yes = from.1 in grind (arith, nat_tests) in
          (number, body_of_document d from.0 ∙ ap (body_at contents) number)

  -- with an entry, without one, and without a content
  pub numbered-group : (n : ℕ) (names : BTreeSet (List ℕ)) → get nat_cmp groups n ≡ Some names
      → document_numbered documents n ≡ map (λ q. document n q (body_at contents n)) names.keys
  numbered-group n names found =
      numbered-names n ∙ ap (λ g. map (λ q. document n q (body_at contents n)) (names_listed g (document_at n contents))) found

  pub numbered-single : (n : ℕ) (d : List ℕ × List ℕ) → get nat_cmp groups n ≡ None → document_at n contents ≡ Some d
      → document_numbered documents n ≡ document n d.0 d.1 ∷ []
  numbered-single n d none at =
      numbered-names n
      ∙ ap (λ g. map (λ q. document n q (body_at contents n)) (names_listed g (document_at n contents))) none
      ∙ ap (λ o. map (λ q. document n q (body_of o)) (names_listed None o)) at

  pub numbered-none : (n : ℕ) → document_at n contents ≡ None → document_numbered documents n ≡ []
  numbered-none n none = numbered-names n ∙ go (get nat_cmp groups n) refl
    where
      go : (names : Option (BTreeSet (List ℕ))) → get nat_cmp groups n ≡ names
          → map (λ q. document n q (body_at contents n)) (names_listed names (document_at n contents)) ≡ []
      go None e = ap (λ o. map (λ q. document n q (body_at contents n)) (names_listed None o)) none
      go (Some names) e =
          let there : IsSome (document_at n contents) = is.groups_of.there n (subst IsSome (sym e) refl) in
          absurd (false≢true (subst IsSome none there))

  count-names : (n : ℕ) → IsSome (document_at n contents) → names_count groups n ≡ length (document_numbered documents n)
  count-names n there =
      sym (ap length (numbered-names n)
      ∙ length-map (names_listed (get nat_cmp groups n) (document_at n contents)) (λ q. document n q (body_at contents n))
      ∙ listed-count (get nat_cmp groups n) (document_at n contents) there)

  -- ---- what is found for a query

  module _ (formula : Formula) (members : List ℕ) (are : members ≡ map (λ d. d.number) (filter (meets formula) contents)) where
    chosen-numbers : (d : Document) → Contains documents d → has members d.number ≡ meets formula d
    chosen-numbers d there =
        let found = sym (number-named numbers contents d.name) ∙ number_of-Contains documents named_documents d there in
        let at = at_number contents d.number (content_of_number d.name d.number found) in
        ap (λ ns. has ns d.number) are
        ∙ chosen_at contents numbered_contents (meets formula) (document d.number at.0 (body_at contents d.number)) at.1
        ∙ ap (λ b. is_met formula (trigrams_of_body b)) (sym (body_of_document d there))

    chosen-contents : (n : ℕ) → Contains members n → IsSome (document_at n contents)
    chosen-contents n there =
        let at = map-Contains (λ d. d.number) (filter (meets formula) contents) n (subst (λ ns. Contains ns n) are there) in
        let from = filter-Contains (meets formula) contents at.0 at.1 in
        subst (λ k. IsSome (document_at k contents)) at.2
        (subst IsSome (sym (document_at-Contains contents numbered_contents at.0 from.0)) refl)

    count-chosen : sum (map (names_count groups) members) ≡ length (filter (meets formula) documents)
    count-chosen =
        count-numbered documents (names_count groups) members
        (subst IsStrictlyIncreasing (sym are) (rise-filter (λ d. d.number) (meets formula) contents is.contents.rise))
        (λ n there. count-names n (chosen-contents n there))
        ∙ ap length (filter_same (λ d. has members d.number) (meets formula) documents chosen-numbers)

    pub few-chosen : sum (map (names_count groups) members) < 2 ^ 32
    few-chosen =
        omega (
          arith,
          count-chosen,
          length-filter_both (meets formula) (λ d. not (meets formula d)) (λ d. refl) documents,
          length-map numbers.entries (shown contents),
          is.fewer,
        )

    pub are-chosen : (count : ℕ) → count ≡ sum (map (names_count groups) members) → AreChosen formula documents members count
    are-chosen count counted = record {
      numbers = λ k d inside. chosen-numbers (get_or documents k d) (Contains-get_or documents k d inside);
      count_is = counted ∙ count-chosen;
    }

  -- what is between two names is found
  pub found_between : (first : Bound (List ℕ)) (from : List (List ℕ × ℕ)) → from ≡ entries_between (slice_cmp nat_cmp) first Unbounded numbers.entries
      → (e : List ℕ × ℕ) → Contains from e → number_of e.0 documents ≡ Some e.1
  found_between first from are e there =
      let at = (filter-Contains (λ (x : List ℕ × ℕ). range_contains (slice_cmp nat_cmp) first Unbounded x.0) numbers.entries e (subst (λ es. Contains es e) are there)).0 in
      number-named numbers contents e.0
      ∙ subst (λ (x : List ℕ × ℕ). get (slice_cmp nat_cmp) numbers x.0 ≡ Some x.1) at.2 (All-found nat_list_cmp_total numbers is.ordered at.0 e at.1)

  -- the document of a name
  pub document_of_name : (q : List ℕ) (n : ℕ) (d : List ℕ × List ℕ) → get (slice_cmp nat_cmp) numbers q ≡ Some n → document_at n contents ≡ Some d
      → document_named documents q ≡ document n q d.1 ∷ []
  document_of_name q n d found at =
      let there = Contains-number_of documents q n (number-named numbers contents q ∙ found) in
      let body : there.0 ≡ d.1 = body_of_document (document n q there.0) there.1 ∙ ap body_of at in
      named_one documents named_documents (document n q there.0) there.1 ∙ ap (λ b. document n q b ∷ []) body

  -- a name alone
  pub alone : (name : List ℕ) (n : ℕ) → get (slice_cmp nat_cmp) numbers name ≡ Some n → IsAlone (get nat_cmp groups n)
      → (q : List ℕ) → get (slice_cmp nat_cmp) numbers q ≡ Some n → bytes_eq name q ≡ true
  alone name n found one q also = go (get nat_cmp groups n) (document_at n contents) one (name_of_number name n found) (name_of_number q n also)
    where
      single : (names : List (List ℕ)) → length names ≡ 1 → Contains names name → Contains names q → name ≡ q
      single [] one here there = absurd (omega arith)
      single (k ∷ []) one here there =
          elim (Contains-cons k [] name here) [
            | inl is ↦ elim (Contains-cons k [] q there) [ inl same ↦ sym is ∙ same | inr rest ↦ absurd (omega (arith, rest.1)) ]
            | inr rest ↦ absurd (omega (arith, rest.1))
          ]
      single (k ∷ j ∷ names) one here there = absurd (omega arith)

      equal : name ≡ q → bytes_eq name q ≡ true
      equal same = ap (λ x. bytes_eq x q) same ∙ bytes_eq-refl q

      go : (names : Option (BTreeSet (List ℕ))) (content : Option (List ℕ × List ℕ)) → IsAlone names → is_name_in names content name ≡ true
          → is_name_in names content q ≡ true → bytes_eq name q ≡ true
      go None None one here there = absurd (false≢true here)
      go None (Some d) one here there = equal (sym (same_name d.0 name here) ∙ same_name d.0 q there)
      go (Some names) content one here there =
          equal (single names.keys one (has-listed (Some names) content name here) (has-listed (Some names) content q there))

  -- the documents that were taken from the entries from the first such name on
  pub many_taken : (test : ℕ → Bool) (text : List ℕ) (first : Bound (List ℕ)) → IsFirstUnder text first → (from : List (List ℕ × ℕ))
      → from ≡ entries_between (slice_cmp nat_cmp) first Unbounded numbers.entries
      → (taken : List Document) → taken ≡ documents_named documents (picked test text from)
      → IsInNameOrder (filter (λ d. test d.number && is_under text d) documents) taken
  many_taken test text first is_first from are taken so_far =
      subst (IsInNameOrder (filter p documents))
      (sym (so_far
      ∙ ap (documents_named documents) (picked-first text first is_first test numbers.entries from are)
      ∙ named-shown documents named_documents contents (filter (λ e. test e.1 && begins_with text e.0) numbers.entries)
      (λ e there. Contains-map (shown contents) numbers.entries e (filter-Contains (λ x. test x.1 && begins_with text x.0) numbers.entries e there).0)
      ∙ sym (filter_mapped (shown contents) p numbers.entries)))
      (some_in_order documents rises-documents p)
    where
      p : Document → Bool
      p d = test d.number && is_under text d
