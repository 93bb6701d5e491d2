-- A few documents, found by their numbers and sorted by their names.
use Rattle.std.proofs.Common.{◌≡◌, ◌≢◌, ℕ, suc, ◌+◌, ◌<◌, ◌≤◌, ◌==◌, ◌||◌, ◌&&◌, ◌⊎◌, inl, inr, Bool, true, false, cond, ◌++◌, List, [], ◌∷◌, map, length, take, drop}
use Rattle.std.proofs.Common.{get_or, Some, refl, sym, ◌∙◌, ap, subst, arith, append_assoc, Contains}
use Rattle.std.specs.Prelude.{AllPairs, filter, sum}
use Rattle.std.specs.List.{AllByRecursion, swap}
use Rattle.std.specs.List.Sorted.{IsPermutation, IsSortedBy, IsStrictlySortedBy, IsStrictlyIncreasing}
use Rattle.std.specs.Ordering.{nat_cmp, is_lt, is_eq, ordering_reverse}
use Rattle.std.specs.declared.cmp.Ordering.{Ordering}
use Rattle.std.specs.declared.cmp.Ordering.TheVariants.{Less, Equal, Greater}
use Rattle.std.specs.Cmp.Lexicographic.{slice_cmp, nat_list_cmp_total, texts_ties}
use Rattle.std.proofs.lemmas.Bool.{false≢true, cases_lt, cases_eq}
use Rattle.std.proofs.lemmas.Bool.Decides.{nat_tests}
use Rattle.std.proofs.lemmas.List.{length-append, length-map, get_or-map, append-nil, drop_all, length-take, map-append, take-append-drop}
use Rattle.std.proofs.lemmas.List.Edits.{Swapped, swapped_from_swap, length-swap}
use Rattle.std.proofs.lemmas.List.Elements.{filter-append}
use Rattle.std.proofs.lemmas.List.Sums.{sum_by-cons}
use Rattle.std.proofs.lemmas.List.Kept.{AllPairs-from_increasing}
use Rattle.std.proofs.lemmas.List.Sorted.{IsPermutation-refl, IsPermutation-cons, IsPermutation-trans, IsPermutation-middle, IsPermutation-append_right, length_permutation}
use Rattle.std.proofs.lemmas.List.Sorted.{IsPermutation-keeps, IsPermutation-map, Contains-permutation, IsPermutation-sym, sorted_far, ranks_by}
use Rattle.posting.specs.ListValue.{has}
use Rattle.posting.proofs.SetLemmas.{contains-has}
use Rattle.documents.specs.declared.document.SharedDocument.{SharedDocument}
use Rattle.index.specs.Private.Numbered.{Document, number_of, AreFirstInNameOrder, IsInNameOrder}
use Rattle.prefixes.specs.Under.{begins_with}
use Rattle.index.specs.Private.Numbered.{document_of, documents_shared}
use Rattle.index.specs.Private.Chosen.{document_numbered, documents_numbered, document_named, documents_named}
use Rattle.index.proofs.DocumentLemmas.{same_name, filter_same, Contains-head, Contains-tail}
use Rattle.index.proofs.UnderLemmas.{filter_twice, Behind, Behind-tail, picked, picked-none, picked-keep, picked-skip}

-- ---- found by their numbers

filter_swap : (p q : Document → Bool) (ds : List Document) → filter p (filter q ds) ≡ filter q (filter p ds)
filter_swap p q ds =
    filter_twice q p ds ∙ filter_same (λ d. q d && p d) (λ d. p d && q d) ds (λ d there. swapped (q d) (p d)) ∙ sym (filter_twice p q ds)
  where
    swapped : (a b : Bool) → (a && b) ≡ (b && a)
    swapped true true = refl
    swapped true false = refl
    swapped false true = refl
    swapped false false = refl

-- elements that pass one of two tests, which none passes both
filter_either : (p q : Document → Bool) → ((d : Document) → p d ≡ true → q d ≡ false) → (ds : List Document)
    → IsPermutation (filter p ds ++ filter q ds) (filter (λ d. p d || q d) ds)
filter_either p q apart [] = IsPermutation-refl []
filter_either p q apart (x ∷ ds) = go (p x) refl (q x) refl (filter_either p q apart ds)
  where
    rest : List Document
    rest = filter (λ d. p d || q d) ds

    go : (t : Bool) → p x ≡ t → (u : Bool) → q x ≡ u → IsPermutation (filter p ds ++ filter q ds) rest
        → IsPermutation (cond t (x ∷ filter p ds) (filter p ds) ++ cond u (x ∷ filter q ds) (filter q ds)) (cond (t || u) (x ∷ rest) rest)
    go true e true f deeper = absurd (false≢true (sym (apart x e) ∙ f))
    go true e false f deeper = IsPermutation-cons x (filter p ds ++ filter q ds) rest deeper
    go false e true f deeper =
        IsPermutation-trans (filter p ds ++ x ∷ filter q ds) (x ∷ (filter p ds ++ filter q ds)) (x ∷ rest)
        (IsPermutation-middle (filter p ds) x (filter q ds)) (IsPermutation-cons x (filter p ds ++ filter q ds) rest deeper)
    go false e false f deeper = deeper

none_of : (ds : List Document) → [] ≡ filter (λ d. has [] d.number) ds
none_of [] = refl
none_of (d ∷ ds) = none_of ds

same_either_way : (a b : ℕ) → (a == b) ≡ (b == a)
same_either_way a b = grind (arith, nat_tests)

-- they are the documents with these numbers, in another order
pub numbered-permuted : (ds : List Document) (numbers : List ℕ) → IsStrictlyIncreasing numbers
    → IsPermutation (documents_numbered ds numbers) (filter (λ d. has numbers d.number) ds)
numbered-permuted ds numbers rise = go numbers (AllPairs-from_increasing numbers rise)
  where
    apart : (number : ℕ) (numbers : List ℕ) → AllPairs (λ x y. x < y) (number ∷ numbers) → (d : Document) → (d.number == number) ≡ true
        → has numbers d.number ≡ false
    apart number numbers less d same = pick (has numbers d.number) refl
      where
        pick : (t : Bool) → has numbers d.number ≡ t → t ≡ false
        pick false e = refl
        pick true e =
            let at = contains-has numbers d.number e in
            let low : number < get_or numbers at.0 d.number = less 0 (suc at.0) d.number (omega arith) (omega (arith, at.1)) in
            let is : d.number ≡ number = grind (arith, nat_tests) in
            absurd (omega (arith, at.2))

    go : (numbers : List ℕ) → AllPairs (λ x y. x < y) numbers
        → IsPermutation (documents_numbered ds numbers) (filter (λ d. has numbers d.number) ds)
    go [] less = subst (IsPermutation []) (none_of ds) (IsPermutation-refl [])
    go (number ∷ numbers) less =
        let here = document_numbered ds number in
        let others = filter (λ d. has numbers d.number) ds in
        IsPermutation-trans (here ++ documents_numbered ds numbers) (here ++ others) (filter (λ d. has (number ∷ numbers) d.number) ds)
        (IsPermutation-append_right here (documents_numbered ds numbers) others
        (go numbers (λ i j d before inside. less (suc i) (suc j) d (omega arith) (omega arith))))
        (subst (IsPermutation (here ++ others))
        (filter_same (λ d. d.number == number || has numbers d.number) (λ d. has (number ∷ numbers) d.number) ds
        (λ d there. ap (λ t. t || has numbers d.number) (same_either_way d.number number)))
        (filter_either (λ d. d.number == number) (λ d. has numbers d.number) (apart number numbers less) ds))

numbered-filter : (p : Document → Bool) (ds : List Document) (numbers : List ℕ)
    → filter p (documents_numbered ds numbers) ≡ documents_numbered (filter p ds) numbers
numbered-filter p ds [] = refl
numbered-filter p ds (number ∷ numbers) =
    filter-append p (document_numbered ds number) (documents_numbered ds numbers)
    ∙ ap (λ xs. xs ++ filter p (documents_numbered ds numbers)) (filter_swap p (λ d. d.number == number) ds)
    ∙ ap (λ xs. document_numbered (filter p ds) number ++ xs) (numbered-filter p ds numbers)

-- those of them use Rattle.watch
pub numbered-chosen : (p : Document → Bool) (ds : List Document) (numbers : List ℕ) → IsStrictlyIncreasing numbers
    → IsPermutation (filter p (documents_numbered ds numbers)) (filter (λ d. has numbers d.number && p d) ds)
numbered-chosen p ds numbers rise =
    subst (λ xs. IsPermutation xs (filter (λ d. has numbers d.number && p d) ds)) (sym (numbered-filter p ds numbers))
    (subst (IsPermutation (documents_numbered (filter p ds) numbers))
    (filter_swap (λ d. has numbers d.number) p ds ∙ filter_twice (λ d. has numbers d.number) p ds) (numbered-permuted (filter p ds) numbers rise))

length-numbered : (ds : List Document) (numbers : List ℕ) → length (documents_numbered ds numbers) ≡ sum (map (λ n. length (document_numbered ds n)) numbers)
length-numbered ds [] = refl
length-numbered ds (number ∷ numbers) =
    length-append (document_numbered ds number) (documents_numbered ds numbers)
    ∙ ap (λ n. length (document_numbered ds number) + n) (length-numbered ds numbers)
    ∙ sym (sum-cons (length (document_numbered ds number)) (map (λ n. length (document_numbered ds n)) numbers))
  where
    sum-cons : (n : ℕ) (ns : List ℕ) → sum (n ∷ ns) ≡ n + sum ns
    sum-cons n ns = sum_by-cons (λ x. x) n ns

-- how many they are, where for each number its count is known
pub count-numbered : (ds : List Document) (count : ℕ → ℕ) (numbers : List ℕ) → IsStrictlyIncreasing numbers
    → ((n : ℕ) → Contains numbers n → count n ≡ length (document_numbered ds n))
    → sum (map count numbers) ≡ length (filter (λ d. has numbers d.number) ds)
count-numbered ds count numbers rise each =
    ap sum (all numbers each)
    ∙ sym (length-numbered ds numbers)
    ∙ sym (length_permutation (documents_numbered ds numbers) (filter (λ d. has numbers d.number) ds) (numbered-permuted ds numbers rise))
  where
    all : (ns : List ℕ) → ((n : ℕ) → Contains ns n → count n ≡ length (document_numbered ds n)) → map count ns ≡ map (λ n. length (document_numbered ds n)) ns
    all [] each = refl
    all (n ∷ ns) each =
        ap (λ k. k ∷ map count ns) (each n (Contains-head n ns))
        ∙ ap (λ ks. length (document_numbered ds n) ∷ ks) (all ns (λ k there. each k (Contains-tail n ns k there)))

-- the documents with one more number that pass the test, before those with the numbers that are left
pub numbered-more : (p : Document → Bool) (ds old new all : List Document) (left rest : List ℕ) (number : ℕ) → left ≡ number ∷ rest
    → new ≡ old ++ filter p (document_numbered ds number) → old ++ filter p (documents_numbered ds left) ≡ all
    → new ++ filter p (documents_numbered ds rest) ≡ all
numbered-more p ds old new all left rest number next grown so_far =
    ap (λ xs. xs ++ filter p (documents_numbered ds rest)) grown
    ∙ (append_assoc old (filter p (document_numbered ds number)) (filter p (documents_numbered ds rest))
    ∙ (ap (λ xs. old ++ xs) (sym (filter-append p (document_numbered ds number) (documents_numbered ds rest)))
    ∙ (ap (λ ns. old ++ filter p (documents_numbered ds ns)) (sym next) ∙ so_far)))

pub numbered-end : (p : Document → Bool) (ds old all : List Document) (left : List ℕ) → left ≡ [] → old ++ filter p (documents_numbered ds left) ≡ all
    → old ≡ all
numbered-end p ds old all left none so_far = sym (append-nil old) ∙ (ap (λ ns. old ++ filter p (documents_numbered ds ns)) (sym none) ∙ so_far)

-- the documents of one more name that pass the test, before those of the names that are left
pub names-more : (p : Document → Bool) (f : List ℕ → Document) (old new all : List Document) (left rest : List (List ℕ)) (name : List ℕ)
    → left ≡ name ∷ rest → new ≡ old ++ filter p (f name ∷ []) → old ++ filter p (map f left) ≡ all → new ++ filter p (map f rest) ≡ all
names-more p f old new all left rest name next grown so_far =
    ap (λ xs. xs ++ filter p (map f rest)) grown
    ∙ (append_assoc old (filter p (f name ∷ [])) (filter p (map f rest))
    ∙ (ap (λ xs. old ++ xs) (sym (filter-append p (f name ∷ []) (map f rest))) ∙ (ap (λ ns. old ++ filter p (map f ns)) (sym next) ∙ so_far)))

pub names-end : (p : Document → Bool) (f : List ℕ → Document) (old all : List Document) (left : List (List ℕ)) → left ≡ []
    → old ++ filter p (map f left) ≡ all → old ≡ all
names-end p f old all left none so_far = sym (append-nil old) ∙ (ap (λ ns. old ++ filter p (map f ns)) (sym none) ∙ so_far)

-- The documents taken so far, and those with the names that will be picked from the entries that are left, are all.
pub record AreTaken (ds : List Document) (test : ℕ → Bool) (text : List ℕ) (taken : List Document) (left all : List (List ℕ × ℕ)) : Type 0 where
  pub so_far : taken ++ documents_named ds (picked test text left) ≡ documents_named ds (picked test text all)
  pub behind : Behind text left
  pub found : (e : List ℕ × ℕ) → Contains left e → number_of e.0 ds ≡ Some e.1

module _ (ds : List Document) (test : ℕ → Bool) (text : List ℕ) (all : List (List ℕ × ℕ)) where
  -- the entries that are left are still found
  found_later : (left rest : List (List ℕ × ℕ)) (e : List ℕ × ℕ) → left ≡ e ∷ rest → ((f : List ℕ × ℕ) → Contains left f → number_of f.0 ds ≡ Some f.1)
      → (f : List ℕ × ℕ) → Contains rest f → number_of f.0 ds ≡ Some f.1
  found_later left rest e next found f there = found f (subst (λ es. Contains es f) (sym next) (Contains-tail e rest f there))

  pub taken-none : (old : List Document) → old ≡ [] → Behind text all → ((e : List ℕ × ℕ) → Contains all e → number_of e.0 ds ≡ Some e.1)
      → AreTaken ds test text old all all
  taken-none old none behind found = record {
    so_far = ap (λ xs. xs ++ documents_named ds (picked test text all)) none;
    behind = behind;
    found = found;
  }

  pub taken-keep : (old new : List Document) (left rest : List (List ℕ × ℕ)) (name : List ℕ) (number : ℕ) → left ≡ (name, number) ∷ rest
      → test number ≡ true → begins_with text name ≡ true → new ≡ old ++ document_named ds name → AreTaken ds test text old left all
      → AreTaken ds test text new rest all
  taken-keep old new left rest name number next passes begins grown taken = record {
    so_far =
        ap (λ xs. xs ++ documents_named ds (picked test text rest)) grown
        ∙ (append_assoc old (document_named ds name) (documents_named ds (picked test text rest))
        ∙ (ap (λ ns. old ++ documents_named ds ns) (sym (picked-keep test text left rest name number next passes begins)) ∙ taken.so_far));
    behind = Behind-tail text left rest name number next taken.behind;
    found = found_later left rest (name, number) next taken.found;
  }

  pub taken-skip : (old : List Document) (left rest : List (List ℕ × ℕ)) (name : List ℕ) (number : ℕ) → left ≡ (name, number) ∷ rest
      → test number ≡ false → AreTaken ds test text old left all → AreTaken ds test text old rest all
  taken-skip old left rest name number next fails taken = record {
    so_far =
        ap (λ ns. old ++ documents_named ds ns) (sym (picked-skip test text left rest name number next fails)) ∙ taken.so_far;
    behind = Behind-tail text left rest name number next taken.behind;
    found = found_later left rest (name, number) next taken.found;
  }

  pub found_next : (old : List Document) (left rest : List (List ℕ × ℕ)) (name : List ℕ) (number : ℕ) → left ≡ (name, number) ∷ rest
      → AreTaken ds test text old left all → number_of name ds ≡ Some number
  found_next old left rest name number next taken =
      taken.found (name, number) (subst (λ es. Contains es (name, number)) (sym next) (Contains-head (name, number) rest))

  no_more : (old : List Document) (left : List (List ℕ × ℕ)) → picked test text left ≡ [] → AreTaken ds test text old left all
      → old ≡ documents_named ds (picked test text all)
  no_more old left none taken = sym (append-nil old) ∙ (ap (λ ns. old ++ documents_named ds ns) (sym none) ∙ taken.so_far)

  pub taken-stop : (old : List Document) (left rest : List (List ℕ × ℕ)) (name : List ℕ) (number : ℕ) → left ≡ (name, number) ∷ rest
      → begins_with text name ≡ false → AreTaken ds test text old left all → old ≡ documents_named ds (picked test text all)
  taken-stop old left rest name number next other taken =
      no_more old left (picked-none test text left rest name number next taken.behind other) taken

  pub taken-end : (old : List Document) (left : List (List ℕ × ℕ)) → left ≡ [] → AreTaken ds test text old left all
      → old ≡ documents_named ds (picked test text all)
  taken-end old left none taken = no_more old left (ap (picked test text) none) taken

-- ---- the first by their names

pub all-first : (most : ℕ) (chosen taken : List Document) → IsInNameOrder chosen taken → AreFirstInNameOrder most chosen taken
all-first most chosen taken order = record {
  others = [];
  in_order = subst (IsInNameOrder chosen) (sym (append-nil taken)) order;
  all_or_most = λ fewer. refl;
}

-- those up to `most`, of all
pub cut-first : (most : ℕ) (chosen : List Document) (all kept : List SharedDocument) → IsInNameOrder chosen (documents_shared all) → kept ≡ take most all
    → AreFirstInNameOrder most chosen (documents_shared kept)
cut-first most chosen all kept order cut = record {
  others = documents_shared (drop most all);
  in_order =
      subst (IsInNameOrder chosen)
      (sym (ap (λ ds. documents_shared ds ++ documents_shared (drop most all)) cut
      ∙ (sym (map-append document_of (take most all) (drop most all)) ∙ ap documents_shared (take-append-drop most all)))) order;
  all_or_most = λ fewer.
      ap documents_shared (drop_all most all (omega (arith, fewer, ap length cut, length-map kept document_of, length-take most all)));
}

-- those that were taken, where some may follow, of at least `most`
pub most-first : (most : ℕ) (chosen taken others : List Document) → IsInNameOrder chosen (taken ++ others) → most ≤ length taken
    → AreFirstInNameOrder most chosen taken
most-first most chosen taken others order enough = record {
  others = others;
  in_order = order;
  all_or_most = λ fewer. absurd (omega arith);
}

-- ---- sorted by their names

abbrev AllApart : List (List ℕ) → Type 0
AllApart xs = (i j : ℕ) (d : List ℕ) → i ≢ j → i < length xs → j < length xs → get_or xs i d ≢ get_or xs j d

apart_of : (xs : List (List ℕ)) → AllPairs (λ x y. x ≢ y) xs → AllApart xs
apart_of xs differ i j d other here there = λ same.
    elim (cases_lt i j) [
      | inl below ↦ differ i j d below there same
      | inr above ↦ differ j i d (omega arith) here (sym same)
    ]

-- where a text at a place was before two were exchanged
abbrev IsFrom : ℕ → ℕ → ℕ → ℕ → Type 0
IsFrom a b i k = ((i ≡ a) × (k ≡ b)) ⊎ (((i ≡ b) × (k ≡ a)) ⊎ ((i ≢ a) × (i ≢ b) × (k ≡ i)))

record Moved (xs : List (List ℕ)) (a b i : ℕ) (d : List ℕ) : Type 0 where
  place : ℕ
  is : get_or (swap xs a b) i d ≡ get_or xs place d
  inside : place < length xs
  from : IsFrom a b i place

moved_from : (xs : List (List ℕ)) (a b i : ℕ) (d : List ℕ) → a < length xs → b < length xs → i < length xs → Moved xs a b i d
moved_from xs a b i d ina inb inside = go (cases_eq i a) (cases_eq i b) (swapped_from_swap xs (swap xs a b) a b d ina inb refl)
  where
    go : (i ≡ a) ⊎ (i ≢ a) → (i ≡ b) ⊎ (i ≢ b) → Swapped (λ k. get_or xs k d) (λ k. get_or (swap xs a b) k d) a b → Moved xs a b i d
    go (inl is) at_b moved = record { place = b; is = ap (λ k. get_or (swap xs a b) k d) is ∙ moved.0; inside = inb; from = inl (is, refl) }
    go (inr not_a) (inl is) moved = record {
      place = a;
      is = ap (λ k. get_or (swap xs a b) k d) is ∙ moved.1;
      inside = ina;
      from = inr (inl (is, refl));
    }
    go (inr not_a) (inr not_b) moved = record { place = i; is = moved.2 i not_a not_b; inside = inside; from = inr (inr (not_a, not_b, refl)) }

different : (a b i j k m : ℕ) → IsFrom a b i k → IsFrom a b j m → i ≢ j → k ≢ m
different a b i j k m (inl x) (inl y) other = λ same. other (omega (arith, x.0, y.0))
different a b i j k m (inl x) (inr (inl y)) other = λ same. other (omega (arith, x.0, x.1, y.0, y.1))
different a b i j k m (inl x) (inr (inr y)) other = λ same. y.1 (omega (arith, x.1, y.2))
different a b i j k m (inr (inl x)) (inl y) other = λ same. other (omega (arith, x.0, x.1, y.0, y.1))
different a b i j k m (inr (inl x)) (inr (inl y)) other = λ same. other (omega (arith, x.0, y.0))
different a b i j k m (inr (inl x)) (inr (inr y)) other = λ same. y.0 (omega (arith, x.1, y.2))
different a b i j k m (inr (inr x)) (inl y) other = λ same. x.1 (omega (arith, x.2, y.1))
different a b i j k m (inr (inr x)) (inr (inl y)) other = λ same. x.0 (omega (arith, x.2, y.1))
different a b i j k m (inr (inr x)) (inr (inr y)) other = λ same. other (omega (arith, x.2, y.2))

apart_swapped : (xs : List (List ℕ)) (a b : ℕ) → a < length xs → b < length xs → AllApart xs → AllApart (swap xs a b)
apart_swapped xs a b ina inb apart i j d other here there = λ same.
    (let one = moved_from xs a b i d ina inb (omega (arith, length-swap xs a b)) in
    let two = moved_from xs a b j d ina inb (omega (arith, length-swap xs a b)) in
    apart one.place two.place d (different a b i j one.place two.place one.from two.from other) one.inside two.inside
    (sym one.is ∙ (same ∙ two.is)))

lower_of : (x y : List ℕ) → is_lt (slice_cmp nat_cmp y x) ≡ false → x ≢ y → slice_cmp nat_cmp x y ≡ Less
lower_of x y not_below differ = go (slice_cmp nat_cmp x y) refl
  where
    go : (o : Ordering) → slice_cmp nat_cmp x y ≡ o → o ≡ Less
    go Less e = refl
    go Equal e = absurd (differ (same_name x y (texts_ties x y ∙ ap is_eq e)))
    go Greater e = absurd (false≢true (sym not_below ∙ ap is_lt (nat_list_cmp_total.antisymm y x ∙ ap ordering_reverse e)))

rises_of : (xs : List (List ℕ))
    → ((i j : ℕ) (d : List ℕ) → i < j → j < length xs → slice_cmp nat_cmp (get_or xs i d) (get_or xs j d) ≡ Less)
    → IsStrictlySortedBy (slice_cmp nat_cmp) xs
unfolding IsStrictlySortedBy
rises_of [] less = tt
rises_of (x ∷ xs) less = (
  above xs (λ k d inside. less 0 (suc k) d (omega arith) (omega arith)),
  rises_of xs (λ i j d before inside. less (suc i) (suc j) d (omega arith) (omega arith)),
)
  where
    above : (ys : List (List ℕ)) → ((k : ℕ) (d : List ℕ) → k < length ys → slice_cmp nat_cmp x (get_or ys k d) ≡ Less)
        → AllByRecursion (λ y. slice_cmp nat_cmp x y ≡ Less) ys
    above [] each = tt
    above (y ∷ ys) each = (each 0 y (omega arith), above ys (λ k d inside. each (suc k) d (omega arith)))

-- texts that all differ rise once they are sorted
rises-sorted : (xs ys : List (List ℕ)) → AllPairs (λ x y. x ≢ y) xs → IsPermutation xs ys → IsSortedBy (λ x y. is_lt (slice_cmp nat_cmp x y)) ys
    → IsStrictlySortedBy (slice_cmp nat_cmp) ys
rises-sorted xs ys differ moved sorted =
    let apart : AllApart ys = IsPermutation-keeps xs AllApart (apart_of xs differ) apart_swapped ys moved in
    rises_of ys (λ i j d before inside.
    lower_of (get_or ys i d) (get_or ys j d)
    (sorted_far (λ x y. is_lt (slice_cmp nat_cmp x y)) (ranks_by nat_list_cmp_total (λ x. x)) ys sorted i j d (omega arith) inside)
    (apart i j d (omega arith) (omega arith) inside))

names_differ : (ds : List Document) → AllPairs (λ d e. d.name ≢ e.name) ds → AllPairs (λ x y. x ≢ y) (map (λ d. d.name) ds)
names_differ [] differ = λ i j d before inside. absurd (omega arith)
names_differ (x ∷ ds) differ = λ i j d before inside.
    (let within : j < length (x ∷ ds) = omega (arith, length-map (x ∷ ds) (λ e. e.name)) in
    let first : get_or (map (λ e. e.name) (x ∷ ds)) i d ≡ (get_or (x ∷ ds) i x).name = get_or-map (λ e. e.name) (x ∷ ds) i x d (omega arith) in
    let second : get_or (map (λ e. e.name) (x ∷ ds)) j d ≡ (get_or (x ∷ ds) j x).name = get_or-map (λ e. e.name) (x ∷ ds) j x d within in
    λ same. differ i j x before within (sym first ∙ (same ∙ second)))

name_at : (shared : List SharedDocument) (k : ℕ) (s : SharedDocument) (d : List ℕ) → k < length shared
    → get_or (map (λ e. e.name) (documents_shared shared)) k d ≡ (get_or shared k s).name
name_at shared k s d inside =
    get_or-map (λ e. e.name) (documents_shared shared) k (document_of s) d (omega (arith, length-map shared document_of))
    ∙ ap (λ e. e.name) (get_or-map document_of shared k s (document_of s) inside)

names_sorted : (shared : List SharedDocument) → IsSortedBy (λ x y. is_lt (slice_cmp nat_cmp x.name y.name)) shared
    → IsSortedBy (λ x y. is_lt (slice_cmp nat_cmp x y)) (map (λ d. d.name) (documents_shared shared))
names_sorted [] sorted = λ k d low inside. absurd (omega arith)
names_sorted (s ∷ shared) sorted = λ k d low inside.
    (let within : k + 1 < length (s ∷ shared) =
    omega (arith, length-map (documents_shared (s ∷ shared)) (λ e. e.name), length-map (s ∷ shared) document_of) in
    ap (λ n. is_lt (slice_cmp nat_cmp n (get_or (map (λ e. e.name) (documents_shared (s ∷ shared))) k d))) (name_at (s ∷ shared) (k + 1) s d within)
    ∙ (ap (λ n. is_lt (slice_cmp nat_cmp (get_or (s ∷ shared) (k + 1) s).name n)) (name_at (s ∷ shared) k s d (omega arith))
    ∙ sorted k s low within))

-- the documents that were chosen, once they are sorted by their names
pub few_in_order : (chosen : List Document) → AllPairs (λ d e. d.name ≢ e.name) chosen → (old new : List SharedDocument)
    → IsPermutation (documents_shared old) chosen → IsPermutation old new → IsSortedBy (λ x y. is_lt (slice_cmp nat_cmp x.name y.name)) new
    → IsInNameOrder chosen (documents_shared new)
few_in_order chosen differ old new are moved sorted =
    let same : IsPermutation chosen (documents_shared new) =
    IsPermutation-trans chosen (documents_shared old) (documents_shared new) (IsPermutation-sym (documents_shared old) chosen are)
    (IsPermutation-map document_of old new moved) in
    let names = IsPermutation-map (λ d. d.name) chosen (documents_shared new) same in
    record {
      rises =
          rises-sorted (map (λ d. d.name) chosen) (map (λ d. d.name) (documents_shared new)) (names_differ chosen differ) names
          (names_sorted new sorted);
      same = λ d. (
        λ h. Contains-permutation (documents_shared new) chosen d (IsPermutation-sym chosen (documents_shared new) same) h,
        λ h. Contains-permutation chosen (documents_shared new) d same h,
      );
    }
