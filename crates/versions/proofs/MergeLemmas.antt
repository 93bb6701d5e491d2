-- What is said of contents that some name has stays when segments become one.
use Rattle.std.proofs.Common.{◌≡◌, ◌≢◌, ℕ, ◌+◌, ◌<◌, ◌≤◌, ◌==◌, ◌||◌, inl, inr, Bool, true, false, List, [], ◌∷◌, ◌++◌, length, map, take, get_or, Some, None, Contains, refl, sym, ◌∙◌, ap, subst, arith}
use Rattle.std.specs.Prelude.{All, AllPairs, Option}
use Rattle.std.specs.List.Sorted.{IsStrictlyIncreasing}
use Rattle.std.specs.FinMap.{get}
use Rattle.std.proofs.lemmas.Bool.{false≢true}
use Rattle.std.proofs.lemmas.Bool.Decides.{nat_tests}
use Rattle.std.proofs.lemmas.List.{map-append, take_more, take_all}
use Rattle.std.proofs.lemmas.List.Kept.{AllPairs-cons, AllPairs-from_increasing, IsStrictlyIncreasing-filter}
use Rattle.std.proofs.lemmas.List.Elements.{All-nil, All-cons, All-append, All-head, All-tail, All-contains, All-contains_itself, All-map, All-weaker, Contains-append_left, Contains-append_right, Contains-append_cases}
use Rattle.documents.proofs.ElementLemmas.{Contains-cons, Contains-head, Contains-tail, Contains-map, map_twice}
use Rattle.names.specs.declared.content.Content.{Content}
use Rattle.names.specs.Contents.{Contents}
use Rattle.segments.specs.Contents.{Content as Trigrams, has, numbers_of, content_numbered, kept, AllDiffer}
use Rattle.segments.proofs.Joining.{numbers-kept, All-kept, All-find, differ-tail, differ-head}
use Rattle.versions.specs.Private.Version.{IsVersion}
use Rattle.versions.specs.Private.Merging.{AreNumbersOf, KeepsNamed}
use Rattle.std.specs.List.{dedup}
use Rattle.std.specs.Ordering.{nat_cmp}
use Rattle.std.specs.List.Sorted.{IsPermutation, IsSorted}
use Rattle.std.specs.Prelude.{eqb}
use Rattle.std.proofs.lemmas.List.Sorted.{list_any-IsPermutation}
use Rattle.std.proofs.lemmas.Map.Keys.{IsStrictlyIncreasing-dedup}
use Rattle.std.specs.Borrow.{Bor}
use Rattle.names.specs.Contents.{contents_of, since}
use Rattle.segments.proofs.Building.{has-dedup}
use Rattle.versions.proofs.SinceLemmas.{since_has}
use Rattle.versions.proofs.SaidLemmas.{has_of, pairs-append}

-- ---- contents that are kept

pub kept_there : (keep : List ℕ) (all : List Trigrams) → All (Contains all) (kept keep all)
kept_there keep all = All-kept (Contains all) keep all (λ n c is. All-find (Contains all) all n c (All-contains_itself all) is)

number_found : (all : List Trigrams) (t : Trigrams) → AllDiffer all → Contains all t → content_numbered all t.number ≡ Some t
number_found [] t differ there = absurd (omega (arith, there.1))
number_found (d ∷ all) t differ there =
    elim (Contains-cons d all t there) [
      | inl is ↦
          let same : (d.number == t.number) ≡ true = (let e = ap (λ (x : Trigrams). x.number) is in grind (arith, nat_tests)) in
          rw same (ap Some is)
      | inr later ↦
          let ne : d.number ≢ t.number = All-contains (λ m. d.number ≢ m) (numbers_of all) t.number (differ-head d all differ) (Contains-map (λ (x : Trigrams). x.number) all t later) in
          let other : (d.number == t.number) ≡ false = grind (arith, nat_tests) in
          rw other (number_found all t (differ-tail d all differ) later)
    ]

pub kept_has : (keep : List ℕ) (all : List Trigrams) (t : Trigrams) → AllDiffer all → has keep t.number ≡ true → Contains all t → Contains (kept keep all) t
kept_has [] all t differ asked there = absurd (false≢true asked)
kept_has (n ∷ keep) all t differ asked there = first (n == t.number) refl (λ more. kept_has keep all t differ more there)
  where
    later : Contains (kept keep all) t → (o : Option Trigrams) → content_numbered all n ≡ o → Contains (kept (n ∷ keep) all) t
    later rest None e = rw e rest
    later rest (Some c) e = rw e (Contains-tail c (kept keep all) t rest)

    first : (b : Bool) → (n == t.number) ≡ b → (has keep t.number ≡ true → Contains (kept keep all) t) → Contains (kept (n ∷ keep) all) t
    first true e rest =
        let same : n ≡ t.number = grind (arith, nat_tests) in
        let is : content_numbered all n ≡ Some t = ap (content_numbered all) same ∙ number_found all t differ there in
        rw is (Contains-head t (kept keep all))
    first false e rest = later (rest (ap (λ b. b || has keep t.number) (sym e) ∙ asked)) (content_numbered all n) refl

-- ---- numbers that differ

left_differ : (old new : List Trigrams) → AllDiffer (old ++ new) → AllPairs (λ m n. m ≢ n) (numbers_of old)
left_differ [] new differ = λ i j d before inside. absurd (omega (arith, inside))
left_differ (c ∷ old) new differ =
    AllPairs-cons (λ m n. m ≢ n) c.number (numbers_of old) (only old new (differ-head c (old ++ new) differ)) (left_differ old new (differ-tail c (old ++ new) differ))
  where
    only : (xs ys : List Trigrams) → All (λ m. c.number ≢ m) (numbers_of (xs ++ ys)) → All (λ m. c.number ≢ m) (numbers_of xs)
    only xs ys h =
        All-weaker (Contains (numbers_of xs)) (λ m. c.number ≢ m)
        (λ m there. All-contains (λ m. c.number ≢ m) (numbers_of (xs ++ ys)) m h
        (subst (λ ns. Contains ns m) (sym (map-append (λ (x : Trigrams). x.number) xs ys)) (Contains-append_left (numbers_of xs) (numbers_of ys) m there)))
        (numbers_of xs) (All-contains_itself (numbers_of xs))

pub right_differ : (old new : List Trigrams) → AllDiffer (old ++ new) → AllDiffer new
right_differ [] new differ = differ
right_differ (c ∷ old) new differ = right_differ old new (differ-tail c (old ++ new) differ)

apart : (old new : List Trigrams) → AllDiffer (old ++ new) → All (λ c. All (λ d. c.number ≢ d.number) new) old
apart [] new differ = All-nil (λ (c : Trigrams). All (λ (d : Trigrams). c.number ≢ d.number) new)
apart (c ∷ old) new differ =
    All-cons (λ (x : Trigrams). All (λ (d : Trigrams). x.number ≢ d.number) new) c old
    (All-weaker (Contains new) (λ (d : Trigrams). c.number ≢ d.number)
    (λ d there. All-contains (λ m. c.number ≢ m) (numbers_of (old ++ new)) d.number (differ-head c (old ++ new) differ)
    (Contains-map (λ (x : Trigrams). x.number) (old ++ new) d (Contains-append_right old new d there))) new (All-contains_itself new))
    (apart old new (differ-tail c (old ++ new) differ))

module _ (contents : Contents) (base : ℕ) (cs : List Content) (since_is : cs ≡ since base contents) (keep : List ℕ) (are : AreNumbersOf cs keep)
    (old new : List Trigrams) (differ : AllDiffer (old ++ new)) (from : All (λ c. base ≤ c.number) new) where
  kept_rising : IsStrictlyIncreasing (numbers_of (kept keep new))
  kept_rising = subst IsStrictlyIncreasing (sym (numbers-kept keep new)) (IsStrictlyIncreasing-filter (has (numbers_of new)) keep are.rising)

  kept_differ : AllDiffer (old ++ kept keep new)
  kept_differ =
      subst (AllPairs (λ m n. m ≢ n)) (sym (map-append (λ (c : Trigrams). c.number) old (kept keep new)))
      (pairs-append (λ m n. m ≢ n) (numbers_of old) (numbers_of (kept keep new)) (left_differ old new differ)
      (λ i j d before inside e. let less = AllPairs-from_increasing (numbers_of (kept keep new)) kept_rising i j d before inside in omega (arith, less, e))
      (All-map (λ m. All (λ n. m ≢ n) (numbers_of (kept keep new))) (λ (c : Trigrams). c.number) old
      (All-weaker (λ (c : Trigrams). All (λ (d : Trigrams). c.number ≢ d.number) new) (λ (c : Trigrams). All (λ n. c.number ≢ n) (numbers_of (kept keep new)))
      (λ c all. All-map (λ n. c.number ≢ n) (λ (d : Trigrams). d.number) (kept keep new)
      (All-weaker (Contains new) (λ (d : Trigrams). c.number ≢ d.number) (λ d there. All-contains (λ (d : Trigrams). c.number ≢ d.number) new d all there) (kept keep new) (kept_there keep new)))
      old (apart old new differ))))

  asked : (name : List ℕ) (c : Content) → get contents name ≡ Some c → base ≤ c.number → has keep c.number ≡ true
  asked name c found low =
      are.same c.number
      ∙ has_of (map (λ (x : Content). x.number) cs) c.number
      (Contains-map (λ (x : Content). x.number) cs c (subst (λ (xs : List Content). Contains xs c) (sym since_is) (since_has contents base name c found low)))

  pub keeps_named : (sets : List Trigrams) → sets ≡ old ++ kept keep new → KeepsNamed contents (old ++ new) sets
  keeps_named sets is =
      subst (KeepsNamed contents (old ++ new)) (sym is)
      (record {
        named = λ name c t found there same. (
            elim (Contains-append_cases old new t there) [
              | inl one ↦ Contains-append_left old (kept keep new) t one
              | inr other ↦
                  let low = All-contains (λ (c : Trigrams). base ≤ c.number) new t from other in
                  Contains-append_right old (kept keep new) t
                  (kept_has keep new t (right_differ old new differ) (ap (has keep) same ∙ asked name c found (omega (arith, low, same))) other)
            ]);
        others = λ t there. (
            elim (Contains-append_cases old (kept keep new) t there) [
              | inl one ↦ Contains-append_left old new t one
              | inr other ↦ Contains-append_right old new t (All-contains (Contains new) (kept keep new) t (kept_there keep new) other)
            ]);
        differ = kept_differ;
      })

pub keeps_all : (contents : Contents) (all sets : List Trigrams) → AllDiffer all → sets ≡ all → KeepsNamed contents all sets
keeps_all contents all sets differ is =
    subst (KeepsNamed contents all) (sym is)
    (record { named = λ name c t found there same. there; others = λ t there. there; differ = differ })

-- ---- a version with these segments

pub still_version : (version analysed : ℕ) (contents : Contents) (all sets : List Trigrams) → IsVersion version analysed contents all
    → KeepsNamed contents all sets → IsVersion version analysed contents sets
still_version version analysed contents all sets is keeps = record {
  named = λ name c found. (let e = is.named name c found in record {
    name_is = e.name_is;
    body_is = e.body_is;
    before = e.before;
    is_said = λ less. (let said = e.is_said less in record {
      trigrams = said.trigrams;
      there = keeps.named name c said.trigrams found said.there said.number_is;
      number_is = said.number_is;
      same = said.same;
    });
  });
  same = is.same;
  differ = keeps.differ;
  below =
      All-weaker (Contains all) (λ (c : Trigrams). c.number < analysed) (λ c there. All-contains (λ (c : Trigrams). c.number < analysed) all c is.below there) sets
      (All-weaker (Contains sets) (Contains all) (λ c there. keeps.others c there) sets (All-contains_itself sets));
  order = is.order;
}

-- ---- the least number

pub least_next : (old least : ℕ) (ns : List ℕ) (at n : ℕ) → at < length ns → n ≡ get_or ns at n → All (λ m. old ≤ m) (take at ns) → least ≤ old → least ≤ n
    → All (λ m. least ≤ m) (take (at + 1) ns)
least_next old least ns at n inside is before low here =
    subst (All (λ m. least ≤ m)) (sym (take_more ns at n inside))
    (All-append (λ m. least ≤ m) (take at ns) (get_or ns at n ∷ []) (All-weaker (λ m. old ≤ m) (λ m. least ≤ m) (λ m ge. omega (arith, ge, low)) (take at ns) before)
    (All-cons (λ m. least ≤ m) (get_or ns at n) [] (omega (arith, here, is)) (All-nil (λ m. least ≤ m))))

all_numbers : (P : ℕ → Type 0) (cs : List Trigrams) → All P (numbers_of cs) → All (λ c. P c.number) cs
all_numbers P [] all = All-nil (λ (c : Trigrams). P c.number)
all_numbers P (c ∷ cs) all = All-cons (λ (x : Trigrams). P x.number) c cs (All-head P c.number (numbers_of cs) all) (all_numbers P cs (All-tail P c.number (numbers_of cs) all))

pub least_all : (least : ℕ) (cs : List Trigrams) (ns : List ℕ) (at : ℕ) → length ns ≤ at → ns ≡ numbers_of cs → All (λ m. least ≤ m) (take at ns)
    → All (λ c. least ≤ c.number) cs
least_all least cs ns at past is all =
    all_numbers (λ m. least ≤ m) cs (subst (All (λ m. least ≤ m)) (take_all at ns past ∙ is) all)

-- ---- the numbers of names' contents

-- what is gathered, sorted and rid of what is twice
pub numbers_ready : (contents : List (Bor Content)) (at : ℕ) (gathered sorted ready : List ℕ) → length contents ≤ at
    → gathered ≡ map (λ c. c.now.number) (take at contents) → IsPermutation gathered sorted → IsSorted nat_cmp sorted → ready ≡ dedup eqb sorted
    → AreNumbersOf (contents_of contents) ready
numbers_ready contents at gathered sorted ready past is moved rises once = record {
  rising = subst IsStrictlyIncreasing (sym once) (IsStrictlyIncreasing-dedup sorted rises);
  same = λ n.
      ap (λ ns. has ns n) once
      ∙ (has-dedup sorted n
      ∙ (sym (list_any-IsPermutation (λ m. m == n) gathered sorted moved)
      ∙ ap (λ ns. has ns n)
      (is
      ∙ (ap (map (λ (c : Bor Content). c.now.number)) (take_all at contents past)
      ∙ sym (map_twice (λ (c : Bor Content). c.now) (λ (c : Content). c.number) contents)))));
}
