-- What segments say of contents.
use Rattle.std.proofs.Common.{◌≡◌, ◌≢◌, ℕ, zero, suc, ◌+◌, ◌<◌, ◌≤◌, ◌==◌, ◌⊎◌, inl, inr, true, List, [], ◌∷◌, ◌++◌, length, take, drop, get_or, Contains, sym, ◌∙◌, ap, subst, arith}
use Rattle.std.specs.Prelude.{All, AllPairs, filter, eqb}
use Rattle.std.specs.Arc.{arc_value}
use Rattle.std.specs.declared.sync.Arc.{Arc}
use Rattle.std.specs.declared.alloc.Global.{Global}
use Rattle.std.specs.List.{dedup}
use Rattle.std.specs.List.Sorted.{IsStrictlyIncreasing, IsPermutation}
use Rattle.std.proofs.lemmas.List.Sorted.{list_any-IsPermutation}
use Rattle.std.proofs.lemmas.Grind.{flat_map-append}
use Rattle.std.proofs.Math.Path.{fun_ext}
use Rattle.std.proofs.lemmas.Bool.{eq-eqb}
use Rattle.std.proofs.lemmas.List.{map-append, append-nil, take_more, take_all, take-append-drop}
use Rattle.std.proofs.lemmas.List.Folds.{list_any_at}
use Rattle.std.proofs.lemmas.List.Kept.{AllPairs-cons, AllPairs-from_increasing}
use Rattle.std.proofs.lemmas.List.Elements.{All-contains, All-head, All-tail, All-append, All-weaker, All-map, filter-append}
use Rattle.query.specs.Query.{Formula, is_met}
use Rattle.query.specs.Trigrams.{trigrams_of_body}
use Rattle.documents.proofs.ElementLemmas.{Contains-cons, Contains-map, map-Contains, Contains-filter, filter-Contains}
use Rattle.names.specs.declared.content.Content.{Content}
use Rattle.segments.specs.Contents.{Content as Trigrams, has, meets, numbers_of, selected, AllDiffer}
use Rattle.segments.proofs.SetLemmas.{contains-has}
use Rattle.segments.proofs.Building.{same_truth, has-dedup}
use Rattle.versions.specs.Private.Version.{IsSaid, said}

pub has_of : (xs : List ℕ) (n : ℕ) → Contains xs n → has xs n ≡ true
has_of xs n there = list_any_at (λ m. m == n) xs there.0 n there.1 (eq-eqb (get_or xs there.0 n) n there.2)

-- ---- contents with numbers that differ

differ-tail : (c : Trigrams) (all : List Trigrams) → AllDiffer (c ∷ all) → AllDiffer all
differ-tail c all h i j d before inside = h (suc i) (suc j) d (omega (arith, before)) (omega (arith, inside))

differ-head : (c : Trigrams) (all : List Trigrams) → AllDiffer (c ∷ all) → All (λ m. c.number ≢ m) (numbers_of all)
differ-head c all h k d inside = h zero (suc k) d (omega arith) (omega (arith, inside))

pub unique : (all : List Trigrams) → AllDiffer all → (c d : Trigrams) → Contains all c → Contains all d → c.number ≡ d.number → c ≡ d
unique [] differ c d here there same = absurd (omega (arith, here.1))
unique (x ∷ all) differ c d here there same =
    go (Contains-cons x all c here) (Contains-cons x all d there) (λ one other. unique all (differ-tail x all differ) c d one other same)
  where
    apart : (y : Trigrams) → Contains all y → x.number ≢ y.number
    apart y inside = All-contains (λ m. x.number ≢ m) (numbers_of all) y.number (differ-head x all differ) (Contains-map (λ (z : Trigrams). z.number) all y inside)

    go : (x ≡ c) ⊎ Contains all c → (x ≡ d) ⊎ Contains all d → (Contains all c → Contains all d → c ≡ d) → c ≡ d
    go (inl is) (inl was) rest = sym is ∙ was
    go (inl is) (inr later) rest = absurd (apart d later (ap (λ (z : Trigrams). z.number) is ∙ same))
    go (inr later) (inl is) rest = absurd (apart c later (ap (λ (z : Trigrams). z.number) is ∙ sym same))
    go (inr one) (inr other) rest = rest one other

pub pairs-append : {X : Type 0} (P : X → X → Type 0) (xs ys : List X) → AllPairs P xs → AllPairs P ys → All (λ x. All (P x) ys) xs → AllPairs P (xs ++ ys)
pairs-append P [] ys first second cross = second
pairs-append P (x ∷ xs) ys first second cross =
    AllPairs-cons P x (xs ++ ys)
    (All-append (P x) xs ys (λ k d inside. first zero (suc k) d (omega arith) (omega (arith, inside))) (All-head (λ y. All (P y) ys) x xs cross))
    (pairs-append P xs ys (λ i j d before inside. first (suc i) (suc j) d (omega (arith, before)) (omega (arith, inside))) second
    (All-tail (λ y. All (P y) ys) x xs cross))

-- those below a number, and then those that rise from it on
pub differ-append : (n : ℕ) (all more : List Trigrams) → AllDiffer all → All (λ c. c.number < n) all → All (λ c. n ≤ c.number) more
    → IsStrictlyIncreasing (numbers_of more) → AllDiffer (all ++ more)
differ-append n all more differ below from rising =
    subst (AllPairs (λ i j. i ≢ j)) (sym (map-append (λ (c : Trigrams). c.number) all more))
    (pairs-append (λ i j. i ≢ j) (numbers_of all) (numbers_of more) differ
    (λ i j d before inside e. let less = AllPairs-from_increasing (numbers_of more) rising i j d before inside in omega (arith, less, e))
    (All-map (λ i. All (λ j. i ≢ j) (numbers_of more)) (λ (c : Trigrams). c.number) all
    (All-weaker (λ (c : Trigrams). c.number < n) (λ (c : Trigrams). All (λ j. c.number ≢ j) (numbers_of more))
    (λ c less. All-map (λ j. c.number ≢ j) (λ (d : Trigrams). d.number) more
    (All-weaker (λ (d : Trigrams). n ≤ d.number) (λ (d : Trigrams). c.number ≢ d.number) (λ d above e. omega (arith, less, above, e)) more from)) all below)))

-- ---- what is selected

-- a content that is said is selected exactly if the trigrams of its body meet the formula
pub selected_is : (formula : Formula) (all : List Trigrams) (c : Content) → AllDiffer all → IsSaid all c
    → has (selected formula all) c.number ≡ is_met formula (trigrams_of_body c.held)
selected_is formula all c differ said =
    same_truth (has (selected formula all) c.number) (meets formula said.trigrams) to from
    ∙ ap (is_met formula) (fun_ext said.same)
  where
    to : has (selected formula all) c.number ≡ true → meets formula said.trigrams ≡ true
    to there =
        let at = map-Contains (λ (x : Trigrams). x.number) (filter (meets formula) all) c.number (contains-has (selected formula all) c.number there) in
        let inside = filter-Contains (meets formula) all at.0 at.1 in
        let is : at.0 ≡ said.trigrams = unique all differ at.0 said.trigrams inside.0 said.there (at.2 ∙ sym said.number_is) in
        subst (λ (x : Trigrams). meets formula x ≡ true) is inside.1

    from : meets formula said.trigrams ≡ true → has (selected formula all) c.number ≡ true
    from met =
        has_of (selected formula all) c.number
        (subst (Contains (selected formula all)) said.number_is
        (Contains-map (λ (x : Trigrams). x.number) (filter (meets formula) all) said.trigrams (Contains-filter (meets formula) all said.trigrams said.there met)))

-- ---- several segments

pub said_push : (segments : List (Arc (List Trigrams) Global)) (segment : Arc (List Trigrams) Global) → said (segments ++ segment ∷ []) ≡ said segments ++ arc_value segment
said_push segments segment =
    flat_map-append arc_value segments (segment ∷ []) ∙ ap (λ rest. said segments ++ rest) (append-nil (arc_value segment))

pub said_next : (segments : List (Arc (List Trigrams) Global)) (at : ℕ) (segment : Arc (List Trigrams) Global) → at < length segments
    → segment ≡ get_or segments at segment → said (take (at + 1) segments) ≡ said (take at segments) ++ arc_value segment
said_next segments at segment inside is =
    ap said (take_more segments at segment inside)
    ∙ (said_push (take at segments) (get_or segments at segment) ∙ ap (λ s. said (take at segments) ++ arc_value s) (sym is))

pub shared_next : (segments now after : List (Arc (List Trigrams) Global)) (at : ℕ) (segment more : Arc (List Trigrams) Global) → at < length segments
    → segment ≡ get_or segments at segment → said now ≡ said (take at segments) → arc_value more ≡ arc_value segment → after ≡ now ++ more ∷ []
    → said after ≡ said (take (at + 1) segments)
shared_next segments now after at segment more inside is so_far same after_is =
    ap said after_is
    ∙ (said_push now more
    ∙ (ap (λ xs. xs ++ arc_value more) so_far
    ∙ (ap (λ x. said (take at segments) ++ x) same ∙ sym (said_next segments at segment inside is))))

selected-append : (formula : Formula) (all more : List Trigrams) → selected formula (all ++ more) ≡ selected formula all ++ selected formula more
selected-append formula all more =
    ap numbers_of (filter-append (meets formula) all more) ∙ map-append (λ (c : Trigrams). c.number) (filter (meets formula) all) (filter (meets formula) more)

pub selected_next : (formula : Formula) (segments : List (Arc (List Trigrams) Global)) (at : ℕ) (segment : Arc (List Trigrams) Global) (now found after : List ℕ)
    → at < length segments → segment ≡ get_or segments at segment → now ≡ selected formula (said (take at segments)) → found ≡ selected formula (arc_value segment)
    → after ≡ now ++ found → after ≡ selected formula (said (take (at + 1) segments))
selected_next formula segments at segment now found after inside is so_far found_is after_is =
    after_is
    ∙ (ap (λ xs. xs ++ found) so_far
    ∙ (ap (λ x. selected formula (said (take at segments)) ++ x) found_is
    ∙ (sym (selected-append formula (said (take at segments)) (arc_value segment))
    ∙ ap (selected formula) (sym (said_next segments at segment inside is)))))

pub selected_all : (formula : Formula) (segments given : List (Arc (List Trigrams) Global)) (at : ℕ) (now : List Trigrams) (numbers sorted ready : List ℕ)
    → length given ≤ at → given ≡ segments → said segments ≡ now → numbers ≡ selected formula (said (take at given)) → IsPermutation numbers sorted
    → ready ≡ dedup eqb sorted → (n : ℕ) → has ready n ≡ has (selected formula now) n
selected_all formula segments given at now numbers sorted ready past same view_is is moved once n =
    ap (λ ns. has ns n) once
    ∙ (has-dedup sorted n
    ∙ (sym (list_any-IsPermutation (λ m. m == n) numbers sorted moved)
    ∙ ap (λ ns. has ns n) (is ∙ ap (λ ss. selected formula (said ss)) (take_all at given past ∙ same) ∙ ap (selected formula) view_is)))

-- the first segments, and the others
pub said_parts : (segments given front back : List (Arc (List Trigrams) Global)) (at : ℕ) → given ≡ segments → front ≡ take at given → back ≡ drop at given
    → said front ++ said back ≡ said segments
said_parts segments given front back at same front_is back_is =
    ap (λ x. said x ++ said back) front_is
    ∙ (ap (λ x. said (take at given) ++ said x) back_is
    ∙ (sym (flat_map-append arc_value (take at given) (drop at given))
    ∙ ap said (take-append-drop at given ∙ same)))
