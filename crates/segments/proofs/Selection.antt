-- The numbers of the contents whose trigrams meet a query.
use Rattle.std.proofs.Common.{◌≡◌, ℕ, zero, suc, ◌+◌, ◌<◌, ◌≤◌, Bool, true, false, ◌&&◌, ◌||◌, ◌==◌, List, [], ◌∷◌, length, get_or}
use Rattle.std.proofs.Common.{take, map, refl, sym, ap, ◌∙◌, arith}
use Rattle.std.specs.Prelude.{All, filter}
use Rattle.std.specs.List.{list_all, list_any}
use Rattle.std.specs.List.Sorted.{IsStrictlyIncreasing}
use Rattle.std.specs.declared.alloc.Global.{Global}
use Rattle.std.specs.declared.vec.Vec.{Vec}
use Rattle.std.specs.declared.boxed.Box.{Box}
use Rattle.std.proofs.lemmas.Bool.{false≢true}
use Rattle.std.proofs.lemmas.List.{take_all, nil_from_length}
use Rattle.std.proofs.lemmas.List.Elements.{filter_agree, All-nil, All-head, All-tail, All-filter}
use Rattle.std.proofs.lemmas.List.Kept.{IsStrictlyIncreasing-filter}
use Rattle.std.proofs.lemmas.List.Folds.{list_all_more, list_any_more}
use Rattle.std.proofs.Math.Bool.{and-false}
use Rattle.query.specs.declared.pairs.Pairs.{Pairs}
use Rattle.query.specs.Trigrams.{TrigramSet, has_all_trigrams}
use Rattle.query.specs.Texts.{Texts, texts_of, has_all_of_one}
use Rattle.query.specs.Pairs.{texts_in}
use Rattle.query.specs.declared.query.Query.{Query}
use Rattle.query.specs.declared.query.Query.TheVariants as query
use Rattle.query.specs.Query.{texts, all_of, one_of, formula_of, formulas_of, is_met, are_all_met, is_one_met}
use Rattle.query.proofs.Forms.{formula_of-Any, formula_of-None, formula_of-Has, formula_of-Pairs, formula_of-And, formula_of-Or}
use Rattle.segments.specs.Contents.{has}
use Rattle.segments.specs.Private.Table.{PlaceSet, places_of}
use Rattle.segments.specs.Private.Below.{numbers_below}
use Rattle.segments.specs.Private.Selection.{Rises, Fits, chosen, trigrams_with}
use Rattle.segments.proofs.SetLemmas.{has-filter}
use Rattle.segments.proofs.BitLemmas.{among_below}
use Rattle.segments.proofs.Members.{filter_all, filter_none, filter_agree_in}

pub chosen-Any : (sets : List PlaceSet) (xs : List ℕ) → chosen sets (formula_of query.Any) xs ≡ xs
unfolding is_met
chosen-Any sets xs = rw formula_of-Any (filter_all (λ n. true) xs (λ k d inside. refl))

pub chosen-None : (sets : List PlaceSet) (xs : List ℕ) → chosen sets (formula_of query.None) xs ≡ []
unfolding is_met
chosen-None sets xs = rw formula_of-None (filter_none (λ n. false) xs (λ k d inside. refl))

pub chosen-Has : (sets : List PlaceSet) (t : ℕ) (xs : List ℕ) → chosen sets (formula_of (query.Has t)) xs ≡ filter (has (places_of sets t)) xs
unfolding is_met
chosen-Has sets t xs = rw (formula_of-Has t) refl

pub chosen-Pairs : (sets : List PlaceSet) (pairs : Box Pairs Global) (xs : List ℕ)
    → chosen sets (formula_of (query.Pairs pairs)) xs ≡ chosen sets (texts (texts_in pairs.value)) xs
chosen-Pairs sets pairs xs = rw (formula_of-Pairs pairs) refl

pub chosen-And : (sets : List PlaceSet) (members : Vec Query Global) (xs : List ℕ)
    → chosen sets (formula_of (query.And members)) xs ≡ chosen sets (all_of (formulas_of (map formula_of members.items))) xs
chosen-And sets members xs = rw (formula_of-And members) refl

pub chosen-Or : (sets : List PlaceSet) (members : Vec Query Global) (xs : List ℕ)
    → chosen sets (formula_of (query.Or members)) xs ≡ chosen sets (one_of (formulas_of (map formula_of members.items))) xs
chosen-Or sets members xs = rw (formula_of-Or members) refl

-- ---- tests of members

-- the content meets the query
abbrev pub is_met_by : List PlaceSet → ℕ → Query → Bool
is_met_by sets n q = is_met (formula_of q) (trigrams_with sets n)

-- the content has all trigrams of the text
abbrev pub has_text_of : List PlaceSet → ℕ → Vec ℕ Global → Bool
has_text_of sets n text = has_all_trigrams text.items (trigrams_with sets n)

all_met-list : (sets : List PlaceSet) (members : List Query) (n : ℕ)
    → list_all (is_met_by sets n) members ≡ is_met (all_of (formulas_of (map formula_of members))) (trigrams_with sets n)
unfolding is_met are_all_met
all_met-list sets [] n = refl
all_met-list sets (q ∷ members) n = ap (λ b. is_met_by sets n q && b) (all_met-list sets members n)

one_met-list : (sets : List PlaceSet) (members : List Query) (n : ℕ)
    → list_any (is_met_by sets n) members ≡ is_met (one_of (formulas_of (map formula_of members))) (trigrams_with sets n)
unfolding is_met is_one_met
one_met-list sets [] n = refl
one_met-list sets (q ∷ members) n = ap (λ b. is_met_by sets n q || b) (one_met-list sets members n)

any_text : (set : TrigramSet) (vecs : List (Vec ℕ Global)) → list_any (λ text. has_all_trigrams text.items set) vecs ≡ has_all_of_one (texts_of vecs) set
any_text set [] = refl
any_text set (text ∷ vecs) = ap (λ b. has_all_trigrams text.items set || b) (any_text set vecs)

pub filter_twice : (p q : ℕ → Bool) (xs : List ℕ) → filter p (filter q xs) ≡ filter (λ n. q n && p n) xs
filter_twice p q [] = refl
filter_twice p q (x ∷ xs) = cases (q x) (p x) refl refl (filter_twice p q xs)
  where
    cases : (b c : Bool) → q x ≡ b → p x ≡ c → filter p (filter q xs) ≡ filter (λ n. q n && p n) xs
        → filter p (filter q (x ∷ xs)) ≡ filter (λ n. q n && p n) (x ∷ xs)
    cases true true e f later = rw (e, f) (ap (λ zs. x ∷ zs) later)
    cases true false e f later = rw (e, f) later
    cases false c e f later = rw e later

-- ---- all members, one of them before the others

-- whether the member at a place passes the test, if there is one
abbrev pub first_passes : {X : Type 0} → (X → Bool) → List X → ℕ → Bool
first_passes test [] first = true
first_passes test (q ∷ members) zero = test q
first_passes test (q ∷ members) (suc first) = first_passes test members first

first_at : {X : Type 0} (test : X → Bool) (members : List X) (first : ℕ) (d : X) → first < length members
    → first_passes test members first ≡ test (get_or members first d)
first_at test [] first d inside = absurd (omega arith)
first_at test (q ∷ members) zero d inside = refl
first_at test (q ∷ members) (suc first) d inside = first_at test members first d (omega arith)

first_past : {X : Type 0} (test : X → Bool) (members : List X) (first : ℕ) → length members ≤ first → first_passes test members first ≡ true
first_past test [] first past = refl
first_past test (q ∷ members) zero past = absurd (omega arith)
first_past test (q ∷ members) (suc first) past = first_past test members first (omega arith)

-- the first member and those before place i
abbrev pub some_pass : {X : Type 0} → (X → Bool) → List X → ℕ → ℕ → Bool
some_pass test members first i = first_passes test members first && list_all test (take i members)

-- of the numbers, those with which the first member and the members before place i pass the test
abbrev pub narrowed : {X : Type 0} → (ℕ → X → Bool) → List X → ℕ → ℕ → List ℕ → List ℕ
narrowed test members first i numbers = filter (λ n. some_pass (test n) members first i) numbers

and_assoc : (a b c : Bool) → ((a && b) && c) ≡ (a && (b && c))
and_assoc true b c = refl
and_assoc false b c = refl

and_true : (a : Bool) → a ≡ (a && true)
and_true true = refl
and_true false = refl

pub narrowed_none : {X : Type 0} (test : ℕ → X → Bool) (members : List X) (first : ℕ) (numbers found : List ℕ) → length members ≤ first
    → found ≡ numbers → found ≡ narrowed test members first 0 numbers
narrowed_none test members first numbers found past same =
    same ∙ sym (filter_agree (λ n. some_pass (test n) members first 0) (λ n. true) (λ n. rw (first_past (test n) members first past) refl) numbers
    ∙ filter_all (λ n. true) numbers (λ k d inside. refl))

pub narrowed_first : {X : Type 0} (test : ℕ → X → Bool) (members : List X) (first : ℕ) (member : X) (numbers found : List ℕ)
    → first < length members → member ≡ get_or members first member → found ≡ filter (λ n. test n member) numbers
    → found ≡ narrowed test members first 0 numbers
narrowed_first test members first member numbers found inside is less =
    less ∙ filter_agree (λ n. test n member) (λ n. some_pass (test n) members first 0)
    (λ n. ap (test n) is ∙ sym (first_at (test n) members first member inside) ∙ and_true (first_passes (test n) members first)) numbers

pub narrowed_more : {X : Type 0} (test : ℕ → X → Bool) (members : List X) (first i : ℕ) (member : X) (numbers found fewer : List ℕ)
    → i < length members → member ≡ get_or members i member → found ≡ narrowed test members first i numbers
    → fewer ≡ filter (λ n. test n member) found → fewer ≡ narrowed test members first (i + 1) numbers
narrowed_more test members first i member numbers found fewer inside is h less =
    less ∙ ap (filter (λ n. test n member)) h ∙ filter_twice (λ n. test n member) (λ n. some_pass (test n) members first i) numbers
    ∙ filter_agree (λ n. some_pass (test n) members first i && test n member) (λ n. some_pass (test n) members first (i + 1)) agree numbers
  where
    agree : (n : ℕ) → (some_pass (test n) members first i && test n member) ≡ some_pass (test n) members first (i + 1)
    agree n =
        and_assoc (first_passes (test n) members first) (list_all (test n) (take i members)) (test n member)
        ∙ ap (λ b. first_passes (test n) members first && b)
        (ap (λ q. list_all (test n) (take i members) && test n q) is ∙ sym (list_all_more (test n) members i member inside))

again : (a b : Bool) → (a && b) ≡ (a && (b && a))
again true true = refl
again true false = refl
again false b = refl

-- the first member need not be looked at again
pub narrowed_same : {X : Type 0} (test : ℕ → X → Bool) (members : List X) (first i : ℕ) (member : X) (numbers found : List ℕ)
    → i < length members → i ≡ first → found ≡ narrowed test members first i numbers → found ≡ narrowed test members first (i + 1) numbers
narrowed_same test members first i member numbers found inside same h =
    h ∙ filter_agree (λ n. some_pass (test n) members first i) (λ n. some_pass (test n) members first (i + 1))
    (λ n.
    let passes : first_passes (test n) members first ≡ test n (get_or members i member) =
    ap (first_passes (test n) members) (sym same) ∙ first_at (test n) members i member inside in
    again (first_passes (test n) members first) (list_all (test n) (take i members))
    ∙ ap (λ b. first_passes (test n) members first && (list_all (test n) (take i members) && b)) passes
    ∙ ap (λ b. first_passes (test n) members first && b) (sym (list_all_more (test n) members i member inside))) numbers

implied : (a b : Bool) → (a ≡ false → b ≡ false) → (a && b) ≡ b
implied true b h = refl
implied false b h = sym (h refl)

-- if the first member does not pass, not all do
first_of_all : {X : Type 0} (test : X → Bool) (members : List X) (first : ℕ) → first_passes test members first ≡ false → list_all test members ≡ false
first_of_all test [] first fails = absurd (false≢true (sym fails))
first_of_all test (q ∷ members) zero fails = rw fails refl
first_of_all test (q ∷ members) (suc first) fails = rw (first_of_all test members first fails) (and-false (test q))

-- if one of the members before a place does not pass, not all do
some_of_all : {X : Type 0} (test : X → Bool) (members : List X) (i : ℕ) → list_all test (take i members) ≡ false → list_all test members ≡ false
some_of_all test members zero fails = absurd (false≢true (sym fails))
some_of_all test [] (suc i) fails = absurd (false≢true (sym fails))
some_of_all test (q ∷ members) (suc i) fails = cases (test q) refl (some_of_all test members i)
  where
    cases : (b : Bool) → test q ≡ b → (list_all test (take i members) ≡ false → list_all test members ≡ false) → list_all test (q ∷ members) ≡ false
    cases true e later = rw e (later (rw e at fails))
    cases false e later = rw e refl

either_fails : (a b c : Bool) → (a ≡ false → c ≡ false) → (b ≡ false → c ≡ false) → ((a && b) && c) ≡ c
either_fails true true c f g = refl
either_fails true false c f g = sym (g refl)
either_fails false b c f g = sym (f refl)

-- where nothing is left, nothing passes the other members either
pub narrowed_empty : {X : Type 0} (test : ℕ → X → Bool) (members : List X) (first i : ℕ) (numbers found : List ℕ) → length found ≡ 0
    → found ≡ narrowed test members first i numbers → found ≡ filter (λ n. list_all (test n) members) numbers
narrowed_empty test members first i numbers found none h =
    let empty : found ≡ [] = nil_from_length found none in
    let all : ℕ → Bool = λ n. list_all (test n) members in
    empty ∙ sym (ap (filter all) (sym h ∙ empty)) ∙ filter_twice all (λ n. some_pass (test n) members first i) numbers
    ∙ filter_agree (λ n. some_pass (test n) members first i && all n) all
    (λ n. either_fails (first_passes (test n) members first) (list_all (test n) (take i members)) (all n)
    (first_of_all (test n) members first) (some_of_all (test n) members i)) numbers

-- what is found rises
pub narrowed-rising : (p : ℕ → Bool) (numbers found : List ℕ) → found ≡ filter p numbers → IsStrictlyIncreasing numbers → IsStrictlyIncreasing found
narrowed-rising p numbers found is rising = rw is (IsStrictlyIncreasing-filter p numbers rising)

-- What is found, with the first member and those before place i, and that it rises.
pub record IsNarrowed {X : Type 0} (test : ℕ → X → Bool) (members : List X) (first i : ℕ) (numbers found : List ℕ) : Type 0 where
  pub is : found ≡ narrowed test members first i numbers
  pub rises : Rises found

pub rises_too : {X : Type 0} (test : ℕ → X → Bool) (members : List X) (first i : ℕ) (numbers found : List ℕ)
    → found ≡ narrowed test members first i numbers → Rises numbers → IsNarrowed test members first i numbers found
rises_too test members first i numbers found is h = record {
  is = is;
  rises = record { rising = narrowed-rising (λ n. some_pass (test n) members first i) numbers found is h.rising };
}

-- there is a mark for each number that is found
pub found_fits : (p : ℕ → Bool) (numbers found : List ℕ) (count : ℕ) → found ≡ filter p numbers → All (λ n. n < count) numbers → All (λ n. n < count) found
found_fits p numbers found count is fits = rw is (All-filter p (λ n. n < count) numbers fits)

pub narrowed_ends : {X : Type 0} (test : ℕ → X → Bool) (members : List X) (first i : ℕ) (numbers found : List ℕ) → length members ≤ i
    → found ≡ narrowed test members first i numbers → found ≡ filter (λ n. list_all (test n) members) numbers
narrowed_ends test members first i numbers found end h =
    h ∙ filter_agree (λ n. some_pass (test n) members first i) (λ n. list_all (test n) members)
    (λ n. ap (λ qs. first_passes (test n) members first && list_all (test n) qs) (take_all i members end)
    ∙ implied (first_passes (test n) members first) (list_all (test n) members) (first_of_all (test n) members first)) numbers

pub all_selected : (sets : List PlaceSet) (members : List Query) (numbers found : List ℕ)
    → found ≡ filter (λ n. list_all (is_met_by sets n) members) numbers → found ≡ chosen sets (all_of (formulas_of (map formula_of members))) numbers
all_selected sets members numbers found h =
    h ∙ filter_agree (λ n. list_all (is_met_by sets n) members) (λ n. is_met (all_of (formulas_of (map formula_of members))) (trigrams_with sets n))
    (all_met-list sets members) numbers

-- ---- one member

-- There is a mark for each number, and those are marked with which a member before place i passes the test.
pub record IsMarked {X : Type 0} (test : ℕ → X → Bool) (members : List X) (i : ℕ) (numbers : List ℕ) (marks : List Bool) : Type 0 where
  pub fits : All (λ n. n < length marks) numbers
  pub is : (n : ℕ) → has numbers n ≡ true → get_or marks n false ≡ list_any (test n) (take i members)

pub marked_begins : {X : Type 0} (test : ℕ → X → Bool) (members : List X) (numbers : List ℕ) (marks : List Bool)
    → All (λ n. n < length marks) numbers → ((n : ℕ) → get_or marks n false ≡ false) → IsMarked test members 0 numbers marks
marked_begins test members numbers marks fits none = record { fits = fits; is = λ n there. none n }

and_there : (a b : Bool) → a ≡ true → (a && b) ≡ b
and_there true b e = refl
and_there false b e = absurd (false≢true e)

pub marked_more : {X : Type 0} (test : ℕ → X → Bool) (members : List X) (i : ℕ) (member : X) (numbers found : List ℕ) (marks more : List Bool)
    → i < length members → member ≡ get_or members i member → found ≡ filter (λ n. test n member) numbers → length more ≡ length marks
    → ((n : ℕ) → get_or more n false ≡ (get_or marks n false || has found n)) → IsMarked test members i numbers marks
    → IsMarked test members (i + 1) numbers more
marked_more test members i member numbers found marks more inside is less same grown h = record {
  fits = rw same h.fits;
  is = λ n there.
      grown n ∙ ap (λ b. b || has found n) (h.is n there)
      ∙ ap (λ b. list_any (test n) (take i members) || b)
      (ap (λ ns. has ns n) less ∙ has-filter (λ m. test m member) numbers n ∙ and_there (has numbers n) (test n member) there ∙ ap (test n) is)
      ∙ sym (list_any_more (test n) members i member inside);
}

pub marked_ends : {X : Type 0} (test : ℕ → X → Bool) (members : List X) (i : ℕ) (numbers found : List ℕ) (marks : List Bool)
    → length members ≤ i → IsMarked test members i numbers marks → found ≡ filter (λ n. get_or marks n false) numbers
    → found ≡ filter (λ n. list_any (test n) members) numbers
marked_ends test members i numbers found marks end h is =
    is ∙ filter_agree_in (λ n. get_or marks n false) (λ n. list_any (test n) members) numbers
    (λ n there. h.is n there ∙ ap (list_any (test n)) (take_all i members end))

pub one_selected : (sets : List PlaceSet) (members : List Query) (numbers found : List ℕ)
    → found ≡ filter (λ n. list_any (is_met_by sets n) members) numbers → found ≡ chosen sets (one_of (formulas_of (map formula_of members))) numbers
one_selected sets members numbers found h =
    h ∙ filter_agree (λ n. list_any (is_met_by sets n) members) (λ n. is_met (one_of (formulas_of (map formula_of members))) (trigrams_with sets n))
    (one_met-list sets members) numbers

pub texts_selected : (sets : List PlaceSet) (vecs : List (Vec ℕ Global)) (several : Texts) (numbers found : List ℕ) → texts_of vecs ≡ several
    → found ≡ filter (λ n. list_any (has_text_of sets n) vecs) numbers → found ≡ chosen sets (texts several) numbers
unfolding is_met
texts_selected sets vecs several numbers found same h =
    h ∙ filter_agree (λ n. list_any (has_text_of sets n) vecs) (λ n. has_all_of_one several (trigrams_with sets n))
    (λ n. any_text (trigrams_with sets n) vecs ∙ ap (λ ts. has_all_of_one ts (trigrams_with sets n)) same) numbers

-- the trigrams of a text, one after the other
pub text_narrowed : (sets : List PlaceSet) (ts text numbers found : List ℕ) → ((set : TrigramSet) → list_all set ts ≡ has_all_trigrams text set)
    → found ≡ filter (λ n. list_all (trigrams_with sets n) ts) numbers → found ≡ filter (λ n. has_all_trigrams text (trigrams_with sets n)) numbers
text_narrowed sets ts text numbers found same h =
    h ∙ filter_agree (λ n. list_all (trigrams_with sets n) ts) (λ n. has_all_trigrams text (trigrams_with sets n)) (λ n. same (trigrams_with sets n)) numbers

-- ---- one set alone

of_set : (P : List ℕ → Type 0) (sets : List PlaceSet) (t : ℕ) → P [] → All (λ s. P s.places) sets → P (places_of sets t)
of_set P [] t none all = none
of_set P (s ∷ sets) t none all = cases (s.trigram == t) refl (of_set P sets t none (All-tail (λ (r : PlaceSet). P r.places) s sets all))
  where
    cases : (b : Bool) → (s.trigram == t) ≡ b → P (places_of sets t) → P (places_of (s ∷ sets) t)
    cases true e later = rw e (All-head (λ (r : PlaceSet). P r.places) s sets all)
    cases false e later = rw e later

-- of all places, those that have a trigram are its set
pub set_of_all : (count : ℕ) (sets : List PlaceSet) (t : ℕ) → Fits count sets → filter (has (places_of sets t)) (numbers_below count) ≡ places_of sets t
set_of_all count sets t fits =
    among_below count (places_of sets t)
    (of_set IsStrictlyIncreasing sets t (λ k inside. absurd (omega (arith, inside))) fits.rising)
    (of_set (All (λ p. p < count)) sets t (All-nil (λ p. p < count)) fits.below)
