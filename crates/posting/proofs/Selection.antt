-- The numbers whose trigrams meet a query.
use Rattle.std.proofs.Common.{◌≡◌, ℕ, zero, suc, ◌+◌, ◌<◌, ◌≤◌, Bool, true, false, ◌&&◌, ◌||◌, ◌==◌, List, [], ◌∷◌, length, get_or}
use Rattle.std.proofs.Common.{take, map, refl, sym, ap, ◌∙◌, Option, Some, None}
use Rattle.std.specs.Prelude.{filter, slice_get}
use Rattle.std.specs.List.{list_all, list_any}
use Rattle.std.specs.declared.alloc.Global.{Global}
use Rattle.std.specs.declared.vec.Vec.{Vec}
use Rattle.std.proofs.lemmas.Bool.{false≢true, eq-eqb}
use Rattle.std.proofs.lemmas.List.{take_all}
use Rattle.std.proofs.lemmas.List.Elements.{filter_agree}
use Rattle.std.proofs.lemmas.List.Folds.{list_all_more}
use Rattle.std.proofs.lemmas.Option.{slice_get-get_or}
use Rattle.std.specs.declared.boxed.Box.{Box}
use Rattle.std.proofs.Math.Bool.{and-false, or-true}
use Rattle.query.specs.declared.pairs.Pairs.{Pairs}
use Rattle.query.specs.Trigrams.{TrigramSet, has_all_trigrams}
use Rattle.query.specs.Texts.{Texts, texts_of, has_all_of_one}
use Rattle.query.specs.Pairs.{texts_in}
use Rattle.query.specs.declared.query.Query.{Query}
use Rattle.query.specs.declared.query.Query.TheVariants as query
use Rattle.query.specs.Query.{Formula, texts, all_of, one_of, formula_of, formulas_of, is_met, are_all_met, is_one_met}
use Rattle.query.proofs.Forms.{formula_of-Any, formula_of-None, formula_of-Has, formula_of-Pairs, formula_of-And, formula_of-Or}
use Rattle.posting.specs.ListValue.{ListValue, has}
use Rattle.posting.specs.Postings.{NumberSet, set_of, trigrams_with, selected}
use Rattle.posting.specs.Private.Selection.{Finds}
use Rattle.posting.proofs.SetLemmas.{has-filter}
use Rattle.posting.proofs.Members.{filter_all}

pub met-Any : (set : TrigramSet) → is_met (formula_of query.Any) set ≡ true
unfolding is_met
met-Any set = rw formula_of-Any refl

pub met-None : (set : TrigramSet) → is_met (formula_of query.None) set ≡ false
unfolding is_met
met-None set = rw formula_of-None refl

pub met-Has : (t : ℕ) (set : TrigramSet) → is_met (formula_of (query.Has t)) set ≡ set t
unfolding is_met
met-Has t set = rw (formula_of-Has t) refl

-- the numbers that `Any` and `Has` choose
pub chosen-Any : (table : List NumberSet) (xs : List ℕ) → filter (λ n. is_met (formula_of query.Any) (trigrams_with table n)) xs ≡ xs
chosen-Any table xs = filter_all (λ n. is_met (formula_of query.Any) (trigrams_with table n)) xs (λ k d inside. met-Any (trigrams_with table (get_or xs k d)))

pub chosen-Has : (table : List NumberSet) (t : ℕ) (xs : List ℕ)
    → filter (λ n. is_met (formula_of (query.Has t)) (trigrams_with table n)) xs ≡ filter (has (set_of table t).members) xs
chosen-Has table t xs =
    filter_agree (λ n. is_met (formula_of (query.Has t)) (trigrams_with table n)) (has (set_of table t).members)
    (λ n. met-Has t (trigrams_with table n)) xs

-- the set meets the query
abbrev pub meets : TrigramSet → Query → Bool
meets set q = is_met (formula_of q) set

pub all_met-list : (members : List Query) (set : TrigramSet) → is_met (all_of (formulas_of (map formula_of members))) set ≡ list_all (meets set) members
unfolding is_met are_all_met
all_met-list [] set = refl
all_met-list (q ∷ members) set = ap (λ b. meets set q && b) (all_met-list members set)

pub one_met-list : (members : List Query) (set : TrigramSet) → is_met (one_of (formulas_of (map formula_of members))) set ≡ list_any (meets set) members
unfolding is_met is_one_met
one_met-list [] set = refl
one_met-list (q ∷ members) set = ap (λ b. meets set q || b) (one_met-list members set)

-- where two tests agree on the numbers of a list
pub filter_agree_in : (p q : ℕ → Bool) (xs : List ℕ) → ((n : ℕ) → has xs n ≡ true → p n ≡ q n) → filter p xs ≡ filter q xs
filter_agree_in p q [] agree = refl
filter_agree_in p q (x ∷ xs) agree = cases (p x) (q x) refl refl (filter_agree_in p q xs (λ n there. agree n (rw there (or-true (x == n)))))
  where
    here : has (x ∷ xs) x ≡ true
    here = rw (eq-eqb x x refl) refl

    cases : (b c : Bool) → p x ≡ b → q x ≡ c → filter p xs ≡ filter q xs → filter p (x ∷ xs) ≡ filter q (x ∷ xs)
    cases true true e f later = rw (e, f) (ap (λ zs. x ∷ zs) later)
    cases false false e f later = rw (e, f) later
    cases true false e f later = absurd (false≢true (sym f ∙ sym (agree x here) ∙ e))
    cases false true e f later = absurd (false≢true (sym e ∙ agree x here ∙ f))

-- the numbers of a list that are among those found for a formula
pub narrowed_by_found : (table : List NumberSet) (formula : Formula) (numbers found : List ℕ) → Finds table formula numbers found
    → filter (has found) numbers ≡ selected table formula numbers
narrowed_by_found table formula numbers found h = filter_agree_in (has found) (λ n. is_met formula (trigrams_with table n)) numbers h

-- ---- what is found for each query

pub found-Any : (table : List NumberSet) (given found : List ℕ) → found ≡ given → Finds table (formula_of query.Any) given found
found-Any table given found same n there = ap (λ ns. has ns n) same ∙ there ∙ sym (met-Any (trigrams_with table n))

pub found-None : (table : List NumberSet) (given found : List ℕ) → found ≡ [] → Finds table (formula_of query.None) given found
found-None table given found none n there = ap (λ ns. has ns n) none ∙ sym (met-None (trigrams_with table n))

pub found-Has : (table : List NumberSet) (t : ℕ) (given found : List ℕ)
    → ((n : ℕ) → has given n ≡ true → has found n ≡ has (set_of table t).members n) → Finds table (formula_of (query.Has t)) given found
found-Has table t given found same n there = same n there ∙ sym (met-Has t (trigrams_with table n))

pub found-And : (table : List NumberSet) (members : Vec Query Global) (given found : List ℕ)
    → Finds table (all_of (formulas_of (map formula_of members.items))) given found
    → Finds table (formula_of (query.And members)) given found
found-And table members given found h = rw (formula_of-And members) h

pub found-Or : (table : List NumberSet) (members : Vec Query Global) (given found : List ℕ)
    → Finds table (one_of (formulas_of (map formula_of members.items))) given found
    → Finds table (formula_of (query.Or members)) given found
found-Or table members given found h = rw (formula_of-Or members) h

-- ---- all members, the first one before the others

-- the member that comes first, where there is one
abbrev pub first_passes : {X : Type 0} → (X → Bool) → Option X → Bool
first_passes test None = true
first_passes test (Some x) = test x

-- the first member and those before place i
abbrev pub some_pass : {X : Type 0} → (X → Bool) → List X → ℕ → ℕ → Bool
some_pass test members first i = first_passes test (slice_get members first) && list_all test (take i members)

-- Of the given numbers, exactly those were found with which the first member and the members before place i pass the test.
abbrev pub Narrowed : {X : Type 0} → (ℕ → X → Bool) → List X → ℕ → ℕ → List ℕ → List ℕ → Type 0
Narrowed test members first i given found = (n : ℕ) → has given n ≡ true → has found n ≡ some_pass (test n) members first i

and_assoc : (a b c : Bool) → ((a && b) && c) ≡ (a && (b && c))
and_assoc true b c = refl
and_assoc false b c = refl

pub narrowed_more : {X : Type 0} (test : ℕ → X → Bool) (members : List X) (first i : ℕ) (member : X) (given found fewer : List ℕ)
    → i < length members → member ≡ get_or members i member → Narrowed test members first i given found
    → fewer ≡ filter (λ m. test m member) found → Narrowed test members first (i + 1) given fewer
narrowed_more test members first i member given found fewer inside is h less n there =
    ap (λ ns. has ns n) less ∙ has-filter (λ m. test m member) found n
    ∙ ap (λ b. b && test n member) (h n there)
    ∙ and_assoc (first_passes (test n) (slice_get members first)) (list_all (test n) (take i members)) (test n member)
    ∙ ap (λ b. first_passes (test n) (slice_get members first) && b)
    (ap (λ q. list_all (test n) (take i members) && test n q) is ∙ sym (list_all_more (test n) members i member inside))

absorbed : (a b : Bool) → (a && b) ≡ (a && (b && a))
absorbed true true = refl
absorbed true false = refl
absorbed false b = refl

-- the first member is skipped at its own place
some_pass-first : {X : Type 0} (test : X → Bool) (members : List X) (i : ℕ) (member : X) → i < length members
    → some_pass test members i i ≡ some_pass test members i (i + 1)
some_pass-first test members i member inside =
    let there : slice_get members i ≡ Some (get_or members i member) = slice_get-get_or members i member inside in
    rw (there, list_all_more test members i member inside) (absorbed (test (get_or members i member)) (list_all test (take i members)))

pub narrowed_passed : {X : Type 0} (test : ℕ → X → Bool) (members : List X) (first i : ℕ) (member : X) (given found : List ℕ) → i ≡ first
    → i < length members → Narrowed test members first i given found → Narrowed test members first (i + 1) given found
narrowed_passed test members first i member given found is inside h n there =
    h n there ∙ rw (← is) (some_pass-first (test n) members i member inside)

implied : (a b : Bool) → (a ≡ false → b ≡ false) → (a && b) ≡ b
implied true b h = refl
implied false b h = sym (h refl)

-- if the first member does not pass, not all do
first_of_all : {X : Type 0} (test : X → Bool) (members : List X) (first : ℕ) → first_passes test (slice_get members first) ≡ false
    → list_all test members ≡ false
first_of_all test [] first fails = absurd (false≢true (sym fails))
first_of_all test (q ∷ members) zero fails = rw fails refl
first_of_all test (q ∷ members) (suc first) fails = rw (first_of_all test members first fails) (and-false (test q))

-- nor if those before place i do not all pass
some_of_all : {X : Type 0} (test : X → Bool) (members : List X) (i : ℕ) → list_all test (take i members) ≡ false → list_all test members ≡ false
some_of_all test [] zero fails = fails
some_of_all test [] (suc i) fails = fails
some_of_all test (q ∷ members) zero fails = absurd (false≢true (sym fails))
some_of_all test (q ∷ members) (suc i) fails = cases (test q) refl (some_of_all test members i)
  where
    cases : (b : Bool) → test q ≡ b → (list_all test (take i members) ≡ false → list_all test members ≡ false)
        → (test q && list_all test members) ≡ false
    cases true e later = rw e (later (rw e at fails))
    cases false e later = rw e refl

pub narrowed_ends : {X : Type 0} (test : ℕ → X → Bool) (members : List X) (first i : ℕ) (given found : List ℕ) → length members ≤ i
    → Narrowed test members first i given found → (n : ℕ) → has given n ≡ true → has found n ≡ list_all (test n) members
narrowed_ends test members first i given found end h n there =
    h n there
    ∙ ap (λ qs. first_passes (test n) (slice_get members first) && list_all (test n) qs) (take_all i members end)
    ∙ implied (first_passes (test n) (slice_get members first)) (list_all (test n) members) (first_of_all (test n) members first)

-- once no numbers are left, the other members can take none away
pub narrowed_to_none : {X : Type 0} (test : ℕ → X → Bool) (members : List X) (first i : ℕ) (given found : List ℕ) → found ≡ []
    → Narrowed test members first i given found → (n : ℕ) → has given n ≡ true → has found n ≡ list_all (test n) members
narrowed_to_none test members first i given found none h n there =
    let fails : some_pass (test n) members first i ≡ false = sym (h n there) ∙ ap (λ ns. has ns n) none in
    ap (λ ns. has ns n) none ∙ sym (either (first_passes (test n) (slice_get members first)) refl fails)
  where
    either : (b : Bool) → first_passes (test n) (slice_get members first) ≡ b → some_pass (test n) members first i ≡ false
        → list_all (test n) members ≡ false
    either true e fails = some_of_all (test n) members i (rw e at fails)
    either false e fails = first_of_all (test n) members first e

-- ---- one member

-- Of the given numbers, exactly those are in a list with which a member before place i passes the test.
abbrev pub Joined : {X : Type 0} → (ℕ → X → Bool) → List X → ℕ → List ℕ → List ListValue → Type 0
Joined test members i given lists =
    (n : ℕ) → has given n ≡ true → list_any (λ list. has list.members n) lists ≡ list_any (test n) (take i members)

pub joined_ends : {X : Type 0} (test : ℕ → X → Bool) (members : List X) (i : ℕ) (given found : List ℕ) (lists : List ListValue)
    → length members ≤ i → Joined test members i given lists → ((n : ℕ) → has found n ≡ list_any (λ list. has list.members n) lists)
    → (n : ℕ) → has given n ≡ true → has found n ≡ list_any (test n) members
joined_ends test members i given found lists end h union n there =
    union n ∙ h n there ∙ ap (list_any (test n)) (take_all i members end)

-- ---- members that are queries, and texts

-- the number meets the query
abbrev pub is_met_by : List NumberSet → ℕ → Query → Bool
is_met_by table n q = meets (trigrams_with table n) q

pub finds_all : (table : List NumberSet) (members : List Query) (given found : List ℕ)
    → ((n : ℕ) → has given n ≡ true → has found n ≡ list_all (is_met_by table n) members)
    → Finds table (all_of (formulas_of (map formula_of members))) given found
finds_all table members given found h n there = h n there ∙ sym (all_met-list members (trigrams_with table n))

pub finds_any : (table : List NumberSet) (members : List Query) (given found : List ℕ)
    → ((n : ℕ) → has given n ≡ true → has found n ≡ list_any (is_met_by table n) members)
    → Finds table (one_of (formulas_of (map formula_of members))) given found
finds_any table members given found h n there = h n there ∙ sym (one_met-list members (trigrams_with table n))

-- the number has all trigrams of the text
abbrev pub has_text_of : List NumberSet → ℕ → Vec ℕ Global → Bool
has_text_of table n text = has_all_trigrams text.items (trigrams_with table n)

any_text : (set : TrigramSet) (vecs : List (Vec ℕ Global)) → list_any (λ text. has_all_trigrams text.items set) vecs ≡ has_all_of_one (texts_of vecs) set
any_text set [] = refl
any_text set (text ∷ vecs) = ap (λ b. has_all_trigrams text.items set || b) (any_text set vecs)

pub finds_texts : (table : List NumberSet) (vecs : List (Vec ℕ Global)) (several : Texts) (given found : List ℕ) → texts_of vecs ≡ several
    → ((n : ℕ) → has given n ≡ true → has found n ≡ list_any (has_text_of table n) vecs) → Finds table (texts several) given found
unfolding is_met
finds_texts table vecs several given found same h n there =
    h n there ∙ any_text (trigrams_with table n) vecs ∙ ap (λ ts. has_all_of_one ts (trigrams_with table n)) same

pub found-Pairs : (table : List NumberSet) (pairs : Box Pairs Global) (given found : List ℕ) → Finds table (texts (texts_in pairs.value)) given found
    → Finds table (formula_of (query.Pairs pairs)) given found
found-Pairs table pairs given found h = rw (formula_of-Pairs pairs) h
