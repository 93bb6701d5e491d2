-- Numbers that rise, and contents that have them.
use Rattle.std.proofs.Common.{◌≡◌, ◌≢◌, ℕ, ◌+◌, ◌<◌, ◌≤◌, ◌||◌, Bool, true, false, cond, ◌⊎◌, inl, inr, List, [], ◌∷◌, ◌++◌, map, length, take, drop, get_or, refl, sym, ◌∙◌, ap, subst, arith, append_assoc, Result, Ok, Err, MatchResult, is_ok, min, max, ◌==◌}
use Rattle.std.specs.Prelude.{filter, nat_le}
use Rattle.std.specs.List.Sorted.{IsStrictlyIncreasing, IsBinarySearchResult}
use Rattle.std.specs.Ordering.{nat_cmp}
use Rattle.std.proofs.lemmas.Bool.{cases_lt, eq-eqb}
use Rattle.std.proofs.lemmas.Bool.Decides.{nat_tests}
use Rattle.std.proofs.lemmas.List.{get_or-drop, get_or-take, length-take, length-drop, take-append-drop, take_more, append-nil, map-append, map_push}
use Rattle.std.proofs.lemmas.List.Elements.{All-weaker, All-from_get_or, filter-append}
use Rattle.std.proofs.lemmas.List.Folds.{list_any-append, list_any_at, list_any_none}
use Rattle.std.proofs.lemmas.List.Kept.{AllPairs-from_increasing}
use Rattle.std.proofs.lemmas.List.Sorted.{searched}
use Rattle.names.specs.declared.content.Content.{Content}
use Rattle.names.specs.Contents.{is_one_of, is_since}
use Rattle.names.specs.Private.Entries.{Entry, pairs, joined, LieWithin}
use Rattle.names.proofs.PartLemmas.{joined_more}

-- ---- rising numbers

rising_far : (xs : List ℕ) → IsStrictlyIncreasing xs → (i j : ℕ) → i < j → j < length xs → get_or xs i 0 < get_or xs j 0
rising_far xs rise i j before inside = AllPairs-from_increasing xs rise i j 0 before inside

rises_at : (xs : List ℕ) → IsStrictlyIncreasing xs → (i j : ℕ) → i ≤ j → j < length xs → get_or xs i 0 ≤ get_or xs j 0
rises_at xs rise i j before inside = go (cases_lt i j)
  where
    go : (i < j) ⊎ (j ≤ i) → get_or xs i 0 ≤ get_or xs j 0
    go (inl lt) = let below = rising_far xs rise i j lt inside in omega arith
    go (inr ge) = let same : i ≡ j = omega arith in subst (λ k. get_or xs i 0 ≤ get_or xs k 0) same (omega arith)

pub rising-drop : (at : ℕ) (xs : List ℕ) → IsStrictlyIncreasing xs → IsStrictlyIncreasing (drop at xs)
rising-drop at xs rise = λ k inside.
    let within : at + (k + 1) < length xs = omega (arith, inside, length-drop at xs) in
    let below = rising_far xs rise (at + k) (at + (k + 1)) (omega arith) within in
    omega (arith, below, get_or-drop at xs k 0, get_or-drop at xs (k + 1) 0)

pub rising-take : (at : ℕ) (xs : List ℕ) → IsStrictlyIncreasing xs → IsStrictlyIncreasing (take at xs)
rising-take at xs rise = λ k inside.
    let short = length-take at xs in
    let low : k + 1 < at = omega (arith, inside, short) in
    let within : k + 1 < length xs = omega (arith, inside, short) in
    let below = rising_far xs rise k (k + 1) (omega arith) within in
    let before : k < at = omega arith in
    omega (arith, below, get_or-take at xs k 0 before, get_or-take at xs (k + 1) 0 low)

-- what `binary_search` says of rising numbers
abbrev pub Searched : List ℕ → ℕ → Result ℕ ℕ → Type 0
Searched xs n r =
    MatchResult r (λ i. (i < length xs) × (get_or xs i 0 ≡ n))
    (λ i. (i ≤ length xs) × ((k : ℕ) → k < i → get_or xs k 0 < n) × ((k : ℕ) → i ≤ k → k < length xs → n < get_or xs k 0))

pub searched_for : (xs : List ℕ) (n : ℕ) (r : Result ℕ ℕ) → IsStrictlyIncreasing xs → IsBinarySearchResult (λ y. nat_cmp y n) xs r → Searched xs n r
searched_for xs n r rise found = searched xs n r found (rises_at xs rise)

none_of : (xs : List ℕ) (n : ℕ) → ((k : ℕ) → k < length xs → get_or xs k 0 ≢ n) → is_one_of xs n ≡ false
none_of xs n apart =
    list_any_none (λ m. m == n) xs
    (All-weaker (λ m. m ≢ n) (λ m. (m == n) ≡ false) (λ m differ. grind (arith, nat_tests)) xs (All-from_get_or (λ m. m ≢ n) xs 0 apart))

pub is_among : (xs : List ℕ) (n : ℕ) (r : Result ℕ ℕ) → Searched xs n r → is_ok r ≡ is_one_of xs n
is_among xs n (Ok i) found = sym (list_any_at (λ m. m == n) xs i 0 found.0 (eq-eqb (get_or xs i 0) n found.1))
is_among xs n (Err i) absent = sym (none_of xs n (λ k inside. go k inside (cases_lt k i)))
  where
    go : (k : ℕ) → k < length xs → (k < i) ⊎ (i ≤ k) → get_or xs k 0 ≢ n
    go k inside (inl low) same = let below = absent.1 k low in omega (arith, below, same)
    go k inside (inr high) same = let above = absent.2 k high inside in omega (arith, above, same)

cut : (xs : List ℕ) (at n : ℕ) → is_one_of xs n ≡ (is_one_of (take at xs) n || is_one_of (drop at xs) n)
cut xs at n = ap (λ ys. is_one_of ys n) (sym (take-append-drop at xs)) ∙ list_any-append (λ m. m == n) (take at xs) (drop at xs)

-- numbers below a bound can be left out where only numbers from it on are asked for
pub without_low : (xs : List ℕ) (at low n : ℕ) → ((k : ℕ) → k < at → k < length xs → get_or xs k 0 < low) → low ≤ n → is_one_of (drop at xs) n ≡ is_one_of xs n
without_low xs at low n below order =
    sym (cut xs at n ∙ ap (λ t. t || is_one_of (drop at xs) n) (none_of (take at xs) n differ))
  where
    differ : (k : ℕ) → k < length (take at xs) → get_or (take at xs) k 0 ≢ n
    differ k inside same =
        let short = length-take at xs in
        let before : k < at = omega (arith, inside, short) in
        let there = below k before (omega (arith, inside, short)) in
        omega (arith, there, same, get_or-take at xs k 0 before)

-- and numbers above a bound where only numbers up to it are
pub without_high : (xs : List ℕ) (at high n : ℕ) → ((k : ℕ) → at ≤ k → k < length xs → high < get_or xs k 0) → n ≤ high → is_one_of (take at xs) n ≡ is_one_of xs n
without_high xs at high n above order =
    sym (cut xs at n ∙ (ap (λ t. is_one_of (take at xs) n || t) (none_of (drop at xs) n differ) ∙ or_false (is_one_of (take at xs) n)))
  where
    or_false : (t : Bool) → (t || false) ≡ t
    or_false true = refl
    or_false false = refl

    differ : (k : ℕ) → k < length (drop at xs) → get_or (drop at xs) k 0 ≢ n
    differ k inside same =
        let there = above (at + k) (omega arith) (omega (arith, inside, length-drop at xs)) in
        omega (arith, there, same, get_or-drop at xs k 0)

pub all_above : (xs : List ℕ) (high n : ℕ) → IsStrictlyIncreasing xs → high < get_or xs 0 0 → n ≤ high → is_one_of xs n ≡ false
all_above [] high n rise above order = refl
all_above (x ∷ xs) high n rise above order =
    none_of (x ∷ xs) n (λ k inside same. let there = rises_at (x ∷ xs) rise 0 k (omega arith) inside in omega (arith, there, same, above))

-- the numbers before one that was found are below it, and those behind it above
pub below_found : (xs : List ℕ) (n at : ℕ) → IsStrictlyIncreasing xs → Searched xs n (Ok at) → (k : ℕ) → k < at → k < length xs → get_or xs k 0 < n
below_found xs n at rise found k before inside = let below = rising_far xs rise k at before found.0 in omega (arith, below, found.1)

pub above_found : (xs : List ℕ) (n at : ℕ) → IsStrictlyIncreasing xs → Searched xs n (Ok at) → (k : ℕ) → at + 1 ≤ k → k < length xs → n < get_or xs k 0
above_found xs n at rise found k behind inside = let above = rising_far xs rise at k (omega arith) inside in omega (arith, above, found.1)

-- ---- contents

pub contents-pairs : (names : List (List ℕ)) (contents : List Content) → length names ≡ length contents
    → map (λ e. e.1) (pairs names contents) ≡ contents
contents-pairs [] [] same = refl
contents-pairs [] (c ∷ contents) same = absurd (omega arith)
contents-pairs (n ∷ names) [] same = absurd (omega arith)
contents-pairs (n ∷ names) (c ∷ contents) same = ap (λ cs. c ∷ cs) (contents-pairs names contents (omega arith))

lie_wider : (low high lower higher : ℕ) (cs : List Content) → LieWithin low high cs → lower ≤ low → high ≤ higher → LieWithin lower higher cs
lie_wider low high lower higher [] lie down up = tt
lie_wider low high lower higher (c ∷ cs) lie down up =
    let first = lie.0 in
    let second = lie.1 in (omega (arith, first), omega (arith, second), lie_wider low high lower higher cs lie.2 down up)

lie-push : (low high : ℕ) (cs : List Content) (c : Content) → LieWithin low high cs → low ≤ c.number → c.number ≤ high → LieWithin low high (cs ++ c ∷ [])
lie-push low high [] c lie down up = (down, up, tt)
lie-push low high (d ∷ cs) c lie down up = (lie.0, lie.1, lie-push low high cs c lie.2 down up)

pub lie_more : (low high lower higher at : ℕ) (cs : List Content) (c : Content) → at < length cs → c ≡ get_or cs at c → LieWithin low high (take at cs)
    → lower ≡ min low c.number → higher ≡ max high c.number → LieWithin lower higher (take (at + 1) cs)
lie_more low high lower higher at cs c inside is lie lower_is higher_is =
    subst (LieWithin lower higher) (sym (take_more cs at c inside ∙ ap (λ x. take at cs ++ x ∷ []) (sym is)))
    (lie-push lower higher (take at cs) c (lie_wider low high lower higher (take at cs) lie (omega (arith, lower_is)) (omega (arith, higher_is)))
    (omega (arith, lower_is)) (omega (arith, higher_is)))

pub none_since : (number low high : ℕ) (cs : List Content) → LieWithin low high cs → high < number → filter (is_since number) cs ≡ []
none_since number low high [] lie above = refl
none_since number low high (c ∷ cs) lie above =
    let second = lie.1 in
    let below : c.number < number = omega (arith, second, above) in
    let none : nat_le number c.number ≡ false = grind (arith, nat_tests) in
    ap (λ t. cond t (c ∷ filter (is_since number) cs) (filter (is_since number) cs)) none ∙ none_since number low high cs lie.2 above

-- tests that agree on all numbers that there are
pub same_chosen : (p q : ℕ → Bool) (low high : ℕ) (es : List Entry) → LieWithin low high (map (λ e. e.1) es) → ((n : ℕ) → low ≤ n → n ≤ high → p n ≡ q n)
    → filter (λ e. p e.1.number) es ≡ filter (λ e. q e.1.number) es
same_chosen p q low high [] lie agree = refl
same_chosen p q low high (e ∷ es) lie agree =
    ap (λ t. cond t (e ∷ filter (λ x. p x.1.number) es) (filter (λ x. p x.1.number) es)) (agree e.1.number lie.0 lie.1)
    ∙ ap (λ rest. cond (q e.1.number) (e ∷ rest) rest) (same_chosen p q low high es lie.2 agree)

pub none_chosen : (es : List Entry) → filter (λ e. is_one_of [] e.1.number) es ≡ []
none_chosen [] = refl
none_chosen (e ∷ es) = none_chosen es

-- ---- what passes a test, gathered one after the other

module _ {X : Type 0} (p : X → Bool) (old now xs more : List X) (x : X) (now_is : now ≡ old ++ filter p xs) (more_is : more ≡ xs ++ x ∷ []) where
  more_passes : filter p more ≡ filter p xs ++ filter p (x ∷ [])
  more_passes = ap (filter p) more_is ∙ filter-append p xs (x ∷ [])

  pub passed_on : (after : List X) → p x ≡ true → after ≡ now ++ x ∷ [] → after ≡ old ++ filter p more
  passed_on after passes is =
      is
      ∙ (ap (λ n. n ++ x ∷ []) now_is
      ∙ (append_assoc old (filter p xs) (x ∷ [])
      ∙ ap (λ ys. old ++ ys) (ap (λ t. filter p xs ++ cond t (x ∷ []) []) (sym passes) ∙ sym more_passes)))

  pub passed_by : p x ≡ false → now ≡ old ++ filter p more
  passed_by fails =
      now_is
      ∙ ap (λ ys. old ++ ys)
      (sym (append-nil (filter p xs)) ∙ (ap (λ t. filter p xs ++ cond t (x ∷ []) []) (sym fails) ∙ sym more_passes))

pub content_more : (es : List Entry) (at : ℕ) (c : Content) → at < length es → ((d : Entry) → c ≡ (get_or es at d).1)
    → map (λ e. e.1) (take (at + 1) es) ≡ map (λ e. e.1) (take at es) ++ c ∷ []
content_more es at c inside is =
    ap (map (λ e. e.1)) (take_more es at ([], c) inside)
    ∙ (map_push (λ e. e.1) (take at es) (get_or es at ([], c)) ∙ ap (λ x. map (λ e. e.1) (take at es) ++ x ∷ []) (sym (is ([], c))))

pub entry_more : (es : List Entry) (at : ℕ) (e : Entry) → at < length es → get_or es at e ≡ e → take (at + 1) es ≡ take at es ++ e ∷ []
entry_more es at e inside is = take_more es at e inside ∙ ap (λ x. take at es ++ x ∷ []) is

-- one chunk more, of what a list makes of each
pub walked_on : {Y : Type 0} (f : List Entry → List Y) → ((xs ys : List Entry) → f (xs ++ ys) ≡ f xs ++ f ys) → (now after : List Y) (chunks : List (List Entry)) (at : ℕ)
    (chunk : List Entry) → at < length chunks → chunk ≡ get_or chunks at chunk → now ≡ f (joined (take at chunks)) → after ≡ now ++ f chunk
    → after ≡ f (joined (take (at + 1) chunks))
walked_on f f-append now after chunks at chunk inside is so_far more =
    more
    ∙ (ap (λ ys. ys ++ f chunk) so_far
    ∙ (ap (λ c. f (joined (take at chunks)) ++ f c) is
    ∙ (sym (f-append (joined (take at chunks)) (get_or chunks at chunk)) ∙ ap f (sym (joined_more chunks at chunk inside)))))

pub since-append : (number : ℕ) (xs ys : List Entry)
    → filter (is_since number) (map (λ e. e.1) (xs ++ ys)) ≡ filter (is_since number) (map (λ e. e.1) xs) ++ filter (is_since number) (map (λ e. e.1) ys)
since-append number xs ys =
    ap (filter (is_since number)) (map-append (λ e. e.1) xs ys) ∙ filter-append (is_since number) (map (λ e. e.1) xs) (map (λ e. e.1) ys)
