-- Names that begin with texts, in their order.
use Rattle.std.proofs.Common.{◌≡◌, ℕ, zero, suc, ◌<◌, ◌≤◌, ◌==◌, ◌&&◌, ◌||◌, Bool, true, false, cond, List, [], ◌∷◌, length, take, get_or, ◌⊎◌, inl, inr}
use Rattle.std.proofs.Common.{refl, sym, ◌∙◌, ap, subst, arith}
use Rattle.std.specs.Prelude.{bytes_eq, nat_lt}
use Rattle.std.specs.List.{list_any}
use Rattle.std.specs.Ordering.{nat_cmp, is_le, is_gt, ordering_reverse, ordering_then}
use Rattle.std.specs.Cmp.{nat_cmp_is}
use Rattle.std.specs.Cmp.Lexicographic.{slice_cmp, nat_list_cmp_total}
use Rattle.std.specs.declared.cmp.Ordering.{Ordering}
use Rattle.std.specs.declared.cmp.Ordering.TheVariants.{Less, Equal, Greater}
use Rattle.std.proofs.lemmas.Bool.{cases_eq, cases_lt, false≢true, true≢false}
use Rattle.std.proofs.lemmas.Bool.Decides.{nat_tests}
use Rattle.std.proofs.lemmas.Cmp.{alike_right, nat_list_eq_equiv, upto}
use Rattle.std.proofs.lemmas.List.{get_or_default, take_all}
use Rattle.prefixes.specs.Under.{begins_with, is_under_one}
use Rattle.prefixes.specs.Private.Apart.{AreApart, IsAhead, SplitsAt}

-- ---- texts in order

no_gt : (o : Ordering) → is_le o ≡ true → is_gt o ≡ false
no_gt Less e = refl
no_gt Equal e = refl
no_gt Greater e = absurd (false≢true e)

not_gt : (o : Ordering) → is_gt o ≡ false → is_le o ≡ true
not_gt Less e = refl
not_gt Equal e = refl
not_gt Greater e = absurd (true≢false e)

pub le_le : (x y z : List ℕ) → is_le (slice_cmp nat_cmp x y) ≡ true → is_le (slice_cmp nat_cmp y z) ≡ true → is_le (slice_cmp nat_cmp x z) ≡ true
le_le x y z e f =
    not_gt (slice_cmp nat_cmp x z) (upto nat_list_cmp_total x y z (no_gt (slice_cmp nat_cmp x y) e) (no_gt (slice_cmp nat_cmp y z) f))

pub less_le : (x y z : List ℕ) → slice_cmp nat_cmp x y ≡ Less → is_le (slice_cmp nat_cmp y z) ≡ true → slice_cmp nat_cmp x z ≡ Less
less_le x y z e f = go (slice_cmp nat_cmp y z) refl f
  where
    go : (o : Ordering) → slice_cmp nat_cmp y z ≡ o → is_le o ≡ true → slice_cmp nat_cmp x z ≡ Less
    go Less is low = nat_list_cmp_total.trans x y z e is
    go Equal is low = sym (alike_right nat_list_cmp_total y z x is) ∙ e
    go Greater is low = absurd (false≢true low)

-- of two texts not both are below the other
pub never_both : (x y : List ℕ) → slice_cmp nat_cmp x y ≡ Less → is_le (slice_cmp nat_cmp y x) ≡ true → ⊥
never_both x y e f =
    false≢true (ap is_le (sym (nat_list_cmp_total.antisymm y x ∙ ap ordering_reverse e)) ∙ f)

-- ---- names that begin with a text

pub begins_itself : (text : List ℕ) → begins_with text text ≡ true
begins_itself text = ap (bytes_eq text) (take_all (length text) text (omega arith)) ∙ nat_list_eq_equiv.refl text

pub first_le : (a b : ℕ) (rest : Ordering) → is_le (ordering_then (nat_cmp a b) rest) ≡ true → a ≤ b
first_le a b rest h = go (nat_lt a b) refl (a == b) refl h
  where
    go : (p : Bool) → nat_lt a b ≡ p → (q : Bool) → (a == b) ≡ q → is_le (ordering_then (cond p Less (cond q Equal Greater)) rest) ≡ true → a ≤ b
    go true e q f h = grind (arith, nat_tests)
    go false e true f h = grind (arith, nat_tests)
    go false e false f h = absurd (false≢true h)

pub same_first : (a b : ℕ) → a ≡ b → nat_cmp a b ≡ Equal
same_first a b e = sym (nat_cmp_is a b Equal e)

-- a name that begins with a text is not below it
pub begins_le : (text name : List ℕ) → begins_with text name ≡ true → is_le (slice_cmp nat_cmp text name) ≡ true
begins_le [] [] e = refl
begins_le [] (n ∷ name) e = refl
begins_le (t ∷ text) [] e = absurd (false≢true e)
begins_le (t ∷ text) (n ∷ name) e = go (t == n) refl e (begins_le text name)
  where
    go : (s : Bool) → (t == n) ≡ s → (s && bytes_eq text (take (length text) name)) ≡ true
        → (begins_with text name ≡ true → is_le (slice_cmp nat_cmp text name) ≡ true)
        → is_le (ordering_then (nat_cmp t n) (slice_cmp nat_cmp text name)) ≡ true
    go true s e deeper =
        let same : t ≡ n = grind (arith, nat_tests) in
        rw (same_first t n same) (deeper e)
    go false s e deeper = absurd (false≢true e)

-- what begins with a text that begins with another one begins with that
pub begins_begins : (text middle name : List ℕ) → begins_with text middle ≡ true → begins_with middle name ≡ true → begins_with text name ≡ true
begins_begins [] middle name e f = refl
begins_begins (t ∷ text) [] name e f = absurd (false≢true e)
begins_begins (t ∷ text) (m ∷ middle) [] e f = absurd (false≢true f)
begins_begins (t ∷ text) (m ∷ middle) (n ∷ name) e f = go (t == m) refl e (m == n) refl f (begins_begins text middle name)
  where
    go : (s : Bool) → (t == m) ≡ s → (s && bytes_eq text (take (length text) middle)) ≡ true → (u : Bool) → (m == n) ≡ u
        → (u && bytes_eq middle (take (length middle) name)) ≡ true
        → (begins_with text middle ≡ true → begins_with middle name ≡ true → begins_with text name ≡ true)
        → ((t == n) && bytes_eq text (take (length text) name)) ≡ true
    go true s e true u f deeper =
        let one : t ≡ m = grind (arith, nat_tests) in
        let two : m ≡ n = grind (arith, nat_tests) in
        let same : (t == n) ≡ true = grind (arith, nat_tests) in
        rw same (deeper e f)
    go true s e false u f deeper = absurd (false≢true f)
    go false s e other u f deeper = absurd (false≢true e)

-- every name that begins with a text is below a text that is not below the first and does not begin with it
pub ahead_of : (text other : List ℕ) → is_le (slice_cmp nat_cmp text other) ≡ true → begins_with text other ≡ false → (name : List ℕ)
    → begins_with text name ≡ true → slice_cmp nat_cmp name other ≡ Less
ahead_of [] other low apart name under = absurd (true≢false apart)
ahead_of (t ∷ text) [] low apart name under = absurd (false≢true low)
ahead_of (t ∷ text) (o ∷ other) low apart [] under = absurd (false≢true under)
ahead_of (t ∷ text) (o ∷ other) low apart (n ∷ name) under =
    go (t == n) refl under (nat_lt t o) refl (t == o) refl low apart (λ l a u. ahead_of text other l a name u)
  where
    go : (s : Bool) → (t == n) ≡ s → (s && bytes_eq text (take (length text) name)) ≡ true → (p : Bool) → nat_lt t o ≡ p → (q : Bool) → (t == o) ≡ q
        → is_le (ordering_then (cond p Less (cond q Equal Greater)) (slice_cmp nat_cmp text other)) ≡ true
        → (q && bytes_eq text (take (length text) other)) ≡ false
        → (is_le (slice_cmp nat_cmp text other) ≡ true → begins_with text other ≡ false → begins_with text name ≡ true → slice_cmp nat_cmp name other ≡ Less)
        → ordering_then (nat_cmp n o) (slice_cmp nat_cmp name other) ≡ Less
    go false s e p is q f low apart deeper = absurd (false≢true e)
    go true s e true is q f low apart deeper =
        let same : t ≡ n = grind (arith, nat_tests) in
        let less : nat_cmp n o ≡ Less = subst (λ m. nat_cmp m o ≡ Less) same (ap (λ b. cond b Less (cond (t == o) Equal Greater)) is) in
        ap (λ c. ordering_then c (slice_cmp nat_cmp name other)) less
    go true s e false is true f low apart deeper =
        let same : t ≡ n = grind (arith, nat_tests) in
        let level : t ≡ o = grind (arith, nat_tests) in
        let equal : nat_cmp n o ≡ Equal = subst (λ m. nat_cmp m o ≡ Equal) same (same_first t o level) in
        ap (λ c. ordering_then c (slice_cmp nat_cmp name other)) equal ∙ deeper low apart e
    go true s e false is false f low apart deeper = absurd (false≢true low)

-- a name under a text is below a name under a later one
pub ahead_names : (text other name later : List ℕ) → IsAhead text other → begins_with text name ≡ true → begins_with other later ≡ true
    → slice_cmp nat_cmp name later ≡ Less
ahead_names text other name later ahead one two = less_le name other later (ahead name one) (begins_le other later two)

-- ---- a test of some members

pub any_none : {X : Type 0} (p : X → Bool) (xs : List X) → ((k : ℕ) (d : X) → k < length xs → p (get_or xs k d) ≡ false) → list_any p xs ≡ false
any_none p [] none = refl
any_none p (x ∷ xs) none =
    ap (λ t. t || list_any p xs) (none 0 x (omega arith)) ∙ any_none p xs (λ k d inside. none (suc k) d (omega arith))

pub any_one : {X : Type 0} (p : X → Bool) (xs : List X) (k : ℕ) (d : X) → k < length xs → p (get_or xs k d) ≡ true → list_any p xs ≡ true
any_one p [] k d inside passes = absurd (omega arith)
any_one p (x ∷ xs) zero d inside passes = ap (λ t. t || list_any p xs) passes
any_one p (x ∷ xs) (suc k) d inside passes = ap (λ t. p x || t) (any_one p xs k d (omega arith) passes) ∙ or_true (p x)
  where
    or_true : (t : Bool) → (t || true) ≡ true
    or_true true = refl
    or_true false = refl

-- ---- the place of a name among texts that are apart

none_after : (texts : List (List ℕ)) (name : List ℕ) (place : ℕ) → SplitsAt name texts place → (k : ℕ) (d : List ℕ) → place ≤ k → k < length texts
    → begins_with (get_or texts k d) name ≡ false
none_after texts name place splits k d above inside = go (begins_with (get_or texts k d) name) refl
  where
    go : (t : Bool) → begins_with (get_or texts k d) name ≡ t → t ≡ false
    go false e = refl
    go true e = absurd (true≢false (sym (begins_le (get_or texts k d) name e) ∙ splits.after k d above inside))

-- only the last text that is not above a name can be one with which it begins
pub split_first : (texts : List (List ℕ)) (name : List ℕ) → SplitsAt name texts 0 → is_under_one texts name ≡ false
split_first texts name splits =
    any_none (λ text. begins_with text name) texts (λ k d inside. none_after texts name 0 splits k d (omega arith) inside)

pub split_later : (texts : List (List ℕ)) (name : List ℕ) (place : ℕ) (none : List ℕ) → AreApart texts → SplitsAt name texts (suc place)
    → is_under_one texts name ≡ begins_with (get_or texts place none) name
split_later texts name place none apart splits = go (begins_with (get_or texts place none) name) refl
  where
    inside : place < length texts
    inside = let within = splits.inside in omega arith

    at_most : place < suc place
    at_most = omega arith

    go : (t : Bool) → begins_with (get_or texts place none) name ≡ t → is_under_one texts name ≡ t
    go true e = any_one (λ text. begins_with text name) texts place none inside e
    go false e = any_none (λ text. begins_with text name) texts other
      where
        before : (k : ℕ) (d : List ℕ) → k < place → (t : Bool) → begins_with (get_or texts k d) name ≡ t → t ≡ false
        before k d low false f = refl
        before k d low true f =
            absurd (never_both name (get_or texts place d) (apart k place d low inside name f) (splits.before place d at_most))

        at_place : (d : List ℕ) → begins_with (get_or texts place d) name ≡ false
        at_place d = ap (λ text. begins_with text name) (get_or_default texts place d none inside) ∙ e

        other : (k : ℕ) (d : List ℕ) → k < length texts → begins_with (get_or texts k d) name ≡ false
        other k d there = either (cases_lt k place) (cases_eq k place)
          where
            either : (k < place) ⊎ (place ≤ k) → (k ≡ place) ⊎ (k ≡ place → ⊥) → begins_with (get_or texts k d) name ≡ false
            either (inl low) same = before k d low (begins_with (get_or texts k d) name) refl
            either (inr high) (inl same) = ap (λ n. begins_with (get_or texts n d) name) same ∙ at_place d
            either (inr high) (inr apart) = none_after texts name (suc place) splits k d (omega arith) there
