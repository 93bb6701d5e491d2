-- Names that begin with a text, among names that rise.
use Rattle.std.proofs.Common.{◌≡◌, ℕ, zero, suc, ◌<◌, ◌≤◌, ◌==◌, ◌&&◌, ◌||◌, not, Bool, true, false, cond, List, [], ◌∷◌, length, take}
use Rattle.std.proofs.Common.{refl, sym, ◌∙◌, ap, subst, arith}
use Rattle.std.specs.Prelude.{filter, bytes_eq}
use Rattle.std.specs.List.{AllByRecursion, list_any}
use Rattle.std.specs.List.Sorted.{IsStrictlySortedBy}
use Rattle.std.specs.Ordering.{nat_cmp, is_le, ordering_then}
use Rattle.std.specs.Cmp.Lexicographic.{slice_cmp}
use Rattle.std.specs.Map.{keys_of}
use Rattle.std.specs.BTreeMap.Range.{range_contains, is_from_start, entries_between}
use Rattle.std.specs.declared.ops.Bound.{Bound}
use Rattle.std.specs.declared.ops.Bound.TheVariants.{Unbounded}
use Rattle.std.specs.declared.cmp.Ordering.TheVariants.{Less}
use Rattle.std.proofs.lemmas.Bool.{false≢true}
use Rattle.std.proofs.lemmas.Bool.Decides.{nat_tests}
use Rattle.std.proofs.lemmas.List.{length-take}
use Rattle.std.proofs.lemmas.List.Kept.{IsStrictlySortedBy-filter}
use Rattle.documents.specs.Text.{IsName, has_bad_byte, is_name_byte, greatest_name}
use Rattle.prefixes.specs.Under.{begins_with}
use Rattle.prefixes.proofs.UnderLemmas.{begins_le, first_le, same_first}
use Rattle.index.specs.Private.Chosen.{IsFirstUnder}
use Rattle.index.proofs.DocumentLemmas.{same_name}

-- ---- tests one after the other

pub filter_twice : {X : Type 0} (p q : X → Bool) (xs : List X) → filter q (filter p xs) ≡ filter (λ x. p x && q x) xs
filter_twice p q [] = refl
filter_twice p q (x ∷ xs) = go (p x) (filter_twice p q xs)
  where
    go : (t : Bool) → filter q (filter p xs) ≡ filter (λ x. p x && q x) xs
        → filter q (cond t (x ∷ filter p xs) (filter p xs))
        ≡ cond (t && q x) (x ∷ filter (λ x. p x && q x) xs) (filter (λ x. p x && q x) xs)
    go true e = ap (λ ys. cond (q x) (x ∷ ys) ys) e
    go false e = e

-- a test that another one implies, before it and after it
pub filter_before : {X : Type 0} (p f : X → Bool) → ((x : X) → p x ≡ true → f x ≡ true) → (xs : List X) → filter p (filter f xs) ≡ filter p xs
filter_before p f implied [] = refl
filter_before p f implied (x ∷ xs) = go (p x) refl (f x) refl (filter_before p f implied xs)
  where
    go : (t : Bool) → p x ≡ t → (u : Bool) → f x ≡ u → filter p (filter f xs) ≡ filter p xs
        → filter p (cond u (x ∷ filter f xs) (filter f xs)) ≡ cond t (x ∷ filter p xs) (filter p xs)
    go true e true g deeper = ap (λ s. cond s (x ∷ filter p (filter f xs)) (filter p (filter f xs))) e ∙ ap (λ ys. x ∷ ys) deeper
    go true e false g deeper = absurd (false≢true (sym g ∙ implied x e))
    go false e true g deeper = ap (λ s. cond s (x ∷ filter p (filter f xs)) (filter p (filter f xs))) e ∙ deeper
    go false e false g deeper = deeper

pub filter_after : {X : Type 0} (p f : X → Bool) → ((x : X) → p x ≡ true → f x ≡ true) → (xs : List X) → filter f (filter p xs) ≡ filter p xs
filter_after p f implied [] = refl
filter_after p f implied (x ∷ xs) = go (p x) refl (filter_after p f implied xs)
  where
    go : (t : Bool) → p x ≡ t → filter f (filter p xs) ≡ filter p xs
        → filter f (cond t (x ∷ filter p xs) (filter p xs)) ≡ cond t (x ∷ filter p xs) (filter p xs)
    go true e deeper = ap (λ s. cond s (x ∷ filter f (filter p xs)) (filter f (filter p xs))) (implied x e) ∙ ap (λ ys. x ∷ ys) deeper
    go false e deeper = deeper

-- ---- names that begin with a text

-- behind a name that is not below the text and does not begin with it, no name does
pub none_behind : (text a b : List ℕ) → is_le (slice_cmp nat_cmp text a) ≡ true → slice_cmp nat_cmp a b ≡ Less → begins_with text a ≡ false
    → begins_with text b ≡ false
none_behind [] a b low next other = absurd (false≢true (sym other))
none_behind (t ∷ text) [] b low next other = absurd (false≢true low)
none_behind (t ∷ text) (x ∷ a) [] low next other = refl
none_behind (t ∷ text) (x ∷ a) (y ∷ b) low next other = go (t == y) refl (none_behind text a b)
  where
    go : (s : Bool) → (t == y) ≡ s
        → (is_le (slice_cmp nat_cmp text a) ≡ true → slice_cmp nat_cmp a b ≡ Less → begins_with text a ≡ false → begins_with text b ≡ false)
        → (s && bytes_eq text (take (length text) b)) ≡ false
    go false s deeper = refl
    go true s deeper =
        let below : t ≤ x = first_le t x (slice_cmp nat_cmp text a) low in
        let above : x ≤ y = first_le x y (slice_cmp nat_cmp a b) (ap is_le next) in
        let same : t ≡ y = grind (arith, nat_tests) in
        let first : t ≡ x = omega arith in
        let second : x ≡ y = omega arith in
        let here : (t == x) ≡ true = grind (arith, nat_tests) in
        deeper
        (ap (λ o. is_le (ordering_then o (slice_cmp nat_cmp text a))) (sym (same_first t x first)) ∙ low)
        (ap (λ o. ordering_then o (slice_cmp nat_cmp a b)) (sym (same_first x y second)) ∙ next)
        (ap (λ u. u && bytes_eq text (take (length text) a)) (sym here) ∙ other)

begins_take : (text name : List ℕ) → begins_with text name ≡ true → text ≡ take (length text) name
begins_take text name e = same_name text (take (length text) name) e

pub none_too_long : (text : List ℕ) → greatest_name < length text → (name : List ℕ) → IsName name → begins_with text name ≡ false
none_too_long text long name is = go (begins_with text name) refl
  where
    go : (t : Bool) → begins_with text name ≡ t → t ≡ false
    go false e = refl
    go true e = let short = is.short in absurd (omega (arith, ap length (begins_take text name e), length-take (length text) name))

bad_take : (p : ℕ → Bool) (n : ℕ) (xs : List ℕ) → list_any p (take n xs) ≡ true → list_any p xs ≡ true
bad_take p zero xs e = absurd (false≢true e)
bad_take p (suc n) [] e = absurd (false≢true e)
bad_take p (suc n) (x ∷ xs) e = go (p x) e (bad_take p n xs)
  where
    go : (t : Bool) → (t || list_any p (take n xs)) ≡ true → (list_any p (take n xs) ≡ true → list_any p xs ≡ true) → (t || list_any p xs) ≡ true
    go true e deeper = refl
    go false e deeper = deeper e

pub none_bad : (text : List ℕ) → has_bad_byte text ≡ true → (name : List ℕ) → IsName name → begins_with text name ≡ false
none_bad text bad name is = go (begins_with text name) refl
  where
    go : (t : Bool) → begins_with text name ≡ t → t ≡ false
    go false e = refl
    go true e =
        let part : has_bad_byte (take (length text) name) ≡ true = ap has_bad_byte (sym (begins_take text name e)) ∙ bad in
        absurd (false≢true (sym is.printable ∙ bad_take (λ b. not (is_name_byte b)) (length text) name part))

pub first-empty : (text : List ℕ) → length text ≡ 0 → IsFirstUnder text Unbounded
first-empty [] none [] = refl
first-empty [] none (n ∷ name) = refl
first-empty (t ∷ text) none name = absurd (omega arith)

-- ---- the entries of names that begin with a text

-- entries that rise, none of them below the text
pub record Behind (text : List ℕ) (entries : List (List ℕ × ℕ)) : Type 0 where
  pub rise : IsStrictlySortedBy (slice_cmp nat_cmp) (keys_of entries)
  pub from : AllByRecursion (λ name. is_le (slice_cmp nat_cmp text name) ≡ true) (keys_of entries)

-- the names that begin with the text and have numbers that pass the test
abbrev pub picked : (ℕ → Bool) → List ℕ → List (List ℕ × ℕ) → List (List ℕ)
picked test text entries = keys_of (filter (λ e. test e.1 && begins_with text e.0) entries)

pub Behind-tail : (text : List ℕ) (left rest : List (List ℕ × ℕ)) (name : List ℕ) (number : ℕ) → left ≡ (name, number) ∷ rest → Behind text left
    → Behind text rest
unfolding IsStrictlySortedBy
Behind-tail text left rest name number next is =
    let whole : Behind text ((name, number) ∷ rest) = subst (Behind text) next is in
    record { rise = whole.rise.1; from = whole.from.1 }

none_picked : (test : ℕ → Bool) (text : List ℕ) (entries : List (List ℕ × ℕ))
    → AllByRecursion (λ name. begins_with text name ≡ false) (keys_of entries) → picked test text entries ≡ []
none_picked test text [] none = refl
none_picked test text (e ∷ entries) none = rw none.0 (go (test e.1) (none_picked test text entries none.1))
  where
    go : (t : Bool) → picked test text entries ≡ []
        → keys_of (cond (t && false) (e ∷ filter (λ x. test x.1 && begins_with text x.0) entries) (filter (λ x. test x.1 && begins_with text x.0) entries))
        ≡ []
    go true deeper = deeper
    go false deeper = deeper

-- at the first name that does not begin with the text, nothing is left
pub picked-none : (test : ℕ → Bool) (text : List ℕ) (left rest : List (List ℕ × ℕ)) (name : List ℕ) (number : ℕ) → left ≡ (name, number) ∷ rest
    → Behind text left → begins_with text name ≡ false → picked test text left ≡ []
unfolding IsStrictlySortedBy
picked-none test text left rest name number next is other =
    let whole : Behind text ((name, number) ∷ rest) = subst (Behind text) next is in
    ap (picked test text) next ∙ none_picked test text ((name, number) ∷ rest) (other, all rest whole.rise.0)
  where
    all : (es : List (List ℕ × ℕ)) → AllByRecursion (λ k. slice_cmp nat_cmp name k ≡ Less) (keys_of es)
        → AllByRecursion (λ k. begins_with text k ≡ false) (keys_of es)
    all [] above = tt
    all (e ∷ es) above =
        let whole : Behind text ((name, number) ∷ rest) = subst (Behind text) next is in
        (none_behind text name e.0 whole.from.0 above.0 other, all es above.1)

pub picked-keep : (test : ℕ → Bool) (text : List ℕ) (left rest : List (List ℕ × ℕ)) (name : List ℕ) (number : ℕ) → left ≡ (name, number) ∷ rest
    → test number ≡ true → begins_with text name ≡ true → picked test text left ≡ name ∷ picked test text rest
picked-keep test text left rest name number next passes begins =
    ap (picked test text) next
    ∙ ap (λ t. keys_of (cond t ((name, number) ∷ later) later)) (ap (λ t. t && begins_with text name) passes ∙ begins)
  where
    later : List (List ℕ × ℕ)
    later = filter (λ e. test e.1 && begins_with text e.0) rest

pub picked-skip : (test : ℕ → Bool) (text : List ℕ) (left rest : List (List ℕ × ℕ)) (name : List ℕ) (number : ℕ) → left ≡ (name, number) ∷ rest
    → test number ≡ false → picked test text left ≡ picked test text rest
picked-skip test text left rest name number next fails =
    ap (picked test text) next ∙ ap (λ t. keys_of (cond (t && begins_with text name) ((name, number) ∷ later) later)) fails
  where
    later : List (List ℕ × ℕ)
    later = filter (λ e. test e.1 && begins_with text e.0) rest

module _ (text : List ℕ) (first : Bound (List ℕ)) (is : IsFirstUnder text first) where
  abbrev inside : List ℕ → Bool
  inside = range_contains (slice_cmp nat_cmp) first Unbounded

  keys-inside : (entries : List (List ℕ × ℕ)) → keys_of (filter (λ e. inside e.0) entries) ≡ filter inside (keys_of entries)
  keys-inside [] = refl
  keys-inside (e ∷ entries) = go (inside e.0) (keys-inside entries)
    where
      go : (t : Bool) → keys_of (filter (λ x. inside x.0) entries) ≡ filter inside (keys_of entries)
          → keys_of (cond t (e ∷ filter (λ x. inside x.0) entries) (filter (λ x. inside x.0) entries))
          ≡ cond t (e.0 ∷ filter inside (keys_of entries)) (filter inside (keys_of entries))
      go true deeper = ap (λ ks. e.0 ∷ ks) deeper
      go false deeper = deeper

  inside-le : (name : List ℕ) → inside name ≡ is_le (slice_cmp nat_cmp text name)
  inside-le name = both (is_from_start (slice_cmp nat_cmp) first name) ∙ is name
    where
      both : (t : Bool) → (t && true) ≡ t
      both true = refl
      both false = refl

  from-first : (names : List (List ℕ)) → AllByRecursion (λ name. is_le (slice_cmp nat_cmp text name) ≡ true) (filter inside names)
  from-first [] = tt
  from-first (name ∷ names) = go (inside name) refl (from-first names)
    where
      go : (t : Bool) → inside name ≡ t → AllByRecursion (λ x. is_le (slice_cmp nat_cmp text x) ≡ true) (filter inside names)
          → AllByRecursion (λ x. is_le (slice_cmp nat_cmp text x) ≡ true) (cond t (name ∷ filter inside names) (filter inside names))
      go true e deeper = (sym (inside-le name) ∙ e, deeper)
      go false e deeper = deeper

  pub Behind-first : (entries left : List (List ℕ × ℕ)) → IsStrictlySortedBy (slice_cmp nat_cmp) (keys_of entries)
      → left ≡ entries_between (slice_cmp nat_cmp) first Unbounded entries → Behind text left
  Behind-first entries left sorted are =
      let keys : keys_of left ≡ filter inside (keys_of entries) = ap keys_of are ∙ keys-inside entries in
      record {
        rise = subst (IsStrictlySortedBy (slice_cmp nat_cmp)) (sym keys) (IsStrictlySortedBy-filter (slice_cmp nat_cmp) inside (keys_of entries) sorted);
        from = subst (AllByRecursion (λ name. is_le (slice_cmp nat_cmp text name) ≡ true)) (sym keys) (from-first (keys_of entries));
      }

  pub picked-first : (test : ℕ → Bool) (entries left : List (List ℕ × ℕ)) → left ≡ entries_between (slice_cmp nat_cmp) first Unbounded entries
      → picked test text left ≡ picked test text entries
  picked-first test entries left are =
      ap (picked test text) are
      ∙ ap keys_of (filter_before (λ e. test e.1 && begins_with text e.0) (λ e. inside e.0) (λ e h. inside-le e.0 ∙ begins_le text e.0 (second (test e.1) h)) entries)
    where
      second : (t : Bool) {u : Bool} → (t && u) ≡ true → u ≡ true
      second true h = h
      second false h = absurd (false≢true h)

  pub under-first : (entries left : List (List ℕ × ℕ)) → left ≡ entries_between (slice_cmp nat_cmp) first Unbounded entries
      → filter (λ e. begins_with text e.0) left ≡ filter (λ e. begins_with text e.0) entries
  under-first entries left are =
      ap (filter (λ e. begins_with text e.0)) are
      ∙ filter_before (λ e. begins_with text e.0) (λ e. inside e.0) (λ e h. inside-le e.0 ∙ begins_le text e.0 h) entries

-- at the first name that does not begin with the text, no entry is left
pub none_more : (text : List ℕ) (left rest : List (List ℕ × ℕ)) (name : List ℕ) (number : ℕ) → left ≡ (name, number) ∷ rest
    → Behind text left → begins_with text name ≡ false → filter (λ e. begins_with text e.0) left ≡ []
none_more text left rest name number next is other = no_keys (filter (λ e. begins_with text e.0) left) (picked-none (λ n. true) text left rest name number next is other)
  where
    no_keys : (es : List (List ℕ × ℕ)) → keys_of es ≡ [] → es ≡ []
    no_keys [] none = refl
    no_keys (e ∷ es) none = absurd (omega (arith, ap length none))
