-- Texts that are sorted, and those of them that are kept.
use Rattle.std.proofs.Common.{◌≡◌, ℕ, suc, ◌+◌, ◌-◌, ◌<◌, ◌≤◌, ◌==◌, ◌||◌, Bool, true, false, List, [], ◌∷◌, ◌++◌, length, map, take, get_or}
use Rattle.std.proofs.Common.{Bor, Some, None, refl, sym, ◌∙◌, ap, subst, arith, inl, inr, length-append}
use Rattle.std.specs.Prelude.{slice_get}
use Rattle.std.specs.List.{All, list_any}
use Rattle.std.specs.List.Sorted.{IsPermutation, IsSortedBy}
use Rattle.std.specs.Cmp.{both_ways}
use Rattle.std.specs.Ordering.{nat_cmp, is_le, is_lt, ordering_reverse}
use Rattle.std.specs.Cmp.Lexicographic.{slice_cmp, nat_list_cmp_total}
use Rattle.std.specs.declared.alloc.Global.{Global}
use Rattle.std.specs.declared.cmp.Ordering.{Ordering}
use Rattle.std.specs.declared.cmp.Ordering.TheVariants.{Less, Equal, Greater}
use Rattle.std.specs.declared.vec.Vec.{Vec}
use Rattle.std.proofs.lemmas.Bool.{cases_lt, false≢true, true≢false}
use Rattle.std.proofs.lemmas.Bool.Decides.{nat_tests}
use Rattle.std.proofs.lemmas.List.{get_or-map, get_or_default, length-map, map-append, take_all, take_more}
use Rattle.std.proofs.lemmas.List.Elements.{All-get_or, All-push}
use Rattle.std.proofs.lemmas.List.Quantifiers.{all_pairs_push}
use Rattle.std.proofs.lemmas.List.Sorted.{IsPermutation-map, list_any-IsPermutation, ranks_by, sorted_far}
use Rattle.std.proofs.lemmas.Option.{get_or_from_slice_get, slice_get-get_or, slice_get_within}
use Rattle.prefixes.specs.Under.{begins_with, is_under_one}
use Rattle.prefixes.specs.Private.Apart.{Adds, AreApart, IsAhead, Rise, SplitsAt, bytes_of}
use Rattle.prefixes.proofs.UnderLemmas.{ahead_of, any_one, begins_begins, begins_itself, le_le, less_le, split_first, split_later}

any_append : {X : Type 0} (p : X → Bool) (xs ys : List X) → list_any p (xs ++ ys) ≡ (list_any p xs || list_any p ys)
any_append p [] ys = refl
any_append p (x ∷ xs) ys = ap (λ t. p x || t) (any_append p xs ys) ∙ or_assoc (p x) (list_any p xs) (list_any p ys)
  where
    or_assoc : (t u v : Bool) → (t || (u || v)) ≡ ((t || u) || v)
    or_assoc true u v = refl
    or_assoc false u v = refl

or_either : (s t : Bool) → (s || t) ≡ true → (s ≡ false) → t ≡ true
or_either true t e f = absurd (false≢true (sym f ∙ e))
or_either false t e f = e

-- a text that begins with one of the others adds no name
pub covered : (text : List ℕ) (old : List (List ℕ)) (k : ℕ) (d : List ℕ) → k < length old → begins_with (get_or old k d) text ≡ true → Adds text old old
covered text old k d inside under = record {
  apart = λ apart low. apart;
  low = λ later above low. low;
  names = λ name. both_ways (is_under_one old name) (is_under_one (old ++ text ∷ []) name)
      (λ e. any_append (λ t. begins_with t name) old (text ∷ []) ∙ ap (λ t. t || list_any (λ t. begins_with t name) (text ∷ [])) e)
      (λ e. back name (is_under_one old name) refl (sym (any_append (λ t. begins_with t name) old (text ∷ [])) ∙ e));
  some = omega arith;
}
  where
    or_none : (t : Bool) → (t || false) ≡ t
    or_none true = refl
    or_none false = refl

    back : (name : List ℕ) (t : Bool) → is_under_one old name ≡ t → (is_under_one old name || (begins_with text name || false)) ≡ true
        → is_under_one old name ≡ true
    back name true is e = is
    back name false is e =
        any_one (λ t. begins_with t name) old k d inside
        (begins_begins (get_or old k d) text name under
        (sym (or_none (begins_with text name)) ∙ or_either (is_under_one old name) (begins_with text name || false) e is))

-- a text that does not begin with the last one, which it is not below
pub added : (text : List ℕ) (old : List (List ℕ)) (k : ℕ) (d : List ℕ) → length old ≡ k + 1 → begins_with (get_or old k d) text ≡ false
    → Adds text old (old ++ text ∷ [])
added text old k d size other = record {
  apart = λ apart low. all_pairs_push IsAhead old text apart (λ i e inside. each apart low i e inside);
  low = λ later above low. All-push (λ earlier. is_le (slice_cmp nat_cmp earlier later) ≡ true) old text low above;
  names = λ name. refl;
  some = omega (arith, length-append old (text ∷ []));
}
  where
    last : AreApart old → All (λ earlier. is_le (slice_cmp nat_cmp earlier text) ≡ true) old → IsAhead (get_or old k d) text
    last apart low =
        ahead_of (get_or old k d) text (All-get_or (λ earlier. is_le (slice_cmp nat_cmp earlier text) ≡ true) old k d (omega arith) low) other

    each : AreApart old → All (λ earlier. is_le (slice_cmp nat_cmp earlier text) ≡ true) old → (i : ℕ) (e : List ℕ) → i < length old
        → IsAhead (get_or old i e) text
    each apart low i e inside =
        elim (cases_lt i k) [
          | inl below ↦ (λ name under.
              less_le name (get_or old k e) text (apart i k e below (omega arith) name under)
              (All-get_or (λ earlier. is_le (slice_cmp nat_cmp earlier text) ≡ true) old k e (omega arith) low))
          | inr above ↦ (let same : i ≡ k = omega arith in
              subst (λ t. IsAhead t text) (get_or_default old k d e (omega arith) ∙ ap (λ n. get_or old n e) (sym same)) (last apart low))
        ]

pub added_first : (text : List ℕ) (old : List (List ℕ)) → length old ≡ 0 → Adds text old (old ++ text ∷ [])
added_first text [] none = record {
  apart = λ apart low i j d before inside. absurd (omega arith);
  low = λ later above low. All-push (λ earlier. is_le (slice_cmp nat_cmp earlier later) ≡ true) [] text low above;
  names = λ name. refl;
  some = omega arith;
}
added_first text (first ∷ old) none = absurd (omega arith)

-- ---- the texts of vectors

none_there : {X : Type 0} (xs : List X) → None ≡ slice_get xs (length xs - 1) → length xs ≡ 0
none_there [] e = refl
none_there (x ∷ xs) e = let there : slice_get (x ∷ xs) (length (x ∷ xs) - 1) ≡ Some _ = slice_get-get_or (x ∷ xs) (length (x ∷ xs) - 1) x (omega arith) in cc

pub covered_by_last : (items : List (Vec ℕ Global)) (last : Vec ℕ Global) (text : List ℕ) → Some last ≡ slice_get items (length items - 1)
    → begins_with last.items text ≡ true → Adds text (bytes_of items) (bytes_of items)
covered_by_last items last text there under =
    let inside = slice_get_within items (length items - 1) last (sym there) in
    let is = get_or_from_slice_get items (length items - 1) last last (sym there) in
    covered text (bytes_of items) (length items - 1) [] (omega (arith, inside, length-map items (λ t. t.items)))
    (ap (λ t. begins_with t text) (get_or-map (λ t. t.items) items (length items - 1) last [] inside ∙ ap (λ t. t.items) is) ∙ under)

pub added_after_last : (items : List (Vec ℕ Global)) (last : Vec ℕ Global) (text : List ℕ) → Some last ≡ slice_get items (length items - 1)
    → begins_with last.items text ≡ false → Adds text (bytes_of items) (bytes_of items ++ text ∷ [])
added_after_last items last text there other =
    let inside = slice_get_within items (length items - 1) last (sym there) in
    let is = get_or_from_slice_get items (length items - 1) last last (sym there) in
    added text (bytes_of items) (length items - 1) [] (omega (arith, inside, length-map items (λ t. t.items)))
    (ap (λ t. begins_with t text) (get_or-map (λ t. t.items) items (length items - 1) last [] inside ∙ ap (λ t. t.items) is) ∙ other)

pub added_to_none : (items : List (Vec ℕ Global)) (text : List ℕ) → None ≡ slice_get items (length items - 1)
    → Adds text (bytes_of items) (bytes_of items ++ text ∷ [])
added_to_none items text none =
    added_first text (bytes_of items) (length-map items (λ t. t.items) ∙ none_there items none)

pub bytes_of-push : (items new : List (Vec ℕ Global)) (text : Vec ℕ Global) (bytes : List ℕ) → new ≡ items ++ text ∷ [] → text.items ≡ bytes
    → bytes_of new ≡ bytes_of items ++ bytes ∷ []
bytes_of-push items new text bytes grown is =
    ap bytes_of grown ∙ (map-append (λ t. t.items) items (text ∷ []) ∙ ap (λ t. bytes_of items ++ t ∷ []) is)

-- ---- all texts, once they are sorted

abbrev pub texts_at : List (Bor (List ℕ)) → List (List ℕ)
texts_at texts = map (λ text. text.now) texts

abbrev pub Rising : List (Bor (List ℕ)) → Type 0
Rising texts = (i j : ℕ) (d : Bor (List ℕ)) → i ≤ j → j < length texts → is_le (slice_cmp nat_cmp (get_or texts i d).now (get_or texts j d).now) ≡ true

pub rising_sorted : (texts : List (Bor (List ℕ))) → IsSortedBy (λ x y. is_lt (slice_cmp nat_cmp x.now y.now)) texts → Rising texts
rising_sorted texts sorted i j d order inside =
    low (get_or texts i d).now (get_or texts j d).now (sorted_far (λ x y. is_lt (slice_cmp nat_cmp x.now y.now)) (ranks_by nat_list_cmp_total (λ s. s.now)) texts sorted i j d order inside)
  where
    turned : (o : Ordering) → is_lt o ≡ false → is_le (ordering_reverse o) ≡ true
    turned Less e = absurd (true≢false e)
    turned Equal e = refl
    turned Greater e = refl

    low : (x y : List ℕ) → is_lt (slice_cmp nat_cmp y x) ≡ false → is_le (slice_cmp nat_cmp x y) ≡ true
    low x y e = ap is_le (nat_list_cmp_total.antisymm x y) ∙ turned (slice_cmp nat_cmp y x) e

-- what is kept of the first so many of the sorted texts
pub record Keeps (texts : List (Bor (List ℕ))) (at : ℕ) (kept : List (List ℕ)) : Type 0 where
  pub apart : AreApart kept
  pub low : (k : ℕ) (d : Bor (List ℕ)) → at ≤ k → k < length texts → All (λ earlier. is_le (slice_cmp nat_cmp earlier (get_or texts k d).now) ≡ true) kept
  pub names : (name : List ℕ) → is_under_one kept name ≡ is_under_one (texts_at (take at texts)) name
  pub none : (length kept == 0) ≡ (at == 0)

pub keeps_none : (texts : List (Bor (List ℕ))) (kept : List (List ℕ)) → kept ≡ [] → Keeps texts 0 kept
keeps_none texts kept is = rw is (record {
  apart = λ i j d before inside. absurd (omega arith);
  low = λ k d above inside i e there. absurd (omega arith);
  names = λ name. refl;
  none = refl;
})

pub keeps_more : (texts : List (Bor (List ℕ))) (at : ℕ) (none : Bor (List ℕ)) (old new : List (List ℕ)) → Rising texts → at < length texts
    → Adds (get_or texts at none).now old new → Keeps texts at old → Keeps texts (at + 1) new
keeps_more texts at none old new rising inside adds keeps = record {
  apart = adds.apart keeps.apart (keeps.low at none (omega arith) inside);
  low = λ k d above there.
      adds.low (get_or texts k d).now
      (subst (λ t. is_le (slice_cmp nat_cmp t.now (get_or texts k d).now) ≡ true) (get_or_default texts at d none inside) (rising at k d (omega arith) there))
      (keeps.low k d (omega arith) there);
  names = λ name.
      adds.names name
      ∙ (any_append (λ t. begins_with t name) old (text ∷ [])
      ∙ (ap (λ t. t || is_under_one (text ∷ []) name) (keeps.names name)
      ∙ (sym (any_append (λ t. begins_with t name) (texts_at (take at texts)) (text ∷ [])) ∙ ap (λ ts. is_under_one ts name) (sym grown))));
  none = both (length new) adds.some;
}
  where
    text : List ℕ
    text = (get_or texts at none).now

    grown : texts_at (take (at + 1) texts) ≡ texts_at (take at texts) ++ text ∷ []
    grown = ap texts_at (take_more texts at none inside) ∙ map-append (λ t. t.now) (take at texts) (get_or texts at none ∷ [])

    both : (n : ℕ) → 0 < n → (n == 0) ≡ (at + 1 == 0)
    both n some =
        let one : (n == 0) ≡ false = grind (arith, nat_tests) in
        let two : (at + 1 == 0) ≡ false = grind (arith, nat_tests) in
        one ∙ sym two

pub keeps_all : (given sorted : List (Bor (List ℕ))) (at : ℕ) (kept : List (List ℕ)) → IsPermutation given sorted → length sorted ≤ at → Keeps sorted at kept
    → (name : List ℕ) → is_under_one kept name ≡ is_under_one (texts_at given) name
keeps_all given sorted at kept same past keeps name =
    keeps.names name
    ∙ (ap (λ ts. is_under_one (texts_at ts) name) (take_all at sorted past)
    ∙ sym (list_any-IsPermutation (λ t. begins_with t name) (texts_at given) (texts_at sorted) (IsPermutation-map (λ t. t.now) given sorted same)))

-- ---- the place of a name

pub record Splitting (name : List ℕ) (texts : List (List ℕ)) (low high : ℕ) : Type 0 where
  pub order : low ≤ high
  pub inside : high ≤ length texts
  pub before : (k : ℕ) (d : List ℕ) → k < low → is_le (slice_cmp nat_cmp (get_or texts k d) name) ≡ true
  pub after : (k : ℕ) (d : List ℕ) → high ≤ k → k < length texts → is_le (slice_cmp nat_cmp (get_or texts k d) name) ≡ false

module _ (name : List ℕ) (texts : List (List ℕ)) (rise : Rise texts) (low high middle : ℕ) (from : low ≤ middle) (to : middle < high)
    (text : List ℕ) (is : get_or texts middle text ≡ text) (splits : Splitting name texts low high) where
  here : (d : List ℕ) → get_or texts middle d ≡ text
  here d = let within = splits.inside in get_or_default texts middle d text (omega arith) ∙ is

  pub split_low : is_le (slice_cmp nat_cmp text name) ≡ true → Splitting name texts (middle + 1) high
  split_low below = record {
    order = omega arith;
    inside = splits.inside;
    before = λ k d less. elim (cases_lt k middle) [
      | inl under ↦ (let within = splits.inside in
          le_le (get_or texts k d) text name
          (ap is_le (ap (λ t. slice_cmp nat_cmp (get_or texts k d) t) (sym (here d)) ∙ rise k middle d under (omega arith))) below)
      | inr over ↦ (let same : k ≡ middle = omega arith in
          ap (λ t. is_le (slice_cmp nat_cmp t name)) (ap (λ n. get_or texts n d) same ∙ here d) ∙ below)
    ];
    after = splits.after;
  }

  pub split_high : is_le (slice_cmp nat_cmp text name) ≡ false → Splitting name texts low middle
  split_high above = record {
    order = from;
    inside = (let within = splits.inside in omega arith);
    before = splits.before;
    after = λ k d least there. elim (cases_lt middle k) [
      | inl under ↦ none k d (is_le (slice_cmp nat_cmp (get_or texts k d) name)) refl
          (ap is_le (ap (λ t. slice_cmp nat_cmp t (get_or texts k d)) (sym (here d)) ∙ rise middle k d under there))
      | inr over ↦ (let same : k ≡ middle = omega arith in
          ap (λ t. is_le (slice_cmp nat_cmp t name)) (ap (λ n. get_or texts n d) same ∙ here d) ∙ above)
    ];
  }
    where
      none : (k : ℕ) (d : List ℕ) (t : Bool) → is_le (slice_cmp nat_cmp (get_or texts k d) name) ≡ t
          → is_le (slice_cmp nat_cmp text (get_or texts k d)) ≡ true → t ≡ false
      none k d false e f = refl
      none k d true e f = absurd (true≢false (sym (le_le text (get_or texts k d) name f e) ∙ above))

pub apart_rise : (texts : List (List ℕ)) → AreApart texts → Rise texts
apart_rise texts apart i j d before inside = apart i j d before inside (get_or texts i d) (begins_itself (get_or texts i d))

-- ---- whether a name begins with one of them

pub under_none : (texts : List (List ℕ)) (name : List ℕ) (place : ℕ) → SplitsAt name texts place → place ≡ 0 → false ≡ is_under_one texts name
under_none texts name place splits is = sym (split_first texts name (subst (SplitsAt name texts) is splits))

pub under_last : (items : List (Vec ℕ Global)) (name : List ℕ) (place : ℕ) (text : Vec ℕ Global) → AreApart (bytes_of items)
    → SplitsAt name (bytes_of items) place → 0 < place → text ≡ get_or items (place - 1) text
    → begins_with text.items name ≡ is_under_one (bytes_of items) name
under_last items name place text apart splits some is =
    let within = splits.inside in
    let next : place ≡ suc (place - 1) = omega arith in
    let inside : place - 1 < length items = omega (arith, length-map items (λ t. t.items)) in
    sym (split_later (bytes_of items) name (place - 1) [] apart (subst (SplitsAt name (bytes_of items)) next splits)
    ∙ ap (λ t. begins_with t name) (get_or-map (λ t. t.items) items (place - 1) text [] inside ∙ ap (λ t. t.items) (sym is)))

pub text_there : (items : List (Vec ℕ Global)) (place : ℕ) (text : Vec ℕ Global) (bytes : List ℕ) → place < length (bytes_of items) → text ≡ get_or items place text
    → bytes ≡ text.items → get_or (bytes_of items) place bytes ≡ bytes
text_there items place text bytes inside is same =
    get_or-map (λ t. t.items) items place text bytes (omega (arith, inside, length-map items (λ t. t.items))) ∙ (ap (λ t. t.items) (sym is) ∙ sym same)
