-- Documents under one prefix after the other.
use Rattle.std.proofs.Common.{◌≡◌, ℕ, suc, ◌+◌, ◌-◌, ◌<◌, ◌≤◌, ◌&&◌, ◌||◌, ◌⊎◌, inl, inr, Bool, true, false, List, [], ◌∷◌, ◌++◌, map, length, take, get_or, Contains}
use Rattle.std.proofs.Common.{refl, sym, ◌∙◌, ap, subst, arith, append_assoc, length-append}
use Rattle.std.specs.Prelude.{filter}
use Rattle.std.specs.List.{AllByRecursion}
use Rattle.std.specs.List.Sorted.{IsStrictlySortedBy}
use Rattle.std.specs.Ordering.{nat_cmp}
use Rattle.std.specs.Cmp.Lexicographic.{slice_cmp}
use Rattle.std.specs.declared.alloc.Global.{Global}
use Rattle.std.specs.declared.cmp.Ordering.TheVariants.{Less}
use Rattle.std.specs.declared.vec.Vec.{Vec}
use Rattle.std.proofs.lemmas.Bool.{false≢true}
use Rattle.std.proofs.lemmas.List.{append-nil, get_or-map, length-map, length-take, get_or-take, take_all, take_more}
use Rattle.posting.specs.ListValue.{has}
use Rattle.prefixes.specs.Under.{begins_with, is_under_one}
use Rattle.prefixes.specs.Private.Apart.{AreApart, bytes_of}
use Rattle.prefixes.proofs.UnderLemmas.{ahead_names}
use Rattle.index.specs.Private.Numbered.{Document, is_chosen, is_picked, AreFirstInNameOrder, IsInNameOrder, RisesByName}
use Rattle.index.proofs.DocumentLemmas.{Contains-cons, Contains-head, Contains-tail, filter-Contains, Contains-filter}

-- ---- lists of documents, one after the other

below_all : List Document → Document → Type 0
below_all ys x = (y : Document) → Contains ys y → slice_cmp nat_cmp x.name y.name ≡ Less

pub above : (name : List ℕ) (xs ys : List Document) → AllByRecursion (λ n. slice_cmp nat_cmp name n ≡ Less) (map (λ d. d.name) xs)
    → ((y : Document) → Contains ys y → slice_cmp nat_cmp name y.name ≡ Less)
    → AllByRecursion (λ n. slice_cmp nat_cmp name n ≡ Less) (map (λ d. d.name) (xs ++ ys))
above name [] [] each below = tt
above name [] (y ∷ ys) each below = (below y (Contains-head y ys), above name [] ys tt (λ z there. below z (Contains-tail y ys z there)))
above name (x ∷ xs) ys each below = (each.0, above name xs ys each.1 below)

rises-both : (xs ys : List Document) → RisesByName xs → RisesByName ys
    → ((x y : Document) → Contains xs x → Contains ys y → slice_cmp nat_cmp x.name y.name ≡ Less) → RisesByName (xs ++ ys)
unfolding IsStrictlySortedBy
rises-both [] ys one two below = two
rises-both (x ∷ xs) ys one two below = (
  above x.name xs ys one.0 (λ y there. below x y (Contains-head x xs) there),
  rises-both xs ys one.1 two (λ a b here there. below a b (Contains-tail x xs a here) there),
)

pub Contains-left : (xs ys : List Document) (d : Document) → Contains xs d → Contains (xs ++ ys) d
Contains-left [] ys d h = absurd (omega (arith, h.1))
Contains-left (x ∷ xs) ys d h =
    elim (Contains-cons x xs d h) [
      | inl is ↦ subst (λ e. Contains (x ∷ (xs ++ ys)) e) is (Contains-head x (xs ++ ys))
      | inr rest ↦ Contains-tail x (xs ++ ys) d (Contains-left xs ys d rest)
    ]

Contains-right : (xs ys : List Document) (d : Document) → Contains ys d → Contains (xs ++ ys) d
Contains-right [] ys d h = h
Contains-right (x ∷ xs) ys d h = Contains-tail x (xs ++ ys) d (Contains-right xs ys d h)

either-Contains : (xs ys : List Document) (d : Document) → Contains (xs ++ ys) d → Contains xs d ⊎ Contains ys d
either-Contains [] ys d h = inr h
either-Contains (x ∷ xs) ys d h =
    elim (Contains-cons x (xs ++ ys) d h) [
      | inl is ↦ inl (subst (λ e. Contains (x ∷ xs) e) is (Contains-head x xs))
      | inr rest ↦ elim (either-Contains xs ys d rest) [ inl here ↦ inl (Contains-tail x xs d here) | inr there ↦ inr there ]
    ]

-- ---- documents that pass one test or another one

both_true : (s t : Bool) → (s && t) ≡ true → (s ≡ true) × (t ≡ true)
both_true true t e = (refl, e)
both_true false t e = absurd (false≢true e)

or_either : (s t : Bool) → (s || t) ≡ true → (s ≡ true) ⊎ (t ≡ true)
or_either true t e = inl refl
or_either false t e = inr e

or_right : (s t : Bool) → t ≡ true → (s || t) ≡ true
or_right true t e = refl
or_right false t e = e

-- the documents that pass the first test come before those that pass the second
pub in_order_both : (ds xs ys : List Document) (p q r : Document → Bool) → IsInNameOrder (filter p ds) xs → IsInNameOrder (filter q ds) ys
    → ((d : Document) → p d ≡ true → r d ≡ true) → ((d : Document) → q d ≡ true → r d ≡ true)
    → ((d : Document) → r d ≡ true → (p d ≡ true) ⊎ (q d ≡ true))
    → ((x y : Document) → p x ≡ true → q y ≡ true → slice_cmp nat_cmp x.name y.name ≡ Less) → IsInNameOrder (filter r ds) (xs ++ ys)
in_order_both ds xs ys p q r one two first second either below = record {
  rises =
      rises-both xs ys one.rises two.rises (λ x y here there.
      below x y (filter-Contains p ds x ((one.same x).0 here)).1 (filter-Contains q ds y ((two.same y).0 there)).1);
  same = λ d. (
    λ h.
        elim (either-Contains xs ys d h) [
          | inl here ↦ (let at = filter-Contains p ds d ((one.same d).0 here) in Contains-filter r ds d at.0 (first d at.1))
          | inr there ↦ (let at = filter-Contains q ds d ((two.same d).0 there) in Contains-filter r ds d at.0 (second d at.1))
        ],
    λ h.
        (let at = filter-Contains r ds d h in
        elim (either d at.1) [
          | inl here ↦ Contains-left xs ys d ((one.same d).1 (Contains-filter p ds d at.0 here))
          | inr there ↦ Contains-right xs ys d ((two.same d).1 (Contains-filter q ds d at.0 there))
        ]),
  );
}

-- ---- one prefix after the other

any_at : (texts : List (List ℕ)) (name : List ℕ) → is_under_one texts name ≡ true
    → (k : ℕ) × (k < length texts) × (begins_with (get_or texts k []) name ≡ true)
any_at [] name e = absurd (false≢true e)
any_at (text ∷ texts) name e =
    elim (or_either (begins_with text name) (is_under_one texts name) e) [
      | inl here ↦ (0, omega arith, here)
      | inr later ↦ (let at = any_at texts name later in (at.0 + 1, omega (arith, at.1), next at.0 at.2))
    ]
  where
    next : (k : ℕ) → begins_with (get_or texts k []) name ≡ true → begins_with (get_or (text ∷ texts) (k + 1) []) name ≡ true
    next k h = let is : k + 1 ≡ suc k = omega arith in subst (λ n. begins_with (get_or (text ∷ texts) n []) name ≡ true) (sym is) h

any_append : (texts : List (List ℕ)) (text name : List ℕ) → is_under_one (texts ++ text ∷ []) name ≡ (is_under_one texts name || begins_with text name)
any_append [] text name = or_none (begins_with text name)
  where
    or_none : (t : Bool) → (t || false) ≡ t
    or_none true = refl
    or_none false = refl
any_append (first ∷ texts) text name =
    ap (λ t. begins_with first name || t) (any_append texts text name)
    ∙ or_assoc (begins_with first name) (is_under_one texts name) (begins_with text name)
  where
    or_assoc : (a b c : Bool) → (a || (b || c)) ≡ ((a || b) || c)
    or_assoc true b c = refl
    or_assoc false b c = refl

-- The documents are the first ones whose names begin with one of the first so many texts.
abbrev pub AreUnderFirst : ℕ → List Document → List ℕ → List (Vec ℕ Global) → ℕ → List Document → Type 0
AreUnderFirst most ds members items at taken = AreFirstInNameOrder most (filter (is_chosen members (take at (bytes_of items))) ds) taken

pub under-none : (most : ℕ) (ds : List Document) (members : List ℕ) (items : List (Vec ℕ Global)) (taken : List Document) → taken ≡ []
    → AreUnderFirst most ds members items 0 taken
unfolding IsStrictlySortedBy
under-none most ds members items taken none =
    subst (AreUnderFirst most ds members items 0) (sym none) (record {
      others = [];
      in_order =
          subst (λ xs. IsInNameOrder xs []) (sym (nothing ds)) (record { rises = tt; same = λ d. (λ h. h, λ h. h) });
      all_or_most = λ fewer. refl;
    })
  where
    and_no : (t : Bool) → (t && false) ≡ false
    and_no true = refl
    and_no false = refl

    nothing : (ds : List Document) → filter (is_chosen members []) ds ≡ []
    nothing [] = refl
    nothing (d ∷ ds) = rw (and_no (has members d.number)) (nothing ds)

module _ (most : ℕ) (ds : List Document) (members : List ℕ) (items : List (Vec ℕ Global)) (at : ℕ) (text : List ℕ) (apart : AreApart (bytes_of items))
    (inside : at < length (bytes_of items)) (is : get_or (bytes_of items) at [] ≡ text) where
  abbrev p : Document → Bool
  p = is_chosen members (take at (bytes_of items))

  abbrev q : Document → Bool
  q = is_picked members text

  abbrev r : Document → Bool
  r = is_chosen members (take (at + 1) (bytes_of items))

  one_more : (name : List ℕ) → is_under_one (take (at + 1) (bytes_of items)) name ≡ (is_under_one (take at (bytes_of items)) name || begins_with text name)
  one_more name =
      ap (λ ts. is_under_one ts name) (take_more (bytes_of items) at [] inside ∙ ap (λ t. take at (bytes_of items) ++ t ∷ []) is)
      ∙ any_append (take at (bytes_of items)) text name

  below : (x y : Document) → p x ≡ true → q y ≡ true → slice_cmp nat_cmp x.name y.name ≡ Less
  below x y e f =
      let there = any_at (take at (bytes_of items)) x.name (both_true (has members x.number) (is_under_one (take at (bytes_of items)) x.name) e).1 in
      let low : there.0 < at = omega (arith, there.1, length-take at (bytes_of items)) in
      ahead_names (get_or (bytes_of items) there.0 []) text x.name y.name
      (subst (λ t. (name : List ℕ) → begins_with (get_or (bytes_of items) there.0 []) name ≡ true → slice_cmp nat_cmp name t ≡ Less) is (apart there.0 at [] low inside))
      (subst (λ t. begins_with t x.name ≡ true) (get_or-take at (bytes_of items) there.0 [] low) there.2)
      (both_true (has members y.number) (begins_with text y.name) f).1

  joined_order : (xs ys : List Document) → IsInNameOrder (filter p ds) xs → IsInNameOrder (filter q ds) ys → IsInNameOrder (filter r ds) (xs ++ ys)
  joined_order xs ys one two =
      in_order_both ds xs ys p q r one two
      (λ d e.
      (let both = both_true (has members d.number) (is_under_one (take at (bytes_of items)) d.name) e in
      rw both.0 (one_more d.name ∙ ap (λ t. t || begins_with text d.name) both.1)))
      (λ d e.
      (let both = both_true (has members d.number) (begins_with text d.name) e in
      rw both.0 (one_more d.name ∙ or_right (is_under_one (take at (bytes_of items)) d.name) (begins_with text d.name) both.1)))
      (λ d e.
      (let both = both_true (has members d.number) (is_under_one (take (at + 1) (bytes_of items)) d.name) e in
      elim (or_either (is_under_one (take at (bytes_of items)) d.name) (begins_with text d.name) (sym (one_more d.name) ∙ both.1)) [
        | inl here ↦ inl (ap (λ t. t && is_under_one (take at (bytes_of items)) d.name) both.0 ∙ here)
        | inr there ↦ inr (ap (λ t. t && begins_with text d.name) both.0 ∙ there)
      ])) below

  pub under-more : (old part new : List Document) → length old < most → AreUnderFirst most ds members items at old
      → AreFirstInNameOrder (most - length old) (filter q ds) part → new ≡ old ++ part → AreUnderFirst most ds members items (at + 1) new
  under-more old part new room before next grown =
      let whole = before.all_or_most room in
      let order : IsInNameOrder (filter p ds) old =
      subst (IsInNameOrder (filter p ds)) (ap (λ xs. old ++ xs) whole ∙ append-nil old) before.in_order in
      subst (AreUnderFirst most ds members items (at + 1)) (sym grown) (record {
        others = next.others;
        in_order =
            subst (IsInNameOrder (filter r ds)) (sym (append_assoc old part next.others)) (joined_order old (part ++ next.others) order next.in_order);
        all_or_most = λ fewer. next.all_or_most (omega (arith, fewer, length-append old part));
      })

  pub under-full : (old : List Document) → most ≤ length old → ((s : Document → Bool) → (ordered : List Document) × IsInNameOrder (filter s ds) ordered)
      → AreUnderFirst most ds members items at old → AreUnderFirst most ds members items (at + 1) old
  under-full old full ordered before =
      let later = ordered q in
      record {
        others = before.others ++ later.0;
        in_order =
            subst (IsInNameOrder (filter r ds)) (append_assoc old before.others later.0)
            (joined_order (old ++ before.others) later.0 before.in_order later.1);
        all_or_most = λ fewer. absurd (omega arith);
      }

pub under-all : (most : ℕ) (ds : List Document) (members : List ℕ) (items : List (Vec ℕ Global)) (at : ℕ) (texts : List (List ℕ)) (taken : List Document)
    → length items ≤ at → bytes_of items ≡ texts → AreUnderFirst most ds members items at taken
    → AreFirstInNameOrder most (filter (is_chosen members texts) ds) taken
under-all most ds members items at texts taken past are before =
    subst (λ ts. AreFirstInNameOrder most (filter (is_chosen members ts) ds) taken)
    (take_all at (bytes_of items) (omega (arith, past, length-map items (λ t. t.items))) ∙ are) before

pub apart_texts : (items : List (Vec ℕ Global)) (texts : List (List ℕ)) → bytes_of items ≡ texts → AreApart texts → AreApart (bytes_of items)
apart_texts items texts are apart = subst AreApart (sym are) apart

pub place_of : (items : List (Vec ℕ Global)) (at : ℕ) (text : Vec ℕ Global) → at < length items → text ≡ get_or items at text
    → (at < length (bytes_of items)) × (get_or (bytes_of items) at [] ≡ text.items)
place_of items at text inside is = (
  omega (arith, inside, length-map items (λ t. t.items)),
  get_or-map (λ t. t.items) items at text [] inside ∙ ap (λ (t : Vec ℕ Global). t.items) (sym is),
)

-- what was picked, where the text and the numbers are those of another place
pub part_of : (most left : ℕ) (ds part : List Document) (among members text prefix : List ℕ) → left ≡ most → among ≡ members → text ≡ prefix
    → AreFirstInNameOrder left (filter (is_picked among text) ds) part → AreFirstInNameOrder most (filter (is_picked members prefix) ds) part
part_of most left ds part among members text prefix same are is first =
    subst (λ m. AreFirstInNameOrder m (filter (is_picked members prefix) ds) part) same
    (subst (λ ms. AreFirstInNameOrder left (filter (is_picked ms prefix) ds) part) are
    (subst (λ t. AreFirstInNameOrder left (filter (is_picked among t) ds) part) is first))
