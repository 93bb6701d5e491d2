-- Names that begin with a text, among the names of a set.
use Rattle.std.proofs.Common.{◌≡◌, ℕ, Bool, true, false, not, ◌&&◌, ◌||◌, cond, List, [], ◌∷◌, ◌++◌, refl, sym, ap, ◌∙◌, append_assoc}
use Rattle.std.specs.Prelude.{bytes_eq, filter}
use Rattle.std.specs.List.{list_any, take_while, AllByRecursion}
use Rattle.std.specs.List.Sorted.{IsStrictlySortedBy}
use Rattle.std.specs.Ordering.{nat_cmp, is_le}
use Rattle.std.specs.Cmp.Lexicographic.{slice_cmp, texts_ties}
use Rattle.std.specs.BTreeMap.{is_at}
use Rattle.std.specs.BTreeMap.Range.{range_contains}
use Rattle.std.specs.declared.ops.Bound.TheVariants.{Included, Unbounded}
use Rattle.std.specs.declared.cmp.Ordering.TheVariants.{Less}
use Rattle.std.proofs.lemmas.Bool.{false≢true}
use Rattle.std.proofs.lemmas.List.{append-nil}
use Rattle.std.proofs.lemmas.List.Sums.{take_while-cons}
use Rattle.std.proofs.lemmas.Map.Keys.{sorted_head, sorted_tail}
use Rattle.std.proofs.lemmas.Map.Views.{any-filter_same}
use Rattle.prefixes.specs.Under.{begins_with}
use Rattle.documents.proofs.ElementLemmas.{same_name, bytes_eq-sym}
use Rattle.index.proofs.UnderLemmas.{none_behind}
use Rattle.prefixes.proofs.UnderLemmas.{begins_le}

-- whether a list has a member
abbrev pub has_some : {X : Type 0} → List X → Bool
has_some [] = false
has_some (x ∷ xs) = true

any_passes : {X : Type 0} (p : X → Bool) (xs : List X) → list_any p xs ≡ has_some (filter p xs)
any_passes p [] = refl
any_passes {X} p (x ∷ xs) = go (p x) (any_passes p xs)
  where
    go : (t : Bool) → list_any p xs ≡ has_some (filter p xs) → (t || list_any p xs) ≡ has_some (cond t (x ∷ filter p xs) (filter p xs))
    go true deeper = refl
    go false deeper = deeper

-- ---- the names from the text on, up to the first that does not begin with it

module _ (text : List ℕ) where
  -- whether a name is not below the text
  abbrev pub is_from : List ℕ → Bool
  is_from = range_contains (slice_cmp nat_cmp) (Included text) Unbounded

  none_after : (name : List ℕ) → is_le (slice_cmp nat_cmp text name) ≡ true → begins_with text name ≡ false → (names : List (List ℕ))
      → AllByRecursion (λ k. slice_cmp nat_cmp name k ≡ Less) names → filter (begins_with text) names ≡ []
  none_after name low other [] above = refl
  none_after name low other (k ∷ names) above =
      ap (λ t. cond t (k ∷ filter (begins_with text) names) (filter (begins_with text) names)) (none_behind text name k low above.0 other)
      ∙ none_after name low other names above.1

  pub begun_with : (name : List ℕ) (rest : List (List ℕ)) → begins_with text name ≡ true
      → take_while (begins_with text) (name ∷ rest) ≡ name ∷ take_while (begins_with text) rest
  begun_with name rest here =
      take_while-cons (begins_with text) name rest ∙ ap (λ t. cond t (name ∷ take_while (begins_with text) rest) []) here

  pub ended_by : (name : List ℕ) (rest : List (List ℕ)) → begins_with text name ≡ false → take_while (begins_with text) (name ∷ rest) ≡ []
  ended_by name rest other =
      take_while-cons (begins_with text) name rest ∙ ap (λ t. cond t (name ∷ take_while (begins_with text) rest) []) other

  first_ones : (names : List (List ℕ)) → IsStrictlySortedBy (slice_cmp nat_cmp) names
      → take_while (begins_with text) (filter is_from names) ≡ filter (begins_with text) names
  first_ones [] sorted = refl
  first_ones (name ∷ names) sorted =
      go (is_le (slice_cmp nat_cmp text name)) refl (begins_with text name) refl (first_ones names (sorted_tail (slice_cmp nat_cmp) name names sorted))
    where
      go : (t : Bool) → is_le (slice_cmp nat_cmp text name) ≡ t → (u : Bool) → begins_with text name ≡ u
          → take_while (begins_with text) (filter is_from names) ≡ filter (begins_with text) names
          → take_while (begins_with text) (cond (t && true) (name ∷ filter is_from names) (filter is_from names))
          ≡ cond u (name ∷ filter (begins_with text) names) (filter (begins_with text) names)
      go true low true here deeper = begun_with name (filter is_from names) here ∙ ap (λ xs. name ∷ xs) deeper
      go true low false other deeper =
          ended_by name (filter is_from names) other ∙ sym (none_after name low other names (sorted_head (slice_cmp nat_cmp) name names sorted))
      go false below true here deeper = absurd (false≢true (sym below ∙ begins_le text name here))
      go false below false other deeper = deeper

  -- of a set with these names: those that are found so far, and those that are left
  pub all_left : (set left : List (List ℕ)) → IsStrictlySortedBy (slice_cmp nat_cmp) set → left ≡ filter is_from set
      → filter (begins_with text) set ≡ take_while (begins_with text) left
  all_left set left sorted is = sym (first_ones set sorted) ∙ ap (take_while (begins_with text)) (sym is)

  pub one_found : (all found found' left rest : List (List ℕ)) (name : List ℕ) → left ≡ name ∷ rest → begins_with text name ≡ true
      → found' ≡ found ++ name ∷ [] → all ≡ found ++ take_while (begins_with text) left → all ≡ found' ++ take_while (begins_with text) rest
  one_found all found found' left rest name next here more was =
      was
      ∙ (ap (λ xs. found ++ xs) (ap (take_while (begins_with text)) next ∙ begun_with name rest here)
      ∙ (sym (append_assoc found (name ∷ []) (take_while (begins_with text) rest)) ∙ ap (λ xs. xs ++ take_while (begins_with text) rest) (sym more)))

  pub no_more : (all found left rest : List (List ℕ)) (name : List ℕ) → left ≡ name ∷ rest → begins_with text name ≡ false
      → all ≡ found ++ take_while (begins_with text) left → found ≡ all
  no_more all found left rest name next other was =
      sym (was ∙ (ap (λ xs. found ++ xs) (ap (take_while (begins_with text)) next ∙ ended_by name rest other) ∙ append-nil found))

  pub none_left : (all found left : List (List ℕ)) → left ≡ [] → all ≡ found ++ take_while (begins_with text) left → found ≡ all
  none_left all found left end was = sym (was ∙ (ap (λ xs. found ++ take_while (begins_with text) xs) end ∙ append-nil found))

  -- whether there is one: the first name that is not below the text shows it
  pub first_shows : (set left rest : List (List ℕ)) (name : List ℕ) → IsStrictlySortedBy (slice_cmp nat_cmp) set → left ≡ filter is_from set
      → left ≡ name ∷ rest → begins_with text name ≡ list_any (begins_with text) set
  first_shows set left rest name sorted is next =
      sym
      (any_passes (begins_with text) set
      ∙ (ap has_some (all_left set left sorted is ∙ (ap (take_while (begins_with text)) next ∙ take_while-cons (begins_with text) name rest))
      ∙ shown (begins_with text name)))
    where
      shown : (t : Bool) → has_some (cond t (name ∷ take_while (begins_with text) rest) []) ≡ t
      shown true = refl
      shown false = refl

  pub none_shows : (set left : List (List ℕ)) → IsStrictlySortedBy (slice_cmp nat_cmp) set → left ≡ filter is_from set → left ≡ []
      → false ≡ list_any (begins_with text) set
  none_shows set left sorted is end =
      sym (any_passes (begins_with text) set ∙ ap has_some (all_left set left sorted is ∙ ap (take_while (begins_with text)) end))

-- ---- names that are taken out

module _ (text q : List ℕ) where
  abbrev has : List (List ℕ) → Bool
  has = list_any (is_at (slice_cmp nat_cmp q))

  pub any_same : (names : List (List ℕ)) → list_any (λ name. bytes_eq name q) names ≡ has names
  any_same [] = refl
  any_same (name ∷ names) =
      ap (λ t. t || list_any (λ n. bytes_eq n q) names) (bytes_eq-sym name q ∙ texts_ties q name)
      ∙ ap (λ t. is_at (slice_cmp nat_cmp q) name || t) (any_same names)

  any_begun : (names : List (List ℕ)) → has (filter (begins_with text) names) ≡ (begins_with text q && has names)
  any_begun names =
      any-filter_same (is_at (slice_cmp nat_cmp q)) (begins_with text) (begins_with text q)
      (λ name at. ap (begins_with text) (sym (same_name q name (texts_ties q name ∙ at)))) names

  -- without those that begin with the text, a name is there if it was and does not begin with it
  pub left_out : (old found : List (List ℕ)) (now : Bool) → found ≡ filter (begins_with text) old
      → now ≡ (not (list_any (λ name. bytes_eq name q) found) && has old) → now ≡ (not (begins_with text q) && has old)
  left_out old found now is says =
      says
      ∙ (ap (λ t. not t && has old) (ap (list_any (λ name. bytes_eq name q)) is ∙ (any_same (filter (begins_with text) old) ∙ any_begun old))
      ∙ both (begins_with text q) (has old))
    where
      both : (b h : Bool) → (not (b && h) && h) ≡ (not b && h)
      both true true = refl
      both true false = refl
      both false h = refl
