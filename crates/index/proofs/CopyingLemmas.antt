-- Names that get other contents together.
use Rattle.std.proofs.Common.{◌≡◌, ℕ, ◌+◌, ◌^◌, ◌<◌, ◌≤◌, ◌==◌, ◌||◌, ◌&&◌, ◌++◌, ◌⊎◌, inl, inr, not, Bool, true, false, cond, List, [], ◌∷◌, map, length, Contains}
use Rattle.std.proofs.Common.{Option, Some, None, refl, sym, ◌∙◌, ap, subst, arith, length-append, append_assoc, append-nil, take, get_or}
use Rattle.std.specs.Prelude.{bytes_eq, is_some, option_map, filter, fold, IsSome}
use Rattle.std.specs.List.{list_any}
use Rattle.std.specs.Ordering.{nat_cmp}
use Rattle.std.specs.Cmp.Lexicographic.{slice_cmp, nat_list_cmp_total}
use Rattle.std.specs.BTreeMap.{BTreeMap, get, is_at, btree_map_len, IsOrdered, IsUnchanged}
use Rattle.std.specs.Map.{keys_of, lookup}
use Rattle.std.specs.BTreeMap.Range.{entries_between}
use Rattle.std.specs.declared.ops.Bound.TheVariants.{Included, Unbounded}
use Rattle.std.specs.List.Sorted.{IsStrictlySortedBy}
use Rattle.std.proofs.lemmas.Bool.{false≢true}
use Rattle.std.proofs.lemmas.List.{take_more}
use Rattle.std.proofs.lemmas.List.Sums.{fold-append}
use Rattle.std.proofs.lemmas.List.Folds.{list_any-append}
use Rattle.prefixes.specs.Under.{begins_with}
use Rattle.documents.specs.Text.{IsName}
use Rattle.index.specs.declared.copying.Copied.{Copied}
use Rattle.index.specs.declared.copying.Leaves.{Leaves}
use Rattle.index.specs.declared.copying.Leaves.TheVariants.{Old, New}
use Rattle.documents.specs.Documents.{renamed}
use Rattle.index.specs.Private.Numbered.{Document}
use Rattle.index.specs.Private.Contents.{Groups, AreContents, AreGroupsOf, HasNames, IsLeft, body_at, has_name, is_number, with_name, named}
use Rattle.index.specs.Private.Copying.{copied, copies_in, is_new, is_among, entered, joins, restored, number_again, left_by, leaves, IsFree, IsEntered, AreLeft}
use Rattle.index.proofs.DocumentLemmas.{same_name, bytes_eq-refl, Contains-head, Contains-tail}
use Rattle.index.proofs.IndexLemmas.{changed_at}
use Rattle.index.proofs.UnderLemmas.{Behind, Behind-first, under-first, none_more}
use Rattle.index.proofs.NamedLemmas.{number_is}

or_first : (t u : Bool) → (t || u) ≡ false → t ≡ false
or_first true u e = e
or_first false u e = refl

or_second : (t u : Bool) → (t || u) ≡ false → u ≡ false
or_second true u e = absurd (false≢true (sym e))
or_second false u e = e

or_none : (t : Bool) → (t || false) ≡ t
or_none true = refl
or_none false = refl

or_or : (a b c : Bool) → ((a || b) || c) ≡ (a || (b || c))
or_or true b c = refl
or_or false b c = refl

-- ---- one name among several

module _ (q : List ℕ) where
  pub entered-other : (cs : List Copied) → is_among q cs ≡ false → (o : Option ℕ) → entered cs q o ≡ o
  entered-other [] none o = refl
  entered-other (c ∷ cs) none o =
      ap (λ t. entered cs q (cond t (Some c.number) o)) (or_first (bytes_eq c.name q) (is_among q cs) none)
      ∙ entered-other cs (or_second (bytes_eq c.name q) (is_among q cs) none) o

  pub joins-other : (m : ℕ) (cs : List Copied) → is_among q cs ≡ false → joins cs m q ≡ false
  joins-other m [] none = refl
  joins-other m (c ∷ cs) none =
      ap (λ t. (c.number == m && t) || joins cs m q) (or_first (bytes_eq c.name q) (is_among q cs) none)
      ∙ ap (λ t. t || joins cs m q) (and_none (c.number == m))
      ∙ joins-other m cs (or_second (bytes_eq c.name q) (is_among q cs) none)
    where
      and_none : (t : Bool) → (t && false) ≡ false
      and_none true = refl
      and_none false = refl

  pub leaves-other : (way : Leaves) (m : ℕ) (cs : List Copied) → is_among q cs ≡ false → leaves way cs m q ≡ false
  leaves-other way m [] none = refl
  leaves-other way m (c ∷ cs) none =
      ap (λ t. (is_number m (left_by way c) && t) || leaves way cs m q) (or_first (bytes_eq c.name q) (is_among q cs) none)
      ∙ ap (λ t. t || leaves way cs m q) (and_none (is_number m (left_by way c)))
      ∙ leaves-other way m cs (or_second (bytes_eq c.name q) (is_among q cs) none)
    where
      and_none : (t : Bool) → (t && false) ≡ false
      and_none true = refl
      and_none false = refl

  pub restored-other : (cs : List Copied) → is_among q cs ≡ false → (o : Option ℕ) → restored cs q o ≡ o
  restored-other [] none o = refl
  restored-other (c ∷ cs) none o =
      ap (λ t. restored cs q (cond t (number_again c.old o) o)) (or_first (bytes_eq c.name q) (is_among q cs) none)
      ∙ restored-other cs (or_second (bytes_eq c.name q) (is_among q cs) none) o

  -- All of these that have the name have the same number, and had the same one.
  abbrev pub AreAlike : ℕ → Option ℕ → List Copied → Type 0
  AreAlike n old cs = (c : Copied) → Contains cs c → bytes_eq c.name q ≡ true → (c.number ≡ n) × (c.old ≡ old)

  alike-tail : (n : ℕ) (old : Option ℕ) (c : Copied) (cs : List Copied) → AreAlike n old (c ∷ cs) → AreAlike n old cs
  alike-tail n old c cs alike d there e = alike d (Contains-tail c cs d there) e

  module _ (n : ℕ) (old : Option ℕ) where
    pub entered-here : (cs : List Copied) → AreAlike n old cs → is_among q cs ≡ true → (o : Option ℕ) → entered cs q o ≡ Some n
    entered-here [] alike here o = absurd (false≢true here)
    entered-here (c ∷ cs) alike here o =
        go (bytes_eq c.name q) refl (is_among q cs) refl here (λ f. entered-here cs (alike-tail n old c cs alike) f)
      where
        go : (t : Bool) → bytes_eq c.name q ≡ t → (u : Bool) → is_among q cs ≡ u → (t || u) ≡ true
            → (is_among q cs ≡ true → (p : Option ℕ) → entered cs q p ≡ Some n) → entered cs q (cond t (Some c.number) o) ≡ Some n
        go t e true f h deeper = deeper f (cond t (Some c.number) o)
        go true e false f h deeper = entered-other cs f (Some c.number) ∙ ap Some (alike c (Contains-head c cs) e).0
        go false e false f h deeper = absurd (false≢true h)

    pub joins-here : (m : ℕ) (cs : List Copied) → AreAlike n old cs → is_among q cs ≡ true → joins cs m q ≡ (n == m)
    joins-here m [] alike here = absurd (false≢true here)
    joins-here m (c ∷ cs) alike here =
        go (bytes_eq c.name q) refl (is_among q cs) refl here (λ f. joins-here m cs (alike-tail n old c cs alike) f)
      where
        twice : (t : Bool) → ((t && true) || t) ≡ t
        twice true = refl
        twice false = refl

        once : (t : Bool) → ((t && true) || false) ≡ t
        once true = refl
        once false = refl

        never : (t u : Bool) → ((t && false) || u) ≡ u
        never true u = refl
        never false u = refl

        go : (t : Bool) → bytes_eq c.name q ≡ t → (u : Bool) → is_among q cs ≡ u → (t || u) ≡ true
            → (is_among q cs ≡ true → joins cs m q ≡ (n == m)) → ((c.number == m && t) || joins cs m q) ≡ (n == m)
        go true e true f h deeper =
            ap (λ k. (k == m && true) || joins cs m q) (alike c (Contains-head c cs) e).0
            ∙ ap (λ t. (n == m && true) || t) (deeper f)
            ∙ twice (n == m)
        go true e false f h deeper =
            ap (λ k. (k == m && true) || joins cs m q) (alike c (Contains-head c cs) e).0
            ∙ ap (λ t. (n == m && true) || t) (joins-other m cs f)
            ∙ once (n == m)
        go false e true f h deeper = never (c.number == m) (joins cs m q) ∙ deeper f
        go false e false f h deeper = absurd (false≢true h)

    pub leaves-here : (way : Leaves) (m : ℕ) (left : Option ℕ) → ((c : Copied) → c.number ≡ n → c.old ≡ old → left_by way c ≡ left) → (cs : List Copied)
        → AreAlike n old cs → is_among q cs ≡ true → leaves way cs m q ≡ is_number m left
    leaves-here way m left by [] alike here = absurd (false≢true here)
    leaves-here way m left by (c ∷ cs) alike here =
        go (bytes_eq c.name q) refl (is_among q cs) refl here (λ f. leaves-here way m left by cs (alike-tail n old c cs alike) f)
      where
        twice : (t : Bool) → ((t && true) || t) ≡ t
        twice true = refl
        twice false = refl

        once : (t : Bool) → ((t && true) || false) ≡ t
        once true = refl
        once false = refl

        never : (t u : Bool) → ((t && false) || u) ≡ u
        never true u = refl
        never false u = refl

        first : bytes_eq c.name q ≡ true → left_by way c ≡ left
        first e = let is = alike c (Contains-head c cs) e in by c is.0 is.1

        go : (t : Bool) → bytes_eq c.name q ≡ t → (u : Bool) → is_among q cs ≡ u → (t || u) ≡ true
            → (is_among q cs ≡ true → leaves way cs m q ≡ is_number m left) → ((is_number m (left_by way c) && t) || leaves way cs m q) ≡ is_number m left
        go true e true f h deeper =
            ap (λ o. (is_number m o && true) || leaves way cs m q) (first e)
            ∙ ap (λ t. (is_number m left && true) || t) (deeper f)
            ∙ twice (is_number m left)
        go true e false f h deeper =
            ap (λ o. (is_number m o && true) || leaves way cs m q) (first e)
            ∙ ap (λ t. (is_number m left && true) || t) (leaves-other way m cs f)
            ∙ once (is_number m left)
        go false e true f h deeper = never (is_number m (left_by way c)) (leaves way cs m q) ∙ deeper f
        go false e false f h deeper = absurd (false≢true h)

    -- the number that it had stays once it is there again
    restored-kept : (cs : List Copied) → AreAlike n old cs → restored cs q old ≡ old
    restored-kept [] alike = refl
    restored-kept (c ∷ cs) alike = go (bytes_eq c.name q) refl (restored-kept cs (alike-tail n old c cs alike))
      where
        again : (o : Option ℕ) → number_again o o ≡ o
        again None = refl
        again (Some k) = refl

        go : (t : Bool) → bytes_eq c.name q ≡ t → restored cs q old ≡ old → restored cs q (cond t (number_again c.old old) old) ≡ old
        go true e deeper =
            ap (λ o. restored cs q (number_again o old)) (alike c (Contains-head c cs) e).1
            ∙ ap (restored cs q) (again old)
            ∙ deeper
        go false e deeper = deeper

    pub restored-here : (cs : List Copied) → AreAlike n old cs → is_among q cs ≡ true → restored cs q (Some n) ≡ old
    restored-here [] alike here = absurd (false≢true here)
    restored-here (c ∷ cs) alike here = go (bytes_eq c.name q) refl here (λ h. restored-here cs (alike-tail n old c cs alike) h)
      where
        go : (t : Bool) → bytes_eq c.name q ≡ t → (t || is_among q cs) ≡ true → (is_among q cs ≡ true → restored cs q (Some n) ≡ old)
            → restored cs q (cond t (number_again c.old (Some n)) (Some n)) ≡ old
        go true e h deeper = ap (restored cs q) (alike c (Contains-head c cs) e).1 ∙ restored-kept cs (alike-tail n old c cs alike)
        go false e h deeper = deeper h

  entered-none : (cs : List Copied) (o : Option ℕ) → entered cs q o ≡ None → (o ≡ None) × (is_among q cs ≡ false)
  entered-none [] o e = (e, refl)
  entered-none (c ∷ cs) o e =
      let deeper = entered-none cs (cond (bytes_eq c.name q) (Some c.number) o) e in
      go (bytes_eq c.name q) deeper.0 deeper.1
    where
      some_none : (n : ℕ) → Some n ≡ None → ⊥
      some_none n e = cc

      go : (t : Bool) → cond t (Some c.number) o ≡ None → is_among q cs ≡ false → (o ≡ None) × ((t || is_among q cs) ≡ false)
      go true e none = absurd (some_none c.number e)
      go false e none = (e, none)

-- ---- names that are entered

module _ (contents : List Document) where
  pub entered-unchanged : (numbers numbers' : BTreeMap (List ℕ) ℕ) (groups groups' : Groups) → IsUnchanged numbers numbers'
      → HasNames (has_name groups contents) contents groups groups' → IsEntered [] contents numbers groups numbers' groups'
  entered-unchanged numbers numbers' groups groups' same has = record {
    numbers_are = λ q. ap (λ es. lookup (is_at (slice_cmp nat_cmp q)) es) same;
    ordered = λ o. subst (λ es. IsStrictlySortedBy (slice_cmp nat_cmp) (keys_of es)) (sym same) o;
    len = omega (arith, ap length same);
    good = λ are q h. are q (subst (λ es. IsSome (lookup (is_at (slice_cmp nat_cmp q)) es)) same h);
    names = λ m q. has.names m q ∙ sym (or_none (has_name groups contents m q));
    groups_of = has.groups_of;
  }

  pub entered-one : (numbers numbers' : BTreeMap (List ℕ) ℕ) (groups groups' : Groups) (c : Copied)
      → ((q : List ℕ) → get (slice_cmp nat_cmp) numbers' q ≡ cond (bytes_eq c.name q) (Some c.number) (get (slice_cmp nat_cmp) numbers q))
      → IsOrdered (slice_cmp nat_cmp) numbers' → btree_map_len numbers' ≤ btree_map_len numbers + 1 → IsName c.name
      → HasNames (with_name c.number c.name (has_name groups contents)) contents groups groups'
      → IsEntered (c ∷ []) contents numbers groups numbers' groups'
  entered-one numbers numbers' groups groups' c are ordered len is_name has = record {
    numbers_are = are;
    ordered = λ o. ordered;
    len = len;
    good = λ good q h. go good q (bytes_eq c.name q) refl (subst IsSome (are q) h);
    names = λ m q. has.names m q ∙ ap (λ t. has_name groups contents m q || t) (sym (or_none (c.number == m && bytes_eq c.name q)));
    groups_of = has.groups_of;
  }
    where
      go : ((q : List ℕ) → IsSome (get (slice_cmp nat_cmp) numbers q) → IsName q) → (q : List ℕ) (t : Bool) → bytes_eq c.name q ≡ t
          → IsSome (cond (bytes_eq c.name q) (Some c.number) (get (slice_cmp nat_cmp) numbers q)) → IsName q
      go good q true e h = subst IsName (same_name c.name q e) is_name
      go good q false e h = good q (subst (λ t. IsSome (cond t (Some c.number) (get (slice_cmp nat_cmp) numbers q))) e h)

  pub entered-more : (xs ys : List Copied) (numbers mid numbers' : BTreeMap (List ℕ) ℕ) (groups mid_groups groups' : Groups)
      → IsEntered xs contents numbers groups mid mid_groups → IsEntered ys contents mid mid_groups numbers' groups'
      → IsEntered (xs ++ ys) contents numbers groups numbers' groups'
  entered-more xs ys numbers mid numbers' groups mid_groups groups' first later = record {
    numbers_are = λ q.
        later.numbers_are q
        ∙ ap (entered ys q) (first.numbers_are q)
        ∙ sym (fold-append (λ (o : Option ℕ) (c : Copied). cond (bytes_eq c.name q) (Some c.number) o) (get (slice_cmp nat_cmp) numbers q) xs ys);
    ordered = λ o. later.ordered (first.ordered o);
    len = omega (arith, first.len, later.len, length-append xs ys);
    good = λ are. later.good (first.good are);
    names = λ m q.
        later.names m q
        ∙ ap (λ t. t || joins ys m q) (first.names m q)
        ∙ or_or (has_name groups contents m q) (joins xs m q) (joins ys m q)
        ∙ ap (λ t. has_name groups contents m q || t) (sym (list_any-append (λ (c : Copied). c.number == m && bytes_eq c.name q) xs ys));
    groups_of = λ are. later.groups_of (first.groups_of are);
  }

  -- names without a number stay free
  pub free_still : (cs : List Copied) (numbers numbers' : BTreeMap (List ℕ) ℕ) (groups groups' : Groups) → IsFree numbers groups contents
      → IsEntered cs contents numbers groups numbers' groups' → IsFree numbers' groups' contents
  free_still cs numbers numbers' groups groups' free are m q none =
      let was = entered-none q cs (get (slice_cmp nat_cmp) numbers q) (sym (are.numbers_are q) ∙ none) in
      are.names m q
      ∙ ap (λ t. t || joins cs m q) (free m q was.0)
      ∙ joins-other q m cs was.1

-- ---- names that leave

pub left-more : (way : Leaves) (cs : List Copied) (c : Copied) (before mid after : List Document) (old mid_groups new : Groups)
    → AreLeft way cs before old mid mid_groups → IsLeft (left_by way c) c.name mid mid_groups after new → AreLeft way (cs ++ c ∷ []) before old after new
left-more way cs c before mid after old mid_groups new are left = record {
  names = λ m q.
      left.names m q
      ∙ ap (λ t. t && not (is_number m (left_by way c) && bytes_eq c.name q)) (are.names m q)
      ∙ both (has_name old before m q) (leaves way cs m q) (is_number m (left_by way c) && bytes_eq c.name q)
      ∙ ap (λ t. has_name old before m q && not t) (sym (list_any-append (λ (d : Copied). is_number m (left_by way d) && bytes_eq d.name q) cs (c ∷ [])));
  bodies = λ m q h. left.bodies m q h ∙ are.bodies m q (and_first (has_name mid_groups mid m q) (not (is_number m (left_by way c) && bytes_eq c.name q)) (sym (left.names m q) ∙ h));
  groups_of = left.groups_of;
  contents = λ version good. left.contents version (are.contents version good);
}
  where
    both : (a b c : Bool) → ((a && not b) && not c) ≡ (a && not (b || (c || false)))
    both true true c = refl
    both true false true = refl
    both true false false = refl
    both false b c = refl

    and_first : (t u : Bool) → (t && u) ≡ true → t ≡ true
    and_first true u e = refl
    and_first false u e = e

-- ---- names that have their numbers again

pub again-removed : (numbers new : BTreeMap (List ℕ) ℕ) (name : List ℕ) (old : Option ℕ) → old ≡ None
    → ((q : List ℕ) → get (slice_cmp nat_cmp) new q ≡ cond (is_at (slice_cmp nat_cmp name) q) None (get (slice_cmp nat_cmp) numbers q))
    → (q : List ℕ) → get (slice_cmp nat_cmp) new q ≡ cond (bytes_eq name q) (number_again old (get (slice_cmp nat_cmp) numbers q)) (get (slice_cmp nat_cmp) numbers q)
again-removed numbers new name old none updates q =
    changed_at numbers new name None updates q
    ∙ ap (λ o. cond (bytes_eq name q) o (get (slice_cmp nat_cmp) numbers q)) (sym (ap (λ o. number_again o (get (slice_cmp nat_cmp) numbers q)) none ∙ gone (get (slice_cmp nat_cmp) numbers q)))
  where
    gone : (o : Option ℕ) → number_again None o ≡ None
    gone None = refl
    gone (Some n) = refl

pub again-written : (numbers new : BTreeMap (List ℕ) ℕ) (name : List ℕ) (old : Option ℕ) (k n : ℕ) → old ≡ Some k → Some n ≡ get (slice_cmp nat_cmp) numbers name
    → ((q : List ℕ) → get (slice_cmp nat_cmp) new q ≡ cond (is_at (slice_cmp nat_cmp name) q) (Some k) (get (slice_cmp nat_cmp) numbers q))
    → (q : List ℕ) → get (slice_cmp nat_cmp) new q ≡ cond (bytes_eq name q) (number_again old (get (slice_cmp nat_cmp) numbers q)) (get (slice_cmp nat_cmp) numbers q)
again-written numbers new name old k n is there updates q =
    changed_at numbers new name (Some k) updates q ∙ go (bytes_eq name q) refl
  where
    go : (t : Bool) → bytes_eq name q ≡ t
        → cond t (Some k) (get (slice_cmp nat_cmp) numbers q) ≡ cond t (number_again old (get (slice_cmp nat_cmp) numbers q)) (get (slice_cmp nat_cmp) numbers q)
    go false e = refl
    go true e =
        sym is ∙ ap (number_again old) (there ∙ ap (get (slice_cmp nat_cmp) numbers) (same_name name q e))

-- ---- which names are copied

module _ (from to : List ℕ) (numbers : BTreeMap (List ℕ) ℕ) where
  pub copies-first : (left : List (List ℕ × ℕ)) → left ≡ entries_between (slice_cmp nat_cmp) (Included from) Unbounded numbers.entries
      → copies_in from to numbers left ≡ copies_in from to numbers numbers.entries
  copies-first left are =
      ap (λ es. filter is_new (map (copied from to numbers) es)) (under-first from (Included from) (λ name. refl) numbers.entries left are)

  pub copies-behind : (left : List (List ℕ × ℕ)) → IsStrictlySortedBy (slice_cmp nat_cmp) (keys_of numbers.entries)
      → left ≡ entries_between (slice_cmp nat_cmp) (Included from) Unbounded numbers.entries → Behind from left
  copies-behind left sorted are = Behind-first from (Included from) (λ name. refl) numbers.entries left sorted are

  module _ (all left rest : List (List ℕ × ℕ)) (items : List Copied) (name : List ℕ) (number : ℕ) (next : left ≡ (name, number) ∷ rest)
      (so_far : items ++ copies_in from to numbers left ≡ copies_in from to numbers all) where
    here : (t : Bool) → begins_with from name ≡ t → copies_in from to numbers left
        ≡ filter is_new (map (copied from to numbers) (cond t ((name, number) ∷ filter (λ e. begins_with from e.0) rest) (filter (λ e. begins_with from e.0) rest)))
    here t begins =
        ap (copies_in from to numbers) next
        ∙ ap (λ b. filter is_new (map (copied from to numbers) (cond b ((name, number) ∷ filter (λ e. begins_with from e.0) rest) (filter (λ e. begins_with from e.0) rest)))) begins

    pub copies-new : (new : List Copied) (c : Copied) → begins_with from name ≡ true → c ≡ copied from to numbers (name, number) → is_new c ≡ true
        → new ≡ items ++ c ∷ [] → new ++ copies_in from to numbers rest ≡ copies_in from to numbers all
    copies-new new c begins is fresh grown =
        ap (λ xs. xs ++ copies_in from to numbers rest) grown
        ∙ append_assoc items (c ∷ []) (copies_in from to numbers rest)
        ∙ ap (λ d. items ++ d ∷ copies_in from to numbers rest) is
        ∙ ap (λ xs. items ++ xs)
        (sym (here true begins
        ∙ ap (λ b. cond b (copied from to numbers (name, number) ∷ copies_in from to numbers rest) (copies_in from to numbers rest)) (ap is_new (sym is) ∙ fresh)))
        ∙ so_far

    pub copies-same : (c : Copied) → begins_with from name ≡ true → c ≡ copied from to numbers (name, number) → is_new c ≡ false
        → items ++ copies_in from to numbers rest ≡ copies_in from to numbers all
    copies-same c begins is old =
        ap (λ xs. items ++ xs)
        (sym (here true begins
        ∙ ap (λ b. cond b (copied from to numbers (name, number) ∷ copies_in from to numbers rest) (copies_in from to numbers rest)) (ap is_new (sym is) ∙ old)))
        ∙ so_far

    pub copies-stop : Behind from left → begins_with from name ≡ false → items ≡ copies_in from to numbers all
    copies-stop behind other =
        sym (append-nil items)
        ∙ ap (λ xs. items ++ xs) (sym (ap (λ es. filter is_new (map (copied from to numbers) es)) (none_more from left rest name number next behind other)))
        ∙ so_far

pub taken_more : (cs : List Copied) (i : ℕ) (c : Copied) → i < length cs → c ≡ get_or cs i c → take (i + 1) cs ≡ take i cs ++ c ∷ []
taken_more cs i c inside is = take_more cs i c inside ∙ ap (λ d. take i cs ++ d ∷ []) (sym is)
