-- The index after copies, or after copies that were taken back.
use Rattle.std.proofs.Common.{◌≡◌, ℕ, ◌+◌, ◌^◌, ◌<◌, ◌≤◌, ◌==◌, ◌||◌, ◌&&◌, ◌++◌, ◌⊎◌, inl, inr, not, Bool, true, false, cond, List, [], ◌∷◌, map, length, take, drop, Contains}
use Rattle.std.proofs.Common.{Option, Some, None, refl, sym, ◌∙◌, ap, subst, arith}
use Rattle.std.specs.Prelude.{bytes_eq, option_map, filter, IsSome}
use Rattle.std.specs.List.{list_any}
use Rattle.std.specs.Ordering.{nat_cmp}
use Rattle.std.specs.Cmp.Lexicographic.{slice_cmp, nat_list_cmp_total}
use Rattle.std.specs.BTreeMap.{BTreeMap, get, btree_map_len, IsOrdered}
use Rattle.std.specs.FinMap.{same_map}
use Rattle.std.specs.FinMap as map
use Rattle.std.proofs.lemmas.Bool.{false≢true}
use Rattle.std.proofs.lemmas.Bool.Decides.{nat_tests}
use Rattle.std.proofs.lemmas.List.{take-append-drop}
use Rattle.std.proofs.lemmas.List.Folds.{list_any_at}
use Rattle.std.proofs.lemmas.Map.Lookups.{exact_bytes}
use Rattle.std.proofs.lemmas.Map.Views.{btree_map_get_iff}
use Rattle.prefixes.specs.Under.{begins_with}
use Rattle.documents.specs.Text.{IsName}
use Rattle.index.specs.declared.store.Store.{Store}
use Rattle.index.specs.declared.copying.Copied.{Copied}
use Rattle.index.specs.declared.copying.Leaves.{Leaves}
use Rattle.index.specs.declared.copying.Leaves.TheVariants.{Old, New}
use Rattle.documents.specs.declared.command.Command.TheVariants.{CopyUnder}
use Rattle.documents.specs.Documents.{Documents, documents_after, renamed}
use Rattle.documents.specs.State.{body_bytes}
use Rattle.index.specs.Private.Numbered.{Document}
use Rattle.index.specs.Private.Contents.{Groups, AreContents, body_at, has_name, is_number, named}
use Rattle.index.specs.Private.Copying.{copied, copies_in, is_new, is_among, entered, joins, restored, leaves, IsEntered, AreLeft}
use Rattle.index.specs.Private.Plain.{plain_documents}
use Rattle.index.specs.Private.Store.{stored, IsStore, IsIndex}
use Rattle.index.proofs.DocumentLemmas.{same_name, bytes_eq-refl, Contains-cons, Contains-head, Contains-tail, Contains-map, map-Contains, Contains-filter, filter-Contains}
use Rattle.index.proofs.IndexLemmas.{documents_of, later_store}
use Rattle.index.proofs.ApplyLemmas.{AreContents-later}
use Rattle.index.proofs.NamedLemmas.{body-named, number_is}
use Rattle.documents.proofs.RenamedLemmas.{one_or_other, get-copied, begins_renamed, renamed_back}
use Rattle.index.proofs.CopyingLemmas.{AreAlike, entered-other, entered-here, joins-other, joins-here, leaves-other, leaves-here, restored-other, restored-here}

same_number : (n : ℕ) → (n == n) ≡ true
same_number n = grind (arith, nat_tests)

pub any_found : {X : Type 0} (p : X → Bool) (xs : List X) → list_any p xs ≡ true → (x : X) × Contains xs x × (p x ≡ true)
any_found p [] h = absurd (false≢true h)
any_found {X} p (x ∷ xs) h = go (p x) refl h (any_found p xs)
  where
    go : (t : Bool) → p x ≡ t → (t || list_any p xs) ≡ true → (list_any p xs ≡ true → (y : X) × Contains xs y × (p y ≡ true))
        → (y : X) × Contains (x ∷ xs) y × (p y ≡ true)
    go true e h deeper = (x, Contains-head x xs, e)
    go false e h deeper = let at = deeper h in (at.0, Contains-tail x xs at.0 at.1, at.2)

found_any : {X : Type 0} (p : X → Bool) (xs : List X) (x : X) → Contains xs x → p x ≡ true → list_any p xs ≡ true
found_any p xs x there e = list_any_at p xs there.0 x there.1 (ap p there.2 ∙ e)

module _ (from to : List ℕ) (numbers : BTreeMap (List ℕ) ℕ) (ordered : IsOrdered (slice_cmp nat_cmp) numbers) where
  abbrev of_name : List ℕ → Option ℕ
  of_name q = get (slice_cmp nat_cmp) numbers q

  abbrev all : List Copied
  all = copies_in from to numbers numbers.entries

  -- what is known of a copy
  record IsCopy (c : Copied) : Type 0 where
    begins : begins_with to c.name ≡ true
    source : of_name (renamed to from c.name) ≡ Some c.number
    was : c.old ≡ of_name c.name
    other : is_number c.number (of_name c.name) ≡ false

  not_true : (t : Bool) → not t ≡ true → t ≡ false
  not_true true e = absurd (false≢true e)
  not_true false e = refl

  each_copy : (c : Copied) → Contains all c → IsCopy c
  each_copy c there =
      let new = filter-Contains is_new (map (copied from to numbers) (filter (λ e. begins_with from e.0) numbers.entries)) c there in
      let at = map-Contains (copied from to numbers) (filter (λ e. begins_with from e.0) numbers.entries) c new.0 in
      let under = filter-Contains (λ e. begins_with from e.0) numbers.entries at.0 at.1 in
      let found : of_name at.0.0 ≡ Some at.0.1 =
      (btree_map_get_iff nat_list_cmp_total exact_bytes numbers ordered at.0.0 at.0.1).1 under.0 in
      subst IsCopy at.2
      (record {
        begins = begins_renamed from to at.0.0;
        source = ap of_name (renamed_back from to at.0.0 under.1) ∙ found;
        was = refl;
        other = not_true (is_number at.0.1 (of_name (renamed from to at.0.0))) (subst (λ x. is_new x ≡ true) (sym at.2) new.1);
      })

  copy_there : (q : List ℕ) (n : ℕ) → begins_with to q ≡ true → of_name (renamed to from q) ≡ Some n → is_number n (of_name q) ≡ false → is_among q all ≡ true
  copy_there q n begins found other =
      let source = renamed to from q in
      let there = (btree_map_get_iff nat_list_cmp_total exact_bytes numbers ordered source n).0 found in
      let name : renamed from to source ≡ q = renamed_back to from q begins in
      let under = Contains-filter (λ e. begins_with from e.0) numbers.entries (source, n) there (begins_renamed to from q) in
      let copy = Contains-map (copied from to numbers) (filter (λ e. begins_with from e.0) numbers.entries) (source, n) under in
      let new : is_new (copied from to numbers (source, n)) ≡ true = ap (λ x. not (is_number n (of_name x))) name ∙ ap not other in
      found_any (λ c. bytes_eq c.name q) all (copied from to numbers (source, n))
      (Contains-filter is_new (map (copied from to numbers) (filter (λ e. begins_with from e.0) numbers.entries)) (copied from to numbers (source, n)) copy new)
      (ap (λ x. bytes_eq x q) name ∙ bytes_eq-refl q)

  -- what is known of a name among some of the copies
  record IsNamed (cs : List Copied) (q : List ℕ) : Type 0 where
    number : ℕ
    alike : AreAlike q number (of_name q) cs
    begins : begins_with to q ≡ true
    source : of_name (renamed to from q) ≡ Some number
    other : is_number number (of_name q) ≡ false

  module _ (cs : List Copied) (some : (c : Copied) → Contains cs c → Contains all c) where
    named_here : (q : List ℕ) → is_among q cs ≡ true → IsNamed cs q
    named_here q here =
        let at = any_found (λ c. bytes_eq c.name q) cs here in
        let copy = each_copy at.0 (some at.0 at.1) in
        let name : at.0.name ≡ q = same_name at.0.name q at.2 in
        record {
          number = at.0.number;
          alike = λ c there e. alike q at.0.number (ap (λ x. of_name (renamed to from x)) (sym name) ∙ copy.source) c there e;
          begins = ap (begins_with to) (sym name) ∙ copy.begins;
          source = ap (λ x. of_name (renamed to from x)) (sym name) ∙ copy.source;
          other = ap (λ x. is_number at.0.number (of_name x)) (sym name) ∙ copy.other;
        }
      where
        alike : (q : List ℕ) (n : ℕ) → of_name (renamed to from q) ≡ Some n → (c : Copied) → Contains cs c → bytes_eq c.name q ≡ true
            → (c.number ≡ n) × (c.old ≡ of_name q)
        alike q n found c there e =
            let copy = each_copy c (some c there) in
            let name : c.name ≡ q = same_name c.name q e in
            let same : Some c.number ≡ Some n = sym copy.source ∙ ap (λ x. of_name (renamed to from x)) name ∙ found in
            (cc, copy.was ∙ ap of_name name)

    -- ---- copies that are taken back

    both_back : (x y : Bool) → (x ≡ true → y ≡ true → ⊥) → ((x || y) && not y) ≡ x
    both_back true true never = absurd (never refl refl)
    both_back true false never = refl
    both_back false true never = refl
    both_back false false never = refl

    pub names_back : (m : ℕ) (q : List ℕ) → ((is_number m (of_name q) || joins cs m q) && not (leaves New cs m q)) ≡ is_number m (of_name q)
    names_back m q = go (is_among q cs) refl
      where
        plain : (x : Bool) → ((x || false) && not false) ≡ x
        plain true = refl
        plain false = refl

        go : (t : Bool) → is_among q cs ≡ t → ((is_number m (of_name q) || joins cs m q) && not (leaves New cs m q)) ≡ is_number m (of_name q)
        go false e =
            ap (λ t. (is_number m (of_name q) || t) && not (leaves New cs m q)) (joins-other q m cs e)
            ∙ ap (λ t. (is_number m (of_name q) || false) && not t) (leaves-other q New m cs e)
            ∙ plain (is_number m (of_name q))
        go true e =
            let is = named_here q e in
            ap (λ t. (is_number m (of_name q) || t) && not (leaves New cs m q)) (joins-here q is.number (of_name q) m cs is.alike e)
            ∙ ap (λ t. (is_number m (of_name q) || is.number == m) && not t)
            (leaves-here q is.number (of_name q) New m (Some is.number) (λ c n o. ap Some n) cs is.alike e)
            ∙ both_back (is_number m (of_name q)) (is.number == m) (λ x y.
            (let same : is.number ≡ m = grind (arith, nat_tests) in
            false≢true (sym is.other ∙ (ap (λ k. is_number k (of_name q)) same ∙ x))))

    pub numbers_back : (q : List ℕ) → restored cs q (entered cs q (of_name q)) ≡ of_name q
    numbers_back q = go (is_among q cs) refl
      where
        go : (t : Bool) → is_among q cs ≡ t → restored cs q (entered cs q (of_name q)) ≡ of_name q
        go false e = ap (restored cs q) (entered-other q cs e (of_name q)) ∙ restored-other q cs e (of_name q)
        go true e =
            let is = named_here q e in
            ap (restored cs q) (entered-here q is.number (of_name q) cs is.alike e (of_name q)) ∙ restored-here q is.number (of_name q) cs is.alike e

  -- ---- all copies

  itself : (c : Copied) → Contains all c → Contains all c
  itself c there = there

  pub numbers_copied : (q : List ℕ) → entered all q (of_name q) ≡ one_or_other (cond (begins_with to q) (of_name (renamed to from q)) None) (of_name q)
  numbers_copied q = go (is_among q all) refl
    where
      go : (t : Bool) → is_among q all ≡ t → entered all q (of_name q) ≡ one_or_other (cond (begins_with to q) (of_name (renamed to from q)) None) (of_name q)
      go true e =
          let is = named_here all itself q e in
          entered-here q is.number (of_name q) all is.alike e (of_name q)
          ∙ ap (λ o. one_or_other o (of_name q)) (sym (ap (λ t. cond t (of_name (renamed to from q)) None) is.begins ∙ is.source))
      go false e = entered-other q all e (of_name q) ∙ rest (begins_with to q) refl (of_name (renamed to from q)) refl
        where
          last : (n : ℕ) (t : Bool) → is_number n (of_name q) ≡ t → begins_with to q ≡ true → of_name (renamed to from q) ≡ Some n → of_name q ≡ Some n
          last n true f b found = number_is n (of_name q) f
          last n false f b found = absurd (false≢true (sym e ∙ copy_there q n b found f))

          rest : (b : Bool) → begins_with to q ≡ b → (o : Option ℕ) → of_name (renamed to from q) ≡ o → of_name q ≡ one_or_other (cond b o None) (of_name q)
          rest false b o found = refl
          rest true b None found = refl
          rest true b (Some n) found = last n (is_number n (of_name q)) refl b found

  both_there : (x y : Bool) → (x ≡ true → y ≡ true → ⊥) → ((x || y) && not x) ≡ y
  both_there true true never = absurd (never refl refl)
  both_there true false never = refl
  both_there false true never = refl
  both_there false false never = refl

  pub names_copied : (m : ℕ) (q : List ℕ)
      → ((is_number m (of_name q) || joins all m q) && not (leaves Old all m q)) ≡ is_number m (entered all q (of_name q))
  names_copied m q = go (is_among q all) refl
    where
      plain : (x : Bool) → ((x || false) && not false) ≡ x
      plain true = refl
      plain false = refl

      go : (t : Bool) → is_among q all ≡ t
          → ((is_number m (of_name q) || joins all m q) && not (leaves Old all m q)) ≡ is_number m (entered all q (of_name q))
      go false e =
          ap (λ t. (is_number m (of_name q) || t) && not (leaves Old all m q)) (joins-other q m all e)
          ∙ ap (λ t. (is_number m (of_name q) || false) && not t) (leaves-other q Old m all e)
          ∙ plain (is_number m (of_name q))
          ∙ ap (is_number m) (sym (entered-other q all e (of_name q)))
      go true e =
          let is = named_here all itself q e in
          ap (λ t. (is_number m (of_name q) || t) && not (leaves Old all m q)) (joins-here q is.number (of_name q) m all is.alike e)
          ∙ ap (λ t. (is_number m (of_name q) || is.number == m) && not t)
          (leaves-here q is.number (of_name q) Old m (of_name q) (λ c n o. o) all is.alike e)
          ∙ both_there (is_number m (of_name q)) (is.number == m) (λ x y.
          (let same : is.number ≡ m = grind (arith, nat_tests) in
          false≢true (sym is.other ∙ (ap (λ k. is_number k (of_name q)) same ∙ x))))
          ∙ ap (is_number m) (sym (entered-here q is.number (of_name q) all is.alike e (of_name q)))

-- the first ones of a list are in it
first_inside : {X : Type 0} (xs ys : List X) (x : X) → Contains xs x → Contains (xs ++ ys) x
first_inside [] ys x there = absurd (omega (arith, there.1))
first_inside (z ∷ xs) ys x there =
    elim (Contains-cons z xs x there) [
      | inl is ↦ subst (Contains (z ∷ (xs ++ ys))) is (Contains-head z (xs ++ ys))
      | inr rest ↦ Contains-tail z (xs ++ ys) x (first_inside xs ys x rest)
    ]

pub taken_inside : (cs : List Copied) (k : ℕ) (c : Copied) → Contains (take k cs) c → Contains cs c
taken_inside cs k c there = subst (λ xs. Contains xs c) (take-append-drop k cs) (first_inside (take k cs) (drop k cs) c there)

-- ---- from one index to the next

pub has_of_number : (m : ℕ) (found : Option ℕ) → found ≡ Some m → is_number m found ≡ true
has_of_number m found e = ap (is_number m) e ∙ same_number m

module _ {version : ℕ} {numbers : BTreeMap (List ℕ) ℕ} {groups : Groups} {store : Store} {held_bytes : ℕ} (is : IsIndex version numbers groups store held_bytes) where
  -- The names have other numbers, and have left contents.
  pub IsIndex-moved : (later : ℕ) (new : BTreeMap (List ℕ) ℕ) (mid last_groups : Groups) (last : Store) (bytes : ℕ) (way : Leaves) (cs : List Copied)
      → AreLeft way cs (stored store) mid (stored last) last_groups
      → ((m : ℕ) (q : List ℕ) → has_name last_groups (stored last) m q ≡ is_number m (get (slice_cmp nat_cmp) new q))
      → IsOrdered (slice_cmp nat_cmp) new → ((q : List ℕ) → IsSome (get (slice_cmp nat_cmp) new q) → IsName q) → btree_map_len new < 2 ^ 32
      → AreContents later (stored last) → IsStore later last → later < 2 ^ 32
      → bytes ≡ body_bytes (plain_documents (named new (stored store)))
      → IsIndex later new last_groups last bytes × (documents_of new last ≡ plain_documents (named new (stored store)))
  IsIndex-moved later new mid last_groups last bytes way cs left names ordered good fewer contents kept few counted = (
    record {
      kept = kept;
      contents = contents;
      groups_of = left.groups_of;
      names = names;
      ordered = ordered;
      good = good;
      fewer = fewer;
      bytes = counted ∙ ap body_bytes (sym documents);
      few = few;
    },
    documents,
  )
    where
      go : (q : List ℕ) (found : Option ℕ) → get (slice_cmp nat_cmp) new q ≡ found
          → option_map (body_at (stored last)) found ≡ option_map (body_at (stored store)) found
      go q None e = refl
      go q (Some n) e = ap Some (left.bodies n q (names n q ∙ has_of_number n (get (slice_cmp nat_cmp) new q) e))

      documents : documents_of new last ≡ plain_documents (named new (stored store))
      documents =
          same_map nat_list_cmp_total exact_bytes (documents_of new last) (plain_documents (named new (stored store))) (λ q.
          body-named new (stored last) q
          ∙ go q (get (slice_cmp nat_cmp) new q) refl
          ∙ sym (body-named new (stored store) q))

  -- the documents once all copies are there
  pub copied_documents : (from to : List ℕ) (new : BTreeMap (List ℕ) ℕ)
      → ((q : List ℕ) → get (slice_cmp nat_cmp) new q ≡ entered (copies_in from to numbers numbers.entries) q (get (slice_cmp nat_cmp) numbers q))
      → plain_documents (named new (stored store)) ≡ documents_after (CopyUnder from to) (documents_of numbers store)
  copied_documents from to new are =
      same_map nat_list_cmp_total exact_bytes (plain_documents (named new (stored store)))
      (documents_after (CopyUnder from to) (documents_of numbers store)) (λ q.
      body-named new (stored store) q
      ∙ ap (option_map (body_at (stored store))) (are q ∙ numbers_copied from to numbers is.ordered q)
      ∙ mapped (begins_with to q) (get (slice_cmp nat_cmp) numbers (renamed to from q)) (get (slice_cmp nat_cmp) numbers q)
      ∙ ap (λ o. one_or_other (cond (begins_with to q) o None) (option_map (body_at (stored store)) (get (slice_cmp nat_cmp) numbers q)))
      (sym (body-named numbers (stored store) (renamed to from q)))
      ∙ ap (one_or_other (cond (begins_with to q) (map.get (documents_of numbers store) (renamed to from q)) None)) (sym (body-named numbers (stored store) q))
      ∙ sym (get-copied from to q (documents_of numbers store)))
    where
      mapped : (b : Bool) (x y : Option ℕ) → option_map (body_at (stored store)) (one_or_other (cond b x None) y)
          ≡ one_or_other (cond b (option_map (body_at (stored store)) x) None) (option_map (body_at (stored store)) y)
      mapped true (Some n) y = refl
      mapped true None y = refl
      mapped false x y = refl

  -- the documents where names have the numbers again that they had
  pub same_documents : (new : BTreeMap (List ℕ) ℕ) → ((q : List ℕ) → get (slice_cmp nat_cmp) new q ≡ get (slice_cmp nat_cmp) numbers q)
      → plain_documents (named new (stored store)) ≡ documents_of numbers store
  same_documents new are =
      same_map nat_list_cmp_total exact_bytes (plain_documents (named new (stored store))) (documents_of numbers store) (λ q.
      body-named new (stored store) q ∙ ap (option_map (body_at (stored store))) (are q) ∙ sym (body-named numbers (stored store) q))

  -- All copies are there, and the names have left the contents that they had.
  pub IsIndex-copied : (from to : List ℕ) (cs : List Copied) (new : BTreeMap (List ℕ) ℕ) (mid last_groups : Groups) (last : Store) (bytes : ℕ)
      → cs ≡ copies_in from to numbers numbers.entries
      → IsEntered cs (stored store) numbers groups new mid → AreLeft Old cs (stored store) mid (stored last) last_groups
      → ((n : ℕ) → IsStore n store → IsStore n last) → btree_map_len numbers + length cs < 2 ^ 32 → version + 1 < 2 ^ 32
      → bytes ≡ body_bytes (plain_documents (named new (stored store)))
      → IsIndex (version + 1) new last_groups last bytes × (documents_of new last ≡ documents_after (CopyUnder from to) (documents_of numbers store))
  IsIndex-copied from to cs new mid last_groups last bytes all entering left kept room few counted =
      let both =
      IsIndex-moved (version + 1) new mid last_groups last bytes Old cs left names (entering.ordered is.ordered) (entering.good is.good)
      (omega (arith, entering.len, room)) (left.contents (version + 1) (AreContents-later version (stored store) is.contents))
      (later_store version last (kept version is.kept)) few counted in (
        both.0,
        both.1
            ∙ copied_documents from to new (λ q. entering.numbers_are q ∙ ap (λ xs. entered xs q (get (slice_cmp nat_cmp) numbers q)) all),
      )
    where
      names : (m : ℕ) (q : List ℕ) → has_name last_groups (stored last) m q ≡ is_number m (get (slice_cmp nat_cmp) new q)
      names m q =
          left.names m q
          ∙ ap (λ t. t && not (leaves Old cs m q)) (entering.names m q ∙ ap (λ t. t || joins cs m q) (is.names m q))
          ∙ ap (λ xs. (is_number m (get (slice_cmp nat_cmp) numbers q) || joins xs m q) && not (leaves Old xs m q)) all
          ∙ names_copied from to numbers is.ordered m q
          ∙ ap (λ xs. is_number m (entered xs q (get (slice_cmp nat_cmp) numbers q))) (sym all)
          ∙ ap (is_number m) (sym (entering.numbers_are q))

  -- The first copies are taken back.
  pub IsIndex-back : (from to : List ℕ) (cs : List Copied) (some : (c : Copied) → Contains cs c → Contains (copies_in from to numbers numbers.entries) c)
      (middle new : BTreeMap (List ℕ) ℕ) (mid last_groups : Groups) (last : Store)
      → IsEntered cs (stored store) numbers groups middle mid
      → ((q : List ℕ) → get (slice_cmp nat_cmp) new q ≡ restored cs q (get (slice_cmp nat_cmp) middle q))
      → IsOrdered (slice_cmp nat_cmp) new → btree_map_len new ≤ btree_map_len middle
      → AreLeft New cs (stored store) mid (stored last) last_groups
      → ((n : ℕ) → IsStore n store → IsStore n last) → btree_map_len numbers + length cs < 2 ^ 32
      → IsIndex version new last_groups last held_bytes × (documents_of new last ≡ documents_of numbers store)
  IsIndex-back from to cs some middle new mid last_groups last entering restoring ordered shorter left kept room =
      let both =
      IsIndex-moved version new mid last_groups last held_bytes New cs left names ordered
      (λ q h. is.good q (subst IsSome (back q) h))
      (omega (arith, entering.len, shorter, room)) (left.contents version is.contents) (kept version is.kept) is.few
      (is.bytes ∙ ap body_bytes (sym (same_documents new back))) in
      (both.0, both.1 ∙ same_documents new back)
    where
      back : (q : List ℕ) → get (slice_cmp nat_cmp) new q ≡ get (slice_cmp nat_cmp) numbers q
      back q =
          restoring q ∙ ap (restored cs q) (entering.numbers_are q) ∙ numbers_back from to numbers is.ordered cs some q

      names : (m : ℕ) (q : List ℕ) → has_name last_groups (stored last) m q ≡ is_number m (get (slice_cmp nat_cmp) new q)
      names m q =
          left.names m q
          ∙ ap (λ t. t && not (leaves New cs m q)) (entering.names m q ∙ ap (λ t. t || joins cs m q) (is.names m q))
          ∙ names_back from to numbers is.ordered cs some m q
          ∙ ap (is_number m) (sym (back q))
