-- What an index keeps, from one command to the next.
use Rattle.std.proofs.Common.{◌≡◌, ℕ, ◌+◌, ◌-◌, ◌^◌, ◌<◌, ◌≤◌, ◌==◌, ◌||◌, ◌&&◌, not, Bool, true, false, cond, List, [], map, length, Option, Some, None, refl, sym, ◌∙◌, ap}
use Rattle.std.proofs.Common.{subst, arith}
use Rattle.std.specs.Prelude.{bytes_eq, is_some, option_map, IsSome, IfSome}
use Rattle.std.specs.Ordering.{nat_cmp, is_eq}
use Rattle.std.specs.Cmp.Lexicographic.{slice_cmp, nat_list_cmp_total, texts_ties}
use Rattle.std.specs.List.Sorted.{IsStrictlySortedBy}
use Rattle.std.specs.BTreeMap.{BTreeMap, get, is_at, btree_map_len, IsOrdered, IsUnchanged}
use Rattle.std.specs.BTreeSet.{BTreeSet, IsOrdered as names_in_order}
use Rattle.std.specs.Map.{keys_of, lookup}
use Rattle.std.specs.FinMap.{insert, remove, get-insert, get-remove, same_map}
use Rattle.std.specs.FinMap as map
use Rattle.std.proofs.lemmas.Bool.{false≢true}
use Rattle.std.proofs.lemmas.Bool.Decides.{nat_tests}
use Rattle.std.proofs.lemmas.Map.Lookups.{exact_bytes}
use Rattle.documents.specs.Text.{IsName, IsBody}
use Rattle.index.specs.declared.store.Store.{Store}
use Rattle.documents.specs.Documents.{Documents}
use Rattle.documents.specs.State.{body_bytes}
use Rattle.index.specs.Private.Numbered.{Document, document_at, body_bytes as content_bytes}
use Rattle.index.specs.Private.Contents.{Groups, AreContents, AreGroupsOf, HasNames, IsLeft, body_of, body_at, has_name, is_kept_with, is_name_in, is_number, with_name, named}
use Rattle.index.specs.Private.Plain.{plain_documents}
use Rattle.index.specs.Private.Slots.{with_body_at}
use Rattle.index.specs.Private.Store.{stored, IsStore, IsIndex}
use Rattle.index.proofs.DocumentLemmas.{same_name, bytes_eq-refl}
use Rattle.index.proofs.StoredLemmas.{document_at-replaced}
use Rattle.index.proofs.ApplyLemmas.{AreContents-none, AreContents-later, AreContents-replace, bytes-contents}
use Rattle.index.proofs.BytesLemmas.{bytes-none, bytes-without}
use Rattle.documents.proofs.ListedLemmas.{ties}
use Rattle.index.proofs.NamedLemmas.{shown, body-named, content_of_number}

abbrev pub documents_of : BTreeMap (List ℕ) ℕ → Store → Documents
documents_of numbers store = plain_documents (named numbers (stored store))

pub later_store : (version : ℕ) (store : Store) → IsStore version store → IsStore (version + 1) store
later_store version store is = record {
  slots = record { rise = is.slots.rise; below = λ k d inside. (let low = is.slots.below k d inside in omega arith) };
  few = is.few;
  sets = is.sets;
  counted = is.counted;
  bytes = is.bytes;
}

-- the count of bytes still fits in 64 bits with one more body
pub room_for_bytes : (version : ℕ) (ds : List Document) (body : List ℕ) → AreContents version ds → IsBody body → version < 2 ^ 32
    → content_bytes ds + length body < 2 ^ 64
room_for_bytes version ds body are is_body few =
    let most = bytes-contents version ds are in
    let short = is_body.short in
    omega arith

-- the index of nothing
pub IsIndex-none : (numbers : BTreeMap (List ℕ) ℕ) (groups : Groups) (store : Store) → numbers.entries ≡ [] → IsOrdered (slice_cmp nat_cmp) numbers
    → groups.entries ≡ [] → stored store ≡ [] → IsStore 0 store → IsIndex 0 numbers groups store 0
unfolding document_at
IsIndex-none numbers groups store no_numbers ordered no_groups nothing kept = record {
  kept = kept;
  contents = subst (AreContents 0) (sym nothing) AreContents-none;
  groups_of = record {
    there = λ n h. absurd (false≢true (subst (λ es. IsSome (lookup (is_at (nat_cmp n)) es)) no_groups h));
    ordered = λ n. subst (λ es. IfSome (lookup (is_at (nat_cmp n)) es) (names_in_order (slice_cmp nat_cmp))) (sym no_groups) tt;
  };
  names = λ n q.
      ap (λ es. is_name_in (lookup (is_at (nat_cmp n)) es) (document_at n (stored store)) q) no_groups
      ∙ ap (λ ds. is_kept_with q (document_at n ds)) nothing
      ∙ sym (ap (λ es. is_number n (lookup (is_at (slice_cmp nat_cmp q)) es)) no_numbers);
  ordered = ordered;
  good = λ q h. absurd (false≢true (subst (λ es. IsSome (lookup (is_at (slice_cmp nat_cmp q)) es)) no_numbers h));
  fewer = omega (arith, ap length no_numbers);
  bytes = sym (ap (λ es. body_bytes (plain_documents (map (shown (stored store)) es))) no_numbers ∙ bytes-none);
  few = omega arith;
}

-- ---- documents that are put in and taken out

-- a name with another number, where the bodies under other names stay
pub put-named : (old new : BTreeMap (List ℕ) ℕ) (before after : List Document) (name body : List ℕ) (number : ℕ)
    → ((q : List ℕ) → get (slice_cmp nat_cmp) new q ≡ cond (bytes_eq name q) (Some number) (get (slice_cmp nat_cmp) old q))
    → body_at after number ≡ body
    → ((q : List ℕ) (n : ℕ) → get (slice_cmp nat_cmp) old q ≡ Some n → bytes_eq name q ≡ false → body_at after n ≡ body_at before n)
    → plain_documents (named new after) ≡ insert (plain_documents (named old before)) name body
put-named old new before after name body number entered here others =
    same_map nat_list_cmp_total exact_bytes (plain_documents (named new after)) (insert (plain_documents (named old before)) name body) (λ q.
    body-named new after q
    ∙ ap (option_map (body_at after)) (entered q)
    ∙ go q (bytes_eq name q) refl (get (slice_cmp nat_cmp) old q) refl
    ∙ ap (λ t. cond t (Some body) (option_map (body_at before) (get (slice_cmp nat_cmp) old q))) (ties name q)
    ∙ ap (cond (is_eq (slice_cmp nat_cmp q name)) (Some body)) (sym (body-named old before q))
    ∙ sym (get-insert nat_list_cmp_total (plain_documents (named old before)) name body q))
  where
    go : (q : List ℕ) (t : Bool) → bytes_eq name q ≡ t → (found : Option ℕ) → get (slice_cmp nat_cmp) old q ≡ found
        → option_map (body_at after) (cond t (Some number) found) ≡ cond t (Some body) (option_map (body_at before) found)
    go q true e found f = ap Some here
    go q false e None f = refl
    go q false e (Some n) f = ap Some (others q n f e)

pub removed-named : (old new : BTreeMap (List ℕ) ℕ) (before after : List Document) (name : List ℕ)
    → ((q : List ℕ) → get (slice_cmp nat_cmp) new q ≡ cond (bytes_eq name q) None (get (slice_cmp nat_cmp) old q))
    → ((q : List ℕ) (n : ℕ) → get (slice_cmp nat_cmp) old q ≡ Some n → bytes_eq name q ≡ false → body_at after n ≡ body_at before n)
    → plain_documents (named new after) ≡ remove (plain_documents (named old before)) name
removed-named old new before after name removed others =
    same_map nat_list_cmp_total exact_bytes (plain_documents (named new after)) (remove (plain_documents (named old before)) name) (λ q.
    body-named new after q
    ∙ ap (option_map (body_at after)) (removed q)
    ∙ go q (bytes_eq name q) refl (get (slice_cmp nat_cmp) old q) refl
    ∙ ap (λ t. cond t None (option_map (body_at before) (get (slice_cmp nat_cmp) old q))) (ties name q)
    ∙ ap (cond (is_eq (slice_cmp nat_cmp q name)) None) (sym (body-named old before q))
    ∙ sym (get-remove nat_list_cmp_total (plain_documents (named old before)) name q))
  where
    go : (q : List ℕ) (t : Bool) → bytes_eq name q ≡ t → (found : Option ℕ) → get (slice_cmp nat_cmp) old q ≡ found
        → option_map (body_at after) (cond t None found) ≡ cond t None (option_map (body_at before) found)
    go q true e found f = refl
    go q false e None f = refl
    go q false e (Some n) f = ap Some (others q n f e)

-- ---- tests of names

-- a name that joined one content and left another has the number of the first alone
moved : (name q : List ℕ) (number n : ℕ) (of_name of_q : Option ℕ) → (bytes_eq name q ≡ true → of_q ≡ of_name) → is_number number of_name ≡ false
    → ((is_number n of_q || (number == n && bytes_eq name q)) && not (is_number n of_name && bytes_eq name q))
    ≡ is_number n (cond (bytes_eq name q) (Some number) of_q)
moved name q number n of_name of_q same other = go (bytes_eq name q) same (number == n) refl (is_number n of_name) refl
  where
    go : (t : Bool) → (t ≡ true → of_q ≡ of_name) → (u : Bool) → (number == n) ≡ u → (v : Bool) → is_number n of_name ≡ v
        → ((is_number n of_q || (u && t)) && not (v && t)) ≡ is_number n (cond t (Some number) of_q)
    go true alike true here true there =
        let is : number ≡ n = grind (arith, nat_tests) in
        absurd (false≢true (sym other ∙ (ap (λ k. is_number k of_name) is ∙ there)))
    go true alike true here false there = or_true (is_number n of_q) ∙ sym here
      where
        or_true : (b : Bool) → ((b || true) && true) ≡ true
        or_true true = refl
        or_true false = refl
    go true alike false here true there = and_false (is_number n of_q || false) ∙ sym here
      where
        and_false : (b : Bool) → (b && false) ≡ false
        and_false true = refl
        and_false false = refl
    go true alike false here false there =
        let none : is_number n of_q ≡ false = ap (is_number n) (alike refl) ∙ there in
        ap (λ b. (b || false) && true) none ∙ sym here
    go false alike u here v there = plain (is_number n of_q) u v
      where
        plain : (b u v : Bool) → ((b || (u && false)) && not (v && false)) ≡ b
        plain true true true = refl
        plain true true false = refl
        plain true false true = refl
        plain true false false = refl
        plain false true true = refl
        plain false true false = refl
        plain false false true = refl
        plain false false false = refl

-- a name that left its content has no number
gone : (name q : List ℕ) (n : ℕ) (of_name of_q : Option ℕ) → (bytes_eq name q ≡ true → of_q ≡ of_name)
    → (is_number n of_q && not (is_number n of_name && bytes_eq name q)) ≡ is_number n (cond (bytes_eq name q) None of_q)
gone name q n of_name of_q same = go (bytes_eq name q) same
  where
    go : (t : Bool) → (t ≡ true → of_q ≡ of_name) → (is_number n of_q && not (is_number n of_name && t)) ≡ is_number n (cond t None of_q)
    go true alike = ap (λ o. is_number n o && not (is_number n of_name && true)) (alike refl) ∙ never (is_number n of_name)
      where
        never : (b : Bool) → (b && not (b && true)) ≡ false
        never true = refl
        never false = refl
    go false alike = always (is_number n of_q) (is_number n of_name)
      where
        always : (b c : Bool) → (b && not (c && false)) ≡ b
        always true true = refl
        always true false = refl
        always false true = refl
        always false false = refl

same_number : (n : ℕ) → (n == n) ≡ true
same_number n = grind (arith, nat_tests)

-- a change at the place of a name
pub changed_at : (old new : BTreeMap (List ℕ) ℕ) (name : List ℕ) (left : Option ℕ)
    → ((q : List ℕ) → get (slice_cmp nat_cmp) new q ≡ cond (is_at (slice_cmp nat_cmp name) q) left (get (slice_cmp nat_cmp) old q))
    → (q : List ℕ) → get (slice_cmp nat_cmp) new q ≡ cond (bytes_eq name q) left (get (slice_cmp nat_cmp) old q)
changed_at old new name left updates q = updates q ∙ ap (λ t. cond t left (get (slice_cmp nat_cmp) old q)) (sym (texts_ties name q))

-- ---- from one index to the next

module _ {version : ℕ} {numbers : BTreeMap (List ℕ) ℕ} {groups : Groups} {store : Store} {held_bytes : ℕ} (is : IsIndex version numbers groups store held_bytes) where
  abbrev of_name : List ℕ → Option ℕ
  of_name q = get (slice_cmp nat_cmp) numbers q

  alike : (name q : List ℕ) → bytes_eq name q ≡ true → of_name q ≡ of_name name
  alike name q e = ap of_name (sym (same_name name q e))

  has_number : (q : List ℕ) (n : ℕ) → of_name q ≡ Some n → has_name groups (stored store) n q ≡ true
  has_number q n found = is.names n q ∙ ap (is_number n) found ∙ same_number n

  pub IsIndex-room : (new : Store) → stored new ≡ stored store → IsStore version new → IsIndex version numbers groups new held_bytes
  IsIndex-room new same kept = record {
    kept = kept;
    contents = subst (AreContents version) (sym same) is.contents;
    groups_of = subst (λ ds. AreGroupsOf ds groups) (sym same) is.groups_of;
    names = λ n q. ap (λ ds. has_name groups ds n q) same ∙ is.names n q;
    ordered = is.ordered;
    good = is.good;
    fewer = is.fewer;
    bytes = is.bytes ∙ ap (λ ds. body_bytes (plain_documents (named numbers ds))) (sym same);
    few = is.few;
  }

  pub IsIndex-unchanged : (new : BTreeMap (List ℕ) ℕ) → IsUnchanged numbers new → IsIndex version new groups store held_bytes
  IsIndex-unchanged new same = record {
    kept = is.kept;
    contents = is.contents;
    groups_of = is.groups_of;
    names = λ n q. is.names n q ∙ ap (λ es. is_number n (lookup (is_at (slice_cmp nat_cmp q)) es)) (sym same);
    ordered = subst (λ es. IsStrictlySortedBy (slice_cmp nat_cmp) (keys_of es)) (sym same) is.ordered;
    good = λ q h. is.good q (subst (λ es. IsSome (lookup (is_at (slice_cmp nat_cmp q)) es)) same h);
    fewer = omega (arith, ap length same, is.fewer);
    bytes = is.bytes ∙ ap (λ es. body_bytes (plain_documents (map (shown (stored store)) es))) (sym same);
    few = is.few;
  }

  pub IsIndex-groups : (new : Groups) → HasNames (has_name groups (stored store)) (stored store) groups new → IsIndex version numbers new store held_bytes
  IsIndex-groups new has = record {
    kept = is.kept;
    contents = is.contents;
    groups_of = has.groups_of is.groups_of;
    names = λ n q. has.names n q ∙ is.names n q;
    ordered = is.ordered;
    good = is.good;
    fewer = is.fewer;
    bytes = is.bytes;
    few = is.few;
  }

  pub IsIndex-later : version + 1 < 2 ^ 32 → IsIndex (version + 1) numbers groups store held_bytes
  IsIndex-later few = record {
    kept = later_store version store is.kept;
    contents = AreContents-later version (stored store) is.contents;
    groups_of = is.groups_of;
    names = is.names;
    ordered = is.ordered;
    good = is.good;
    fewer = omega (arith, is.fewer);
    bytes = is.bytes;
    few = few;
  }

  -- The name joins a content, which is perhaps a new one, and leaves the one that it had.
  pub IsIndex-put : (name body : List ℕ) (number : ℕ) (new : BTreeMap (List ℕ) ℕ) (mid : List Document) (mid_groups last_groups : Groups) (last : Store) (bytes : ℕ)
      → is_number number (of_name name) ≡ false
      → ((q : List ℕ) → get (slice_cmp nat_cmp) new q ≡ cond (bytes_eq name q) (Some number) (of_name q))
      → IsOrdered (slice_cmp nat_cmp) new → btree_map_len new ≤ btree_map_len numbers + 1 → btree_map_len numbers + 1 < 2 ^ 32 → IsName name
      → ((m : ℕ) (q : List ℕ) → has_name mid_groups mid m q ≡ with_name number name (has_name groups (stored store)) m q)
      → ((m : ℕ) (q : List ℕ) → has_name groups (stored store) m q ≡ true → body_at mid m ≡ body_at (stored store) m)
      → body_at mid number ≡ body → AreContents (version + 1) mid
      → IsLeft (of_name name) name mid mid_groups (stored last) last_groups → IsStore (version + 1) last → version + 1 < 2 ^ 32
      → bytes ≡ body_bytes (insert (documents_of numbers store) name body)
      → IsIndex (version + 1) new last_groups last bytes × (documents_of new last ≡ insert (documents_of numbers store) name body)
  IsIndex-put name body number new mid mid_groups last_groups last bytes other entered ordered longer room is_name joined stay here are left kept few counted = (
    record {
      kept = kept;
      contents = left.contents (version + 1) are;
      groups_of = left.groups_of;
      names = names;
      ordered = ordered;
      good = λ q h. good q (bytes_eq name q) refl (subst IsSome (entered q) h);
      fewer = omega (arith, longer, room);
      bytes = counted ∙ ap body_bytes (sym documents);
      few = few;
    },
    documents,
  )
    where
      names : (n : ℕ) (q : List ℕ) → has_name last_groups (stored last) n q ≡ is_number n (get (slice_cmp nat_cmp) new q)
      names n q =
          left.names n q
          ∙ ap (λ b. b && not (is_number n (of_name name) && bytes_eq name q)) (joined n q)
          ∙ ap (λ b. (b || (number == n && bytes_eq name q)) && not (is_number n (of_name name) && bytes_eq name q)) (is.names n q)
          ∙ moved name q number n (of_name name) (of_name q) (alike name q) other
          ∙ ap (is_number n) (sym (entered q))

      good : (q : List ℕ) (t : Bool) → bytes_eq name q ≡ t → IsSome (cond (bytes_eq name q) (Some number) (of_name q)) → IsName q
      good q true e h = subst IsName (same_name name q e) is_name
      good q false e h = is.good q (subst (λ t. IsSome (cond t (Some number) (of_name q))) e h)

      others : (q : List ℕ) (n : ℕ) → of_name q ≡ Some n → bytes_eq name q ≡ false → body_at (stored last) n ≡ body_at (stored store) n
      others q n found e =
          let has : has_name last_groups (stored last) n q ≡ true =
          names n q ∙ ap (is_number n) (entered q) ∙ ap (λ t. is_number n (cond t (Some number) (of_name q))) e ∙ ap (is_number n) found ∙ same_number n in
          left.bodies n q has ∙ stay n q (has_number q n found)

      at_name : has_name last_groups (stored last) number name ≡ true
      at_name =
          names number name
          ∙ ap (is_number number) (entered name)
          ∙ ap (λ t. is_number number (cond t (Some number) (of_name name))) (bytes_eq-refl name)
          ∙ same_number number

      documents : documents_of new last ≡ insert (documents_of numbers store) name body
      documents =
          put-named numbers new (stored store) (stored last) name body number entered (left.bodies number name at_name ∙ here) others

  -- The name leaves the content that it had, if it had one.
  pub IsIndex-remove : (name : List ℕ) (new : BTreeMap (List ℕ) ℕ) (last_groups : Groups) (last : Store) (bytes : ℕ)
      → ((q : List ℕ) → get (slice_cmp nat_cmp) new q ≡ cond (bytes_eq name q) None (of_name q))
      → IsOrdered (slice_cmp nat_cmp) new → btree_map_len new ≤ btree_map_len numbers
      → IsLeft (of_name name) name (stored store) groups (stored last) last_groups → IsStore version last
      → bytes ≡ body_bytes (remove (documents_of numbers store) name)
      → IsIndex version new last_groups last bytes × (documents_of new last ≡ remove (documents_of numbers store) name)
  IsIndex-remove name new last_groups last bytes removed ordered shorter left kept counted = (
    record {
      kept = kept;
      contents = left.contents version is.contents;
      groups_of = left.groups_of;
      names = names;
      ordered = ordered;
      good = λ q h. good q (bytes_eq name q) refl (subst IsSome (removed q) h);
      fewer = omega (arith, shorter, is.fewer);
      bytes = counted ∙ ap body_bytes (sym documents);
      few = is.few;
    },
    documents,
  )
    where
      names : (n : ℕ) (q : List ℕ) → has_name last_groups (stored last) n q ≡ is_number n (get (slice_cmp nat_cmp) new q)
      names n q =
          left.names n q
          ∙ ap (λ b. b && not (is_number n (of_name name) && bytes_eq name q)) (is.names n q)
          ∙ gone name q n (of_name name) (of_name q) (alike name q)
          ∙ ap (is_number n) (sym (removed q))

      good : (q : List ℕ) (t : Bool) → bytes_eq name q ≡ t → IsSome (cond (bytes_eq name q) None (of_name q)) → IsName q
      good q true e h = absurd (false≢true (subst (λ t. IsSome (cond t None (of_name q))) e h))
      good q false e h = is.good q (subst (λ t. IsSome (cond t None (of_name q))) e h)

      others : (q : List ℕ) (n : ℕ) → of_name q ≡ Some n → bytes_eq name q ≡ false → body_at (stored last) n ≡ body_at (stored store) n
      others q n found e =
          let has : has_name last_groups (stored last) n q ≡ true =
          names n q ∙ ap (is_number n) (removed q) ∙ ap (λ t. is_number n (cond t None (of_name q))) e ∙ ap (is_number n) found ∙ same_number n in
          left.bodies n q has

      documents : documents_of new last ≡ remove (documents_of numbers store) name
      documents = removed-named numbers new (stored store) (stored last) name removed others

  -- The document of an own handle to a name is taken out.
  module _ (name own : List ℕ) (number size : ℕ) (same : name ≡ own) (found : Some number ≡ of_name name) (sized : size ≡ length (body_at (stored store) number)) where
    own_number : of_name own ≡ Some number
    own_number = ap of_name (sym same) ∙ sym found

    pub body-taken : map.get (documents_of numbers store) own ≡ Some (body_at (stored store) number)
    body-taken = body-named numbers (stored store) own ∙ ap (option_map (body_at (stored store))) own_number

    pub size-taken : size ≤ held_bytes
    size-taken = omega (arith, is.bytes, sized, bytes-without (documents_of numbers store) own (body_at (stored store) number) body-taken)

    pub IsIndex-take : (new : BTreeMap (List ℕ) ℕ) (last_groups : Groups) (last : Store)
        → ((q : List ℕ) → get (slice_cmp nat_cmp) new q ≡ cond (is_at (slice_cmp nat_cmp name) q) None (of_name q))
        → IsOrdered (slice_cmp nat_cmp) new → btree_map_len new ≤ btree_map_len numbers
        → IsLeft (Some number) own (stored store) groups (stored last) last_groups → IsStore version last
        → IsIndex version new last_groups last (held_bytes - size) × (documents_of new last ≡ remove (documents_of numbers store) own)
    IsIndex-take new last_groups last removed ordered shorter left kept =
        let counted : held_bytes - size ≡ body_bytes (remove (documents_of numbers store) own) =
        omega (arith, is.bytes, sized, bytes-without (documents_of numbers store) own (body_at (stored store) number) body-taken) in
        IsIndex-remove own new last_groups last (held_bytes - size)
        (λ q. changed_at numbers new name None removed q ∙ ap (λ k. cond (bytes_eq k q) None (of_name q)) same) ordered shorter
        (subst (λ o. IsLeft o own (stored store) groups (stored last) last_groups) (sym own_number) left) kept counted

  -- The content of this name alone gets another body.
  pub IsIndex-replace : (name body : List ℕ) (number : ℕ) (last : Store) (bytes : ℕ) → of_name name ≡ Some number
      → ((q : List ℕ) → of_name q ≡ Some number → bytes_eq name q ≡ true) → IsBody body
      → stored last ≡ map (with_body_at number body) (stored store) → IsStore version last → version + 1 < 2 ^ 32
      → bytes ≡ body_bytes (insert (documents_of numbers store) name body)
      → IsIndex (version + 1) numbers groups last bytes × (documents_of numbers last ≡ insert (documents_of numbers store) name body)
  IsIndex-replace name body number last bytes found only is_body replaced kept few counted = (
    record {
      kept = later_store version last kept;
      contents = subst (AreContents (version + 1)) (sym replaced) (AreContents-replace version (stored store) number body is_body is.contents);
      groups_of = record {
        there = λ n h. subst IsSome (sym (at n)) (still n (n == number) (document_at n (stored store)) (is.groups_of.there n h));
        ordered = is.groups_of.ordered;
      };
      names = λ n q.
          ap (λ o. is_name_in (get nat_cmp groups n) o q) (at n)
          ∙ names_stay n q (get nat_cmp groups n) (n == number) (document_at n (stored store))
          ∙ is.names n q;
      ordered = is.ordered;
      good = is.good;
      fewer = omega (arith, is.fewer);
      bytes = counted ∙ ap body_bytes (sym documents);
      few = few;
    },
    documents,
  )
    where
      at : (n : ℕ) → document_at n (stored last) ≡ cond (n == number) (option_map (λ d. (d.0, body)) (document_at n (stored store))) (document_at n (stored store))
      at n = ap (document_at n) replaced ∙ document_at-replaced number body (stored store) n

      still : (n : ℕ) (t : Bool) (o : Option (List ℕ × List ℕ)) → IsSome o → IsSome (cond t (option_map (λ d. (d.0, body)) o) o)
      still n true None h = h
      still n true (Some d) h = refl
      still n false o h = h

      names_stay : (n : ℕ) (q : List ℕ) (names : Option (BTreeSet (List ℕ))) (t : Bool) (o : Option (List ℕ × List ℕ))
          → is_name_in names (cond t (option_map (λ d. (d.0, body)) o) o) q ≡ is_name_in names o q
      names_stay n q (Some names) t o = refl
      names_stay n q None true None = refl
      names_stay n q None true (Some d) = refl
      names_stay n q None false o = refl

      here : body_at (stored last) number ≡ body
      here =
          ap body_of (at number)
          ∙ ap (λ t. body_of (cond t (option_map (λ d. (d.0, body)) (document_at number (stored store))) (document_at number (stored store)))) (same_number number)
          ∙ go (document_at number (stored store)) (content_there)
        where
          content_there : IsSome (document_at number (stored store))
          content_there = content_of_number is name number found

          go : (o : Option (List ℕ × List ℕ)) → IsSome o → body_of (option_map (λ d. (d.0, body)) o) ≡ body
          go None h = absurd (false≢true h)
          go (Some d) h = refl

      others : (q : List ℕ) (n : ℕ) → of_name q ≡ Some n → bytes_eq name q ≡ false → body_at (stored last) n ≡ body_at (stored store) n
      others q n of_q e = ap body_of (at n) ∙ go (n == number) refl
        where
          go : (t : Bool) → (n == number) ≡ t
              → body_of (cond t (option_map (λ d. (d.0, body)) (document_at n (stored store))) (document_at n (stored store))) ≡ body_at (stored store) n
          go false f = refl
          go true f =
              let same : n ≡ number = grind (arith, nat_tests) in
              absurd (false≢true (sym e ∙ only q (of_q ∙ ap Some same)))

      documents : documents_of numbers last ≡ insert (documents_of numbers store) name body
      documents =
          put-named numbers numbers (stored store) (stored last) name body number entered here others
        where
          entered : (q : List ℕ) → of_name q ≡ cond (bytes_eq name q) (Some number) (of_name q)
          entered q = go (bytes_eq name q) refl
            where
              go : (t : Bool) → bytes_eq name q ≡ t → of_name q ≡ cond t (Some number) (of_name q)
              go true e = alike name q e ∙ found
              go false e = refl

  -- The name has the body already.
  pub same-put : (name body : List ℕ) (number : ℕ) → of_name name ≡ Some number → body_at (stored store) number ≡ body
      → documents_of numbers store ≡ insert (documents_of numbers store) name body
  same-put name body number found here =
      put-named numbers numbers (stored store) (stored store) name body number entered here (λ q n of_q e. refl)
    where
      entered : (q : List ℕ) → of_name q ≡ cond (bytes_eq name q) (Some number) (of_name q)
      entered q = go (bytes_eq name q) refl
        where
          go : (t : Bool) → bytes_eq name q ≡ t → of_name q ≡ cond t (Some number) (of_name q)
          go true e = alike name q e ∙ found
          go false e = refl

  -- A name that joined another content still has its own.
  pub still_left : (name : List ℕ) (number : ℕ) (new : Groups)
      → ((m : ℕ) (q : List ℕ) → has_name new (stored store) m q ≡ with_name number name (has_name groups (stored store)) m q)
      → (old : Option ℕ) → old ≡ of_name name → IfSome old (λ n. has_name new (stored store) n name ≡ true)
  still_left name number new joined None e = tt
  still_left name number new joined (Some n) e =
      joined n name ∙ ap (λ b. b || ((number == n) && bytes_eq name name)) (has_number name n (sym e))

-- ---- what calls of the map ensure

-- `insert` of a copied name
pub inserted_name : (old new : BTreeMap (List ℕ) ℕ) (name key : List ℕ) (number : ℕ) → key ≡ name
    → ((q : List ℕ) → get (slice_cmp nat_cmp) new q ≡ cond (is_at (slice_cmp nat_cmp key) q) (Some number) (get (slice_cmp nat_cmp) old q))
    → (q : List ℕ) → get (slice_cmp nat_cmp) new q ≡ cond (bytes_eq name q) (Some number) (get (slice_cmp nat_cmp) old q)
inserted_name old new name key number same updates q =
    updates q
    ∙ (ap (λ t. cond t (Some number) (get (slice_cmp nat_cmp) old q)) (sym (texts_ties key q))
    ∙ ap (λ n. cond (bytes_eq n q) (Some number) (get (slice_cmp nat_cmp) old q)) same)

-- one more entry at most
pub longer : (old : Option ℕ) (before after : ℕ) → after ≡ before + cond (is_some old) 0 1 → after ≤ before + 1
longer None before after same = omega arith
longer (Some n) before after same = omega arith

pub shorter : {X : Type 0} (old : Option X) (before after : ℕ) → after + cond (is_some old) 1 0 ≡ before → after ≤ before
shorter None before after same = omega arith
shorter (Some x) before after same = omega arith
