-- The index after some of the copies of a command, which then does what it would have done before.
use Rattle.std.proofs.Common.{◌≡◌, ℕ, ◌+◌, ◌^◌, ◌<◌, ◌≤◌, ◌==◌, ◌||◌, ◌&&◌, not, Bool, true, false, cond, List, [], length, Contains}
use Rattle.std.proofs.Common.{Option, Some, None, refl, sym, ◌∙◌, ap, subst, arith}
use Rattle.std.specs.Prelude.{bytes_eq, option_map, IsSome}
use Rattle.std.specs.Ordering.{nat_cmp}
use Rattle.std.specs.Cmp.Lexicographic.{slice_cmp, nat_list_cmp_total}
use Rattle.std.specs.BTreeMap.{BTreeMap, get, btree_map_len, IsOrdered}
use Rattle.std.specs.FinMap.{same_map}
use Rattle.std.specs.FinMap as map
use Rattle.std.proofs.lemmas.Bool.{false≢true}
use Rattle.std.proofs.lemmas.Bool.Decides.{nat_tests}
use Rattle.std.proofs.lemmas.Map.Lookups.{exact_bytes}
use Rattle.prefixes.specs.Under.{begins_with}
use Rattle.index.specs.declared.store.Store.{Store}
use Rattle.index.specs.declared.copying.Copied.{Copied}
use Rattle.index.specs.declared.copying.Leaves.TheVariants.{Old}
use Rattle.documents.specs.declared.command.Command.TheVariants.{CopyUnder}
use Rattle.documents.specs.Documents.{Documents, documents_after, renamed}
use Rattle.documents.specs.State.{body_bytes}
use Rattle.index.specs.Private.Contents.{Groups, body_at, has_name, is_number, named}
use Rattle.index.specs.Private.Copying.{is_among, entered, joins, leaves, AreApart, IsCopy, IsEntered, AreLeft}
use Rattle.index.specs.Private.Plain.{plain_documents}
use Rattle.index.specs.Private.Store.{stored, IsStore, IsIndex}
use Rattle.index.proofs.DocumentLemmas.{same_name}
use Rattle.index.proofs.IndexLemmas.{documents_of}
use Rattle.index.proofs.NamedLemmas.{body-named}
use Rattle.documents.proofs.RenamedLemmas.{one_or_other, copied_body, get-copied, begins_renamed}
use Rattle.index.proofs.CopyingLemmas.{AreAlike, entered-other, entered-here, joins-other, joins-here, leaves-other, leaves-here}
use Rattle.index.proofs.CopiedLemmas.{IsIndex-moved, any_found}

module _ {version : ℕ} {numbers : BTreeMap (List ℕ) ℕ} {groups : Groups} {store : Store} {held_bytes : ℕ} (is : IsIndex version numbers groups store held_bytes)
    (from to : List ℕ) (cs : List Copied) (each : (c : Copied) → Contains cs c → IsCopy from to numbers c) where
  abbrev of_name : List ℕ → Option ℕ
  of_name q = get (slice_cmp nat_cmp) numbers q

  -- what is known of a name among these
  record IsHere (q : List ℕ) : Type 0 where
    number : ℕ
    alike : AreAlike q number (of_name q) cs
    begins : begins_with to q ≡ true
    source : of_name (renamed to from q) ≡ Some number
    other : is_number number (of_name q) ≡ false

  here : (q : List ℕ) → is_among q cs ≡ true → IsHere q
  here q among =
      let at = any_found (λ c. bytes_eq c.name q) cs among in
      let copy = each at.0 at.1 in
      let name : at.0.name ≡ q = same_name at.0.name q at.2 in
      record {
        number = at.0.number;
        alike = λ c there e. alike at.0.number (ap (λ x. of_name (renamed to from x)) (sym name) ∙ copy.source) c there e;
        begins = ap (begins_with to) (sym name) ∙ copy.begins;
        source = ap (λ x. of_name (renamed to from x)) (sym name) ∙ copy.source;
        other = ap (λ x. is_number at.0.number (of_name x)) (sym name) ∙ copy.other;
      }
    where
      alike : (n : ℕ) → of_name (renamed to from q) ≡ Some n → (c : Copied) → Contains cs c → bytes_eq c.name q ≡ true → (c.number ≡ n) × (c.old ≡ of_name q)
      alike n found c there e =
          let copy = each c there in
          let name : c.name ≡ q = same_name c.name q e in
          let same : Some c.number ≡ Some n = sym copy.source ∙ ap (λ x. of_name (renamed to from x)) name ∙ found in
          (cc, copy.was ∙ ap of_name name)

  both_there : (x y : Bool) → (x ≡ true → y ≡ true → ⊥) → ((x || y) && not x) ≡ y
  both_there true true never = absurd (never refl refl)
  both_there true false never = refl
  both_there false true never = refl
  both_there false false never = refl

  names_part : (m : ℕ) (q : List ℕ)
      → ((is_number m (of_name q) || joins cs m q) && not (leaves Old cs m q)) ≡ is_number m (entered cs q (of_name q))
  names_part m q = go (is_among q cs) refl
    where
      plain : (x : Bool) → ((x || false) && not false) ≡ x
      plain true = refl
      plain false = refl

      go : (t : Bool) → is_among q cs ≡ t
          → ((is_number m (of_name q) || joins cs m q) && not (leaves Old cs m q)) ≡ is_number m (entered cs q (of_name q))
      go false e =
          ap (λ t. (is_number m (of_name q) || t) && not (leaves Old cs m q)) (joins-other q m cs e)
          ∙ ap (λ t. (is_number m (of_name q) || false) && not t) (leaves-other q Old m cs e)
          ∙ plain (is_number m (of_name q))
          ∙ ap (is_number m) (sym (entered-other q cs e (of_name q)))
      go true e =
          let at = here q e in
          ap (λ t. (is_number m (of_name q) || t) && not (leaves Old cs m q)) (joins-here q at.number (of_name q) m cs at.alike e)
          ∙ ap (λ t. (is_number m (of_name q) || at.number == m) && not t)
          (leaves-here q at.number (of_name q) Old m (of_name q) (λ c n o. o) cs at.alike e)
          ∙ both_there (is_number m (of_name q)) (at.number == m) (λ x y.
          (let same : at.number ≡ m = grind (arith, nat_tests) in
          false≢true (sym at.other ∙ (ap (λ k. is_number k (of_name q)) same ∙ x))))
          ∙ ap (is_number m) (sym (entered-here q at.number (of_name q) cs at.alike e (of_name q)))

  -- Some of the copies are there.
  pub IsIndex-part : (new : BTreeMap (List ℕ) ℕ) (mid last_groups : Groups) (last : Store) (bytes : ℕ)
      → IsEntered cs (stored store) numbers groups new mid → AreLeft Old cs (stored store) mid (stored last) last_groups
      → ((n : ℕ) → IsStore n store → IsStore n last) → btree_map_len numbers + length cs < 2 ^ 32
      → bytes ≡ body_bytes (plain_documents (named new (stored store)))
      → IsIndex version new last_groups last bytes × (documents_of new last ≡ plain_documents (named new (stored store)))
  IsIndex-part new mid last_groups last bytes entering left kept room counted =
      IsIndex-moved is version new mid last_groups last bytes Old cs left names (entering.ordered is.ordered) (entering.good is.good)
      (omega (arith, entering.len, room)) (left.contents version is.contents) (kept version is.kept) is.few counted
    where
      names : (m : ℕ) (q : List ℕ) → has_name last_groups (stored last) m q ≡ is_number m (get (slice_cmp nat_cmp) new q)
      names m q =
          left.names m q
          ∙ ap (λ t. t && not (leaves Old cs m q)) (entering.names m q ∙ ap (λ t. t || joins cs m q) (is.names m q))
          ∙ names_part m q
          ∙ ap (is_number m) (sym (entering.numbers_are q))

  module _ (new : BTreeMap (List ℕ) ℕ) (are : (q : List ℕ) → get (slice_cmp nat_cmp) new q ≡ entered cs q (of_name q)) where
    abbrev before : Documents
    before = documents_of numbers store

    abbrev now : Documents
    now = plain_documents (named new (stored store))

    abbrev bodies : Option ℕ → Option (List ℕ)
    bodies o = option_map (body_at (stored store)) o

    under_now : (q : List ℕ) → map.get now q ≡ bodies (entered cs q (of_name q))
    under_now q = body-named new (stored store) q ∙ ap bodies (are q)

    under_before : (q : List ℕ) → map.get before q ≡ bodies (of_name q)
    under_before q = body-named numbers (stored store) q

    stays : (q : List ℕ) → is_among q cs ≡ false → map.get now q ≡ map.get before q
    stays q e = under_now q ∙ ap bodies (entered-other q cs e (of_name q)) ∙ sym (under_before q)

    module _ (apart : AreApart from to) where
      source_stays : (q : List ℕ) → map.get now (renamed to from q) ≡ map.get before (renamed to from q)
      source_stays q = go (is_among (renamed to from q) cs) refl
        where
          go : (t : Bool) → is_among (renamed to from q) cs ≡ t → map.get now (renamed to from q) ≡ map.get before (renamed to from q)
          go false e = stays (renamed to from q) e
          go true e = absurd (apart (renamed to from q) (begins_renamed to from q) (here (renamed to from q) e).begins)

      -- The command leaves the same documents.
      pub same_after : documents_after (CopyUnder from to) now ≡ documents_after (CopyUnder from to) before
      same_after =
          same_map nat_list_cmp_total exact_bytes (documents_after (CopyUnder from to) now) (documents_after (CopyUnder from to) before) (λ q.
          get-copied from to q now
          ∙ ap (λ o. one_or_other (cond (begins_with to q) o None) (map.get now q)) (source_stays q)
          ∙ go q (is_among q cs) refl
          ∙ sym (get-copied from to q before))
        where
          go : (q : List ℕ) (t : Bool) → is_among q cs ≡ t
              → one_or_other (copied_body from to q before) (map.get now q) ≡ one_or_other (copied_body from to q before) (map.get before q)
          go q false e = ap (one_or_other (copied_body from to q before)) (stays q e)
          go q true e =
              let at = here q e in
              let found : copied_body from to q before ≡ Some (body_at (stored store) at.number) =
              ap (λ t. cond t (map.get before (renamed to from q)) None) at.begins ∙ under_before (renamed to from q) ∙ ap bodies at.source in
              ap (λ o. one_or_other o (map.get now q)) found ∙ sym (ap (λ o. one_or_other o (map.get before q)) found)

    -- Without any, the documents are the same.
    pub same_without : cs ≡ [] → now ≡ before
    same_without none =
        same_map nat_list_cmp_total exact_bytes now before (λ q. stays q (ap (is_among q) none))
