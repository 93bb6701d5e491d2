-- The index after the names of one content have gone over to another one with the same body.
use Rattle.std.proofs.Common.{◌≡◌, ℕ, ◌+◌, ◌^◌, ◌<◌, ◌≤◌, ◌==◌, ◌||◌, ◌&&◌, not, Bool, true, false, cond, List, ◌∷◌, length, take, drop, All, Contains}
use Rattle.std.proofs.Common.{Option, Some, None, refl, sym, ◌∙◌, ap, subst, arith}
use Rattle.std.specs.Prelude.{bytes_eq, option_map, IsSome}
use Rattle.std.specs.Ordering.{nat_cmp}
use Rattle.std.specs.Cmp.Lexicographic.{slice_cmp, nat_list_cmp_total}
use Rattle.std.specs.BTreeMap.{BTreeMap, get, btree_map_len, IsOrdered}
use Rattle.std.specs.FinMap.{same_map}
use Rattle.std.proofs.lemmas.Bool.{false≢true}
use Rattle.std.proofs.lemmas.Bool.Decides.{nat_tests}
use Rattle.std.proofs.lemmas.Map.Lookups.{exact_bytes}
use Rattle.index.specs.declared.store.Store.{Store}
use Rattle.index.specs.declared.copying.Copied.{Copied}
use Rattle.index.specs.declared.copying.Leaves.TheVariants.{Old}
use Rattle.documents.specs.State.{body_bytes}
use Rattle.index.specs.Private.Contents.{Groups, body_at, has_name, is_number, named}
use Rattle.index.specs.Private.Copying.{is_among, entered, joins, leaves, IsEntered, AreLeft}
use Rattle.index.specs.Private.Moving.{IsMove, AreMoves}
use Rattle.index.specs.Private.Plain.{plain_documents}
use Rattle.index.specs.Private.Store.{stored, IsStore, IsIndex}
use Rattle.index.proofs.DocumentLemmas.{same_name}
use Rattle.index.proofs.IndexLemmas.{documents_of}
use Rattle.index.proofs.NamedLemmas.{body-named}
use Rattle.index.proofs.CopyingLemmas.{AreAlike, entered-other, entered-here, joins-other, joins-here, leaves-other, leaves-here}
use Rattle.index.proofs.CopiedLemmas.{IsIndex-moved, any_found}

module _ {version : ℕ} {numbers : BTreeMap (List ℕ) ℕ} {groups : Groups} {store : Store} {held_bytes : ℕ} (is : IsIndex version numbers groups store held_bytes)
    (from to : ℕ) (differ : (from == to) ≡ false) (same : body_at (stored store) from ≡ body_at (stored store) to) (cs : List Copied)
    (each : (c : Copied) → Contains cs c → IsMove from to numbers c) where
  abbrev of_name : List ℕ → Option ℕ
  of_name q = get (slice_cmp nat_cmp) numbers q

  here : (q : List ℕ) → is_among q cs ≡ true → of_name q ≡ Some from
  here q among =
      let at = any_found (λ c. bytes_eq c.name q) cs among in
      ap of_name (sym (same_name at.0.name q at.2)) ∙ (each at.0 at.1).here

  alike : (q : List ℕ) → is_among q cs ≡ true → AreAlike q to (of_name q) cs
  alike q among c there e = ((each c there).number, (each c there).was ∙ sym (here q among))

  both_there : (x y : Bool) → (x ≡ true → y ≡ true → ⊥) → ((x || y) && not x) ≡ y
  both_there true true never = absurd (never refl refl)
  both_there true false never = refl
  both_there false true never = refl
  both_there false false never = refl

  never_both : (m : ℕ) → (from == m) ≡ true → (to == m) ≡ true → ⊥
  never_both m x y =
      let alike : (from == to) ≡ true = grind (arith, nat_tests) in
      false≢true (sym differ ∙ alike)

  names_moved : (m : ℕ) (q : List ℕ)
      → ((is_number m (of_name q) || joins cs m q) && not (leaves Old cs m q)) ≡ is_number m (entered cs q (of_name q))
  names_moved m q = go (is_among q cs) refl
    where
      plain : (x : Bool) → ((x || false) && not false) ≡ x
      plain true = refl
      plain false = refl

      go : (t : Bool) → is_among q cs ≡ t
          → ((is_number m (of_name q) || joins cs m q) && not (leaves Old cs m q)) ≡ is_number m (entered cs q (of_name q))
      go false e =
          ap (λ t. (is_number m (of_name q) || t) && not (leaves Old cs m q)) (joins-other q m cs e)
          ∙ ap (λ t. (is_number m (of_name q) || false) && not t) (leaves-other q Old m cs e)
          ∙ plain (is_number m (of_name q))
          ∙ ap (is_number m) (sym (entered-other q cs e (of_name q)))
      go true e =
          ap (λ t. (is_number m (of_name q) || t) && not (leaves Old cs m q)) (joins-here q to (of_name q) m cs (alike q e) e)
          ∙ ap (λ t. (is_number m (of_name q) || to == m) && not t)
          (leaves-here q to (of_name q) Old m (of_name q) (λ c n o. o) cs (alike q e) e)
          ∙ both_there (is_number m (of_name q)) (to == m)
          (λ x y. never_both m (sym (ap (is_number m) (here q e)) ∙ x) y)
          ∙ ap (is_number m) (sym (entered-here q to (of_name q) cs (alike q e) e (of_name q)))

  documents_same : (new : BTreeMap (List ℕ) ℕ) → ((q : List ℕ) → get (slice_cmp nat_cmp) new q ≡ entered cs q (of_name q))
      → plain_documents (named new (stored store)) ≡ documents_of numbers store
  documents_same new are =
      same_map nat_list_cmp_total exact_bytes (plain_documents (named new (stored store))) (documents_of numbers store) (λ q.
      body-named new (stored store) q
      ∙ ap (option_map (body_at (stored store))) (are q)
      ∙ go q (is_among q cs) refl
      ∙ sym (body-named numbers (stored store) q))
    where
      go : (q : List ℕ) (t : Bool) → is_among q cs ≡ t
          → option_map (body_at (stored store)) (entered cs q (of_name q)) ≡ option_map (body_at (stored store)) (of_name q)
      go q false e = ap (option_map (body_at (stored store))) (entered-other q cs e (of_name q))
      go q true e =
          ap (option_map (body_at (stored store))) (entered-here q to (of_name q) cs (alike q e) e (of_name q))
          ∙ ap Some (sym same)
          ∙ ap (option_map (body_at (stored store))) (sym (here q e))

  -- Some of the names have gone over.
  pub IsIndex-over : (new : BTreeMap (List ℕ) ℕ) (mid last_groups : Groups) (last : Store)
      → IsEntered cs (stored store) numbers groups new mid → AreLeft Old cs (stored store) mid (stored last) last_groups
      → ((n : ℕ) → IsStore n store → IsStore n last) → btree_map_len numbers + length cs < 2 ^ 32
      → IsIndex version new last_groups last held_bytes × (documents_of new last ≡ documents_of numbers store)
  IsIndex-over new mid last_groups last entering left kept room =
      let documents = documents_same new (λ q. entering.numbers_are q) in
      let both =
      IsIndex-moved is version new mid last_groups last held_bytes Old cs left names (entering.ordered is.ordered) (entering.good is.good)
      (omega (arith, entering.len, room)) (left.contents version is.contents) (kept version is.kept) is.few
      (is.bytes ∙ ap body_bytes (sym documents)) in
      (both.0, both.1 ∙ documents)
    where
      names : (m : ℕ) (q : List ℕ) → has_name last_groups (stored last) m q ≡ is_number m (get (slice_cmp nat_cmp) new q)
      names m q =
          left.names m q
          ∙ ap (λ t. t && not (leaves Old cs m q)) (entering.names m q ∙ ap (λ t. t || joins cs m q) (is.names m q))
          ∙ names_moved m q
          ∙ ap (is_number m) (sym (entering.numbers_are q))
