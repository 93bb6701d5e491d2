-- Documents whose names begin with a text, taken out one after the other.
use Rattle.std.proofs.Common.{◌≡◌, ℕ, ◌||◌, Bool, true, false, cond, List, [], ◌∷◌, map, Option, Some, None, refl, sym, ◌∙◌, ap, subst}
use Rattle.std.specs.Prelude.{IsSome, bytes_eq}
use Rattle.std.specs.Ordering.{nat_cmp, is_eq, is_le, is_gt}
use Rattle.std.specs.Cmp.Lexicographic.{slice_cmp, texts_ties}
use Rattle.std.specs.BTreeMap.{BTreeMap, get}
use Rattle.std.specs.BTreeMap.Range.{IsRangeOf}
use Rattle.std.specs.declared.ops.Bound.TheVariants.{Included, Unbounded}
use Rattle.std.specs.declared.cmp.Ordering.{Ordering}
use Rattle.std.specs.declared.cmp.Ordering.TheVariants.{Less, Equal, Greater}
use Rattle.std.proofs.lemmas.Bool.{false≢true}
use Rattle.prefixes.specs.Under.{begins_with}
use Rattle.std.specs.BTreeSet.{BTreeSet, contains, IsKeyRangeOf}
use Rattle.std.specs.Cmp.Lexicographic.{nat_list_cmp_total}
use Rattle.std.specs.FinMap.{find, remove, get-remove, get-from_entries, same_map}
use Rattle.std.specs.FinMap as fin
use Rattle.std.proofs.lemmas.Map.Lookups.{exact_bytes}
use Rattle.documents.specs.declared.command.Command.TheVariants.{RemoveUnder}
use Rattle.documents.specs.Documents.{Documents, documents_after}
use Rattle.index.specs.Private.Numbered.{Document, document_at, number_of, has_under}
use Rattle.index.specs.Private.Contents.{Groups, has_name, is_name_in}
use Rattle.index.specs.Private.Plain.{entry, plain_documents}
use Rattle.index.proofs.DocumentLemmas.{same_name, bytes_eq-refl}
use Rattle.documents.proofs.LawLemmas.{get-removed_under}
use Rattle.index.proofs.UnderLemmas.{none_behind}
use Rattle.prefixes.proofs.UnderLemmas.{begins_le}

-- ---- the entries from a text on

le_not_gt : (o : Ordering) → is_le o ≡ true → is_gt o ≡ false
le_not_gt Less e = refl
le_not_gt Equal e = refl
le_not_gt Greater e = absurd (false≢true e)

not_gt_le : (o : Ordering) → is_gt o ≡ false → is_le o ≡ true
not_gt_le Less e = refl
not_gt_le Equal e = refl
not_gt_le Greater e = absurd (false≢true (sym e))

module _ (text : List ℕ) (numbers : BTreeMap (List ℕ) ℕ) where
  pub none_from : (entries : List (List ℕ × ℕ)) → entries ≡ [] → IsRangeOf (slice_cmp nat_cmp) (Included text) Unbounded numbers entries
      → (name : List ℕ) → begins_with text name ≡ true → get (slice_cmp nat_cmp) numbers name ≡ None
  none_from entries none is name begins = is.5 none name (le_not_gt (slice_cmp nat_cmp text name) (begins_le text name begins), tt)

  -- the first name there begins with the text, or no name does
  pub none_but_first : (entries rest : List (List ℕ × ℕ)) (first : List ℕ) (number : ℕ) → entries ≡ (first, number) ∷ rest
      → begins_with text first ≡ false → IsRangeOf (slice_cmp nat_cmp) (Included text) Unbounded numbers entries
      → (name : List ℕ) → begins_with text name ≡ true → get (slice_cmp nat_cmp) numbers name ≡ None
  none_but_first entries rest first number next other is name begins = go (get (slice_cmp nat_cmp) numbers name) refl
    where
      whole : IsRangeOf (slice_cmp nat_cmp) (Included text) Unbounded numbers ((first, number) ∷ rest)
      whole = subst (IsRangeOf (slice_cmp nat_cmp) (Included text) Unbounded numbers) next is

      apart : (o : Ordering) → slice_cmp nat_cmp first name ≡ o → is_gt o ≡ false → ⊥
      apart Less e le =
          false≢true (sym (none_behind text first name (not_gt_le (slice_cmp nat_cmp text first) whole.1.0.0) e other) ∙ begins)
      apart Equal e le = false≢true (sym other ∙ (ap (begins_with text) (same_name first name (texts_ties first name ∙ ap is_eq e)) ∙ begins))
      apart Greater e le = false≢true (sym le)

      go : (found : Option ℕ) → get (slice_cmp nat_cmp) numbers name ≡ found → found ≡ None
      go None e = refl
      go (Some n) e =
          let above = whole.2 name (le_not_gt (slice_cmp nat_cmp text name) (begins_le text name begins), tt) (subst IsSome (sym e) refl) in
          absurd (apart (slice_cmp nat_cmp first name) refl above)

-- ---- documents by their names

pub none_under : (text : List ℕ) (ds : List Document) → ((name : List ℕ) → begins_with text name ≡ true → number_of name ds ≡ None)
    → has_under text ds ≡ false
unfolding number_of
none_under text [] none = refl
none_under text (d ∷ ds) none =
    go (begins_with text d.name) refl (none_under text ds (λ name begins. later name (bytes_eq d.name name) (none name begins)))
  where
    later : (name : List ℕ) (t : Bool) → cond t (Some d.number) (number_of name ds) ≡ None → number_of name ds ≡ None
    later name true e = cc
    later name false e = e

    here : (t : Bool) → t ≡ true → cond t (Some d.number) (number_of d.name ds) ≡ None → ⊥
    here true e none = cc
    here false e none = false≢true e

    go : (t : Bool) → begins_with text d.name ≡ t → has_under text ds ≡ false → (t || has_under text ds) ≡ false
    go true e rest = absurd (here (bytes_eq d.name d.name) (bytes_eq-refl d.name) (none d.name e))
    go false e rest = rest

-- without one that goes, the same stay
pub still_without : (text name : List ℕ) (ds : Documents) → begins_with text name ≡ true
    → documents_after (RemoveUnder text) (remove ds name) ≡ documents_after (RemoveUnder text) ds
still_without text name ds begins =
    same_map nat_list_cmp_total exact_bytes (documents_after (RemoveUnder text) (remove ds name)) (documents_after (RemoveUnder text) ds) (λ q.
    get-removed_under text q (remove ds name)
    ∙ go q (begins_with text q) refl
    ∙ sym (get-removed_under text q ds))
  where
    apart : (q : List ℕ) → begins_with text q ≡ false → (o : Ordering) → slice_cmp nat_cmp q name ≡ o → cond (is_eq o) None (fin.get ds q) ≡ fin.get ds q
    apart q other Less e = refl
    apart q other Greater e = refl
    apart q other Equal e = absurd (false≢true (sym other ∙ (ap (begins_with text) (exact_bytes q name e) ∙ begins)))

    go : (q : List ℕ) (t : Bool) → begins_with text q ≡ t → cond t None (fin.get (remove ds name) q) ≡ cond t None (fin.get ds q)
    go q true e = refl
    go q false e = get-remove nat_list_cmp_total ds name q ∙ apart q e (slice_cmp nat_cmp q name) refl

-- where none has to go, all stay
pub all_stay : (text : List ℕ) (ds : Documents) → ((q : List ℕ) → begins_with text q ≡ true → fin.get ds q ≡ None) → documents_after (RemoveUnder text) ds ≡ ds
all_stay text ds none =
    same_map nat_list_cmp_total exact_bytes (documents_after (RemoveUnder text) ds) ds (λ q.
    get-removed_under text q ds ∙ go q (begins_with text q) refl)
  where
    go : (q : List ℕ) (t : Bool) → begins_with text q ≡ t → cond t None (fin.get ds q) ≡ fin.get ds q
    go q true e = sym (none q e)
    go q false e = refl

pub no_body_under : (text : List ℕ) (ds : List Document) → has_under text ds ≡ false → (q : List ℕ) → begins_with text q ≡ true
    → fin.get (plain_documents ds) q ≡ None
no_body_under text ds none q begins = get-from_entries nat_list_cmp_total (map entry ds) q ∙ go ds none
  where
    go : (ds : List Document) → has_under text ds ≡ false → find (slice_cmp nat_cmp) q (map entry ds) ≡ None
    go [] none = refl
    go (d ∷ ds) none = pick (begins_with text d.name) refl none (slice_cmp nat_cmp q d.name) refl (go ds)
      where
        pick : (t : Bool) → begins_with text d.name ≡ t → (t || has_under text ds) ≡ false → (o : Ordering) → slice_cmp nat_cmp q d.name ≡ o
            → (has_under text ds ≡ false → find (slice_cmp nat_cmp) q (map entry ds) ≡ None)
            → cond (is_eq o) (Some d.body) (find (slice_cmp nat_cmp) q (map entry ds)) ≡ None
        pick true t none o e deeper = absurd (false≢true (sym none))
        pick false t none Less e deeper = deeper none
        pick false t none Greater e deeper = deeper none
        pick false t none Equal e deeper = absurd (false≢true (sym t ∙ (ap (begins_with text) (sym (exact_bytes q d.name e)) ∙ begins)))

-- ---- the names of one content

module _ (text : List ℕ) (names : BTreeSet (List ℕ)) where
  pub no_name_from : (keys : List (List ℕ)) → keys ≡ [] → IsKeyRangeOf (slice_cmp nat_cmp) (Included text) Unbounded names keys
      → (name : List ℕ) → begins_with text name ≡ true → contains (slice_cmp nat_cmp) names name ≡ false
  no_name_from keys none is name begins = is.5 none name (le_not_gt (slice_cmp nat_cmp text name) (begins_le text name begins), tt)

  -- the first name there begins with the text, or none does
  pub no_name_but_first : (keys rest : List (List ℕ)) (first : List ℕ) → keys ≡ first ∷ rest → begins_with text first ≡ false
      → IsKeyRangeOf (slice_cmp nat_cmp) (Included text) Unbounded names keys
      → (name : List ℕ) → begins_with text name ≡ true → contains (slice_cmp nat_cmp) names name ≡ false
  no_name_but_first keys rest first next other is name begins = go (contains (slice_cmp nat_cmp) names name) refl
    where
      whole : IsKeyRangeOf (slice_cmp nat_cmp) (Included text) Unbounded names (first ∷ rest)
      whole = subst (IsKeyRangeOf (slice_cmp nat_cmp) (Included text) Unbounded names) next is

      apart : (o : Ordering) → slice_cmp nat_cmp first name ≡ o → is_gt o ≡ false → ⊥
      apart Less e le =
          false≢true (sym (none_behind text first name (not_gt_le (slice_cmp nat_cmp text first) whole.1.0.0) e other) ∙ begins)
      apart Equal e le = false≢true (sym other ∙ (ap (begins_with text) (same_name first name (texts_ties first name ∙ ap is_eq e)) ∙ begins))
      apart Greater e le = false≢true (sym le)

      go : (found : Bool) → contains (slice_cmp nat_cmp) names name ≡ found → found ≡ false
      go false e = refl
      go true e =
          let above = whole.2 name (le_not_gt (slice_cmp nat_cmp text name) (begins_le text name begins), tt) e in
          absurd (apart (slice_cmp nat_cmp first name) refl above)

  pub is_first_name : (keys rest : List (List ℕ)) (first : List ℕ) → keys ≡ first ∷ rest
      → IsKeyRangeOf (slice_cmp nat_cmp) (Included text) Unbounded names keys → contains (slice_cmp nat_cmp) names first ≡ true
  is_first_name keys rest first next is =
      (subst (IsKeyRangeOf (slice_cmp nat_cmp) (Included text) Unbounded names) next is).1.1

-- a content without an entry
module _ (groups : Groups) (contents : List Document) (number : ℕ) (text : List ℕ) (single : get nat_cmp groups number ≡ None) where
  pub no_name_kept : document_at number contents ≡ None → (name : List ℕ) → begins_with text name ≡ true → has_name groups contents number name ≡ false
  no_name_kept none name begins =
      ap (λ s. is_name_in s (document_at number contents) name) single ∙ ap (λ o. is_name_in None o name) none

  pub no_name_kept_under : (d : List ℕ × List ℕ) → document_at number contents ≡ Some d → begins_with text d.0 ≡ false
      → (name : List ℕ) → begins_with text name ≡ true → has_name groups contents number name ≡ false
  no_name_kept_under d at other name begins =
      ap (λ s. is_name_in s (document_at number contents) name) single ∙ ap (λ o. is_name_in None o name) at ∙ go (bytes_eq d.0 name) refl
    where
      go : (t : Bool) → bytes_eq d.0 name ≡ t → t ≡ false
      go false e = refl
      go true e = absurd (false≢true (sym other ∙ (ap (begins_with text) (same_name d.0 name e) ∙ begins)))

  pub name_kept : (d : List ℕ × List ℕ) → document_at number contents ≡ Some d → has_name groups contents number d.0 ≡ true
  name_kept d at =
      ap (λ s. is_name_in s (document_at number contents) d.0) single ∙ ap (λ o. is_name_in None o d.0) at ∙ bytes_eq-refl d.0
