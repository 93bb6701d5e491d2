-- The documents of an index without their numbers.
use Rattle.std.proofs.Common.{◌≡◌, ◌≢◌, ℕ, suc, ◌*◌, ◌<◌, ◌≤◌, ◌&&◌, ◌||◌, Bool, cond, List, [], ◌∷◌, ◌++◌, map, length}
use Rattle.std.proofs.Common.{Some, None, Contains, get_or, refl, sym, ◌∙◌, ap, subst, arith}
use Rattle.std.specs.Prelude.{All, filter, sum, Result, OnOk, OnErr}
use Rattle.std.specs.List.{list_any}
use Rattle.std.specs.FinMap.{entries, keys, empty, insert, len, find, put, len-entries, len-empty, get-entries, get-from_entries}
use Rattle.std.specs.FinMap.{entries-insert}
use Rattle.std.specs.FinMap.Entries.{by_order}
use Rattle.std.specs.Ordering.{nat_cmp, is_eq}
use Rattle.std.specs.declared.cmp.Ordering.{Ordering}
use Rattle.std.specs.declared.cmp.Ordering.TheVariants.{Less, Equal, Greater}
use Rattle.std.specs.Cmp.Lexicographic.{slice_cmp, nat_list_cmp_total}
use Rattle.std.specs.List.Sorted.{IsPermutation, IsStrictlySortedBy}
use Rattle.std.proofs.lemmas.List.{length-map, map-append, nil_from_length}
use Rattle.std.proofs.lemmas.List.Elements.{All-map, All-contains, Contains-get_or}
use Rattle.std.proofs.lemmas.List.Kept.{IsStrictlySortedBy-filter}
use Rattle.std.proofs.lemmas.List.Sorted.{IsPermutation-refl, IsPermutation-sym, IsPermutation-cons, IsPermutation-trans, IsPermutation-middle, IsPermutation-map}
use Rattle.std.proofs.lemmas.List.Sorted.{list_any-IsPermutation, All-permutation, Contains-permutation, length_permutation, sum_by-IsPermutation}
use Rattle.std.proofs.lemmas.List.Sums.{length-filter}
use Rattle.std.proofs.lemmas.Cmp.{on_total}
use Rattle.std.proofs.lemmas.Map.Lookups.{exact_bytes}
use Rattle.std.proofs.lemmas.Result.{on_ok_weaker, on_err_weaker}
use Rattle.query.specs.Query.{Formula}
use Rattle.posting.specs.ListValue.{has}
use Rattle.documents.specs.Text.{IsName, IsBody}
use Rattle.prefixes.specs.Under.{begins_with}
use Rattle.documents.specs.declared.command.Command.{Command}
use Rattle.documents.specs.declared.document.Candidates.{Candidates}
use Rattle.documents.specs.Documents.{Document, Documents, document, has_under, listed, meets, is_under_any}
use Rattle.documents.specs.State.{State, applied, body_bytes, IsState}
use Rattle.documents.specs.Shared.{documents_shared, AreCandidates, NumbersTellBodies}
use Rattle.documents.specs.declared.document.SharedDocument.{SharedDocument}
use Rattle.index.specs.Private.Contents.{AreChosen}
use Rattle.index.specs.Private.Numbered.{Document as NumberedDocument, State as NumberedState}
use Rattle.index.specs.Private.Numbered.{is_chosen, meets as numbered_meets, body_bytes as numbered_bytes, has_under as numbered_has_under}
use Rattle.index.specs.Private.Numbered.{IsState as IsNumberedState, IsInNameOrder, AreFirstInNameOrder}
use Rattle.index.specs.Private.Numbered.{document_of as numbered_of, documents_shared as numbered_shared}
use Rattle.index.specs.Private.Plain.{entry, plain_documents, plain_state}
use Rattle.index.proofs.DocumentLemmas.{Contains-map, map-Contains, Contains-filter, filter-Contains, map_twice, filter_mapped, filter_same}
use Rattle.index.proofs.OrderLemmas.{Named, Named-pairs}
use Rattle.index.proofs.PrefixLemmas.{Contains-left}
use Rattle.index.proofs.ApplyLemmas.{bytes_at_most}
use Rattle.documents.proofs.RisingLemmas.{rises_by, same_elements}
use Rattle.documents.proofs.ListedLemmas.{listed-rises}

-- ---- the same documents in another order

pub put-permutes : (name body : List ℕ) (es : List (List ℕ × List ℕ)) → find (slice_cmp nat_cmp) name es ≡ None
    → IsPermutation ((name, body) ∷ es) (put (slice_cmp nat_cmp) name body es)
put-permutes name body [] none = IsPermutation-refl ((name, body) ∷ [])
put-permutes name body (e ∷ es) none = go (slice_cmp nat_cmp name e.0) none (put-permutes name body es)
  where
    go : (o : Ordering) → cond (is_eq o) (Some e.1) (find (slice_cmp nat_cmp) name es) ≡ None
        → (find (slice_cmp nat_cmp) name es ≡ None → IsPermutation ((name, body) ∷ es) (put (slice_cmp nat_cmp) name body es))
        → IsPermutation ((name, body) ∷ e ∷ es) (by_order o ((name, body) ∷ e ∷ es) ((e.0, body) ∷ es) (e ∷ put (slice_cmp nat_cmp) name body es))
    go Less none deeper = IsPermutation-refl ((name, body) ∷ e ∷ es)
    go Equal none deeper = cc
    go Greater none deeper =
        IsPermutation-trans ((name, body) ∷ e ∷ es) (e ∷ (name, body) ∷ es) (e ∷ put (slice_cmp nat_cmp) name body es)
        (IsPermutation-sym (e ∷ (name, body) ∷ es) ((name, body) ∷ e ∷ es) (IsPermutation-middle (e ∷ []) (name, body) es))
        (IsPermutation-cons e ((name, body) ∷ es) (put (slice_cmp nat_cmp) name body es) (deeper none))

none_named : (name : List ℕ) (ds : List NumberedDocument) → All (λ e. name ≢ e.name) ds → find (slice_cmp nat_cmp) name (map entry ds) ≡ None
none_named name [] differ = refl
none_named name (d ∷ ds) differ =
    go (slice_cmp nat_cmp name d.name) refl (none_named name ds (λ k x inside. differ (suc k) x (omega arith)))
  where
    go : (o : Ordering) → slice_cmp nat_cmp name d.name ≡ o → find (slice_cmp nat_cmp) name (map entry ds) ≡ None
        → cond (is_eq o) (Some d.body) (find (slice_cmp nat_cmp) name (map entry ds)) ≡ None
    go Less e rest = rest
    go Equal e rest = absurd (differ 0 d (omega arith) (exact_bytes name d.name e))
    go Greater e rest = rest

entries-permute : (ds : List NumberedDocument) → Named ds → IsPermutation (map entry ds) (entries (plain_documents ds))
entries-permute [] named =
    let none : Documents = empty in
    subst (λ (es : List (List ℕ × List ℕ)). IsPermutation [] es) (sym (nil_from_length (entries none) (sym (len-entries none) ∙ len-empty (slice_cmp nat_cmp) (List ℕ))))
    (IsPermutation-refl [])
entries-permute (d ∷ ds) named =
    let rest = plain_documents ds in
    IsPermutation-trans (entry d ∷ map entry ds) (entry d ∷ entries rest) (entries (insert rest d.name d.body))
    (IsPermutation-cons (entry d) (map entry ds) (entries rest) (entries-permute ds named.1))
    (subst (IsPermutation (entry d ∷ entries rest)) (sym (entries-insert nat_list_cmp_total rest d.name d.body))
    (put-permutes d.name d.body (entries rest)
    (sym (get-entries rest d.name) ∙ get-from_entries nat_list_cmp_total (map entry ds) d.name ∙ none_named d.name ds named.0)))

any_named : (text : List ℕ) (ds : List NumberedDocument) → list_any (begins_with text) (map (λ e. e.0) (map entry ds)) ≡ numbered_has_under text ds
any_named text [] = refl
any_named text (d ∷ ds) = ap (λ t. begins_with text d.name || t) (any_named text ds)

-- the document without its number
abbrev plain : NumberedDocument → Document
plain d = document d.name d.body

-- ---- what a state says

module _ (s : NumberedState) (is : IsNumberedState s) where
  abbrev shown : Documents
  shown = plain_documents s.documents

  permuted : IsPermutation (map plain s.documents) (listed shown)
  permuted =
      subst (λ xs. IsPermutation xs (listed shown)) (map_twice entry (λ (e : List ℕ × List ℕ). document e.0 e.1) s.documents)
      (IsPermutation-map (λ (e : List ℕ × List ℕ). document e.0 e.1) (map entry s.documents) (entries shown)
      (entries-permute s.documents (Named-pairs s.documents is.names)))

  pub length-plain : len shown ≡ length s.documents
  length-plain =
      len-entries shown
      ∙ length_permutation (map entry s.documents) (entries shown) (entries-permute s.documents (Named-pairs s.documents is.names))
      ∙ length-map s.documents entry

  pub bytes-plain : body_bytes shown ≡ numbered_bytes s.documents
  bytes-plain =
      sum_by-IsPermutation (λ n. n) (map (λ (d : Document). length d.body) (map plain s.documents)) (map (λ (d : Document). length d.body) (listed shown))
      (IsPermutation-map (λ (d : Document). length d.body) (map plain s.documents) (listed shown) permuted)
      ∙ ap sum (map_twice plain (λ (d : Document). length d.body) s.documents)

  pub bytes-most : body_bytes shown ≤ 67108864 * length s.documents
  bytes-most =
      let most = bytes_at_most s.documents (λ k d inside. (is.good k d inside).3.short) in
      omega (arith, bytes-plain, most)

  pub IsState-plain : IsState (plain_state s)
  IsState-plain =
      All-permutation (λ (d : Document). IsName d.name × IsBody d.body) (map plain s.documents) (listed shown) permuted
      (All-map (λ (d : Document). IsName d.name × IsBody d.body) plain s.documents (λ k d inside. ((is.good k d inside).2, (is.good k d inside).3)))

  plain-listed : (d : NumberedDocument) → Contains s.documents d → Contains (listed shown) (plain d)
  plain-listed d there =
      Contains-permutation (map plain s.documents) (listed shown) (plain d) permuted (Contains-map plain s.documents d there)

  listed-plain : (d : Document) → Contains (listed shown) d → (x : NumberedDocument) × Contains s.documents x × (plain x ≡ d)
  listed-plain d there =
      map-Contains plain s.documents d
      (Contains-permutation (listed shown) (map plain s.documents) d (IsPermutation-sym (map plain s.documents) (listed shown) permuted) there)

  pub has_under-plain : (text : List ℕ) → has_under text shown ≡ numbered_has_under text s.documents
  has_under-plain text =
      sym
      (list_any-IsPermutation (begins_with text) (map (λ e. e.0) (map entry s.documents)) (keys shown)
      (IsPermutation-map (λ (e : List ℕ × List ℕ). e.0) (map entry s.documents) (entries shown)
      (entries-permute s.documents (Named-pairs s.documents is.names))))
      ∙ any_named text s.documents

  -- ---- what is found for a query

  module _ (formula : Formula) (members : List ℕ) (count : ℕ) (are : AreChosen formula s.documents members count) where
    count-plain : count ≡ length (filter (meets formula) (listed shown))
    count-plain =
        are.count_is
        ∙ sym (length-map (filter (numbered_meets formula) s.documents) plain)
        ∙ ap length (sym (filter_mapped plain (meets formula) s.documents))
        ∙ length-filter (meets formula) (map plain s.documents)
        ∙ sym (sum_by-IsPermutation (λ d. cond (meets formula d) 1 0) (map plain s.documents) (listed shown) permuted)
        ∙ sym (length-filter (meets formula) (listed shown))

    abbrev both : List (List ℕ) → Document → Bool
    both texts d = meets formula d && is_under_any texts d

    chosen-both : (texts : List (List ℕ)) → filter (is_chosen members texts) s.documents ≡ filter (λ d. both texts (plain d)) s.documents
    chosen-both texts =
        filter_same (is_chosen members texts) (λ d. both texts (plain d)) s.documents (λ d there.
        ap (λ t. t && is_under_any texts (plain d)) (All-contains (λ x. has members x.number ≡ numbered_meets formula x) s.documents d are.numbers there))

    in_order-plain : (texts : List (List ℕ)) (ordered : List NumberedDocument) → IsInNameOrder (filter (is_chosen members texts) s.documents) ordered
        → map plain ordered ≡ filter (both texts) (listed shown)
    in_order-plain texts ordered order =
        same_elements (on_total (λ (d : Document). d.name) nat_list_cmp_total) (map plain ordered) (filter (both texts) (listed shown))
        (rises_by (slice_cmp nat_cmp) (λ (d : Document). d.name) (map plain ordered)
        (subst (IsStrictlySortedBy (slice_cmp nat_cmp)) (sym (map_twice plain (λ (d : Document). d.name) ordered)) order.rises))
        (IsStrictlySortedBy-filter (λ (d e : Document). slice_cmp nat_cmp d.name e.name) (both texts) (listed shown) (listed-rises shown))
        forth back
      where
        forth : (d : Document) → Contains (map plain ordered) d → Contains (filter (both texts) (listed shown)) d
        forth d h =
            let at = map-Contains plain ordered d h in
            let from = filter-Contains (λ x. both texts (plain x)) s.documents at.0
            (subst (λ xs. Contains xs at.0) (chosen-both texts) ((order.same at.0).0 at.1)) in
            subst (λ x. Contains (filter (both texts) (listed shown)) x) at.2
            (Contains-filter (both texts) (listed shown) (plain at.0) (plain-listed at.0 from.0) from.1)

        back : (d : Document) → Contains (filter (both texts) (listed shown)) d → Contains (map plain ordered) d
        back d h =
            let from = filter-Contains (both texts) (listed shown) d h in
            let at = listed-plain d from.0 in
            subst (λ x. Contains (map plain ordered) x) at.2
            (Contains-map plain ordered at.0
            ((order.same at.0).1 (subst (λ xs. Contains xs at.0) (sym (chosen-both texts))
            (Contains-filter (λ x. both texts (plain x)) s.documents at.0 at.1 (ap (both texts) at.2 ∙ from.1)))))

    -- what is handed out are documents, and their numbers tell their bodies
    pub numbers_tell-plain : (texts : List (List ℕ)) (most : ℕ) (shared : List SharedDocument)
        → AreFirstInNameOrder most (filter (is_chosen members texts) s.documents) (numbered_shared shared) → NumbersTellBodies shared
    numbers_tell-plain texts most shared first = λ i j d before inside same.
        is.same (numbered_of (get_or shared i d)) (numbered_of (get_or shared j d)) (there i d (omega arith)) (there j d inside) same
      where
        there : (k : ℕ) (d : SharedDocument) → k < length shared → Contains s.documents (numbered_of (get_or shared k d))
        there k d inside =
            let x = numbered_of (get_or shared k d) in
            let mine : Contains (numbered_shared shared) x = Contains-map numbered_of shared (get_or shared k d) (Contains-get_or shared k d inside) in
            (filter-Contains (is_chosen members texts) s.documents x
            ((first.in_order.same x).0 (Contains-left (numbered_shared shared) first.others x mine))).0

    pub candidates-plain : (texts : List (List ℕ)) (most : ℕ) (found : Candidates) → found.count ≡ count
        → AreFirstInNameOrder most (filter (is_chosen members texts) s.documents) (numbered_shared found.documents.items)
        → AreCandidates formula texts most shown found
    candidates-plain texts most found counted first =
        let items = found.documents.items in
        let same : map plain (numbered_shared items) ≡ documents_shared items = map_twice numbered_of plain items in
        record {
          count = counted ∙ count-plain;
          first = record {
            others = map plain first.others;
            whole =
                ap (λ xs. xs ++ map plain first.others) (sym same)
                ∙ sym (map-append plain (numbered_shared items) first.others)
                ∙ in_order-plain texts (numbered_shared items ++ first.others) first.in_order;
            all_or_most = λ fewer.
                ap (map plain) (first.all_or_most (omega (arith, fewer, ap length same, length-map (numbered_shared items) plain)));
          };
          same = numbers_tell-plain texts most items first;
        }

-- ---- what calls ensure

pub carried_out : {T E : Type 0} (r : Result T E) (c : Command) (old new : NumberedState) (seen : State) → plain_state old ≡ seen
    → OnOk r (plain_state new ≡ applied c (plain_state old)) → OnOk r (plain_state new ≡ applied c seen)
carried_out r c old new seen view_is ok = on_ok_weaker r (λ e. e ∙ ap (applied c) view_is) ok

pub refused : {T E : Type 0} (r : Result T E) (old new : NumberedState) (seen : State) → plain_state old ≡ seen → OnErr r (new ≡ old)
    → OnErr r (plain_state new ≡ seen)
refused r old new seen view_is err = on_err_weaker r (λ e. ap plain_state e ∙ view_is) err
