-- The documents that have some contents.
use Rattle.std.proofs.Common.{◌≡◌, ℕ, ◌+◌, ◌<◌, ◌≤◌, ◌^◌, ◌&&◌, Bool, true, false, cond, List, [], ◌∷◌, ◌++◌, map, length, take, drop, get_or, Contains, refl, sym, ◌∙◌, ap, subst, arith}
use Rattle.std.specs.Prelude.{filter, not}
use Rattle.std.specs.FinMap.{entries, len, len-entries}
use Rattle.std.proofs.Math.ListN.{drop_of_length-le}
use Rattle.std.proofs.lemmas.List.{take_more, take-append-drop, length-take, length-map, map-append, map_push}
use Rattle.std.proofs.lemmas.List.Elements.{Contains-append_left, Contains-get_or}
use Rattle.std.proofs.lemmas.List.Filters.{length-filter_both}
use Rattle.query.specs.Query.{Formula}
use Rattle.prefixes.specs.Under.{is_under_one}
use Rattle.documents.specs.declared.document.SharedDocument.{SharedDocument}
use Rattle.documents.specs.declared.document.Candidates.{Candidates}
use Rattle.documents.specs.Documents.{Document, document, listed, meets, is_under_any}
use Rattle.documents.specs.Shared.{AreCandidates, NumbersTellBodies, documents_shared}
use Rattle.documents.proofs.ElementLemmas.{Contains-head, Contains-tail, Contains-map, filter-Contains, map_twice, filter_mapped}
use Rattle.names.specs.declared.content.Named.{Named}
use Rattle.names.specs.Contents.{Contents, entry_of, entries_of}
use Rattle.segments.specs.Contents.{Content as Trigrams, has, selected}
use Rattle.versions.specs.Private.Version.{Entry, plain, bodies_of, IsVersion}
use Rattle.versions.specs.Private.Gathered.{shared_entry, shared_entries, is_chosen, is_wanted, AreFirstEntries, AreGathered}
use Rattle.versions.proofs.BodyLemmas.{entries-bodies, entry_found}
use Rattle.versions.proofs.SaidLemmas.{selected_is}

-- ---- the first entries

first_taken : (most : ℕ) (all first : List Entry) → first ≡ take most all → AreFirstEntries most all first
first_taken most all first is = record {
  others = drop most all;
  whole = ap (λ xs. xs ++ drop most all) is ∙ take-append-drop most all;
  all_or_most = λ fewer. drop_of_length-le all (let same = ap length is in let long = length-take most all in let e : length all ≤ most = omega (arith, fewer, same, long) in e);
}

filter_both : (p q : Entry → Bool) (es : List Entry) → filter q (filter p es) ≡ filter (λ e. p e && q e) es
filter_both p q [] = refl
filter_both p q (e ∷ es) = go (p e) (q e) (filter_both p q es)
  where
    go : (t u : Bool) → filter q (filter p es) ≡ filter (λ e. p e && q e) es
        → filter q (cond t (e ∷ filter p es) (filter p es)) ≡ cond (t && q e) (e ∷ filter (λ e. p e && q e) es) (filter (λ e. p e && q e) es)
    go true u rest = ap (λ (xs : List Entry). cond (q e) (e ∷ xs) xs) rest
    go false u rest = rest

-- what is gathered of the names with these contents
gathered_all : (numbers : List ℕ) (texts : List (List ℕ)) (most : ℕ) (es : List Entry) (found : Candidates) → found.count ≡ length (filter (is_chosen numbers) es)
    → shared_entries found.documents.items ≡ take most (filter (λ e. is_under_one texts e.0) (filter (is_chosen numbers) es)) → AreGathered numbers texts most es found
gathered_all numbers texts most es found count first = record {
  count = count;
  first =
      first_taken most (filter (is_wanted numbers texts) es) (shared_entries found.documents.items)
      (first ∙ ap (take most) (filter_both (is_chosen numbers) (λ e. is_under_one texts e.0) es));
}

-- ---- what a corpus promises

abbrev shown : Entry → Document
shown e = document e.0 e.1.held

filter_agree_in : (p q : Entry → Bool) (es : List Entry) → ((e : Entry) → Contains es e → p e ≡ q e) → filter p es ≡ filter q es
filter_agree_in p q [] same = refl
filter_agree_in p q (e ∷ es) same =
    ap (λ (t : Bool). cond t (e ∷ filter p es) (filter p es)) (same e (Contains-head e es))
    ∙ ap (λ (xs : List Entry). cond (q e) (e ∷ xs) xs) (filter_agree_in p q es (λ x there. same x (Contains-tail e es x there)))

module _ (version analysed : ℕ) (contents : Contents) (all : List Trigrams) (is : IsVersion version analysed contents all)
    (formula : Formula) (numbers : List ℕ) (texts : List (List ℕ)) (most : ℕ) (found : Candidates)
    (whole : version ≤ analysed) (chosen : (n : ℕ) → has numbers n ≡ has (selected formula all) n)
    (gathered : AreGathered numbers texts most (entries contents) found) where
  listed_are : listed (bodies_of contents) ≡ map shown (entries contents)
  listed_are =
      ap (map (λ (e : List ℕ × List ℕ). document e.0 e.1)) (entries-bodies contents)
      ∙ map_twice plain (λ (e : List ℕ × List ℕ). document e.0 e.1) (entries contents)

  chosen_is : (e : Entry) → Contains (entries contents) e → is_chosen numbers e ≡ meets formula (shown e)
  chosen_is e there =
      let entry = is.named e.0 e.1 (entry_found contents e there) in
      chosen e.1.number ∙ selected_is formula all e.1 is.differ (entry.is_said (let less = entry.before in omega (arith, less, whole)))

  filtered : (p : Document → Bool) (q : Entry → Bool) → ((e : Entry) → Contains (entries contents) e → q e ≡ p (shown e))
      → map shown (filter q (entries contents)) ≡ filter p (listed (bodies_of contents))
  filtered p q same =
      ap (map shown) (filter_agree_in q (λ e. p (shown e)) (entries contents) same)
      ∙ (sym (filter_mapped shown p (entries contents)) ∙ ap (filter p) (sym listed_are))

  shared_is : (ds : List SharedDocument) → map shown (shared_entries ds) ≡ documents_shared ds
  shared_is ds = map_twice shared_entry shown ds

  from_names : (d : SharedDocument) → Contains found.documents.items d → Contains (entries contents) (shared_entry d)
  from_names d there =
      (filter-Contains (is_wanted numbers texts) (entries contents) (shared_entry d)
      (subst (λ xs. Contains xs (shared_entry d)) gathered.first.whole
      (Contains-append_left (shared_entries found.documents.items) gathered.first.others (shared_entry d)
      (Contains-map shared_entry found.documents.items d there)))).0

  numbers_tell : NumbersTellBodies found.documents.items
  numbers_tell = λ i j d before inside same.
      (let one = get_or found.documents.items i d in
      let other = get_or found.documents.items j d in
      is.same one.name other.name (shared_entry one).1 (shared_entry other).1
      (entry_found contents (shared_entry one) (from_names one (Contains-get_or found.documents.items i d (omega (arith, before, inside)))))
      (entry_found contents (shared_entry other) (from_names other (Contains-get_or found.documents.items j d inside))) same)

  pub candidates_are : AreCandidates formula texts most (bodies_of contents) found
  candidates_are = record {
    count =
        gathered.count
        ∙ (sym (length-map (filter (is_chosen numbers) (entries contents)) shown) ∙ ap length (filtered (meets formula) (is_chosen numbers) chosen_is));
    first = record {
      others = map shown gathered.first.others;
      whole =
          ap (λ xs. xs ++ map shown gathered.first.others) (sym (shared_is found.documents.items))
          ∙ (sym (map-append shown (shared_entries found.documents.items) gathered.first.others)
          ∙ (ap (map shown) gathered.first.whole
          ∙ filtered (λ d. meets formula d && is_under_any texts d) (is_wanted numbers texts) (λ e there. ap (λ (t : Bool). t && is_under_one texts e.0) (chosen_is e there))));
      all_or_most = λ fewer.
          ap (map shown) (gathered.first.all_or_most (let same = ap length (shared_is found.documents.items) in let long = length-map (shared_entries found.documents.items) shown in omega (arith, fewer, same, long)));
    };
    same = numbers_tell;
  }

-- ---- what is found among the names

pub few_chosen : (numbers : List ℕ) (contents : Contents) (count : ℕ) → count ≡ length (filter (is_chosen numbers) (entries contents))
    → len contents < 2 ^ 32 → count < 2 ^ 32
few_chosen numbers contents count are few =
    let parts = length-filter_both (is_chosen numbers) (λ e. not (is_chosen numbers e)) (λ e. refl) (entries contents) in
    let all = len-entries contents in
    omega (arith, are, parts, all, few)

pub found_are : (version : ℕ) (contents : Contents) (all : List Trigrams) → IsVersion version version contents all → (formula : Formula)
    (numbers ready : List ℕ) (texts : List (List ℕ)) (most : ℕ) (found : Candidates)
    → ((n : ℕ) → has numbers n ≡ has (selected formula all) n) → ready ≡ numbers → found.count ≡ length (filter (is_chosen ready) (entries contents))
    → shared_entries found.documents.items ≡ take most (filter (λ e. is_under_one texts e.0) (filter (is_chosen ready) (entries contents)))
    → AreCandidates formula texts most (bodies_of contents) found
found_are version contents all is formula numbers ready texts most found chosen ready_is count first =
    candidates_are version version contents all is formula ready texts most found (omega arith)
    (λ n. ap (λ ns. has ns n) ready_is ∙ chosen n)
    (gathered_all ready texts most (entries contents) found count first)

-- ---- one document more

pub documents_next : (named : List Named) (at : ℕ) (n : Named) (old new : List SharedDocument) (d : SharedDocument) → at < length named → n ≡ get_or named at n
    → shared_entries old ≡ entries_of (take at named) → shared_entry d ≡ entry_of n → new ≡ old ++ d ∷ []
    → shared_entries new ≡ entries_of (take (at + 1) named)
documents_next named at n old new d inside n_is are same new_is =
    ap shared_entries new_is
    ∙ (map_push shared_entry old d
    ∙ (ap (λ (xs : List Entry). xs ++ shared_entry d ∷ []) are
    ∙ (ap (λ (x : Entry). entries_of (take at named) ++ x ∷ []) (same ∙ ap entry_of n_is)
    ∙ sym (ap entries_of (take_more named at n inside) ∙ map_push entry_of (take at named) (get_or named at n)))))
