-- The candidates of a pattern, and those of them that are wanted.
use Rattle.std.proofs.Common.{◌≡◌, ℕ, ◌==◌, ◌&&◌, ◌||◌, not, Bool, true, false, cond, List, [], ◌∷◌, length, Contains, refl, sym, ◌∙◌, ap, subst}
use Rattle.std.specs.Prelude.{bytes_eq, filter}
use Rattle.std.specs.Ordering.{nat_cmp}
use Rattle.std.specs.Cmp.Lexicographic.{slice_cmp}
use Rattle.std.proofs.lemmas.List.Elements.{filter_agree}
use Rattle.std.proofs.lemmas.List.Kept.{IsStrictlySortedBy-filter}
use Rattle.query.specs.Trigrams.{TrigramSet, trigrams_of_body}
use Rattle.query.specs.Query.{Formula, is_met}
use Rattle.documents.specs.declared.document.SharedDocument.{SharedDocument}
use Rattle.documents.specs.Documents.{Document, RisesByName, listed, meets, is_under_any}
use Rattle.documents.specs.Shared.{document_of, documents_shared}
use Rattle.documents.specs.State.{State}
use Rattle.search.specs.Front.{AreFronted, AreFronts}
use Rattle.prefixes.specs.Under.{begins_with, is_under_one}
use Rattle.prepare.specs.Front.{IsFrontOf}
use Rattle.prepare.specs.Prepared.{pattern_of}
use Rattle.prepare.specs.declared.pattern.Prepared.{Prepared}
use Rattle.prepare.specs.Pattern.{Admits, Test, Pattern}
use Rattle.prepare.specs.Queries.{can_have}
use Rattle.views.specs.Scan.{candidates_of}
use Rattle.search.specs.Selects.{Selects, IsAdmitted}
use Rattle.documents.proofs.ListedLemmas.{listed-rises}
use Rattle.documents.proofs.ElementLemmas.{bytes_eq-refl, filter-Contains, Contains-filter}
use Rattle.search.proofs.SelectsLemmas.{Selects-map, sorted-Selects, Contains-kept, kept-Contains}
use Rattle.search.proofs.ScanLemmas.{AreWanted}

-- the formula is met exactly where the condition is
abbrev IsMetAs : Test → Formula → Type 0
IsMetAs test formula = (set : TrigramSet) → is_met formula set ≡ can_have test set

candidates_are : (s : State) (test : Test) (formula : Formula) → IsMetAs test formula → filter (meets formula) (listed s.documents) ≡ candidates_of s test
candidates_are s test formula same =
    filter_agree (meets formula) (λ d. can_have test (trigrams_of_body d.body)) (λ d. same (trigrams_of_body d.body)) (listed s.documents)

-- one test after the other
filter_both : (p q : Document → Bool) (ds : List Document) → filter q (filter p ds) ≡ filter (λ d. p d && q d) ds
filter_both p q [] = refl
filter_both p q (d ∷ ds) = go (p d) (filter_both p q ds)
  where
    go : (t : Bool) → filter q (filter p ds) ≡ filter (λ x. p x && q x) ds
        → filter q (cond t (d ∷ filter p ds) (filter p ds)) ≡ cond (t && q d) (d ∷ filter (λ x. p x && q x) ds) (filter (λ x. p x && q x) ds)
    go true rest = ap (λ kept. cond (q d) (d ∷ kept) kept) rest
    go false rest = rest

-- the documents that meet the formula, under some texts, are the candidates under them
pub candidates_under : (s : State) (pattern : Pattern) (formula : Formula) → IsMetAs pattern.line formula → (fronts : List (List ℕ))
    → filter (λ d. meets formula d && is_under_any fronts d) (listed s.documents) ≡ filter (is_under_any fronts) (candidates_of s pattern.line)
candidates_under s pattern formula same fronts =
    sym (filter_both (meets formula) (is_under_any fronts) (listed s.documents)) ∙ ap (filter (is_under_any fronts)) (candidates_are s pattern.line formula same)

fronted-rises : (s : State) (pattern : Pattern) (ds : List Document) → AreFronted s pattern ds → RisesByName ds
fronted-rises s pattern ds fronted =
    subst RisesByName (sym fronted.are)
    (IsStrictlySortedBy-filter (λ (d e : Document). slice_cmp nat_cmp d.name e.name) (is_under_any fronted.fronts) (candidates_of s pattern.line)
    (IsStrictlySortedBy-filter (λ (d e : Document). slice_cmp nat_cmp d.name e.name) (λ d. can_have pattern.line (trigrams_of_body d.body)) (listed s.documents)
    (listed-rises s.documents)))

-- The wanted documents are the candidates whose names match, in the order of their names.
pub wanted_are : (s : State) (pattern : Pattern) (taken kept : List SharedDocument)
    → AreFronted s pattern (documents_shared taken) → Selects (IsAdmitted pattern) taken kept
    → AreWanted s pattern (documents_shared kept)
wanted_are s pattern taken kept fronted named =
    let candidates = candidates_of s pattern.line in
    let selected : Selects (λ d. Admits pattern d.name) (documents_shared taken) (documents_shared kept) =
    Selects-map document_of (λ d. Admits pattern d.name) named in
    record {
      rises = sorted-Selects (λ d e. slice_cmp nat_cmp d.name e.name) selected (fronted-rises s pattern (documents_shared taken) fronted);
      exact = λ d. (
        λ h. (
            let at = Contains-kept d selected h in
            record { candidate = (filter-Contains (is_under_any fronted.fronts) candidates d (subst (λ ds. Contains ds d) fronted.are at.0)).0; admitted = at.1 }
            ),
        λ w. kept-Contains d selected
            (subst (λ ds. Contains ds d) (sym fronted.are)
            (Contains-filter (is_under_any fronted.fronts) candidates d w.candidate (fronted.named d.name w.admitted))) w.admitted,
      );
    }

pub counted : (s : State) (pattern : Pattern) (formula : Formula) → IsMetAs pattern.line formula
    → length (filter (meets formula) (listed s.documents)) ≡ length (candidates_of s pattern.line)
counted s pattern formula same = ap length (candidates_are s pattern.line formula same)

-- ---- what names begin with

-- a text with which each name begins that passes the tests
pub front_is : (pattern : Pattern) (front : List ℕ) (fronts : List (List ℕ)) → fronts ≡ front ∷ [] → IsFrontOf pattern.names front → AreFronts pattern fronts
front_is pattern front fronts are begins = λ name admitted.
    ap (λ texts. is_under_one texts name) are
    ∙ (or_none (begins_with front name) ∙ (ap (bytes_eq front) (begins name admitted.passes) ∙ bytes_eq-refl front))
  where
    or_none : (t : Bool) → (t || false) ≡ t
    or_none true = refl
    or_none false = refl

-- the prefixes that are asked for, if there are any
pub prefixes_are : (prepared : Prepared) → (length prepared.under == 0) ≡ false → AreFronts (pattern_of prepared) prepared.under
prefixes_are prepared some = λ name admitted.
    go (is_under_one prepared.under name) (is_under_one prepared.not_under name)
    (sym (ap (λ t. (t || is_under_one prepared.under name) && not (is_under_one prepared.not_under name)) some) ∙ admitted.within)
  where
    go : (s t : Bool) → (s && not t) ≡ true → s ≡ true
    go true t e = refl
    go false t e = e
