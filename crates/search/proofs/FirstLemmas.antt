-- From what is shown of the first candidates to what is shown of all of them.
use Rattle.std.proofs.Common.{◌≡◌, ℕ, suc, ◌⊎◌, inl, inr, Bool, true, false, List, [], ◌∷◌, ◌++◌, map, length, Contains, refl, sym, ◌∙◌, ap, subst, arith}
use Rattle.std.specs.Prelude.{All}
use Rattle.std.specs.FinMap.{len}
use Rattle.std.specs.List.{AllByRecursion}
use Rattle.std.proofs.lemmas.Bool.{true≢false}
use Rattle.std.proofs.lemmas.List.{map-append}
use Rattle.std.proofs.lemmas.List.Elements.{All-cons}
use Rattle.engine.proofs.LineLemmas.{NoFeed}
use Rattle.documents.specs.Documents.{Document, listed, is_under_any}
use Rattle.documents.specs.Shared.{document_of, documents_shared}
use Rattle.documents.specs.State.{State, IsState}
use Rattle.documents.specs.Text.{IsName}
use Rattle.documents.specs.declared.document.SharedDocument.{SharedDocument}
use Rattle.documents.proofs.ElementLemmas.{Contains-head, Contains-tail, filter-Contains}
use Rattle.prepare.specs.Pattern.{Admits, Pattern, Test, Passes}
use Rattle.prepare.specs.Prepared.{pattern_of, request_of}
use Rattle.prepare.specs.Queries.{can_have}
use Rattle.prepare.specs.declared.pattern.Prepared.{Prepared}
use Rattle.query.specs.Trigrams.{trigrams_of_body}
use Rattle.search.specs.Front.{AreFronted}
use Rattle.search.specs.Private.Gathered.{HaveOwnNames, Joins, shown_with}
use Rattle.views.specs.Scan.{candidates_of}
use Rattle.search.specs.Selects.{Selects, done, keep, skip, IsAdmitted}
use Rattle.views.specs.ShownOf.{IsShownOf}
use Rattle.search.specs.declared.gathered.Wanted.{Wanted}
use Rattle.search.specs.declared.side_by_side.Joined.{Joined}
use Rattle.search.proofs.AnswerLemmas.{shown-is}
use Rattle.search.proofs.GatherLemmas.{own-left}
use Rattle.search.proofs.JoinLemmas.{joins-over}
use Rattle.search.proofs.NameLemmas.{feedless}
use Rattle.search.proofs.SelectsLemmas.{Selects-append}
use Rattle.search.proofs.UpToLemmas.{passes_or_not}
use Rattle.search.proofs.ViewLemmas.{All-right}

-- ---- documents that were not taken

-- a document as it would have been taken
abbrev pub shared_of : Document → SharedDocument
shared_of d = record { number = 0; name = d.name; held = d.body }

pub shared-others : (taken : List SharedDocument) (others : List Document)
    → documents_shared (taken ++ map shared_of others) ≡ documents_shared taken ++ others
shared-others taken others =
    map-append document_of taken (map shared_of others) ∙ ap (λ ds. documents_shared taken ++ ds) (back others)
  where
    back : (ds : List Document) → documents_shared (map shared_of ds) ≡ ds
    back [] = refl
    back (d ∷ ds) = ap (λ xs. d ∷ xs) (back ds)

-- ---- those of them whose names pass the tests

all_or_not : (tests : List Test) (name : List ℕ) → NoFeed name → All (λ test. Passes test name) tests ⊎ (All (λ test. Passes test name) tests → ⊥)
all_or_not [] name none = inl (λ k d inside. absurd (omega arith))
all_or_not (test ∷ tests) name none = go (passes_or_not test name none) (all_or_not tests name none)
  where
    go : Passes test name ⊎ (Passes test name → ⊥) → All (λ t. Passes t name) tests ⊎ (All (λ t. Passes t name) tests → ⊥)
        → All (λ t. Passes t name) (test ∷ tests) ⊎ (All (λ t. Passes t name) (test ∷ tests) → ⊥)
    go (inl passes) (inl rest) = inl (All-cons (λ t. Passes t name) test tests passes rest)
    go (inl passes) (inr fails) = inr (λ all. fails (λ k d inside. all (suc k) d (omega arith)))
    go (inr fails) rest = inr (λ all. fails (all 0 test (omega arith)))

-- and whether they are asked for by what they begin with
admitted_or_not : (pattern : Pattern) (name : List ℕ) → NoFeed name → Admits pattern name ⊎ (Admits pattern name → ⊥)
admitted_or_not pattern name none = go (all_or_not pattern.names name none) (pattern.within name) refl
  where
    go : All (λ test. Passes test name) pattern.names ⊎ (All (λ test. Passes test name) pattern.names → ⊥) → (t : Bool) → pattern.within name ≡ t
        → Admits pattern name ⊎ (Admits pattern name → ⊥)
    go (inl passes) true is = inl (record { passes = passes; within = is })
    go (inl passes) false is = inr (λ all. true≢false (sym all.within ∙ is))
    go (inr fails) t is = inr (λ all. fails all.passes)

named-selection : (pattern : Pattern) (documents : List SharedDocument) → AllByRecursion (λ d. IsName d.name) documents
    → (kept : List SharedDocument) × Selects (IsAdmitted pattern) documents kept
named-selection pattern [] names = ([], done)
named-selection pattern (d ∷ documents) names =
    go (admitted_or_not pattern d.name (feedless d.name names.0)) (named-selection pattern documents names.1)
  where
    go : Admits pattern d.name ⊎ (Admits pattern d.name → ⊥) → ((kept : List SharedDocument) × Selects (IsAdmitted pattern) documents kept)
        → (kept : List SharedDocument) × Selects (IsAdmitted pattern) (d ∷ documents) kept
    go (inl passes) rest = (d ∷ rest.0, keep passes rest.1)
    go (inr fails) rest = (rest.0, skip fails rest.1)

each-name : (documents : List SharedDocument) → ((d : Document) → Contains (documents_shared documents) d → IsName d.name)
    → AllByRecursion (λ d. IsName d.name) documents
each-name [] each = tt
each-name (d ∷ documents) each = (
  each (document_of d) (Contains-head (document_of d) (documents_shared documents)),
  each-name documents (λ e there. each e (Contains-tail (document_of d) (documents_shared documents) e there)),
)

-- the candidates' names are names
names-are : (state : State) (pattern : Pattern) (documents : List SharedDocument) → IsState state → AreFronted state pattern (documents_shared documents)
    → AllByRecursion (λ d. IsName d.name) documents
names-are state pattern documents is order =
    each-name documents (λ d there.
    (let candidate =
    (filter-Contains (is_under_any order.fronts) (candidates_of state pattern.line) d (subst (λ ds. Contains ds d) order.are there)).0 in
    let at = (filter-Contains (λ x. can_have pattern.line (trigrams_of_body x.body)) (listed state.documents) d candidate).0 in
    subst (λ (x : Document). IsName x.name) at.2 (is at.0 d at.1).0))

-- ---- what is shown

-- Where there are more lines, or names, in the first candidates than are shown, the others change nothing.
pub part-shown : (state : State) (prepared : Prepared) (taken others kept : List SharedDocument) (wanted : Wanted) (joined : Joined)
    → IsState state → AreFronted state (pattern_of prepared) (documents_shared (taken ++ others))
    → Selects (IsAdmitted (pattern_of prepared)) taken kept → wanted.prepared.now ≡ prepared → wanted.limit ≡ prepared.limit
    → wanted.view ≡ prepared.view → (HaveOwnNames kept → Joins wanted wanted.limit kept joined) → joined.more ≡ true
    → (version documents candidates : ℕ) → version ≡ state.version → documents ≡ len state.documents
    → candidates ≡ length (candidates_of state (pattern_of prepared).line)
    → IsShownOf state (request_of prepared) (shown_with prepared.view version documents candidates joined)
part-shown state prepared taken others kept wanted joined is order named is_prepared is_limit is_view joins more version documents candidates is_version
    are_documents are_candidates =
    let names = All-right (λ d. IsName d.name) taken others (names-are state (pattern_of prepared) (taken ++ others) is order) in
    let rest = named-selection (pattern_of prepared) others names in
    shown-is state prepared (taken ++ others) (kept ++ rest.0) wanted joined order (Selects-append named rest.1) is_prepared is_limit is_view
    (λ own. joins-over wanted wanted.limit kept rest.0 joined own more (joins (own-left kept rest.0 own))) version documents candidates is_version
    are_documents are_candidates
