-- From what is gathered of the documents that were taken out of an index to what is shown of the answer in its state.
use Rattle.std.proofs.Common.{◌≡◌, ◌≢◌, ℕ, suc, ◌⊎◌, inl, inr, Bool, true, false, None, List, [], ◌∷◌, length, drop, Contains, refl, sym, ◌∙◌, ap, subst, arith}
use Rattle.std.specs.FinMap.{len}
use Rattle.std.specs.List.{AllByRecursion, AllPairs}
use Rattle.std.specs.Str.{bytes_eq}
use Rattle.std.specs.Ordering.{nat_cmp, is_eq}
use Rattle.std.specs.Cmp.Lexicographic.{slice_cmp}
use Rattle.std.specs.List.Sorted.{IsStrictlySortedBy}
use Rattle.std.specs.declared.cmp.Ordering.TheVariants.{Less}
use Rattle.std.proofs.lemmas.Map.Text.{is_eq-slice_cmp}
use Rattle.documents.specs.Documents.{Document, RisesByName, listed}
use Rattle.documents.specs.Shared.{document_of, documents_shared}
use Rattle.documents.specs.State.{State}
use Rattle.documents.specs.declared.document.SharedDocument.{SharedDocument}
use Rattle.documents.proofs.ListedLemmas.{names_differ}
use Rattle.documents.proofs.ElementLemmas.{Contains-cons, Contains-head, Contains-tail, bytes_eq-refl, bytes_eq-sym, filter-Contains, same_name}
use Rattle.query.specs.Trigrams.{trigrams_of_body}
use Rattle.request.specs.declared.options.View.{View}
use Rattle.request.specs.declared.options.View.TheVariants as view
use Rattle.search.specs.Front.{AreFronted}
use Rattle.prepare.specs.Prepared.{pattern_of, request_of}
use Rattle.search.specs.Private.Gathered.{AreGathered, Gathers, HaveBodies, HaveOwnNames, Joins, shown_with, kept_of, trimmed, with_limit}
use Rattle.prepare.specs.Request.{Request}
use Rattle.views.specs.Found.{Hit}
use Rattle.views.specs.Scan.{IsScanOf, candidates_of}
use Rattle.prepare.specs.Queries.{can_have}
use Rattle.search.specs.Private.Documents.{lines_of_taken}
use Rattle.search.specs.Selects.{Selects, IsAsked, IsAdmitted}
use Rattle.prepare.specs.Tests.{test_of}
use Rattle.views.specs.Text.{text_of_rows}
use Rattle.views.specs.ShownOf.{IsShownOf}
use Rattle.views.specs.Rows.{AreRows, at_most, body_of, is_over, limited, total}
use Rattle.views.specs.View.{Row}
use Rattle.search.specs.declared.gathered.Gathered.{Gathered}
use Rattle.search.specs.declared.gathered.Wanted.{Wanted}
use Rattle.prepare.specs.declared.pattern.Prepared.{Prepared}
use Rattle.search.specs.declared.side_by_side.Joined.{Joined}
use Rattle.search.proofs.CandidateLemmas.{wanted_are}
use Rattle.search.proofs.ScanLemmas.{AreWanted}
use Rattle.search.proofs.TakenLemmas.{found_hits}
use Rattle.std.specs.Prelude.{flat_map}

-- ---- names

apart-above : (name : List ℕ) (documents : List SharedDocument)
    → AllByRecursion (λ d. slice_cmp nat_cmp name d.name ≡ Less) (documents_shared documents)
    → AllByRecursion (λ e. bytes_eq e.name name ≡ false) documents
apart-above name [] above = tt
apart-above name (d ∷ documents) above =
    (bytes_eq-sym d.name name ∙ (sym (is_eq-slice_cmp name d.name) ∙ ap is_eq above.0), apart-above name documents above.1)

pub own-rises : (documents : List SharedDocument) → RisesByName (documents_shared documents) → HaveOwnNames documents
unfolding IsStrictlySortedBy
own-rises [] rises = tt
own-rises (d ∷ documents) rises = (apart-above d.name documents rises.0, own-rises documents rises.1)

-- ---- bodies

names-tail : (x : Document) (all : List Document) → AllPairs (λ d e. d.name ≢ e.name) (x ∷ all) → AllPairs (λ d e. d.name ≢ e.name) all
names-tail x all pairs = λ i j d low inside. pairs (suc i) (suc j) d (omega arith) (omega arith)

name-head : (x : Document) (all : List Document) → AllPairs (λ d e. d.name ≢ e.name) (x ∷ all) → (d : Document) → Contains all d → x.name ≢ d.name
name-head x all pairs d there = λ same.
    pairs 0 (suc there.0) d (omega arith) (omega (arith, there.1)) (same ∙ ap (λ (e : Document). e.name) (sym there.2))

-- the body of a document is that under its name
body_there : (all : List Document) → AllPairs (λ d e. d.name ≢ e.name) all → (d : Document) → Contains all d → body_of d.name all ≡ d.body
body_there [] pairs d there = absurd (omega (arith, there.1))
body_there (x ∷ all) pairs d there = go (Contains-cons x all d there) (body_there all (names-tail x all pairs) d)
  where
    here : x ≡ d → body_of d.name (x ∷ all) ≡ d.body
    here is = subst (λ e. body_of e.name (x ∷ all) ≡ e.body) is (rw (bytes_eq-refl x.name) refl)

    later : (b : Bool) → bytes_eq x.name d.name ≡ b → Contains all d → (Contains all d → body_of d.name all ≡ d.body)
        → body_of d.name (x ∷ all) ≡ d.body
    later true e rest deeper = absurd (name-head x all pairs d rest (same_name x.name d.name e))
    later false e rest deeper = rw e (deeper rest)

    go : (x ≡ d) ⊎ Contains all d → (Contains all d → body_of d.name all ≡ d.body) → body_of d.name (x ∷ all) ≡ d.body
    go (inl is) deeper = here is
    go (inr rest) deeper = later (bytes_eq x.name d.name) refl rest deeper

each-body : (all : List Document) (documents : List SharedDocument)
    → ((d : Document) → Contains (documents_shared documents) d → body_of d.name all ≡ d.body) → HaveBodies all documents
each-body all [] each = tt
each-body all (d ∷ documents) each = (
  each (document_of d) (Contains-head (document_of d) (documents_shared documents)),
  each-body all documents (λ e there. each e (Contains-tail (document_of d) (documents_shared documents) e there)),
)

-- ---- what is shown

final-rows : (request : Request) (shown : View) (all : List Document) (hits : List Hit) (rows : List Row) → AreGathered request shown all hits rows
    → AreRows request shown all hits (trimmed shown rows)
unfolding AreGathered AreRows
final-rows request view.Lines all hits rows are = are
final-rows request (view.Context most) all hits rows are = ap (λ rs. drop 1 rs) are
final-rows request view.Column all hits rows are = are
final-rows request view.Spans all hits rows are = are
final-rows request view.Names all hits rows are = are
final-rows request view.Counts all hits rows are = are
final-rows request view.Header all hits rows are = are

module _ (state : State) (prepared : Prepared) (taken kept : List SharedDocument) (wanted : Wanted) (joined : Joined)
    (order : AreFronted state (pattern_of prepared) (documents_shared taken))
    (named : Selects (IsAdmitted (pattern_of prepared)) taken kept)
    (is_prepared : wanted.prepared.now ≡ prepared) (is_limit : wanted.limit ≡ prepared.limit) (is_view : wanted.view ≡ prepared.view)
    (joins : HaveOwnNames kept → Joins wanted wanted.limit kept joined) where
  are : AreWanted state (pattern_of prepared) (documents_shared kept)
  are = wanted_are state (pattern_of prepared) taken kept order named

  own : HaveOwnNames kept
  own = own-rises kept are.rises

  is : Joins wanted wanted.limit kept joined
  is = joins own

  bodies : HaveBodies (listed state.documents) kept
  bodies =
      each-body (listed state.documents) kept (λ d there.
      body_there (listed state.documents) (names_differ state.documents) d
      (filter-Contains (λ x. can_have (pattern_of prepared).line (trigrams_of_body x.body)) (listed state.documents) d ((are.exact d).0 there).candidate).0)

  same_request : with_limit wanted.limit (request_of wanted.prepared.now) ≡ request_of prepared
  same_request =
      ap (λ limit. with_limit limit (request_of wanted.prepared.now)) is_limit
      ∙ ap (λ (p : Prepared). with_limit prepared.limit (request_of p)) is_prepared

  pub shown-is : (version documents candidates : ℕ) → version ≡ state.version → documents ≡ len state.documents
      → candidates ≡ length (candidates_of state (pattern_of prepared).line)
      → IsShownOf state (request_of prepared) (shown_with prepared.view version documents candidates joined)
  shown-is version documents candidates is_version are_documents are_candidates = record {
    answer = record { version = version; hits = is.hits; documents = documents; candidates = candidates };
    is_answer =
        record {
          version = is_version;
          hits =
              found_hits state (pattern_of prepared) (pattern_of prepared) taken kept kept is.hits refl order named refl
              (subst (λ (p : Prepared). Selects (IsAsked (test_of p.line)) (flat_map lines_of_taken kept) is.hits) is_prepared is.found);
          documents = are_documents;
          candidates = are_candidates;
        };
    rows = trimmed prepared.view is.rows;
    are_rows =
        final-rows (request_of prepared) prepared.view (listed state.documents) is.hits is.rows
        (subst (λ v. AreGathered (request_of prepared) v (listed state.documents) is.hits is.rows) is_view
        (subst (λ r. AreGathered r wanted.view (listed state.documents) is.hits is.rows) same_request (is.is_gathered.rows (listed state.documents) bodies)));
    view = refl;
    version = refl;
    count =
        is.is_gathered.count
        ∙ (ap (λ (r : Request). at_most r.limit (total wanted.view is.hits)) same_request
        ∙ ap (λ v. at_most prepared.limit (total v is.hits)) is_view);
    more =
        is.is_gathered.more
        ∙ (ap (λ (r : Request). is_over r.limit (total wanted.view is.hits)) same_request
        ∙ ap (λ v. is_over prepared.limit (total v is.hits)) is_view);
    row_count = is.row_count ∙ ap (λ v. length (trimmed v is.rows)) is_view;
    text =
        is.text
        ∙ (ap (λ (p : Prepared). text_of_rows p.zero (trimmed wanted.view is.rows)) is_prepared
        ∙ ap (λ v. text_of_rows prepared.zero (trimmed v is.rows)) is_view);
    documents = refl;
    candidates = refl;
  }

-- the hits, where lines alone are gathered, with no limit
pub hits-are : (state : State) (prepared : Prepared) (taken kept shown : List SharedDocument) (wanted : Wanted) (gathered : Gathered)
    → AreFronted state (pattern_of prepared) (documents_shared taken)
    → Selects (IsAdmitted (pattern_of prepared)) taken kept → shown ≡ kept → wanted.prepared.now ≡ prepared → wanted.view ≡ view.Lines
    → wanted.limit ≡ None → (HaveOwnNames shown → Gathers wanted shown gathered) → IsScanOf state (pattern_of prepared) gathered.hits
hits-are state prepared taken kept shown wanted gathered order named same is_prepared lines none gathers =
    let own = own-rises kept (wanted_are state (pattern_of prepared) taken kept order named).rises in
    let is : Gathers wanted kept gathered = subst (λ ds. HaveOwnNames ds → Gathers wanted ds gathered) same gathers own in
    let hits : gathered.hits ≡ is.hits =
    is.kept ∙ (ap (λ v. kept_of v (limited wanted.limit is.hits)) lines ∙ ap (λ limit. limited limit is.hits) none) in
    subst (λ hs. IsScanOf state (pattern_of prepared) hs) (sym hits)
    (found_hits state (pattern_of prepared) (pattern_of prepared) taken kept kept is.hits refl order named refl
    (subst (λ (p : Prepared). Selects (IsAsked (test_of p.line)) (flat_map lines_of_taken kept) is.hits) is_prepared is.found))
