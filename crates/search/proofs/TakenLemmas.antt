-- The lines of documents that are taken out of an index.
use Rattle.std.proofs.Common.{◌≡◌, List, [], ◌∷◌, ◌++◌, refl, ◌∙◌, ap, subst}
use Rattle.std.specs.Prelude.{flat_map}
use Rattle.documents.specs.declared.document.SharedDocument.{SharedDocument}
use Rattle.documents.specs.Shared.{documents_shared}
use Rattle.documents.specs.State.{State}
use Rattle.search.specs.Front.{AreFronted}
use Rattle.prepare.specs.Pattern.{Pattern}
use Rattle.views.specs.Found.{Hit}
use Rattle.views.specs.Scan.{IsScanOf}
use Rattle.search.specs.Selects.{Selects, IsAsked, IsAdmitted}
use Rattle.search.specs.Private.Documents.{lines_of_taken}
use Rattle.search.proofs.CandidateLemmas.{wanted_are}
use Rattle.search.proofs.ScanLemmas.{all_lines, IsScanOf-wanted}

pub lines-shared : (taken : List SharedDocument) → flat_map lines_of_taken taken ≡ all_lines (documents_shared taken)
lines-shared [] = refl
lines-shared (document ∷ taken) = ap (λ lines. lines_of_taken document ++ lines) (lines-shared taken)

-- The lines with a match in the documents that are kept of those that were taken are the scan. `own` is the pattern of what was
-- prepared, and `shown` the documents whose lines are matched.
pub found_hits : (state : State) (pattern own : Pattern) (taken kept shown : List SharedDocument) (hits : List Hit) → own ≡ pattern
    → AreFronted state pattern (documents_shared taken) → Selects (IsAdmitted own) taken kept → shown ≡ kept
    → Selects (IsAsked own.line) (flat_map lines_of_taken shown) hits → IsScanOf state pattern hits
found_hits state pattern own taken kept shown hits prepared candidates named is found =
    IsScanOf-wanted state pattern (documents_shared kept) hits
    (wanted_are state pattern taken kept candidates (subst (λ p. Selects (IsAdmitted p) taken kept) prepared named))
    (subst (λ all. Selects (IsAsked pattern.line) all hits) (ap (λ ds. flat_map lines_of_taken ds) is ∙ lines-shared kept)
    (subst (λ p. Selects (IsAsked p.line) (flat_map lines_of_taken shown) hits) prepared found))
