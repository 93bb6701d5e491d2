use Rattle.documents.specs.Documents.{documents_of}
use Rattle.documents.proofs.LawLemmas.{last-found, found-last}
use Rattle.documents.proofs.ListedLemmas.{listed-rises, listed-found, found-listed}
use Rattle.documents.proofs.laws.documents_are_puts.Goals as goal

pub returns-clause-which : goal.returns-clause-which
returns-clause-which c =
    λ commands d. (
      λ there. found-last commands d.name d.body (found-listed (documents_of commands) d there),
      λ put. listed-found (documents_of commands) d (last-found commands d.name d.body put),
    )

pub returns-clause-once : goal.returns-clause-once
returns-clause-once c = λ commands. listed-rises (documents_of commands)
