use Rattle.std.proofs.Common.{refl, subst}
use Rattle.query.specs.Query.{formula_of}
use Rattle.documents.specs.Shared.{AreCandidates}
use Rattle.documents.specs.declared.document.Candidates.{Candidates}
use Rattle.index.proofs.PlainLemmas.{candidates-plain}
use Rattle.index.proofs.index.IndexCorpus.candidates.Goals as goal

pub returns-clause-candidates : goal.returns-clause-candidates
returns-clause-candidates g c =
    let formula = formula_of c.args.query.now in
    let members = c.in_ok-chosen.chosen.members in
    let count = c.in_ok-chosen.count in
    let found : Candidates = record { count = count; documents = c.in_ok-documents.documents } in
    subst (λ s. AreCandidates formula c.args.prefixes.now c.args.most s.documents found) c.self.view_is
    (candidates-plain c.self.inside.catalog c.version.ensures.state formula members count c.in_ok-chosen.ensures.chosen c.args.prefixes.now
    c.args.most found refl c.in_ok-documents.ensures.documents)
