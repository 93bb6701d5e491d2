use Rattle.std.proofs.Common.{◌∙◌, ap, sym, subst, arith}
use Rattle.std.specs.List.Sorted.{IsStrictlyIncreasing}
use Rattle.query.specs.Query.{formula_of}
use Rattle.documents.specs.State.{State}
use Rattle.documents.specs.declared.document.Candidates.{Candidates}
use Rattle.documents.specs.Shared.{AreCandidates}
use Rattle.names.specs.Contents.{entries_of}
use Rattle.versions.proofs.GatherLemmas.{found_are, few_chosen}
use Rattle.versions.proofs.index.IndexCorpus.candidates.Goals as goal

pub chosen-requires : goal.chosen-requires
chosen-requires g c = subst IsStrictlyIncreasing (sym c.deref.ensures.value) c.in_ok-chosen.ensures.rising

pub overflow_cast-result : goal.overflow_cast-result
overflow_cast-result g c =
    let few = few_chosen c.deref.result.now c.self.inside.names c.in_ok-found.found.count c.in_ok-found.ensures.count c.self.invariant.few in
    omega (arith, few)

pub returns-clause-candidates : goal.returns-clause-candidates
returns-clause-candidates g c =
    let formula = formula_of c.args.query.now in
    let texts = c.args.prefixes.now in
    let found : Candidates = record { count = c.in_ok-found.found.count; documents = c.in_ok-documents.documents } in
    subst (λ (s : State). AreCandidates formula texts c.args.most s.documents found) c.self.view_is
    (found_are c.self.inside.version c.self.inside.names c.self.inside.sets c.self.invariant.is formula c.in_ok-chosen.chosen.items c.deref.result.now
    texts c.args.most found c.in_ok-chosen.ensures.chosen c.deref.ensures.value c.in_ok-found.ensures.count
    (c.in_ok-documents.ensures.found ∙ (ap entries_of c.deref-2.ensures.value ∙ c.in_ok-found.ensures.named)))
