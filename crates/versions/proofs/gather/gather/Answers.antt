use Rattle.std.proofs.Common.{◌∙◌, ap}
use Rattle.std.proofs.lemmas.List.{take_all}
use Rattle.names.specs.Contents.{entries_of}
use Rattle.versions.proofs.GatherLemmas.{documents_next}
use Rattle.versions.proofs.gather.gather.Goals as goal

pub loop-one-preserved : goal.loop-one-preserved
loop-one-preserved g c =
    documents_next c.args.named.now c.loop-one.one-index c.one-item.result c.loop-one.documents.items c.push.new.self.items c.in_ok-document_of.field-0
    c.loop-one-test.true c.one-item.is c.loop-one.invariant c.in_ok-document_of.ensures c.in_ok-push.ensures.items

pub returns-clause-found : goal.returns-clause-found
returns-clause-found g c = c.loop-one.invariant ∙ ap entries_of (take_all c.loop-one.one-index c.args.named.now c.loop-one-test.false)
