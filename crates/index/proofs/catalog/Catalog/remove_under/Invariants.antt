use Rattle.std.proofs.Common.{◌≡◌}
use Rattle.std.specs.FinMap.{len}
use Rattle.documents.specs.declared.command.Command.TheVariants.{RemoveUnder}
use Rattle.documents.specs.Documents.{documents_after}
use Rattle.index.specs.Private.Plain.{plain_documents}
use Rattle.index.proofs.catalog.Catalog.remove_under.Given as goal

abbrev pub invariant-loop : goal.invariant-loop
invariant-loop l = record {
  version : l.self.version ≡ l.initial.self.version;
  same : documents_after (RemoveUnder l.prefix) (plain_documents l.self.documents)
      ≡ documents_after (RemoveUnder l.prefix) (plain_documents l.initial.self.documents);
}

abbrev pub decreases-loop : goal.decreases-loop
decreases-loop l = len (plain_documents l.self.documents)
