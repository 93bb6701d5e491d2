use Rattle.std.proofs.Common.{◌+◌, ◌∙◌, sym, ap}
use Rattle.documents.specs.declared.command.Command.TheVariants.{RemoveUnder}
use Rattle.documents.specs.Documents.{documents_after}
use Rattle.documents.specs.State.{state}
use Rattle.index.specs.Private.Plain.{plain_documents}
use Rattle.index.proofs.RemovedLemmas.{still_without, all_stay, no_body_under}
use Rattle.index.proofs.catalog.Catalog.remove_under.Goals as goal

pub loop-preserved : goal.loop-preserved
loop-preserved c =
    let taken = c.take_one_under.ensures.taken c.loop-test.true in
    let text = c.args.prefix.now in
    record {
      version = ap (λ s. s.version) taken.left ∙ c.loop.invariant.version;
      same =
          ap (λ s. documents_after (RemoveUnder text) s.documents) taken.left
          ∙ (still_without text taken.name (plain_documents c.loop.self.documents) taken.begins ∙ c.loop.invariant.same);
    }

pub returns-clause-ok : goal.returns-clause-ok
returns-clause-ok c =
    let text = c.args.prefix.now in
    let none = c.take_one_under.ensures.none c.loop-test.false in
    ap (λ s. state (s.version + 1) (plain_documents s.documents)) (c.self.view_is ∙ none.0)
    ∙ (ap (λ v. state (v + 1) (plain_documents c.loop.self.documents)) c.loop.invariant.version
    ∙ ap (state (c.args.self.now.version + 1))
    (sym (all_stay text (plain_documents c.loop.self.documents) (no_body_under text c.loop.self.documents none.1)) ∙ c.loop.invariant.same))
