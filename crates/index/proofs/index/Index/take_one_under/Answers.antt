use Rattle.std.proofs.Common.{sym, ◌∙◌, ap, subst}
use Rattle.documents.specs.declared.command.Command.TheVariants.{RemoveUnder}
use Rattle.documents.specs.Documents.{has_under}
use Rattle.documents.specs.State.{applied}
use Rattle.index.specs.Pieces.{IsTakenUnder}
use Rattle.index.specs.Private.Plain.{plain_state}
use Rattle.index.proofs.PlainLemmas.{has_under-plain}
use Rattle.index.proofs.index.Index.take_one_under.Goals as goal

pub returns-clause-taken : goal.returns-clause-taken
returns-clause-taken c = λ yes.
    subst (λ s. IsTakenUnder c.args.prefix.now s (plain_state c.take_one_under-taken.new.self)) c.self.view_is (c.take_one_under-taken.ensures.taken yes)

pub returns-clause-same : goal.returns-clause-same
returns-clause-same c = c.take_one_under-taken.ensures.same ∙ ap (applied (RemoveUnder c.args.prefix.now)) c.self.view_is

pub returns-clause-none : goal.returns-clause-none
returns-clause-none c = λ no.
    (let both = c.take_one_under-taken.ensures.none no in (
      ap plain_state both.0 ∙ c.self.view_is,
      sym (ap (λ s. has_under c.args.prefix.now s.documents) c.self.view_is)
          ∙ has_under-plain c.self.inside.catalog c.version.ensures.state c.args.prefix.now
          ∙ both.1,
    ))
