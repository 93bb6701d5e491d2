use Rattle.std.proofs.Common.{◌∙◌, ap, arith}
use Rattle.std.proofs.lemmas.Result.{on_err_weaker}
use Rattle.documents.specs.declared.command.Command.TheVariants.{CopyUnder}
use Rattle.index.proofs.PlainLemmas.{carried_out}
use Rattle.index.proofs.index.Index.copy_under.Goals as goal

pub copy_under-requires : goal.copy_under-requires
copy_under-requires c = omega (arith, c.requires, ap (λ s. s.version) c.self.view_is)

pub returns-clause-ok : goal.returns-clause-ok
returns-clause-ok c =
    carried_out c.copy_under.result (CopyUnder c.args.from.now c.args.to.now) c.self.inside.catalog c.copy_under.new.self c.args.self.now c.self.view_is
    c.copy_under.ensures.ok

pub returns-clause-err : goal.returns-clause-err
returns-clause-err c = on_err_weaker c.copy_under.result (λ e. e ∙ c.self.view_is) c.copy_under.ensures.err
