use Rattle.std.proofs.Common.{ap, arith}
use Rattle.documents.specs.declared.command.Command.TheVariants.{RemoveUnder}
use Rattle.index.proofs.PlainLemmas.{carried_out, refused}
use Rattle.index.proofs.index.Index.remove_under.Goals as goal

pub remove_under-requires : goal.remove_under-requires
remove_under-requires c = omega (arith, c.requires, ap (λ s. s.version) c.self.view_is)

pub returns-clause-ok : goal.returns-clause-ok
returns-clause-ok c =
    carried_out c.remove_under.result (RemoveUnder c.args.prefix.now) c.self.inside.catalog c.remove_under.new.self c.args.self.now c.self.view_is c.remove_under.ensures.ok

pub returns-clause-err : goal.returns-clause-err
returns-clause-err c = refused c.remove_under.result c.self.inside.catalog c.remove_under.new.self c.args.self.now c.self.view_is c.remove_under.ensures.err
