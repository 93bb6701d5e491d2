use Rattle.std.proofs.Common.{ap, arith}
use Rattle.documents.specs.declared.command.Command.TheVariants.{Put}
use Rattle.index.proofs.PlainLemmas.{carried_out, refused}
use Rattle.index.proofs.index.Index.apply_put.Goals as goal

pub apply_put-requires : goal.apply_put-requires
apply_put-requires c = omega (arith, c.requires, ap (λ s. s.version) c.self.view_is)

pub returns-clause-ok : goal.returns-clause-ok
returns-clause-ok c =
    carried_out c.apply_put.result (Put c.args.name.now c.args.held.now) c.self.inside.catalog c.apply_put.new.self c.args.self.now c.self.view_is
    c.apply_put.ensures.ok

pub returns-clause-err : goal.returns-clause-err
returns-clause-err c = refused c.apply_put.result c.self.inside.catalog c.apply_put.new.self c.args.self.now c.self.view_is c.apply_put.ensures.err
