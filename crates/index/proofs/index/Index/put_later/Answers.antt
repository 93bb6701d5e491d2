use Rattle.std.proofs.Common.{ap, arith}
use Rattle.documents.specs.declared.command.Command.TheVariants.{Put}
use Rattle.index.proofs.PlainLemmas.{carried_out, refused}
use Rattle.index.proofs.index.Index.put_later.Goals as goal

pub put_later-requires : goal.put_later-requires
put_later-requires c = omega (arith, c.requires, ap (λ s. s.version) c.self.view_is)

pub returns-clause-ok : goal.returns-clause-ok
returns-clause-ok c =
    carried_out c.put_later.result (Put c.args.name.now c.args.held.now) c.self.inside.catalog c.put_later.new.self c.args.self.now c.self.view_is
    c.put_later.ensures.ok

pub returns-clause-err : goal.returns-clause-err
returns-clause-err c = refused c.put_later.result c.self.inside.catalog c.put_later.new.self c.args.self.now c.self.view_is c.put_later.ensures.err
