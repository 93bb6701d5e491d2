use Rattle.std.proofs.Common.{ap, arith}
use Rattle.documents.specs.declared.command.Command.TheVariants.{Remove}
use Rattle.index.proofs.PlainLemmas.{carried_out, refused}
use Rattle.index.proofs.index.Index.remove_in_pieces.Goals as goal

pub remove-requires : goal.remove-requires
remove-requires c = omega (arith, c.requires, ap (λ s. s.version) c.self.view_is)

pub returns-clause-ok : goal.returns-clause-ok
returns-clause-ok c =
    carried_out c.remove.result (Remove c.args.name.now) c.self.inside.catalog c.remove.new.self c.args.self.now c.self.view_is c.remove.ensures.ok

pub returns-clause-err : goal.returns-clause-err
returns-clause-err c = refused c.remove.result c.self.inside.catalog c.remove.new.self c.args.self.now c.self.view_is c.remove.ensures.err
