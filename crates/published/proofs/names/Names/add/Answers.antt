use Rattle.std.proofs.Common.{ap, ◌∙◌, ◌||◌}
use Rattle.std.specs.Prelude.{bytes_eq}
use Rattle.published.specs.Private.Names.{has_name}
use Rattle.published.proofs.NameLemmas.{added}
use Rattle.published.proofs.names.Names.add.Goals as goal

pub returns-clause-ok : goal.returns-clause-ok
returns-clause-ok c = λ other.
    added c.args.self.now.names c.insert.new.self c.in_ok-share.field-0 c.in_ok-insert.ensures.updates.0 other
    ∙ ap (λ name. bytes_eq name other || has_name c.args.self.now other) c.in_ok-share.ensures
