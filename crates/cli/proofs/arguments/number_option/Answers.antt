use Rattle.std.proofs.Common.{◌≡◌, ◌∙◌, ap, ap₂, refl, Option}
use Rattle.std.specs.Prelude.{Some}
use Rattle.clap.specs.Simple.{new_rule}
use Rattle.clap.specs.Walk.{Rule, rule_of}
use Rattle.clap.specs.declared.builder.value_parser.ValueParser.{ValueParser}
use Rattle.cli.proofs.arguments.number_option.Goals as goal

pub returns-clause-rule : goal.returns-clause-rule
returns-clause-rule c =
    let parser : c.value_parser.result.value_parser ≡ Some c.args.parser = rw (c.value_parser.ensures.given.1, c.value_parser.ensures.given.2) refl in
    let named : rule_of c.value_name.result ≡ record (new_rule c.args.name.now) { long = Some c.args.name.now; value_names = 1 } =
    ap rule_of c.value_name.ensures
    ∙ ap (λ (r : Rule). record r { value_names = 1 })
    (ap rule_of c.long.ensures ∙ ap (λ (r : Rule). record r { long = Some c.args.name.now }) c.new.ensures.rule) in
    ap rule_of c.value_parser.ensures.others ∙ ap₂ (λ (r : Rule) (q : Option ValueParser). record r { parser = q }) named parser

pub returns-clause-local : goal.returns-clause-local
returns-clause-local c = rw (c.value_parser.ensures.others, c.value_name.ensures, c.long.ensures) c.new.ensures.optional.1
