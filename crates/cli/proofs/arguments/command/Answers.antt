use Rattle.std.proofs.Common.{◌≡◌, ◌∙◌, ap, ap₂, codes}
use Rattle.std.specs.Prelude.{Some, pos}
use Rattle.std.proofs.lemmas.Result.{IfOk-weaker}
use Rattle.clap.specs.Simple.{new_rule, with_rule}
use Rattle.clap.specs.Walk.{Rule, rule_of}
use Rattle.clap.specs.declared.builder.value_parser.ValueParser.{ValueParser}
use Rattle.clap.specs.declared.builder.value_parser.ValueParser.TheVariants as vp
use Rattle.cli.specs.CommandLine.{number_option}
use Rattle.cli.specs.declared.limits.TheConstants.{MAX_BODY, MAX_COMMANDS, MAX_LINE, MAX_NAME, MAX_READERS, MAX_SEARCH_MS}
use Rattle.cli.proofs.arguments.command.Goals as goal

pub returns : goal.returns
returns c =
    let readers_in : c.range-readers.result ≡ vp.Signed (pos 0) (pos MAX_READERS) =
    rw (c.value_parser.ensures, c.new.ensures.start, c.new.ensures.end) at c.range-readers.ensures in
    let readers_is : rule_of c.number_option.result ≡ number_option (codes "readers") 0 MAX_READERS =
    c.number_option.ensures.rule
    ∙ ap (λ (q : ValueParser). record (new_rule (codes "readers")) { long = Some (codes "readers"); value_names = 1; parser = Some q }) readers_in in
    let max_commands_in : c.range-max_commands.result ≡ vp.Signed (pos 1) (pos MAX_COMMANDS) =
    rw (c.value_parser-2.ensures, c.new-2.ensures.start, c.new-2.ensures.end) at c.range-max_commands.ensures in
    let max_commands_is : rule_of c.number_option-2.result ≡ number_option (codes "max-commands") 1 MAX_COMMANDS =
    c.number_option-2.ensures.rule
    ∙ ap (λ (q : ValueParser). record (new_rule (codes "max-commands")) { long = Some (codes "max-commands"); value_names = 1; parser = Some q }) max_commands_in in
    let search_ms_in : c.range-search_ms.result ≡ vp.Signed (pos 1) (pos MAX_SEARCH_MS) =
    rw (c.value_parser-3.ensures, c.new-3.ensures.start, c.new-3.ensures.end) at c.range-search_ms.ensures in
    let search_ms_is : rule_of c.number_option-3.result ≡ number_option (codes "search-ms") 1 MAX_SEARCH_MS =
    c.number_option-3.ensures.rule
    ∙ ap (λ (q : ValueParser). record (new_rule (codes "search-ms")) { long = Some (codes "search-ms"); value_names = 1; parser = Some q }) search_ms_in in
    let max_body_in : c.range-max_body.result ≡ vp.Signed (pos 1) (pos MAX_BODY) =
    rw (c.value_parser-4.ensures, c.new-4.ensures.start, c.new-4.ensures.end) at c.range-max_body.ensures in
    let max_body_is : rule_of c.number_option-4.result ≡ number_option (codes "max-body") 1 MAX_BODY =
    c.number_option-4.ensures.rule
    ∙ ap (λ (q : ValueParser). record (new_rule (codes "max-body")) { long = Some (codes "max-body"); value_names = 1; parser = Some q }) max_body_in in
    let max_line_in : c.range-max_line.result ≡ vp.Signed (pos 1) (pos MAX_LINE) =
    rw (c.value_parser-5.ensures, c.new-5.ensures.start, c.new-5.ensures.end) at c.range-max_line.ensures in
    let max_line_is : rule_of c.number_option-5.result ≡ number_option (codes "max-line") 1 MAX_LINE =
    c.number_option-5.ensures.rule
    ∙ ap (λ (q : ValueParser). record (new_rule (codes "max-line")) { long = Some (codes "max-line"); value_names = 1; parser = Some q }) max_line_in in
    let max_name_in : c.range-max_name.result ≡ vp.Signed (pos 1) (pos MAX_NAME) =
    rw (c.value_parser-6.ensures, c.new-6.ensures.start, c.new-6.ensures.end) at c.range-max_name.ensures in
    let max_name_is : rule_of c.number_option-6.result ≡ number_option (codes "max-name") 1 MAX_NAME =
    c.number_option-6.ensures.rule
    ∙ ap (λ (q : ValueParser). record (new_rule (codes "max-name")) { long = Some (codes "max-name"); value_names = 1; parser = Some q }) max_name_in in
    let one = c.in_ok-arg.ensures.shape c.number_option.ensures.local ∙ ap₂ with_rule c.in_ok-program.ensures readers_is in
    let two = c.in_ok-arg-2.ensures.shape c.flag.ensures.local ∙ ap₂ with_rule one c.flag.ensures.rule in
    let three = c.in_ok-arg-3.ensures.shape c.number_option-2.ensures.local ∙ ap₂ with_rule two max_commands_is in
    let four = c.in_ok-arg-4.ensures.shape c.flag-2.ensures.local ∙ ap₂ with_rule three c.flag-2.ensures.rule in
    let five = c.in_ok-arg-5.ensures.shape c.number_option-3.ensures.local ∙ ap₂ with_rule four search_ms_is in
    let six = c.in_ok-arg-6.ensures.shape c.number_option-4.ensures.local ∙ ap₂ with_rule five max_body_is in
    let seven = c.in_ok-arg-7.ensures.shape c.number_option-5.ensures.local ∙ ap₂ with_rule six max_line_is in
    let eight = c.in_ok-arg-8.ensures.shape c.number_option-6.ensures.local ∙ ap₂ with_rule seven max_name_is in
    let nine = c.in_ok-arg-9.ensures.shape c.flag-3.ensures.local ∙ ap₂ with_rule eight c.flag-3.ensures.rule in
    record {
      command_line = IfOk-weaker c.arg-10.result _ _ (λ last added. added.shape c.new-7.ensures.optional.1 ∙ ap₂ with_rule nine c.new-7.ensures.rule) c.arg-10.ensures;
    }
