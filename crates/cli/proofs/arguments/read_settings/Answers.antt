use Rattle.std.proofs.Common.{◌≡◌, ◌∙◌, ap, codes, arith, sym, subst, ℕ, List, [], true, Option, Some, map}
use Rattle.std.specs.Prelude.{◌↔◌, option_map, string_bytes}
use Rattle.std.specs.Str.Parse.{ParsesUnsigned, ExplainsUnsignedError, HasUnsignedDigitsIfOk}
use Rattle.clap.specs.Faults.{fault_of, is_simple_and_free}
use Rattle.clap.specs.Kinds.{HasKind}
use Rattle.clap.specs.Matches.{found_of, one_text}
use Rattle.clap.specs.Simple.{App, app_of, is_simple, matches_of}
use Rattle.clap.specs.Walk.{first_of, one_of, rows_of}
use Rattle.clap.proofs.WalkLemmas.{first_value-rows, one_text-rows}
use Rattle.cli.specs.CommandLine.{command_line, found_in, number_of, number_or}
use Rattle.cli.specs.declared.limits.TheConstants.{DEFAULT_MAX_BODY, DEFAULT_MAX_COMMANDS, DEFAULT_MAX_LINE, DEFAULT_MAX_NAME, DEFAULT_READERS, MAX_BODY, MAX_COMMANDS, MAX_LINE, MAX_NAME, MAX_READERS, MAX_SEARCH_MS}
use Rattle.cli.proofs.NumberLemmas.{max_body_option, max_commands_option, max_line_option, max_name_option, number_given, readers_option, search_ms_option}
use Rattle.cli.proofs.Options.{HasOptions, has_options, line_is_free, line_is_simple}
use Rattle.cli.proofs.Settled.{fails_again, settled_flag, settled_number, settled_optional}
use Rattle.cli.proofs.arguments.read_settings.Goals as goal

pub returns : goal.returns
returns c =
    let command = c.in_ok-command.field-0 in
    let m = c.in_ok-matches.matches in
    let is : app_of command ≡ command_line = c.in_ok-command.ensures.command_line in
    let options : HasOptions command = has_options command is in
    let parsed = c.in_ok-matches.ensures.parsed in
    let rows : rows_of (found_of m) ≡ found_in (map string_bytes c.args.arguments.now) =
    (c.in_ok-matches.ensures.matches (ap is_simple is ∙ line_is_simple)).0 ∙ ap (λ (a : App). matches_of a (map string_bytes c.args.arguments.now)) is in
    let taken : fault_of command_line (map string_bytes c.args.arguments.now) ≡ [] =
    sym (ap (λ (a : App). fault_of a (map string_bytes c.args.arguments.now)) is) ∙ c.in_ok-matches.ensures.kinds (ap is_simple_and_free is ∙ line_is_free) in
    let text_in : (id : List ℕ) → one_text (found_of m) id ≡ one_of id (found_in (map string_bytes c.args.arguments.now)) =
    λ id. one_text-rows (found_of m) id ∙ ap (one_of id) rows in
    let some_readers = number_given command m parsed options 0 (codes "readers") (readers_option command options) 0 MAX_READERS options.readers
    _ (λ bs r. ParsesUnsigned 32 10 bs r × ExplainsUnsignedError 10 bs r × HasUnsignedDigitsIfOk bs r) (λ u x g. g.0) (omega arith)
    c.get_one-readers.result c.get_one-readers.ensures.value in
    let some_commands = number_given command m parsed options 2 (codes "max-commands") (max_commands_option command options) 1 MAX_COMMANDS options.max_commands
    _ (λ bs r. ParsesUnsigned 32 10 bs r × ExplainsUnsignedError 10 bs r × HasUnsignedDigitsIfOk bs r) (λ u x g. g.0) (omega arith)
    c.get_one-max_commands.result c.get_one-max_commands.ensures.value in
    let some_search_ms = number_given command m parsed options 4 (codes "search-ms") (search_ms_option command options) 1 MAX_SEARCH_MS options.search_ms
    _ (λ bs r. ParsesUnsigned 32 10 bs r × ExplainsUnsignedError 10 bs r × HasUnsignedDigitsIfOk bs r) (λ u x g. g.0) (omega arith)
    c.get_one-search_ms.result c.get_one-search_ms.ensures.value in
    let some_max_body = number_given command m parsed options 5 (codes "max-body") (max_body_option command options) 1 MAX_BODY options.max_body
    _ (λ bs r. ParsesUnsigned 32 10 bs r × ExplainsUnsignedError 10 bs r × HasUnsignedDigitsIfOk bs r) (λ u x g. g.0) (omega arith)
    c.get_one-max_body.result c.get_one-max_body.ensures.value in
    let some_max_line = number_given command m parsed options 6 (codes "max-line") (max_line_option command options) 1 MAX_LINE options.max_line
    _ (λ bs r. ParsesUnsigned 32 10 bs r × ExplainsUnsignedError 10 bs r × HasUnsignedDigitsIfOk bs r) (λ u x g. g.0) (omega arith)
    c.get_one-max_line.result c.get_one-max_line.ensures.value in
    let some_max_name = number_given command m parsed options 7 (codes "max-name") (max_name_option command options) 1 MAX_NAME options.max_name
    _ (λ bs r. ParsesUnsigned 32 10 bs r × ExplainsUnsignedError 10 bs r × HasUnsignedDigitsIfOk bs r) (λ u x g. g.0) (omega arith)
    c.get_one-max_name.result c.get_one-max_name.ensures.value in
    let readers = settled_number _ (λ bs r. ParsesUnsigned 32 10 bs r × ExplainsUnsignedError 10 bs r × HasUnsignedDigitsIfOk bs r) (λ u x g. g.0)
    (one_text (found_of m) (codes "readers")) c.get_one-readers.result c.unwrap_or-2.result 0 MAX_READERS DEFAULT_READERS
    c.unwrap_or-2.ensures c.get_one-readers.ensures.none c.get_one-readers.ensures.value some_readers (omega arith) (omega arith) in
    let commands = settled_number _ (λ bs r. ParsesUnsigned 32 10 bs r × ExplainsUnsignedError 10 bs r × HasUnsignedDigitsIfOk bs r) (λ u x g. g.0)
    (one_text (found_of m) (codes "max-commands")) c.get_one-max_commands.result c.unwrap_or-3.result 1 MAX_COMMANDS
    DEFAULT_MAX_COMMANDS c.unwrap_or-3.ensures
    c.get_one-max_commands.ensures.none c.get_one-max_commands.ensures.value some_commands
    (omega arith) (omega arith) in
    let search_ms = settled_optional _ (λ bs r. ParsesUnsigned 32 10 bs r × ExplainsUnsignedError 10 bs r × HasUnsignedDigitsIfOk bs r) (λ u x g. g.0)
    (one_text (found_of m) (codes "search-ms")) c.get_one-search_ms.result 1 MAX_SEARCH_MS
    c.get_one-search_ms.ensures.none c.get_one-search_ms.ensures.value some_search_ms in
    let max_body = settled_number _ (λ bs r. ParsesUnsigned 32 10 bs r × ExplainsUnsignedError 10 bs r × HasUnsignedDigitsIfOk bs r) (λ u x g. g.0)
    (one_text (found_of m) (codes "max-body")) c.get_one-max_body.result c.unwrap_or-5.result 1 MAX_BODY
    DEFAULT_MAX_BODY c.unwrap_or-5.ensures
    c.get_one-max_body.ensures.none c.get_one-max_body.ensures.value some_max_body
    (omega arith) (omega arith) in
    let max_line = settled_number _ (λ bs r. ParsesUnsigned 32 10 bs r × ExplainsUnsignedError 10 bs r × HasUnsignedDigitsIfOk bs r) (λ u x g. g.0)
    (one_text (found_of m) (codes "max-line")) c.get_one-max_line.result c.unwrap_or-6.result 1 MAX_LINE
    DEFAULT_MAX_LINE c.unwrap_or-6.ensures
    c.get_one-max_line.ensures.none c.get_one-max_line.ensures.value some_max_line
    (omega arith) (omega arith) in
    let max_name = settled_number _ (λ bs r. ParsesUnsigned 32 10 bs r × ExplainsUnsignedError 10 bs r × HasUnsignedDigitsIfOk bs r) (λ u x g. g.0)
    (one_text (found_of m) (codes "max-name")) c.get_one-max_name.result c.unwrap_or-7.result 1 MAX_NAME
    DEFAULT_MAX_NAME c.unwrap_or-7.ensures
    c.get_one-max_name.ensures.none c.get_one-max_name.ensures.value some_max_name
    (omega arith) (omega arith) in
    let live_flag = settled_flag _ (one_text (found_of m) (codes "live")) c.get_one-live.result c.unwrap_or.result c.unwrap_or.ensures
    c.get_one-live.ensures.none c.get_one-live.ensures.value in
    let stats_flag = settled_flag _ (one_text (found_of m) (codes "stats")) c.get_one-stats.result c.unwrap_or-4.result c.unwrap_or-4.ensures
    c.get_one-stats.ensures.none c.get_one-stats.ensures.value in
    let times_flag = settled_flag _ (one_text (found_of m) (codes "times")) c.get_one-times.result c.unwrap_or-8.result c.unwrap_or-8.ensures
    c.get_one-times.ensures.none c.get_one-times.ensures.value in
    record {
      found = record {
        live = subst (λ (text : Option (List ℕ)). (c.unwrap_or.result ≡ true) ↔ (text ≡ Some (codes "true"))) (text_in (codes "live")) live_flag;
        readers = readers.0 ∙ ap (number_or DEFAULT_READERS) (text_in (codes "readers"));
        max_commands = commands.0 ∙ ap (number_or DEFAULT_MAX_COMMANDS) (text_in (codes "max-commands"));
        stats = subst (λ (text : Option (List ℕ)). (c.unwrap_or-4.result ≡ true) ↔ (text ≡ Some (codes "true"))) (text_in (codes "stats")) stats_flag;
        search_ms = search_ms.0 ∙ ap (option_map number_of) (text_in (codes "search-ms"));
        max_body = max_body.0 ∙ ap (number_or DEFAULT_MAX_BODY) (text_in (codes "max-body"));
        max_line = max_line.0 ∙ ap (number_or DEFAULT_MAX_LINE) (text_in (codes "max-line"));
        max_name = max_name.0 ∙ ap (number_or DEFAULT_MAX_NAME) (text_in (codes "max-name"));
        times = subst (λ (text : Option (List ℕ)). (c.unwrap_or-8.result ≡ true) ↔ (text ≡ Some (codes "true"))) (text_in (codes "times")) times_flag;
        file = c.get_str.ensures ∙ first_value-rows (found_of m) (codes "FILE") ∙ ap (first_of (codes "FILE")) rows;
      };
      limits = record {
        readers = readers.2;
        some_commands = commands.1;
        few_commands = commands.2;
        search_ms = search_ms.1;
        max_body = (max_body.1, max_body.2);
        max_line = (max_line.1, max_line.2);
        max_name = (max_name.1, max_name.2);
      };
      kinds = taken;
    }

pub returns-in_err-matches-clause-kinds : goal.returns-in_err-matches-clause-kinds
returns-in_err-matches-clause-kinds c =
    let is : app_of c.in_ok-command.field-0 ≡ command_line = c.in_ok-command.ensures.command_line in
    let failed = c.in_err-matches.ensures.kinds (ap is_simple_and_free is ∙ line_is_free) in
    let here : HasKind (fault_of command_line (map string_bytes c.args.arguments.now)) c.in_err-matches.field-0.0 =
    subst (λ (a : App). HasKind (fault_of a (map string_bytes c.args.arguments.now)) c.in_err-matches.field-0.0) is failed in
    fails_again _ c.in_err-matches.field-0.0 c.from_residual-in_err-matches.result c.from_residual-in_err-matches.ensures.1 here
