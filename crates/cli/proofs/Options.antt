-- The options of a command that is read as the command line, by their places, for the numbers that a parse checks.
use Rattle.std.proofs.Common.{◌≡◌, ◌∙◌, ap, sym, refl, true, false, ℕ, List, [], ◌∷◌, Option, Some, None, length, map, pos, codes, arith, ◌<◌}
use Rattle.std.specs.List.{list_all, slice_index_or}
use Rattle.std.proofs.lemmas.List.{get_or-map, length-map}
use Rattle.clap.specs.Facts.{args_of}
use Rattle.clap.specs.Built.{IsPlain}
use Rattle.clap.specs.Faults.{has_free_rules, is_simple_and_free}
use Rattle.clap.specs.Simple.{App, IsSimple, Shape, app_of, is_ready, is_ready_leaf, is_simple, shape_of}
use Rattle.clap.specs.Walk.{Rule, rule_of}
use Rattle.clap.specs.declared.builder.arg.Arg.{Arg}
use Rattle.clap.specs.declared.builder.command.Command.{Command}
use Rattle.clap.specs.declared.builder.command.Command.TheViews.{out-Command}
use Rattle.clap.specs.declared.builder.value_parser.ValueParser.{ValueParser}
use Rattle.clap.specs.declared.builder.value_parser.ValueParser.TheVariants.{Signed}
use Rattle.clap.proofs.FaultLemmas.{free_args}
use Rattle.clap.proofs.OnLiterals.{clap_on_literals}
use Rattle.clap.proofs.SimpleLemmas.{ready_simple, simple_groups}
use Rattle.cli.specs.CommandLine.{command_line}
use Rattle.cli.specs.declared.limits.TheConstants.{MAX_BODY, MAX_COMMANDS, MAX_LINE, MAX_NAME, MAX_READERS, MAX_SEARCH_MS}

-- the argument at a place takes a number from `low` to `high`
abbrev pub TakesNumber : Command → ℕ → ℕ → ℕ → Type 0
TakesNumber c place low high =
    (d : Arg) → (slice_index_or (args_of c) place d).value_parser ≡ Some (Signed (pos low) (pos high))

-- the command has the program's options, of which six take a number within limits, and none excludes another
pub record HasOptions (c : Command) : Type 0 where
  pub names : map (λ a. a.id.now) (args_of c)
      ≡ codes "readers" ∷ codes "stats" ∷ codes "max-commands" ∷ codes "live" ∷ codes "search-ms" ∷ codes "max-body"
      ∷ codes "max-line" ∷ codes "max-name" ∷ codes "times" ∷ codes "FILE" ∷ []
  pub readers : TakesNumber c 0 0 MAX_READERS
  pub max_commands : TakesNumber c 2 1 MAX_COMMANDS
  pub search_ms : TakesNumber c 4 1 MAX_SEARCH_MS
  pub max_body : TakesNumber c 5 1 MAX_BODY
  pub max_line : TakesNumber c 6 1 MAX_LINE
  pub max_name : TakesNumber c 7 1 MAX_NAME
  pub plain : IsPlain c
  pub local : (out-Command c).has_globals ≡ false

pub line_is_simple : is_simple command_line ≡ true
unfolding clap_on_literals
line_is_simple = refl

pub line_is_free : is_simple_and_free command_line ≡ true
unfolding clap_on_literals
line_is_free = refl

line_is_ready : is_ready command_line.top ≡ true
unfolding clap_on_literals
line_is_ready = refl

map_rules : {X : Type 0} (f : Rule → X) (xs : List Arg) → map (λ a. f (rule_of a)) xs ≡ map f (map rule_of xs)
map_rules f [] = refl
map_rules f (x ∷ xs) = ap (λ l. f (rule_of x) ∷ l) (map_rules f xs)

fields : {X : Type 0} (f : Rule → X) (c : Command) → app_of c ≡ command_line → map (λ a. f (rule_of a)) (args_of c) ≡ map f command_line.top.rules
fields f c is = map_rules f (args_of c) ∙ ap (λ (a : App). map f a.top.rules) is

abbrev parsers : List (Option ValueParser)
parsers = Some (Signed (pos 0) (pos MAX_READERS)) ∷ None ∷ Some (Signed (pos 1) (pos MAX_COMMANDS)) ∷ None
    ∷ Some (Signed (pos 1) (pos MAX_SEARCH_MS)) ∷ Some (Signed (pos 1) (pos MAX_BODY)) ∷ Some (Signed (pos 1) (pos MAX_LINE))
    ∷ Some (Signed (pos 1) (pos MAX_NAME)) ∷ None ∷ None ∷ []

pub has_options : (c : Command) → app_of c ≡ command_line → HasOptions c
has_options c is =
    let shape : shape_of c ≡ command_line.top = ap (λ (a : App). a.top) is in
    let simple : IsSimple c = ready_simple c (ap is_ready shape ∙ line_is_ready) (ap (λ (a : App). list_all is_ready_leaf a.subs) is) in
    let free = free_args c simple (ap has_free_rules shape) in
    let alone = simple_groups c (ap (λ (s : Shape). list_all (λ (a : Rule). a.is_simple) s.rules) shape) in
    let names = fields (λ (r : Rule). r.id) c is in
    let takes : map (λ (a : Arg). a.value_parser) (args_of c) ≡ parsers = fields (λ (r : Rule). r.parser) c is in
    let ten : length (args_of c) ≡ 10 = sym (length-map (args_of c) (λ (a : Arg). a.value_parser)) ∙ ap length takes in
    record {
      names = names;
      readers = λ d.
          let low : 0 < length (args_of c) = rw ten (omega arith) in
          sym (get_or-map (λ (a : Arg). a.value_parser) (args_of c) 0 d None low) ∙ ap (λ (l : List (Option ValueParser)). slice_index_or l 0 None) takes;
      max_commands = λ d.
          let low : 2 < length (args_of c) = rw ten (omega arith) in
          sym (get_or-map (λ (a : Arg). a.value_parser) (args_of c) 2 d None low) ∙ ap (λ (l : List (Option ValueParser)). slice_index_or l 2 None) takes;
      search_ms = λ d.
          let low : 4 < length (args_of c) = rw ten (omega arith) in
          sym (get_or-map (λ (a : Arg). a.value_parser) (args_of c) 4 d None low) ∙ ap (λ (l : List (Option ValueParser)). slice_index_or l 4 None) takes;
      max_body = λ d.
          let low : 5 < length (args_of c) = rw ten (omega arith) in
          sym (get_or-map (λ (a : Arg). a.value_parser) (args_of c) 5 d None low) ∙ ap (λ (l : List (Option ValueParser)). slice_index_or l 5 None) takes;
      max_line = λ d.
          let low : 6 < length (args_of c) = rw ten (omega arith) in
          sym (get_or-map (λ (a : Arg). a.value_parser) (args_of c) 6 d None low) ∙ ap (λ (l : List (Option ValueParser)). slice_index_or l 6 None) takes;
      max_name = λ d.
          let low : 7 < length (args_of c) = rw ten (omega arith) in
          sym (get_or-map (λ (a : Arg). a.value_parser) (args_of c) 7 d None low) ∙ ap (λ (l : List (Option ValueParser)). slice_index_or l 7 None) takes;
      plain = (λ k d low. ((free k d low).exclusive, (free k d low).conflicts, (free k d low).overrides, alone k d low), simple.groups);
      local = simple.globals;
    }
