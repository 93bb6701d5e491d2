-- The command line `tsearch [--readers N] [--stats] [--max-commands N] [--live] [--search-ms N] [--max-body N] [--max-line N]
-- [--max-name N] [--times] [FILE]`, and what arguments ask for with it.
use Rattle.std.specs.Prelude.{◌≡◌, ◌≢◌, ◌≤◌, ◌<◌, ◌↔◌, ℕ, List, [], Option, Some, None, true, codes, option_map, IfSome, pos, ⊤}
use Rattle.std.specs.Str.Parse.{digits_value, without_leading_plus}
use Rattle.clap.specs.Kinds.{IsAmong, Kinds}
use Rattle.clap.specs.Faults.{fault_of}
use Rattle.clap.specs.Simple.{App, matches_of, new_app, new_rule, with_rule}
use Rattle.clap.specs.Values.{kind_of}
use Rattle.clap.specs.Walk.{Row, Rule, Text, first_of, one_of}
use Rattle.clap.specs.declared.builder.action.ArgAction.TheVariants.{SetTrue}
use Rattle.clap.specs.declared.builder.value_parser.ValueParser.TheVariants.{Signed}
use Rattle.clap.specs.declared.error.kind.ErrorKind.TheVariants.{DisplayHelp, DisplayVersion}
use Rattle.cli.specs.declared.arguments.Request.{Request}
use Rattle.cli.specs.declared.arguments.Request.TheVariants.{Run, Help, Version}
use Rattle.cli.specs.declared.arguments.Settings.{Settings}
use Rattle.cli.specs.declared.limits.TheConstants.{DEFAULT_MAX_BODY, DEFAULT_MAX_COMMANDS, DEFAULT_MAX_LINE, DEFAULT_MAX_NAME, DEFAULT_READERS, MAX_BODY, MAX_COMMANDS, MAX_LINE, MAX_NAME, MAX_READERS, MAX_SEARCH_MS}
use Rattle.cli.specs.declared.error.ArgumentError.{ArgumentError}
use Rattle.cli.specs.declared.error.ArgumentError.TheVariants as error

-- `--name N`, a number from `low` to `high`
abbrev pub number_option : Text → ℕ → ℕ → Rule
number_option name low high =
    record (new_rule name) { long = Some name; value_names = 1; parser = Some (Signed (pos low) (pos high)) }

-- `--name`
abbrev pub flag : Text → Rule
flag name = record (new_rule name) { long = Some name; action = Some SetTrue }

-- a command that shows its version if the arguments ask for it
abbrev pub with_version : App → App
with_version app = record app { top = record app.top { has_version = true } }

-- the options and the argument of `tsearch`
abbrev pub command_line : App
command_line = with_rule (with_rule (with_rule (with_rule (with_rule (with_rule (with_rule (with_rule (with_rule (with_rule (with_version (new_app (codes "tsearch")))
    (number_option (codes "readers") 0 MAX_READERS))
    (flag (codes "stats")))
    (number_option (codes "max-commands") 1 MAX_COMMANDS))
    (flag (codes "live")))
    (number_option (codes "search-ms") 1 MAX_SEARCH_MS))
    (number_option (codes "max-body") 1 MAX_BODY))
    (number_option (codes "max-line") 1 MAX_LINE))
    (number_option (codes "max-name") 1 MAX_NAME))
    (flag (codes "times")))
    (new_rule (codes "FILE"))

-- what `clap` finds in the arguments when it reads them by this command line
abbrev pub found_in : List Text → List Row
found_in arguments = matches_of command_line arguments

-- the number that the text spells
abbrev pub number_of : Text → ℕ
number_of text = digits_value 10 (without_leading_plus text)

-- the number that the text spells, or the default if there is no text
abbrev pub number_or : ℕ → Option Text → ℕ
number_or default (Some text) = number_of text
number_or default None = default

-- what is wrong with the arguments, if anything is: what `clap` refuses
abbrev pub faults_of : List Text → Kinds
faults_of arguments = fault_of command_line arguments

-- The settings are those that are found, each under its name, and the defaults for those that are not found.
pub record IsSettingsIn (found : List Row) (settings : Settings) : Type 0 where
  pub live : (settings.live ≡ true) ↔ (one_of (codes "live") found ≡ Some (codes "true"))
  pub readers : settings.readers ≡ number_or DEFAULT_READERS (one_of (codes "readers") found)
  pub max_commands : settings.max_commands ≡ number_or DEFAULT_MAX_COMMANDS (one_of (codes "max-commands") found)
  pub stats : (settings.stats ≡ true) ↔ (one_of (codes "stats") found ≡ Some (codes "true"))
  pub search_ms : settings.search_ms ≡ option_map number_of (one_of (codes "search-ms") found)
  pub max_body : settings.max_body ≡ number_or DEFAULT_MAX_BODY (one_of (codes "max-body") found)
  pub max_line : settings.max_line ≡ number_or DEFAULT_MAX_LINE (one_of (codes "max-line") found)
  pub max_name : settings.max_name ≡ number_or DEFAULT_MAX_NAME (one_of (codes "max-name") found)
  pub times : (settings.times ≡ true) ↔ (one_of (codes "times") found ≡ Some (codes "true"))
  pub file : option_map (λ path. path.now) settings.file ≡ first_of (codes "FILE") found

pub record IsInLimits (settings : Settings) : Type 0 where
  pub readers : settings.readers ≤ MAX_READERS
  pub some_commands : 0 < settings.max_commands
  pub few_commands : settings.max_commands ≤ MAX_COMMANDS
  pub search_ms : IfSome settings.search_ms (λ ms. (0 < ms) × (ms ≤ MAX_SEARCH_MS))
  pub max_body : (0 < settings.max_body) × (settings.max_body ≤ MAX_BODY)
  pub max_line : (0 < settings.max_line) × (settings.max_line ≤ MAX_LINE)
  pub max_name : (0 < settings.max_name) × (settings.max_name ≤ MAX_NAME)

-- Nothing is wrong with the arguments, and they give these settings.
pub record SpellSettings (arguments : List Text) (settings : Settings) : Type 0 where
  pub taken : faults_of arguments ≡ []
  pub found : IsSettingsIn (found_in arguments) settings
  pub limits : IsInLimits settings

-- The arguments ask for the help.
abbrev pub AskForHelp : List Text → Type 0
AskForHelp arguments = IsAmong DisplayHelp (faults_of arguments)

-- The arguments ask for the version.
abbrev pub AskForVersion : List Text → Type 0
AskForVersion arguments = IsAmong DisplayVersion (faults_of arguments)

-- Something is wrong with the arguments, and they ask for neither the help nor the version.
pub record AreRefused (arguments : List Text) : Type 0 where
  pub faulty : faults_of arguments ≢ []
  pub no_help : AskForHelp arguments → ⊥
  pub no_version : AskForVersion arguments → ⊥

-- The arguments ask for this: they give the settings of a run, or they ask for the help or the version.
abbrev pub IsRequestOf : List Text → Request → Type 0
IsRequestOf arguments (Run settings) = SpellSettings arguments settings
IsRequestOf arguments Help = AskForHelp arguments
IsRequestOf arguments Version = AskForVersion arguments

-- Why arguments are refused: clap finds this kind of fault in them, or memory ran out.
abbrev pub IsRefusalOf : List Text → ArgumentError → Type 0
IsRefusalOf arguments (error.Refused e) = IsAmong (kind_of e) (faults_of arguments)
IsRefusalOf arguments error.OutOfMemory = ⊤
