-- What arguments ask for is determined.
use Rattle.std.specs.Prelude.{◌≡◌, List, [], ◌∷◌, codes, option_map}
use Rattle.clap.specs.Walk.{Text}
use Rattle.clap.specs.declared.error.kind.ErrorKind.TheVariants.{DisplayHelp, DisplayVersion}
use Rattle.cli.specs.CommandLine.{AskForHelp, AskForVersion, SpellSettings, faults_of}
use Rattle.cli.specs.declared.arguments.Settings.{Settings}

-- Both are the same, wherever the bytes of the path are in memory.
pub record AreSameSettings (one other : Settings) : Type 0 where
  pub live : one.live ≡ other.live
  pub readers : one.readers ≡ other.readers
  pub max_commands : one.max_commands ≡ other.max_commands
  pub stats : one.stats ≡ other.stats
  pub search_ms : one.search_ms ≡ other.search_ms
  pub max_body : one.max_body ≡ other.max_body
  pub max_line : one.max_line ≡ other.max_line
  pub max_name : one.max_name ≡ other.max_name
  pub times : one.times ≡ other.times
  pub file : option_map (λ path. path.now) one.file ≡ option_map (λ path. path.now) other.file

-- Arguments spell one set of settings at most.
abbrev pub SettingsAreOne : Type 0
SettingsAreOne = (arguments : List Text) (one other : Settings) → SpellSettings arguments one → SpellSettings arguments other → AreSameSettings one other

-- Arguments that spell settings ask for neither the help nor the version.
abbrev pub SettingsStandAlone : Type 0
SettingsStandAlone =
    (arguments : List Text) (settings : Settings) → SpellSettings arguments settings → (AskForHelp arguments → ⊥) × (AskForVersion arguments → ⊥)

-- the program's name, and an option
abbrev pub option_alone : Text → List Text
option_alone option = codes "tsearch" ∷ option ∷ []

-- `--version` alone asks for the version and nothing else, and `--help` alone for the help and nothing else.
pub record OptionsAskForThemselves : Type 0 where
  pub version : faults_of (option_alone (codes "--version")) ≡ DisplayVersion ∷ []
  pub help : faults_of (option_alone (codes "--help")) ≡ DisplayHelp ∷ []
