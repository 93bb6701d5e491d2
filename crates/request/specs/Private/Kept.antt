-- Settings as the program keeps them.
use Rattle.std.specs.Prelude.{◌≡◌, ℕ, ◌+◌, IsFalse, List, find, length, map}
use Rattle.std.specs.List.{All}
use Rattle.request.specs.Names.{clashes}
use Rattle.request.specs.Settings.{Argument, Setting, count_of, nothing, number, text}
use Rattle.request.specs.declared.names.OptionName.{OptionName}
use Rattle.request.specs.declared.names.OptionName.TheVariants.{Under, NotUnder}
use Rattle.request.specs.declared.settings.Argument as program
use Rattle.request.specs.declared.settings.Argument.TheVariants as variants
use Rattle.request.specs.declared.settings.Earlier.{Earlier}
use Rattle.request.specs.declared.settings.Setting as kept

-- without its place in memory
abbrev pub shown_argument : program.Argument → Argument
shown_argument variants.Nothing = nothing
shown_argument (variants.Text word) = text word.now
shown_argument (variants.Number n) = number n

abbrev pub shown_setting : kept.Setting → Setting
shown_setting setting = record { name = setting.name; argument = shown_argument setting.argument }

abbrev pub shown_settings : List kept.Setting → List Setting
shown_settings settings = map shown_setting settings

-- how many are counted of an option of prefixes
abbrev pub prefix_times : ℕ → ℕ → OptionName → ℕ
prefix_times under not_under Under = under
prefix_times under not_under NotUnder = not_under
prefix_times under not_under _ = 0

-- What is kept of all settings says of each option what it clashes with, and how often it is there.
pub record Tallies (settings others : List Setting) (under not_under : ℕ) : Type 0 where
  pub clash : (name : OptionName) → find (λ s. clashes s.name name) settings ≡ find (λ s. clashes s.name name) others
  pub together : (name : OptionName) → All (λ s. IsFalse (clashes s.name name)) others → All (λ s. IsFalse (clashes s.name name)) settings
  pub times : (name : OptionName) → count_of name settings ≡ count_of name others + prefix_times under not_under name
  pub few : length others + (under + not_under) ≡ length settings

abbrev pub IsTally : Earlier → Type 0
IsTally earlier = Tallies (shown_settings earlier.settings.items) (shown_settings earlier.others.items) earlier.under earlier.not_under
