-- What a `find` asks for: its options and its pattern.
use Rattle.std.specs.Prelude.{◌≡◌, ℕ, Bool, true, false, List, Option, Some, None, if◌then◌else◌, codes, slice_get, unwrap_or}
use Rattle.std.specs.List.{filter_map, list_any}
use Rattle.ere.specs.declared.case.Case.{Case}
use Rattle.ere.specs.declared.case.Case.TheVariants.{Exact, Ignore}
use Rattle.request.specs.Names.{is_same}
use Rattle.request.specs.Settings.{Argument, IsAllowed, Setting, SpellsSettings}
use Rattle.request.specs.Settings.{Argument as argument}
use Rattle.request.specs.Words.{after_word, first_word}
use Rattle.request.specs.declared.names.OptionName.{OptionName}
use Rattle.request.specs.declared.names.OptionName.TheVariants as option
use Rattle.request.specs.declared.options.View.{View}
use Rattle.request.specs.declared.options.View.TheVariants as view

-- a pattern that names must match, or must not match
pub record NameTest : Type 0 where
  pub pattern : List ℕ
  pub wanted : Bool

-- what the settings of a `find` say
pub record Options : Type 0 where
  pub case : Case
  pub literal : Bool
  pub whole_words : Bool
  pub whole_lines : Bool
  pub invert : Bool
  pub names : List NameTest
  -- the prefixes with one of which a name must begin, if there are any, and those with none of which it may begin
  pub under : List (List ℕ)
  pub not_under : List (List ℕ)
  pub name_case : Case
  pub limit : Option ℕ
  pub view : View
  pub zero : Bool
  -- in which lane the search waits: no answer depends on it
  pub lane : Option (List ℕ)

-- whether one of the settings is of this option
abbrev pub has_option : OptionName → List Setting → Bool
has_option name settings = list_any (λ setting. is_same setting.name name) settings

-- how case is read if it is ignored, and if it is not
abbrev pub case_if : Bool → Case
case_if ignored = if ignored then Ignore else Exact

-- the pattern of names that an option gives, if it gives one
abbrev pub test_in : OptionName → Argument → Option NameTest
test_in option.Named (argument.text pattern) = Some (record { pattern = pattern; wanted = true })
test_in option.NotNamed (argument.text pattern) = Some (record { pattern = pattern; wanted = false })
test_in _ _ = None

-- the prefix that this option gives, if it gives one
abbrev pub prefix_in : OptionName → OptionName → Argument → Option (List ℕ)
prefix_in of name (argument.text prefix) = if is_same of name then Some prefix else None
prefix_in of name _ = None

-- the most lines, or names, that an option gives, if it gives that
abbrev pub limit_in : OptionName → Argument → Option ℕ
limit_in option.Limit (argument.number n) = Some n
limit_in _ _ = None

-- the lane that an option gives, if it gives one
abbrev pub lane_in : OptionName → Argument → Option (List ℕ)
lane_in option.Lane (argument.text word) = Some word
lane_in _ _ = None

-- the view that an option gives, if it gives one
abbrev pub view_in : OptionName → Argument → Option View
view_in option.Names _ = Some view.Names
view_in option.Counts _ = Some view.Counts
view_in option.Header _ = Some view.Header
view_in option.Context (argument.number n) = Some (view.Context n)
view_in option.Column _ = Some view.Column
view_in option.Spans _ = Some view.Spans
view_in _ _ = None

-- the options that settings say: without one that names it, case counts, every document is searched, and each line is shown alone;
-- `-C 0` shows lines alone too, but sets stretches of them apart, so it is another view
abbrev pub options_of : List Setting → Options
options_of settings = record {
  case = case_if (has_option option.IgnoreCase settings);
  literal = has_option option.Literal settings;
  whole_words = has_option option.WholeWords settings;
  whole_lines = has_option option.WholeLines settings;
  invert = has_option option.Invert settings;
  names = filter_map (λ setting. test_in setting.name setting.argument) settings;
  under = filter_map (λ setting. prefix_in option.Under setting.name setting.argument) settings;
  not_under = filter_map (λ setting. prefix_in option.NotUnder setting.name setting.argument) settings;
  name_case = case_if (has_option option.IgnoreNameCase settings);
  limit = slice_get (filter_map (λ setting. limit_in setting.name setting.argument) settings) 0;
  view = unwrap_or (slice_get (filter_map (λ setting. view_in setting.name setting.argument) settings) 0) view.Lines;
  zero = has_option option.Zero settings;
  lane = slice_get (filter_map (λ setting. lane_in setting.name setting.argument) settings) 0;
}

-- The text is these settings in any order, the word `--`, and the pattern, which can have spaces.
pub record SpellsFind (text : List ℕ) (settings : List Setting) (pattern : List ℕ) : Type 0 where
  pub rest : List ℕ
  pub before : SpellsSettings text rest settings
  pub separator : first_word rest ≡ codes "--"
  pub after : pattern ≡ after_word rest
  pub allowed : IsAllowed settings

-- The text, which is what follows `find `, asks for this pattern with these options.
pub record IsFindOf (text : List ℕ) (options : Options) (pattern : List ℕ) : Type 0 where
  pub settings : List Setting
  pub spelled : SpellsFind text settings pattern
  pub is_options : options ≡ options_of settings

-- The text asks for nothing.
abbrev pub HasNoFind : List ℕ → Type 0
HasNoFind text = (options : Options) (pattern : List ℕ) → IsFindOf text options pattern → ⊥
