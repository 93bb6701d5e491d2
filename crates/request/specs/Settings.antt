-- What the words before the pattern say.
use Rattle.std.specs.Prelude.{◌≡◌, ◌≢◌, ℕ, ◌<◌, ◌≤◌, IsFalse, List, [], ◌∷◌, length, Some, count_by}
use Rattle.std.specs.List.{AllPairs, AllPass}
use Rattle.ere.specs.Classes.{is_digit}
use Rattle.ere.specs.Tokens.{decimal_value}
use Rattle.request.specs.Names.{clashes, greatest_times, is_same, option_named, takes}
use Rattle.request.specs.Words.{after_word, first_word}
use Rattle.request.specs.declared.names.OptionName.{OptionName}
use Rattle.request.specs.declared.names.Takes.{Takes}
use Rattle.request.specs.declared.names.Takes.TheVariants.{Nothing, Word, ShortWord, Number}

-- what follows an option
pub data Argument : Type 0 where
  nothing : Argument
  text : List ℕ → Argument
  number : ℕ → Argument

-- an option and what follows it
pub record Setting : Type 0 where
  pub name : OptionName
  pub argument : Argument

-- one or more decimal digits
pub record SpellsNumber (digits : List ℕ) (value : ℕ) : Type 0 where
  pub some : 0 < length digits
  pub decimal : AllPass is_digit digits
  pub is_value : value ≡ decimal_value digits

-- Each relation takes the text from where a part begins, and the text after that part.
abbrev pub SpellsArgument : Takes → List ℕ → List ℕ → Argument → Type 0
SpellsArgument Nothing from rest argument = (rest ≡ from) × (argument ≡ nothing)
SpellsArgument Word from rest argument = (from ≢ []) × (rest ≡ after_word from) × (argument ≡ text (first_word from))
SpellsArgument (ShortWord most) from rest argument =
    (0 < length (first_word from)) × (length (first_word from) ≤ most) × (rest ≡ after_word from) × (argument ≡ text (first_word from))
SpellsArgument (Number least greatest) from rest argument =
    (n : ℕ) × SpellsNumber (first_word from) n × (least ≤ n) × (n ≤ greatest) × (rest ≡ after_word from) × (argument ≡ number n)

-- the word of an option, and what follows it
pub record SpellsSetting (from rest : List ℕ) (setting : Setting) : Type 0 where
  pub named : option_named (first_word from) ≡ Some setting.name
  pub followed : SpellsArgument (takes setting.name) (after_word from) rest setting.argument

-- any number of settings, one after the other
pub data SpellsSettings : List ℕ → List ℕ → List Setting → Type 0 where
  done : {from : List ℕ} → SpellsSettings from from []
  more : {from middle rest : List ℕ} {setting : Setting} {settings : List Setting} → SpellsSetting from middle setting
      → SpellsSettings middle rest settings → SpellsSettings from rest (setting ∷ settings)

-- how many of the settings are of this option
abbrev pub count_of : OptionName → List Setting → ℕ
count_of name settings = count_by (λ setting. is_same setting.name name) settings

-- The settings go together, and none is there too often.
pub record IsAllowed (settings : List Setting) : Type 0 where
  pub together : AllPairs (λ earlier later. IsFalse (clashes earlier.name later.name)) settings
  pub few : (name : OptionName) → count_of name settings ≤ greatest_times name
