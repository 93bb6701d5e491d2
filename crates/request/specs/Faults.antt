-- Why a `find` is refused: the first fault from the left.
use Rattle.std.specs.Prelude.{◌≡◌, ◌≢◌, ℕ, ◌≤◌, ◌<◌, IsFalse, List, [], ◌++◌, length, Option, Some, None, codes, ◌⊎◌, find, option_map}
use Rattle.std.specs.List.{All}
use Rattle.request.specs.Names.{clashes, greatest_times, length_text, option_named, range_text, takes, text_of, times_text}
use Rattle.request.specs.Settings.{Setting, SpellsSettings, IsAllowed, SpellsNumber, count_of}
use Rattle.request.specs.Words.{after_word, first_word}
use Rattle.request.specs.declared.fault.FindFault.{FindFault}
use Rattle.request.specs.declared.fault.FindFault.TheVariants.{BadOption, Twice, TooOften, NeedsNumber, NeedsWord, Exclude, NoSeparator, OutOfMemory}
use Rattle.request.specs.declared.names.OptionName.{OptionName}
use Rattle.request.specs.declared.names.Takes.TheVariants.{Word, ShortWord, Number}

-- how a fault reads
abbrev pub reason_of : FindFault → List ℕ
reason_of (BadOption word) = codes "bad option " ++ word.now
reason_of (Twice name) = codes "option " ++ text_of name ++ codes " twice"
reason_of (TooOften name) = codes "option " ++ text_of name ++ codes " over " ++ times_text name ++ codes " times"
reason_of (NeedsNumber name) = codes "option " ++ text_of name ++ codes " needs a number from " ++ range_text name
reason_of (NeedsWord name) = codes "option " ++ text_of name ++ codes " needs a word of " ++ length_text name
reason_of (Exclude earlier name) = text_of earlier ++ codes " and " ++ text_of name ++ codes " exclude each other"
reason_of NoSeparator = codes "no -- before the pattern"
reason_of OutOfMemory = codes "out of memory"

-- The option can follow the settings.
pub record IsFree (name : OptionName) (settings : List Setting) : Type 0 where
  pub together : All (λ earlier. IsFalse (clashes earlier.name name)) settings
  pub few : count_of name settings < greatest_times name

-- the option of the leftmost setting that this option clashes with
abbrev pub first_clash : OptionName → List Setting → Option OptionName
first_clash name settings = option_map (λ setting. setting.name) (find (λ setting. clashes setting.name name) settings)

-- The text begins with the word of this option.
abbrev pub IsNamed : List ℕ → OptionName → Type 0
IsNamed text name = option_named (first_word text) ≡ Some name

-- The fault is at the front of this text, which comes after these settings. Memory can run out anywhere.
abbrev pub IsFaultAt : List Setting → List ℕ → FindFault → Type 0
IsFaultAt settings text (BadOption word) =
    (text ≢ []) × (first_word text ≢ codes "--") × (option_named (first_word text) ≡ None) × (word.now ≡ first_word text)
IsFaultAt settings text (Twice name) = IsNamed text name × (first_clash name settings ≡ Some name)
IsFaultAt settings text (Exclude earlier name) = IsNamed text name × (earlier ≢ name) × (first_clash name settings ≡ Some earlier)
IsFaultAt settings text (TooOften name) = IsNamed text name × (first_clash name settings ≡ None) × (greatest_times name ≤ count_of name settings)
IsFaultAt settings text (NeedsNumber name) =
    IsNamed text name × IsFree name settings × (least greatest : ℕ) × (takes name ≡ Number least greatest)
    × ((n : ℕ) → SpellsNumber (first_word (after_word text)) n → least ≤ n → n ≤ greatest → ⊥)
IsFaultAt settings text (NeedsWord name) =
    IsNamed text name × IsFree name settings × (most : ℕ) × (takes name ≡ ShortWord most)
    × (0 < length (first_word (after_word text)) → length (first_word (after_word text)) ≤ most → ⊥)
IsFaultAt settings text NoSeparator = (text ≡ []) ⊎ ((name : OptionName) × IsNamed text name × IsFree name settings × (takes name ≡ Word) × (after_word text ≡ []))
IsFaultAt settings text OutOfMemory = Unit {0}

-- The fault is the first one: what comes before it are settings that go together.
pub record IsFirstFault (text : List ℕ) (fault : FindFault) : Type 0 where
  pub settings : List Setting
  pub rest : List ℕ
  pub before : SpellsSettings text rest settings
  pub allowed : IsAllowed settings
  pub here : IsFaultAt settings rest fault
