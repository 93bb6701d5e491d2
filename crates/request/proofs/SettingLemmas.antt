-- Settings, one after the other.
use Rattle.std.proofs.Common.{◌≡◌, ℕ, ◌<◌, ◌≤◌, Bool, true, false, cond, IsFalse, List, [], ◌∷◌, ◌++◌, length, get_or, take, Some, None}
use Rattle.std.proofs.Common.{refl, sym, ap, subst, ◌∙◌, arith}
use Rattle.std.specs.Prelude.{count_by, option_map}
use Rattle.std.specs.List.{All}
use Rattle.std.proofs.lemmas.List.{take_all}
use Rattle.std.proofs.lemmas.List.Elements.{All-map}
use Rattle.std.proofs.lemmas.List.Quantifiers.{all_pairs_push}
use Rattle.request.specs.Faults.{IsFree, first_clash}
use Rattle.request.specs.Names.{clashes, greatest_times, is_same}
use Rattle.request.specs.Private.Kept.{shown_setting, shown_settings}
use Rattle.request.specs.Settings.{IsAllowed, Setting, SpellsSetting, SpellsSettings, count_of}
use Rattle.request.specs.Settings.{SpellsSettings as spelled}
use Rattle.request.specs.declared.names.OptionName.{OptionName}
use Rattle.request.specs.declared.settings.Setting as kept
use Rattle.request.proofs.ListLemmas.{count_by-append, count_by-map, find-map, find_here, find_none}
use Rattle.request.proofs.NameLemmas.{same_name}

-- one more setting
pub settings_push : {from middle rest : List ℕ} {settings : List Setting} {setting : Setting} → SpellsSettings from middle settings
    → SpellsSetting middle rest setting → SpellsSettings from rest (settings ++ setting ∷ [])
settings_push spelled.done one = spelled.more one spelled.done
settings_push (spelled.more first others) one = spelled.more first (settings_push others one)

pub allowed_none : IsAllowed []
allowed_none = record { together = λ i j d before inside. absurd (omega arith); few = λ name. omega arith }

abbrev one_if : Bool → ℕ
one_if t = cond t 1 0

pub counted : (setting : Setting) (name : OptionName) (t : Bool) → is_same setting.name name ≡ t → count_of name (setting ∷ []) ≡ cond t 1 0
counted setting name t e = let at : one_if (is_same setting.name name) ≡ one_if t = ap one_if e in omega (arith, at)

pub allowed_push : (settings : List Setting) (setting : Setting) → IsAllowed settings → IsFree setting.name settings
    → IsAllowed (settings ++ setting ∷ [])
allowed_push settings setting allowed free = record {
  together =
      all_pairs_push (λ earlier later. IsFalse (clashes earlier.name later.name)) settings setting allowed.together free.together;
  few = λ name. few name (is_same setting.name name) refl;
}
  where
    few : (name : OptionName) (t : Bool) → is_same setting.name name ≡ t → count_of name (settings ++ setting ∷ []) ≤ greatest_times name
    few name true same =
        let equal : setting.name ≡ name = same_name setting.name name same in
        let room : count_of name settings < greatest_times name = subst (λ n. count_of n settings < greatest_times n) equal free.few in
        omega (arith, count_by-append (λ s. is_same s.name name) settings (setting ∷ []), counted setting name true same, room)
    few name false other =
        omega (arith, count_by-append (λ s. is_same s.name name) settings (setting ∷ []), counted setting name false other, allowed.few name)

pub shown_push : (settings : List kept.Setting) (setting : kept.Setting)
    → shown_settings (settings ++ setting ∷ []) ≡ shown_settings settings ++ shown_setting setting ∷ []
shown_push [] setting = refl
shown_push (first ∷ settings) setting = ap (λ t. shown_setting first ∷ t) (shown_push settings setting)

-- ---- the first clash

pub no_clash : (settings : List Setting) (name : OptionName) → All (λ s. IsFalse (clashes s.name name)) settings → first_clash name settings ≡ None
no_clash settings name free = ap (option_map (λ s. s.name)) (find_none (λ s. clashes s.name name) settings free)

-- the first of the settings that are kept
pub clash_here : (settings : List kept.Setting) (k : ℕ) (d : kept.Setting) (name : OptionName) → k < length settings
    → All (λ s. clashes s.name name ≡ false) (take k settings) → clashes (get_or settings k d).name name ≡ true
    → first_clash name (shown_settings settings) ≡ Some (get_or settings k d).name
clash_here settings k d name inside free here =
    ap (option_map (λ s. s.name)) (find-map (λ s. clashes s.name name) shown_setting settings
    ∙ ap (option_map shown_setting) (find_here (λ s. clashes s.name name) settings k d inside free here))

-- ---- all settings that are kept, once all are looked at

pub free_of_all : (settings : List kept.Setting) (name : OptionName) (at : ℕ) → length settings ≤ at
    → All (λ s. clashes s.name name ≡ false) (take at settings) → All (λ s. IsFalse (clashes s.name name)) (shown_settings settings)
free_of_all settings name at past together =
    All-map (λ earlier. IsFalse (clashes earlier.name name)) shown_setting settings
    (subst (λ t. All (λ s. clashes s.name name ≡ false) t) (take_all at settings past) together)

pub counted_all : (settings : List kept.Setting) (name : OptionName) (at times : ℕ) → length settings ≤ at
    → times ≡ count_by (λ s. is_same s.name name) (take at settings) → times ≡ count_of name (shown_settings settings)
counted_all settings name at times past counts =
    counts ∙ ap (count_by (λ s. is_same s.name name)) (take_all at settings past)
    ∙ sym (count_by-map (λ s. is_same s.name name) shown_setting settings)
