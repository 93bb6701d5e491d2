-- What settings say.
use Rattle.std.proofs.Common.{◌≡◌, ℕ, ◌+◌, ◌<◌, ◌≤◌, List, [], ◌∷◌, ◌++◌, length, map, get_or, take, Option, Some, None, refl, sym, ap, ◌∙◌}
use Rattle.std.specs.Prelude.{slice_get}
use Rattle.std.specs.List.{cons_option, filter_map}
use Rattle.std.proofs.lemmas.List.{append-nil, take_all, take_more}
use Rattle.std.proofs.lemmas.List.Elements.{filter_map-append}
use Rattle.request.specs.Private.Kept.{shown_argument, shown_setting, shown_settings}
use Rattle.request.specs.Settings.{Argument}
use Rattle.request.specs.declared.names.OptionName.{OptionName}
use Rattle.request.specs.declared.names.OptionName.TheVariants.{IgnoreCase}
use Rattle.request.specs.declared.settings.Argument.TheVariants as argument
use Rattle.request.specs.declared.settings.Setting as kept
use Rattle.request.proofs.ListLemmas.{filter_map-map, first_here, none_more}

-- a setting that is read behind the end of a list
abbrev pub filler : kept.Setting
filler = record { name = IgnoreCase; argument = argument.Nothing }

module _ {Y : Type 0} (f : OptionName → Argument → Option Y) (settings : List kept.Setting) where
  abbrev pub given : kept.Setting → Option Y
  given setting = f setting.name (shown_argument setting.argument)

  abbrev pub first_given : Option Y
  first_given = slice_get (filter_map (λ setting. f setting.name setting.argument) (shown_settings settings)) 0

  same_given : filter_map (λ setting. f setting.name setting.argument) (shown_settings settings) ≡ filter_map given settings
  same_given = filter_map-map (λ setting. f setting.name setting.argument) shown_setting settings

  pub given_here : (at : ℕ) (y : Y) → at < length settings → filter_map given (take at settings) ≡ [] → Some y ≡ given (get_or settings at filler)
      → first_given ≡ Some y
  given_here at y inside none here = ap (λ t. slice_get t 0) same_given ∙ first_here given settings at filler y inside none (sym here)

  pub given_nowhere : (at : ℕ) → length settings ≤ at → filter_map given (take at settings) ≡ [] → first_given ≡ None
  given_nowhere at past none =
      ap (λ t. slice_get t 0) (same_given ∙ ap (filter_map given) (sym (take_all at settings past)) ∙ none)

  pub given_later : (at : ℕ) → at < length settings → filter_map given (take at settings) ≡ [] → None ≡ given (get_or settings at filler)
      → filter_map given (take (at + 1) settings) ≡ []
  given_later at inside none here = none_more given settings at filler inside none (sym here)

-- all that settings give, as it is kept in a list
module _ {X Y : Type 0} (f : OptionName → Argument → Option Y) (show : X → Y) where
  map_push : (shown : List X) (x : X) → map show (shown ++ x ∷ []) ≡ map show shown ++ show x ∷ []
  map_push [] x = refl
  map_push (first ∷ shown) x = ap (λ t. show first ∷ t) (map_push shown x)

  step : (settings : List kept.Setting) (at : ℕ) (found : Option Y) → at < length settings → given f settings (get_or settings at filler) ≡ found
      → filter_map (given f settings) (take (at + 1) settings) ≡ filter_map (given f settings) (take at settings) ++ cons_option found []
  step settings at found inside is =
      ap (filter_map (given f settings)) (take_more settings at filler inside)
      ∙ filter_map-append (given f settings) (take at settings) (get_or settings at filler ∷ [])
      ∙ ap (λ o. filter_map (given f settings) (take at settings) ++ cons_option o []) is

  pub given_more : (settings : List kept.Setting) (at : ℕ) (old new : List X) (x : X) → at < length settings
      → map show old ≡ filter_map (given f settings) (take at settings) → Some (show x) ≡ given f settings (get_or settings at filler)
      → new ≡ old ++ x ∷ [] → map show new ≡ filter_map (given f settings) (take (at + 1) settings)
  given_more settings at old new x inside so_far is pushed =
      ap (map show) pushed ∙ map_push old x ∙ ap (λ t. t ++ show x ∷ []) so_far ∙ sym (step settings at (Some (show x)) inside (sym is))

  pub given_same : (settings : List kept.Setting) (at : ℕ) (old : List X) → at < length settings
      → map show old ≡ filter_map (given f settings) (take at settings) → None ≡ given f settings (get_or settings at filler)
      → map show old ≡ filter_map (given f settings) (take (at + 1) settings)
  given_same settings at old inside so_far is =
      so_far ∙ sym (append-nil (filter_map (given f settings) (take at settings))) ∙ sym (step settings at None inside (sym is))

  pub given_all : (settings : List kept.Setting) (at : ℕ) (old : List X) → length settings ≤ at
      → map show old ≡ filter_map (given f settings) (take at settings)
      → map show old ≡ filter_map (λ setting. f setting.name setting.argument) (shown_settings settings)
  given_all settings at old past so_far =
      so_far ∙ ap (filter_map (given f settings)) (take_all at settings past)
      ∙ sym (filter_map-map (λ setting. f setting.name setting.argument) shown_setting settings)
