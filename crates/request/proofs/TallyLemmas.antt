-- What is kept of many settings, to see what can follow them.
use Rattle.std.proofs.Common.{◌≡◌, ℕ, ◌+◌, ◌≤◌, Bool, true, false, ◌&&◌, ◌||◌, cond, IsFalse, List, [], ◌∷◌, ◌++◌, length, Option, Some, None}
use Rattle.std.proofs.Common.{refl, sym, ap, subst, ◌∙◌, arith, length-append}
use Rattle.std.specs.Prelude.{find, option_map}
use Rattle.std.specs.Option.{option_or}
use Rattle.std.specs.List.{All}
use Rattle.std.proofs.lemmas.List.Elements.{All-pop, All-push}
use Rattle.std.proofs.lemmas.List.Folds.{find-append}
use Rattle.request.specs.Faults.{first_clash}
use Rattle.request.specs.Names.{clashes, is_same}
use Rattle.request.specs.Private.Kept.{IsTally, Tallies, prefix_times, shown_setting, shown_settings}
use Rattle.request.specs.declared.settings.Earlier.{Earlier}
use Rattle.request.specs.declared.settings.Setting as kept
use Rattle.std.proofs.lemmas.List.{length-map}
use Rattle.request.specs.Settings.{Setting, count_of}
use Rattle.request.specs.declared.names.OptionName.{OptionName}
use Rattle.request.specs.declared.names.OptionName.TheVariants.{Under, NotUnder}
use Rattle.request.proofs.ListLemmas.{count_by-append}
use Rattle.request.proofs.SettingLemmas.{counted, shown_push}

pub tally_none : Tallies [] [] 0 0
tally_none = record { clash = λ name. refl; together = λ name free. free; times = nothing; few = refl }
  where
    nothing : (name : OptionName) → count_of name [] ≡ count_of name [] + prefix_times 0 0 name
    nothing Under = refl
    nothing NotUnder = refl
    nothing _ = refl

-- an option of prefixes clashes with none
no_clash_under : (name : OptionName) → clashes Under name ≡ false
no_clash_under name = go (is_same Under name)
  where
    go : (t : Bool) → ((t && false) || false) ≡ false
    go true = refl
    go false = refl

no_clash_not_under : (name : OptionName) → clashes NotUnder name ≡ false
no_clash_not_under name = go (is_same NotUnder name)
  where
    go : (t : Bool) → ((t && false) || false) ≡ false
    go true = refl
    go false = refl

abbrev one_if : Bool → ℕ
one_if t = cond t 1 0

one_under : (under not_under : ℕ) (name : OptionName)
    → one_if (is_same Under name) + prefix_times under not_under name ≡ prefix_times (under + 1) not_under name
one_under under not_under Under = omega arith
one_under under not_under NotUnder = omega arith
one_under under not_under _ = refl

one_not_under : (under not_under : ℕ) (name : OptionName)
    → one_if (is_same NotUnder name) + prefix_times under not_under name ≡ prefix_times under (not_under + 1) name
one_not_under under not_under Under = omega arith
one_not_under under not_under NotUnder = omega arith
one_not_under under not_under _ = refl

module _ (settings others : List Setting) (under not_under : ℕ) (tally : Tallies settings others under not_under) where
  -- a setting that clashes with no option is not kept
  silent : (setting : Setting) (more less : ℕ) → ((name : OptionName) → clashes setting.name name ≡ false)
      → ((name : OptionName) → one_if (is_same setting.name name) + prefix_times under not_under name ≡ prefix_times more less name)
      → more + less ≡ under + not_under + 1 → Tallies (settings ++ setting ∷ []) others more less
  silent setting more less free one sum = record {
    clash = λ name.
        find-append (λ s. clashes s.name name) settings (setting ∷ [])
        ∙ (ap (λ t. option_or (find (λ s. clashes s.name name) settings) (cond t (Some setting) None)) (free name)
        ∙ (or_none (find (λ s. clashes s.name name) settings) ∙ tally.clash name));
    together = λ name each.
        All-push (λ s. IsFalse (clashes s.name name)) settings setting (tally.together name each) (free name);
    times = λ name.
        omega (
          arith,
          count_by-append (λ s. is_same s.name name) settings (setting ∷ []),
          counted setting name (is_same setting.name name) refl,
          tally.times name,
          one name,
        );
    few = (let before = tally.few in omega (arith, length-append settings (setting ∷ [])));
  }
    where
      or_none : (o : Option Setting) → option_or o None ≡ o
      or_none None = refl
      or_none (Some x) = refl

  pub tally_under : (setting : Setting) → setting.name ≡ Under → Tallies (settings ++ setting ∷ []) others (under + 1) not_under
  tally_under setting is =
      silent setting (under + 1) not_under (λ name. ap (λ n. clashes n name) is ∙ no_clash_under name)
      (λ name. ap (λ n. one_if (is_same n name) + prefix_times under not_under name) is ∙ one_under under not_under name) (omega arith)

  pub tally_not_under : (setting : Setting) → setting.name ≡ NotUnder → Tallies (settings ++ setting ∷ []) others under (not_under + 1)
  tally_not_under setting is =
      silent setting under (not_under + 1) (λ name. ap (λ n. clashes n name) is ∙ no_clash_not_under name)
      (λ name. ap (λ n. one_if (is_same n name) + prefix_times under not_under name) is ∙ one_not_under under not_under name) (omega arith)

  pub tally_other : (setting : Setting) → Tallies (settings ++ setting ∷ []) (others ++ setting ∷ []) under not_under
  tally_other setting = record {
    clash = λ name.
        find-append (λ s. clashes s.name name) settings (setting ∷ [])
        ∙ (ap (λ o. option_or o (find (λ s. clashes s.name name) (setting ∷ []))) (tally.clash name)
        ∙ sym (find-append (λ s. clashes s.name name) others (setting ∷ [])));
    together = λ name each.
        (let both = All-pop (λ s. IsFalse (clashes s.name name)) (others ++ setting ∷ []) others (Some setting) refl each in
        All-push (λ s. IsFalse (clashes s.name name)) settings setting (tally.together name both.0) both.1);
    times = λ name.
        omega (
          arith,
          count_by-append (λ s. is_same s.name name) settings (setting ∷ []),
          count_by-append (λ s. is_same s.name name) others (setting ∷ []),
          tally.times name,
        );
    few = (let before = tally.few in omega (arith, length-append settings (setting ∷ []), length-append others (setting ∷ [])));
  }

  pub tally_clash : (name : OptionName) → first_clash name settings ≡ first_clash name others
  tally_clash name = ap (option_map (λ s. s.name)) (tally.clash name)

  pub tally_most : (name : OptionName) → length others + prefix_times under not_under name ≤ length settings
  tally_most name = let all = tally.few in omega (arith, most name)
    where
      most : (name : OptionName) → prefix_times under not_under name ≤ under + not_under
      most Under = omega arith
      most NotUnder = omega arith
      most _ = omega arith

-- ---- as the program keeps it

module _ (earlier : Earlier) (tally : IsTally earlier) (items : List kept.Setting) (is : items ≡ earlier.others.items) (name : OptionName) where
  pub kept_clash : first_clash name (shown_settings earlier.settings.items) ≡ first_clash name (shown_settings items)
  kept_clash =
      tally_clash (shown_settings earlier.settings.items) (shown_settings earlier.others.items) earlier.under earlier.not_under tally name
      ∙ ap (λ xs. first_clash name (shown_settings xs)) (sym is)

  pub kept_times : count_of name (shown_settings earlier.settings.items)
      ≡ count_of name (shown_settings items) + prefix_times earlier.under earlier.not_under name
  kept_times = tally.times name ∙ ap (λ xs. count_of name (shown_settings xs) + prefix_times earlier.under earlier.not_under name) (sym is)

  pub kept_together : All (λ s. IsFalse (clashes s.name name)) (shown_settings items)
      → All (λ s. IsFalse (clashes s.name name)) (shown_settings earlier.settings.items)
  kept_together free = tally.together name (subst (λ xs. All (λ s. IsFalse (clashes s.name name)) (shown_settings xs)) is free)

  pub kept_most : length items + prefix_times earlier.under earlier.not_under name ≤ length earlier.settings.items
  kept_most =
      let most = tally_most (shown_settings earlier.settings.items) (shown_settings earlier.others.items) earlier.under earlier.not_under tally name in
      omega (arith, most, ap length is, length-map earlier.settings.items shown_setting, length-map earlier.others.items shown_setting)

-- ---- one more setting

module _ (settings grown : List kept.Setting) (setting : kept.Setting) (is : grown ≡ settings ++ setting ∷ []) where
  pub tally_grown : (others : List kept.Setting) (under not_under : ℕ)
      → Tallies (shown_settings settings ++ shown_setting setting ∷ []) (shown_settings others) under not_under
      → Tallies (shown_settings grown) (shown_settings others) under not_under
  tally_grown others under not_under tally =
      subst (λ s. Tallies s (shown_settings others) under not_under) (sym (ap shown_settings is ∙ shown_push settings setting)) tally

  pub tally_both_grown : (others more : List kept.Setting) (under not_under : ℕ) → more ≡ others ++ setting ∷ []
      → Tallies (shown_settings settings ++ shown_setting setting ∷ []) (shown_settings others ++ shown_setting setting ∷ []) under not_under
      → Tallies (shown_settings grown) (shown_settings more) under not_under
  tally_both_grown others more under not_under also tally =
      tally_grown more under not_under
      (subst (λ o. Tallies (shown_settings settings ++ shown_setting setting ∷ []) o under not_under)
      (sym (ap shown_settings also ∙ shown_push others setting)) tally)
