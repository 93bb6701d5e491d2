-- What a text says is one thing, and after a fault nothing is spelled.
use Rattle.std.proofs.Common.{◌≡◌, ◌≢◌, ℕ, ◌≤◌, ◌<◌, Bool, true, false, cond, IsFalse, List, [], ◌∷◌, ◌++◌}
use Rattle.std.proofs.Common.{Option, Some, None, refl, sym, ap, subst, ◌∙◌, arith, inl, inr, codes}
use Rattle.std.specs.Prelude.{nat_le}
use Rattle.std.proofs.lemmas.Bool.Decides.{nat_tests}
use Rattle.std.proofs.lemmas.List.{append-nil}
use Rattle.request.specs.Faults.{IsFaultAt, IsFirstFault, IsNamed, first_clash, reason_of}
use Rattle.request.specs.Find.{HasNoFind, IsFindOf, Options, SpellsFind, options_of}
use Rattle.request.specs.Names.{clashes, greatest_times, is_same, option_named, takes}
use Rattle.request.specs.Settings.{Argument, IsAllowed, Setting, SpellsArgument, SpellsSetting, SpellsSettings, count_of, number}
use Rattle.request.specs.Settings.{SpellsSettings as spelled}
use Rattle.request.specs.Words.{after_word, first_word}
use Rattle.request.specs.declared.fault.FindFault.{FindFault}
use Rattle.request.specs.declared.fault.FindFault.TheVariants.{BadOption, Twice, TooOften, NeedsNumber, NeedsWord, Exclude, NoSeparator, OutOfMemory}
use Rattle.request.specs.declared.names.OptionName.{OptionName}
use Rattle.request.specs.declared.names.Takes.{Takes}
use Rattle.request.specs.declared.names.Takes.TheVariants.{Nothing, Word, ShortWord, Number}
use Rattle.request.proofs.ListLemmas.{count_by-append, pair_at}
use Rattle.request.proofs.SettingLemmas.{counted, no_clash}
use Rattle.request.proofs.NameLemmas.{no_option, no_word, same_itself, same_name}

one_argument : (taken : Takes) (from left right : List ℕ) (a b : Argument) → SpellsArgument taken from left a → SpellsArgument taken from right b
    → (left ≡ right) × (a ≡ b)
one_argument Nothing from left right a b h k = (h.0 ∙ sym k.0, h.1 ∙ sym k.1)
one_argument Word from left right a b h k = (h.1 ∙ sym k.1, h.2 ∙ sym k.2)
one_argument (ShortWord most) from left right a b h k = (h.2 ∙ sym k.2, h.3 ∙ sym k.3)
one_argument (Number least greatest) from left right a b h k =
    let same : h.0 ≡ k.0 = h.1.is_value ∙ sym k.1.is_value in
    (h.4 ∙ sym k.4, h.5 ∙ ap number same ∙ sym k.5)

same_setting : (left right : Setting) → left.name ≡ right.name → left.argument ≡ right.argument → left ≡ right
same_setting left right p q = ap (λ n. set_of n left.argument) p ∙ ap (λ a. set_of right.name a) q
  where
    set_of : OptionName → Argument → Setting
    set_of name argument = record { name = name; argument = argument }

one_name : (text : List ℕ) (left right : OptionName) → IsNamed text left → IsNamed text right → left ≡ right
one_name text left right h k = let both : Some left ≡ Some right = sym h ∙ k in cc both

one_setting : (from left right : List ℕ) (a b : Setting) → SpellsSetting from left a → SpellsSetting from right b → (left ≡ right) × (a ≡ b)
one_setting from left right a b h k =
    let name : a.name ≡ b.name = one_name from a.name b.name h.named k.named in
    let rest = one_argument (takes b.name) (after_word from) left right a.argument b.argument
    (subst (λ n. SpellsArgument (takes n) (after_word from) left a.argument) name h.followed) k.followed in
    (rest.0, same_setting a b name rest.1)

-- The word before the pattern names no option.
not_separator : (text : List ℕ) (name : OptionName) → IsNamed text name → first_word text ≡ codes "--" → ⊥
not_separator text name h e = let both : Some name ≡ None = sym h ∙ ap option_named e ∙ no_option in absurd (cc both)

-- settings of a text are the first ones of all that are before its pattern
record Splits (rest last : List ℕ) (settings all : List Setting) : Type 0 where
  later : List Setting
  spelled : SpellsSettings rest last later
  whole : all ≡ settings ++ later

split : {text rest last : List ℕ} {settings all : List Setting} → SpellsSettings text rest settings → SpellsSettings text last all
    → first_word last ≡ codes "--" → Splits rest last settings all
split {all = all} spelled.done second sep = record { later = all; spelled = second; whole = refl }
split {text} (spelled.more {setting = s} one others) spelled.done sep = absurd (not_separator text s.name one.named sep)
split {text} {rest} {last} (spelled.more {middle = m} {setting = s} {settings = settings} one others)
    (spelled.more {middle = m'} {setting = s'} {settings = all} two rest_of) sep =
    let same = one_setting text m m' s s' one two in
    let found = split others (subst (λ t. SpellsSettings t last all) (sym same.0) rest_of) sep in
    record { later = found.later; spelled = found.spelled; whole = ap (λ t. s' ∷ t) found.whole ∙ ap (λ t. t ∷ (settings ++ found.later)) (sym same.1) }

-- what settings before a fault leave to the pattern's front
record Leaves (text rest : List ℕ) (settings : List Setting) (pattern : List ℕ) : Type 0 where
  last : List ℕ
  later : List Setting
  spelled : SpellsSettings rest last later
  separator : first_word last ≡ codes "--"
  allowed : IsAllowed (settings ++ later)

leaves : {text rest : List ℕ} {settings all : List Setting} {pattern : List ℕ} → SpellsSettings text rest settings → SpellsFind text all pattern
    → Leaves text rest settings pattern
leaves {settings = settings} before find =
    let parts = split before find.before find.separator in
    record {
      last = find.rest;
      later = parts.later;
      spelled = parts.spelled;
      separator = find.separator;
      allowed = subst IsAllowed parts.whole find.allowed;
    }

-- the pattern's front, or one more setting
data Next (rest last : List ℕ) (later : List Setting) : Type 0 where
  ends : rest ≡ last → later ≡ [] → Next rest last later
  goes_on : (setting : Setting) (middle : List ℕ) (others : List Setting) → SpellsSetting rest middle setting → later ≡ setting ∷ others → Next rest last later

next : {rest last : List ℕ} {later : List Setting} → SpellsSettings rest last later → Next rest last later
next spelled.done = ends refl refl
next (spelled.more {middle = m} {setting = s} {settings = others} one rest) = goes_on s m others one refl

module _ (rest : List ℕ) (settings : List Setting) where
  unclashed : (setting : Setting) (others : List Setting) (name earlier : OptionName) → IsAllowed (settings ++ setting ∷ others) → name ≡ setting.name
      → first_clash name settings ≡ Some earlier → ⊥
  unclashed setting others name earlier allowed same clash =
      let free = no_clash settings setting.name (λ k d inside.
      pair_at (λ before later. IsFalse (clashes before.name later.name)) settings setting others allowed.together k d inside) in
      let both : Some earlier ≡ None = sym clash ∙ ap (λ n. first_clash n settings) same ∙ free in
      absurd (cc both)

  -- At a fault nothing goes on.
  refused : (fault : FindFault) → fault ≢ OutOfMemory → IsFaultAt settings rest fault → (setting : Setting) (middle : List ℕ) (others : List Setting)
      → SpellsSetting rest middle setting → IsAllowed (settings ++ setting ∷ others) → ⊥
  refused (BadOption word) real h setting middle others one allowed =
      let both : None ≡ Some setting.name = sym h.2 ∙ one.named in absurd (cc both)
  refused (Twice name) real h setting middle others one allowed =
      unclashed setting others name name allowed (one_name rest name setting.name h.0 one.named) h.1
  refused (Exclude earlier name) real h setting middle others one allowed =
      unclashed setting others name earlier allowed (one_name rest name setting.name h.0 one.named) h.2
  refused (TooOften name) real h setting middle others one allowed =
      let same : setting.name ≡ name = one_name rest setting.name name one.named h.0 in
      let here : is_same setting.name name ≡ true = ap (λ n. is_same n name) same ∙ same_itself name in
      let more = count_by-append (λ s. is_same s.name name) (setting ∷ []) others in
      omega (arith, allowed.few name, count_by-append (λ s. is_same s.name name) settings (setting ∷ others), more, counted setting name true here, h.2)
  refused (NeedsNumber name) real h setting middle others one allowed =
      let same : setting.name ≡ name = one_name rest setting.name name one.named h.0 in
      let taken : takes setting.name ≡ Number h.2 h.3 = ap takes same ∙ h.4 in
      let number = subst (λ t. SpellsArgument t (after_word rest) middle setting.argument) taken one.followed in
      h.5 number.0 number.1 number.2 number.3
  refused (NeedsWord name) real h setting middle others one allowed =
      let same : setting.name ≡ name = one_name rest setting.name name one.named h.0 in
      let taken : takes setting.name ≡ ShortWord h.2 = ap takes same ∙ h.3 in
      let word = subst (λ t. SpellsArgument t (after_word rest) middle setting.argument) taken one.followed in
      h.4 word.0 word.1
  refused NoSeparator real (inl nothing) setting middle others one allowed =
      let both : None ≡ Some setting.name = sym no_word ∙ ap (λ t. option_named (first_word t)) (sym nothing) ∙ one.named in absurd (cc both)
  refused NoSeparator real (inr h) setting middle others one allowed =
      let same : setting.name ≡ h.0 = one_name rest setting.name h.0 one.named h.1 in
      let taken : takes setting.name ≡ Word = ap takes same ∙ h.3 in
      let word = subst (λ t. SpellsArgument t (after_word rest) middle setting.argument) taken one.followed in
      word.0 h.4
  refused OutOfMemory real h setting middle others one allowed = real refl

  -- A fault is not at the pattern's front.
  not_there : (fault : FindFault) → fault ≢ OutOfMemory → IsFaultAt settings rest fault → first_word rest ≡ codes "--" → ⊥
  not_there (BadOption word) real h sep = h.1 sep
  not_there (Twice name) real h sep = not_separator rest name h.0 sep
  not_there (Exclude earlier name) real h sep = not_separator rest name h.0 sep
  not_there (TooOften name) real h sep = not_separator rest name h.0 sep
  not_there (NeedsNumber name) real h sep = not_separator rest name h.0 sep
  not_there (NeedsWord name) real h sep = not_separator rest name h.0 sep
  not_there NoSeparator real (inl nothing) sep = let both : [] ≡ codes "--" = sym (ap first_word nothing) ∙ sep in absurd (cc both)
  not_there NoSeparator real (inr h) sep = not_separator rest h.0 h.1 sep
  not_there OutOfMemory real h sep = real refl

pub no_find : (text : List ℕ) (fault : FindFault) → fault ≢ OutOfMemory → IsFirstFault text fault → HasNoFind text
no_find text fault real first options pattern find = go left (next left.spelled)
  where
    left : Leaves text first.rest first.settings pattern
    left = leaves first.before find.spelled

    go : (l : Leaves text first.rest first.settings pattern) → Next first.rest l.last l.later → ⊥
    go l (ends same none) = not_there first.rest first.settings fault real first.here (ap first_word same ∙ l.separator)
    go l (goes_on setting middle others one is) =
        refused first.rest first.settings fault real first.here setting middle others one
        (subst (λ later. IsAllowed (first.settings ++ later)) is l.allowed)

-- A text says one thing.
one_spelling : (text : List ℕ) (left right : List Setting) (pattern other : List ℕ) → SpellsFind text left pattern → SpellsFind text right other
    → (left ≡ right) × (pattern ≡ other)
one_spelling text left right pattern other h k = go parts (next parts.spelled)
  where
    parts : Splits h.rest k.rest left right
    parts = split h.before k.before k.separator

    go : (p : Splits h.rest k.rest left right) → Next h.rest k.rest p.later → (left ≡ right) × (pattern ≡ other)
    go p (ends same none) = (sym (p.whole ∙ ap (λ t. left ++ t) none ∙ append-nil left), h.after ∙ ap after_word same ∙ sym k.after)
    go p (goes_on setting middle others one is) = absurd (not_separator h.rest setting.name one.named h.separator)

pub one_find : (text : List ℕ) (options other : Options) (pattern another : List ℕ) → IsFindOf text options pattern → IsFindOf text other another
    → (options ≡ other) × (pattern ≡ another)
one_find text options other pattern another h k =
    let same = one_spelling text h.settings k.settings pattern another h.spelled k.spelled in
    (h.is_options ∙ ap options_of same.0 ∙ sym k.is_options, same.1)

-- ---- one first fault

-- Of two readings of one text, one goes on where the other stops, or they stop at one place.
data Compared (left right : List ℕ) (first second : List Setting) : Type 0 where
  left_stops : (setting : Setting) (middle : List ℕ) (others : List Setting) → SpellsSetting left middle setting → second ≡ first ++ setting ∷ others
      → Compared left right first second
  right_stops : (setting : Setting) (middle : List ℕ) (others : List Setting) → SpellsSetting right middle setting → first ≡ second ++ setting ∷ others
      → Compared left right first second
  both_stop : left ≡ right → first ≡ second → Compared left right first second

longer : {left right : List ℕ} {first second : List Setting} (setting other : Setting) → setting ≡ other → Compared left right first second
    → Compared left right (setting ∷ first) (other ∷ second)
longer {first = first} setting other same (left_stops s m others one is) =
    left_stops s m others one (ap (λ t. other ∷ t) is ∙ ap (λ x. x ∷ (first ++ s ∷ others)) (sym same))
longer {second = second} setting other same (right_stops s m others one is) =
    right_stops s m others one (ap (λ t. setting ∷ t) is ∙ ap (λ x. x ∷ (second ++ s ∷ others)) same)
longer {second = second} setting other same (both_stop at is) = both_stop at (ap (λ t. setting ∷ t) is ∙ ap (λ x. x ∷ second) same)

compare : {text left right : List ℕ} {first second : List Setting} → SpellsSettings text left first → SpellsSettings text right second
    → Compared left right first second
compare spelled.done spelled.done = both_stop refl refl
compare spelled.done (spelled.more {middle = m} {setting = s} {settings = others} one rest) = left_stops s m others one refl
compare (spelled.more {middle = m} {setting = s} {settings = others} one rest) spelled.done = right_stops s m others one refl
compare {text} {left} {right} (spelled.more {middle = m} {setting = s} {settings = first} one others)
    (spelled.more {middle = m'} {setting = s'} {settings = second} two others') =
    let same = one_setting text m m' s s' one two in
    longer s s' same.1 (compare others (subst (λ t. SpellsSettings t right second) (sym same.0) others'))

-- what is said of an option, by the first clash, whether it is there too often, and what it takes
abbrev said : OptionName → Option OptionName → Bool → Takes → List ℕ
said name (Some earlier) often taken =
    cond (is_same earlier name) (reason_of (Twice name)) (reason_of (Exclude earlier name))
said name None true taken = reason_of (TooOften name)
said name None false Nothing = []
said name None false Word = reason_of NoSeparator
said name None false (ShortWord most) = reason_of (NeedsWord name)
said name None false (Number least greatest) = reason_of (NeedsNumber name)

-- what is said at the front of a text whose first word names this option or none
abbrev said_at : List Setting → Option OptionName → List ℕ → List ℕ
said_at settings None [] = reason_of NoSeparator
said_at settings None (b ∷ text) = codes "bad option " ++ first_word (b ∷ text)
said_at settings (Some name) text = said name (first_clash name settings) (nat_le (greatest_times name) (count_of name settings)) (takes name)

module _ (settings : List Setting) where
  abbrev said_here : List ℕ → List ℕ
  said_here text = said_at settings (option_named (first_word text)) text

  -- of an option that the first word names, which clashes with nothing
  said_free : (text : List ℕ) (name : OptionName) (often : Bool) (taken : Takes) → IsNamed text name → first_clash name settings ≡ None
      → nat_le (greatest_times name) (count_of name settings) ≡ often → takes name ≡ taken → said_here text ≡ said name None often taken
  said_free text name often taken named free times is =
      ap (λ o. said_at settings o text) named ∙ ap (λ o. said name o (nat_le (greatest_times name) (count_of name settings)) (takes name)) free
      ∙ ap (λ b. said name None b (takes name)) times ∙ ap (said name None often) is

  -- and of one that clashes
  said_clash : (text : List ℕ) (name earlier : OptionName) (same : Bool) → IsNamed text name → first_clash name settings ≡ Some earlier
      → is_same earlier name ≡ same → said_here text ≡ cond same (reason_of (Twice name)) (reason_of (Exclude earlier name))
  said_clash text name earlier same named clash is =
      ap (λ o. said_at settings o text) named ∙ ap (λ o. said name o (nat_le (greatest_times name) (count_of name settings)) (takes name)) clash
      ∙ ap (λ b. cond b (reason_of (Twice name)) (reason_of (Exclude earlier name))) is

  few_times : (name : OptionName) → count_of name settings < greatest_times name → nat_le (greatest_times name) (count_of name settings) ≡ false
  few_times name few = grind (arith, nat_tests, few)

  many_times : (name : OptionName) → greatest_times name ≤ count_of name settings → nat_le (greatest_times name) (count_of name settings) ≡ true
  many_times name many = grind (arith, nat_tests, many)

  other_name : (earlier name : OptionName) → earlier ≢ name → is_same earlier name ≡ false
  other_name earlier name other = go (is_same earlier name) refl
    where
      go : (b : Bool) → is_same earlier name ≡ b → is_same earlier name ≡ false
      go true same = absurd (other (same_name earlier name same))
      go false is = is

  fault_says : (fault : FindFault) (text : List ℕ) → fault ≢ OutOfMemory → IsFaultAt settings text fault → reason_of fault ≡ said_here text
  fault_says (BadOption word) [] real h = absurd (h.0 refl)
  fault_says (BadOption word) (b ∷ text) real h =
      ap (λ w. codes "bad option " ++ w) h.3 ∙ sym (ap (λ o. said_at settings o (b ∷ text)) h.2)
  fault_says (Twice name) text real h = sym (said_clash text name name true h.0 h.1 (same_itself name))
  fault_says (Exclude earlier name) text real h = sym (said_clash text name earlier false h.0 h.2 (other_name earlier name h.1))
  fault_says (TooOften name) text real h = sym (said_free text name true (takes name) h.0 h.1 (many_times name h.2) refl)
  fault_says (NeedsNumber name) text real h =
      sym (said_free text name false (Number h.2 h.3) h.0 (no_clash settings name h.1.together) (few_times name h.1.few) h.4)
  fault_says (NeedsWord name) text real h =
      sym (said_free text name false (ShortWord h.2) h.0 (no_clash settings name h.1.together) (few_times name h.1.few) h.3)
  fault_says NoSeparator text real (inl nothing) = sym (ap said_here nothing ∙ ap (λ o. said_at settings o []) no_word)
  fault_says NoSeparator text real (inr h) =
      sym (said_free text h.0 false Word h.1 (no_clash settings h.0 h.2.together) (few_times h.0 h.2.few) h.3)
  fault_says OutOfMemory text real h = absurd (real refl)

pub one_first_fault : (text : List ℕ) (fault other : FindFault) → IsFirstFault text fault → IsFirstFault text other → fault ≢ OutOfMemory
    → other ≢ OutOfMemory → reason_of fault ≡ reason_of other
one_first_fault text fault other first second real real' = go (compare first.before second.before)
  where
    go : Compared first.rest second.rest first.settings second.settings → reason_of fault ≡ reason_of other
    go (left_stops setting middle others one is) =
        absurd (refused first.rest first.settings fault real first.here setting middle others one (subst IsAllowed is second.allowed))
    go (right_stops setting middle others one is) =
        absurd (refused second.rest second.settings other real' second.here setting middle others one (subst IsAllowed is first.allowed))
    go (both_stop at is) =
        fault_says first.settings fault first.rest real first.here
        ∙ ap (λ r. said_at first.settings (option_named (first_word r)) r) at
        ∙ ap (λ s. said_at s (option_named (first_word second.rest)) second.rest) is
        ∙ sym (fault_says second.settings other second.rest real' second.here)
