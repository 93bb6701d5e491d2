-- Options and their words.
use Rattle.std.proofs.Common.{◌≡◌, Bool, true, false, not, ◌&&◌, ◌||◌, Some, None, refl, sym, ap, subst, ◌∙◌, codes}
use Rattle.std.proofs.lemmas.Slice.Eq.{bytes_eq-Decides}
use Rattle.request.specs.Names.{clashes, excludes, is_repeatable, is_same, option_named, text_of}
use Rattle.request.specs.declared.names.OptionName.{OptionName}
use Rattle.request.specs.declared.names.OptionName.TheVariants.{IgnoreCase, Literal, WholeWords, WholeLines, Invert, Named, NotNamed}
use Rattle.request.specs.declared.names.OptionName.TheVariants.{IgnoreNameCase, Limit, Names, Counts, Header, Context, Column, Spans, Zero, Lane, Under, NotUnder}

-- The word of an option names it.
pub named_back : (name : OptionName) → option_named (text_of name) ≡ Some name
unfolding option_named
named_back IgnoreCase = refl
named_back Literal = refl
named_back WholeWords = refl
named_back WholeLines = refl
named_back Invert = refl
named_back Named = refl
named_back NotNamed = refl
named_back IgnoreNameCase = refl
named_back Limit = refl
named_back Names = refl
named_back Counts = refl
named_back Header = refl
named_back Context = refl
named_back Column = refl
named_back Spans = refl
named_back Zero = refl
named_back Lane = refl
named_back Under = refl
named_back NotUnder = refl

pub same_name : (left right : OptionName) → is_same left right ≡ true → left ≡ right
same_name left right h =
    let e : text_of left ≡ text_of right = (bytes_eq-Decides (text_of left) (text_of right)).0 h in
    let both : Some left ≡ Some right = sym (named_back left) ∙ ap option_named e ∙ named_back right in
    cc both

pub no_option : option_named (codes "--") ≡ None
unfolding option_named
no_option = refl

pub no_word : option_named (codes "") ≡ None
unfolding option_named
no_word = refl

pub same_itself : (name : OptionName) → is_same name name ≡ true
same_itself name = (bytes_eq-Decides (text_of name) (text_of name)).1 refl

-- An option that can be repeated clashes with itself in no way.
repeatable_free : (name : OptionName) → is_repeatable name ≡ true → clashes name name ≡ false
repeatable_free Named h = refl
repeatable_free NotNamed h = refl
repeatable_free Under h = refl
repeatable_free NotUnder h = refl
repeatable_free _ h = absurd (cc)

pub free_if_repeatable : (left right : OptionName) → is_same left right ≡ true → is_repeatable right ≡ true → clashes left right ≡ false
free_if_repeatable left right same h =
    subst (λ n. clashes n right ≡ false) (sym (same_name left right same)) (repeatable_free right h)

pub free_if_other : (left right : OptionName) → is_same left right ≡ false → excludes left right ≡ false → clashes left right ≡ false
free_if_other left right other apart = go (is_same left right) (not (is_repeatable left)) (excludes left right) other apart
  where
    go : (s r e : Bool) → s ≡ false → e ≡ false → ((s && r) || e) ≡ false
    go true r e p q = absurd (cc)
    go false r e p q = q

pub clash_if_twice : (left right : OptionName) → left ≡ right → is_repeatable right ≡ false → clashes left right ≡ true
clash_if_twice left right same h =
    subst (λ n. clashes n right ≡ true) (sym same) (go (is_same right right) (is_repeatable right) (excludes right right) (same_itself right) h)
  where
    go : (s r e : Bool) → s ≡ true → r ≡ false → ((s && not r) || e) ≡ true
    go true true e p q = absurd (cc)
    go true false e p q = refl
    go false r e p q = absurd (cc)

pub clash_if_excluded : (left right : OptionName) → excludes left right ≡ true → clashes left right ≡ true
clash_if_excluded left right h = go (is_same left right && not (is_repeatable left)) (excludes left right) h
  where
    go : (s e : Bool) → e ≡ true → (s || e) ≡ true
    go true e p = refl
    go false e p = p
