-- How the options of `find` are written, and which go together (this program's own language; most letters are those
-- of `grep`).
use Rattle.std.specs.Prelude.{ℕ, Bool, true, false, not, ◌&&◌, ◌||◌, List, Option, codes, find}
use Rattle.std.specs.Str.{bytes_eq}
use Rattle.request.specs.declared.names.OptionName.{OptionName}
use Rattle.request.specs.declared.names.OptionName.TheVariants.{IgnoreCase, Literal, WholeWords, WholeLines, Invert, Named, NotNamed}
use Rattle.request.specs.declared.names.OptionName.TheVariants.{IgnoreNameCase, Limit, Names, Counts, Header, Context, Column, Spans, Zero, Lane, Under, NotUnder}
use Rattle.request.specs.declared.names.Takes.{Takes}
use Rattle.request.specs.declared.names.Takes.TheVariants.{Nothing, Word, ShortWord, Number}
use Rattle.request.specs.declared.names.TheConstants.{ALL}

-- the word of an option
abbrev pub text_of : OptionName → List ℕ
text_of IgnoreCase = codes "-i"
text_of Literal = codes "-F"
text_of WholeWords = codes "-w"
text_of WholeLines = codes "-x"
text_of Invert = codes "-v"
text_of Named = codes "-n"
text_of NotNamed = codes "-N"
text_of IgnoreNameCase = codes "-I"
text_of Limit = codes "-m"
text_of Names = codes "-l"
text_of Counts = codes "-c"
text_of Header = codes "-q"
text_of Context = codes "-C"
text_of Column = codes "--column"
text_of Spans = codes "--spans"
text_of Zero = codes "-Z"
text_of Lane = codes "--lane"
text_of Under = codes "--under"
text_of NotUnder = codes "--not-under"

-- the option of a word, if it is one's
unfoldable pub option_named : List ℕ → Option OptionName
option_named word = find (λ name. bytes_eq (text_of name) word) ALL

-- what follows the word of an option: nothing, a word, one of at most so many bytes, or a number from the least to the greatest
abbrev pub takes : OptionName → Takes
takes Named = Word
takes NotNamed = Word
takes Lane = ShortWord 64
takes Under = ShortWord 4294967295
takes NotUnder = ShortWord 4294967295
takes Limit = Number 1 4294967295
takes Context = Number 0 1000
takes _ = Nothing

-- the numbers of an option that takes one, in words
abbrev pub range_text : OptionName → List ℕ
range_text Context = codes "0 to 1000"
range_text _ = codes "1 to 4294967295"

-- the lengths of the word of an option that takes such a one, in words; no line has a word of over 4,294,967,295 bytes
abbrev pub length_text : OptionName → List ℕ
length_text Lane = codes "1 to 64 bytes"
length_text _ = codes "1 byte or more"

-- whether two options are the same
abbrev pub is_same : OptionName → OptionName → Bool
is_same left right = bytes_eq (text_of left) (text_of right)

-- the options that can be there more than once
abbrev pub is_repeatable : OptionName → Bool
is_repeatable Named = true
is_repeatable NotNamed = true
is_repeatable Under = true
is_repeatable NotUnder = true
is_repeatable _ = false

-- how often an option that can be there more than once can be there
abbrev pub greatest_times : OptionName → ℕ
greatest_times Under = 4096
greatest_times NotUnder = 4096
greatest_times _ = 16

-- the same in words
abbrev pub times_text : OptionName → List ℕ
times_text Under = codes "4096"
times_text NotUnder = codes "4096"
times_text _ = codes "16"

-- the options that say what is written for each line or document that is found
abbrev pub is_view : OptionName → Bool
is_view Names = true
is_view Counts = true
is_view Header = true
is_view Context = true
is_view Column = true
is_view Spans = true
is_view _ = false

-- the options that show where in a line a match is
abbrev pub is_mark : OptionName → Bool
is_mark Column = true
is_mark Spans = true
is_mark _ = false

-- Two views exclude each other, and so do `-v` and a mark: a line without a match has no place of one.
abbrev pub excludes : OptionName → OptionName → Bool
excludes left right =
    (is_view left && is_view right) || ((is_mark left && is_same right Invert) || (is_same left Invert && is_mark right))

-- the two options cannot both be there
abbrev pub clashes : OptionName → OptionName → Bool
clashes left right = (is_same left right && not (is_repeatable left)) || excludes left right
