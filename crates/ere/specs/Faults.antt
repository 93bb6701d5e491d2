-- The texts of the kinds of faults (this program's choice).
use Rattle.std.specs.Prelude.{ℕ, List, codes}
use Rattle.ere.specs.declared.error.EreErrorKind.{EreErrorKind}
use Rattle.ere.specs.declared.error.EreErrorKind.TheVariants.{TooLong, BadByte, BadEscape, BadBracket, BadRange, BadClass, BadInterval}
use Rattle.ere.specs.declared.error.EreErrorKind.TheVariants.{NothingToRepeat, Unclosed, TooDeep, TooLarge, OutOfMemory}

-- the bytes of a kind's text
abbrev pub reason_of : EreErrorKind → List ℕ
reason_of TooLong = codes "pattern too long"
reason_of BadByte = codes "bad byte"
reason_of BadEscape = codes "bad escape"
reason_of BadBracket = codes "bracket not closed"
reason_of BadRange = codes "bad range"
reason_of BadClass = codes "unknown class"
reason_of BadInterval = codes "bad interval"
reason_of NothingToRepeat = codes "nothing to repeat"
reason_of Unclosed = codes "group not closed"
reason_of TooDeep = codes "too deep (over 64 levels)"
reason_of TooLarge = codes "too large (over 4096 leaves)"
reason_of OutOfMemory = codes "out of memory"
