-- The end of an input whose bytes were known.
use Rattle.std.proofs.Common.{ℕ, List, Option, Some, None}
use Rattle.std.specs.Option.{OnSome}
use Rattle.std.specs.Io.KnownBytes.{Consumes, IsAtEnd}

pub end_later : (a b c : Option (List ℕ)) (bytes : List ℕ) → Consumes a b bytes → OnSome b (IsAtEnd c) → OnSome a (IsAtEnd c)
end_later None b c bytes taken end = tt
end_later (Some x) None c bytes taken end = absurd taken
end_later (Some x) (Some y) c bytes taken end = end
