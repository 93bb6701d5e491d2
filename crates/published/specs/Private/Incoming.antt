-- The body of a put, before and after its analysis.
use Rattle.std.specs.Prelude.{ℕ, List}
use Rattle.published.specs.declared.incoming.Stage.{Stage}
use Rattle.published.specs.declared.incoming.Stage.TheVariants.{Plain, Analysed}

-- its bytes
abbrev pub body_at : Stage → List ℕ
body_at (Plain body) = body
body_at (Analysed held) = held
