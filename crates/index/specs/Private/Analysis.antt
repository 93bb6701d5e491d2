-- A shared body and its trigrams.
use Rattle.std.specs.Prelude.{ℕ, List}
use Rattle.std.specs.Arc.{arc_value}
use Rattle.std.specs.declared.sync.Arc.{Arc}
use Rattle.std.specs.declared.alloc.Global.{Global}
use Rattle.query.specs.Trigrams.{ListsTrigrams}
use Rattle.index.specs.declared.analysed.Analysis.{Analysis}

abbrev pub body_in : Arc Analysis Global → List ℕ
body_in shared = (arc_value shared).held

abbrev pub IsAnalysed : Arc Analysis Global → Type 0
IsAnalysed shared = ListsTrigrams (body_in shared) (arc_value shared).trigrams
