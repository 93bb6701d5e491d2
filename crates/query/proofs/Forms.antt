-- The formula of each variant: the equations of `formula_of`.
use Rattle.std.specs.Prelude.{◌≡◌, ℕ, map}
use Rattle.std.proofs.Common.{sym, ap, ◌∙◌}
use Rattle.std.specs.declared.alloc.Global.{Global}
use Rattle.std.specs.declared.vec.Vec.{Vec}
use Rattle.query.specs.declared.query.Query.{Query}
use Rattle.query.specs.declared.query.Query.TheOpen as layer
use Rattle.std.specs.declared.boxed.Box.{Box}
use Rattle.query.specs.declared.pairs.Pairs.{Pairs}
use Rattle.query.specs.declared.query.Query.TheVariants as query
use Rattle.query.specs.declared.query.Query.TheVariants.{Any, None, Has, And, Or, rolls-Any, rolls-None, rolls-Has, rolls-Pairs, rolls-And, rolls-Or}
use Rattle.query.specs.Pairs.{texts_in}
use Rattle.query.specs.declared.query.Query.TheFolds.{fold-roll-Query}
use Rattle.query.specs.Query.{Formula, always, never, has, texts, all_of, one_of, formulas_of, formula_of, formula_step}

pub formula_of-Any : formula_of Any ≡ always
unfolding formula_of
formula_of-Any = ap formula_of (sym rolls-Any) ∙ fold-roll-Query Formula formula_step layer.Any

pub formula_of-None : formula_of None ≡ never
unfolding formula_of
formula_of-None = ap formula_of (sym rolls-None) ∙ fold-roll-Query Formula formula_step layer.None

pub formula_of-Has : (trigram : ℕ) → formula_of (Has trigram) ≡ has trigram
unfolding formula_of
formula_of-Has trigram = ap formula_of (sym (rolls-Has trigram)) ∙ fold-roll-Query Formula formula_step (layer.Has trigram)

pub formula_of-Pairs : (pairs : Box Pairs Global) → formula_of (query.Pairs pairs) ≡ texts (texts_in pairs.value)
unfolding formula_of
formula_of-Pairs pairs = ap formula_of (sym (rolls-Pairs pairs)) ∙ fold-roll-Query Formula formula_step (layer.Pairs pairs)

pub formula_of-And : (members : Vec Query Global) → formula_of (And members) ≡ all_of (formulas_of (map formula_of members.items))
unfolding formula_of
formula_of-And members = ap formula_of (sym (rolls-And members)) ∙ fold-roll-Query Formula formula_step (layer.And members)

pub formula_of-Or : (members : Vec Query Global) → formula_of (Or members) ≡ one_of (formulas_of (map formula_of members.items))
unfolding formula_of
formula_of-Or members = ap formula_of (sym (rolls-Or members)) ∙ fold-roll-Query Formula formula_step (layer.Or members)
