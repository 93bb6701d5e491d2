-- The plain data of each variant: the equations of `shape`.
use Rattle.std.specs.Prelude.{◌≡◌, ℕ, Bool, List}
use Rattle.std.proofs.Common.{sym, ap, ◌∙◌}
use Rattle.std.specs.declared.alloc.Global.{Global}
use Rattle.std.specs.declared.boxed.Box.{Box}
use Rattle.std.specs.declared.vec.Vec.{Vec}
use Rattle.simulation.specs.declared.node.Gaps.{Gaps}
use Rattle.simulation.specs.declared.node.RepeatCounts.{RepeatCounts}
use Rattle.simulation.specs.declared.node.Sizes.{Sizes}
use Rattle.simulation.specs.declared.node.RunLayout.{RunLayout}
use Rattle.simulation.specs.declared.node.Node.{Node}
use Rattle.simulation.specs.declared.node.Node.TheOpen as layer
use Rattle.simulation.specs.declared.node.Node.TheVariants.{Nothing, Set, Run, Both, Either, Loop, Times}
use Rattle.simulation.specs.declared.node.Node.TheVariants.{rolls-Nothing, rolls-Set, rolls-Run, rolls-Both, rolls-Either, rolls-Loop, rolls-Times}
use Rattle.simulation.specs.declared.node.Node.TheFolds.{fold-roll-Node}
use Rattle.simulation.specs.Nodes.{Shape, nothing, set, run, both, either, loop, times, shape, shape_step}

pub shape-Nothing : shape Nothing ≡ nothing
unfolding shape
shape-Nothing = ap shape (sym rolls-Nothing) ∙ fold-roll-Node Shape shape_step layer.Nothing

pub shape-Set : (members : List Bool) → shape (Set members) ≡ set members
unfolding shape
shape-Set members = ap shape (sym (rolls-Set members)) ∙ fold-roll-Node Shape shape_step (layer.Set members)

pub shape-Run : (masks : Vec ℕ Global) (places : RunLayout) → shape (Run masks places) ≡ run masks.items places
unfolding shape
shape-Run masks places = ap shape (sym (rolls-Run masks places)) ∙ fold-roll-Node Shape shape_step (layer.Run masks places)

pub shape-Both : (left right : Box Node Global) (sizes : Sizes) (before after : Gaps)
    → shape (Both left right sizes before after) ≡ both (shape left.value) (shape right.value) sizes before after
unfolding shape
shape-Both left right sizes before after =
    ap shape (sym (rolls-Both left right sizes before after)) ∙ fold-roll-Node Shape shape_step (layer.Both left right sizes before after)

pub shape-Either : (left right : Box Node Global) (sizes : Sizes) → shape (Either left right sizes) ≡ either (shape left.value) (shape right.value) sizes
unfolding shape
shape-Either left right sizes = ap shape (sym (rolls-Either left right sizes)) ∙ fold-roll-Node Shape shape_step (layer.Either left right sizes)

pub shape-Loop : (body : Box Node Global) (own : ℕ) → shape (Loop body own) ≡ loop (shape body.value) own
unfolding shape
shape-Loop body own = ap shape (sym (rolls-Loop body own)) ∙ fold-roll-Node Shape shape_step (layer.Loop body own)

pub shape-Times : (body : Box Node Global) (counts : RepeatCounts) → shape (Times body counts) ≡ times (shape body.value) counts
unfolding shape
shape-Times body counts = ap shape (sym (rolls-Times body counts)) ∙ fold-roll-Node Shape shape_step (layer.Times body counts)
