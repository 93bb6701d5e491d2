-- What the tree of each variant is: the equations of `form`.
use Rattle.std.specs.Prelude.{◌≡◌, ℕ, Bool, List, map, Option}
use Rattle.std.proofs.Common.{sym, ap, ◌∙◌}
use Rattle.std.specs.declared.alloc.Global.{Global}
use Rattle.std.specs.declared.vec.Vec.{Vec}
use Rattle.std.specs.declared.boxed.Box.{Box}
use Rattle.ere.specs.declared.tree.Ere.{Ere}
use Rattle.ere.specs.declared.tree.Ere.TheOpen as layer
use Rattle.ere.specs.declared.tree.Ere.TheVariants.{Empty, Set, Start, End, Cat, Alt, Repeat, rolls-Empty, rolls-Set, rolls-Start}
use Rattle.ere.specs.declared.tree.Ere.TheVariants.{rolls-End, rolls-Cat, rolls-Alt, rolls-Repeat}
use Rattle.ere.specs.declared.tree.Ere.TheFolds.{fold-roll-Ere}
use Rattle.ere.specs.Tree.{Tree, empty, set, at_start, at_end, cat, alt, repeat, trees_of, form, form_step}

pub form-Empty : form Empty ≡ empty
unfolding form
form-Empty = ap form (sym rolls-Empty) ∙ fold-roll-Ere Tree form_step layer.Empty

pub form-Set : (members : List Bool) → form (Set members) ≡ set members
unfolding form
form-Set members = ap form (sym (rolls-Set members)) ∙ fold-roll-Ere Tree form_step (layer.Set members)

pub form-Start : form Start ≡ at_start
unfolding form
form-Start = ap form (sym rolls-Start) ∙ fold-roll-Ere Tree form_step layer.Start

pub form-End : form End ≡ at_end
unfolding form
form-End = ap form (sym rolls-End) ∙ fold-roll-Ere Tree form_step layer.End

pub form-Cat : (members : Vec Ere Global) → form (Cat members) ≡ cat (trees_of (map form members.items))
unfolding form
form-Cat members = ap form (sym (rolls-Cat members)) ∙ fold-roll-Ere Tree form_step (layer.Cat members)

pub form-Alt : (members : Vec Ere Global) → form (Alt members) ≡ alt (trees_of (map form members.items))
unfolding form
form-Alt members = ap form (sym (rolls-Alt members)) ∙ fold-roll-Ere Tree form_step (layer.Alt members)

pub form-Repeat : (body : Box Ere Global) (least : ℕ) (greatest : Option ℕ) → form (Repeat body least greatest) ≡ repeat (form body.value) least greatest
unfolding form
form-Repeat body least greatest = ap form (sym (rolls-Repeat body least greatest)) ∙ fold-roll-Ere Tree form_step (layer.Repeat body least greatest)
