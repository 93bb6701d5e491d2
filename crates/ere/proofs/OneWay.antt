-- A tree is within the limits in one way at most.
use Rattle.std.specs.Prelude.{ℕ, ◌≤◌, Option, Some, None, IfSome}
use Rattle.std.specs.Coded.{×_prop, Unit-prop, le_prop}
use Rattle.ere.specs.Tree.{Tree, empty, set, at_start, at_end, cat, alt, repeat, Trees, none, more}
use Rattle.ere.specs.Limits.{HasTwo, IsProper, AreProper, IsWithinLimits}

HasTwo-prop : (trees : Trees) → IsProp (HasTwo trees)
HasTwo-prop none = λ x y. absurd x
HasTwo-prop (more tree none) = λ x y. absurd x
HasTwo-prop (more tree (more next trees)) = Unit-prop

IfSome-prop : (greatest : Option ℕ) (least : ℕ) → IsProp (IfSome greatest (λ most. least ≤ most))
IfSome-prop None least = Unit-prop
IfSome-prop (Some most) least = le_prop

mutual
  unfolding IsProper

  pub IsProper-prop : (tree : Tree) → IsProp (IsProper tree)
  IsProper-prop empty = Unit-prop
  IsProper-prop (set members) = Unit-prop
  IsProper-prop at_start = Unit-prop
  IsProper-prop at_end = Unit-prop
  IsProper-prop (cat members) = ×_prop (HasTwo-prop members) (AreProper-prop members)
  IsProper-prop (alt members) = ×_prop (HasTwo-prop members) (AreProper-prop members)
  IsProper-prop (repeat body least greatest) = ×_prop (IfSome-prop greatest least) (IsProper-prop body)

  pub AreProper-prop : (trees : Trees) → IsProp (AreProper trees)
  AreProper-prop none = Unit-prop
  AreProper-prop (more tree trees) = ×_prop (IsProper-prop tree) (AreProper-prop trees)

pub IsWithinLimits-prop : (tree : Tree) → IsProp (IsWithinLimits tree)
IsWithinLimits-prop tree = hlevel (IsProper-prop tree, le_prop)
