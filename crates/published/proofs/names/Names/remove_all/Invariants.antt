use Rattle.std.proofs.Common.{◌≡◌, ℕ, not, ◌&&◌, List, take}
use Rattle.std.specs.Prelude.{bytes_eq}
use Rattle.std.specs.List.{list_any}
use Rattle.published.specs.Private.Names.{has_name}
use Rattle.published.proofs.names.Names.remove_all.Given as goal

abbrev pub invariant-loop-name : goal.invariant-loop-name
invariant-loop-name l =
    (other : List ℕ) → has_name l.self other ≡ (not (list_any (λ name. bytes_eq name other) (take l.name-index l.names)) && has_name l.initial.self other)
