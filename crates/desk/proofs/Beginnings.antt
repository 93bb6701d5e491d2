-- Beginnings of a history, in batches and in commands.
use Rattle.std.proofs.Common.{Bool, true, false, List, ◌<◌, length, ap, sym, ◌∙◌}
use Rattle.std.proofs.lemmas.Grind.{flat_map-append}
use Rattle.std.specs.Prelude.{MatchBool}
use mathlib.Core.List.{IsPrefix}
use Rattle.documents.specs.declared.command.Command.{Command}
use Rattle.desk.specs.Private.Batches.{joined}

-- the commands of a beginning begin those of the whole
joined_prefix : (xs ys : List (List Command)) → IsPrefix xs ys → IsPrefix (joined xs) (joined ys)
joined_prefix xs ys p = (joined p.0, sym (flat_map-append (λ (b : List Command). b) xs p.0) ∙ ap joined p.1)

pub begins_by : (xs ys : List (List Command)) (b : Bool) → MatchBool b (IsPrefix xs ys) (IsPrefix ys xs × (length ys < length xs))
    → MatchBool b (IsPrefix (joined xs) (joined ys)) (IsPrefix (joined ys) (joined xs))
begins_by xs ys true p = joined_prefix xs ys p
begins_by xs ys false p = joined_prefix ys xs p.0
