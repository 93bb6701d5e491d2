-- The updates that the draft lacks.
use Rattle.std.proofs.Common.{◌≡◌, ℕ, ◌+◌, ◌-◌, ◌<◌, ◌^◌, List, [], ◌∷◌, length, take, drop, ap, ◌∙◌, arith}
use Rattle.std.proofs.lemmas.List.{length-drop, take_all}
use Rattle.documents.specs.State.{State, applied}
use Rattle.versions.specs.declared.update.Update.{Update}
use Rattle.versions.specs.Updates.{after, command_of, commands_of}

-- each update adds one to the version
version-after : (updates : List Update) (s : State) → (after (commands_of updates) s).version ≡ s.version + length updates
version-after [] s = omega arith
version-after (u ∷ updates) s = let rest = version-after updates (applied (command_of u) s) in omega (arith, rest)

-- what is behind the first updates, as a slice
pub behind : (items all : List Update) (done : ℕ) → all ≡ items → take (length all - done) (drop done all) ≡ drop done items
behind items all done is = take_all (length all - done) (drop done all) (omega (arith, length-drop done all)) ∙ ap (drop done) is

pub fits : (draft : State) (waiting slice : List Update) → slice ≡ waiting → (after (commands_of waiting) draft).version < 2 ^ 32
    → draft.version + length slice < 2 ^ 32
fits draft waiting slice is few = let v = version-after waiting draft in let l = ap length is in omega (arith, v, l, few)
