use Rattle.std.proofs.Common.{List, ℕ}
use Rattle.std.specs.Prelude.{All}
use Rattle.search.specs.Private.Known.{HasBody}
use Rattle.search.proofs.repeated.find_repeated.Given as goal

abbrev pub invariant-loop-document : goal.invariant-loop-document
invariant-loop-document g l = record { bodies : (body : ℕ → List ℕ) → All (HasBody body) l.documents → All (HasBody body) l.firsts.items }
