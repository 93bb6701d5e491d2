use Rattle.std.proofs.Common.{◌≡◌, ◌∷◌, [], ◌++◌, map, drop}
use Rattle.trigram.specs.Private.Values.{texts_of}
use Rattle.trigram.proofs.analysis.texts_of_bytes.Given as goal

abbrev pub invariant-loop-byte : goal.invariant-loop-byte
invariant-loop-byte l = texts_of l.texts.items ++ map (λ b. b ∷ []) (drop l.byte-index l.bytes) ≡ map (λ b. b ∷ []) l.bytes
