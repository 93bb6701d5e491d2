use Rattle.std.proofs.Common.{◌≡◌, nat_le, length, drop}
use Rattle.std.specs.List.{list_all}
use Rattle.trigram.specs.Private.Values.{texts_of}
use Rattle.trigram.specs.Analysis.{longest_text}
use Rattle.trigram.proofs.analysis.are_kept.Given as goal

abbrev pub invariant-loop-text : goal.invariant-loop-text
invariant-loop-text l =
    list_all (λ text. nat_le (length text) longest_text) (texts_of (drop l.text-index l.texts))
    ≡ list_all (λ text. nat_le (length text) longest_text) (texts_of l.texts)
