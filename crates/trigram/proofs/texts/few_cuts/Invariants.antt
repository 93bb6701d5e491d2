use Rattle.std.proofs.Common.{◌≡◌, ◌≤◌, map, drop, length}
use Rattle.trigram.specs.Texts.{with_texts, cuts}
use Rattle.trigram.specs.Private.Values.{texts_of, cut_at}
use Rattle.trigram.proofs.texts.few_cuts.Given as goal

abbrev pub invariant-loop-text : goal.invariant-loop-text
invariant-loop-text l =
    (with_texts (texts_of l.ends.items) (map (cut_at l.side l.count) (texts_of (drop l.text-index l.texts)))
    ≡ cuts (cut_at l.side) l.count (texts_of l.texts)) × (length l.ends.items ≤ 16)
