use Rattle.std.proofs.Common.{◌≡◌, ◌+◌, get_or, count_ones, ap, sym, ◌∙◌, arith}
use Rattle.ere.specs.ByteSet.{size_of}
use Rattle.ere.proofs.SetWords.{count_before, count_more, count_all, count_few}
use Rattle.ere.proofs.byte_set.ByteSet.len.Goals as goal

pub overflow_add-count : goal.overflow_add-count
overflow_add-count c =
    let so_far : c.loop-word.count ≡ count_before c.self.inside.words c.loop-word.word-index = c.loop-word.invariant in
    let more = count_more c.self.inside.words c.loop-word.word-index c.self.invariant (omega arith) in
    let few = count_few c.self.inside.words (c.loop-word.word-index + 1) in
    omega arith

pub loop-word-preserved : goal.loop-word-preserved
loop-word-preserved c =
    ap (λ n. n + count_ones (get_or c.self.inside.words c.loop-word.word-index 0)) c.loop-word.invariant
    ∙ sym (count_more c.self.inside.words c.loop-word.word-index c.self.invariant (omega arith))

pub returns : goal.returns
returns c =
    let all : c.loop-word.word-index ≡ 4 = omega arith in
    c.loop-word.invariant ∙ ap (count_before c.self.inside.words) all ∙ count_all c.self.inside.words ∙ ap size_of c.self.view_is
