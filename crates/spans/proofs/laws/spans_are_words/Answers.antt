use Rattle.spans.proofs.SpanLaws.{spans_are_words}
use Rattle.spans.proofs.laws.spans_are_words.Goals as goal

pub returns : goal.returns
returns c = spans_are_words
