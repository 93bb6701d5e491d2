use Rattle.spans.proofs.SpanLaws.{whole_by_positions}
use Rattle.spans.proofs.laws.whole_words_by_positions.Goals as goal

pub returns : goal.returns
returns c = whole_by_positions
