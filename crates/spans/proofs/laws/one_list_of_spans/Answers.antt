use Rattle.spans.proofs.SpanLaws.{one_list}
use Rattle.spans.proofs.laws.one_list_of_spans.Goals as goal

pub returns : goal.returns
returns c = one_list
