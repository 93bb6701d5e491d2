use Rattle.segments.proofs.Keyings.{no_contents, none_keyed}
use Rattle.segments.proofs.builder.Builder.new.Goals as goal

pub invariant_of-result : goal.invariant_of-result
invariant_of-result c = rw (c.new.ensures.items, c.new-2.ensures.items) none_keyed

pub returns : goal.returns
returns c = rw (c.new.ensures.items, c.new-2.ensures.items) no_contents
