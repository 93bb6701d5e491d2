use Rattle.std.proofs.Common.{◌++◌, ◌∙◌, sym, ap}
use Rattle.segments.specs.Private.Table.{trigrams_of}
use Rattle.segments.proofs.TableLemmas.{trigrams_from}
use Rattle.segments.proofs.table.Table.push_trigrams.Goals as goal

pub returns : goal.returns
returns c =
    let s = c.self.inside in
    c.in_ok-extend_from_slice.ensures.items
    ∙ ap (λ ts. c.args.trigrams.now.items ++ ts)
    (c.as_slice.ensures.value
    ∙ sym (trigrams_from s.count 0 s.trigrams.items s.ends.items s.bytes.items c.self.invariant.table.same)
    ∙ ap trigrams_of c.self.view_is)
