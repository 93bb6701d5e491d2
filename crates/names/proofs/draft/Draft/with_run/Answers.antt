use Rattle.std.proofs.Common.{◌≡◌, ◌++◌, take, drop, ap, ◌∙◌}
use Rattle.names.specs.Private.Entries.{with_prefix}
use Rattle.names.proofs.RunLemmas.{AreEntries-behind, entries_behind, names_run}
use Rattle.names.proofs.draft.Draft.with_run.Goals as goal

pub invariant_of-result : goal.invariant_of-result
invariant_of-result c =
    let run = drop c.args.from (take c.args.to c.args.chunk.now) in
    let old = with_prefix c.self.inside.stem.items c.self.inside.rests in
    let more = with_prefix c.parts.result.0.now (drop c.args.from (take c.args.to c.parts.result.1.now)) in
    let names : with_prefix c.in_ok-stem.stem.items c.in_ok-stem.rests ≡ old ++ more = rw c.in_ok-stem.was at c.with_names.ensures in
    AreEntries-behind old (with_prefix c.in_ok-stem.stem.items c.in_ok-stem.rests) c.self.inside.contents.items c.share_run.new.contents.items c.self.inside.bytes
    c.in_ok-bytes.bytes run c.self.invariant
    (names ∙ ap (λ ns. old ++ ns) (names_run c.parts.result.0.now c.parts.result.1.now c.args.chunk.now c.args.from c.args.to c.parts.ensures))
    c.in_ok-bytes.ensures.contents c.in_ok-bytes.ensures.bytes

pub returns : goal.returns
returns c =
    let run = drop c.args.from (take c.args.to c.args.chunk.now) in
    let old = with_prefix c.self.inside.stem.items c.self.inside.rests in
    let more = with_prefix c.parts.result.0.now (drop c.args.from (take c.args.to c.parts.result.1.now)) in
    let names : with_prefix c.in_ok-stem.stem.items c.in_ok-stem.rests ≡ old ++ more = rw c.in_ok-stem.was at c.with_names.ensures in
    entries_behind old (with_prefix c.in_ok-stem.stem.items c.in_ok-stem.rests) c.self.inside.contents.items c.share_run.new.contents.items c.self.inside.bytes
    c.in_ok-bytes.bytes run c.self.invariant
    (names ∙ ap (λ ns. old ++ ns) (names_run c.parts.result.0.now c.parts.result.1.now c.args.chunk.now c.args.from c.args.to c.parts.ensures))
    c.in_ok-bytes.ensures.contents c.in_ok-bytes.ensures.bytes
    ∙ ap (λ es. es ++ run) c.self.view_is
