use Rattle.std.proofs.Common.{◌≡◌, false, sym, ◌∙◌, ap}
use Rattle.prefixes.specs.Under.{begins_with}
use Rattle.index.proofs.RemovedLemmas.{none_from, none_but_first}
use Rattle.index.proofs.catalog.first_number_under.Goals as goal

pub returns-in_default-clause-none : goal.returns-in_default-clause-none
returns-in_default-clause-none c =
    none_from c.args.prefix.now c.args.numbers.now c.range-names.result c.in_default.ensures.steps.0 (c.range-names.ensures.in_range tt)

pub returns-then-not-starts_with-clause-none : goal.returns-then-not-starts_with-clause-none
returns-then-not-starts_with-clause-none c =
    let other : begins_with c.args.prefix.now c.in-Some.name.now ≡ false =
    ap (λ text. begins_with text c.in-Some.name.now) (sym c.as_bytes-text.ensures.bytes)
    ∙ (ap (begins_with c.as_bytes-text.result.now) (sym c.as_bytes.ensures.bytes) ∙ sym c.if-not-starts_with.ensures.value) in
    none_but_first c.args.prefix.now c.args.numbers.now c.range-names.result c.next.new.self c.in-Some.name.now c.in-Some.number.now
    c.in-Some.ensures.steps other (c.range-names.ensures.in_range tt)
