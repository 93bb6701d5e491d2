use Rattle.std.proofs.Common.{◌≡◌, true, false, sym, ◌∙◌, ap}
use Rattle.prefixes.specs.Under.{begins_with}
use Rattle.index.proofs.RemovedLemmas.{no_name_from, no_name_but_first, is_first_name}
use Rattle.index.proofs.catalog.first_name_under.Goals as goal

pub returns-in_default-clause-none : goal.returns-in_default-clause-none
returns-in_default-clause-none c =
    no_name_from c.args.prefix.now c.args.names.now c.range-found.result c.in_default.ensures.steps.0 (c.range-found.ensures.in_range tt)

pub returns-then-not-starts_with-clause-none : goal.returns-then-not-starts_with-clause-none
returns-then-not-starts_with-clause-none c =
    let other : begins_with c.args.prefix.now c.in-Some.name.now ≡ false =
    ap (λ text. begins_with text c.in-Some.name.now) (sym c.as_bytes-text.ensures.bytes)
    ∙ (ap (begins_with c.as_bytes-text.result.now) (sym c.as_bytes.ensures.bytes) ∙ sym c.if-not-starts_with.ensures.value) in
    no_name_but_first c.args.prefix.now c.args.names.now c.range-found.result c.next.new.self c.in-Some.name.now
    c.in-Some.ensures.steps other (c.range-found.ensures.in_range tt)

pub returns-clause-some : goal.returns-clause-some
returns-clause-some c =
    let begins : begins_with c.args.prefix.now c.in-Some.name.now ≡ true =
    ap (λ text. begins_with text c.in-Some.name.now) (sym c.as_bytes-text.ensures.bytes)
    ∙ (ap (begins_with c.as_bytes-text.result.now) (sym c.as_bytes.ensures.bytes) ∙ sym c.if-not-starts_with.ensures.value) in (
      begins,
      is_first_name c.args.prefix.now c.args.names.now c.range-found.result c.next.new.self c.in-Some.name.now c.in-Some.ensures.steps
          (c.range-found.ensures.in_range tt),
    )
