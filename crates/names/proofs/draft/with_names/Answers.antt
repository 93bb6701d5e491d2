use Rattle.std.proofs.Common.{◌≡◌, ◌++◌, take, drop, ap, sym, ◌∙◌}
use Rattle.std.proofs.lemmas.List.{map-append, map-id}
use Rattle.names.specs.Private.Entries.{with_prefix}
use Rattle.documents.proofs.ElementLemmas.{same_name}
use Rattle.names.proofs.draft.with_names.Goals as goal

pub returns-then-eq : goal.returns-then-eq
returns-then-eq c =
    let stem = c.args.stem.items in
    let run = drop c.args.from (take c.args.to c.args.suffixes.now) in
    let same : stem ≡ c.args.prefix.now = sym c.as_slice.ensures.value ∙ same_name c.as_slice.result.now c.args.prefix.now (sym c.if-eq.ensures) in
    ap (with_prefix stem) c.in_ok-with_run-2.ensures
    ∙ (map-append (λ n. stem ++ n) c.args.rests run ∙ ap (λ p. with_prefix stem c.args.rests ++ with_prefix p run) same)

pub returns : goal.returns
returns c =
    let run = drop c.args.from (take c.args.to c.args.suffixes.now) in
    ap (λ p. with_prefix p c.in_ok-with_begun.field-0) c.new.ensures.items
    ∙ (map-id c.in_ok-with_begun.field-0
    ∙ (c.in_ok-with_begun.ensures
    ∙ ap (λ ns. ns ++ with_prefix c.args.prefix.now run) (c.in_ok-names.ensures ∙ ap (λ s. with_prefix s c.args.rests) c.as_slice-2.ensures.value)))
