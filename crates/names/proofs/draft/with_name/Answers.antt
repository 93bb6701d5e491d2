use Rattle.std.proofs.Common.{◌≡◌, ◌-◌, ◌++◌, ◌∷◌, [], true, length, take, drop, refl, sym, ap, ◌∙◌, subst, arith}
use Rattle.std.proofs.lemmas.List.{map-id}
use Rattle.prefixes.specs.Under.{begins_with}
use Rattle.names.specs.Private.Entries.{with_prefix}
use Rattle.names.proofs.RunLemmas.{name_step}
use Rattle.names.proofs.draft.with_name.Goals as goal

pub returns-then-starts_with : goal.returns-then-starts_with
returns-then-starts_with c =
    let first = c.args.first.now in
    let n = c.len.result in
    let len = c.len.ensures in
    name_step c.args.stem.items first c.args.second.now c.args.third.now (take (length first - n) (drop n first)) c.args.rests c.in_ok-rests.rests n
    (omega (arith, len, c.args.stem.ok.0))
    (subst (λ s. begins_with s first ≡ true) c.as_slice.ensures.value (sym c.if-starts_with.ensures.value)) refl c.in_ok-rests.ensures

pub returns : goal.returns
returns c =
    let name = c.args.first.now ++ (c.args.second.now ++ c.args.third.now) in
    ap (λ p. with_prefix p c.in_ok-with.field-0) c.new.ensures.items
    ∙ (map-id c.in_ok-with.field-0
    ∙ (c.in_ok-with.ensures
    ∙ ap (λ ns. ns ++ name ∷ []) (c.in_ok-names.ensures ∙ ap (λ s. with_prefix s c.args.rests) c.as_slice-2.ensures.value)))
