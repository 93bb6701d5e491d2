use Rattle.std.proofs.Common.{◌<◌, [], length, get_or, sym, ◌∙◌, ap, subst, arith}
use Rattle.std.proofs.lemmas.List.{get_or_default}
use Rattle.names.proofs.PartLemmas.{some_entry}
use Rattle.names.proofs.RestLemmas.{rest_none, has_first}
use Rattle.names.proofs.rest.Rest.first_name.Goals as goal

pub returns-then-self-clause-none : goal.returns-then-self-clause-none
returns-then-self-clause-none c = sym c.self.view_is ∙ rest_none c.self.inside.chunks.now c.self.inside.chunk c.self.inside.at c.if-self.true

pub text-requires : goal.text-requires
text-requires c =
    let below : c.self.inside.chunk < length c.self.inside.chunks.now = omega (arith, c.if-self.false) in
    subst (λ xs. c.self.inside.at < length xs) (get_or_default c.self.inside.chunks.now c.self.inside.chunk [] c.index-self-self.result below) (c.self.invariant.inside below)

pub returns-clause-some : goal.returns-clause-some
returns-clause-some c =
    let chunks = c.self.inside.chunks.now in
    let at = c.self.inside.at in
    let below : c.self.inside.chunk < length chunks = omega (arith, c.if-self.false) in
    has_first chunks c.self.inside.chunk at c.args.self.now below c.self.invariant c.self.view_is some_entry c.in_ok-text.field-0.items
    (ap (λ xs. (get_or xs at some_entry).0) (get_or_default chunks c.self.inside.chunk [] c.index-self-self.result below) ∙ c.in_ok-text.ensures some_entry)
