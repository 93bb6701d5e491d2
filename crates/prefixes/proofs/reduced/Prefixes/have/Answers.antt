use Rattle.std.proofs.Common.{◌≡◌, ap, sym, subst, ◌∙◌, arith}
use Rattle.prefixes.specs.Private.Apart.{AreApart, Rise, bytes_of}
use Rattle.prefixes.specs.Under.{begins_with, is_under_one}
use Rattle.prefixes.proofs.ReducedLemmas.{apart_rise, under_last, under_none}
use Rattle.std.proofs.lemmas.Bool.Decides.{nat_tests}
use Rattle.prefixes.proofs.reduced.Prefixes.have.Goals as goal

pub next_after-next-requires : goal.next_after-next-requires
next_after-next-requires c =
    subst (λ items. Rise (bytes_of items)) (sym c.as_slice-texts.ensures.value) (apart_rise (bytes_of c.self.inside.texts.items) c.self.invariant)

pub returns-then-next-gt0 : goal.returns-then-next-gt0
returns-then-next-gt0 c =
    let name = c.args.name.now in
    let items = c.as_slice-texts.result.now in
    let apart = subst (λ xs. AreApart (bytes_of xs)) (sym c.as_slice-texts.ensures.value) c.self.invariant in
    c.starts_with.ensures.value
    ∙ (ap (λ text. begins_with text name) c.as_slice.ensures.value
    ∙ (under_last items name c.next_after-next.result c.index-texts-next.result apart c.next_after-next.ensures c.if-next-gt0.true c.index-texts-next.is
    ∙ ap (λ texts. is_under_one texts name) (ap bytes_of c.as_slice-texts.ensures.value ∙ c.self.view_is)))

pub returns-else-next-gt0 : goal.returns-else-next-gt0
returns-else-next-gt0 c =
    let name = c.args.name.now in
    let items = c.as_slice-texts.result.now in
    let first : c.next_after-next.result ≡ 0 = (let none = c.if-next-gt0.false in omega arith) in
    let none = under_none (bytes_of items) name c.next_after-next.result c.next_after-next.ensures first in
    grind (arith, nat_tests) ∙ (none ∙ ap (λ texts. is_under_one texts name) (ap bytes_of c.as_slice-texts.ensures.value ∙ c.self.view_is))
