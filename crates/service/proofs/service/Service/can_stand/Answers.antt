use Rattle.std.proofs.Common.{◌∙◌, ◌<◌, ap, arith, sym, subst, length}
use Rattle.std.proofs.lemmas.Bool.Decides.{nat_tests}
use Rattle.std.proofs.lemmas.Map.Lookups.{exact_unsigned}
use Rattle.service.proofs.ServiceLemmas.{can_close, found_in_list, if_true}
use Rattle.service.proofs.service.Service.can_stand.Goals as goal

pub returns-then-begins : goal.returns-then-begins
returns-then-begins g c =
    rw (← c.self.view_is)
    (if_true c.is_ok.result
    (λ kept.
    can_close _ c.args.place c.version-version.result c.index-search.result.now c.args.answer.now c.args.seen.now.commands
    c.args.question.now c.requires.exact.0 c.self.invariant.3
    (subst (λ s. c.args.place < length s.awaited) (sym c.self.view_is) c.requires.place) c.index-search.ensures
    (c.if-not-is_same.ensures ∙ ap (λ s. s.item) c.search.view_is) c.requires.exact.1 c.requires.exact.2 c.if-begins.ensures c.version-version.ensures kept
    (grind (arith, nat_tests)))
    (rw c.is_ok.ensures.value
    (found_in_list exact_unsigned c.self.inside.kept.items c.version-version.result _ _ c.self.inside.kept.ok.0 c.binary_search.ensures.bound c.binary_search.ensures.ok)))
