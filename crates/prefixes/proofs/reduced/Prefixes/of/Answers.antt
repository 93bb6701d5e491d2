use Rattle.std.proofs.Common.{[], sym, subst, rules}
use Rattle.std.specs.Ordering.{nat_cmp, is_lt}
use Rattle.std.specs.List.Sorted.{IsPermutation, IsSortedBy}
use Rattle.std.specs.Cmp.Lexicographic.{slice_cmp, nat_list_cmp_total}
use Rattle.std.proofs.lemmas.List.Sorted.{ranks_by, answers_always}
use Rattle.prefixes.specs.Private.Apart.{bytes_of}
use Rattle.prefixes.proofs.ReducedLemmas.{keeps_more, keeps_all, rising_sorted}
use Rattle.prefixes.proofs.reduced.Prefixes.of.Goals as goal

pub loop-text-preserved : goal.loop-text-preserved
loop-text-preserved c =
    let sorted = c.deref-text-items.result.now in
    keeps_more sorted c.loop-text.text-index (record { ref_ptr = (0, 0); now = [] }) (bytes_of c.loop-text.kept.items) (bytes_of c.add.new.kept.items)
    (rising_sorted sorted (subst (IsSortedBy (λ x y. is_lt (slice_cmp nat_cmp x.now y.now))) (sym c.deref-text-items.ensures.value)
    (c.sort_unstable_by.ensures.sorted (λ x y. is_lt (slice_cmp nat_cmp x.now y.now)) (ranks_by nat_list_cmp_total (λ s. s.now))
    (answers_always _ _ _ (λ f a r g h. search rules)))))
    c.loop-text-test.true c.in_ok-add.ensures c.loop-text.invariant

pub returns-clause-names : goal.returns-clause-names
returns-clause-names c =
    let given = c.args.texts.now in
    keeps_all given c.deref-text-items.result.now c.loop-text.text-index (bytes_of c.loop-text.kept.items)
    (subst (λ xs. IsPermutation xs c.deref-text-items.result.now) c.in_ok-sorted.ensures.items
    (subst (IsPermutation c.in_ok-sorted.sorted.items) (sym c.deref-text-items.ensures.value) c.sort_unstable_by.ensures.permutation))
    c.loop-text-test.false c.loop-text.invariant
