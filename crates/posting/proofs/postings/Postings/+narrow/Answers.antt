use Rattle.std.proofs.Common.{◌≡◌, ℕ, ◌∙◌, filter}
use Rattle.std.proofs.lemmas.Result.{IfOk-weaker}
use Rattle.query.specs.declared.query.Query.TheVariants as query
use Rattle.query.specs.Query.{formula_of, formulas_of, all_of, one_of}
use Rattle.std.specs.Prelude.{map}
use Rattle.std.specs.List.{list_any}
use Rattle.posting.specs.ListValue.{has}
use Rattle.posting.specs.Postings.{selected}
use Rattle.posting.specs.Private.Selection.{Finds}
use Rattle.posting.proofs.Selection.{chosen-Any, chosen-Has, narrowed_by_found, found-Any, found-None, found-Has}
use Rattle.posting.proofs.Selection.{found-And, found-Or, narrowed_more, narrowed_passed, narrowed_ends, narrowed_to_none, joined_ends}
use Rattle.posting.proofs.Selection.{is_met_by, finds_all, finds_any, found-Pairs}
use Rattle.posting.proofs.postings.Postings.+narrow.Goals as goal
use Rattle.posting.proofs.postings.Postings.+narrow.Goals.{collect_all-then-i-first+in_ok-found, collect_all-else-i-first}

pub narrow-returns-in_ok-copy-in-Any-clause-chosen : goal.narrow-returns-in_ok-copy-in-Any-clause-chosen
narrow-returns-in_ok-copy-in-Any-clause-chosen g t c = rw (c.in-Any.is, chosen-Any c.args.self.now c.args.within.now.members) c.in_ok-copy-in-Any.ensures

pub narrow-returns-in-Has-clause-chosen : goal.narrow-returns-in-Has-clause-chosen
narrow-returns-in-Has-clause-chosen g t c =
    rw (c.in-Has.is, chosen-Has c.args.self.now c.in-Has.trigram c.args.within.now.members) c.narrow_by.ensures.chosen

pub narrow-returns-in_ok-collect-in_default-clause-chosen : goal.narrow-returns-in_ok-collect-in_default-clause-chosen
narrow-returns-in_ok-collect-in_default-clause-chosen g t c =
    let table = c.args.self.now in
    let asked = c.args.within.now.members in
    let found = c.in_ok-collect-in_default.field-0.members in
    IfOk-weaker c.intersect-in_default.result (λ chosen. chosen.members ≡ filter (has found) asked)
    (λ chosen. chosen.members ≡ selected table (formula_of c.args.query.now) asked)
    (λ v e. e ∙ narrowed_by_found table (formula_of c.args.query.now) asked found c.in_ok-collect-in_default.ensures.found)
    c.intersect-in_default.ensures.common

pub collect-returns-in_ok-copy-in-Any-clause-found : goal.collect-returns-in_ok-copy-in-Any-clause-found
collect-returns-in_ok-copy-in-Any-clause-found g t c =
    rw c.in-Any.is
    (found-Any c.args.self.now c.args.within.now.members c.in_ok-copy-in-Any.field-0.members c.in_ok-copy-in-Any.ensures)

pub collect-returns-in-None-clause-found : goal.collect-returns-in-None-clause-found
collect-returns-in-None-clause-found g t c = rw c.in-None.is (found-None c.args.self.now c.args.within.now.members c.new.result.members c.new.ensures)

pub collect-returns-in-Has-clause-found : goal.collect-returns-in-Has-clause-found
collect-returns-in-Has-clause-found g t c =
    let asked = c.args.within.now.members in
    rw c.in-Has.is
    (IfOk-weaker c.collect_by.result _ _ (λ v same. found-Has c.args.self.now c.in-Has.trigram asked v.members same) c.collect_by.ensures.found)

pub collect-returns-in-Pairs-clause-found : goal.collect-returns-in-Pairs-clause-found
collect-returns-in-Pairs-clause-found g t c =
    let asked = c.args.within.now.members in
    rw c.in-Pairs.is
    (IfOk-weaker c.collect_texts.result _ _
    (λ v found.
    found-Pairs c.args.self.now c.in-Pairs.pairs asked v.members
    (rw c.deref.ensures at found)) c.collect_texts.ensures.found)

pub collect-returns-in-And-clause-found : goal.collect-returns-in-And-clause-found
collect-returns-in-And-clause-found g t c =
    let asked = c.args.within.now.members in
    rw c.in-And.is
    (IfOk-weaker c.collect_all.result
    (λ set. Finds c.args.self.now (all_of (formulas_of (map formula_of c.in-And.members.items))) asked set.members)
    (λ set. Finds c.args.self.now (formula_of (query.And c.in-And.members)) asked set.members)
    (λ v found. found-And c.args.self.now c.in-And.members asked v.members found) (rw c.deref-in-And.ensures.value at c.collect_all.ensures.found))

pub collect-returns-in-Or-clause-found : goal.collect-returns-in-Or-clause-found
collect-returns-in-Or-clause-found g t c =
    let asked = c.args.within.now.members in
    rw c.in-Or.is
    (IfOk-weaker c.collect_any.result
    (λ set. Finds c.args.self.now (one_of (formulas_of (map formula_of c.in-Or.members.items))) asked set.members)
    (λ set. Finds c.args.self.now (formula_of (query.Or c.in-Or.members)) asked set.members)
    (λ v found. found-Or c.args.self.now c.in-Or.members asked v.members found) (rw c.deref-in-Or.ensures.value at c.collect_any.ensures.found))

pub collect_all-returns-then-is_empty-clause-found : goal.collect_all-returns-then-is_empty-clause-found
collect_all-returns-then-is_empty-clause-found g t c =
    finds_all c.args.self.now c.args.members.now c.args.within.now.members c.loop-i.found.members
    (narrowed_to_none (is_met_by c.args.self.now) c.args.members.now c.in_ok-first.first c.loop-i.i c.args.within.now.members c.loop-i.found.members
    (c.is_empty.ensures.empty.0 c.if-is_empty.true) c.loop-i.invariant)

pub collect_all-loop-i-preserved : goal.collect_all-loop-i-preserved
collect_all-loop-i-preserved g t c =
    elim c.if-i-first.branch [
      | collect_all-then-i-first+in_ok-found w ↦
          rw w.found-is
          (narrowed_more (is_met_by c.args.self.now) c.args.members.now c.in_ok-first.first c.loop-i.i c.index-members-i.result
          c.args.within.now.members c.loop-i.found.members w.in_ok-found.found.members c.loop-i-test.true c.index-members-i.is
          c.loop-i.invariant w.in_ok-found.ensures.chosen)
      | collect_all-else-i-first w ↦
          rw w.found-is
          (narrowed_passed (is_met_by c.args.self.now) c.args.members.now c.in_ok-first.first c.loop-i.i c.index-members-i.result
          c.args.within.now.members c.loop-i.found.members w.if-i-first.false c.loop-i-test.true c.loop-i.invariant)
    ]

pub collect_all-returns-clause-found : goal.collect_all-returns-clause-found
collect_all-returns-clause-found g t c =
    finds_all c.args.self.now c.args.members.now c.args.within.now.members c.loop-i.found.members
    (narrowed_ends (is_met_by c.args.self.now) c.args.members.now c.in_ok-first.first c.loop-i.i c.args.within.now.members c.loop-i.found.members
    c.loop-i-test.false c.loop-i.invariant)

pub collect_any-returns-clause-found : goal.collect_any-returns-clause-found
collect_any-returns-clause-found g t c =
    let lists = c.loop-member.lists.items in
    let asked = c.args.within.now.members in
    IfOk-weaker c.union_of.result (λ all. (n : ℕ) → has all.members n ≡ list_any (λ set. has set.members n) lists)
    (λ found. Finds c.args.self.now (one_of (formulas_of (map formula_of c.args.members.now))) asked found.members)
    (λ v union.
    finds_any c.args.self.now c.args.members.now asked v.members
    (joined_ends (is_met_by c.args.self.now) c.args.members.now c.loop-member.member-index asked v.members lists c.loop-member-test.false
    c.loop-member.invariant union))
    (rw c.deref.ensures.value at c.union_of.ensures.all)
