use Rattle.std.proofs.Common.{◌<◌, ◌≤◌, length, subst, ◌+◌, map, drop, ap, sym, ◌∙◌, arith}
use Rattle.std.proofs.lemmas.Bool.Decides.{nat_tests}
use Rattle.std.proofs.lemmas.Result.{IfOk-weaker}
use Rattle.ere.proofs.Forms.{form-Empty, form-Set, form-Start, form-End, form-Cat, form-Alt, form-Repeat}
use Rattle.ere.specs.Tree.{form, trees_of}
use Rattle.trigram.specs.Analysis.{known, analysis_of, both_all, either_all, repeated}
use Rattle.trigram.specs.Private.Values.{shown_analysis, texts_of}
use Rattle.ere.specs.Tree as tree
use Rattle.trigram.proofs.AnalysisLemmas.{IsAnalysedSoFar, stands_same, next_tree, no_trees, neighbours_first, neighbours_more}
use Rattle.trigram.proofs.AnalysisLemmas.{neighbours_all, alternatives_first, alternatives_more, alternatives_all, analysis_of-empty}
use Rattle.trigram.proofs.AnalysisLemmas.{analysis_of-at_start, analysis_of-at_end, analysis_of-set, analysis_of-repeat}
use Rattle.trigram.proofs.AnalysisLemmas.{analysis_of-cat_none, analysis_of-alt_none}
use Rattle.trigram.proofs.analysis.+analysis.Goals as goal

pub analysis_of-returns-in_ok-just_empty-in-Empty : goal.analysis_of-returns-in_ok-just_empty-in-Empty
analysis_of-returns-in_ok-just_empty-in-Empty t c =
    rw (c.in-Empty.is, form-Empty, analysis_of-empty) (record { plain = tt; is = ap known c.in_ok-just_empty-in-Empty.ensures })

pub analysis_of-returns-in_ok-just_empty-in-Start : goal.analysis_of-returns-in_ok-just_empty-in-Start
analysis_of-returns-in_ok-just_empty-in-Start t c =
    rw (c.in-Start.is, form-Start, analysis_of-at_start) (record { plain = tt; is = ap known c.in_ok-just_empty-in-Start.ensures })

pub analysis_of-returns-in_ok-just_empty-in-End : goal.analysis_of-returns-in_ok-just_empty-in-End
analysis_of-returns-in_ok-just_empty-in-End t c =
    rw (c.in-End.is, form-End, analysis_of-at_end) (record { plain = tt; is = ap known c.in_ok-just_empty-in-End.ensures })

pub analysis_of-returns-in-Set : goal.analysis_of-returns-in-Set
analysis_of-returns-in-Set t c = rw (c.in-Set.is, form-Set c.in-Set.set, analysis_of-set c.in-Set.set) c.one_byte.ensures

pub analysis_of-returns-in-Cat : goal.analysis_of-returns-in-Cat
analysis_of-returns-in-Cat t c = rw (c.in-Cat.is, form-Cat c.in-Cat.members) (rw c.as_slice.ensures.value at c.analysis_of_neighbours.ensures)

pub analysis_of-returns-in-Alt : goal.analysis_of-returns-in-Alt
analysis_of-returns-in-Alt t c = rw (c.in-Alt.is, form-Alt c.in-Alt.members) (rw c.as_slice-in-Alt.ensures.value at c.analysis_of_alternatives.ensures)

pub analysis_of-returns-in_ok-one-in-Repeat : goal.analysis_of-returns-in_ok-one-in-Repeat
analysis_of-returns-in_ok-one-in-Repeat t c =
    rw (
      c.in-Repeat.is,
      form-Repeat c.in-Repeat.body c.in-Repeat.least c.in-Repeat.greatest,
      analysis_of-repeat (form c.in-Repeat.body.value) c.in-Repeat.least c.in-Repeat.greatest,
    )
    (IfOk-weaker c.repeated.result _ _ (λ analysis h.
    stands_same (repeated (shown_analysis c.in_ok-one-in-Repeat.one) c.in-Repeat.least c.in-Repeat.greatest)
    (repeated (analysis_of (form c.in-Repeat.body.value)) c.in-Repeat.least c.in-Repeat.greatest) analysis
    (ap (λ a. repeated a c.in-Repeat.least c.in-Repeat.greatest)
    (c.in_ok-one-in-Repeat.ensures.is ∙ ap (λ e. analysis_of (form e)) c.deref.ensures)) h) c.repeated.ensures)

pub analysis_of_alternatives-returns-then-is_empty : goal.analysis_of_alternatives-returns-then-is_empty
analysis_of_alternatives-returns-then-is_empty t c =
    let none : length c.args.members.now ≤ 0 = grind (arith, nat_tests) in
    rw (no_trees c.args.members.now 0 none, analysis_of-alt_none) (record { plain = tt; is = ap (λ vs. known (texts_of vs)) c.new.ensures.items })

pub analysis_of_alternatives-loop-i-init : goal.analysis_of_alternatives-loop-i-init
analysis_of_alternatives-loop-i-init t c =
    let some : 0 < length c.args.members.now = grind (arith, nat_tests) in
    let first = next_tree c.args.members.now 0 c.index-members-0.result some c.index-members-0.is in
    subst
    (λ ts. IsAnalysedSoFar either_all (trees_of (map form (drop 1 c.args.members.now))) (analysis_of (tree.alt ts)) c.in_ok-whole.whole)
    (sym first)
    (alternatives_first (form c.index-members-0.result) (trees_of (map form (drop 1 c.args.members.now))) c.in_ok-whole.whole
    c.in_ok-whole.ensures)

pub analysis_of_alternatives-loop-i-preserved : goal.analysis_of_alternatives-loop-i-preserved
analysis_of_alternatives-loop-i-preserved t c =
    let next = next_tree c.args.members.now c.loop-i.i c.index-members-i.result c.loop-i-test.true c.index-members-i.is in
    alternatives_more (form c.index-members-i.result) (trees_of (map form (drop (c.loop-i.i + 1) c.args.members.now)))
    (analysis_of (tree.alt (trees_of (map form c.args.members.now)))) c.loop-i.whole c.in_ok-next.next c.in_ok-whole-2.whole
    (rw next at c.loop-i.invariant) c.in_ok-next.ensures c.in_ok-whole-2.ensures

pub analysis_of_alternatives-returns : goal.analysis_of_alternatives-returns
analysis_of_alternatives-returns t c =
    let rest = no_trees c.args.members.now c.loop-i.i c.loop-i-test.false in
    alternatives_all (analysis_of (tree.alt (trees_of (map form c.args.members.now)))) c.loop-i.whole (rw rest at c.loop-i.invariant)

pub analysis_of_neighbours-returns-then-is_empty : goal.analysis_of_neighbours-returns-then-is_empty
analysis_of_neighbours-returns-then-is_empty t c =
    let none : length c.args.members.now ≤ 0 = grind (arith, nat_tests) in
    rw (no_trees c.args.members.now 0 none, analysis_of-cat_none) (record { plain = tt; is = ap known c.in_ok-just_empty.ensures })

pub analysis_of_neighbours-loop-i-init : goal.analysis_of_neighbours-loop-i-init
analysis_of_neighbours-loop-i-init t c =
    let some : 0 < length c.args.members.now = grind (arith, nat_tests) in
    let first = next_tree c.args.members.now 0 c.index-members-0.result some c.index-members-0.is in
    subst (λ ts. IsAnalysedSoFar both_all (trees_of (map form (drop 1 c.args.members.now))) (analysis_of (tree.cat ts)) c.in_ok-whole.whole)
    (sym first)
    (neighbours_first (form c.index-members-0.result) (trees_of (map form (drop 1 c.args.members.now))) c.in_ok-whole.whole
    c.in_ok-whole.ensures)

pub analysis_of_neighbours-loop-i-preserved : goal.analysis_of_neighbours-loop-i-preserved
analysis_of_neighbours-loop-i-preserved t c =
    let next = next_tree c.args.members.now c.loop-i.i c.index-members-i.result c.loop-i-test.true c.index-members-i.is in
    neighbours_more (form c.index-members-i.result) (trees_of (map form (drop (c.loop-i.i + 1) c.args.members.now)))
    (analysis_of (tree.cat (trees_of (map form c.args.members.now)))) c.loop-i.whole c.in_ok-next.next c.in_ok-whole-2.whole
    (rw next at c.loop-i.invariant) c.in_ok-next.ensures c.in_ok-whole-2.ensures

pub analysis_of_neighbours-returns : goal.analysis_of_neighbours-returns
analysis_of_neighbours-returns t c =
    let rest = no_trees c.args.members.now c.loop-i.i c.loop-i-test.false in
    neighbours_all (analysis_of (tree.cat (trees_of (map form c.args.members.now)))) c.loop-i.whole (rw rest at c.loop-i.invariant)
