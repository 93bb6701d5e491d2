use Rattle.std.proofs.Common.{ap, ◌∙◌}
use Rattle.std.proofs.lemmas.Result.{IfOk-weaker}
use Rattle.query.specs.Texts.{texts_of}
use Rattle.query.specs.Pairs.{texts_in}
use Rattle.posting.proofs.Selection.{joined_ends, has_text_of, finds_texts}
use Rattle.posting.proofs.postings.Postings.collect_texts.Goals as goal

pub returns-clause-found : goal.returns-clause-found
returns-clause-found g c =
    let asked = c.args.within.now.members in
    let vecs = c.deref-text-items.result.now in
    IfOk-weaker c.union_of.result _ _ (λ v union.
    finds_texts c.args.self.now vecs (texts_in c.args.pairs.now) asked v.members
    (ap texts_of c.deref-text-items.ensures.value ∙ c.in_ok-texts.ensures)
    (joined_ends (has_text_of c.args.self.now) vecs c.loop-text.text-index asked v.members c.loop-text.lists.items
    c.loop-text-test.false c.loop-text.invariant union)) (rw c.deref.ensures.value at c.union_of.ensures.all)
