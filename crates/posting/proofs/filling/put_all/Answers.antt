use Rattle.std.proofs.Common.{◌++◌, ◌∷◌, [], ◌&&◌, ◌==◌, refl, sym, subst}
use Rattle.std.proofs.lemmas.Bool.{false≢true}
use Rattle.posting.specs.ListValue.{has}
use Rattle.posting.specs.Private.Parts.{Grows, Fills}
use Rattle.posting.proofs.Changes.{passed-next, passed-more, passed-all}
use Rattle.posting.proofs.Fillings.{grows_none, grows_trigram, fills_trigram}
use Rattle.posting.proofs.filling.put_all.Goals as goal

pub loop-trigram-init : goal.loop-trigram-init
loop-trigram-init c =
    record {
      passed = sym c.into_iter-trigram-iterator.ensures.into_iter_gives;
      grown = grows_none c.args.first c.args.parts.now (λ t n. has [] t && c.args.left.number == n);
      filled = record { bound = λ t n is. absurd (false≢true is); all = λ t n among is. absurd (false≢true is) };
    }

pub loop-trigram-preserved : goal.loop-trigram-preserved
loop-trigram-preserved c = record {
  passed =
      passed-more c.args.left.trigrams c.loop-trigram.yielded c.loop-trigram.trigram-iterator c.next.new.self c.in-Some.trigram
      c.loop-trigram.invariant.passed c.in-Some.ensures.steps;
  grown =
      grows_trigram c.args.first c.args.parts.now c.loop-trigram.parts c.put.new.parts (c.loop-trigram.yielded ++ c.in-Some.trigram ∷ [])
      c.loop-trigram.yielded [] c.in-Some.trigram c.args.left.number refl c.loop-trigram.invariant.grown c.in_ok-put.ensures.grown;
  filled =
      fills_trigram c.args.first c.loop-trigram.parts c.put.new.parts c.loop-trigram.yielded c.in-Some.trigram c.args.left.number
      c.loop-trigram.invariant.filled c.in_ok-put.ensures.grown c.in_ok-put.ensures.ok;
}

pub returns-in_err-put-clause-grown : goal.returns-in_err-put-clause-grown
returns-in_err-put-clause-grown c =
    grows_trigram c.args.first c.args.parts.now c.loop-trigram.parts c.put.new.parts c.args.left.trigrams c.loop-trigram.yielded c.next.new.self
    c.in-Some.trigram c.args.left.number
    (passed-next c.args.left.trigrams c.loop-trigram.yielded c.loop-trigram.trigram-iterator c.next.new.self c.in-Some.trigram
    c.loop-trigram.invariant.passed c.in-Some.ensures.steps) c.loop-trigram.invariant.grown c.in_err-put.ensures.grown

pub returns-clause-grown : goal.returns-clause-grown
returns-clause-grown c =
    let all = passed-all c.args.left.trigrams c.loop-trigram.yielded c.loop-trigram.trigram-iterator c.loop-trigram.invariant.passed c.in-None.ensures.steps.0 in
    subst (λ ts. Grows c.args.first c.args.parts.now c.loop-trigram.parts (λ t n. has ts t && c.args.left.number == n)) (sym all) c.loop-trigram.invariant.grown

pub returns-clause-ok : goal.returns-clause-ok
returns-clause-ok c =
    let all = passed-all c.args.left.trigrams c.loop-trigram.yielded c.loop-trigram.trigram-iterator c.loop-trigram.invariant.passed c.in-None.ensures.steps.0 in
    subst (λ ts. Fills c.args.first c.loop-trigram.parts (λ t n. has ts t && c.args.left.number == n)) (sym all) c.loop-trigram.invariant.filled
