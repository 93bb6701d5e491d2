use Rattle.std.proofs.Common.{◌≡◌, sym, ap, ◌∙◌}
use Rattle.ere.specs.Private.SetWords.{words_of}
use Rattle.ere.specs.Private.SetInverse.{words_of-values_of}
use Rattle.ere.proofs.byte_set.ByteSetPartialEq.eq.Goals as goal

pub returns : goal.returns
returns c =
    let one : words_of c.args.self.now ≡ c.t1-1.inside.words = ap words_of (sym c.t1-1.view_is) ∙ words_of-values_of c.t1-1.inside.words c.t1-1.invariant in
    let other : words_of c.args.other.now ≡ c.t2-1.inside.words = ap words_of (sym c.t2-1.view_is) ∙ words_of-values_of c.t2-1.inside.words c.t2-1.invariant in
    rw (one, other) c.eq.ensures
