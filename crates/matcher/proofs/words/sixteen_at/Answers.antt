use Rattle.std.proofs.lemmas.Simd.{get_or-chunk}
use Rattle.matcher.proofs.words.sixteen_at.Goals as goal

pub returns : goal.returns
returns c = λ k l. get_or-chunk c.args.at 16 c.args.line.now k 0 l
