use Rattle.std.proofs.Common.{◌≡◌, ◌||◌, ℕ, List, sym, ap, ◌∙◌, not, ◌&&◌, take}
use Rattle.std.specs.Prelude.{bytes_eq}
use Rattle.published.specs.Private.Names.{has_name, is_one_of}
use Rattle.published.proofs.CopyNames.{one-more, first-ones, taken-back}
use Rattle.published.proofs.names.Names.add_all.Goals as goal

pub loop-at-preserved : goal.loop-at-preserved
loop-at-preserved c = λ other.
    one-more c.args.names.now c.loop-at.at c.index-names-at.result other (has_name c.args.self.now other) (has_name c.add.new.self other) c.loop-at-test.true
    c.index-names-at.is (c.in-Ok.ensures.ok other ∙ ap (λ t. bytes_eq c.index-names-at.result other || t) (c.loop-at.invariant other))

pub returns-in-Err-clause-err : goal.returns-in-Err-clause-err
returns-in-Err-clause-err c = λ other.
    let had = ap (λ s. has_name s other) c.in-Err.ensures.err ∙ c.loop-at.invariant other in
    c.remove_all.ensures other
    ∙ ap (λ t. not (is_one_of (take c.loop-at.at c.args.names.now) other) && t) had
    ∙ taken-back (is_one_of (take c.loop-at.at c.args.names.now) other) (has_name c.args.self.now other)
    (λ e. c.requires other (first-ones c.args.names.now c.loop-at.at other e))
