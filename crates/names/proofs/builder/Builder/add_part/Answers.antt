use Rattle.std.proofs.Common.{◌≡◌, IfSome, map, subst, ◌∙◌}
use Rattle.std.proofs.lemmas.Result.{on_ok_weaker}
use Rattle.names.specs.Private.Entries.{begun}
use Rattle.names.proofs.BuilderLemmas.{whole_part}
use Rattle.names.proofs.builder.Builder.add_part.Goals as goal

pub returns-in-Some : goal.returns-in-Some
returns-in-Some c =
    let es = c.args.chunk.now in
    on_ok_weaker c.add.result
    (λ made. whole_part es c.args.from c.args.to c.args.count c.args.beginning.now c.args.self.now c.add.new.self c.in-Some.whole c.if-from-eq0.true
    (c.if-to-len.true ∙ c.len.ensures.len)
    (subst (λ found. IfSome found (λ whole. whole ≡ map (begun c.args.count c.args.beginning.now) es)) c.in-Some.is c.in_ok-whole.ensures) made) c.add.ensures
