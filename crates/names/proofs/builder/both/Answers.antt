use Rattle.std.proofs.Common.{◌≡◌, ◌++◌, ◌∙◌}
use Rattle.std.proofs.lemmas.Result.{IfOk-weaker}
use Rattle.names.proofs.PartLemmas.{both_are}
use Rattle.names.proofs.builder.both.Goals as goal

pub returns : goal.returns
returns c =
    IfOk-weaker c.of.result (λ chunk. chunk ≡ c.in_ok-draft-2.draft) (λ chunk. chunk ≡ c.args.one.now ++ c.args.other.now)
    (λ chunk is. is ∙ both_are c.args.one.now c.args.other.now c.in_ok-draft.draft c.in_ok-draft-2.draft c.new.result c.len.result c.len-2.result c.new.ensures
    c.len.ensures.len c.in_ok-draft.ensures c.len-2.ensures.len c.in_ok-draft-2.ensures) c.of.ensures
