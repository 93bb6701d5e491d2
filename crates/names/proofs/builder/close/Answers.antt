use Rattle.std.proofs.Common.{◌≡◌, ◌++◌, [], length, sym, ◌∙◌, ap, arith}
use Rattle.std.proofs.lemmas.List.{append-nil, nil_from_length}
use Rattle.std.proofs.lemmas.Result.{on_ok_weaker}
use Rattle.names.specs.Private.Entries.{joined}
use Rattle.names.proofs.builder.close.Goals as goal

pub returns-then-len-eq0-clause-closed : goal.returns-then-len-eq0-clause-closed
returns-then-len-eq0-clause-closed c =
    let none : c.args.draft.now ≡ [] = nil_from_length c.args.draft.now (sym c.len.ensures ∙ c.if-len-eq0.true) in
    sym (ap (λ d. joined c.args.chunks.now.items ++ d) none ∙ append-nil (joined c.args.chunks.now.items))

pub returns-then-len-eq0-clause-none : goal.returns-then-len-eq0-clause-none
returns-then-len-eq0-clause-none c = nil_from_length c.args.draft.now (sym c.len.ensures ∙ c.if-len-eq0.true)

pub of-requires : goal.of-requires
of-requires c =
    let same = ap length c.replace-drafted.ensures.value in
    omega (arith, same, c.len.ensures, c.if-len-eq0.false)

pub returns-clause-closed : goal.returns-clause-closed
returns-clause-closed c =
    on_ok_weaker c.push.result
    (λ made. made ∙ ap (λ d. joined c.args.chunks.now.items ++ d) (c.in_ok-of.ensures ∙ c.replace-drafted.ensures.value)) c.push.ensures
