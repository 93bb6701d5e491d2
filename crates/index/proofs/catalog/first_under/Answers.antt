use Rattle.std.proofs.Common.{subst}
use Rattle.documents.specs.declared.error.NameError.{NameError}
use Rattle.documents.specs.Text.{IsNameFault}
use Rattle.index.proofs.UnderLemmas.{first-empty, none_too_long, none_bad}
use Rattle.index.proofs.catalog.first_under.Goals as goal

pub returns-in-Err-Empty-clause-some : goal.returns-in-Err-Empty-clause-some
unfolding IsNameFault
returns-in-Err-Empty-clause-some c =
    first-empty c.args.prefix.now (subst (λ (e : NameError). IsNameFault 4096 e c.args.prefix.now) c.in-Err-Empty.field-0-is c.in-Err-Empty.ensures.fault)

pub returns-in-Err-TooLong-clause-none : goal.returns-in-Err-TooLong-clause-none
unfolding IsNameFault
returns-in-Err-TooLong-clause-none c =
    none_too_long c.args.prefix.now
    (subst (λ (e : NameError). IsNameFault 4096 e c.args.prefix.now) c.in-Err-TooLong.field-0-is c.in-Err-TooLong.ensures.fault)

pub returns-in-Err-BadByte-clause-none : goal.returns-in-Err-BadByte-clause-none
unfolding IsNameFault
returns-in-Err-BadByte-clause-none c =
    let fault = subst (λ (e : NameError). IsNameFault 4096 e c.args.prefix.now) c.in-Err-BadByte.field-0-is c.in-Err-BadByte.ensures.fault in
    none_bad c.args.prefix.now fault.2
