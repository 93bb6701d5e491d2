use Rattle.std.proofs.Common.{sym, ap, ◌∙◌}
use Rattle.std.proofs.lemmas.Result.{err_from_is_err_and}
use Rattle.request.specs.Names.{option_named}
use Rattle.request.specs.Private.Kept.{shown_settings}
use Rattle.request.proofs.settings.take_setting.Goals as goal

pub returns-in_err-followed-clause-err : goal.returns-in_err-followed-clause-err
returns-in_err-followed-clause-err c =
    let p = err_from_is_err_and c.from_residual.result c.from_residual.ensures.1 in
    let named = ap option_named (sym c.cut_word-cut.ensures.word) ∙ sym c.in-Some.ensures in
    rw (p.1, p.2)
    (c.in_err-followed.ensures.err (shown_settings c.args.earlier.now.settings.items) c.args.text.now named (sym c.cut_word-cut.ensures.after)
    c.in_default-fault_after.ensures)
