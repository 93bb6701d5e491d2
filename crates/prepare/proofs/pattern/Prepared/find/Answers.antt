use Rattle.std.proofs.Common.{refl, ap}
use Rattle.std.proofs.lemmas.Result.{err_from_is_err_and}
use Rattle.ere.specs.Tree.{form}
use Rattle.request.specs.Shown.{shown_options}
use Rattle.prepare.specs.Pattern.{Test}
use Rattle.prepare.proofs.RequestLemmas.{have_trees, within_kept, word_inside}
use Rattle.std.proofs.Math.Path.{fun_ext}
use Rattle.prepare.proofs.pattern.Prepared.find.Goals as goal

pub returns-in-Ok-clause-request : goal.returns-in-Ok-clause-request
returns-in-Ok-clause-request c =
    let of = c.in-Ok.ensures.asked in
    record {
      tree = of.0;
      is_tree = of.1;
      line = of.2;
      names = c.in_ok-names.ensures.tests;
      within = fun_ext (λ name.
          within_kept c.in_ok-under.under c.in_ok-not_under.not_under c.as_slice.result.now c.as_slice-2.result.now c.args.find.now.options.under.items
          c.args.find.now.options.not_under.items name c.as_slice.ensures.value c.as_slice-2.ensures.value (c.in_ok-under.ensures.names name)
          c.in_ok-under.ensures.none (c.in_ok-not_under.ensures.names name));
      word =
          word_inside (shown_options c.args.find.now.options) c.asks_for_words.result (form c.in-Ok.line.tree) of.0 c.asks_for_words.ensures
          (ap (λ (t : Test). t.tree) of.2);
      view = refl;
      limit = refl;
      zero = refl;
    }

pub returns-in-Err-clause-refused : goal.returns-in-Err-clause-refused
returns-in-Err-clause-refused c =
    λ real. (have_trees _ _ _ c.in_ok-names.ensures.tests, c.in-Err.ensures.refused real)

pub returns-in_err-names-clause-refused : goal.returns-in_err-names-clause-refused
returns-in_err-names-clause-refused c =
    let p = err_from_is_err_and c.from_residual.result c.from_residual.ensures.1 in
    rw (p.1, p.2) (λ real. c.in_err-names.ensures.refused real c.args.find.now.pattern.now)
