use Rattle.std.proofs.Common.{refl}
use Rattle.request.proofs.options.options_of.Goals as goal

pub returns-clause-ok : goal.returns-clause-ok
returns-clause-ok c =
    rw (
      c.case_if.ensures,
      c.has_option.ensures,
      c.has_option-2.ensures,
      c.has_option-3.ensures,
      c.has_option-4.ensures,
      c.has_option-5.ensures,
      c.case_if-2.ensures,
      c.has_option-6.ensures,
      c.limit_of.ensures,
      c.view_of.ensures,
      c.has_option-7.ensures,
      c.lane_of.ensures,
      c.in_ok-names.ensures.ok,
      c.in_ok-under.ensures.ok,
      c.in_ok-not_under.ensures.ok,
    ) refl
