use Rattle.std.proofs.Common.{false, [], map, get_or, subst, arith}
use Rattle.request.specs.Shown.{shown_options, shown_test}
use Rattle.prepare.specs.Request.{AreTestsOf}
use Rattle.prepare.specs.Tests.{test_of}
use Rattle.prepare.proofs.RequestLemmas.{all_names, name_fault, name_there, test_added}
use Rattle.prepare.proofs.requested.tests_of.Goals as goal

pub loop-at-preserved : goal.loop-at-preserved
loop-at-preserved c =
    let options = c.args.options.now in
    let added = c.in-Ok.ensures.test in
    test_added c.as_slice-names.result.now options.names.items c.as_slice-names.ensures.value c.loop-at.at options.name_case
    (record { pattern = record { ref_ptr = (0, 0); now = [] }; wanted = false }) c.loop-at.tests.items c.add_test.new.tests.items c.loop-at-test.true
    c.loop-at.invariant added.0 added.1 added.2

pub returns-in-Err-clause-refused : goal.returns-in-Err-clause-refused
returns-in-Err-clause-refused c =
    let options = c.args.options.now in
    let given = c.as_slice-names.result.now in
    λ real text.
    name_fault (shown_options options) text c.loop-at.at
    (shown_test (get_or given c.loop-at.at (record { pattern = record { ref_ptr = (0, 0); now = [] }; wanted = false }))) c.in-Err.error (map test_of c.loop-at.tests.items)
    c.loop-at.invariant
    (name_there given options.names.items c.as_slice-names.ensures.value c.loop-at.at
    (record { pattern = record { ref_ptr = (0, 0); now = [] }; wanted = false }) c.loop-at-test.true)
    (c.in-Err.ensures.refused real)

pub returns-clause-tests : goal.returns-clause-tests
returns-clause-tests c =
    let options = c.args.options.now in
    subst (λ ns. AreTestsOf options.name_case ns (map test_of c.loop-at.tests.items))
    (all_names c.as_slice-names.result.now options.names.items c.as_slice-names.ensures.value c.loop-at.at (omega (arith, c.loop-at-test.false)))
    c.loop-at.invariant
