use Rattle.std.proofs.Common.{◌≡◌, ◌∙◌, ◌+◌, ap, subst, arith}
use Rattle.simulation.specs.Nodes.{shape}
use Rattle.simulation.specs.Pending.{IsReady, rank}
use Rattle.simulation.proofs.Shapes.{shape-Nothing, shape-Set, shape-Run, shape-Both, shape-Either, shape-Loop, shape-Times}
use Rattle.simulation.proofs.Steps as steps
use Rattle.simulation.proofs.Cuts as cuts
use Rattle.simulation.proofs.Ranks as ranks
use Rattle.simulation.proofs.step.+step.Goals as goal

pub step-step_set-requires-clause-entered : goal.step-step_set-requires-clause-entered
step-step_set-requires-clause-entered t c =
    cuts.set_long _ _ _ _ _ _ (subst (λ s. IsReady c.args.line.now c.args.here s c.args.copies c.args.entered.now c.args.cells.now) (ap shape c.in-Set.is ∙ shape-Set c.in-Set.members) c.requires)

pub step-step_set-requires-clause-cells : goal.step-step_set-requires-clause-cells
step-step_set-requires-clause-cells t c =
    cuts.set_cells_long _ _ _ _ _ _ (subst (λ s. IsReady c.args.line.now c.args.here s c.args.copies c.args.entered.now c.args.cells.now) (ap shape c.in-Set.is ∙ shape-Set c.in-Set.members) c.requires)

pub step-step_run-requires-clause-run : goal.step-step_run-requires-clause-run
step-step_run-requires-clause-run t c =
    rw c.deref.ensures.value (cuts.run_long _ _ _ _ _ _ _ (subst (λ s. IsReady c.args.line.now c.args.here s c.args.copies c.args.entered.now c.args.cells.now) (ap shape c.in-Run.is ∙ shape-Run c.in-Run.masks c.in-Run.places) c.requires)).1

pub step-step_run-requires-clause-entered : goal.step-step_run-requires-clause-entered
step-step_run-requires-clause-entered t c =
    (cuts.run_long _ _ _ _ _ _ _ (subst (λ s. IsReady c.args.line.now c.args.here s c.args.copies c.args.entered.now c.args.cells.now) (ap shape c.in-Run.is ∙ shape-Run c.in-Run.masks c.in-Run.places) c.requires)).2

pub step-step_run-requires-clause-cells : goal.step-step_run-requires-clause-cells
step-step_run-requires-clause-cells t c =
    (cuts.run_long _ _ _ _ _ _ _ (subst (λ s. IsReady c.args.line.now c.args.here s c.args.copies c.args.entered.now c.args.cells.now) (ap shape c.in-Run.is ∙ shape-Run c.in-Run.masks c.in-Run.places) c.requires)).3

pub step-step_both-requires : goal.step-step_both-requires
step-step_both-requires t c =
    let d : rank (shape c.args.node.now) ≡ t = omega arith in
    rw (c.deref-in-Both.ensures, c.deref-in-Both-2.ensures)
    (ranks.both_falls _ _ _ c.in-Both.sizes c.in-Both.before c.in-Both.after t (ap shape c.in-Both.is ∙ shape-Both c.in-Both.left c.in-Both.right c.in-Both.sizes c.in-Both.before c.in-Both.after) d, subst (λ s. IsReady c.args.line.now c.args.here s c.args.copies c.args.entered.now c.args.cells.now) (ap shape c.in-Both.is ∙ shape-Both c.in-Both.left c.in-Both.right c.in-Both.sizes c.in-Both.before c.in-Both.after) c.requires)

pub step-step_either-requires : goal.step-step_either-requires
step-step_either-requires t c =
    let d : rank (shape c.args.node.now) ≡ t = omega arith in
    rw (c.deref-in-Either.ensures, c.deref-in-Either-2.ensures)
    (ranks.either_falls _ _ _ c.in-Either.sizes t (ap shape c.in-Either.is ∙ shape-Either c.in-Either.left c.in-Either.right c.in-Either.sizes) d, subst (λ s. IsReady c.args.line.now c.args.here s c.args.copies c.args.entered.now c.args.cells.now) (ap shape c.in-Either.is ∙ shape-Either c.in-Either.left c.in-Either.right c.in-Either.sizes) c.requires)

pub step-step_loop-requires : goal.step-step_loop-requires
step-step_loop-requires t c =
    let d : rank (shape c.args.node.now) ≡ t = omega arith in
    rw c.deref-in-Loop.ensures (ranks.loop_falls _ _ c.in-Loop.own t (ap shape c.in-Loop.is ∙ shape-Loop c.in-Loop.body c.in-Loop.own) d, subst (λ s. IsReady c.args.line.now c.args.here s c.args.copies c.args.entered.now c.args.cells.now) (ap shape c.in-Loop.is ∙ shape-Loop c.in-Loop.body c.in-Loop.own) c.requires)

pub step-step_times-requires : goal.step-step_times-requires
step-step_times-requires t c =
    let d : rank (shape c.args.node.now) ≡ t = omega arith in
    rw c.deref-in-Times.ensures (ranks.times_falls _ _ c.in-Times.counts t (ap shape c.in-Times.is ∙ shape-Times c.in-Times.body c.in-Times.counts) d, subst (λ s. IsReady c.args.line.now c.args.here s c.args.copies c.args.entered.now c.args.cells.now) (ap shape c.in-Times.is ∙ shape-Times c.in-Times.body c.in-Times.counts) c.requires)

pub step-returns-in-Nothing : goal.step-returns-in-Nothing
step-returns-in-Nothing t c =
    rw (ap shape c.in-Nothing.is ∙ shape-Nothing) (steps.nothing_stepped c.args.line.now c.args.here c.args.copies c.args.entered.now c.args.cells.now (subst (λ s. IsReady c.args.line.now c.args.here s c.args.copies c.args.entered.now c.args.cells.now) (ap shape c.in-Nothing.is ∙ shape-Nothing) c.requires))

pub step-returns-in-Set : goal.step-returns-in-Set
step-returns-in-Set t c = rw (ap shape c.in-Set.is ∙ shape-Set c.in-Set.members) c.step_set.ensures

pub step-returns-in-Run : goal.step-returns-in-Run
step-returns-in-Run t c = rw ((ap shape c.in-Run.is ∙ shape-Run c.in-Run.masks c.in-Run.places), ← c.deref.ensures.value) c.step_run.ensures

pub step-returns-in-Both : goal.step-returns-in-Both
step-returns-in-Both t c = rw ((ap shape c.in-Both.is ∙ shape-Both c.in-Both.left c.in-Both.right c.in-Both.sizes c.in-Both.before c.in-Both.after), ← c.deref-in-Both.ensures, ← c.deref-in-Both-2.ensures) c.step_both.ensures

pub step-returns-in-Either : goal.step-returns-in-Either
step-returns-in-Either t c = rw ((ap shape c.in-Either.is ∙ shape-Either c.in-Either.left c.in-Either.right c.in-Either.sizes), ← c.deref-in-Either.ensures, ← c.deref-in-Either-2.ensures) c.step_either.ensures

pub step-returns-in-Loop : goal.step-returns-in-Loop
step-returns-in-Loop t c = rw ((ap shape c.in-Loop.is ∙ shape-Loop c.in-Loop.body c.in-Loop.own), ← c.deref-in-Loop.ensures) c.step_loop.ensures

pub step-returns-in-Times : goal.step-returns-in-Times
step-returns-in-Times t c = rw ((ap shape c.in-Times.is ∙ shape-Times c.in-Times.body c.in-Times.counts), ← c.deref-in-Times.ensures) c.step_times.ensures

pub step_both-split_at_mut-own-requires : goal.step_both-split_at_mut-own-requires
step_both-split_at_mut-own-requires t c =
    let ready = cuts.of_both _ _ _ _ _ _ _ _ _ _ c.requires in
    omega (arith, ready.own, ready.cells_all)

pub step_both-split_at_mut-first-requires : goal.step_both-split_at_mut-first-requires
step_both-split_at_mut-first-requires t c =
    let ready = cuts.of_both _ _ _ _ _ _ _ _ _ _ c.requires in
    omega (arith, ready.own, ready.first, ready.cells_all)

pub step_both-split_at_mut-entered_own-requires : goal.step_both-split_at_mut-entered_own-requires
step_both-split_at_mut-entered_own-requires t c =
    let ready = cuts.of_both _ _ _ _ _ _ _ _ _ _ c.requires in
    omega (arith, ready.own, ready.entered_all)

pub step_both-split_at_mut-entered_first-requires : goal.step_both-split_at_mut-entered_first-requires
step_both-split_at_mut-entered_first-requires t c =
    let ready = cuts.of_both _ _ _ _ _ _ _ _ _ _ c.requires in
    omega (arith, ready.own, ready.first, ready.entered_all)

pub step_both-copy-requires : goal.step_both-copy-requires
step_both-copy-requires t c =
    let ready = cuts.of_both _ _ _ _ _ _ _ _ _ _ c.requires in
    omega (arith, ready.own, ready.first, cuts.own_fit (shape c.args.left.now) c.args.copies)

pub step_both-either_if-requires-clause-one : goal.step_both-either_if-requires-clause-one
step_both-either_if-requires-clause-one t c =
    let ready = cuts.of_both _ _ _ _ _ _ _ _ _ _ c.requires in
    omega (arith, ready.own, ready.first, cuts.own_fit (shape c.args.left.now) c.args.copies)

pub step_both-either_if-requires-clause-to : goal.step_both-either_if-requires-clause-to
step_both-either_if-requires-clause-to t c =
    let ready = cuts.of_both _ _ _ _ _ _ _ _ _ _ c.requires in
    omega (arith, ready.own, ready.first, ready.entered_all, cuts.own_fit (shape c.args.right.now) c.args.copies)

pub step_both-step-requires : goal.step_both-step-requires
step_both-step-requires t c =
    let d : rank (shape c.args.left.now) + rank (shape c.args.right.now) + 1 ≡ t = omega arith in
    let ready = cuts.of_both _ _ _ _ _ _ _ _ _ _ c.requires in
    (omega arith, cuts.left_ready c.args.line.now c.args.here (shape c.args.left.now) (shape c.args.right.now) c.args.sizes c.args.copies c.args.entered.now c.args.cells.now c.split_at_mut-own.result.0.now c.split_at_mut-first.result.0.now c.split_at_mut-first.result.1.now c.copy.new.to ready (cuts.cut c.args.sizes c.args.cells.now c.split_at_mut-own.result.0.now c.split_at_mut-own.result.1.now c.split_at_mut-first.result.0.now c.split_at_mut-first.result.1.now c.split_at_mut-own.ensures.front c.split_at_mut-own.ensures.back c.split_at_mut-first.ensures.front c.split_at_mut-first.ensures.back) (omega arith))

pub step_both-step-requires-2 : goal.step_both-step-requires-2
step_both-step-requires-2 t c =
    let d : rank (shape c.args.left.now) + rank (shape c.args.right.now) + 1 ≡ t = omega arith in
    let ready = cuts.of_both _ _ _ _ _ _ _ _ _ _ c.requires in
    (omega arith, cuts.right_ready c.args.line.now c.args.here (shape c.args.left.now) (shape c.args.right.now) c.args.sizes c.args.copies c.args.entered.now c.args.cells.now c.split_at_mut-own.result.0.now c.split_at_mut-first.result.0.now c.split_at_mut-first.result.1.now c.either_if.new.to ready (cuts.cut c.args.sizes c.args.cells.now c.split_at_mut-own.result.0.now c.split_at_mut-own.result.1.now c.split_at_mut-first.result.0.now c.split_at_mut-first.result.1.now c.split_at_mut-own.ensures.front c.split_at_mut-own.ensures.back c.split_at_mut-first.ensures.front c.split_at_mut-first.ensures.back) (omega arith))

pub step_both-either_if-requires-2-clause-one : goal.step_both-either_if-requires-2-clause-one
step_both-either_if-requires-2-clause-one t c =
    let ready = cuts.of_both _ _ _ _ _ _ _ _ _ _ c.requires in
    omega (arith, ready.own, ready.first, ready.cells_all, cuts.own_fit (shape c.args.right.now) c.args.copies)

pub step_both-either_if-requires-2-clause-other : goal.step_both-either_if-requires-2-clause-other
step_both-either_if-requires-2-clause-other t c =
    let ready = cuts.of_both _ _ _ _ _ _ _ _ _ _ c.requires in
    omega (arith, ready.own, ready.first, ready.cells_all, cuts.own_fit (shape c.args.left.now) c.args.copies)

pub step_both-returns : goal.step_both-returns
step_both-returns t c =
    cuts.both_stepped c.args.line.now c.args.here (c.args.here + 1) (shape c.args.left.now) (shape c.args.right.now) c.args.sizes c.args.before c.args.after c.args.copies c.args.entered.now c.args.cells.now c.split_at_mut-own.result.0.now c.split_at_mut-first.result.0.now c.split_at_mut-first.result.1.now c.split_at_mut-entered_own.result.0.now c.copy.new.to c.either_if.new.to c.either_if-2.new.to c.step.new.cells c.step-2.new.cells c.is_gap.result c.is_gap-2.result c.requires (cuts.cut c.args.sizes c.args.cells.now c.split_at_mut-own.result.0.now c.split_at_mut-own.result.1.now c.split_at_mut-first.result.0.now c.split_at_mut-first.result.1.now c.split_at_mut-own.ensures.front c.split_at_mut-own.ensures.back c.split_at_mut-first.ensures.front c.split_at_mut-first.ensures.back) c.split_at_mut-entered_own.ensures.front (omega arith) c.copy.ensures c.is_gap.ensures c.either_if.ensures c.step.ensures c.step-2.ensures (omega arith) c.is_gap-2.ensures c.either_if-2.ensures (omega arith) (omega arith)

pub step_either-split_at_mut-own-requires : goal.step_either-split_at_mut-own-requires
step_either-split_at_mut-own-requires t c =
    let ready = cuts.of_either _ _ _ _ _ _ _ _ c.requires in
    omega (arith, ready.own, ready.cells_all)

pub step_either-split_at_mut-first-requires : goal.step_either-split_at_mut-first-requires
step_either-split_at_mut-first-requires t c =
    let ready = cuts.of_either _ _ _ _ _ _ _ _ c.requires in
    omega (arith, ready.own, ready.first, ready.cells_all)

pub step_either-split_at_mut-entered_own-requires : goal.step_either-split_at_mut-entered_own-requires
step_either-split_at_mut-entered_own-requires t c =
    let ready = cuts.of_either _ _ _ _ _ _ _ _ c.requires in
    omega (arith, ready.own, ready.entered_all)

pub step_either-split_at_mut-entered_first-requires : goal.step_either-split_at_mut-entered_first-requires
step_either-split_at_mut-entered_first-requires t c =
    let ready = cuts.of_either _ _ _ _ _ _ _ _ c.requires in
    omega (arith, ready.own, ready.first, ready.entered_all)

pub step_either-copy-requires : goal.step_either-copy-requires
step_either-copy-requires t c =
    let ready = cuts.of_either _ _ _ _ _ _ _ _ c.requires in
    omega (arith, ready.own, ready.first, cuts.own_fit (shape c.args.left.now) c.args.copies)

pub step_either-copy-requires-2 : goal.step_either-copy-requires-2
step_either-copy-requires-2 t c =
    let ready = cuts.of_either _ _ _ _ _ _ _ _ c.requires in
    omega (arith, ready.own, ready.first, ready.entered_all, cuts.own_fit (shape c.args.right.now) c.args.copies)

pub step_either-step-requires : goal.step_either-step-requires
step_either-step-requires t c =
    let d : rank (shape c.args.left.now) + rank (shape c.args.right.now) + 1 ≡ t = omega arith in
    let ready = cuts.of_either _ _ _ _ _ _ _ _ c.requires in
    (omega arith, cuts.left_ready c.args.line.now c.args.here (shape c.args.left.now) (shape c.args.right.now) c.args.sizes c.args.copies c.args.entered.now c.args.cells.now c.split_at_mut-own.result.0.now c.split_at_mut-first.result.0.now c.split_at_mut-first.result.1.now c.copy.new.to ready (cuts.cut c.args.sizes c.args.cells.now c.split_at_mut-own.result.0.now c.split_at_mut-own.result.1.now c.split_at_mut-first.result.0.now c.split_at_mut-first.result.1.now c.split_at_mut-own.ensures.front c.split_at_mut-own.ensures.back c.split_at_mut-first.ensures.front c.split_at_mut-first.ensures.back) (omega arith))

pub step_either-step-requires-2 : goal.step_either-step-requires-2
step_either-step-requires-2 t c =
    let d : rank (shape c.args.left.now) + rank (shape c.args.right.now) + 1 ≡ t = omega arith in
    let ready = cuts.of_either _ _ _ _ _ _ _ _ c.requires in
    (omega arith, cuts.right_ready c.args.line.now c.args.here (shape c.args.left.now) (shape c.args.right.now) c.args.sizes c.args.copies c.args.entered.now c.args.cells.now c.split_at_mut-own.result.0.now c.split_at_mut-first.result.0.now c.split_at_mut-first.result.1.now c.copy-2.new.to ready (cuts.cut c.args.sizes c.args.cells.now c.split_at_mut-own.result.0.now c.split_at_mut-own.result.1.now c.split_at_mut-first.result.0.now c.split_at_mut-first.result.1.now c.split_at_mut-own.ensures.front c.split_at_mut-own.ensures.back c.split_at_mut-first.ensures.front c.split_at_mut-first.ensures.back) (omega arith))

pub step_either-either_if-requires-clause-one : goal.step_either-either_if-requires-clause-one
step_either-either_if-requires-clause-one t c =
    let ready = cuts.of_either _ _ _ _ _ _ _ _ c.requires in
    omega (arith, ready.own, ready.first, ready.cells_all, cuts.own_fit (shape c.args.left.now) c.args.copies)

pub step_either-either_if-requires-clause-other : goal.step_either-either_if-requires-clause-other
step_either-either_if-requires-clause-other t c =
    let ready = cuts.of_either _ _ _ _ _ _ _ _ c.requires in
    omega (arith, ready.own, ready.first, ready.cells_all, cuts.own_fit (shape c.args.right.now) c.args.copies)

pub step_either-returns : goal.step_either-returns
step_either-returns t c =
    cuts.either_stepped c.args.line.now c.args.here (shape c.args.left.now) (shape c.args.right.now) c.args.sizes c.args.copies c.args.entered.now c.args.cells.now c.split_at_mut-own.result.0.now c.split_at_mut-first.result.0.now c.split_at_mut-first.result.1.now c.split_at_mut-entered_own.result.0.now c.copy.new.to c.copy-2.new.to c.either_if.new.to c.step.new.cells c.step-2.new.cells c.requires (cuts.cut c.args.sizes c.args.cells.now c.split_at_mut-own.result.0.now c.split_at_mut-own.result.1.now c.split_at_mut-first.result.0.now c.split_at_mut-first.result.1.now c.split_at_mut-own.ensures.front c.split_at_mut-own.ensures.back c.split_at_mut-first.ensures.front c.split_at_mut-first.ensures.back) c.split_at_mut-entered_own.ensures.front (omega arith) c.copy.ensures c.copy-2.ensures c.step.ensures c.step-2.ensures c.either_if.ensures (omega arith) (omega arith)

pub step_loop-add-requires-clause-more : goal.step_loop-add-requires-clause-more
step_loop-add-requires-clause-more t c = omega (arith, (cuts.loop_fits _ _ _ _ _ _ _ c.requires).1)

pub step_loop-add-requires-clause-to : goal.step_loop-add-requires-clause-to
step_loop-add-requires-clause-to t c = omega (arith, (cuts.loop_fits _ _ _ _ _ _ _ c.requires).0)

pub step_loop-step-requires : goal.step_loop-step-requires
step_loop-step-requires t c =
    let d : rank (shape c.args.body.now) + 1 ≡ t = omega arith in
    (omega arith, cuts.loop_ready _ _ _ c.args.own _ _ _ c.add.new.to c.requires (omega arith))

pub step_loop-returns : goal.step_loop-returns
step_loop-returns t c =
    cuts.loop_stepped c.args.line.now c.args.here (shape c.args.body.now) c.args.own c.args.copies c.args.entered.now c.args.cells.now c.add.new.to c.step.new.cells c.requires c.add.ensures c.step.ensures

pub step_times-split_at_mut-own-requires : goal.step_times-split_at_mut-own-requires
step_times-split_at_mut-own-requires t c =
    let ready = cuts.of_times _ _ _ _ _ _ _ c.requires in
    omega (arith, ready.own, ready.cells_all)

pub step_times-split_at_mut-entered_own-requires : goal.step_times-split_at_mut-entered_own-requires
step_times-split_at_mut-entered_own-requires t c =
    let ready = cuts.of_times _ _ _ _ _ _ _ c.requires in
    omega (arith, ready.own, ready.entered_all)

pub step_times-begin_turns-requires-clause-some : goal.step_times-begin_turns-requires-clause-some
step_times-begin_turns-requires-clause-some t c =
    let ready = cuts.of_times _ _ _ _ _ _ _ c.requires in
    (ready.some, (cuts.times_fits _ _ _ _ _ _ _ ready).3)

pub step_times-begin_turns-requires-clause-all : goal.step_times-begin_turns-requires-clause-all
step_times-begin_turns-requires-clause-all t c =
    let ready = cuts.of_times _ _ _ _ _ _ _ c.requires in
    ready.all

pub step_times-begin_turns-requires-clause-stride : goal.step_times-begin_turns-requires-clause-stride
step_times-begin_turns-requires-clause-stride t c =
    let ready = cuts.of_times _ _ _ _ _ _ _ c.requires in
    cuts.even_in c.args.copies c.args.counts.stride c.args.counts.own c.split_at_mut-entered_own.result.0.now ready.own c.split_at_mut-entered_own.ensures.front_len ready.stride

pub step_times-begin_turns-requires-clause-entered : goal.step_times-begin_turns-requires-clause-entered
step_times-begin_turns-requires-clause-entered t c =
    let ready = cuts.of_times _ _ _ _ _ _ _ c.requires in
    omega (arith, (cuts.times_fits _ _ _ _ _ _ _ ready).0)

pub step_times-begin_turns-requires-clause-same : goal.step_times-begin_turns-requires-clause-same
step_times-begin_turns-requires-clause-same t c =
    let ready = cuts.of_times _ _ _ _ _ _ _ c.requires in
    omega (arith, ready.entered_all, ready.cells_all)

pub step_times-begin_turns-requires-clause-out : goal.step_times-begin_turns-requires-clause-out
step_times-begin_turns-requires-clause-out t c =
    let ready = cuts.of_times _ _ _ _ _ _ _ c.requires in
    omega (arith, (cuts.times_fits _ _ _ _ _ _ _ ready).1)

pub step_times-step-requires : goal.step_times-step-requires
step_times-step-requires t c =
    let d : rank (shape c.args.body.now) + 1 ≡ t = omega arith in
    let ready = cuts.of_times _ _ _ _ _ _ _ c.requires in
    (omega arith, cuts.body_ready _ _ _ _ _ _ _ c.split_at_mut-own.result.1.now c.begin_turns.new.out ready c.split_at_mut-own.ensures.back (omega arith))

pub step_times-any_turn-requires-clause-some : goal.step_times-any_turn-requires-clause-some
step_times-any_turn-requires-clause-some t c =
    let ready = cuts.of_times _ _ _ _ _ _ _ c.requires in
    (ready.some, (cuts.times_fits _ _ _ _ _ _ _ ready).3)

pub step_times-any_turn-requires-clause-all : goal.step_times-any_turn-requires-clause-all
step_times-any_turn-requires-clause-all t c =
    let ready = cuts.of_times _ _ _ _ _ _ _ c.requires in
    ready.all

pub step_times-any_turn-requires-clause-stride : goal.step_times-any_turn-requires-clause-stride
step_times-any_turn-requires-clause-stride t c =
    let ready = cuts.of_times _ _ _ _ _ _ _ c.requires in
    cuts.even_in c.args.copies c.args.counts.stride c.args.counts.own c.split_at_mut-own.result.0.now ready.own c.split_at_mut-own.ensures.front_len ready.stride

pub step_times-any_turn-requires-clause-own : goal.step_times-any_turn-requires-clause-own
step_times-any_turn-requires-clause-own t c =
    let ready = cuts.of_times _ _ _ _ _ _ _ c.requires in
    omega (arith, (cuts.times_fits _ _ _ _ _ _ _ ready).0)

pub step_times-any_turn-requires-clause-read : goal.step_times-any_turn-requires-clause-read
step_times-any_turn-requires-clause-read t c =
    let ready = cuts.of_times _ _ _ _ _ _ _ c.requires in
    omega (arith, (cuts.times_fits _ _ _ _ _ _ _ ready).2)

pub step_times-returns : goal.step_times-returns
step_times-returns t c =
    cuts.times_stepped c.args.line.now c.args.here (c.args.here + 1) (shape c.args.body.now) c.args.counts c.args.copies c.args.entered.now c.args.cells.now c.split_at_mut-own.result.1.now c.split_at_mut-entered_own.result.0.now c.begin_turns.new.out c.any_turn.new.own c.step.new.cells c.lowest_turn.result c.is_gap.result c.requires c.split_at_mut-own.ensures.back c.split_at_mut-entered_own.ensures.front c.is_gap.ensures c.begin_turns.ensures c.step.ensures (omega arith) c.lowest_turn.ensures c.any_turn.ensures (omega arith)
