use Rattle.std.proofs.Common.{◌≡◌, ◌++◌, map, length, ◌∙◌, ap}
use Rattle.std.specs.Prelude.{filter}
use Rattle.std.specs.Ordering.{nat_cmp}
use Rattle.std.specs.Cmp.Lexicographic.{slice_cmp}
use Rattle.std.specs.FinMap.{entries, is_sorted, from_sorted, from_entries}
use Rattle.std.proofs.lemmas.Result.{IfOk-weaker}
use Rattle.prefixes.specs.Under.{begins_with}
use Rattle.names.specs.declared.edge.Edge.TheVariants.{Before}
use Rattle.names.specs.Contents.{copies}
use Rattle.names.specs.Private.Entries.{begun, joined, laid_over, lies_behind}
use Rattle.names.proofs.OverLemmas.{gathered, copies_rise, copied_done, over_rises}
use Rattle.names.proofs.names.Names.copy_under.Goals as goal
use Rattle.names.proofs.names.Names.copy_under.Goals.{In_ok-add_until, In_ok-over}

pub behind-rest-requires : goal.behind-rest-requires
behind-rest-requires c = ap (λ cs. is_sorted (slice_cmp nat_cmp) (joined cs)) c.deref.ensures.value ∙ c.self.invariant.rise

gathered_is : (c : In_ok-add_until) → c.add_until.new.self
    ≡ map (begun (length c.args.from.now) c.args.to.now) (filter (λ e. begins_with c.args.from.now e.0) (joined c.self.inside.chunks.items))
gathered_is c =
    gathered c.args.from.now c.args.to.now c.new-copies.result c.add_until.new.self c.behind-rest.result
    (joined c.self.inside.chunks.items) c.new-copies.ensures
    (c.behind-rest.ensures ∙ ap (λ cs. filter (lies_behind Before c.args.from.now) (joined cs)) c.deref.ensures.value) c.in_ok-add_until.ensures.added

pub over-requires-clause-rise : goal.over-requires-clause-rise
over-requires-clause-rise c =
    ap (λ cs. is_sorted (slice_cmp nat_cmp) (joined cs)) c.deref-2.ensures.value
    ∙ (ap (is_sorted (slice_cmp nat_cmp)) c.in_ok-closed.ensures
    ∙ copies_rise c.args.from.now c.args.to.now c.add_until.new.self (joined c.self.inside.chunks.items)
    (gathered_is (goal.at.over-requires-clause-rise c).In_ok-add_until) c.self.invariant.rise)

pub over-requires-clause-others_rise : goal.over-requires-clause-others_rise
over-requires-clause-others_rise c = ap (λ cs. is_sorted (slice_cmp nat_cmp) (joined cs)) c.deref-3.ensures.value ∙ c.self.invariant.rise

made_is : (c : In_ok-over) → c.in_ok-over.field-0 ≡ laid_over c.add_until.new.self (joined c.self.inside.chunks.items)
made_is c =
    c.in_ok-over.ensures
    ∙ (ap (λ cs. laid_over (joined cs) (joined c.deref-3.result.now)) c.deref-2.ensures.value
    ∙ (ap (λ es. laid_over es (joined c.deref-3.result.now)) c.in_ok-closed.ensures
    ∙ ap (λ cs. laid_over c.add_until.new.self (joined cs)) c.deref-3.ensures.value))

pub finished-requires : goal.finished-requires
finished-requires c =
    let es = joined c.self.inside.chunks.items in
    let gather = c.add_until.new.self in
    ap (is_sorted (slice_cmp nat_cmp)) (made_is (goal.at.finished-requires c).In_ok-over)
    ∙ over_rises gather es
    (copies_rise c.args.from.now c.args.to.now gather es (gathered_is (goal.at.finished-requires c).In_ok-add_until) c.self.invariant.rise) c.self.invariant.rise

pub returns : goal.returns
returns c =
    let es = joined c.self.inside.chunks.items in
    let gather = c.add_until.new.self in
    let made = c.in_ok-over.field-0 in
    let from = c.args.from.now in
    let to = c.args.to.now in
    IfOk-weaker c.finished.result (λ names. names ≡ from_sorted made) (λ names. names ≡ from_entries (copies from to c.args.self.now ++ entries c.args.self.now))
    (λ names is. copied_done from to es gather made c.args.self.now names c.self.invariant.rise c.self.view_is (gathered_is (goal.at.returns c).In_ok-add_until)
    (made_is (goal.at.returns c).In_ok-over) is) c.finished.ensures
