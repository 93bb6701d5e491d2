use Rattle.std.proofs.Common.{◌≡◌, ◌++◌, ap, sym, ◌∙◌, subst}
use Rattle.std.specs.Prelude.{filter, not}
use Rattle.std.specs.Ordering.{nat_cmp}
use Rattle.std.specs.Cmp.Lexicographic.{slice_cmp}
use Rattle.std.specs.FinMap.{is_sorted, from_sorted, retain_keys}
use Rattle.std.proofs.lemmas.Result.{IfOk-weaker}
use Rattle.prefixes.specs.Under.{begins_with}
use Rattle.names.specs.declared.edge.Edge.TheVariants.{Before, AfterUnder}
use Rattle.names.specs.Private.Entries.{joined, passes, lies_behind, Falls}
use Rattle.names.proofs.OrderLemmas.{falls}
use Rattle.names.proofs.MapLemmas.{remove_under_rises, remove_under_done}
use Rattle.names.proofs.BuilderLemmas.{made_remove}
use Rattle.names.proofs.names.Names.remove_under.Goals as goal
use Rattle.names.proofs.names.Names.remove_under.Goals.{In_ok-add_behind}

pub add_before-requires : goal.add_before-requires
add_before-requires c =
    subst (λ cs. Falls (passes Before c.args.prefix.now) (joined cs)) (sym c.deref.ensures.value)
    (falls Before c.args.prefix.now (joined c.self.inside.chunks.items) c.self.invariant.rise)

pub add_behind-requires : goal.add_behind-requires
add_behind-requires c =
    subst (λ cs. Falls (passes AfterUnder c.args.prefix.now) (joined cs)) (sym c.deref-2.ensures.value)
    (falls AfterUnder c.args.prefix.now (joined c.self.inside.chunks.items) c.self.invariant.rise)

made_is : (c : In_ok-add_behind) → c.add_behind.new.self
    ≡ filter (passes Before c.args.prefix.now) (joined c.self.inside.chunks.items) ++ filter (lies_behind AfterUnder c.args.prefix.now) (joined c.self.inside.chunks.items)
made_is c =
    let none = c.new-made.result in
    let one = c.add_before.new.self in
    let es = joined c.self.inside.chunks.items in
    made_remove none one c.add_behind.new.self (filter (passes Before c.args.prefix.now) es) (filter (lies_behind AfterUnder c.args.prefix.now) es)
    c.new-made.ensures (c.in_ok-add_before.ensures ∙ ap (λ cs. none ++ filter (passes Before c.args.prefix.now) (joined cs)) c.deref.ensures.value)
    (c.in_ok-add_behind.ensures ∙ ap (λ cs. one ++ filter (lies_behind AfterUnder c.args.prefix.now) (joined cs)) c.deref-2.ensures.value)

pub finished-requires : goal.finished-requires
finished-requires c = ap (is_sorted (slice_cmp nat_cmp)) (made_is c) ∙ remove_under_rises c.args.prefix.now (joined c.self.inside.chunks.items) c.self.invariant.rise

pub returns : goal.returns
returns c =
    let made = c.add_behind.new.self in
    IfOk-weaker c.finished.result (λ names. names ≡ from_sorted made) (λ names. names ≡ retain_keys c.args.self.now (λ name. not (begins_with c.args.prefix.now name)))
    (λ names is. remove_under_done (joined c.self.inside.chunks.items) made c.args.prefix.now c.args.self.now names c.self.invariant.rise c.self.view_is
    (made_is (goal.at.returns c).In_ok-add_behind) is) c.finished.ensures
