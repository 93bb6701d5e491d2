use Rattle.std.proofs.Common.{◌≡◌, ◌++◌, ◌∷◌, ap, sym, ◌∙◌, subst}
use Rattle.std.specs.Prelude.{filter}
use Rattle.std.specs.Ordering.{nat_cmp}
use Rattle.std.specs.Cmp.Lexicographic.{slice_cmp}
use Rattle.std.specs.FinMap.{is_sorted, from_sorted, insert}
use Rattle.std.proofs.lemmas.Result.{IfOk-weaker}
use Rattle.names.specs.declared.edge.Edge.TheVariants.{Before, After}
use Rattle.names.specs.Private.Entries.{joined, passes, lies_behind, Falls}
use Rattle.names.proofs.OrderLemmas.{falls}
use Rattle.names.proofs.MapLemmas.{put_rises, put_done}
use Rattle.names.proofs.BuilderLemmas.{made_put}
use Rattle.names.proofs.names.Names.put.Goals as goal
use Rattle.names.proofs.names.Names.put.Goals.{In_ok-add_behind}

pub add_before-requires : goal.add_before-requires
add_before-requires c =
    subst (λ cs. Falls (passes Before c.args.name.now) (joined cs)) (sym c.deref.ensures.value)
    (falls Before c.args.name.now (joined c.self.inside.chunks.items) c.self.invariant.rise)

pub add_behind-requires : goal.add_behind-requires
add_behind-requires c =
    subst (λ cs. Falls (passes After c.args.name.now) (joined cs)) (sym c.deref-2.ensures.value)
    (falls After c.args.name.now (joined c.self.inside.chunks.items) c.self.invariant.rise)

made_is : (c : In_ok-add_behind) → c.add_behind.new.self
    ≡ filter (passes Before c.args.name.now) (joined c.self.inside.chunks.items)
    ++ (c.args.name.now, c.args.content) ∷ filter (lies_behind After c.args.name.now) (joined c.self.inside.chunks.items)
made_is c =
    let none = c.new-made.result in
    let two = c.add_entry.new.self in
    let es = joined c.self.inside.chunks.items in
    made_put none c.add_before.new.self two c.add_behind.new.self (filter (passes Before c.args.name.now) es) (filter (lies_behind After c.args.name.now) es)
    c.args.name.now c.args.content c.new-made.ensures
    (c.in_ok-add_before.ensures ∙ ap (λ cs. none ++ filter (passes Before c.args.name.now) (joined cs)) c.deref.ensures.value) c.in_ok-add_entry.ensures
    (c.in_ok-add_behind.ensures ∙ ap (λ cs. two ++ filter (lies_behind After c.args.name.now) (joined cs)) c.deref-2.ensures.value)

pub finished-requires : goal.finished-requires
finished-requires c =
    ap (is_sorted (slice_cmp nat_cmp)) (made_is c) ∙ put_rises c.args.name.now c.args.content (joined c.self.inside.chunks.items) c.self.invariant.rise

pub returns : goal.returns
returns c =
    let made = c.add_behind.new.self in
    IfOk-weaker c.finished.result (λ names. names ≡ from_sorted made) (λ names. names ≡ insert c.args.self.now c.args.name.now c.args.content)
    (λ names is. put_done (joined c.self.inside.chunks.items) made c.args.name.now c.args.content c.args.self.now names c.self.invariant.rise c.self.view_is
    (made_is (goal.at.returns c).In_ok-add_behind) is) c.finished.ensures
