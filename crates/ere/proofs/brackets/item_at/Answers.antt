use Rattle.std.proofs.Common.{◌+◌, sym, subst, drop, IsTrue, ◌∷◌, inl, inr}
use Rattle.std.proofs.lemmas.Result.{IfOk-weaker}
use Rattle.ere.specs.Brackets.{range_ahead, SpellsItem}
use Rattle.ere.specs.Brackets.{SpellsItem as item}
use Rattle.ere.specs.Private.Reading.{IsByteOrSymbol}
use Rattle.ere.proofs.BracketSteps.{if_err, if_err_map, plain_from, class_item, simple_item, range_item, no_low, no_range}
use Rattle.ere.proofs.BracketSteps.{IsAhead-range_ahead, may_begin_dash}
use Rattle.ere.proofs.brackets.item_at.Goals as goal
use Rattle.ere.proofs.brackets.item_at.Goals.{else-text-at-eq45-via-then-text-at-eq45+else-not-first, else-text-at-eq45-via-else-text-at-eq45}

pub returns-then-opens-clause-ok : goal.returns-then-opens-clause-ok
returns-then-opens-clause-ok c = IfOk-weaker c.class_at.result _ _ (λ r h. class_item c.args.first _ _ _ h) c.class_at.ensures.ok

pub returns-then-opens-2-clause-ok : goal.returns-then-opens-2-clause-ok
returns-then-opens-2-clause-ok c = item.equivalence c.in_ok-byte.byte c.in_ok-byte.ensures.ok c.single.ensures

pub returns-then-not-first-clause-err : goal.returns-then-not-first-clause-err
returns-then-not-first-clause-err c =
    if_err_map c.last_dash_at.result _ _ (λ e none rest members found.
    none rest members (subst (λ first. SpellsItem first (drop c.args.at c.args.text.now) rest members) c.if-not-first.true found))
    c.last_dash_at.ensures.err

pub returns-in_err-low-clause-err : goal.returns-in_err-low-clause-err
returns-in_err-low-clause-err c =
    if_err c.from_residual-in_err-low.result _
    (no_low c.args.first _ (plain_from _ c.if-opens.ensures c.if-opens-2.ensures) c.in_err-low.ensures.err)

pub returns-then-is_range_ahead-clause-ok : goal.returns-then-is_range_ahead-clause-ok
returns-then-is_range_ahead-clause-ok c =
    let dash = (IsAhead-range_ahead c.args.text.now c.in_ok-low.after (sym c.if-is_range_ahead.ensures)).dash in
    let low : IsByteOrSymbol (drop c.args.at c.args.text.now) c.in_ok-low.low (45 ∷ drop (c.in_ok-low.after + 1) c.args.text.now) =
    subst (IsByteOrSymbol (drop c.args.at c.args.text.now) c.in_ok-low.low) dash.from c.in_ok-low.ensures.ok in
    IfOk-weaker c.range_at.result _ _ (λ r (high, end, order, is).
    range_item c.args.first _ _ _ high _ _ low (may_begin_dash c.args.text.now c.args.at c.args.first c.requires.no_end
    (elim c.else-text-at-eq45.branch [
      | else-text-at-eq45-via-then-text-at-eq45+else-not-first w ↦ inl w.if-not-first.false
      | else-text-at-eq45-via-else-text-at-eq45 w ↦ inr w.if-text-at-eq45.false
    ])) end order is) c.range_at.ensures.ok

pub returns-then-is_range_ahead-clause-err : goal.returns-then-is_range_ahead-clause-err
returns-then-is_range_ahead-clause-err c =
    let ahead : IsTrue (range_ahead (drop c.in_ok-low.after c.args.text.now)) = sym c.if-is_range_ahead.ensures in
    let dash = (IsAhead-range_ahead c.args.text.now c.in_ok-low.after ahead).dash in
    let low : IsByteOrSymbol (drop c.args.at c.args.text.now) c.in_ok-low.low (45 ∷ drop (c.in_ok-low.after + 1) c.args.text.now) =
    subst (IsByteOrSymbol (drop c.args.at c.args.text.now) c.in_ok-low.low) dash.from c.in_ok-low.ensures.ok in
    if_err_map c.range_at.result _ _ (λ e none.
    no_range c.args.first _ _ _ (plain_from _ c.if-opens.ensures c.if-opens-2.ensures) low
    (subst (λ t. IsTrue (range_ahead t)) dash.from ahead) none) c.range_at.ensures.err

pub returns-clause-ok : goal.returns-clause-ok
returns-clause-ok c = simple_item c.args.first _ c.in_ok-low.low _ _ c.in_ok-low.ensures.ok (plain_from _ c.if-opens.ensures c.if-opens-2.ensures)
    (may_begin_dash c.args.text.now c.args.at c.args.first c.requires.no_end
    (elim c.else-text-at-eq45.branch [
      | else-text-at-eq45-via-then-text-at-eq45+else-not-first w ↦ inl w.if-not-first.false
      | else-text-at-eq45-via-else-text-at-eq45 w ↦ inr w.if-text-at-eq45.false
    ]))
    (sym c.if-is_range_ahead.ensures) c.single-2.ensures
