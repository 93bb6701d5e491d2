use Rattle.std.proofs.Common.{◌≡◌, ℕ, ◌+◌, ◌-◌, ◌<◌, ◌≤◌, ◌∷◌, ◌++◌, length, take, drop, get_or, sym, ap, ◌∙◌, subst, arith}
use Rattle.names.specs.Private.Entries.{parts_from, RiseTo}
use Rattle.names.proofs.TextLemmas.{part_inside}
use Rattle.names.proofs.MovedLemmas.{all_moved, ends_inside, piece_long, rise_from, run_behind, run_inside, run_order, run_rise_behind, run_rises}
use Rattle.names.proofs.texts.Texts.with_run.Goals as goal

pub start-low-requires : goal.start-low-requires
start-low-requires c =
    let text = c.self.inside.text.items in
    let mine = c.self.inside.ends.items in
    let other = c.others.inside.text.items in
    let ends = c.others.inside.ends.items in
    let from = c.args.from in
    let to = c.args.to in
    let inside : to ≤ length ends = ends_inside other ends c.args.others.now to c.others.view_is c.requires.inside in
    let order = c.requires.order in omega (arith, inside, order, ap length c.deref.ensures.value)

pub start-high-requires : goal.start-high-requires
start-high-requires c =
    let text = c.self.inside.text.items in
    let mine = c.self.inside.ends.items in
    let other = c.others.inside.text.items in
    let ends = c.others.inside.ends.items in
    let from = c.args.from in
    let to = c.args.to in
    let inside : to ≤ length ends = ends_inside other ends c.args.others.now to c.others.view_is c.requires.inside in
    omega (arith, inside, ap length c.deref-2.ensures.value)

pub piece-requires-clause-order : goal.piece-requires-clause-order
piece-requires-clause-order c =
    let text = c.self.inside.text.items in
    let mine = c.self.inside.ends.items in
    let other = c.others.inside.text.items in
    let ends = c.others.inside.ends.items in
    let from = c.args.from in
    let to = c.args.to in
    let inside : to ≤ length ends = ends_inside other ends c.args.others.now to c.others.view_is c.requires.inside in
    let low = c.start-low.result in
    let high = c.start-high.result in
    let low_is : low ≡ get_or (0 ∷ ends) from 0 = c.start-low.ensures ∙ ap (λ es. get_or (0 ∷ es) from 0) c.deref.ensures.value in
    let high_is : high ≡ get_or (0 ∷ ends) to 0 = c.start-high.ensures ∙ ap (λ es. get_or (0 ∷ es) to 0) c.deref-2.ensures.value in
    run_order other ends from to low high c.requires.order inside c.others.invariant low_is high_is

pub piece-requires-clause-inside : goal.piece-requires-clause-inside
piece-requires-clause-inside c =
    let text = c.self.inside.text.items in
    let mine = c.self.inside.ends.items in
    let other = c.others.inside.text.items in
    let ends = c.others.inside.ends.items in
    let from = c.args.from in
    let to = c.args.to in
    let inside : to ≤ length ends = ends_inside other ends c.args.others.now to c.others.view_is c.requires.inside in
    let low = c.start-low.result in
    let high = c.start-high.result in
    let low_is : low ≡ get_or (0 ∷ ends) from 0 = c.start-low.ensures ∙ ap (λ es. get_or (0 ∷ es) from 0) c.deref.ensures.value in
    let high_is : high ≡ get_or (0 ∷ ends) to 0 = c.start-high.ensures ∙ ap (λ es. get_or (0 ∷ es) to 0) c.deref-2.ensures.value in
    let within = run_inside other ends from to low high c.requires.order inside c.others.invariant low_is high_is in omega (arith, within, ap length c.deref-3.ensures.value)

pub run_of-requires-clause-inside : goal.run_of-requires-clause-inside
run_of-requires-clause-inside c =
    let text = c.self.inside.text.items in
    let mine = c.self.inside.ends.items in
    let other = c.others.inside.text.items in
    let ends = c.others.inside.ends.items in
    let from = c.args.from in
    let to = c.args.to in
    let inside : to ≤ length ends = ends_inside other ends c.args.others.now to c.others.view_is c.requires.inside in
    omega (arith, inside, ap length c.deref-4.ensures.value)

pub push_moved-requires-clause-above : goal.push_moved-requires-clause-above
push_moved-requires-clause-above c =
    let text = c.self.inside.text.items in
    let mine = c.self.inside.ends.items in
    let other = c.others.inside.text.items in
    let ends = c.others.inside.ends.items in
    let from = c.args.from in
    let to = c.args.to in
    let inside : to ≤ length ends = ends_inside other ends c.args.others.now to c.others.view_is c.requires.inside in
    let low = c.start-low.result in
    let high = c.start-high.result in
    let low_is : low ≡ get_or (0 ∷ ends) from 0 = c.start-low.ensures ∙ ap (λ es. get_or (0 ∷ es) from 0) c.deref.ensures.value in
    let high_is : high ≡ get_or (0 ∷ ends) to 0 = c.start-high.ensures ∙ ap (λ es. get_or (0 ∷ es) to 0) c.deref-2.ensures.value in
    let run = take (to - from) (drop from ends) in
    let same : c.run_of.result.now ≡ run = c.run_of.ensures ∙ ap (λ es. take (to - from) (drop from es)) c.deref-4.ensures.value in
    let rises : RiseTo high low run = run_rises other ends from to low high c.requires.order inside c.others.invariant low_is high_is in
    subst (λ r. (k : ℕ) → k < length r → low ≤ get_or r k 0) (sym same) (λ k within. rise_from high low run k rises within)

pub push_moved-requires-clause-fits : goal.push_moved-requires-clause-fits
push_moved-requires-clause-fits c =
    let text = c.self.inside.text.items in
    let mine = c.self.inside.ends.items in
    let other = c.others.inside.text.items in
    let ends = c.others.inside.ends.items in
    let from = c.args.from in
    let to = c.args.to in
    let inside : to ≤ length ends = ends_inside other ends c.args.others.now to c.others.view_is c.requires.inside in
    let low = c.start-low.result in
    let high = c.start-high.result in
    let low_is : low ≡ get_or (0 ∷ ends) from 0 = c.start-low.ensures ∙ ap (λ es. get_or (0 ∷ es) from 0) c.deref.ensures.value in
    let high_is : high ≡ get_or (0 ∷ ends) to 0 = c.start-high.ensures ∙ ap (λ es. get_or (0 ∷ es) to 0) c.deref-2.ensures.value in
    let run = take (to - from) (drop from ends) in
    let same : c.run_of.result.now ≡ run = c.run_of.ensures ∙ ap (λ es. take (to - from) (drop from es)) c.deref-4.ensures.value in
    let rises : RiseTo high low run = run_rises other ends from to low high c.requires.order inside c.others.invariant low_is high_is in
    let len = c.len-base.ensures in
    let base_is : c.len-base.result ≡ length text = omega (arith, len, c.self.inside.text.ok.0) in
    let piece = c.piece.result.now in
    let piece_is : piece ≡ take (high - low) (drop low other) = c.piece.ensures ∙ ap (λ t. take (high - low) (drop low t)) c.deref-3.ensures.value in
    let items_is : c.extend_from_slice.new.self.items ≡ text ++ piece = c.in_ok-extend_from_slice.ensures.items in
    let long : length c.extend_from_slice.new.self.items ≡ (high - low) + length text =
    ap length items_is ∙ piece_long other ends from to low high c.requires.order inside c.others.invariant low_is high_is text piece mine c.self.invariant piece_is in
    let all = c.len.ensures in
    let few = c.if-len.false in
    let ok = c.extend_from_slice.new.self.ok.0 in
    subst (λ r. (k : ℕ) → k < length r → (get_or r k 0 - low) + c.len-base.result < 4294967296) (sym same)
    (λ k within. let last = part_inside high low run k rises within in omega (arith, last, long, all, few, ok, base_is))

pub invariant_of-result : goal.invariant_of-result
invariant_of-result c =
    let text = c.self.inside.text.items in
    let mine = c.self.inside.ends.items in
    let other = c.others.inside.text.items in
    let ends = c.others.inside.ends.items in
    let from = c.args.from in
    let to = c.args.to in
    let inside : to ≤ length ends = ends_inside other ends c.args.others.now to c.others.view_is c.requires.inside in
    let low = c.start-low.result in
    let high = c.start-high.result in
    let low_is : low ≡ get_or (0 ∷ ends) from 0 = c.start-low.ensures ∙ ap (λ es. get_or (0 ∷ es) from 0) c.deref.ensures.value in
    let high_is : high ≡ get_or (0 ∷ ends) to 0 = c.start-high.ensures ∙ ap (λ es. get_or (0 ∷ es) to 0) c.deref-2.ensures.value in
    let run = take (to - from) (drop from ends) in
    let same : c.run_of.result.now ≡ run = c.run_of.ensures ∙ ap (λ es. take (to - from) (drop from es)) c.deref-4.ensures.value in
    let rises : RiseTo high low run = run_rises other ends from to low high c.requires.order inside c.others.invariant low_is high_is in
    let len = c.len-base.ensures in
    let base_is : c.len-base.result ≡ length text = omega (arith, len, c.self.inside.text.ok.0) in
    let piece = c.piece.result.now in
    let piece_is : piece ≡ take (high - low) (drop low other) = c.piece.ensures ∙ ap (λ t. take (high - low) (drop low t)) c.deref-3.ensures.value in
    let items_is : c.extend_from_slice.new.self.items ≡ text ++ piece = c.in_ok-extend_from_slice.ensures.items in
    let ends_is : c.push_moved.new.ends.items ≡ mine ++ all_moved low (length text) run =
    c.in_ok-push_moved.ensures ∙ (ap (λ b. mine ++ all_moved low b c.run_of.result.now) base_is ∙ ap (λ r. mine ++ all_moved low (length text) r) same) in
    subst (λ t. RiseTo (length t) 0 c.push_moved.new.ends.items) (sym items_is)
    (subst (RiseTo (length (text ++ piece)) 0) (sym ends_is) (run_rise_behind other ends from to low high c.requires.order inside c.others.invariant low_is high_is text piece mine c.self.invariant piece_is))

pub returns : goal.returns
returns c =
    let text = c.self.inside.text.items in
    let mine = c.self.inside.ends.items in
    let other = c.others.inside.text.items in
    let ends = c.others.inside.ends.items in
    let from = c.args.from in
    let to = c.args.to in
    let inside : to ≤ length ends = ends_inside other ends c.args.others.now to c.others.view_is c.requires.inside in
    let low = c.start-low.result in
    let high = c.start-high.result in
    let low_is : low ≡ get_or (0 ∷ ends) from 0 = c.start-low.ensures ∙ ap (λ es. get_or (0 ∷ es) from 0) c.deref.ensures.value in
    let high_is : high ≡ get_or (0 ∷ ends) to 0 = c.start-high.ensures ∙ ap (λ es. get_or (0 ∷ es) to 0) c.deref-2.ensures.value in
    let run = take (to - from) (drop from ends) in
    let same : c.run_of.result.now ≡ run = c.run_of.ensures ∙ ap (λ es. take (to - from) (drop from es)) c.deref-4.ensures.value in
    let rises : RiseTo high low run = run_rises other ends from to low high c.requires.order inside c.others.invariant low_is high_is in
    let len = c.len-base.ensures in
    let base_is : c.len-base.result ≡ length text = omega (arith, len, c.self.inside.text.ok.0) in
    let piece = c.piece.result.now in
    let piece_is : piece ≡ take (high - low) (drop low other) = c.piece.ensures ∙ ap (λ t. take (high - low) (drop low t)) c.deref-3.ensures.value in
    let items_is : c.extend_from_slice.new.self.items ≡ text ++ piece = c.in_ok-extend_from_slice.ensures.items in
    let ends_is : c.push_moved.new.ends.items ≡ mine ++ all_moved low (length text) run =
    c.in_ok-push_moved.ensures ∙ (ap (λ b. mine ++ all_moved low b c.run_of.result.now) base_is ∙ ap (λ r. mine ++ all_moved low (length text) r) same) in
    ap (λ t. parts_from t 0 c.push_moved.new.ends.items) items_is
    ∙ (ap (parts_from (text ++ piece) 0) ends_is
    ∙ (run_behind other ends from to low high c.requires.order inside c.others.invariant low_is high_is text piece mine c.self.invariant piece_is
    ∙ (ap (λ ps. ps ++ drop from (take to (parts_from other 0 ends))) c.self.view_is ∙ ap (λ ps. c.args.self ++ drop from (take to ps)) c.others.view_is)))
