use Rattle.std.proofs.Common.{◌≡◌, ◌≤◌, ◌++◌, ◌∷◌, [], length, ap, sym, ◌∙◌, subst, arith, length-append}
use Rattle.names.specs.Private.Entries.{parts_from, RiseTo}
use Rattle.names.proofs.TextLemmas.{three, rise-push, parts-push}
use Rattle.names.proofs.texts.Texts.with.Goals as goal
use Rattle.names.proofs.texts.Texts.with.Goals.{In_ok-push-in-Ok}

whole : (c : In_ok-push-in-Ok) → c.extend_from_slice-3.new.self.items ≡ c.self.inside.text.items ++ (c.args.first.now ++ (c.args.second.now ++ c.args.third.now))
whole c =
    three c.self.inside.text.items c.args.first.now c.args.second.now c.args.third.now c.extend_from_slice-3.new.self.items
    (c.in_ok-extend_from_slice-3.ensures.items
    ∙ ap (λ x. x ++ c.args.third.now) (c.in_ok-extend_from_slice-2.ensures.items ∙ ap (λ x. x ++ c.args.second.now) c.in_ok-extend_from_slice.ensures.items))

pushed : (c : In_ok-push-in-Ok) → c.push.new.self.items ≡ c.self.inside.ends.items ++ length c.extend_from_slice-3.new.self.items ∷ []
pushed c =
    let at = c.in-Ok.ensures in
    let end : c.in-Ok.end ≡ length c.extend_from_slice-3.new.self.items = omega (arith, at, c.extend_from_slice-3.new.self.ok.0) in
    c.in_ok-push-in-Ok.ensures.items ∙ ap (λ n. c.self.inside.ends.items ++ n ∷ []) end

pub invariant_of-result : goal.invariant_of-result
invariant_of-result c =
    let text = c.self.inside.text.items in
    let more = c.args.first.now ++ (c.args.second.now ++ c.args.third.now) in
    let longer : length text ≤ length c.extend_from_slice-3.new.self.items = omega (arith, ap length (whole c), length-append text more) in
    subst (RiseTo (length c.extend_from_slice-3.new.self.items) 0) (sym (pushed c))
    (rise-push (length text) (length c.extend_from_slice-3.new.self.items) 0 c.self.inside.ends.items c.self.invariant longer)

pub returns : goal.returns
returns c =
    let text = c.self.inside.text.items in
    let more = c.args.first.now ++ (c.args.second.now ++ c.args.third.now) in
    let ends = c.self.inside.ends.items in
    ap (parts_from c.extend_from_slice-3.new.self.items 0) (pushed c)
    ∙ (ap (λ w. parts_from w 0 (ends ++ length w ∷ [])) (whole c)
    ∙ (parts-push text more 0 ends c.self.invariant ∙ ap (λ ts. ts ++ more ∷ []) c.self.view_is))
