use Rattle.std.proofs.Common.{◌≡◌, ◌+◌, ◌++◌, ◌∷◌, [], length, ap, sym, ◌∙◌, subst, arith}
use Rattle.names.specs.Private.Entries.{pairs, with_prefix, AreEntries}
use Rattle.names.proofs.PairLemmas.{AreEntries-push, pairs-push}
use Rattle.names.proofs.draft.Draft.with.Goals as goal

pub invariant_of-result : goal.invariant_of-result
invariant_of-result c =
    let name = c.args.first.now ++ (c.args.second.now ++ c.args.third.now) in
    let old = with_prefix c.self.inside.stem.items c.self.inside.rests in
    let names : with_prefix c.in_ok-stem.stem.items c.in_ok-stem.rests ≡ old ++ name ∷ [] = rw c.in_ok-stem.was at c.with_name.ensures in
    let items : c.push.new.self.items ≡ c.self.inside.contents.items ++ c.args.content ∷ [] = c.in_ok-push.ensures.items in
    let some = c.in-Some.ensures in
    let bytes : c.in-Some.bytes ≡ c.self.inside.bytes + length c.args.content.held = omega (arith, some) in
    subst (λ ns. AreEntries ns c.push.new.self.items c.in-Some.bytes) (sym names)
    (subst (λ cs. AreEntries (old ++ name ∷ []) cs c.in-Some.bytes) (sym items)
    (AreEntries-push old c.self.inside.contents.items c.self.inside.bytes name c.args.content c.in-Some.bytes bytes c.self.invariant))

pub returns : goal.returns
returns c =
    let name = c.args.first.now ++ (c.args.second.now ++ c.args.third.now) in
    let old = with_prefix c.self.inside.stem.items c.self.inside.rests in
    let names : with_prefix c.in_ok-stem.stem.items c.in_ok-stem.rests ≡ old ++ name ∷ [] = rw c.in_ok-stem.was at c.with_name.ensures in
    let items : c.push.new.self.items ≡ c.self.inside.contents.items ++ c.args.content ∷ [] = c.in_ok-push.ensures.items in
    ap (λ ns. pairs ns c.push.new.self.items) names
    ∙ (ap (pairs (old ++ name ∷ [])) items
    ∙ (pairs-push old c.self.inside.contents.items name c.args.content c.self.invariant.same
    ∙ ap (λ es. es ++ (name, c.args.content) ∷ []) c.self.view_is))
