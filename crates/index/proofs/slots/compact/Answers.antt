use Rattle.std.proofs.Common.{◌≡◌, rules, ap, ◌∙◌, subst, sym, length, arith}
use Rattle.std.specs.Prelude.{filter}
use Rattle.std.proofs.lemmas.Fn.{filter_same}
use Rattle.index.specs.Private.Slots.{RiseTo, documents_in}
use Rattle.index.proofs.SlotLemmas.{documents_in-compact, length-full, RiseTo-filter, is_full}
use Rattle.index.proofs.slots.compact.Goals as goal

pub returns-then-len-documents-clause-documents : goal.returns-then-len-documents-clause-documents
returns-then-len-documents-clause-documents c =
    let kept : c.retain.new.self.items ≡ filter is_full c.args.slots.now.items = filter_same _ _ _ (λ x b f' k. search rules) _ _ c.retain.ensures.filtered in
    ap documents_in kept ∙ documents_in-compact c.args.slots.now.items

pub returns-then-len-documents-clause-numbers : goal.returns-then-len-documents-clause-numbers
returns-then-len-documents-clause-numbers c = λ last rises.
    let kept : c.retain.new.self.items ≡ filter is_full c.args.slots.now.items = filter_same _ _ _ (λ x b f' k. search rules) _ _ c.retain.ensures.filtered in
    subst (λ slots. RiseTo last slots) (sym kept) (RiseTo-filter is_full last c.args.slots.now.items rises)

pub returns-then-len-documents-clause-few : goal.returns-then-len-documents-clause-few
returns-then-len-documents-clause-few c = λ counted.
    let kept : c.retain.new.self.items ≡ filter is_full c.args.slots.now.items = filter_same _ _ _ (λ x b f' k. search rules) _ _ c.retain.ensures.filtered in
    let slots : length c.retain.new.self.items ≡ length (documents_in c.args.slots.now.items) = ap length kept ∙ length-full c.args.slots.now.items in
    let documents : length (documents_in c.retain.new.self.items) ≡ length (documents_in c.args.slots.now.items) =
    ap (λ xs. length (documents_in xs)) kept ∙ ap length (documents_in-compact c.args.slots.now.items) in
    omega (arith, slots, documents)
