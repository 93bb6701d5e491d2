use Rattle.std.proofs.Common.{◌≡◌, ◌+◌, ◌-◌, length, sym, ◌∙◌, ap, subst, arith}
use Rattle.std.proofs.lemmas.List.{length-map, map-append}
use Rattle.index.specs.Private.Numbered.{document_of, documents_shared, IsState}
use Rattle.std.specs.Prelude.{filter}
use Rattle.index.proofs.NamedLemmas.{state_of_index}
use Rattle.index.proofs.OrderLemmas.{some_in_order}
use Rattle.index.proofs.PrefixLemmas.{AreUnderFirst, apart_texts, part_of, place_of, under-all, under-full, under-more, under-none}
use Rattle.index.proofs.catalog.Catalog.many.Goals as goal
use Rattle.index.proofs.catalog.Catalog.many.Goals.{then-len-most+in_ok-part+in_ok-shared, else-len-most}

pub loop-prefix-init : goal.loop-prefix-init
loop-prefix-init g c =
    under-none c.args.most c.args.self.now.documents c.args.chosen.now.members c.texts-prefix-items.result.now (documents_shared c.new-shared.result.items)
    (ap documents_shared c.new-shared.ensures.items)

pub loop-prefix-preserved : goal.loop-prefix-preserved
loop-prefix-preserved g c =
    let ds = c.args.self.now.documents in
    let members = c.args.chosen.now.members in
    let items = c.texts-prefix-items.result.now in
    let at = c.loop-prefix.prefix-index in
    let old = c.loop-prefix.shared.items in
    let text = c.prefix-item.result.items in
    let apart = apart_texts items c.args.prefixes.now c.texts-prefix-items.ensures.texts c.texts-prefix-items.ensures.apart in
    let place = place_of items at c.prefix-item.result c.loop-prefix-test.true c.prefix-item.is in
    let is = subst IsState c.self.view_is (state_of_index c.self.invariant) in
    let count : length (documents_shared old) ≡ c.len.result =
    length-map old document_of ∙ sym (c.len.ensures ∙ c.loop-prefix.shared.ok.0) in
    elim c.if-len-most.branch [
      | then-len-most+in_ok-part+in_ok-shared w ↦
          subst (λ v. AreUnderFirst c.args.most ds members items (at + 1) (documents_shared v.items)) (sym w.shared-is)
          (under-more c.args.most ds members items at text apart place.0 place.1 (documents_shared old) (documents_shared w.in_ok-part.part.items)
          (documents_shared w.in_ok-shared.shared.items) (let room = w.if-len-most.true in omega arith) c.loop-prefix.invariant
          (part_of (c.args.most - length (documents_shared old)) (c.args.most - w.len-then-len-most.result) ds (documents_shared w.in_ok-part.part.items)
          c.in_ok-among.among members w.as_slice.result.now text
          (ap (λ n. c.args.most - n) (w.len-then-len-most.ensures ∙ c.loop-prefix.shared.ok.0 ∙ sym (length-map old document_of))) c.in_ok-among.ensures.lookup
          w.as_slice.ensures.value w.in_ok-part.ensures.documents)
          (ap documents_shared w.in_ok-shared.ensures ∙ map-append document_of old w.in_ok-part.part.items))
      | else-len-most w ↦
          subst (λ v. AreUnderFirst c.args.most ds members items (at + 1) (documents_shared v.items)) (sym w.shared-is)
          (under-full c.args.most ds members items at text apart place.0 place.1 (documents_shared old) (let full = w.if-len-most.false in omega arith)
          (λ p. (filter p ds, some_in_order ds is.rise p))
          c.loop-prefix.invariant)
    ]

pub returns-clause-documents : goal.returns-clause-documents
returns-clause-documents g c =
    under-all c.args.most c.args.self.now.documents c.args.chosen.now.members c.texts-prefix-items.result.now c.loop-prefix.prefix-index
    c.args.prefixes.now (documents_shared c.loop-prefix.shared.items) c.loop-prefix-test.false c.texts-prefix-items.ensures.texts c.loop-prefix.invariant
