use Rattle.std.proofs.Common.{◌++◌, map, ap, sym, ◌∙◌, length}
use Rattle.std.proofs.lemmas.List.{length-map}
use Rattle.query.specs.Texts.{texts_of}
use Rattle.query.specs.Pairs.{cut_texts}
use Rattle.query.proofs.PairLemmas.{parts_again, joins_again, joins_twice, bytes_of}
use Rattle.query.proofs.pairs.Pairs.of.Goals as goal
use Rattle.query.proofs.pairs.Pairs.of.Goals.{then-not-are_same_texts+in_ok-add_parts-2, else-not-are_same_texts}

pub returns : goal.returns
returns c =
    let left = texts_of c.args.left.now in
    let right = texts_of c.args.right.now in
    let lefts = sym (length-map c.args.left.now (λ text. text.items)) in
    let lengths = c.in_ok-add_parts.ensures.lengths ∙ ap (λ ns. ns ++ map length left) c.new-lengths.ensures.items in
    let bytes = c.in_ok-add_parts.ensures.bytes ∙ ap (λ bs. bs ++ bytes_of left) c.new-bytes.ensures.items in
    elim c.if-not-are_same_texts.branch [
      | then-not-are_same_texts+in_ok-add_parts-2 w ↦
          joins_again left right (cut_texts c.shrink_to_fit.new.self.items c.shrink_to_fit-2.new.self.items) (length c.args.left.now)
          c.if-not-are_same_texts.rights
          (parts_again left right c.shrink_to_fit.new.self.items c.shrink_to_fit-2.new.self.items
          (c.shrink_to_fit.ensures.items ∙ ap (λ v. v.items) w.lengths-is ∙ w.in_ok-add_parts-2.ensures.lengths
          ∙ ap (λ ns. ns ++ map length right) lengths)
          (c.shrink_to_fit-2.ensures.items ∙ ap (λ v. v.items) w.bytes-is ∙ w.in_ok-add_parts-2.ensures.bytes
          ∙ ap (λ bs. bs ++ bytes_of right) bytes)) lefts (w.rights-is ∙ lefts)
      | else-not-are_same_texts w ↦
          joins_twice left right c.shrink_to_fit.new.self.items c.shrink_to_fit-2.new.self.items (length c.args.left.now)
          c.if-not-are_same_texts.rights (c.shrink_to_fit.ensures.items ∙ ap (λ v. v.items) w.lengths-is ∙ lengths)
          (c.shrink_to_fit-2.ensures.items ∙ ap (λ v. v.items) w.bytes-is ∙ bytes)
          (c.are_same_texts.ensures w.if-not-are_same_texts.false) lefts w.rights-is
    ]
