use Rattle.std.proofs.Common.{ℕ, refl, ◌+◌, ◌∷◌, [], ◌++◌, drop, ap, sym, ◌∙◌, arith, get_or}
use Rattle.std.proofs.lemmas.List.{map_push, append_assoc, append-nil}
use Rattle.std.specs.declared.alloc.Global.{Global}
use Rattle.std.specs.declared.vec.Vec.{Vec}
use Rattle.query.specs.Texts.{texts_of}
use Rattle.query.specs.Pairs.{cut_texts}
use Rattle.query.proofs.PairLemmas.{next_part, no_parts}
use Rattle.query.proofs.pairs.Pairs.parts.Goals as goal

pub loop-length-preserved : goal.loop-length-preserved
loop-length-preserved c =
    let lengths = c.deref-length-items.result.now in
    let i = c.loop-length.length-index in
    let rest = c.loop-length.rest.now in
    let next = next_part lengths rest i (get_or lengths i 0) c.min.result c.loop-length-test.true refl (grind arith) in
    let later = cut_texts (drop (i + 1) lengths) (drop c.min.result rest) in
    ap (λ bs. texts_of c.push.new.self.items ++ cut_texts (drop (i + 1) lengths) bs) c.split_at.ensures.back
    ∙ ap (λ vs. texts_of vs ++ later) c.in_ok-push.ensures.items
    ∙ ap (λ ts. ts ++ later) (map_push (λ (v : Vec ℕ Global). v.items) c.loop-length.parts.items c.in_ok-from_slice.field-0)
    ∙ append_assoc (texts_of c.loop-length.parts.items) (c.in_ok-from_slice.field-0.items ∷ []) later
    ∙ ap (λ t. texts_of c.loop-length.parts.items ++ (t ∷ later)) (c.in_ok-from_slice.ensures.items ∙ c.split_at.ensures.front)
    ∙ ap (λ ts. texts_of c.loop-length.parts.items ++ ts) (sym next)
    ∙ c.loop-length.invariant

pub returns : goal.returns
returns c =
    sym (append-nil (texts_of c.loop-length.parts.items))
    ∙ ap (λ ts. texts_of c.loop-length.parts.items ++ ts)
    (sym (no_parts c.deref-length-items.result.now c.loop-length.rest.now c.loop-length.length-index c.loop-length-test.false))
    ∙ c.loop-length.invariant
