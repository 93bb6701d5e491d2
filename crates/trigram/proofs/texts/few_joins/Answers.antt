use Rattle.std.proofs.Common.{◌≡◌, ℕ, ◌+◌, ◌<◌, ◌++◌, List, length, map, drop, get_or, ap, sym, ◌∙◌, arith}
use Rattle.std.proofs.lemmas.List.{length-map}
use Rattle.std.specs.declared.alloc.Global.{Global}
use Rattle.std.specs.declared.vec.Vec.{Vec}
use Rattle.query.specs.Texts.{Texts, texts_of, joined_texts}
use Rattle.trigram.specs.Texts.{with_texts, joins}
use Rattle.trigram.proofs.TextsLemmas.{with_texts-append, with_texts-longer, next_text}
use Rattle.trigram.proofs.texts.few_joins.Goals as goal

more_joins : (left : List (Vec ℕ Global)) (right : Texts) (i : ℕ) (x : Vec ℕ Global) (prefix : List ℕ) (before now whole : Texts)
    → i < length left → x ≡ get_or left i x → prefix ≡ x.items → with_texts before (joined_texts (texts_of (drop i left)) right) ≡ whole
    → now ≡ with_texts before (map (λ suffix. prefix ++ suffix) right)
    → with_texts now (joined_texts (texts_of (drop (i + 1) left)) right) ≡ whole
more_joins left right i x prefix before now whole below read same so_far one =
    let rest = joined_texts (texts_of (drop (i + 1) left)) right in
    ap (λ ts. with_texts ts rest) (one ∙ ap (λ p. with_texts before (map (λ suffix. p ++ suffix) right)) same)
    ∙ sym (with_texts-append before (map (λ suffix. x.items ++ suffix) right) rest)
    ∙ ap (λ ts. with_texts before (joined_texts ts right)) (sym (next_text left i x below read))
    ∙ so_far

pub loop-prefix-preserved : goal.loop-prefix-preserved
loop-prefix-preserved c =
    more_joins c.args.left.now (texts_of c.args.right.now) c.loop-prefix.prefix-index c.prefix-item.result c.as_slice.result.now
    (texts_of c.loop-prefix.whole.items) (texts_of c.add_joins.new.whole.items)
    (joins (texts_of c.args.left.now) (texts_of c.args.right.now)) c.loop-prefix-test.true c.prefix-item.is c.as_slice.ensures.value
    c.loop-prefix.invariant c.in_ok-add_joins.ensures

pub returns-then-len-gt-MOST_TEXTS-clause-none : goal.returns-then-len-gt-MOST_TEXTS-clause-none
returns-then-len-gt-MOST_TEXTS-clause-none c =
    let now = texts_of c.add_joins.new.whole.items in
    let rest = joined_texts (texts_of (drop (c.loop-prefix.prefix-index + 1) c.args.left.now)) (texts_of c.args.right.now) in
    let all = more_joins c.args.left.now (texts_of c.args.right.now) c.loop-prefix.prefix-index c.prefix-item.result c.as_slice.result.now
    (texts_of c.loop-prefix.whole.items) now (joins (texts_of c.args.left.now) (texts_of c.args.right.now)) c.loop-prefix-test.true
    c.prefix-item.is c.as_slice.ensures.value c.loop-prefix.invariant c.in_ok-add_joins.ensures in
    omega (
      arith,
      with_texts-longer now rest,
      ap length all,
      length-map c.add_joins.new.whole.items (λ text. text.items),
      c.len.ensures,
      c.if-len-gt-MOST_TEXTS.true,
    )
