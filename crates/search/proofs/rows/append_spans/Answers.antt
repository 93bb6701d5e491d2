use Rattle.std.proofs.Common.{◌≡◌, ◌++◌, List, subst}
use Rattle.prepare.specs.Prepared.{request_of}
use Rattle.views.specs.Text.{text_of_spans}
use Rattle.views.specs.Rows.{shown_tree}
use Rattle.spans.specs.FirstSpan.{AreSpans, HasNoSpan, IsFirstSpan}
use Rattle.spans.specs.declared.span.Span.{Span}
use Rattle.search.proofs.RowLemmas.{spans_begin, spans_more, spans_end, words_are}
use Rattle.search.proofs.SeekerLemmas.{none_of, some_of}
use Rattle.search.proofs.rows.append_spans.Goals as goal

pub loop-span-init : goal.loop-span-init
loop-span-init g c = record {
  so_far =
      spans_begin c.args.line.now (shown_tree (request_of c.args.prepared.now)) c.args.prepared.now.words c.args.out.now.items
      c.as_slice-before.result.now c.as_slice-before.ensures;
  seeks = c.requires.seeks;
}

pub first_span-requires-clause-seeks : goal.first_span-requires-clause-seeks
first_span-requires-clause-seeks g c = (shown_tree (request_of c.args.prepared.now), c.loop-span.invariant.seeks)

pub loop-span-preserved : goal.loop-span-preserved
loop-span-preserved g c =
    let tree = shown_tree (request_of c.args.prepared.now) in
    let words = c.args.prepared.now.words in
    record {
      so_far =
          spans_more c.args.line.now tree c.args.prepared.now.words c.args.out.now.items c.loop-span.from c.loop-span.out.items
          c.append_span.new.out.items c.loop-span.before.now c.as_slice-before-in-loop-span.result.now c.in-Some.span
          (some_of (HasNoSpan c.args.line.now tree words c.loop-span.from) (IsFirstSpan c.args.line.now tree words c.loop-span.from)
          c.in_ok-span.field-0 c.in-Some.span c.in-Some.is (c.in_ok-span.ensures.found tree c.loop-span.invariant.seeks)) c.as_slice-before-in-loop-span.ensures c.in_ok-append_span.ensures
          c.loop-span.invariant.so_far;
      seeks = c.first_span.ensures.same tree c.loop-span.invariant.seeks;
    }

pub returns-in_default-clause-spans : goal.returns-in_default-clause-spans
returns-in_default-clause-spans g c =
    let tree = shown_tree (request_of c.args.prepared.now) in
    let words = c.args.prepared.now.words in
    let out = c.args.out.now.items in
    let shown =
    spans_end c.args.line.now tree c.args.prepared.now.words out c.loop-span.from c.loop-span.out.items c.loop-span.before.now
    (none_of (HasNoSpan c.args.line.now tree words c.loop-span.from) (IsFirstSpan c.args.line.now tree words c.loop-span.from)
    c.in_ok-span.field-0 c.in_default.is (c.in_ok-span.ensures.found tree c.loop-span.invariant.seeks)) c.loop-span.invariant.so_far in
    subst (λ words. (spans : List Span) × AreSpans c.args.line.now tree words 0 spans × (c.loop-span.out.items ≡ out ++ text_of_spans spans))
    (words_are c.args.prepared.now) shown
