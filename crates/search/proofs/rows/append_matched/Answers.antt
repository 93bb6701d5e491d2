use Rattle.std.proofs.Common.{sym, ◌∙◌, subst}
use Rattle.std.specs.List.{All}
use Rattle.std.proofs.lemmas.List.Elements.{All-head, All-rest}
use Rattle.views.specs.Hits.{hit_of}
use Rattle.prepare.specs.Prepared.{request_of}
use Rattle.search.specs.Private.Seekers.{IsOneLine}
use Rattle.views.specs.Found.{Hit}
use Rattle.search.specs.Private.Rows.{IsMatchRow}
use Rattle.search.proofs.RowLemmas.{each_begin, each_more, each_total}
use Rattle.search.proofs.rows.append_matched.Goals as goal

abbrev HasOneLine : Hit → Type 0
HasOneLine h = IsOneLine h.text

pub loop-found-init : goal.loop-found-init
loop-found-init g c = record {
  so_far = each_begin c.args.prepared.now.zero (IsMatchRow c.args.spans (request_of c.args.prepared.now)) c.into_iter-found-iterator.result c.args.out.now.items;
  lines =
      subst (λ hs. All HasOneLine hs) (sym (c.into_iter-found-iterator.ensures.into_iter_gives ∙ c.again-found-items.ensures)) c.requires.lines;
  seeks = c.requires.seeks;
}

pub append_match-requires-clause-one_line : goal.append_match-requires-clause-one_line
append_match-requires-clause-one_line g c =
    All-head HasOneLine (hit_of c.in-Some.found) c.next.new.self
    (subst (λ hs. All HasOneLine hs) c.in-Some.ensures.steps c.loop-found.invariant.lines)

pub loop-found-preserved : goal.loop-found-preserved
loop-found-preserved g c = record {
  so_far =
      each_more c.args.prepared.now.zero (IsMatchRow c.args.spans (request_of c.args.prepared.now)) c.loop-found.found-iterator c.next.new.self
      c.into_iter-found-iterator.result c.args.out.now.items c.loop-found.out.items c.append_match.new.out.items (hit_of c.in-Some.found)
      c.in-Some.ensures.steps c.in_ok-append_match.ensures.row c.loop-found.invariant.so_far;
  lines =
      All-rest HasOneLine (hit_of c.in-Some.found) c.next.new.self c.loop-found.found-iterator c.in-Some.ensures.steps
      c.loop-found.invariant.lines;
  seeks = c.append_match.ensures.seeks;
}

pub returns-clause-rows : goal.returns-clause-rows
returns-clause-rows g c =
    each_total c.args.prepared.now.zero (IsMatchRow c.args.spans (request_of c.args.prepared.now)) c.loop-found.found-iterator
    c.into_iter-found-iterator.result c.args.hits.now c.args.out.now.items c.loop-found.out.items c.len.result c.in-None.ensures.steps.0
    (c.into_iter-found-iterator.ensures.into_iter_gives ∙ c.again-found-items.ensures) c.len.ensures c.loop-found.invariant.so_far
