use Rattle.std.proofs.Common.{refl, ap}
use Rattle.std.proofs.lemmas.Result.{IfOk-weaker}
use Rattle.prepare.specs.Prepared.{request_of}
use Rattle.search.proofs.RowLemmas.{as_lines, as_context, as_columns, as_spans, as_name, as_count, as_header}
use Rattle.views.specs.Rows.{shown_tree}
use Rattle.search.specs.Private.Seekers.{shows_matches}
use Rattle.search.proofs.SeekerLemmas.{can_show, has_seeker, seeks_shown}
use Rattle.search.proofs.rows.append_rows.Goals as goal

pub append_matched-requires-clause-seeks : goal.append_matched-requires-clause-seeks
append_matched-requires-clause-seeks g c =
    seeks_shown c.args.wanted.now c.args.seeker.now c.in-Some.seeker c.in-Some.is c.requires.seeker

pub append_matched-requires-in-Some-seeker-clause-seeks : goal.append_matched-requires-in-Some-seeker-clause-seeks
append_matched-requires-in-Some-seeker-clause-seeks g c =
    seeks_shown c.args.wanted.now c.args.seeker.now c.in-Some-seeker.seeker c.in-Some-seeker.is c.requires.seeker

pub returns-in-Some-clause-seeker : goal.returns-in-Some-clause-seeker
returns-in-Some-clause-seeker g c =
    can_show c.args.wanted.now c.append_matched.new.seeker (shown_tree (request_of c.args.wanted.now.prepared.now)) refl c.append_matched.ensures.seeks

pub returns-in-Some-seeker-clause-seeker : goal.returns-in-Some-seeker-clause-seeker
returns-in-Some-seeker-clause-seeker g c =
    can_show c.args.wanted.now c.append_matched-in-Some-seeker.new.seeker (shown_tree (request_of c.args.wanted.now.prepared.now)) refl c.append_matched-in-Some-seeker.ensures.seeks

pub returns-in-None-clause-rows : goal.returns-in-None-clause-rows
returns-in-None-clause-rows g c =
    absurd (has_seeker c.args.wanted.now c.args.seeker.now (ap shows_matches c.in-Column.is) c.in-None.is c.requires.seeker)

pub returns-in-None-seeker-clause-rows : goal.returns-in-None-seeker-clause-rows
returns-in-None-seeker-clause-rows g c =
    absurd (has_seeker c.args.wanted.now c.args.seeker.now (ap shows_matches c.in-Spans.is) c.in-None-seeker.is c.requires.seeker)

pub returns-in-Lines-clause-rows : goal.returns-in-Lines-clause-rows
returns-in-Lines-clause-rows g c =
    as_lines (request_of c.args.wanted.now.prepared.now) c.args.document.now.name c.args.document.now.held c.args.hits.now
    c.args.wanted.now.prepared.now.zero c.args.out.now.items c.args.out.now.items _ c.args.wanted.now.view c.in-Lines.is c.len.ensures refl

pub returns-in-Context-clause-rows : goal.returns-in-Context-clause-rows
returns-in-Context-clause-rows g c =
    IfOk-weaker c.append_stretches.result _ _ (λ n made. as_context (request_of c.args.wanted.now.prepared.now) c.args.document.now.name c.args.document.now.held c.args.hits.now
    c.args.wanted.now.prepared.now.zero c.args.out.now.items c.append_stretches.new.out.items n c.args.wanted.now.view c.in-Context.most c.in-Context.is made)
    c.append_stretches.ensures.rows

pub returns-in-Some-clause-rows : goal.returns-in-Some-clause-rows
returns-in-Some-clause-rows g c =
    IfOk-weaker c.append_matched.result _ _ (λ n made. as_columns (request_of c.args.wanted.now.prepared.now) c.args.document.now.name c.args.document.now.held c.args.hits.now
    c.args.wanted.now.prepared.now.zero c.args.out.now.items c.append_matched.new.out.items n c.args.wanted.now.view c.in-Column.is made)
    c.append_matched.ensures.rows

pub returns-in-Some-seeker-clause-rows : goal.returns-in-Some-seeker-clause-rows
returns-in-Some-seeker-clause-rows g c =
    IfOk-weaker c.append_matched-in-Some-seeker.result _ _ (λ n made. as_spans (request_of c.args.wanted.now.prepared.now) c.args.document.now.name c.args.document.now.held c.args.hits.now
    c.args.wanted.now.prepared.now.zero c.args.out.now.items c.append_matched-in-Some-seeker.new.out.items n c.args.wanted.now.view c.in-Spans.is made)
    c.append_matched-in-Some-seeker.ensures.rows

pub returns-in_ok-append_name-in-Names-clause-rows : goal.returns-in_ok-append_name-in-Names-clause-rows
returns-in_ok-append_name-in-Names-clause-rows g c =
    as_name (request_of c.args.wanted.now.prepared.now) c.args.document.now.name c.args.document.now.held c.args.hits.now
    c.args.wanted.now.prepared.now.zero c.args.out.now.items c.append_name.new.out.items _ c.args.wanted.now.view c.in-Names.is c.in_ok-append_name-in-Names.ensures

pub returns-in_ok-append_count-in-Counts-clause-rows : goal.returns-in_ok-append_count-in-Counts-clause-rows
returns-in_ok-append_count-in-Counts-clause-rows g c =
    as_count (request_of c.args.wanted.now.prepared.now) c.args.document.now.name c.args.document.now.held c.args.hits.now
    c.args.wanted.now.prepared.now.zero c.args.out.now.items c.append_count.new.out.items _ c.args.wanted.now.view c.len-in-Counts.result c.len-in-Counts.ensures c.in-Counts.is c.in_ok-append_count-in-Counts.ensures

pub returns-in-Header-clause-rows : goal.returns-in-Header-clause-rows
returns-in-Header-clause-rows g c =
    as_header (request_of c.args.wanted.now.prepared.now) c.args.document.now.name c.args.document.now.held c.args.hits.now
    c.args.wanted.now.prepared.now.zero c.args.out.now.items c.args.out.now.items 0 c.args.wanted.now.view c.in-Header.is refl refl
