use Rattle.std.proofs.Common.{◌≡◌, arith}
use Rattle.std.specs.Vec.{vec_len}
use Rattle.std.proofs.lemmas.Bool.Decides.{nat_tests}
use Rattle.segments.specs.Private.Selection.{trigrams_with, places_within}
use Rattle.segments.proofs.Selection.{some_pass, narrowed_none, narrowed_first, narrowed_more, narrowed_same, narrowed_empty, narrowed_ends, narrowed-rising}
use Rattle.segments.proofs.select.narrow_by_trigrams.Goals as goal
use Rattle.segments.proofs.select.narrow_by_trigrams.Goals.{in-Some+in_ok-found-in-Some, in-None+in_ok-found-in-None, then-i-first+in_ok-found, else-i-first}

pub loop-i-init : goal.loop-i-init
loop-i-init g c =
    let sets = c.args.table.now in
    let within = places_within c.args.count c.args.within in
    elim c.match-get.branch [
      | in-Some+in_ok-found-in-Some w ↦
          rw w.found-is
          (narrowed_first (λ n. trigrams_with sets n) c.args.trigrams.now c.in_ok-first.first w.in-Some.trigram.now within
          w.in_ok-found-in-Some.found.items w.in-Some.ensures.lookup.3.0 (w.in-Some.ensures.lookup.3.1 w.in-Some.trigram.now)
          w.in_ok-found-in-Some.ensures.found)
      | in-None+in_ok-found-in-None w ↦
          rw w.found-is
          (narrowed_none (λ n. trigrams_with sets n) c.args.trigrams.now c.in_ok-first.first within w.in_ok-found-in-None.found.items
          w.in-None.ensures.lookup.3 w.in_ok-found-in-None.ensures.all)
    ]

pub returns-then-is_empty-clause-found : goal.returns-then-is_empty-clause-found
returns-then-is_empty-clause-found g c =
    let none : vec_len c.loop-i.found ≡ 0 = grind (arith, nat_tests, c.is_empty.ensures, c.if-is_empty.true) in
    narrowed_empty (λ n. trigrams_with c.args.table.now n) c.args.trigrams.now c.in_ok-first.first c.loop-i.i (places_within c.args.count c.args.within)
    c.loop-i.found.items (omega (arith, none, c.loop-i.found.ok.0)) c.loop-i.invariant

pub among-requires : goal.among-requires
among-requires g c =
    rw c.as_slice.ensures.value
    (narrowed-rising (λ n. some_pass (trigrams_with c.args.table.now n) c.args.trigrams.now c.in_ok-first.first c.loop-i.i)
    (places_within c.args.count c.args.within) c.loop-i.found.items c.loop-i.invariant c.requires.rises.rising)

pub loop-i-preserved : goal.loop-i-preserved
loop-i-preserved g c =
    let sets = c.args.table.now in
    let within = places_within c.args.count c.args.within in
    let l = c.loop-i in
    elim c.if-i-first.branch [
      | then-i-first+in_ok-found w ↦
          rw w.found-is
          (narrowed_more (λ n. trigrams_with sets n) c.args.trigrams.now c.in_ok-first.first l.i w.index-trigrams-i.result within l.found.items
          w.in_ok-found.found.items c.loop-i-test.true w.index-trigrams-i.is l.invariant
          (rw (w.as_slice.ensures.value, w.places.ensures) at w.in_ok-found.ensures.found))
      | else-i-first w ↦
          rw w.found-is
          (narrowed_same (λ n. trigrams_with sets n) c.args.trigrams.now c.in_ok-first.first l.i 0 within l.found.items c.loop-i-test.true
          (omega (arith, w.if-i-first.false)) l.invariant)
    ]

pub returns-clause-found : goal.returns-clause-found
returns-clause-found g c =
    narrowed_ends (λ n. trigrams_with c.args.table.now n) c.args.trigrams.now c.in_ok-first.first c.loop-i.i
    (places_within c.args.count c.args.within) c.loop-i.found.items c.loop-i-test.false c.loop-i.invariant
