use Rattle.std.proofs.Common.{refl, ◌-◌, length, drop}
use Rattle.std.proofs.lemmas.List.Elements.{All-take, All-drop}
use Rattle.search.specs.Private.Known.{IsTold}
use Rattle.search.proofs.GathersLemmas.{gathers-begin, gathers-all}
use Rattle.search.proofs.gathered.gather.Goals as goal

pub returns-clause-gathers : goal.returns-clause-gathers
returns-clause-gathers g c = λ own told.
    let documents = c.args.documents.now in
    let few = c.in_ok-few.few in
    let Told = IsTold c.args.wanted.now.known.now.entries.items in
    gathers-all c.args.wanted.now c.args.documents.now _ c.gather_few.new.gathered c.gather_compiled.new.gathered c.in_ok-few.few
    (gathers-begin c.args.wanted.now _ c.new.ensures c.new-2.ensures.items refl refl refl) (c.in_ok-few.ensures.gathers told)
    (c.in_ok-gather_compiled.ensures.gathers (All-take Told (length documents - few) (drop few documents) (All-drop Told few documents told))) own
