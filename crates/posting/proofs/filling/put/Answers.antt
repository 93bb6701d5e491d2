use Rattle.std.proofs.Common.{◌-◌, refl}
use Rattle.posting.proofs.Fillings.{grows_found, fills_found}
use Rattle.posting.proofs.filling.put.Goals as goal

pub returns-clause-grown : goal.returns-clause-grown
returns-clause-grown c =
    grows_found c.args.first c.args.parts.now c.part_of-part.result (c.part_of-part.result - c.args.first) c.place_in_part.result c.index-parts-part.result
    c.put.new.self c.args.trigram c.args.number c.put.result refl c.if-part-first.false c.part_of-part.ensures.part c.place_in_part.ensures
    c.if-part-first-2.false c.index-parts-part.is c.put.ensures.ok c.put.ensures.err

pub returns-clause-ok : goal.returns-clause-ok
returns-clause-ok c =
    fills_found c.args.first c.args.parts.now c.part_of-part.result (c.part_of-part.result - c.args.first) c.place_in_part.result c.index-parts-part.result
    c.put.new.self c.args.trigram c.args.number c.put.result c.part_of-part.ensures.is_trigram refl c.if-part-first.false c.part_of-part.ensures.part c.place_in_part.ensures
    c.if-part-first-2.false c.index-parts-part.is c.put.ensures.ok
