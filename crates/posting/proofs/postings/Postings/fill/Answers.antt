use Rattle.std.proofs.Common.{OnOk, rules}
use Rattle.posting.specs.Postings.{is_listed}
use Rattle.posting.specs.Private.Parts.{Grows, Fills}
use Rattle.posting.proofs.Fillings.{whole_kept, whole_grown, whole_filled}
use Rattle.posting.proofs.postings.Postings.fill.Goals as goal

pub returns-clause-kept : goal.returns-clause-kept
returns-clause-kept g c =
    let grown : Grows 0 c.self.inside.parts c.fill_parts.new.parts (is_listed c.args.entries.now) = search rules in
    whole_kept c.self.inside.parts c.fill_parts.new.parts c.args.self.now (is_listed c.args.entries.now) c.self.invariant c.self.view_is grown

pub returns-clause-grown : goal.returns-clause-grown
returns-clause-grown g c =
    let grown : Grows 0 c.self.inside.parts c.fill_parts.new.parts (is_listed c.args.entries.now) = search rules in
    whole_grown c.self.inside.parts c.fill_parts.new.parts c.args.self.now (is_listed c.args.entries.now) c.self.invariant c.self.view_is grown

pub returns-clause-ok : goal.returns-clause-ok
returns-clause-ok g c =
    let grown : Grows 0 c.self.inside.parts c.fill_parts.new.parts (is_listed c.args.entries.now) = search rules in
    let filled : OnOk c.fill_parts.result (Fills 0 c.fill_parts.new.parts (is_listed c.args.entries.now)) = search rules in
    whole_filled c.self.inside.parts c.fill_parts.new.parts c.args.self.now (is_listed c.args.entries.now) c.fill_parts.result c.self.invariant
    c.self.view_is grown filled
