use Rattle.std.proofs.Common.{ℕ, Bool, ◌&&◌, ◌==◌, OnOk, rules}
use Rattle.posting.specs.Private.Parts.{Grows, Fills}
use Rattle.posting.proofs.Fillings.{whole_kept, whole_grown, whole_filled}
use Rattle.posting.proofs.postings.Postings.put.Goals as goal

abbrev one : ℕ → ℕ → ℕ → ℕ → Bool
one trigram number t n = trigram == t && number == n

pub returns-clause-kept : goal.returns-clause-kept
returns-clause-kept c =
    let grown : Grows 0 c.self.inside.parts c.put.new.parts (one c.args.trigram c.args.number) = search rules in
    whole_kept c.self.inside.parts c.put.new.parts c.args.self.now (one c.args.trigram c.args.number) c.self.invariant c.self.view_is grown

pub returns-clause-grown : goal.returns-clause-grown
returns-clause-grown c =
    let grown : Grows 0 c.self.inside.parts c.put.new.parts (one c.args.trigram c.args.number) = search rules in
    whole_grown c.self.inside.parts c.put.new.parts c.args.self.now (one c.args.trigram c.args.number) c.self.invariant c.self.view_is grown

pub returns-clause-ok : goal.returns-clause-ok
returns-clause-ok c =
    let grown : Grows 0 c.self.inside.parts c.put.new.parts (one c.args.trigram c.args.number) = search rules in
    let filled : OnOk c.put.result (Fills 0 c.put.new.parts (one c.args.trigram c.args.number)) = search rules in
    whole_filled c.self.inside.parts c.put.new.parts c.args.self.now (one c.args.trigram c.args.number) c.put.result c.self.invariant c.self.view_is grown
    filled
