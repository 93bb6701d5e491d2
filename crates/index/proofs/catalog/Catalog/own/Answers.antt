use Rattle.std.proofs.Common.{sym, ◌∙◌, ap}
use Rattle.index.specs.Private.Numbered.{number_of}
use Rattle.index.specs.Private.Store.{stored}
use Rattle.index.proofs.NamedLemmas.{number-named, alone}
use Rattle.index.proofs.catalog.Catalog.own.Goals as goal

pub returns-then-is_alone : goal.returns-then-is_alone
returns-then-is_alone c =
    let name = c.args.name.now in
    let contents = stored c.self.inside.store in
    let numbers = c.self.inside.numbers in
    let here = sym c.requires ∙ c.in-Some.is in
    let found = sym (number-named numbers contents name) ∙ ap (λ s. number_of name s.documents) c.self.view_is ∙ here in
    record {
      here = here;
      only = λ q also.
          alone c.self.invariant name c.in-Some.number found (c.is_alone.ensures c.if-is_alone.true) q
          (sym (number-named numbers contents q) ∙ ap (λ s. number_of q s.documents) c.self.view_is ∙ also);
    }
