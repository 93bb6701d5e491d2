use Rattle.std.proofs.Common.{sym, ◌∙◌, ap, refl}
use Rattle.std.specs.Prelude.{option_map}
use Rattle.std.specs.Borrow.{Bor}
use Rattle.names.specs.declared.content.Content.{Content}
use Rattle.versions.specs.Private.Growing.IsPlaced.{named}
use Rattle.versions.proofs.growing.placed.Goals as goal

pub returns-in-Some : goal.returns-in-Some
returns-in-Some c =
    named c.in-Some.content.now
    (record {
      name = c.as_bytes.result.now;
      found = sym c.get.ensures ∙ ap (option_map (λ (content : Bor Content). content.now)) c.in-Some.is;
    }) refl refl
