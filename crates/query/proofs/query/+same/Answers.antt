use Rattle.std.proofs.Common.{map, ap, sym, ◌∙◌}
use Rattle.query.specs.Query.{formula_of, texts}
use Rattle.query.specs.Pairs.{texts_in}
use Rattle.query.proofs.Forms.{formula_of-Pairs}
use Rattle.query.proofs.QueryLemmas.{and_same, or_same}
use Rattle.query.proofs.query.+same.Goals as goal

pub is_same-returns-in-And-And : goal.is_same-returns-in-And-And
is_same-returns-in-And-And t c =
    λ same.
    rw (c.in-And-And.is-0, c.in-And-And.is-1)
    (and_same c.in-And-And.ones c.in-And-And.others
    (sym (ap (map formula_of) c.as_slice.ensures.value) ∙ c.are_same.ensures same
    ∙ ap (map formula_of) c.as_slice-in-And-And.ensures.value))

pub is_same-returns-in-Or-Or : goal.is_same-returns-in-Or-Or
is_same-returns-in-Or-Or t c =
    λ same.
    rw (c.in-Or-Or.is-0, c.in-Or-Or.is-1)
    (or_same c.in-Or-Or.ones c.in-Or-Or.others
    (sym (ap (map formula_of) c.as_slice-in-Or-Or.ensures.value) ∙ c.are_same-in-Or-Or.ensures same
    ∙ ap (map formula_of) c.as_slice-in-Or-Or-2.ensures.value))

pub is_same-returns-in-Pairs-Pairs : goal.is_same-returns-in-Pairs-Pairs
is_same-returns-in-Pairs-Pairs t c =
    λ same.
    rw (c.in-Pairs-Pairs.is-0, c.in-Pairs-Pairs.is-1)
    (formula_of-Pairs c.in-Pairs-Pairs.one
    ∙ ap texts
    (ap texts_in (sym c.deref.ensures) ∙ c.is_same.ensures same ∙ ap texts_in c.deref-in-Pairs-Pairs.ensures)
    ∙ sym (formula_of-Pairs c.in-Pairs-Pairs.other))
