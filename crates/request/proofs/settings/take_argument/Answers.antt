use Rattle.std.proofs.Common.{◌≡◌, ◌<◌, ◌≤◌, sym, subst, ◌∙◌, ap, length}
use Rattle.request.specs.Settings.{SpellsNumber}
use Rattle.request.specs.Words.{after_word, first_word}
use Rattle.request.proofs.settings.take_argument.Goals as goal

pub returns-in-None-clause-err : goal.returns-in-None-clause-err
returns-in-None-clause-err c = λ settings whole named after free.
    let word : first_word (after_word whole) ≡ c.cut_word-cut-in-Number.result.word.now =
    ap first_word after ∙ sym c.cut_word-cut-in-Number.ensures.word in (
      named,
      free,
      c.in-Number.least,
      c.in-Number.greatest,
      sym c.takes.ensures ∙ c.in-Number.is,
      λ n spelled low high. c.in-None.ensures n (subst (λ digits. SpellsNumber digits n) word spelled) low high,
    )

pub returns-then-not-is_short-clause-err : goal.returns-then-not-is_short-clause-err
returns-then-not-is_short-clause-err c = λ settings whole named after free.
    let word : first_word (after_word whole) ≡ c.cut_word-cut-in-ShortWord.result.word.now =
    ap first_word after ∙ sym c.cut_word-cut-in-ShortWord.ensures.word in (
      named,
      free,
      c.in-ShortWord.most,
      sym c.takes.ensures ∙ c.in-ShortWord.is,
      subst (λ w. 0 < length w → length w ≤ c.in-ShortWord.most → ⊥) (sym word) c.if-not-is_short.ensures,
    )
