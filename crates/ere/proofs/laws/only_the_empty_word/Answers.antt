use Rattle.ere.specs.Language.{InLanguage}
use Rattle.ere.proofs.laws.only_the_empty_word.Goals as goal

pub returns : goal.returns
unfolding InLanguage
returns c = λ before word after. (λ h. h, λ h. h)
