-- What the values of the program's analysis mean: sets of texts, and what is known about words.
use Rattle.std.specs.Prelude.{◌≡◌, true, take}
pub use Rattle.query.specs.Texts.{texts_of}
use Rattle.query.specs.Query.{formula_of, is_met, IsPlain}
use Rattle.trigram.specs.declared.analysis.Ends.{Ends}
use Rattle.trigram.specs.declared.analysis.Analysis as program
use Rattle.trigram.specs.declared.analysis.Analysis.TheVariants.{Known, Loose}
use Rattle.trigram.specs.declared.texts.Side.{Side}
use Rattle.trigram.specs.declared.texts.Side.TheVariants.{Prefix, Suffix}
use Rattle.trigram.specs.Texts.{Cut, ending}
use Rattle.trigram.specs.Analysis.{Analysis, known, loose}

-- the cut at one end
abbrev pub cut_at : Side → Cut
cut_at Prefix = take
cut_at Suffix = ending

-- the analysis that the program's loose ends mean
abbrev pub ends_analysis : Ends → Analysis
ends_analysis ends = loose ends.nullable (texts_of ends.prefixes.items) (texts_of ends.suffixes.items) (is_met (formula_of ends.condition))

-- the program's analysis as a plain value: texts for its vectors, and a test for its query
abbrev pub shown_analysis : program.Analysis → Analysis
shown_analysis (Known texts) = known (texts_of texts.items)
shown_analysis (Loose ends) = ends_analysis ends

abbrev pub ArePlain : program.Analysis → Type 0
ArePlain (Known texts) = Unit {0}
ArePlain (Loose ends) = IsPlain (formula_of ends.condition)

-- what is known, apart from the condition of loose ends
abbrev pub without_condition : Analysis → Analysis
without_condition (known texts) = known texts
without_condition (loose nullable prefixes suffixes condition) = loose nullable prefixes suffixes (λ _. true)

-- The program's analysis is this one, and its condition is plain.
pub record StandFor (analysis : Analysis) (found : program.Analysis) : Type 0 where
  pub plain : ArePlain found
  pub is : shown_analysis found ≡ analysis

-- The program's loose ends are this analysis, and their condition is plain.
pub record EndsStandFor (analysis : Analysis) (ends : Ends) : Type 0 where
  pub plain : IsPlain (formula_of ends.condition)
  pub is : ends_analysis ends ≡ analysis
