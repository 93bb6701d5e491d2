use Rattle.std.proofs.Common.{◌∙◌, take}
use Rattle.engine.proofs.CutLemmas.{count_lines}
use Rattle.engine.proofs.line.lines_before.Goals as goal

pub returns : goal.returns
returns c = c.line_feeds.ensures ∙ count_lines (take c.args.start c.args.text.now) c.requires.whole_lines
