-- What a prepared search asks for.
use Rattle.std.specs.Prelude.{map, Some, None, if◌then◌else◌}
use Rattle.ere.specs.Tree.{Tree, Trees, cat, more, form}
use Rattle.prefixes.specs.Under.{is_within}
use Rattle.prepare.specs.declared.pattern.Prepared.{Prepared}
use Rattle.prepare.specs.Pattern.{Pattern}
use Rattle.prepare.specs.Request.{Request}
use Rattle.prepare.specs.Tests.{test_of}

abbrev pub pattern_of : Prepared → Pattern
pattern_of p = record { line = test_of p.line; names = map test_of p.names.items; within = is_within p.under p.not_under }

-- the second of these trees, or another if there are not so many
abbrev pub second : Trees → Tree → Tree
second (more first (more tree trees)) otherwise = tree
second _ otherwise = otherwise

-- the second member of a tree that has members one after another, or else the tree itself
abbrev pub inside : Tree → Tree
inside (cat members) = second members (cat members)
inside tree = tree

-- The tree of whole words is that between the edges of words.
abbrev pub request_of : Prepared → Request
request_of p = record {
  pattern = pattern_of p;
  word = if p.words then Some (inside (form p.line.tree)) else None;
  view = p.view;
  limit = p.limit;
  zero = p.zero;
}
