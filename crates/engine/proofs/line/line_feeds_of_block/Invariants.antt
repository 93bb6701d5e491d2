use Rattle.std.proofs.Common.{◌≡◌, ◌≤◌, ◌+◌, drop}
use Rattle.engine.specs.FirstLine.{line_feeds}
use Rattle.engine.proofs.line.line_feeds_of_block.Given as goal

abbrev pub invariant-loop-byte : goal.invariant-loop-byte
invariant-loop-byte l = (l.count + line_feeds (drop l.byte-index l.block) ≡ line_feeds l.block) × (l.count ≤ l.byte-index)
