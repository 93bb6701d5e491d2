use Rattle.std.proofs.Common.{◌≡◌, ◌≤◌, take}
use Rattle.script.specs.Items.{line_feeds}
use Rattle.script.proofs.feeds.line_feeds_of_block.Given as goal

abbrev pub invariant-loop-byte : goal.invariant-loop-byte
invariant-loop-byte l = (l.count ≡ line_feeds (take l.byte-index l.block)) × (l.count ≤ l.byte-index)
