use Rattle.std.proofs.Common.{◌≡◌, ℕ, ◌≤◌, length}
use Rattle.posting.specs.Postings.{slot_limit, set_of}
use Rattle.posting.specs.Private.Parts.{whole_of}
use Rattle.posting.proofs.postings.Postings.give_back.Given as goal

abbrev pub invariant-loop-number : goal.invariant-loop-number
invariant-loop-number l = record {
  count : length l.self-inside.parts ≡ 8;
  members : (t : ℕ) → (set_of (whole_of l.self-inside.parts) t).members ≡ (set_of (whole_of l.initial.self-inside.parts) t).members;
  limits : (t : ℕ) → (set_of (whole_of l.initial.self-inside.parts) t).limit ≤ slot_limit → (set_of (whole_of l.self-inside.parts) t).limit ≤ slot_limit;
}
