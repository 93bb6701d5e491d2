use Rattle.std.proofs.Common.{◌<◌}
use Rattle.posting.specs.Postings.{set_of}
use Rattle.posting.proofs.Members.{All-has}
use Rattle.posting.proofs.Changes.{All-from_has}
use Rattle.posting.proofs.laws.prepared_sets_have_room.Goals as goal

pub returns : goal.returns
returns c = λ table number trigrams. (
  λ prepared trigram there. All-has (λ t. number < (set_of table t).limit) trigrams trigram prepared there,
  λ each. All-from_has (λ t. number < (set_of table t).limit) trigrams each,
)
