-- What an index keeps of its documents.
use Rattle.std.specs.Prelude.{◌≡◌, ℕ, ◌<◌, ◌≤◌, ◌^◌, not, ◌&&◌, IsTrue, IsSome, List, length}
use Rattle.std.specs.Ordering.{nat_cmp}
use Rattle.std.specs.Cmp.Lexicographic.{slice_cmp}
use Rattle.std.specs.BTreeMap.{BTreeMap, IsOrdered, btree_map_len, get}
use Rattle.std.specs.Vec.{vec_len, vec_capacity}
use Rattle.query.specs.Trigrams.{trigrams_of_body}
use Rattle.posting.specs.ListValue.{has, HasRoom}
use Rattle.posting.specs.Postings.{set_of, IsPrepared, AllDiffer}
use Rattle.index.specs.declared.sets.Change.{Change}
use Rattle.index.specs.declared.store.Store.{Store}
use Rattle.documents.specs.Text.{IsName}
use Rattle.documents.specs.State.{body_bytes}
use Rattle.index.specs.Private.Numbered.{Document, document_at, body_bytes as content_bytes}
use Rattle.index.specs.Private.Contents.{Groups, AreContents, AreGroupsOf, has_name, is_number, named}
use Rattle.index.specs.Private.Plain.{plain_documents}
use Rattle.index.specs.Private.Slots.{documents_in, RiseTo, FewAreEmpty}
use Rattle.index.specs.Private.Sets.{AreSetsOf, NoneIsLeft, trigrams_at}

-- the documents that the store keeps
abbrev pub stored : Store → List Document
stored store = documents_in store.slots.items

-- The slots' numbers rise, none is above `last`, and few slots are empty. The sets and the counts of documents and bytes are those of the documents.
pub record IsStore (last : ℕ) (store : Store) : Type 0 where
  pub slots : RiseTo last store.slots.items
  pub few : FewAreEmpty store.slots.items
  pub sets : AreSetsOf (stored store) store.sets
  pub counted : store.count ≡ length (stored store)
  pub bytes : store.held_bytes ≡ content_bytes (stored store)

-- There is room for one more document, with this number and this body.
pub record HasPlaceFor (store : Store) (number : ℕ) (body : List ℕ) : Type 0 where
  pub slots : vec_len store.slots < vec_capacity store.slots
  pub live : HasRoom store.sets.live
  pub postings : (trigram : ℕ) → IsTrue (trigrams_of_body body trigram) → number < (set_of store.sets.postings trigram).limit
  pub none_left : NoneIsLeft store.sets.waiting

-- There is room for the document with this number to have this body. The change is from the trigrams that it has to those of
-- the body.
pub record IsReadyFor (store : Store) (number : ℕ) (body : List ℕ) (change : Change) : Type 0 where
  pub there : IsSome (document_at number (stored store))
  pub fresh : (t : ℕ) → has change.fresh t ≡ (trigrams_of_body body t && not (trigrams_at (stored store) number t))
  pub gone : (t : ℕ) → has change.gone t ≡ (trigrams_at (stored store) number t && not (trigrams_of_body body t))
  pub once : AllDiffer change.fresh
  pub room : IsPrepared store.sets.postings number change.fresh
  pub none_left : NoneIsLeft store.sets.waiting

-- The numbers and the groups of names are those of the contents that the store keeps: a name has a number exactly if it is one of the
-- names of the content with it. The count of bytes is that of all documents.
pub record IsIndex (version : ℕ) (numbers : BTreeMap (List ℕ) ℕ) (groups : Groups) (store : Store) (held_bytes : ℕ) : Type 0 where
  pub kept : IsStore version store
  pub contents : AreContents version (stored store)
  pub groups_of : AreGroupsOf (stored store) groups
  pub names : (number : ℕ) (name : List ℕ) → has_name groups (stored store) number name ≡ is_number number (get (slice_cmp nat_cmp) numbers name)
  pub ordered : IsOrdered (slice_cmp nat_cmp) numbers
  pub good : (name : List ℕ) → IsSome (get (slice_cmp nat_cmp) numbers name) → IsName name
  pub fewer : btree_map_len numbers < 2 ^ 32
  pub bytes : held_bytes ≡ body_bytes (plain_documents (named numbers (stored store)))
  pub few : version < 2 ^ 32
