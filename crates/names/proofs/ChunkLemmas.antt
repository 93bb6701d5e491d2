-- What a chunk's fields say of its entries.
use Rattle.std.proofs.Common.{◌≡◌, ℕ, ◌<◌, List, [], ◌++◌, length, get_or, ◌∙◌}
use Rattle.std.specs.Prelude.{vec_len}
use Rattle.std.specs.Arc.{arc_value, arc_slice_items}
use Rattle.names.specs.declared.content.Content.{Content}
use Rattle.names.specs.declared.chunk.Chunk.TheInside.{Inside}
use Rattle.names.specs.Private.Entries.{Entry, pairs, with_prefix, IsChunk}
use Rattle.names.proofs.PairLemmas.{count_is, view_name, view_content, view_length, with_prefix-get, suffix_inside}

abbrev pub names_of : Inside → List (List ℕ)
names_of i = with_prefix (arc_slice_items i.prefix) (arc_value i.body).suffixes

module _ (i : Inside) (view : List Entry) (is : IsChunk (names_of i) (arc_value i.body).contents.items (arc_value i.body).bytes)
    (view_is : pairs (names_of i) (arc_value i.body).contents.items ≡ view) where
  pub chunk_count : vec_len (arc_value i.body).contents ≡ length view
  chunk_count = count_is (names_of i) (arc_value i.body).contents (arc_value i.body).bytes view is view_is

  pub chunk_suffix : (at : ℕ) → at < length view → at < length (arc_value i.body).suffixes
  chunk_suffix at inside =
      suffix_inside (arc_slice_items i.prefix) (arc_value i.body).suffixes at view
      (view_length (names_of i) (arc_value i.body).contents (arc_value i.body).bytes view is view_is) inside

  pub chunk_name : (at : ℕ) (d : Entry) → at < length view → (get_or view at d).0 ≡ arc_slice_items i.prefix ++ get_or (arc_value i.body).suffixes at []
  chunk_name at d inside =
      view_name (names_of i) (arc_value i.body).contents (arc_value i.body).bytes view is view_is at d inside
      ∙ with_prefix-get (arc_slice_items i.prefix) (arc_value i.body).suffixes at (chunk_suffix at inside)

  pub chunk_content : (at : ℕ) (d : Entry) (e : Content) → at < length view → (get_or view at d).1 ≡ get_or (arc_value i.body).contents.items at e
  chunk_content at d e inside = view_content (names_of i) (arc_value i.body).contents (arc_value i.body).bytes view is view_is at d e inside
