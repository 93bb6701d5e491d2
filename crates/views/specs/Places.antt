-- The hits at places in the bodies of documents.
use Rattle.std.specs.Prelude.{ℕ, ◌<◌, ◌≤◌, List, [], length, map, get_or, slice_range}
use Rattle.documents.specs.declared.document.SharedDocument.{SharedDocument}
use Rattle.views.specs.declared.places.Place.{Place}
use Rattle.views.specs.Found.{Hit}

-- the hit at a place in a document with this name and this body
abbrev pub hit_in : List ℕ → List ℕ → Place → Hit
hit_in name body place = record { name = name; line = place.line; text = slice_range body place.start place.end }

-- the document that a place is in; one without a name and a body if there is none
abbrev pub home_of : List SharedDocument → Place → SharedDocument
home_of documents place = get_or documents place.document (record { number = 0; name = []; held = [] })

abbrev pub hit_at : List SharedDocument → Place → Hit
hit_at documents place = let document = home_of documents place in hit_in document.name document.held place

abbrev pub hits_at : List SharedDocument → List Place → List Hit
hits_at documents places = map (hit_at documents) places

-- The place is in the body of one of the documents.
pub record IsPlaced (documents : List SharedDocument) (place : Place) : Type 0 where
  pub document : place.document < length documents
  pub ordered : place.start ≤ place.end
  pub inside : place.end ≤ length (home_of documents place).held
