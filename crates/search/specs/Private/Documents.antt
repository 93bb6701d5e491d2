-- The lines of the documents that are taken.
use Rattle.std.specs.Prelude.{List}
use Rattle.documents.specs.declared.document.SharedDocument.{SharedDocument}
use Rattle.views.specs.Found.{Hit}
use Rattle.views.specs.Found.{lines_of_document}

abbrev pub lines_of_taken : SharedDocument → List Hit
lines_of_taken taken = lines_of_document taken.name taken.held
