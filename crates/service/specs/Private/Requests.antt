-- Searches as they are asked for.
use Rattle.script.specs.Items.{Item, search, search_in, find}
use Rattle.service.specs.declared.question.Texts.{Texts}
use Rattle.service.specs.declared.question.Texts.TheVariants as texts

-- the search with these texts
abbrev pub search_of : Texts → Item
search_of (texts.Search case pattern) = search case pattern.items
search_of (texts.SearchIn case name_pattern pattern) = search_in case name_pattern.items pattern.items
search_of (texts.Find words) = find words.items
