-- The options of a find without their places in memory.
use Rattle.std.specs.Prelude.{map, option_map}
use Rattle.request.specs.Find.{NameTest, Options}
use Rattle.request.specs.declared.options.FindOptions.{FindOptions}
use Rattle.request.specs.declared.options.NameTest as program

-- a program's pattern of names, without the place of its bytes in memory
abbrev pub shown_test : program.NameTest → NameTest
shown_test test = record { pattern = test.pattern.now; wanted = test.wanted }

-- a program's options of a find, without places in memory
abbrev pub shown_options : FindOptions → Options
shown_options options = record {
  case = options.case;
  literal = options.literal;
  whole_words = options.whole_words;
  whole_lines = options.whole_lines;
  invert = options.invert;
  names = map shown_test options.names.items;
  under = map (λ prefix. prefix.now) options.under.items;
  not_under = map (λ prefix. prefix.now) options.not_under.items;
  name_case = options.name_case;
  limit = options.limit;
  view = options.view;
  zero = options.zero;
  lane = option_map (λ word. word.now) options.lane;
}
