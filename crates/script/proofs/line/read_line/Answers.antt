use Rattle.std.proofs.Common.{◌≡◌, rules, codes}
use Rattle.std.specs.Prelude.{option_map}
use Rattle.script.specs.Fields.{fields_of}
use Rattle.script.specs.Private.Cuts.{shown_fields}
use Rattle.script.proofs.PutLemmas.{put_line_by_header, no_put_line, is_put_by_keyword}
use Rattle.script.proofs.line.read_line.Goals as goal

pub returns-in-Some : goal.returns-in-Some
returns-in-Some c =
    let fields : fields_of c.args.line.now ≡ shown_fields (codes "put") (option_map (λ rest. rest.now) c.cut_at_space.result.1) = search rules in
    put_line_by_header c.args.line.now _ c.in-Some.header.name.now c.in-Some.header.size c.requires fields c.in-Some.ensures

pub returns-in-None : goal.returns-in-None
returns-in-None c =
    let fields : fields_of c.args.line.now ≡ shown_fields (codes "put") (option_map (λ rest. rest.now) c.cut_at_space.result.1) = search rules in
    (is_put_by_keyword c.args.line.now _ fields, no_put_line c.args.line.now _ fields c.in-None.ensures)
