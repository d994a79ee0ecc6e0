use Rattle.std.proofs.Common.{◌++◌, ℕ, List, ap, length, ◌∙◌}
use Rattle.cell_object.specs.declared.object.Section.{Section}
use Rattle.cell_object.specs.Strings.{string, place_in}
use Rattle.cell_object.specs.Rows.{section_row_bytes}
use Rattle.cell_object.specs.ImageParts.{padded, content}
use Rattle.cell_object.specs.Image.{section_row}
use Rattle.cell_elfw.proofs.Stages.{section_more}
use Rattle.cell_elfw.proofs.draft.Draft.of_sections.Goals as goal

pub loop-section-preserved : goal.loop-section-preserved
loop-section-preserved c =
    let was = c.loop-section.draft in
    let now = c.add_section.new.self in
    let put = c.in_ok-add_section.ensures in
    let row : Section → List ℕ = λ s. was.own_rows.items ++ section_row_bytes (section_row (place_in (length was.names.items) s.name) (length was.file.items) s) in
    record {
      sections = section_more was.file.items was.names.items was.own_rows.items now.file.items now.names.items now.own_rows.items c.args.sections.now c.loop-section.section-index c.section-item.result c.loop-section-test.true c.loop-section.invariant.sections
          (put.file ∙ ap (λ s. was.file.items ++ padded (content s)) c.section-item.is)
          (put.names ∙ ap (λ s. was.names.items ++ string s.name) c.section-item.is)
          (put.rows ∙ ap row c.section-item.is);
      tables = put.tables ∙ c.loop-section.invariant.tables;
    }
