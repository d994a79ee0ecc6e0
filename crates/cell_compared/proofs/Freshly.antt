-- The lines in pieces are those of the machine linked anew.
use Rattle.std.proofs.Common.{◌≡◌, refl, sym, ◌∙◌, ap, ℕ, Bool, true, false, cond, List, [], ◌∷◌, ◌++◌, map, append_assoc}
use Rattle.std.specs.Prelude.{filter, filter_map, flat_map}
use Rattle.std.proofs.lemmas.List.{map-append}
use Rattle.cell_num.specs.Lists.{In, numbered}
use Rattle.cell_num.proofs.Elements.{flat_same}
use Rattle.cell_object.specs.declared.object.Section.{Section as ObjectSection}
use Rattle.cell_audit.specs.Linking.{fresh_lines, relinked_content}
use Rattle.cell_world.specs.DumpLines.{cell_lines, link_line, ns_line, provider_lines, section_lines}
use Rattle.cell_world.specs.Linked.Relink.{link_of, links_of}
use Rattle.cell_world.specs.World.{Cell, World, is_attached}
use Rattle.cell_world.specs.declared.line.DumpLine.{DumpLine}
use Rattle.cell_world.specs.declared.line.DumpLine.TheVariants.{End, Space}
use Rattle.cell_compared.specs.Shown.{contents_shown, lines_shown, links_shown, names_shown}

module _ (w : World) where
  links_same : (cells : List Cell) → map link_line (flat_map (λ c. filter_map (link_of w c) (numbered c.object.entries)) cells) ≡ flat_map (links_shown w) cells
  links_same [] = refl
  links_same (c ∷ cells) =
      map-append link_line (filter_map (link_of w c) (numbered c.object.entries)) (flat_map (λ (d : Cell). filter_map (link_of w d) (numbered d.object.entries)) cells)
      ∙ ap (λ (ls : List DumpLine). links_shown w c ++ ls) (links_same cells)

  names_same : (cells : List Cell) → flat_map (provider_lines w) (filter (λ c. is_attached c.standing) cells) ≡ flat_map (names_shown w) cells
  names_same [] = refl
  names_same (c ∷ cells) = go (is_attached c.standing) (names_same cells)
    where
      go : (b : Bool) → flat_map (provider_lines w) (filter (λ (d : Cell). is_attached d.standing) cells) ≡ flat_map (names_shown w) cells
          → flat_map (provider_lines w) (cond b (c ∷ filter (λ (d : Cell). is_attached d.standing) cells) (filter (λ (d : Cell). is_attached d.standing) cells)) ≡ cond b (provider_lines w c) [] ++ flat_map (names_shown w) cells
      go true e = ap (λ (ls : List DumpLine). provider_lines w c ++ ls) e
      go false e = e

  -- all lines, by those of links, of names and of contents
  abbrev lines_with : List DumpLine → List DumpLine → List DumpLine → List DumpLine
  lines_with links names contents =
      ((Space w.base w.pages ∷ map ns_line (numbered w.namespaces)) ++ (flat_map cell_lines w.cells ++ (links ++ (names ++ contents)))) ++ End ∷ []

  grouped : (links names contents : List DumpLine) → ((Space w.base w.pages ∷ map ns_line (numbered w.namespaces)) ++ ((flat_map cell_lines w.cells ++ (links ++ names)) ++ contents)) ++ End ∷ [] ≡ lines_with links names contents
  grouped links names contents =
      ap (λ (ls : List DumpLine). ((Space w.base w.pages ∷ map ns_line (numbered w.namespaces)) ++ ls) ++ End ∷ [])
      (append_assoc (flat_map cell_lines w.cells) (links ++ names) contents ∙ ap (λ (ls : List DumpLine). flat_map cell_lines w.cells ++ ls) (append_assoc links names contents))

  module _ (content : Cell → ObjectSection → List ℕ) (lines : List DumpLine)
      (same : (c : Cell) → In c w.cells → (s : ObjectSection) → In s c.object.sections → content c s ≡ relinked_content lines w c s) where
    contents_same : flat_map (contents_shown content) w.cells ≡ flat_map (contents_shown (relinked_content lines w)) w.cells
    contents_same =
        flat_same (contents_shown content) (contents_shown (relinked_content lines w)) w.cells
        (λ c i. flat_same (section_lines content c) (section_lines (relinked_content lines w) c) c.object.sections
        (λ s m. ap (λ (bytes : List ℕ). section_lines (λ (d : Cell) (t : ObjectSection). bytes) c s) (same c i s m)))

    pub fresh_is : lines_shown content w ++ End ∷ [] ≡ fresh_lines lines w
    fresh_is =
        grouped (flat_map (links_shown w) w.cells) (flat_map (names_shown w) w.cells) (flat_map (contents_shown content) w.cells)
        ∙ (ap (λ (ls : List DumpLine). lines_with ls (flat_map (names_shown w) w.cells) (flat_map (contents_shown content) w.cells)) (sym (links_same w.cells))
        ∙ (ap (λ (ls : List DumpLine). lines_with (map link_line (links_of w)) ls (flat_map (contents_shown content) w.cells)) (sym (names_same w.cells))
        ∙ ap (λ (ls : List DumpLine). lines_with (map link_line (links_of w)) (flat_map (provider_lines w) (filter (λ (c : Cell). is_attached c.standing) w.cells)) ls) contents_same))
