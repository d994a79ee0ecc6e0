-- What is selected of the lines of a dump, group by group.
use Rattle.std.proofs.Common.{◌≡◌, refl, ◌∙◌, ap, subst, ℕ, zero, suc, ◌+◌, List, [], ◌∷◌, ◌++◌, map, length, take, drop, Option, Some, None}
use Rattle.std.specs.Prelude.{◌/◌, filter, filter_map, option_map}
use Rattle.std.specs.List.{cons_option, flat_map}
use Rattle.std.proofs.lemmas.List.{append-nil}
use Rattle.std.proofs.lemmas.List.Elements.{filter_map-append}
use Rattle.cell_num.specs.Lists.{numbered}
use Rattle.cell_object.specs.declared.object.Section.{Section as ObjectSection}
use Rattle.cell_world.specs.declared.reply.Found.{Found}
use Rattle.cell_world.specs.Names.{names_of}
use Rattle.cell_world.specs.Linked.Target.{start_of}
use Rattle.cell_world.specs.World.{World, Cell, Alias, is_attached}
use Rattle.cell_world.specs.DumpLines.{cell_lines, lines_by, lines_within, link_line, ns_line, part_of, provided_at, provider_line, provider_lines, section_lines}
use Rattle.cell_world.specs.declared.line.DumpLine.{DumpLine}
use Rattle.cell_world.specs.declared.line.DumpLine.TheVariants.{Space, Ns, Link, Provider, Content, End}
use Rattle.cell_world.specs.declared.line.Part.{Part}

module _ {Y : Type 0} (f : DumpLine → Option Y) where
  abbrev pub selected : List DumpLine → List Y
  selected lines = filter_map f lines

  pub quiet_map : {X : Type 0} (g : X → DumpLine) (xs : List X) → ((x : X) → f (g x) ≡ None) → selected (map g xs) ≡ []
  quiet_map g [] h = refl
  quiet_map g (x ∷ xs) h = ap (λ (o : Option Y). cons_option o (filter_map f (map g xs))) (h x) ∙ quiet_map g xs h

  pub flat_selected : {X : Type 0} (g : X → List DumpLine) (xs : List X) → selected (flat_map g xs) ≡ flat_map (λ x. selected (g x)) xs
  flat_selected g [] = refl
  flat_selected g (x ∷ xs) = filter_map-append f (g x) (flat_map g xs) ∙ ap (λ (ys : List Y). selected (g x) ++ ys) (flat_selected g xs)

  pub none_of : {X : Type 0} (g : X → List Y) (xs : List X) → ((x : X) → g x ≡ []) → flat_map g xs ≡ []
  none_of g [] h = refl
  none_of g (x ∷ xs) h = ap (λ (ys : List Y). ys ++ flat_map g xs) (h x) ∙ none_of g xs h

  quiet_known : {X : Type 0} (g : X → Option DumpLine) (xs : List X) → ((x : X) (y : DumpLine) → g x ≡ Some y → f y ≡ None) → selected (filter_map g xs) ≡ []
  quiet_known g [] h = refl
  quiet_known g (x ∷ xs) h = go (g x) refl (quiet_known g xs h)
    where
      go : (o : Option DumpLine) → g x ≡ o → selected (filter_map g xs) ≡ [] → selected (cons_option o (filter_map g xs)) ≡ []
      go None e k = k
      go (Some y) e k = ap (λ (p : Option Y). cons_option p (selected (filter_map g xs))) (h x y e) ∙ k

  module _ (content : Cell → ObjectSection → List ℕ) (w : World) where
    abbrev spaces : List DumpLine
    spaces = map ns_line (numbered w.namespaces)

    abbrev cells : List DumpLine
    cells = flat_map cell_lines w.cells

    abbrev links : List DumpLine
    links = map link_line w.links

    abbrev providers : List DumpLine
    providers = flat_map (provider_lines w) (filter (λ c. is_attached c.standing) w.cells)

    abbrev pub contents : List DumpLine
    contents = flat_map (λ c. flat_map (section_lines content c) c.object.sections) w.cells

    -- group by group
    groups : selected (lines_by content w)
        ≡ (selected (Space w.base w.pages ∷ []) ++ selected spaces ++ (selected cells ++ (selected links ++ (selected providers ++ selected contents)))) ++ selected (End ∷ [])
    groups =
        filter_map-append f ((Space w.base w.pages ∷ spaces) ++ (cells ++ (links ++ (providers ++ contents)))) (End ∷ [])
        ∙ ap (λ (ys : List Y). ys ++ selected (End ∷ []))
        (filter_map-append f (Space w.base w.pages ∷ spaces) (cells ++ (links ++ (providers ++ contents)))
        ∙ ap (λ (ys : List Y). ys ++ selected (cells ++ (links ++ (providers ++ contents)))) (filter_map-append f (Space w.base w.pages ∷ []) spaces)
        ∙ ap (λ (ys : List Y). selected (Space w.base w.pages ∷ []) ++ selected spaces ++ ys)
        (filter_map-append f cells (links ++ (providers ++ contents))
        ∙ ap (λ (ys : List Y). selected cells ++ ys)
        (filter_map-append f links (providers ++ contents)
        ∙ ap (λ (ys : List Y). selected links ++ ys) (filter_map-append f providers contents))))

    quiet_links : ((u t : Part) (e : ℕ) → f (Link u e t) ≡ None) → selected links ≡ []
    quiet_links h = quiet_map link_line w.links (λ l. h (part_of l.user) (part_of l.target) l.entry)

    quiet_providers : ((ns : ℕ) (name : List ℕ) (at : Part) (offset : ℕ) → f (Provider ns name at offset) ≡ None) → selected providers ≡ []
    quiet_providers h =
        flat_selected (provider_lines w) (filter (λ c. is_attached c.standing) w.cells)
        ∙ none_of (λ (c : Cell). selected (provider_lines w c)) (filter (λ c. is_attached c.standing) w.cells)
        (λ c. quiet_known (λ (a : Alias). provider_line w c.ns a.name) (names_of c) (λ a y e. go c.ns a (provided_at w c.ns a.name) y e))
      where
        go : (ns : ℕ) (a : Alias) (o : Option Found) (y : DumpLine) → option_map (λ f. Provider ns a.name (part_of f.key) f.offset) o ≡ Some y → f y ≡ None
        go ns a None y e = absurd cc
        go ns a (Some found) y e = subst (λ (l : Option DumpLine). elim l as (λ _. Type 0) [ None ↦ Unit {0} | Some z ↦ f z ≡ None ]) e (h ns a.name (part_of found.key) found.offset)

    quiet_contents : ((at : Part) (addr : ℕ) (bytes : List ℕ) → f (Content at addr bytes) ≡ None) → selected contents ≡ []
    quiet_contents h =
        flat_selected (λ (c : Cell). flat_map (section_lines content c) c.object.sections) w.cells
        ∙ none_of (λ (c : Cell). selected (flat_map (section_lines content c) c.object.sections)) w.cells
        (λ c. flat_selected (section_lines content c) c.object.sections
        ∙ none_of (λ (s : ObjectSection). selected (section_lines content c s)) c.object.sections
        (λ s. within ((length (content c s) + 63) / 64) (record { cell = c.id.0; section = s.number }) (start_of c.placed s.number) (content c s)))
      where
        within : (n : ℕ) (at : Part) (addr : ℕ) (bytes : List ℕ) → selected (lines_within n at addr bytes) ≡ []
        within zero at addr bytes = refl
        within (suc n) at addr bytes =
            ap (λ (o : Option Y). cons_option o (selected (lines_within n at (addr + 64) (drop 64 bytes)))) (h at addr (take 64 bytes)) ∙ within n at (addr + 64) (drop 64 bytes)

    -- of the lines of cells alone
    pub record OnlyCells : Type 0 where
      pub space : (b p : ℕ) → f (Space b p) ≡ None
      pub ns : (n : ℕ) (name : List ℕ) (p : Option ℕ) → f (Ns n name p) ≡ None
      pub link : (u t : Part) (e : ℕ) → f (Link u e t) ≡ None
      pub provider : (ns : ℕ) (name : List ℕ) (at : Part) (offset : ℕ) → f (Provider ns name at offset) ≡ None
      pub bytes : (at : Part) (addr : ℕ) (bytes : List ℕ) → f (Content at addr bytes) ≡ None
      pub end : f End ≡ None

    pub of_cells : OnlyCells → selected (lines_by content w) ≡ flat_map (λ c. selected (cell_lines c)) w.cells
    of_cells o =
        groups
        ∙ (rw (o.space w.base w.pages, o.end, quiet_map ns_line (numbered w.namespaces) (λ p. o.ns p.0 p.1.name p.1.parent), quiet_links o.link, quiet_providers o.provider, quiet_contents o.bytes) (append-nil (selected cells ++ []) ∙ append-nil (selected cells))
        ∙ flat_selected cell_lines w.cells)

    -- of the lines of namespaces alone
    pub record OnlySpaces : Type 0 where
      pub space : (b p : ℕ) → f (Space b p) ≡ None
      pub cell : (c : Cell) → selected (cell_lines c) ≡ []
      pub link : (u t : Part) (e : ℕ) → f (Link u e t) ≡ None
      pub provider : (ns : ℕ) (name : List ℕ) (at : Part) (offset : ℕ) → f (Provider ns name at offset) ≡ None
      pub bytes : (at : Part) (addr : ℕ) (bytes : List ℕ) → f (Content at addr bytes) ≡ None
      pub end : f End ≡ None

    pub of_spaces : OnlySpaces → selected (lines_by content w) ≡ selected (map ns_line (numbered w.namespaces))
    of_spaces o =
        groups
        ∙ rw (o.space w.base w.pages, o.end, flat_selected cell_lines w.cells ∙ none_of (λ (c : Cell). selected (cell_lines c)) w.cells o.cell, quiet_links o.link, quiet_providers o.provider, quiet_contents o.bytes) (append-nil (selected spaces ++ []) ∙ append-nil (selected spaces))

    -- of the bytes alone
    pub record OnlyContents : Type 0 where
      pub space : (b p : ℕ) → f (Space b p) ≡ None
      pub ns : (n : ℕ) (name : List ℕ) (p : Option ℕ) → f (Ns n name p) ≡ None
      pub cell : (c : Cell) → selected (cell_lines c) ≡ []
      pub link : (u t : Part) (e : ℕ) → f (Link u e t) ≡ None
      pub provider : (ns : ℕ) (name : List ℕ) (at : Part) (offset : ℕ) → f (Provider ns name at offset) ≡ None
      pub end : f End ≡ None

    pub of_contents : OnlyContents → selected (lines_by content w) ≡ selected contents
    of_contents o =
        groups
        ∙ rw (o.space w.base w.pages, o.end, quiet_map ns_line (numbered w.namespaces) (λ p. o.ns p.0 p.1.name p.1.parent), flat_selected cell_lines w.cells ∙ none_of (λ (c : Cell). selected (cell_lines c)) w.cells o.cell, quiet_links o.link, quiet_providers o.provider) (append-nil (selected contents))
