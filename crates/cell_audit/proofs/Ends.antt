-- The last line of a dump is the one that ends it, and no other line is.
use Rattle.std.proofs.Common.{◌≡◌, refl, sym, ◌∙◌, ap, subst, arith, length, ℕ, zero, suc, ◌+◌, Bool, true, false, List, [], ◌∷◌, ◌++◌, map, true≢false, Option, Some, None}
use Rattle.std.specs.Prelude.{◌/◌, codes, drop, filter, filter_map, option_map}
use Rattle.std.specs.List.{cons_option, flat_map, list_all}
use Rattle.std.proofs.lemmas.Bool.{and_parts, and_from}
use Rattle.cell_num.specs.Lists.{numbered}
use Rattle.cell_num.proofs.Elements.{In-all, In-flat_map, all-In}
use Rattle.cell_num.proofs.Sublists.{all-append}
use Rattle.cell_object.specs.declared.object.Section.{Section as ObjectSection}
use Rattle.cell_world.specs.declared.reply.Found.{Found}
use Rattle.cell_world.specs.Names.{names_of}
use Rattle.cell_world.specs.Linked.Target.{start_of}
use Rattle.cell_world.specs.World.{World, Cell, Alias, is_attached}
use Rattle.cell_world.specs.DumpLines.{alias_line, cell_lines, lines_before_end, lines_by, lines_within, link_line, ns_line, part_of, place_line, provided_at, provider_line, provider_lines, section_lines}
use Rattle.cell_dumped.specs.Texts.{line_text}
use Rattle.cell_world.specs.declared.line.DumpLine.{DumpLine}
use Rattle.cell_world.specs.declared.line.DumpLine.TheVariants.{Space, Ns, Cell as CellLine, Place, Alias as AliasLine, Link, Provider, Content, End}
use Rattle.cell_world.specs.declared.line.Part.{Part}

abbrev pub is_other : DumpLine → Bool
is_other (Space base pages) = true
is_other (Ns number name parent) = true
is_other (CellLine cell ns stem file group) = true
is_other (Place cell section start) = true
is_other (AliasLine cell symbol name) = true
is_other (Link user entry target) = true
is_other (Provider ns name at offset) = true
is_other (Content at addr bytes) = true
is_other End = false

abbrev first_byte : List ℕ → ℕ
first_byte [] = 0
first_byte (b ∷ bytes) = b

-- only the line that ends a dump has its text
pub end_text : (l : DumpLine) → line_text l ≡ codes "end" → is_other l ≡ false
end_text (Space base pages) e = let k : 115 ≡ 101 = ap first_byte e in absurd (omega (arith, k))
end_text (Ns number name parent) e = let k : 110 ≡ 101 = ap first_byte e in absurd (omega (arith, k))
end_text (CellLine cell ns stem file group) e = let k : 99 ≡ 101 = ap first_byte e in absurd (omega (arith, k))
end_text (Place cell section start) e = let k : 112 ≡ 101 = ap first_byte e in absurd (omega (arith, k))
end_text (AliasLine cell symbol name) e = let k : 97 ≡ 101 = ap first_byte e in absurd (omega (arith, k))
end_text (Link user entry target) e = let k : 108 ≡ 101 = ap first_byte e in absurd (omega (arith, k))
end_text (Provider ns name at offset) e = let k : 110 ≡ 101 = ap first_byte e in absurd (omega (arith, k))
end_text (Content at addr bytes) e = let k : 98 ≡ 101 = ap first_byte e in absurd (omega (arith, k))
end_text End e = refl

-- nothing stands behind a line that ends
abbrev pub EndsLast : List DumpLine → Type 0
EndsLast [] = Unit {0}
EndsLast (l ∷ lines) = (is_other l ≡ false → lines ≡ []) × EndsLast lines

pub ends_last : (front : List DumpLine) → list_all is_other front ≡ true → EndsLast (front ++ End ∷ [])
ends_last [] h = ((λ e. refl), tt)
ends_last (l ∷ front) h =
    let p = and_parts (is_other l) (list_all is_other front) h in
    ((λ e. absurd (true≢false (sym p.0 ∙ e))), ends_last front p.1)

all_map : {X : Type 0} (f : X → DumpLine) (xs : List X) → ((x : X) → is_other (f x) ≡ true) → list_all is_other (map f xs) ≡ true
all_map f [] h = refl
all_map f (x ∷ xs) h = and_from (is_other (f x)) (list_all is_other (map f xs)) (h x) (all_map f xs h)

all_flat : {X : Type 0} (f : X → List DumpLine) (xs : List X) → ((x : X) → list_all is_other (f x) ≡ true) → list_all is_other (flat_map f xs) ≡ true
all_flat {X} f xs h = In-all is_other (flat_map f xs) (λ y i. let k = In-flat_map f xs y i in all-In is_other (f k.0) (h k.0) y k.2)

all_known : {X : Type 0} (f : X → Option DumpLine) (xs : List X) → ((x : X) (y : DumpLine) → f x ≡ Some y → is_other y ≡ true) → list_all is_other (filter_map f xs) ≡ true
all_known f [] h = refl
all_known f (x ∷ xs) h = go (f x) refl (all_known f xs h)
  where
    go : (o : Option DumpLine) → f x ≡ o → list_all is_other (filter_map f xs) ≡ true → list_all is_other (cons_option o (filter_map f xs)) ≡ true
    go None e k = k
    go (Some y) e k = and_from (is_other y) (list_all is_other (filter_map f xs)) (h x y e) k

module _ (content : Cell → ObjectSection → List ℕ) (w : World) where
  cells_other : (c : Cell) → list_all is_other (cell_lines c) ≡ true
  cells_other c = all-append is_other (map (place_line c) c.object.sections) (map (alias_line c) c.aliases) (all_map (place_line c) c.object.sections (λ s. refl)) (all_map (alias_line c) c.aliases (λ a. refl))

  provider_other : (ns : ℕ) (a : Alias) (y : DumpLine) → provider_line w ns a.name ≡ Some y → is_other y ≡ true
  provider_other ns a y e = go (provided_at w ns a.name) e
    where
      go : (o : Option Found) → option_map (λ f. Provider ns a.name (part_of f.key) f.offset) o ≡ Some y → is_other y ≡ true
      go None e = absurd cc
      go (Some f) e = subst (λ (l : Option DumpLine). elim l as (λ _. Bool) [ None ↦ true | Some z ↦ is_other z ] ≡ true) e refl

  within_other : (n : ℕ) (at : Part) (addr : ℕ) (bytes : List ℕ) → list_all is_other (lines_within n at addr bytes) ≡ true
  within_other zero at addr bytes = refl
  within_other (suc n) at addr bytes = within_other n at (addr + 64) (drop 64 bytes)

  section_other : (c : Cell) (s : ObjectSection) → list_all is_other (section_lines content c s) ≡ true
  section_other c s = within_other ((length (content c s) + 63) / 64) (record { cell = c.id.0; section = s.number }) (start_of c.placed s.number) (content c s)

  pub all_other : list_all is_other (lines_before_end content w) ≡ true
  all_other =
      all-append is_other (Space w.base w.pages ∷ map ns_line (numbered w.namespaces)) _ (all_map ns_line (numbered w.namespaces) (λ p. refl))
      (all-append is_other (flat_map cell_lines w.cells) _ (all_flat cell_lines w.cells cells_other)
      (all-append is_other (map link_line w.links) _ (all_map link_line w.links (λ l. refl))
      (all-append is_other (flat_map (provider_lines w) (filter (λ c. is_attached c.standing) w.cells)) (flat_map (λ c. flat_map (section_lines content c) c.object.sections) w.cells)
      (all_flat (provider_lines w) (filter (λ c. is_attached c.standing) w.cells) (λ c. all_known (λ a. provider_line w c.ns a.name) (names_of c) (λ a y e. provider_other c.ns a y e)))
      (all_flat (λ c. flat_map (section_lines content c) c.object.sections) w.cells (λ c. all_flat (section_lines content c) c.object.sections (section_other c))))))

  pub lines_end_last : EndsLast (lines_by content w)
  lines_end_last = ends_last (lines_before_end content w) all_other
