-- What the sections of a coherent machine hold is what linking anew makes of them.
use Rattle.std.proofs.Common.{◌≡◌, refl, sym, ◌∙◌, ap, arith, ℕ, zero, suc, ◌+◌, ◌-◌, ◌<◌, ◌≤◌, ◌⊎◌, inl, inr, Bool, true, false, cond, List, [], ◌∷◌, ◌++◌, map, length, take, drop, Option, Some, None, get_or, append_assoc}
use Rattle.std.specs.Prelude.{min, filter, fold, unwrap_or, ◌==◌, slice_range, option_and_then}
use Rattle.std.specs.List.{flat_map}
use Rattle.std.proofs.lemmas.Bool.{eqb-true}
use Rattle.std.proofs.lemmas.List.{nil_from_length, take-append-drop, ext_get_or, drop-drop}
use Rattle.cell_num.specs.Kinds.{width_of}
use Rattle.cell_num.specs.Lists.{In, numbered, where_true}
use Rattle.cell_num.proofs.Elements.{In-filtered, filter-Passes, flat_same}
use Rattle.cell_object.specs.declared.object.Section.{Section as ObjectSection}
use Rattle.cell_object.specs.declared.object.Entry.{Entry}
use Rattle.cell_world.specs.Coherent.{IsCoherent}
use Rattle.cell_world.specs.Linked.Field.{fields_of, place_of}
use Rattle.cell_world.specs.Linked.Fresh.{fields_in, fresh_bytes, value_bytes, with_value}
use Rattle.cell_world.specs.Placed.Layout.{own_bytes}
use Rattle.cell_world.specs.Running.Memory.{pasted, part_of, read, region_in}
use Rattle.cell_world.specs.Linked.Target.{start_of}
use Rattle.cell_world.specs.World.{World, Cell, Region, is_attached}
use Rattle.cell_world.specs.declared.state.LinkRow.{LinkRow}
use Rattle.cell_lemmas.proofs.Fields.FieldsInside.{length-bytes_of, section_class}
use Rattle.cell_lemmas.proofs.Placement.Inside.{wide}
use Rattle.cell_lemmas.proofs.Fields.Slices.{slice, slice_at, slice_length}
use Rattle.cell_laws.proofs.Fresh.{ends_here, field_holds, section_holds}
use Rattle.cell_laws.proofs.FreshSaid.{fresh_size}
use Rattle.cell_laws.proofs.Parts.{read_window}
use Rattle.cell_world.specs.DumpLines.{cell_lines, content_lines, dump_lines, held_in, lines_by, link_line, ns_line, provider_lines, section_lines}
use Rattle.cell_world.specs.declared.line.DumpLine.TheVariants.{Space, End}
use Rattle.cell_world.specs.declared.line.DumpLine.{DumpLine}
use Rattle.cell_audit.specs.Linking.{relinked_bytes}
use Rattle.cell_audit_laws.specs.Anew.{linked_anew, made_anew}

-- n bytes of the region from the address x on
abbrev window : ℕ → ℕ → Region → List ℕ
window x n r = slice r.bytes (x - r.start) n

-- what stands at a place already may be put there again
same_pasted : (bytes new : List ℕ) (i : ℕ) → slice bytes i (length new) ≡ new → pasted bytes i new ≡ bytes
same_pasted bytes new i e =
    ap (λ (x : List ℕ). take i bytes ++ x ++ drop (i + length new) bytes) (sym e)
    ∙ (append_assoc (take i bytes) (slice bytes i (length new)) (drop (i + length new) bytes)
    ∙ (ap (λ (x : List ℕ). take i bytes ++ (slice bytes i (length new) ++ x)) (sym (drop-drop (length new) i bytes))
    ∙ (ap (λ (x : List ℕ). take i bytes ++ x) (take-append-drop (length new) (drop i bytes))
    ∙ take-append-drop i bytes)))

-- a part of a part
slice_of : (xs : List ℕ) (i n j m : ℕ) → j + m ≤ n → i + n ≤ length xs → slice (slice xs i n) j m ≡ slice xs (i + j) m
slice_of xs i n j m h k =
    ext_get_or 0 (slice (slice xs i n) j m) (slice xs (i + j) m)
    (slice_length (slice xs i n) j m ∙ (ap (λ (l : ℕ). min m (l - j)) (slice_length xs i n) ∙ (omega (arith, h, k) ∙ sym (slice_length xs (i + j) m))))
    (λ p l. let e : length (slice (slice xs i n) j m) ≡ min m (length (slice xs i n) - j) = slice_length (slice xs i n) j m in
    let q : p < m = omega (arith, e, l) in
    slice_at (slice xs i n) j m p q ∙ (slice_at xs i n (j + p) (omega (arith, q, h))
    ∙ (ap (λ (a : ℕ). get_or xs a 0) (omega arith) ∙ sym (slice_at xs (i + j) m p q))))

-- nothing is read in no bytes
read_none : (regions : List Region) (addr : ℕ) → unwrap_or (option_and_then (λ r. part_of r addr 0) (region_in regions addr)) [] ≡ []
read_none regions addr = go (region_in regions addr)
  where
    at : (r : Region) (b : Bool) → unwrap_or (where_true b (slice_range r.bytes (addr - r.start) (addr - r.start + 0))) [] ≡ []
    at r true = let e : addr - r.start + 0 - (addr - r.start) ≡ 0 = omega arith in ap (λ (n : ℕ). take n (drop (addr - r.start) r.bytes)) e
    at r false = refl

    go : (o : Option Region) → unwrap_or (option_and_then (λ r. part_of r addr 0) o) [] ≡ []
    go None = refl
    go (Some r) = at r _

module _ (w : World) (h : IsCoherent w) (c : Cell) (i : In c w.cells) (s : ObjectSection) (m : In s c.object.sections) where
  in_object : (g : Entry) → In g (fields_in c.object s) → In g (fields_of c.object)
  in_object g k = In-filtered (λ (g : Entry). g.section == s.number) (fields_of c.object) g k

  number : (g : Entry) → In g (fields_in c.object s) → g.section ≡ s.number
  number g k = eqb-true g.section s.number (filter-Passes (λ (g : Entry). g.section == s.number) (fields_of c.object) g k)

  fit : (g : Entry) → In g (fields_in c.object s) → g.offset + width_of g.kind ≤ s.size
  fit g k = ends_here w h c i s m g (in_object g k) (number g k)

  pub held_none : s.size ≡ 0 → held_in w c s ≡ []
  held_none e = ap (λ (n : ℕ). unwrap_or (read w (start_of c.placed s.number) n) []) e ∙ read_none w.regions (start_of c.placed s.number)

  module _ (pos : 0 < s.size) where
    abbrev at : ℕ
    at = start_of c.placed s.number

    region : (q : Region) × In q w.regions × (q.start ≤ at) × (at + s.size ≤ q.start + length q.bytes)
    region = let q = section_class w h.ready.regions h.ready.apart h.ready.placed h.ready.objects c i s m in (q.0, q.1, q.2, q.3)

    held_is : held_in w c s ≡ window at s.size region.0
    held_is = ap (λ (o : Option (List ℕ)). unwrap_or o []) (read_window w h region.0 region.1 at s.size pos region.2 region.3)

    -- each field holds its value already
    holds : (g : Entry) → In g (fields_in c.object s) → slice (held_in w c s) g.offset (width_of g.kind) ≡ value_bytes w c g
    holds g k =
        let there : start_of c.placed g.section ≡ at = ap (start_of c.placed) (number g k) in
        let ends : g.offset + width_of g.kind ≤ s.size = fit g k in
        let low : region.0.start ≤ at = region.2 in
        let high : at + s.size ≤ region.0.start + length region.0.bytes = region.3 in
        let place : place_of c.placed g - region.0.start ≡ at - region.0.start + g.offset = omega (arith, there, low) in
        ap (λ (x : List ℕ). slice x g.offset (width_of g.kind)) held_is
        ∙ (slice_of region.0.bytes (at - region.0.start) s.size g.offset (width_of g.kind) ends (omega (arith, low, high))
        ∙ (ap (λ (a : ℕ). slice region.0.bytes a (width_of g.kind)) (sym place)
        ∙ some_is (window (place_of c.placed g) (width_of g.kind) region.0) (value_bytes w c g)
        (sym (read_window w h region.0 region.1 (place_of c.placed g) (width_of g.kind) (wide g.kind) (omega (arith, there, low)) (omega (arith, there, ends, high)))
        ∙ field_holds w h c i g (in_object g k))))
      where
        some_is : (x y : List ℕ) → Some x ≡ Some y → x ≡ y
        some_is x y e = cc

    written_same : (gs : List Entry) → ((g : Entry) → In g gs → In g (fields_in c.object s)) → fold (with_value w c) (held_in w c s) gs ≡ held_in w c s
    written_same [] f = refl
    written_same (g ∷ gs) f =
        ap (λ (x : List ℕ). fold (with_value w c) x gs)
        (same_pasted (held_in w c s) (value_bytes w c g) g.offset (ap (slice (held_in w c s) g.offset) (length-bytes_of (width_of g.kind) _) ∙ holds g (f g (inl refl))))
        ∙ written_same gs (λ x k. f x (inr k))

  no_fields : s.size ≡ 0 → (gs : List Entry) → ((g : Entry) → In g gs → In g (fields_in c.object s)) → (x : List ℕ) → fold (with_value w c) x gs ≡ x
  no_fields e [] f x = refl
  no_fields e (g ∷ gs) f x = let a = fit g (f g (inl refl)) in let b = wide g.kind in absurd (omega (arith, a, b, e))

  made_same : made_anew w c s ≡ held_in w c s
  made_same = go s.write refl (sized s.size refl)
    where
      sized : (n : ℕ) → s.size ≡ n → (s.size ≡ 0) ⊎ (0 < s.size)
      sized zero e = inl e
      sized (suc n) e = inr (omega (arith, e))

      go : (b : Bool) → s.write ≡ b → (s.size ≡ 0) ⊎ (0 < s.size) → relinked_bytes w c s (cond b (held_in w c s) (own_bytes s s.fill)) ≡ held_in w c s
      go true e (inl none) = no_fields none (fields_in c.object s) (λ g k. k) (held_in w c s)
      go true e (inr pos) = written_same pos (fields_in c.object s) (λ g k. k)
      go false e (inl none) = nil_from_length (fresh_bytes w c s) (fresh_size w h c i s m ∙ none) ∙ sym (held_none none)
      go false e (inr pos) = sym (ap (λ (o : Option (List ℕ)). unwrap_or o []) (section_holds w h c i s m e pos))

pub dump_fresh : (w : World) → IsCoherent w → lines_by (made_anew w) (linked_anew w) ≡ dump_lines w
dump_fresh w h =
    ap (λ (ls : List LinkRow). lines_by (made_anew w) (record w { links = ls })) (ap (λ (x : World). x.links) h.linked)
    ∙ ap (λ (ls : List DumpLine). lines_with ls)
    (flat_same (λ (c : Cell). flat_map (section_lines (made_anew w) c) c.object.sections) (λ (c : Cell). flat_map (section_lines (held_in w) c) c.object.sections) w.cells
    (λ c i. flat_same (section_lines (made_anew w) c) (section_lines (held_in w) c) c.object.sections
    (λ s m. ap (λ (x : List ℕ). content_lines (record { cell = c.id.0; section = s.number }) (start_of c.placed s.number) x) (made_same w h c i s m))))
  where
    lines_with : List DumpLine → List DumpLine
    lines_with ls =
        ((Space w.base w.pages ∷ map ns_line (numbered w.namespaces))
        ++ (flat_map cell_lines w.cells
        ++ (map link_line w.links
        ++ (flat_map (provider_lines w) (filter (λ c. is_attached c.standing) w.cells) ++ ls)))) ++ End ∷ []
