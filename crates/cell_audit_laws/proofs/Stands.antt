-- Each section of a coherent machine stands where its audit asks for it.
use Rattle.std.proofs.Common.{◌≡◌, refl, sym, ◌∙◌, ap, subst, arith, ℕ, suc, ◌+◌, ◌-◌, ◌*◌, ◌≤◌, inl, inr, Bool, true, false, cond, not, ◌&&◌, ◌||◌, List, [], ◌∷◌, ◌++◌, map, length, true≢false, Option, Some, None, append_assoc}
use Rattle.std.specs.Prelude.{◌%◌, ◌^◌, max, filter_map, find, nat_le, nat_lt, option_and_then, option_map, unwrap_or, ◌==◌}
use Rattle.std.specs.List.{cons_option, flat_map, list_all, list_any}
use Rattle.std.proofs.lemmas.Bool.{and_parts, and_from, eqb-true, eq-eqb, le-leb, leb-true, ltb-true}
use Rattle.std.proofs.lemmas.Bool.Decides.{nat_tests}
use Rattle.std.proofs.lemmas.List.{append-nil}
use Rattle.std.proofs.lemmas.List.Elements.{filter_map-append}
use Rattle.cell_num.specs.Lists.{In, each_pair, equals, first, upto, where_true}
use Rattle.cell_num.proofs.Elements.{all-In, any-Has, filter-In, flat_same, In-flat_map, In-map, In-none, In-right, pairs-map, pairs_same}
use Rattle.cell_num.proofs.Sublists.{pairs-append}
use Rattle.cell_object.specs.Parts.{section_of}
use Rattle.cell_object.specs.declared.object.Object.{Object}
use Rattle.cell_object.specs.declared.object.Section.{Section as ObjectSection}
use Rattle.cell_object.specs.Sound.{IsSoundObject, is_sound_section, is_zero}
use Rattle.cell_world.specs.Coherent.{IsCoherent, is_in_space, is_known_cell, is_placed}
use Rattle.cell_world.specs.Gather.{Source}
use Rattle.cell_world.specs.Placed.Layout.{class_of, gap, is_in_class, offset_from, offset_in, sections_in}
use Rattle.cell_world.specs.Names.{definitions_of}
use Rattle.cell_world.specs.Linked.Target.{start_of}
use Rattle.cell_world.specs.Linked.Relink.{class_start}
use Rattle.cell_world.specs.World.{World, Cell, Alias, Region}
use Rattle.cell_world.specs.declared.state.SecPlace.{SecPlace}
use Rattle.cell_lemmas.proofs.Placement.Distinct.{pairs_across}
use Rattle.cell_lemmas.proofs.Fields.FieldsApart.{AreSectionsApart, sections_apart, unique}
use Rattle.cell_lemmas.proofs.Fields.FieldsInside.{class_In, section_class, stands}
use Rattle.cell_lemmas.proofs.Naming.Known.{known_parts, object_sound}
use Rattle.cell_lemmas.proofs.Placement.Offsets.{Apart, IsUnique}
use Rattle.cell_world.specs.DumpLines.{alias_line, cell_lines, dump_lines, held_in, place_line}
use Rattle.cell_world.specs.declared.line.DumpLine.{DumpLine}
use Rattle.cell_audit.specs.Described.{object_of, place_of, space_of}
use Rattle.cell_audit.specs.Dumps.{Row, lines_of}
use Rattle.cell_audit.specs.Placing.{Extent, extent_of, first_misplaced, first_object, is_misplaced, may_stand, misplaced_after, object_with, share_a_byte}
use Rattle.cell_origin_law.specs.Readings.{AreRead}
use Rattle.cell_audit_laws.proofs.Anew.{each_line}
use Rattle.cell_audit_laws.proofs.Describes.{alias_back, object_is, others, places_are}
use Rattle.cell_audit_laws.proofs.Selected.{of_cells, quiet_map}

-- what an alignment does to numbers
record IsAlignment (a : ℕ) : Type 0 where
  gapped : (n : ℕ) → (n + gap n a) % max 1 a ≡ 0
  summed : (x y : ℕ) → x % max 1 a ≡ 0 → y % max 1 a ≡ 0 → (x + y) % max 1 a ≡ 0
  paged : (x : ℕ) → x % 4096 ≡ 0 → x % max 1 a ≡ 0

alignment : (align : ℕ) → list_any (λ k. align == 2 ^ k) (upto 13) ≡ true → IsAlignment align
alignment align h = let k = any-Has (λ k. align == 2 ^ k) (upto 13) h in go k k.1
  where
    of : (a : ℕ) → a ≡ align → ((n : ℕ) → (n + gap n a) % max 1 a ≡ 0) → ((x y : ℕ) → x % max 1 a ≡ 0 → y % max 1 a ≡ 0 → (x + y) % max 1 a ≡ 0) → ((x : ℕ) → x % 4096 ≡ 0 → x % max 1 a ≡ 0) → IsAlignment align
    of a e f g h = subst IsAlignment e (record { gapped = f; summed = g; paged = h })

    go : (k : (x : ℕ) × In x (upto 13) × ((align == 2 ^ x) ≡ true)) → In k.0 (upto 13) → IsAlignment align
    go k (inl e) = of 1 (sym (eqb-true align (2 ^ k.0) k.2 ∙ ap (λ (j : ℕ). 2 ^ j) e)) (λ n. omega arith) (λ x y a b. omega (arith, a, b)) (λ x a. omega (arith, a))
    go k (inr (inl e)) = of 2 (sym (eqb-true align (2 ^ k.0) k.2 ∙ ap (λ (j : ℕ). 2 ^ j) e)) (λ n. omega arith) (λ x y a b. omega (arith, a, b)) (λ x a. omega (arith, a))
    go k (inr (inr (inl e))) = of 4 (sym (eqb-true align (2 ^ k.0) k.2 ∙ ap (λ (j : ℕ). 2 ^ j) e)) (λ n. omega arith) (λ x y a b. omega (arith, a, b)) (λ x a. omega (arith, a))
    go k (inr (inr (inr (inl e)))) = of 8 (sym (eqb-true align (2 ^ k.0) k.2 ∙ ap (λ (j : ℕ). 2 ^ j) e)) (λ n. omega arith) (λ x y a b. omega (arith, a, b)) (λ x a. omega (arith, a))
    go k (inr (inr (inr (inr (inl e))))) = of 16 (sym (eqb-true align (2 ^ k.0) k.2 ∙ ap (λ (j : ℕ). 2 ^ j) e)) (λ n. omega arith) (λ x y a b. omega (arith, a, b)) (λ x a. omega (arith, a))
    go k (inr (inr (inr (inr (inr (inl e)))))) = of 32 (sym (eqb-true align (2 ^ k.0) k.2 ∙ ap (λ (j : ℕ). 2 ^ j) e)) (λ n. omega arith) (λ x y a b. omega (arith, a, b)) (λ x a. omega (arith, a))
    go k (inr (inr (inr (inr (inr (inr (inl e))))))) = of 64 (sym (eqb-true align (2 ^ k.0) k.2 ∙ ap (λ (j : ℕ). 2 ^ j) e)) (λ n. omega arith) (λ x y a b. omega (arith, a, b)) (λ x a. omega (arith, a))
    go k (inr (inr (inr (inr (inr (inr (inr (inl e)))))))) = of 128 (sym (eqb-true align (2 ^ k.0) k.2 ∙ ap (λ (j : ℕ). 2 ^ j) e)) (λ n. omega arith) (λ x y a b. omega (arith, a, b)) (λ x a. omega (arith, a))
    go k (inr (inr (inr (inr (inr (inr (inr (inr (inl e))))))))) = of 256 (sym (eqb-true align (2 ^ k.0) k.2 ∙ ap (λ (j : ℕ). 2 ^ j) e)) (λ n. omega arith) (λ x y a b. omega (arith, a, b)) (λ x a. omega (arith, a))
    go k (inr (inr (inr (inr (inr (inr (inr (inr (inr (inl e)))))))))) = of 512 (sym (eqb-true align (2 ^ k.0) k.2 ∙ ap (λ (j : ℕ). 2 ^ j) e)) (λ n. omega arith) (λ x y a b. omega (arith, a, b)) (λ x a. omega (arith, a))
    go k (inr (inr (inr (inr (inr (inr (inr (inr (inr (inr (inl e))))))))))) = of 1024 (sym (eqb-true align (2 ^ k.0) k.2 ∙ ap (λ (j : ℕ). 2 ^ j) e)) (λ n. omega arith) (λ x y a b. omega (arith, a, b)) (λ x a. omega (arith, a))
    go k (inr (inr (inr (inr (inr (inr (inr (inr (inr (inr (inr (inl e)))))))))))) = of 2048 (sym (eqb-true align (2 ^ k.0) k.2 ∙ ap (λ (j : ℕ). 2 ^ j) e)) (λ n. omega arith) (λ x y a b. omega (arith, a, b)) (λ x a. omega (arith, a))
    go k (inr (inr (inr (inr (inr (inr (inr (inr (inr (inr (inr (inr (inl e))))))))))))) = of 4096 (sym (eqb-true align (2 ^ k.0) k.2 ∙ ap (λ (j : ℕ). 2 ^ j) e)) (λ n. omega arith) (λ x y a b. omega (arith, a, b)) (λ x a. omega (arith, a))
    go k (inr (inr (inr (inr (inr (inr (inr (inr (inr (inr (inr (inr (inr e))))))))))))) = absurd e

-- where a section stands among others is a multiple of its alignment
offset_aligned : (xs : List ObjectSection) (n : ℕ) (s : ObjectSection) → In s xs → IsUnique xs s → IsAlignment s.align → offset_from n xs s.number % max 1 s.align ≡ 0
offset_aligned [] n s i u a = absurd i
offset_aligned (t ∷ xs) n s i u a = go (t.number == s.number) refl i (λ k. offset_aligned xs (n + gap n t.align + t.size) s k (λ x j e. u x (inr j) e) a)
  where
    go : (b : Bool) → (t.number == s.number) ≡ b → In s (t ∷ xs) → (In s xs → offset_from (n + gap n t.align + t.size) xs s.number % max 1 s.align ≡ 0)
        → cond b (n + gap n t.align) (offset_from (n + gap n t.align + t.size) xs s.number) % max 1 s.align ≡ 0
    go true e k f = let same : t ≡ s = u t (inl refl) (eqb-true t.number s.number e) in subst (λ (z : ObjectSection). (n + gap n z.align) % max 1 s.align ≡ 0) (sym same) (a.gapped n)
    go false e (inl same) f = absurd (true≢false (sym (eq-eqb t.number s.number (ap (λ (z : ObjectSection). z.number) (sym same))) ∙ e))
    go false e (inr k) f = f k

-- of lists in a row: each by itself, and one against a later one
pairs_flat : {X Y : Type 0} (t : Y → Y → Bool) (u : X → X → Bool) (f : X → List Y) (xs : List X) → each_pair u xs ≡ true → ((x : X) → In x xs → each_pair t (f x) ≡ true)
    → ((x y : X) → In x xs → In y xs → u x y ≡ true → (p q : Y) → In p (f x) → In q (f y) → t p q ≡ true) → each_pair t (flat_map f xs) ≡ true
pairs_flat t u f [] h own far = refl
pairs_flat t u f (x ∷ xs) h own far =
    let p = and_parts (list_all (u x) xs) (each_pair u xs) h in
    pairs-append t (f x) (flat_map f xs) (own x (inl refl)) (pairs_flat t u f xs p.1 (λ y m. own y (inr m)) (λ a b i j. far a b (inr i) (inr j)))
    (λ a b m n. let r = In-flat_map f xs b n in far x r.0 (inl refl) (inr r.1) (all-In (u x) xs p.0 r.0 r.1) a b m r.2)

found_section : (ss : List ObjectSection) → each_pair (λ a b. nat_lt a.number b.number) ss ≡ true → (s : ObjectSection) → In s ss → find (λ t. t.number == s.number) ss ≡ Some s
found_section [] r s i = absurd i
found_section (t ∷ ss) r s (inl e) =
    ap (λ (b : Bool). cond b (Some t) (find (λ x. x.number == s.number) ss)) (eq-eqb t.number s.number (ap (λ (x : ObjectSection). x.number) (sym e))) ∙ ap (λ (x : ObjectSection). Some x) (sym e)
found_section (t ∷ ss) r s (inr i) =
    let k = and_parts (list_all (λ x. nat_lt t.number x.number) ss) (each_pair (λ x y. nat_lt x.number y.number) ss) r in
    let below : nat_lt t.number s.number ≡ true = all-In (λ x. nat_lt t.number x.number) ss k.0 s i in
    let other : (t.number == s.number) ≡ false = grind (arith, nat_tests) in
    ap (λ (b : Bool). cond b (Some t) (find (λ x. x.number == s.number) ss)) other ∙ found_section ss k.1 s i

not_shared : (a b : Extent) → Apart a.start a.section.size b.start b.section.size → not (share_a_byte a b) ≡ true
not_shared a b (inl l) = let e : nat_lt b.start (a.start + a.section.size) ≡ false = grind (arith, nat_tests, l) in last (nat_lt 0 a.section.size && nat_lt 0 b.section.size && nat_lt a.start (b.start + b.section.size)) (nat_lt b.start (a.start + a.section.size)) e
  where
    last : (x y : Bool) → y ≡ false → not (x && y) ≡ true
    last true y e = ap not e
    last false y e = refl
not_shared a b (inr l) = let e : nat_lt a.start (b.start + b.section.size) ≡ false = grind (arith, nat_tests, l) in middle (nat_lt 0 a.section.size && nat_lt 0 b.section.size) (nat_lt a.start (b.start + b.section.size)) (nat_lt b.start (a.start + a.section.size)) e
  where
    middle : (x y z : Bool) → y ≡ false → not (x && y && z) ≡ true
    middle true y z e = ap (λ (v : Bool). not (v && z)) e
    middle false y z e = refl

module _ (w : World) (h : IsCoherent w) (sources : List Source) (read : AreRead sources w) where
  abbrev lines : List DumpLine
  lines = dump_lines w

  quiet_rest : (n : ℕ) (d : Cell) → filter_map (object_with sources n) (map (place_line d) d.object.sections ++ map (alias_line d) d.aliases) ≡ []
  quiet_rest n d =
      filter_map-append (object_with sources n) (map (place_line d) d.object.sections) (map (alias_line d) d.aliases)
      ∙ (ap (λ (xs : List Object). xs ++ filter_map (object_with sources n) (map (alias_line d) d.aliases)) (quiet_map (object_with sources n) (place_line d) d.object.sections (λ s. refl))
      ∙ quiet_map (object_with sources n) (alias_line d) d.aliases (λ a. refl))

  first_is : (c : Cell) → In c w.cells → first_object sources lines c.id.0 ≡ Some c.object
  first_is c i =
      ap (λ (xs : List Object). first xs)
      (of_cells (object_with sources c.id.0) (held_in w) w (record { space = λ b p. refl; ns = λ n name p. refl; link = λ u t e. refl; provider = λ ns name at offset. refl; bytes = λ at addr bytes. refl; end = refl })
      ∙ (others w h (λ (d : Cell). filter_map (object_with sources c.id.0) (cell_lines d)) c i other ∙ own))
    where
      nothing : (o : Option Object) → option_and_then (λ object. where_true false object) o ≡ None
      nothing None = refl
      nothing (Some x) = refl

      other : (d : Cell) → (d.id.0 == c.id.0) ≡ false → filter_map (object_with sources c.id.0) (cell_lines d) ≡ []
      other d e =
          ap (λ (o : Option Object). cons_option o (filter_map (object_with sources c.id.0) (map (place_line d) d.object.sections ++ map (alias_line d) d.aliases)))
          (ap (λ (b : Bool). option_and_then (λ object. where_true b object) (object_of sources d.file)) e ∙ nothing (object_of sources d.file))
          ∙ quiet_rest c.id.0 d

      own : filter_map (object_with sources c.id.0) (cell_lines c) ≡ c.object ∷ []
      own =
          ap (λ (o : Option Object). cons_option o (filter_map (object_with sources c.id.0) (map (place_line c) c.object.sections ++ map (alias_line c) c.aliases)))
          (ap (λ (b : Bool). option_and_then (λ object. where_true b object) (object_of sources c.file)) (eq-eqb c.id.0 c.id.0 refl) ∙ ap (option_and_then (λ object. where_true true object)) (object_is w h sources read c i))
          ∙ ap (λ (xs : List Object). c.object ∷ xs) (quiet_rest c.id.0 c)

  abbrev extent : Cell → ObjectSection → Extent
  extent c s = record { start = start_of c.placed s.number; section = s }

  sound : (c : Cell) → In c w.cells → IsSoundObject c.object
  sound c i = object_sound w h.ready.objects c i

  extent_is : (c : Cell) → In c w.cells → (s : ObjectSection) → In s c.object.sections → extent_of sources lines (place_line c s) ≡ Some (extent c s)
  extent_is c i s m =
      ap (λ (o : Option Object). option_map (λ t. let e : Extent = record { start = start_of c.placed s.number; section = t } in e) (option_and_then (λ object. section_of object s.number) o)) (first_is c i)
      ∙ ap (option_map (λ t. let e : Extent = record { start = start_of c.placed s.number; section = t } in e)) (found_section c.object.sections (sound c i).numbers s m)

  extents_of : (c : Cell) → In c w.cells → filter_map (extent_of sources lines) (cell_lines c) ≡ map (extent c) c.object.sections
  extents_of c i =
      filter_map-append (extent_of sources lines) (map (place_line c) c.object.sections) (map (alias_line c) c.aliases)
      ∙ (ap (λ (xs : List Extent). filter_map (extent_of sources lines) (map (place_line c) c.object.sections) ++ xs) (quiet_map (extent_of sources lines) (alias_line c) c.aliases (λ a. refl))
      ∙ (append-nil (filter_map (extent_of sources lines) (map (place_line c) c.object.sections))
      ∙ all c.object.sections (λ s m. m)))
    where
      all : (ss : List ObjectSection) → ((s : ObjectSection) → In s ss → In s c.object.sections) → filter_map (extent_of sources lines) (map (place_line c) ss) ≡ map (extent c) ss
      all [] f = refl
      all (s ∷ ss) f =
          ap (λ (o : Option Extent). cons_option o (filter_map (extent_of sources lines) (map (place_line c) ss))) (extent_is c i s (f s (inl refl)))
          ∙ ap (λ (xs : List Extent). extent c s ∷ xs) (all ss (λ x k. f x (inr k)))

  extents_are : filter_map (extent_of sources lines) lines ≡ flat_map (λ c. map (extent c) c.object.sections) w.cells
  extents_are =
      of_cells (extent_of sources lines) (held_in w) w (record { space = λ b p. refl; ns = λ n name p. refl; link = λ u t e. refl; provider = λ ns name at offset. refl; bytes = λ at addr bytes. refl; end = refl })
      ∙ flat_same (λ (c : Cell). filter_map (extent_of sources lines) (cell_lines c)) (λ (c : Cell). map (extent c) c.object.sections) w.cells extents_of

  abbrev apart : Extent → Extent → Bool
  apart a b = not (share_a_byte a b)

  far : (c d : Cell) (s t : ObjectSection) → AreSectionsApart c d s t → (c ≡ d → s.number ≡ t.number → ⊥) → apart (extent c s) (extent d t) ≡ true
  far c d s t (inl e) other = absurd (other e.0 e.1)
  far c d s t (inr a) other = not_shared (extent c s) (extent d t) a

  all_apart : each_pair apart (filter_map (extent_of sources lines) lines) ≡ true
  all_apart =
      subst (λ (xs : List Extent). each_pair apart xs ≡ true) (sym extents_are)
      (pairs_flat apart (λ a b. nat_lt a.id.0 b.id.0) (λ (c : Cell). map (extent c) c.object.sections) w.cells h.ready.cell_order own other)
    where
      own : (c : Cell) → In c w.cells → each_pair apart (map (extent c) c.object.sections) ≡ true
      own c i =
          pairs-map apart (extent c) c.object.sections
          ∙ pairs_same (λ a b. nat_lt a.number b.number) (λ a b. apart (extent c a) (extent c b)) c.object.sections
          (λ s t m n l. far c c s t (sections_apart w h.ready c c i i s t m n) (λ e k. let z = ltb-true s.number t.number l in absurd (omega (arith, z, k)))) (sound c i).numbers

      other : (c d : Cell) → In c w.cells → In d w.cells → nat_lt c.id.0 d.id.0 ≡ true → (p q : Extent) → In p (map (extent c) c.object.sections) → In q (map (extent d) d.object.sections) → apart p q ≡ true
      other c d i j l p q m n =
          let s = In-map (extent c) c.object.sections p m in
          let t = In-map (extent d) d.object.sections q n in
          subst (λ (x : Extent). apart x q ≡ true) (sym s.2) (subst (λ (x : Extent). apart (extent c s.0) x ≡ true) (sym t.2)
          (far c d s.0 t.0 (sections_apart w h.ready c d i j s.0 t.0 s.1 t.1) (λ e k. let z = ltb-true c.id.0 d.id.0 l in let y : c.id.0 ≡ d.id.0 = ap (λ (x : Cell). x.id.0) e in absurd (omega (arith, z, y)))))

  -- a place, behind lines that stand before it
  stands_there : (before after : List DumpLine) (c : Cell) → In c w.cells → (s : ObjectSection) → In s c.object.sections → before ++ place_line c s ∷ after ≡ lines
      → may_stand (w.base, w.pages) (filter_map (extent_of sources lines) before) (extent c s) ≡ true
  stands_there before after c i s m e =
      and_from _ _ (and_from _ _ (and_from _ _ (eq-eqb _ 0 aligned) (le-leb w.base (start_of c.placed s.number) (omega (arith, low, ends.0)))) (le-leb (start_of c.placed s.number + s.size) (w.base + 4096 * w.pages) (omega (arith, high, ends.2)))) free
    where
      q : (r : Region) × In r w.regions × (r.start ≤ start_of c.placed s.number) × (start_of c.placed s.number + s.size ≤ r.start + length r.bytes) × (class_start c (class_of s) ≡ Some r.start)
      q = section_class w h.ready.regions h.ready.apart h.ready.placed h.ready.objects c i s m

      low : q.0.start ≤ start_of c.placed s.number
      low = q.2

      high : start_of c.placed s.number + s.size ≤ q.0.start + length q.0.bytes
      high = q.3

      ends : (w.base ≤ q.0.start) × ((q.0.start - w.base) % 4096 ≡ 0) × (q.0.start + length q.0.bytes ≤ w.base + 4096 * w.pages)
      ends =
          let t = all-In (is_in_space w) w.regions h.ready.in_space q.0 q.1 in
          let a = and_parts (nat_le w.base q.0.start && ((q.0.start - w.base) % 4096 == 0) && nat_lt 0 (length q.0.bytes) && (length q.0.bytes % 4096 == 0)) (nat_le (q.0.start + length q.0.bytes) (w.base + 4096 * w.pages)) t in
          let b = and_parts (nat_le w.base q.0.start && ((q.0.start - w.base) % 4096 == 0) && nat_lt 0 (length q.0.bytes)) (length q.0.bytes % 4096 == 0) a.0 in
          let d = and_parts (nat_le w.base q.0.start && ((q.0.start - w.base) % 4096 == 0)) (nat_lt 0 (length q.0.bytes)) b.0 in
          let f = and_parts (nat_le w.base q.0.start) ((q.0.start - w.base) % 4096 == 0) d.0 in
          (leb-true w.base q.0.start f.0, eqb-true _ 0 f.1, leb-true (q.0.start + length q.0.bytes) (w.base + 4096 * w.pages) a.1)

      here : In s (sections_in (class_of s) c.object)
      here = filter-In (is_in_class (class_of s)) c.object.sections s m (class_In s)

      align : IsAlignment s.align
      align = alignment s.align (second (not (s.write && s.exec)) (list_any (λ k. s.align == 2 ^ k) (upto 13)) (nat_le s.size 16777216) (is_zero s.fill || length s.bytes == s.size) (all-In is_sound_section c.object.sections (sound c i).sections s m))
        where
          second : (a b c d : Bool) → (a && b && c && d) ≡ true → b ≡ true
          second true true c d h = refl
          second true false c d h = absurd (true≢false (sym h))
          second false b c d h = absurd (true≢false (sym h))

      aligned : start_of c.placed s.number % max 1 s.align ≡ 0
      aligned =
          ap (λ (n : ℕ). n % max 1 s.align)
          (stands w h.ready.regions h.ready.apart h.ready.placed h.ready.objects c i (class_of s) s here ∙ ap (λ (o : Option ℕ). unwrap_or o 0 + offset_in (sections_in (class_of s) c.object) s.number) q.4)
          ∙ align.summed q.0.start (offset_in (sections_in (class_of s) c.object) s.number) (align.paged q.0.start (let a = ends.0 in let b = ends.1 in let z = h.ready.space.aligned in omega (arith, a, b, z)))
          (offset_aligned (sections_in (class_of s) c.object) 0 s here (unique c (sound c i) (class_of s) s m) align)

      split : filter_map (extent_of sources lines) lines ≡ filter_map (extent_of sources lines) before ++ extent c s ∷ filter_map (extent_of sources lines) after
      split =
          ap (filter_map (extent_of sources lines)) (sym e)
          ∙ (filter_map-append (extent_of sources lines) before (place_line c s ∷ after)
          ∙ ap (λ (o : Option Extent). filter_map (extent_of sources lines) before ++ cons_option o (filter_map (extent_of sources lines) after)) (extent_is c i s m))

      free : not (list_any (λ b. share_a_byte b (extent c s)) (filter_map (extent_of sources lines) before)) ≡ true
      free =
          ap not (In-none (λ b. share_a_byte b (extent c s)) (filter_map (extent_of sources lines) before)
          (λ b k. unnot (share_a_byte b (extent c s))
          (pairs_across apart (filter_map (extent_of sources lines) before) (extent c s ∷ filter_map (extent_of sources lines) after) (subst (λ (xs : List Extent). each_pair apart xs ≡ true) split all_apart) b (extent c s) k (inl refl))))
        where
          unnot : (b : Bool) → not b ≡ true → b ≡ false
          unnot true e = absurd (true≢false (sym e))
          unnot false e = refl

  -- no line is misplaced, whatever stands before it
  well_placed : (l : DumpLine) → In l lines → (before after : List DumpLine) → before ++ l ∷ after ≡ lines → is_misplaced sources lines before l ≡ false
  well_placed l i = each_line w (λ (l : DumpLine). (before after : List DumpLine) → before ++ l ∷ after ≡ lines → is_misplaced sources lines before l ≡ false) (record {
    space = λ b a e. refl;
    ns = λ p i b a e. refl;
    cell = λ c j b a e. ap not (
        ap (λ (o : Option Object). unwrap_or (option_map (λ object. equals (map (λ p. p.section) (filter_map (place_of c.id.0) lines)) (map (λ s. s.number) object.sections)) o) false) (first_is c j)
        ∙ (ap (λ (ps : List SecPlace). equals (map (λ p. p.section) ps) (map (λ s. s.number) c.object.sections)) (places_are w h c j)
        ∙ (and_parts (equals (map (λ p. p.section) c.places) (map (λ s. s.number) c.object.sections)) _ (all-In is_placed w.cells h.ready.placed c j)).0));
    place = λ c j s m b a e. ap not (
        ap (λ (o : Option Extent). unwrap_or (option_map (may_stand (space_of lines) (filter_map (extent_of sources lines) b)) o) false) (extent_is c j s m)
        ∙ stands_there b a c j s m e);
    alias = λ c j a m b r e. ap not (
        ap (λ (o : Option Object). unwrap_or (option_map (λ object. list_any (λ d. d.symbol == suc (a.symbol - 1)) (definitions_of object)) o) false) (first_is c j)
        ∙ (ap (λ (x : Alias). list_any (λ d. d.symbol == x.symbol) (definitions_of c.object)) (alias_back w h c j a m)
        ∙ all-In (λ a. list_any (λ d. d.symbol == a.symbol) (definitions_of c.object)) c.aliases (known_parts w c (all-In (is_known_cell w) w.cells h.ready.cells c j)).aliases a m));
    link = λ l i b a e. refl;
    provider = λ c j n m f q b a e. refl;
    bytes = λ c j s m at addr bytes k b a e. refl;
    end = λ b a e. refl;
  }) l i

  none_after : (rs : List Row) (before : List DumpLine) → before ++ lines_of rs ≡ lines → misplaced_after sources lines before rs ≡ None
  none_after [] before e = refl
  none_after (r ∷ rs) before e =
      ap (λ (b : Bool). cond b (Some r.0) (misplaced_after sources lines (before ++ r.1 ∷ []) rs)) (well_placed r.1 (subst (λ (ls : List DumpLine). In r.1 ls) e (In-right before (r.1 ∷ lines_of rs) r.1 (inl refl))) before (lines_of rs) e)
      ∙ none_after rs (before ++ r.1 ∷ []) (append_assoc before (r.1 ∷ []) (lines_of rs) ∙ e)

pub no_misplaced : (sources : List Source) (w : World) → IsCoherent w → AreRead sources w → (rows : List Row) → lines_of rows ≡ dump_lines w → first_misplaced sources rows ≡ None
no_misplaced sources w h read rows are = ap (λ (ls : List DumpLine). misplaced_after sources ls [] rows) are ∙ none_after w h sources read rows [] are
