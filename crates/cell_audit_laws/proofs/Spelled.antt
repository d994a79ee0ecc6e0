-- The lines of a spelled machine can be written.
use Rattle.std.proofs.Common.{◌≡◌, refl, sym, ◌∙◌, ap, subst, arith, ℕ, zero, suc, ◌+◌, ◌-◌, ◌*◌, ◌<◌, ◌≤◌, ◌⊎◌, inl, inr, Bool, true, false, not, ◌&&◌, ◌||◌, List, [], ◌∷◌, length, take, drop, true≢false, Option, Some, None, length-drop}
use Rattle.std.specs.Prelude.{◌/◌, ◌%◌, ◌^◌, min, All, IfSome, filter, nat_le, nat_lt, option_and_then, option_map, filter_map, unwrap_or, ◌==◌}
use Rattle.std.specs.List.{list_all, list_any}
use Rattle.std.proofs.lemmas.Bool.{and_parts, and_from, eqb-true, le-leb, leb-true, lt-ltb, ltb-true}
use Rattle.std.proofs.lemmas.List.{length-take}
use Rattle.std.proofs.lemmas.Option.{slice_get_within}
use Rattle.cell_num.specs.Lists.{In, numbered, numbered_from, upto}
use Rattle.cell_num.proofs.Elements.{All-In, all-In, any-Has, found-In, get-In, In-All, In-append, In-filtered, filter-Passes, In-flat_map, In-map, In-numbered, In-right}
use Rattle.cell_object.specs.Parts.{is_defined, is_global, is_local, section_of, symbol_at}
use Rattle.cell_object.specs.Sound.{is_plain_sort, is_sound_home, is_sound_section, is_sound_symbol, is_zero}
use Rattle.cell_object.specs.Symbols.{is_global_name}
use Rattle.cell_object.specs.declared.object.Bind.{Bind}
use Rattle.cell_object.specs.declared.object.Bind.TheVariants.{Local, Global, Weak}
use Rattle.cell_object.specs.declared.object.Home.{Home}
use Rattle.cell_object.specs.declared.object.Home.TheVariants.{Undef, Abs, Inside, Elsewhere}
use Rattle.cell_object.specs.declared.object.Section.{Section as ObjectSection}
use Rattle.cell_object.specs.declared.object.Symbol.{Symbol}
use Rattle.cell_object.specs.declared.object.Entry.{Entry}
use Rattle.cell_num.specs.declared.ids.SecKey.{SecKey}
use Rattle.cell_script.specs.Grammar.{is_file, is_name}
use Rattle.cell_world.specs.Coherent.{IsCoherent, IsLoadable, is_in_space, begins_with_k, is_known_cell, is_sound_parent, is_sound_standing}
use Rattle.cell_world.specs.Commands.FindCommand.{found_at}
use Rattle.cell_world.specs.Commands.MapCommand.{group_of}
use Rattle.cell_world.specs.Names.{definitions_of, is_definition, names_of, provider_for}
use Rattle.cell_world.specs.Linked.Relink.{link_of, link_to, links_of}
use Rattle.cell_world.specs.Linked.Target.{own_target, provided_target, start_of, target_of}
use Rattle.cell_world.specs.World.{World, Cell, Alias, Region, Standing, cell_of}
use Rattle.cell_world.specs.declared.state.Standing.TheVariants.{Attached, Detached}
use Rattle.cell_world.specs.Running.Undo.{AreBytes}
use Rattle.cell_world.specs.declared.reply.Found.{Found}
use Rattle.cell_world.specs.declared.state.LinkRow.{LinkRow}
use Rattle.cell_world.specs.declared.state.Namespace.{Namespace}
use Rattle.cell_world.specs.declared.state.Target.{Target}
use Rattle.cell_world.specs.declared.state.Target.TheVariants.{Section, Number}
use Rattle.cell_lemmas.specs.Present.{HasSection, JoinsPresent}
use Rattle.cell_lemmas.proofs.Fields.FieldsInside.{section_class}
use Rattle.cell_lemmas.proofs.Naming.Known.{known_parts, object_sound}
use Rattle.cell_lemmas.proofs.Targeting.Present.{In-filter_map, and_then_ok, links_present}
use Rattle.cell_world.specs.DumpLines.{dump_lines, held_in, lines_within, link_line, ns_line, part_of, provided_at, section_lines}
use Rattle.cell_dumped.specs.Writable.{IsWritable, IsWritablePart, SmallNumber}
use Rattle.cell_world.specs.declared.line.DumpLine.{DumpLine}
use Rattle.cell_world.specs.declared.line.DumpLine.TheVariants.{Content}
use Rattle.cell_world.specs.declared.line.Part.{Part}
use Rattle.cell_origin_law.specs.Spelled.{IsSpelled, IsSpelledCell}
use Rattle.cell_origin_law.proofs.Names.{named_well}
use Rattle.cell_audit_laws.proofs.Anew.{each_line}
use Rattle.cell_audit_laws.proofs.Told.{held_size, holds}

-- a line of content: within the section, with 1 to 64 of its bytes
pub record IsPiece (at : Part) (addr : ℕ) (bytes : List ℕ) (l : DumpLine) : Type 0 where
  pub start : ℕ
  pub some : List ℕ
  pub is : l ≡ Content at start some
  pub low : addr ≤ start
  pub high : start + length some ≤ addr + length bytes
  pub filled : 0 < length some
  pub few : length some ≤ 64
  pub own : (b : ℕ) → In b some → In b bytes

In-take : (n : ℕ) (xs : List ℕ) (b : ℕ) → In b (take n xs) → In b xs
In-take zero xs b i = absurd i
In-take (suc n) [] b i = absurd i
In-take (suc n) (x ∷ xs) b (inl e) = inl e
In-take (suc n) (x ∷ xs) b (inr i) = inr (In-take n xs b i)

In-drop : (n : ℕ) (xs : List ℕ) (b : ℕ) → In b (drop n xs) → In b xs
In-drop zero xs b i = i
In-drop (suc n) [] b i = absurd i
In-drop (suc n) (x ∷ xs) b i = inr (In-drop n xs b i)

pieces : (n : ℕ) (at : Part) (addr : ℕ) (bytes : List ℕ) (l : DumpLine) → 64 * n < length bytes + 64 → In l (lines_within n at addr bytes) → IsPiece at addr bytes l
pieces zero at addr bytes l enough i = absurd i
pieces (suc n) at addr bytes l enough (inl e) = record {
  start = addr;
  some = take 64 bytes;
  is = e;
  low = omega arith;
  high = let k : length (take 64 bytes) ≡ min 64 (length bytes) = length-take 64 bytes in omega (arith, k);
  filled = let k : length (take 64 bytes) ≡ min 64 (length bytes) = length-take 64 bytes in omega (arith, k, enough);
  few = let k : length (take 64 bytes) ≡ min 64 (length bytes) = length-take 64 bytes in omega (arith, k);
  own = λ b i. In-take 64 bytes b i;
}
pieces (suc n) at addr bytes l enough (inr i) =
    let d : length (drop 64 bytes) ≡ length bytes - 64 = length-drop 64 bytes in
    let r = pieces n at (addr + 64) (drop 64 bytes) l (omega (arith, d, enough)) i in
    record {
      start = r.start;
      some = r.some;
      is = r.is;
      low = let a = r.low in omega (arith, a);
      high = let a = r.low in let b = r.high in let c = r.filled in omega (arith, a, b, c, d);
      filled = r.filled;
      few = r.few;
      own = λ b i. In-drop 64 bytes b (r.own b i);
    }

module _ (w : World) (h : IsCoherent w) (spelled : IsSpelled w) (held : AreBytes w.regions) where
  cell_spelled : (c : Cell) → In c w.cells → IsSpelledCell c
  cell_spelled = All-In IsSpelledCell w.cells spelled.cells

  cell_small : (c : Cell) → In c w.cells → c.id.0 < 65536
  cell_small c i = let k = known_parts w c (all-In (is_known_cell w) w.cells h.ready.cells c i) in let a = ltb-true c.id.0 w.next_cell k.number in let b = h.ready.cell_numbers in omega (arith, a, b)

  ns_small : (c : Cell) → In c w.cells → c.ns < 256
  ns_small c i = let k = known_parts w c (all-In (is_known_cell w) w.cells h.ready.cells c i) in let a = ltb-true c.ns (length w.namespaces) k.ns in let b = h.ready.few_spaces in omega (arith, a, b)

  section_small : (c : Cell) → In c w.cells → (s : ObjectSection) → In s c.object.sections → s.number < 2 ^ 16
  section_small c i s m = All-In (λ (s : ObjectSection). s.number < 2 ^ 16) c.object.sections (cell_spelled c i).sections s m

  ends_low : (c : Cell) → In c w.cells → (s : ObjectSection) → In s c.object.sections → start_of c.placed s.number + s.size < 2 ^ 64
  ends_low c i s m =
      let q = section_class w h.ready.regions h.ready.apart h.ready.placed h.ready.objects c i s m in
      let t = all-In (is_in_space w) w.regions h.ready.in_space q.0 q.1 in
      let e = leb-true (q.0.start + length q.0.bytes) (w.base + 4096 * w.pages) (and_parts (nat_le w.base q.0.start && ((q.0.start - w.base) % 4096 == 0) && nat_lt 0 (length q.0.bytes) && (length q.0.bytes % 4096 == 0)) (nat_le (q.0.start + length q.0.bytes) (w.base + 4096 * w.pages)) t).1 in
      let high = q.3 in let b = h.ready.space.highest in let p = h.ready.space.most in
      omega (arith, e, high, b, p)

  -- a section of a present cell, by its key
  key_small : (key : SecKey) → HasSection w key → (key.cell.0 < 65536) × (key.section < 2 ^ 16)
  key_small key s =
      let c = found-In (λ (c : Cell). c.id.0 == key.cell.0) w.cells s.cell s.present in
      let t = found-In (λ (t : ObjectSection). t.number == key.section) s.cell.object.sections s.section s.has in
      let a = cell_small s.cell c.0 in let b = eqb-true s.cell.id.0 key.cell.0 c.1 in
      let d = section_small s.cell c.0 s.section t.0 in let e = eqb-true s.section.number key.section t.1 in
      (omega (arith, a, b), omega (arith, d, e))

  key_writable : (key : SecKey) → HasSection w key → IsWritablePart (part_of key)
  key_writable key s = let k = key_small key s in let a = k.0 in let b = k.1 in (omega (arith, a), omega (arith, b))

  -- what a provider's symbol is
  own_key : (c : Cell) → In c w.cells → (s : Symbol) → In s c.object.symbols → (home : Home) → s.home ≡ home → (f : Found) → option_and_then found_at (own_target c.placed s home) ≡ Some f
      → IsWritablePart (part_of f.key) × SmallNumber f.offset
  own_key c i s m Undef e f k = absurd cc
  own_key c i s m Abs e f k = absurd cc
  own_key c i s m Elsewhere e f k = absurd cc
  own_key c i s m (Inside n) e f k = go (section_of c.object n) refl home
    where
      whole : is_sound_symbol c.object s ≡ true
      whole = all-In (is_sound_symbol c.object) c.object.symbols (object_sound w h.ready.objects c i).symbols s m

      home : is_sound_home c.object s (Inside n) ≡ true
      home = subst (λ (x : Home). is_sound_home c.object s x ≡ true) e (and_parts (is_sound_home c.object s s.home) (is_local s.bind || is_global_name s.name && is_plain_sort s.sort) whole).0

      size_small : (t : ObjectSection) → In t c.object.sections → t.size ≤ 16777216
      size_small t j =
          let k = and_parts (not (t.write && t.exec) && list_any (λ k. t.align == 2 ^ k) (upto 13) && nat_le t.size 16777216) (is_zero t.fill || length t.bytes == t.size) (all-In is_sound_section c.object.sections (object_sound w h.ready.objects c i).sections t j) in
          leb-true t.size 16777216 (and_parts (not (t.write && t.exec) && list_any (λ k. t.align == 2 ^ k) (upto 13)) (nat_le t.size 16777216) k.0).1

      go : (o : Option ObjectSection) → section_of c.object n ≡ o → unwrap_or (option_map (λ section. nat_le s.value section.size) o) false ≡ true → IsWritablePart (part_of f.key) × SmallNumber f.offset
      go None g b = absurd (true≢false (sym b))
      go (Some t) g b =
          let j = found-In (λ (t : ObjectSection). t.number == n) c.object.sections t g in
          let number = eqb-true t.number n j.1 in
          let low = section_small c i t j.0 in
          let value = leb-true s.value t.size b in
          let size = size_small t j.0 in
          let cell = cell_small c i in
          subst (λ (x : Option Found). elim x as (λ _. Type 0) [ None ↦ Unit {0} | Some z ↦ IsWritablePart (part_of z.key) × SmallNumber z.offset ]) k
          ((omega (arith, cell), omega (arith, number, low)), omega (arith, value, size))

  provided_writable : (ns : ℕ) (name : List ℕ) (f : Found) → provided_at w ns name ≡ Some f → IsWritablePart (part_of f.key) × SmallNumber f.offset
  provided_writable ns name f e =
      let a = and_then_ok found_at (option_and_then (provided_target w) (provider_for w Attached ns name)) f e in
      let p = and_then_ok (provided_target w) (provider_for w Attached ns name) a.0 a.1 in
      let c = and_then_ok (λ c. option_and_then (λ s. own_target c.placed s s.home) (symbol_at c.object p.0.symbol)) (cell_of w p.0.cell) a.0 p.2 in
      let s = and_then_ok (λ s. own_target c.0.placed s s.home) (symbol_at c.0.object p.0.symbol) a.0 c.2 in
      own_key c.0 (found-In (λ (d : Cell). d.id.0 == p.0.cell) w.cells c.0 c.1).0 s.0 (symbol-In c.0 p.0.symbol s.0 s.1) s.0.home refl f (ap (option_and_then found_at) s.2 ∙ a.2)
    where
      symbol-In : (c : Cell) (n : ℕ) (s : Symbol) → symbol_at c.object n ≡ Some s → In s c.object.symbols
      symbol-In c zero s h = absurd cc
      symbol-In c (suc n) s h = get-In c.object.symbols n s h

  -- names that cells have
  named : (c : Cell) → In c w.cells → (a : Alias) → In a (names_of c) → is_global_name a.name ≡ true
  named c i = named_well w h c i (cell_spelled c i)

  alias_small : (c : Cell) → In c w.cells → (a : Alias) → In a c.aliases → a.symbol - 1 < 2 ^ 64
  alias_small c i a m =
      let own = all-In (λ a. list_any (λ d. d.symbol == a.symbol) (definitions_of c.object)) c.aliases (known_parts w c (all-In (is_known_cell w) w.cells h.ready.cells c i)).aliases a m in
      let d = any-Has (λ (d : Alias). d.symbol == a.symbol) (definitions_of c.object) own in
      let p = In-map (λ (p : ℕ × Symbol). let x : Alias = record { name = p.1.name; symbol = p.0 } in x) (filter (λ p. is_definition p.1) (numbered_from 1 c.object.symbols)) d.0 d.1 in
      let n = In-numbered c.object.symbols 1 p.0 (In-filtered (λ (p : ℕ × Symbol). is_definition p.1) (numbered_from 1 c.object.symbols) p.0 p.1) in
      let l = slice_get_within c.object.symbols n.0 p.0.1 n.1 in
      let few = (All-In (λ (c : Cell). IsLoadable c.object) w.cells h.ready.objects c i).symbols in
      let same = eqb-true d.0.symbol a.symbol d.2 in
      let number : d.0.symbol ≡ p.0.0 = ap (λ (x : Alias). x.symbol) p.2 in
      let q = n.2 in
      omega (arith, l, few, same, number, q)

  group_small : (c : Cell) → In c w.cells → IfSome (group_of c.standing) SmallNumber
  group_small c i = go c.standing (known_parts w c (all-In (is_known_cell w) w.cells h.ready.cells c i)).standing
    where
      go : (s : Standing) → is_sound_standing w s ≡ true → IfSome (group_of s) SmallNumber
      go Attached e = tt
      go (Detached k) e = let a = leb-true k w.swaps e in let b = h.ready.swap_numbers in let d = h.ready.cell_numbers in omega (arith, a, b, d)

  space_writable : (p : ℕ × Namespace) → In p (numbered w.namespaces) → IsWritable (ns_line p)
  space_writable p i =
      let n = In-numbered w.namespaces 0 p i in
      let l = slice_get_within w.namespaces n.0 p.1 n.1 in
      let few = h.ready.few_spaces in let q = n.2 in
      let small : p.0 < 256 = omega (arith, l, few, q) in
      (omega (arith, small), All-In (λ (s : Namespace). is_name s.name ≡ true) w.namespaces spelled.spaces p.1 (get-In w.namespaces n.0 p.1 n.1), above p.1.parent small (all-In is_sound_parent (numbered w.namespaces) parents p i))
    where
      parents : list_all is_sound_parent (numbered w.namespaces) ≡ true
      parents = (and_parts (begins_with_k w.namespaces) (list_all is_sound_parent (numbered w.namespaces)) h.ready.spaces).1

      above : (o : Option ℕ) → p.0 < 256 → elim o as (λ _. Bool) [ None ↦ p.0 == 0 | Some parent ↦ nat_lt parent p.0 ] ≡ true → IfSome o SmallNumber
      above None small e = tt
      above (Some parent) small e = let a = ltb-true parent p.0 e in omega (arith, a, small)

  link_writable : (l : LinkRow) → In l w.links → IsWritable (link_line l)
  link_writable l i =
      let j = All-In (JoinsPresent w) w.links (links_present w h) l i in
      (key_writable l.user j.user, entry_small (subst (λ (ls : List LinkRow). In l ls) (sym (ap (λ (x : World). x.links) h.linked)) i), key_writable l.target j.target)
    where
      with_target : (c : Cell) (p : ℕ × Entry) (t : Target) → link_to c p.0 p.1 t ≡ Some l → l.entry ≡ p.0
      with_target c p (Section key offset addr) e = subst (λ (x : Option LinkRow). elim x as (λ _. Type 0) [ None ↦ Unit {0} | Some z ↦ z.entry ≡ p.0 ]) e refl
      with_target c p (Number value) e = absurd cc

      number : (c : Cell) (p : ℕ × Entry) (o : Option Target) → elim o as (λ _. Option LinkRow) [ None ↦ None | Some target ↦ link_to c p.0 p.1 target ] ≡ Some l → l.entry ≡ p.0
      number c p None e = absurd cc
      number c p (Some t) e = with_target c p t e

      entry_small : In l (links_of w) → l.entry < 2 ^ 64
      entry_small k =
          let c = In-flat_map (λ c. filter_map (link_of w c) (numbered c.object.entries)) w.cells l k in
          let p = In-filter_map (link_of w c.0) (numbered c.0.object.entries) l c.2 in
          let n = In-numbered c.0.object.entries 0 p.0 p.1 in
          let b = slice_get_within c.0.object.entries n.0 p.0.1 n.1 in
          let few = (All-In (λ (c : Cell). IsLoadable c.object) w.cells h.ready.objects c.0 c.1).entries in
          let same = number c.0 p.0 (target_of w c.0 p.0.1) p.2 in
          let q = n.2 in
          omega (arith, b, few, same, q)

  held_bytes : (c : Cell) → In c w.cells → (s : ObjectSection) → In s c.object.sections → (b : ℕ) → In b (held_in w c s) → b < 256
  held_bytes c i s m b j = go s.size refl
    where
      go : (n : ℕ) → s.size ≡ n → b < 256
      go zero e = absurd (none (held_in w c s) (held_size w h c i s m ∙ e) j)
        where
          none : (xs : List ℕ) → length xs ≡ 0 → In b xs → ⊥
          none [] e k = k
          none (x ∷ xs) e k = absurd (omega (arith, e))
      go (suc n) e =
          let q = holds w h c i s m (omega (arith, e)) in
          All-In (λ (b : ℕ). b < 256) q.region.bytes (All-In (λ (r : Region). All (λ b. b < 256) r.bytes) w.regions held q.region q.there) b
          (In-drop (start_of c.placed s.number - q.region.start) q.region.bytes b (In-take s.size (drop (start_of c.placed s.number - q.region.start) q.region.bytes) b (subst (λ (xs : List ℕ). In b xs) q.is j)))

  bytes_writable : (c : Cell) → In c w.cells → (s : ObjectSection) → In s c.object.sections → (at : Part) (addr : ℕ) (bytes : List ℕ) → In (Content at addr bytes) (section_lines (held_in w) c s) → IsWritable (Content at addr bytes)
  bytes_writable c i s m at addr bytes k =
      let own : Part = record { cell = c.id.0; section = s.number } in
      let r = pieces ((length (held_in w c s) + 63) / 64) own (start_of c.placed s.number) (held_in w c s) (Content at addr bytes) (omega arith) k in
      subst IsWritable (sym r.is) (
        (let a = cell_small c i in omega (arith, a), let a = section_small c i s m in omega (arith, a)),
        (let a = r.high in let b = ends_low c i s m in let d = held_size w h c i s m in omega (arith, a, b, d)),
        In-All (λ (b : ℕ). b < 256) r.some (λ b j. held_bytes c i s m b (r.own b j)),
        and_from (nat_lt 0 (length r.some)) (nat_le (length r.some) 64) (lt-ltb 0 (length r.some) r.filled) (le-leb (length r.some) 64 r.few),
      )

  pub all_writable : (l : DumpLine) → In l (dump_lines w) → IsWritable l
  all_writable l i = each_line w IsWritable (record {
    space = let a = h.ready.space.highest in let b = h.ready.space.most in (omega (arith, a), omega (arith, b));
    ns = space_writable;
    cell = λ c j. let a = cell_small c j in let b = ns_small c j in
        (omega (arith, a), omega (arith, b), (cell_spelled c j).stem, (cell_spelled c j).file, group_small c j);
    place = λ c j s m. let a = cell_small c j in let b = section_small c j s m in let d = ends_low c j s m in (omega (arith, a), omega (arith, b), omega (arith, d));
    alias = λ c j a m. let x = cell_small c j in (omega (arith, x), alias_small c j a m, named c j a (In-right (definitions_of c.object) c.aliases a m));
    link = link_writable;
    provider = λ c j a m f e. let x = ns_small c j in let y = provided_writable c.ns a.name f e in (omega (arith, x), named c j a m, y.0, y.1);
    bytes = bytes_writable;
    end = tt;
  }) l i

pub spelled_writable : (w : World) → IsCoherent w → IsSpelled w → AreBytes w.regions → All IsWritable (dump_lines w)
spelled_writable w h s b = In-All IsWritable (dump_lines w) (all_writable w h s b)

pub from_one : (w : World) → IsSpelled w → All (λ c. 1 ≤ c.id.0) w.cells
from_one w s = In-All (λ (c : Cell). 1 ≤ c.id.0) w.cells (λ c i. (All-In IsSpelledCell w.cells s.cells c i).number)
