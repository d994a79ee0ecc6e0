-- The bytes that a dump tells are those that its sections hold.
use Rattle.std.proofs.Common.{◌≡◌, refl, sym, ◌∙◌, ap, subst, arith, ℕ, zero, suc, ◌+◌, ◌-◌, ◌*◌, ◌<◌, ◌≤◌, ◌⊎◌, inl, inr, Bool, true, false, List, [], ◌∷◌, ◌++◌, map, length, take, drop, Option, Some, None, get_or, length-drop}
use Rattle.std.specs.Prelude.{◌/◌, min, filter_map, nat_le, nat_lt, ◌&&◌, slice_index, unwrap_or}
use Rattle.std.specs.List.{cons_option, flat_map}
use Rattle.std.proofs.lemmas.Bool.{and_parts, and_from, le-leb, leb-true, lt-ltb, ltb-true}
use Rattle.std.proofs.lemmas.Bool.Decides.{nat_tests}
use Rattle.std.proofs.lemmas.List.{get_or-drop, get_or-take, length-take}
use Rattle.std.proofs.lemmas.List.Elements.{filter_map-append}
use Rattle.cell_num.specs.Lists.{In, first, from_on, upto, where_true}
use Rattle.cell_num.proofs.Elements.{In-flat_map, flat_map-In}
use Rattle.cell_object.specs.declared.object.Section.{Section as ObjectSection}
use Rattle.cell_world.specs.Coherent.{IsCoherent}
use Rattle.cell_world.specs.Running.Memory.{covers}
use Rattle.cell_world.specs.Linked.Target.{start_of}
use Rattle.cell_world.specs.World.{World, Cell, Region}
use Rattle.cell_lemmas.proofs.Fields.FieldsInside.{section_class}
use Rattle.cell_lemmas.proofs.Fields.Slices.{slice, slice_at, slice_length}
use Rattle.cell_lemmas.proofs.Placement.Bare.{covers_once}
use Rattle.cell_laws.proofs.Parts.{read_window}
use Rattle.cell_world.specs.DumpLines.{alias_line, cell_lines, dump_lines, held_in, lines_within, place_line, section_lines}
use Rattle.cell_world.specs.declared.line.DumpLine.TheVariants.{Content}
use Rattle.cell_world.specs.declared.line.Part.{Part}
use Rattle.cell_audit.specs.Described.{byte_at, byte_in, told}
use Rattle.cell_audit_laws.proofs.Contents.{held_none}
use Rattle.cell_audit_laws.proofs.Selected.{flat_selected, of_contents, quiet_map}

-- the byte that stands there
pub record Gives (addr : ℕ) (bytes : List ℕ) (a v : ℕ) : Type 0 where
  pub low : addr ≤ a
  pub high : a < addr + length bytes
  pub is : v ≡ get_or bytes (a - addr) 0

In-option : (o : Option ℕ) (rest : List ℕ) (v : ℕ) → In v (cons_option o rest) → (o ≡ Some v) ⊎ In v rest
In-option None rest v i = inr i
In-option (Some x) rest v (inl e) = inl (ap Some (sym e))
In-option (Some x) rest v (inr i) = inr i

rest_In : (o : Option ℕ) (rest : List ℕ) (v : ℕ) → In v rest → In v (cons_option o rest)
rest_In None rest v i = i
rest_In (Some x) rest v i = inr i

where_is : (b : Bool) (x v : ℕ) → where_true b x ≡ Some v → (b ≡ true) × (x ≡ v)
where_is true x v e = (refl, cc)
where_is false x v e = absurd cc

given : (n : ℕ) (at : Part) (addr : ℕ) (bytes : List ℕ) (a v : ℕ) → In v (filter_map (byte_in a) (lines_within n at addr bytes)) → Gives addr bytes a v
given zero at addr bytes a v i = absurd i
given (suc n) at addr bytes a v i =
    go (In-option (byte_in a (Content at addr (take 64 bytes))) (filter_map (byte_in a) (lines_within n at (addr + 64) (drop 64 bytes))) v i)
    (λ k. given n at (addr + 64) (drop 64 bytes) a v k)
  where
    go : (byte_in a (Content at addr (take 64 bytes)) ≡ Some v) ⊎ In v (filter_map (byte_in a) (lines_within n at (addr + 64) (drop 64 bytes)))
        → (In v (filter_map (byte_in a) (lines_within n at (addr + 64) (drop 64 bytes))) → Gives (addr + 64) (drop 64 bytes) a v) → Gives addr bytes a v
    go (inl e) f =
        let w = where_is (nat_le addr a && nat_lt a (addr + length (take 64 bytes))) (slice_index (take 64 bytes) (a - addr)) v e in
        let p = and_parts (nat_le addr a) (nat_lt a (addr + length (take 64 bytes))) w.0 in
        let l : addr ≤ a = leb-true addr a p.0 in
        let g : a < addr + length (take 64 bytes) = ltb-true a (addr + length (take 64 bytes)) p.1 in
        let n : length (take 64 bytes) ≡ min 64 (length bytes) = length-take 64 bytes in
        record { low = l; high = omega (arith, l, g, n); is = sym w.1 ∙ get_or-take 64 bytes (a - addr) 0 (omega (arith, l, g, n)) }
    go (inr k) f =
        let r = f k in
        let d : length (drop 64 bytes) ≡ length bytes - 64 = length-drop 64 bytes in
        record {
          low = let l = r.low in omega (arith, l);
          high = let l = r.low in let g = r.high in omega (arith, l, g, d);
          is = r.is ∙ (get_or-drop 64 bytes (a - (addr + 64)) 0 ∙ ap (λ (j : ℕ). get_or bytes j 0) (let l = r.low in omega (arith, l)));
        }

gives_one : (n : ℕ) (at : Part) (addr : ℕ) (bytes : List ℕ) (a : ℕ) → length bytes ≤ 64 * n → addr ≤ a → a < addr + length bytes → (v : ℕ) × In v (filter_map (byte_in a) (lines_within n at addr bytes))
gives_one zero at addr bytes a few low high = absurd (omega (arith, few, low, high))
gives_one (suc n) at addr bytes a few low high = go (nat_lt a (addr + 64)) refl (λ l. gives_one n at (addr + 64) (drop 64 bytes) a (omega (arith, d, few)) l (omega (arith, d, low, high, l)))
  where
    d : length (drop 64 bytes) ≡ length bytes - 64
    d = length-drop 64 bytes

    t : length (take 64 bytes) ≡ min 64 (length bytes)
    t = length-take 64 bytes

    go : (b : Bool) → nat_lt a (addr + 64) ≡ b
        → (addr + 64 ≤ a → (v : ℕ) × In v (filter_map (byte_in a) (lines_within n at (addr + 64) (drop 64 bytes))))
        → (v : ℕ) × In v (filter_map (byte_in a) (lines_within (suc n) at addr bytes))
    go true e f =
        let l : a < addr + 64 = ltb-true a (addr + 64) e in
        let test : (nat_le addr a && nat_lt a (addr + length (take 64 bytes))) ≡ true = and_from (nat_le addr a) (nat_lt a (addr + length (take 64 bytes))) (le-leb addr a low) (lt-ltb a (addr + length (take 64 bytes)) (omega (arith, t, l, high))) in (
          slice_index (take 64 bytes) (a - addr),
          subst (λ (b : Bool). In (slice_index (take 64 bytes) (a - addr)) (cons_option (where_true b (slice_index (take 64 bytes) (a - addr))) (filter_map (byte_in a) (lines_within n at (addr + 64) (drop 64 bytes))))) (sym test) (inl refl),
        )
    go false e f =
        let r = f (not_less a (addr + 64) e) in
        (r.0, rest_In (byte_in a (Content at addr (take 64 bytes))) (filter_map (byte_in a) (lines_within n at (addr + 64) (drop 64 bytes))) r.0 r.1)
      where
        not_less : (x y : ℕ) → nat_lt x y ≡ false → y ≤ x
        not_less x y e = grind (arith, nat_tests)

first_all : (xs : List ℕ) (m v : ℕ) → In v xs → ((u : ℕ) → In u xs → u ≡ m) → unwrap_or (first xs) 0 ≡ m
first_all [] m v i f = absurd i
first_all (x ∷ xs) m v i f = f x (inl refl)

tabled : (xs : List ℕ) (a : ℕ) (f : ℕ → ℕ) → ((k : ℕ) → k < length xs → f (a + k) ≡ get_or xs k 0) → map f (from_on a (length xs)) ≡ xs
tabled [] a f h = refl
tabled (x ∷ xs) a f h =
    let n : a ≡ a + 0 = omega arith in
    ap (λ (y : ℕ). y ∷ map f (from_on (suc a) (length xs))) (ap f n ∙ h 0 (omega arith))
    ∙ ap (λ (ys : List ℕ). x ∷ ys) (tabled xs (suc a) f (λ k l. let m : suc a + k ≡ a + suc k = omega arith in ap f m ∙ h (suc k) (omega (arith, l))))

module _ (w : World) (h : IsCoherent w) where
  -- where a section's bytes stand in the memory
  pub record Holds (c : Cell) (s : ObjectSection) : Type 0 where
    pub region : Region
    pub there : In region w.regions
    pub low : region.start ≤ start_of c.placed s.number
    pub high : start_of c.placed s.number + s.size ≤ region.start + length region.bytes
    pub is : held_in w c s ≡ slice region.bytes (start_of c.placed s.number - region.start) s.size

  pub holds : (c : Cell) → In c w.cells → (s : ObjectSection) → In s c.object.sections → 0 < s.size → Holds c s
  holds c i s m pos =
      let q = section_class w h.ready.regions h.ready.apart h.ready.placed h.ready.objects c i s m in
      record {
        region = q.0;
        there = q.1;
        low = q.2;
        high = q.3;
        is = ap (λ (o : Option (List ℕ)). unwrap_or o []) (read_window w h q.0 q.1 (start_of c.placed s.number) s.size pos q.2 q.3);
      }

  pub held_size : (c : Cell) → In c w.cells → (s : ObjectSection) → In s c.object.sections → length (held_in w c s) ≡ s.size
  held_size c i s m = go s.size refl
    where
      go : (n : ℕ) → s.size ≡ n → length (held_in w c s) ≡ s.size
      go zero e = ap length (held_none w h c i s m e) ∙ sym e
      go (suc n) e =
          let q = holds c i s m (omega (arith, e)) in
          let l = q.low in let g = q.high in
          ap length q.is ∙ (slice_length q.region.bytes (start_of c.placed s.number - q.region.start) s.size ∙ omega (arith, l, g))

  -- two sections that hold a byte at one address hold the same one
  same_byte : (c d : Cell) → In c w.cells → In d w.cells → (s t : ObjectSection) → In s c.object.sections → In t d.object.sections
      → (j k : ℕ) → j < s.size → k < t.size → start_of c.placed s.number + j ≡ start_of d.placed t.number + k → get_or (held_in w c s) j 0 ≡ get_or (held_in w d t) k 0
  same_byte c d i j s t m n x y p q e =
      let a = holds c i s m (omega (arith, p)) in
      let b = holds d j t n (omega (arith, q)) in
      let al = a.low in let ah = a.high in let bl = b.low in let bh = b.high in
      let ca : covers a.region (start_of c.placed s.number + x) ≡ true = and_from _ _ (le-leb a.region.start (start_of c.placed s.number + x) (omega (arith, al))) (lt-ltb (start_of c.placed s.number + x) (a.region.start + length a.region.bytes) (omega (arith, ah, p))) in
      let cb : covers b.region (start_of c.placed s.number + x) ≡ true = and_from _ _ (le-leb b.region.start (start_of c.placed s.number + x) (omega (arith, bl, e))) (lt-ltb (start_of c.placed s.number + x) (b.region.start + length b.region.bytes) (omega (arith, bh, q, e))) in
      let same : a.region ≡ b.region = covers_once w h a.region b.region (start_of c.placed s.number + x) a.there b.there ca cb in
      let starts : a.region.start ≡ b.region.start = ap (λ (r : Region). r.start) same in
      ap (λ (bytes : List ℕ). get_or bytes x 0) a.is
      ∙ (slice_at a.region.bytes (start_of c.placed s.number - a.region.start) s.size x p
      ∙ (ap (λ (r : Region). get_or r.bytes (start_of c.placed s.number - a.region.start + x) 0) same
      ∙ (ap (λ (z : ℕ). get_or b.region.bytes z 0) (omega (arith, al, bl, e, starts))
      ∙ (sym (slice_at b.region.bytes (start_of d.placed t.number - b.region.start) t.size y q)
      ∙ ap (λ (bytes : List ℕ). get_or bytes y 0) (sym b.is)))))

  module _ (c : Cell) (i : In c w.cells) (s : ObjectSection) (m : In s c.object.sections) where
    abbrev at : ℕ
    at = start_of c.placed s.number

    quiet_cell : (a : ℕ) (d : Cell) → filter_map (byte_in a) (cell_lines d) ≡ []
    quiet_cell a d =
        filter_map-append (byte_in a) (map (place_line d) d.object.sections) (map (alias_line d) d.aliases)
        ∙ (ap (λ (xs : List ℕ). xs ++ filter_map (byte_in a) (map (alias_line d) d.aliases)) (quiet_map (byte_in a) (place_line d) d.object.sections (λ x. refl))
        ∙ quiet_map (byte_in a) (alias_line d) d.aliases (λ x. refl))

    of_dump : (a : ℕ) → filter_map (byte_in a) (dump_lines w) ≡ flat_map (λ d. flat_map (λ t. filter_map (byte_in a) (section_lines (held_in w) d t)) d.object.sections) w.cells
    of_dump a =
        of_contents (byte_in a) (held_in w) w (record { space = λ b p. refl; ns = λ n name p. refl; cell = quiet_cell a; link = λ u t e. refl; provider = λ ns name at offset. refl; end = refl })
        ∙ (flat_selected (byte_in a) (λ (d : Cell). flat_map (section_lines (held_in w) d) d.object.sections) w.cells
        ∙ same w.cells)
      where
        same : (ds : List Cell) → flat_map (λ (d : Cell). filter_map (byte_in a) (flat_map (section_lines (held_in w) d) d.object.sections)) ds
            ≡ flat_map (λ (d : Cell). flat_map (λ t. filter_map (byte_in a) (section_lines (held_in w) d t)) d.object.sections) ds
        same [] = refl
        same (d ∷ ds) =
            ap (λ (xs : List ℕ). xs ++ flat_map (λ (d : Cell). filter_map (byte_in a) (flat_map (section_lines (held_in w) d) d.object.sections)) ds) (flat_selected (byte_in a) (section_lines (held_in w) d) d.object.sections)
            ∙ ap (λ (xs : List ℕ). flat_map (λ t. filter_map (byte_in a) (section_lines (held_in w) d t)) d.object.sections ++ xs) (same ds)

    byte_told : (k : ℕ) → k < s.size → byte_at (dump_lines w) (at + k) ≡ get_or (held_in w c s) k 0
    byte_told k l =
        ap (λ (xs : List ℕ). unwrap_or (first xs) 0) (of_dump (at + k))
        ∙ first_all (flat_map (λ d. flat_map (λ t. filter_map (byte_in (at + k)) (section_lines (held_in w) d t)) d.object.sections) w.cells) (get_or (held_in w c s) k 0) one.0 one_there all
      where
        size : length (held_in w c s) ≡ s.size
        size = held_size c i s m

        one : (v : ℕ) × In v (filter_map (byte_in (at + k)) (section_lines (held_in w) c s))
        one = gives_one ((length (held_in w c s) + 63) / 64) (record { cell = c.id.0; section = s.number }) at (held_in w c s) (at + k) (omega arith) (omega arith) (omega (arith, size, l))

        one_there : In one.0 (flat_map (λ d. flat_map (λ t. filter_map (byte_in (at + k)) (section_lines (held_in w) d t)) d.object.sections) w.cells)
        one_there =
            flat_map-In (λ (d : Cell). flat_map (λ t. filter_map (byte_in (at + k)) (section_lines (held_in w) d t)) d.object.sections) w.cells c one.0 i
            (flat_map-In (λ (t : ObjectSection). filter_map (byte_in (at + k)) (section_lines (held_in w) c t)) c.object.sections s one.0 m one.1)

        all : (u : ℕ) → In u (flat_map (λ d. flat_map (λ t. filter_map (byte_in (at + k)) (section_lines (held_in w) d t)) d.object.sections) w.cells) → u ≡ get_or (held_in w c s) k 0
        all u j =
            let d = In-flat_map (λ (d : Cell). flat_map (λ t. filter_map (byte_in (at + k)) (section_lines (held_in w) d t)) d.object.sections) w.cells u j in
            let t = In-flat_map (λ (t : ObjectSection). filter_map (byte_in (at + k)) (section_lines (held_in w) d.0 t)) d.0.object.sections u d.2 in
            let g = given ((length (held_in w d.0 t.0) + 63) / 64) (record { cell = d.0.id.0; section = t.0.number }) (start_of d.0.placed t.0.number) (held_in w d.0 t.0) (at + k) u t.2 in
            let n = held_size d.0 d.1 t.0 t.1 in
            let gl = g.low in let gh = g.high in
            g.is ∙ sym (same_byte c d.0 i d.1 s t.0 m t.1 k (at + k - start_of d.0.placed t.0.number) l (omega (arith, gl, gh, n)) (omega (arith, gl)))

    pub told_is : told (dump_lines w) c s ≡ held_in w c s
    told_is =
        ap (λ (n : ℕ). map (λ k. byte_at (dump_lines w) (at + k)) (upto n)) (sym (held_size c i s m))
        ∙ tabled (held_in w c s) 0 (λ k. byte_at (dump_lines w) (at + k))
        (λ k l. let e : 0 + k ≡ k = omega arith in let n = held_size c i s m in ap (λ (j : ℕ). byte_at (dump_lines w) (at + j)) e ∙ byte_told k (omega (arith, l, n)))
