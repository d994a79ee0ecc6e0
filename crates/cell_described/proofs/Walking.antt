-- The first misplaced line, among rows and cell by cell.
use Rattle.std.proofs.Common.{◌≡◌, ℕ, suc, inl, inr, Bool, true, false, not, cond, List, [], ◌∷◌, ◌++◌, map, Option, Some, None, refl, sym, ap, ◌∙◌, arith, true≢false, append_assoc}
use Rattle.std.specs.Prelude.{◌==◌, filter, filter_map, find, nat_lt, option_map, option_and_then, unwrap_or}
use Rattle.std.specs.List.{cons_option, flat_map, list_all, list_any}
use Rattle.std.proofs.lemmas.Bool.{and_parts, eq-eqb}
use Rattle.std.proofs.lemmas.Bool.Decides.{nat_tests}
use Rattle.std.proofs.lemmas.List.{append-nil}
use Rattle.std.proofs.lemmas.List.Elements.{filter_map-append}
use Rattle.std.proofs.lemmas.Slice.Eq.{bytes_eq-Decides}
use Rattle.cell_num.specs.Lists.{In, each_pair, equals, or_else}
use Rattle.cell_num.proofs.Elements.{all-In, or_else_parts}
use Rattle.cell_object.specs.declared.object.Object.{Object}
use Rattle.cell_object.specs.declared.object.Section.{Section as ObjectSection}
use Rattle.cell_object.specs.Parts.{section_of}
use Rattle.cell_world.specs.Gather.{Source}
use Rattle.cell_world.specs.Names.{definitions_of}
use Rattle.cell_world.specs.declared.state.SecPlace.{SecPlace}
use Rattle.cell_world.specs.declared.line.DumpLine.{DumpLine}
use Rattle.cell_world.specs.declared.line.DumpLine.TheVariants.{Space, Ns, Cell as CellLine, Place, Alias as AliasLine, Link, Provider, Content, End}
use Rattle.cell_audit.specs.Described.{place_of, space_of}
use Rattle.cell_audit.specs.Dumps.{Row, lines_of}
use Rattle.cell_audit.specs.Following.{rank_of}
use Rattle.cell_audit.specs.Placing.{Extent, extent_of, first_misplaced, first_object, has_definition, has_places, is_misplaced, may_stand, misplaced_after}
use Rattle.cell_audit.specs.Written.{AreWritten, alias_row, is_of_cell, place_row, rows_of}
use Rattle.cell_audit.specs.declared.written.WrittenPlace.{WrittenPlace}
use Rattle.cell_audit.specs.declared.written.WrittenAlias.{WrittenAlias}
use Rattle.cell_audit.specs.declared.written.WrittenCell.{WrittenCell}
use Rattle.cell_described.specs.declared.finding.FoundCell.{FoundCell}
use Rattle.cell_described.specs.Faults.{alias_fault, cell_fault, cells_fault, defines, has_sections, object_at, place_fault, place_seen, taken_after}
use Rattle.cell_described.specs.Taken.{TakenState, fits, with_section}
use Rattle.cell_described.proofs.Definitions.{defined_is}
use Rattle.cell_described.proofs.Marks.{AreTaken, may_stand_is, taken_more}

-- the section of a number, among sections whose numbers rise
pub own_section : (sections : List ObjectSection) → each_pair (λ a b. nat_lt a.number b.number) sections ≡ true → (s : ObjectSection) → In s sections
    → find (λ t. t.number == s.number) sections ≡ Some s
own_section [] rise s i = absurd i
own_section (t ∷ sections) rise s (inl e) =
    ap (λ (b : Bool). cond b (Some t) (find (λ x. x.number == s.number) sections)) (eq-eqb t.number s.number (ap (λ (x : ObjectSection). x.number) (sym e)))
    ∙ ap (λ (x : ObjectSection). Some x) (sym e)
own_section (t ∷ sections) rise s (inr i) =
    let p = and_parts (list_all (λ x. nat_lt t.number x.number) sections) (each_pair (λ a b. nat_lt a.number b.number) sections) rise in
    ap (λ (b : Bool). cond b (Some t) (find (λ x. x.number == s.number) sections)) (other t.number s.number (all-In (λ x. nat_lt t.number x.number) sections p.0 s i))
    ∙ own_section sections p.1 s i
  where
    other : (a b : ℕ) → nat_lt a b ≡ true → (a == b) ≡ false
    other a b lt = grind (arith, nat_tests)

module _ (sources : List Source) (lines : List DumpLine) where
  -- the line places what can't stand there, behind these sections
  abbrev wrong : List Extent → DumpLine → Bool
  wrong es (CellLine cell ns stem file group) = not (has_places sources lines cell)
  wrong es (Place cell section start) = not (unwrap_or (option_map (may_stand (space_of lines) es) (extent_of sources lines (Place cell section start))) false)
  wrong es (AliasLine cell symbol name) = not (has_definition sources lines cell symbol)
  wrong es (Space base pages) = false
  wrong es (Ns number name parent) = false
  wrong es (Link user entry target) = false
  wrong es (Provider ns name at offset) = false
  wrong es (Content at addr bytes) = false
  wrong es End = false

  same_wrong : (before : List DumpLine) (l : DumpLine) → is_misplaced sources lines before l ≡ wrong (filter_map (extent_of sources lines) before) l
  same_wrong before (CellLine cell ns stem file group) = refl
  same_wrong before (Place cell section start) = refl
  same_wrong before (AliasLine cell symbol name) = refl
  same_wrong before (Space base pages) = refl
  same_wrong before (Ns number name parent) = refl
  same_wrong before (Link user entry target) = refl
  same_wrong before (Provider ns name at offset) = refl
  same_wrong before (Content at addr bytes) = refl
  same_wrong before End = refl

  quiet_wrong : (es : List Extent) (l : DumpLine) → (rank_of l == 2) ≡ false → wrong es l ≡ false
  quiet_wrong es (CellLine cell ns stem file group) e = absurd (true≢false e)
  quiet_wrong es (Place cell section start) e = absurd (true≢false e)
  quiet_wrong es (AliasLine cell symbol name) e = absurd (true≢false e)
  quiet_wrong es (Space base pages) e = refl
  quiet_wrong es (Ns number name parent) e = refl
  quiet_wrong es (Link user entry target) e = refl
  quiet_wrong es (Provider ns name at offset) e = refl
  quiet_wrong es (Content at addr bytes) e = refl
  quiet_wrong es End e = refl

  quiet_extent : (l : DumpLine) → (rank_of l == 2) ≡ false → extent_of sources lines l ≡ None
  quiet_extent (Place cell section start) e = absurd (true≢false e)
  quiet_extent (CellLine cell ns stem file group) e = refl
  quiet_extent (AliasLine cell symbol name) e = refl
  quiet_extent (Space base pages) e = refl
  quiet_extent (Ns number name parent) e = refl
  quiet_extent (Link user entry target) e = refl
  quiet_extent (Provider ns name at offset) e = refl
  quiet_extent (Content at addr bytes) e = refl
  quiet_extent End e = refl

  -- the first wrong row, behind these sections
  abbrev walk : List Extent → List Row → Option ℕ
  walk es [] = None
  walk es (r ∷ rows) = cond (wrong es r.1) (Some r.0) (walk (es ++ cons_option (extent_of sources lines r.1) []) rows)

  walked : (before : List DumpLine) (rows : List Row) → misplaced_after sources lines before rows ≡ walk (filter_map (extent_of sources lines) before) rows
  walked before [] = refl
  walked before (r ∷ rows) =
      ap (λ (b : Bool). cond b (Some r.0) (misplaced_after sources lines (before ++ r.1 ∷ []) rows)) (same_wrong before r.1)
      ∙ ap (cond (wrong (filter_map (extent_of sources lines) before) r.1) (Some r.0))
      (walked (before ++ r.1 ∷ []) rows ∙ ap (λ (es : List Extent). walk es rows) (filter_map-append (extent_of sources lines) before (r.1 ∷ [])))

  walk_cells : (rows : List Row) (es : List Extent) → walk es rows ≡ walk es (filter is_of_cell rows)
  walk_cells [] es = refl
  walk_cells (r ∷ rows) es = go (rank_of r.1 == 2) refl (walk_cells rows)
    where
      go : (b : Bool) → (rank_of r.1 == 2) ≡ b → ((fs : List Extent) → walk fs rows ≡ walk fs (filter is_of_cell rows))
          → cond (wrong es r.1) (Some r.0) (walk (es ++ cons_option (extent_of sources lines r.1) []) rows) ≡ walk es (cond b (r ∷ filter is_of_cell rows) (filter is_of_cell rows))
      go true e ih = ap (cond (wrong es r.1) (Some r.0)) (ih (es ++ cons_option (extent_of sources lines r.1) []))
      go false e ih =
          ap (λ (b : Bool). cond b (Some r.0) (walk (es ++ cons_option (extent_of sources lines r.1) []) rows)) (quiet_wrong es r.1 e)
          ∙ ap (λ (o : Option Extent). walk (es ++ cons_option o []) rows) (quiet_extent r.1 e)
          ∙ ap (λ (fs : List Extent). walk fs rows) (append-nil es)
          ∙ ih es

  -- so far, the first fault, and what is taken where there is none
  pub record Goes (after : TakenState) (fault whole : Option ℕ) (rest : List Row) : Type 0 where
    pub es : List Extent
    pub is : whole ≡ or_else fault (walk es rest)
    pub taken : fault ≡ None → AreTaken (space_of lines) es after

  some_none : (n : ℕ) → Some n ≡ None → ⊥
  some_none n e = cc

  cons_nil : (x : ℕ) (xs : List ℕ) → x ∷ xs ≡ [] → ⊥
  cons_nil x xs e = cc

  conses : (x y : ℕ) (xs ys : List ℕ) → x ∷ xs ≡ y ∷ ys → (x ≡ y) × (xs ≡ ys)
  conses x y xs ys e = (cc, cc)

  module _ (file : List ℕ) (cell : ℕ) (object : Object) (known : first_object sources lines cell ≡ Some object) where
    alias_wrong : (es : List Extent) (a : WrittenAlias) → wrong es (alias_row file cell a).1 ≡ not (defines object a.symbol)
    alias_wrong es a =
        ap (λ (o : Option Object). not (unwrap_or (option_map (λ ob. list_any (λ d. d.symbol == suc a.symbol) (definitions_of ob)) o) false)) known
        ∙ ap not (defined_is object a.symbol)

    walk_aliases : (aliases : List WrittenAlias) (es : List Extent) (rest : List Row) → walk es (map (alias_row file cell) aliases ++ rest) ≡ or_else (alias_fault object aliases) (walk es rest)
    walk_aliases [] es rest = refl
    walk_aliases (a ∷ aliases) es rest =
        ap (λ (b : Bool). cond b (Some a.line) (walk (es ++ []) (map (alias_row file cell) aliases ++ rest))) (alias_wrong es a)
        ∙ ap (λ (fs : List Extent). cond (not (defines object a.symbol)) (Some a.line) (walk fs (map (alias_row file cell) aliases ++ rest))) (append-nil es)
        ∙ ap (cond (not (defines object a.symbol)) (Some a.line)) (walk_aliases aliases es rest)
        ∙ go (not (defines object a.symbol))
      where
        go : (b : Bool) → cond b (Some a.line) (or_else (alias_fault object aliases) (walk es rest))
            ≡ or_else (option_map (λ a. a.line) (cond b (Some a) (find (λ a. not (defines object a.symbol)) aliases))) (walk es rest)
        go true = refl
        go false = refl

    -- one place
    module _ (es : List Extent) (t : TakenState) (h : AreTaken (space_of lines) es t) (rest : List Row) (s : ObjectSection) (p : WrittenPlace)
        (own : section_of object s.number ≡ Some s) (number : p.section ≡ s.number) where
      abbrev at : Extent
      at = record { start = p.start; section = s }

      extent_is : extent_of sources lines (Place cell p.section p.start) ≡ Some at
      extent_is =
          ap (λ (o : Option Object). option_map (λ x. let e : Extent = record { start = p.start; section = x } in e) (option_and_then (λ ob. section_of ob p.section) o)) known
          ∙ ap (option_map (λ (x : ObjectSection). let e : Extent = record { start = p.start; section = x } in e)) (ap (section_of object) number ∙ own)

      place_here : walk es (place_row cell p ∷ rest) ≡ cond (not (fits t s p.start)) (Some p.line) (walk (es ++ at ∷ []) rest)
      place_here =
          ap (λ (o : Option Extent). cond (not (unwrap_or (option_map (may_stand (space_of lines) es) o) false)) (Some p.line) (walk (es ++ cons_option o []) rest)) extent_is
          ∙ ap (λ (b : Bool). cond (not b) (Some p.line) (walk (es ++ at ∷ []) rest)) (may_stand_is (space_of lines) es t s p.start h)

      -- what the places behind it come to
      place_goes : (b : Bool) → fits t s p.start ≡ b → (after : TakenState) (fault : Option ℕ) (behind : List Row)
          → (AreTaken (space_of lines) (es ++ at ∷ []) (with_section t s p.start) → Goes after fault (walk (es ++ at ∷ []) rest) behind)
          → Goes after (cond (fits t s p.start) fault (Some p.line)) (walk es (place_row cell p ∷ rest)) behind
      place_goes true f after fault behind ih =
          let g = ih (taken_more (space_of lines) es t s p.start h f) in
          let same : cond (fits t s p.start) fault (Some p.line) ≡ fault = ap (λ (b : Bool). cond b fault (Some p.line)) f in
          record {
            es = g.es;
            is = place_here ∙ ap (λ (b : Bool). cond (not b) (Some p.line) (walk (es ++ at ∷ []) rest)) f ∙ g.is ∙ ap (λ (o : Option ℕ). or_else o (walk g.es behind)) (sym same);
            taken = λ e. g.taken (sym same ∙ e);
          }
      place_goes false f after fault behind ih =
          let same : cond (fits t s p.start) fault (Some p.line) ≡ Some p.line = ap (λ (b : Bool). cond b fault (Some p.line)) f in
          record {
            es = [];
            is = place_here ∙ ap (λ (b : Bool). cond (not b) (Some p.line) (walk (es ++ at ∷ []) rest)) f ∙ ap (λ (o : Option ℕ). or_else o (walk [] behind)) (sym same);
            taken = λ e. absurd (some_none p.line (sym same ∙ e));
          }

    walk_places : (sections : List ObjectSection) (places : List WrittenPlace) → ((s : ObjectSection) → In s sections → section_of object s.number ≡ Some s)
        → map (λ p. p.section) places ≡ map (λ s. s.number) sections → (es : List Extent) (t : TakenState) → AreTaken (space_of lines) es t → (rest : List Row)
        → Goes (taken_after t sections places) (place_fault t sections places) (walk es (map (place_row cell) places ++ rest)) rest
    walk_places [] [] own same es t h rest = record { es = es; is = refl; taken = λ e. h }
    walk_places [] (p ∷ places) own same es t h rest = absurd (cons_nil p.section (map (λ (q : WrittenPlace). q.section) places) same)
    walk_places (s ∷ sections) [] own same es t h rest = absurd (cons_nil s.number (map (λ (x : ObjectSection). x.number) sections) (sym same))
    walk_places (s ∷ sections) (p ∷ places) own same es t h rest =
        let k = conses p.section s.number (map (λ (q : WrittenPlace). q.section) places) (map (λ (x : ObjectSection). x.number) sections) same in
        place_goes es t h (map (place_row cell) places ++ rest) s p (own s (inl refl)) k.0 (fits t s p.start) refl
        (taken_after (with_section t s p.start) sections places) (place_fault (with_section t s p.start) sections places) rest
        (λ g. walk_places sections places (λ x i. own x (inr i)) k.1 (es ++ record { start = p.start; section = s } ∷ []) (with_section t s p.start) g rest)

  or_same : (fault a b : Option ℕ) → (fault ≡ None → a ≡ b) → or_else fault a ≡ or_else fault b
  or_same None a b f = f refl
  or_same (Some x) a b f = refl

  or_else_assoc : (a b c : Option ℕ) → or_else a (or_else b c) ≡ or_else (or_else a b) c
  or_else_assoc None b c = refl
  or_else_assoc (Some x) b c = refl

  numbers_seen : (places : List WrittenPlace) → map (λ q. q.section) (map place_seen places) ≡ map (λ p. p.section) places
  numbers_seen [] = refl
  numbers_seen (p ∷ places) = ap (λ (ns : List ℕ). p.section ∷ ns) (numbers_seen places)

  -- what is known of a cell and its object
  pub record IsKnown (objects : List Object) (f : FoundCell) : Type 0 where
    pub object : Object
    pub named : first_object sources lines f.cell.cell ≡ Some object
    pub at : object_at objects f.object ≡ object
    pub rising : each_pair (λ a b. nat_lt a.number b.number) object.sections ≡ true
    pub places : filter_map (place_of f.cell.cell) lines ≡ map place_seen f.cell.places.items

  module _ (file : List ℕ) (objects : List Object) where
    abbrev others : WrittenCell → List Row
    others c = map (place_row c.cell) c.places.items ++ map (alias_row file c.cell) c.aliases.items

    module _ (f : FoundCell) (k : IsKnown objects f) where
      abbrev c : WrittenCell
      c = f.cell

      wrong_cell : (es : List Extent) → wrong es (CellLine c.cell c.ns c.stem c.file c.group) ≡ not (has_sections k.object.sections c.places.items)
      wrong_cell es =
          ap (λ (o : Option Object). not (unwrap_or (option_map (λ ob. equals (map (λ p. p.section) (filter_map (place_of c.cell) lines)) (map (λ s. s.number) ob.sections)) o) false)) k.named
          ∙ ap (λ (ns : List ℕ). not (equals ns (map (λ s. s.number) k.object.sections))) (ap (map (λ (q : SecPlace). q.section)) k.places ∙ numbers_seen c.places.items)

      module _ (es : List Extent) (t : TakenState) (h : AreTaken (space_of lines) es t) (rest : List Row) where
        abbrev sections : List ObjectSection
        sections = k.object.sections

        abbrev places : List WrittenPlace
        places = c.places.items

        abbrev behind : List Row
        behind = map (place_row c.cell) places ++ (map (alias_row file c.cell) c.aliases.items ++ rest)

        abbrev both : Option ℕ
        both = or_else (place_fault t sections places) (alias_fault k.object c.aliases.items)

        first_line : walk es (rows_of file c ++ rest) ≡ cond (not (has_sections sections places)) (Some c.line) (walk es behind)
        first_line =
            ap (λ (b : Bool). cond b (Some c.line) (walk (es ++ []) (others c ++ rest))) (wrong_cell es)
            ∙ ap (λ (fs : List Extent). cond (not (has_sections sections places)) (Some c.line) (walk fs (others c ++ rest))) (append-nil es)
            ∙ ap (λ (rs : List Row). cond (not (has_sections sections places)) (Some c.line) (walk es rs)) (append_assoc (map (place_row c.cell) places) (map (alias_row file c.cell) c.aliases.items) rest)

        cell_goes : (b : Bool) → has_sections sections places ≡ b → Goes (taken_after t sections places) (cell_fault t k.object c) (walk es (rows_of file c ++ rest)) rest
        cell_goes true has =
            let same : map (λ (p : WrittenPlace). p.section) places ≡ map (λ (s : ObjectSection). s.number) sections = (bytes_eq-Decides _ _).0 has in
            let g = walk_places file c.cell k.object k.named sections places (own_section sections k.rising) same es t h (map (alias_row file c.cell) c.aliases.items ++ rest) in
            let fault : cell_fault t k.object c ≡ both = ap (λ (b : Bool). cond b both (Some c.line)) has in
            record {
              es = g.es;
              is =
                  first_line
                  ∙ ap (λ (b : Bool). cond (not b) (Some c.line) (walk es behind)) has
                  ∙ g.is
                  ∙ ap (or_else (place_fault t sections places)) (walk_aliases file c.cell k.object k.named c.aliases.items g.es rest)
                  ∙ or_else_assoc (place_fault t sections places) (alias_fault k.object c.aliases.items) (walk g.es rest)
                  ∙ ap (λ (o : Option ℕ). or_else o (walk g.es rest)) (sym fault);
              taken = λ e. g.taken (or_else_parts (place_fault t sections places) (alias_fault k.object c.aliases.items) (sym fault ∙ e)).0;
            }
        cell_goes false has =
            let fault : cell_fault t k.object c ≡ Some c.line = ap (λ (b : Bool). cond b both (Some c.line)) has in
            record {
              es = [];
              is =
                  first_line
                  ∙ ap (λ (b : Bool). cond (not b) (Some c.line) (walk es behind)) has
                  ∙ ap (λ (o : Option ℕ). or_else o (walk [] rest)) (sym fault);
              taken = λ e. absurd (some_none c.line (sym fault ∙ e));
            }

        walk_cell : Goes (taken_after t sections places) (cell_fault t k.object c) (walk es (rows_of file c ++ rest)) rest
        walk_cell = cell_goes (has_sections sections places) refl

    walk_all : (found : List FoundCell) → ((f : FoundCell) → In f found → IsKnown objects f) → (es : List Extent) (t : TakenState) → AreTaken (space_of lines) es t
        → walk es (flat_map (rows_of file) (map (λ f. f.cell) found)) ≡ cells_fault t objects found
    walk_all [] known es t h = refl
    walk_all (f ∷ found) known es t h =
        let k = known f (inl refl) in
        let rest : List Row = flat_map (rows_of file) (map (λ (f : FoundCell). f.cell) found) in
        let g = walk_cell f k es t h rest in
        let after : TakenState = taken_after t k.object.sections f.cell.places.items in
        g.is
        ∙ or_same (cell_fault t k.object f.cell) (walk g.es rest) (cells_fault after objects found) (λ e. walk_all found (λ x i. known x (inr i)) g.es after (g.taken e))
        ∙ ap (λ (o : Object). or_else (cell_fault t o f.cell) (cells_fault (taken_after t o.sections f.cell.places.items) objects found)) (sym k.at)

-- the first misplaced line of a dump is the first fault of its cells
pub misplaced_is : (sources : List Source) (file : List ℕ) (rows : List Row) (found : List FoundCell) (objects : List Object) (t : TakenState)
    → AreWritten file rows (map (λ f. f.cell) found) → ((f : FoundCell) → In f found → IsKnown sources (lines_of rows) objects f) → AreTaken (space_of (lines_of rows)) [] t
    → first_misplaced sources rows ≡ cells_fault t objects found
misplaced_is sources file rows found objects t w known h =
    walked sources (lines_of rows) [] rows
    ∙ walk_cells sources (lines_of rows) rows []
    ∙ ap (walk sources (lines_of rows) []) w.rows_are
    ∙ walk_all sources (lines_of rows) file objects found known [] t h
