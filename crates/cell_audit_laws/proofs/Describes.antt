-- The dump of a coherent machine describes it.
use Rattle.std.proofs.Common.{◌≡◌, refl, sym, ◌∙◌, ap, subst, arith, ℕ, suc, ◌-◌, ◌⊎◌, inl, inr, Bool, true, false, cond, List, [], ◌∷◌, ◌++◌, map, Option, Some, None, Ok}
use Rattle.std.specs.Prelude.{Result, find, filter_map, nat_lt, option_map, option_and_then, unwrap_or, ◌==◌}
use Rattle.std.specs.List.{cons_option, flat_map, list_all, list_any}
use Rattle.std.specs.Result.{result_ok}
use Rattle.std.proofs.lemmas.Bool.{and_parts, eqb-true, eq-eqb}
use Rattle.std.proofs.lemmas.Bool.Decides.{nat_tests}
use Rattle.std.proofs.lemmas.List.{append-nil}
use Rattle.std.proofs.lemmas.List.Concat.{flat_map_single}
use Rattle.std.proofs.lemmas.List.Elements.{filter_map-append}
use Rattle.std.proofs.lemmas.Slice.Eq.{bytes_eq-Decides}
use Rattle.cell_num.specs.Lists.{In, each_pair, equals, numbered_from, where_true}
use Rattle.cell_num.proofs.Elements.{All-In, all-In, any-Has, In-map, In-numbered, In-filtered, flat_same, pairs-map}
use Rattle.cell_num.proofs.Sublists.{In-fixed}
use Rattle.cell_object.specs.Bytes.{Broken}
use Rattle.cell_object.specs.declared.object.Object.{Object}
use Rattle.cell_object.specs.declared.object.Section.{Section as ObjectSection}
use Rattle.cell_object.specs.Sound.{IsSoundObject}
use Rattle.cell_world.specs.Coherent.{IsCoherent, is_known_cell, is_placed}
use Rattle.cell_world.specs.Gather.{Source, file_named}
use Rattle.cell_world.specs.Names.{definitions_of}
use Rattle.cell_world.specs.Linked.Target.{start_of}
use Rattle.cell_world.specs.World.{World, Cell, Alias, Standing}
use Rattle.cell_world.specs.declared.state.Standing.TheVariants.{Attached, Detached}
use Rattle.cell_world.specs.Commands.MapCommand.{group_of}
use Rattle.cell_world.specs.declared.state.Namespace.{Namespace}
use Rattle.cell_world.specs.declared.state.SecPlace.{SecPlace}
use Rattle.cell_lemmas.proofs.Naming.Known.{known_parts, object_sound}
use Rattle.cell_laws.proofs.Parts.{one_left}
use Rattle.cell_world.specs.DumpLines.{alias_line, cell_lines, dump_lines, held_in, ns_line, place_line}
use Rattle.cell_world.specs.declared.line.DumpLine.{DumpLine}
use Rattle.cell_audit.specs.Described.{alias_of, cell_of, described, namespace_of, no_object, object_of, place_of, standing_of}
use Rattle.cell_audit_laws.specs.Anew.{described_of}
use Rattle.cell_origin_law.specs.Readings.{AreRead, IsRead}
use Rattle.cell_audit_laws.proofs.Selected.{of_cells, of_spaces, quiet_map}

standing_back : (s : Standing) → standing_of (group_of s) ≡ s
standing_back Attached = refl
standing_back (Detached k) = refl

-- namespaces
spaces_back : (xs : List Namespace) (k : ℕ) → filter_map namespace_of (map ns_line (numbered_from k xs)) ≡ xs
spaces_back [] k = refl
spaces_back (x ∷ xs) k = ap (λ (ys : List Namespace). x ∷ ys) (spaces_back xs (suc k))

-- places of sections whose numbers rise
abbrev Rising : List SecPlace → Type 0
Rising ps = each_pair (λ p q. nat_lt p.section q.section) ps ≡ true

found_own : (ps : List SecPlace) → Rising ps → (p : SecPlace) → In p ps → find (λ q. q.section == p.section) ps ≡ Some p
found_own [] r p i = absurd i
found_own (q ∷ ps) r p (inl e) =
    ap (λ (b : Bool). cond b (Some q) (find (λ x. x.section == p.section) ps)) (eq-eqb q.section p.section (ap (λ (x : SecPlace). x.section) (sym e))) ∙ ap (λ (x : SecPlace). Some x) (sym e)
found_own (q ∷ ps) r p (inr i) =
    let k = and_parts (list_all (λ x. nat_lt q.section x.section) ps) (each_pair (λ x y. nat_lt x.section y.section) ps) r in
    let below : nat_lt q.section p.section ≡ true = all-In (λ x. nat_lt q.section x.section) ps k.0 p i in
    let other : (q.section == p.section) ≡ false = grind (arith, nat_tests) in
    ap (λ (b : Bool). cond b (Some q) (find (λ x. x.section == p.section) ps)) other ∙ found_own ps k.1 p i

module _ (w : World) (h : IsCoherent w) where
  module _ (c : Cell) (i : In c w.cells) where
    sound : IsSoundObject c.object
    sound = object_sound w h.ready.objects c i

    numbers_same : map (λ (p : SecPlace). p.section) c.places ≡ map (λ (s : ObjectSection). s.number) c.object.sections
    numbers_same =
        (bytes_eq-Decides _ _).0
        (and_parts (equals (map (λ p. p.section) c.places) (map (λ s. s.number) c.object.sections)) _ (all-In is_placed w.cells h.ready.placed c i)).0

    rising : Rising c.places
    rising =
        sym (pairs-map nat_lt (λ (p : SecPlace). p.section) c.places)
        ∙ (ap (each_pair nat_lt) numbers_same
        ∙ (pairs-map nat_lt (λ (s : ObjectSection). s.number) c.object.sections ∙ sound.numbers))

    abbrev at : ℕ → SecPlace
    at number = record { section = number; start = start_of c.placed number }

    places_back : map (λ (s : ObjectSection). at s.number) c.object.sections ≡ c.places
    places_back =
        sym (over (λ (s : ObjectSection). s.number) c.object.sections)
        ∙ (ap (map at) (sym numbers_same)
        ∙ (over (λ (p : SecPlace). p.section) c.places
        ∙ In-fixed (λ (p : SecPlace). at p.section) c.places
        (λ p k. ap (λ (o : Option SecPlace). record { section = p.section; start = unwrap_or (option_map (λ q. q.start) o) 0 }) (found_own c.places rising p k))))
      where
        over : {X : Type 0} (g : X → ℕ) (xs : List X) → map at (map g xs) ≡ map (λ x. at (g x)) xs
        over g [] = refl
        over g (x ∷ xs) = ap (λ (ys : List SecPlace). at (g x) ∷ ys) (over g xs)

    pub alias_back : (a : Alias) → In a c.aliases → (let b : Alias = record { name = a.name; symbol = suc (a.symbol - 1) } in b) ≡ a
    alias_back a j =
        let own = all-In (λ a. list_any (λ d. d.symbol == a.symbol) (definitions_of c.object)) c.aliases (known_parts w c (all-In (is_known_cell w) w.cells h.ready.cells c i)).aliases a j in
        let d = any-Has (λ (d : Alias). d.symbol == a.symbol) (definitions_of c.object) own in
        let from = In-map _ _ d.0 d.1 in
        let at_number = In-numbered c.object.symbols 1 from.0 (In-filtered _ (numbered_from 1 c.object.symbols) from.0 from.1) in
        let same : d.0.symbol ≡ a.symbol = eqb-true d.0.symbol a.symbol d.2 in
        let number : d.0.symbol ≡ from.0.0 = ap (λ (x : Alias). x.symbol) from.2 in
        let n : suc (a.symbol - 1) ≡ a.symbol = let q = at_number.2 in omega (arith, same, number, q) in
        ap (λ (k : ℕ). record { name = a.name; symbol = k }) n

  -- of the cells, those of others give nothing
  pub others : {Y : Type 0} (f : Cell → List Y) (c : Cell) → In c w.cells → ((d : Cell) → (d.id.0 == c.id.0) ≡ false → f d ≡ []) → flat_map f w.cells ≡ f c
  others f c i none =
      one_left f (λ a b. nat_lt a.id.0 b.id.0) w.cells c h.ready.cell_order i (λ d j o. none d (apart d o))
    where
      apart : (d : Cell) → (nat_lt c.id.0 d.id.0 ≡ true) ⊎ (nat_lt d.id.0 c.id.0 ≡ true) → (d.id.0 == c.id.0) ≡ false
      apart d (inl l) = grind (arith, nat_tests)
      apart d (inr l) = grind (arith, nat_tests)

  abbrev lines : List DumpLine
  lines = dump_lines w

  place_in : (n : ℕ) (d : Cell) (b : Bool) → (d.id.0 == n) ≡ b → (ss : List ObjectSection)
      → filter_map (place_of n) (map (place_line d) ss) ≡ cond b (map (λ (s : ObjectSection). record { section = s.number; start = start_of d.placed s.number }) ss) []
  place_in n d true e [] = refl
  place_in n d false e [] = refl
  place_in n d true e (s ∷ ss) =
      ap (λ (b : Bool). cons_option (where_true b (let p : SecPlace = record { section = s.number; start = start_of d.placed s.number } in p)) (filter_map (place_of n) (map (place_line d) ss))) e
      ∙ ap (λ (ps : List SecPlace). (let p : SecPlace = record { section = s.number; start = start_of d.placed s.number } in p) ∷ ps) (place_in n d true e ss)
  place_in n d false e (s ∷ ss) =
      ap (λ (b : Bool). cons_option (where_true b (let p : SecPlace = record { section = s.number; start = start_of d.placed s.number } in p)) (filter_map (place_of n) (map (place_line d) ss))) e
      ∙ place_in n d false e ss

  alias_in : (n : ℕ) (d : Cell) (b : Bool) → (d.id.0 == n) ≡ b → (names : List Alias)
      → filter_map (alias_of n) (map (alias_line d) names) ≡ cond b (map (λ (a : Alias). let x : Alias = record { name = a.name; symbol = suc (a.symbol - 1) } in x) names) []
  alias_in n d true e [] = refl
  alias_in n d false e [] = refl
  alias_in n d true e (a ∷ names) =
      ap (λ (b : Bool). cons_option (where_true b (let x : Alias = record { name = a.name; symbol = suc (a.symbol - 1) } in x)) (filter_map (alias_of n) (map (alias_line d) names))) e
      ∙ ap (λ (xs : List Alias). (let x : Alias = record { name = a.name; symbol = suc (a.symbol - 1) } in x) ∷ xs) (alias_in n d true e names)
  alias_in n d false e (a ∷ names) =
      ap (λ (b : Bool). cons_option (where_true b (let x : Alias = record { name = a.name; symbol = suc (a.symbol - 1) } in x)) (filter_map (alias_of n) (map (alias_line d) names))) e
      ∙ alias_in n d false e names

  places_in_cell : (n : ℕ) (d : Cell) → filter_map (place_of n) (cell_lines d) ≡ filter_map (place_of n) (map (place_line d) d.object.sections)
  places_in_cell n d =
      filter_map-append (place_of n) (map (place_line d) d.object.sections) (map (alias_line d) d.aliases)
      ∙ (ap (λ (ps : List SecPlace). filter_map (place_of n) (map (place_line d) d.object.sections) ++ ps) (quiet_map (place_of n) (alias_line d) d.aliases (λ a. refl))
      ∙ append-nil (filter_map (place_of n) (map (place_line d) d.object.sections)))

  aliases_in_cell : (n : ℕ) (d : Cell) → filter_map (alias_of n) (cell_lines d) ≡ filter_map (alias_of n) (map (alias_line d) d.aliases)
  aliases_in_cell n d =
      filter_map-append (alias_of n) (map (place_line d) d.object.sections) (map (alias_line d) d.aliases)
      ∙ ap (λ (xs : List Alias). xs ++ filter_map (alias_of n) (map (alias_line d) d.aliases)) (quiet_map (alias_of n) (place_line d) d.object.sections (λ s. refl))

  module _ (c : Cell) (i : In c w.cells) where
    itself : (c.id.0 == c.id.0) ≡ true
    itself = eq-eqb c.id.0 c.id.0 refl

    pub places_are : filter_map (place_of c.id.0) lines ≡ c.places
    places_are =
        of_cells (place_of c.id.0) (held_in w) w (record { space = λ b p. refl; ns = λ n name p. refl; link = λ u t e. refl; provider = λ ns name at offset. refl; bytes = λ at addr bytes. refl; end = refl })
        ∙ (others (λ (d : Cell). filter_map (place_of c.id.0) (cell_lines d)) c i (λ d e. places_in_cell c.id.0 d ∙ place_in c.id.0 d false e d.object.sections)
        ∙ (places_in_cell c.id.0 c ∙ (place_in c.id.0 c true itself c.object.sections ∙ places_back c i)))

    pub aliases_are : filter_map (alias_of c.id.0) lines ≡ c.aliases
    aliases_are =
        of_cells (alias_of c.id.0) (held_in w) w (record { space = λ b p. refl; ns = λ n name p. refl; link = λ u t e. refl; provider = λ ns name at offset. refl; bytes = λ at addr bytes. refl; end = refl })
        ∙ (others (λ (d : Cell). filter_map (alias_of c.id.0) (cell_lines d)) c i (λ d e. aliases_in_cell c.id.0 d ∙ alias_in c.id.0 d false e d.aliases)
        ∙ (aliases_in_cell c.id.0 c ∙ (alias_in c.id.0 c true itself c.aliases
        ∙ In-fixed (λ (a : Alias). let x : Alias = record { name = a.name; symbol = suc (a.symbol - 1) } in x) c.aliases (alias_back c i))))

  module _ (sources : List Source) (read : AreRead sources w) where
    pub object_is : (c : Cell) → In c w.cells → object_of sources c.file ≡ Some c.object
    object_is c i = go (file_named sources c.file) (All-In (IsRead sources) w.cells read c i)
      where
        go : (o : Option Source) → option_map (λ f. f.reading) o ≡ Some (Ok c.object) → option_and_then (λ f. result_ok f.reading) o ≡ Some c.object
        go None e = absurd cc
        go (Some f) e = subst (λ (r : Option (Result Object Broken)). option_and_then result_ok r ≡ Some c.object) (sym e) refl

    abbrev pub made : Cell → Object → List SecPlace → List Alias → Standing → Cell
    made c object places aliases standing =
        record {
          placed = record { id = record { 0 = c.id.0 }; ns = c.ns; stem = c.stem; file = c.file; object = object; places = places };
          aliases = aliases;
          standing = standing;
        }

    pub cell_back : (c : Cell) → In c w.cells
        → made c (unwrap_or (object_of sources c.file) no_object) (filter_map (place_of c.id.0) lines) (filter_map (alias_of c.id.0) lines) (standing_of (group_of c.standing)) ≡ c
    cell_back c i =
        ap (λ (o : Option Object). made c (unwrap_or o no_object) (filter_map (place_of c.id.0) lines) (filter_map (alias_of c.id.0) lines) (standing_of (group_of c.standing))) (object_is c i)
        ∙ (ap (λ (ps : List SecPlace). made c c.object ps (filter_map (alias_of c.id.0) lines) (standing_of (group_of c.standing))) (places_are c i)
        ∙ (ap (λ (xs : List Alias). made c c.object c.places xs (standing_of (group_of c.standing))) (aliases_are c i)
        ∙ ap (λ (x : Standing). made c c.object c.places c.aliases x) (standing_back c.standing)))

    cell_in : (c : Cell) → In c w.cells → filter_map (cell_of sources lines) (cell_lines c) ≡ c ∷ []
    cell_in c i =
        ap (λ (xs : List Cell). made c (unwrap_or (object_of sources c.file) no_object) (filter_map (place_of c.id.0) lines) (filter_map (alias_of c.id.0) lines) (standing_of (group_of c.standing)) ∷ xs)
        (filter_map-append (cell_of sources lines) (map (place_line c) c.object.sections) (map (alias_line c) c.aliases)
        ∙ (ap (λ (xs : List Cell). xs ++ filter_map (cell_of sources lines) (map (alias_line c) c.aliases)) (quiet_map (cell_of sources lines) (place_line c) c.object.sections (λ s. refl))
        ∙ quiet_map (cell_of sources lines) (alias_line c) c.aliases (λ a. refl)))
        ∙ ap (λ (x : Cell). x ∷ []) (cell_back c i)

    same_map : (xs : List Cell) → map (λ (c : Cell). c) xs ≡ xs
    same_map [] = refl
    same_map (x ∷ xs) = ap (λ (ys : List Cell). x ∷ ys) (same_map xs)

    pub cells_are : filter_map (cell_of sources lines) lines ≡ w.cells
    cells_are =
        of_cells (cell_of sources lines) (held_in w) w (record { space = λ b p. refl; ns = λ n name p. refl; link = λ u t e. refl; provider = λ ns name at offset. refl; bytes = λ at addr bytes. refl; end = refl })
        ∙ (flat_same (λ (c : Cell). filter_map (cell_of sources lines) (cell_lines c)) (λ (c : Cell). c ∷ []) w.cells cell_in
        ∙ (flat_map_single (λ (c : Cell). c) w.cells ∙ same_map w.cells))

    spaces_are : filter_map namespace_of lines ≡ w.namespaces
    spaces_are =
        of_spaces namespace_of (held_in w) w (record { space = λ b p. refl; cell = quiet_cell; link = λ u t e. refl; provider = λ ns name at offset. refl; bytes = λ at addr bytes. refl; end = refl })
        ∙ spaces_back w.namespaces 0
      where
        quiet_cell : (c : Cell) → filter_map namespace_of (cell_lines c) ≡ []
        quiet_cell c =
            filter_map-append namespace_of (map (place_line c) c.object.sections) (map (alias_line c) c.aliases)
            ∙ (ap (λ (xs : List Namespace). xs ++ filter_map namespace_of (map (alias_line c) c.aliases)) (quiet_map namespace_of (place_line c) c.object.sections (λ s. refl))
            ∙ quiet_map namespace_of (alias_line c) c.aliases (λ a. refl))

    pub describes : described sources lines ≡ described_of w
    describes =
        ap (λ (ns : List Namespace). record (described_of w) { namespaces = ns; cells = filter_map (cell_of sources lines) lines }) spaces_are
        ∙ ap (λ (cs : List Cell). record (described_of w) { cells = cs }) cells_are

pub dump_is_of : (sources : List Source) (w : World) → IsCoherent w → AreRead sources w → described sources (dump_lines w) ≡ described_of w
dump_is_of sources w h read = describes w h sources read
