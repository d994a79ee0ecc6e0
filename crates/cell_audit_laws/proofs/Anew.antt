-- The machine that the dump of a coherent one describes lacks no object, links, and shows the same lines.
use Rattle.std.proofs.Common.{◌≡◌, refl, sym, ◌∙◌, ap, subst, arith, ℕ, zero, suc, ◌+◌, ◌⊎◌, inl, inr, Bool, true, false, cond, not, ◌&&◌, ◌||◌, List, [], ◌∷◌, ◌++◌, map, length, true≢false, Option, Some, None}
use Rattle.std.specs.Prelude.{◌/◌, drop, take, filter, filter_map, is_none, is_some, nat_lt, option_and_then, option_map, position, slice_get, unwrap_or, ◌==◌}
use Rattle.std.specs.List.{cons_option, flat_map, prefix_len}
use Rattle.std.proofs.lemmas.Bool.{and_from, eq-eqb}
use Rattle.std.proofs.lemmas.Bool.Decides.{nat_tests}
use Rattle.cell_num.specs.Lists.{In, numbered, numbered_from, or_else}
use Rattle.cell_num.proofs.Elements.{all-In, any-In, filter-In, flat_same, In-append, In-filtered, In-flat_map, In-map, map-In, none_is, numbered-In, unfound-In}
use Rattle.cell_num.proofs.Ranges.{none_found-In}
use Rattle.cell_object.specs.declared.object.Entry.{Entry}
use Rattle.cell_object.specs.declared.object.Section.{Section as ObjectSection}
use Rattle.cell_object.specs.declared.object.Symbol.{Symbol}
use Rattle.cell_object.specs.Parts.{is_global, is_undefined, symbol_at}
use Rattle.cell_world.specs.Coherent.{IsCoherent, is_fitting, is_supplied}
use Rattle.cell_world.specs.Linked.Field.{Bound, fits}
use Rattle.cell_world.specs.Gather.{Source}
use Rattle.cell_world.specs.Placed.Layout.{own_bytes}
use Rattle.cell_world.specs.Commands.MapCommand.{group_of}
use Rattle.cell_world.specs.Names.{is_used, names_of, needs_of, provider_of}
use Rattle.cell_world.specs.Linked.Relink.{bound_entries, links_of}
use Rattle.cell_world.specs.Linked.Target.{start_of, target_of}
use Rattle.cell_world.specs.World.{World, Cell, Alias, is_attached}
use Rattle.cell_world.specs.declared.reply.Found.{Found}
use Rattle.cell_world.specs.declared.state.LinkRow.{LinkRow}
use Rattle.cell_world.specs.declared.state.Namespace.{Namespace}
use Rattle.cell_lemmas.proofs.Targeting.Present.{In-filter_map}
use Rattle.cell_world.specs.declared.state.Target.{Target}
use Rattle.cell_world.specs.declared.state.Target.TheVariants.{Number}
use Rattle.cell_lemmas.proofs.Fields.Values.{bind, bound_map}
use Rattle.cell_world.specs.DumpLines.{alias_line, cell_lines, content_lines, dump_lines, held_in, lines_within, link_line, ns_line, part_of, place_line, provided_at, provider_line, provider_lines, section_lines}
use Rattle.cell_world.specs.declared.line.DumpLine.{DumpLine}
use Rattle.cell_world.specs.declared.line.DumpLine.TheVariants.{Space, Cell as CellLine, Provider, Content, End}
use Rattle.cell_world.specs.declared.line.Part.{Part}
use Rattle.cell_audit.specs.Described.{cell_of, described}
use Rattle.cell_audit.specs.Dumps.{Row, lines_of}
use Rattle.cell_audit.specs.Linking.{first_unlinked, fresh_lines, is_lacking, is_unlinked, lacks_provider, relinked_bytes, relinked_content, unlinked_in}
use Rattle.cell_audit.specs.Placing.{first_lacking, lacks_object}
use Rattle.cell_audit_laws.specs.Anew.{described_of, made_anew}
use Rattle.cell_origin_law.specs.Readings.{AreRead}
use Rattle.cell_audit_laws.proofs.Contents.{dump_fresh}
use Rattle.cell_audit_laws.proofs.Describes.{cell_back, dump_is_of, object_is}
use Rattle.cell_audit_laws.proofs.Told.{told_is}

-- what holds of the lines of each group
pub record Each (w : World) (P : DumpLine → Type 0) : Type 0 where
  pub space : P (Space w.base w.pages)
  pub ns : (p : ℕ × Namespace) → In p (numbered w.namespaces) → P (ns_line p)
  pub cell : (c : Cell) → In c w.cells → P (CellLine c.id.0 c.ns c.stem c.file (group_of c.standing))
  pub place : (c : Cell) → In c w.cells → (s : ObjectSection) → In s c.object.sections → P (place_line c s)
  pub alias : (c : Cell) → In c w.cells → (a : Alias) → In a c.aliases → P (alias_line c a)
  pub link : (l : LinkRow) → In l w.links → P (link_line l)
  pub provider : (c : Cell) → In c w.cells → (a : Alias) → In a (names_of c) → (f : Found) → provided_at w c.ns a.name ≡ Some f → P (Provider c.ns a.name (part_of f.key) f.offset)
  pub bytes : (c : Cell) → In c w.cells → (s : ObjectSection) → In s c.object.sections → (at : Part) (addr : ℕ) (bytes : List ℕ) → In (Content at addr bytes) (section_lines (held_in w) c s) → P (Content at addr bytes)
  pub end : P End

pub known-In : {X Y : Type 0} (f : X → Option Y) (xs : List X) (y : Y) → In y (filter_map f xs) → (x : X) × (f x ≡ Some y)
known-In f [] y i = absurd i
known-In {X} {Y} f (x ∷ xs) y i = go (f x) refl i (known-In f xs y)
  where
    go : (o : Option Y) → f x ≡ o → In y (cons_option o (filter_map f xs)) → (In y (filter_map f xs) → (z : X) × (f z ≡ Some y)) → (z : X) × (f z ≡ Some y)
    go None e k g = g k
    go (Some v) e (inl same) g = (x, e ∙ ap (λ (u : Y). Some u) (sym same))
    go (Some v) e (inr k) g = g k

pub each_line : (w : World) (P : DumpLine → Type 0) → Each w P → (l : DumpLine) → In l (dump_lines w) → P l
each_line w P e l i = at_end (In-append (front) (End ∷ []) l i)
  where
    contents : List DumpLine
    contents = flat_map (λ c. flat_map (section_lines (held_in w) c) c.object.sections) w.cells

    providers : List DumpLine
    providers = flat_map (provider_lines w) (filter (λ c. is_attached c.standing) w.cells)

    front : List DumpLine
    front = (Space w.base w.pages ∷ map ns_line (numbered w.namespaces)) ++ (flat_map cell_lines w.cells ++ (map link_line w.links ++ (providers ++ contents)))

    here : (x : DumpLine) → P x → l ≡ x → P l
    here x p e = subst P (sym e) p

    within : (c : Cell) → In c w.cells → (s : ObjectSection) → In s c.object.sections → In l (section_lines (held_in w) c s) → (n : ℕ) (at : Part) (addr : ℕ) (bytes : List ℕ) → In l (lines_within n at addr bytes) → P l
    within c j s m whole zero at addr bytes k = absurd k
    within c j s m whole (suc n) at addr bytes (inl same) =
        here (Content at addr (take 64 bytes)) (e.bytes c j s m at addr (take 64 bytes) (subst (λ (x : DumpLine). In x (section_lines (held_in w) c s)) same whole)) same
    within c j s m whole (suc n) at addr bytes (inr k) = within c j s m whole n at (addr + 64) (drop 64 bytes) k

    in_contents : In l contents → P l
    in_contents k =
        let c = In-flat_map (λ (c : Cell). flat_map (section_lines (held_in w) c) c.object.sections) w.cells l k in
        let s = In-flat_map (section_lines (held_in w) c.0) c.0.object.sections l c.2 in
        within c.0 c.1 s.0 s.1 s.2 ((length (held_in w c.0 s.0) + 63) / 64) (record { cell = c.0.id.0; section = s.0.number }) (start_of c.0.placed s.0.number) (held_in w c.0 s.0) s.2

    found : (c : Cell) → In c w.cells → (a : Alias) → In a (names_of c) → (o : Option Found) → provided_at w c.ns a.name ≡ o → option_map (λ f. Provider c.ns a.name (part_of f.key) f.offset) o ≡ Some l → P l
    found c j a m None q k = absurd cc
    found c j a m (Some f) q k = subst (λ (x : Option DumpLine). elim x as (λ _. Type 0) [ None ↦ Unit {0} | Some z ↦ P z ]) k (e.provider c j a m f q)

    in_providers : In l providers → P l
    in_providers k =
        let c = In-flat_map (provider_lines w) (filter (λ c. is_attached c.standing) w.cells) l k in
        let a = In-filter_map (λ (a : Alias). provider_line w c.0.ns a.name) (names_of c.0) l c.2 in
        found c.0 (In-filtered (λ (c : Cell). is_attached c.standing) w.cells c.0 c.1) a.0 a.1 (provided_at w c.0.ns a.0.name) refl a.2

    in_links : In l (map link_line w.links) → P l
    in_links k = let x = In-map link_line w.links l k in here (link_line x.0) (e.link x.0 x.1) x.2

    in_cell : (c : Cell) → In c w.cells → In l (cell_lines c) → P l
    in_cell c j (inl s) = here (CellLine c.id.0 c.ns c.stem c.file (group_of c.standing)) (e.cell c j) s
    in_cell c j (inr k) = parts (In-append (map (place_line c) c.object.sections) (map (alias_line c) c.aliases) l k)
      where
        parts : In l (map (place_line c) c.object.sections) ⊎ In l (map (alias_line c) c.aliases) → P l
        parts (inl k) = let x = In-map (place_line c) c.object.sections l k in here (place_line c x.0) (e.place c j x.0 x.1) x.2
        parts (inr k) = let x = In-map (alias_line c) c.aliases l k in here (alias_line c x.0) (e.alias c j x.0 x.1) x.2

    in_cells : In l (flat_map cell_lines w.cells) → P l
    in_cells k = let c = In-flat_map cell_lines w.cells l k in in_cell c.0 c.1 c.2

    in_spaces : In l (Space w.base w.pages ∷ map ns_line (numbered w.namespaces)) → P l
    in_spaces (inl s) = here (Space w.base w.pages) e.space s
    in_spaces (inr k) = let x = In-map ns_line (numbered w.namespaces) l k in here (ns_line x.0) (e.ns x.0 x.1) x.2

    after_links : In l providers ⊎ In l contents → P l
    after_links (inl k) = in_providers k
    after_links (inr k) = in_contents k

    after_cells : In l (map link_line w.links) ⊎ In l (providers ++ contents) → P l
    after_cells (inl k) = in_links k
    after_cells (inr k) = after_links (In-append providers contents l k)

    after_spaces : In l (flat_map cell_lines w.cells) ⊎ In l (map link_line w.links ++ (providers ++ contents)) → P l
    after_spaces (inl k) = in_cells k
    after_spaces (inr k) = after_cells (In-append (map link_line w.links) (providers ++ contents) l k)

    in_front : In l (Space w.base w.pages ∷ map ns_line (numbered w.namespaces)) ⊎ In l (flat_map cell_lines w.cells ++ (map link_line w.links ++ (providers ++ contents))) → P l
    in_front (inl k) = in_spaces k
    in_front (inr k) = after_spaces (In-append (flat_map cell_lines w.cells) (map link_line w.links ++ (providers ++ contents)) l k)

    at_end : In l front ⊎ In l (End ∷ []) → P l
    at_end (inl k) = in_front (In-append (Space w.base w.pages ∷ map ns_line (numbered w.namespaces)) (flat_map cell_lines w.cells ++ (map link_line w.links ++ (providers ++ contents))) l k)
    at_end (inr (inl s)) = here End e.end s
    at_end (inr (inr k)) = absurd k

no_position : {X : Type 0} (p : X → Bool) (xs : List X) → ((x : X) → In x xs → p x ≡ false) → position p xs ≡ None
no_position {X} p xs h =
    let e : prefix_len (λ x. not (p x)) xs ≡ length xs = all xs h in
    let l : nat_lt (prefix_len (λ x. not (p x)) xs) (length xs) ≡ false = grind (arith, nat_tests) in
    ap (λ (b : Bool). cond b (Some (prefix_len (λ x. not (p x)) xs)) None) l
  where
    all : (ys : List X) → ((x : X) → In x ys → p x ≡ false) → prefix_len (λ x. not (p x)) ys ≡ length ys
    all [] f = refl
    all (y ∷ ys) f = ap (λ (b : Bool). cond (not b) (1 + prefix_len (λ x. not (p x)) ys) 0) (f y (inl refl)) ∙ (let k = all ys (λ x i. f x (inr i)) in omega (arith, k))

module _ (sources : List Source) (w : World) (h : IsCoherent w) (read : AreRead sources w) where
  module _ (c : Cell) (i : In c w.cells) where
    not_some : {X : Type 0} (o : Option X) → is_some o ≡ true → is_none o ≡ false
    not_some None e = absurd (true≢false (sym e))
    not_some (Some x) e = refl

    supplied : (e : Entry) → In e c.object.entries → lacks_provider (described_of w) c e ≡ false
    supplied e j = by_number e.symbol refl
      where
        test : (a b n : Bool) → (a ≡ true → b ≡ true → n ≡ false) → (a && b && n) ≡ false
        test true true n f = f refl refl
        test true false n f = refl
        test false b n f = refl

        at : (m : ℕ) → e.symbol ≡ suc m → (o : Option Symbol) → slice_get c.object.symbols m ≡ o → unwrap_or (option_map (is_lacking (described_of w) c) o) false ≡ false
        at m n None is = refl
        at m n (Some s) is =
            test (is_global s.bind) (is_undefined s.home) (is_none (provider_of (described_of w) c s.name))
            (λ g u. not_some (provider_of (described_of w) c s.name)
            (all-In (λ name. is_some (provider_of w c name)) (needs_of c.object) (all-In (is_supplied w) w.cells h.ready.supplied c i) s.name
            (map-In (λ (p : ℕ × Symbol). p.1.name) (filter (λ p. is_global p.1.bind && is_undefined p.1.home && is_used c.object p.0) (numbered_from 1 c.object.symbols)) (suc m, s)
            (filter-In (λ (p : ℕ × Symbol). is_global p.1.bind && is_undefined p.1.home && is_used c.object p.0) (numbered_from 1 c.object.symbols) (suc m, s)
            (numbered-In c.object.symbols 1 (suc m) m s is (omega arith))
            (and_from (is_global s.bind && is_undefined s.home) (is_used c.object (suc m)) (and_from (is_global s.bind) (is_undefined s.home) g u)
            (any-In (λ d. d.symbol == suc m) c.object.entries e j (eq-eqb e.symbol (suc m) n)))))))

        by_number : (n : ℕ) → e.symbol ≡ n → unwrap_or (option_map (is_lacking (described_of w) c) (symbol_at c.object e.symbol)) false ≡ false
        by_number zero k = ap (λ (x : ℕ). unwrap_or (option_map (is_lacking (described_of w) c) (symbol_at c.object x)) false) k
        by_number (suc m) k = ap (λ (x : ℕ). unwrap_or (option_map (is_lacking (described_of w) c) (symbol_at c.object x)) false) k ∙ at m k (slice_get c.object.symbols m) refl

    linked : unlinked_in (described_of w) c ≡ None
    linked = no_position (is_unlinked (described_of w) c) (bound_entries w c) each
      where
        named : Entry → Target
        named e = unwrap_or (target_of w c e) (Number 0)

        none_of : (a b : Bool) → a ≡ false → not b ≡ false → (a || not b) ≡ false
        none_of a b e f = rw (e, f) refl

        each : (b : Bound) → In b (bound_entries w c) → is_unlinked (described_of w) c b ≡ false
        each b j =
            let from = In-map (bind (λ e. unwrap_or (target_of w c e) (Number 0))) c.object.entries b (subst (λ (bs : List Bound). In b bs) (bound_map (λ e. unwrap_or (target_of w c e) (Number 0)) c.object.entries) j) in
            none_of (lacks_provider (described_of w) c b.entry) (fits c.placed (bound_entries w c) b)
            (subst (λ (x : Bound). lacks_provider (described_of w) c x.entry ≡ false) (sym from.2) (supplied from.0 from.1))
            (unfound-In (λ (b : Bound). not (fits c.placed (bound_entries w c) b)) (bound_entries w c) (none_is _ (all-In (is_fitting w) w.cells h.ready.fitting c i)) b j)

  abbrev lines : List DumpLine
  lines = dump_lines w

  none_lacks : (l : DumpLine) → In l lines → lacks_object sources l ≡ false
  none_lacks l i = each_line w (λ (l : DumpLine). lacks_object sources l ≡ false) (record {
    space = refl;
    ns = λ p i. refl;
    cell = λ c j. ap is_none (object_is w h sources read c j);
    place = λ c j s m. refl;
    alias = λ c j a m. refl;
    link = λ l i. refl;
    provider = λ c j a m f q. refl;
    bytes = λ c j s m at addr bytes k. refl;
    end = refl;
  }) l i

  none_unlinked : (l : DumpLine) → In l lines → option_and_then (unlinked_in (described_of w)) (cell_of sources lines l) ≡ None
  none_unlinked l i = each_line w (λ (l : DumpLine). option_and_then (unlinked_in (described_of w)) (cell_of sources lines l) ≡ None) (record {
    space = refl;
    ns = λ p i. refl;
    cell = λ c j. ap (unlinked_in (described_of w)) (cell_back w h sources read c j) ∙ linked c j;
    place = λ c j s m. refl;
    alias = λ c j a m. refl;
    link = λ l i. refl;
    provider = λ c j a m f q. refl;
    bytes = λ c j s m at addr bytes k. refl;
    end = refl;
  }) l i

  module _ (rows : List Row) (are : lines_of rows ≡ lines) where
    line_in : (r : Row) → In r rows → In r.1 lines
    line_in r i = subst (λ (ls : List DumpLine). In r.1 ls) are (map-In (λ (r : Row). r.1) rows r i)

    pub no_lacking : first_lacking sources rows ≡ None
    no_lacking = ap (option_map (λ (r : Row). r.0)) (none_found-In (λ (r : Row). lacks_object sources r.1) rows (λ r i. none_lacks r.1 (line_in r i)))

    pub no_unlinked : first_unlinked sources (lines_of rows) (described sources (lines_of rows)) rows ≡ None
    no_unlinked =
        ap (λ (ls : List DumpLine). first_unlinked sources ls (described sources ls) rows) are
        ∙ (ap (λ (x : World). first_unlinked sources lines x rows) (dump_is_of sources w h read) ∙ none rows (λ r i. none_unlinked r.1 (line_in r i)))
      where
        none : (rs : List Row) → ((r : Row) → In r rs → option_and_then (unlinked_in (described_of w)) (cell_of sources lines r.1) ≡ None) → first_unlinked sources lines (described_of w) rs ≡ None
        none [] f = refl
        none (r ∷ rs) f =
            ap (λ (o : Option ℕ). or_else (option_map (λ entry. (r.0, entry)) o) (first_unlinked sources lines (described_of w) rs)) (f r (inl refl))
            ∙ none rs (λ x i. f x (inr i))

    pub all_fresh : fresh_lines (lines_of rows) (described sources (lines_of rows)) ≡ lines
    all_fresh =
        ap (λ (ls : List DumpLine). fresh_lines ls (described sources ls)) are
        ∙ (ap (fresh_lines lines) (dump_is_of sources w h read)
        ∙ (ap (λ (ls : List DumpLine). lines_with ls)
        (flat_same (λ (c : Cell). flat_map (section_lines (relinked_content lines (described_of w)) c) c.object.sections) (λ (c : Cell). flat_map (section_lines (made_anew w) c) c.object.sections) w.cells
        (λ c i. flat_same (section_lines (relinked_content lines (described_of w)) c) (section_lines (made_anew w) c) c.object.sections
        (λ s m. ap (λ (x : List ℕ). content_lines (record { cell = c.id.0; section = s.number }) (start_of c.placed s.number) (relinked_bytes w c s (cond s.write x (own_bytes s s.fill)))) (told_is w h c i s m))))
        ∙ dump_fresh w h))
      where
        lines_with : List DumpLine → List DumpLine
        lines_with ls =
            ((Space w.base w.pages ∷ map ns_line (numbered w.namespaces))
            ++ (flat_map cell_lines w.cells
            ++ (map link_line (links_of w)
            ++ (flat_map (provider_lines w) (filter (λ c. is_attached c.standing) w.cells) ++ ls)))) ++ End ∷ []
