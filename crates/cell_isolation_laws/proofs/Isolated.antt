-- Where what comes and what changes stands outside a namespace's chain, linking leaves the footprint.
use Rattle.std.proofs.Common.{◌≡◌, refl, sym, ◌∙◌, ap, ap₂, subst, arith, ℕ, ◌+◌, ◌-◌, ◌≤◌, ◌<◌, ◌⊎◌, inl, inr, Bool, true, false, cond, not, ◌&&◌, List, [], ◌∷◌, ◌++◌, map, length, true≢false, Option, Some, None}
use Rattle.std.specs.Prelude.{filter, filter_map, flat_map, fold, option_and_then, nat_lt, ◌==◌}
use Rattle.std.proofs.lemmas.Bool.{and_parts, and_from, eqb-true, leb-true, ltb-true, lt-ltb, false_from_ne_true}
use Rattle.std.proofs.lemmas.List.{append-nil}
use Rattle.std.proofs.lemmas.List.Elements.{filter-append}
use Rattle.cell_num.specs.Lists.{holds, first, numbered, each_pair, or_else, In}
use Rattle.cell_object.specs.declared.object.Entry.{Entry}
use Rattle.cell_object.specs.Parts.{symbol_at}
use Rattle.cell_world.specs.declared.state.LinkRow.{LinkRow}
use Rattle.cell_world.specs.declared.state.NewCell.{NewCell}
use Rattle.cell_world.specs.declared.state.Target.{Target}
use Rattle.cell_world.specs.declared.state.Target.TheVariants.{Section, Number}
use Rattle.cell_world.specs.declared.layout.Class.{Class}
use Rattle.cell_world.specs.declared.layout.Class.TheVariants.{Text, ReadOnly, Writable}
use Rattle.cell_world.specs.World.{World, Cell, Region, Task, Standing, is_attached, cell_of}
use Rattle.cell_world.specs.declared.state.Standing.TheVariants.{Attached, Detached}
use Rattle.cell_world.specs.Answer.{numbers_of}
use Rattle.cell_world.specs.Names.{Provider, by_spaces, chain, first_provider, nearest_provider, strong_provider, weak_provider, provider_for, provider_of, weak_symbol_named}
use Rattle.cell_world.specs.Linked.Target.{own_target, provided_target, target_of}
use Rattle.cell_world.specs.Linked.Field.{fields_of, place_of, is_at}
use Rattle.cell_world.specs.Running.Memory.{covers, end_of, pasted}
use Rattle.cell_world.specs.Linked.Relink.{Patch, patch_of, patched, patches_of, bound_entries, class_start, link_to, link_of, links_of, relink}
use Rattle.cell_world.specs.Changed.{FieldAt, now_in, is_other_target, differs, is_changed, changed_in, changed_fields}
use Rattle.cell_world.specs.Commands.UnloadCommand.{starts_of}
use Rattle.cell_world.specs.Coherent.{IsReady, IsCoherent, ends_before}
use Rattle.cell_lemmas.specs.Grown.{IsOwn, IsRegrown, patch_at, with_changes}
use Rattle.cell_num.proofs.Elements.{In-none, In-append, In-right, In-filtered, filter-In, filter-Passes, filter_none, filter_all, flat_same, In-map, map-In, In-flat_map, first-In, all-In, All-In, pairs_same, filter_map_same}
use Rattle.cell_num.proofs.Sublists.{pairs-filter}
use Rattle.cell_lemmas.proofs.Naming.Attaching.{same_self}
use Rattle.cell_lemmas.proofs.Targeting.Present.{In-filter_map}
use Rattle.cell_lemmas.proofs.Naming.Lookups.{flat_kept}
use Rattle.cell_lemmas.proofs.Naming.Unique.{offered}
use Rattle.cell_lemmas.proofs.Targeting.Detached.{offered_parts}
use Rattle.cell_lemmas.proofs.Naming.Asked.{In-by_spaces, offer_cell, or_else_from, weakly_offered}
use Rattle.cell_lemmas.proofs.Targeting.Targets.{In-find}
use Rattle.cell_lemmas.proofs.Placement.Freed.{same_cell}
use Rattle.cell_lemmas.proofs.Holding.KeptPaths.{In-holds, holds-In}
use Rattle.cell_lemmas.proofs.Naming.Chains.{Lower}
use Rattle.cell_lemmas.proofs.Links.FreshLinks.{link_with}
use Rattle.cell_lemmas.proofs.Fields.Fixed.{links_fixed}
use Rattle.cell_lemmas.proofs.Fields.FieldsInside.{among-In, field_region, region_There}
use Rattle.cell_lemmas.proofs.Placement.Distinct.{one_class}
use Rattle.cell_lemmas.proofs.Placement.Regions.{passed_by}
use Rattle.cell_lemmas.proofs.Fields.Regrown.{relinked_writes}
use Rattle.cell_lemmas.proofs.Tasks.Stores.{one_covers}
use Rattle.cell_lemmas.proofs.Tasks.Stacks.{long}
use Rattle.cell_lemmas.proofs.Placement.Inside.{wide}
use Rattle.cell_lemmas.proofs.Placement.Places.{whole_region}
use Rattle.cell_lemmas.proofs.Fields.Writes.{covered}
use Rattle.cell_isolation_laws.specs.Touches.{regions_from}
use Rattle.cell_isolation_laws.specs.Footprint.{Footprint, links_of_cells, footprint_of, footprint}
use Rattle.cell_change_law.proofs.Siblings.{chain_on}
use Rattle.cell_isolation_laws.proofs.Given.{given_target}
use Rattle.cell_isolation_laws.proofs.Sorted.{filter_fixed, narrowed, rise_same}
use Rattle.cell_lemmas.proofs.Tasks.Restarted.{own_region, region_apart}

pub and_none : (a b : Bool) → b ≡ false → (a && b) ≡ false
and_none true b e = e
and_none false b e = refl

pub attached_by : (s : Standing) → is_attached s ≡ true → s ≡ Attached
attached_by Attached e = refl
attached_by (Detached l) e = absurd (true≢false (sym e))

pub other_self : (o : Option Target) → is_other_target o o ≡ false
other_self None = refl
other_self (Some t) = ap not (same_self t)

-- patches leave where a region starts
fold_start : (ps : List Patch) (r : Region) → (fold patched r ps).start ≡ r.start
fold_start [] r = refl
fold_start (p ∷ ps) r = fold_start ps (patched r p) ∙ one (covers r p.addr)
  where
    one : (b : Bool) → (cond b (record r { bytes = pasted r.bytes (p.addr - r.start) p.bytes }) r).start ≡ r.start
    one true = refl
    one false = refl

pub same_footprint : (a b : Footprint) → a.cells ≡ b.cells → a.links ≡ b.links → a.regions ≡ b.regions → a.tasks ≡ b.tasks → a.stacks ≡ b.stacks → a ≡ b
same_footprint a b c l r t s =
    ap (λ x. record { cells = x; links = a.links; regions = a.regions; tasks = a.tasks; stacks = a.stacks }) c
    ∙ (ap (λ x. record { cells = b.cells; links = x; regions = a.regions; tasks = a.tasks; stacks = a.stacks }) l
    ∙ (ap (λ x. record { cells = b.cells; links = b.links; regions = x; tasks = a.tasks; stacks = a.stacks }) r
    ∙ (ap (λ x. record { cells = b.cells; links = b.links; regions = b.regions; tasks = x; stacks = a.stacks }) t
    ∙ ap (λ x. record { cells = b.cells; links = b.links; regions = b.regions; tasks = b.tasks; stacks = x }) s)))

-- a start of a cell is that of a class
pub start_class : (c : Cell) (k : ℕ) → In k (starts_of c) → (class : Class) × (class_start c class ≡ Some k)
start_class c k i = let x = In-filter_map (class_start c) (Text ∷ ReadOnly ∷ Writable ∷ []) k i in (x.0, x.2)

-- the links of cells whose numbers are among those of some of them
module _ (x : World) (order : each_pair (λ (a b : Cell). nat_lt a.id.0 b.id.0) x.cells ≡ true) (seen : Cell → Bool) where
  abbrev some : List Cell
  some = filter seen x.cells

  abbrev own_links : Cell → List LinkRow
  own_links c = filter_map (link_of x c) (numbered c.object.entries)

  among : (c : Cell) → In c x.cells → holds (numbers_of some) c.id.0 ≡ seen c
  among c i = go (holds (numbers_of some) c.id.0) refl (seen c) refl
    where
      go : (a : Bool) → holds (numbers_of some) c.id.0 ≡ a → (b : Bool) → seen c ≡ b → a ≡ b
      go true p true q = refl
      go false p false q = refl
      go false p true q = absurd (true≢false (sym (In-holds (numbers_of some) c.id.0 (map-In (λ (y : Cell). y.id.0) some c (filter-In seen x.cells c i q))) ∙ p))
      go true p false q =
          let d = In-map (λ (y : Cell). y.id.0) some c.id.0 (holds-In (numbers_of some) c.id.0 p) in
          let e : c ≡ d.0 = same_cell x.cells order c d.0 i (In-filtered seen x.cells d.0 d.1) d.2 in
          absurd (true≢false (sym (filter-Passes seen x.cells d.0 d.1) ∙ (sym (ap seen e) ∙ q)))

  user_of : (c : Cell) (l : LinkRow) → In l (own_links c) → l.user.cell.0 ≡ c.id.0
  user_of c l i =
      let p = In-filter_map (link_of x c) (numbered c.object.entries) l i in
      go p.0 (target_of x c p.0.1) p.2
    where
      some_same : (a b : LinkRow) → Some a ≡ Some b → a ≡ b
      some_same a b e = cc

      go : (p : ℕ × Entry) (o : Option Target) → (elim o as (λ _. Option LinkRow) [ None ↦ None | Some target ↦ link_to c p.0 p.1 target ]) ≡ Some l → l.user.cell.0 ≡ c.id.0
      go p None e = absurd cc
      go p (Some (Section key offset addr)) e = sym (ap (λ (y : LinkRow). y.user.cell.0) (some_same _ l e))
      go p (Some (Number value)) e = absurd cc

  pub links_among : filter (λ l. holds (numbers_of some) l.user.cell.0) (links_of x) ≡ flat_map own_links some
  links_among =
      flat_kept (λ (l : LinkRow). holds (numbers_of some) l.user.cell.0) own_links own_links seen x.cells
      (λ c i s. filter_all (λ (l : LinkRow). holds (numbers_of some) l.user.cell.0) (own_links c) (λ l j. ap (holds (numbers_of some)) (user_of c l j) ∙ (among c i ∙ s)))
      (λ c i s. filter_none (λ (l : LinkRow). holds (numbers_of some) l.user.cell.0) (own_links c) (λ l j. ap (holds (numbers_of some)) (user_of c l j) ∙ (among c i ∙ s)))

module _ (v w : World) (new : List Cell) (h : IsCoherent v) (ready : IsReady w) (g : IsRegrown v w new) (ns : ℕ) (there : ns < length v.namespaces) (lower : Lower v.namespaces)
    (spaces : (m : ℕ) → m < length v.namespaces → chain w.namespaces m ≡ chain v.namespaces m)
    (in_range : (c : Cell) → In c v.cells → c.ns < length v.namespaces)
    (kept : (c : Cell) → In c v.cells → holds (chain v.namespaces ns) c.ns ≡ true → now_in w c ≡ c)
    (hidden : (c : Cell) → In c new → holds (chain v.namespaces ns) c.ns ≡ false)
    (tasks : w.tasks ≡ v.tasks)
  where
    abbrev pub path : List ℕ
    path = chain v.namespaces ns

    abbrev pub seen : Cell → Bool
    seen c = is_attached c.standing && holds path c.ns

    abbrev pub shown : List Cell
    shown = filter seen v.cells

    goes : (c : Cell) → In c v.cells → seen c ≡ false → seen (now_in w c) ≡ false
    goes c i e = go (holds path c.ns) refl
      where
        go : (b : Bool) → holds path c.ns ≡ b → seen (now_in w c) ≡ false
        go true q = ap seen (kept c i q) ∙ e
        go false q = and_none (is_attached (now_in w c).standing) (holds path (now_in w c).ns) (ap (λ (x : NewCell). holds path x.ns) (All-In (λ (x : Cell). (now_in w x).placed ≡ x.placed) v.cells g.same c i) ∙ q)

    pub shown_same : filter seen w.cells ≡ shown
    shown_same =
        ap (filter seen) g.cells
        ∙ (filter-append seen (map (now_in w) v.cells) new
        ∙ (ap₂ (λ (a b : List Cell). a ++ b) (filter_fixed seen (now_in w) v.cells (λ c i e. kept c i (and_parts (is_attached c.standing) (holds path c.ns) e).1) goes)
        (filter_none seen new (λ c i. and_none (is_attached c.standing) (holds path c.ns) (hidden c i)))
        ∙ append-nil shown))

    shown_parts : (c : Cell) → In c shown → In c v.cells × In c w.cells × (is_attached c.standing ≡ true) × (holds path c.ns ≡ true)
    shown_parts c i =
        let p = and_parts (is_attached c.standing) (holds path c.ns) (filter-Passes seen v.cells c i) in
        (In-filtered seen v.cells c i, In-filtered seen w.cells c (subst (In c) (sym shown_same) i), p.0, p.1)

    narrow : (c : Cell) → In c shown → (m : ℕ) → holds (chain v.namespaces c.ns) m ≡ true → holds path m ≡ true
    narrow c i m e = In-holds path m (chain_on v.namespaces lower ns c.ns m there (holds-In path c.ns (shown_parts c i).3) (holds-In (chain v.namespaces c.ns) m e))

    -- the attached cells of a namespace of the chain
    spaces_same : (m : ℕ) → holds path m ≡ true → filter (λ (d : Cell). d.ns == m) (filter (λ d. is_attached d.standing) w.cells) ≡ filter (λ (d : Cell). d.ns == m) (filter (λ d. is_attached d.standing) v.cells)
    spaces_same m e =
        narrowed (λ d. d.ns == m) (λ d. holds path d.ns) (λ d. is_attached d.standing) w.cells on
        ∙ (ap (filter (λ (d : Cell). d.ns == m)) shown_same ∙ sym (narrowed (λ d. d.ns == m) (λ d. holds path d.ns) (λ d. is_attached d.standing) v.cells on))
      where
        on : (d : Cell) → (d.ns == m) ≡ true → holds path d.ns ≡ true
        on d k = subst (λ n. holds path n ≡ true) (sym (eqb-true d.ns m k)) e

    -- who holds a name for a cell of the chain, strongly and weakly
    strong_same : (c : Cell) → In c shown → (name : List ℕ) → strong_provider w Attached c.ns name ≡ strong_provider v Attached c.ns name
    strong_same c i name =
        ap (λ (xs : List ℕ). first_provider xs name (filter (λ d. is_attached d.standing) w.cells)) (spaces c.ns (in_range c (shown_parts c i).0))
        ∙ ap (λ (cs : List Cell). first (filter_map (offered name) cs))
        (narrowed (λ d. holds (chain v.namespaces c.ns) d.ns) (λ d. holds path d.ns) (λ d. is_attached d.standing) w.cells (λ d e. narrow c i d.ns e)
        ∙ (ap (filter (λ d. holds (chain v.namespaces c.ns) d.ns)) shown_same
        ∙ sym (narrowed (λ d. holds (chain v.namespaces c.ns) d.ns) (λ d. holds path d.ns) (λ d. is_attached d.standing) v.cells (λ d e. narrow c i d.ns e))))

    weak_same : (c : Cell) → In c shown → (name : List ℕ) → weak_provider w Attached c.ns name ≡ weak_provider v Attached c.ns name
    weak_same c i name =
        ap (λ (xs : List ℕ). nearest_provider xs name (filter (λ d. is_attached d.standing) w.cells)) (spaces c.ns (in_range c (shown_parts c i).0))
        ∙ ap (λ (cs : List Cell). first (filter_map (weakly_offered name) cs))
        (flat_same (λ m. filter (λ (d : Cell). d.ns == m) (filter (λ d. is_attached d.standing) w.cells)) (λ m. filter (λ (d : Cell). d.ns == m) (filter (λ d. is_attached d.standing) v.cells)) (chain v.namespaces c.ns)
        (λ m k. spaces_same m (narrow c i m (In-holds (chain v.namespaces c.ns) m k))))

    -- an attached cell of the chain has its symbols where it had them
    provided_at : (d : Cell) → In d v.cells → is_attached d.standing ≡ true → holds path d.ns ≡ true → (p : Provider) → p.cell ≡ d.id.0 → provided_target w p ≡ provided_target v p
    provided_at d j a o p n =
        let s : In d shown = filter-In seen v.cells d j (and_from (is_attached d.standing) (holds path d.ns) a o) in
        ap (option_and_then (λ x. option_and_then (λ y. own_target x.placed y y.home) (symbol_at x.object p.symbol)))
        (ap (cell_of w) n ∙ (In-find w.cells ready.cell_order d (shown_parts d s).1 ∙ (sym (In-find v.cells h.ready.cell_order d (shown_parts d s).0) ∙ sym (ap (cell_of v) n))))

    abbrev standing_there : List Cell
    standing_there = filter (λ (d : Cell). is_attached d.standing) v.cells

    strong_provided : (c : Cell) → In c shown → (name : List ℕ) (p : Provider) → strong_provider v Attached c.ns name ≡ Some p → provided_target w p ≡ provided_target v p
    strong_provided c i name p e =
        let d = In-filter_map (offered name) (filter (λ (x : Cell). holds (chain v.namespaces c.ns) x.ns) standing_there) p (first-In _ p e) in
        let k = In-filtered (λ (x : Cell). holds (chain v.namespaces c.ns) x.ns) standing_there d.0 d.1 in
        provided_at d.0 (In-filtered (λ (x : Cell). is_attached x.standing) v.cells d.0 k) (filter-Passes (λ (x : Cell). is_attached x.standing) v.cells d.0 k)
        (narrow c i d.0.ns (filter-Passes (λ (x : Cell). holds (chain v.namespaces c.ns) x.ns) standing_there d.0 d.1)) p (offered_parts name d.0 p d.2).0

    weak_provided : (c : Cell) → In c shown → (name : List ℕ) (p : Provider) → weak_provider v Attached c.ns name ≡ Some p → provided_target w p ≡ provided_target v p
    weak_provided c i name p e =
        let d = In-filter_map (weakly_offered name) (by_spaces (chain v.namespaces c.ns) standing_there) p (first-In _ p e) in
        let k = In-by_spaces (chain v.namespaces c.ns) standing_there d.0 d.1 in
        provided_at d.0 (In-filtered (λ (x : Cell). is_attached x.standing) v.cells d.0 k.0) (filter-Passes (λ (x : Cell). is_attached x.standing) v.cells d.0 k.0)
        (narrow c i d.0.ns k.1) p (offer_cell d.0 (weak_symbol_named d.0 name) p d.2)

    module _ (c : Cell) (i : In c shown) where
      stands : c.standing ≡ Attached
      stands = attached_by c.standing (shown_parts c i).2

      by_strong : (name : List ℕ) → option_and_then (provided_target w) (strong_provider w c.standing c.ns name) ≡ option_and_then (provided_target v) (strong_provider v c.standing c.ns name)
      by_strong name =
          ap (λ (s : Standing). option_and_then (provided_target w) (strong_provider w s c.ns name)) stands
          ∙ (ap (option_and_then (provided_target w)) (strong_same c i name)
          ∙ (go (strong_provider v Attached c.ns name) refl
          ∙ sym (ap (λ (s : Standing). option_and_then (provided_target v) (strong_provider v s c.ns name)) stands)))
        where
          go : (o : Option Provider) → strong_provider v Attached c.ns name ≡ o → option_and_then (provided_target w) o ≡ option_and_then (provided_target v) o
          go None e = refl
          go (Some p) e = strong_provided c i name p e

      by_name : (name : List ℕ) → option_and_then (provided_target w) (provider_of w c name) ≡ option_and_then (provided_target v) (provider_of v c name)
      by_name name =
          ap (λ (s : Standing). option_and_then (provided_target w) (provider_for w s c.ns name)) stands
          ∙ (ap₂ (λ (a b : Option Provider). option_and_then (provided_target w) (or_else a b)) (strong_same c i name) (weak_same c i name)
          ∙ (go (or_else (strong_provider v Attached c.ns name) (weak_provider v Attached c.ns name)) refl
          ∙ sym (ap (λ (s : Standing). option_and_then (provided_target v) (provider_for v s c.ns name)) stands)))
        where
          either : (p : Provider) → (strong_provider v Attached c.ns name ≡ Some p) ⊎ ((strong_provider v Attached c.ns name ≡ None) × (weak_provider v Attached c.ns name ≡ Some p)) → provided_target w p ≡ provided_target v p
          either p (inl e) = strong_provided c i name p e
          either p (inr e) = weak_provided c i name p e.1

          go : (o : Option Provider) → or_else (strong_provider v Attached c.ns name) (weak_provider v Attached c.ns name) ≡ o → option_and_then (provided_target w) o ≡ option_and_then (provided_target v) o
          go None e = refl
          go (Some p) e = either p (or_else_from (strong_provider v Attached c.ns name) (weak_provider v Attached c.ns name) p e)

      -- an entry of a cell of the chain names what it named
      pub target_still : (e : Entry) → target_of w c e ≡ target_of v c e
      target_still = given_target v w c by_strong by_name

      unchanged : (f : Entry) → is_changed v w c f ≡ false
      unchanged f = In-none (λ e. is_at f e && differs v w c e) c.object.entries (λ e j. and_none (is_at f e) (differs v w c e)
          (ap (λ (x : Cell). is_other_target (target_of v c e) (target_of w x e)) (kept c (shown_parts c i).0 (shown_parts c i).3)
          ∙ (ap (is_other_target (target_of v c e)) (target_still e) ∙ other_self (target_of v c e))))

      links_still : (p : ℕ × Entry) → link_of w c p ≡ link_of v c p
      links_still p = ap (link_with c p) (target_still p.1)

    links_same : links_of_cells shown (relink w).links ≡ links_of_cells shown v.links
    links_same =
        ap (λ (cs : List Cell). links_of_cells cs (links_of w)) (sym shown_same)
        ∙ (links_among w ready.cell_order seen
        ∙ (ap (flat_map (λ c. filter_map (link_of w c) (numbered c.object.entries))) shown_same
        ∙ (flat_same (λ c. filter_map (link_of w c) (numbered c.object.entries)) (λ c. filter_map (link_of v c) (numbered c.object.entries)) shown
        (λ c i. filter_map_same (link_of w c) (link_of v c) (numbered c.object.entries) (λ p j. links_still c i p))
        ∙ (sym (links_among v h.ready.cell_order seen) ∙ ap (links_of_cells shown) (links_fixed v h.linked)))))

    -- regions of v in which no field changes
    module _ (starts : List ℕ) (own : (k : ℕ) → holds starts k ≡ true → (q : Region) × In q v.regions × (q.start ≡ k))
        (quiet : (c : Cell) → In c v.cells → (class : Class) (k : ℕ) → class_start c class ≡ Some k → holds starts k ≡ true → (f : Entry) → is_changed v w c f ≡ false) where
      region_back : (r : Region) → In r w.regions → holds starts r.start ≡ true → In r v.regions
      region_back r i e = go (g.regions r i)
        where
          go : In r v.regions ⊎ IsOwn new r → In r v.regions
          go (inl j) = j
          go (inr x) = let q = own r.start e in absurd (g.starts x.cell x.new_cell x.class r.start x.start q.0 q.1 (sym q.2))

      quiet_region : (r : Region) → In r w.regions → holds starts r.start ≡ true → with_changes v w new r ≡ r
      quiet_region r i e = passed_by r (map (patch_at w) (changed_fields v w) ++ flat_map (patches_of w) new) (λ p m. go p (In-append (map (patch_at w) (changed_fields v w)) (flat_map (patches_of w) new) p m))
        where
          old : In r v.regions
          old = region_back r i e

          by_change : (p : Patch) → (f : FieldAt) × In f (changed_fields v w) × (p ≡ patch_at w f) → covers r p.addr ≡ false
          by_change p f =
              let c = In-flat_map (changed_in v w) v.cells f.0 f.1 in
              let x = In-map (λ (y : Entry). let z : FieldAt = record { cell = now_in w c.0; field = y } in z) (filter (is_changed v w c.0) (fields_of c.0.object)) f.0 c.2 in
              let at : p.addr ≡ place_of c.0.placed x.0 = ap (λ (y : Patch). y.addr) f.2 ∙ (ap (λ (y : FieldAt). place_of y.cell.placed y.field) x.2 ∙ ap (λ (y : NewCell). place_of y x.0) (All-In (λ (y : Cell). (now_in w y).placed ≡ y.placed) v.cells g.same c.0 c.1)) in
              let q = field_region v h.ready.regions h.ready.apart h.ready.placed h.ready.objects c.0 c.1 x.0 (among-In c.0.object.entries [] x.0 (In-filtered (is_changed v w c.0) (fields_of c.0.object) x.0 x.1)) in
              false_from_ne_true (covers r p.addr) (λ cov.
              let same : r ≡ q.0 = one_covers v.regions h.ready.apart r q.0 p.addr old q.1 cov (covered q.0 p.addr (omega (arith, q.2, at)) (omega (arith, q.3, at, wide x.0.kind))) in
              true≢false (sym (filter-Passes (is_changed v w c.0) (fields_of c.0.object) x.0 x.1) ∙ quiet c.0 c.1 q.4.0 q.0.start q.4.1 (subst (λ (y : Region). holds starts y.start ≡ true) same e) x.0))

          by_new : (p : Patch) → In p (flat_map (patches_of w) new) → covers r p.addr ≡ false
          by_new p m =
              let c = In-flat_map (patches_of w) new p m in
              let f = In-map (patch_of c.0 (bound_entries w c.0)) (fields_of c.0.object) p c.2 in
              let at : p.addr ≡ place_of c.0.placed f.0 = ap (λ (y : Patch). y.addr) f.2 in
              let k : In c.0 w.cells = subst (In c.0) (sym g.cells) (In-right (map (now_in w) v.cells) new c.0 c.1) in
              let q = field_region w ready.regions ready.apart ready.placed ready.objects c.0 k f.0 (among-In c.0.object.entries [] f.0 f.1) in
              false_from_ne_true (covers r p.addr) (λ cov.
              let same : r ≡ q.0 = one_covers w.regions ready.apart r q.0 p.addr i q.1 cov (covered q.0 p.addr (omega (arith, q.2, at)) (omega (arith, q.3, at, wide f.0.kind))) in
              g.starts c.0 c.1 q.4.0 q.0.start q.4.1 r old (sym (ap (λ (y : Region). y.start) same)))

          go : (p : Patch) → In p (map (patch_at w) (changed_fields v w)) ⊎ In p (flat_map (patches_of w) new) → covers r p.addr ≡ false
          go p (inl m) = by_change p (In-map (patch_at w) (changed_fields v w) p m)
          go p (inr m) = by_new p m

      abbrev from : Region → Bool
      from r = holds starts r.start

      rises : (x : World) → IsReady x → each_pair (λ (a b : Region). nat_lt a.start b.start) x.regions ≡ true
      rises x y = pairs_same ends_before (λ (a b : Region). nat_lt a.start b.start) x.regions
          (λ a b i j e. lt-ltb a.start b.start (omega (arith, leb-true (end_of a) b.start e, (whole_region x a (all-In _ x.regions y.in_space a i)).2))) y.apart

      regions_before : filter from w.regions ≡ filter from v.regions
      regions_before = rise_same (λ (a b : Region). nat_lt a.start b.start) (λ a b p q. omega (arith, ltb-true a.start b.start p, ltb-true b.start a.start q)) (λ a p. omega (arith, ltb-true a.start a.start p))
          (filter from w.regions) (filter from v.regions) (pairs-filter (λ (a b : Region). nat_lt a.start b.start) from w.regions (rises w ready)) (pairs-filter (λ (a b : Region). nat_lt a.start b.start) from v.regions (rises v h.ready))
          (λ r i. let e = filter-Passes from w.regions r i in filter-In from v.regions r (region_back r (In-filtered from w.regions r i) e) e)
          (λ r i. filter-In from w.regions r (g.old r (In-filtered from v.regions r i)) (filter-Passes from v.regions r i))

      regions_same : regions_from starts (relink w).regions ≡ regions_from starts v.regions
      regions_same =
          ap (λ (x : World). regions_from starts x.regions) (relinked_writes v w new h ready g)
          ∙ (filter_fixed from (with_changes v w new) w.regions (λ r i e. quiet_region r i e) (λ r i e. ap (holds starts) (fold_start (map (patch_at w) (changed_fields v w) ++ flat_map (patches_of w) new) r) ∙ e)
          ∙ regions_before)

    footprint_regions : regions_from (flat_map starts_of shown) (relink w).regions ≡ regions_from (flat_map starts_of shown) v.regions
    footprint_regions = regions_same (flat_map starts_of shown)
        (λ k e. let c = In-flat_map starts_of shown k (holds-In (flat_map starts_of shown) k e) in let x = start_class c.0 k c.2 in
        let r = region_There v h.ready.regions h.ready.apart h.ready.placed h.ready.objects c.0 (shown_parts c.0 c.1).0 x.0 k x.1 in (r.0, r.1, r.2))
        (λ c i class k s e f. let d = In-flat_map starts_of shown k (holds-In (flat_map starts_of shown) k e) in let x = start_class d.0 k d.2 in
        let same : c ≡ d.0 = (one_class v h.ready.regions h.ready.in_space h.ready.apart c d.0 i (shown_parts d.0 d.1).0 class x.0 k s x.1).0 in
        subst (λ (y : Cell). is_changed v w y f ≡ false) (sym same) (unchanged d.0 d.1 f))

    footprint_stacks : regions_from (map (λ t. t.stack) v.tasks) (relink w).regions ≡ regions_from (map (λ t. t.stack) v.tasks) v.regions
    footprint_stacks = regions_same (map (λ t. t.stack) v.tasks)
        (λ k e. let t = In-map (λ (x : Task). x.stack) v.tasks k (holds-In (map (λ t. t.stack) v.tasks) k e) in let r = own_region v h t.0 t.1 in (r.0, r.1, r.2 ∙ sym t.2))
        (λ c i class k s e f. let t = In-map (λ (x : Task). x.stack) v.tasks k (holds-In (map (λ t. t.stack) v.tasks) k e) in
        let r = region_There v h.ready.regions h.ready.apart h.ready.placed h.ready.objects c i class k s in
        absurd (clash t.0 r.0 (r.2 ∙ t.2) (region_apart v h t.0 t.1 c i r.0 r.1 class (s ∙ ap (λ (x : ℕ). Some x) (sym r.2))) (long v h r.0 r.1)))
      where
        clash : (t : Task) (q : Region) → q.start ≡ t.stack → (q.start + length q.bytes ≤ t.stack) ⊎ (t.stack + 16384 ≤ q.start) → 0 < length q.bytes → ⊥
        clash t q e (inl x) l = omega (arith, e, x, l)
        clash t q e (inr x) l = omega (arith, e, x)

    pub footprint_linked : footprint (relink w) ns ≡ footprint v ns
    footprint_linked =
        ap (λ (xs : List ℕ). footprint_of (relink w) (filter (λ c. is_attached c.standing && holds xs c.ns) w.cells)) (spaces ns there)
        ∙ (ap (footprint_of (relink w)) shown_same
        ∙ same_footprint (footprint_of (relink w) shown) (footprint_of v shown) refl links_same footprint_regions tasks
        (ap (λ (ts : List Task). regions_from (map (λ t. t.stack) ts) (relink w).regions) tasks ∙ footprint_stacks))
