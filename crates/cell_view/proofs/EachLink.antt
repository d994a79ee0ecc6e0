-- The links of the cells, one cell after another, are all links of a coherent machine.
use Rattle.std.proofs.Common.{◌≡◌, refl, sym, ◌∙◌, ap, ap₂, subst, arith, inl, inr, ℕ, Bool, true, false, ◌==◌, List, [], ◌∷◌, ◌++◌, append-nil, map}
use Rattle.std.specs.Prelude.{Option, Some, None, filter, filter_map, flat_map, nat_lt}
use Rattle.std.specs.List.{list_all}
use Rattle.std.proofs.lemmas.Bool.{and_parts, eq-eqb}
use Rattle.std.proofs.lemmas.Bool.Decides.{nat_tests}
use Rattle.std.proofs.lemmas.List.Elements.{filter-append}
use Rattle.cell_num.specs.Lists.{each_pair, numbered, In}
use Rattle.cell_object.specs.declared.object.Entry.{Entry}
use Rattle.cell_world.specs.declared.state.LinkRow.{LinkRow}
use Rattle.cell_world.specs.declared.state.Target.{Target}
use Rattle.cell_world.specs.declared.state.Target.TheVariants.{Section, Number}
use Rattle.cell_world.specs.Coherent.{IsCoherent}
use Rattle.cell_world.specs.Linked.Relink.{link_of, link_to}
use Rattle.cell_world.specs.Linked.Target.{target_of}
use Rattle.cell_world.specs.World.{World, Cell}
use Rattle.cell_num.proofs.Elements.{all-In, filter_all, filter_none, flat_same}
use Rattle.cell_lemmas.proofs.Targeting.Present.{In-filter_map}
use Rattle.cell_world.specs.DumpLines.{link_line}
use Rattle.cell_space.specs.Joined.{placed_of}
use Rattle.cell_machine.specs.declared.machine.Machine.{Machine}
use Rattle.cell_machine.specs.Machine.{IsSound, world_of}
use Rattle.cell_view.specs.Whole.{links_shown}
use Rattle.cell_view.proofs.Behind.{flat_over, map_over}

higher : (a b : ℕ) → nat_lt a b ≡ true → (b == a) ≡ false
higher a b h = grind (arith, nat_tests)

lower : (a b : ℕ) → nat_lt a b ≡ true → (a == b) ≡ false
lower a b h = grind (arith, nat_tests)

-- rows by a number, which are gathered of elements whose numbers rise
module _ {C R : Type 0} (id : C → ℕ) (key : R → ℕ) (g : C → List R) (own : (c : C) (r : R) → In r (g c) → key r ≡ id c) where
  abbrev of : ℕ → List R → List R
  of n rows = filter (λ r. key r == n) rows

  mine : (c : C) → of (id c) (g c) ≡ g c
  mine c = filter_all (λ r. key r == id c) (g c) (λ r i. eq-eqb (key r) (id c) (own c r i))

  other : (c : C) (n : ℕ) → (id c == n) ≡ false → of n (g c) ≡ []
  other c n apart = filter_none (λ r. key r == n) (g c) (λ r i. ap (λ k. k == n) (own c r i) ∙ apart)

  others : (cs : List C) (n : ℕ) → ((c : C) → In c cs → (id c == n) ≡ false) → of n (flat_map g cs) ≡ []
  others [] n apart = refl
  others (c ∷ cs) n apart =
      filter-append (λ r. key r == n) (g c) (flat_map g cs)
      ∙ ap₂ (λ (xs ys : List R). xs ++ ys) (other c n (apart c (inl refl))) (others cs n (λ d i. apart d (inr i)))

  abbrev rise : List C → Bool
  rise cs = each_pair (λ a b. nat_lt (id a) (id b)) cs

  first : (c : C) (cs : List C) → rise (c ∷ cs) ≡ true → of (id c) (flat_map g (c ∷ cs)) ≡ g c
  first c cs up =
      let parts = and_parts (list_all (λ d. nat_lt (id c) (id d)) cs) (rise cs) up in
      filter-append (λ r. key r == id c) (g c) (flat_map g cs)
      ∙ (ap₂ (λ (xs ys : List R). xs ++ ys) (mine c) (others cs (id c) (λ d i. higher (id c) (id d) (all-In (λ d. nat_lt (id c) (id d)) cs parts.0 d i)))
      ∙ append-nil (g c))

  one : (cs : List C) → rise cs ≡ true → (c : C) → In c cs → of (id c) (flat_map g cs) ≡ g c
  one [] up c i = absurd i
  one (d ∷ cs) up c (inl same) = ap (λ (x : C). of (id x) (flat_map g (d ∷ cs))) same ∙ (first d cs up ∙ ap g (sym same))
  one (d ∷ cs) up c (inr i) =
      let parts = and_parts (list_all (λ e. nat_lt (id d) (id e)) cs) (rise cs) up in
      filter-append (λ r. key r == id c) (g d) (flat_map g cs)
      ∙ ap₂ (λ (xs ys : List R). xs ++ ys) (other d (id c) (lower (id d) (id c) (all-In (λ e. nat_lt (id d) (id e)) cs parts.0 c i))) (one cs parts.1 c i)

  pub each_own : (cs : List C) → rise cs ≡ true → flat_map (λ c. of (id c) (flat_map g cs)) cs ≡ flat_map g cs
  each_own cs up = flat_same (λ c. of (id c) (flat_map g cs)) g cs (λ c i. one cs up c i)

-- a link that is made for an entry of a cell is that cell's
linked_own : (w : World) (c : Cell) (r : LinkRow) → In r (filter_map (link_of w c) (numbered c.object.entries)) → r.user.cell.0 ≡ c.id.0
linked_own w c r i = let p = In-filter_map (link_of w c) (numbered c.object.entries) r i in at p.0 (target_of w c p.0.1) p.2
  where
    at : (p : ℕ × Entry) (o : Option Target) → elim o as (λ _. Option LinkRow) [ None ↦ None | Some target ↦ link_to c p.0 p.1 target ] ≡ Some r → r.user.cell.0 ≡ c.id.0
    at p None e = absurd cc
    at p (Some (Section key offset addr)) e = let s : record { user = record { cell = c.id; section = p.1.section }; entry = p.0; target = key } ≡ r = cc in sym (ap (λ (l : LinkRow). l.user.cell.0) s)
    at p (Some (Number value)) e = absurd cc

abbrev links_by : List LinkRow → Cell → List LinkRow
links_by rows c = filter (λ r. r.user.cell.0 == c.id.0) rows

links_by_cell : (w : World) → IsCoherent w → flat_map (links_by w.links) w.cells ≡ w.links
links_by_cell w coherent =
    subst (λ (ls : List LinkRow). flat_map (links_by ls) w.cells ≡ ls) (ap (λ (u : World). u.links) coherent.linked)
    (each_own (λ (c : Cell). c.id.0) (λ (r : LinkRow). r.user.cell.0) (λ (c : Cell). filter_map (link_of w c) (numbered c.object.entries)) (linked_own w) w.cells coherent.ready.cell_order)

pub all_links : (m : Machine) → IsSound m → flat_map (links_shown m.graph.rows) m.cells.items ≡ map link_line (world_of m).links
all_links m sound =
    ap (flat_map (links_shown m.graph.rows)) (sym sound.joined.placed)
    ∙ (flat_over (links_shown m.graph.rows) placed_of (world_of m).cells
    ∙ (sym (map_over link_line (links_by m.graph.rows) (world_of m).cells)
    ∙ ap (map link_line) (links_by_cell (world_of m) sound.coherent)))
