-- Where cells are removed, the links that are left are those of the cells that are left.
use Rattle.std.proofs.Common.{◌≡◌, refl, sym, ◌∙◌, ap, subst, ℕ, Bool, true, false, ◌||◌, List, []}
use Rattle.std.specs.Prelude.{Option, Some, None, filter, filter_map, not, unwrap_or}
use Rattle.cell_num.specs.Lists.{holds, numbered, In}
use Rattle.cell_object.specs.declared.object.Entry.{Entry}
use Rattle.cell_world.specs.declared.state.LinkRow.{LinkRow}
use Rattle.cell_world.specs.declared.state.Target.{Target}
use Rattle.cell_world.specs.declared.state.Target.TheVariants.{Section, Number}
use Rattle.cell_world.specs.World.{World, Cell, key_of}
use Rattle.cell_world.specs.Linked.Target.{target_of}
use Rattle.cell_world.specs.Linked.Field.{bound_by}
use Rattle.cell_world.specs.Linked.Relink.{bound_entries, links_of, link_of}
use Rattle.cell_world.specs.Commands.UnloadCommand.{without_cells}
use Rattle.cell_world.specs.Coherent.{IsCoherent}
use Rattle.cell_num.proofs.Elements.{In-numbered, get-In, filter_all, filter_none, filter_map_same, map_same}
use Rattle.cell_lemmas.proofs.Links.FreshLinks.{link_with}
use Rattle.cell_lemmas.proofs.Targeting.Present.{In-filter_map, some_same}
use Rattle.cell_lemmas.proofs.Fields.Fixed.{links_fixed}
use Rattle.cell_lemmas.proofs.Naming.Lookups.{flat_kept, unnot, unnot_false}
use Rattle.cell_lemmas.proofs.Targeting.TargetsLeft.{Closed, target_free, target_stays}

not_or : (a b : Bool) → a ≡ false → b ≡ false → not (a || b) ≡ true
not_or a b p q = ap (λ v. not (v || b)) p ∙ ap not q

or_not : (a b : Bool) → a ≡ true → not (a || b) ≡ false
or_not a b p = ap (λ v. not (v || b)) p

-- an entry with its number is one of the cell's
entry_in : (c : Cell) (p : ℕ × Entry) → In p (numbered c.object.entries) → In p.1 c.object.entries
entry_in c p j = let n = In-numbered c.object.entries 0 p j in get-In c.object.entries n.0 p.1 n.1

-- whose link it is, and what it names
abbrev IsRowOf : World → Cell → Entry → LinkRow → Type 0
IsRowOf w c e row = (row.user.cell.0 ≡ c.id.0) × ((offset : ℕ) × (addr : ℕ) × (target_of w c e ≡ Some (Section row.target offset addr)))

row_of : (w : World) (c : Cell) (p : ℕ × Entry) (row : LinkRow) → link_of w c p ≡ Some row → IsRowOf w c p.1 row
row_of w c p row e = go (target_of w c p.1) refl e
  where
    go : (o : Option Target) → target_of w c p.1 ≡ o → link_with c p o ≡ Some row → IsRowOf w c p.1 row
    go None t q = cc
    go (Some (Number v)) t q = cc
    go (Some (Section key offset addr)) t q =
        let s : record { user = key_of c.id.0 p.1.section; entry = p.0; target = key } ≡ row = some_same _ row q in
        (ap (λ (v : LinkRow). v.user.cell.0) (sym s), (offset, addr, t ∙ ap (λ (v : LinkRow). Some (Section v.target offset addr)) s))

module _ (w : World) (h : IsCoherent w) (numbers : List ℕ) (closed : Closed w numbers) where
  abbrev left : World
  left = without_cells w numbers

  abbrev stays : LinkRow → Bool
  stays link = not (holds numbers link.user.cell.0 || holds numbers link.target.cell.0)

  -- the entries of a cell that stays, with their targets, are as they were
  pub bound_same : (c : Cell) → In c w.cells → holds numbers c.id.0 ≡ false → bound_entries left c ≡ bound_entries w c
  bound_same c i s =
      ap (bound_by c.object.entries)
      (map_same (λ e. unwrap_or (target_of left c e) (Number 0)) (λ e. unwrap_or (target_of w c e) (Number 0)) c.object.entries
      (λ e j. ap (λ (o : Option Target). unwrap_or o (Number 0)) (target_stays w h numbers closed c i s e j)))

  links_by : World → Cell → List LinkRow
  links_by v c = filter_map (link_of v c) (numbered c.object.entries)

  kept_rows : (c : Cell) → In c w.cells → holds numbers c.id.0 ≡ false → filter stays (links_by w c) ≡ links_by left c
  unfolding links_by
  kept_rows c i s =
      filter_all stays (filter_map (link_of w c) (numbered c.object.entries)) (λ row j. row_stays row (In-filter_map (link_of w c) (numbered c.object.entries) row j))
      ∙ filter_map_same (link_of w c) (link_of left c) (numbered c.object.entries) (λ p j. ap (link_with c p) (sym (target_stays w h numbers closed c i s p.1 (entry_in c p j))))
    where
      row_stays : (row : LinkRow) → (p : ℕ × Entry) × In p (numbered c.object.entries) × (link_of w c p ≡ Some row) → stays row ≡ true
      row_stays row p =
          let r : IsRowOf w c p.0.1 row = row_of w c p.0 row p.2 in
          not_or (holds numbers row.user.cell.0) (holds numbers row.target.cell.0) (subst (λ n. holds numbers n ≡ false) (sym r.0) s)
          (target_free w h numbers closed c i s p.0.1 (entry_in c p.0 p.1) row.target r.1.0 r.1.1 r.1.2)

  lost_rows : (c : Cell) → holds numbers c.id.0 ≡ true → filter stays (links_by w c) ≡ []
  unfolding links_by
  lost_rows c s = filter_none stays (filter_map (link_of w c) (numbered c.object.entries)) (λ row j. row_goes row (In-filter_map (link_of w c) (numbered c.object.entries) row j))
    where
      row_goes : (row : LinkRow) → (p : ℕ × Entry) × In p (numbered c.object.entries) × (link_of w c p ≡ Some row) → stays row ≡ false
      row_goes row p = or_not (holds numbers row.user.cell.0) (holds numbers row.target.cell.0) (subst (λ n. holds numbers n ≡ true) (sym (row_of w c p.0 row p.2).0) s)

  pub links_left : links_of left ≡ left.links
  unfolding links_by
  links_left =
      sym (ap (filter stays) (sym (links_fixed w h.linked))
      ∙ flat_kept stays (links_by w) (links_by left) (λ c. not (holds numbers c.id.0)) w.cells
      (λ c i s. kept_rows c i (unnot (holds numbers c.id.0) s)) (λ c i s. lost_rows c (unnot_false (holds numbers c.id.0) s)))
