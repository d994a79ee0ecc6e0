-- The sections of present cells as keys, and the links between them.
use Rattle.std.proofs.Common.{◌≡◌, sym, ◌∙◌, ap, ap₂, subst, arith, ℕ, suc, ◌<◌, inl, inr, ◌==◌, List, [], ◌∷◌, ◌++◌, map, true}
use Rattle.std.specs.Prelude.{All, Contains}
use Rattle.std.proofs.lemmas.Bool.{eqb-true, ltb-true}
use Rattle.cell_num.specs.declared.ids.SecKey.{SecKey}
use Rattle.cell_object.specs.declared.object.Section.{Section as ObjectSection}
use Rattle.cell_world.specs.declared.state.LinkRow.{LinkRow}
use Rattle.cell_world.specs.declared.state.NewCell.{NewCell}
use Rattle.cell_world.specs.World.{World, Cell, key_of}
use Rattle.cell_world.specs.Coherent.{IsCoherent, is_known_cell}
use Rattle.cell_num.specs.Lists.{In}
use Rattle.cell_lemmas.specs.Present.{HasSection, JoinsPresent}
use Rattle.cell_num.proofs.Elements.{all-In, found-In, In-right, All-In, In-All, map-In, In-map, flat_map-In, In-flat_map}
use Rattle.cell_lemmas.proofs.Naming.Known.{known_parts}
use Rattle.cell_lemmas.proofs.Targeting.Present.{links_present}
use Rattle.cell_space.specs.Joined.{placed_of}
use Rattle.cell_machine.specs.Machine.{keys_of, section_keys}

number_below : (w : World) → IsCoherent w → (c : Cell) → In c w.cells → c.id.0 < w.next_cell
number_below w coherent c i = ltb-true c.id.0 w.next_cell (known_parts w c (all-In (is_known_cell w) w.cells coherent.ready.cells c i)).number

-- each link is of a cell whose number was given
pub links_below : (w : World) → IsCoherent w → (r : LinkRow) → In r w.links → r.user.cell.0 < w.next_cell
links_below w coherent r i =
    let user = (All-In (JoinsPresent w) w.links (links_present w coherent) r i).user in
    let at = found-In (λ (c : Cell). c.id.0 == r.user.cell.0) w.cells user.cell user.present in
    subst (λ (n : ℕ). n < w.next_cell) (eqb-true user.cell.id.0 r.user.cell.0 at.1) (number_below w coherent user.cell at.0)

in_contains : {X : Type 0} (xs : List X) (x : X) → In x xs → Contains xs x
in_contains [] x i = absurd i
in_contains (y ∷ xs) x (inl e) = (0, omega arith, sym e)
in_contains (y ∷ xs) x (inr i) = let r = in_contains xs x i in (suc r.0, omega (arith, r.1), r.2)

module _ (u : World) (coherent : IsCoherent u) (cells : List NewCell) (are : map placed_of u.cells ≡ cells) where
  -- each present section is of a cell whose number was given
  pub keys_below : (k : SecKey) → In k (keys_of cells) → k.cell.0 < u.next_cell
  keys_below k i =
      let c : (c : NewCell) × In c cells × In k (section_keys c) = In-flat_map section_keys cells k i in
      let s : (s : ObjectSection) × In s c.0.object.sections × (k ≡ key_of c.0.id.0 s.number) = In-map (λ (s : ObjectSection). key_of c.0.id.0 s.number) c.0.object.sections k c.2 in
      let same : k.cell.0 ≡ c.0.id.0 = ap (λ (k : SecKey). k.cell.0) s.2 in
      let d : (d : Cell) × In d u.cells × (c.0 ≡ d.placed) = In-map placed_of u.cells c.0 (subst (λ (cs : List NewCell). In c.0 cs) (sym are) c.1) in
      subst (λ (n : ℕ). n < u.next_cell) (sym (same ∙ ap (λ (x : NewCell). x.id.0) d.2)) (number_below u coherent d.0 d.1)

  present_key : (key : SecKey) → HasSection u key → Contains (keys_of cells) key
  present_key key h =
      in_contains (keys_of cells) key (flat_map-In section_keys cells h.cell.placed key listed here)
    where
      cell_at : In h.cell u.cells × ((h.cell.id.0 == key.cell.0) ≡ true)
      cell_at = found-In (λ (c : Cell). c.id.0 == key.cell.0) u.cells h.cell h.present

      listed : In h.cell.placed cells
      listed = subst (λ (cs : List NewCell). In h.cell.placed cs) are (map-In placed_of u.cells h.cell cell_at.0)

      section_at : In h.section h.cell.object.sections × ((h.section.number == key.section) ≡ true)
      section_at = found-In (λ (s : ObjectSection). s.number == key.section) h.cell.object.sections h.section h.has

      same : key_of h.cell.id.0 h.section.number ≡ key
      same = ap₂ key_of (eqb-true h.cell.id.0 key.cell.0 cell_at.1) (eqb-true h.section.number key.section section_at.1)

      here : In key (section_keys h.cell.placed)
      here = subst (λ (k : SecKey). In k (section_keys h.cell.placed)) same (map-In (λ (s : ObjectSection). key_of h.cell.id.0 s.number) h.cell.object.sections h.section section_at.0)

  -- new links join present sections
  pub rows_present : (old rows : List LinkRow) → u.links ≡ old ++ rows → All (λ (r : LinkRow). Contains (keys_of cells) r.user × Contains (keys_of cells) r.target) rows
  rows_present old rows is = In-All (λ (r : LinkRow). Contains (keys_of cells) r.user × Contains (keys_of cells) r.target) rows each
    where
      each : (r : LinkRow) → In r rows → Contains (keys_of cells) r.user × Contains (keys_of cells) r.target
      each r i =
          let joins = All-In (JoinsPresent u) u.links (links_present u coherent) r (subst (λ (ls : List LinkRow). In r ls) (sym is) (In-right old rows r i)) in
          (present_key r.user joins.user, present_key r.target joins.target)
