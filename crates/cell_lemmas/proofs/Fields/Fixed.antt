-- A machine is linked exactly where each of its regions is.
use Rattle.std.proofs.Common.{◌≡◌, ◌∙◌, ap, List, map}
use Rattle.cell_world.specs.declared.state.LinkRow.{LinkRow}
use Rattle.cell_world.specs.World.{World, Region}
use Rattle.cell_world.specs.Linked.Relink.{remade, links_of, relink}
use Rattle.cell_num.specs.Lists.{In}
use Rattle.cell_num.proofs.Sublists.{fixed-In, In-fixed}

pub remade_fixed : (w : World) → relink w ≡ w → (r : Region) → In r w.regions → remade w r ≡ r
remade_fixed w e = fixed-In (remade w) w.regions (ap (λ (v : World). v.regions) e)

pub links_fixed : (w : World) → relink w ≡ w → links_of w ≡ w.links
links_fixed w e = ap (λ (v : World). v.links) e

pub relinked : (w : World) → links_of w ≡ w.links → ((r : Region) → In r w.regions → remade w r ≡ r) → relink w ≡ w
relinked w l f =
    ap (λ (ls : List LinkRow). record w { regions = map (remade w) w.regions; links = ls }) l
    ∙ ap (λ (rs : List Region). record w { regions = rs; links = w.links }) (In-fixed (remade w) w.regions f)
