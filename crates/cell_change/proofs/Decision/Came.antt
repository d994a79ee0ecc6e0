-- A change whose new cells have their places: what it has come to, and what it changes in a cell that was there.
use Rattle.std.proofs.Common.{◌≡◌, sym, subst, suc, true, false, List, map, None, ℕ}
use Rattle.std.specs.Prelude.{All}
use Rattle.cell_num.specs.Lists.{In}
use Rattle.cell_num.proofs.Elements.{All-In, In-All, In-map}
use Rattle.cell_world.specs.Change.{Change as ChangeSaid, old_of}
use Rattle.cell_world.specs.Changed.{differs, first_changed_misfit, now_in}
use Rattle.cell_world.specs.Coherent.{AreSound, IsCoherent, IsReady}
use Rattle.cell_world.specs.Linked.Field.{Bound, fits}
use Rattle.cell_world.specs.Linked.Fit.{first_misfit}
use Rattle.cell_world.specs.Gather.{Source, fresh_cells}
use Rattle.cell_world.specs.Linked.Relink.{bound_entries}
use Rattle.cell_world.specs.World.{Cell, World}
use Rattle.cell_lemmas.specs.Grown.{IsRegrown}
use Rattle.cell_lemmas.specs.Linkable.{IsLinkable}
use Rattle.cell_lemmas.proofs.Fields.ChangedFits.{unchanged_fits}
use Rattle.cell_lemmas.proofs.Targeting.Detached.{put}
use Rattle.cell_lemmas.proofs.Fields.Unchanged.{bound_now, named_in}
use Rattle.cell_lemmas.proofs.Fields.Values.{bind}
use Rattle.cell_change_law.specs.Sound.{HasCome, IsSound}
use Rattle.cell_change_law.proofs.Placing.{change_linkable, change_ready, change_regrown, now_is}
use Rattle.cell_plan.specs.Staying.{StaysBy}

module _ (sources : List Source) (sound : AreSound sources) (v : World) (h : IsCoherent v) (asked : ChangeSaid) (good : IsSound sources v asked) (w : World) (p : HasCome sources v asked w) where
  abbrev old : List ℕ
  old = old_of asked

  pub came_linkable : IsLinkable w
  came_linkable = change_linkable sources sound v h asked good p.gathered p.gathering w p.placing p.covered

  pub came_regrown : IsRegrown v w (fresh_cells v.next_cell w)
  came_regrown = change_regrown sources sound v h asked good p.gathered p.gathering w p.placing p.covered

  pub came_now : (c : Cell) → In c v.cells → now_in w c ≡ put (suc v.swaps) old c
  came_now = now_is sources sound v h asked good p.gathered p.gathering w p.placing p.covered

  pub came_ready : first_changed_misfit v w v.cells ≡ None → first_misfit w (fresh_cells v.next_cell w) ≡ None → IsReady w
  came_ready = change_ready sources sound v h asked good p.gathered p.gathering w p.placing p.covered

  module _ (c : Cell) (i : In c v.cells) where
    abbrev FitsStill : Bound → Type 0
    FitsStill b = differs v w c b.entry ≡ false → fits (now_in w c).placed (bound_entries w (now_in w c)) b ≡ true

    bound : bound_entries w (now_in w c) ≡ map (bind (named_in w (now_in w c))) c.object.entries
    bound = bound_now v w (fresh_cells v.next_cell w) h.ready came_linkable came_regrown c i

    fit : (b : Bound) → In b (map (bind (named_in w (now_in w c))) c.object.entries) → FitsStill b
    fit b j =
        let e = In-map (bind (named_in w (now_in w c))) c.object.entries b j in
        subst FitsStill (sym e.2) (unchanged_fits v w (fresh_cells v.next_cell w) h.ready came_linkable came_regrown c i e.0 e.1)

    -- it is where it was, and what names what it named fits
    pub came_stays : StaysBy v w c
    came_stays = record {
      same = All-In (λ (x : Cell). (now_in w x).placed ≡ x.placed) v.cells came_regrown.same c i;
      fit = subst (All FitsStill) (sym bound) (In-All FitsStill (map (bind (named_in w (now_in w c))) c.object.entries) fit);
    }
