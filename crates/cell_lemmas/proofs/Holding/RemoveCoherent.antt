-- Removing cells into which no cell that stays has a link, and which are no task's root, keeps the machine coherent.
use Rattle.std.proofs.Common.{◌≡◌, ◌∙◌, ap, arith, ℕ, Bool, true, false, List}
use Rattle.std.specs.Prelude.{is_some, not}
use Rattle.cell_num.specs.Lists.{holds, In}
use Rattle.cell_world.specs.World.{World, Cell, Region, Task}
use Rattle.cell_world.specs.Linked.Relink.{remade}
use Rattle.cell_world.specs.Commands.UnloadCommand.{without_cells}
use Rattle.cell_world.specs.Coherent.{IsCoherent, IsLoadable, is_supplied, is_fitting, is_in_space, is_placed, is_known_cell, is_sound_task, may_both_stand, has_each_name_once, ends_before}
use Rattle.cell_num.proofs.Elements.{In-all, All-In, In-All, In-filtered, filter-Passes}
use Rattle.cell_lemmas.proofs.Tasks.Changed.{TaskParts, live_parts, task_from}
use Rattle.cell_lemmas.proofs.Fields.Fixed.{relinked}
use Rattle.cell_num.proofs.Sublists.{all-filter, pairs-filter, length-filter_le}
use Rattle.cell_lemmas.proofs.Naming.Lookups.{unnot}
use Rattle.cell_lemmas.proofs.Targeting.TargetsLeft.{Closed, cell_same}
use Rattle.cell_lemmas.proofs.Links.LinksLeft.{links_left}
use Rattle.cell_lemmas.proofs.Placement.ShapesLeft.{lost_starts, shapes_left}
use Rattle.cell_lemmas.proofs.Holding.BytesLeft.{remade_left}
use Rattle.cell_lemmas.proofs.Naming.NeedsLeft.{supplied_left, fitting_left}

module _ (w : World) (h : IsCoherent w) (numbers : List ℕ) (closed : Closed w numbers) (roots : (t : Task) → In t w.tasks → holds numbers t.root ≡ false) where
  abbrev left : World
  left = without_cells w numbers

  abbrev stay : Cell → Bool
  stay c = not (holds numbers c.id.0)

  -- a cell that is left was there, and isn't one of those that are removed
  was : (c : Cell) → In c left.cells → In c w.cells × (holds numbers c.id.0 ≡ false)
  was c i = (In-filtered stay w.cells c i, unnot (holds numbers c.id.0) (filter-Passes stay w.cells c i))

  bytes_left : (r : Region) → In r left.regions → remade left r ≡ r
  bytes_left r i = remade_left w h numbers closed r (In-filtered (λ x. not (holds (lost_starts w h numbers) x.start)) w.regions r i)
      (unnot (holds (lost_starts w h numbers) r.start) (filter-Passes (λ (x : Region). not (holds (lost_starts w h numbers) x.start)) w.regions r i))

  task_left : (t : Task) → In t w.tasks → is_sound_task left t ≡ true
  task_left t i =
      let p : TaskParts w t = live_parts w h t i in
      task_from left t (record { number = p.number; root = ap is_some (cell_same w h numbers t.root (roots t i)) ∙ p.root; registers = p.registers; first = p.first })

  pub remove_coherent : IsCoherent left
  remove_coherent = record {
    ready = record {
      alone = record {
        cell_order = pairs-filter _ stay w.cells h.ready.cell_order;
        placed = all-filter is_placed stay w.cells h.ready.placed;
        objects = In-All (λ (c : Cell). IsLoadable c.object) left.cells (λ c i. All-In (λ (c : Cell). IsLoadable c.object) w.cells h.ready.objects c (was c i).0);
      };
      together = record {
        names = pairs-filter (may_both_stand w) stay w.cells h.ready.names;
        own_names = all-filter has_each_name_once stay w.cells h.ready.own_names;
        cells = all-filter (is_known_cell w) stay w.cells h.ready.cells;
        supplied = In-all (is_supplied left) left.cells (λ c i. let p = was c i in supplied_left w h numbers closed c p.0 p.1);
        fitting = In-all (is_fitting left) left.cells (λ c i. let p = was c i in fitting_left w h numbers closed c p.0 p.1);
      };
      counted = record { few_cells = omega (arith, length-filter_le stay w.cells, h.ready.few_cells); cell_numbers = h.ready.cell_numbers; swap_numbers = h.ready.swap_numbers };
      parents = h.ready.parents;
      memory = record {
        regions = shapes_left w h numbers;
        in_space = all-filter (is_in_space w) _ w.regions h.ready.in_space;
        apart = pairs-filter ends_before _ w.regions h.ready.apart;
      };
      running = record {
        task_order = h.ready.task_order;
        tasks = In-all (is_sound_task left) w.tasks task_left;
        few_tasks = h.ready.few_tasks;
        task_numbers = h.ready.task_numbers;
      };
      origins = h.ready.origins;
      space = h.ready.space;
    };
    linked = relinked left (links_left w h numbers closed) bytes_left;
  }
