-- A machine stays coherent over an answer whose world is; `find`, `map` and `dump` change nothing; the first machine is coherent.
use Rattle.std.proofs.Common.{◌≡◌, refl, ap, arith, ℕ, List, Ok, Err}
use Rattle.std.specs.Prelude.{decimal}
use Rattle.cell_object.specs.Parts.{section_of}
use Rattle.cell_world.specs.declared.refusal.Refusal.TheVariants.{Unknown}
use Rattle.cell_world.specs.World.{World, empty_world}
use Rattle.cell_world.specs.Placed.Pages.{IsSpace}
use Rattle.cell_world.specs.Outcome.{Outcome, found}
use Rattle.cell_world.specs.Answer.{Done, present_cell, space_of}
use Rattle.cell_world.specs.Commands.FindCommand.{next_find}
use Rattle.cell_world.specs.Commands.MapCommand.{next_map}
use Rattle.cell_world.specs.Commands.DumpCommand.{next_dump}
use Rattle.cell_world.specs.Next.{answered_by}
use Rattle.cell_world.specs.Coherent.{IsReady, IsCoherent}
use Rattle.cell_lemmas.proofs.Outcomes.{bind_ok}
use Rattle.cell_lemmas.proofs.Naming.Appended.{ok_same}

pub dump_same : (w : World) (cell section : ℕ) (d : Done) → next_dump w cell section ≡ Ok d → w ≡ d.world
dump_same w cell section d h =
    let a = bind_ok (present_cell w cell) _ d h in
    let b = bind_ok (found (section_of a.0.object section) (Unknown (decimal section))) _ d a.2 in
    ap (λ (x : Done). x.world) (ok_same _ d b.2)

pub find_same : (w : World) (name symbol : List ℕ) (d : Done) → next_find w name symbol ≡ Ok d → w ≡ d.world
find_same w name symbol d h = let a = bind_ok (space_of w name) _ d h in ap (λ (x : Done). x.world) (ok_same _ d a.2)

pub map_same : (w : World) (d : Done) → next_map w ≡ Ok d → w ≡ d.world
map_same w d h = ap (λ (x : Done). x.world) (ok_same _ d h)

pub answered : (w : World) (o : Outcome Done) → IsCoherent w → ((d : Done) → o ≡ Ok d → IsCoherent d.world) → IsCoherent (answered_by w o).world
answered w (Ok d) c f = f d refl
answered w (Err r) c f = c

empty_ready : (base pages : ℕ) → IsSpace base pages → IsReady (empty_world base pages)
empty_ready base pages s = record {
  alone = record { cell_order = refl; placed = refl; objects = λ k d l. absurd (omega (arith, l)) };
  together = record { names = refl; own_names = refl; cells = refl; supplied = refl; fitting = refl };
  counted = record { few_cells = omega arith; cell_numbers = omega arith; swap_numbers = omega arith };
  parents = record { spaces = refl; space_names = refl; few_spaces = omega arith };
  memory = record { regions = refl; in_space = refl; apart = refl };
  running = record { task_order = refl; tasks = refl; few_tasks = omega arith; task_numbers = omega arith };
  origins = refl;
  space = s;
}

pub empty_coherent : (base pages : ℕ) → IsSpace base pages → IsCoherent (empty_world base pages)
empty_coherent base pages s = record { ready = empty_ready base pages s; linked = refl }
