-- Linking leaves the free pages free.
use Rattle.std.proofs.Common.{◌≡◌, sym, ◌∙◌, ap, ℕ, ◌+◌, ◌*◌, Bool, ◌&&◌, ◌||◌, List, [], ◌∷◌, map, refl, Some, None, Ok, Err}
use Rattle.std.specs.Prelude.{nat_lt, nat_le}
use Rattle.std.specs.List.{list_any}
use Rattle.cell_num.specs.Lists.{upto}
use Rattle.cell_world.specs.declared.refusal.Refusal.TheVariants.{Exhausted}
use Rattle.cell_world.specs.World.{World, Region}
use Rattle.cell_world.specs.Running.Memory.{covers}
use Rattle.cell_world.specs.Placed.Pages.{lowest_run, longest_run}
use Rattle.cell_world.specs.Placed.Place.{is_taken, page_table, start_of_run}
use Rattle.cell_world.specs.Linked.Relink.{relink}
use Rattle.cell_world.specs.Outcome.{Outcome}
use Rattle.cell_world.specs.Coherent.{IsReady, Shape, shape_of}
use Rattle.cell_num.proofs.Elements.{map_same}
use Rattle.cell_lemmas.proofs.Fields.Reshaped.{shapes_relinked}
use Rattle.cell_lemmas.proofs.Fields.FieldsInside.{fields_end_in}
use Rattle.cell_lemmas.proofs.Placement.ImagesInside.{images_fit}

-- where pages are free is a matter of the regions' shapes
abbrev shape_covers : ℕ → Shape → Bool
shape_covers addr s = nat_le s.start addr && nat_lt addr (s.start + s.size)

any_mapped : (addr : ℕ) (regions : List Region) → list_any (shape_covers addr) (map shape_of regions) ≡ list_any (λ r. covers r addr) regions
any_mapped addr [] = refl
any_mapped addr (r ∷ regions) = ap (λ b. covers r addr || b) (any_mapped addr regions)

pub run_relinked : (w : World) → IsReady w → (n : ℕ) → start_of_run (relink w) n ≡ start_of_run w n
run_relinked w c n = ap run tables
  where
    run : List Bool → Outcome ℕ
    run table = elim (lowest_run table n) [
      | None ↦ Err (Exhausted n (longest_run table))
      | Some page ↦ Ok (w.base + 4096 * page)
    ]

    shapes : map shape_of (relink w).regions ≡ map shape_of w.regions
    shapes = shapes_relinked w (fields_end_in w c.regions c.apart c.placed c.objects) (images_fit w c.regions c.in_space c.apart c.placed c.objects)

    taken : (page : ℕ) → is_taken (relink w) page ≡ is_taken w page
    taken page =
        sym (any_mapped (w.base + 4096 * page) (relink w).regions)
        ∙ (ap (list_any (shape_covers (w.base + 4096 * page))) shapes ∙ any_mapped (w.base + 4096 * page) w.regions)

    tables : page_table (relink w) ≡ page_table w
    tables = map_same (is_taken (relink w)) (is_taken w) (upto w.pages) (λ page i. taken page)
