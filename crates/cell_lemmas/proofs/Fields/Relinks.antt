-- A world that is coherent but for its code and links is coherent once it is relinked.
use Rattle.std.proofs.Common.{◌≡◌, sym, ◌∙◌, ap, ◌+◌, ◌-◌, ◌*◌, Bool, ◌&&◌, map}
use Rattle.std.specs.Prelude.{nat_lt, nat_le, ◌%◌, ◌==◌}
use Rattle.std.specs.List.{list_all}
use Rattle.std.proofs.lemmas.List.Folds.{list_all-map}
use Rattle.cell_num.specs.Lists.{each_pair}
use Rattle.cell_world.specs.World.{World}
use Rattle.cell_world.specs.Linked.Relink.{relink}
use Rattle.cell_world.specs.Coherent.{IsReady, IsCoherent, Shape, shape_of}
use Rattle.cell_num.proofs.Elements.{pairs-map}
use Rattle.cell_lemmas.proofs.Fields.Relinked.{relink_twice}
use Rattle.cell_lemmas.proofs.Fields.Reshaped.{shapes_relinked}
use Rattle.cell_lemmas.proofs.Fields.FieldsInside.{fields_end_in}
use Rattle.cell_lemmas.proofs.Placement.ImagesInside.{images_fit, regions_after}

-- the tests of regions, over their shapes
abbrev shape_in_space : World → Shape → Bool
shape_in_space w s =
    nat_le w.base s.start && ((s.start - w.base) % 4096 == 0) && nat_lt 0 s.size && (s.size % 4096 == 0) && nat_le (s.start + s.size) (w.base + 4096 * w.pages)

abbrev shape_before : Shape → Shape → Bool
shape_before s t = nat_le (s.start + s.size) t.start

-- linking changes no more of a ready world than the bytes of its regions and the links
pub ready_relinked : (w : World) → IsReady w → IsReady (relink w)
ready_relinked w c = record {
  alone = c.alone;
  together = c.together;
  counted = c.counted;
  parents = c.parents;
  memory = record {
    regions = regions_after w c.regions c.in_space c.apart c.placed c.objects;
    in_space = sym (list_all-map (shape_in_space w) shape_of (relink w).regions) ∙ (ap (list_all (shape_in_space w)) shapes ∙ (list_all-map (shape_in_space w) shape_of w.regions ∙ c.in_space));
    apart = sym (pairs-map shape_before shape_of (relink w).regions) ∙ (ap (each_pair shape_before) shapes ∙ (pairs-map shape_before shape_of w.regions ∙ c.apart));
  };
  running = c.running;
  origins = c.origins;
  space = c.space;
}
  where
    shapes : map shape_of (relink w).regions ≡ map shape_of w.regions
    shapes = shapes_relinked w (fields_end_in w c.regions c.apart c.placed c.objects) (images_fit w c.regions c.in_space c.apart c.placed c.objects)

pub relinked_again : (w : World) → IsReady w → relink (relink w) ≡ relink w
relinked_again w c = relink_twice w (fields_end_in w c.regions c.apart c.placed c.objects)

pub coherent_relinked : (w : World) → IsReady w → IsCoherent (relink w)
coherent_relinked w c = record { ready = ready_relinked w c; linked = relinked_again w c }
