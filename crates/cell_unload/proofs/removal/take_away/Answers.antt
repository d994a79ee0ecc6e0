use Rattle.std.proofs.Common.{◌∙◌, ap, map, refl, subst, sym, List}
use Rattle.std.specs.Prelude.{All, IsTrue, nat_lt}
use Rattle.cell_machine.specs.Staged.{all_attached}
use Rattle.cell_num.specs.Lists.{each_pair}
use Rattle.cell_world.specs.declared.state.NewCell.{NewCell}
use Rattle.cell_world.specs.declared.state.SecPlace.{SecPlace}
use Rattle.cell_unload.specs.Unmapped.{CanLeave, lost_starts, without_regions}
use Rattle.cell_unload.proofs.removal.take_away.Goals as goal

pub unmap_cells-requires-clause-places : goal.unmap_cells-requires-clause-places
unmap_cells-requires-clause-places c =
    subst (λ (cs : List NewCell). All (λ (x : NewCell). IsTrue (each_pair (λ (a b : SecPlace). nat_lt a.section b.section) x.places)) cs) (sym c.deref.ensures.value) c.requires.places

pub unmap_cells-requires-clause-there : goal.unmap_cells-requires-clause-there
unmap_cells-requires-clause-there c =
    subst (λ (cs : List NewCell). CanLeave c.args.machine.now.memory (lost_starts (all_attached cs) (map (λ d. d.0) c.args.cells.now))) (sym c.deref.ensures.value) c.requires.regions

pub returns : goal.returns
returns c = record {
  laid = c.laid_out.ensures;
  memory = c.unmap_cells.ensures.memory
      ∙ ap (λ (cs : List NewCell). without_regions c.args.machine.now.memory (lost_starts (all_attached cs) (map (λ d. d.0) c.args.cells.now))) c.deref.ensures.value;
  tabled = c.unmap_cells.ensures.tabled;
  names = c.drop_cells.ensures.cells;
  namespaces = c.drop_cells.ensures.same_namespaces;
  rows = c.remove_links.ensures.rows;
  sections = c.remove_links.ensures.sections;
  left = c.leave_others.ensures;
  soft = c.leave_numbers.ensures;
  next = refl;
  swaps = refl;
  tasks = refl;
}
