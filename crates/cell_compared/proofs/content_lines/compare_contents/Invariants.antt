use Rattle.std.proofs.Common.{◌≡◌, drop, map}
use Rattle.std.specs.Prelude.{flat_map}
use Rattle.cell_relinked.specs.Linking.{seen_by}
use Rattle.cell_compared.specs.Left.{left}
use Rattle.cell_compared.specs.Shown.{contents_shown, relinked_in}
use Rattle.cell_compared.specs.Walk.{walk}
use Rattle.cell_compared.proofs.content_lines.compare_contents.Given as goal

-- what is left of the dump, against what is left of the lines
abbrev pub invariant-loop-index : goal.invariant-loop-index
invariant-loop-index l = record {
  same : l.objects.items ≡ l.fn.objects.items;
  walked :
      walk (left l.cursor) (flat_map (contents_shown (relinked_in l.ground l.fn.objects.items)) (map (seen_by l.ground l.fn.objects.items) (drop l.index l.ground.cells.now)))
      ≡ walk (left l.fn.cursor) (flat_map (contents_shown (relinked_in l.ground l.fn.objects.items)) (map (seen_by l.ground l.fn.objects.items) l.ground.cells.now));
}
