use Rattle.std.proofs.Common.{◌++◌}
use Rattle.cell_target.specs.Scene.{seen}
use Rattle.cell_load.proofs.Linked.{IsLinkedTo}
use Rattle.cell_load.proofs.link.link_new.Given as goal

-- the cells so far
abbrev pub invariant-loop-place : goal.invariant-loop-place
invariant-loop-place l = IsLinkedTo (seen l.scene.ahead.now.namespaces (l.scene.present.now ++ l.scene.fresh.now) l.scene.ahead.now.cells) l.scene.fresh.now l.place l.linked
