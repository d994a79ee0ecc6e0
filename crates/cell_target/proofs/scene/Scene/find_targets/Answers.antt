use Rattle.cell_target.proofs.scene.Scene.find_targets.Goals as goal

pub find_symbols-requires-clause-low : goal.find_symbols-requires-clause-low
find_symbols-requires-clause-low c = c.args.self.now.cells.low c.args.cell.now c.requires.there
