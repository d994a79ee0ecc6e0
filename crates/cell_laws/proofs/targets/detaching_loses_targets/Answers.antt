use Rattle.cell_lemmas.proofs.Targeting.Steps.{detached_own, detached_others, detached_lost}
use Rattle.cell_laws.proofs.targets.detaching_loses_targets.Goals as goal

pub returns-clause-own : goal.returns-clause-own
returns-clause-own c w k ns named new attached = detached_own w k ns named new attached

pub returns-clause-others : goal.returns-clause-others
returns-clause-others c w k ns named new attached = detached_others w k ns named new attached

pub returns-clause-lost : goal.returns-clause-lost
returns-clause-lost c w k ns named new attached = detached_lost w k ns named new attached
