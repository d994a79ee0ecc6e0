use Rattle.cell_lemmas.proofs.Naming.NamespaceAdded.{chains_stay, providers_stay}
use Rattle.cell_laws.proofs.targets.namespaces_only_add.Goals as goal

pub returns-clause-chains : goal.returns-clause-chains
returns-clause-chains c = chains_stay

pub returns-clause-providers : goal.returns-clause-providers
returns-clause-providers c = providers_stay
