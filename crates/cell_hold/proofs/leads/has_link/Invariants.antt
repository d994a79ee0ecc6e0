use Rattle.std.proofs.Common.{◌≡◌}
use Rattle.cell_hold.specs.Reached.{links_lead}
use Rattle.cell_hold.proofs.Linking.{some_leads}
use Rattle.cell_hold.proofs.leads.has_link.Given as goal

-- those that are left decide
abbrev pub invariant-loop-link : goal.invariant-loop-link
invariant-loop-link l = some_leads l.link-iterator l.cell.0 ≡ links_lead l.graph l.fn.from.0 l.cell.0
