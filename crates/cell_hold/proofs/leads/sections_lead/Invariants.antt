use Rattle.std.proofs.Common.{◌≡◌, false, take}
use Rattle.std.specs.List.{list_any}
use Rattle.cell_world.specs.declared.state.Placed.{Placed}
use Rattle.cell_hold.specs.Reached.{section_leads}
use Rattle.cell_hold.proofs.leads.sections_lead.Given as goal

abbrev pub invariant-loop-place : goal.invariant-loop-place
invariant-loop-place l = list_any (λ (s : Placed). section_leads l.memory l.places s l.cell.0) (take l.place-index l.own) ≡ false
