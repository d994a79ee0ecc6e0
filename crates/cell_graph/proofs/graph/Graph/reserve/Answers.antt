use Rattle.std.proofs.Common.{refl}
use Rattle.cell_graph.proofs.Sights.{reserved}
use Rattle.cell_graph.proofs.graph.Graph.reserve.Goals as goal

pub invariant_of-self : goal.invariant_of-self
invariant_of-self c =
    let i = c.self.inside in
    reserved i.rows i.rows i.sections c.reserve.new.self i.section_list.items _ i.row_list.items _ refl c.reserve.ensures.slots refl refl c.self.invariant

pub invariant_of-self-in_err-reserve-2 : goal.invariant_of-self-in_err-reserve-2
invariant_of-self-in_err-reserve-2 c =
    let i = c.self.inside in
    reserved i.rows i.rows i.sections c.reserve.new.self i.section_list.items _ i.row_list.items _ refl c.reserve.ensures.slots c.reserve-2.ensures.items refl c.self.invariant

pub invariant_of-self-in_err-reserve-3 : goal.invariant_of-self-in_err-reserve-3
invariant_of-self-in_err-reserve-3 c =
    let i = c.self.inside in
    reserved i.rows c.reserve-3.new.self i.sections c.reserve.new.self i.section_list.items _ i.row_list.items _
    c.reserve-3.ensures.slots c.reserve.ensures.slots c.reserve-2.ensures.items refl c.self.invariant

pub invariant_of-self-2 : goal.invariant_of-self-2
invariant_of-self-2 c =
    let i = c.self.inside in
    reserved i.rows c.reserve-3.new.self i.sections c.reserve.new.self i.section_list.items _ i.row_list.items _
    c.reserve-3.ensures.slots c.reserve.ensures.slots c.reserve-2.ensures.items c.reserve-4.ensures.items c.self.invariant
