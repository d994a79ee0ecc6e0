use Rattle.std.proofs.Common.{refl, sym, ◌∙◌}
use Rattle.std.specs.BTreeMap.{get}
use Rattle.cell_link.specs.Tables.{spot_cmp}
use Rattle.cell_plan.proofs.Ends.{taken_in}
use Rattle.cell_plan.proofs.lasts.take_in.Goals as goal

pub returns : goal.returns
returns c =
    taken_in c.args.cell.now c.args.entry.now c.in-Some.high c.max-end.result (get spot_cmp c.args.ends.now) (get spot_cmp c.insert.new.self)
    (rw (← c.requires.same) (sym c.partner.ensures ∙ c.in-Some.is))
    (c.max-end.ensures ∙ rw (c.end_at.ensures, c.place_of.ensures.place) refl)
    (λ q. c.in_ok-insert.ensures.updates.0 q)
