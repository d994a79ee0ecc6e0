use Rattle.std.proofs.Common.{rules, ◌≡◌, ◌∙◌, ap, sym}
use Rattle.std.specs.Prelude.{unwrap_or}
use Rattle.std.specs.List.{list_any}
use Rattle.std.specs.BTreeMap.{get}
use Rattle.cell_link.specs.Tables.{spot_cmp}
use Rattle.cell_plan.specs.Lasts.{may_go}
use Rattle.cell_plan.proofs.Ends.{no_ends}
use Rattle.cell_plan.proofs.lasts.ends_of.Goals as goal

pub returns : goal.returns
returns c = λ q.
    let empty : unwrap_or (get spot_cmp c.new.result q) 0 ≡ 0 = search rules in
    empty ∙ sym (no_ends c.args.cell.now (ap (list_any may_go) (sym c.as_slice.ensures) ∙ (sym c.any_may_go.ensures ∙ c.if-any_may_go.false)) q)
