use Rattle.std.proofs.Common.{◌∙◌, ap, true, false}
use Rattle.std.specs.Prelude.{is_some}
use Rattle.std.proofs.lemmas.Bool.{false≢true}
use Rattle.cell_task.specs.State.{seen_as}
use Rattle.cell_change.proofs.Arrival.Renewing.{renews_none, renews_some}
use Rattle.cell_change.proofs.restarting.look_again.Goals as goal

pub unreachable-requires : goal.unreachable-requires
unreachable-requires c = false≢true (ap is_some (c.in_default.ensures {u = tt}) ∙ c.requires)

pub returns-in-Some-outlook : goal.returns-in-Some-outlook
returns-in-Some-outlook c t live =
    renews_some t (seen_as c.args.task c.in-Some.live.now) ((c.in-Some.ensures {u = tt}) ∙ live) c.args.outlook.now c.in-Some-outlook.outlook c.in-Some-outlook.is c.view_of.result c.view_of.ensures c.renew.new.self c.renew.ensures.places c.renew.ensures.roots

pub returns-in_default-outlook : goal.returns-in_default-outlook
returns-in_default-outlook c t live = renews_none t c.args.outlook.now c.in_default-outlook.is
