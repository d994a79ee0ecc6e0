use Rattle.std.proofs.Common.{sym, ap, ◌∙◌, Bool, ◌&&◌}
use Rattle.std.specs.Prelude.{is_none, option_and_then}
use Rattle.cell_audit.specs.Described.{standing_of}
use Rattle.cell_num.specs.Lists.{or_else}
use Rattle.cell_bearers.specs.Bearers.{bearers_of}
use Rattle.cell_world.specs.Names.{Provider, provider_of}
use Rattle.cell_world.specs.Linked.Target.{provided_target}
use Rattle.cell_target.proofs.Asking.{asked_is}
use Rattle.cell_relinked.specs.Scene.{seen_in, world_of}
use Rattle.cell_relinked.proofs.Provided.{asked, is_nobody, none_if}
use Rattle.cell_relinked.proofs.scene.Scene.asked.Goals as goal

pub provider-provider-requires-clause-bearers : goal.provider-provider-requires-clause-bearers
provider-provider-requires-clause-bearers c =
    let s = c.args.self.now in
    c.requires.bearers ∙ ap (bearers_of s.file.now s.objects.now s.cells.now) (sym c.as_slice.ensures)

pub returns-then-is_global-clause-target : goal.returns-then-is_global-clause-target
returns-then-is_global-clause-target c =
    let s = c.args.self.now in
    let symbol = c.args.symbol.now in
    let found = asked s c.args.cell.now c.args.sights.now c.requires.asking c.provider-provider.result c.as_slice.result.now c.provider-provider.ensures.provider ∙ ap (provider_of (world_of s) (seen_in s c.args.cell.now)) c.as_slice.ensures in
    c.either.ensures
    ∙ (ap (or_else c.target_of.result) c.unprovided.ensures
    ∙ asked_is (world_of s) (standing_of c.args.cell.now.group) symbol c.args.cell.now.ns c.target_of.result c.requires.named
    (c.target_of.ensures ∙ ap (option_and_then (provided_target (world_of s))) found))

pub returns-else-is_global-clause-target : goal.returns-else-is_global-clause-target
returns-else-is_global-clause-target c =
    let s = c.args.self.now in
    let symbol = c.args.symbol.now in
    let found = asked s c.args.cell.now c.args.sights.now c.requires.asking c.provider-provider.result c.as_slice.result.now c.provider-provider.ensures.provider ∙ ap (provider_of (world_of s) (seen_in s c.args.cell.now)) c.as_slice.ensures in
    c.either.ensures
    ∙ (ap (or_else c.target_of.result) c.unprovided.ensures
    ∙ asked_is (world_of s) (standing_of c.args.cell.now.group) symbol c.args.cell.now.ns c.target_of.result c.requires.named
    (c.target_of.ensures ∙ ap (option_and_then (provided_target (world_of s))) found))

pub returns-then-is_global-clause-lacking : goal.returns-then-is_global-clause-lacking
returns-then-is_global-clause-lacking c =
    let s = c.args.self.now in
    let found = asked s c.args.cell.now c.args.sights.now c.requires.asking c.provider-provider.result c.as_slice.result.now c.provider-provider.ensures.provider ∙ ap (provider_of (world_of s) (seen_in s c.args.cell.now)) c.as_slice.ensures in
    let nobody = is_none {T = Provider} (provider_of (world_of s) (seen_in s c.args.cell.now) c.args.symbol.now.name) in
    none_if c.provider-provider.result c.is_none.result c.is_none.ensures
    ∙ (is_nobody s c.provider-provider.result
    ∙ (ap (λ o. is_none {T = Provider} o) found ∙ ap (λ (g : Bool). g && nobody) (c.if-is_global.ensures {u = tt})))

pub returns-else-is_global-clause-lacking : goal.returns-else-is_global-clause-lacking
returns-else-is_global-clause-lacking c =
    let nobody = is_none {T = Provider} (provider_of (world_of c.args.self.now) (seen_in c.args.self.now c.args.cell.now) c.args.symbol.now.name) in
    c.if-is_global.false ∙ ap (λ (g : Bool). g && nobody) (c.if-is_global.ensures {u = tt})
