use Rattle.std.proofs.Common.{◌≡◌, ◌∙◌, ap, cond, sym, List, None, true, false}
use Rattle.std.specs.Prelude.{is_some}
use Rattle.cell_world.specs.Names.{symbol_in, weak_symbol_named}
use Rattle.cell_world.specs.World.{Alias}
use Rattle.cell_gather.specs.Growing.{new_of}
use Rattle.cell_gather.specs.Renaming.{heir_there}
use Rattle.cell_gather.proofs.load.Load.heir.Goals as goal

pub returns-then-is_some : goal.returns-then-is_some
returns-then-is_some c = λ d at heirs weak.
    let name = c.args.name.now in
    let held : is_some (weak_symbol_named d name) ≡ true =
    ap (λ (rows : List Alias). is_some (symbol_in rows name)) (sym weak) ∙ ap is_some (sym c.symbol_of.ensures) ∙ sym c.is_some.ensures ∙ c.if-is_some.true in
    sym (ap (λ b. cond b None (heir_there c.args.self.now.spaces.now (new_of c.args.gathered.now) d name)) held)

pub returns : goal.returns
returns c = λ d at heirs weak.
    let name = c.args.name.now in
    let held : is_some (weak_symbol_named d name) ≡ false =
    ap (λ (rows : List Alias). is_some (symbol_in rows name)) (sym weak) ∙ ap is_some (sym c.symbol_of.ensures) ∙ sym c.is_some.ensures ∙ c.if-is_some.false in
    c.heir_there.ensures d at heirs
    ∙ sym (ap (λ b. cond b None (heir_there c.args.self.now.spaces.now (new_of c.args.gathered.now) d name)) held)
