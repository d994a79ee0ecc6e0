use Rattle.std.proofs.Common.{ℕ, List, ◌-◌, length, sym, ap, ◌∙◌}
use Rattle.std.proofs.Math.Dec.{ltb}
use Rattle.cell_world.specs.World.{Region}
use Rattle.cell_world.specs.Running.Memory.{covers}
use Rattle.cell_mem.specs.Region.{region_of_fields}
use Rattle.cell_mem.proofs.Laid.{not_below}
use Rattle.cell_mem.proofs.Near.{covers_is}
use Rattle.cell_mem.proofs.region.Region.has.Goals as goal

pub returns-then-addr-self : goal.returns-then-addr-self
returns-then-addr-self c =
    sym (not_below (region_of_fields c.self.inside) c.args.addr c.if-addr-self.true) ∙ ap (λ (r : Region). covers r c.args.addr) c.self.view_is

pub returns : goal.returns
returns c =
    ap (λ (bytes : List ℕ). ltb (c.args.addr - c.self.inside.start) (length bytes)) (c.bytes.ensures ∙ sym (ap (λ (r : Region). r.bytes) c.self.view_is))
    ∙ covers_is (region_of_fields c.self.inside) c.args.addr c.if-addr-self.false
    ∙ ap (λ (r : Region). covers r c.args.addr) c.self.view_is
