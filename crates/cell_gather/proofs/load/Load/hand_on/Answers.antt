use Rattle.std.proofs.Common.{◌≡◌, ◌<◌, ◌+◌, ◌∙◌, ap, length, subst, sym, ℕ, List}
use Rattle.cell_world.specs.declared.state.NewCell.{NewCell}
use Rattle.cell_world.specs.Names.{definitions_of, weak_definitions_of}
use Rattle.cell_world.specs.World.{Cell}
use Rattle.cell_space.proofs.Holding.{ok_more}
use Rattle.cell_gather.specs.Growing.{new_of}
use Rattle.cell_gather.specs.Renaming.{AreHeirs, new_numbered, take_all_now}
use Rattle.cell_gather.proofs.Growths.{cell_there}
use Rattle.cell_gather.proofs.Handing.{found_at, handed, length_all_taken}
use Rattle.cell_gather.proofs.Lacks.{at_slice}
use Rattle.cell_gather.proofs.load.Load.hand_on.Goals as goal

pub path-requires : goal.path-requires
path-requires c =
    let g = c.args.gathered.now in
    let there = cell_there c.args.self.now.spaces.now c.args.self.now.next g c.requires.growing c.args.place c.index-cell.result.now c.requires.place c.index-cell.ensures in
    subst (λ spaces. c.index-cell.result.now.ns < length spaces) (sym c.requires.growing.namespaces)
    (subst (λ (p : NewCell). p.ns < length c.args.self.now.spaces.now.namespaces) there.2 (at_slice (λ x. x.ns < length c.args.self.now.spaces.now.namespaces) (new_of g) c.args.place there.0 c.requires.growing.inside there.1))

pub give_all-requires-clause-new : goal.give_all-requires-clause-new
give_all-requires-clause-new c =
    let g = c.args.gathered.now in
    let there = cell_there c.args.self.now.spaces.now c.args.self.now.next g c.requires.growing c.args.place c.index-cell.result.now c.requires.place c.index-cell.ensures in
    let number = c.requires.growing.numbered c.args.place there.0 there.1 in
    let id_is : c.args.self.now.next + c.args.place ≡ c.index-cell.result.now.id.0 = sym number ∙ ap (λ (p : NewCell). p.id.0) there.2 in
    record {
      cell = there.0;
      found = ap (new_numbered (new_of g)) (sym id_is) ∙ found_at c.args.self.now.next (new_of g) c.requires.growing.numbered c.args.place there.0 there.1;
      ns_is = ap (λ (p : NewCell). p.ns) there.2 ∙ sym (c.in_ok-path.ensures {u = tt}).ns;
      heirs =
          subst (λ (p : NewCell). AreHeirs (definitions_of p.object) c.in_ok-heritage.heritage.heirs) (sym there.2) (c.in_ok-heritage.ensures {u = tt}).heirs;
      weak = subst (λ (p : NewCell). c.in_ok-heritage.heritage.weak ≡ weak_definitions_of p.object) (sym there.2) (c.in_ok-heritage.ensures {u = tt}).weak;
    }

pub returns-clause-named : goal.returns-clause-named
returns-clause-named c =
    let g = c.args.gathered.now in
    let spaces = c.args.self.now.spaces.now in
    let there = cell_there spaces c.args.self.now.next g c.requires.growing c.args.place c.index-cell.result.now c.requires.place c.index-cell.ensures in
    let number = c.requires.growing.numbered c.args.place there.0 there.1 in
    let id_is : c.index-cell.result.now.id.0 ≡ c.args.self.now.next + c.args.place = ap (λ (p : NewCell). p.id.0) (sym there.2) ∙ number in
    ok_more c.give_all.result _ _
    (λ named.
    named
    ∙ ap (λ (n : ℕ). take_all_now spaces n (new_of g) c.names.result.now) id_is
    ∙ handed spaces (c.args.self.now.next + c.args.place) (new_of g) c.args.want.now c.in-Some.old c.names.result.now c.in-Some.is c.names.ensures)
    c.give_all.ensures.named

pub returns-clause-many : goal.returns-clause-many
returns-clause-many c =
    ok_more c.give_all.result _ _
    (λ named. ap (λ (cells : List Cell). length cells) named ∙ length_all_taken c.args.self.now.spaces.now c.index-cell.result.now.id.0 (new_of c.args.gathered.now) c.names.result.now)
    c.give_all.ensures.named
