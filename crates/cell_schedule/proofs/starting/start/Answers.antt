use Rattle.std.proofs.Common.{◌≡◌, refl, sym, ◌∙◌, ap, subst, ◌+◌, ◌*◌, true, false, max, Err}
use Rattle.std.proofs.lemmas.Result.{err_from_is_err_and}
use Rattle.cell_place.specs.Space.{SpaceState, with_run}
use Rattle.cell_mem.specs.State.{mapped}
use Rattle.cell_world.specs.Placed.Pages.{is_taken_run}
use Rattle.cell_machine.proofs.Unchanged.{same_itself}
use Rattle.cell_schedule.specs.Starts.{entry_as}
use Rattle.cell_schedule.proofs.Begun.{begun_by, full, given, room_for, stack_at, there}
use Rattle.cell_schedule.proofs.starting.start.Goals as goal

pub returns-in_err-bytes : goal.returns-in_err-bytes
returns-in_err-bytes c =
    let p = err_from_is_err_and c.from_residual.result c.from_residual.ensures.1 in
    rw (p.1, p.2) (same_itself c.args.machine.now)

pub returns-in_err-reserve : goal.returns-in_err-reserve
returns-in_err-reserve c =
    let p = err_from_is_err_and c.from_residual-in_err-reserve.result c.from_residual-in_err-reserve.ensures.1 in
    rw (p.1, p.2) (record {
      cells = refl;
      soft = refl;
      next = refl;
      swaps = refl;
      namespaces = refl;
      known = refl;
      space = refl;
      spare = c.args.machine.now.memory.spare;
      memory = (c.in_err-reserve.ensures {u = tt}).err;
      sections = refl;
      rows = refl;
      tasks = refl;
    })

pub returns-in-Err : goal.returns-in-Err
returns-in-Err c =
    let m = c.args.machine.now in (
      full m c.requires.sound (entry_as c.args.entry) c.args.origin c.in-Err.none c.in-Err.ensures.answer ∙ ap (λ r. Err r) (sym c.exhausted.ensures),
      record {
        cells = refl;
        soft = refl;
        next = refl;
        swaps = refl;
        namespaces = refl;
        known = refl;
        space = c.in-Err.ensures.refused;
        spare = max m.memory.spare 1;
        memory = (c.in_ok-reserve.ensures {u = tt}).ok;
        sections = refl;
        rows = refl;
        tasks = refl;
      },
    )

pub give-requires : goal.give-requires
give-requires c =
    subst (λ (s : SpaceState). is_taken_run s.taken c.in-Ok.run'.page c.in-Ok.run'.count ≡ true) (sym c.in-Ok.ensures.taken)
    (there c.args.machine.now c.requires.sound c.in-Ok.run' c.in-Ok.ensures.answer)

pub returns-in-Err-spawn : goal.returns-in-Err-spawn
returns-in-Err-spawn c =
    let m = c.args.machine.now in
    record {
      cells = refl;
      soft = refl;
      next = refl;
      swaps = refl;
      namespaces = refl;
      known = refl;
      space = c.give.ensures ∙ (ap (λ (s : SpaceState). with_run s c.in-Ok.run' false) c.in-Ok.ensures.taken ∙ given m c.requires.sound c.in-Ok.run' c.in-Ok.ensures.answer);
      spare = max m.memory.spare 1;
      memory = (c.in_ok-reserve.ensures {u = tt}).ok;
      sections = refl;
      rows = refl;
      tasks = c.in-Err-spawn.ensures.kept;
    }

pub map-requires : goal.map-requires
map-requires c =
    let m = c.args.machine.now in
    room_for m c.requires.sound c.in-Ok.run' c.in-Ok.ensures.answer c.reserve.new.self (c.in_ok-reserve.ensures {u = tt}).ok c.address_of-stack.result
    (stack_at m c.requires.sound c.in-Ok.run' c.in-Ok.ensures.answer c.take.new.self c.in-Ok.ensures.taken c.address_of-stack.result c.address_of-stack.ensures.address)
    c.in_ok-bytes.bytes.items c.in_ok-bytes.ensures

pub returns : goal.returns
returns c =
    let m = c.args.machine.now in
    let at : c.address_of-stack.result ≡ m.memory.base + 4096 * c.in-Ok.run'.page = stack_at m c.requires.sound c.in-Ok.run' c.in-Ok.ensures.answer c.take.new.self c.in-Ok.ensures.taken c.address_of-stack.result c.address_of-stack.ensures.address in
    begun_by m c.requires.sound c.in-Ok.run' c.in-Ok.ensures.answer (entry_as c.args.entry) c.args.origin c.requires.known c.requires.present c.requires.few c.requires.numbers
    c.take.new.self c.in-Ok.ensures.taken c.reserve.new.self (c.in_ok-reserve.ensures {u = tt}).ok c.address_of-stack.result at c.in_ok-bytes.bytes.items c.in_ok-bytes.ensures
    c.map.new.self (c.map.ensures ∙ ap (λ p. mapped c.reserve.new.self c.address_of-stack.result p c.in_ok-bytes.bytes.items) c.of.ensures) c.spawn.new.self c.in-Ok-spawn.ensures.started c.in-Ok-spawn.task c.in-Ok-spawn.ensures.number
