use Rattle.std.proofs.Common.{◌∙◌, ap, sym, Some}
use Rattle.std.specs.Prelude.{option_map}
use Rattle.cell_num.specs.Lists.{where_true}
use Rattle.cell_world.specs.Running.Execute.{number_read}
use Rattle.cell_xfer.proofs.Reading.{byte_there}
use Rattle.cell_xfer.proofs.asking.byte_at.Goals as goal

pub returns : goal.returns
returns c =
    let may = sym c.is_readable.ensures ∙ c.if-not-is_readable.false in
    c.copied.ensures ∙ c.first.ensures.value
    ∙ byte_there c.args.memory.now.regions c.args.addr (Some c.in_ok-bytes.field-0.now) (sym (ap (option_map (λ bytes. bytes.now)) c.in_ok-bytes.was) ∙ c.bytes.ensures) may
    ∙ sym (ap (λ b. where_true b (number_read c.args.memory.now.regions c.args.addr 1)) may)
