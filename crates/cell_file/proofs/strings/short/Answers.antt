use Rattle.std.proofs.Common.{arith, sym, ◌∙◌}
use Rattle.cell_object.specs.Bytes.{is_zero}
use Rattle.cell_file.proofs.Ends.{seen_some, seen_none}
use Rattle.cell_file.proofs.strings.short.Goals as goal

pub returns-in-Some-clause-short : goal.returns-in-Some-clause-short
returns-in-Some-clause-short c =
    seen_some is_zero c.args.rest.now c.min.result c.in-Some.len (omega (arith, c.min.ensures)) (sym c.first_zero.ensures ∙ c.in-Some.is)

pub returns-in-None-clause-long : goal.returns-in-None-clause-long
returns-in-None-clause-long c =
    let seen = seen_none is_zero c.args.rest.now c.min.result (omega (arith, c.min.ensures)) (sym c.first_zero.ensures ∙ c.in-None.is) c.requires in
    λ _. omega (arith, c.min.ensures, seen.0, seen.1)
