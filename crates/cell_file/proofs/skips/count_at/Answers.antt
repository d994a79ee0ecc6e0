use Rattle.std.proofs.Common.{◌≡◌, ◌+◌, ◌*◌, ◌≤◌, true, cond, get_or, refl, sym, ap, ◌∙◌}
use Rattle.std.specs.Prelude.{nat_lt}
use Rattle.cell_num.specs.Kinds.{is_passed_over}
use Rattle.cell_object.specs.declared.headers.RelaRow.{RelaRow}
use Rattle.cell_object.specs.Relocations.{rela_row_at}
use Rattle.cell_file.specs.Cover.{reach}
use Rattle.cell_file.proofs.Counting.{same_counts, set_skip}
use Rattle.cell_file.proofs.skips.count_at.Goals as goal

pub returns-then-is_passed_over : goal.returns-then-is_passed_over
returns-then-is_passed_over c =
    let counts = c.args.counts.now in
    let at = c.args.at in
    let here : is_passed_over (rela_row_at (c.args.from + at) c.args.bytes.now).r_type ≡ true = ap (λ (r : RelaRow). is_passed_over r.r_type) (sym c.rela_row_at.ensures) ∙ sym c.is_passed_over.ensures ∙ c.if-is_passed_over.true in
    let few : reach c.count_before.result ≤ cond (nat_lt (get_or counts (at + 24) 0) 128) (get_or counts (at + 24) 0 + 1) (128 + reach (get_or counts (at + 24 * 128) 0)) =
    same_counts c.count_of-next.result c.count_of-behind.result (get_or counts (at + 24) 0) (get_or counts (at + 24 * 128) 0) c.count_before.result c.count_of-next.ensures c.count_of-behind.ensures c.count_before.ensures in
    set_skip c.args.bytes.now counts c.args.from at (at + 24) (at + 24 * 128) c.count_before.result c.requires.there c.requires.behind refl refl here few
