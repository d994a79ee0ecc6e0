use Rattle.std.proofs.Common.{arith, refl, sym, ◌∙◌}
use Rattle.cell_gen.proofs.Crates.{files_more, state_more, state_none}
use Rattle.cell_gen.proofs.files.make_files.Goals as goal

pub loop-number-init : goal.loop-number-init
loop-number-init c = record {
  from_one = omega arith;
  within = omega arith;
  crates = refl;
  state = sym (state_none c.args.seed);
  files = c.new-files.ensures.items;
}

pub loop-number-preserved : goal.loop-number-preserved
loop-number-preserved c =
    let l = c.loop-number in
    let h = l.invariant in
    record {
      from_one = omega arith;
      within = omega arith;
      crates = c.in_ok-add_crate.ensures.crates ∙ h.crates;
      state = c.in_ok-add_crate.ensures.state ∙ state_more c.args.crates c.args.seed l.number h.from_one l.draws.state h.state;
      files = files_more c.args.crates c.args.seed l.number h.from_one l.draws.state h.state l.draws.crates l.files.items c.add_crate.new.files.items h.crates h.files c.in_ok-add_crate.ensures.files;
    }
