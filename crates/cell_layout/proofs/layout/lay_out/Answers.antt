use Rattle.std.proofs.Common.{◌∙◌, ap, subst, sym, arith, take, ◌+◌}
use Rattle.std.proofs.lemmas.List.{take_all}
use Rattle.cell_world.specs.declared.state.SecPlace.{SecPlace}
use Rattle.cell_layout.specs.Layout.{AreEnds}
use Rattle.cell_layout.proofs.Layouts.{next_small, ends_here, offsets_here, ranked, ends_small}
use Rattle.cell_layout.proofs.layout.lay_out.Goals as goal

pub add-start-requires : goal.add-start-requires
add-start-requires c =
    next_small c.args.sections.now c.loop-section.section-index c.section-item.result (omega (arith, c.loop-section-test.true)) c.section-item.is c.loop-section.ends c.loop-section.invariant.ends c.requires.sound c.loop-section.invariant.few

pub loop-section-preserved : goal.loop-section-preserved
loop-section-preserved c =
    let at = c.loop-section.section-index in
    let s = c.section-item.result in
    let within = c.loop-section-test.true in
    record {
      offsets = c.in_ok-push.ensures.items
          ∙ offsets_here c.args.sections.now at s within c.section-item.is c.loop-section.ends c.loop-section.offsets.items _ c.requires.rising
          (ap (λ n. let q : SecPlace = record { section = n; start = c.add-start.result } in q) c.number_of.ensures
          ∙ ap (λ n. let q : SecPlace = record { section = s.number; start = n } in q) c.add-start.ensures.at)
          c.loop-section.invariant.ends c.loop-section.invariant.offsets;
      ends = subst (λ ends. AreEnds ends (take (at + 1) c.args.sections.now)) (sym c.add-start.ensures.end)
          (ends_here c.args.sections.now at s within c.section-item.is c.loop-section.ends _ c.add-start.ensures.at c.loop-section.invariant.ends);
      few = omega (arith, ranked c.args.sections.now at s within c.section-item.is c.requires.rising, c.number_of.ensures, c.number_of.type_inv);
    }

pub returns-clause-small : goal.returns-clause-small
returns-clause-small c =
    let all = take_all c.loop-section.section-index c.args.sections.now (omega (arith, c.loop-section-test.false)) in
    ends_small c.args.sections.now c.loop-section.ends (subst (AreEnds c.loop-section.ends) all c.loop-section.invariant.ends) c.requires.sound (omega (arith, c.loop-section.invariant.few, c.loop-section-test.false))
