use Rattle.std.proofs.Common.{◌∙◌, ◌++◌, ◌∷◌, [], ap, sym, append_assoc, rules}
use Rattle.std.specs.Prelude.{◌&&◌, option_map}
use Rattle.cell_world.specs.declared.state.Standing.TheVariants.{Attached}
use Rattle.cell_space.specs.Named.{is_holder}
use Rattle.cell_space.specs.Index.{has_word, is_at}
use Rattle.cell_space.proofs.Finding.{above_none, above_more, lowest_more}
use Rattle.cell_space.proofs.lookup.lowest_by_chain.Goals as goal

pub loop-other-init : goal.loop-other-init
loop-other-init c = record {
  passed = search rules;
  lowest = above_none c.args.word.now.kind c.args.word.now.text.now c.args.cells.now;
}

pub loop-other-preserved : goal.loop-other-preserved
loop-other-preserved c =
    let yielded = c.loop-other.yielded in
    let other = c.in-Some.other in
    record {
      passed = append_assoc yielded (other ∷ []) c.next.new.self ∙ ap (λ xs. yielded ++ xs) (sym c.in-Some.ensures.steps) ∙ c.loop-other.invariant.passed;
      lowest =
          c.lower-lowest.ensures
          ∙ lowest_more (λ d. has_word c.args.word.now.kind c.args.word.now.text.now d && is_holder yielded Attached d) (is_at other c.args.word.now.kind c.args.word.now.text.now) (λ d. has_word c.args.word.now.kind c.args.word.now.text.now d && is_holder (yielded ++ other ∷ []) Attached d)
          c.args.cells.now (option_map (λ r. r.now) c.loop-other.lowest) (option_map (λ r. r.now) c.holder.result) c.requires.rising
          c.loop-other.invariant.lowest c.holder.ensures (above_more c.args.word.now.kind c.args.word.now.text.now yielded other);
    }
