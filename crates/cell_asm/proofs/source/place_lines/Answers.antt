use Rattle.std.specs.Prelude.{◌+◌, ◌<◌}
use Rattle.cell_asm.proofs.Facts.{ℕ, List, Bor, Err, [], map, length, Ok, sym, subst, arith, Places}
use Rattle.cell_asm.proofs.PlacingLemmas.{placed_from, IsPlaced, next_placed, stopped, dropped}
use Rattle.cell_asm.proofs.source.place_lines.Goals as goal

-- stands for an element where there is none
abbrev no_text : Bor (List ℕ)
no_text = record { ref_ptr = (0, 0); now = [] }

pub returns-in-Err : goal.returns-in-Err
returns-in-Err c =
    let i = c.loop-text.text-index in
    let texts = c.args.texts.now in
    let all = placed_from (Ok []) 1 (map (λ text. text.now) texts) in
    let within : i < length texts = omega arith in
    subst (λ f. Places (Err f) all) (sym c.failed.ensures)
    (stopped _ c.place_line.new.progress _ _ _ _ (subst (λ ts. IsPlaced c.loop-text.progress (c.loop-text.number + 1) ts all) (dropped texts i no_text within) c.loop-text.invariant.placed) c.in-Err.stop c.in-Err.ensures.line)

pub loop-text-preserved : goal.loop-text-preserved
loop-text-preserved c =
    let i = c.loop-text.text-index in
    let texts = c.args.texts.now in
    let all = placed_from (Ok []) 1 (map (λ text. text.now) texts) in
    let within : i < length texts = omega arith in
    record {
      placed = next_placed _ c.place_line.new.progress _ _ _ _ (subst (λ ts. IsPlaced c.loop-text.progress (c.loop-text.number + 1) ts all) (dropped texts i no_text within) c.loop-text.invariant.placed)
          c.in_default.field-0 c.in_default.ensures.line;
      counted = omega arith;
      made = c.in_default.ensures.made;
    }
