use Rattle.std.specs.Prelude.{◌≡◌}
use Rattle.cell_asm.proofs.Facts.{List, ℕ, Bor, Ok, map, refl, sym, ap, ◌∙◌, placed_texts, lines_in}
use Rattle.cell_asm.proofs.ObjectLemmas.{few}
use Rattle.cell_asm.proofs.PlacingLemmas.{goes_all}
use Rattle.cell_asm.proofs.AssembledFits.{writable_all}
use Rattle.cell_asm.proofs.source.assemble.Goals as goal

pub object-requires : goal.object-requires
object-requires c = few c.in_ok-progress.ensures.0 c.in_ok-progress.progress.parts.items c.in_ok-progress.ensures.2.parts

pub returns-clause-object : goal.returns-clause-object
returns-clause-object c =
    let r = c.in_ok-progress.ensures in
    let placed : placed_texts (lines_in c.args.source.now) ≡ Ok r.0 =
    ap placed_texts (sym c.in_ok-texts.ensures.lines) ∙ ap (λ (ts : List (Bor (List ℕ))). placed_texts (map (λ t. t.now) ts)) (sym c.deref.ensures.value) ∙ r.1 in
    goes_all c.object.result r.0 (lines_in c.args.source.now) c.args.source.now refl placed (c.object.ensures r.0 r.2)

pub returns-clause-writable : goal.returns-clause-writable
returns-clause-writable c = writable_all c.object.result c.args.source.now (returns-clause-object c) c.requires
