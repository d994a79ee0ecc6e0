use Rattle.std.proofs.Common.{◌≡◌, ◌∙◌, Some, None, ap, sym}
use Rattle.std.specs.Prelude.{◌&&◌}
use Rattle.cell_world.specs.Names.{chain}
use Rattle.cell_world.specs.declared.state.Standing.TheVariants.{Attached}
use Rattle.cell_space.specs.declared.cell.SpaceCell.{SpaceCell}
use Rattle.cell_space.specs.declared.index.Holder.TheVariants.{One}
use Rattle.cell_space.specs.Index.{anywhere, has_word, held, word_hash}
use Rattle.cell_space.specs.Named.{is_holder}
use Rattle.cell_space.proofs.Finding.{asks_above, none_anywhere, one_anywhere}
use Rattle.cell_space.proofs.lookup.lowest_above.Goals as goal

pub returns-in-None : goal.returns-in-None
returns-in-None c =
    let f = held c.args.index.now in
    let spaces = chain c.args.namespaces.now c.args.ns in
    let kind = c.args.word.now.kind in
    let word = c.args.word.now.text.now in
    let none : f anywhere (word_hash kind word) ≡ None = ap (f anywhere) (sym c.args.word.now.hashed) ∙ sym c.get.ensures ∙ c.in-None.is in
    none_anywhere f kind word (λ (d : SpaceCell). has_word kind word d && is_holder spaces Attached d) (asks_above spaces kind word) c.args.cells.now c.requires.whole none

pub returns-in-Some-One : goal.returns-in-Some-One
returns-in-Some-One c =
    let f = held c.args.index.now in
    let spaces = chain c.args.namespaces.now c.args.ns in
    let kind = c.args.word.now.kind in
    let word = c.args.word.now.text.now in
    let is : c.get.result ≡ Some (One c.in-Some-One.number) = cc in
    let one : f anywhere (word_hash kind word) ≡ Some (One c.in-Some-One.number) = ap (f anywhere) (sym c.args.word.now.hashed) ∙ sym c.get.ensures ∙ is in
    c.above_numbered.ensures
    ∙ one_anywhere f kind word (λ (d : SpaceCell). has_word kind word d && is_holder spaces Attached d) (asks_above spaces kind word) c.args.cells.now c.in-Some-One.number c.requires.rising c.requires.whole one
