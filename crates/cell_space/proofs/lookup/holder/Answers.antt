use Rattle.std.proofs.Common.{◌≡◌, ◌∙◌, Some, None, ap, sym}
use Rattle.cell_space.specs.declared.index.Holder.TheVariants.{One}
use Rattle.cell_space.specs.Index.{held, is_at, kept_if, word_hash}
use Rattle.cell_space.proofs.Finding.{held_none, held_one}
use Rattle.cell_space.proofs.lookup.holder.Goals as goal

pub returns-in-None : goal.returns-in-None
returns-in-None c =
    let f = held c.args.index.now in
    let none : f c.args.ns (word_hash c.args.word.now.kind c.args.word.now.text.now) ≡ None = ap (f c.args.ns) (sym c.args.word.now.hashed) ∙ sym c.get.ensures ∙ c.in-None.is in
    held_none f c.args.ns c.args.word.now.kind c.args.word.now.text.now c.args.cells.now c.requires.whole none

pub returns-in-Some-One : goal.returns-in-Some-One
returns-in-Some-One c =
    let f = held c.args.index.now in
    let is : c.get.result ≡ Some (One c.in-Some-One.number) = cc in
    let one : f c.args.ns (word_hash c.args.word.now.kind c.args.word.now.text.now) ≡ Some (One c.in-Some-One.number) = ap (f c.args.ns) (sym c.args.word.now.hashed) ∙ sym c.get.ensures ∙ is in
    c.if_at.ensures
    ∙ ap (kept_if (is_at c.args.ns c.args.word.now.kind c.args.word.now.text.now)) c.cell_numbered.ensures
    ∙ held_one f c.args.ns c.args.word.now.kind c.args.word.now.text.now c.args.cells.now c.in-Some-One.number c.requires.rising c.requires.whole one
