use Rattle.cell_asm.proofs.SymbolLemmas.{lists_by}
use Rattle.cell_asm.proofs.symbol.Symbols.add.Goals as goal

pub returns : goal.returns
returns c = λ keys list h.
    lists_by c.args.self.now _ keys list c.args.kept.now c.args.key.now c.args.bind c.args.spot c.in_ok-name.name c.home.result c.value.result c.in_ok-number.number h
    c.in_ok-push.ensures.items c.in_ok-name.ensures c.home.ensures c.value.ensures c.in_ok-number.ensures c.in_ok-add.ensures
