use Rattle.cell_asm.proofs.Facts.{[], take, fold, mentioned, Mentions}
use Rattle.cell_asm.proofs.symbol.Symbols.add_mentions.Given as goal

-- the names so far
abbrev pub invariant-loop-name : goal.invariant-loop-name
invariant-loop-name l = Mentions l.self l.kept (fold (mentioned l.kept) [] (take l.name-index l.kept.mentions.items))
