use Rattle.std.proofs.Common.{◌≡◌, ◌*◌, ◌++◌, drop}
use Rattle.cell_world.specs.Running.Words.{words_in}
use Rattle.cell_task.proofs.words.put_whole_words.Given as goal

-- the words so far stand before those that are left
abbrev pub invariant-loop-k : goal.invariant-loop-k
invariant-loop-k l = l.into.items ++ words_in (drop (8 * l.k) l.bytes) ≡ l.fn.into.items ++ words_in l.bytes
