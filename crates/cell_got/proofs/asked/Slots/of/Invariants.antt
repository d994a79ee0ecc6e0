use Rattle.std.proofs.Common.{◌≡◌, ◌≤◌, length, take}
use Rattle.cell_got.specs.Lower.{asked}
use Rattle.cell_got.specs.Asked.{AreSlots}
use Rattle.cell_got.proofs.asked.Slots.of.Given as goal

-- the slots of the entries so far
abbrev pub invariant-loop-index : goal.invariant-loop-index
invariant-loop-index l = record {
  symbols : l.slots.symbols.items ≡ asked (take l.index l.entries);
  are : AreSlots l.slots.symbols.items l.slots.places;
  few : length l.slots.symbols.items ≤ l.index;
}
