-- What is lowered may be the object of a cell.
use Rattle.std.proofs.Common.{◌≡◌, refl, subst, arith, Result, Ok, Err}
use Rattle.cell_object.specs.Bytes.{Broken}
use Rattle.cell_object.specs.Readable.{IsFromFile}
use Rattle.cell_object.specs.Sound.{IsLoadable}
use Rattle.cell_object.specs.declared.object.Object.{Object}
use Rattle.cell_got.specs.Lower.{lower, lowered}
use Rattle.cell_got.proofs.Kept.{entry_count, symbol_count}
use Rattle.cell_got.proofs.LowerSound.{lower_sound, slots_few}

module _ (o : Object) (f : IsFromFile o) where
  pub lower_loadable : IsLoadable (lower o)
  lower_loadable =
      let few = slots_few o f.readable f.room.symbols in
      let symbols = symbol_count o in
      let entries = entry_count o in
      let most = f.room.symbols in
      let room = f.room.entries in
      record {
        sound = lower_sound o f.readable f.room.symbols;
        symbols = omega (arith, few, symbols, most);
        entries = omega (arith, few, entries, room);
      }

-- what a reading is lowered to
pub reading_loadable : (r : Result Object Broken) → ((o : Object) → r ≡ Ok o → IsFromFile o) → (o : Object) → lowered r ≡ Ok o → IsLoadable o
reading_loadable (Ok object) from o e = let same : lower object ≡ o = cc in subst IsLoadable same (lower_loadable object (from object refl))
reading_loadable (Err b) from o e = absurd cc
