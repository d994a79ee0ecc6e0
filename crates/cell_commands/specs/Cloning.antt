-- What a clone asks for, of the machine that has the new namespace already.
--     IsNoParent word fail             the refusal of a namespace without a parent, or memory was lacking
--     AddsCopy w cell from to old new  a copy of the cell is listed, if the cell is attached in that namespace itself
--     HasCopies to cells copies        these are the copies of the cells, for that namespace
--     AsksCopies copies change         the change adds the copies, and no more
--     CanCopy w from to                the second namespace was added last, under the parent of the first one
--     MakesCopies .. result new        the copies were made, or the refusal, and the same machine
use Rattle.std.specs.Prelude.{◌≡◌, ◌++◌, ℕ, false, List, [], ◌∷◌, Result, Ok, Err, filter, length, map}
use Rattle.cell_num.specs.Lists.{In}
use Rattle.cell_world.specs.declared.fail.Fail.{Fail}
use Rattle.cell_world.specs.declared.fail.Fail.TheVariants.{Refused, OutOfMemory}
use Rattle.cell_world.specs.declared.file.File.{File}
use Rattle.cell_world.specs.declared.refusal.Refusal.TheVariants.{NoParent}
use Rattle.cell_world.specs.declared.state.NewCell.{NewCell}
use Rattle.cell_world.specs.Change.{Made as MadeSaid, copying, make_change}
use Rattle.cell_world.specs.Coherent.{IsCoherent}
use Rattle.cell_world.specs.Commands.Asked.{cells_in, copies_into, is_in_space}
use Rattle.cell_world.specs.Commands.NsCommand.{with_namespace}
use Rattle.cell_world.specs.Gather.{source_of}
use Rattle.cell_world.specs.Outcome.{Outcome}
use Rattle.cell_world.specs.World.{Cell, World}
use Rattle.cell_machine.specs.declared.machine.Machine.{Machine}
use Rattle.cell_machine.specs.Machine.{world_of}
use Rattle.cell_machine.specs.Same.{IsSame}
use Rattle.cell_change_law.specs.Cloned.{MayClone}
use Rattle.cell_change.specs.declared.made.Made.{Made}
use Rattle.cell_change.specs.declared.request.CellCopy.{CellCopy}
use Rattle.cell_change.specs.declared.request.Change.{Change}
use Rattle.cell_change.specs.declared.request.Ending.TheVariants.{Lenient}
use Rattle.cell_change.specs.Exchanged.{HasChanged}

abbrev pub IsNoParent : List ℕ → Fail → Type 0
IsNoParent word (Refused refusal) = refusal ≡ NoParent word
IsNoParent word OutOfMemory = Unit {0}

abbrev pub copy_to : ℕ → Cell → CellCopy
copy_to to c = record { original = c.id; ns = to }

abbrev pub HasCopies : ℕ → List Cell → List CellCopy → Type 0
HasCopies to cells copies = copies ≡ map (copy_to to) cells

abbrev pub AddsCopy : World → NewCell → ℕ → ℕ → List CellCopy → List CellCopy → Type 0
AddsCopy w cell from to old new = (c : Cell) → In c w.cells → c.placed ≡ cell → new ≡ old ++ map (copy_to to) (filter (is_in_space from) (c ∷ []))

pub record AsksCopies (copies : List CellCopy) (change : Change) : Type 0 where
  pub wants : change.wants.items ≡ []
  pub replaced : change.replaced.items ≡ []
  pub copies_are : change.copies.items ≡ copies
  pub reexport : change.options.reexport ≡ false
  pub routines : change.options.routines.now ≡ []
  pub budget : change.options.budget ≡ 0
  pub ending : change.options.ending ≡ Lenient

-- w is a coherent machine to which the namespace was added
pub record CanCopy (w : World) (from to : ℕ) : Type 0 where
  pub before : World
  pub coherent : IsCoherent before
  pub sibling : List ℕ
  pub may : MayClone before sibling
  pub from_is : may.ns ≡ from
  pub to_is : length before.namespaces ≡ to
  pub after : with_namespace before sibling may.parent ≡ w

-- what the definition makes of the machine with the namespace
abbrev pub copied : List File → World → ℕ → ℕ → Outcome MadeSaid
copied files w from to = make_change (map source_of files) w (copying (copies_into to (cells_in w from)))

pub record HasMadeCopies (files : List File) (old : Machine) (from to : ℕ) (made : Made) (new : Machine) : Type 0 where
  pub said : MadeSaid
  pub is : copied files (world_of old) from to ≡ Ok said
  pub changed : HasChanged said [] 0 old made new

abbrev pub MakesCopies : List File → Machine → ℕ → ℕ → Result Made Fail → Machine → Type 0
MakesCopies files old from to (Ok made) new = HasMadeCopies files old from to made new
MakesCopies files old from to (Err (Refused refusal)) new = (copied files (world_of old) from to ≡ Err refusal) × IsSame old new
MakesCopies files old from to (Err OutOfMemory) new = IsSame old new
