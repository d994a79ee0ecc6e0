-- What is asked of a change besides a coherent machine, and how far it has come.
--     HasCopied w c g           with its copies the new cells keep the rule of names and lack nothing
--     IsSound sources w c       its files are those of the folder, its namespaces are there, it replaces attached cells, and its copies are such
--     HasCome sources v c w     from v the change has come to w: the new cells are there, in their places
--     HasMade sources v d       an accepted command has made a sound change of v
use Rattle.std.specs.Prelude.{ℕ, suc, ◌≡◌, ◌<◌, ◌≤◌, ◌+◌, ◌⊎◌, IsTrue, List, [], ◌++◌, All, None, Ok, length, nat_le, nat_lt}
use Rattle.std.specs.List.{list_all}
use Rattle.cell_num.specs.Limits.{max_cell_number, max_cells}
use Rattle.cell_num.specs.Lists.{In, each_pair}
use Rattle.cell_world.specs.Coherent.{IsLoadable, has_each_name_once, is_known_cell, may_both_stand}
use Rattle.cell_world.specs.World.{World, Cell, is_attached}
use Rattle.cell_world.specs.Placed.Place.{place_all}
use Rattle.cell_world.specs.Gather.{Source, first_lack, fresh_cells}
use Rattle.cell_world.specs.Answer.{Done}
use Rattle.cell_world.specs.Change.{Change, Made, replaced, set_aside, gather, first_uncovered, new_since, make_change}

-- g is the machine in which the replaced cells are put aside, with attached cells of higher numbers behind its own: the wanted ones are among them
pub record HasCopied (w : World) (c : Change) (g : World) : Type 0 where
  pub new : List Cell
  pub next : ℕ
  pub is : record (set_aside w c) { cells = (set_aside w c).cells ++ new; next_cell = next } ≡ g
  pub attached : IsTrue (list_all (λ d. is_attached d.standing) new)
  pub fresh : IsTrue (list_all (λ d. nat_le (set_aside w c).next_cell d.id.0) new)
  pub enough : w.next_cell + length c.wants ≤ next
  pub names : IsTrue (each_pair (may_both_stand g) g.cells)
  pub own_names : IsTrue (list_all has_each_name_once g.cells)
  pub order : IsTrue (each_pair (λ a b. nat_lt a.id.0 b.id.0) g.cells)
  pub known : IsTrue (list_all (is_known_cell g) g.cells)
  pub objects : All (λ d. IsLoadable d.object) g.cells
  pub few : length g.cells ≤ max_cells
  pub last : g.next_cell ≤ suc max_cell_number
  pub supplied : first_lack g (fresh_cells w.next_cell g) ≡ None

pub record IsSound (sources : List Source) (w : World) (c : Change) : Type 0 where
  pub files : All (λ want. In want.file sources) c.wants
  pub spaces : All (λ want. want.ns < length w.namespaces) c.wants
  pub present : All (λ old. In old w.cells) (replaced c)
  pub attached : All (λ old. IsTrue (is_attached old.standing)) (replaced c)
  pub originals : All (λ copy. In copy.original w.cells) c.copies
  pub copied : (c.copies ≡ []) ⊎ ((g : World) → gather sources w c ≡ Ok g → HasCopied w c g)

-- from v, the new cells are there, nobody has lost a need, and in w the new cells have their places
pub record HasCome (sources : List Source) (v : World) (c : Change) (w : World) : Type 0 where
  pub gathered : World
  pub gathering : gather sources v c ≡ Ok gathered
  pub covered : first_uncovered v c gathered ≡ None
  pub placing : place_all gathered (new_since v gathered) ≡ Ok w

-- the machine that it leaves is the one that the change makes
pub record HasMade (sources : List Source) (v : World) (d : Done) : Type 0 where
  pub change : Change
  pub sound : IsSound sources v change
  pub made : Made
  pub making : make_change sources v change ≡ Ok made
  pub world : made.world ≡ d.world
