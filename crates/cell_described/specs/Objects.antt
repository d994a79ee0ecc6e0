-- The objects that were read, and their places.
--     place_named o q                        the place that is kept for the file of that name
--     HasObject sources name objects place   the object of the file of that name stands there
--     AreKept sources o                      so it is with each name that is kept
--     IsSought sources name old new place    what looking for the object of a file's name comes to
--     Keeps file old new place               what one more file adds
use Rattle.std.specs.Prelude.{◌≡◌, ◌<◌, ◌⊎◌, ℕ, List, [], ◌∷◌, ◌++◌, Option, Some, None, All, length, slice_get, if◌then◌else◌}
use Rattle.std.specs.BTreeMap.{get_by}
use Rattle.std.specs.Cmp.Lexicographic.{slice_cmp}
use Rattle.std.specs.Ordering.{nat_cmp}
use Rattle.std.specs.Result.{result_ok}
use Rattle.cell_num.specs.Lists.{equals}
use Rattle.cell_object.specs.declared.object.Object.{Object}
use Rattle.cell_world.specs.declared.file.File.{File}
use Rattle.cell_world.specs.Coherent.{IsLoadable}
use Rattle.cell_world.specs.Gather.{Source, source_of}
use Rattle.cell_audit.specs.Described.{object_of}
use Rattle.cell_described.specs.declared.objects.Objects.{Objects}

abbrev pub place_named : Objects → List ℕ → Option ℕ
place_named o q = get_by (λ k. slice_cmp nat_cmp q k.now) o.places

pub record HasObject (sources : List Source) (name : List ℕ) (objects : List Object) (place : ℕ) : Type 0 where
  pub object : Object
  pub at : slice_get objects place ≡ Some object
  pub is : object_of sources name ≡ Some object

pub record AreKept (sources : List Source) (o : Objects) : Type 0 where
  pub known : (q : List ℕ) (place : ℕ) → place_named o q ≡ Some place → HasObject sources q o.items.items place
  pub loadable : All IsLoadable o.items.items

-- those of before stand where they stood
pub record Extends (old new : List Object) : Type 0 where
  pub more : List Object
  pub is : new ≡ old ++ more

-- where the object of the file of that name stands, or that there is none
abbrev pub IsPlaceOf : List Source → List ℕ → List Object → Option ℕ → Type 0
IsPlaceOf sources name objects None = object_of sources name ≡ None
IsPlaceOf sources name objects (Some place) = HasObject sources name objects place

-- names stay at their places, and no object comes but for one at that place, which is the name's
pub record Grows (name : List ℕ) (place : Option ℕ) (old new : Objects) : Type 0 where
  pub more : Extends old.items.items new.items.items
  pub stay : (q : List ℕ) (p : ℕ) → place_named old q ≡ Some p → place_named new q ≡ Some p
  pub named : (p : ℕ) → place ≡ Some p → place_named new name ≡ Some p
  pub only : (p : ℕ) → p < length new.items.items → (p < length old.items.items) ⊎ (place ≡ Some p)

-- the object of the file of that name was looked for
pub record IsSought (sources : List Source) (name : List ℕ) (old new : Objects) (place : Option ℕ) : Type 0 where
  pub found : IsPlaceOf sources name new.items.items place
  pub kept : AreKept sources new
  pub grows : Grows name place old new

-- the object of the file stands behind those of before
pub record IsAdded (file : File) (old new : Objects) (place : ℕ) : Type 0 where
  pub object : Object
  pub read : result_ok (source_of file).reading ≡ Some object
  pub loadable : IsLoadable object
  pub items : new.items.items ≡ old.items.items ++ object ∷ []
  pub last : place ≡ length old.items.items
  pub places : (q : List ℕ) → place_named new q ≡ (if equals file.name q then Some place else place_named old q)

abbrev pub Keeps : File → Objects → Objects → Option ℕ → Type 0
Keeps file old new None = (result_ok (source_of file).reading ≡ None) × (new ≡ old)
Keeps file old new (Some place) = IsAdded file old new place
