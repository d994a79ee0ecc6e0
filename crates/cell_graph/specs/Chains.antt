-- The chains of links.
--     Has places place                   the place is one of these
--     IsApart places                     no two are equal
--     IsLinked at key before first places    from the first on, links with this target that name their neighbours
--     IsChain at section                 what is chained from a section are the links to it
--     AreChained at sections             each section has its chain, and each link's target is present
--     walk at count first                the places of so many links of a chain
use Rattle.std.specs.Prelude.{◌≡◌, ◌≢◌, ◌⊎◌, ℕ, zero, suc, List, [], ◌∷◌, Option, Some, None, length, option_map}
use Rattle.std.specs.List.{AllByRecursion}
use Rattle.cell_num.specs.declared.ids.SecKey.{SecKey}
use Rattle.cell_graph.specs.declared.rows.ChainRow.{ChainRow}
use Rattle.cell_graph.specs.declared.section.Section.{Section}

abbrev pub Has : List ℕ → ℕ → Type 0
Has [] place = ⊥
Has (p ∷ places) place = (p ≡ place) ⊎ Has places place

abbrev pub Lacks : List ℕ → ℕ → Type 0
Lacks places place = AllByRecursion (λ p. p ≢ place) places

abbrev pub IsApart : List ℕ → Type 0
IsApart [] = Unit {0}
IsApart (p ∷ places) = Lacks places p × IsApart places

-- a link stands at the place, with this target and these neighbours
pub record IsAt (at : ℕ → Option ChainRow) (key : SecKey) (place : ℕ) (before after : Option ℕ) : Type 0 where
  pub row : ChainRow
  pub is : at place ≡ Some row
  pub target : row.row.target ≡ key
  pub before_is : row.before ≡ before
  pub after_is : row.after ≡ after

abbrev pub IsLinked : (ℕ → Option ChainRow) → SecKey → Option ℕ → Option ℕ → List ℕ → Type 0
IsLinked at key before first [] = first ≡ None
IsLinked at key before first (place ∷ places) =
    (first ≡ Some place) × (after : Option ℕ) × IsAt at key place before after × IsLinked at key (Some place) after places

-- the links with this target are those chained from the first on
pub record IsChain (at : ℕ → Option ChainRow) (section : Section) : Type 0 where
  pub places : List ℕ
  pub count : length places ≡ section.users
  pub apart : IsApart places
  pub linked : IsLinked at section.key None section.first places
  pub whole : (place : ℕ) (row : ChainRow) → at place ≡ Some row → row.row.target ≡ section.key → Has places place

-- a section with this key
pub record IsPresent (sections : ℕ → Option Section) (key : SecKey) : Type 0 where
  pub home : ℕ
  pub section : Section
  pub is : sections home ≡ Some section
  pub named : section.key ≡ key

pub record AreChained (at : ℕ → Option ChainRow) (sections : ℕ → Option Section) : Type 0 where
  pub chain : (home : ℕ) (section : Section) → sections home ≡ Some section → IsChain at section
  pub present : (place : ℕ) (row : ChainRow) → at place ≡ Some row → IsPresent sections row.row.target
  -- no section stands twice
  pub once : (home other : ℕ) (a b : Section) → sections home ≡ Some a → sections other ≡ Some b → a.key ≡ b.key → home ≡ other

abbrev pub after_at : Option ChainRow → Option ℕ
after_at None = None
after_at (Some row) = row.after

abbrev pub walk : (ℕ → Option ChainRow) → ℕ → Option ℕ → List ℕ
walk at zero first = []
walk at (suc n) None = []
walk at (suc n) (Some place) = place ∷ walk at n (after_at (at place))

-- no place has another link, whatever its neighbours
abbrev pub SameLinks : (ℕ → Option ChainRow) → (ℕ → Option ChainRow) → Type 0
SameLinks at new = (p : ℕ) → option_map (λ c. c.row) (new p) ≡ option_map (λ c. c.row) (at p)

-- no place has another section, whatever is chained from it
abbrev pub SameKeys : (ℕ → Option Section) → (ℕ → Option Section) → Type 0
SameKeys sections new = (p : ℕ) → option_map (λ s. s.key) (new p) ≡ option_map (λ s. s.key) (sections p)

-- a section with this key stands at the place
pub record IsHome (sections : ℕ → Option Section) (home : ℕ) (key : SecKey) : Type 0 where
  pub section : Section
  pub is : sections home ≡ Some section
  pub named : section.key ≡ key
