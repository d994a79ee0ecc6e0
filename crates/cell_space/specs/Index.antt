-- Which cell may have a stem or a name, by namespace and hash.
--     held index ns hash         what the index has there
--     claimed cells n b holder   what it has there once the cell of that number is added, attached or not
--     hashes_of c                those of its stem and of all names that it holds, weak ones first
--     IsTaken n b holder         the cell is answered for: the entry is there, and, if the cell is attached, may be of it
--     Grows cells n f g          each attached cell that f answers for, and the cell of that number, g answers for
--     anywhere                   where the index has what it holds of a hash in whatever namespace
--     IsWhole f cells            the index answers for each cell, in its namespace and anywhere
use Rattle.std.specs.Prelude.{◌≡◌, ℕ, ◌+◌, ◌==◌, nat_eq, Bool, true, false, not, ◌&&◌, ◌||◌, List, ◌∷◌, ◌++◌, Option, Some, None, IsSome, All, length, map, if◌then◌else◌}
use Rattle.std.specs.Option.{option_map_or}
use Rattle.indexmap.specs.IndexMap.{get}
use Rattle.cell_world.specs.World.{Alias}
use Rattle.cell_space.specs.declared.index.Index.{Index}
use Rattle.cell_space.specs.declared.index.Holder.{Holder}
use Rattle.cell_space.specs.declared.index.Holder.TheVariants.{One, Many}
use Rattle.cell_space.specs.declared.word.WordKind.{WordKind}
use Rattle.cell_space.specs.declared.word.WordKind.TheVariants.{Stem, Name, Weak}
use Rattle.cell_world.specs.declared.state.Standing.TheVariants.{Attached}
use Rattle.cell_space.specs.declared.cell.SpaceCell.{SpaceCell}
use Rattle.cell_num.specs.Lists.{equals}
use Rattle.cell_world.specs.Names.{has_name}
use Rattle.cell_space.specs.Named.{is_in, cell_numbered}
use Rattle.cell_space.specs.Hash.{stem_hash, name_hash, weak_hash}

abbrev pub held : Index → ℕ → ℕ → Option Holder
held index ns hash = get (λ a b. nat_eq a.0 b.0 && nat_eq a.1 b.1) index.holders (ns, hash)

-- no namespace has this number
abbrev pub anywhere : ℕ
anywhere = 65535

-- a cell of that number is attached
abbrev pub attached_at : List SpaceCell → ℕ → Bool
attached_at cells number = option_map_or (is_in Attached) (cell_numbered cells number) false

-- a holder that is put aside or gone gives way
abbrev pub claimed : List SpaceCell → ℕ → Bool → Option Holder → Holder
claimed cells number attached None = One number
claimed cells number attached (Some Many) = Many
claimed cells number attached (Some (One other)) =
    if other == number || not (attached_at cells other) then One number else if attached then Many else One other

-- the entry leaves it open that this cell has the hash
abbrev pub may_be : ℕ → Option Holder → Bool
may_be number None = false
may_be number (Some Many) = true
may_be number (Some (One other)) = other == number

pub record IsTaken (number : ℕ) (attached : Bool) (holder : Option Holder) : Type 0 where
  pub there : IsSome holder
  pub answers : attached ≡ true → may_be number holder ≡ true

pub record Grows (cells : List SpaceCell) (number : ℕ) (f g : ℕ → ℕ → Option Holder) : Type 0 where
  pub there : (ns hash : ℕ) → IsSome (f ns hash) → IsSome (g ns hash)
  pub answers : (ns hash other : ℕ) → (other == number || attached_at cells other) ≡ true → may_be other (f ns hash) ≡ true → may_be other (g ns hash) ≡ true

abbrev pub word_hash : WordKind → List ℕ → ℕ
word_hash Stem word = stem_hash word
word_hash Name word = name_hash word
word_hash Weak word = weak_hash word

-- the hashes of names that are held one way
abbrev pub name_hashes : WordKind → List Alias → List ℕ
name_hashes kind names = map (λ a. word_hash kind a.name) names

-- of all names that the cell holds, weak ones first
abbrev pub row_hashes : SpaceCell → List ℕ
row_hashes c = name_hashes Weak c.weak ++ name_hashes Name c.names

abbrev pub row_count : SpaceCell → ℕ
row_count c = length c.weak + length c.names

-- those of its stem and of all these
abbrev pub hashes_of : SpaceCell → List ℕ
hashes_of c = stem_hash c.stem ∷ row_hashes c

-- the entries of the hashes are there, in the namespace and anywhere
abbrev pub AreHeld : (ℕ → ℕ → Option Holder) → ℕ → List ℕ → Type 0
AreHeld f ns all = All (λ hash. IsSome (f ns hash)) all × All (λ hash. IsSome (f anywhere hash)) all

-- and the cell of that number is answered for under each of them
abbrev pub AreTaken : (ℕ → ℕ → Option Holder) → ℕ → ℕ → Bool → List ℕ → Type 0
AreTaken f ns number attached all =
    All (λ hash. IsTaken number attached (f ns hash)) all × All (λ hash. IsTaken number attached (f anywhere hash)) all

abbrev pub IsCellTaken : (ℕ → ℕ → Option Holder) → Bool → SpaceCell → Type 0
IsCellTaken f attached c = AreTaken f c.ns c.cell.0 attached (hashes_of c)

abbrev pub IsListed : (ℕ → ℕ → Option Holder) → SpaceCell → Type 0
IsListed f c = IsCellTaken f (is_in Attached c) c

pub record IsWhole (f : ℕ → ℕ → Option Holder) (cells : List SpaceCell) : Type 0 where
  pub each : All (IsListed f) cells

-- it is the stem, or a name that the cell holds, strongly or weakly
abbrev pub has_word : WordKind → List ℕ → SpaceCell → Bool
has_word Stem word c = equals c.stem word
has_word Name word c = has_name c.names word
has_word Weak word c = has_name c.weak word

-- the cell is attached in the namespace and has the word
abbrev pub is_at : ℕ → WordKind → List ℕ → SpaceCell → Bool
is_at ns kind word c = is_in Attached c && c.ns == ns && has_word kind word c

-- the cell where it passes the test
abbrev pub kept_if : (SpaceCell → Bool) → Option SpaceCell → Option SpaceCell
kept_if test None = None
kept_if test (Some c) = if test c then Some c else None
