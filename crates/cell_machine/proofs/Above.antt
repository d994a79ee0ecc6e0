-- The sections of new cells come behind those that are there.
use Rattle.std.proofs.Common.{◌≡◌, refl, sym, ◌∙◌, ap, ap₂, subst, arith, ℕ, zero, suc, ◌+◌, ◌<◌, ◌⊎◌, inl, inr, true, map, List, [], ◌∷◌, ◌++◌, length}
use Rattle.std.specs.Prelude.{All, nat_lt, flat_map, slice_index}
use Rattle.std.specs.List.{list_all}
use Rattle.std.specs.List.Sorted.{IsStrictlyIncreasing}
use Rattle.std.proofs.lemmas.Bool.{and_parts, ltb-true}
use Rattle.cell_num.specs.declared.ids.CellId.{CellId}
use Rattle.cell_num.specs.declared.ids.SecKey.{SecKey}
use Rattle.cell_num.specs.Lists.{each_pair, In}
use Rattle.cell_object.specs.declared.object.Section.{Section as ObjectSection}
use Rattle.cell_world.specs.declared.state.NewCell.{NewCell}
use Rattle.cell_world.specs.World.{key_of}
use Rattle.cell_num.proofs.Elements.{all-In, In-All, In-append, In-map, pairs-map}
use Rattle.cell_commit.specs.Cells.{AreAbove, keys_in}
use Rattle.cell_commit.specs.declared.sections.CellSections.{CellSections}
use Rattle.cell_machine.specs.Machine.{keys_of, section_keys}

rise : (ns : List ℕ) → each_pair nat_lt ns ≡ true → (k : ℕ) → suc k < length ns → slice_index ns k < slice_index ns (suc k)
rise [] h k lt = absurd (omega (arith, lt))
rise (x ∷ []) h k lt = absurd (omega (arith, lt))
rise (x ∷ y ∷ ns) h zero lt =
    let all = and_parts (list_all (nat_lt x) (y ∷ ns)) (each_pair nat_lt (y ∷ ns)) h in
    ltb-true x y (and_parts (nat_lt x y) (list_all (nat_lt x) ns) all.0).0
rise (x ∷ y ∷ ns) h (suc k) lt =
    let all = and_parts (list_all (nat_lt x) (y ∷ ns)) (each_pair nat_lt (y ∷ ns)) h in
    rise (y ∷ ns) all.1 k (omega (arith, lt))

increasing : (ns : List ℕ) → each_pair nat_lt ns ≡ true → IsStrictlyIncreasing ns
increasing ns h k lt =
    let next : suc k ≡ k + 1 = omega arith in
    subst (λ (n : ℕ). slice_index ns k < slice_index ns n) next (rise ns h k (omega (arith, lt)))

abbrev numbers : NewCell → List ℕ
numbers c = map (λ (s : ObjectSection). s.number) c.object.sections

-- sections in order have rising numbers
numbers_rise : (c : NewCell) → each_pair (λ (a b : ObjectSection). nat_lt a.number b.number) c.object.sections ≡ true → IsStrictlyIncreasing (numbers c)
numbers_rise c h = increasing (numbers c) (pairs-map nat_lt (λ (s : ObjectSection). s.number) c.object.sections ∙ h)

-- a cell with the numbers of its sections
abbrev Numbers : Type 0
Numbers = CellId × List ℕ

abbrev listed : CellSections → Numbers
listed s = (s.cell, s.sections.items)

abbrev numbers_in : NewCell → Numbers
numbers_in c = (c.id, numbers c)

head_is : {X : Type 0} (x y : X) (xs ys : List X) → x ∷ xs ≡ y ∷ ys → x ≡ y
head_is x y xs ys e = cc

tail_is : {X : Type 0} (x y : X) (xs ys : List X) → x ∷ xs ≡ y ∷ ys → xs ≡ ys
tail_is x y xs ys e = cc

map_twice : {X Y Z : Type 0} (f : Y → Z) (g : X → Y) (xs : List X) → map f (map g xs) ≡ map (λ x. f (g x)) xs
map_twice f g [] = refl
map_twice f g (x ∷ xs) = ap (λ ys. f (g x) ∷ ys) (map_twice f g xs)

-- the keys of the sections of a cell
keys_listed : (s : CellSections) (c : NewCell) → listed s ≡ numbers_in c → keys_in s ≡ section_keys c
keys_listed s c e =
    ap (λ (p : Numbers). map (key_of p.0.0) p.1) e ∙ map_twice (key_of c.id.0) (λ (s : ObjectSection). s.number) c.object.sections

-- the keys of the sections of all cells
pub all_keys_listed : (list : List CellSections) (cells : List NewCell) → map listed list ≡ map numbers_in cells → flat_map keys_in list ≡ keys_of cells
all_keys_listed [] [] e = refl
all_keys_listed [] (c ∷ cells) e = cc
all_keys_listed (s ∷ list) [] e = cc
all_keys_listed (s ∷ list) (c ∷ cells) e =
    ap₂ (λ (xs ys : List SecKey). xs ++ ys) (keys_listed s c (head_is (listed s) (numbers_in c) (map listed list) (map numbers_in cells) e))
    (all_keys_listed list cells (tail_is (listed s) (numbers_in c) (map listed list) (map numbers_in cells) e))

abbrev are_ordered : List NewCell → Type 0
are_ordered cells = each_pair (λ (a b : NewCell). nat_lt a.id.0 b.id.0) cells ≡ true

-- each new cell's number is above all before it, and its sections rise
pub are_above : (list : List CellSections) (cells : List NewCell) (keys : List SecKey) → map listed list ≡ map numbers_in cells → are_ordered cells
    → ((c : NewCell) → In c cells → each_pair (λ (a b : ObjectSection). nat_lt a.number b.number) c.object.sections ≡ true)
    → ((k : SecKey) → In k keys → (c : NewCell) → In c cells → k.cell.0 < c.id.0)
    → AreAbove keys list
are_above [] cells keys e order rising below = tt
are_above (s ∷ list) [] keys e order rising below = cc
are_above (s ∷ list) (c ∷ cells) keys e order rising below =
    let here : listed s ≡ numbers_in c = head_is (listed s) (numbers_in c) (map listed list) (map numbers_in cells) e in
    let rest : map listed list ≡ map numbers_in cells = tail_is (listed s) (numbers_in c) (map listed list) (map numbers_in cells) e in
    let id : s.cell ≡ c.id = ap (λ (p : Numbers). p.0) here in
    let secs : s.sections.items ≡ numbers c = ap (λ (p : Numbers). p.1) here in
    let k = and_parts (list_all (λ (b : NewCell). nat_lt c.id.0 b.id.0) cells) (each_pair (λ (a b : NewCell). nat_lt a.id.0 b.id.0) cells) order in (
      subst (λ (id : CellId). All (λ (k : SecKey). k.cell.0 < id.0) keys) (sym id) (In-All (λ (k : SecKey). k.cell.0 < c.id.0) keys (λ k i. below k i c (inl refl))),
      subst IsStrictlyIncreasing (sym secs) (numbers_rise c (rising c (inl refl))),
      are_above list cells (keys ++ keys_in s) rest k.1 (λ d j. rising d (inr j)) (λ x i d j. more here d j k.0 x (In-append keys (keys_in s) x i)),
    )
  where
    more : listed s ≡ numbers_in c → (d : NewCell) → In d cells → list_all (λ (b : NewCell). nat_lt c.id.0 b.id.0) cells ≡ true → (x : SecKey) → In x keys ⊎ In x (keys_in s) → x.cell.0 < d.id.0
    more here d j all x (inl i) = below x i d (inr j)
    more here d j all x (inr i) =
        let own : In x (section_keys c) = subst (λ (ks : List SecKey). In x ks) (keys_listed s c here) i in
        let t : (t : ObjectSection) × In t c.object.sections × (x ≡ key_of c.id.0 t.number) = In-map (λ (t : ObjectSection). key_of c.id.0 t.number) c.object.sections x own in
        let same : x.cell.0 ≡ c.id.0 = ap (λ (k : SecKey). k.cell.0) t.2 in
        let above = ltb-true c.id.0 d.id.0 (all-In (λ (b : NewCell). nat_lt c.id.0 b.id.0) cells all d j) in
        omega (arith, same, above)
