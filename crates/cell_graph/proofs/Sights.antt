-- What is seen of the lists.
use Rattle.std.proofs.Common.{◌≡◌, ◌⊎◌, inl, inr, ℕ, zero, suc, ◌<◌, ◌≤◌, Bool, true, false, ◌&&◌, ◌||◌, cond, not, eqb, List, [], ◌∷◌, Option, Some, None, length, get_or, map, refl, sym, ap, subst, ◌∙◌, arith, tests, Contains}
use Rattle.std.specs.Prelude.{slice_index_or, IsTrue}
use Rattle.std.specs.List.{AllByRecursion, remove}
use Rattle.std.specs.Option.{option_map_or}
use Rattle.std.proofs.lemmas.Bool.{false≢true}
use Rattle.slab.specs.Slab.{Slab, get}
use Rattle.slab.proofs.SlabLemmas.{Contains-cons, Contains-cons_cases}
use Rattle.cell_num.specs.declared.ids.SecKey.{SecKey}
use Rattle.cell_world.specs.declared.state.LinkRow.{LinkRow}
use Rattle.cell_graph.specs.declared.rows.ChainRow.{ChainRow}
use Rattle.cell_graph.specs.declared.section.Section.{Section}
use Rattle.cell_graph.specs.declared.order.SectionPlace.{SectionPlace}
use Rattle.cell_graph.specs.declared.order.RowPlace.{RowPlace}
use Rattle.cell_graph.specs.Links.{is_bound, is_same}
use Rattle.cell_graph.specs.Moves.{is_link_of}
use Rattle.cell_graph.specs.Order.{IsCut, Rises, below_section, below_row, without_link}
use Rattle.cell_graph.specs.Lists.{SectionsRise, RowsRise, IsRowAt, below_row_place}
use Rattle.cell_graph.specs.Listed.{IsWhole, RowsListed}
use Rattle.cell_graph.specs.Places.{link_at}
use Rattle.cell_graph.proofs.Rising.{all_at, at_index, in_map}
use Rattle.cell_graph.proofs.Listing.{section_found, not_named, row_irreflexive}

two_same : (a b c d : ℕ) → (eqb a b && eqb c d) ≡ true → (a ≡ b) × (c ≡ d)
two_same a b c d h = grind (arith, tests)

two_equal : (a b c d : ℕ) → a ≡ b → c ≡ d → (eqb a b && eqb c d) ≡ true
two_equal a b c d h k = grind (arith, tests)

pub same_key : (a b : SecKey) → is_same a b ≡ true → a ≡ b
same_key a b h = let w = two_same a.cell.0 b.cell.0 a.section b.section h in λ i. record { cell = record { 0 = w.0 i }; section = w.1 i }

pub key_same : (a b : SecKey) → a ≡ b → is_same a b ≡ true
key_same a b h = two_equal a.cell.0 b.cell.0 a.section b.section (ap (λ k. k.cell.0) h) (ap (λ k. k.section) h)

-- whether a section is named is seen at the cut
pub seen_at_cut : (list : List SectionPlace) (n : ℕ) (key : SecKey) (d : SectionPlace) → SectionsRise list → IsCut (λ s. below_section s.key key) list n
    → n < length list
    → (IsTrue (is_same (get_or list n d).key key) → Contains (map (λ s. s.key) list) key) × (Contains (map (λ s. s.key) list) key → IsTrue (is_same (get_or list n d).key key))
seen_at_cut list n key d rises cut within = (
  λ h. subst (λ k. Contains (map (λ s. s.key) list) k) (same_key (get_or list n d).key key h) (in_map (λ s. s.key) list (get_or list n d) (at_index list n d within)),
  λ has. key_same (get_or list n d).key key ((section_found list n key rises cut has).key_is d),
)

pub unseen_past : (list : List SectionPlace) (n : ℕ) (key : SecKey) → SectionsRise list → IsCut (λ s. below_section s.key key) list n → length list ≤ n
    → Contains (map (λ s. s.key) list) key → ⊥
unseen_past list n key rises cut past has = let w = (section_found list n key rises cut has).within in omega (arith, w, past)

-- what is in reserve is not seen
pub reserved : (rows rows' : Slab ChainRow) (sections sections' : Slab Section) (sl sl' : List SectionPlace) (rl rl' : List RowPlace)
    → rows'.slots ≡ rows.slots → sections'.slots ≡ sections.slots → sl' ≡ sl → rl' ≡ rl
    → IsWhole (get rows) (get sections) sl rl → IsWhole (get rows') (get sections') sl' rl'
reserved rows rows' sections sections' sl sl' rl rl' a b c d whole =
    let r : get rows ≡ get rows' = λ i k. slice_index_or (sym a i) k None in
    let s : get sections ≡ get sections' = λ i k. slice_index_or (sym b i) k None in
    subst (λ x. IsWhole x (get sections') sl' rl') r (subst (λ x. IsWhole (get rows) x sl' rl') s
    (subst (λ x. IsWhole (get rows) (get sections) x rl') (sym c) (subst (λ x. IsWhole (get rows) (get sections) sl x) (sym d) whole)))

pub map_remove : {X Y : Type 0} (f : X → Y) (xs : List X) (n : ℕ) → map f (remove xs n) ≡ remove (map f xs) n
map_remove f [] zero = refl
map_remove f [] (suc n) = refl
map_remove f (x ∷ xs) zero = refl
map_remove f (x ∷ xs) (suc n) = ap (λ l. f x ∷ l) (map_remove f xs n)

itself : (row : LinkRow) → is_link_of row.user row.entry row ≡ true
itself row = three row.user.cell.0 row.user.section row.entry
  where
    three : (a b c : ℕ) → (eqb a a && eqb b b && eqb c c) ≡ true
    three a b c = grind (arith, tests)

or_yes : (a b : Bool) → (a ≡ true) ⊎ (b ≡ true) → (a || b) ≡ true
or_yes a b (inl h) = ap (λ x. x || b) h
or_yes a b (inr h) = grind (arith, tests)

-- a link that is there is bound
pub bound_there : (rows : List LinkRow) (row : LinkRow) → Contains rows row → is_bound rows row.user row.entry ≡ true
bound_there [] row has = absurd (omega (arith, has.1))
bound_there (r ∷ rows) row has =
    or_yes (is_link_of row.user row.entry r) (is_bound rows row.user row.entry) (elim (Contains-cons_cases r row rows has) [
      | inl here ↦ inl (subst (λ x. is_link_of row.user row.entry x ≡ true) (sym here) (itself row))
      | inr later ↦ inr (bound_there rows row later)
    ])

module _ (at : ℕ → Option ChainRow) (user : SecKey) (entry : ℕ) where
  keep : LinkRow → Bool
  keep r = not (is_link_of user entry r)

  named_at : (r : RowPlace) → r.user ≡ user → r.entry ≡ entry → is_link_of user entry (link_at at r) ≡ true
  named_at r u e = subst (λ k. is_link_of k entry (link_at at r) ≡ true) u (subst (λ k. is_link_of r.user k (link_at at r) ≡ true) e (itself (link_at at r)))

  -- where the links that follow have other names, all of them stay
  all_stay : (xs : List RowPlace) → ((x : RowPlace) → Contains xs x → is_link_of user entry (link_at at x) ≡ false) → without_link user entry (map (link_at at) xs) ≡ map (link_at at) xs
  all_stay [] other = refl
  all_stay (x ∷ xs) other =
      ap (λ b. cond (not b) (link_at at x ∷ without_link user entry (map (link_at at) xs)) (without_link user entry (map (link_at at) xs))) (other x (0, omega arith, refl))
      ∙ ap (λ l. link_at at x ∷ l) (all_stay xs (λ y has. other y (Contains-cons x y xs has)))

  -- a link below or above one of that name has another
  other_name : (x y : RowPlace) → below_row_place x y ≡ true → x.user ≡ y.user → x.entry ≡ y.entry → ⊥
  other_name x y below u e = false≢true (sym (row_irreflexive y) ∙ (λ i. below_row (sym u i) (sym e i) y.user y.entry) ∙ below)

  pub removed_link : (xs : List RowPlace) (n : ℕ) → RowsRise xs → IsRowAt xs n user entry → remove (map (link_at at) xs) n ≡ without_link user entry (map (link_at at) xs)
  removed_link [] n rises is = absurd (omega (arith, is.within))
  removed_link (x ∷ xs) zero rises is =
      sym (ap (λ b. cond (not b) (link_at at x ∷ without_link user entry (map (link_at at) xs)) (without_link user entry (map (link_at at) xs))) (named_at x (is.user_is x) (is.entry_is x))
      ∙ all_stay xs (λ y has. not_named user entry (link_at at y) (λ u e.
      other_name x y (all_at (λ z. below_row_place x z ≡ true) xs y rises.0 has) (is.user_is x ∙ sym u) (is.entry_is x ∙ sym e))))
  removed_link (x ∷ xs) (suc n) rises is =
      let r = get_or xs n x in
      let within : n < length xs = omega (arith, is.within) in
      let other : is_link_of user entry (link_at at x) ≡ false =
      not_named user entry (link_at at x) (λ u e.
      other_name x r (all_at (λ z. below_row_place x z ≡ true) xs r rises.0 (at_index xs n x within)) (u ∙ sym (is.user_is x)) (e ∙ sym (is.entry_is x)))
      in
      ap (λ l. link_at at x ∷ l) (removed_link xs n rises.1 (record { within = within; user_is = λ d. is.user_is d; entry_is = λ d. is.entry_is d }))
      ∙ sym (ap (λ b. cond (not b) (link_at at x ∷ without_link user entry (map (link_at at) xs)) (without_link user entry (map (link_at at) xs))) other)

all_mapped : {X Y : Type 0} (f : X → Y) (P : Y → Type 0) (xs : List X) → AllByRecursion (λ x. P (f x)) xs → AllByRecursion P (map f xs)
all_mapped f P [] all = tt
all_mapped f P (x ∷ xs) all = (all.0, all_mapped f P xs all.1)

-- a link that stands somewhere is seen
pub row_seen : (rows : ℕ → Option ChainRow) (list : List RowPlace) (listed : RowsListed rows list) (p : ℕ) (row : ChainRow) → rows p ≡ Some row → Contains (map (link_at rows) list) row.row
row_seen rows list listed p row is =
    let r : RowPlace = record { user = row.row.user; entry = row.row.entry; place = p } in
    let e : link_at rows r ≡ row.row = λ i. record { user = row.row.user; entry = row.row.entry; target = option_map_or (λ c. c.row.target) (is i) row.row.user } in
    subst (λ l. Contains (map (link_at rows) list) l) e (in_map (link_at rows) list r (listed.listed p row is))

-- what rises by what is seen of it
pub rises_mapped : {X Y : Type 0} (f : X → Y) (lt : Y → Y → Bool) (xs : List X) → Rises (λ a b. lt (f a) (f b)) xs → Rises lt (map f xs)
rises_mapped f lt [] rises = tt
rises_mapped f lt (x ∷ xs) rises = (all_mapped f (λ y. lt (f x) y ≡ true) xs rises.0, rises_mapped f lt xs rises.1)
