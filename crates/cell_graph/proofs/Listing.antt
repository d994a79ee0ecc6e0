-- What the lists say of a link or a section that is looked up.
use Rattle.std.proofs.Common.{◌≡◌, inl, inr, ℕ, Bool, true, false, ◌&&◌, ◌||◌, eqb, ltb, List, [], ◌∷◌, Option, Some, None, get_or, map, refl, sym, ap, subst, ◌∙◌, arith, tests, Contains}
use Rattle.std.specs.Prelude.{option_map}
use Rattle.std.specs.Option.{option_map_or}
use Rattle.std.proofs.lemmas.Bool.{false≢true}
use Rattle.std.proofs.lemmas.Option.{same_Some}
use Rattle.slab.proofs.SlabLemmas.{Contains-cons}
use Rattle.cell_num.specs.declared.ids.SecKey.{SecKey}
use Rattle.cell_world.specs.declared.state.LinkRow.{LinkRow}
use Rattle.cell_graph.specs.declared.rows.ChainRow.{ChainRow}
use Rattle.cell_graph.specs.declared.section.Section.{Section}
use Rattle.cell_graph.specs.declared.order.SectionPlace.{SectionPlace}
use Rattle.cell_graph.specs.declared.order.RowPlace.{RowPlace}
use Rattle.cell_graph.specs.Order.{IsCut, below_row, below_section}
use Rattle.cell_graph.specs.Lists.{below_section_place, below_row_place, SectionsRise, RowsRise, has_row, IsRowAt, IsSectionAt}
use Rattle.cell_graph.specs.Listed.{SectionsListed, RowsListed, IsListed}
use Rattle.cell_graph.specs.Links.{is_bound}
use Rattle.cell_graph.specs.Moves.{is_link_of}
use Rattle.cell_graph.specs.Chains.{IsHome}
use Rattle.cell_graph.specs.Places.{link_at}
use Rattle.cell_graph.proofs.Apart.{link_user, link_entry}
use Rattle.cell_graph.proofs.Rising.{all_at, of_map, at_cut, apart_or_same, at_index}

below_itself : (a b : ℕ) → (ltb a a || eqb a a && ltb b b) ≡ false
below_itself a b = grind (arith, tests)

below_itself_3 : (a b c : ℕ) → (ltb a a || eqb a a && (ltb b b || eqb b b && ltb c c)) ≡ false
below_itself_3 a b c = grind (arith, tests)

pub section_irreflexive : (s : SectionPlace) → below_section_place s s ≡ false
section_irreflexive s = below_itself s.key.cell.0 s.key.section

pub row_irreflexive : (r : RowPlace) → below_row_place r r ≡ false
row_irreflexive r = below_itself_3 r.user.cell.0 r.entry r.user.section

-- the cut before a section is where it is named
pub section_found : (list : List SectionPlace) (n : ℕ) (key : SecKey) → SectionsRise list → IsCut (λ s. below_section s.key key) list n
    → Contains (map (λ s. s.key) list) key → IsSectionAt list n key
section_found list n key rises cut present =
    let w = of_map (λ s. s.key) list key present in
    let named : Contains list (record { key = key; place = w.0.place }) = subst (λ (x : SectionPlace). Contains list x) (λ i. record { key = w.2 i; place = w.0.place }) w.1 in
    let found = at_cut below_section_place section_irreflexive list n (record { key = key; place = w.0.place }) rises cut named in
    record { within = found.0; key_is = λ d. ap (λ s. s.key) (found.1 d) }

pub place_named : (list : List SectionPlace) (n : ℕ) (key : SecKey) (d : SectionPlace) → IsSectionAt list n key
    → Contains list (record { key = key; place = (get_or list n d).place })
place_named list n key d at =
    subst (λ k. Contains list (record { key = k; place = (get_or list n d).place })) (at.key_is d) (at_index list n d at.within)

-- a listed section stands at its place
pub home_of : (at : ℕ → Option Section) (list : List SectionPlace) (key : SecKey) (place : ℕ) → SectionsListed at list
    → Contains list (record { key = key; place = place }) → IsHome at place key
home_of at list key place listed has = all_at (λ s. IsHome at s.place s.key) list (record { key = key; place = place }) listed.stand has

-- the link that a list names
pub row_named : (list : List RowPlace) (user : SecKey) (entry : ℕ) → has_row list user entry ≡ true
    → (r : RowPlace) × Contains list r × (r.user ≡ user) × (r.entry ≡ entry)
row_named [] user entry has = absurd (cc has)
row_named (r ∷ list) user entry has = go (is_link_of user entry (record { user = r.user; entry = r.entry; target = r.user })) refl (row_named list user entry) has
  where
    go : (b : Bool) → is_link_of user entry (record { user = r.user; entry = r.entry; target = r.user }) ≡ b
        → (has_row list user entry ≡ true → (x : RowPlace) × Contains list x × (x.user ≡ user) × (x.entry ≡ entry)) → (b || has_row list user entry) ≡ true
        → (x : RowPlace) × Contains (r ∷ list) x × (x.user ≡ user) × (x.entry ≡ entry)
    go true e later has =
        let l : LinkRow = record { user = r.user; entry = r.entry; target = r.user } in
        (r, (0, omega arith, refl), link_user user entry l e, link_entry user entry l e)
    go false e later has = let w = later has in (w.0, Contains-cons r w.0 list w.1, w.2, w.3)

pub bound_listed : (at : ℕ → Option ChainRow) (list : List RowPlace) (user : SecKey) (entry : ℕ) → is_bound (map (link_at at) list) user entry ≡ has_row list user entry
bound_listed at [] user entry = refl
bound_listed at (r ∷ list) user entry =
    ap (λ b. is_link_of user entry (record { user = r.user; entry = r.entry; target = r.user }) || b) (bound_listed at list user entry)

pub index_found : (list : List RowPlace) (n : ℕ) (user : SecKey) (entry : ℕ) → RowsRise list → IsCut (λ r. below_row r.user r.entry user entry) list n
    → has_row list user entry ≡ true → IsRowAt list n user entry
index_found list n user entry rises cut has =
    let w = row_named list user entry has in
    let named : Contains list (record { user = user; entry = entry; place = w.0.place }) =
    subst (λ (x : RowPlace). Contains list x) (λ i. record { user = w.2 i; entry = w.3 i; place = w.0.place }) w.1
    in
    let found = at_cut below_row_place row_irreflexive list n (record { user = user; entry = entry; place = w.0.place }) rises cut named in
    record { within = found.0; user_is = λ d. ap (λ r. r.user) (found.1 d); entry_is = λ d. ap (λ r. r.entry) (found.1 d) }

-- two places of the list with one user and entry are one
pub same_name : (list : List RowPlace) (x y : RowPlace) → RowsRise list → Contains list x → Contains list y → x.user ≡ y.user → x.entry ≡ y.entry → x ≡ y
same_name list x y rises a b user entry =
    let itself : below_row_place x y ≡ false = (λ i. below_row x.user x.entry (sym user i) (sym entry i)) ∙ row_irreflexive x in
    let back : below_row_place y x ≡ false = (λ i. below_row (sym user i) (sym entry i) x.user x.entry) ∙ row_irreflexive x in
    elim (apart_or_same below_row_place list x y rises a b) [
      | inl same ↦ same
      | inr apart ↦ elim apart [ inl below ↦ absurd (false≢true (sym itself ∙ below)) | inr above ↦ absurd (false≢true (sym back ∙ above)) ]
    ]

-- two places of the list where one link stands are one
pub same_place : (at : ℕ → Option ChainRow) (list : List RowPlace) (x y : RowPlace) → RowsListed at list → Contains list x → Contains list y → x.place ≡ y.place → x ≡ y
same_place at list x y listed a b same =
    let v = all_at (λ r. IsListed at r) list x listed.stand a in
    let w = all_at (λ r. IsListed at r) list y listed.stand b in
    let row = same_Some v.row w.row (sym v.is ∙ ap at same ∙ w.is) in
    same_name list x y listed.rise a b
    (sym v.user ∙ ap (λ r. r.row.user) row ∙ w.user)
    (sym v.entry ∙ ap (λ r. r.row.entry) row ∙ w.entry)

-- a place with the same link has the same link in the list
pub target_same : (x y : Option ChainRow) (d : SecKey) → option_map (λ c. c.row) x ≡ option_map (λ c. c.row) y
    → option_map_or (λ c. c.row.target) x d ≡ option_map_or (λ c. c.row.target) y d
target_same x y d same = sym (through x) ∙ ap (λ o. option_map_or (λ l. l.target) o d) same ∙ through y
  where
    through : (x : Option ChainRow) → option_map_or (λ l. l.target) (option_map (λ c. c.row) x) d ≡ option_map_or (λ c. c.row.target) x d
    through None = refl
    through (Some c) = refl

pub link_same : (at new : ℕ → Option ChainRow) (r : RowPlace) → option_map (λ c. c.row) (new r.place) ≡ option_map (λ c. c.row) (at r.place) → link_at new r ≡ link_at at r
link_same at new r same = λ i. record { user = r.user; entry = r.entry; target = target_same (new r.place) (at r.place) r.user same i }

pub not_named : (user : SecKey) (entry : ℕ) (row : LinkRow) → ((row.user ≡ user) → (row.entry ≡ entry) → ⊥) → is_link_of user entry row ≡ false
not_named user entry row other = go (is_link_of user entry row) refl
  where
    go : (b : Bool) → is_link_of user entry row ≡ b → b ≡ false
    go true e = absurd (other (link_user user entry row e) (link_entry user entry row e))
    go false e = refl
