-- Links of which no user and entry has two, and what is bound among them.
use Rattle.std.proofs.Common.{◌≡◌, ℕ, true, ◌&&◌, ◌||◌, eqb, List, [], ◌∷◌, refl, ap, arith, tests}
use Rattle.cell_num.specs.declared.ids.SecKey.{SecKey}
use Rattle.cell_world.specs.declared.state.LinkRow.{LinkRow}
use Rattle.cell_graph.specs.Links.{is_bound}
use Rattle.cell_graph.specs.Moves.{is_link_of, moved}

-- a number equals another where the other equals it
eqb_swapped : (a b : ℕ) → eqb a b ≡ eqb b a
eqb_swapped a b = grind (arith, tests)

three_swapped : (a b c d e f : ℕ) → (eqb a b && eqb c d && eqb e f) ≡ (eqb b a && eqb d c && eqb f e)
three_swapped a b c d e f = λ i. eqb_swapped a b i && eqb_swapped c d i && eqb_swapped e f i

-- a link is that of another's user and entry where the other is that of its own
pub link_swapped : (a b : LinkRow) → is_link_of a.user a.entry b ≡ is_link_of b.user b.entry a
link_swapped a b = three_swapped b.user.cell.0 a.user.cell.0 b.user.section a.user.section b.entry a.entry

three_hold : (a b c d e f : ℕ) → (eqb a b && eqb c d && eqb e f) ≡ true → (a ≡ b) × (c ≡ d) × (e ≡ f)
three_hold a b c d e f = grind (arith, tests)

-- the link has that user and entry
pub link_user : (user : SecKey) (entry : ℕ) (row : LinkRow) → is_link_of user entry row ≡ true → row.user ≡ user
link_user user entry row h =
    let e = three_hold row.user.cell.0 user.cell.0 row.user.section user.section row.entry entry h in
    λ i. record { cell = record { 0 = e.0 i }; section = e.1 i }

pub link_entry : (user : SecKey) (entry : ℕ) (row : LinkRow) → is_link_of user entry row ≡ true → row.entry ≡ entry
link_entry user entry row h = (three_hold row.user.cell.0 user.cell.0 row.user.section user.section row.entry entry h).2

-- moves change no user and no entry
pub bound-moved : (rows moves : List LinkRow) (user : SecKey) (entry : ℕ) → is_bound (moved rows moves) user entry ≡ is_bound rows user entry
bound-moved [] moves user entry = refl
bound-moved (r ∷ rows) moves user entry = ap (λ b. is_link_of user entry r || b) (bound-moved rows moves user entry)
