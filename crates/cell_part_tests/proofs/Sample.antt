-- The sections of the tests.
use Rattle.std.proofs.Common.{◌≡◌, refl, sym, subst, arith, ℕ, zero, suc, ◌+◌, ◌<◌, Bool, true, false, ◌||◌, List, [], ◌∷◌, length, get_or, true≢false, Contains}
use Rattle.std.specs.Prelude.{All}
use Rattle.std.specs.List.{list_any}
use Rattle.slab.proofs.SlabLemmas.{Contains-cons}
use Rattle.cell_num.specs.declared.ids.SecKey.{SecKey}
use Rattle.cell_world.specs.World.{key_of}
use Rattle.cell_world.specs.declared.state.LinkRow.{LinkRow}
use Rattle.cell_graph.specs.Links.{is_same}
use Rattle.cell_graph.specs.Order.{Rises, below_link}
use Rattle.cell_graph.specs.Several.{AreNew}
use Rattle.cell_graph.proofs.Rising.{Contains-head}
use Rattle.cell_graph.proofs.Sights.{same_key}

-- cell 1 with two sections, cell 2 with two, cell 3 with one
abbrev pub sample : List SecKey
sample = key_of 1 1 ∷ key_of 1 3 ∷ key_of 2 1 ∷ key_of 2 2 ∷ key_of 3 1 ∷ []

member : (keys : List SecKey) (key : SecKey) → list_any (λ k. is_same k key) keys ≡ true → Contains keys key
member [] key h = absurd (true≢false (sym h))
member (k ∷ keys) key h = go (is_same k key) refl h (member keys key)
  where
    go : (b : Bool) → is_same k key ≡ b → (b || list_any (λ k. is_same k key) keys) ≡ true → (list_any (λ k. is_same k key) keys ≡ true → Contains keys key) → Contains (k ∷ keys) key
    go true e h later = subst (λ x. Contains (k ∷ keys) x) (same_key k key e) (Contains-head k keys)
    go false e h later = Contains-cons k key keys (later h)

-- these sections have this one
pub has : (keys : List SecKey) (key named : SecKey) → keys ≡ sample → key ≡ named → list_any (λ k. is_same k named) sample ≡ true → Contains keys key
has keys key named are is h = subst (λ ks. Contains ks key) (sym are) (subst (λ k. Contains sample k) (sym is) (member sample named h))

-- a link to the first section of a cell
abbrev pub link_to : ℕ → ℕ → ℕ → ℕ → LinkRow
link_to cell section entry target = record { user = key_of cell section; entry = entry; target = key_of target 1 }

-- two that rise, and are new beside a third one
pub rising_both : (a b : LinkRow) → a ≡ link_to 1 1 7 3 → b ≡ link_to 2 1 5 3 → Rises below_link (a ∷ b ∷ [])
rising_both a b is was =
    subst (λ (x : LinkRow). Rises below_link (x ∷ b ∷ [])) (sym is)
    (subst (λ (y : LinkRow). Rises below_link (link_to 1 1 7 3 ∷ y ∷ [])) (sym was) ((refl, tt), (tt, tt)))

pub new_both : (rows : List LinkRow) (a b : LinkRow) → rows ≡ link_to 2 2 4 3 ∷ [] → a ≡ link_to 1 1 7 3 → b ≡ link_to 2 1 5 3 → AreNew rows (a ∷ b ∷ [])
new_both rows a b are is was =
    subst (λ (ls : List LinkRow). AreNew ls (a ∷ b ∷ [])) (sym are)
    (subst (λ (x : LinkRow). AreNew (link_to 2 2 4 3 ∷ []) (x ∷ b ∷ [])) (sym is)
    (subst (λ (y : LinkRow). AreNew (link_to 2 2 4 3 ∷ []) (link_to 1 1 7 3 ∷ y ∷ [])) (sym was) (refl, (refl, tt))))

pub two_there : (keys : List SecKey) (a b : LinkRow) → Contains keys a.target → Contains keys b.target → All (λ r. Contains keys r.target) (a ∷ b ∷ [])
two_there keys a b x y zero d lt = x
two_there keys a b x y (suc zero) d lt = y
two_there keys a b x y (suc (suc i)) d lt = absurd (omega (arith, lt))
