-- Where each step of a path stays, what the path keeps is kept as before.
use Rattle.std.proofs.Common.{◌≡◌, ℕ, true, List, [], ◌∷◌, subst}
use Rattle.cell_num.specs.Lists.{holds}
use Rattle.cell_world.specs.Kept.{Holding, Leads, IsKept, reaches, is_held_directly}
use Rattle.cell_lemmas.proofs.Holding.KeptPaths.{kept_on, directly_kept}

-- what is kept in h is there in g, held directly where it was, and reached where it was
pub record KeepsSteps (h g : Holding) : Type 0 where
  pub there : (c : ℕ) → IsKept h c → holds g.cells c ≡ true
  pub directly : (c : ℕ) → IsKept h c → is_held_directly h c ≡ true → is_held_directly g c ≡ true
  pub onward : (a b : ℕ) → IsKept h a → IsKept h b → reaches h a b ≡ true → reaches g a b ≡ true

module _ (h g : Holding) (k : KeepsSteps h g) where
  along : (a : ℕ) (path : List ℕ) (c : ℕ) → IsKept h a → IsKept g a → Leads h a path c → IsKept g c
  along a [] c p q r = subst (IsKept g) r q
  along a (b ∷ path) c p q r =
      let next : IsKept h b = kept_on h a b p r.0 r.1 in
      along b path c next (kept_on g a b q (k.there b next) (k.onward a b p next r.1)) r.2

  pub kept_again : (c : ℕ) → IsKept h c → IsKept g c
  kept_again c p =
      let first : IsKept h p.0 = directly_kept h p.0 p.2 p.3 in
      along p.0 p.1 c first (directly_kept g p.0 (k.there p.0 first) (k.directly p.0 first p.3)) p.4
