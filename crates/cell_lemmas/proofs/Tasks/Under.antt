-- A store while routines run keeps the machine without their stack coherent.
use Rattle.std.proofs.Common.{◌≡◌, refl, sym, ◌∙◌, ap, subst, ℕ, ◌+◌, inl, inr, Bool, true, false, cond, not, ◌&&◌, List, [], ◌∷◌, length, map, true≢false, Option, Some, None}
use Rattle.std.specs.Prelude.{filter, find, nat_le, ◌==◌}
use Rattle.std.proofs.lemmas.Bool.{eqb-true, eq-eqb}
use Rattle.cell_num.specs.Lists.{each_pair, In}
use Rattle.cell_world.specs.World.{World, Region}
use Rattle.cell_world.specs.Running.Memory.{covers, end_of, region_in, written}
use Rattle.cell_world.specs.Coherent.{IsCoherent, ends_before}
use Rattle.cell_world.specs.Running.Execute.{allows, seen_in}
use Rattle.cell_world.specs.Running.Turn.{without_region}
use Rattle.cell_num.proofs.Elements.{found-In, In-filtered, filter-Passes}
use Rattle.cell_lemmas.proofs.Tasks.Executed.{Stored}
use Rattle.cell_lemmas.specs.Kept.{KeepsSealed}
use Rattle.cell_lemmas.proofs.Tasks.Kept.{Kept, kept_then}
use Rattle.cell_num.proofs.Sublists.{In-fixed, filter_same, map_filter}
use Rattle.cell_lemmas.proofs.Tasks.Memory.{seen_memory, stored_sealed}
use Rattle.cell_lemmas.proofs.Tasks.Stores.{keeps_apart, one_covers}
use Rattle.cell_lemmas.proofs.Tasks.TurnKept.{kept_by}
use Rattle.cell_lemmas.proofs.Tasks.Turned.{stored_coherent}
use Rattle.cell_lemmas.proofs.Fields.Writes.{written_in, written_out}
use Rattle.cell_lemmas.proofs.Tasks.Runs.{seen_with}

-- what is found in the whole list and passes another test is found among those that pass it
find_filtered : {X : Type 0} (p q : X → Bool) (xs : List X) (x : X) → find p xs ≡ Some x → q x ≡ true → find p (filter q xs) ≡ Some x
find_filtered p q [] x e t = cc
find_filtered p q (y ∷ ys) x e t = go (p y) refl (q y) refl e (λ f. find_filtered p q ys x f t)
  where
    go : (a : Bool) → p y ≡ a → (b : Bool) → q y ≡ b → cond a (Some y) (find p ys) ≡ Some x → (find p ys ≡ Some x → find p (filter q ys) ≡ Some x)
        → find p (cond b (y ∷ filter q ys) (filter q ys)) ≡ Some x
    go true f true g e rest = ap (λ c. cond c (Some y) (find p (filter q ys))) f ∙ e
    go true f false g e rest = let same : y ≡ x = cc in absurd (true≢false (sym t ∙ (ap q (sym same) ∙ g)))
    go false f true g e rest = ap (λ c. cond c (Some y) (find p (filter q ys))) f ∙ rest e
    go false f false g e rest = rest e

-- the machine with these regions, but without the stack
abbrev pub left_out : World → ℕ → List Region → World
left_out w stack regions = record w { regions = without_region stack regions }

-- what holds of the regions while the routines of a swap run
pub record Under (w : World) (stack : ℕ) (regions : List Region) : Type 0 where
  pub apart : each_pair ends_before regions ≡ true
  pub coherent : IsCoherent (left_out w stack regions)
  pub kept : Kept w (left_out w stack regions)
  pub sealed : KeepsSealed (seen_in w) (without_region stack regions)

module _ (w : World) (stack : ℕ) (regions : List Region) (u : Under w stack regions) where
  abbrev other : Region → Bool
  other r = not (r.start == stack)

  abbrev left : World
  left = left_out w stack regions

  module _ (addr : ℕ) (new : List ℕ) (may : allows regions (λ p. p.write) addr (length new) ≡ true) (free : (seen_in w).is_sealed addr (length new) ≡ false) where
    abbrev after : Region → Region
    after r = written r addr new

    start_still : (r : Region) → other (after r) ≡ other r
    start_still r = go (covers r addr) refl
      where
        go : (b : Bool) → covers r addr ≡ b → other (after r) ≡ other r
        go true c = ap other (written_in r addr new c)
        go false c = ap other (written_out r addr new c)

    -- the stack may be left out before the store
    left_then : without_region stack (map after regions) ≡ map after left.regions
    left_then = sym (map_filter after other regions) ∙ ap (map after) (filter_same (λ r. other (after r)) other regions (λ r i. start_still r))

    -- the store is one into the machine without the stack, or it is into the stack
    left_stored : Stored (seen_in left) (without_region stack (map after regions))
    left_stored = go (region_in regions addr) refl may
      where
        in_stack : (r : Region) → In r regions → covers r addr ≡ true → r.start ≡ stack → (x : Region) → In x left.regions → after x ≡ x
        in_stack r i c s x k = pick (covers x addr) refl
          where
            pick : (b : Bool) → covers x addr ≡ b → after x ≡ x
            pick false d = written_out x addr new d
            pick true d =
                let e : x ≡ r = one_covers regions u.apart x r addr (In-filtered other regions x k) i d c in
                absurd (true≢false (sym (filter-Passes other regions x k) ∙ ap not (eq-eqb x.start stack (ap (λ (y : Region). y.start) e ∙ s))))

        at : (r : Region) → region_in regions addr ≡ Some r → (r.permission.write && nat_le (addr + length new) (end_of r)) ≡ true → (b : Bool) → (r.start == stack) ≡ b → Stored (seen_in left) (without_region stack (map after regions))
        at r e t true s =
            let f = found-In (λ x. covers x addr) regions r e in
            inl (left_then ∙ In-fixed after left.regions (in_stack r f.0 f.1 (eqb-true r.start stack s)))
        at r e t false s = inr (record {
          addr = addr;
          new = new;
          may = ap (λ (o : Option Region). elim o as (λ _. Bool) [ None ↦ false | Some x ↦ x.permission.write && nat_le (addr + length new) (end_of x) ])
              (find_filtered (λ x. covers x addr) other regions r e (ap not s))
              ∙ t;
          free = free;
          is = left_then;
        })

        go : (o : Option Region) → region_in regions addr ≡ o → (elim o as (λ _. Bool) [ None ↦ false | Some r ↦ r.permission.write && nat_le (addr + length new) (end_of r) ]) ≡ true → Stored (seen_in left) (without_region stack (map after regions))
        go None e t = absurd (true≢false (sym t))
        go (Some r) e t = at r e t (r.start == stack) refl

    under_then : Under w stack (map after regions)
    under_then = record {
      apart = keeps_apart regions u.apart addr new may;
      coherent = stored_coherent left u.coherent (without_region stack (map after regions)) left_stored;
      kept = kept_then w left (left_out w stack (map after regions)) u.kept (kept_by left u.coherent (without_region stack (map after regions)) left_stored);
      sealed = λ p k. stored_sealed (seen_in left) (seen_memory left u.coherent) (without_region stack (map after regions)) left_stored p k ∙ u.sealed p k;
    }

  pub under_stored : (new : List Region) → Stored (seen_with w regions) new → Under w stack new
  under_stored new (inl e) = subst (Under w stack) (sym e) u
  under_stored new (inr s) = subst (Under w stack) (sym s.is) (under_then s.addr s.new s.may s.free)
