-- Where the ready tasks stand, all of them.
use Rattle.std.proofs.Common.{◌≡◌, refl, ◌∙◌, ap, ℕ, zero, suc, Bool, true, false, cond, List, [], ◌∷◌, ◌++◌, map, take, drop}
use Rattle.std.specs.Prelude.{filter, flat_map}
use Rattle.cell_world.specs.World.{Task, is_ready}
use Rattle.cell_plan.specs.declared.torn.TaskPc.{TaskPc}
use Rattle.cell_plan.specs.Spans.{pc_of}
use Rattle.cell_change.specs.Planning.{place_if_ready}

ready_are : (ts : List Task) → flat_map place_if_ready ts ≡ map pc_of (filter is_ready ts)
ready_are [] = refl
ready_are (t ∷ ts) = go (is_ready t) (ready_are ts)
  where
    go : (b : Bool) → flat_map place_if_ready ts ≡ map pc_of (filter is_ready ts) → cond b (pc_of t ∷ []) [] ++ flat_map place_if_ready ts ≡ map pc_of (cond b (t ∷ filter is_ready ts) (filter is_ready ts))
    go true e = ap (λ ps. pc_of t ∷ ps) e
    go false e = e

-- no number is left
all_taken : (ts : List Task) (n : ℕ) → drop n (map (λ (t : Task). t.number) ts) ≡ [] → take n ts ≡ ts
all_taken [] zero e = refl
all_taken [] (suc n) e = refl
all_taken (t ∷ ts) zero e = absurd cc
all_taken (t ∷ ts) (suc n) e = ap (λ us. t ∷ us) (all_taken ts n e)

pub all_ready : (ts : List Task) (n : ℕ) (places : List TaskPc) → places ≡ flat_map place_if_ready (take n ts) → drop n (map (λ (t : Task). t.number) ts) ≡ [] → places ≡ map pc_of (filter is_ready ts)
all_ready ts n places so none = so ∙ (ap (flat_map place_if_ready) (all_taken ts n none) ∙ ready_are ts)
