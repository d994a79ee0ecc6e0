-- The wants of a recovery, by the task and the cells that are found.
use Rattle.std.proofs.Common.{◌≡◌, sym, ◌∙◌, ap, subst, arith, ℕ, suc, ◌<◌, inl, inr, Bool, true, false, not, List, [], ◌∷◌, map, length, Ok, Err}
use Rattle.std.specs.Prelude.{◌==◌, All, Result}
use Rattle.std.proofs.lemmas.Bool.{and_parts, eqb-true, false_from_ne_true, ltb-true}
use Rattle.cell_num.specs.Lists.{In}
use Rattle.cell_num.proofs.Elements.{In-All, In-filtered, all-In, filter-Passes}
use Rattle.cell_world.specs.declared.fail.Fail.{Fail}
use Rattle.cell_world.specs.declared.fail.Fail.TheVariants.{Refused, OutOfMemory}
use Rattle.cell_world.specs.declared.refusal.Refusal.TheVariants.{NoCrate}
use Rattle.cell_world.specs.declared.state.NewCell.{NewCell}
use Rattle.cell_world.specs.Change.{Want as Wanted}
use Rattle.cell_world.specs.Coherent.{IsCoherent, is_known_cell}
use Rattle.cell_world.specs.Commands.Asked.{renewals}
use Rattle.cell_world.specs.Commands.Recovery.{faulted_task, is_rebuilt, rebuild_of}
use Rattle.cell_world.specs.Kept.{claim_of, holding_of, is_claimed_by}
use Rattle.cell_world.specs.Following.{FailsAs}
use Rattle.cell_world.specs.Gather.{Source}
use Rattle.cell_world.specs.Outcome.{Outcome, ◌>>=◌, ◌>>◌, need}
use Rattle.cell_world.specs.World.{Cell, Task, World, is_attached}
use Rattle.cell_lemmas.proofs.Naming.Known.{known_parts}
use Rattle.cell_space.specs.Joined.{placed_of}
use Rattle.cell_change.specs.declared.request.Change.{Change}
use Rattle.cell_commands.specs.Renewals.{AreAt, AsksAnew, renewed_cells, wanted_anew}
use Rattle.cell_commands.proofs.Faulted.{same_number}
use Rattle.cell_commands.proofs.Renewing.{IsFirst}

not_zero : (n : ℕ) → (suc n == 0) ≡ false
not_zero n = false_from_ne_true (suc n == 0) (λ e. let same = eqb-true (suc n) 0 e in omega (arith, same))

module _ (sources : List Source) (w : World) (number : ℕ) (set : World → Task → List Cell) where
  abbrev all : Outcome (List Wanted)
  all = wanted_anew sources w number set

  -- the task isn't there, or hasn't faulted
  pub no_task : (fail : Fail) → FailsAs fail (faulted_task w number) → FailsAs fail all
  no_task (Refused r) e = ap (λ (o : Outcome Task). o >>= renewed_cells sources w set) e
  no_task OutOfMemory e = tt

  module _ (t : Task) (faulted : faulted_task w number ≡ Ok t) where
    by_task : all ≡ renewed_cells sources w set t
    by_task = ap (λ (o : Outcome Task). o >>= renewed_cells sources w set) faulted

    -- no cell is found
    pub none_there : set w t ≡ [] → (fail : Fail) → fail ≡ Refused (NoCrate number t.pc) → FailsAs fail all
    none_there none fail e =
        subst (λ (f : Fail). FailsAs f all) (sym e)
        (by_task
        ∙ (ap (λ (cells : List Cell). renewed_cells sources w (λ v u. cells) t) none
        ∙ ap (λ (n : ℕ). let o : Outcome (List Wanted) = Err (NoCrate n t.pc) in o) (same_number w number t faulted)))

    -- some are
    module _ (c : Cell) (cells : List Cell) (some : set w t ≡ c ∷ cells) where
      pub anew_is : all ≡ renewals sources (c ∷ cells)
      anew_is =
          by_task
          ∙ (ap (λ (found : List Cell). renewed_cells sources w (λ v u. found) t) some
          ∙ ap (λ (none : Bool). need (not none) (NoCrate t.number t.pc) >> renewals sources (c ∷ cells)) (not_zero (length cells)))

      pub renewed_so : (result : Result Change Fail) → AsksAnew sources w (renewals sources (c ∷ cells)) (length (c ∷ cells)) number result → AsksAnew sources w all 1 number result
      renewed_so (Ok change) x = record {
        asked = x.asked;
        all_are = anew_is ∙ x.all_are;
        none = x.none;
        enough = let enough = x.enough in omega (arith, enough);
        said = x.said;
      }
      renewed_so (Err (Refused r)) e = anew_is ∙ e
      renewed_so (Err OutOfMemory) e = tt

single : (P : Cell → Type 0) (c : Cell) → P c → All P (c ∷ [])
single P c p = In-All P (c ∷ []) (λ d i. go d i)
  where
    go : (d : Cell) → In d (c ∷ []) → P d
    go d (inl e) = subst P (sym e) p
    go d (inr i) = absurd i

module _ (w : World) (h : IsCoherent w) where
  known : (c : Cell) → In c w.cells → c.ns < length w.namespaces
  known c i = ltb-true c.ns (length w.namespaces) (known_parts w c (all-In (is_known_cell w) w.cells h.ready.cells c i)).ns

  pub one_at : (pc : ℕ) (p : NewCell) (x : IsFirst pc w.cells p) → AreAt w (x.cell ∷ []) (p ∷ [])
  one_at pc p x = record {
    are = ap (λ (q : NewCell). q ∷ []) x.placed;
    there = single (λ (c : Cell). In c w.cells) x.cell x.there;
    known = single (λ (c : Cell). c.ns < length w.namespaces) x.cell (known x.cell x.there);
    attached = single (λ (c : Cell). is_attached c.standing ≡ true) x.cell x.att;
  }

  -- the cells that a task holds
  pub held_at : (t : Task) (placed : List NewCell) → map placed_of (rebuild_of w t) ≡ placed → AreAt w (rebuild_of w t) placed
  held_at t placed are = record {
    are = are;
    there = In-All (λ (c : Cell). In c w.cells) (rebuild_of w t) (λ c i. In-filtered (is_rebuilt w t) w.cells c i);
    known = In-All (λ (c : Cell). c.ns < length w.namespaces) (rebuild_of w t) (λ c i. known c (In-filtered (is_rebuilt w t) w.cells c i));
    attached = In-All (λ (c : Cell). is_attached c.standing ≡ true) (rebuild_of w t)
        (λ c i. (and_parts (is_attached c.standing) (is_claimed_by (holding_of w) c.id.0 (claim_of w t)) (filter-Passes (is_rebuilt w t) w.cells c i)).0);
  }
