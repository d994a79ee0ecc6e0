-- A task that refuses a change is the first one inside a field that changes.
use Rattle.std.proofs.Common.{◌≡◌, sym, ap, subst, ◌∙◌, ℕ, not, ◌&&◌, List, [], ◌∷◌, Option, Some, None, Ok, Err}
use Rattle.std.specs.Prelude.{filter, find, option_map}
use Rattle.cell_num.specs.Lists.{or_else}
use Rattle.cell_num.specs.declared.ids.CellId.{CellId}
use Rattle.cell_num.specs.declared.kinds.RelKind.{RelKind}
use Rattle.cell_world.specs.Change.{Change, plan_of}
use Rattle.cell_world.specs.Changed.{changed_fields, first_changed_misfit, is_changed, now_in}
use Rattle.cell_world.specs.Linked.Field.{fits, misfit_of}
use Rattle.cell_world.specs.Linked.Fit.{first_misfit}
use Rattle.cell_world.specs.Gather.{Source, fresh_cells}
use Rattle.cell_world.specs.Linked.Linking.{link_refusal}
use Rattle.cell_world.specs.Outcome.{Outcome, ◌>>◌, refused_by}
use Rattle.cell_world.specs.Linked.Relink.{bound_entries}
use Rattle.cell_world.specs.Torn.{first_torn}
use Rattle.cell_world.specs.World.{Cell, World, is_ready}
use Rattle.cell_world.specs.declared.refusal.Refusal.{Refusal}
use Rattle.cell_world.specs.declared.refusal.Refusal.TheVariants.{Overflow, Torn}
use Rattle.cell_change_law.specs.Answered.{HasAnswered, IsOfPlaced}
use Rattle.cell_change_law.specs.Sound.{HasCome}
use Rattle.cell_change_law.proofs.Answered.{has_answered}

-- none for a task inside a field
abbrev IsNotTorn : Option Refusal → Type 0
IsNotTorn (Some (Torn task cell section offset)) = ⊥
IsNotTorn _ = Unit {0}

overflows : {X : Type 0} (o : Option X) (cell : X → CellId) (section offset : X → ℕ) (kind : X → RelKind) (rest : Option Refusal) → IsNotTorn rest
    → IsNotTorn (or_else (option_map (λ x. Overflow (cell x) (section x) (offset x) (kind x)) o) rest)
overflows None cell section offset kind rest other = other
overflows (Some x) cell section offset kind rest other = tt

misfit_not_torn : (w : World) (cells : List Cell) → IsNotTorn (first_misfit w cells)
misfit_not_torn w [] = tt
misfit_not_torn w (c ∷ cells) =
    overflows (misfit_of c.placed (bound_entries w c)) (λ b. record { 0 = c.id.0 }) (λ b. b.entry.section) (λ b. b.entry.offset) (λ b. b.entry.kind) (first_misfit w cells) (misfit_not_torn w cells)

changed_not_torn : (v w : World) (cells : List Cell) → IsNotTorn (first_changed_misfit v w cells)
changed_not_torn v w [] = tt
changed_not_torn v w (c ∷ cells) =
    overflows (find (λ b. is_changed v w c b.entry && not (fits (now_in w c).placed (bound_entries w (now_in w c)) b)) (bound_entries w (now_in w c)))
    (λ b. record { 0 = (now_in w c).id.0 }) (λ b. b.entry.section) (λ b. b.entry.offset) (λ b. b.entry.kind) (first_changed_misfit v w cells) (changed_not_torn v w cells)

refusal_same : {X : Type 0} (r s : Refusal) → (let a : Outcome X = Err r in a) ≡ Err s → r ≡ s
refusal_same r s e = cc

module _ (task : ℕ) (cell : CellId) (section offset : ℕ) where
  abbrev torn : Refusal
  torn = Torn task cell section offset

  told : {X : Type 0} (o : Option Refusal) (x : X) → (refused_by o >> Ok x) ≡ Err torn → o ≡ Some torn
  told None x e = absurd cc
  told (Some r) x e = ap (λ (r : Refusal). Some r) (refusal_same r torn e)

  past : (o rest : Option Refusal) → IsNotTorn o → or_else o rest ≡ Some torn → rest ≡ Some torn
  past None rest other e = e
  past (Some r) rest other e = absurd (subst IsNotTorn e other)

  pub torn_inside : (sources : List Source) (v : World) (c : Change) → plan_of sources v c ≡ Err torn → (w : World) × HasCome sources v c w × (first_torn (changed_fields v w) (filter is_ready v.tasks) ≡ Some torn)
  torn_inside sources v c e =
      let x : HasAnswered sources v c = has_answered sources v c (subst IsOfPlaced (sym e) tt) in
      let r : link_refusal v x.placed ≡ Some torn = told (link_refusal v x.placed) _ (sym x.answer ∙ e) in (
        x.placed,
        x.come,
        past (first_changed_misfit v x.placed v.cells) _ (changed_not_torn v x.placed v.cells)
            (past (first_misfit x.placed (fresh_cells v.next_cell x.placed)) _ (misfit_not_torn x.placed (fresh_cells v.next_cell x.placed)) r),
      )
