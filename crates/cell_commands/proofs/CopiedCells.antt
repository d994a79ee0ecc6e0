-- The copies of the cells of a namespace, as they are listed.
use Rattle.std.proofs.Common.{◌≡◌, sym, ◌∙◌, ap, ℕ, Bool, true, false, cond, not, ◌&&◌, List, [], ◌∷◌, ◌++◌, map, append-nil, Option}
use Rattle.std.specs.Prelude.{◌==◌, filter, is_some}
use Rattle.cell_world.specs.declared.state.NewCell.{NewCell}
use Rattle.cell_world.specs.Commands.Asked.{is_in_space}
use Rattle.cell_world.specs.Commands.MapCommand.{group_of}
use Rattle.cell_world.specs.World.{Cell}
use Rattle.cell_change.specs.declared.request.CellCopy.{CellCopy}
use Rattle.cell_commands.specs.Cloning.{copy_to}
use Rattle.cell_commands.proofs.AttachedCells.{attached_is}

-- by its group, which is none where it is attached
pub in_space_is : (ns : ℕ) (c : Cell) (group : Option ℕ) → group ≡ group_of c.standing → (b : Bool) → is_some group ≡ b → is_in_space ns c ≡ (not b && c.ns == ns)
in_space_is ns c group e b some = ap (λ (x : Bool). x && c.ns == ns) (attached_is c group e ∙ ap not some)

pub one_copied : (from to : ℕ) (c : Cell) (p : NewCell) → c.placed ≡ p → is_in_space from c ≡ true → (old new : List CellCopy) → new ≡ old ++ record { original = p.id; ns = to } ∷ [] → new ≡ old ++ map (copy_to to) (filter (is_in_space from) (c ∷ []))
one_copied from to c p same here old new e =
    e
    ∙ (ap (λ (q : NewCell). old ++ (let x : CellCopy = record { original = q.id; ns = to } in x) ∷ []) (sym same)
    ∙ ap (λ (b : Bool). old ++ map (copy_to to) (cond b (c ∷ []) [])) (sym here))

pub none_copied : (from to : ℕ) (c : Cell) → is_in_space from c ≡ false → (old : List CellCopy) → old ≡ old ++ map (copy_to to) (filter (is_in_space from) (c ∷ []))
none_copied from to c elsewhere old = sym (append-nil old) ∙ ap (λ (b : Bool). old ++ map (copy_to to) (cond b (c ∷ []) [])) (sym elsewhere)
