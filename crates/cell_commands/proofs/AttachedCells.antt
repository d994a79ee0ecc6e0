-- The attached cells of a machine, as they are listed.
use Rattle.std.proofs.Common.{◌≡◌, refl, sym, ◌∙◌, ap, subst, ℕ, Bor, Bool, true, false, cond, not, List, [], ◌∷◌, ◌++◌, map, append-nil, Option}
use Rattle.std.specs.Prelude.{All, IsTrue, filter, is_some, nat_lt}
use Rattle.cell_num.specs.Lists.{In, each_pair}
use Rattle.cell_num.proofs.Elements.{In-All, In-filtered, In-map, map-In}
use Rattle.cell_world.specs.declared.state.NewCell.{NewCell}
use Rattle.cell_world.specs.declared.state.Standing.{Standing}
use Rattle.cell_world.specs.declared.state.Standing.TheVariants.{Attached, Detached}
use Rattle.cell_world.specs.Commands.MapCommand.{group_of}
use Rattle.cell_world.specs.World.{Cell, is_attached}
use Rattle.cell_space.specs.Joined.{placed_of}
use Rattle.cell_machine.specs.declared.machine.Machine.{Machine}
use Rattle.cell_machine.specs.Machine.{IsSound, world_of}
use Rattle.cell_machine.proofs.Joined.{placed_in}
use Rattle.cell_machine.proofs.Looked.{cell_low}

-- a cell without a group is attached
pub attached_is : (c : Cell) (group : Option ℕ) → group ≡ group_of c.standing → is_attached c.standing ≡ not (is_some group)
attached_is c group e = go c.standing ∙ ap (λ (o : Option ℕ). not (is_some o)) (sym e)
  where
    go : (s : Standing) → is_attached s ≡ not (is_some (group_of s))
    go Attached = refl
    go (Detached k) = refl

pub one_more : (c : Cell) (p : NewCell) → c.placed ≡ p → is_attached c.standing ≡ true → (old new : List NewCell) → new ≡ old ++ p ∷ [] → new ≡ old ++ map placed_of (filter (λ d. is_attached d.standing) (c ∷ []))
one_more c p same att old new e = e ∙ (ap (λ (q : NewCell). old ++ q ∷ []) (sym same) ∙ ap (λ (b : Bool). old ++ map placed_of (cond b (c ∷ []) [])) (sym att))

pub no_more : (c : Cell) → is_attached c.standing ≡ false → (old : List NewCell) → old ≡ old ++ map placed_of (filter (λ d. is_attached d.standing) (c ∷ []))
no_more c aside old = sym (append-nil old) ∙ ap (λ (b : Bool). old ++ map placed_of (cond b (c ∷ []) [])) (sym aside)

-- the places of each are in the order of its sections
pub all_ordered : (m : Machine) → IsSound m → (cells : List (Bor NewCell)) → map (λ c. c.now) cells ≡ map placed_of (filter (λ c. is_attached c.standing) (world_of m).cells)
    → (given : List (Bor NewCell)) → given ≡ cells → All (λ c. IsTrue (each_pair (λ a b. nat_lt a.section b.section) c.now.places)) given
all_ordered m sound cells are given same = In-All (λ (c : Bor NewCell). IsTrue (each_pair (λ a b. nat_lt a.section b.section) c.now.places)) given ordered
  where
    ordered : (c : Bor NewCell) → In c given → IsTrue (each_pair (λ a b. nat_lt a.section b.section) c.now.places)
    ordered c i =
        let among : In c.now (map placed_of (filter (λ d. is_attached d.standing) (world_of m).cells)) =
        subst (λ (ps : List NewCell). In c.now ps) (ap (map (λ (x : Bor NewCell). x.now)) same ∙ are) (map-In (λ (x : Bor NewCell). x.now) given c i) in
        let d = In-map placed_of (filter (λ d. is_attached d.standing) (world_of m).cells) c.now among in
        let there = placed_in m sound d.0 (In-filtered (λ d. is_attached d.standing) (world_of m).cells d.0 d.1) in
        (cell_low m sound c.now (subst (λ (p : NewCell). In p m.cells.items) (sym d.2) there)).ordered
