-- After a change holding begins in the cells that stay attached, in the new cells, and in the tasks.
use Rattle.std.proofs.Common.{◌≡◌, refl, sym, ◌∙◌, ap, ap₂, ℕ, suc, ◌⊎◌, inl, inr, Bool, true, false, cond, ◌||◌, List, [], ◌∷◌, ◌++◌, map, append-nil}
use Rattle.std.specs.Prelude.{flat_map, is_some}
use Rattle.std.specs.List.{list_all}
use Rattle.std.proofs.lemmas.Grind.{flat_map-append}
use Rattle.cell_num.specs.Lists.{holds, In}
use Rattle.cell_num.specs.declared.ids.CellId.{CellId}
use Rattle.cell_hold.specs.declared.roots.Root.{Root}
use Rattle.cell_hold.specs.declared.roots.Root.TheVariants.{Attached as AttachedRoot}
use Rattle.cell_hold.specs.Roots.{attached_by, claims_by, named_by}
use Rattle.cell_world.specs.Answer.{numbers_of}
use Rattle.cell_world.specs.Kept.{placed_in}
use Rattle.cell_world.specs.Commands.MapCommand.{group_of}
use Rattle.cell_world.specs.Commands.UnloadCommand.{put_aside}
use Rattle.cell_world.specs.World.{Cell, Region, Standing, attached}
use Rattle.cell_world.specs.declared.state.Standing.TheVariants.{Attached, Detached}
use Rattle.cell_world.specs.declared.state.NewCell.{NewCell}
use Rattle.cell_num.proofs.Elements.{all-In, In-all, In-append, In-left, In-right}
use Rattle.cell_space.specs.Joined.{placed_of}
use Rattle.cell_machine.specs.declared.machine.Machine.{Machine}
use Rattle.cell_machine.specs.Machine.{IsSound, world_of}
use Rattle.cell_unload.specs.declared.outlook.Outlook.{Outlook}
use Rattle.cell_unload.specs.Begun.{is_aside, root_of, root_of_task}
use Rattle.cell_change.specs.OldCells.{IsAside}
use Rattle.cell_change.specs.Exchanged.{roots_without}
use Rattle.cell_unload.specs.Sweep.{IsOutlook}
use Rattle.cell_unload.proofs.Aside.{listed_numbers}
use Rattle.cell_unload.proofs.Beginnings.{all_named, attached_are, claims_are}
use Rattle.cell_change.proofs.Decision.OldStates.{aside_cells}
use Rattle.cell_unload.proofs.Ordered.{all_there}

module _ (k : ℕ) (old : List CellId) where
  abbrev numbers : List ℕ
  numbers = map (λ (c : CellId). c.0) old

  -- one that has been put aside is no root, as one that is to be put aside
  still_root : (c : Cell) → root_of [] (put_aside k numbers c) ≡ root_of old c
  still_root c = one c.standing (holds numbers c.id.0) ∙ ap (λ b. cond (is_some (group_of c.standing) || b) [] (AttachedRoot c.id ∷ [])) (sym (listed_numbers old c.id.0))
    where
      one : (standing : Standing) (b : Bool) → root_of [] (cond b (record c { standing = Detached k }) (record c { standing = standing })) ≡ cond (is_some (group_of standing) || b) [] (AttachedRoot c.id ∷ [])
      one Attached true = refl
      one Attached false = refl
      one (Detached l) true = refl
      one (Detached l) false = refl

  still_roots : (cells : List Cell) → flat_map (root_of []) (map (put_aside k numbers) cells) ≡ flat_map (root_of old) cells
  still_roots [] = refl
  still_roots (c ∷ cells) = ap₂ (λ (xs ys : List Root). xs ++ ys) (still_root c) (still_roots cells)

abbrev pub new_root : NewCell → Root
new_root c = AttachedRoot c.id

new_roots : (cells : List Cell) → ((c : Cell) → In c cells → c.standing ≡ Attached) → flat_map (root_of []) cells ≡ map new_root (map placed_of cells)
new_roots [] all = refl
new_roots (c ∷ cells) all =
    ap₂ (λ (xs ys : List Root). xs ++ ys)
    (ap (λ (standing : Standing). cond (is_some (group_of standing) || is_aside [] c.id) [] (AttachedRoot c.id ∷ [])) (all c (inl refl)))
    (new_roots cells (λ d i. all d (inr i)))

new_claims : (regions : List Region) (cells : List NewCell) → flat_map (claims_by regions) (map new_root cells) ≡ []
new_claims regions [] = refl
new_claims regions (c ∷ cells) = new_claims regions cells

flat_three : {X Y : Type 0} (f : X → List Y) (a b c : List X) → flat_map f ((a ++ b) ++ c) ≡ (flat_map f a ++ flat_map f b) ++ flat_map f c
flat_three {X} {Y} f a b c = flat_map-append f (a ++ b) c ∙ ap (λ (xs : List Y). xs ++ flat_map f c) (flat_map-append f a b)

-- where the middle is empty the last two may change places
empty_middle : {X : Type 0} (a b c : List X) → b ≡ [] → (a ++ b) ++ c ≡ (a ++ c) ++ b
empty_middle {X} a b c e =
    ap (λ (x : List X). (a ++ x) ++ c) e
    ∙ (ap (λ (x : List X). x ++ c) (append-nil a) ∙ (sym (append-nil (a ++ c)) ∙ ap (λ (x : List X). (a ++ c) ++ x) (sym e)))

-- in whatever order they stand
all_three : {X : Type 0} (p : X → Bool) (a b c : List X) → list_all p ((a ++ c) ++ b) ≡ true → list_all p ((a ++ b) ++ c) ≡ true
all_three {X} p a b c h = In-all p ((a ++ b) ++ c) (λ x i. all-In p ((a ++ c) ++ b) h x (moved x (In-append (a ++ b) c x i)))
  where
    moved : (x : X) → In x (a ++ b) ⊎ In x c → In x ((a ++ c) ++ b)
    moved x (inr i) = In-left (a ++ c) b x (In-right a c x i)
    moved x (inl i) = first x (In-append a b x i)
      where
        first : (x : X) → In x a ⊎ In x b → In x ((a ++ c) ++ b)
        first x (inl j) = In-left (a ++ c) b x (In-left a c x j)
        first x (inr j) = In-right (a ++ c) b x j

module _ (before : Machine) (old : List CellId) (m n : Machine) (before_sound : IsSound before) (aside : IsAside before old m) (sound : IsSound n) (new : List Cell) (are : (world_of n).cells ≡ (world_of m).cells ++ new)
    (stand : (c : Cell) → In c new → c.standing ≡ Attached) (staged : List NewCell) (placed : staged ≡ map placed_of new) (items : n.cells.items ≡ m.cells.items ++ staged) where
  abbrev begun : List Root
  begun = flat_map (root_of old) (world_of before).cells

  abbrev live : List Root
  live = map root_of_task n.tasks.tasks

  abbrev fresh : List Root
  fresh = map new_root staged

  by_cells : flat_map (root_of []) (world_of n).cells ≡ begun ++ fresh
  by_cells =
      ap (flat_map (root_of [])) (are ∙ ap (λ (cs : List Cell). cs ++ new) (aside_cells before old m before_sound aside))
      ∙ (flat_map-append (root_of []) (map (put_aside (suc (world_of before).swaps) (map (λ (c : CellId). c.0) old)) (world_of before).cells) new
      ∙ ap₂ (λ (xs ys : List Root). xs ++ ys) (still_roots (suc (world_of before).swaps) old (world_of before).cells) (new_roots new stand ∙ ap (map new_root) (sym placed)))

  -- the roots of the machine with the new cells
  in_order : (begun ++ fresh) ++ live ≡ roots_without n []
  in_order = sym (ap (λ (xs : List Root). xs ++ map root_of_task n.tasks.tasks) by_cells)

  attached_now : flat_map attached_by ((begun ++ live) ++ fresh) ≡ flat_map attached_by ((begun ++ fresh) ++ live)
  attached_now =
      flat_three attached_by begun live fresh
      ∙ (empty_middle (flat_map attached_by begun) (flat_map attached_by live) (flat_map attached_by fresh) (attached_are [] 0 [] n.tasks.tasks live refl)
      ∙ sym (flat_three attached_by begun fresh live))

  claims_now : flat_map (claims_by n.memory.regions) ((begun ++ live) ++ fresh) ≡ flat_map (claims_by n.memory.regions) ((begun ++ fresh) ++ live)
  claims_now =
      flat_three (claims_by n.memory.regions) begun live fresh
      ∙ (sym (empty_middle (flat_map (claims_by n.memory.regions) begun) (flat_map (claims_by n.memory.regions) fresh) (flat_map (claims_by n.memory.regions) live) (new_claims n.memory.regions staged))
      ∙ sym (flat_three (claims_by n.memory.regions) begun fresh live))

  abbrev is_named : Root → Bool
  is_named root = list_all (holds (numbers_of (world_of n).cells)) (named_by root)

  pub outlook_after : (o : Outlook) → o.places ≡ flat_map (λ c. placed_in (attached c)) (m.cells.items ++ staged) → o.roots.items ≡ (begun ++ live) ++ fresh → IsOutlook n [] o
  outlook_after o places rooted = record {
    sections = places ∙ (ap (flat_map (λ (c : NewCell). placed_in (attached c))) (sym items) ∙ all_there n sound);
    attached =
        ap (flat_map attached_by) rooted
        ∙ (attached_now ∙ attached_are [] (suc n.swaps) (world_of n).cells n.tasks.tasks ((begun ++ fresh) ++ live) in_order);
    claims =
        ap (flat_map (claims_by n.memory.regions)) rooted
        ∙ (claims_now ∙ claims_are [] (world_of n) (world_of n).cells n.tasks.tasks ((begun ++ fresh) ++ live) in_order);
    present =
        ap (list_all is_named) rooted
        ∙ all_three is_named begun live fresh (all_named [] (world_of n) sound.coherent.ready.tasks ((begun ++ fresh) ++ live) in_order);
  }
