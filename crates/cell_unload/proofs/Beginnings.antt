-- The roots that are listed are those of the machine with the cells put aside.
use Rattle.std.proofs.Common.{◌≡◌, refl, sym, ◌∙◌, ap, subst, ℕ, ◌⊎◌, inl, inr, Bool, true, false, cond, List, [], ◌∷◌, ◌++◌, map, append-nil, length}
use Rattle.std.specs.Prelude.{Option, ◌==◌, ◌||◌, filter, flat_map, is_some, nat_lt, slice_index}
use Rattle.std.specs.List.{list_all, list_any}
use Rattle.std.proofs.lemmas.Bool.{and_from, and_parts}
use Rattle.std.proofs.lemmas.Grind.{flat_map-append}
use Rattle.cell_num.specs.declared.ids.CellId.{CellId}
use Rattle.cell_num.specs.Lists.{holds, In}
use Rattle.cell_hold.specs.declared.roots.Root.{Root}
use Rattle.cell_hold.specs.declared.roots.Root.TheVariants.{Attached as AttachedRoot}
use Rattle.cell_hold.specs.Roots.{attached_by, claims_by, named_by}
use Rattle.cell_world.specs.Commands.MapCommand.{group_of}
use Rattle.cell_world.specs.Answer.{numbers_of}
use Rattle.cell_world.specs.Coherent.{is_sound_task}
use Rattle.cell_world.specs.Kept.{Claim, claim_of}
use Rattle.cell_world.specs.Commands.UnloadCommand.{put_aside}
use Rattle.cell_world.specs.World.{Cell, Standing, Task, World, cell_of, is_attached}
use Rattle.cell_world.specs.declared.state.Standing.TheVariants.{Attached, Detached}
use Rattle.cell_num.proofs.Elements.{all-In, In-all, In-append, In-flat_map, In-map, some_has}
use Rattle.cell_lemmas.proofs.Placement.Freed.{number_holds, present_holds}
use Rattle.cell_unload.specs.Begun.{is_aside, root_of, root_of_task}

holds-map : (aside : List CellId) (n : ℕ) → holds (map (λ c. c.0) aside) n ≡ list_any (λ c. c.0 == n) aside
holds-map [] n = refl
holds-map (c ∷ aside) n = ap (λ b. c.0 == n || b) (holds-map aside n)

abbrev stays : Cell → Bool
stays c = is_attached c.standing

module _ (aside : List CellId) (k : ℕ) where
  abbrev put : Cell → Cell
  put c = put_aside k (map (λ c. c.0) aside) c

  -- the cells that stay attached
  abbrev left : List Cell → List Cell
  left cells = filter stays (map put cells)

  -- one that is put aside already, one that is put aside now, and one that stays
  one_root : (c : Cell) (standing : Standing) → c.standing ≡ standing → (b : Bool) → is_aside aside c.id ≡ b → (roots : List Root) (rest : List Cell) → flat_map attached_by roots ≡ numbers_of rest
      → flat_map attached_by (root_of aside c ++ roots) ≡ numbers_of (cond (stays (put c)) (put c ∷ rest) rest)
  one_root c standing s b a roots rest ih =
      ap (λ (st : Standing). flat_map attached_by (cond (is_some (group_of st) || is_aside aside c.id) [] (AttachedRoot c.id ∷ []) ++ roots)) s
      ∙ (ap (λ b. flat_map attached_by (cond (is_some (group_of standing) || b) [] (AttachedRoot c.id ∷ []) ++ roots)) a
      ∙ (go standing b
      ∙ (ap (λ b. numbers_of (cond (is_attached (cond b (Detached k) standing)) (cond b (record c { standing = Detached k }) c ∷ rest) rest)) (sym (holds-map aside c.id.0 ∙ a))
      ∙ ap (λ (st : Standing). numbers_of (cond (is_attached (cond (holds (map (λ c. c.0) aside) c.id.0) (Detached k) st)) (put c ∷ rest) rest)) (sym s)
      ∙ by_put (holds (map (λ c. c.0) aside) c.id.0))))
    where
      go : (standing : Standing) (b : Bool) → flat_map attached_by (cond (is_some (group_of standing) || b) [] (AttachedRoot c.id ∷ []) ++ roots)
          ≡ numbers_of (cond (is_attached (cond b (Detached k) standing)) (cond b (record c { standing = Detached k }) c ∷ rest) rest)
      go Attached true = ih
      go Attached false = ap (λ ns. c.id.0 ∷ ns) ih
      go (Detached l) true = ih
      go (Detached l) false = ih

      by_put : (b : Bool) → numbers_of (cond (is_attached (cond b (Detached k) c.standing)) (cond b (record c { standing = Detached k }) c ∷ rest) rest)
          ≡ numbers_of (cond (is_attached (cond b (record c { standing = Detached k }) c).standing) (cond b (record c { standing = Detached k }) c ∷ rest) rest)
      by_put true = refl
      by_put false = refl

  own_attached : (cells : List Cell) → flat_map attached_by (flat_map (root_of aside) cells) ≡ numbers_of (left cells)
  own_attached [] = refl
  own_attached (c ∷ cells) = one_root c c.standing refl (is_aside aside c.id) refl (flat_map (root_of aside) cells) (left cells) (own_attached cells)

  no_attached : (tasks : List Task) → flat_map attached_by (map root_of_task tasks) ≡ []
  no_attached [] = refl
  no_attached (t ∷ tasks) = no_attached tasks

  pub attached_are : (cells : List Cell) (tasks : List Task) (roots : List Root) → roots ≡ flat_map (root_of aside) cells ++ map root_of_task tasks → flat_map attached_by roots ≡ numbers_of (left cells)
  attached_are cells tasks roots is =
      ap (flat_map attached_by) is
      ∙ (flat_map-append attached_by (flat_map (root_of aside) cells) (map root_of_task tasks)
      ∙ (ap (λ ns. flat_map attached_by (flat_map (root_of aside) cells) ++ ns) (no_attached tasks)
      ∙ (append-nil (flat_map attached_by (flat_map (root_of aside) cells)) ∙ own_attached cells)))

module _ (aside : List CellId) (w : World) where
  one_none : (c : Cell) (b : Bool) (roots : List Root) → flat_map (claims_by w.regions) roots ≡ [] → flat_map (claims_by w.regions) (cond b [] (AttachedRoot c.id ∷ []) ++ roots) ≡ []
  one_none c true roots ih = ih
  one_none c false roots ih = ih

  no_claims : (cells : List Cell) → flat_map (claims_by w.regions) (flat_map (root_of aside) cells) ≡ []
  no_claims [] = refl
  no_claims (c ∷ cells) = one_none c (is_some (group_of c.standing) || is_aside aside c.id) (flat_map (root_of aside) cells) (no_claims cells)

  task_claims : (tasks : List Task) → flat_map (claims_by w.regions) (map root_of_task tasks) ≡ map (claim_of w) tasks
  task_claims [] = refl
  task_claims (t ∷ tasks) = ap (λ (cs : List Claim). claim_of w t ∷ cs) (task_claims tasks)

  pub claims_are : (cells : List Cell) (tasks : List Task) (roots : List Root) → roots ≡ flat_map (root_of aside) cells ++ map root_of_task tasks → flat_map (claims_by w.regions) roots ≡ map (claim_of w) tasks
  claims_are cells tasks roots is =
      ap (flat_map (claims_by w.regions)) is
      ∙ (flat_map-append (claims_by w.regions) (flat_map (root_of aside) cells) (map root_of_task tasks)
      ∙ (ap (λ (cs : List Claim). cs ++ flat_map (claims_by w.regions) (map root_of_task tasks)) (no_claims cells) ∙ task_claims tasks))

  -- what a root names is present
  abbrev is_named : Root → Bool
  is_named root = list_all (holds (numbers_of w.cells)) (named_by root)

  one_named : (c : Cell) (b : Bool) (root : Root) → holds (numbers_of w.cells) c.id.0 ≡ true → In root (cond b [] (AttachedRoot c.id ∷ [])) → is_named root ≡ true
  one_named c true root h i = absurd i
  one_named c false root h (inl e) = subst (λ (r : Root). is_named r ≡ true) (sym e) (and_from (holds (numbers_of w.cells) c.id.0) true h refl)
  one_named c false root h (inr i) = absurd i

  root_there : (t : Task) → is_sound_task w t ≡ true → is_some (cell_of w t.root) ≡ true
  root_there t h =
      let a = and_parts _ (slice_index t.registers 0 == 0) h in
      let b = and_parts _ (length t.registers == 32) a.0 in
      (and_parts (nat_lt t.number w.next_task) (is_some (cell_of w t.root)) b.0).1

  task_named : (t : Task) → is_sound_task w t ≡ true → is_named (root_of_task t) ≡ true
  task_named t h =
      let c = some_has (cell_of w t.root) (root_there t h) in
      and_from (holds (numbers_of w.cells) t.root) true (present_holds w t.root c.0 c.1) refl

  pub all_named : list_all (is_sound_task w) w.tasks ≡ true → (roots : List Root) → roots ≡ flat_map (root_of aside) w.cells ++ map root_of_task w.tasks → list_all is_named roots ≡ true
  all_named sound roots is =
      subst (λ (rs : List Root). list_all is_named rs ≡ true) (sym is)
      (In-all is_named (flat_map (root_of aside) w.cells ++ map root_of_task w.tasks) (λ root i. go root (In-append (flat_map (root_of aside) w.cells) (map root_of_task w.tasks) root i)))
    where
      go : (root : Root) → In root (flat_map (root_of aside) w.cells) ⊎ In root (map root_of_task w.tasks) → is_named root ≡ true
      go root (inl i) =
          let c = In-flat_map (root_of aside) w.cells root i in
          one_named c.0 (is_some (group_of c.0.standing) || is_aside aside c.0.id) root (number_holds w.cells c.0 c.1) c.2
      go root (inr i) =
          let t = In-map root_of_task w.tasks root i in
          subst (λ (r : Root). is_named r ≡ true) (sym t.2) (task_named t.0 (all-In (is_sound_task w) w.tasks sound t.0 t.1))

-- the list after the cells and the tasks
pub listed_are : (aside : List CellId) (cells : List Cell) (tasks : List Task) (none mid last : List Root) → none ≡ [] → mid ≡ none ++ flat_map (root_of aside) cells → last ≡ mid ++ map root_of_task tasks
    → last ≡ flat_map (root_of aside) cells ++ map root_of_task tasks
listed_are aside cells tasks none mid last empty first second =
    second ∙ ap (λ (rs : List Root). rs ++ map root_of_task tasks) (first ∙ ap (λ (rs : List Root). rs ++ flat_map (root_of aside) cells) empty)

-- what is added for a cell, whatever its group
pub one_added : (aside : List CellId) (c : Cell) (group : Option ℕ) (b : Bool) (old new : List Root) → group ≡ group_of c.standing → b ≡ is_aside aside c.id
    → new ≡ old ++ cond (is_some group || b) [] (AttachedRoot c.id ∷ []) → new ≡ old ++ root_of aside c
one_added aside c group b old new g a e =
    e
    ∙ ap (λ (o : Option ℕ). old ++ cond (is_some o || b) [] (AttachedRoot c.id ∷ [])) g
    ∙ ap (λ b. old ++ cond (is_some (group_of c.standing) || b) [] (AttachedRoot c.id ∷ [])) a

-- nothing is added for a cell that is put aside
pub none_added : (aside : List CellId) (c : Cell) (group : Option ℕ) (b : Bool) (roots : List Root) → group ≡ group_of c.standing → b ≡ is_aside aside c.id → (is_some group || b) ≡ true → roots ≡ roots ++ root_of aside c
none_added aside c group b roots g a t = one_added aside c group b roots roots g a (sym (append-nil roots) ∙ ap (λ b. roots ++ cond b [] (AttachedRoot c.id ∷ [])) (sym t))

-- and its number for one that stays
pub number_added : (aside : List CellId) (c : Cell) (group : Option ℕ) (b : Bool) (old new : List Root) → group ≡ group_of c.standing → b ≡ is_aside aside c.id → (is_some group || b) ≡ false → new ≡ old ++ AttachedRoot c.id ∷ [] → new ≡ old ++ root_of aside c
number_added aside c group b old new g a f e = one_added aside c group b old new g a (e ∙ ap (λ b. old ++ cond b [] (AttachedRoot c.id ∷ [])) (sym f))
