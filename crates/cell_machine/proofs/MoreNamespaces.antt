-- A machine with one more namespace: whether one may come, that the machine with it is sound, and that it goes again.
use Rattle.std.proofs.Common.{◌≡◌, refl, sym, ◌∙◌, ap, subst, arith, ℕ, ◌+◌, ◌-◌, ◌<◌, true, List, [], ◌∷◌, ◌++◌, length, take, None, Some, Ok, Err, length-append}
use Rattle.std.specs.Prelude.{All, is_none, nat_lt}
use Rattle.std.proofs.lemmas.Bool.{ltb-true}
use Rattle.std.proofs.lemmas.List.{take_at}
use Rattle.cell_num.specs.Limits.{max_namespaces}
use Rattle.cell_num.specs.Lists.{In}
use Rattle.cell_num.proofs.Elements.{all-In, In-All, In-map, none_is}
use Rattle.cell_world.specs.declared.refusal.Many.TheVariants.{Namespaces}
use Rattle.cell_world.specs.declared.refusal.Refusal.{Refusal}
use Rattle.cell_world.specs.declared.refusal.Refusal.TheVariants.{NameTaken, TooMany}
use Rattle.cell_world.specs.declared.state.Namespace.{Namespace}
use Rattle.cell_world.specs.Answer.{Done}
use Rattle.cell_world.specs.Coherent.{IsCoherent, is_known_cell}
use Rattle.cell_world.specs.Commands.NsCommand.{if_new_space, with_namespace}
use Rattle.cell_world.specs.Names.{namespace_named}
use Rattle.cell_world.specs.Outcome.{Outcome, ◌>>◌, need}
use Rattle.cell_world.specs.Placed.Place.{page_table}
use Rattle.cell_world.specs.World.{World}
use Rattle.cell_lemmas.proofs.Outcomes.{need_ok, then_ok}
use Rattle.cell_lemmas.proofs.Naming.Known.{known_parts}
use Rattle.cell_space.specs.declared.cell.SpaceCell.{SpaceCell}
use Rattle.cell_space.specs.Joined.{AreJoined, cells_of}
use Rattle.cell_space.specs.Machine.{called}
use Rattle.cell_space.specs.Spaces.{SpacesState}
use Rattle.cell_machine.specs.declared.machine.Machine.{Machine}
use Rattle.cell_machine.specs.Machine.{IsSound, world_by, world_of}
use Rattle.cell_machine.specs.Namespaces.{may_add}
use Rattle.cell_machine.specs.Same.{IsSame}

both_pass : {X : Type 0} (a b : Outcome (Unit {0})) (c : Outcome X) → (a >> b) ≡ Ok tt → (a >> (b >> c)) ≡ c
both_pass (Ok x) (Ok y) c e = refl
both_pass (Ok x) (Err r) c e = absurd cc
both_pass (Err r) b c e = absurd cc

one_fails : {X : Type 0} (a b : Outcome (Unit {0})) (c : Outcome X) (r : Refusal) → (a >> b) ≡ Err r → (a >> (b >> c)) ≡ Err r
one_fails (Ok x) (Ok y) c r e = absurd cc
one_fails (Ok x) (Err s) c r e = cc
one_fails (Err s) b c r e = cc

module _ (w : World) (name : List ℕ) where
  abbrev is_new : Outcome (Unit {0})
  is_new = need (is_none (namespace_named w name)) (NameTaken name)

  abbrev has_room : Outcome (Unit {0})
  has_room = need (nat_lt (length w.namespaces) max_namespaces) (TooMany Namespaces max_namespaces)

  -- a command goes on where one may come, and is refused where none may
  pub goes_on : (go : Outcome Done) → may_add w.namespaces name ≡ Ok tt → if_new_space w name go ≡ go
  goes_on go e = both_pass is_new has_room go e

  pub stops : (go : Outcome Done) (r : Refusal) → may_add w.namespaces name ≡ Err r → if_new_space w name go ≡ Err r
  stops go r e = one_fails is_new has_room go r e

  pub free_name : may_add w.namespaces name ≡ Ok tt → namespace_named w name ≡ None
  free_name e = let a = then_ok is_new has_room tt e in none_is (namespace_named w name) (need_ok _ _ a.0 a.1)

  pub few_before : may_add w.namespaces name ≡ Ok tt → nat_lt (length w.namespaces) max_namespaces ≡ true
  few_before e = let a = then_ok is_new has_room tt e in need_ok _ _ tt a.2

-- the machine whose namespaces alone are others
module _ (old : Machine) (sound : IsSound old) (name : List ℕ) (up : ℕ) (spaces : SpacesState) (known : spaces.cells ≡ old.spaces.cells)
    (added : spaces.namespaces ≡ old.spaces.namespaces ++ record { name = name; parent = Some up } ∷ []) where
  abbrev pub grown : Machine
  grown = record old { spaces = spaces }

  abbrev later : World
  later = with_namespace (world_of old) name up

  pub grown_is : world_of grown ≡ later
  grown_is =
      ap (λ (s : List Namespace). world_by old.memory s (cells_of old.cells.items spaces.cells) old.graph.rows old.tasks old.next old.swaps) added
      ∙ ap (λ (cs : List SpaceCell). record later { cells = cells_of old.cells.items cs }) known

  pub grown_sound : IsCoherent later → IsSound grown
  grown_sound coherent = record {
    coherent = subst IsCoherent (sym grown_is) coherent;
    parts = record {
      joined = subst (λ (names : List SpaceCell). AreJoined old.cells.items names) (sym known) sound.joined;
      table = sound.table ∙ ap page_table (sym grown_is);
      base = sound.base;
      soft = sound.soft;
      sections = sound.sections;
      seals = sound.seals;
      patches = sound.patches;
      maps = sound.maps;
    };
    undo = sound.undo;
  }

  -- each cell stands in one of those that were there
  inside : (s : SpaceCell) → In s old.spaces.cells → s.ns < length old.spaces.namespaces
  inside s i =
      let w : World = world_of old in
      let x = In-map called w.cells s (subst (λ (cs : List SpaceCell). In s cs) (sym sound.joined.called) i) in
      subst (λ (y : SpaceCell). y.ns < length w.namespaces) (sym x.2)
      (ltb-true x.0.ns (length w.namespaces) (known_parts w x.0 (all-In (is_known_cell w) w.cells sound.coherent.ready.cells x.0 x.1)).ns)

  many : length spaces.namespaces ≡ length old.spaces.namespaces + 1
  many = ap length added ∙ length-append old.spaces.namespaces (record { name = name; parent = Some up } ∷ [])

  module _ (now : Machine) (same : IsSame grown now) where
    pub more_than_one : up < length old.spaces.namespaces → 1 < length now.spaces.namespaces
    more_than_one lt = let n = many in let m = ap length same.namespaces in omega (arith, lt, n, m)

    pub none_in_it : All (λ (s : SpaceCell). s.ns + 1 < length now.spaces.namespaces) now.spaces.cells
    none_in_it =
        In-All (λ (s : SpaceCell). s.ns + 1 < length now.spaces.namespaces) now.spaces.cells
        (λ s i. let lt = inside s (subst (λ (cs : List SpaceCell). In s cs) (same.known ∙ known) i) in let n = many in let m = ap length same.namespaces in omega (arith, lt, n, m))

    -- once it is taken away, the machine is as before
    pub gone_again : (left : SpacesState) → left.namespaces ≡ take (length now.spaces.namespaces - 1) now.spaces.namespaces → left.cells ≡ now.spaces.cells → IsSame old (record now { spaces = left })
    gone_again left namespaces cells = record {
      cells = same.cells;
      soft = same.soft;
      next = same.next;
      swaps = same.swaps;
      namespaces =
          let last : List Namespace = record { name = name; parent = Some up } ∷ [] in
          namespaces
          ∙ (ap (λ (s : List Namespace). take (length s - 1) s) (same.namespaces ∙ added)
          ∙ take_at old.spaces.namespaces last (length (old.spaces.namespaces ++ last) - 1) (let n = length-append old.spaces.namespaces last in omega (arith, n)));
      known = cells ∙ (same.known ∙ known);
      space = same.space;
      spare = same.spare;
      memory = same.memory;
      sections = same.sections;
      rows = same.rows;
      tasks = same.tasks;
    }
