-- A change by what its steps come to.
use Rattle.std.proofs.Common.{◌≡◌, ◌≤◌, refl, sym, ap, subst, ◌∙◌, ℕ, ◌+◌, true, List, map, length}
use Rattle.std.specs.Prelude.{All, Option, Some, None, Ok, Err, flat_map, option_map}
use Rattle.cell_num.specs.declared.ids.CellId.{CellId}
use Rattle.cell_num.specs.Limits.{max_file_bytes}
use Rattle.cell_num.specs.Lists.{In}
use Rattle.cell_num.proofs.Elements.{All-In, In-All, In-map, map-In}
use Rattle.cell_world.specs.declared.fail.Fail.{Fail}
use Rattle.cell_world.specs.declared.fail.Fail.TheVariants.{Refused, OutOfMemory}
use Rattle.cell_world.specs.declared.file.File.{File}
use Rattle.cell_world.specs.declared.refusal.Refusal.{Refusal}
use Rattle.cell_world.specs.Change.{Change as ChangeSaid, Made as MadeSaid, Plan as PlanSaid, first_held_old, made_by, make_change, plan_of, replaced, with_sequel}
use Rattle.cell_world.specs.Gather.{Source, source_of}
use Rattle.cell_world.specs.Outcome.{Outcome, ◌>>=◌, ◌>>◌, refused_by}
use Rattle.cell_world.specs.World.{Cell, Standing, World, is_attached}
use Rattle.cell_world.specs.declared.state.Standing.TheVariants.{Attached, Detached}
use Rattle.cell_mem.specs.State.{MemoryState}
use Rattle.cell_space.specs.Named.{cell_numbered}
use Rattle.cell_space.specs.declared.cell.SpaceCell.{SpaceCell}
use Rattle.cell_machine.specs.declared.machine.Machine.{Machine}
use Rattle.cell_machine.specs.Does.{HasRisen, Most, cell_shapes, counted_before}
use Rattle.cell_machine.specs.Machine.{IsSound, world_of}
use Rattle.cell_machine.specs.Same.{IsSame, raised, without_counts}
use Rattle.cell_machine.proofs.Same.{counts_same, maps_same, patches_same, same_counted, world_same}
use Rattle.cell_machine.proofs.States.{known_at}
use Rattle.cell_change_law.specs.Sound.{IsSound as IsSoundChange}
use Rattle.cell_change.specs.declared.request.Change.{Change}
use Rattle.cell_change.specs.declared.made.Made.{Made}
use Rattle.cell_change.specs.Asking.{IsAsked, as_said}
use Rattle.cell_change.specs.Counted.{most_by}
use Rattle.cell_change.specs.Exchanged.{Changes, Exchanges, HasExchanged, HasMade, ended, named_in}
use Rattle.cell_change.specs.OldCells.{AreThere, CanReturn, IsAside}
use Rattle.cell_change.specs.Planning.{IsBegun}
use Rattle.cell_change.specs.Transferring.{stacks_for}
use Rattle.cell_change.proofs.Decision.Wanting.{asked_sound}

attached_state : (standing : Standing) → is_attached standing ≡ true → standing ≡ Attached
attached_state Attached e = refl
attached_state (Detached k) e = cc

-- the old cells stand aside also where there is other room and counts have risen
pub aside_same : (before : Machine) (old : List CellId) (m n : Machine) → IsAside before old m → IsSame m (without_counts m n) → IsAside before old (without_counts before n)
aside_same before old m n aside same = record {
  cells = same.cells ∙ aside.cells;
  soft = same.soft ∙ aside.soft;
  next = same.next ∙ aside.next;
  swaps = same.swaps ∙ aside.swaps;
  namespaces = same.namespaces ∙ aside.namespaces;
  known = same.known ∙ aside.known;
  space = same.space ∙ aside.space;
  spare = same.spare;
  memory =
      ap (λ (s : MemoryState). let x : MemoryState = record s { patches = before.memory.patches; maps = before.memory.maps } in x) same.memory
      ∙ ap (λ (s : MemoryState). let x : MemoryState = record s { spare = same.spare; patches = before.memory.patches; maps = before.memory.maps } in x) aside.memory;
  sections = same.sections ∙ aside.sections;
  rows = same.rows ∙ aside.rows;
  tasks = same.tasks ∙ aside.tasks;
}

module _ (files : List File) (before : Machine) (sound : IsSound before) (asked : Change) (a : IsAsked (map source_of files) (world_of before) asked) where
  abbrev sources : List Source
  sources = map source_of files

  abbrev w : World
  w = world_of before

  -- what the definition is asked for
  abbrev c : ChangeSaid
  c = as_said asked.options a.wants a.copies

  good : IsSoundChange sources w c
  good = asked_sound sources w asked a

  -- the replaced cells are attached
  pub old_there : AreThere before.spaces.cells asked.replaced.items
  old_there = In-All (λ (id : CellId). option_map (λ (x : SpaceCell). x.state) (cell_numbered before.spaces.cells id.0) ≡ Some Attached) asked.replaced.items there
    where
      there : (id : CellId) → In id asked.replaced.items → option_map (λ (x : SpaceCell). x.state) (cell_numbered before.spaces.cells id.0) ≡ Some Attached
      there id i =
          let d = In-map (λ (x : Cell). x.id.0) (replaced c) id.0 (subst (λ (ns : List ℕ). In id.0 ns) a.old (map-In (λ (x : CellId). x.0) asked.replaced.items id i)) in
          ap (λ (n : ℕ). option_map (λ (x : SpaceCell). x.state) (cell_numbered before.spaces.cells n)) d.2
          ∙ (ap (option_map (λ (x : SpaceCell). x.state)) (known_at before sound d.0 (All-In (λ (x : Cell). In x w.cells) (replaced c) good.present d.0 d.1))
          ∙ ap (λ (state : Standing). let o : Option Standing = Some state in o) (attached_state d.0.standing (All-In (λ (x : Cell). is_attached x.standing ≡ true) (replaced c) good.attached d.0 d.1)))

  abbrev words : List (List ℕ)
  words = asked.options.routines.now

  abbrev said : Outcome MadeSaid
  said = make_change sources w c

  abbrev after_sequel : PlanSaid → World → Outcome MadeSaid
  after_sequel plan second = refused_by (first_held_old c second) >> Ok (made_by c plan second)

  abbrev after_plan : PlanSaid → Outcome MadeSaid
  after_plan plan = with_sequel c plan >>= after_sequel plan

  by_plan : said ≡ (plan_of sources w c >>= after_plan)
  by_plan = refl

  -- the plan and the machine after its routines
  abbrev both_then : PlanSaid → Outcome (PlanSaid × World)
  both_then plan = ended c plan >>= (λ second. Ok (plan, second))

  abbrev answer : PlanSaid × World → Outcome MadeSaid
  answer both = Ok (made_by c both.0 both.1)

  by_exchange : said ≡ ((plan_of sources w c >>= both_then) >>= answer)
  by_exchange = by_plan ∙ go (plan_of sources w c)
    where
      held : (plan : PlanSaid) (second : World) (x : Option Refusal)
          → (refused_by x >> answer (plan, second)) ≡ (((refused_by x >> (let y : Outcome World = Ok second in y)) >>= (λ z. let y : Outcome (PlanSaid × World) = Ok (plan, z) in y)) >>= answer)
      held plan second None = refl
      held plan second (Some r) = refl

      moved : (plan : PlanSaid) (x : Outcome World)
          → (x >>= after_sequel plan) ≡ (((x >>= (λ z. refused_by (first_held_old c z) >> (let y : Outcome World = Ok z in y))) >>= (λ z. let y : Outcome (PlanSaid × World) = Ok (plan, z) in y)) >>= answer)
      moved plan (Ok second) = held plan second (first_held_old c second)
      moved plan (Err r) = refl

      go : (x : Outcome PlanSaid) → (x >>= after_plan) ≡ ((x >>= both_then) >>= answer)
      go (Ok plan) = moved plan (with_sequel c plan)
      go (Err r) = refl

  abbrev most : Most
  most = most_by (plan_of sources w c) (stacks_for words)

  module _ (small : All (λ f. length f.bytes ≤ max_file_bytes) files) (m : Machine) (aside : IsAside before asked.replaced.items m) where
    abbrev pub begun : IsBegun files asked m
    begun = record { before = before; sound = sound; small = small; found = a; aside = aside }

    pub same_then : (fail : Fail) (n : Machine) → Exchanges files asked m begun (Err fail) n → IsSame m (without_counts m n)
    same_then (Refused r) n e = e.1.0
    same_then OutOfMemory n e = counts_same m n e

    -- the old cells may be taken back
    pub can_return : (n : Machine) → IsSame m (without_counts m n) → CanReturn n asked.replaced.items
    can_return n same = record { before = before; sound = sound; there = old_there; aside = aside_same before asked.replaced.items m n aside same }

    -- they were
    pub taken_back : (fail : Fail) (n last : Machine) → Exchanges files asked m begun (Err fail) n → IsSame before (without_counts before last) → last.memory ≡ n.memory → Changes files asked before a (Err fail) last
    taken_back (Refused r) n last e same memory = (
      by_exchange ∙ ap (λ (x : Outcome (PlanSaid × World)). x >>= answer) e.0,
      (
        same,
        record {
          world = world_same before (without_counts before last) same;
          patches = subst (λ (s : MemoryState). HasRisen (counted_before r most).patches before.memory.patches s.patches) (sym memory)
              (subst (λ (k : ℕ). HasRisen (counted_before r most).patches k n.memory.patches) (ap (λ (s : MemoryState). s.patches) aside.memory) e.1.1.patches);
          maps = subst (λ (s : MemoryState). HasRisen (counted_before r most).maps before.memory.maps s.maps) (sym memory)
              (subst (λ (k : ℕ). HasRisen (counted_before r most).maps k n.memory.maps) (ap (λ (s : MemoryState). s.maps) aside.memory) e.1.1.maps);
        },
      ),
    )
    taken_back OutOfMemory n last e same memory =
        same_counted before last same
        (ap (λ (s : MemoryState). s.patches) memory ∙ (patches_same m n e ∙ ap (λ (s : MemoryState). s.patches) aside.memory))
        (ap (λ (s : MemoryState). s.maps) memory ∙ (maps_same m n e ∙ ap (λ (s : MemoryState). s.maps) aside.memory))

    pub all_done : (made : Made) (n : Machine) → HasExchanged files asked m begun made n → HasMade files asked before a made n
    all_done made n x = record {
      said = made_by c x.plan x.second;
      is = by_exchange ∙ ap (λ (y : Outcome (PlanSaid × World)). y >>= answer) x.is;
      changed = record {
        sound = x.changed.sound;
        fresh = x.changed.fresh;
        patched = x.changed.patched;
        removed = x.changed.removed;
        aside = x.changed.aside;
        world = x.changed.world;
        patches = x.changed.patches ∙ ap (λ (s : MemoryState). raised s.patches made.patched) aside.memory;
        maps = x.changed.maps ∙ ap (λ (s : MemoryState). raised s.maps (length (flat_map cell_shapes (named_in made.fresh (world_of n))) + stacks_for words)) aside.memory;
      };
    }
