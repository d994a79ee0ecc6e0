-- A command's answer, as the machine's parts give it, is the plain machine's.
use Rattle.std.proofs.Common.{◌≡◌, ◌≤◌, refl, sym, ◌∙◌, ap, ap₂, subst, arith, ℕ, List, [], length, Option, None, Some, map}
use Rattle.std.specs.Prelude.{All, Result, Ok, Err, decimal, not, true, unwrap_or}
use Rattle.cell_num.specs.Lists.{equals}
use Rattle.cell_num.proofs.Elements.{pairs-map}
use Rattle.cell_depot.specs.Files.{are_apart}
use Rattle.cell_script.specs.Script.{is_said}
use Rattle.cell_world.specs.declared.command.Command.{Command}
use Rattle.cell_world.specs.declared.fail.Fail.{Fail}
use Rattle.cell_world.specs.declared.fail.Fail.TheVariants.{Refused, OutOfMemory}
use Rattle.cell_world.specs.declared.file.File.{File}
use Rattle.cell_world.specs.declared.refusal.Refusal.{Refusal}
use Rattle.cell_world.specs.declared.refusal.Refusal.TheVariants.{Unknown}
use Rattle.cell_world.specs.declared.reply.Reply.{Reply}
use Rattle.cell_world.specs.declared.reply.Reply.TheVariants.{Dump as DumpDone}
use Rattle.cell_world.specs.Answer.{Done, done, present_cell, space_of, fresh_by}
use Rattle.cell_world.specs.Commands.DumpAllCommand.{next_dump_all}
use Rattle.cell_world.specs.Commands.DumpCommand.{next_dump}
use Rattle.cell_world.specs.Commands.FindCommand.{next_find}
use Rattle.cell_world.specs.Following.{Follows}
use Rattle.cell_world.specs.Gather.{Source, source_of}
use Rattle.cell_world.specs.Commands.LinkCommands.{next_deps, next_users}
use Rattle.cell_world.specs.Commands.MapCommand.{next_map}
use Rattle.cell_world.specs.Next.{outcome_of}
use Rattle.cell_world.specs.Running.Memory.{read}
use Rattle.cell_world.specs.Outcome.{Outcome, ◌>>=◌, found}
use Rattle.cell_world.specs.Commands.TaskCommands.{next_tasks}
use Rattle.cell_object.specs.Parts.{section_of}
use Rattle.cell_world.specs.Linked.Target.{start_of}
use Rattle.cell_world.specs.World.{World, Cell, key_of}
use Rattle.cell_machine.specs.declared.machine.Machine.{Machine}
use Rattle.cell_machine.specs.Does.{Answers, Counts, Does, Leaves, LeavesParts, Most, State as MachineState, answer_in, no_stack, patched_by, state_of as machine_state}
use Rattle.cell_machine.specs.Machine.{IsSound, world_of}
use Rattle.cell_machine.specs.Same.{IsSame}
use Rattle.cell_machine.proofs.Counts.{counts_stand}
use Rattle.cell_machine.proofs.Same.{maps_same, patches_same, sound_back, sound_same, world_back, world_same}
use Rattle.cell_machine.proofs.Unchanged.{same_itself}
use Rattle.cell_load.proofs.Sources.{sources_sound}
use Rattle.cell_num.specs.Limits.{max_file_bytes}
use Rattle.cell_origin_law.specs.Readings.{AreRead}
use Rattle.cell_origin_law.specs.Spelled.{AreNamed, IsSpelled}
use Rattle.cell_origin_law.proofs.Commands.{outcome_keeps}
use Rattle.cell_system.specs.Step.{IsStep, counts_of, state_of}

-- the reply, where there is one, tells of no cell and of no field
abbrev IsQuiet : Outcome Done → Type 0
IsQuiet (Ok d) = (fresh_by d.reply ≡ []) × (patched_by d.reply ≡ 0)
IsQuiet (Err refusal) = Unit {0}

bind_quiet : {X : Type 0} (a : Outcome X) (f : X → Outcome Done) → ((x : X) → IsQuiet (f x)) → IsQuiet (a >>= f)
bind_quiet (Ok x) f h = h x
bind_quiet (Err refusal) f h = tt

dump_quiet : (w : World) (cell section : ℕ) → IsQuiet (next_dump w cell section)
dump_quiet w cell section = bind_quiet (present_cell w cell) _ go
  where
    go : (c : Cell) → IsQuiet (found (section_of c.object section) (Unknown (decimal section)) >>= (λ s. done (DumpDone (key_of cell section) (start_of c.placed section) (unwrap_or (read w (start_of c.placed section) s.size) [])) w))
    go c = bind_quiet (found (section_of c.object section) (Unknown (decimal section))) _ (λ s. (refl, refl))

module _ (m : Machine) where
  state_same : (n : Machine) → IsSame m n → machine_state n ≡ machine_state m
  state_same n same =
      ap (λ (w : World). let s : MachineState = record { world = w; patches = n.memory.patches; maps = n.memory.maps } in s) (world_same m n same)
      ∙ ap₂ (λ patches maps. let s : MachineState = record { world = world_of m; patches = patches; maps = maps } in s) (patches_same m n same) (maps_same m n same)

  -- the machine that the parts are answers as its parts do
  leaves : (undone : Option Most) (refusal : Refusal) (n : Machine) → LeavesParts undone refusal m n → Leaves undone refusal (machine_state m) (machine_state n)
  leaves None refusal n same = state_same n same
  leaves (Some most) refusal n back = back.1

  answers : (said : Outcome Done) (counts : Counts) (result : Result Reply Fail) (n : Machine) → Does said counts m result n → Answers said counts (machine_state m) result (machine_state n)
  answers said counts (Ok reply) n h = h.is
  answers said counts (Err (Refused refusal)) n h = (h.0, leaves counts.undone refusal n h.1)
  answers said counts (Err OutOfMemory) n h = state_same n h

  sound_left : (undone : Option Most) (refusal : Refusal) (n : Machine) → IsSound m → LeavesParts undone refusal m n → IsSound n
  sound_left None refusal n sound same = sound_same m n same sound
  sound_left (Some most) refusal n sound back =
      let p = back.1.patches.1 in
      let q = back.1.maps.1 in
      sound_back m n back.0 sound (omega (arith, p)) (omega (arith, q))

  pub still_sound : (said : Outcome Done) (counts : Counts) (result : Result Reply Fail) (n : Machine) → IsSound m → Does said counts m result n → IsSound n
  still_sound said counts (Ok reply) n sound h = h.sound
  still_sound said counts (Err (Refused refusal)) n sound h = sound_left counts.undone refusal n sound h.1
  still_sound said counts (Err OutOfMemory) n sound h = sound_same m n h sound

  pub world_left : (undone : Option Most) (refusal : Refusal) (n : Machine) → LeavesParts undone refusal m n → world_of n ≡ world_of m
  world_left None refusal n same = world_same m n same
  world_left (Some most) refusal n back = world_back m n back.0

  module _ (files : List File) (command : Command) (n : Machine) where
    abbrev said : Outcome Done
    said = outcome_of (map source_of files) (world_of m) command

    abbrev counts : Counts
    counts = counts_of (map source_of files) (world_of m) command

    pub does : (result : Result Reply Fail) → Does said counts m result n → IsStep (state_of files m) command result (state_of files n)
    does result h = record { files = refl; answer = answers said counts result n h }

    -- what the machine has of its files
    abbrev Keeps : World → Type 0
    Keeps w = AreRead (map source_of files) w × IsSpelled w

    pub still_kept : (result : Result Reply Fail) → is_said command ≡ true → All (λ f. length f.bytes ≤ max_file_bytes) files → are_apart files ≡ true → AreNamed (map source_of files) → IsSound m → AreRead (map source_of files) (world_of m) → IsSpelled (world_of m)
        → Does said counts m result n → AreRead (map source_of files) (world_of n) × IsSpelled (world_of n)
    still_kept (Ok reply) told small apart named sound read spelled h =
        outcome_keeps (map source_of files) (sources_sound files small) (pairs-map (λ (f : Source) (g : Source). not (equals f.name g.name)) source_of files ∙ apart) named (world_of m) sound.coherent read spelled command told
        (answer_in (world_of n) reply) h.is.step
    still_kept (Err (Refused refusal)) told small apart named sound read spelled h = subst Keeps (sym (world_left counts.undone refusal n h.1)) (read, spelled)
    still_kept (Err OutOfMemory) told small apart named sound read spelled h = subst Keeps (sym (world_same m n h)) (read, spelled)

module _ (m : Machine) (sound : IsSound m) where
  -- what is shown changes nothing
  shown : (said : Outcome Done) → IsQuiet said → (result : Result Reply Fail) → Follows (answer_in (world_of m)) result said → Does said no_stack m result m
  shown said quiet (Ok reply) e =
      let of_reply : IsQuiet (let o : Outcome Done = Ok (answer_in (world_of m) reply) in o) = subst IsQuiet e quiet in counts_stand said m m reply sound sound e of_reply.0 of_reply.1 refl refl
  shown said quiet (Err (Refused refusal)) e = (e, same_itself m)
  shown said quiet (Err OutOfMemory) e = same_itself m

  pub shows_tasks : (result : Result Reply Fail) → Follows (answer_in (world_of m)) result (next_tasks (world_of m)) → Does (next_tasks (world_of m)) no_stack m result m
  shows_tasks = shown (next_tasks (world_of m)) (refl, refl)

  pub shows_find : (ns symbol : List ℕ) (result : Result Reply Fail) → Follows (answer_in (world_of m)) result (next_find (world_of m) ns symbol) → Does (next_find (world_of m) ns symbol) no_stack m result m
  shows_find ns symbol = shown (next_find (world_of m) ns symbol) (bind_quiet (space_of (world_of m) ns) _ (λ n. (refl, refl)))

  pub shows_deps : (cell : ℕ) (result : Result Reply Fail) → Follows (answer_in (world_of m)) result (next_deps (world_of m) cell) → Does (next_deps (world_of m) cell) no_stack m result m
  shows_deps cell = shown (next_deps (world_of m) cell) (bind_quiet (present_cell (world_of m) cell) _ (λ c. (refl, refl)))

  pub shows_users : (cell : ℕ) (result : Result Reply Fail) → Follows (answer_in (world_of m)) result (next_users (world_of m) cell) → Does (next_users (world_of m) cell) no_stack m result m
  shows_users cell = shown (next_users (world_of m) cell) (bind_quiet (present_cell (world_of m) cell) _ (λ c. (refl, refl)))

  pub shows_map : (result : Result Reply Fail) → Follows (answer_in (world_of m)) result (next_map (world_of m)) → Does (next_map (world_of m)) no_stack m result m
  shows_map = shown (next_map (world_of m)) (refl, refl)

  pub shows_dump : (cell section : ℕ) (result : Result Reply Fail) → Follows (answer_in (world_of m)) result (next_dump (world_of m) cell section) → Does (next_dump (world_of m) cell section) no_stack m result m
  shows_dump cell section = shown (next_dump (world_of m) cell section) (dump_quiet (world_of m) cell section)

  pub shows_dump_all : (result : Result Reply Fail) → Follows (answer_in (world_of m)) result (next_dump_all (world_of m)) → Does (next_dump_all (world_of m)) no_stack m result m
  shows_dump_all = shown (next_dump_all (world_of m)) (refl, refl)
