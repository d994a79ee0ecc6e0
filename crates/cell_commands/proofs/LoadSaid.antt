-- A load is the change that adds the one cell of its file, and answers by what that has made.
use Rattle.std.proofs.Common.{◌≡◌, ◌<◌, refl, sym, ap, ap₂, subst, inl, ◌∙◌, ℕ, ◌+◌, true, List, [], ◌∷◌, length, map}
use Rattle.std.specs.Prelude.{Err, None, Ok, Result}
use Rattle.std.proofs.lemmas.List.Elements.{All-nil}
use Rattle.cell_num.specs.Lists.{In}
use Rattle.cell_num.specs.declared.ids.CellId.{CellId}
use Rattle.cell_depot.specs.Files.{are_apart}
use Rattle.cell_depot.specs.Found.{IsOnly}
use Rattle.cell_world.specs.declared.fail.Fail.{Fail}
use Rattle.cell_world.specs.declared.fail.Fail.TheVariants.{Refused, OutOfMemory}
use Rattle.cell_world.specs.declared.file.File.{File}
use Rattle.cell_world.specs.declared.refusal.Refusal.TheVariants.{NoObject}
use Rattle.cell_world.specs.declared.reply.Reply.{Reply}
use Rattle.cell_world.specs.declared.reply.Reply.TheVariants.{Load as LoadDone}
use Rattle.cell_world.specs.Answer.{Done, done, ids, numbers_of, space_of}
use Rattle.cell_world.specs.Commands.Asked.{next_load}
use Rattle.cell_world.specs.Change.{Change as ChangeSaid, Copy, Made as MadeSaid, Want as Wanted, adding, make_change}
use Rattle.cell_world.specs.Following.{FailsAs}
use Rattle.cell_world.specs.Gather.{Source, depot_files, one_file, source_of}
use Rattle.cell_world.specs.Outcome.{Outcome, ◌>>=◌}
use Rattle.cell_world.specs.World.{World}
use Rattle.cell_machine.specs.declared.machine.Machine.{Machine}
use Rattle.cell_machine.specs.Does.{Does, new_runs, no_stack}
use Rattle.cell_machine.specs.Machine.{world_of}
use Rattle.cell_machine.specs.Same.{raised}
use Rattle.cell_machine.proofs.Unchanged.{same_itself}
use Rattle.cell_gather.specs.declared.want.Want.{Want}
use Rattle.cell_change.specs.declared.request.CellCopy.{CellCopy}
use Rattle.cell_change.specs.declared.request.Change.{Change}
use Rattle.cell_change.specs.declared.made.Made.{Made}
use Rattle.cell_change.specs.Asking.{AreWantsOf, IsAsked, IsWantOf, as_said}
use Rattle.cell_change.specs.Exchanged.{Changes, HasMade}
use Rattle.cell_change.specs.Transferring.{stacks_for}
use Rattle.cell_commands.specs.Adding.{Adds}
use Rattle.cell_commands.proofs.Files.{one_found, only_named}
use Rattle.cell_commands.proofs.PlainSaid.{IsPlain, plain_is, refused_same}

module _ (files : List File) (before : Machine) (name stem : List ℕ) where
  abbrev sources : List Source
  sources = map source_of files

  abbrev w : World
  w = world_of before

  abbrev LoadDoes : Result Reply Fail → Machine → Type 0
  LoadDoes result n = Does (next_load sources w name stem) no_stack before result n

  abbrev said : Outcome Done
  said = next_load sources w name stem

  abbrev chosen : List Source
  chosen = depot_files sources name stem

  abbrev only : Outcome Source
  only = one_file chosen (NoObject stem)

  abbrev answer : MadeSaid → Outcome Done
  answer made = done (LoadDone (ids (numbers_of made.fresh)) made.patched) made.world

  abbrev wanted_of : ℕ → Source → Wanted
  wanted_of number file = record { file = file; ns = number; replaces = None }

  abbrev made_of : ChangeSaid → Outcome Done
  made_of c = make_change sources w c >>= answer

  abbrev file_then : ℕ → Outcome Done
  file_then number = only >>= (λ file. made_of (adding (wanted_of number file ∷ [])))

  by_steps : said ≡ (space_of w name >>= file_then)
  by_steps = refl

  -- no such namespace
  pub space_failed : (fail : Fail) → FailsAs fail (space_of w name) → LoadDoes (Err fail) before
  space_failed (Refused r) e = (by_steps ∙ ap (λ (x : Outcome ℕ). x >>= file_then) e, same_itself before)
  space_failed OutOfMemory e = same_itself before

  module _ (number : ℕ) (there : space_of w name ≡ Ok number) where
    by_space : said ≡ file_then number
    by_space = by_steps ∙ ap (λ (x : Outcome ℕ). x >>= file_then) there

    -- no file, or several
    pub file_failed : (fail : Fail) → FailsAs fail only → LoadDoes (Err fail) before
    file_failed (Refused r) e = (by_space ∙ ap (λ (x : Outcome Source). x >>= (λ file. made_of (adding (wanted_of number file ∷ [])))) e, same_itself before)
    file_failed OutOfMemory e = same_itself before

    module _ (apart : are_apart files ≡ true) (inside : number < length w.namespaces) (f : File) (is : IsOnly files chosen f) (change : Change) (adds : Adds number f.name change) where
      abbrev wanted : Wanted
      wanted = wanted_of number (source_of f)

      pub one_want : IsWantOf sources w wanted (record { ns = number; file = f.name; replaces = None })
      one_want = record {
        file = only_named files apart chosen f is;
        ns = refl;
        there = inside;
        replaces = refl;
        present = λ c e. absurd (cc e);
        attached = λ c e. absurd (cc e);
      }

      abbrev pub asked : IsAsked sources w change
      asked = record {
        wants = wanted ∷ [];
        are = subst (λ (wants : List Want). AreWantsOf sources w (wanted ∷ []) wants) (sym adds.wants) (one_want, tt);
        old = ap (map (λ (c : CellId). c.0)) adds.replaced;
        copies = [];
        copies_are = ap (map (λ (c : CellCopy). (c.original.0, c.ns))) adds.copies;
        originals = All-nil (λ (c : Copy). In c.original w.cells);
        spaces = All-nil (λ (c : Copy). c.ns < length w.namespaces);
        copied = inl refl;
      }

      abbrev c : ChangeSaid
      c = as_said change.options asked.wants asked.copies

      plain : IsPlain change.options
      plain = record { reexport = adds.reexport; routines = adds.routines; budget = adds.budget; ending = adds.ending }

      change_is : c ≡ adding (wanted ∷ [])
      change_is = plain_is (wanted ∷ []) [] change.options plain

      by_change : said ≡ made_of c
      by_change =
          by_space
          ∙ (ap (λ (x : Outcome Source). x >>= (λ file. made_of (adding (wanted_of number file ∷ [])))) (one_found files chosen (NoObject stem) f is)
          ∙ ap made_of (sym change_is))

      -- where it is refused it has counted nothing
      pub load_failed : (fail : Fail) (n : Machine) → Changes files change before asked (Err fail) n → LoadDoes (Err fail) n
      load_failed (Refused r) n e = (by_change ∙ ap (λ (x : Outcome MadeSaid). x >>= answer) e.0, refused_same files before change asked plain r n e)
      load_failed OutOfMemory n e = e

      module _ (made : Made) (n : Machine) (has : HasMade files change before asked made n) where
        abbrev reply : Reply
        reply = LoadDone made.fresh made.patched

        pub load_done : LoadDoes (Ok reply) n
        load_done = record {
          sound = has.changed.sound;
          is = record {
            step =
                by_change
                ∙ (ap (λ (x : Outcome MadeSaid). x >>= answer) has.is
                ∙ (ap₂ (λ (fresh : List CellId) (patched : ℕ). done (LoadDone fresh patched) has.said.world) (sym has.changed.fresh) (sym has.changed.patched)
                ∙ ap (λ (u : World). done reply u) (sym has.changed.world)));
            patches = has.changed.patches;
            maps = has.changed.maps ∙ ap (λ (stacks : ℕ). raised before.memory.maps (new_runs reply (world_of n) + stacks)) (ap stacks_for adds.routines);
          };
        }
