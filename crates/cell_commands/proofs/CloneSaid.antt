-- A clone adds a namespace, and is the change that copies cells into it; where that is refused, the namespace goes again.
use Rattle.std.proofs.Common.{◌≡◌, sym, ◌∙◌, ap, ap₂, subst, refl, ℕ, ◌<◌, ◌+◌, ◌-◌, List, [], ◌∷◌, ◌++◌, length, map, take}
use Rattle.std.specs.Prelude.{All, Err, Ok, Result, Some}
use Rattle.cell_num.specs.declared.ids.CellId.{CellId}
use Rattle.cell_world.specs.declared.fail.Fail.{Fail}
use Rattle.cell_world.specs.declared.fail.Fail.TheVariants.{Refused, OutOfMemory}
use Rattle.cell_world.specs.declared.file.File.{File}
use Rattle.cell_world.specs.declared.refusal.Refusal.TheVariants.{NoParent}
use Rattle.cell_world.specs.declared.reply.Reply.{Reply}
use Rattle.cell_world.specs.declared.reply.Reply.TheVariants.{Clone as CloneDone}
use Rattle.cell_world.specs.declared.state.Namespace.{Namespace}
use Rattle.cell_world.specs.Answer.{Done, done, ids, numbers_of, space_of}
use Rattle.cell_world.specs.Change.{Made as MadeSaid, copying, make_change}
use Rattle.cell_world.specs.Commands.Asked.{cells_in, copies_into, next_clone, parent_of}
use Rattle.cell_world.specs.Commands.NsCommand.{if_new_space, with_namespace}
use Rattle.cell_world.specs.Following.{FailsAs}
use Rattle.cell_world.specs.Gather.{Source, source_of}
use Rattle.cell_world.specs.Outcome.{Outcome, ◌>>=◌, found}
use Rattle.cell_world.specs.World.{World}
use Rattle.cell_lemmas.proofs.Outcomes.{found_ok}
use Rattle.cell_lemmas.proofs.Naming.NamespaceAdded.{coherent_after}
use Rattle.cell_space.specs.declared.cell.SpaceCell.{SpaceCell}
use Rattle.cell_space.specs.Spaces.{SpacesState}
use Rattle.cell_machine.specs.declared.machine.Machine.{Machine}
use Rattle.cell_machine.specs.Does.{Does, HasDone, no_stack}
use Rattle.cell_machine.specs.Machine.{IsSound, world_of}
use Rattle.cell_machine.specs.Namespaces.{may_add}
use Rattle.cell_machine.specs.Same.{IsSame}
use Rattle.cell_machine.proofs.MoreNamespaces.{few_before, free_name, goes_on, gone_again, grown, grown_is, grown_sound, more_than_one, none_in_it, stops}
use Rattle.cell_machine.proofs.Unchanged.{same_itself}
use Rattle.cell_change_law.specs.Cloned.{MayClone}
use Rattle.cell_change.specs.declared.made.Made.{Made}
use Rattle.cell_commands.specs.Cloning.{CanCopy, HasMadeCopies, MakesCopies, copied}

-- all was looked up, and the namespace was added: these are the spaces then
pub record HasAdded (before : Machine) (name sibling : List ℕ) (spaces : SpacesState) : Type 0 where
  pub sound : IsSound before
  pub from : ℕ
  pub named : space_of (world_of before) name ≡ Ok from
  pub there : from < length before.spaces.namespaces
  pub up : ℕ
  pub is_up : found (parent_of (world_of before) from) (NoParent name) ≡ Ok up
  pub below : up < length before.spaces.namespaces
  pub may : may_add before.spaces.namespaces sibling ≡ Ok tt
  pub known : spaces.cells ≡ before.spaces.cells
  pub added : spaces.namespaces ≡ before.spaces.namespaces ++ record { name = sibling; parent = Some up } ∷ []

abbrev pub all_seen : (before : Machine) (name sibling : List ℕ) → IsSound before
    → (from : ℕ) → space_of (world_of before) name ≡ Ok from → from < length before.spaces.namespaces
    → (up : ℕ) → found (parent_of (world_of before) from) (NoParent name) ≡ Ok up → up < length before.spaces.namespaces
    → may_add before.spaces.namespaces sibling ≡ Ok tt
    → (own : List ℕ) → own ≡ sibling → (spaces : SpacesState) → spaces.cells ≡ before.spaces.cells → spaces.namespaces ≡ before.spaces.namespaces ++ record { name = own; parent = Some up } ∷ []
    → HasAdded before name sibling spaces
all_seen before name sibling sound from named there up is_up below may own same spaces known added = record {
  sound = sound;
  from = from;
  named = named;
  there = there;
  up = up;
  is_up = is_up;
  below = below;
  may = may;
  known = known;
  added = added ∙ ap (λ (own : List ℕ). before.spaces.namespaces ++ (let s : Namespace = record { name = own; parent = Some up } in s) ∷ []) same;
}

module _ (files : List File) (before : Machine) (name sibling : List ℕ) where
  abbrev sources : List Source
  sources = map source_of files

  abbrev w : World
  w = world_of before

  abbrev said : Outcome Done
  said = next_clone sources w name sibling

  abbrev CloneDoes : Result Reply Fail → Machine → Type 0
  CloneDoes result n = Does said no_stack before result n

  abbrev answer : MadeSaid → Outcome Done
  answer made = done (CloneDone sibling (ids (numbers_of made.fresh)) made.patched) made.world

  abbrev made_in : ℕ → ℕ → Outcome Done
  made_in from up = make_change sources (with_namespace w sibling up) (copying (copies_into (length w.namespaces) (cells_in w from))) >>= answer

  abbrev up_of : ℕ → Outcome ℕ
  up_of from = found (parent_of w from) (NoParent name)

  abbrev up_then : ℕ → ℕ → Outcome Done
  up_then from up = if_new_space w sibling (made_in from up)

  abbrev space_then : ℕ → Outcome Done
  space_then from = up_of from >>= up_then from

  by_steps : said ≡ (space_of w name >>= space_then)
  by_steps = refl

  pub memory_lacked : (fail : Fail) → fail ≡ OutOfMemory → (n : Machine) → IsSame before n → CloneDoes (Err fail) n
  memory_lacked fail e n same = subst (λ (f : Fail). CloneDoes (Err f) n) (sym e) same

  -- no such namespace
  pub space_failed : (fail : Fail) → FailsAs fail (space_of w name) → CloneDoes (Err fail) before
  space_failed (Refused r) e = (by_steps ∙ ap (λ (x : Outcome ℕ). x >>= space_then) e, same_itself before)
  space_failed OutOfMemory e = same_itself before

  module _ (from : ℕ) (named : space_of w name ≡ Ok from) where
    by_space : said ≡ space_then from
    by_space = by_steps ∙ ap (λ (x : Outcome ℕ). x >>= space_then) named

    -- it has no parent
    pub parent_failed : (fail : Fail) → FailsAs fail (up_of from) → CloneDoes (Err fail) before
    parent_failed (Refused r) e = (by_space ∙ ap (λ (x : Outcome ℕ). x >>= up_then from) e, same_itself before)
    parent_failed OutOfMemory e = same_itself before

    module _ (up : ℕ) (is_up : up_of from ≡ Ok up) where
      by_parent : said ≡ up_then from up
      by_parent = by_space ∙ ap (λ (x : Outcome ℕ). x >>= up_then from) is_up

      -- none may come
      pub check_failed : (fail : Fail) → FailsAs fail (may_add w.namespaces sibling) → CloneDoes (Err fail) before
      check_failed (Refused r) e = (by_parent ∙ stops w sibling (made_in from up) r e, same_itself before)
      check_failed OutOfMemory e = same_itself before

  module _ (spaces : SpacesState) (x : HasAdded before name sibling spaces) where
    abbrev to : ℕ
    to = length before.spaces.namespaces

    abbrev with_it : Machine
    with_it = grown before x.sound sibling x.up spaces x.known x.added

    with_is : world_of with_it ≡ with_namespace w sibling x.up
    with_is = grown_is before x.sound sibling x.up spaces x.known x.added

    pub with_sound : IsSound with_it
    with_sound =
        grown_sound before x.sound sibling x.up spaces x.known x.added
        (coherent_after w x.sound.coherent sibling x.up x.below (free_name w sibling x.may) (few_before w sibling x.may))

    abbrev may_clone : MayClone w sibling
    may_clone = record {
      ns = x.from;
      parent = x.up;
      there = x.there;
      up = found_ok (parent_of w x.from) (NoParent name) x.up x.is_up;
      free = free_name w sibling x.may;
      room = few_before w sibling x.may;
    }

    pub can_copy : CanCopy (world_of with_it) x.from to
    can_copy = record {
      before = w;
      coherent = x.sound.coherent;
      sibling = sibling;
      may = may_clone;
      from_is = refl;
      to_is = refl;
      after = sym with_is;
    }

    by_copies : said ≡ (copied files (world_of with_it) x.from to >>= answer)
    by_copies =
        by_parent x.from x.named x.up x.is_up
        ∙ (goes_on w sibling (made_in x.from x.up) x.may
        ∙ ap (λ (u : World). copied files u x.from to >>= answer) (sym with_is))

    -- they weren't made
    module _ (fail : Fail) (n : Machine) (e : MakesCopies files with_it x.from to (Err fail) n) where
      same_then : IsSame with_it n
      same_then = go fail e
        where
          go : (fail : Fail) → MakesCopies files with_it x.from to (Err fail) n → IsSame with_it n
          go (Refused r) k = k.1
          go OutOfMemory k = k

      pub more_there : 1 < length n.spaces.namespaces
      more_there = more_than_one before x.sound sibling x.up spaces x.known x.added n same_then x.below

      pub none_inside : All (λ (s : SpaceCell). s.ns + 1 < length n.spaces.namespaces) n.spaces.cells
      none_inside = none_in_it before x.sound sibling x.up spaces x.known x.added n same_then

      -- so the namespace goes again
      pub was_refused : (left : SpacesState) → left.namespaces ≡ take (length n.spaces.namespaces - 1) n.spaces.namespaces → left.cells ≡ n.spaces.cells → CloneDoes (Err fail) (record n { spaces = left })
      was_refused left namespaces cells = go fail e
        where
          as_before : IsSame before (record n { spaces = left })
          as_before = gone_again before x.sound sibling x.up spaces x.known x.added n same_then left namespaces cells

          go : (fail : Fail) → MakesCopies files with_it x.from to (Err fail) n → CloneDoes (Err fail) (record n { spaces = left })
          go (Refused r) k = (by_copies ∙ ap (λ (o : Outcome MadeSaid). o >>= answer) k.0, as_before)
          go OutOfMemory k = as_before

    module _ (made : Made) (n : Machine) (has : HasMadeCopies files with_it x.from to made n) where
      abbrev reply : Reply
      reply = CloneDone sibling made.fresh made.patched

      pub was_cloned : HasDone said 0 before reply n
      was_cloned = record {
        sound = has.changed.sound;
        is = record {
          step =
              by_copies
              ∙ (ap (λ (o : Outcome MadeSaid). o >>= answer) has.is
              ∙ (ap₂ (λ (fresh : List CellId) (patched : ℕ). done (CloneDone sibling fresh patched) has.said.world) (sym has.changed.fresh) (sym has.changed.patched)
              ∙ ap (λ (u : World). done reply u) (sym has.changed.world)));
          patches = has.changed.patches;
          maps = has.changed.maps;
        };
      }
