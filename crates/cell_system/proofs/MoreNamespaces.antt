-- The machine with one more namespace is what the command comes to, and sound.
use Rattle.std.proofs.Common.{◌≡◌, refl, sym, ◌∙◌, ap, subst, ℕ, List, [], ◌∷◌, ◌++◌, Some, Ok, Err}
use Rattle.cell_world.specs.declared.fail.Fail.{Fail}
use Rattle.cell_world.specs.declared.fail.Fail.TheVariants.{Refused, OutOfMemory}
use Rattle.cell_world.specs.declared.refusal.Refusal.{Refusal}
use Rattle.cell_world.specs.declared.refusal.Refusal.TheVariants.{Unknown}
use Rattle.cell_world.specs.declared.reply.Reply.TheVariants.{Ns}
use Rattle.cell_world.specs.Answer.{Done, done}
use Rattle.cell_world.specs.Coherent.{IsCoherent}
use Rattle.cell_world.specs.Following.{FailsAs}
use Rattle.cell_world.specs.Next.{answered_by}
use Rattle.cell_world.specs.Commands.NsCommand.{next_ns, with_namespace}
use Rattle.cell_world.specs.Outcome.{Outcome, found}
use Rattle.cell_world.specs.World.{World}
use Rattle.cell_lemmas.proofs.NextCoherent.{answered}
use Rattle.cell_lemmas.proofs.Naming.NamespaceAdded.{ns_coherent}
use Rattle.cell_lemmas.proofs.Binds.{bind_err, bind_is}
use Rattle.cell_space.specs.Spaces.{SpacesState, namespace_named}
use Rattle.cell_machine.specs.declared.machine.Machine.{Machine}
use Rattle.cell_machine.specs.Does.{Does, HasDone, no_stack}
use Rattle.cell_machine.specs.Machine.{IsSound, world_of}
use Rattle.cell_machine.specs.Namespaces.{may_add}
use Rattle.cell_machine.proofs.Counts.{counts_stand}
use Rattle.cell_machine.proofs.MoreNamespaces.{goes_on, grown, grown_is, grown_sound, stops}
use Rattle.cell_machine.proofs.Unchanged.{same_itself}

module _ (m : Machine) (name parent : List ℕ) where
  abbrev up_is : Outcome ℕ
  up_is = found (namespace_named m.spaces.namespaces parent) (Unknown parent)

  pub no_parent : (r : Refusal) → up_is ≡ Err r → next_ns (world_of m) name parent ≡ Err r
  no_parent r e = bind_err up_is _ r e

  pub may_not : (up : ℕ) (r : Refusal) → up_is ≡ Ok up → may_add m.spaces.namespaces name ≡ Err r → next_ns (world_of m) name parent ≡ Err r
  may_not up r e k = bind_is up_is _ up (Err r) e (stops (world_of m) name (done (Ns name) (with_namespace (world_of m) name up)) r k)

  pub comes_to : (up : ℕ) → up_is ≡ Ok up → may_add m.spaces.namespaces name ≡ Ok tt → next_ns (world_of m) name parent ≡ done (Ns name) (with_namespace (world_of m) name up)
  comes_to up e k = bind_is up_is _ up _ e (goes_on (world_of m) name (done (Ns name) (with_namespace (world_of m) name up)) k)

  pub parent_failed : (fail : Fail) → FailsAs fail up_is → Does (next_ns (world_of m) name parent) no_stack m (Err fail) m
  parent_failed (Refused refusal) e = (no_parent refusal e, same_itself m)
  parent_failed OutOfMemory e = same_itself m

  pub check_failed : (up : ℕ) → up_is ≡ Ok up → (fail : Fail) → FailsAs fail (may_add m.spaces.namespaces name) → Does (next_ns (world_of m) name parent) no_stack m (Err fail) m
  check_failed up e (Refused refusal) k = (may_not up refusal e k, same_itself m)
  check_failed up e OutOfMemory k = same_itself m

  pub memory_lacked : (fail : Fail) → fail ≡ OutOfMemory → Does (next_ns (world_of m) name parent) no_stack m (Err fail) m
  memory_lacked fail e = subst (λ (f : Fail). Does (next_ns (world_of m) name parent) no_stack m (Err f) m) (sym e) (same_itself m)

-- the machine whose namespaces alone are others
module _ (old : Machine) (sound : IsSound old) (name parent : List ℕ) (up : ℕ) (spaces : SpacesState) (known : spaces.cells ≡ old.spaces.cells)
    (added : spaces.namespaces ≡ old.spaces.namespaces ++ record { name = name; parent = Some up } ∷ [])
    (step : next_ns (world_of old) name parent ≡ done (Ns name) (with_namespace (world_of old) name up)) where
  abbrev later : World
  later = with_namespace (world_of old) name up

  abbrev new : Machine
  new = grown old sound name up spaces known added

  coherent : IsCoherent later
  coherent =
      subst (λ (o : Outcome Done). IsCoherent (answered_by (world_of old) o).world) step
      (answered (world_of old) (next_ns (world_of old) name parent) sound.coherent (λ d h. ns_coherent (world_of old) name parent d sound.coherent h))

  pub has_namespace : HasDone (next_ns (world_of old) name parent) 0 old (Ns name) new
  has_namespace =
      counts_stand (next_ns (world_of old) name parent) old new (Ns name) sound (grown_sound old sound name up spaces known added coherent)
      (step ∙ ap (done (Ns name)) (sym (grown_is old sound name up spaces known added))) refl refl refl refl
