-- Copies of the cells of a namespace are the change that asks for them.
use Rattle.std.proofs.Common.{◌≡◌, sym, ◌∙◌, ap, ap₂, subst, arith, refl, ℕ, ◌<◌, List, [], ◌∷◌, length, length-append, map}
use Rattle.std.specs.Prelude.{All, Err, Ok, Result, Some}
use Rattle.cell_num.specs.Lists.{In}
use Rattle.cell_num.specs.declared.ids.CellId.{CellId}
use Rattle.cell_num.proofs.Elements.{In-All, In-map}
use Rattle.cell_world.specs.declared.fail.Fail.{Fail}
use Rattle.cell_world.specs.declared.fail.Fail.TheVariants.{Refused, OutOfMemory}
use Rattle.cell_world.specs.declared.file.File.{File}
use Rattle.cell_world.specs.declared.state.Namespace.{Namespace}
use Rattle.cell_world.specs.Change.{Change as ChangeSaid, Copy, copying, make_change}
use Rattle.cell_world.specs.Commands.Asked.{cells_in, copies_into}
use Rattle.cell_world.specs.Gather.{Source, source_of}
use Rattle.cell_world.specs.World.{Cell, World}
use Rattle.cell_machine.specs.declared.machine.Machine.{Machine}
use Rattle.cell_machine.specs.Machine.{world_of}
use Rattle.cell_gather.specs.declared.want.Want.{Want}
use Rattle.cell_change_law.specs.Cloned.{clone_of}
use Rattle.cell_change_law.specs.Sound.{IsSound}
use Rattle.cell_change_law.proofs.Asking.{clone_sound}
use Rattle.cell_change.specs.declared.made.Made.{Made}
use Rattle.cell_change.specs.declared.request.CellCopy.{CellCopy}
use Rattle.cell_change.specs.declared.request.Change.{Change}
use Rattle.cell_change.specs.Asking.{AreWantsOf, IsAsked, as_said}
use Rattle.cell_change.specs.Exchanged.{Changes, HasChanged, HasMade}
use Rattle.cell_change.specs.Transferring.{stacks_for}
use Rattle.cell_commands.specs.Cloning.{AsksCopies, CanCopy, HasCopies, HasMadeCopies, MakesCopies, copied, copy_to}
use Rattle.cell_commands.proofs.PlainSaid.{IsPlain, plain_is, refused_same}

pub same_copies : (to : ℕ) (cells : List Cell) → map {B = ℕ × ℕ} (λ c. (c.original.0, c.ns)) (map (copy_to to) cells) ≡ map {B = ℕ × ℕ} (λ c. (c.original.id.0, c.ns)) (copies_into to cells)
same_copies to [] = refl
same_copies to (c ∷ cells) = ap (λ (rest : List (ℕ × ℕ)). (c.id.0, to) ∷ rest) (same_copies to cells)

module _ (files : List File) (m : Machine) (from to : ℕ) (can : CanCopy (world_of m) from to) (copies : List CellCopy) (are : HasCopies to (cells_in (world_of m) from) copies) (change : Change) (asks : AsksCopies copies change) where
  abbrev sources : List Source
  sources = map source_of files

  abbrev w : World
  w = world_of m

  abbrev all : List Copy
  all = copies_into to (cells_in w from)

  abbrev c : ChangeSaid
  c = as_said change.options [] all

  plain : IsPlain change.options
  plain = record { reexport = asks.reexport; routines = asks.routines; budget = asks.budget; ending = asks.ending }

  change_is : c ≡ copying all
  change_is = plain_is [] all change.options plain

  -- what is sound of the machine with the namespace
  clone_is : clone_of can.before can.may.ns ≡ c
  clone_is =
      ap₂ (λ (t f : ℕ). copying (copies_into t (cells_in can.before f))) can.to_is can.from_is
      ∙ (ap (λ (u : World). copying (copies_into to (cells_in u from))) can.after
      ∙ sym change_is)

  pub good : IsSound sources w c
  good =
      subst (λ (x : ChangeSaid). IsSound sources w x) clone_is
      (subst (λ (u : World). IsSound sources u (clone_of can.before can.may.ns)) can.after (clone_sound sources can.before can.coherent can.sibling can.may))

  pub there : to < length w.namespaces
  there =
      subst (λ (u : World). to < length u.namespaces) can.after
      (let last : Namespace = record { name = can.sibling; parent = Some can.may.parent } in
      let n = length-append can.before.namespaces (last ∷ []) in
      let k = can.to_is in
      omega (arith, n, k))

  abbrev pub copies_asked : IsAsked sources w change
  copies_asked = record {
    wants = [];
    are = subst (λ (wants : List Want). AreWantsOf sources w [] wants) (sym asks.wants) tt;
    old = ap (map (λ (c : CellId). c.0)) asks.replaced;
    copies = all;
    copies_are = ap (map {B = ℕ × ℕ} (λ (c : CellCopy). (c.original.0, c.ns))) (asks.copies_are ∙ are) ∙ same_copies to (cells_in w from);
    originals = good.originals;
    spaces = In-All (λ (x : Copy). x.ns < length w.namespaces) all
        (λ x i. let y = In-map (λ (d : Cell). let copy : Copy = record { original = d; ns = to } in copy) (cells_in w from) x i in subst (λ (z : Copy). z.ns < length w.namespaces) (sym y.2) there);
    copied = good.copied;
  }

  by_change : copied files w from to ≡ make_change sources w c
  by_change = ap (make_change sources w) (sym change_is)

  were_made : (made : Made) (n : Machine) → HasMade files change m copies_asked made n → HasMadeCopies files m from to made n
  were_made made n has = record {
    said = has.said;
    is = by_change ∙ has.is;
    changed =
        subst (λ (stacks : ℕ). HasChanged has.said [] stacks m made n) (ap stacks_for asks.routines)
        (subst (λ (old : List CellId). HasChanged has.said old (stacks_for change.options.routines.now) m made n) asks.replaced has.changed);
  }

  pub makes_copies : (result : Result Made Fail) (n : Machine) → Changes files change m copies_asked result n → MakesCopies files m from to result n
  makes_copies (Ok made) n has = were_made made n has
  makes_copies (Err (Refused r)) n e = (by_change ∙ e.0, refused_same files m change copies_asked plain r n e)
  makes_copies (Err OutOfMemory) n e = e
