-- The regions of a cell class by class, and those of several cells one cell after another.
use Rattle.std.proofs.Common.{◌≡◌, refl, ◌∙◌, ap, subst, ℕ, List, [], ◌++◌}
use Rattle.std.specs.Prelude.{None, Option, Some}
use Rattle.std.specs.List.{cons_option}
use Rattle.cell_mem.specs.State.{MemoryState}
use Rattle.cell_world.specs.Linked.Relink.{class_start}
use Rattle.cell_world.specs.declared.layout.Class.TheVariants.{ReadOnly, Text, Writable}
use Rattle.cell_world.specs.Commands.UnloadCommand.{starts_of}
use Rattle.cell_world.specs.World.{Cell}
use Rattle.cell_unload.specs.Unmapped.{CanLeave, class_starts, without_regions}
use Rattle.cell_unload.proofs.Unmapping.{leave_parts, without_both}

one_by_one : (a b d : Option ℕ) → cons_option a (cons_option b (cons_option d [])) ≡ cons_option a [] ++ (cons_option b [] ++ cons_option d [])
one_by_one None None None = refl
one_by_one None None (Some z) = refl
one_by_one None (Some y) None = refl
one_by_one None (Some y) (Some z) = refl
one_by_one (Some x) None None = refl
one_by_one (Some x) None (Some z) = refl
one_by_one (Some x) (Some y) None = refl
one_by_one (Some x) (Some y) (Some z) = refl

pub by_class : (c : Cell) → starts_of c ≡ class_starts c Text ++ (class_starts c ReadOnly ++ class_starts c Writable)
by_class c = one_by_one (class_start c Text) (class_start c ReadOnly) (class_start c Writable)

-- the three classes of a cell, one after another
pub record InTurn (m : MemoryState) (c : Cell) : Type 0 where
  pub text : CanLeave m (class_starts c Text)
  pub read_only : CanLeave (without_regions m (class_starts c Text)) (class_starts c ReadOnly)
  pub writable : CanLeave (without_regions (without_regions m (class_starts c Text)) (class_starts c ReadOnly)) (class_starts c Writable)
  pub all : without_regions m (starts_of c) ≡ without_regions (without_regions (without_regions m (class_starts c Text)) (class_starts c ReadOnly)) (class_starts c Writable)

pub in_turn : (m : MemoryState) (c : Cell) → CanLeave m (starts_of c) → InTurn m c
in_turn m c h =
    let p = leave_parts (class_starts c Text) (class_starts c ReadOnly ++ class_starts c Writable) m (subst (λ (starts : List ℕ). CanLeave m starts) (by_class c) h) in
    let q = leave_parts (class_starts c ReadOnly) (class_starts c Writable) (without_regions m (class_starts c Text)) p.1 in
    record {
      text = p.0;
      read_only = q.0;
      writable = q.1;
      all = ap (without_regions m) (by_class c)
          ∙ (without_both (class_starts c Text) (class_starts c ReadOnly ++ class_starts c Writable) m
          ∙ without_both (class_starts c ReadOnly) (class_starts c Writable) (without_regions m (class_starts c Text)));
    }
