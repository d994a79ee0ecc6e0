-- The machine with its objects, as a scene has it; and which of its entries can't be linked.
use Rattle.std.proofs.Common.{◌≡◌, sym, ◌∙◌, ap, subst, ℕ, ◌+◌, ◌<◌, ◌≤◌, List, ◌∷◌, length, get_or, drop, map, Err}
use Rattle.std.specs.Prelude.{Option, Some, None, Result, option_map}
use Rattle.std.proofs.lemmas.List.{drop_more, drop_all}
use Rattle.cell_num.specs.Lists.{or_else}
use Rattle.cell_object.specs.declared.object.Object.{Object}
use Rattle.cell_world.specs.World.{Cell, World}
use Rattle.cell_world.specs.declared.state.Namespace.{Namespace}
use Rattle.cell_world.specs.declared.state.NewCell.{NewCell}
use Rattle.cell_world.specs.declared.state.Target.{Target}
use Rattle.cell_audit.specs.Linking.{unlinked_in}
use Rattle.cell_described.specs.Describes.{cell_seen}
use Rattle.cell_described.specs.declared.cell.DescribedCell.{DescribedCell}
use Rattle.cell_link.specs.Linked.{IsLinked, first_unfit}
use Rattle.cell_link.specs.declared.fail.LinkFail.{LinkFail}
use Rattle.cell_link.specs.declared.fail.LinkFail.TheVariants.{Overflow}
use Rattle.cell_link.specs.declared.value.FieldValue.{FieldValue}
use Rattle.cell_relinked.specs.Entries.{AreEntries}
use Rattle.cell_relinked.specs.Fit.{machine}
use Rattle.cell_relinked.specs.Linking.{at_line, earlier, unlinked_among, world_in, seen_by}
use Rattle.cell_relinked.specs.Scene.{seen_in, world_of}
use Rattle.cell_relinked.specs.declared.entries.Entries.{Entries}
use Rattle.cell_relinked.specs.declared.ground.Ground.{Ground}
use Rattle.cell_relinked.specs.declared.scene.Scene.{Scene}
use Rattle.cell_relinked.proofs.Earlier.{unlinked_is}

-- what is found in the scene is found in the machine
module _ (P : World → Cell → Type 0) (s : Scene) (g : Ground) (objects : List Object) (c : DescribedCell) where
  pub as_seen : s.file.now ≡ g.file.now → s.base ≡ g.base → s.pages ≡ g.pages → s.namespaces.now ≡ g.namespaces.now → s.cells.now ≡ g.cells.now → s.objects.now ≡ objects
      → P (world_of s) (seen_in s c) → P (world_in g objects) (seen_by g objects c)
  as_seen file base pages namespaces cells os h =
      subst (λ (o : List Object). P (machine g.base g.pages g.namespaces.now (map (cell_seen g.file.now o) g.cells.now)) (cell_seen g.file.now o c)) os
      (subst (λ (cs : List DescribedCell). P (machine g.base g.pages g.namespaces.now (map (cell_seen g.file.now s.objects.now) cs)) (cell_seen g.file.now s.objects.now c)) cells
      (subst (λ (ns : List Namespace). P (machine g.base g.pages ns (map (cell_seen g.file.now s.objects.now) s.cells.now)) (cell_seen g.file.now s.objects.now c)) namespaces
      (subst (λ (n : ℕ). P (machine g.base n s.namespaces.now (map (cell_seen g.file.now s.objects.now) s.cells.now)) (cell_seen g.file.now s.objects.now c)) pages
      (subst (λ (n : ℕ). P (machine n s.pages s.namespaces.now (map (cell_seen g.file.now s.objects.now) s.cells.now)) (cell_seen g.file.now s.objects.now c)) base
      (subst (λ (f : List ℕ). P (machine s.base s.pages s.namespaces.now (map (cell_seen f s.objects.now) s.cells.now)) (cell_seen f s.objects.now c)) file h)))))

-- the first entry that can't be linked, by what linking answers
pub unlinked_by : (w : World) (c : Cell) (entries : Entries) (targets : List Target) (unfit : Option ℕ) → AreEntries w c entries → targets ≡ entries.targets.items
    → first_unfit c.placed targets ≡ unfit → earlier entries.lacking unfit ≡ unlinked_in w c
unlinked_by w c entries targets unfit are t u =
    unlinked_is w c entries.lacking unfit are.lacking (ap (first_unfit c.placed) (sym (t ∙ are.targets)) ∙ u)

pub overflow_at : (c : NewCell) (targets : List Target) (r : Result (List FieldValue) LinkFail) (entry : ℕ) → r ≡ Err (Overflow entry) → IsLinked c targets r → first_unfit c targets ≡ Some entry
overflow_at c targets r entry e h = subst (λ (s : Result (List FieldValue) LinkFail). IsLinked c targets s) e h

-- ---- cell by cell
module _ (w : World) (lines : DescribedCell → ℕ × Cell) (read xs : List DescribedCell) (same : read ≡ xs) (i : ℕ) (x : DescribedCell) (below : i < length read) (here : x ≡ get_or read i x)
    (all : Option (ℕ × ℕ)) (far : unlinked_among w (map lines (drop i xs)) ≡ all) where
  begins : drop i xs ≡ x ∷ drop (i + 1) xs
  begins =
      drop_more xs i x (subst (λ (ys : List DescribedCell). i < length ys) same below)
      ∙ ap (λ (y : DescribedCell). y ∷ drop (i + 1) xs) (sym (subst (λ (ys : List DescribedCell). x ≡ get_or ys i x) same here))

  one_cell : or_else (option_map (at_line (lines x).0) (unlinked_in w (lines x).1)) (unlinked_among w (map lines (drop (i + 1) xs))) ≡ all
  one_cell = ap (λ (ys : List DescribedCell). unlinked_among w (map lines ys)) (sym begins) ∙ far

  pub linked_here : (o : Option ℕ) → o ≡ unlinked_in w (lines x).1 → o ≡ None → unlinked_among w (map lines (drop (i + 1) xs)) ≡ all
  linked_here o is none = ap (λ (p : Option ℕ). or_else (option_map (at_line (lines x).0) p) (unlinked_among w (map lines (drop (i + 1) xs)))) (sym (sym is ∙ none)) ∙ one_cell

  pub unlinked_here : (o : Option ℕ) (entry : ℕ) → o ≡ unlinked_in w (lines x).1 → o ≡ Some entry → all ≡ Some ((lines x).0, entry)
  unlinked_here o entry is some = sym one_cell ∙ ap (λ (p : Option ℕ). or_else (option_map (at_line (lines x).0) p) (unlinked_among w (map lines (drop (i + 1) xs)))) (sym is ∙ some)

pub all_linked : (w : World) (lines : DescribedCell → ℕ × Cell) (xs : List DescribedCell) (i : ℕ) (all : Option (ℕ × ℕ)) → length xs ≤ i → unlinked_among w (map lines (drop i xs)) ≡ all → all ≡ None
all_linked w lines xs i all le far = sym far ∙ ap (λ (ys : List DescribedCell). unlinked_among w (map lines ys)) (drop_all i xs le)
