-- The regions of new cells, put in among the others, and the page table with them.
use Rattle.std.proofs.Common.{◌≡◌, refl, sym, ◌∙◌, ap, arith, ℕ, suc, ◌+◌, ◌*◌, Bool, true, false, cond, ◌||◌, ◌&&◌, List, [], ◌∷◌, ◌++◌, map, length}
use Rattle.std.specs.Prelude.{fold, nat_le, nat_lt}
use Rattle.std.specs.List.{list_any}
use Rattle.std.proofs.lemmas.List.Sums.{fold-append}
use Rattle.cell_num.specs.Lists.{upto}
use Rattle.cell_object.specs.declared.object.Object.{Object}
use Rattle.cell_object.specs.declared.object.Section.{Section as ObjectSection}
use Rattle.cell_world.specs.World.{World, Region}
use Rattle.cell_world.specs.Coherent.{Shape, shape_of}
use Rattle.cell_world.specs.Running.Memory.{covers}
use Rattle.cell_world.specs.Placed.Place.{is_taken, page_table, with_region}
use Rattle.cell_world.specs.Placed.Layout.{sections_in}
use Rattle.cell_world.specs.declared.layout.Starts.{Starts}
use Rattle.cell_world.specs.declared.layout.Class.TheVariants.{Text, ReadOnly, Writable}
use Rattle.cell_world.specs.declared.layout.Class.{Class}
use Rattle.cell_lemmas.specs.Loads.{all_regions, regions_at, run_region, with_all, with_class, with_classes, with_run_of}
use Rattle.cell_num.proofs.Elements.{map_same}

-- regions put in one after another
abbrev pub put : List Region → List Region → List Region
put rs new = fold (λ rs r. with_region r rs) rs new

puts : (xs ys rs : List Region) → put rs (xs ++ ys) ≡ put (put rs xs) ys
puts xs ys rs = fold-append (λ rs r. with_region r rs) rs xs ys

one_put : (start : ℕ) (class : Class) (ss : List ObjectSection) (rs : List Region) → put rs (run_region start class ss) ≡ with_run_of start class ss rs
one_put start class [] rs = refl
one_put start class (s ∷ rest) rs = refl

classes_put : (starts : Starts) (o : Object) (rs : List Region) → put rs (regions_at starts o) ≡ with_classes starts o rs
classes_put starts o rs =
    let text : List Region = run_region starts.text Text (sections_in Text o) in
    let read_only : List Region = run_region starts.read_only ReadOnly (sections_in ReadOnly o) in
    let writable : List Region = run_region starts.writable Writable (sections_in Writable o) in
    puts (text ++ read_only) writable rs
    ∙ (ap (λ (xs : List Region). put xs writable) (puts text read_only rs)
    ∙ (ap (λ (xs : List Region). put (put xs read_only) writable) (one_put starts.text Text (sections_in Text o) rs)
    ∙ (ap (λ (xs : List Region). put xs writable) (one_put starts.read_only ReadOnly (sections_in ReadOnly o) (with_class starts.text Text o rs))
    ∙ one_put starts.writable Writable (sections_in Writable o) (with_class starts.read_only ReadOnly o (with_class starts.text Text o rs)))))

-- the regions of all objects
pub all_put : (starts : List Starts) (objects : List Object) (rs : List Region) → put rs (all_regions starts objects) ≡ with_all starts objects rs
all_put [] objects rs = refl
all_put (s ∷ starts) [] rs = refl
all_put (s ∷ starts) (o ∷ objects) rs =
    puts (regions_at s o) (all_regions starts objects) rs
    ∙ (ap (λ (xs : List Region). put xs (all_regions starts objects)) (classes_put s o rs)
    ∙ all_put starts objects (with_classes s o rs))

put_longer : (r : Region) (rs : List Region) → length (with_region r rs) ≡ length rs + 1
put_longer r [] = refl
put_longer r (s ∷ rs) = go (nat_lt r.start s.start) (put_longer r rs)
  where
    go : (b : Bool) → length (with_region r rs) ≡ length rs + 1 → length (cond b (r ∷ s ∷ rs) (s ∷ with_region r rs)) ≡ suc (length rs) + 1
    go true h = omega arith
    go false h = omega (arith, h)

pub puts_longer : (new rs : List Region) → length (put rs new) ≡ length rs + length new
puts_longer [] rs = omega arith
puts_longer (r ∷ new) rs = let a = puts_longer new (with_region r rs) in let b = put_longer r rs in omega (arith, a, b)

-- which pages are taken is seen from the shapes of regions
abbrev shape_covers : ℕ → Shape → Bool
shape_covers a s = nat_le s.start a && nat_lt a (s.start + s.size)

covered_by : (a : ℕ) (rs : List Region) → list_any (λ r. covers r a) rs ≡ list_any (shape_covers a) (map shape_of rs)
covered_by a [] = refl
covered_by a (r ∷ rs) = ap (λ b. covers r a || b) (covered_by a rs)

pub table_by_shapes : (u v : World) → u.base ≡ v.base → u.pages ≡ v.pages → map shape_of u.regions ≡ map shape_of v.regions → page_table u ≡ page_table v
table_by_shapes u v base pages shapes =
    map_same (is_taken u) (is_taken v) (upto u.pages) (λ q k.
    covered_by (u.base + 4096 * q) u.regions
    ∙ (ap (list_any (shape_covers (u.base + 4096 * q))) shapes
    ∙ (sym (covered_by (u.base + 4096 * q) v.regions) ∙ ap (λ b. list_any (λ r. covers r (b + 4096 * q)) v.regions) base)))
    ∙ ap (λ n. map (is_taken v) (upto n)) pages
