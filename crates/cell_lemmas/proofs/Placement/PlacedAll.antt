-- Placing cells keeps regions in the space and apart, and changes nothing but regions and places.
use Rattle.std.proofs.Common.{◌≡◌, refl, sym, ◌∙◌, ap, subst, arith, ℕ, ◌≤◌, ◌<◌, ◌⊎◌, inl, inr, List, [], ◌∷◌, map, length, Ok}
use Rattle.std.specs.Prelude.{fold, ◌/◌, ◌%◌}
use Rattle.cell_object.specs.declared.object.Object.{Object}
use Rattle.cell_object.specs.declared.object.Section.{Section as ObjectSection}
use Rattle.cell_world.specs.World.{World, Cell, Region}
use Rattle.cell_world.specs.Placed.Layout.{sections_in, image_of, laid_out, permission_of}
use Rattle.cell_world.specs.declared.layout.Starts.{Starts}
use Rattle.cell_world.specs.declared.layout.Class.TheVariants.{Text, ReadOnly, Writable}
use Rattle.cell_world.specs.declared.layout.Class.{Class}
use Rattle.cell_world.specs.Placed.Place.{Placing, with_run, start_of_run, place_sections, place_class, with_places, place_cell, place_all}
use Rattle.cell_world.specs.Coherent.{Shape, with_shape}
use Rattle.cell_world.specs.Outcome.{Outcome, each}
use Rattle.std.proofs.lemmas.Bool.{cases_lt}
use Rattle.cell_num.specs.Lists.{In}
use Rattle.cell_lemmas.proofs.Outcomes.{bind_ok}
use Rattle.cell_lemmas.proofs.Naming.Appended.{ok_same}
use Rattle.cell_lemmas.proofs.Placement.Places.{Spaced, spaced_more, image_pages, shapes_swap}
use Rattle.cell_lemmas.proofs.Naming.Renamed.{bare, bare_with_places}

-- what each step keeps, all keep
pub each_keeps : {X A : Type 0} (P : X → Type 0) (f : X → A → Outcome X) → ((x : X) (a : A) (y : X) → f x a ≡ Ok y → P x → P y) → (items : List A) (x y : X) → each f x items ≡ Ok y → P x → P y
each_keeps P f s [] x y h p = subst P (ok_same x y h) p
each_keeps P f s (a ∷ items) x y h p = let b = bind_ok (f x a) (λ z. each f z items) y h in each_keeps P f s items b.0 y b.2 (s x a b.0 b.1 p)

-- regions stand as they should, and all but regions and places is as in v
pub record Placed (v w : World) : Type 0 where
  pub spaced : Spaced w
  pub cells : map bare w.cells ≡ map bare v.cells
  pub rest : record w { regions = v.regions; cells = v.cells } ≡ v

sections_placed : (w : World) (class : Class) (sections : List ObjectSection) (p : Placing) → place_sections w class sections ≡ Ok p → (v : World) → Placed v w → Placed v p.world
sections_placed w class [] p h v k = subst (λ (x : Placing). Placed v x.world) (ok_same _ p h) k
sections_placed w class (s ∷ rest) p h v k =
    let n : (0 < length (image_of (s ∷ rest))) × (length (image_of (s ∷ rest)) % 4096 ≡ 0) = image_pages (laid_out [] (s ∷ rest)) in
    let b = bind_ok (start_of_run w (length (image_of (s ∷ rest)) / 4096)) _ p h in
    let r : Region = record { start = b.0; permission = permission_of class; bytes = image_of (s ∷ rest) } in
    subst (λ (x : Placing). Placed v x.world) (ok_same (with_run w class (s ∷ rest) b.0) p b.2)
    (record { spaced = spaced_more w r b.1 n.0 n.1 k.spaced; cells = k.cells; rest = k.rest })

pub class_placed : (v w : World) (class : Class) (object : Object) (p : Placing) → place_class w class object ≡ Ok p → Placed v w → Placed v p.world
class_placed v w class object p h k = sections_placed w class (sections_in class object) p h v k

bare_all : (number : ℕ) (starts : Starts) (cells : List Cell) → map bare (map (with_places number starts) cells) ≡ map bare cells
bare_all number starts [] = refl
bare_all number starts (d ∷ cells) = let a : bare (with_places number starts d) ≡ bare d = bare_with_places number starts d in let b : map bare (map (with_places number starts) cells) ≡ map bare cells = bare_all number starts cells in cc

-- the runs of the three classes of a cell, one after the other
pub record CellRuns (w : World) (c : Cell) (w' : World) : Type 0 where
  pub text : Placing
  pub read_only : Placing
  pub writable : Placing
  pub first : place_class w Text c.object ≡ Ok text
  pub second : place_class text.world ReadOnly c.object ≡ Ok read_only
  pub third : place_class read_only.world Writable c.object ≡ Ok writable
  pub is : record writable.world { cells = map (with_places c.id.0 (record { text = text.start; read_only = read_only.start; writable = writable.start })) w.cells } ≡ w'

pub cell_runs : (w : World) (c : Cell) (w' : World) → place_cell w c ≡ Ok w' → CellRuns w c w'
cell_runs w c w' h =
    let a = bind_ok (place_class w Text c.object) _ w' h in
    let b = bind_ok (place_class a.0.world ReadOnly c.object) _ w' a.2 in
    let d = bind_ok (place_class b.0.world Writable c.object) _ w' b.2 in
    record { text = a.0; read_only = b.0; writable = d.0; first = a.1; second = b.1; third = d.1; is = ok_same _ w' d.2 }

pub cell_placed : (v w : World) (c : Cell) (w' : World) → place_cell w c ≡ Ok w' → Placed v w → Placed v w'
cell_placed v w c w' h k =
    let r : CellRuns w c w' = cell_runs w c w' h in
    let p : Placed v r.text.world = class_placed v w Text c.object r.text r.first k in
    let q : Placed v r.read_only.world = class_placed v r.text.world ReadOnly c.object r.read_only r.second p in
    let t : Placed v r.writable.world = class_placed v r.read_only.world Writable c.object r.writable r.third q in
    subst (Placed v) r.is (record {
      spaced = record { in_space = t.spaced.in_space; apart = t.spaced.apart };
      cells = bare_all c.id.0 (record { text = r.text.start; read_only = r.read_only.start; writable = r.writable.start }) w.cells ∙ k.cells;
      rest = t.rest;
    })

pub all_placed : (v : World) (cells : List Cell) (w' : World) → Spaced v → place_all v cells ≡ Ok w' → Placed v w'
all_placed v cells w' s h = each_keeps (Placed v) place_cell (λ w c w' e k. cell_placed v w c w' e k) cells v w' h (record { spaced = s; cells = refl; rest = refl })

-- shapes of other starts may be put in before or after
abbrev pub Put : List Shape → List Shape → List Shape
Put acc xs = fold (λ shapes s. with_shape s shapes) acc xs

swap_any : (s t : Shape) (xs : List Shape) → (s.start ≡ t.start → ⊥) → with_shape s (with_shape t xs) ≡ with_shape t (with_shape s xs)
swap_any s t xs n = go (cases_lt s.start t.start) (cases_lt t.start s.start)
  where
    go : (s.start < t.start) ⊎ (t.start ≤ s.start) → (t.start < s.start) ⊎ (s.start ≤ t.start) → with_shape s (with_shape t xs) ≡ with_shape t (with_shape s xs)
    go (inl l) m = shapes_swap s t xs l
    go (inr l) (inl m) = sym (shapes_swap t s xs m)
    go (inr l) (inr m) = absurd (n (omega (arith, l, m)))

put_past : (s : Shape) (ts acc : List Shape) → ((t : Shape) → In t ts → s.start ≡ t.start → ⊥) → with_shape s (Put acc ts) ≡ Put (with_shape s acc) ts
put_past s [] acc n = refl
put_past s (t ∷ ts) acc n = put_past s ts (with_shape t acc) (λ u k. n u (inr k)) ∙ ap (λ (xs : List Shape). Put xs ts) (swap_any s t acc (n t (inl refl)))

pub puts_past : (ns ts acc : List Shape) → ((s t : Shape) → In s ns → In t ts → s.start ≡ t.start → ⊥) → Put (Put acc ts) ns ≡ Put (Put acc ns) ts
puts_past [] ts acc n = refl
puts_past (s ∷ ns) ts acc n = ap (λ (xs : List Shape). Put xs ns) (put_past s ts acc (λ t k. n s t (inl refl) k)) ∙ puts_past ns ts (with_shape s acc) (λ u t k l. n u t (inr k) l)
