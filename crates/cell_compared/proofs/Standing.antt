-- What is told of sections that stand in the space.
use Rattle.std.proofs.Common.{◌≡◌, sym, ◌∙◌, ap, subst, arith, ℕ, zero, suc, ◌+◌, ◌*◌, ◌<◌, ◌≤◌, inl, inr, Bool, true, false, cond, List, [], ◌∷◌, map}
use Rattle.std.specs.Prelude.{Some, All, find, option_map, unwrap_or, nat_lt, ◌==◌}
use Rattle.std.specs.List.{list_all}
use Rattle.std.proofs.lemmas.Bool.{and_parts, eq-eqb, ltb-true, ne_eqb}
use Rattle.cell_num.specs.Limits.{page_size}
use Rattle.cell_num.specs.Lists.{In, each_pair, from_on, upto}
use Rattle.cell_num.proofs.Elements.{All-In, In-map, all-In, map_same}
use Rattle.cell_object.specs.declared.object.Object.{Object}
use Rattle.cell_object.specs.declared.object.Section.{Section as ObjectSection}
use Rattle.cell_audit.specs.Described.{byte_at, told}
use Rattle.cell_audit.specs.Linking.{relinked_bytes, relinked_content}
use Rattle.cell_audit.specs.Told.{byte_told}
use Rattle.cell_described.specs.Faults.{object_at}
use Rattle.cell_described.specs.Standing.{Stand}
use Rattle.cell_described.specs.declared.cell.DescribedCell.{DescribedCell}
use Rattle.cell_world.specs.Placed.Layout.{own_bytes}
use Rattle.cell_world.specs.World.{Cell, World}
use Rattle.cell_world.specs.declared.line.DumpLine.{DumpLine}
use Rattle.cell_world.specs.declared.state.SecPlace.{SecPlace}
use Rattle.cell_relinked.specs.Fit.{IsFit, start_among}
use Rattle.cell_relinked.specs.Linking.{seen_by, world_in}
use Rattle.cell_relinked.specs.declared.ground.Ground.{Ground}
use Rattle.cell_compared.specs.Shown.{relinked_in}

abbrev rises : ObjectSection → ObjectSection → Bool
rises a b = nat_lt a.number b.number

-- the section stands at its place, and wholly in the space
record IsInside (space : ℕ × ℕ) (start size : ℕ) : Type 0 where
  pub above : space.0 ≤ start
  pub below : start + size ≤ space.0 + page_size * space.1

module _ (space : ℕ × ℕ) where
  started : (p : SecPlace) (places : List SecPlace) (n : ℕ) (b : Bool) → (p.section == n) ≡ b → start_among (p ∷ places) n ≡ cond b p.start (start_among places n)
  started p places n true e = ap (λ (t : Bool). unwrap_or (option_map (λ (q : SecPlace). q.start) (cond t (Some p) (find (λ (q : SecPlace). q.section == n) places))) 0) e
  started p places n false e = ap (λ (t : Bool). unwrap_or (option_map (λ (q : SecPlace). q.start) (cond t (Some p) (find (λ (q : SecPlace). q.section == n) places))) 0) e

  stands : (sections : List ObjectSection) (places : List SecPlace) → each_pair rises sections ≡ true → Stand space sections places → (s : ObjectSection) → In s sections → IsInside space (start_among places s.number) s.size
  stands [] places r h s i = absurd i
  stands (t ∷ sections) [] r h s i = absurd h
  stands (t ∷ sections) (p ∷ places) r h s (inl e) =
      let at = started p places s.number true (eq-eqb p.section s.number (h.0.section ∙ ap (λ (x : ObjectSection). x.number) (sym e))) in
      subst (λ (n : ℕ). IsInside space n s.size) (sym at)
      (subst (λ (x : ObjectSection). IsInside space p.start x.size) (sym e) (record { above = h.0.above; below = h.0.below }))
  stands (t ∷ sections) (p ∷ places) r h s (inr i) =
      let parts = and_parts (list_all (rises t) sections) (each_pair rises sections) r in
      let lt = ltb-true t.number s.number (all-In (rises t) sections parts.0 s i) in
      let number = h.0.section in
      let at = started p places s.number false (ne_eqb p.section s.number (λ same. absurd (omega (arith, same, number, lt)))) in
      subst (λ (n : ℕ). IsInside space n s.size) (sym at) (stands sections places parts.1 h.1 s i)

from_In : (a n k : ℕ) → In k (from_on a n) → k < a + n
from_In a zero k i = absurd i
from_In a (suc n) k (inl e) = omega (arith, e)
from_In a (suc n) k (inr i) = let lt = from_In (suc a) n k i in omega (arith, lt)

upto_In : (n k : ℕ) → In k (upto n) → k < n
upto_In n k i = let lt = from_In 0 n k i in omega (arith, lt)

module _ (g : Ground) (objects : List Object) (lines : List DumpLine) (fits : All (IsFit objects) g.cells.now)
    (stand : All (λ c. Stand (g.base, g.pages) (object_at objects c.object).sections c.places) g.cells.now)
    (telling : (addr : ℕ) → g.base ≤ addr → addr < g.base + page_size * g.pages → byte_told g.told.now addr ≡ byte_at lines addr) where
  abbrev w : World
  w = world_in g objects

  seen_told : (d : DescribedCell) → In d g.cells.now → (s : ObjectSection) → In s (object_at objects d.object).sections
      → map (λ k. byte_told g.told.now (start_among d.places s.number + k)) (upto s.size) ≡ told lines (seen_by g objects d) s
  seen_told d i s m =
      let fit = All-In (IsFit objects) g.cells.now fits d i in
      let inside = stands (g.base, g.pages) (object_at objects d.object).sections d.places fit.loadable.sound.numbers
      (All-In (λ (c : DescribedCell). Stand (g.base, g.pages) (object_at objects c.object).sections c.places) g.cells.now stand d i) s m in
      map_same (λ k. byte_told g.told.now (start_among d.places s.number + k)) (λ k. byte_at lines (start_among d.places s.number + k)) (upto s.size)
      (λ k j.
      let lt = upto_In s.size k j in
      let above = inside.above in
      let below = inside.below in
      telling (start_among d.places s.number + k) (omega (arith, above)) (omega (arith, lt, below)))

  -- so what sections hold by what is told is what they hold by the lines
  pub content_same : (c : Cell) → In c w.cells → (s : ObjectSection) → In s c.object.sections → relinked_in g objects c s ≡ relinked_content lines w c s
  content_same c i s m =
      let from = In-map (seen_by g objects) g.cells.now c i in
      subst (λ (x : Cell). In s x.object.sections → relinked_in g objects x s ≡ relinked_content lines w x s) (sym from.2)
      (λ k. ap (λ (bytes : List ℕ). relinked_bytes w (seen_by g objects from.0) s (cond s.write bytes (own_bytes s s.fill))) (seen_told from.0 from.1 s k)) m
