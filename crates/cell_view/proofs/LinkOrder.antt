-- The links of a coherent machine rise by user cell and entry, and those into a cell are those into its sections.
use Rattle.std.proofs.Common.{◌≡◌, refl, sym, ◌∙◌, ap, subst, arith, ℕ, ◌<◌, Bool, true, false, not, ◌&&◌, ◌||◌, ◌==◌, List}
use Rattle.std.specs.Prelude.{Some, filter, nat_lt}
use Rattle.std.specs.List.{list_any}
use Rattle.std.specs.List.Sorted.{IsPermutation}
use Rattle.std.specs.Cmp.{IsStrictWeakOrder}
use Rattle.std.specs.Ordering.{is_lt, nat_cmp, ordering_then}
use Rattle.std.proofs.lemmas.Bool.{and_parts, and_from, ltb-true, eqb-true, eq-eqb}
use Rattle.std.proofs.lemmas.Bool.Decides.{nat_tests}
use Rattle.std.proofs.lemmas.List.Sorted.{IsPermutation-trans}
use Rattle.cell_num.specs.declared.ids.SecKey.{SecKey}
use Rattle.cell_num.specs.Lists.{each_pair, In}
use Rattle.cell_object.specs.declared.object.Section.{Section as ObjectSection}
use Rattle.cell_object.specs.Parts.{section_of}
use Rattle.cell_world.specs.declared.state.LinkRow.{LinkRow}
use Rattle.cell_world.specs.World.{World, Cell, cell_of, key_of}
use Rattle.cell_world.specs.Coherent.{IsCoherent}
use Rattle.cell_lemmas.specs.Present.{HasSection, JoinsPresent}
use Rattle.cell_num.proofs.Elements.{All-In, found-In, any-In, any-Has, map-In, In-map, pairs-map, pairs_same}
use Rattle.cell_lemmas.proofs.Naming.Known.{object_sound}
use Rattle.cell_lemmas.proofs.Targeting.Present.{links_present, some_same}
use Rattle.cell_num.proofs.Sublists.{pairs-filter}
use Rattle.cell_graph.specs.Links.{is_same}
use Rattle.cell_machine.specs.Machine.{section_keys}
use Rattle.cell_machine.specs.LinkOrder.{is_before}
use Rattle.cell_machine.proofs.LinksRise.{links_rise}
use Rattle.cell_view.specs.Links.{AreInOrder, links_in}
use Rattle.cell_view.proofs.Gathering.{filter_same, gathered}
use Rattle.cell_view.proofs.Sorting.{one_order}

one_way : (a b m n : ℕ) → (nat_lt a b || a == b && nat_lt m n) ≡ true → (nat_lt b a || b == a && nat_lt n m) ≡ false
one_way a b m n h = grind (arith, nat_tests)

chained : (a b c m n k : ℕ) → (nat_lt a b || a == b && nat_lt m n) ≡ false → (nat_lt b c || b == c && nat_lt n k) ≡ false → (nat_lt a c || a == c && nat_lt m k) ≡ false
chained a b c m n k h g = grind (arith, nat_tests)

pub before_is_order : IsStrictWeakOrder is_before
before_is_order = record {
  one_way = λ x y h. one_way x.user.cell.0 y.user.cell.0 x.entry y.entry h;
  chain = λ x y z h g. chained x.user.cell.0 y.user.cell.0 z.user.cell.0 x.entry y.entry z.entry h g;
}

-- the order of pairs
pub before_is : (a b m n : ℕ) → is_lt (ordering_then (nat_cmp a b) (nat_cmp m n)) ≡ (nat_lt a b || a == b && nat_lt m n)
before_is a b m n = grind (arith, nat_tests)

not_both : (a n s m k : ℕ) → m < k → not ((a == n && s == m) && (a == n && s == k)) ≡ true
not_both a n s m k lt = grind (arith, nat_tests)

both_hold : (a n s m : ℕ) → (a == n && s == m) ≡ true → a ≡ n
both_hold a n s m h = eqb-true a n (and_parts (a == n) (s == m) h).0

module _ (w : World) (coherent : IsCoherent w) (number : ℕ) (c : Cell) (here : cell_of w number ≡ Some c) where
  there : In c w.cells × ((c.id.0 == number) ≡ true)
  there = found-In (λ (d : Cell). d.id.0 == number) w.cells c here

  same_number : c.id.0 ≡ number
  same_number = eqb-true c.id.0 number there.1

  -- no section of it is two of its sections
  apart : (key : SecKey) → each_pair (λ (k l : SecKey). not (is_same key k && is_same key l)) (section_keys c.placed) ≡ true
  apart key =
      pairs-map (λ (k l : SecKey). not (is_same key k && is_same key l)) (λ (s : ObjectSection). key_of c.id.0 s.number) c.object.sections
      ∙ pairs_same (λ (s t : ObjectSection). nat_lt s.number t.number) (λ (s t : ObjectSection). not (is_same key (key_of c.id.0 s.number) && is_same key (key_of c.id.0 t.number))) c.object.sections
      (λ s t i j lower. not_both key.cell.0 c.id.0 key.section s.number t.number (ltb-true s.number t.number lower))
      (object_sound w coherent.ready.objects c there.0).numbers

  -- a present section is of the cell where it is one of its sections
  of_cell : (key : SecKey) → HasSection w key → (key.cell.0 == number) ≡ list_any (λ k. is_same key k) (section_keys c.placed)
  of_cell key has = go (key.cell.0 == number) (list_any (λ k. is_same key k) (section_keys c.placed)) to from
    where
      go : (a b : Bool) → (a ≡ true → b ≡ true) → (b ≡ true → a ≡ true) → a ≡ b
      go true b f g = sym (f refl)
      go false true f g = g refl
      go false false f g = refl

      to : (key.cell.0 == number) ≡ true → list_any (λ k. is_same key k) (section_keys c.placed) ≡ true
      to is =
          let at : key.cell.0 ≡ number = eqb-true key.cell.0 number is in
          let same : has.cell ≡ c = some_same has.cell c (sym has.present ∙ (ap (cell_of w) at ∙ here)) in
          let s : In has.section c.object.sections × ((has.section.number == key.section) ≡ true) = found-In (λ (s : ObjectSection). s.number == key.section) c.object.sections has.section (subst (λ (d : Cell). section_of d.object key.section ≡ Some has.section) same has.has) in
          any-In (λ k. is_same key k) (section_keys c.placed) (key_of c.id.0 has.section.number) (map-In (λ (s : ObjectSection). key_of c.id.0 s.number) c.object.sections has.section s.0)
          (and_from (key.cell.0 == c.id.0) (key.section == has.section.number) (eq-eqb key.cell.0 c.id.0 (at ∙ sym same_number)) (eq-eqb key.section has.section.number (sym (eqb-true has.section.number key.section s.1))))

      from : list_any (λ k. is_same key k) (section_keys c.placed) ≡ true → (key.cell.0 == number) ≡ true
      from any =
          let k = any-Has (λ k. is_same key k) (section_keys c.placed) any in
          let s = In-map (λ (s : ObjectSection). key_of c.id.0 s.number) c.object.sections k.0 k.1 in
          let at : key.cell.0 ≡ k.0.cell.0 = both_hold key.cell.0 k.0.cell.0 key.section k.0.section k.2 in
          eq-eqb key.cell.0 number (at ∙ (ap (λ (k : SecKey). k.cell.0) s.2 ∙ same_number))

  joins : (r : LinkRow) → In r w.links → JoinsPresent w r
  joins = All-In (JoinsPresent w) w.links (links_present w coherent)

  -- the links into the cell, in order
  pub users_are : (rows : List LinkRow) → IsPermutation (links_in w.links (section_keys c.placed)) rows → AreInOrder rows → rows ≡ filter (λ r. r.target.cell.0 == number) w.links
  users_are rows moved sorted =
      one_order is_before before_is_order (filter (λ r. r.target.cell.0 == number) w.links) rows (pairs-filter is_before (λ r. r.target.cell.0 == number) w.links (links_rise w coherent))
      (IsPermutation-trans _ _ _
      (subst (λ (rs : List LinkRow). IsPermutation rs (links_in w.links (section_keys c.placed))) (sym (filter_same (λ (r : LinkRow). r.target.cell.0 == number) (λ r. list_any (λ k. is_same r.target k) (section_keys c.placed)) w.links (λ r i. of_cell r.target (joins r i).target)))
      (gathered (λ (k : SecKey) (r : LinkRow). is_same r.target k) (section_keys c.placed) w.links (λ r. apart r.target)))
      moved) sorted
