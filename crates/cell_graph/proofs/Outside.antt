-- Which links stand against taking cells away, and what is left without them.
use Rattle.std.proofs.Common.{◌≡◌, ◌⊎◌, inl, inr, ℕ, zero, suc, ◌<◌, Bool, true, false, ◌&&◌, ◌||◌, cond, not, eqb, ltb, leb, List, [], ◌∷◌, Option, length, get_or, take, drop, map, refl, sym, ap, subst, ◌∙◌, arith, tests, Contains}
use Rattle.std.specs.Prelude.{filter}
use Rattle.std.specs.List.{AllByRecursion, list_any}
use Rattle.std.specs.Option.{option_map_or}
use Rattle.std.proofs.lemmas.Bool.{false≢true}
use Rattle.slab.proofs.SlabLemmas.{Contains-cons, Contains-cons_cases}
use Rattle.cell_num.specs.declared.ids.CellId.{CellId}
use Rattle.cell_num.specs.declared.ids.SecKey.{SecKey}
use Rattle.cell_world.specs.declared.state.LinkRow.{LinkRow}
use Rattle.cell_graph.specs.declared.rows.ChainRow.{ChainRow}
use Rattle.cell_graph.specs.declared.section.Section.{Section}
use Rattle.cell_graph.specs.declared.order.SectionPlace.{SectionPlace}
use Rattle.cell_graph.specs.declared.order.RowPlace.{RowPlace}
use Rattle.cell_graph.specs.Links.{is_same, links_to}
use Rattle.cell_graph.specs.Listed.{IsWhole, IsListed}
use Rattle.cell_graph.specs.Lists.{IsSectionRange}
use Rattle.cell_graph.specs.Order.{IsCut}
use Rattle.cell_graph.specs.Places.{link_at}
use Rattle.cell_graph.specs.Removal.{is_listed, is_outside_use, is_used_outside, links_without}
use Rattle.cell_graph.proofs.Ranges.{all_drop, filter_drop, filter_take}
use Rattle.cell_graph.proofs.Rising.{all_at, of_map, Contains-head, no_element}
use Rattle.cell_graph.proofs.Sights.{same_key, key_same}
use Rattle.cell_graph.proofs.Wholes.{target_named}

-- what stands past the end of a list of sections
abbrev pub no_section : SectionPlace
no_section = record { key = record { cell = record { 0 = 0 }; section = 0 }; place = 0 }

module _ {X : Type 0} where
  pub of_filter : (f : X → Bool) (xs : List X) (x : X) → Contains (filter f xs) x → Contains xs x × (f x ≡ true)
  of_filter f [] x has = absurd (no_element x has)
  of_filter f (y ∷ xs) x has = go (f y) refl (of_filter f xs x) has
    where
      go : (b : Bool) → f y ≡ b → (Contains (filter f xs) x → Contains xs x × (f x ≡ true)) → Contains (cond b (y ∷ filter f xs) (filter f xs)) x → Contains (y ∷ xs) x × (f x ≡ true)
      go true e later has =
          elim (Contains-cons_cases y x (filter f xs) has) [
            | inl here ↦ (subst (λ w. Contains (y ∷ xs) w) here (Contains-head y xs), ap f (sym here) ∙ e)
            | inr there ↦ let w = later there in (Contains-cons y x xs w.0, w.1)
          ]
      go false e later has = let w = later has in (Contains-cons y x xs w.0, w.1)

  pub in_filter : (f : X → Bool) (xs : List X) (x : X) → Contains xs x → f x ≡ true → Contains (filter f xs) x
  in_filter f [] x has passes = absurd (no_element x has)
  in_filter f (y ∷ xs) x has passes = go (f y) refl (in_filter f xs x)
    where
      go : (b : Bool) → f y ≡ b → (Contains xs x → f x ≡ true → Contains (filter f xs) x) → Contains (cond b (y ∷ filter f xs) (filter f xs)) x
      go true e later =
          elim (Contains-cons_cases y x xs has) [
            | inl here ↦ subst (λ w. Contains (y ∷ filter f xs) w) here (Contains-head y (filter f xs))
            | inr there ↦ Contains-cons y x (filter f xs) (later there passes)
          ]
      go false e later =
          elim (Contains-cons_cases y x xs has) [
            | inl here ↦ absurd (false≢true (sym e ∙ ap f here ∙ passes))
            | inr there ↦ later there passes
          ]

  pub of_take : (n : ℕ) (xs : List X) (x : X) → Contains (take n xs) x → Contains xs x
  of_take zero xs x has = absurd (no_element x has)
  of_take (suc n) [] x has = has
  of_take (suc n) (y ∷ xs) x has =
      elim (Contains-cons_cases y x (take n xs) has) [
        | inl here ↦ subst (λ w. Contains (y ∷ xs) w) here (Contains-head y xs)
        | inr later ↦ Contains-cons y x xs (of_take n xs x later)
      ]

  of_drop : (n : ℕ) (xs : List X) (x : X) → Contains (drop n xs) x → Contains xs x
  of_drop zero xs x has = has
  of_drop (suc n) [] x has = has
  of_drop (suc n) (y ∷ xs) x has = Contains-cons y x xs (of_drop n xs x has)

  take_passes : (q : X → Bool) (xs : List X) (m : ℕ) → IsCut q xs m → AllByRecursion (λ x. q x ≡ true) (take m xs)
  take_passes q [] zero cut = tt
  take_passes q [] (suc m) cut = tt
  take_passes q (x ∷ xs) zero cut = tt
  take_passes q (x ∷ xs) (suc m) cut = (cut.0, take_passes q xs m cut.1)

  drop_fails : (p : X → Bool) (xs : List X) (n : ℕ) → IsCut p xs n → AllByRecursion (λ x. p x ≡ false) (drop n xs)
  drop_fails p [] zero cut = tt
  drop_fails p [] (suc n) cut = tt
  drop_fails p (x ∷ xs) zero cut = cut
  drop_fails p (x ∷ xs) (suc n) cut = drop_fails p xs n cut.1

  pub same_default : (xs : List X) (k : ℕ) (d e : X) → k < length xs → get_or xs k d ≡ get_or xs k e
  same_default [] k d e within = absurd (omega arith)
  same_default (x ∷ xs) zero d e within = refl
  same_default (x ∷ xs) (suc k) d e within = same_default xs k d e (omega arith)

equal_test : (a c : ℕ) → a ≡ c → eqb a c ≡ true
equal_test a c h = grind (arith, tests)

test_low : (a c : ℕ) → eqb a c ≡ true → ltb a c ≡ false
test_low a c h = grind (arith, tests)

test_high : (a c : ℕ) → eqb a c ≡ true → leb a c ≡ true
test_high a c h = grind (arith, tests)

between : (a c : ℕ) → ltb a c ≡ false → leb a c ≡ true → a ≡ c
between a c h k = grind (arith, tests)

pub in_section_range : (list part : List SectionPlace) (cell : ℕ) → IsSectionRange list cell part → (s : SectionPlace) → Contains list s → s.key.cell.0 ≡ cell → Contains part s
in_section_range list part cell range s has of =
    let f = λ (s : SectionPlace). eqb s.key.cell.0 cell in
    let e = filter_drop f (λ s. ltb s.key.cell.0 cell) (λ s h. test_low s.key.cell.0 cell h) (take range.end list) range.start range.start_cut
    ∙ filter_take f (λ s. leb s.key.cell.0 cell) (λ s h. test_high s.key.cell.0 cell h) list range.end range.end_cut in
    let kept = subst (λ (l : List SectionPlace). Contains l s) (sym e) (in_filter f list s has (equal_test s.key.cell.0 cell of)) in
    subst (λ (l : List SectionPlace). Contains l s) (sym range.is) (of_filter f (drop range.start (take range.end list)) s kept).0

pub of_section_range : (list part : List SectionPlace) (cell : ℕ) → IsSectionRange list cell part → (s : SectionPlace) → Contains part s → Contains list s × (s.key.cell.0 ≡ cell)
of_section_range list part cell range s has =
    let there = subst (λ (l : List SectionPlace). Contains l s) range.is has in
    let low = all_at (λ s. ltb s.key.cell.0 cell ≡ false) (drop range.start (take range.end list)) s (drop_fails (λ s. ltb s.key.cell.0 cell) (take range.end list) range.start range.start_cut) there in
    let high = all_at (λ s. leb s.key.cell.0 cell ≡ true) (drop range.start (take range.end list)) s (all_drop (λ s. leb s.key.cell.0 cell ≡ true) range.start (take range.end list) (take_passes (λ s. leb s.key.cell.0 cell) list range.end range.end_cut)) there in
    (of_take range.end list s (of_drop range.start (take range.end list) s there), between s.key.cell.0 cell low high)

pub of_links : (sec : SecKey) (rows : List LinkRow) (r : LinkRow) → Contains (links_to sec rows) r → Contains rows r × (r.target ≡ sec)
of_links sec rows r has = let w = of_filter (λ r. is_same r.target sec) rows r has in (w.0, same_key r.target sec w.1)

pub in_links : (sec : SecKey) (rows : List LinkRow) (r : LinkRow) → Contains rows r → r.target ≡ sec → Contains (links_to sec rows) r
in_links sec rows r has to = in_filter (λ r. is_same r.target sec) rows r has (key_same r.target sec to)

-- where no link leads to the section, there are none
pub none_to : (sec : SecKey) (rows : List LinkRow) → ((r : LinkRow) → Contains rows r → r.target ≡ sec → ⊥) → links_to sec rows ≡ []
none_to sec [] f = refl
none_to sec (r ∷ rows) f = go (is_same r.target sec) refl (none_to sec rows (λ x has to. f x (Contains-cons r x rows has) to))
  where
    go : (b : Bool) → is_same r.target sec ≡ b → links_to sec rows ≡ [] → cond b (r ∷ links_to sec rows) (links_to sec rows) ≡ []
    go true e none = absurd (f r (Contains-head r rows) (same_key r.target sec e))
    go false e none = none

-- the target of a link that is seen is a section that is seen
pub target_seen : (rows : ℕ → Option ChainRow) (sections : ℕ → Option Section) (section_list : List SectionPlace) (row_list : List RowPlace) (r : LinkRow)
    → IsWhole rows sections section_list row_list → Contains (map (link_at rows) row_list) r → (s : SectionPlace) × Contains section_list s × (s.key ≡ r.target)
target_seen rows sections section_list row_list r whole has =
    let x = of_map (link_at rows) row_list r has in
    let w = all_at (λ y. IsListed rows y) row_list x.0 whole.rows_listed.stand x.1 in
    let s = of_map (λ s. s.key) section_list w.row.row.target (target_named rows sections section_list row_list x.0.place w.row whole w.is) in
    (s.0, s.1, s.2 ∙ sym (ap (λ o. option_map_or (λ c. c.row.target) o x.0.user) w.is) ∙ ap (λ l. l.target) x.2)

-- which cells are listed
pub listed_index : (cells : List CellId) (sec : SecKey) → is_listed cells sec ≡ true → (k : ℕ) × (k < length cells) × ((d : CellId) → (get_or cells k d).0 ≡ sec.cell.0)
listed_index [] sec h = absurd (cc h)
listed_index (c ∷ cells) sec h = go (eqb c.0 sec.cell.0) refl (listed_index cells sec) h
  where
    test : (a b : ℕ) → eqb a b ≡ true → a ≡ b
    test a b h = grind (arith, tests)

    go : (b : Bool) → eqb c.0 sec.cell.0 ≡ b → (is_listed cells sec ≡ true → (k : ℕ) × (k < length cells) × ((d : CellId) → (get_or cells k d).0 ≡ sec.cell.0)) → (b || is_listed cells sec) ≡ true
        → (k : ℕ) × (k < length (c ∷ cells)) × ((d : CellId) → (get_or (c ∷ cells) k d).0 ≡ sec.cell.0)
    go true e later h = (0, omega arith, λ d. test c.0 sec.cell.0 e)
    go false e later h = let w = later h in (suc w.0, omega (arith, w.1), λ d. w.2 d)

or_true : (a b : Bool) → (a ≡ true) ⊎ (b ≡ true) → (a || b) ≡ true
or_true a b (inl h) = ap (λ x. x || b) h
or_true a b (inr h) = grind (arith, tests)

pub any_there : (p : LinkRow → Bool) (rows : List LinkRow) (r : LinkRow) → Contains rows r → p r ≡ true → list_any p rows ≡ true
any_there p [] r has passes = absurd (no_element r has)
any_there p (x ∷ rows) r has passes =
    or_true (p x) (list_any p rows) (elim (Contains-cons_cases x r rows has) [ inl here ↦ inl (ap p here ∙ passes) | inr later ↦ inr (any_there p rows r later passes) ])

pub none_there : (p : LinkRow → Bool) (rows : List LinkRow) → ((r : LinkRow) → Contains rows r → p r ≡ false) → list_any p rows ≡ false
none_there p [] none = refl
none_there p (x ∷ rows) none = both (p x) (list_any p rows) (none x (Contains-head x rows)) (none_there p rows (λ r has. none r (Contains-cons x r rows has)))
  where
    both : (a b : Bool) → a ≡ false → b ≡ false → (a || b) ≡ false
    both a b h k = grind (arith, tests)

and_not : (a b : Bool) → (a ≡ true → b ≡ true) → (a && not b) ≡ false
and_not true b h = ap not (h refl)
and_not false b h = refl

-- no link stands against it
pub none_outside : (cells : List CellId) (rows : List LinkRow) → ((r : LinkRow) → Contains rows r → is_listed cells r.target ≡ true → is_listed cells r.user ≡ true) → is_used_outside cells rows ≡ false
none_outside cells rows inner = none_there (is_outside_use cells) rows (λ r has. and_not (is_listed cells r.target) (is_listed cells r.user) (inner r has))

and_yes : (a b : Bool) → a ≡ true → b ≡ true → (a && b) ≡ true
and_yes a b h k = grind (arith, tests)

outside_is : (cells : List CellId) (row : LinkRow) → is_listed cells row.target ≡ true → is_listed cells row.user ≡ false → is_outside_use cells row ≡ true
outside_is cells row to from = and_yes (is_listed cells row.target) (not (is_listed cells row.user)) to (ap not from)

-- what is left has no link into the cells
pub none_into : (cells : List CellId) (rows : List LinkRow) → is_used_outside cells rows ≡ false → (r : LinkRow) → Contains (links_without cells rows) r → is_listed cells r.target ≡ false
none_into cells rows unused r has =
    let w = of_filter (λ r. not (is_listed cells r.user)) rows r has in
    go (is_listed cells r.target) refl w.0 w.1
  where
    unlisted : (b : Bool) → not b ≡ true → b ≡ false
    unlisted b h = grind (arith, tests)

    go : (b : Bool) → is_listed cells r.target ≡ b → Contains rows r → not (is_listed cells r.user) ≡ true → b ≡ false
    go false e there from = refl
    go true e there from = absurd (false≢true (sym unused ∙ any_there (is_outside_use cells) rows r there (outside_is cells r e (unlisted (is_listed cells r.user) from))))
