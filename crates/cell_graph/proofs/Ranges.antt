-- What a walk goes over.
use Rattle.std.proofs.Common.{◌≡◌, ◌≢◌, inl, inr, ℕ, zero, suc, ◌-◌, Bool, true, false, ◌&&◌, cond, eqb, ltb, leb, List, [], ◌∷◌, Option, Some, None, length, take, drop, map, refl, sym, ap, subst, ◌∙◌, arith, tests, Contains}
use Rattle.std.specs.Prelude.{filter, is_some}
use Rattle.std.specs.Option.{option_map_or}
use Rattle.std.specs.List.{AllByRecursion}
use Rattle.std.specs.List.Sorted.{IsPermutation}
use Rattle.std.proofs.lemmas.List.Sorted.{IsPermutation-cons, IsPermutation-map, IsPermutation-middle, IsPermutation-trans}
use Rattle.std.proofs.lemmas.Bool.{cases_eq, false≢true}
use Rattle.std.proofs.lemmas.Option.{same_Some}
use Rattle.slab.proofs.SlabLemmas.{Contains-cons, Contains-cons_cases}
use Rattle.cell_num.specs.declared.ids.SecKey.{SecKey}
use Rattle.cell_world.specs.declared.state.LinkRow.{LinkRow}
use Rattle.cell_graph.specs.declared.rows.ChainRow.{ChainRow}
use Rattle.cell_graph.specs.declared.section.Section.{Section}
use Rattle.cell_graph.specs.declared.order.RowPlace.{RowPlace}
use Rattle.cell_graph.specs.Chains.{Has, Lacks, IsApart, IsChain, IsLinked}
use Rattle.cell_graph.specs.Links.{is_same, links_from, links_to}
use Rattle.cell_graph.specs.Listed.{RowsListed, IsListed}
use Rattle.cell_graph.specs.Lists.{RowsRise, below_row_place}
use Rattle.cell_graph.specs.Order.{IsCut, Rises}
use Rattle.cell_graph.specs.Places.{link_at}
use Rattle.cell_graph.specs.Skips.{less}
use Rattle.cell_graph.specs.Walks.{named_deps, walked, IsRun}
use Rattle.cell_graph.proofs.Linked.{lacks_has, has_less, has_of_less, apart_less, lacks_gone, less_head, less_tail, linked_at, none_some}
use Rattle.cell_graph.proofs.Listing.{same_place, row_irreflexive}
use Rattle.cell_graph.proofs.Rising.{all_at, Contains-head, no_element}
use Rattle.cell_graph.proofs.Sights.{same_key, key_same}

no_true : (b : Bool) → (b ≡ true → ⊥) → b ≡ false
no_true true h = absurd (h refl)
no_true false h = refl

module _ {X : Type 0} where
  pub all_take : (P : X → Type 0) (n : ℕ) (xs : List X) → AllByRecursion P xs → AllByRecursion P (take n xs)
  all_take P zero xs all = tt
  all_take P (suc n) [] all = tt
  all_take P (suc n) (x ∷ xs) all = (all.0, all_take P n xs all.1)

  pub all_drop : (P : X → Type 0) (n : ℕ) (xs : List X) → AllByRecursion P xs → AllByRecursion P (drop n xs)
  all_drop P zero xs all = all
  all_drop P (suc n) [] all = tt
  all_drop P (suc n) (x ∷ xs) all = all_drop P n xs all.1

  pub rises_take : (lt : X → X → Bool) (n : ℕ) (xs : List X) → Rises lt xs → Rises lt (take n xs)
  rises_take lt zero xs rises = tt
  rises_take lt (suc n) [] rises = tt
  rises_take lt (suc n) (x ∷ xs) rises = (all_take (λ y. lt x y ≡ true) n xs rises.0, rises_take lt n xs rises.1)

  none_kept : (f : X → Bool) (xs : List X) → ((x : X) → Contains xs x → f x ≡ false) → filter f xs ≡ []
  none_kept f [] none = refl
  none_kept f (x ∷ xs) none =
      ap (λ b. cond b (x ∷ filter f xs) (filter f xs)) (none x (Contains-head x xs)) ∙ none_kept f xs (λ y has. none y (Contains-cons x y xs has))

  -- past the cut none passes
  pub filter_take : (f q : X → Bool) → ((x : X) → f x ≡ true → q x ≡ true) → (xs : List X) (n : ℕ) → IsCut q xs n → filter f (take n xs) ≡ filter f xs
  filter_take f q only [] zero cut = refl
  filter_take f q only [] (suc n) cut = refl
  filter_take f q only (x ∷ xs) zero cut =
      sym (none_kept f (x ∷ xs) (λ y has. no_true (f y) (λ h. false≢true (sym (fails y has) ∙ only y h))))
    where
      fails : (y : X) → Contains (x ∷ xs) y → q y ≡ false
      fails y has = elim (Contains-cons_cases x y xs has) [ inl here ↦ subst (λ z. q z ≡ false) here cut.0 | inr later ↦ all_at (λ z. q z ≡ false) xs y cut.1 later ]
  filter_take f q only (x ∷ xs) (suc n) cut = ap (λ l. cond (f x) (x ∷ l) l) (filter_take f q only xs n cut.1)

  -- and before it
  pub filter_drop : (f p : X → Bool) → ((x : X) → f x ≡ true → p x ≡ false) → (xs : List X) (n : ℕ) → IsCut p xs n → filter f (drop n xs) ≡ filter f xs
  filter_drop f p only [] zero cut = refl
  filter_drop f p only [] (suc n) cut = refl
  filter_drop f p only (x ∷ xs) zero cut = refl
  filter_drop f p only (x ∷ xs) (suc n) cut =
      let no : f x ≡ false = no_true (f x) (λ h. false≢true (sym (only x h) ∙ cut.0)) in
      filter_drop f p only xs n cut.1 ∙ sym (ap (λ b. cond b (x ∷ filter f xs) (filter f xs)) no)

cell_in : (a b c d : ℕ) → (eqb a b && eqb c d) ≡ true → ltb a b ≡ false
cell_in a b c d h = grind (arith, tests)

cell_within : (a b c d : ℕ) → (eqb a b && eqb c d) ≡ true → leb a b ≡ true
cell_within a b c d h = grind (arith, tests)

filter_seen : (at : ℕ → Option ChainRow) (sec : SecKey) (list : List RowPlace) → links_from sec (map (link_at at) list) ≡ named_deps at sec list
filter_seen at sec [] = refl
filter_seen at sec (r ∷ list) = go (is_same r.user sec) (filter_seen at sec list)
  where
    go : (b : Bool) → links_from sec (map (link_at at) list) ≡ named_deps at sec list
        → cond b (link_at at r ∷ links_from sec (map (link_at at) list)) (links_from sec (map (link_at at) list)) ≡ map (link_at at) (cond b (r ∷ filter (λ x. is_same x.user sec) list) (filter (λ x. is_same x.user sec) list))
    go true e = ap (λ l. link_at at r ∷ l) e
    go false e = e

-- the links of a section are among those of its cell
pub deps_in_range : (at : ℕ → Option ChainRow) (sec : SecKey) (list : List RowPlace) (n m : ℕ) → IsCut (λ r. leb r.user.cell.0 sec.cell.0) list m
    → IsCut (λ r. ltb r.user.cell.0 sec.cell.0) (take m list) n
    → named_deps at sec (drop n (take m list)) ≡ links_from sec (map (link_at at) list)
deps_in_range at sec list n m end start =
    ap (map (link_at at)) (filter_drop (λ r. is_same r.user sec) (λ r. ltb r.user.cell.0 sec.cell.0) (λ r h. cell_in r.user.cell.0 sec.cell.0 r.user.section sec.section h) (take m list) n start
    ∙ filter_take (λ r. is_same r.user sec) (λ r. leb r.user.cell.0 sec.cell.0) (λ r h. cell_within r.user.cell.0 sec.cell.0 r.user.section sec.section h) list m end)
    ∙ sym (filter_seen at sec list)

pub permutation_same : {X : Type 0} (xs ys : List X) → xs ≡ ys → IsPermutation xs ys
permutation_same xs ys h = subst (λ l. IsPermutation xs l) h (record { moves = []; below = tt; is = refl })

-- what passes stands between the two cuts
module _ {X : Type 0} (keep p q : X → Bool) (low : (x : X) → p x ≡ true → keep x ≡ false) (high : (x : X) → q x ≡ false → keep x ≡ false)
    (between : (x : X) → p x ≡ false → q x ≡ true → keep x ≡ true) where
  none_left : (xs : List X) → AllByRecursion (λ x. q x ≡ false) xs → filter keep xs ≡ []
  none_left [] all = refl
  none_left (x ∷ xs) all = ap (λ b. cond b (x ∷ filter keep xs) (filter keep xs)) (high x all.0) ∙ none_left xs all.1

  all_begun : (xs : List X) → AllByRecursion (λ x. p x ≡ false) xs → IsCut p xs zero
  all_begun [] all = refl
  all_begun (x ∷ xs) all = all

  no_part : (n : ℕ) → ◌≡◌ {A = List X} (drop n []) []
  no_part zero = refl
  no_part (suc n) = refl

  pub cut_between : (xs : List X) (n m : ℕ) → IsCut p (take m xs) n → IsCut q xs m → drop n (take m xs) ≡ filter keep xs
  cut_between [] n zero a b = no_part n
  cut_between [] n (suc m) a b = no_part n
  cut_between (x ∷ xs) n zero a b = no_part n ∙ sym (none_left (x ∷ xs) b)
  cut_between (x ∷ xs) zero (suc m) a b =
      ap (λ l. x ∷ l) (cut_between xs zero m (all_begun (take m xs) a.1) b.1)
      ∙ sym (ap (λ c. cond c (x ∷ filter keep xs) (filter keep xs)) (between x a.0 b.0))
  cut_between (x ∷ xs) (suc n) (suc m) a b =
      cut_between xs n m a.1 b.1
      ∙ sym (ap (λ c. cond c (x ∷ filter keep xs) (filter keep xs)) (low x a.0))

pub filter_mapped : {X Y : Type 0} (f : X → Y) (keep : Y → Bool) (xs : List X) → filter keep (map f xs) ≡ map f (filter (λ x. keep (f x)) xs)
filter_mapped f keep [] = refl
filter_mapped f keep (x ∷ xs) = go (keep (f x)) (filter_mapped f keep xs)
  where
    go : (b : Bool) → filter keep (map f xs) ≡ map f (filter (λ x. keep (f x)) xs)
        → cond b (f x ∷ filter keep (map f xs)) (filter keep (map f xs)) ≡ map f (cond b (x ∷ filter (λ x. keep (f x)) xs) (filter (λ x. keep (f x)) xs))
    go true e = ap (λ l. f x ∷ l) e
    go false e = e

lower_other : (a c : ℕ) → ltb a c ≡ true → eqb a c ≡ false
lower_other a c h = grind (arith, tests)

higher_other : (a c : ℕ) → leb a c ≡ false → eqb a c ≡ false
higher_other a c h = grind (arith, tests)

same_cell : (a c : ℕ) → ltb a c ≡ false → leb a c ≡ true → eqb a c ≡ true
same_cell a c h k = grind (arith, tests)

-- the links of a cell stand between the two cuts
pub cell_in_range : (at : ℕ → Option ChainRow) (cell : ℕ) (list : List RowPlace) (n m : ℕ) → IsCut (λ r. leb r.user.cell.0 cell) list m
    → IsCut (λ r. ltb r.user.cell.0 cell) (take m list) n
    → map (link_at at) (drop n (take m list)) ≡ filter (λ r. eqb r.user.cell.0 cell) (map (link_at at) list)
cell_in_range at cell list n m end start =
    ap (map (link_at at)) (cut_between (λ (r : RowPlace). eqb r.user.cell.0 cell) (λ (r : RowPlace). ltb r.user.cell.0 cell) (λ (r : RowPlace). leb r.user.cell.0 cell)
    (λ r h. lower_other r.user.cell.0 cell h) (λ r h. higher_other r.user.cell.0 cell h) (λ r h k. same_cell r.user.cell.0 cell h k) list n m start end)
    ∙ sym (filter_mapped (link_at at) (λ r. eqb r.user.cell.0 cell) list)

-- one step along a chain
pub run_next : (at : ℕ → Option ChainRow) (first : Option ℕ) (left p : ℕ) (row : ChainRow) → IsRun at first left → first ≡ Some p → at p ≡ Some row
    → (walked at left first ≡ row.row ∷ walked at (left - 1) row.after) × IsRun at row.after (left - 1)
run_next at first left p row run is stands = go run.places run.counted run.linked
  where
    seen : (n : ℕ) (f : Option ℕ) → f ≡ Some p → walked at (suc n) f ≡ row.row ∷ walked at n row.after
    seen n None e = absurd (none_some p None refl e)
    seen n (Some q) e =
        ap (λ (o : Option ChainRow). elim o [ None ↦ [] | Some c ↦ c.row ∷ walked at n c.after ]) (ap at (same_Some q p e) ∙ stands)

    go : (places : List ℕ) → length places ≡ left → IsLinked at run.key run.before first places
        → (walked at left first ≡ row.row ∷ walked at (left - 1) row.after) × IsRun at row.after (left - 1)
    go [] counted linked = absurd (none_some p first linked is)
    go (q ∷ places) counted linked =
        let one : suc (left - 1) ≡ left = omega arith in
        let rest : length places ≡ left - 1 = omega arith in
        let same : linked.2.row ≡ row = same_Some linked.2.row row (sym linked.2.is ∙ ap at (same_Some q p (sym linked.0 ∙ is)) ∙ stands) in
        let after : linked.1 ≡ row.after = sym linked.2.after_is ∙ ap (λ r. r.after) same in (
          ap (λ n. walked at n first) (sym one) ∙ seen (left - 1) first is,
          record { key = run.key; before = Some q; places = places; counted = rest; linked = subst (λ f. IsLinked at run.key (Some q) f places) after linked.3 },
        )

pub run_stands : (at : ℕ → Option ChainRow) (first : Option ℕ) (left p : ℕ) → IsRun at first left → first ≡ Some p → is_some (at p) ≡ true
run_stands at first left p run is = go run.places run.linked
  where
    go : (places : List ℕ) → IsLinked at run.key run.before first places → is_some (at p) ≡ true
    go [] linked = absurd (none_some p first linked is)
    go (q ∷ places) linked = ap is_some (ap at (sym (same_Some q p (sym linked.0 ∙ is))) ∙ linked.2.is)

-- lists of places with the same members
two_swapped : {X : Type 0} (a b : X) (xs : List X) → IsPermutation (a ∷ b ∷ xs) (b ∷ a ∷ xs)
two_swapped a b xs = IsPermutation-middle (a ∷ []) b xs

pulled : (place : ℕ) (ys : List ℕ) → Has ys place → IsPermutation (place ∷ less place ys) ys
pulled place [] has = absurd has
pulled place (y ∷ ys) has =
    elim (cases_eq y place) [
      | inl here ↦ permutation_same (place ∷ less place (y ∷ ys)) (y ∷ ys) (λ i. sym here i ∷ less_head place y ys here i)
      | inr other ↦
          let later : Has ys place = elim has [ inl h ↦ absurd (other h) | inr h ↦ h ] in
          IsPermutation-trans (place ∷ less place (y ∷ ys)) (place ∷ y ∷ less place ys) (y ∷ ys)
          (permutation_same (place ∷ less place (y ∷ ys)) (place ∷ y ∷ less place ys) (ap (λ l. place ∷ l) (less_tail place y ys other)))
          (IsPermutation-trans (place ∷ y ∷ less place ys) (y ∷ place ∷ less place ys) (y ∷ ys) (two_swapped place y (less place ys))
          (IsPermutation-cons y (place ∷ less place ys) ys (pulled place ys later)))
    ]

pub permuted : (xs ys : List ℕ) → IsApart xs → IsApart ys → ((p : ℕ) → Has xs p → Has ys p) → ((p : ℕ) → Has ys p → Has xs p) → IsPermutation xs ys
permuted [] [] ax ay there back = permutation_same [] [] refl
permuted [] (y ∷ ys) ax ay there back = absurd (back y (inl refl))
permuted (x ∷ xs) ys ax ay there back =
    let has : Has ys x = there x (inl refl) in
    IsPermutation-trans (x ∷ xs) (x ∷ less x ys) ys
    (IsPermutation-cons x xs (less x ys) (permuted xs (less x ys) ax.1 (apart_less x ys ay)
    (λ p h. has_less x p ys (lacks_has xs x p ax.0 h) (there p (inr h)))
    (λ p h. elim (back p (has_of_less x p ys h)) [ inl here ↦ absurd (lacks_has (less x ys) x p (lacks_gone x ys ay) h (sym here)) | inr later ↦ later ])))
    (pulled x ys has)

-- the link that stands at a place
abbrev pub row_of : (ℕ → Option ChainRow) → SecKey → ℕ → LinkRow
row_of at d p = elim (at p) [ None ↦ record { user = d; entry = 0; target = d } | Some c ↦ c.row ]

row_of_is : (at : ℕ → Option ChainRow) (d : SecKey) (p : ℕ) (row : ChainRow) → at p ≡ Some row → row_of at d p ≡ row.row
row_of_is at d p row is = ap (λ (o : Option ChainRow). elim o [ None ↦ record { user = d; entry = 0; target = d } | Some c ↦ c.row ]) is

walked_places : (at : ℕ → Option ChainRow) (d key : SecKey) (before first : Option ℕ) (places : List ℕ) → IsLinked at key before first places → walked at (length places) first ≡ map (row_of at d) places
walked_places at d key before first [] linked = refl
walked_places at d key before first (p ∷ places) linked =
    let w = linked.2 in
    ap (λ f. walked at (suc (length places)) f) linked.0
    ∙ ap (λ (o : Option ChainRow). elim o [ None ↦ [] | Some c ↦ c.row ∷ walked at (length places) c.after ]) w.is
    ∙ (λ i. sym (row_of_is at d p w.row w.is) i ∷ (ap (walked at (length places)) w.after_is ∙ walked_places at d key (Some p) linked.1 places linked.3) i)

module _ (at : ℕ → Option ChainRow) (sec : SecKey) (list : List RowPlace) (listed : RowsListed at list) where
  abbrev to_sec : RowPlace → Bool
  to_sec r = is_same (link_at at r).target sec

  seen_row : (r : RowPlace) → Contains list r → link_at at r ≡ row_of at sec r.place
  seen_row r has =
      let w = all_at (λ x. IsListed at x) list r listed.stand has in
      (λ i. record { user = sym w.user i; entry = sym w.entry i; target = ap (λ o. option_map_or (λ c. c.row.target) o r.user) w.is i }) ∙ sym (row_of_is at sec r.place w.row w.is)

  -- the links to the section, by their places
  by_place : (xs : List RowPlace) → ((x : RowPlace) → Contains xs x → Contains list x)
      → links_to sec (map (link_at at) xs) ≡ map (row_of at sec) (map (λ r. r.place) (filter to_sec xs))
  by_place [] inside = refl
  by_place (r ∷ xs) inside = go (to_sec r) (by_place xs (λ y has. inside y (Contains-cons r y xs has)))
    where
      go : (b : Bool) → links_to sec (map (link_at at) xs) ≡ map (row_of at sec) (map (λ r. r.place) (filter to_sec xs))
          → cond b (link_at at r ∷ links_to sec (map (link_at at) xs)) (links_to sec (map (link_at at) xs)) ≡ map (row_of at sec) (map (λ r. r.place) (cond b (r ∷ filter to_sec xs) (filter to_sec xs)))
      go true e = λ i. seen_row r (inside r (Contains-head r xs)) i ∷ e i
      go false e = e

  of_places : (xs : List RowPlace) (p : ℕ) → Has (map (λ r. r.place) (filter to_sec xs)) p → (r : RowPlace) × Contains xs r × (r.place ≡ p) × (to_sec r ≡ true)
  of_places [] p has = absurd has
  of_places (r ∷ xs) p has = go (to_sec r) refl (of_places xs p) has
    where
      go : (b : Bool) → to_sec r ≡ b → (Has (map (λ r. r.place) (filter to_sec xs)) p → (x : RowPlace) × Contains xs x × (x.place ≡ p) × (to_sec x ≡ true))
          → Has (map (λ r. r.place) (cond b (r ∷ filter to_sec xs) (filter to_sec xs))) p → (x : RowPlace) × Contains (r ∷ xs) x × (x.place ≡ p) × (to_sec x ≡ true)
      go true e later has =
          elim has [
            | inl here ↦ (r, Contains-head r xs, here, e)
            | inr there ↦ let w = later there in (w.0, Contains-cons r w.0 xs w.1, w.2, w.3)
          ]
      go false e later has = let w = later has in (w.0, Contains-cons r w.0 xs w.1, w.2, w.3)

  in_places : (xs : List RowPlace) (r : RowPlace) → Contains xs r → to_sec r ≡ true → Has (map (λ r. r.place) (filter to_sec xs)) r.place
  in_places [] r has to = absurd (no_element r has)
  in_places (x ∷ xs) r has to = go (to_sec x) refl (in_places xs r)
    where
      go : (b : Bool) → to_sec x ≡ b → (Contains xs r → to_sec r ≡ true → Has (map (λ r. r.place) (filter to_sec xs)) r.place)
          → Has (map (λ r. r.place) (cond b (x ∷ filter to_sec xs) (filter to_sec xs))) r.place
      go true e later = elim (Contains-cons_cases x r xs has) [ inl here ↦ inl (ap (λ z. z.place) here) | inr there ↦ inr (later there to) ]
      go false e later =
          elim (Contains-cons_cases x r xs has) [
            | inl here ↦ absurd (false≢true (sym e ∙ ap to_sec here ∙ to))
            | inr there ↦ later there to
          ]

  apart_places : (xs : List RowPlace) → RowsRise xs → ((x : RowPlace) → Contains xs x → Contains list x) → IsApart (map (λ r. r.place) (filter to_sec xs))
  apart_places [] rises inside = tt
  apart_places (r ∷ xs) rises inside = go (to_sec r) (apart_places xs rises.1 (λ y has. inside y (Contains-cons r y xs has)))
    where
      lack : (ps : List ℕ) → ((p : ℕ) → Has ps p → p ≢ r.place) → Lacks ps r.place
      lack [] other = tt
      lack (p ∷ ps) other = (other p (inl refl), lack ps (λ q has. other q (inr has)))

      differs : (p : ℕ) → Has (map (λ r. r.place) (filter to_sec xs)) p → p ≢ r.place
      differs p has same =
          let w = of_places xs p has in
          let e : w.0 ≡ r = same_place at list w.0 r listed (inside w.0 (Contains-cons r w.0 xs w.1)) (inside r (Contains-head r xs)) (w.2 ∙ same) in
          false≢true (sym (row_irreflexive r) ∙ ap (below_row_place r) (sym e) ∙ all_at (λ y. below_row_place r y ≡ true) xs w.0 rises.0 w.1)

      go : (b : Bool) → IsApart (map (λ r. r.place) (filter to_sec xs)) → IsApart (map (λ r. r.place) (cond b (r ∷ filter to_sec xs) (filter to_sec xs)))
      go true apart = (lack (map (λ r. r.place) (filter to_sec xs)) differs, apart)
      go false apart = apart

  -- the chain of the section has the links to it
  pub users_walked : (s : Section) → s.key ≡ sec → IsChain at s → IsPermutation (links_to sec (map (link_at at) list)) (walked at s.users s.first)
  users_walked s key chain =
      let places = map (λ r. r.place) (filter to_sec list) in
      let first : links_to sec (map (link_at at) list) ≡ map (row_of at sec) places = by_place list (λ x has. has) in
      let last : walked at s.users s.first ≡ map (row_of at sec) chain.places =
      ap (λ n. walked at n s.first) (sym chain.count) ∙ walked_places at sec s.key None s.first chain.places chain.linked
      in
      let same = permuted places chain.places (apart_places list listed.rise (λ x has. has)) chain.apart
      (λ p has.
      let w = of_places list p has in
      let v = all_at (λ x. IsListed at x) list w.0 listed.stand w.1 in
      let to : v.row.row.target ≡ s.key = sym (ap (λ o. option_map_or (λ c. c.row.target) o w.0.user) v.is) ∙ same_key (link_at at w.0).target sec w.3 ∙ sym key in
      chain.whole p v.row (ap at (sym w.2) ∙ v.is) to)
      (λ p has.
      let w = linked_at at s.key None s.first chain.places p chain.linked has in
      let r : RowPlace = record { user = w.0.row.user; entry = w.0.row.entry; place = p } in
      in_places list r (listed.listed p w.0 w.1) (key_same (link_at at r).target sec (ap (λ o. option_map_or (λ c. c.row.target) o r.user) w.1 ∙ w.2 ∙ key)))
      in
      subst (λ l. IsPermutation l (walked at s.users s.first)) (sym first)
      (subst (λ l. IsPermutation (map (row_of at sec) places) l) (sym last) (IsPermutation-map (row_of at sec) places chain.places same))

  pub users_run : (s : Section) → IsChain at s → IsRun at s.first s.users
  users_run s chain = record { key = s.key; before = None; places = chain.places; counted = chain.count; linked = chain.linked }
