-- One section more.
use Rattle.std.proofs.Common.{◌≡◌, ◌≢◌, ◌⊎◌, inl, inr, ℕ, zero, suc, ◌+◌, ◌<◌, Bool, true, ◌&&◌, ◌||◌, eqb, ltb, List, [], ◌∷◌, ◌++◌, Option, Some, None, length, get_or, take, map, refl, sym, ap, subst, ◌∙◌, arith, tests, Contains}
use Rattle.std.specs.List.{All}
use Rattle.std.specs.List.Sorted.{IsStrictlyIncreasing}
use Rattle.std.proofs.lemmas.Bool.{cases_eq, false≢true}
use Rattle.std.proofs.lemmas.Option.{same_Some}
use Rattle.slab.proofs.SlabLemmas.{Contains-cons, Contains-cons_cases}
use Rattle.cell_num.specs.declared.ids.SecKey.{SecKey}
use Rattle.cell_world.specs.World.{key_of}
use Rattle.cell_graph.specs.declared.rows.ChainRow.{ChainRow}
use Rattle.cell_graph.specs.declared.section.Section.{Section}
use Rattle.cell_graph.specs.declared.order.SectionPlace.{SectionPlace}
use Rattle.cell_graph.specs.declared.order.RowPlace.{RowPlace}
use Rattle.cell_graph.specs.Chains.{AreChained, IsChain, IsHome}
use Rattle.cell_graph.specs.Listed.{IsWhole, SectionsListed}
use Rattle.cell_graph.specs.Lists.{below_section_place}
use Rattle.cell_graph.specs.Order.{Rises, below_section}
use Rattle.cell_graph.proofs.Linked.{none_some}
use Rattle.cell_graph.proofs.Listing.{section_irreflexive}
use Rattle.cell_graph.proofs.Rising.{all_at, all_from, at_index, of_map, Contains-head, no_element}

pub of_push : {X : Type 0} (xs : List X) (y x : X) → Contains (xs ++ y ∷ []) x → (y ≡ x) ⊎ Contains xs x
of_push [] y x has = Contains-cons_cases y x [] has
of_push (z ∷ xs) y x has =
    elim (Contains-cons_cases z x (xs ++ y ∷ []) has) [
      | inl here ↦ inr (subst (λ w. Contains (z ∷ xs) w) here (Contains-head z xs))
      | inr later ↦ elim (of_push xs y x later) [ inl new ↦ inl new | inr old ↦ inr (Contains-cons z x xs old) ]
    ]

pub in_push_new : {X : Type 0} (xs : List X) (y : X) → Contains (xs ++ y ∷ []) y
in_push_new [] y = Contains-head y []
in_push_new (z ∷ xs) y = Contains-cons z y (xs ++ y ∷ []) (in_push_new xs y)

pub in_push : {X : Type 0} (xs : List X) (y x : X) → Contains xs x → Contains (xs ++ y ∷ []) x
in_push [] y x has = absurd (no_element x has)
in_push (z ∷ xs) y x has =
    elim (Contains-cons_cases z x xs has) [
      | inl here ↦ subst (λ w. Contains (z ∷ (xs ++ y ∷ [])) w) here (Contains-head z (xs ++ y ∷ []))
      | inr later ↦ Contains-cons z x (xs ++ y ∷ []) (in_push xs y x later)
    ]

rises_push : {X : Type 0} (lt : X → X → Bool) (xs : List X) (y : X) → Rises lt xs → ((x : X) → Contains xs x → lt x y ≡ true) → Rises lt (xs ++ y ∷ [])
rises_push lt [] y rises below = (tt, tt)
rises_push lt (x ∷ xs) y rises below = (
  all_from (λ z. lt x z ≡ true) (xs ++ y ∷ []) (λ z has. elim (of_push xs y z has) [
    | inl new ↦ subst (λ w. lt x w ≡ true) new (below x (Contains-head x xs))
    | inr old ↦ all_at (λ w. lt x w ≡ true) xs z rises.0 old
  ]),
  rises_push lt xs y rises.1 (λ z has. below z (Contains-cons x z xs has)),
)

module _ (sections new : ℕ → Option Section) (list : List SectionPlace) (home : ℕ) (key : SecKey)
    (empty : sections home ≡ None) (is : new home ≡ Some (record { key = key; first = None; users = 0 })) (others : (p : ℕ) → p ≢ home → new p ≡ sections p)
    (above : (s : SectionPlace) → Contains list s → below_section s.key key ≡ true) where
  abbrev added : Section
  added = record { key = key; first = None; users = 0 }

  abbrev item : SectionPlace
  item = record { key = key; place = home }

  not_home : (p : ℕ) (s : Section) → sections p ≡ Some s → p ≢ home
  not_home p s there same = none_some s (sections p) (ap sections same ∙ empty) there

  old_key : (listed : SectionsListed sections list) (p : ℕ) (s : Section) → sections p ≡ Some s → s.key ≡ key → ⊥
  old_key listed p s there same =
      let below = above (record { key = s.key; place = p }) (listed.listed p s there) in
      false≢true (sym (section_irreflexive item) ∙ ap (λ k. below_section k key) (sym same) ∙ below)

  sections_more : SectionsListed sections list → SectionsListed new (list ++ item ∷ [])
  sections_more listed =
      record {
        rise = rises_push below_section_place list item listed.rise above;
        stand = all_from (λ s. IsHome new s.place s.key) (list ++ item ∷ []) (λ s has. elim (of_push list item s has) [
          | inl here ↦ subst (λ x. IsHome new x.place x.key) here (record { section = added; is = is; named = refl })
          | inr old ↦
              let w = all_at (λ x. IsHome sections x.place x.key) list s listed.stand old in
              record { section = w.section; is = others s.place (not_home s.place w.section w.is) ∙ w.is; named = w.named }
        ]);
        listed = λ p s there. elim (cases_eq p home) [
          | inl same ↦
              let e : added ≡ s = same_Some added s (sym is ∙ ap new (sym same) ∙ there) in
              subst (λ (x : SectionPlace). Contains (list ++ item ∷ []) x) (λ i. record { key = (e i).key; place = sym same i }) (in_push_new list item)
          | inr other ↦ in_push list item (record { key = s.key; place = p }) (listed.listed p s (sym (others p other) ∙ there))
        ];
      }

  chained_more : (rows : ℕ → Option ChainRow) → SectionsListed sections list → AreChained rows sections → AreChained rows new
  chained_more rows listed chained =
      record {
        chain = λ h t there. elim (cases_eq h home) [
          | inl same ↦ subst (IsChain rows) (same_Some added t (sym is ∙ ap new (sym same) ∙ there)) own
          | inr other ↦ chained.chain h t (sym (others h other) ∙ there)
        ];
        present = λ p row there.
            let w = chained.present p row there in
            record { home = w.home; section = w.section; is = others w.home (not_home w.home w.section w.is) ∙ w.is; named = w.named };
        once = λ h o a b p q same. elim (cases_eq h home) [
          | inl h_home ↦ elim (cases_eq o home) [
            | inl o_home ↦ h_home ∙ sym o_home
            | inr o_other ↦
                let e : added ≡ a = same_Some added a (sym is ∙ ap new (sym h_home) ∙ p) in
                absurd (old_key listed o b (sym (others o o_other) ∙ q) (sym same ∙ ap (λ s. s.key) (sym e)))
          ]
          | inr h_other ↦ elim (cases_eq o home) [
            | inl o_home ↦
                let e : added ≡ b = same_Some added b (sym is ∙ ap new (sym o_home) ∙ q) in
                absurd (old_key listed h a (sym (others h h_other) ∙ p) (same ∙ ap (λ s. s.key) (sym e)))
            | inr o_other ↦ chained.once h o a b (sym (others h h_other) ∙ p) (sym (others o o_other) ∙ q) same
          ]
        ];
      }
    where
      own : IsChain rows added
      own = record {
        places = [];
        count = refl;
        apart = tt;
        linked = refl;
        whole = λ p row there to.
            let w = chained.present p row there in absurd (old_key listed w.home w.section w.is (w.named ∙ to));
      }

  pub whole_more : (after : List SectionPlace) (rows : ℕ → Option ChainRow) (row_list : List RowPlace) → after ≡ list ++ record { key = key; place = home } ∷ []
      → IsWhole rows sections list row_list → IsWhole rows new after row_list
  whole_more after rows row_list e whole =
      subst (λ l. IsWhole rows new l row_list) (sym e) (record {
        sections_listed = sections_more whole.sections_listed;
        rows_listed = whole.rows_listed;
        chained = chained_more rows whole.sections_listed whole.chained;
      })

-- a section of a lower cell, or a lower section of the same
key_above : (a b c d : ℕ) → a < c → (ltb a c || eqb a c && ltb b d) ≡ true
key_above a b c d h = grind (arith, tests)

key_above_in : (a b d : ℕ) → b < d → (ltb a a || eqb a a && ltb b d) ≡ true
key_above_in a b d h = grind (arith, tests)

increases : (xs : List ℕ) → IsStrictlyIncreasing xs → (i j : ℕ) → i < j → j < length xs → get_or xs i 0 < get_or xs j 0
increases xs rising i zero below within = absurd (omega arith)
increases xs rising i (suc j) below within =
    let step : get_or xs j 0 < get_or xs (suc j) 0 = subst (λ n. get_or xs j 0 < get_or xs n 0) e (rising j (omega arith)) in
    elim (cases_eq i j) [
      | inl same ↦ subst (λ k. get_or xs k 0 < get_or xs (suc j) 0) (sym same) step
      | inr other ↦ let before = increases xs rising i j (omega arith) (omega arith) in omega (arith, before, step)
    ]
  where
    e : j + 1 ≡ suc j
    e = omega arith

taken : (xs : List ℕ) (i v : ℕ) → Contains (take i xs) v → (j : ℕ) × (j < i) × (get_or xs j 0 ≡ v)
taken xs zero v has = absurd (no_element v has)
taken [] (suc i) v has = absurd (no_element v has)
taken (x ∷ xs) (suc i) v has =
    elim (Contains-cons_cases x v (take i xs) has) [
      | inl here ↦ (0, omega arith, here)
      | inr later ↦ let w = taken xs i v later in (suc w.0, omega (arith, w.1), w.2)
    ]

of_append : {X : Type 0} (xs ys : List X) (x : X) → Contains (xs ++ ys) x → Contains xs x ⊎ Contains ys x
of_append [] ys x has = inr has
of_append (z ∷ xs) ys x has =
    elim (Contains-cons_cases z x (xs ++ ys) has) [
      | inl here ↦ inl (subst (λ w. Contains (z ∷ xs) w) here (Contains-head z xs))
      | inr later ↦ elim (of_append xs ys x later) [ inl a ↦ inl (Contains-cons z x xs a) | inr b ↦ inr b ]
    ]

-- the next section of a cell is above those before it
pub all_below : (old : List SecKey) (secs : List ℕ) (cell i : ℕ) → All (λ k. k.cell.0 < cell) old → IsStrictlyIncreasing secs → i < length secs
    → All (λ k. below_section k (key_of cell (get_or secs i 0)) ≡ true) (old ++ map (key_of cell) (take i secs))
all_below old secs cell i above rising within k d inside =
    let x = get_or (old ++ map (key_of cell) (take i secs)) k d in
    elim (of_append old (map (key_of cell) (take i secs)) x (at_index (old ++ map (key_of cell) (take i secs)) k d inside)) [
      | inl a ↦ key_above x.cell.0 x.section cell (get_or secs i 0) (subst (λ w. w.cell.0 < cell) a.2 (above a.0 x a.1))
      | inr b ↦
          let w = of_map (key_of cell) (take i secs) x b in
          let v = taken secs i w.0 w.1 in
          let lower : w.0 < get_or secs i 0 = subst (λ n. n < get_or secs i 0) v.2 (increases secs rising v.0 i v.1 within) in
          subst (λ q. below_section q (key_of cell (get_or secs i 0)) ≡ true) w.2 (key_above_in cell w.0 (get_or secs i 0) lower)
    ]
