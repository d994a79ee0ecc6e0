-- Places of an arena that are emptied one after another, and what is left of the lists.
use Rattle.std.proofs.Common.{◌≡◌, ◌≢◌, inl, inr, ℕ, zero, suc, ◌+◌, ◌<◌, Bool, true, false, cond, not, List, [], ◌∷◌, ◌++◌, Option, Some, length, get_or, take, map, refl, sym, ap, subst, ◌∙◌, arith, Contains}
use Rattle.std.specs.Prelude.{filter, option_map}
use Rattle.std.proofs.lemmas.Bool.{cases_eq, false≢true}
use Rattle.std.proofs.lemmas.List.{take_more}
use Rattle.std.proofs.lemmas.Option.{same_Some}
use Rattle.slab.proofs.SlabLemmas.{Contains-cons_cases}
use Rattle.cell_world.specs.declared.state.LinkRow.{LinkRow}
use Rattle.cell_graph.specs.declared.rows.ChainRow.{ChainRow}
use Rattle.cell_graph.specs.declared.section.Section.{Section}
use Rattle.cell_graph.specs.declared.order.SectionPlace.{SectionPlace}
use Rattle.cell_graph.specs.declared.order.RowPlace.{RowPlace}
use Rattle.cell_graph.specs.Chains.{AreChained, IsHome, SameKeys}
use Rattle.cell_graph.specs.Dropped.{AreDropped, DropsIf, links_at}
use Rattle.cell_graph.specs.Listed.{IsWhole, RowsListed, SectionsListed, IsListed}
use Rattle.cell_graph.specs.Lists.{below_row_place, below_section_place}
use Rattle.cell_graph.specs.Order.{Rises}
use Rattle.cell_graph.specs.Places.{link_at}
use Rattle.cell_graph.proofs.Adding.{in_push, in_push_new, of_push}
use Rattle.cell_graph.proofs.Chained.{row_behind}
use Rattle.cell_graph.proofs.Linked.{none_some}
use Rattle.cell_graph.proofs.Listing.{link_same, row_irreflexive, same_place, section_irreflexive}
use Rattle.cell_graph.proofs.Outside.{in_filter, no_section, of_filter, of_take}
use Rattle.cell_graph.proofs.Ranges.{filter_mapped}
use Rattle.cell_graph.proofs.Rebinding.{listed_same}
use Rattle.cell_graph.proofs.Rising.{all_at, all_from, at_index, map_same, no_element}
use Rattle.cell_graph.proofs.Wholes.{sections_same}

module _ {X : Type 0} (lt : X → X → Bool) where
  -- an element before another is below it
  pub taken_below : (xs : List X) (i : ℕ) (d x : X) → Rises lt xs → i < length xs → Contains (take i xs) x → lt x (get_or xs i d) ≡ true
  taken_below [] i d x rises within has = absurd (omega arith)
  taken_below (y ∷ xs) zero d x rises within has = absurd (no_element x has)
  taken_below (y ∷ xs) (suc i) d x rises within has =
      elim (Contains-cons_cases y x (take i xs) has) [
        | inl here ↦ subst (λ z. lt z (get_or xs i d) ≡ true) here (all_at (λ z. lt y z ≡ true) xs (get_or xs i d) rises.0 (at_index xs i d (omega arith)))
        | inr later ↦ taken_below xs i d x rises.1 (omega arith) later
      ]

  pub rises_filter : (f : X → Bool) (xs : List X) → Rises lt xs → Rises lt (filter f xs)
  rises_filter f [] rises = tt
  rises_filter f (x ∷ xs) rises = go (f x) (rises_filter f xs rises.1)
    where
      go : (b : Bool) → Rises lt (filter f xs) → Rises lt (cond b (x ∷ filter f xs) (filter f xs))
      go true later = (all_from (λ y. lt x y ≡ true) (filter f xs) (λ y has. all_at (λ z. lt x z ≡ true) xs y rises.0 (of_filter f xs y has).0), later)
      go false later = later

-- what stands past the end of a list
abbrev pub no_row : RowPlace
no_row = record { user = no_section.key; entry = 0; place = 0 }

unlisted : (b : Bool) → not b ≡ true → b ≡ false
unlisted true h = sym h
unlisted false h = refl

module _ {E Y : Type 0} (place_of : E → ℕ) (out : E → Bool) (seen : ℕ → Option Y) where
  pub none_dropped : (list : List E) → AreDropped place_of out seen seen (take 0 list)
  none_dropped list = record { kept = λ p other. refl; gone = λ e has h. absurd (no_element e has) }

  -- one more of the list
  pub dropped_more : (list : List E) (i : ℕ) (d : E) (now new : ℕ → Option Y) → i < length list → AreDropped place_of out seen now (take i list)
      → DropsIf (out (get_or list i d)) now new (place_of (get_or list i d)) → AreDropped place_of out seen new (take (i + 1) list)
  dropped_more list i d now new within dropped drops =
      subst (λ l. AreDropped place_of out seen new l) (sym (take_more list i d within)) (go (out e) refl drops)
    where
      e : E
      e = get_or list i d

      go : (b : Bool) → out e ≡ b → DropsIf b now new (place_of e) → AreDropped place_of out seen new (take i list ++ e ∷ [])
      go true is none = record {
        kept = λ p other. none.others p (λ same. other e (in_push_new (take i list) e) is (sym same)) ∙ dropped.kept p (λ x has h. other x (in_push (take i list) e x has) h);
        gone = λ x has h. elim (cases_eq (place_of x) (place_of e)) [
          | inl same ↦ ap new same ∙ none.gone
          | inr differs ↦ elim (of_push (take i list) e x has) [
            | inl here ↦ absurd (differs (ap place_of (sym here)))
            | inr there ↦ none.others (place_of x) differs ∙ dropped.gone x there h
          ]
        ];
      }
      go false is same = record {
        kept = λ p other. same p ∙ dropped.kept p (λ x has h. other x (in_push (take i list) e x has) h);
        gone = λ x has h. elim (of_push (take i list) e x has) [
          | inl here ↦ absurd (false≢true (sym is ∙ ap out here ∙ h))
          | inr there ↦ same (place_of x) ∙ dropped.gone x there h
        ];
      }

  -- what still stands is at no place that is emptied
  pub standing : (list : List E) (new : ℕ → Option Y) → AreDropped place_of out seen new list → (p : ℕ) (y : Y) → new p ≡ Some y → seen p ≡ Some y
  standing list new dropped p y is = sym (dropped.kept p (λ e has h same. none_some y (new p) (ap new (sym same) ∙ dropped.gone e has h) is)) ∙ is

  -- and what is listed there stays
  pub stays : (list : List E) (new : ℕ → Option Y) → AreDropped place_of out seen new list → (e : E) (y : Y) → Contains list e → new (place_of e) ≡ Some y → Contains (filter (λ x. not (out x)) list) e
  stays list new dropped e y has is = go (out e) refl
    where
      go : (b : Bool) → out e ≡ b → Contains (filter (λ x. not (out x)) list) e
      go true h = absurd (none_some y (new (place_of e)) (dropped.gone e has h) is)
      go false h = in_filter (λ x. not (out x)) list e has (ap not h)

-- links
module _ (at now : ℕ → Option ChainRow) (list : List RowPlace) (listed : RowsListed at list) (out : RowPlace → Bool) where
  -- no two places of the list are one
  places_apart : (i : ℕ) (d x : RowPlace) → i < length list → Contains (take i list) x → Contains list x → x.place ≢ (get_or list i d).place
  places_apart i d x within before has same =
      let r : RowPlace = get_or list i d in
      let e : x ≡ r = same_place at list x r listed has (at_index list i d within) same in
      false≢true (sym (row_irreflexive r) ∙ ap (λ z. below_row_place z r) (sym e) ∙ taken_below below_row_place list i d x listed.rise within before)

  -- the next link still stands
  pub next_stands : (i : ℕ) (d : RowPlace) → i < length list → AreDropped (λ r. r.place) out (links_at at) (links_at now) (take i list)
      → (row : ChainRow) × (now (get_or list i d).place ≡ Some row)
  next_stands i d within dropped =
      let r : RowPlace = get_or list i d in
      let w = all_at (λ x. IsListed at x) list r listed.stand (at_index list i d within) in
      let same = dropped.kept r.place (λ x has h. places_apart i d x within has (of_take i list x has)) in
      let v = row_behind (now r.place) (at r.place) w.row (sym same) w.is in
      (v.0, v.1)

  module _ (dropped : AreDropped (λ r. r.place) out (links_at at) (links_at now) list) where
    abbrev pub left : List RowPlace
    left = filter (λ r. not (out r)) list

    same_link : (r : RowPlace) → Contains left r → links_at now r.place ≡ links_at at r.place
    same_link r has =
        let w = of_filter (λ r. not (out r)) list r has in
        dropped.kept r.place (λ x there h same. false≢true (sym (unlisted (out r) w.1) ∙ ap out (sym (same_place at list x r listed there w.0 same)) ∙ h))

    pub left_listed : RowsListed now left
    left_listed =
        record {
          rise = rises_filter below_row_place (λ r. not (out r)) list listed.rise;
          stand = all_from (λ r. IsListed now r) left (λ r has.
              listed_same at now r (same_link r has) (all_at (λ x. IsListed at x) list r listed.stand (of_filter (λ r. not (out r)) list r has).0));
          listed = λ p row is.
              let there : links_at at p ≡ Some row.row = standing (λ r. r.place) out (links_at at) list (links_at now) dropped p row.row (ap (option_map (λ c. c.row)) is) in
              let v = row_behind (at p) (Some row) row (sym there) refl in
              let x : RowPlace = record { user = row.row.user; entry = row.row.entry; place = p } in
              let has : Contains list x = subst (λ (l : LinkRow). Contains list (record { user = l.user; entry = l.entry; place = p })) v.2 (listed.listed p v.0 v.1) in
              stays (λ r. r.place) out (links_at at) list (links_at now) dropped x row.row has (ap (option_map (λ c. c.row)) is);
        }

    pub left_seen : map (link_at now) left ≡ map (link_at at) left
    left_seen = map_same (link_at now) (link_at at) left (λ r has. link_same at now r (same_link r has))

pub left_whole : (at now : ℕ → Option ChainRow) (sections sections' : ℕ → Option Section) (section_list : List SectionPlace) (list after : List RowPlace) (out : RowPlace → Bool)
    → IsWhole at sections section_list list → SameKeys sections sections' → AreChained now sections' → AreDropped (λ r. r.place) out (links_at at) (links_at now) list
    → after ≡ filter (λ r. not (out r)) list → IsWhole now sections' section_list after
left_whole at now sections sections' section_list list after out whole keys chained dropped is =
    record {
      sections_listed = sections_same sections sections' section_list keys whole.sections_listed;
      rows_listed = subst (λ l. RowsListed now l) (sym is) (left_listed at now list whole.rows_listed out dropped);
      chained = chained;
    }

-- the links that are seen are those whose users stay
pub left_links : (at now : ℕ → Option ChainRow) (list after : List RowPlace) (stay : LinkRow → Bool) (out : RowPlace → Bool) → ((r : RowPlace) → stay (link_at at r) ≡ not (out r))
    → RowsListed at list → AreDropped (λ r. r.place) out (links_at at) (links_at now) list → after ≡ filter (λ r. not (out r)) list
    → map (link_at now) after ≡ filter stay (map (link_at at) list)
left_links at now list after stay out same listed dropped is =
    ap (map (link_at now)) is
    ∙ left_seen at now list listed out dropped
    ∙ ap (λ f. map (link_at at) (filter f list)) (λ i r. sym (same r) i)
    ∙ sym (filter_mapped (link_at at) stay list)

-- sections
module _ (at now : ℕ → Option Section) (list : List SectionPlace) (listed : SectionsListed at list) (out : SectionPlace → Bool) where
  one_section : (x y : SectionPlace) → Contains list x → Contains list y → x.place ≡ y.place → x ≡ y
  one_section x y a b same =
      let v = all_at (λ s. IsHome at s.place s.key) list x listed.stand a in
      let w = all_at (λ s. IsHome at s.place s.key) list y listed.stand b in
      let key = sym v.named ∙ ap (λ (s : Section). s.key) (same_Some v.section w.section (sym v.is ∙ ap at same ∙ w.is)) ∙ w.named in
      λ i. record { key = key i; place = same i }

  pub next_section : (i : ℕ) (d : SectionPlace) → i < length list → AreDropped (λ s. s.place) out at now (take i list)
      → (section : Section) × (now (get_or list i d).place ≡ Some section)
  next_section i d within dropped =
      let r : SectionPlace = get_or list i d in
      let w = all_at (λ s. IsHome at s.place s.key) list r listed.stand (at_index list i d within) in (
        w.section,
        dropped.kept r.place (λ x has h same.
            let e : x ≡ r = one_section x r (of_take i list x has) (at_index list i d within) same in
            false≢true (sym (section_irreflexive r) ∙ ap (λ z. below_section_place z r) (sym e) ∙ taken_below below_section_place list i d x listed.rise within has))
            ∙ w.is,
      )

  module _ (dropped : AreDropped (λ s. s.place) out at now list) where
    pub sections_left : SectionsListed now (filter (λ s. not (out s)) list)
    sections_left =
        record {
          rise = rises_filter below_section_place (λ s. not (out s)) list listed.rise;
          stand = all_from (λ s. IsHome now s.place s.key) (filter (λ s. not (out s)) list) (λ s has.
              let w = of_filter (λ s. not (out s)) list s has in
              let v = all_at (λ s. IsHome at s.place s.key) list s listed.stand w.0 in
              let same = dropped.kept s.place (λ x there h e. false≢true (sym (unlisted (out s) w.1) ∙ ap out (sym (one_section x s there w.0 e)) ∙ h)) in
              record { section = v.section; is = same ∙ v.is; named = v.named });
          listed = λ p section is.
              let there : at p ≡ Some section = standing (λ s. s.place) out at list now dropped p section is in
              stays (λ s. s.place) out at list now dropped (record { key = section.key; place = p }) section (listed.listed p section there) is;
        }

    -- where no link leads into a section that is out
    pub whole_left : (rows : ℕ → Option ChainRow) (row_list : List RowPlace) (after : List SectionPlace) → after ≡ filter (λ s. not (out s)) list → IsWhole rows at list row_list
        → ((p : ℕ) (row : ChainRow) → rows p ≡ Some row → (s : SectionPlace) → Contains list s → s.key ≡ row.row.target → out s ≡ false) → IsWhole rows now after row_list
    whole_left rows row_list after is whole unused =
        subst (λ l. IsWhole rows now l row_list) (sym is) (record {
          sections_listed = sections_left;
          rows_listed = whole.rows_listed;
          chained = record {
            chain = λ h t e. whole.chained.chain h t (standing (λ s. s.place) out at list now dropped h t e);
            present = λ p row e.
                let w = whole.chained.present p row e in
                let same = dropped.kept w.home (λ x has h there.
                let v = all_at (λ s. IsHome at s.place s.key) list x listed.stand has in
                false≢true (sym (unused p row e x has (sym v.named ∙ ap (λ (s : Section). s.key) (same_Some v.section w.section (sym v.is ∙ ap at there ∙ w.is)) ∙ w.named)) ∙ h)) in
                record { home = w.home; section = w.section; is = same ∙ w.is; named = w.named };
            once = λ h o a b e f. whole.chained.once h o a b (standing (λ s. s.place) out at list now dropped h a e) (standing (λ s. s.place) out at list now dropped o b f);
          };
        })
