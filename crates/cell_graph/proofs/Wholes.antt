-- What always holds of a graph, after a link more, less or moved.
use Rattle.std.proofs.Common.{◌≡◌, inl, inr, ℕ, zero, suc, ◌<◌, ◌≤◌, Bool, true, false, List, [], ◌∷◌, Option, Some, None, length, get_or, map, refl, sym, ap, subst, ◌∙◌, arith, Contains}
use Rattle.std.specs.Prelude.{is_some, option_map}
use Rattle.std.specs.List.{AllByRecursion, insert, remove}
use Rattle.std.proofs.lemmas.Bool.{cases_eq}
use Rattle.cell_num.specs.declared.ids.SecKey.{SecKey}
use Rattle.cell_world.specs.declared.state.LinkRow.{LinkRow}
use Rattle.cell_graph.specs.declared.rows.ChainRow.{ChainRow}
use Rattle.cell_graph.specs.declared.section.Section.{Section}
use Rattle.cell_graph.specs.declared.order.SectionPlace.{SectionPlace}
use Rattle.cell_graph.specs.declared.order.RowPlace.{RowPlace}
use Rattle.cell_graph.specs.Order.{IsCut, below_row, with_link}
use Rattle.cell_graph.specs.Lists.{IsRowAt, has_row}
use Rattle.cell_graph.specs.Listed.{IsListed, SectionsListed, RowsListed, IsWhole}
use Rattle.cell_graph.specs.Chains.{AreChained, IsHome, SameLinks, SameKeys}
use Rattle.cell_graph.specs.Dropped.{HasNone, links_at}
use Rattle.cell_graph.specs.Heads.{HasNew}
use Rattle.cell_graph.specs.Edits.{without, placed}
use Rattle.cell_graph.specs.Moves.{moved}
use Rattle.cell_graph.specs.Places.{link_at}
use Rattle.cell_graph.proofs.Linked.{without_hit, without_miss, placed_miss}
use Rattle.cell_graph.proofs.Chained.{key_behind}
use Rattle.cell_graph.proofs.Rising.{all_at, all_from, at_index, in_map}
use Rattle.cell_graph.proofs.Listing.{home_of}
use Rattle.cell_graph.proofs.Rebinding.{moved_listed, moved_seen, bound_listed_more, bound_seen, unbound_listed, unbound_seen}

pub home_same : (at new : ℕ → Option Section) (home : ℕ) (key : SecKey) → SameKeys at new → IsHome at home key → IsHome new home key
home_same at new home key same w =
    let v = key_behind (new home) (at home) w.section (sym (same home)) w.is in
    record { section = v.0; is = v.1; named = v.2 ∙ w.named }

pub sections_same : (at new : ℕ → Option Section) (list : List SectionPlace) → SameKeys at new → SectionsListed at list → SectionsListed new list
sections_same at new list same listed =
    record {
      rise = listed.rise;
      stand = all_from (λ s. IsHome new s.place s.key) list (λ s has. home_same at new s.place s.key same (all_at (λ x. IsHome at x.place x.key) list s listed.stand has));
      listed = λ p section is.
          let v = key_behind (at p) (new p) section (same p) is in
          subst (λ k. Contains list (record { key = k; place = p })) v.2 (listed.listed p v.0 v.1);
    }

-- the link that is named at an index stands at its place
pub row_stands : (at : ℕ → Option ChainRow) (list : List RowPlace) (n : ℕ) (r : RowPlace) → AllByRecursion (λ x. IsListed at x) list → n < length list → r ≡ get_or list n r
    → is_some (at r.place) ≡ true
row_stands at list n r stand within is =
    ap is_some (all_at (λ x. IsListed at x) list r stand (subst (λ x. Contains list x) (sym is) (at_index list n r within))).is

-- the target of a link is named
pub target_listed : (rows : ℕ → Option ChainRow) (sections : ℕ → Option Section) (section_list : List SectionPlace) (p : ℕ) (row : ChainRow)
    → AreChained rows sections → SectionsListed sections section_list → rows p ≡ Some row → Contains (map (λ s. s.key) section_list) row.row.target
target_listed rows sections section_list p row chained listed is =
    let w = chained.present p row is in
    subst (λ k. Contains (map (λ s. s.key) section_list) k) w.named
    (in_map (λ s. s.key) section_list (record { key = w.section.key; place = w.home }) (listed.listed w.home w.section w.is))

pub target_named : (rows : ℕ → Option ChainRow) (sections : ℕ → Option Section) (section_list : List SectionPlace) (row_list : List RowPlace) (p : ℕ) (row : ChainRow)
    → IsWhole rows sections section_list row_list → rows p ≡ Some row → Contains (map (λ s. s.key) section_list) row.row.target
target_named rows sections section_list row_list p row whole is = target_listed rows sections section_list p row whole.chained whole.sections_listed is

-- a place that is emptied once its link is in no chain
pub chained_without : (mid new : ℕ → Option ChainRow) (sections : ℕ → Option Section) (place : ℕ) → ((p : ℕ) → new p ≡ without mid place p) → AreChained (without mid place) sections → AreChained new sections
chained_without mid new sections place gone chained = subst (λ at. AreChained at sections) (λ i p. sym (gone p) i) chained

pub emptied : (rows mid new : ℕ → Option ChainRow) (place : ℕ) → SameLinks rows mid → ((p : ℕ) → new p ≡ without mid place p) → HasNone (links_at rows) (links_at new) place
emptied rows mid new place same gone = record {
  gone = ap (option_map (λ c. c.row)) (gone place ∙ without_hit mid place place refl);
  others = λ p other. ap (option_map (λ c. c.row)) (gone p ∙ without_miss mid place p other) ∙ same p;
}

pub home_named : (rows : ℕ → Option ChainRow) (sections : ℕ → Option Section) (section_list : List SectionPlace) (row_list : List RowPlace) (key : SecKey) (place : ℕ)
    → IsWhole rows sections section_list row_list → Contains section_list (record { key = key; place = place }) → IsHome sections place key
home_named rows sections section_list row_list key place whole has = home_of sections section_list key place whole.sections_listed has

module _ (rows mid new : ℕ → Option ChainRow) (sections sections1 sections2 : ℕ → Option Section) (section_list : List SectionPlace) (row_list : List RowPlace)
    (whole : IsWhole rows sections section_list row_list) (once : SameKeys sections sections1) (twice : SameKeys sections1 sections2) where
  both : SameKeys sections sections2
  both p = twice p ∙ once p

  pub whole_moved : (n : ℕ) (d : RowPlace) (to : LinkRow) → IsRowAt row_list n to.user to.entry → SameLinks rows mid → HasNew mid new (get_or row_list n d).place to
      → AreChained new sections2 → IsWhole new sections2 section_list row_list
  whole_moved n d to at same fresh chained =
      record {
        sections_listed = sections_same sections sections2 section_list both whole.sections_listed;
        rows_listed = moved_listed rows mid new row_list (get_or row_list n d) to whole.rows_listed (at_index row_list n d at.within) (at.user_is d) (at.entry_is d) same fresh;
        chained = chained;
      }

  pub seen_moved : (n : ℕ) (d : RowPlace) (to : LinkRow) → IsRowAt row_list n to.user to.entry → SameLinks rows mid → HasNew mid new (get_or row_list n d).place to
      → map (link_at new) row_list ≡ moved (map (link_at rows) row_list) (to ∷ [])
  seen_moved n d to at same fresh =
      moved_seen rows mid new row_list (get_or row_list n d) to whole.rows_listed (at_index row_list n d at.within) (at.user_is d) (at.entry_is d) same fresh

pub cut_within : {X : Type 0} (p : X → Bool) (xs : List X) (n : ℕ) → IsCut p xs n → n ≤ length xs
cut_within p [] n cut = omega arith
cut_within p (x ∷ xs) zero cut = omega arith
cut_within p (x ∷ xs) (suc n) cut = let w = cut_within p xs n cut.1 in omega (arith, w)

-- a new link that is in no chain yet
pub unseen_yet : (rows mid : ℕ → Option ChainRow) (sections : ℕ → Option Section) (place : ℕ) (row : ChainRow) → rows place ≡ None
    → ((p : ℕ) → mid p ≡ placed rows place row p) → AreChained rows sections → AreChained (without mid place) sections
unseen_yet rows mid sections place row empty put chained = subst (λ at. AreChained at sections) (λ i p. same p i) chained
  where
    same : (p : ℕ) → rows p ≡ without mid place p
    same p =
        elim (cases_eq p place) [
          | inl here ↦ ap rows here ∙ empty ∙ sym (without_hit mid place p here)
          | inr other ↦ sym (without_miss mid place p other ∙ put p ∙ placed_miss rows place row p other)
        ]

pub fresh_from : (rows mid new : ℕ → Option ChainRow) (place : ℕ) (row : ChainRow) (link : LinkRow) → ((p : ℕ) → mid p ≡ placed rows place row p)
    → HasNew mid new place link → HasNew rows new place link
fresh_from rows mid new place row link put fresh =
    record {
      stands = fresh.stands;
      others = λ p other. fresh.others p other ∙ ap (option_map (λ c. c.row)) (put p ∙ placed_miss rows place row p other);
    }

module _ (rows new : ℕ → Option ChainRow) (sections sections' : ℕ → Option Section) (section_list : List SectionPlace) (row_list after : List RowPlace)
    (n place : ℕ) (row : LinkRow) (whole : IsWhole rows sections section_list row_list) (empty : rows place ≡ None)
    (fresh : HasNew rows new place row) (unbound : has_row row_list row.user row.entry ≡ false)
    (cut : IsCut (λ r. below_row r.user r.entry row.user row.entry) row_list n)
    (is : after ≡ insert row_list n (record { user = row.user; entry = row.entry; place = place })) where
  pub whole_bound : SameKeys sections sections' → AreChained new sections' → IsWhole new sections' section_list after
  whole_bound keys chained =
      record {
        sections_listed = sections_same sections sections' section_list keys whole.sections_listed;
        rows_listed = subst (λ l. RowsListed new l) (sym is) (bound_listed_more rows new row_list n place row whole.rows_listed cut unbound empty fresh);
        chained = chained;
      }

  pub seen_bound : map (link_at new) after ≡ with_link row (map (link_at rows) row_list)
  seen_bound =
      ap (map (link_at new)) is
      ∙ bound_seen rows new row_list n place row whole.rows_listed cut unbound empty fresh

module _ (rows new : ℕ → Option ChainRow) (sections sections' : ℕ → Option Section) (section_list : List SectionPlace) (row_list after : List RowPlace)
    (n : ℕ) (r : RowPlace) (whole : IsWhole rows sections section_list row_list) (inside : n < length row_list) (found : (d : RowPlace) → get_or row_list n d ≡ r)
    (gone : HasNone (links_at rows) (links_at new) r.place) (is : after ≡ remove row_list n) where
  pub whole_unbound : SameKeys sections sections' → AreChained new sections' → IsWhole new sections' section_list after
  whole_unbound keys chained =
      record {
        sections_listed = sections_same sections sections' section_list keys whole.sections_listed;
        rows_listed = subst (λ l. RowsListed new l) (sym is) (unbound_listed rows new row_list n r whole.rows_listed inside found gone);
        chained = chained;
      }

  pub seen_unbound : map (link_at new) after ≡ map (link_at rows) (remove row_list n)
  seen_unbound = ap (map (link_at new)) is ∙ unbound_seen rows new row_list n r whole.rows_listed inside found gone
