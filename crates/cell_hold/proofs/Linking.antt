-- The links of a cell, gone over one by one.
use Rattle.std.proofs.Common.{◌≡◌, refl, sym, ◌∙◌, ap, ℕ, Bool, true, false, ◌||◌, List, [], ◌∷◌}
use Rattle.std.proofs.lemmas.Bool.{eq-eqb, ne_eqb}
use Rattle.std.specs.Prelude.{◌==◌, filter}
use Rattle.std.specs.List.{list_any}
use Rattle.cell_num.specs.declared.ids.CellId.{CellId}
use Rattle.cell_graph.specs.Links.{Links}
use Rattle.cell_world.specs.declared.state.LinkRow.{LinkRow}
use Rattle.cell_hold.specs.Adds.{Adds}
use Rattle.cell_hold.specs.Reached.{links_lead}
use Rattle.cell_hold.proofs.Adding.{added_same, added_then, in_room, none_added}
use Rattle.cell_hold.proofs.Rows.{any_filtered}

-- one of these links leads there
abbrev pub some_leads : List LinkRow → ℕ → Bool
some_leads rows c = list_any (λ (row : LinkRow). row.target.cell.0 == c) rows

-- those of the cell decide
pub own_lead : (graph : Links) (a c : ℕ) (rows : List LinkRow) → rows ≡ filter (λ r. r.user.cell.0 == a) graph.rows → some_leads rows c ≡ links_lead graph a c
own_lead graph a c rows is = ap (λ rs. some_leads rs c) is ∙ any_filtered (λ (row : LinkRow). row.target.cell.0 == c) (λ (row : LinkRow). row.user.cell.0 == a) graph.rows

-- the next link decides, or else those after it
module _ (graph : Links) (a c : ℕ) (left next : List LinkRow) (row : LinkRow) (is : left ≡ row ∷ next) where
  pub link_leads : row.target.cell.0 ≡ c → some_leads left c ≡ links_lead graph a c → true ≡ links_lead graph a c
  link_leads e k = sym (ap (λ b. b || some_leads next c) (eq-eqb row.target.cell.0 c e)) ∙ (ap (λ rows. some_leads rows c) (sym is) ∙ k)

  pub link_passed : (row.target.cell.0 ≡ c → ⊥) → some_leads left c ≡ links_lead graph a c → some_leads next c ≡ links_lead graph a c
  link_passed e k = sym (ap (λ b. b || some_leads next c) (ne_eqb row.target.cell.0 c e)) ∙ (ap (λ rows. some_leads rows c) (sym is) ∙ k)

pub no_link : (graph : Links) (a c : ℕ) (left : List LinkRow) → left ≡ [] → some_leads left c ≡ links_lead graph a c → false ≡ links_lead graph a c
no_link graph a c left is k = ap (λ rows. some_leads rows c) (sym is) ∙ k

-- what has been gone over and what is left are all links of the cell
pub record TargetsSoFar (graph : Links) (a : ℕ) (left : List LinkRow) (room : ℕ) (old new : List CellId) : Type 0 where
  pub test : ℕ → Bool
  pub whole : (c : ℕ) → (test c || some_leads left c) ≡ links_lead graph a c
  pub added : Adds test room old new

or_false : (b : Bool) → (b || false) ≡ b
or_false true = refl
or_false false = refl

or_group : (x y z : Bool) → ((x || y) || z) ≡ (x || (y || z))
or_group true y z = refl
or_group false y z = refl

module _ (graph : Links) (a : ℕ) (room : ℕ) (old : List CellId) where
  pub targets_begun : (rows : List LinkRow) → rows ≡ filter (λ r. r.user.cell.0 == a) graph.rows → TargetsSoFar graph a rows room old old
  targets_begun rows is = record { test = λ c. false; whole = λ c. own_lead graph a c rows is; added = none_added (λ c. false) room old (λ c. refl) }

  pub targets_more : (left next : List LinkRow) (row : LinkRow) (mid new : List CellId) (now : ℕ) → left ≡ row ∷ next → now ≡ room → TargetsSoFar graph a left room old mid → Adds (λ c. row.target.cell.0 == c) now mid new → TargetsSoFar graph a next room old new
  targets_more left next row mid new now is e s t =
      record {
        test = λ c. s.test c || row.target.cell.0 == c;
        whole = λ c. or_group (s.test c) (row.target.cell.0 == c) (some_leads next c) ∙ (ap (λ rows. s.test c || some_leads rows c) (sym is) ∙ s.whole c);
        added = added_then s.test (λ c. row.target.cell.0 == c) room old mid new s.added (in_room (λ c. row.target.cell.0 == c) now room mid new e t);
      }

  pub targets_done : (left : List LinkRow) (new : List CellId) → left ≡ [] → TargetsSoFar graph a left room old new → Adds (links_lead graph a) room old new
  targets_done left new is s =
      added_same s.test (links_lead graph a) room old new
      (λ c. sym (or_false (s.test c)) ∙ (ap (λ rows. s.test c || some_leads rows c) (sym is) ∙ s.whole c)) s.added
