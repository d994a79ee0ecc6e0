-- The links of a machine that goes back.
use Rattle.std.proofs.Common.{◌≡◌, refl, sym, ap, ap₂, subst, ◌∙◌, arith, ℕ, ◌<◌, ◌≤◌, ◌⊎◌, inl, inr, Bool, true, false, not, ◌&&◌, List, [], ◌∷◌, ◌++◌, Option, Some, None}
use Rattle.std.specs.Prelude.{filter_map, ◌==◌}
use Rattle.std.proofs.lemmas.Bool.{eqb-true}
use Rattle.std.proofs.lemmas.List.Elements.{filter-append}
use Rattle.cell_num.specs.Lists.{holds, numbered, In}
use Rattle.cell_num.specs.declared.ids.CellId.{CellId}
use Rattle.cell_object.specs.declared.object.Entry.{Entry}
use Rattle.cell_world.specs.World.{Cell, World}
use Rattle.cell_world.specs.Answer.{numbers_of}
use Rattle.cell_world.specs.Coherent.{IsCoherent}
use Rattle.cell_world.specs.Linked.Relink.{link_of, link_to}
use Rattle.cell_world.specs.Linked.Target.{target_of}
use Rattle.cell_world.specs.declared.state.LinkRow.{LinkRow}
use Rattle.cell_world.specs.declared.state.Target.{Target}
use Rattle.cell_world.specs.declared.state.Target.TheVariants.{Section, Number}
use Rattle.cell_lemmas.specs.Grown.{links_from}
use Rattle.cell_lemmas.specs.Present.{JoinsPresent}
use Rattle.cell_num.proofs.Elements.{All-In, In-append, In-flat_map, In-map, In-none, In-right, filter_all, filter_none, found-In, map-In}
use Rattle.cell_lemmas.proofs.Targeting.Present.{In-filter_map, links_present}
use Rattle.cell_lemmas.proofs.Naming.Known.{older}
use Rattle.cell_graph.specs.Order.{Rises, below_link}
use Rattle.cell_graph.specs.Removal.{is_listed, is_outside_use, is_used_outside, links_without}
use Rattle.cell_commit.specs.Rewiring.{IsRewiring, backs, rows_of}
use Rattle.cell_commit.proofs.Rewired.{all_below, row_cases}
use Rattle.cell_commit.proofs.Turned.{turned_afters, turned_round, turned_with}
use Rattle.cell_change.proofs.Decision.LinksLead.{below_cells}
use Rattle.cell_unload.proofs.AllRemoved.{numbers}
use Rattle.cell_unload.proofs.Leftovers.{holds_numbers}
use Rattle.cell_lemmas.proofs.Holding.KeptPaths.{In-holds, holds-In}
use Rattle.cell_lemmas.proofs.Naming.Lookups.{filter_map-In}
use Rattle.cell_lemmas.specs.LinkSteps.{LinkStep, afters}

-- each link is of a cell whose number was given, and leads to one
module _ (w : World) (coherent : IsCoherent w) (r : LinkRow) (i : In r w.links) where
  ends : JoinsPresent w r
  ends = All-In (JoinsPresent w) w.links (links_present w coherent) r i

  pub user_below : r.user.cell.0 < w.next_cell
  user_below =
      let at = found-In (λ (c : Cell). c.id.0 == r.user.cell.0) w.cells ends.user.cell ends.user.present in
      subst (λ (n : ℕ). n < w.next_cell) (eqb-true ends.user.cell.id.0 r.user.cell.0 at.1) (older w coherent ends.user.cell at.0)

  pub target_below : r.target.cell.0 < w.next_cell
  target_below =
      let at = found-In (λ (c : Cell). c.id.0 == r.target.cell.0) w.cells ends.target.cell ends.target.present in
      subst (λ (n : ℕ). n < w.next_cell) (eqb-true ends.target.cell.id.0 r.target.cell.0 at.1) (older w coherent ends.target.cell at.0)

-- the links of cells are of these
pub links_of_cells : (w : World) (cells : List Cell) (r : LinkRow) → In r (links_from w cells) → (c : Cell) × In c cells × (r.user.cell.0 ≡ c.id.0)
links_of_cells w cells r i =
    let c = In-flat_map (λ c. filter_map (link_of w c) (numbered c.object.entries)) cells r i in
    let p = In-filter_map (link_of w c.0) (numbered c.0.object.entries) r c.2 in
    (c.0, c.1, at c.0 p.0 (target_of w c.0 p.0.1) p.2)
  where
    at : (c : Cell) (p : ℕ × Entry) (o : Option Target) → elim o as (λ _. Option LinkRow) [ None ↦ None | Some target ↦ link_to c p.0 p.1 target ] ≡ Some r → r.user.cell.0 ≡ c.id.0
    at c p None e = absurd cc
    at c p (Some (Section key offset addr)) e = let s : record { user = record { cell = c.id; section = p.1.section }; entry = p.0; target = key } ≡ r = cc in sym (ap (λ (l : LinkRow). l.user.cell.0) s)
    at c p (Some (Number value)) e = absurd cc

module _ (v : World) (coherent : IsCoherent v) (rows more : List LinkRow) (same : rows ≡ v.links) (cells : List CellId) (new : List Cell)
    (are : numbers cells ≡ numbers_of new) (above : (c : Cell) → In c new → v.next_cell ≤ c.id.0) (of : (r : LinkRow) → In r more → (c : Cell) × In c new × (r.user.cell.0 ≡ c.id.0)) where
  listed : (n : ℕ) → holds (numbers cells) n ≡ holds (numbers_of new) n
  listed n = ap (λ ns. holds ns n) are

  in_links : (r : LinkRow) → In r rows → In r v.links
  in_links r i = subst (λ (ls : List LinkRow). In r ls) same i

  -- an old link is of no new cell, and leads to none
  is_old : (n : ℕ) → n < v.next_cell → holds (numbers cells) n ≡ false
  is_old n l = listed n ∙ go (holds (numbers_of new) n) refl
    where
      go : (b : Bool) → holds (numbers_of new) n ≡ b → b ≡ false
      go false e = refl
      go true e =
          let d = In-map (λ (x : Cell). x.id.0) new n (holds-In (numbers_of new) n e) in
          let high = above d.0 d.1 in
          absurd (omega (arith, l, high, d.2))

  is_fresh : (r : LinkRow) → In r more → holds (numbers cells) r.user.cell.0 ≡ true
  is_fresh r i = let c = of r i in listed r.user.cell.0 ∙ In-holds (numbers_of new) r.user.cell.0 (subst (λ n. In n (numbers_of new)) (sym c.2) (map-In (λ (d : Cell). d.id.0) new c.0 c.1))

  -- an old link is below each new one
  pub old_below : (l : LinkRow) → In l rows → (m : LinkRow) → In m more → below_link l m ≡ true
  old_below l i m j =
      let c = of m j in
      let low = user_below v coherent l (in_links l i) in
      let high = above c.0 c.1 in
      below_cells l m (omega (arith, low, high, c.2))

  pub unused : is_used_outside cells (rows ++ more) ≡ false
  unused = In-none (is_outside_use cells) (rows ++ more) (λ r i. go r (In-append rows more r i))
    where
      go : (r : LinkRow) → In r rows ⊎ In r more → is_outside_use cells r ≡ false
      go r (inl i) = ap (λ b. b && not (is_listed cells r.user)) (holds_numbers cells r.target.cell.0 ∙ is_old r.target.cell.0 (target_below v coherent r (in_links r i)))
      go r (inr i) = ap (λ b. is_listed cells r.target && not b) (holds_numbers cells r.user.cell.0 ∙ is_fresh r i) ∙ never (is_listed cells r.target)
        where
          never : (b : Bool) → (b && false) ≡ false
          never true = refl
          never false = refl

  pub rows_left : links_without cells (rows ++ more) ≡ rows
  rows_left =
      filter-append (λ (r : LinkRow). not (is_listed cells r.user)) rows more
      ∙ ap₂ (λ (xs ys : List LinkRow). xs ++ ys)
      (filter_all (λ (r : LinkRow). not (is_listed cells r.user)) rows (λ r i. ap not (holds_numbers cells r.user.cell.0 ∙ is_old r.user.cell.0 (user_below v coherent r (in_links r i)))))
      (filter_none (λ (r : LinkRow). not (is_listed cells r.user)) more (λ r i. ap not (holds_numbers cells r.user.cell.0 ∙ is_fresh r i)))
      ∙ append_none rows
    where
      append_none : (xs : List LinkRow) → xs ++ [] ≡ xs
      append_none [] = refl
      append_none (x ∷ xs) = ap (λ ys. x ∷ ys) (append_none xs)

-- rows behind others rise, and each is above these
module _ (more : List LinkRow) where
  pub rise_behind : (rows : List LinkRow) → Rises below_link (rows ++ more) → Rises below_link more
  rise_behind [] rise = rise
  rise_behind (r ∷ rows) rise = rise_behind rows rise.1

  pub below_behind : (rows : List LinkRow) → Rises below_link (rows ++ more) → (l : LinkRow) → In l rows → (m : LinkRow) → In m more → below_link l m ≡ true
  below_behind [] rise l i m j = absurd i
  below_behind (r ∷ rows) rise l (inl e) m j = subst (λ (x : LinkRow). below_link x m ≡ true) (sym e) (all_below (rows ++ more) r rise.0 m (In-right rows more m j))
  below_behind (r ∷ rows) rise l (inr i) m j = below_behind rows rise.1 l i m j

-- what the changed links are taken back by
module _ (rows gone new led : List LinkRow) (steps : List LinkStep) (x : IsRewiring rows gone new led steps) (more : List LinkRow) (rise : Rises below_link (afters steps ++ more))
    (below : (l : LinkRow) → In l rows → (m : LinkRow) → In m more → below_link l m ≡ true) where
  above_steps : (s : LinkStep) → In s steps → (l : LinkRow) → In l (rows_of s) → (m : LinkRow) → In m more → below_link l m ≡ true
  above_steps s i l j m k = go (row_cases s l j)
    where
      go : (s.before ≡ Some l) ⊎ (s.after ≡ Some l) → below_link l m ≡ true
      go (inl e) = below l (subst (λ (ls : List LinkRow). In l ls) (sym x.are) (filter_map-In (λ (t : LinkStep). t.before) steps s l i e)) m k
      go (inr e) = below_behind more (afters steps) rise l (filter_map-In (λ (t : LinkStep). t.after) steps s l i e) m k

  pub steps_back : IsRewiring (afters steps ++ more) new gone (backs steps) (turned_with steps more)
  steps_back = turned_round rows gone new led steps x more (rise_behind more (afters steps) rise) above_steps

  pub rows_back : afters (turned_with steps more) ≡ rows ++ more
  rows_back = turned_afters rows gone new led steps x more (rise_behind more (afters steps) rise) above_steps
