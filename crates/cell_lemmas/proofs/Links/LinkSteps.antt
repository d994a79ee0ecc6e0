-- The links before and after are those of the same entries, in the same order.
use Rattle.std.proofs.Common.{◌≡◌, refl, sym, ◌∙◌, ap, ℕ, List, [], ◌∷◌, ◌++◌, map, Option, Some, None}
use Rattle.std.specs.Prelude.{All, filter_map, flat_map}
use Rattle.std.specs.List.{cons_option}
use Rattle.std.proofs.lemmas.List.Elements.{filter_map-append}
use Rattle.std.proofs.lemmas.List.Folds.{flat_map-map}
use Rattle.cell_num.specs.Lists.{numbered, In}
use Rattle.cell_object.specs.declared.object.Entry.{Entry}
use Rattle.cell_world.specs.declared.state.LinkRow.{LinkRow}
use Rattle.cell_world.specs.declared.state.NewCell.{NewCell}
use Rattle.cell_world.specs.declared.state.Target.{Target}
use Rattle.cell_world.specs.declared.state.Target.TheVariants.{Section, Number}
use Rattle.cell_world.specs.World.{World, Cell, key_of}
use Rattle.cell_world.specs.Linked.Target.{target_of}
use Rattle.cell_world.specs.Linked.Relink.{link_of}
use Rattle.cell_world.specs.Changed.{now_in}
use Rattle.cell_world.specs.Coherent.{IsCoherent, IsReady}
use Rattle.cell_lemmas.specs.Grown.{links_from, IsRegrown}
use Rattle.cell_lemmas.specs.LinkSteps.{LinkStep, cell_steps, link_steps, befores, afters, IsOneEntry}
use Rattle.cell_num.proofs.Elements.{In-All, In-flat_map, In-map, flat_same}
use Rattle.cell_lemmas.proofs.Fields.Fixed.{links_fixed}
use Rattle.cell_lemmas.proofs.Links.FreshLinks.{link_with}
use Rattle.cell_lemmas.proofs.Placement.Inside.{ready_linkable}
use Rattle.cell_lemmas.proofs.Targeting.Present.{some_same}
use Rattle.cell_lemmas.proofs.Fields.Unchanged.{placed_same}

filter_map_map : {X Y Z : Type 0} (f : Y → Option Z) (g : X → Y) (xs : List X) → filter_map f (map g xs) ≡ filter_map (λ x. f (g x)) xs
filter_map_map f g [] = refl
filter_map_map f g (x ∷ xs) = ap (λ ys. cons_option (f (g x)) ys) (filter_map_map f g xs)

filter_map_flat : {X Y Z : Type 0} (f : Y → Option Z) (g : X → List Y) (xs : List X) → filter_map f (flat_map g xs) ≡ flat_map (λ x. filter_map f (g x)) xs
filter_map_flat f g [] = refl
filter_map_flat f g (x ∷ xs) = filter_map-append f (g x) (flat_map g xs) ∙ ap (λ ys. filter_map f (g x) ++ ys) (filter_map_flat f g xs)

-- the row of an entry is of its cell, its section and its place
row_is : (c : Cell) (p : ℕ × Entry) (o : Option Target) (l : LinkRow) → link_with c p o ≡ Some l → (l.user ≡ key_of c.id.0 p.1.section) × (l.entry ≡ p.0)
row_is c p None l e = cc
row_is c p (Some (Number n)) l e = cc
row_is c p (Some (Section key offset addr)) l e =
    let r : LinkRow = record { user = key_of c.id.0 p.1.section; entry = p.0; target = key } in
    let s : r ≡ l = some_same r l e in
    (ap (λ (x : LinkRow). x.user) (sym s), ap (λ (x : LinkRow). x.entry) (sym s))

module _ (v w : World) (new : List Cell) (h : IsCoherent v) (ready : IsReady w) (g : IsRegrown v w new) where
  same : (c : Cell) → In c v.cells → (now_in w c).placed ≡ c.placed
  same c i = placed_same v w new h.ready (ready_linkable w ready) g c i

  pub links_before : v.links ≡ befores (link_steps v w)
  links_before =
      sym (links_fixed v h.linked)
      ∙ sym (filter_map_flat (λ (s : LinkStep). s.before) (cell_steps v w) v.cells
      ∙ flat_same (λ c. filter_map (λ (s : LinkStep). s.before) (cell_steps v w c)) (λ c. filter_map (link_of v c) (numbered c.object.entries)) v.cells
      (λ c i. filter_map_map (λ (s : LinkStep). s.before) (λ p. let s : LinkStep = record { before = link_of v c p; after = link_of w (now_in w c) p } in s) (numbered c.object.entries)))

  pub links_after : links_from w (map (now_in w) v.cells) ≡ afters (link_steps v w)
  links_after =
      flat_map-map (λ c. filter_map (link_of w c) (numbered c.object.entries)) (now_in w) v.cells
      ∙ (flat_same (λ c. filter_map (link_of w (now_in w c)) (numbered (now_in w c).object.entries)) (λ c. filter_map (link_of w (now_in w c)) (numbered c.object.entries)) v.cells
      (λ c i. ap (λ (p : NewCell). filter_map (link_of w (now_in w c)) (numbered p.object.entries)) (same c i))
      ∙ sym (filter_map_flat (λ (s : LinkStep). s.after) (cell_steps v w) v.cells
      ∙ flat_same (λ c. filter_map (λ (s : LinkStep). s.after) (cell_steps v w c)) (λ c. filter_map (link_of w (now_in w c)) (numbered c.object.entries)) v.cells
      (λ c i. filter_map_map (λ (s : LinkStep). s.after) (λ p. let s : LinkStep = record { before = link_of v c p; after = link_of w (now_in w c) p } in s) (numbered c.object.entries))))

  pub one_entry : All IsOneEntry (link_steps v w)
  one_entry = In-All IsOneEntry (link_steps v w) (λ s m. at s (In-flat_map (cell_steps v w) v.cells s m))
    where
      of : (c : Cell) → In c v.cells → (p : ℕ × Entry) → IsOneEntry (record { before = link_of v c p; after = link_of w (now_in w c) p })
      of c i p l m a b =
          let x = row_is c p (target_of v c p.1) l a in
          let y = row_is (now_in w c) p (target_of w (now_in w c) p.1) m b in
          let z : key_of (now_in w c).id.0 p.1.section ≡ key_of c.id.0 p.1.section = ap (λ (q : NewCell). key_of q.id.0 p.1.section) (same c i) in
          (x.0 ∙ sym (y.0 ∙ z), x.1 ∙ sym y.1)

      at : (s : LinkStep) → (c : Cell) × In c v.cells × In s (cell_steps v w c) → IsOneEntry s
      at s (c, i, j) l m a b =
          let p = In-map (λ p. let s : LinkStep = record { before = link_of v c p; after = link_of w (now_in w c) p } in s) (numbered c.object.entries) s j in
          of c i p.0 l m (ap (λ (x : LinkStep). x.before) (sym p.2) ∙ a) (ap (λ (x : LinkStep). x.after) (sym p.2) ∙ b)
