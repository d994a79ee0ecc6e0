-- Where cells have come and others have changed, each entry that doesn't differ names what it named, and has the link that it had.
use Rattle.std.proofs.Common.{◌≡◌, ◌∙◌, ap, ℕ, false, List, [], Option, Some, None}
use Rattle.std.specs.Prelude.{All}
use Rattle.cell_num.specs.Lists.{numbered, In}
use Rattle.cell_object.specs.declared.object.Entry.{Entry}
use Rattle.cell_world.specs.declared.state.LinkRow.{LinkRow}
use Rattle.cell_world.specs.declared.state.NewCell.{NewCell}
use Rattle.cell_world.specs.declared.state.Target.{Target}
use Rattle.cell_world.specs.World.{World, Cell}
use Rattle.cell_world.specs.declared.state.Standing.TheVariants.{Attached}
use Rattle.cell_world.specs.Linked.Target.{target_of}
use Rattle.cell_world.specs.Linked.Relink.{link_to, link_of}
use Rattle.cell_world.specs.Changed.{now_in, differs}
use Rattle.cell_world.specs.Coherent.{IsReady, IsCoherent}
use Rattle.cell_lemmas.specs.Grown.{IsRegrown}
use Rattle.cell_num.proofs.Elements.{In-All}
use Rattle.cell_lemmas.proofs.Links.FreshLinks.{link_with}
use Rattle.cell_lemmas.proofs.Placement.Inside.{ready_linkable}
use Rattle.cell_lemmas.specs.Targets.{FollowsTargets}
use Rattle.cell_lemmas.proofs.Fields.Unchanged.{placed_same, target_same}

-- each entry that doesn't differ names what it named, and has the link that it had
module _ (v w : World) (new : List Cell) (h : IsCoherent v) (ready : IsReady w) (g : IsRegrown v w new) where
  pub targets_follow : FollowsTargets v w
  targets_follow = In-All (λ (c : Cell). All (λ (e : Entry). differs v w c e ≡ false → target_of w (now_in w c) e ≡ target_of v c e) c.object.entries) v.cells
      (λ c i. In-All (λ (e : Entry). differs v w c e ≡ false → target_of w (now_in w c) e ≡ target_of v c e) c.object.entries (λ e j d. target_same v w new h.ready (ready_linkable w ready) g c i e d))

  link_same : (c : Cell) → In c v.cells → (p : ℕ × Entry) → differs v w c p.1 ≡ false → link_of w (now_in w c) p ≡ link_of v c p
  link_same c i p d =
      ap (link_with (now_in w c) p) (target_same v w new h.ready (ready_linkable w ready) g c i p.1 d)
      ∙ ap (λ (q : NewCell). link_at q p (target_of v c p.1)) (placed_same v w new h.ready (ready_linkable w ready) g c i)
    where
      link_at : NewCell → ℕ × Entry → Option Target → Option LinkRow
      link_at q p o = elim o as (λ _. Option LinkRow) [ None ↦ None | Some target ↦ link_to (record { placed = q; aliases = []; standing = Attached }) p.0 p.1 target ]

  pub links_follow : All (λ c. All (λ p. differs v w c p.1 ≡ false → link_of w (now_in w c) p ≡ link_of v c p) (numbered c.object.entries)) v.cells
  links_follow = In-All (λ (c : Cell). All (λ (p : ℕ × Entry). differs v w c p.1 ≡ false → link_of w (now_in w c) p ≡ link_of v c p) (numbered c.object.entries)) v.cells
      (λ c i. In-All (λ (p : ℕ × Entry). differs v w c p.1 ≡ false → link_of w (now_in w c) p ≡ link_of v c p) (numbered c.object.entries) (λ p j d. link_same c i p d))
