-- Once some attached cells are put aside and others may have come, a cell without a link into one of these lacks nothing. So
-- the cells with such a link are enough to look at.
use Rattle.std.proofs.Common.{◌≡◌, refl, ◌∙◌, ap, subst, ℕ, suc, inl, inr, Bool, true, false, cond, List, [], ◌∷◌, map, length, Option, Some, None}
use Rattle.std.specs.Prelude.{filter, filter_map, is_some, is_none, nat_lt}
use Rattle.std.specs.List.{list_any}
use Rattle.cell_num.specs.Lists.{first, holds, numbered, or_else, In}
use Rattle.cell_object.specs.declared.object.Entry.{Entry}
use Rattle.cell_world.specs.declared.state.LinkRow.{LinkRow}
use Rattle.cell_world.specs.World.{World, Cell, is_attached, key_of}
use Rattle.cell_world.specs.Names.{Provider, needs_of, provider_of}
use Rattle.cell_world.specs.Linked.Target.{target_of}
use Rattle.cell_world.specs.Linked.Relink.{link_of, link_to}
use Rattle.cell_world.specs.Gather.{Need, first_lack, lacks_of}
use Rattle.cell_world.specs.Coherent.{IsCoherent, is_known_cell, is_supplied}
use Rattle.cell_num.proofs.Elements.{Has, all-In, none-In, some_has, filter_none}
use Rattle.cell_lemmas.proofs.Naming.Attach.{Grows, provider_grown}
use Rattle.cell_lemmas.proofs.Naming.Known.{known_parts, named}
use Rattle.cell_lemmas.proofs.Naming.NeedsLeft.{Names, need_named, target_is}
use Rattle.cell_lemmas.proofs.Naming.Lookups.{filter_map-In, has_place}
use Rattle.cell_lemmas.proofs.Targeting.TargetsLeft.{IsFree, provider_free}
use Rattle.cell_lemmas.proofs.Targeting.Detached.{other_provider}
use Rattle.cell_lemmas.proofs.Naming.SetAside.{aside, new_group}

module _ (v : World) (h : IsCoherent v) (old : List ℕ)
    (set_attached : (c : Cell) → In c v.cells → holds old c.id.0 ≡ true → is_attached c.standing ≡ true) where
  abbrev base : World
  base = aside v h old

  module _ (c : Cell) (i : In c v.cells) (out : holds old c.id.0 ≡ false)
      (unlinked : list_any (λ l. holds old l.target.cell.0) (filter_map (link_of v c) (numbered c.object.entries)) ≡ false) where
    -- a target in an old cell would have a link
    free : (e : Entry) → In e c.object.entries → IsFree old (target_of v c e)
    free e j key offset addr t =
        let n : (n : ℕ) × In (n, e) (numbered c.object.entries) = has_place c.object.entries 0 e j in
        let row : LinkRow = record { user = key_of c.id.0 e.section; entry = n.0; target = key } in
        let one : link_of v c (n.0, e) ≡ Some row = ap (λ o. elim o as (λ _. Option LinkRow) [ None ↦ None | Some target ↦ link_to c n.0 e target ]) t in
        none-In (λ (l : LinkRow). holds old l.target.cell.0) (filter_map (link_of v c) (numbered c.object.entries)) unlinked row
        (filter_map-In (link_of v c) (numbered c.object.entries) (n.0, e) row n.1 one)

    provider_apart : (name : List ℕ) → In name (needs_of c.object) → (q : Provider) → provider_of v c name ≡ Some q → holds old q.cell ≡ false
    provider_apart name j q e =
        let n : Names c.object name = need_named c.object name j in
        provider_free v h old c name (subst (IsFree old) (target_is v h c i name n) (free n.entry n.there)) q e

    there : nat_lt c.ns (length v.namespaces) ≡ true
    there = (known_parts v c (all-In (is_known_cell v) v.cells h.ready.cells c i)).ns

    had : (name : List ℕ) → In name (needs_of c.object) → (q : Provider) × (provider_of v c name ≡ Some q)
    had name j = some_has (provider_of v c name) (all-In (λ n. is_some (provider_of v c n)) (needs_of c.object) (all-In (is_supplied v) v.cells h.ready.supplied c i) name j)

    still : (name : List ℕ) (j : In name (needs_of c.object)) → provider_of base c name ≡ Some (had name j).0
    still name j =
        let q = had name j in
        other_provider v (named v h) (suc v.swaps) old (new_group v h) set_attached c.ns name c.standing (new_group v h c i) (Some q.0) q.1
        (λ p e. let s : q.0 ≡ p = cc in subst (λ (x : Provider). holds old x.cell ≡ false) s (provider_apart name j q.0 q.1))

    pub lacks_nothing : (w : World) → Grows base w → (name : List ℕ) → In name (needs_of c.object) → is_none (provider_of w c name) ≡ false
    lacks_nothing w g name j = let p : Has (provider_of w c name) = provider_grown base w g c.standing c.ns there name ((had name j).0, still name j) in ap is_none p.1

-- cells that lack nothing can be passed over
pub lacks_among : (w : World) (p : Cell → Bool) (cells : List Cell) → ((c : Cell) → In c cells → p c ≡ false → (name : List ℕ) → In name (needs_of c.object) → is_none (provider_of w c name) ≡ false)
    → first_lack w cells ≡ first_lack w (filter p cells)
lacks_among w p [] f = refl
lacks_among w p (c ∷ cells) f = go (p c) refl (lacks_among w p cells (λ d i. f d (inr i)))
  where
    none : p c ≡ false → first (lacks_of w c) ≡ None
    none e = ap (λ names. first (map (λ name. let n : Need = record { cell = c; name = name } in n) names)) (filter_none (λ name. is_none (provider_of w c name)) (needs_of c.object) (f c (inl refl) e))

    go : (b : Bool) → p c ≡ b → first_lack w cells ≡ first_lack w (filter p cells) → or_else (first (lacks_of w c)) (first_lack w cells) ≡ first_lack w (cond b (c ∷ filter p cells) (filter p cells))
    go true e ih = ap (or_else (first (lacks_of w c))) ih
    go false e ih = ap (λ o. or_else o (first_lack w cells)) (none e) ∙ ih
