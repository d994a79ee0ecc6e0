-- A namespace that is added keeps the machine coherent: no cell, link or byte depends on it.
use Rattle.std.proofs.Common.{◌≡◌, ◌∙◌, ap, subst, ℕ, ◌<◌, true, List, [], ◌∷◌, map, length, Option, None, Ok}
use Rattle.std.specs.Prelude.{All, nat_lt, is_none, filter_map, fold, unwrap_or}
use Rattle.std.proofs.lemmas.Bool.{lt-ltb}
use Rattle.cell_num.specs.Lists.{equals, numbered, In}
use Rattle.cell_object.specs.declared.object.Entry.{Entry}
use Rattle.cell_world.specs.declared.refusal.Many.TheVariants.{Namespaces}
use Rattle.cell_world.specs.declared.refusal.Refusal.TheVariants.{NameTaken, TooMany, Unknown}
use Rattle.cell_world.specs.declared.state.LinkRow.{LinkRow}
use Rattle.cell_num.specs.Limits.{max_namespaces}
use Rattle.cell_world.specs.World.{World, Cell, Region}
use Rattle.cell_world.specs.Names.{chain, namespace_named, provider_of}
use Rattle.cell_world.specs.declared.state.Target.{Target}
use Rattle.cell_world.specs.declared.state.Target.TheVariants.{Number}
use Rattle.cell_world.specs.Linked.Target.{target_of}
use Rattle.cell_world.specs.Linked.Field.{Bound, bound_by, misfit_of, fields_of}
use Rattle.cell_world.specs.Linked.Relink.{bound_entries, Patch, patch_of, patched, patches_of, restored, remade, link_of, links_of, relink}
use Rattle.cell_world.specs.Outcome.{need}
use Rattle.cell_world.specs.Answer.{Done, space_of}
use Rattle.cell_world.specs.Commands.NsCommand.{with_namespace, next_ns}
use Rattle.cell_world.specs.Coherent.{IsReady, IsCoherent, is_supplied, is_fitting, has_known_origin}
use Rattle.cell_num.proofs.Elements.{all-In, In-all, In-All, none_is, position_below, flat_same, filter_map_same, map_same}
use Rattle.cell_lemmas.proofs.Outcomes.{bind_ok, then_ok, need_ok, found_ok}
use Rattle.cell_lemmas.proofs.Naming.Appended.{ok_same}
use Rattle.cell_lemmas.proofs.Links.FreshLinks.{link_with}
use Rattle.cell_lemmas.proofs.Naming.Supplied.{still_supplied}
use Rattle.cell_lemmas.proofs.Naming.Spaces.{below_more, child, spaces_more, names_more, few_more, chain_stays, space_grows, provider_stays, target_stays, stands_there, known_stays, names_stay}

module _ (w : World) (coherent : IsCoherent w) (name : List ℕ) (parent : ℕ) where
  abbrev after : World
  after = with_namespace w name parent

  abbrev ready : IsReady w
  ready = coherent.ready

  same_target : (c : Cell) → In c w.cells → (e : Entry) → target_of after c e ≡ target_of w c e
  same_target c k = target_stays w ready.spaces name parent c (stands_there w ready.spaces name parent ready.cells c k)

  same_bound : (c : Cell) → In c w.cells → bound_entries after c ≡ bound_entries w c
  same_bound c k = ap (bound_by c.object.entries) (map_same (λ e. unwrap_or (target_of after c e) (Number 0)) (λ e. unwrap_or (target_of w c e) (Number 0)) c.object.entries
      (λ e j. ap (λ (o : Option Target). unwrap_or o (Number 0)) (same_target c k e)))

  same_patches : (c : Cell) → In c w.cells → patches_of after c ≡ patches_of w c
  same_patches c k = ap (λ (bound : List Bound). map (patch_of c bound) (fields_of c.object)) (same_bound c k)

  same_remade : (r : Region) → remade after r ≡ remade w r
  same_remade r = ap (λ (ps : List Patch). fold patched (restored w r) ps) (flat_same (patches_of after) (patches_of w) w.cells same_patches)

  same_link : (c : Cell) → In c w.cells → (p : ℕ × Entry) → In p (numbered c.object.entries) → link_of after c p ≡ link_of w c p
  same_link c k p m = ap (link_with c p) (same_target c k p.1)

  same_links : links_of after ≡ links_of w
  same_links =
      flat_same (λ c. filter_map (link_of after c) (numbered c.object.entries)) (λ c. filter_map (link_of w c) (numbered c.object.entries)) w.cells
      (λ c k. filter_map_same (link_of after c) (link_of w c) (numbered c.object.entries) (same_link c k))

  linked_after : relink after ≡ after
  linked_after =
      ap (λ (regions : List Region). record after { regions = regions; links = links_of after })
      (map_same (remade after) (remade w) w.regions (λ r k. same_remade r) ∙ ap (λ (x : World). x.regions) coherent.linked)
      ∙ ap (λ (links : List LinkRow). record after { links = links }) (same_links ∙ ap (λ (x : World). x.links) coherent.linked)

  ready_after : parent < length w.namespaces → namespace_named w name ≡ None → nat_lt (length w.namespaces) max_namespaces ≡ true → IsReady after
  ready_after below free room = record {
    alone = ready.alone;
    together = record {
      names = names_stay w ready.spaces name parent ready.cells ready.names;
      own_names = ready.own_names;
      cells = known_stays w ready.spaces name parent ready.cells;
      supplied = In-all (is_supplied after) w.cells
          (λ c k. still_supplied w after (space_grows w ready.spaces name parent) ready.cells ready.supplied c k);
      fitting = In-all (is_fitting after) w.cells
          (λ c k. ap (λ (bound : List Bound). is_none (misfit_of c.placed bound)) (same_bound c k) ∙ all-In (is_fitting w) w.cells ready.fitting c k);
    };
    counted = ready.counted;
    parents = record {
      spaces = spaces_more w.namespaces name parent ready.spaces below;
      space_names = names_more w.namespaces name parent ready.space_names free;
      few_spaces = few_more w.namespaces (child name parent) max_namespaces room;
    };
    memory = ready.memory;
    running = ready.running;
    origins = In-all (has_known_origin after) w.tasks (λ t k. below_more w.namespaces (child name parent ∷ []) t.origin.ns (all-In (has_known_origin w) w.tasks ready.origins t k));
    space = ready.space;
  }

  pub coherent_after : parent < length w.namespaces → namespace_named w name ≡ None → nat_lt (length w.namespaces) max_namespaces ≡ true → IsCoherent after
  coherent_after below free room = record { ready = ready_after below free room; linked = linked_after }

-- what an accepted `ns` has passed
pub record Added (w : World) (name : List ℕ) (w' : World) : Type 0 where
  pub parent : ℕ
  pub below : parent < length w.namespaces
  pub free : namespace_named w name ≡ None
  pub room : nat_lt (length w.namespaces) max_namespaces ≡ true
  pub is : with_namespace w name parent ≡ w'

pub ns_ok : (w : World) (name parent : List ℕ) (d : Done) → next_ns w name parent ≡ Ok d → Added w name d.world
ns_ok w name parent d h =
    let a = bind_ok (space_of w parent) _ d h in
    let b = then_ok (need (is_none (namespace_named w name)) (NameTaken name)) _ d a.2 in
    let c = then_ok (need (nat_lt (length w.namespaces) max_namespaces) (TooMany Namespaces max_namespaces)) _ d b.2 in
    record {
      parent = a.0;
      below = position_below (λ space. equals space.name parent) w.namespaces a.0 (found_ok (namespace_named w parent) (Unknown parent) a.0 a.1);
      free = none_is (namespace_named w name) (need_ok _ _ b.0 b.1);
      room = need_ok _ _ c.0 c.1;
      is = ap (λ (x : Done). x.world) (ok_same _ d c.2);
    }

pub ns_coherent : (w : World) (name parent : List ℕ) (d : Done) → IsCoherent w → next_ns w name parent ≡ Ok d → IsCoherent d.world
ns_coherent w name parent d c h =
    let a : Added w name d.world = ns_ok w name parent d h in
    subst IsCoherent a.is (coherent_after w c name a.parent a.below a.free a.room)

pub chains_stay : (w : World) (name parent : List ℕ) (d : Done) → IsCoherent w → next_ns w name parent ≡ Ok d → (ns : ℕ) → ns < length w.namespaces → chain d.world.namespaces ns ≡ chain w.namespaces ns
chains_stay w name parent d c h ns there =
    let a : Added w name d.world = ns_ok w name parent d h in
    subst (λ (x : World). chain x.namespaces ns ≡ chain w.namespaces ns) a.is (chain_stays w c.ready.spaces name a.parent ns (lt-ltb ns (length w.namespaces) there))

pub providers_stay : (w : World) (name parent : List ℕ) (d : Done) → IsCoherent w → next_ns w name parent ≡ Ok d
    → All (λ c. (symbol : List ℕ) → provider_of d.world c symbol ≡ provider_of w c symbol) w.cells
providers_stay w name parent d c h =
    let a : Added w name d.world = ns_ok w name parent d h in
    In-All (λ (x : Cell). (symbol : List ℕ) → provider_of d.world x symbol ≡ provider_of w x symbol) w.cells
    (λ x k symbol. subst (λ (v : World). provider_of v x symbol ≡ provider_of w x symbol) a.is
    (provider_stays w c.ready.spaces name a.parent x.standing x.ns (stands_there w c.ready.spaces name a.parent c.ready.cells x k) symbol))
