-- What is known of each cell of a coherent world, part by part.
use Rattle.std.proofs.Common.{◌≡◌, ◌<◌, true, ◌&&◌, length}
use Rattle.std.specs.Prelude.{All, nat_lt}
use Rattle.std.proofs.lemmas.Bool.{and_parts, and_from, ltb-true}
use Rattle.cell_object.specs.Sound.{IsSoundObject}
use Rattle.cell_world.specs.World.{World, Cell}
use Rattle.cell_world.specs.Coherent.{IsCoherent, IsLoadable, is_known_cell, is_sound_standing}
use Rattle.cell_lemmas.specs.Named.{IsNamed, has_own_aliases}
use Rattle.cell_num.specs.Lists.{In}
use Rattle.cell_num.proofs.Elements.{All-In, all-In, In-all}

pub record KnownParts (w : World) (c : Cell) : Type 0 where
  pub number : nat_lt c.id.0 w.next_cell ≡ true
  pub ns : nat_lt c.ns (length w.namespaces) ≡ true
  pub standing : is_sound_standing w c.standing ≡ true
  pub aliases : has_own_aliases c ≡ true

pub known_parts : (w : World) (c : Cell) → is_known_cell w c ≡ true → KnownParts w c
known_parts w c h =
    let p = and_parts (nat_lt c.id.0 w.next_cell && nat_lt c.ns (length w.namespaces) && is_sound_standing w c.standing) (has_own_aliases c) h in
    let q = and_parts (nat_lt c.id.0 w.next_cell && nat_lt c.ns (length w.namespaces)) (is_sound_standing w c.standing) p.0 in
    let r = and_parts (nat_lt c.id.0 w.next_cell) (nat_lt c.ns (length w.namespaces)) q.0 in
    record { number = r.0; ns = r.1; standing = q.1; aliases = p.1 }

pub known_from : (w : World) (c : Cell) → KnownParts w c → is_known_cell w c ≡ true
known_from w c k = and_from _ (has_own_aliases c) (and_from _ (is_sound_standing w c.standing) (and_from (nat_lt c.id.0 w.next_cell) (nat_lt c.ns (length w.namespaces)) k.number k.ns) k.standing) k.aliases

pub object_sound : (w : World) → All (λ c. IsLoadable c.object) w.cells → (c : Cell) → In c w.cells → IsSoundObject c.object
object_sound w objects c k = (All-In (λ (c : Cell). IsLoadable c.object) w.cells objects c k).sound

-- a coherent machine keeps the rule of names
pub named : (w : World) → IsCoherent w → IsNamed w
named w h = record {
  cell_order = h.ready.cell_order;
  names = h.ready.names;
  aliases = In-all has_own_aliases w.cells (λ c i. (known_parts w c (all-In (is_known_cell w) w.cells h.ready.cells c i)).aliases);
}

-- each present cell has an older number
pub older : (w : World) → IsCoherent w → (d : Cell) → In d w.cells → d.id.0 < w.next_cell
older w coherent d k = ltb-true d.id.0 w.next_cell (known_parts w d (all-In _ w.cells coherent.ready.cells d k)).number
