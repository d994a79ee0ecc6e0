-- Where no entry at a field names something else, linking writes there what it wrote before.
use Rattle.std.proofs.Common.{◌≡◌, refl, sym, ◌∙◌, ap, subst, arith, ℕ, Bool, true, false, not, ◌&&◌, List, map, true≢false, Option, Some, None}
use Rattle.std.specs.Prelude.{find, option_and_then, unwrap_or, ◌==◌}
use Rattle.std.proofs.lemmas.Bool.{and_parts, eqb-true}
use Rattle.cell_num.specs.declared.ids.SecKey.{SecKey}
use Rattle.cell_num.specs.declared.ids.CellId.{CellId}
use Rattle.cell_num.specs.declared.kinds.RelKind.{RelKind}
use Rattle.cell_num.specs.Bits.{bytes_of}
use Rattle.cell_num.specs.Kinds.{width_of, is_pcrel_lo12, is_pcrel_hi20}
use Rattle.cell_object.specs.declared.object.Object.{Object}
use Rattle.cell_object.specs.declared.object.Entry.{Entry}
use Rattle.cell_object.specs.Parts.{label_of, high_of}
use Rattle.cell_world.specs.declared.state.NewCell.{NewCell}
use Rattle.cell_world.specs.declared.state.Target.{Target}
use Rattle.cell_world.specs.declared.state.Target.TheVariants.{Section, Number}
use Rattle.cell_world.specs.World.{World, Cell, cell_of}
use Rattle.cell_world.specs.Linked.Target.{start_of, naming_entry, numbered_target, target_of}
use Rattle.cell_world.specs.Linked.Field.{Bound, is_at, place_of, field_value_of, fits}
use Rattle.cell_world.specs.Linked.Relink.{bound_entries, Patch, patch_of}
use Rattle.cell_world.specs.Changed.{is_same_key, is_same_target, is_other_target, now_in, differs, is_changed}
use Rattle.cell_world.specs.Coherent.{IsReady}
use Rattle.cell_lemmas.specs.Present.{IsThere}
use Rattle.cell_num.specs.Lists.{In}
use Rattle.cell_num.proofs.Elements.{All-In, In-left, map-In, found-In, none-In}
use Rattle.cell_lemmas.proofs.Targeting.Present.{target_there}
use Rattle.cell_lemmas.specs.Grown.{IsRegrown}
use Rattle.cell_lemmas.proofs.Fields.Values.{bind, bound_map, HasSame, same_fits, same_value}
use Rattle.cell_lemmas.specs.Linkable.{IsLinkable}

high_not_low : (kind : RelKind) → is_pcrel_hi20 kind ≡ true → is_pcrel_lo12 kind ≡ false
high_not_low kind h = grind (arith, h)

-- a high entry names what the low entries at its label name
high_kind : (object : Object) (e h : Entry) → high_of object e ≡ Some h → is_pcrel_lo12 h.kind ≡ false
high_kind object e h k = go (label_of object e) k
  where
    go : (o : Option (ℕ × ℕ)) → option_and_then (λ label. find (λ (x : Entry). is_pcrel_hi20 x.kind && x.section == label.0 && x.offset == label.1) object.entries) o ≡ Some h → is_pcrel_lo12 h.kind ≡ false
    go None k = cc
    go (Some label) k =
        let f = found-In (λ (x : Entry). is_pcrel_hi20 x.kind && x.section == label.0 && x.offset == label.1) object.entries h k in
        high_not_low h.kind (and_parts (is_pcrel_hi20 h.kind) (h.section == label.0) (and_parts (is_pcrel_hi20 h.kind && h.section == label.0) (h.offset == label.1) f.1).0).0

naming_low : (object : Object) (e : Entry) → is_pcrel_lo12 e.kind ≡ true → naming_entry object e ≡ high_of object e
naming_low object e k = ap (λ (b : Bool). elim b as (λ _. Option Entry) [ true ↦ high_of object e | false ↦ Some e ]) k

naming_own : (object : Object) (e : Entry) → is_pcrel_lo12 e.kind ≡ false → naming_entry object e ≡ Some e
naming_own object e k = ap (λ (b : Bool). elim b as (λ _. Option Entry) [ true ↦ high_of object e | false ↦ Some e ]) k

target_high : (w : World) (d : Cell) (e h : Entry) → is_pcrel_lo12 e.kind ≡ true → high_of d.object e ≡ Some h → target_of w d h ≡ target_of w d e
target_high w d e h low k =
    ap (option_and_then (λ (n : Entry). numbered_target w d n.symbol)) (naming_own d.object h (high_kind d.object e h k) ∙ sym (naming_low d.object e low ∙ k))

key_same : (key other : SecKey) → is_same_key key other ≡ true → key ≡ other
key_same key other h =
    let p = and_parts (key.cell.0 == other.cell.0) (key.section == other.section) h in
    let cell : key.cell ≡ other.cell = ap (λ (n : ℕ). let c : CellId = record { 0 = n } in c) (eqb-true key.cell.0 other.cell.0 p.0) in
    ap (λ (c : CellId). let k : SecKey = record { cell = c; section = key.section } in k) cell
    ∙ ap (λ (n : ℕ). let k : SecKey = record { cell = other.cell; section = n } in k) (eqb-true key.section other.section p.1)

-- what the entry names, 0 where it names nothing
abbrev pub named_in : World → Cell → Entry → Target
named_in w c e = unwrap_or (target_of w c e) (Number 0)

pub bound_is : (w : World) (c : Cell) → bound_entries w c ≡ map (bind (named_in w c)) c.object.entries
bound_is w c = bound_map (named_in w c) c.object.entries

and_false : (a b : Bool) → (a && b) ≡ false → a ≡ true → b ≡ false
and_false true b h k = h
and_false false b h k = absurd (true≢false (sym k))

module _ (v w : World) (new : List Cell) (before : IsReady v) (after : IsLinkable w) (g : IsRegrown v w new) where
  pub placed_same : (c : Cell) → In c v.cells → (now_in w c).placed ≡ c.placed
  placed_same = All-In (λ (c : Cell). (now_in w c).placed ≡ c.placed) v.cells g.same

  pub now_There : (c : Cell) → In c v.cells → In (now_in w c) w.cells
  now_There c i = subst (In (now_in w c)) (sym g.cells) (In-left (map (now_in w) v.cells) new (now_in w c) (map-In (now_in w) v.cells c i))

  -- a section stands where it stood
  start_same : (key : SecKey) (c d : Cell) → cell_of v key.cell.0 ≡ Some c → cell_of w key.cell.0 ≡ Some d → start_of d.placed key.section ≡ start_of c.placed key.section
  start_same key c d x y =
      let f = found-In (λ (a : Cell). a.id.0 == key.cell.0) v.cells c x in
      let n : now_in w c ≡ d = ap (λ (o : Option Cell). unwrap_or o c) (ap (cell_of w) (eqb-true c.id.0 key.cell.0 f.1) ∙ y) in
      ap (λ (p : NewCell). start_of p key.section) (ap (λ (a : Cell). a.placed) (sym n) ∙ placed_same c f.0)

  same_there : (t u : Target) → is_same_target t u ≡ true → IsThere v t → IsThere w u → t ≡ u
  same_there (Section key offset addr) (Section other place at) h a b =
      let p = and_parts (is_same_key key other) (offset == place) h in
      let k : key ≡ other = key_same key other p.0 in
      let o : offset ≡ place = eqb-true offset place p.1 in
      let s : start_of b.is.cell.placed key.section ≡ start_of a.is.cell.placed key.section =
      start_same key a.is.cell b.is.cell a.is.present (subst (λ (x : SecKey). cell_of w x.cell.0 ≡ Some b.is.cell) (sym k) b.is.present) in
      let z : start_of b.is.cell.placed key.section ≡ start_of b.is.cell.placed other.section = ap (λ (x : SecKey). start_of b.is.cell.placed x.section) k in
      let e : addr ≡ at = omega (arith, a.stands, b.stands, s, z, o) in
      ap (λ (x : SecKey). Section x offset addr) k ∙ (ap (λ (x : ℕ). Section other x addr) o ∙ ap (λ (x : ℕ). Section other place x) e)
  same_there (Section key offset addr) (Number y) h a b = absurd (true≢false (sym h))
  same_there (Number x) (Section other place at) h a b = absurd (true≢false (sym h))
  same_there (Number x) (Number y) h a b = ap (λ (n : ℕ). Number n) (eqb-true x y h)

  same_option : (o p : Option Target) → is_other_target o p ≡ false → ((t : Target) → o ≡ Some t → IsThere v t) → ((u : Target) → p ≡ Some u → IsThere w u) → p ≡ o
  same_option None None h f k = refl
  same_option None (Some u) h f k = absurd (true≢false h)
  same_option (Some t) None h f k = absurd (true≢false h)
  same_option (Some t) (Some u) h f k = ap (λ (x : Target). Some x) (sym (same_there t u (kept (is_same_target t u) h) (f t refl) (k u refl)))
    where
      kept : (b : Bool) → not b ≡ false → b ≡ true
      kept true e = refl
      kept false e = absurd (true≢false e)

  -- an entry that doesn't differ names what it named
  pub target_same : (c : Cell) → In c v.cells → (e : Entry) → differs v w c e ≡ false → target_of w (now_in w c) e ≡ target_of v c e
  target_same c i e h =
      same_option (target_of v c e) (target_of w (now_in w c) e) h
      (λ t k. target_there v before.cell_order before.objects c i e t k)
      (λ u k. target_there w after.cell_order after.objects (now_in w c) (now_There c i) e u k)

  pub has_same : (c : Cell) → In c v.cells → (e : Entry) → differs v w c e ≡ false → HasSame c.placed (named_in w (now_in w c)) (named_in v c) e
  has_same c i e h = record {
    own = ap (λ (o : Option Target). unwrap_or o (Number 0)) (target_same c i e h);
    high = λ low x k. ap (λ (o : Option Target). unwrap_or o (Number 0))
        (target_high w (now_in w c) e x low (subst (λ (p : NewCell). high_of p.object e ≡ Some x) (sym (placed_same c i)) k) ∙ (target_same c i e h ∙ sym (target_high v c e x low k)));
  }

  pub bound_now : (c : Cell) → In c v.cells → bound_entries w (now_in w c) ≡ map (bind (named_in w (now_in w c))) c.object.entries
  bound_now c i = bound_is w (now_in w c) ∙ ap (λ (p : NewCell). map (bind (named_in w (now_in w c))) p.object.entries) (placed_same c i)

  abbrev patch_in : NewCell → List Bound → Entry → Patch
  patch_in p bound f = record { addr = place_of p f; bytes = bytes_of (width_of f.kind) (field_value_of p bound f) }

  pub patch_now : (c : Cell) → In c v.cells → (f : Entry) → patch_of (now_in w c) (bound_entries w (now_in w c)) f ≡ patch_in c.placed (map (bind (named_in w (now_in w c))) c.object.entries) f
  patch_now c i f = ap (λ (bound : List Bound). patch_in (now_in w c).placed bound f) (bound_now c i) ∙ ap (λ (p : NewCell). patch_in p (map (bind (named_in w (now_in w c))) c.object.entries) f) (placed_same c i)

  pub patch_then : (c : Cell) (f : Entry) → patch_of c (bound_entries v c) f ≡ patch_in c.placed (map (bind (named_in v c)) c.object.entries) f
  patch_then c f = ap (λ (bound : List Bound). patch_in c.placed bound f) (bound_is v c)

  -- an unchanged field is written as before
  pub patch_same : (c : Cell) → In c v.cells → (f : Entry) → is_changed v w c f ≡ false → patch_of (now_in w c) (bound_entries w (now_in w c)) f ≡ patch_of c (bound_entries v c) f
  patch_same c i f h =
      patch_now c i f
      ∙ (ap (λ (n : ℕ). let p : Patch = record { addr = place_of c.placed f; bytes = bytes_of (width_of f.kind) n } in p)
      (same_value c.placed (named_in w (now_in w c)) (named_in v c) f (λ e m a. has_same c i e (and_false (is_at f e) (differs v w c e) (none-In (λ (x : Entry). is_at f x && differs v w c x) c.object.entries h e m) a)))
      ∙ sym (patch_then c f))

  -- an entry that doesn't differ fits as before
  pub fits_same : (c : Cell) → In c v.cells → (e : Entry) → differs v w c e ≡ false
      → fits (now_in w c).placed (bound_entries w (now_in w c)) (bind (named_in w (now_in w c)) e) ≡ fits c.placed (bound_entries v c) (bind (named_in v c) e)
  fits_same c i e h =
      ap (λ (bound : List Bound). fits (now_in w c).placed bound (bind (named_in w (now_in w c)) e)) (bound_now c i)
      ∙ (ap (λ (p : NewCell). fits p (map (bind (named_in w (now_in w c))) c.object.entries) (bind (named_in w (now_in w c)) e)) (placed_same c i)
      ∙ (same_fits c.placed (named_in w (now_in w c)) (named_in v c) e (has_same c i e h)
      ∙ ap (λ (bound : List Bound). fits c.placed bound (bind (named_in v c) e)) (sym (bound_is v c))))
