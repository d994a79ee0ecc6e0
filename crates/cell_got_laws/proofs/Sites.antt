-- What the sites and the slots of a lowered object hold.
use Rattle.std.proofs.Common.{◌≡◌, refl, sym, ◌∙◌, ap, subst, arith, ℕ, zero, suc, ◌+◌, ◌*◌, ◌<◌, ◌≤◌, Bool, true, false, not, List, [], ◌∷◌, map, length, true≢false, Option, Some}
use Rattle.std.specs.Prelude.{◌%◌, ◌/◌, ◌^◌, ℤ, pos, All, slice_get, slice_range, unwrap_or, option_map, option_and_then}
use Rattle.cell_num.specs.Bits.{bytes_of, little, wrap_ℤ}
use Rattle.cell_num.specs.Kinds.{is_got_hi20, width_of}
use Rattle.cell_num.specs.Lists.{In, numbered}
use Rattle.cell_num.specs.declared.kinds.RelKind.{RelKind}
use Rattle.cell_num.specs.declared.kinds.RelKind.TheVariants.{Abs64, GotHi20, PcrelHi20}
use Rattle.cell_num.proofs.Elements.{All-In, In-All, In-left, In-right, all-In, get-In, map-In, none_is, numbered-In, unfound-In}
use Rattle.cell_object.specs.declared.object.Entry.{Entry}
use Rattle.cell_object.specs.declared.object.Object.{Object}
use Rattle.cell_object.specs.declared.object.Section.{Section}
use Rattle.cell_object.specs.declared.object.Symbol.{Symbol}
use Rattle.cell_object.specs.Parts.{section_of, symbol_at}
use Rattle.cell_object.specs.Readable.{is_got, IsFromFile}
use Rattle.cell_object.specs.Sound.{IsSoundObject}
use Rattle.cell_reloc.specs.Relocation.{does_fit, inserted, value_of}
use Rattle.cell_world.specs.Coherent.{IsCoherent, is_fitting}
use Rattle.cell_world.specs.Linked.Field.{Bound, field_value_of, fits, own_number, place_of}
use Rattle.cell_world.specs.Running.Memory.{read}
use Rattle.cell_world.specs.Linked.Relink.{bound_entries}
use Rattle.cell_world.specs.Linked.Target.{address_of, numbered_target, section_target, symbol_target, target_of}
use Rattle.cell_world.specs.World.{World, Cell}
use Rattle.cell_world.specs.declared.state.Target.{Target}
use Rattle.cell_world.specs.declared.state.Target.TheVariants.{Number}
use Rattle.cell_lemmas.specs.Present.{NamesPresent}
use Rattle.cell_lemmas.proofs.Naming.Known.{object_sound}
use Rattle.cell_lemmas.proofs.Targeting.Present.{targets_present}
use Rattle.cell_lemmas.proofs.Placement.Inside.{ready_linkable}
use Rattle.std.proofs.Math.IntN.{+ℤ_idr}
use Rattle.cell_laws.proofs.Fresh.{field_holds}
use Rattle.cell_got.specs.Lower.{got_number, lower, lower_by, lowered_entry, slot_entry, slot_of, slot_symbol, slots_of, with_slots}
use Rattle.cell_got.proofs.Slots.{below_got, slot_below, slot_there}
use Rattle.cell_got.proofs.LowerSound.{entry_section, old_section, slot_at as slot_symbol_at, slots_few, slots_known}
use Rattle.cell_got_laws.specs.Sites.{HoldsRow, row_value, slot_at, slot_for}
use Rattle.cell_got_laws.proofs.Single.{bound_there, field_is, is_field, named}

-- the eight bytes of a number are those of it modulo 2^64
bytes_1 : (n : ℕ) → bytes_of 1 (n % 256) ≡ bytes_of 1 n
bytes_1 n = ap (λ (x : ℕ). x ∷ []) (omega arith)

step : (k m : ℕ) (head rest : ℕ) → head ≡ m % 256 → bytes_of k rest ≡ bytes_of k (m / 256) → head ∷ bytes_of k rest ≡ bytes_of (suc k) m
step k m head rest e h = ap (λ (x : ℕ). x ∷ bytes_of k rest) e ∙ ap (λ (xs : List ℕ). m % 256 ∷ xs) h

bytes_2 : (n : ℕ) → bytes_of 2 (n % 0x1_0000) ≡ bytes_of 2 n
bytes_2 n = step 1 n (n % 0x1_0000 % 256) (n % 0x1_0000 / 256) (omega arith) (ap (bytes_of 1) (omega arith) ∙ bytes_1 (n / 256))

bytes_3 : (n : ℕ) → bytes_of 3 (n % 0x100_0000) ≡ bytes_of 3 n
bytes_3 n = step 2 n (n % 0x100_0000 % 256) (n % 0x100_0000 / 256) (omega arith) (ap (bytes_of 2) (omega arith) ∙ bytes_2 (n / 256))

bytes_4 : (n : ℕ) → bytes_of 4 (n % 0x1_0000_0000) ≡ bytes_of 4 n
bytes_4 n = step 3 n (n % 0x1_0000_0000 % 256) (n % 0x1_0000_0000 / 256) (omega arith) (ap (bytes_of 3) (omega arith) ∙ bytes_3 (n / 256))

bytes_5 : (n : ℕ) → bytes_of 5 (n % 0x100_0000_0000) ≡ bytes_of 5 n
bytes_5 n = step 4 n (n % 0x100_0000_0000 % 256) (n % 0x100_0000_0000 / 256) (omega arith) (ap (bytes_of 4) (omega arith) ∙ bytes_4 (n / 256))

bytes_6 : (n : ℕ) → bytes_of 6 (n % 0x1_0000_0000_0000) ≡ bytes_of 6 n
bytes_6 n = step 5 n (n % 0x1_0000_0000_0000 % 256) (n % 0x1_0000_0000_0000 / 256) (omega arith) (ap (bytes_of 5) (omega arith) ∙ bytes_5 (n / 256))

bytes_7 : (n : ℕ) → bytes_of 7 (n % 0x100_0000_0000_0000) ≡ bytes_of 7 n
bytes_7 n = step 6 n (n % 0x100_0000_0000_0000 % 256) (n % 0x100_0000_0000_0000 / 256) (omega arith) (ap (bytes_of 6) (omega arith) ∙ bytes_6 (n / 256))

bytes_8 : (n : ℕ) → bytes_of 8 (n % 2 ^ 64) ≡ bytes_of 8 n
bytes_8 n = step 7 n (n % 2 ^ 64 % 256) (n % 2 ^ 64 / 256) (omega arith) (ap (bytes_of 7) (omega arith) ∙ bytes_7 (n / 256))

stored : (a p v : ℕ) → bytes_of 8 (inserted Abs64 v (value_of Abs64 a (pos 0) p v)) ≡ bytes_of 8 a
stored a p v =
    ap (λ (z : ℤ). bytes_of 8 (wrap_ℤ z % 2 ^ 64)) (+ℤ_idr (pos a))
    ∙ (bytes_8 (a % 2 ^ 64) ∙ bytes_8 a)

lower_with : (o : Object) (s : List ℕ) (x : ℕ) → In x s → lower_by s o ≡ with_slots (got_number o) s o
lower_with o [] x i = absurd i
lower_with o (y ∷ s) x i = refl

module _ (w : World) (h : IsCoherent w) (c : Cell) (i : In c w.cells) (o : Object) (f : IsFromFile o) (is : c.object ≡ lower o) where
  abbrev n : ℕ
  n = got_number o

  abbrev slots : List ℕ
  slots = slots_of o

  abbrev new : Object
  new = with_slots n slots o

  few : length slots ≤ 2 ^ 20
  few = slots_few o f.readable f.room.symbols

  sound : IsSoundObject c.object
  sound = object_sound w h.ready.objects c i

  object_is : (x : ℕ) → In x slots → c.object ≡ new
  object_is x k = is ∙ lower_with o slots x k

  symbol_there : (k : ℕ) → k < length slots → symbol_at new (suc (length o.symbols) + k) ≡ Some (slot_symbol n k)
  symbol_there k below = slot_symbol_at o f.readable.sound slots n (below_got o) few (slot_there o) (slots_known o f.readable) k below

  -- what an entry with the slot's symbol names
  slot_named : (j : ℕ) (s : Symbol) → symbol_at c.object j ≡ Some s → numbered_target w c j ≡ symbol_target w c s s.home
  slot_named zero s e = absurd cc
  slot_named (suc j) s e = ap (option_and_then (λ s. symbol_target w c s s.home)) e

  module _ (e : Entry) (j : In e o.entries) (got : e.kind ≡ GotHi20) where
    asks : is_got e ≡ true
    asks = ap is_got_hi20 got

    has_slot : In e.symbol slots
    has_slot = slot_there o e j asks

    abbrev slot : ℕ
    slot = slot_of slots e.symbol

    abbrev site : Entry
    site = record e { kind = PcrelHi20; symbol = suc (length o.symbols) + slot }

    site_is : lowered_entry (suc (length o.symbols)) slots e ≡ site
    site_is = ap (λ (b : Bool). elim b as (λ _. Entry) [ true ↦ record e { kind = PcrelHi20; symbol = suc (length o.symbols) + slot } | false ↦ e ]) asks

    site_there : In site c.object.entries
    site_there =
        subst (λ (x : Object). In site x.entries) (sym (object_is e.symbol has_slot))
        (In-left (map (lowered_entry (suc (length o.symbols)) slots) o.entries) (map (slot_entry n) (numbered slots)) site
        (subst (λ (x : Entry). In x (map (lowered_entry (suc (length o.symbols)) slots) o.entries)) site_is (map-In (lowered_entry (suc (length o.symbols)) slots) o.entries e j)))

    site_names : target_of w c site ≡ Some (section_target c.placed n (8 * slot))
    site_names =
        slot_named (suc (length o.symbols) + slot) (slot_symbol n slot)
        (ap (λ (x : Object). symbol_at x (suc (length o.symbols) + slot)) (object_is e.symbol has_slot) ∙ symbol_there slot (slot_below slots e.symbol has_slot))

    named_is : named w c sound site site_there refl site ≡ section_target c.placed n (8 * slot)
    named_is = ap (λ (t : Option Target). unwrap_or t (Number 0)) site_names

    own_is : own_number c.object site ≡ own_number o e
    own_is =
        let s = entry_section o f.readable e j in
        ap (λ (x : Object). own_number x site) (object_is e.symbol has_slot)
        ∙ (ap (λ (x : Option Section). little (unwrap_or (option_map (λ s. slice_range s.bytes e.offset (e.offset + 4)) x) []))
        (old_section o f.readable.sound slots n (below_got o) few (slot_there o) (slots_known o f.readable) e.section s.0 s.1 ∙ sym s.1)
        ∙ ap (λ (k : RelKind). little (unwrap_or (option_map (λ s. slice_range s.bytes e.offset (e.offset + width_of k)) (section_of o e.section)) [])) (sym got))

    value_is : field_value_of c.placed (bound_entries w c) site ≡ inserted GotHi20 (own_number o e) (row_value c.placed o e)
    value_is =
        field_is w c sound site site_there refl
        ∙ (ap (λ (t : Target). inserted PcrelHi20 (own_number c.object site) (value_of PcrelHi20 (address_of t) e.addend (place_of c.placed site) (own_number c.object site))) named_is
        ∙ ap (λ (v : ℕ). inserted PcrelHi20 v (value_of PcrelHi20 (slot_for c.placed o e) e.addend (place_of c.placed site) v)) own_is)

    bound_fits : fits c.placed (bound_entries w c) (record { entry = site; target = named w c sound site site_there refl site }) ≡ true
    bound_fits =
        not_not _
        (unfound-In (λ (b : Bound). not (fits c.placed (bound_entries w c) b)) (bound_entries w c) (none_is _ (all-In (is_fitting w) w.cells h.ready.fitting c i))
        (record { entry = site; target = named w c sound site site_there refl site }) (bound_there w c sound site site_there refl))
      where
        not_not : (b : Bool) → not b ≡ false → b ≡ true
        not_not true e = refl
        not_not false e = absurd (true≢false e)

    pub site_holds : HoldsRow w c.placed o e
    site_holds = record {
      fits = sym (ap (λ (t : Target). does_fit PcrelHi20 (value_of PcrelHi20 (address_of t) e.addend (place_of c.placed site) 0)) named_is) ∙ bound_fits;
      holds =
          field_holds w h c i site (is_field w c sound site site_there refl)
          ∙ ap (λ (v : ℕ). Some (bytes_of 4 v)) value_is;
    }

  pub slot_holds : (k symbol : ℕ) → slice_get slots k ≡ Some symbol → (t : Target) × (numbered_target w c symbol ≡ Some t) × (read w (slot_at c.placed o k) 8 ≡ Some (bytes_of 8 (address_of t)))
  slot_holds k symbol e =
      let named_t : NamesPresent w c fill = All-In (NamesPresent w c) c.object.entries (All-In (λ (d : Cell). All (NamesPresent w d) d.object.entries) w.cells (targets_present w (ready_linkable w h.ready)) c i) fill there in
      let t = named_t.0 in (
        t,
        named_t.1,
        field_holds w h c i fill (is_field w c sound fill there refl)
            ∙ ap (λ (b : List ℕ). Some b) (ap (bytes_of 8) (field_is w c sound fill there refl)
            ∙ (ap (λ (x : Option Target). bytes_of 8 (inserted Abs64 (own_number c.object fill) (value_of Abs64 (address_of (unwrap_or x (Number 0))) (pos 0) (place_of c.placed fill) (own_number c.object fill)))) named_t.1
            ∙ stored (address_of t) (place_of c.placed fill) (own_number c.object fill))),
      )
    where
      fill : Entry
      fill = slot_entry n (k, symbol)

      there : In fill c.object.entries
      there =
          subst (λ (x : Object). In fill x.entries) (sym (object_is symbol (get-In slots k symbol e)))
          (In-right (map (lowered_entry (suc (length o.symbols)) slots) o.entries) (map (slot_entry n) (numbered slots)) fill
          (map-In (slot_entry n) (numbered slots) (k, symbol) (numbered-In slots 0 k k symbol e (omega arith))))

pub sites_hold : (w : World) → IsCoherent w → All (λ c. (o : Object) → IsFromFile o → c.object ≡ lower o → All (λ e. e.kind ≡ GotHi20 → HoldsRow w c.placed o e) o.entries) w.cells
sites_hold w h =
    In-All (λ (c : Cell). (o : Object) → IsFromFile o → c.object ≡ lower o → All (λ e. e.kind ≡ GotHi20 → HoldsRow w c.placed o e) o.entries) w.cells
    (λ c i o f is. In-All (λ (e : Entry). e.kind ≡ GotHi20 → HoldsRow w c.placed o e) o.entries (λ e j got. site_holds w h c i o f is e j got))

pub slots_hold : (w : World) → IsCoherent w →
    All (λ c. (o : Object) → IsFromFile o → c.object ≡ lower o → (k symbol : ℕ) → slice_get (slots_of o) k ≡ Some symbol →
    (t : Target) × (numbered_target w c symbol ≡ Some t) × (read w (slot_at c.placed o k) 8 ≡ Some (bytes_of 8 (address_of t)))) w.cells
slots_hold w h =
    In-All (λ (c : Cell). (o : Object) → IsFromFile o → c.object ≡ lower o → (k symbol : ℕ) → slice_get (slots_of o) k ≡ Some symbol →
    (t : Target) × (numbered_target w c symbol ≡ Some t) × (read w (slot_at c.placed o k) 8 ≡ Some (bytes_of 8 (address_of t)))) w.cells
    (λ c i o f is k symbol e. slot_holds w h c i o f is k symbol e)
