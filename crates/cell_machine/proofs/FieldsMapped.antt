-- Each field of new cells is mapped, once their regions are.
use Rattle.std.proofs.Common.{◌≡◌, refl, sym, ◌∙◌, ap, subst, ℕ, ◌+◌, true, List, [], Option, Some}
use Rattle.std.specs.Prelude.{All, find, is_some, nat_le, nat_lt, ◌&&◌, option_and_then}
use Rattle.std.proofs.lemmas.Bool.{le-leb}
use Rattle.cell_num.specs.declared.kinds.RelKind.{RelKind}
use Rattle.cell_num.specs.declared.kinds.RelKind.TheVariants.{Abs32, Abs64, Branch, Jal, Call, CallPlt, GotHi20, PcrelHi20, PcrelLo12I, PcrelLo12S, Hi20, Lo12I, Lo12S, Add8, Add16, Add32, Add64, Sub8, Sub16, Sub32, Sub64, Sub6, Set6, Set8, Set16, Set32, Pcrel32}
use Rattle.cell_num.specs.Kinds.{width_of}
use Rattle.cell_num.specs.Lists.{where_true, In}
use Rattle.cell_object.specs.declared.object.Entry.{Entry}
use Rattle.cell_world.specs.declared.state.Target.{Target}
use Rattle.cell_world.specs.World.{World, Cell, Region}
use Rattle.cell_world.specs.Linked.Field.{fields_of, place_of}
use Rattle.cell_world.specs.Running.Memory.{end_of}
use Rattle.cell_world.specs.Linked.Target.{targets_of}
use Rattle.cell_lemmas.specs.Linkable.{IsLinkable}
use Rattle.cell_lemmas.specs.Present.{IsInside}
use Rattle.cell_num.proofs.Elements.{All-In, In-All, In-flat_map, In-map}
use Rattle.cell_lemmas.proofs.Fields.FieldsInside.{among-In}
use Rattle.cell_lemmas.proofs.Placement.Inside.{fields_lie}
use Rattle.cell_mem.specs.State.{MemoryState, is_width, region_with}
use Rattle.cell_link.specs.Linked.{field_values, value_at}
use Rattle.cell_commit.specs.Commit.{IsMapped}
use Rattle.cell_machine.specs.Staged.{all_fields}

-- each field's width is one that a patch may have
known_width : (kind : RelKind) → is_width (width_of kind) ≡ true
known_width Abs32 = refl
known_width Abs64 = refl
known_width Branch = refl
known_width Jal = refl
known_width Call = refl
known_width CallPlt = refl
known_width GotHi20 = refl
known_width PcrelHi20 = refl
known_width PcrelLo12I = refl
known_width PcrelLo12S = refl
known_width Hi20 = refl
known_width Lo12I = refl
known_width Lo12S = refl
known_width Add8 = refl
known_width Add16 = refl
known_width Add32 = refl
known_width Add64 = refl
known_width Sub8 = refl
known_width Sub16 = refl
known_width Sub32 = refl
known_width Sub64 = refl
known_width Sub6 = refl
known_width Set6 = refl
known_width Set8 = refl
known_width Set16 = refl
known_width Set32 = refl
known_width Pcrel32 = refl

-- a region of the machine has the bytes
found_with : (ms : MemoryState) (w : World) (addr n : ℕ) → ms.regions ≡ w.regions → IsInside w addr n → is_some (region_with ms addr n) ≡ true
found_with ms w addr n same is =
    let at : find (λ r. nat_le r.start addr && nat_lt addr (end_of r)) ms.regions ≡ Some is.region = ap (λ (rs : List Region). find (λ r. nat_le r.start addr && nat_lt addr (end_of r)) rs) same ∙ is.at in
    ap (λ (o : Option Region). is_some (option_and_then (λ r. where_true (nat_le (addr + n) (end_of r)) r) o)) at
    ∙ ap (λ b. is_some (where_true b is.region)) (le-leb (addr + n) (end_of is.region) is.ends)

module _ (ms : MemoryState) (w : World) (same : ms.regions ≡ w.regions) (linkable : IsLinkable w) where
  pub entry_mapped : (c : Cell) → In c w.cells → (targets : List Target) (e : Entry) → In e c.object.entries → IsMapped ms (value_at c.placed targets e)
  entry_mapped c there targets e k =
      let all = All-In (λ (c : Cell). All (λ (e : Entry). IsInside w (place_of c.placed e) (width_of e.kind)) c.object.entries) w.cells (fields_lie w linkable) c there in
      (known_width e.kind, found_with ms w (place_of c.placed e) (width_of e.kind) same (All-In (λ (e : Entry). IsInside w (place_of c.placed e) (width_of e.kind)) c.object.entries all e k))

  -- each field of the cells is mapped
  pub fields_mapped : (cells : List Cell) → ((c : Cell) → In c cells → In c w.cells) → All (IsMapped ms) (all_fields w cells)
  fields_mapped cells there =
      In-All (IsMapped ms) (all_fields w cells) (λ f k.
      let c : (c : Cell) × In c cells × In f (field_values c.placed (targets_of w c)) = In-flat_map (λ (c : Cell). field_values c.placed (targets_of w c)) cells f k in
      let e : (e : Entry) × In e (fields_of c.0.object) × (f ≡ value_at c.0.placed (targets_of w c.0) e) = In-map (value_at c.0.placed (targets_of w c.0)) (fields_of c.0.object) f c.2 in
      subst (IsMapped ms) (sym e.2) (entry_mapped c.0 (there c.0 c.1) (targets_of w c.0) e.0 (among-In c.0.object.entries [] e.0 e.1)))
