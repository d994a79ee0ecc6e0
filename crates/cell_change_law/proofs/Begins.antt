-- Each routine of a change begins in a new cell, at whole instructions of an executable section.
use Rattle.std.proofs.Common.{◌≡◌, refl, sym, ◌∙◌, ap, subst, ℕ, ◌+◌, inl, inr, ◌⊎◌, Bool, true, false, ◌&&◌, List, [], ◌∷◌, ◌++◌, Option, Some, None, Ok}
use Rattle.std.specs.Prelude.{All, ◌%◌, ◌==◌, nat_le, option_and_then, option_map, unwrap_or}
use Rattle.std.proofs.lemmas.Bool.{and_parts, eqb-true, leb-true}
use Rattle.cell_num.specs.Lists.{numbered, where_true, In}
use Rattle.cell_object.specs.declared.object.Object.{Object}
use Rattle.cell_object.specs.declared.object.Section.{Section as ObjectSection}
use Rattle.cell_object.specs.Parts.{section_of, symbol_at}
use Rattle.cell_world.specs.declared.refusal.Refusal.TheVariants.{NoEntry}
use Rattle.cell_world.specs.World.{World, Cell, cell_of}
use Rattle.cell_world.specs.Gather.{Source, fresh_cells}
use Rattle.cell_world.specs.Placed.Layout.{offset_in, sections_in}
use Rattle.cell_world.specs.declared.layout.Class.TheVariants.{Text}
use Rattle.cell_world.specs.Linked.Target.{start_of}
use Rattle.cell_world.specs.Commands.SpawnCommand.{entry_offset, inside_of, is_entry_in}
use Rattle.cell_world.specs.declared.transfer.Routine.{Routine}
use Rattle.cell_world.specs.Commands.SwapTransfer.{Begin, begin_of, definition_named, entry_at, first_definition, routines_in}
use Rattle.cell_world.specs.Outcome.{◌>>=◌, found, each}
use Rattle.cell_world.specs.Coherent.{AreSound, IsCoherent, IsReady}
use Rattle.cell_lemmas.proofs.Naming.Appended.{ok_same}
use Rattle.cell_num.proofs.Elements.{In-All, In-append, In-filtered, In-map, In-numbered, filter-In, filter-Passes, first-In, found-In, get-In}
use Rattle.cell_lemmas.proofs.Outcomes.{bind_ok, found_ok}
use Rattle.cell_lemmas.proofs.Targeting.Present.{In-filter_map, some_same}
use Rattle.cell_lemmas.proofs.Naming.Renamed.{In-bare}
use Rattle.cell_lemmas.proofs.Targeting.Targets.{In-find}
use Rattle.cell_lemmas.proofs.Placement.TextPlaces.{text_rest}
use Rattle.cell_lemmas.specs.Begins.{BeginsIn}
use Rattle.cell_world.specs.Change.{Change, Plan, plan_of}
use Rattle.cell_change_law.specs.Sound.{IsSound}
use Rattle.cell_change_law.proofs.Placing.{placed}
use Rattle.cell_change_law.proofs.Steps.{Planned, planned, plan_ready}

then_some : {X Y : Type 0} (f : X → Option Y) (o : Option X) (y : Y) → option_and_then f o ≡ Some y → (x : X) × (o ≡ Some x) × (f x ≡ Some y)
then_some f None y e = cc
then_some f (Some x) y e = (x, refl, e)

pub map_some : {X Y : Type 0} (f : X → Y) (o : Option X) (y : Y) → option_map f o ≡ Some y → (x : X) × (o ≡ Some x) × (f x ≡ y)
map_some f None y e = cc
map_some f (Some x) y e = (x, refl, some_same (f x) y e)

where_some : {X : Type 0} (b : Bool) (x y : X) → where_true b x ≡ Some y → (b ≡ true) × (x ≡ y)
where_some true x y e = (refl, some_same x y e)
where_some false x y e = cc

passes : {X : Type 0} (p : X → Bool) (o : Option X) → unwrap_or (option_map p o) false ≡ true → (x : X) × (o ≡ Some x) × (p x ≡ true)
passes p None e = cc
passes p (Some x) e = (x, refl, e)

-- a place in a section of the cell where code may begin
record BegunIn (c : Cell) (b : Begin) : Type 0 where
  pub number : c.id.0 ≡ b.cell
  pub section : ObjectSection
  pub there : In section c.object.sections
  pub numbered : section.number ≡ b.section
  pub test : is_entry_in c.object b.offset section ≡ true

abbrev Begun : List Cell → Begin → Type 0
Begun cells b = (c : Cell) × In c cells × BegunIn c b

offset_parts : (object : Object) (symbol : ℕ) (place : ℕ × ℕ) → entry_offset object symbol ≡ Some place
    → (s : ObjectSection) × In s object.sections × (s.number ≡ place.0) × (is_entry_in object place.1 s ≡ true)
offset_parts object symbol place e =
    let s = then_some _ (symbol_at object symbol) place e in
    let n = then_some _ (inside_of s.0.home) place s.2 in
    let w = where_some (unwrap_or (option_map (is_entry_in object s.0.value) (section_of object n.0)) false) (n.0, s.0.value) place n.2 in
    let t = passes (is_entry_in object s.0.value) (section_of object n.0) w.0 in
    let f = found-In (λ (x : ObjectSection). x.number == n.0) object.sections t.0 t.1 in
    subst (λ (p : ℕ × ℕ). (x : ObjectSection) × In x object.sections × (x.number ≡ p.0) × (is_entry_in object p.1 x ≡ true)) w.1
    (t.0, f.0, eqb-true t.0.number n.0 f.1, t.2)

begun : (cells : List Cell) (name : List ℕ) (b : Begin) → begin_of cells name ≡ Some b → Begun cells b
begun cells name b e =
    let p = then_some _ (first_definition cells name) b e in
    let place = map_some _ (entry_offset p.0.0.object p.0.1) b p.2 in
    let c = In-filter_map (λ (c : Cell). option_map (λ symbol. (c, symbol)) (definition_named c name)) cells p.0 (first-In _ p.0 p.1) in
    let m = map_some (λ (symbol : ℕ). (c.0, symbol)) (definition_named c.0 name) p.0 c.2 in
    let same : c.0 ≡ p.0.0 = ap (λ (q : Cell × ℕ). q.0) m.2 in
    let s = offset_parts p.0.0.object p.0.1 place.0 place.1 in
    subst (Begun cells) place.2 (p.0.0, subst (λ (x : Cell). In x cells) same c.1, record { number = refl; section = s.0; there = s.1; numbered = s.2; test = s.3 })

each_begun : (cells : List Cell) (words : List (List ℕ)) (before begins : List Begin) → ((b : Begin) → In b before → Begun cells b)
    → each (λ begins word. found (begin_of cells word) (NoEntry word) >>= (λ begin. Ok (begins ++ begin ∷ []))) before words ≡ Ok begins → (b : Begin) → In b begins → Begun cells b
each_begun cells [] before begins k e b i = k b (subst (λ (bs : List Begin). In b bs) (sym (ok_same before begins e)) i)
each_begun cells (word ∷ words) before begins k e b i =
    let a = bind_ok (found (begin_of cells word) (NoEntry word) >>= (λ begin. Ok (before ++ begin ∷ []))) _ begins e in
    let f = bind_ok (found (begin_of cells word) (NoEntry word)) _ a.0 a.1 in
    let s : before ++ f.0 ∷ [] ≡ a.0 = ok_same _ _ f.2 in
    each_begun cells words a.0 begins (λ x j. pick f.0 (found_ok (begin_of cells word) (NoEntry word) f.0 f.1) x (In-append before (f.0 ∷ []) x (subst (λ (bs : List Begin). In x bs) (sym s) j))) a.2 b i
  where
    pick : (y : Begin) → begin_of cells word ≡ Some y → (x : Begin) → In x before ⊎ In x (y ∷ []) → Begun cells x
    pick y o x (inl j) = k x j
    pick y o x (inr (inl q)) = subst (Begun cells) (sym q) (begun cells word y o)
    pick y o x (inr (inr j)) = absurd j

module _ (sources : List Source) (sound : AreSound sources) (v : World) (h : IsCoherent v) (asked : Change) (good : IsSound sources v asked) (plan : Plan) (e : plan_of sources v asked ≡ Ok plan) where
  x : Planned sources v asked plan
  x = planned sources v asked plan e

  abbrev w : World
  w = x.world

  ready : IsReady w
  ready = plan_ready sources sound v h asked good plan x

  -- once the cells have their places
  begins_in : (b : Begin) → In b x.begins → (c : Cell) × In c (fresh_cells v.next_cell w) × BeginsIn c (entry_at w b)
  begins_in b i =
      let c = each_begun (fresh_cells v.next_cell x.gathered) asked.routines [] x.begins (λ b j. absurd j) x.begin_all b i in
      let there = In-filtered (λ (y : Cell). nat_le v.next_cell y.id.0) x.gathered.cells c.0 c.1 in
      let d = In-bare c.0 x.gathered.cells w.cells (sym (placed sources sound v h asked good x.gathered x.gathering w x.placing).cells) there in
      let object : c.0.object ≡ d.0.object = ap (λ (y : Cell). y.object) d.2 in
      let number : c.0.id.0 ≡ d.0.id.0 = ap (λ (y : Cell). y.id.0) d.2 in
      let fresh = subst (λ (n : ℕ). nat_le v.next_cell n ≡ true) number (filter-Passes (λ (y : Cell). nat_le v.next_cell y.id.0) x.gathered.cells c.0 c.1) in
      let own : cell_of w b.cell ≡ Some d.0 = ap (cell_of w) (sym c.2.number ∙ number) ∙ In-find w.cells ready.cell_order d.0 d.1 in
      let s : ObjectSection = c.2.section in
      let test : is_entry_in d.0.object b.offset s ≡ true = subst (λ (o : Object). is_entry_in o b.offset s ≡ true) object c.2.test in
      let outer = and_parts (s.exec && (offset_in (sections_in Text d.0.object) s.number + b.offset) % 4 == 0) (nat_le (b.offset + 4) s.size) test in
      let inner = and_parts s.exec ((offset_in (sections_in Text d.0.object) s.number + b.offset) % 4 == 0) outer.0 in
      let inside = subst (λ (o : Object). In s o.sections) object c.2.there in
      let at : entry_at w b ≡ start_of d.0.placed s.number + b.offset =
      ap (λ (o : Option Cell). unwrap_or (option_map (λ c. start_of c.placed b.section + b.offset) o) 0) own
      ∙ ap (λ (n : ℕ). start_of d.0.placed n + b.offset) (sym c.2.numbered) in (
        d.0,
        filter-In (λ (y : Cell). nat_le v.next_cell y.id.0) w.cells d.0 d.1 fresh,
        record {
          section = s;
          offset = b.offset;
          there = inside;
          executable = inner.0;
          bytes = leb-true (b.offset + 4) s.size outer.1;
          at = at;
          multiple = ap (λ (n : ℕ). n % 4) at ∙ (text_rest w ready d.0 d.1 s inside inner.0 b.offset ∙ eqb-true _ 0 inner.1);
        },
      )

  pub routines_begin : All (λ r. (c : Cell) × In c plan.fresh × BeginsIn c r.entry) plan.routines
  routines_begin = subst (λ (y : Plan). All (λ r. (c : Cell) × In c y.fresh × BeginsIn c r.entry) y.routines) x.is
      (In-All (λ (r : Routine). (c : Cell) × In c (fresh_cells v.next_cell w) × BeginsIn c r.entry) (routines_in w x.begins) at)
    where
      at : (r : Routine) → In r (routines_in w x.begins) → (c : Cell) × In c (fresh_cells v.next_cell w) × BeginsIn c r.entry
      at r i =
          let p = In-map _ (numbered x.begins) r i in
          let n = In-numbered x.begins 0 p.0 p.1 in
          subst (λ (r : Routine). (c : Cell) × In c (fresh_cells v.next_cell w) × BeginsIn c r.entry) (sym p.2) (begins_in p.0.1 (get-In x.begins n.0 p.0.1 n.1))
