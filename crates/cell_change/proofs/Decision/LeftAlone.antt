-- What a change leaves alone: cells that await no name which comes, and have no link into a replaced cell or into one that awaits one.
use Rattle.std.proofs.Common.{◌≡◌, refl, sym, ◌∙◌, ap, ap₂, subst, ℕ, ◌⊎◌, inl, inr, Bool, true, false, not, ◌&&◌, ◌||◌, true≢false, List, map, Option, Some, None}
use Rattle.std.specs.Prelude.{filter, filter_map}
use Rattle.std.specs.List.{list_any}
use Rattle.std.proofs.lemmas.Bool.{and_parts, or_parts}
use Rattle.cell_num.specs.Lists.{holds, numbered, numbered_from, In}
use Rattle.cell_num.proofs.Elements.{In-append, In-filtered, In-map, In-none, In-numbered, all-In, any-Has, any-In, filter-Passes, get-In, none-In}
use Rattle.cell_object.specs.declared.object.Entry.{Entry}
use Rattle.cell_object.specs.declared.object.Symbol.{Symbol}
use Rattle.cell_object.specs.Parts.{has_no_weak, is_defined, is_weak}
use Rattle.cell_world.specs.declared.state.LinkRow.{LinkRow}
use Rattle.cell_world.specs.declared.state.Target.{Target}
use Rattle.cell_world.specs.declared.state.Target.TheVariants.{Section, Number}
use Rattle.cell_world.specs.Answer.{numbers_of}
use Rattle.cell_world.specs.Change.{Change as ChangeSaid, old_of}
use Rattle.cell_world.specs.Changed.{differs}
use Rattle.cell_world.specs.Coherent.{AreSound, IsCoherent}
use Rattle.cell_world.specs.Gather.{Source}
use Rattle.cell_world.specs.Names.{is_weak_definition, weak_definitions_of}
use Rattle.cell_world.specs.Linked.Relink.{link_of, link_to}
use Rattle.cell_world.specs.Linked.Target.{target_of}
use Rattle.cell_world.specs.World.{Alias, Cell, World, key_of}
use Rattle.cell_lemmas.specs.Targets.{is_target_in}
use Rattle.cell_lemmas.specs.Touched.{awaits, holds_name, touched, yields}
use Rattle.cell_lemmas.proofs.Holding.KeptPaths.{In-holds, holds-In}
use Rattle.cell_lemmas.proofs.Naming.Lookups.{filter_map-In, has_place}
use Rattle.cell_change_law.specs.Sound.{HasCome, IsSound}
use Rattle.cell_change_law.proofs.Untouched.{change_stays, comers}
use Rattle.cell_plan.specs.Staying.{is_user, links_in}

-- a cell that awaits a name has a WEAK symbol
pub awaits_soft : (coming : List Cell) (d : Cell) → awaits coming d ≡ true → has_no_weak d.object ≡ false
awaits_soft coming d y = go (has_no_weak d.object) refl
  where
    s : (s : Symbol) × In s d.object.symbols × ((is_weak s.bind && list_any (λ (n : Cell). holds_name n s.name) coming) ≡ true)
    s = any-Has (λ (s : Symbol). is_weak s.bind && list_any (λ (n : Cell). holds_name n s.name) coming) d.object.symbols y

    go : (b : Bool) → has_no_weak d.object ≡ b → b ≡ false
    go false e = refl
    go true e = absurd (true≢false (sym (all-In (λ (s : Symbol). not (is_weak s.bind)) d.object.symbols e s.0 s.1) ∙ ap not (and_parts (is_weak s.0.bind) (list_any (λ (n : Cell). holds_name n s.0.name) coming) s.2).0))

-- a cell that yields a name awaits it
yields_awaited : (coming : List Cell) (d : Cell) → yields coming d ≡ true → awaits coming d ≡ true
yields_awaited coming d y =
    any-In (λ (s : Symbol). is_weak s.bind && list_any (λ (n : Cell). holds_name n s.name) coming) d.object.symbols q.0.1 there
    (ap₂ (λ a b. a && b) weak (subst (λ (x : Alias). list_any (λ (n : Cell). holds_name n x.name) coming ≡ true) q.2 a.2))
  where
    a : (a : Alias) × In a (weak_definitions_of d.object) × (list_any (λ (n : Cell). holds_name n a.name) coming ≡ true)
    a = any-Has (λ (a : Alias). list_any (λ (n : Cell). holds_name n a.name) coming) (weak_definitions_of d.object) y

    q : (q : ℕ × Symbol) × In q (filter (λ (q : ℕ × Symbol). is_weak_definition q.1) (numbered_from 1 d.object.symbols)) × (a.0 ≡ (let x : Alias = record { name = q.1.name; symbol = q.0 } in x))
    q = In-map (λ (q : ℕ × Symbol). let x : Alias = record { name = q.1.name; symbol = q.0 } in x) (filter (λ (q : ℕ × Symbol). is_weak_definition q.1) (numbered_from 1 d.object.symbols)) a.0 a.1

    weak : is_weak q.0.1.bind ≡ true
    weak = (and_parts (is_weak q.0.1.bind) (is_defined q.0.1.home) (filter-Passes (λ (q : ℕ × Symbol). is_weak_definition q.1) (numbered_from 1 d.object.symbols) q.0 q.1)).0

    there : In q.0.1 d.object.symbols
    there = let n = In-numbered d.object.symbols 1 q.0 (In-filtered (λ (q : ℕ × Symbol). is_weak_definition q.1) (numbered_from 1 d.object.symbols) q.0 q.1) in get-In d.object.symbols n.0 q.0.1 n.1

-- a target in one of the cells would have a link
no_target : (numbers : List ℕ) (v : World) (c : Cell) → is_user v numbers c ≡ false → (e : Entry) → In e c.object.entries → is_target_in numbers (target_of v c e) ≡ false
no_target numbers v c none e j = go (target_of v c e) refl
  where
    n : (n : ℕ) × In (n, e) (numbered c.object.entries)
    n = has_place c.object.entries 0 e j

    go : (t : Option Target) → target_of v c e ≡ t → is_target_in numbers t ≡ false
    go None q = refl
    go (Some (Number value)) q = refl
    go (Some (Section key offset addr)) q =
        let row : LinkRow = record { user = key_of c.id.0 e.section; entry = n.0; target = key } in
        let one : link_of v c (n.0, e) ≡ Some row = ap (λ o. elim o as (λ _. Option LinkRow) [ None ↦ None | Some target ↦ link_to c n.0 e target ]) q in
        none-In (λ (l : LinkRow). holds numbers l.target.cell.0) (links_in v c) none row (filter_map-In (link_of v c) (numbered c.object.entries) (n.0, e) row n.1 one)

module _ (sources : List Source) (sound : AreSound sources) (v : World) (h : IsCoherent v) (asked : ChangeSaid) (good : IsSound sources v asked) (w : World) (p : HasCome sources v asked w)
    (softs : List ℕ) (soft : (d : Cell) → In d v.cells → awaits (comers sources sound v h asked good p.gathered p.gathering w p.placing p.covered) d ≡ true → holds softs d.id.0 ≡ true) where
  abbrev old : List ℕ
  old = old_of asked

  abbrev coming : List Cell
  coming = comers sources sound v h asked good p.gathered p.gathering w p.placing p.covered

  -- the cells that may change
  abbrev pub picked : Cell → Bool
  picked c = is_user v old c || (is_user v softs c || holds softs c.id.0)

  -- a cell that isn't picked has no link into one that leaves or yields
  untouched : (c : Cell) → is_user v old c ≡ false → is_user v softs c ≡ false → is_user v (touched v old coming) c ≡ false
  untouched c olds others = In-none (λ (l : LinkRow). holds (touched v old coming) l.target.cell.0) (links_in v c) (λ l i. go l i (holds (touched v old coming) l.target.cell.0) refl)
    where
      by : (l : LinkRow) → In l (links_in v c) → In l.target.cell.0 old ⊎ In l.target.cell.0 (numbers_of (filter (yields coming) v.cells)) → ⊥
      by l i (inl j) = true≢false (sym (In-holds old l.target.cell.0 j) ∙ none-In (λ (l : LinkRow). holds old l.target.cell.0) (links_in v c) olds l i)
      by l i (inr j) =
          let d = In-map (λ (d : Cell). d.id.0) (filter (yields coming) v.cells) l.target.cell.0 j in
          let there : holds softs d.0.id.0 ≡ true = soft d.0 (In-filtered (yields coming) v.cells d.0 d.1) (yields_awaited coming d.0 (filter-Passes (yields coming) v.cells d.0 d.1)) in
          true≢false (sym (subst (λ (n : ℕ). holds softs n ≡ true) (sym d.2) there) ∙ none-In (λ (l : LinkRow). holds softs l.target.cell.0) (links_in v c) others l i)

      go : (l : LinkRow) → In l (links_in v c) → (b : Bool) → holds (touched v old coming) l.target.cell.0 ≡ b → b ≡ false
      go l i false e = refl
      go l i true e = absurd (by l i (In-append old (numbers_of (filter (yields coming) v.cells)) l.target.cell.0 (holds-In (touched v old coming) l.target.cell.0 e)))

  -- and none of its entries names something else
  pub left_alone : (c : Cell) → In c v.cells → picked c ≡ false → (e : Entry) → In e c.object.entries → differs v w c e ≡ false
  left_alone c i unpicked e j =
      let olds = or_parts (is_user v old c) (is_user v softs c || holds softs c.id.0) unpicked in
      let others = or_parts (is_user v softs c) (holds softs c.id.0) olds.1 in
      change_stays sources sound v h asked good p.gathered p.gathering w p.placing p.covered c i (quiet others.1) e j
      (no_target (touched v old coming) v c (untouched c olds.0 others.0) e j)
    where
      quiet : holds softs c.id.0 ≡ false → awaits coming c ≡ false
      quiet out = go (awaits coming c) refl
        where
          go : (b : Bool) → awaits coming c ≡ b → b ≡ false
          go false k = refl
          go true k = absurd (true≢false (sym (soft c i k) ∙ out))
