-- An entry names something else exactly where its link leads to another section, comes or goes, and exactly where it leads into another cell:
-- in one cell a name stands at one place.
use Rattle.std.proofs.Common.{◌≡◌, refl, sym, ◌∙◌, ap, ap₂, subst, ℕ, zero, suc, ◌⊎◌, inl, inr, Bool, true, false, not, ◌&&◌, List, [], true≢false, Option, Some, None}
use Rattle.std.specs.Prelude.{All, find, option_and_then, slice_get, unwrap_or, ◌==◌}
use Rattle.std.proofs.lemmas.Bool.{and_from, and_parts, eqb-true, eq-eqb}
use Rattle.cell_num.specs.declared.ids.SecKey.{SecKey}
use Rattle.cell_num.specs.Lists.{numbered, In}
use Rattle.cell_object.specs.declared.object.Symbol.{Symbol}
use Rattle.cell_object.specs.declared.object.Entry.{Entry}
use Rattle.cell_object.specs.Parts.{symbol_at, is_defined, is_undefined, is_weak}
use Rattle.cell_object.specs.declared.object.Home.{Home}
use Rattle.cell_object.specs.declared.object.Home.TheVariants.{Undef, Abs, Inside, Elsewhere}
use Rattle.cell_world.specs.declared.state.NewCell.{NewCell}
use Rattle.cell_world.specs.declared.state.Target.{Target}
use Rattle.cell_world.specs.declared.state.Target.TheVariants.{Section, Number}
use Rattle.cell_world.specs.World.{World, Cell, Alias, cell_of}
use Rattle.cell_world.specs.declared.state.Standing.TheVariants.{Attached}
use Rattle.cell_world.specs.Names.{symbol_named, weak_symbol_named}
use Rattle.cell_world.specs.Linked.Target.{symbol_target, numbered_target, naming_entry, target_of}
use Rattle.cell_world.specs.Linked.Relink.{link_of}
use Rattle.cell_world.specs.Changed.{is_same_key, is_other_target, now_in, differs}
use Rattle.cell_world.specs.Coherent.{IsCoherent, IsReady, has_each_name_once, is_known_cell, is_supplied}
use Rattle.cell_lemmas.specs.Grown.{IsRegrown}
use Rattle.cell_lemmas.specs.Leads.{cell_in, is_other_cell, leads_elsewhere}
use Rattle.cell_lemmas.specs.LinkSteps.{is_other_link}
use Rattle.cell_lemmas.specs.Named.{IsNamed, has_own_aliases}
use Rattle.cell_num.proofs.Elements.{Has, All-In, all-In, In-All, In-all, In-numbered, get-In}
use Rattle.cell_lemmas.proofs.Links.FreshLinks.{link_with}
use Rattle.cell_lemmas.proofs.Placement.Inside.{ready_linkable}
use Rattle.cell_lemmas.proofs.Naming.Known.{known_parts, named, object_sound}
use Rattle.cell_lemmas.proofs.Targeting.Present.{and_then_ok, some_same}
use Rattle.cell_lemmas.proofs.Targeting.Targets.{In-find, target_has}
use Rattle.cell_lemmas.proofs.Fields.Unchanged.{now_There, placed_same}
use Rattle.cell_lemmas.proofs.Targeting.Viewed.{IsGiven, IsOwn, View, not_twice, view, weak_held}

not_both : (home : Home) → is_defined home ≡ true → is_undefined home ≡ true → ⊥
not_both Undef d u = true≢false (sym d)
not_both Abs d u = true≢false (sym u)
not_both (Inside n) d u = true≢false (sym u)
not_both Elsewhere d u = true≢false (sym u)

abbrev section_of : Home → ℕ
section_of (Inside n) = n
section_of Undef = 0
section_of Abs = 0
section_of Elsewhere = 0

ready_named : (w : World) → IsReady w → IsNamed w
ready_named w r = record {
  cell_order = r.cell_order;
  names = r.names;
  aliases = In-all has_own_aliases w.cells (λ c i. (known_parts w c (all-In (is_known_cell w) w.cells r.cells c i)).aliases);
}

-- what an entry names is what its symbol is, or the number 0
of_symbol : (w : World) (z : Cell) (m : ℕ) (t : Target) → numbered_target w z m ≡ Some t → ((m ≡ 0) × (t ≡ Number 0)) ⊎ ((s : Symbol) × In s z.object.symbols × (symbol_at z.object m ≡ Some s) × (symbol_target w z s s.home ≡ Some t))
of_symbol w z zero t e = inl (refl, sym (some_same (Number 0) t e))
of_symbol w z (suc n) t e = go (slice_get z.object.symbols n) refl e
  where
    go : (o : Option Symbol) → slice_get z.object.symbols n ≡ o → option_and_then (λ s. symbol_target w z s s.home) o ≡ Some t → ((suc n ≡ 0) × (t ≡ Number 0)) ⊎ ((s : Symbol) × In s z.object.symbols × (slice_get z.object.symbols n ≡ Some s) × (symbol_target w z s s.home ≡ Some t))
    go None f k = cc
    go (Some s) f k = inr (s, get-In z.object.symbols n s f, f, k)

module _ (v w : World) (new : List Cell) (h : IsCoherent v) (ready : IsReady w) (g : IsRegrown v w new) (aliases : (d : Cell) → In d v.cells → (now_in w d).aliases ≡ d.aliases) where
  same : (d : Cell) → In d v.cells → (now_in w d).placed ≡ d.placed
  same d i = placed_same v w new h.ready (ready_linkable w ready) g d i

  there : (d : Cell) → In d v.cells → In (now_in w d) w.cells
  there d i = now_There v w new h.ready (ready_linkable w ready) g d i

  -- the cell of w that has the number is the one that it is by now
  now_is : (d : Cell) → In d v.cells → (x : Cell) → In x w.cells → x.id.0 ≡ d.id.0 → x ≡ now_in w d
  now_is d i x j e = ap (λ (o : Option Cell). unwrap_or o d) (sym (subst (λ (n : ℕ). find (λ y. y.id.0 == n) w.cells ≡ Some x) e (In-find w.cells ready.cell_order x j)))

  strong_same : (d : Cell) → In d v.cells → (name : List ℕ) → symbol_named (now_in w d) name ≡ symbol_named d name
  strong_same d i name = ap₂ (λ (p : NewCell) (names : List Alias). symbol_named (record { placed = p; aliases = names; standing = Attached }) name) (same d i) (aliases d i)

  weak_same : (d : Cell) → In d v.cells → (name : List ℕ) → weak_symbol_named (now_in w d) name ≡ weak_symbol_named d name
  weak_same d i name = ap (λ (p : NewCell). weak_symbol_named (record { placed = p; aliases = []; standing = Attached }) name) (same d i)

  once : (d : Cell) → In d v.cells → has_each_name_once d ≡ true
  once d i = all-In has_each_name_once v.cells h.ready.own_names d i

  once_now : (x : Cell) → In x w.cells → has_each_name_once x ≡ true
  once_now x j = all-In has_each_name_once w.cells ready.own_names x j

  -- the symbol that two cells of one number hold under the name is one
  one_symbol : (s : Symbol) (key other : SecKey) (offset place : ℕ) → IsGiven v s key offset → IsGiven w s other place → key.cell.0 ≡ other.cell.0 → (key.section ≡ other.section) × (offset ≡ place)
  one_symbol s key other offset place a b e = (
    ap section_of (sym a.section_is ∙ (ap (λ (x : Symbol). x.home) (some_same a.is b.is is_one) ∙ b.section_is)),
    a.offset_is ∙ (ap (λ (x : Symbol). x.value) (some_same a.is b.is is_one) ∙ sym b.offset_is),
  )
    where
      x : b.cell ≡ now_in w a.cell
      x = now_is a.cell a.present b.cell b.present (sym b.number ∙ (sym e ∙ a.number))

      strong_b : (n : ℕ) → symbol_named b.cell s.name ≡ Some n → symbol_named a.cell s.name ≡ Some n
      strong_b n f = sym (ap (λ (c : Cell). symbol_named c s.name) x ∙ strong_same a.cell a.present s.name) ∙ f

      weak_b : (n : ℕ) → weak_symbol_named b.cell s.name ≡ Some n → weak_symbol_named a.cell s.name ≡ Some n
      weak_b n f = sym (ap (λ (c : Cell). weak_symbol_named c s.name) x ∙ weak_same a.cell a.present s.name) ∙ f

      symbols : (symbol_named a.cell s.name ≡ Some a.symbol) ⊎ ((weak_symbol_named a.cell s.name ≡ Some a.symbol) × (is_undefined s.home ≡ true))
          → (symbol_named b.cell s.name ≡ Some b.symbol) ⊎ ((weak_symbol_named b.cell s.name ≡ Some b.symbol) × (is_undefined s.home ≡ true)) → a.symbol ≡ b.symbol
      symbols (inl p) (inl q) = some_same a.symbol b.symbol (sym p ∙ strong_b b.symbol q)
      symbols (inr p) (inr q) = some_same a.symbol b.symbol (sym p.0 ∙ weak_b b.symbol q.0)
      symbols (inl p) (inr q) = absurd (not_twice a.cell (once a.cell a.present) s.name a.symbol b.symbol p (weak_b b.symbol q.0))
      symbols (inr p) (inl q) = absurd (not_twice a.cell (once a.cell a.present) s.name b.symbol a.symbol (strong_b b.symbol q) p.0)

      is_one : Some a.is ≡ Some b.is
      is_one =
          sym a.at
          ∙ (ap (symbol_at a.cell.object) (symbols a.holds b.holds)
          ∙ (ap (λ (p : NewCell). symbol_at p.object b.symbol) (sym (ap (λ (c : Cell). c.placed) x ∙ same a.cell a.present)) ∙ b.at))

  module _ (c : Cell) (i : In c v.cells) where
    -- the cell as it is by now, with the object that it had
    abbrev z : Cell
    z = record { placed = c.placed; aliases = (now_in w c).aliases; standing = (now_in w c).standing }

    z_is : now_in w c ≡ z
    z_is = ap (λ (p : NewCell). let x : Cell = record { placed = p; aliases = (now_in w c).aliases; standing = (now_in w c).standing } in x) (same c i)

    z_there : In z w.cells
    z_there = subst (λ (x : Cell). In x w.cells) z_is (there c i)

    -- a cell that holds strongly what it defines as WEAK there is none
    never_own : (s : Symbol) → In s c.object.symbols → is_defined s.home ≡ true → (u : World) (d : Cell) → has_each_name_once d ≡ true → weak_symbol_named d s.name ≡ weak_symbol_named c s.name
        → (m : ℕ) → (symbol_named d s.name ≡ Some m) ⊎ ((weak_symbol_named d s.name ≡ Some m) × (is_undefined s.home ≡ true)) → (is_undefined s.home ≡ true) ⊎ (is_weak s.bind ≡ true) → ⊥
    never_own s j defined u d o e m holds (inl x) = not_both s.home defined x
    never_own s j defined u d o e m (inr x) (inr y) = not_both s.home defined x.1
    never_own s j defined u d o e m (inl x) (inr y) = let q = weak_held c s j y defined in not_twice d o s.name m q.0 x (e ∙ q.1)

    same_place : (s : Symbol) → In s c.object.symbols → (key other : SecKey) (offset place : ℕ) → IsOwn c s key offset ⊎ IsGiven v s key offset → IsOwn z s other place ⊎ IsGiven w s other place → key.cell.0 ≡ other.cell.0 → (key.section ≡ other.section) × (offset ≡ place)
    same_place s j key other offset place (inl a) (inl b) e = (ap section_of (sym a.section_is ∙ b.section_is), a.offset_is ∙ sym b.offset_is)
    same_place s j key other offset place (inr a) (inr b) e = one_symbol s key other offset place a b e
    same_place s j key other offset place (inl a) (inr b) e =
        let x : b.cell ≡ now_in w c = now_is c i b.cell b.present (sym b.number ∙ (sym e ∙ a.number)) in
        absurd (never_own s j a.defined w b.cell (once_now b.cell b.present) (ap (λ (y : Cell). weak_symbol_named y s.name) x ∙ weak_same c i s.name) b.symbol b.holds b.asked)
    same_place s j key other offset place (inr a) (inl b) e =
        let x : a.cell ≡ c = some_same a.cell c (sym (In-find v.cells h.ready.cell_order a.cell a.present) ∙ (ap (cell_of v) (sym a.number ∙ (e ∙ b.number)) ∙ In-find v.cells h.ready.cell_order c i)) in
        absurd (never_own s j b.defined v a.cell (once a.cell a.present) (ap (λ (y : Cell). weak_symbol_named y s.name) x) a.symbol a.holds a.asked)

    -- a test of two targets that says for each symbol whether they differ says it for each entry
    module _ (rule : Target → Target → Bool) (zero_same : rule (Number 0) (Number 0) ≡ false)
        (agree : (s : Symbol) → In s c.object.symbols → (t u : Target) → View v (named v h) c s s.home t → View w (ready_named w ready) z s s.home u → is_other_target (Some t) (Some u) ≡ rule t u) where
      symbols_agree : (m : ℕ) (t u : Target) → numbered_target v c m ≡ Some t → numbered_target w z m ≡ Some u → is_other_target (Some t) (Some u) ≡ rule t u
      symbols_agree m t u e f = go (of_symbol v c m t e) (of_symbol w z m u f)
        where
          none : (s : Symbol) → m ≡ 0 → symbol_at c.object m ≡ Some s → ⊥
          none s x y = let k : None ≡ Some s = sym (ap (symbol_at c.object) x) ∙ y in cc

          go : ((m ≡ 0) × (t ≡ Number 0)) ⊎ ((s : Symbol) × In s c.object.symbols × (symbol_at c.object m ≡ Some s) × (symbol_target v c s s.home ≡ Some t))
              → ((m ≡ 0) × (u ≡ Number 0)) ⊎ ((s : Symbol) × In s c.object.symbols × (symbol_at c.object m ≡ Some s) × (symbol_target w z s s.home ≡ Some u))
              → is_other_target (Some t) (Some u) ≡ rule t u
          go (inl x) (inl y) = ap₂ (λ (a b : Target). is_other_target (Some a) (Some b)) x.1 y.1 ∙ (sym zero_same ∙ sym (ap₂ rule x.1 y.1))
          go (inl x) (inr y) = absurd (none y.0 x.0 y.2)
          go (inr x) (inl y) = absurd (none x.0 y.0 x.2)
          go (inr x) (inr y) =
              let q : x.0 ≡ y.0 = some_same x.0 y.0 (sym x.2 ∙ y.2) in
              agree x.0 x.1 t u (view v (named v h) c x.0 x.0.home refl t x.3)
              (view w (ready_named w ready) z x.0 x.0.home refl u (subst (λ (s : Symbol). symbol_target w z s s.home ≡ Some u) (sym q) y.3))

    module _ (e : Entry) (entry : In e c.object.entries) where
      had : Has (target_of v c e)
      had = target_has v h.ready.cell_order h.ready.cells c (object_sound v h.ready.objects c i) (all-In (is_supplied v) v.cells h.ready.supplied c i) e entry

      now : Has (target_of w z e)
      now = target_has w ready.cell_order ready.cells z (object_sound w ready.objects z z_there) (all-In (is_supplied w) w.cells ready.supplied z z_there) e entry

      by_rule : (rule : Target → Target → Bool) → rule (Number 0) (Number 0) ≡ false
          → ((s : Symbol) → In s c.object.symbols → (t u : Target) → View v (named v h) c s s.home t → View w (ready_named w ready) z s s.home u → is_other_target (Some t) (Some u) ≡ rule t u)
          → differs v w c e ≡ rule had.0 now.0
      by_rule rule zero_same agree =
          ap₂ is_other_target had.1 (ap (λ (x : Cell). target_of w x e) z_is ∙ now.1)
          ∙ (let a = and_then_ok (λ (n : Entry). numbered_target v c n.symbol) (naming_entry c.object e) had.0 had.1 in
          let b = and_then_ok (λ (n : Entry). numbered_target w z n.symbol) (naming_entry c.object e) now.0 now.1 in
          let n : b.0 ≡ a.0 = some_same b.0 a.0 (sym b.1 ∙ a.1) in
          symbols_agree rule zero_same agree a.0.symbol had.0 now.0 a.2 (subst (λ (x : Entry). numbered_target w z x.symbol ≡ Some now.0) n b.2))

      -- into another cell
      cells_agree : (s : Symbol) → In s c.object.symbols → (t u : Target) → View v (named v h) c s s.home t → View w (ready_named w ready) z s s.home u
          → is_other_target (Some t) (Some u) ≡ is_other_cell (cell_in (Some t)) (cell_in (Some u))
      cells_agree s j (Number m) (Number n) a b = ap not (eq-eqb m n (a ∙ sym b))
      cells_agree s j (Number m) (Section other place at) a b = refl
      cells_agree s j (Section key offset addr) (Number n) a b = refl
      cells_agree s j (Section key offset addr) (Section other place at) a b = go (key.cell.0 == other.cell.0) refl
        where
          go : (x : Bool) → (key.cell.0 == other.cell.0) ≡ x → not ((key.cell.0 == other.cell.0 && key.section == other.section) && offset == place) ≡ not (key.cell.0 == other.cell.0)
          go false e = ap (λ b. not ((b && key.section == other.section) && offset == place)) e ∙ sym (ap not e)
          go true e =
              let q = same_place s j key other offset place a b (eqb-true key.cell.0 other.cell.0 e) in
              ap not (and_from (key.cell.0 == other.cell.0 && key.section == other.section) (offset == place)
              (and_from (key.cell.0 == other.cell.0) (key.section == other.section) e (eq-eqb key.section other.section q.0)) (eq-eqb offset place q.1))
              ∙ sym (ap not e)

      pub differs_elsewhere : differs v w c e ≡ leads_elsewhere v w c e
      differs_elsewhere =
          by_rule (λ t u. is_other_cell (cell_in (Some t)) (cell_in (Some u))) refl cells_agree
          ∙ sym (ap₂ (λ (a b : Option Target). is_other_cell (cell_in a) (cell_in b)) had.1 (ap (λ (x : Cell). target_of w x e) z_is ∙ now.1))

    -- and to another section
    module _ (p : ℕ × Entry) where
      links_agree : (s : Symbol) → In s c.object.symbols → (t u : Target) → View v (named v h) c s s.home t → View w (ready_named w ready) z s s.home u
          → is_other_target (Some t) (Some u) ≡ is_other_link (link_with c p (Some t)) (link_with z p (Some u))
      links_agree s j (Number m) (Number n) a b = ap not (eq-eqb m n (a ∙ sym b))
      links_agree s j (Number m) (Section other place at) a b = refl
      links_agree s j (Section key offset addr) (Number n) a b = refl
      links_agree s j (Section key offset addr) (Section other place at) a b = go (is_same_key key other) refl
        where
          go : (x : Bool) → is_same_key key other ≡ x → not (x && offset == place) ≡ not x
          go false e = refl
          go true e = ap not (eq-eqb offset place (same_place s j key other offset place a b (eqb-true key.cell.0 other.cell.0 (and_parts (key.cell.0 == other.cell.0) (key.section == other.section) e).0)).1)

      pub differs_by_link : In p (numbered c.object.entries) → differs v w c p.1 ≡ is_other_link (link_of v c p) (link_of w (now_in w c) p)
      differs_by_link j =
          by_rule p.1 entry (λ t u. is_other_link (link_with c p (Some t)) (link_with z p (Some u))) refl links_agree
          ∙ sym (ap₂ is_other_link (ap (link_with c p) (had p.1 entry).1) (ap (λ (x : Cell). link_of w x p) z_is ∙ ap (link_with z p) (now p.1 entry).1))
        where
          entry : In p.1 c.object.entries
          entry = let n = In-numbered c.object.entries 0 p j in get-In c.object.entries n.0 p.1 n.1

pub differ_by_links : (v w : World) (new : List Cell) → IsCoherent v → IsReady w → IsRegrown v w new → All (λ c. (now_in w c).aliases ≡ c.aliases) v.cells
    → All (λ c. All (λ p. differs v w c p.1 ≡ is_other_link (link_of v c p) (link_of w (now_in w c) p)) (numbered c.object.entries)) v.cells
differ_by_links v w new h ready g aliases =
    In-All (λ (c : Cell). All (λ (p : ℕ × Entry). differs v w c p.1 ≡ is_other_link (link_of v c p) (link_of w (now_in w c) p)) (numbered c.object.entries)) v.cells
    (λ c i. In-All (λ (p : ℕ × Entry). differs v w c p.1 ≡ is_other_link (link_of v c p) (link_of w (now_in w c) p)) (numbered c.object.entries)
    (λ p j. differs_by_link v w new h ready g (All-In (λ (d : Cell). (now_in w d).aliases ≡ d.aliases) v.cells aliases) c i p j))

pub differ_elsewhere : (v w : World) (new : List Cell) → IsCoherent v → IsReady w → IsRegrown v w new → All (λ c. (now_in w c).aliases ≡ c.aliases) v.cells
    → All (λ c. All (λ e. differs v w c e ≡ leads_elsewhere v w c e) c.object.entries) v.cells
differ_elsewhere v w new h ready g aliases =
    In-All (λ (c : Cell). All (λ (e : Entry). differs v w c e ≡ leads_elsewhere v w c e) c.object.entries) v.cells
    (λ c i. In-All (λ (e : Entry). differs v w c e ≡ leads_elsewhere v w c e) c.object.entries
    (λ e j. differs_elsewhere v w new h ready g (All-In (λ (d : Cell). (now_in w d).aliases ≡ d.aliases) v.cells aliases) c i e j))
