-- Once replaced cells are put aside and new ones follow, the first lost need is that of a user of a replaced cell.
use Rattle.std.proofs.Common.{◌≡◌, refl, sym, ◌∙◌, ap, subst, arith, ℕ, suc, inl, inr, Bool, true, false, cond, not, ◌&&◌, List, [], ◌∷◌, ◌++◌, map, true≢false}
use Rattle.std.specs.Prelude.{filter, nat_lt, nat_le}
use Rattle.std.specs.List.{list_all}
use Rattle.std.proofs.lemmas.Bool.{leb-true, ltb-true}
use Rattle.std.proofs.lemmas.List.{append-nil}
use Rattle.std.proofs.lemmas.List.Elements.{filter-append}
use Rattle.cell_num.specs.Lists.{holds, In}
use Rattle.cell_world.specs.World.{World, Cell, is_attached}
use Rattle.cell_world.specs.Change.{Change as ChangeSaid, first_uncovered, is_bystander, old_of, replaced}
use Rattle.cell_world.specs.Gather.{Source, first_lack}
use Rattle.cell_world.specs.Coherent.{IsCoherent, is_known_cell}
use Rattle.cell_num.proofs.Elements.{All-In, all-In, In-filtered, In-map, filter-Passes, filter_none}
use Rattle.cell_lemmas.proofs.Naming.Attach.{Grows}
use Rattle.cell_lemmas.proofs.Naming.Known.{known_parts}
use Rattle.cell_lemmas.proofs.Holding.KeptPaths.{holds-In}
use Rattle.cell_lemmas.proofs.Naming.Coverage.{lacks_among, lacks_nothing}
use Rattle.cell_lemmas.proofs.Targeting.Detached.{put, put_out, put_same}
use Rattle.cell_lemmas.proofs.Naming.SetAside.{aside}
use Rattle.cell_change_law.specs.Sound.{IsSound}
use Rattle.cell_change_law.proofs.Placing.{one_number}
use Rattle.cell_plan.specs.Staying.{is_user}

-- a replaced cell is attached
pub replaced_attached : (sources : List Source) (v : World) → IsCoherent v → (asked : ChangeSaid) → IsSound sources v asked → (c : Cell) → In c v.cells → holds (old_of asked) c.id.0 ≡ true → is_attached c.standing ≡ true
replaced_attached sources v h asked good c i e =
    let x = In-map (λ (y : Cell). y.id.0) (replaced asked) c.id.0 (holds-In (old_of asked) c.id.0 e) in
    subst (λ (y : Cell). is_attached y.standing ≡ true) (sym (one_number v h c x.0 i (All-In (λ (y : Cell). In y v.cells) (replaced asked) good.present x.0 x.1) x.2))
    (All-In (λ (y : Cell). is_attached y.standing ≡ true) (replaced asked) good.attached x.0 x.1)

-- the machine with old cells of v put aside, and new ones behind them
pub record HasNewBehind (v : World) (h : IsCoherent v) (old : List ℕ) (g : World) : Type 0 where
  pub new : List Cell
  pub cells : g.cells ≡ map (put (suc v.swaps) old) v.cells ++ new
  pub fresh : list_all (λ c. nat_le v.next_cell c.id.0) new ≡ true
  pub grows : Grows (aside v h old) g

module _ (v : World) (h : IsCoherent v) (asked : ChangeSaid) (set_attached : (c : Cell) → In c v.cells → holds (old_of asked) c.id.0 ≡ true → is_attached c.standing ≡ true) (g : World) (b : HasNewBehind v h (old_of asked) g) where
  abbrev old : List ℕ
  old = old_of asked

  abbrev k : ℕ
  k = suc v.swaps

  abbrev stands_by : Cell → Bool
  stands_by = is_bystander v asked

  abbrev is_other : Cell → Bool
  is_other c = not (holds old c.id.0)

  number_put : (c : Cell) → (put k old c).id.0 ≡ c.id.0
  number_put c = put_same k old (λ x. x.id.0) c refl

  old_not : (c : Cell) → holds old c.id.0 ≡ true → stands_by (put k old c) ≡ false
  old_not c e =
      ap (λ n. nat_lt n v.next_cell && not (holds old n)) (number_put c)
      ∙ (ap (λ t. nat_lt c.id.0 v.next_cell && not t) e ∙ and_false (nat_lt c.id.0 v.next_cell))
    where
      and_false : (a : Bool) → (a && false) ≡ false
      and_false true = refl
      and_false false = refl

  other_does : (c : Cell) → In c v.cells → holds old c.id.0 ≡ false → stands_by (put k old c) ≡ true
  other_does c i e =
      ap (λ n. nat_lt n v.next_cell && not (holds old n)) (number_put c)
      ∙ (ap (λ a. a && not (holds old c.id.0)) (known_parts v c (all-In (is_known_cell v) v.cells h.ready.cells c i)).number
      ∙ ap not e)

  new_not : (c : Cell) → In c b.new → stands_by c ≡ false
  new_not c i = go (nat_lt c.id.0 v.next_cell) refl
    where
      go : (a : Bool) → nat_lt c.id.0 v.next_cell ≡ a → (a && not (holds old c.id.0)) ≡ false
      go false e = refl
      go true e = absurd (omega (arith, ltb-true c.id.0 v.next_cell e, leb-true v.next_cell c.id.0 (all-In (λ (x : Cell). nat_le v.next_cell x.id.0) b.new b.fresh c i)))

  bystanders : (cells : List Cell) → ((c : Cell) → In c cells → In c v.cells) → filter stands_by (map (put k old) cells) ≡ filter is_other cells
  bystanders [] f = refl
  bystanders (c ∷ cells) f = go (holds old c.id.0) refl (bystanders cells (λ d i. f d (inr i)))
    where
      go : (a : Bool) → holds old c.id.0 ≡ a → filter stands_by (map (put k old) cells) ≡ filter is_other cells
          → filter stands_by (put k old c ∷ map (put k old) cells) ≡ cond (not a) (c ∷ filter is_other cells) (filter is_other cells)
      go true e ih = ap (λ t. cond t (put k old c ∷ filter stands_by (map (put k old) cells)) (filter stands_by (map (put k old) cells))) (old_not c e) ∙ ih
      go false e ih =
          ap (λ t. cond t (put k old c ∷ filter stands_by (map (put k old) cells)) (filter stands_by (map (put k old) cells))) (other_does c (f c (inl refl)) e)
          ∙ (ap (λ (x : Cell). x ∷ filter stands_by (map (put k old) cells)) (put_out k old c e) ∙ ap (λ (cs : List Cell). c ∷ cs) ih)

  all_bystanders : filter stands_by g.cells ≡ filter is_other v.cells
  all_bystanders =
      ap (filter stands_by) b.cells
      ∙ (filter-append stands_by (map (put k old) v.cells) b.new
      ∙ (ap (λ (cs : List Cell). filter stands_by (map (put k old) v.cells) ++ cs) (filter_none stands_by b.new new_not)
      ∙ (append-nil (filter stands_by (map (put k old) v.cells)) ∙ bystanders v.cells (λ c i. i))))

  -- so it is enough to look at cells that aren't old themselves, among which are all users of old ones
  pub uncovered_among : (p : Cell → Bool) → ((c : Cell) → p c ≡ false → is_user v old c ≡ false) → first_uncovered v asked g ≡ first_lack g (filter p (filter is_other v.cells))
  uncovered_among p picks =
      ap (first_lack g) all_bystanders
      ∙ lacks_among g p (filter is_other v.cells) (λ c i unpicked. lacks_nothing v h old set_attached c (In-filtered is_other v.cells c i) (flipped (holds old c.id.0) (filter-Passes is_other v.cells c i)) (picks c unpicked) g b.grows)
    where
      flipped : (a : Bool) → not a ≡ true → a ≡ false
      flipped true e = absurd (true≢false (sym e))
      flipped false e = refl
