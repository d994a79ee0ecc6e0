-- Cells that are put aside keep their numbers and sections, and what goes are the cells that nobody keeps.
use Rattle.std.proofs.Common.{◌≡◌, refl, sym, ◌∙◌, ap, subst, ℕ, inl, inr, Bool, true, false, cond, true≢false, ◌&&◌, ◌||◌, List, [], ◌∷◌, ◌++◌, map}
use Rattle.std.specs.Prelude.{◌==◌, All, IsTrue, filter, flat_map, nat_lt, not}
use Rattle.std.specs.List.{list_any}
use Rattle.std.proofs.lemmas.Bool.{or_left}
use Rattle.cell_num.specs.declared.ids.CellId.{CellId}
use Rattle.cell_num.specs.declared.ids.SecKey.{SecKey}
use Rattle.cell_num.specs.Lists.{each_pair, holds, In}
use Rattle.cell_world.specs.declared.state.LinkRow.{LinkRow}
use Rattle.cell_world.specs.declared.state.Placed.{Placed}
use Rattle.cell_world.specs.Answer.{numbers_of}
use Rattle.cell_world.specs.Coherent.{IsCoherent}
use Rattle.cell_world.specs.Kept.{Holding, holding_of, is_claimed_by, kept_in, placed_in}
use Rattle.cell_world.specs.Commands.UnloadCommand.{detach, garbage_of, put_aside}
use Rattle.cell_world.specs.World.{World, Cell, is_attached}
use Rattle.cell_world.specs.declared.state.Standing.TheVariants.{Detached}
use Rattle.cell_num.proofs.Elements.{In-All, In-none, In-filtered, filter-In, map-In, map_same, pairs-map}
use Rattle.cell_lemmas.proofs.Fields.Relinked.{map_twice}
use Rattle.cell_num.proofs.Sublists.{pairs-filter}
use Rattle.cell_graph.specs.Removal.{is_listed, is_outside_use}
use Rattle.cell_lemmas.proofs.Placement.Freed.{number_holds}
use Rattle.cell_lemmas.proofs.Holding.KeptPaths.{In-holds, directly_kept, kept_complete}
use Rattle.cell_lemmas.proofs.Naming.PutAside.{closed_aside, put_number}

-- a cell is listed where its number is
pub listed_numbers : (cells : List CellId) (n : ℕ) → list_any (λ c. c.0 == n) cells ≡ holds (map (λ c. c.0) cells) n
listed_numbers [] n = refl
listed_numbers (c ∷ cells) n = ap (λ b. c.0 == n || b) (listed_numbers cells n)

module _ (k : ℕ) (ns : List ℕ) where
  placed_aside : (c : Cell) → placed_in (put_aside k ns c) ≡ placed_in c
  placed_aside c = go (holds ns c.id.0)
    where
      go : (b : Bool) → placed_in (cond b (record c { standing = Detached k }) c) ≡ placed_in c
      go true = refl
      go false = refl

  pub sections_aside : (cells : List Cell) → flat_map placed_in (map (put_aside k ns) cells) ≡ flat_map placed_in cells
  sections_aside [] = refl
  sections_aside (c ∷ cells) =
      ap (λ (s : List Placed). s ++ flat_map placed_in (map (put_aside k ns) cells)) (placed_aside c)
      ∙ ap (λ (s : List Placed). placed_in c ++ s) (sections_aside cells)

  pub numbers_aside : (cells : List Cell) → numbers_of (map (put_aside k ns) cells) ≡ numbers_of cells
  numbers_aside cells = map_twice (λ (c : Cell). c.id.0) (put_aside k ns) cells ∙ map_same _ _ cells (λ c i. put_number k ns c)

-- it makes no difference that some are left out whose numbers don't pass
numbers_passed : (p : ℕ → Bool) (q : Cell → Bool) (cells : List Cell) → ((c : Cell) → In c cells → q c ≡ false → p c.id.0 ≡ false) → filter p (numbers_of (filter q cells)) ≡ filter p (numbers_of cells)
numbers_passed p q [] f = refl
numbers_passed p q (c ∷ cells) f = go (q c) refl (p c.id.0) refl (numbers_passed p q cells (λ d i. f d (inr i)))
  where
    go : (b : Bool) → q c ≡ b → (a : Bool) → p c.id.0 ≡ a → filter p (numbers_of (filter q cells)) ≡ filter p (numbers_of cells)
        → filter p (numbers_of (cond b (c ∷ filter q cells) (filter q cells))) ≡ cond a (c.id.0 ∷ filter p (numbers_of cells)) (filter p (numbers_of cells))
    go true e a d ih = ap (λ (t : Bool). cond t (c.id.0 ∷ filter p (numbers_of (filter q cells))) (filter p (numbers_of (filter q cells)))) d ∙ ap (λ (ns : List ℕ). cond a (c.id.0 ∷ ns) ns) ih
    go false e false d ih = ih
    go false e true d ih = absurd (true≢false (sym d ∙ f c (inl refl) e))

-- the cells that nobody keeps
abbrev unkept : World → ℕ → Bool
unkept v n = not (holds (kept_in (holding_of v)) n)

attached_kept : (v : World) (c : Cell) → In c v.cells → is_attached c.standing ≡ true → holds (kept_in (holding_of v)) c.id.0 ≡ true
attached_kept v c i a =
    let h : Holding = holding_of v in
    let there : holds h.attached c.id.0 ≡ true = number_holds (filter (λ (x : Cell). is_attached x.standing) v.cells) c (filter-In (λ (x : Cell). is_attached x.standing) v.cells c i a) in
    In-holds (kept_in h) c.id.0 (kept_complete h c.id.0 (directly_kept h c.id.0 (number_holds v.cells c i) (or_left (holds h.attached c.id.0) (list_any (is_claimed_by h c.id.0) h.claims) there)))

-- an attached cell is kept, so it needn't be asked whether a cell is detached
pub garbage_unkept : (v : World) → garbage_of v ≡ filter (unkept v) (numbers_of v.cells)
garbage_unkept v = numbers_passed (unkept v) (λ (c : Cell). not (is_attached c.standing)) v.cells (λ c i e. ap not (attached_kept v c i (attached (is_attached c.standing) e)))
  where
    attached : (b : Bool) → not b ≡ false → b ≡ true
    attached true e = refl
    attached false e = absurd (true≢false e)

module _ (w : World) (k : ℕ) (ns : List ℕ) where
  abbrev aside : World
  aside = detach k ns w

  pub garbage_aside : garbage_of aside ≡ filter (unkept aside) (numbers_of w.cells)
  garbage_aside = garbage_unkept aside ∙ ap (filter (unkept aside)) (numbers_aside k ns w.cells)

  -- what is to go by its numbers
  module _ (h : IsCoherent w) (cells : List CellId) (are : map (λ c. c.0) cells ≡ garbage_of aside) where
    pub garbage_rises : IsTrue (each_pair nat_lt (map (λ c. c.0) cells))
    garbage_rises =
        subst (λ (xs : List ℕ). each_pair nat_lt xs ≡ true) (sym (are ∙ garbage_aside))
        (pairs-filter nat_lt (unkept aside) (numbers_of w.cells) (pairs-map nat_lt (λ (c : Cell). c.id.0) w.cells ∙ h.ready.cell_order))

    pub garbage_present : All (λ c. IsTrue (holds (numbers_of w.cells) c.0)) cells
    garbage_present = In-All (λ (c : CellId). IsTrue (holds (numbers_of w.cells) c.0)) cells there
      where
        there : (c : CellId) → In c cells → holds (numbers_of w.cells) c.0 ≡ true
        there c i =
            In-holds (numbers_of w.cells) c.0
            (In-filtered (unkept aside) (numbers_of w.cells) c.0 (subst (λ (xs : List ℕ). In c.0 xs) (are ∙ garbage_aside) (map-In (λ (c : CellId). c.0) cells c i)))

    listed_same : (key : SecKey) → is_listed cells key ≡ holds (garbage_of aside) key.cell.0
    listed_same key = listed_numbers cells key.cell.0 ∙ ap (λ (xs : List ℕ). holds xs key.cell.0) are

    -- no cell that stays has a link to one that goes
    pub garbage_unused : list_any (is_outside_use cells) w.links ≡ false
    garbage_unused = In-none (is_outside_use cells) w.links (λ row i. go row i (is_listed cells row.user) refl)
      where
        go : (row : LinkRow) → In row w.links → (b : Bool) → is_listed cells row.user ≡ b → (is_listed cells row.target && not (is_listed cells row.user)) ≡ false
        go row i true e = ap (λ b. is_listed cells row.target && not b) e ∙ and_false (is_listed cells row.target)
          where
            and_false : (b : Bool) → (b && false) ≡ false
            and_false true = refl
            and_false false = refl
        go row i false e = ap (λ b. b && not (is_listed cells row.user)) (listed_same row.target ∙ closed_aside w h k ns row i (sym (listed_same row.user) ∙ e))
