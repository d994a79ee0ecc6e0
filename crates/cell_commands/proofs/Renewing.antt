-- Fresh instances of cells from their own files.
use Rattle.std.proofs.Common.{◌≡◌, refl, sym, ◌∙◌, ap, subst, arith, ℕ, zero, suc, ◌<◌, Bor, Bool, true, false, cond, ◌&&◌, inl, inr, List, [], ◌∷◌, ◌++◌, map, length, take, get_or, Option, None, Some, Ok}
use Rattle.std.specs.Prelude.{All, find, filter}
use Rattle.std.specs.List.{list_any}
use Rattle.std.specs.Option.{ForSome}
use Rattle.cell_num.specs.Lists.{In}
use Rattle.cell_num.proofs.Elements.{All-In}
use Rattle.cell_world.specs.declared.fail.Fail.{Fail}
use Rattle.cell_world.specs.declared.fail.Fail.TheVariants.{Refused, OutOfMemory}
use Rattle.cell_world.specs.declared.refusal.Refusal.TheVariants.{Unknown}
use Rattle.cell_world.specs.declared.state.NewCell.{NewCell}
use Rattle.cell_world.specs.declared.state.Standing.{Standing}
use Rattle.cell_world.specs.declared.state.Standing.TheVariants.{Attached, Detached}
use Rattle.cell_world.specs.Change.{Want as Wanted}
use Rattle.cell_world.specs.Commands.Asked.{renewal}
use Rattle.cell_world.specs.Commands.Recovery.{is_run_at, runs_at}
use Rattle.cell_world.specs.Following.{FailsAs}
use Rattle.cell_world.specs.Gather.{Source, file_named}
use Rattle.cell_world.specs.Outcome.{Outcome, ◌>>=◌, found}
use Rattle.cell_world.specs.World.{Cell, World, attached, is_attached}
use Rattle.cell_gather.specs.declared.want.Want.{Want}
use Rattle.cell_space.specs.Joined.{placed_of}
use Rattle.cell_change.specs.declared.request.Change.{Change}
use Rattle.cell_commands.specs.Items.{HasWant}
use Rattle.cell_commands.proofs.ItemLemmas.{found_ok}

module _ (sources : List Source) (w : World) (c : Cell) where
  abbrev file_of : Outcome Source
  file_of = found (file_named sources c.placed.file) (Unknown c.placed.file)

  -- the file isn't there
  pub renewal_failed : (fail : Fail) → FailsAs fail file_of → FailsAs fail (renewal sources c)
  renewal_failed (Refused r) e = ap (λ (o : Outcome Source). o >>= (λ file. let got : Outcome Wanted = Ok (record { file = file; ns = c.ns; replaces = Some c }) in got)) e
  renewal_failed OutOfMemory e = tt

  only : (P : Cell → Type 0) → P c → ForSome (Some c) P
  only P p x e = subst P (same c x e) p
    where
      same : (a b : Cell) → Some a ≡ Some b → a ≡ b
      same a b e = cc

  pub has_renewal : In c w.cells → c.ns < length w.namespaces → is_attached c.standing ≡ true → (file : Source) → file_of ≡ Ok file → (want : Want) → want ≡ record { ns = c.placed.ns; file = c.placed.file; replaces = Some c.placed.id }
      → (old new : Change) → new.wants.items ≡ old.wants.items ++ want ∷ [] → new.replaced.items ≡ old.replaced.items ++ c.placed.id ∷ [] → new.copies.items ≡ old.copies.items → new.options ≡ old.options → HasWant sources w (renewal sources c) old new
  has_renewal there known att file f want e old new wants numbers copies options = record {
    wanted = record { file = file; ns = c.ns; replaces = Some c };
    cell = c;
    want = want;
    is = ap (λ (o : Outcome Source). o >>= (λ file. let got : Outcome Wanted = Ok (record { file = file; ns = c.ns; replaces = Some c }) in got)) f;
    of = record {
      file = ap (λ (x : Want). file_named sources x.file) e ∙ found_ok (file_named sources c.placed.file) (Unknown c.placed.file) file f;
      ns = ap (λ (x : Want). x.ns) e;
      there = known;
      replaces = ap (λ (x : Want). x.replaces) e;
      present = only (λ (d : Cell). In d w.cells) there;
      attached = only (λ (d : Cell). is_attached d.standing ≡ true) att;
    };
    replaces = refl;
    wants = wants;
    numbers = numbers;
    copies = copies;
    options = options;
  }

-- the cell that stands where one of the list was borrowed
pub record IsNth (all : List Cell) (place : ℕ) (p : NewCell) : Type 0 where
  pub cell : Cell
  pub here : place < length all
  pub at : cell ≡ get_or all place cell
  pub placed : cell.placed ≡ p
  pub there : In cell all

pub nth : (all : List Cell) (cells : List (Bor NewCell)) → map placed_of all ≡ map (λ c. c.now) cells → (place : ℕ) → place < length cells → (r : Bor NewCell) → r ≡ get_or cells place r → IsNth all place r.now
nth all [] e place lt r at = absurd (omega (arith, lt))
nth [] (b ∷ cells) e place lt r at = absurd (cc e)
nth (c ∷ all) (b ∷ cells) e zero lt r at = record {
  cell = c;
  here = omega arith;
  at = refl;
  placed = heads c.placed b.now (map placed_of all) (map (λ x. x.now) cells) e ∙ ap (λ (x : Bor NewCell). x.now) (sym at);
  there = inl refl;
}
  where
    heads : (x y : NewCell) (xs ys : List NewCell) → x ∷ xs ≡ y ∷ ys → x ≡ y
    heads x y xs ys k = cc
nth (c ∷ all) (b ∷ cells) e (suc place) lt r at =
    let rest = nth all cells (tails c.placed b.now (map placed_of all) (map (λ x. x.now) cells) e) place (omega (arith, lt)) r at in
    record { cell = rest.cell; here = let less = rest.here in omega (arith, less); at = rest.at; placed = rest.placed; there = inr rest.there }
  where
    tails : (x y : NewCell) (xs ys : List NewCell) → x ∷ xs ≡ y ∷ ys → xs ≡ ys
    tails x y xs ys k = cc

pub at_place : (w : World) (all : List Cell) → All (λ (c : Cell). In c w.cells) all → (c : Cell) → In c all → In c w.cells
at_place w all there c i = All-In (λ (d : Cell). In d w.cells) all there c i

-- the first attached cell that runs at a pc
module _ (pc : ℕ) where
  abbrev runs : NewCell → Bool
  runs p = runs_at pc (attached p)

  abbrev is_here : Cell → Bool
  is_here c = is_attached c.standing

  pub record IsFirst (cells : List Cell) (p : NewCell) : Type 0 where
    pub cell : Cell
    pub taken : take 1 (filter (runs_at pc) cells) ≡ cell ∷ []
    pub placed : cell.placed ≡ p
    pub there : In cell cells
    pub att : is_attached cell.standing ≡ true

  some_same : (a b : NewCell) → Some a ≡ Some b → a ≡ b
  some_same a b e = cc

  pub first_taken : (cells : List Cell) (p : NewCell) → Some p ≡ find runs (map placed_of (filter is_here cells)) → IsFirst cells p
  first_taken [] p e = absurd (cc e)
  first_taken (c ∷ cells) p e = go (first_taken cells p) c.standing refl (list_any (is_run_at pc c) c.object.sections) refl e
    where
      later : IsFirst cells p → runs_at pc c ≡ false → IsFirst (c ∷ cells) p
      later x out = record {
        cell = x.cell;
        taken = ap (λ (b : Bool). take 1 (cond b (c ∷ filter (runs_at pc) cells) (filter (runs_at pc) cells))) out ∙ x.taken;
        placed = x.placed;
        there = inr x.there;
        att = x.att;
      }

      go : (Some p ≡ find runs (map placed_of (filter is_here cells)) → IsFirst cells p) → (s : Standing) → c.standing ≡ s → (b : Bool) → list_any (is_run_at pc c) c.object.sections ≡ b
          → Some p ≡ find runs (map placed_of (cond (is_attached s) (c ∷ filter is_here cells) (filter is_here cells))) → IsFirst (c ∷ cells) p
      go behind (Detached k) s b r k2 = later (behind k2) (ap (λ (x : Standing). is_attached x && list_any (is_run_at pc c) c.object.sections) s)
      go behind Attached s true r k2 = record {
        cell = c;
        taken =
            ap (λ (x : Bool). take 1 (cond x (c ∷ filter (runs_at pc) cells) (filter (runs_at pc) cells)))
            (ap (λ (x : Standing). is_attached x && list_any (is_run_at pc c) c.object.sections) s ∙ r);
        placed = sym (some_same p c.placed (k2 ∙ ap (λ (x : Bool). cond x (Some c.placed) (find runs (map placed_of (filter is_here cells)))) r));
        there = inl refl;
        att = ap is_attached s;
      }
      go behind Attached s false r k2 =
          later (behind (k2 ∙ ap (λ (x : Bool). cond x (Some c.placed) (find runs (map placed_of (filter is_here cells)))) r))
          (ap (λ (x : Standing). is_attached x && list_any (is_run_at pc c) c.object.sections) s ∙ r)

  pub none_taken : (cells : List Cell) → None ≡ find runs (map placed_of (filter is_here cells)) → take 1 (filter (runs_at pc) cells) ≡ []
  none_taken [] e = refl
  none_taken (c ∷ cells) e = go (none_taken cells) c.standing refl (list_any (is_run_at pc c) c.object.sections) refl e
    where
      later : take 1 (filter (runs_at pc) cells) ≡ [] → runs_at pc c ≡ false → take 1 (filter (runs_at pc) (c ∷ cells)) ≡ []
      later x out = ap (λ (b : Bool). take 1 (cond b (c ∷ filter (runs_at pc) cells) (filter (runs_at pc) cells))) out ∙ x

      go : (None ≡ find runs (map placed_of (filter is_here cells)) → take 1 (filter (runs_at pc) cells) ≡ []) → (s : Standing) → c.standing ≡ s → (b : Bool) → list_any (is_run_at pc c) c.object.sections ≡ b
          → None ≡ find runs (map placed_of (cond (is_attached s) (c ∷ filter is_here cells) (filter is_here cells))) → take 1 (filter (runs_at pc) (c ∷ cells)) ≡ []
      go behind (Detached k) s b r k2 = later (behind k2) (ap (λ (x : Standing). is_attached x && list_any (is_run_at pc c) c.object.sections) s)
      go behind Attached s true r k2 = absurd (none_some c.placed (k2 ∙ ap (λ (x : Bool). cond x (Some c.placed) (find runs (map placed_of (filter is_here cells)))) r))
        where
          none_some : (x : NewCell) → (let o : Option NewCell = None in o) ≡ Some x → ⊥
          none_some x q = cc
      go behind Attached s false r k2 =
          later (behind (k2 ∙ ap (λ (x : Bool). cond x (Some c.placed) (find runs (map placed_of (filter is_here cells)))) r))
          (ap (λ (x : Standing). is_attached x && list_any (is_run_at pc c) c.object.sections) s ∙ r)
