-- Where routines begin is a matter of the placed cells, and of the new ones alone.
use Rattle.std.proofs.Common.{◌≡◌, refl, sym, ◌∙◌, ap, ap₂, subst, arith, ℕ, suc, ◌+◌, ◌<◌, ◌≤◌, inl, inr, Bool, true, false, cond, List, [], ◌∷◌, ◌++◌, Option, Some, None, Ok, Err, length, map}
use Rattle.std.specs.Prelude.{◌==◌, filter_map, find, option_and_then, option_map, unwrap_or}
use Rattle.std.specs.List.{cons_option}
use Rattle.std.proofs.lemmas.Bool.{eqb-true}
use Rattle.cell_num.specs.Lists.{first, holds, numbered_from, In}
use Rattle.cell_world.specs.Outcome.{Outcome, ◌>>=◌, each, found}
use Rattle.cell_world.specs.Commands.SpawnCommand.{entry_offset}
use Rattle.cell_world.specs.Commands.SwapTransfer.{Begin, begin_of, begins_of, definition_named, entry_at, routines_in}
use Rattle.cell_world.specs.Linked.Target.{start_of}
use Rattle.cell_world.specs.World.{Cell, World, attached}
use Rattle.cell_world.specs.declared.state.Standing.TheVariants.{Detached}
use Rattle.cell_world.specs.declared.refusal.Refusal.TheVariants.{NoEntry}
use Rattle.cell_world.specs.declared.state.NewCell.{NewCell}
use Rattle.cell_world.specs.declared.transfer.Routine.{Routine}
use Rattle.cell_lemmas.proofs.Naming.Appended.{ok_same}
use Rattle.cell_num.proofs.Elements.{In-map}
use Rattle.std.proofs.lemmas.List.{length-append}
use Rattle.cell_lemmas.specs.Loads.{placed_cells}
use Rattle.cell_lemmas.proofs.Naming.Known.{older}
use Rattle.cell_world.specs.Commands.UnloadCommand.{put_aside}
use Rattle.cell_world.specs.declared.file.File.{File}
use Rattle.cell_world.specs.declared.layout.Starts.{Starts}
use Rattle.cell_machine.specs.declared.machine.Machine.{Machine}
use Rattle.cell_change.specs.declared.request.Change.{Change}
use Rattle.cell_change.specs.Planning.{IsBegun}
use Rattle.cell_change.proofs.Decision.Began.{h, old, u, v}
use Rattle.cell_space.specs.Joined.{placed_of}
use Rattle.cell_routines.specs.Placed.{entry_among, routines_among}

-- the place in a cell, by its definition
abbrev place_in : Cell → ℕ → Option Begin
place_in c symbol = option_map (λ place. record { cell = c.id.0; section = place.0; offset = place.1 }) (entry_offset c.object symbol)

abbrev place_by : Option (Cell × ℕ) → Option Begin
place_by o = option_and_then (λ p. place_in p.0 p.1) o

abbrev defined : List ℕ → Cell → Option (Cell × ℕ)
defined name c = option_map (λ symbol. (c, symbol)) (definition_named c name)

begin_plain : (cells : List Cell) (name : List ℕ) → begin_of (map attached (map placed_of cells)) name ≡ begin_of cells name
begin_plain [] name = refl
begin_plain (c ∷ cells) name = go (definition_named c name) (begin_plain cells name)
  where
    go : (o : Option ℕ) → begin_of (map attached (map placed_of cells)) name ≡ begin_of cells name
        → place_by (first (cons_option (option_map (λ symbol. (attached c.placed, symbol)) o) (filter_map (defined name) (map attached (map placed_of cells)))))
        ≡ place_by (first (cons_option (option_map (λ symbol. (c, symbol)) o) (filter_map (defined name) cells)))
    go None rest = rest
    go (Some symbol) rest = refl

abbrev step : List Cell → List Begin → List ℕ → Outcome (List Begin)
step cells begins word = found (begin_of cells word) (NoEntry word) >>= (λ begin. Ok (begins ++ begin ∷ []))

then_same : {X Y : Type 0} (o : Outcome X) (f g : X → Outcome Y) → ((x : X) → f x ≡ g x) → (o >>= f) ≡ (o >>= g)
then_same (Ok x) f g e = e x
then_same (Err r) f g e = refl

each_plain : (cells : List Cell) (begins : List Begin) (words : List (List ℕ)) → each (step (map attached (map placed_of cells))) begins words ≡ each (step cells) begins words
each_plain cells begins [] = refl
each_plain cells begins (word ∷ words) =
    ap (λ (o : Option Begin). (found o (NoEntry word) >>= (λ begin. let x : Outcome (List Begin) = Ok (begins ++ begin ∷ []) in x)) >>= (λ more. each (step (map attached (map placed_of cells))) more words)) (begin_plain cells word)
    ∙ then_same (step cells begins word) (λ more. each (step (map attached (map placed_of cells))) more words) (λ more. each (step cells) more words) (λ more. each_plain cells more words)

pub begins_plain : (cells : List Cell) (words : List (List ℕ)) → begins_of (map attached (map placed_of cells)) words ≡ begins_of cells words
begins_plain cells words = each_plain cells [] words

-- each begins in one of the cells
abbrev IsOf : List Cell → Begin → Type 0
IsOf cells b = (c : Cell) × In c cells × (b.cell ≡ c.id.0)

begin_in : (cells : List Cell) (name : List ℕ) (b : Begin) → begin_of cells name ≡ Some b → IsOf cells b
begin_in [] name b e = absurd cc
begin_in (c ∷ cells) name b e = go (definition_named c name) (begin_in cells name b) e
  where
    at : (o : Option (ℕ × ℕ)) → option_map (λ place. let x : Begin = record { cell = c.id.0; section = place.0; offset = place.1 } in x) o ≡ Some b → b.cell ≡ c.id.0
    at None k = absurd cc
    at (Some place) k = sym (ap (λ (o : Option Begin). unwrap_or (option_map (λ x. x.cell) o) 0) k)

    go : (o : Option ℕ) → (begin_of cells name ≡ Some b → IsOf cells b) → place_by (first (cons_option (option_map (λ symbol. (c, symbol)) o) (filter_map (defined name) cells))) ≡ Some b → IsOf (c ∷ cells) b
    go None rest k = let d = rest k in (d.0, inr d.1, d.2)
    go (Some symbol) rest k = (c, inl refl, at (entry_offset c.object symbol) k)

abbrev AllOf : List Cell → List Begin → Type 0
AllOf cells begins = (b : Begin) → In b begins → IsOf cells b

more_of : (cells : List Cell) (begins : List Begin) (b : Begin) → AllOf cells begins → IsOf cells b → AllOf cells (begins ++ b ∷ [])
more_of cells [] b h k x (inl e) = subst (IsOf cells) (sym e) k
more_of cells [] b h k x (inr i) = absurd i
more_of cells (a ∷ begins) b h k x (inl e) = h x (inl e)
more_of cells (a ∷ begins) b h k x (inr i) = more_of cells begins b (λ y j. h y (inr j)) k x i

each_of : (cells : List Cell) (begins : List Begin) (words : List (List ℕ)) (all : List Begin) → AllOf cells begins → each (step cells) begins words ≡ Ok all → AllOf cells all
each_of cells begins [] all i e = subst (AllOf cells) (same begins all e) i
  where
    same : (x y : List Begin) → (let o : Outcome (List Begin) = Ok x in o) ≡ Ok y → x ≡ y
    same x y k = cc
each_of cells begins (word ∷ words) all held e = go (begin_of cells word) refl e (λ b is. each_of cells (begins ++ b ∷ []) words all (more_of cells begins b held (begin_in cells word b is)))
  where
    go : (o : Option Begin) → begin_of cells word ≡ o → ((found o (NoEntry word) >>= (λ begin. let x : Outcome (List Begin) = Ok (begins ++ begin ∷ []) in x)) >>= (λ more. each (step cells) more words)) ≡ Ok all
        → ((b : Begin) → begin_of cells word ≡ Some b → each (step cells) (begins ++ b ∷ []) words ≡ Ok all → AllOf cells all) → AllOf cells all
    go None is k rest = absurd (cc k)
    go (Some b) is k rest = rest b is k

-- one for each word
each_long : (cells : List Cell) (begins : List Begin) (words : List (List ℕ)) (all : List Begin) → each (step cells) begins words ≡ Ok all → length all ≡ length begins + length words
each_long cells begins [] all e = let same = ok_same begins all e in omega (arith, ap length same)
each_long cells begins (word ∷ words) all e = go (begin_of cells word) e (λ b. each_long cells (begins ++ b ∷ []) words all)
  where
    go : (o : Option Begin) → ((found o (NoEntry word) >>= (λ begin. let x : Outcome (List Begin) = Ok (begins ++ begin ∷ []) in x)) >>= (λ more. each (step cells) more words)) ≡ Ok all
        → ((b : Begin) → each (step cells) (begins ++ b ∷ []) words ≡ Ok all → length all ≡ length (begins ++ b ∷ []) + length words) → length all ≡ length begins + length (word ∷ words)
    go None k rest = absurd (cc k)
    go (Some b) k rest = let long = rest b k in omega (arith, long, length-append begins (b ∷ []))

pub begins_long : (cells : List Cell) (words : List (List ℕ)) (begins : List Begin) → begins_of cells words ≡ Ok begins → length begins ≡ length words
begins_long cells words begins e = let r = each_long cells [] words begins e in omega (arith, r)

pub begins_new : (cells : List Cell) (words : List (List ℕ)) (begins : List Begin) → begins_of cells words ≡ Ok begins → AllOf cells begins
begins_new cells words begins e = each_of cells [] words begins (λ b i. absurd i) e

-- among all cells, of which the others have lower numbers, the address is the same
module _ (w : World) (old new : List Cell) (cells : w.cells ≡ old ++ new) (next : ℕ) (below : (c : Cell) → In c old → c.id.0 < next) (above : (c : Cell) → In c new → next ≤ c.id.0) where
  found_new : (n : ℕ) (b : Begin) → next ≤ n → (xs : List Cell) → ((c : Cell) → In c xs → c.id.0 < next)
      → option_map (λ (c : Cell). start_of c.placed b.section + b.offset) (find (λ (c : Cell). c.id.0 == n) (xs ++ new)) ≡ option_map (λ (c : NewCell). start_of c b.section + b.offset) (find (λ (c : NewCell). c.id.0 == n) (map placed_of new))
  found_new n b le [] h = among new
    where
      among : (xs : List Cell) → option_map (λ (c : Cell). start_of c.placed b.section + b.offset) (find (λ (c : Cell). c.id.0 == n) xs) ≡ option_map (λ (c : NewCell). start_of c b.section + b.offset) (find (λ (c : NewCell). c.id.0 == n) (map placed_of xs))
      among [] = refl
      among (x ∷ xs) = at (x.id.0 == n) (among xs)
        where
          at : (p : Bool) → option_map (λ (c : Cell). start_of c.placed b.section + b.offset) (find (λ (c : Cell). c.id.0 == n) xs) ≡ option_map (λ (c : NewCell). start_of c b.section + b.offset) (find (λ (c : NewCell). c.id.0 == n) (map placed_of xs))
              → option_map (λ (c : Cell). start_of c.placed b.section + b.offset) (cond p (Some x) (find (λ (c : Cell). c.id.0 == n) xs))
              ≡ option_map (λ (c : NewCell). start_of c b.section + b.offset) (cond p (Some x.placed) (find (λ (c : NewCell). c.id.0 == n) (map placed_of xs)))
          at true rest = refl
          at false rest = rest
  found_new n b le (x ∷ xs) h = at (x.id.0 == n) refl (found_new n b le xs (λ c i. h c (inr i)))
    where
      at : (p : Bool) → (x.id.0 == n) ≡ p
          → option_map (λ (c : Cell). start_of c.placed b.section + b.offset) (find (λ (c : Cell). c.id.0 == n) (xs ++ new)) ≡ option_map (λ (c : NewCell). start_of c b.section + b.offset) (find (λ (c : NewCell). c.id.0 == n) (map placed_of new))
          → option_map (λ (c : Cell). start_of c.placed b.section + b.offset) (cond p (Some x) (find (λ (c : Cell). c.id.0 == n) (xs ++ new))) ≡ option_map (λ (c : NewCell). start_of c b.section + b.offset) (find (λ (c : NewCell). c.id.0 == n) (map placed_of new))
      at true e rest = let l = h x (inl refl) in let same = eqb-true x.id.0 n e in absurd (omega (arith, l, same, le))
      at false e rest = rest

  entry_same : (b : Begin) → IsOf new b → entry_at w b ≡ entry_among (map placed_of new) b
  entry_same b k =
      let le : next ≤ b.cell = (let high = above k.0 k.1 in let e = k.2 in omega (arith, high, e)) in
      ap (λ (cs : List Cell). unwrap_or (option_map (λ (c : Cell). start_of c.placed b.section + b.offset) (find (λ (c : Cell). c.id.0 == b.cell) cs)) 0) cells
      ∙ ap (λ (o : Option ℕ). unwrap_or o 0) (found_new b.cell b le old below)

  pub routines_same : (begins : List Begin) → AllOf new begins → routines_in w begins ≡ routines_among (map placed_of new) begins
  routines_same begins h = go 0 begins h
    where
      go : (n : ℕ) (bs : List Begin) → AllOf new bs
          → map (λ (p : ℕ × Begin). let r : Routine = record { name = p.0; entry = entry_at w p.1 } in r) (numbered_from n bs)
          ≡ map (λ (p : ℕ × Begin). let r : Routine = record { name = p.0; entry = entry_among (map placed_of new) p.1 } in r) (numbered_from n bs)
      go n [] k = refl
      go n (b ∷ bs) k =
          ap₂ (λ (e : ℕ) (rs : List Routine). let r : Routine = record { name = n; entry = e } in r ∷ rs) (entry_same b (k b (inl refl))) (go (suc n) bs (λ x i. k x (inr i)))

-- places don't change numbers
pub placed_of_new : (starts : List Starts) (cells : List Cell) (begins : List Begin) → length starts ≡ length cells → AllOf cells begins → AllOf (placed_cells starts cells) begins
placed_of_new starts cells begins long h b i =
    let k = h b i in
    let p = in_place starts cells long k.0 k.1 in
    (p.0, p.1, k.2 ∙ p.2)
  where
    in_place : (starts : List Starts) (cells : List Cell) → length starts ≡ length cells → (c : Cell) → In c cells → (d : Cell) × In d (placed_cells starts cells) × (c.id.0 ≡ d.id.0)
    in_place [] [] e c i = absurd i
    in_place [] (x ∷ cells) e c i = absurd (omega (arith, e))
    in_place (s ∷ starts) [] e c i = absurd i
    in_place (s ∷ starts) (x ∷ cells) e c (inl same) = (_, inl refl, ap (λ (y : Cell). y.id.0) same)
    in_place (s ∷ starts) (x ∷ cells) e c (inr j) = let d = in_place starts cells (omega (arith, e)) c j in (d.0, inr d.1, d.2)

-- the cells that were there, with the old ones put aside, have lower numbers
pub aside_number : (k : ℕ) (ns : List ℕ) (c : Cell) → (put_aside k ns c).id.0 ≡ c.id.0
aside_number k ns c = go (holds ns c.id.0)
  where
    go : (b : Bool) → (cond b (record c { standing = Detached k }) c).id.0 ≡ c.id.0
    go true = refl
    go false = refl

pub aside_older : (files : List File) (asked : Change) (m : Machine) (b : IsBegun files asked m) → (c : Cell) → In c (u files asked m b).cells → c.id.0 < (v files asked m b).next_cell
aside_older files asked m b c i =
    let k : ℕ = suc (v files asked m b).swaps in
    let d = In-map (put_aside k (old files asked m b)) (v files asked m b).cells c i in
    subst (λ (n : ℕ). n < (v files asked m b).next_cell) (sym (ap (λ (x : Cell). x.id.0) d.2 ∙ aside_number k (old files asked m b) d.0)) (older (v files asked m b) (h files asked m b) d.0 d.1)
