-- Look-ups in the machine that is seen.
use Rattle.std.proofs.Common.{◌≡◌, refl, sym, ◌∙◌, ap, arith, ℕ, zero, suc, ◌<◌, Bool, true, false, cond, inl, inr, List, [], ◌∷◌, ◌++◌, length, get_or}
use Rattle.std.specs.Prelude.{Option, Some, None, ◌==◌, find, option_map, option_and_then}
use Rattle.cell_world.specs.declared.state.Namespace.{Namespace}
use Rattle.cell_world.specs.declared.state.NewCell.{NewCell}
use Rattle.cell_world.specs.declared.state.Target.{Target}
use Rattle.cell_world.specs.Linked.Target.{provided_target}
use Rattle.cell_world.specs.World.{World, cell_of, Standing}
use Rattle.cell_world.specs.Names.{Provider, chain}
use Rattle.cell_num.specs.Lists.{In}
use Rattle.cell_space.specs.declared.cell.SpaceCell.{SpaceCell}
use Rattle.cell_space.specs.Joined.{AreJoined, cells_of, placed_of}
use Rattle.cell_space.proofs.Joined.{found_placed, is_numbered}
use Rattle.cell_space.specs.Named.{provider_for, strong_provider}
use Rattle.cell_space.proofs.Machines.{provider_for-called, strong_provider-called}
use Rattle.cell_target.specs.Named.{asked_among, provider_asked, target_named}
use Rattle.cell_target.specs.declared.asked.Asked.{Asked}
use Rattle.cell_target.specs.declared.asked.Asked.TheVariants.{Anyone, Strong}
use Rattle.cell_target.specs.Scene.{seen, AreCells}

pub in_get : {X : Type 0} (xs : List X) (i : ℕ) (d : X) → i < length xs → In (get_or xs i d) xs
in_get [] i d lt = absurd (omega arith)
in_get (x ∷ xs) zero d lt = inl refl
in_get (x ∷ xs) (suc i) d lt = inr (in_get xs i d (omega arith))

in_cons : (b : Bool) (c d : NewCell) (rest : Option NewCell) (cells : List NewCell) → cond b (Some d) rest ≡ Some c → (rest ≡ Some c → In c cells) → In c (d ∷ cells)
in_cons true c d rest cells e f = let h : Some d ≡ Some c = e in inl (sym (cc h))
in_cons false c d rest cells e f = inr (f e)

found_in : (n : ℕ) (cells : List NewCell) (c : NewCell) → find (is_numbered n) cells ≡ Some c → In c cells
found_in n [] c e = absurd (cc e)
found_in n (d ∷ cells) c e = in_cons (d.id.0 == n) c d (find (is_numbered n) cells) cells e (found_in n cells c)

module _ (namespaces : List Namespace) (cells : List NewCell) (known : List SpaceCell) (are : AreJoined cells known) (n : ℕ) where
  pub by_places : option_map placed_of (cell_of (seen namespaces cells known) n) ≡ find (is_numbered n) cells
  by_places = found_placed n (cells_of cells known) ∙ ap (find (is_numbered n)) are.placed

  -- a cell that is found is one of the cells
  pub found_there : (c : NewCell) → option_map placed_of (cell_of (seen namespaces cells known) n) ≡ Some c → In c cells
  found_there c e = found_in n cells c (sym by_places ∙ e)

-- who is asked for a name is told by the spaces
module _ (namespaces : List Namespace) (spaces : List SpaceCell) (cells : List NewCell) (are : AreCells spaces cells) (ns : ℕ) (state : Standing) (name : List ℕ) (asked : Asked) where
  abbrev machine : World
  machine = seen namespaces cells spaces

  provider_told : asked_among (chain namespaces ns) state name spaces asked ≡ provider_asked machine ns name state asked
  provider_told = go asked
    where
      go : (a : Asked) → asked_among (chain namespaces ns) state name spaces a ≡ provider_asked machine ns name state a
      go Anyone = sym (provider_for-called machine ns name state ∙ ap (provider_for (chain namespaces ns) state name) are.joined.called)
      go Strong = sym (strong_provider-called machine ns name state ∙ ap (strong_provider (chain namespaces ns) state name) are.joined.called)

  -- the target of that one, where the spaces tell who it is
  module _ (t : Option Target) where
    pub nobody_there : t ≡ None → None ≡ asked_among (chain namespaces ns) state name spaces asked → t ≡ target_named machine asked ns state name
    nobody_there e none = e ∙ ap (option_and_then (provided_target machine)) (none ∙ provider_told)

    pub somebody_there : (p : Provider) → Some p ≡ asked_among (chain namespaces ns) state name spaces asked → t ≡ provided_target machine p → t ≡ target_named machine asked ns state name
    somebody_there p some e = e ∙ ap (option_and_then (provided_target machine)) (some ∙ provider_told)
