-- The cells and their index after a change.
use Rattle.std.proofs.Common.{◌≡◌, ◌∙◌, refl, ℕ, zero, suc, ◌+◌, ◌-◌, ◌<◌, true, List, [], ◌∷◌, ◌++◌, Some, None, length, take, ap, sym, subst, arith, length-append}
use Rattle.std.specs.Prelude.{All, IsSome, Option, not, option_to_list, slice_get}
use Rattle.std.proofs.lemmas.List.Elements.{All-nil, All-weaker}
use Rattle.cell_world.specs.declared.state.Namespace.{Namespace}
use Rattle.cell_world.specs.declared.state.Standing.TheVariants.{Attached, Detached}
use Rattle.cell_space.specs.declared.cell.SpaceCell.{SpaceCell}
use Rattle.cell_space.specs.declared.index.Index.{Index}
use Rattle.cell_space.specs.declared.index.Holder.{Holder}
use Rattle.cell_space.specs.Named.{is_numbered, with_cell, with_state, without, cell_numbered}
use Rattle.cell_space.specs.Rising.{IsRising}
use Rattle.cell_space.specs.Index.{held, Grows, IsCellTaken, IsListed, IsWhole}
use Rattle.cell_space.specs.Spaces.{AreSound, AreKept}
use Rattle.cell_space.proofs.Changes.{sound-with_cell, sound-with_state, sound-without}
use Rattle.cell_space.proofs.Rising.{rising-with_cell, rising-with_state, rising-filter}
use Rattle.cell_space.proofs.Holding.{grows_same, held_same, whole_more, whole_with, whole_back, whole_aside, whole_without}

get_left : {X : Type 0} (xs ys : List X) (n : ℕ) (x : X) → slice_get xs n ≡ Some x → slice_get (xs ++ ys) n ≡ Some x
get_left [] ys n x e = absurd cc
get_left (a ∷ xs) ys zero x e = e
get_left (a ∷ xs) ys (suc n) x e = get_left xs ys n x e

take_front : {X : Type 0} (xs ys : List X) → take (length xs) (xs ++ ys) ≡ xs
take_front [] ys = refl
take_front (x ∷ xs) ys = ap (λ l. x ∷ l) (take_front xs ys)

module _ (spaces : List Namespace) (cells : List SpaceCell) (f : ℕ → ℕ → Option Holder) (kept : AreKept spaces cells f) where
  pub kept_with : (g : ℕ → ℕ → Option Holder) (c : SpaceCell) → c.ns < length spaces → cell_numbered cells c.cell.0 ≡ None → Grows cells c.cell.0 f g → IsListed g c → AreKept spaces (with_cell c cells) g
  kept_with g c there new grows listed = record {
    sound = sound-with_cell spaces cells kept.sound c there;
    rising = rising-with_cell c cells kept.rising new;
    whole = whole_with g c cells listed (whole_more cells kept.rising c.cell.0 f g grows kept.whole);
  }

  pub kept_aside : (group n : ℕ) → AreKept spaces (with_state (Detached group) n cells) f
  kept_aside group n = record {
    sound = sound-with_state spaces cells kept.sound (Detached group) n;
    rising = rising-with_state (Detached group) n cells kept.rising;
    whole = whole_aside n group f cells kept.whole;
  }

  pub kept_back : (g : ℕ → ℕ → Option Holder) (n : ℕ) → Grows cells n f g → ((c : SpaceCell) → cell_numbered cells n ≡ Some c → IsCellTaken g true c) → AreKept spaces (with_state Attached n cells) g
  kept_back g n grows again = record {
    sound = sound-with_state spaces cells kept.sound Attached n;
    rising = rising-with_state Attached n cells kept.rising;
    whole = whole_back cells kept.rising n g again (whole_more cells kept.rising n f g grows kept.whole);
  }

  pub kept_without : (n : ℕ) → AreKept spaces (without n cells) f
  kept_without n = record {
    sound = sound-without spaces cells kept.sound n;
    rising = rising-filter (λ c. not (is_numbered n c)) cells kept.rising;
    whole = whole_without n f cells kept.whole;
  }

  -- the last namespaces gone, in which no cell stands
  pub kept_before : (before last : List Namespace) → spaces ≡ before ++ last → All (λ c. c.ns < length before) cells → AreKept before cells f
  kept_before before last same inside = record {
    sound = record {
      rooted = record { lower = λ k space parent at up. kept.sound.rooted.lower k space parent (subst (λ (s : List Namespace). slice_get s k ≡ Some space) (sym same) (get_left before last k space at)) up };
      few = let n : length spaces ≡ length before + length last = ap length same ∙ length-append before last in let m = kept.sound.few in omega (arith, n, m);
      inside = inside;
    };
    rising = kept.rising;
    whole = kept.whole;
  }

  -- the last namespace gone
  pub kept_popped : (before : List Namespace) (last : Option Namespace) → IsSome last → spaces ≡ before ++ option_to_list last → All (λ c. c.ns + 1 < length spaces) cells → AreKept before cells f
  kept_popped before (Some space) some same inside =
      let n : length spaces ≡ length before + 1 = ap length same ∙ length-append before (space ∷ []) in
      kept_before before (space ∷ []) same (All-weaker (λ (c : SpaceCell). c.ns + 1 < length spaces) (λ (c : SpaceCell). c.ns < length before) (λ c lt. omega (arith, lt, n)) cells inside)
  kept_popped before None some same inside = absurd (cc some)

-- what is left once the last of a list is taken away
pub popped : {X : Type 0} (all before : List X) (last : Option X) → IsSome last → all ≡ before ++ option_to_list last → before ≡ take (length all - 1) all
popped all before (Some x) some same =
    let n : length all ≡ length before + 1 = ap length same ∙ length-append before (x ∷ []) in
    let k : length before ≡ length all - 1 = omega (arith, n) in
    sym (take_front before (x ∷ [])) ∙ ap (take (length before)) (sym same) ∙ ap (λ m. take m all) k
popped all before None some same = absurd (cc some)

-- the index has room for more
pub kept_entries : (spaces : List Namespace) (cells : List SpaceCell) (old new : Index) → new.holders.entries ≡ old.holders.entries → AreKept spaces cells (held old) → AreKept spaces cells (held new)
kept_entries spaces cells old new same kept = record {
  sound = kept.sound;
  rising = kept.rising;
  whole = whole_more cells kept.rising 0 (held old) (held new) (grows_same cells 0 (held old) (held new) (held_same old new same)) kept.whole;
}

-- there are no cells
pub kept_none : (spaces : List Namespace) (f : ℕ → ℕ → Option Holder) → AreSound spaces [] → AreKept spaces [] f
kept_none spaces f sound = record { sound = sound; rising = tt; whole = record { each = All-nil (IsListed f) } }

-- equal cells, and an index of them
pub kept_copy : (spaces other : List Namespace) (cells copies : List SpaceCell) (f g : ℕ → ℕ → Option Holder) → AreKept spaces cells f → other ≡ spaces → copies ≡ cells → IsWhole g copies → AreKept other copies g
kept_copy spaces other cells copies f g kept same_spaces same_cells whole =
    let Sound : List Namespace → Type 0 = λ s. AreSound s copies in
    record {
      sound = subst Sound (sym same_spaces) (subst (AreSound spaces) (sym same_cells) kept.sound);
      rising = subst IsRising (sym same_cells) kept.rising;
      whole = whole;
    }
