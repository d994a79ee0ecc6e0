-- The first need that nobody provides, by what the spaces answer.
use Rattle.std.proofs.Common.{◌≡◌, refl, sym, ◌∙◌, ap, ap₂, ℕ, suc, ◌&&◌, ◌||◌, ◌+◌, ◌<◌, ◌≤◌, Bool, true, false, cond, not, List, [], ◌∷◌, map, length, drop, get_or}
use Rattle.std.specs.Prelude.{Option, Some, None, Err, filter, find, is_none, option_map, unwrap_or}
use Rattle.std.proofs.lemmas.List.{drop_more}
use Rattle.std.proofs.Math.ListN.{drop_of_length-le}
use Rattle.std.specs.List.{list_any}
use Rattle.cell_num.specs.Lists.{first, holds, numbered_from, or_else}
use Rattle.cell_world.specs.declared.fail.Fail.{Fail}
use Rattle.cell_world.specs.declared.fail.Fail.TheVariants.{Refused, OutOfMemory}
use Rattle.cell_world.specs.declared.refusal.Refusal.{Refusal}
use Rattle.cell_world.specs.declared.refusal.Refusal.TheVariants.{Missing}
use Rattle.cell_world.specs.declared.state.Namespace.{Namespace}
use Rattle.cell_world.specs.declared.state.NewCell.{NewCell}
use Rattle.cell_world.specs.World.{World, Standing}
use Rattle.cell_world.specs.Gather.{first_lack, lacks_of, missing}
use Rattle.cell_object.specs.declared.object.Object.{Object}
use Rattle.cell_object.specs.declared.object.Symbol.{Symbol}
use Rattle.cell_object.specs.Parts.{is_global, is_undefined}
use Rattle.cell_world.specs.Names.{chain, is_used, needs_of, provider_of}
use Rattle.cell_space.specs.Ahead.{AheadState}
use Rattle.cell_space.specs.Named.{cell_numbered, provider_for}
use Rattle.cell_space.specs.Spaces.{SpacesState}
use Rattle.cell_world.specs.declared.state.Standing.TheVariants.{Attached}
use Rattle.cell_space.specs.declared.cell.SpaceCell.{SpaceCell}
use Rattle.cell_space.proofs.Machines.{provider_for-called}
use Rattle.cell_target.specs.Scene.{in_state}
use Rattle.cell_plan.specs.Known.{is_lacking, is_open}
use Rattle.cell_plan.specs.Coverage.{Covers, IsAhead, as_it_stands, first_lost, lost_by, others_in}

module _ (w : World) (ahead : AheadState) (is : IsAhead w ahead) (c : NewCell) (s : Standing) where
  abbrev pub nobody : List ℕ → Bool
  nobody name = is_none (provider_for (chain ahead.namespaces c.ns) s name ahead.cells)

  abbrev lacks : List ℕ → Bool
  lacks name = is_none (provider_of w (in_state c s) name)

  same : (name : List ℕ) → lacks name ≡ nobody name
  same name =
      ap is_none
      (provider_for-called w c.ns name s
      ∙ ap₂ (λ (spaces : List Namespace) (cells : List SpaceCell). provider_for (chain spaces c.ns) s name cells) is.namespaces is.cells)

  by_names : (names : List (List ℕ)) → option_map missing (first (map (λ name. record { cell = in_state c s; name = name }) (filter lacks names))) ≡ option_map (λ name. Missing name c.id) (find nobody names)
  by_names [] = refl
  by_names (name ∷ names) = go (lacks name) (nobody name) (same name) (by_names names)
    where
      go : (a b : Bool) → a ≡ b → option_map missing (first (map (λ name. record { cell = in_state c s; name = name }) (filter lacks names))) ≡ option_map (λ name. Missing name c.id) (find nobody names)
          → option_map missing (first (map (λ name. record { cell = in_state c s; name = name }) (cond a (name ∷ filter lacks names) (filter lacks names)))) ≡ option_map (λ name. Missing name c.id) (cond b (Some name) (find nobody names))
      go true true e ih = refl
      go false false e ih = ih
      go true false e ih = cc
      go false true e ih = cc

  -- what is lost is the first of the needs that is provided by nobody
  pub lost_is : (names : List (List ℕ)) → names ≡ needs_of c.object → lost_by w (in_state c s) ≡ option_map (λ name. Missing name c.id) (find nobody names)
  lost_is names are = by_names (needs_of c.object) ∙ ap (λ (ns : List (List ℕ)). option_map (λ name. Missing name c.id) (find nobody ns)) (sym are)

module _ (object : Object) (lacking : List ℕ → Bool) where
  abbrev needed : ℕ → List Symbol → List (ℕ × Symbol)
  needed k symbols = filter (λ p. is_global p.1.bind && is_undefined p.1.home && is_used object p.0) (numbered_from k symbols)

  abbrev lacks_open : List Symbol → Bool
  lacks_open symbols = list_any (λ s. is_open s && lacking s.name) symbols

  one_needed : (k : ℕ) (s : Symbol) (symbols : List Symbol) → (lacks_open symbols ≡ false → find lacking (map (λ p. p.1.name) (needed (suc k) symbols)) ≡ None)
      → (a u l : Bool) → lacking s.name ≡ l → (a && l || lacks_open symbols) ≡ false
      → find lacking (map (λ p. p.1.name) (cond (a && u) ((k, s) ∷ needed (suc k) symbols) (needed (suc k) symbols))) ≡ None
  one_needed k s symbols rest true true true is none = cc
  one_needed k s symbols rest true true false is none = rw is (rest none)
  one_needed k s symbols rest true false true is none = cc
  one_needed k s symbols rest true false false is none = rest none
  one_needed k s symbols rest false u l is none = rest none

  -- where no name is lacking, none of the needs is
  none_needed : (k : ℕ) (symbols : List Symbol) → lacks_open symbols ≡ false → find lacking (map (λ p. p.1.name) (needed k symbols)) ≡ None
  none_needed k [] none = refl
  none_needed k (s ∷ symbols) none = one_needed k s symbols (none_needed (suc k) symbols) (is_open s) (is_used object k) (lacking s.name) refl none

-- a cell of which no name is lacking has lost nothing
pub lost_nothing : (w : World) (ahead : AheadState) (is : IsAhead w ahead) (c : NewCell) (s : Standing) → list_any (λ x. is_open x && is_lacking ahead c.ns s x.name) c.object.symbols ≡ false → lost_by w (in_state c s) ≡ None
lost_nothing w ahead is c s none =
    lost_is w ahead is c s (needs_of c.object) refl ∙ ap (option_map (λ name. Missing name c.id)) (none_needed c.object (is_lacking ahead c.ns s) 1 c.object.symbols none)

first_first : {X Y : Type 0} (f : X → Y) (a b : Option X) → option_map f (or_else a b) ≡ or_else (option_map f a) (option_map f b)
first_first f None b = refl
first_first f (Some x) b = refl

or_none : {X : Type 0} (a : Option X) → or_else a None ≡ a
or_none None = refl
or_none (Some x) = refl

module _ (w : World) (spaces : SpacesState) (old : List ℕ) where
  abbrev pub lost_of : List NewCell → Option Refusal
  lost_of users = first_lost w (others_in spaces old users)

  abbrev others : Bool → NewCell → List NewCell → List NewCell
  others b c users = cond (not b) (c ∷ filter (λ x. not (holds old x.id.0)) users) (filter (λ x. not (holds old x.id.0)) users)

  -- an old cell needs nothing
  pub old_needs_nothing : (c : NewCell) → holds old c.id.0 ≡ true → lost_of (c ∷ []) ≡ None
  old_needs_nothing c e = ap (λ b. first_lost w (map (as_it_stands spaces) (others b c []))) e

  -- another has lost what it needs as it stands
  pub other_needs : (c : NewCell) → holds old c.id.0 ≡ false → (s : Standing) → option_map (λ (x : SpaceCell). x.state) (cell_numbered spaces.cells c.id.0) ≡ Some s → lost_of (c ∷ []) ≡ lost_by w (in_state c s)
  other_needs c e s state =
      ap (λ b. first_lost w (map (as_it_stands spaces) (others b c []))) e
      ∙ (ap (option_map missing) (or_none (first (lacks_of w (as_it_stands spaces c))))
      ∙ ap (λ (o : Option Standing). lost_by w (in_state c (unwrap_or o Attached))) state)

  lost_split : (c : NewCell) (users : List NewCell) → lost_of (c ∷ users) ≡ or_else (lost_of (c ∷ [])) (lost_of users)
  lost_split c users = go (holds old c.id.0)
    where
      go : (b : Bool) → first_lost w (map (as_it_stands spaces) (others b c users)) ≡ or_else (first_lost w (map (as_it_stands spaces) (others b c []))) (lost_of users)
      go true = refl
      go false =
          first_first missing (first (lacks_of w (as_it_stands spaces c))) (first_lack w (others_in spaces old users))
          ∙ ap (λ (o : Option Refusal). or_else o (lost_of users)) (ap (option_map missing) (sym (or_none (first (lacks_of w (as_it_stands spaces c))))))

  -- those that are left decide
  module _ (users : List NewCell) (place : ℕ) where
    pub all_covered : length users ≤ place → lost_of users ≡ lost_of (drop place users) → lost_of users ≡ None
    all_covered past so = so ∙ ap lost_of (drop_of_length-le users {i = place} past)

    module _ (here : place < length users) (c : NewCell) (at : c ≡ get_or users place c) (so : lost_of users ≡ lost_of (drop place users)) where
      next : lost_of users ≡ or_else (lost_of (c ∷ [])) (lost_of (drop (place + 1) users))
      next =
          so
          ∙ (ap lost_of (drop_more users place c here ∙ ap (λ (x : NewCell). x ∷ drop (place + 1) users) (sym at))
          ∙ lost_split c (drop (place + 1) users))

      pub one_covered : lost_of (c ∷ []) ≡ None → lost_of users ≡ lost_of (drop (place + 1) users)
      one_covered e = next ∙ ap (λ (o : Option Refusal). or_else o (lost_of (drop (place + 1) users))) e

      pub one_lost : (fail : Fail) → Covers (lost_of (c ∷ [])) (Err fail) → Covers (lost_of users) (Err fail)
      one_lost (Refused refusal) e = next ∙ ap (λ (o : Option Refusal). or_else o (lost_of (drop (place + 1) users))) e
      one_lost OutOfMemory e = tt
