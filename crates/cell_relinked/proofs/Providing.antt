-- Who provides a name, by what is seen of cells.
use Rattle.std.proofs.Common.{◌≡◌, refl, sym, ◌∙◌, ap, subst, ℕ, ◌<◌, List, length, map}
use Rattle.std.specs.Prelude.{Option, Some, None, All, option_map}
use Rattle.cell_num.specs.Lists.{or_else}
use Rattle.cell_num.proofs.Elements.{All-In, In-All}
use Rattle.cell_audit.specs.Described.{standing_of}
use Rattle.cell_described.specs.Describes.{cell_seen}
use Rattle.cell_described.specs.declared.cell.DescribedCell.{DescribedCell}
use Rattle.cell_object.specs.declared.object.Object.{Object}
use Rattle.cell_world.specs.Names.{Provider, chain, provider_for, strong_provider, weak_provider}
use Rattle.cell_world.specs.World.{Cell}
use Rattle.cell_bearers.specs.Asked.{first_in, nearest_in, provider_at}
use Rattle.cell_bearers.specs.Bearers.{bearers_of}
use Rattle.cell_bearers.specs.declared.bearer.Bearer.{Bearer}
use Rattle.cell_bearers.specs.declared.first.FirstBearer.{FirstBearer}
use Rattle.cell_bearers.specs.declared.sight.Sight.{Sight}
use Rattle.cell_relinked.specs.Asked.{AreBearers, AreSights, IsOfScene, IsOwn, own_asked}
use Rattle.cell_relinked.specs.Fit.{IsFit}
use Rattle.cell_relinked.specs.Scene.{seen_in, world_of}
use Rattle.cell_relinked.specs.declared.provider.Sights.{Sights}
use Rattle.cell_relinked.specs.declared.scene.Scene.{Scene}

none_some : {X : Type 0} (x : X) → None ≡ Some x → ⊥
none_some x e = cc

some_none : {X : Type 0} (x : X) → Some x ≡ None → ⊥
some_none x e = cc

module _ (s : Scene) where
  pub objects_there : All (λ (c : DescribedCell). c.object < length s.objects.now) s.cells.now
  objects_there = In-All (λ (c : DescribedCell). c.object < length s.objects.now) s.cells.now (λ c i. (All-In (IsFit s.objects.now) s.cells.now s.fit c i).there)

  -- the sight of cells of the swap
  pub own_of : (group : Option ℕ) (spaces : List ℕ) (own : Option Sight) (sight : Sight) → IsOwn s group spaces own → own ≡ Some sight → IsOfScene s sight
  own_of None spaces None sight is e = absurd (none_some sight e)
  own_of None spaces (Some x) sight is e = absurd is
  own_of (Some k) spaces None sight is e = absurd is
  own_of (Some k) spaces (Some x) sight is e = subst (IsOfScene s) (let same : x ≡ sight = cc in same) is.scene

-- what cells of one standing are asked for: the first that has a name strongly, or the nearest that has it weakly
module _ (s : Scene) (ask : List Cell → Option ℕ → List ℕ → List ℕ → Option Provider) where
  abbrev asks : Option ℕ → List ℕ → List ℕ → Option Provider
  asks group spaces name = ask (world_of s).cells group spaces name

  abbrev own_asks : Option ℕ → List ℕ → List ℕ → Option Provider
  own_asks group spaces name = own_asked (λ g. asks g spaces name) group

  -- what is found in the sight is found by a plain look at all cells
  pub found_in : (sight : Sight) → IsOfScene s sight → (r : Option FirstBearer) (bearers : List Bearer) (name : List ℕ) → AreBearers s name bearers
      → ((file : List ℕ) (objects : List Object) (name : List ℕ) → bearers ≡ bearers_of file objects sight.cells.now name → All (λ c. c.object < length objects) sight.cells.now
      → option_map (provider_at sight.cells.now) r ≡ ask (map (cell_seen file objects) sight.cells.now) sight.asked sight.spaces.now name)
      → option_map (provider_at s.cells.now) r ≡ asks sight.asked sight.spaces.now name
  found_in sight of r bearers name are plain =
      subst (λ (cells : List DescribedCell). option_map (provider_at cells) r ≡ ask (map (seen_in s) cells) sight.asked sight.spaces.now name) of.cells_are
      (plain s.file.now s.objects.now name
      (are ∙ ap (λ (cells : List DescribedCell). bearers_of s.file.now s.objects.now cells name) (sym of.cells_are))
      (subst (All (λ (c : DescribedCell). c.object < length s.objects.now)) (sym of.cells_are) (objects_there s)))

  -- ---- cells of the swap
  pub own_is : (group : Option ℕ) (spaces : List ℕ) (own : Option Sight) (sight : Sight) → IsOwn s group spaces own → own ≡ Some sight → (name : List ℕ) (p : Option Provider)
      → p ≡ asks sight.asked sight.spaces.now name → p ≡ own_asks group spaces name
  own_is None spaces None sight is e name p f = absurd (none_some sight e)
  own_is None spaces (Some x) sight is e name p f = absurd is
  own_is (Some k) spaces None sight is e name p f = absurd is
  own_is (Some k) spaces (Some x) sight is e name p f =
      let same : sight ≡ x = cc in
      f ∙ (ap (λ (y : Sight). asks y.asked y.spaces.now name) same
      ∙ (ap (λ (g : Option ℕ). asks g x.spaces.now name) is.asked_is ∙ ap (λ (ss : List ℕ). asks (Some k) ss name) is.spaces_are))

  pub own_none : (group : Option ℕ) (spaces : List ℕ) (own : Option Sight) → IsOwn s group spaces own → own ≡ None → (name : List ℕ) → None ≡ own_asks group spaces name
  own_none None spaces own is e name = refl
  own_none (Some k) spaces None is e name = absurd is
  own_none (Some k) spaces (Some x) is e name = absurd (some_none x e)

  -- ---- then attached ones
  module _ (sights : Sights) (are : AreSights s sights) (ns : ℕ) (name : List ℕ) (spaces : sights.spaces.now ≡ chain s.namespaces.now ns) (own : Option FirstBearer)
      (first : option_map (provider_at s.cells.now) own ≡ own_asks sights.group sights.spaces.now name)
      (all : Option Provider) (is : or_else (own_asks sights.group (chain s.namespaces.now ns) name) (asks None (chain s.namespaces.now ns) name) ≡ all) where
    own_on : option_map (provider_at s.cells.now) own ≡ own_asks sights.group (chain s.namespaces.now ns) name
    own_on = first ∙ ap (λ (ss : List ℕ). own_asks sights.group ss name) spaces

    pub from_own : (b : FirstBearer) → own ≡ Some b → Some (provider_at s.cells.now b) ≡ all
    from_own b e =
        ap (λ (o : Option Provider). or_else o (asks None (chain s.namespaces.now ns) name)) (sym (ap (option_map (provider_at s.cells.now)) e) ∙ own_on)
        ∙ is

    pub from_attached : own ≡ None → (p : Option Provider) → p ≡ asks sights.attached.asked sights.attached.spaces.now name → p ≡ all
    from_attached e p f =
        f
        ∙ (ap (λ (g : Option ℕ). asks g sights.attached.spaces.now name) are.attached.asked_is
        ∙ (ap (λ (ss : List ℕ). asks None ss name) (are.attached.spaces_are ∙ spaces)
        ∙ (ap (λ (o : Option Provider). or_else o (asks None (chain s.namespaces.now ns) name)) (sym (ap (option_map (provider_at s.cells.now)) e) ∙ own_on)
        ∙ is)))

module _ (s : Scene) where
  pub strong_is : (group : Option ℕ) (ns : ℕ) (name : List ℕ)
      → or_else (own_asked (λ g. first_in (world_of s).cells g (chain s.namespaces.now ns) name) group) (first_in (world_of s).cells None (chain s.namespaces.now ns) name)
      ≡ strong_provider (world_of s) (standing_of group) ns name
  strong_is None ns name = refl
  strong_is (Some k) ns name = refl

  pub weak_is : (group : Option ℕ) (ns : ℕ) (name : List ℕ)
      → or_else (own_asked (λ g. nearest_in (world_of s).cells g (chain s.namespaces.now ns) name) group) (nearest_in (world_of s).cells None (chain s.namespaces.now ns) name)
      ≡ weak_provider (world_of s) (standing_of group) ns name
  weak_is None ns name = refl
  weak_is (Some k) ns name = refl

  -- a strong holder, or else a weak one
  module _ (group : Option ℕ) (ns : ℕ) (name : List ℕ) (strong : Option FirstBearer) (holds : option_map (provider_at s.cells.now) strong ≡ strong_provider (world_of s) (standing_of group) ns name) where
    pub by_strong : (b : FirstBearer) → strong ≡ Some b → Some (provider_at s.cells.now b) ≡ provider_for (world_of s) (standing_of group) ns name
    by_strong b e =
        ap (λ (o : Option Provider). or_else o (weak_provider (world_of s) (standing_of group) ns name)) (sym (ap (option_map (provider_at s.cells.now)) e) ∙ holds)

    pub by_weak : strong ≡ None → (p : Option Provider) → p ≡ weak_provider (world_of s) (standing_of group) ns name → p ≡ provider_for (world_of s) (standing_of group) ns name
    by_weak e p weak =
        weak
        ∙ ap (λ (o : Option Provider). or_else o (weak_provider (world_of s) (standing_of group) ns name)) (sym (ap (option_map (provider_at s.cells.now)) e) ∙ holds)
