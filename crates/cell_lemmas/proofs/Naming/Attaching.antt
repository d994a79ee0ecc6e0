-- Cells that are attached behind the others change nothing that is firm.
use Rattle.std.proofs.Common.{◌≡◌, refl, sym, ◌∙◌, ap, subst, true, false, not, List, Option, Some}
use Rattle.std.specs.Prelude.{All, unwrap_or, ◌==◌, nat_lt}
use Rattle.std.proofs.lemmas.Bool.{and_from, eq-eqb}
use Rattle.cell_num.specs.Lists.{each_pair, In}
use Rattle.cell_object.specs.declared.object.Entry.{Entry}
use Rattle.cell_world.specs.declared.state.Target.{Target}
use Rattle.cell_world.specs.declared.state.Target.TheVariants.{Section, Number}
use Rattle.cell_world.specs.World.{World, Cell}
use Rattle.cell_world.specs.Names.{chain}
use Rattle.cell_world.specs.Linked.Target.{target_of}
use Rattle.cell_world.specs.Changed.{is_same_key, is_same_target, is_other_target, now_in, differs}
use Rattle.cell_world.specs.Coherent.{IsReady}
use Rattle.cell_lemmas.specs.Grown.{HasAttached}
use Rattle.cell_lemmas.specs.Firm.{firm_target, ChangesSoft}
use Rattle.cell_num.proofs.Elements.{In-All, In-left}
use Rattle.cell_lemmas.proofs.Naming.Attach.{firm_more, firm_is}
use Rattle.cell_lemmas.proofs.Links.FreshLinks.{grows}
use Rattle.cell_lemmas.proofs.Targeting.Targets.{In-find}

pub same_self : (t : Target) → is_same_target t t ≡ true
same_self (Section key offset addr) =
    and_from (is_same_key key key) (offset == offset) (and_from (key.cell.0 == key.cell.0) (key.section == key.section) (eq-eqb key.cell.0 key.cell.0 refl) (eq-eqb key.section key.section refl)) (eq-eqb offset offset refl)
same_self (Number value) = eq-eqb value value refl

-- what names the same doesn't differ
pub not_other : (o p : Option Target) (t : Target) → o ≡ Some t → p ≡ Some t → is_other_target o p ≡ false
not_other o p t a b = ap (λ (x : Option Target). is_other_target x p) a ∙ (ap (is_other_target (Some t)) b ∙ ap not (same_self t))

-- whatever is firm is what it was
pub attached_firm : (v w : World) (new : List Cell) → HasAttached v w new → (c : Cell) (e : Entry) (t : Target) → firm_target v c e ≡ Some t → firm_target w c e ≡ Some t
attached_firm v w new a c = firm_more v w (grows v w new a) c (ap (λ spaces. chain spaces c.ns) a.spaces)

-- a cell that was there is as it was
pub still : (v w : World) (new : List Cell) → each_pair (λ a b. nat_lt a.id.0 b.id.0) w.cells ≡ true → HasAttached v w new → (c : Cell) → In c v.cells → now_in w c ≡ c
still v w new order a c i = ap (λ (o : Option Cell). unwrap_or o c) (In-find w.cells order c (subst (λ (cs : List Cell). In c cs) (sym a.cells) (In-left v.cells new c i)))

module _ (v w : World) (new : List Cell) (ready : IsReady w) (a : HasAttached v w new) where
  firm_stays : (c : Cell) → In c v.cells → (e : Entry) (t : Target) → firm_target v c e ≡ Some t → differs v w c e ≡ false
  firm_stays c i e t h =
      not_other (target_of v c e) (target_of w (now_in w c) e) t (firm_is v c e t h)
      (ap (λ (z : Cell). target_of w z e) (still v w new ready.cell_order a c i) ∙ firm_is w c e t (attached_firm v w new a c e t h))

  pub attached_changes_soft : ChangesSoft v w
  attached_changes_soft = In-All (λ (c : Cell). All (λ (e : Entry). (t : Target) → firm_target v c e ≡ Some t → differs v w c e ≡ false) c.object.entries) v.cells
      (λ c i. In-All (λ (e : Entry). (t : Target) → firm_target v c e ≡ Some t → differs v w c e ≡ false) c.object.entries (λ e j. firm_stays c i e))
