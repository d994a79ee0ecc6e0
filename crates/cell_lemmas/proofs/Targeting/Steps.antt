-- Detaching by itself.
use Rattle.std.proofs.Common.{◌≡◌, sym, ◌∙◌, ap, ℕ, true, false, List, None}
use Rattle.std.specs.Prelude.{All, IsTrue}
use Rattle.cell_num.specs.Lists.{holds, In}
use Rattle.cell_object.specs.declared.object.Entry.{Entry}
use Rattle.cell_world.specs.World.{World, Cell, is_attached, is_of_group}
use Rattle.cell_world.specs.Linked.Target.{target_of}
use Rattle.cell_world.specs.Commands.UnloadCommand.{put_aside, detach}
use Rattle.cell_num.proofs.Elements.{All-In, In-All}
use Rattle.cell_lemmas.specs.Named.{IsNamed, IsNewGroup}
use Rattle.cell_lemmas.specs.Firm.{weak_target}
use Rattle.cell_lemmas.specs.Targets.{is_target_in}
use Rattle.cell_lemmas.proofs.Targeting.Detached.{put_out, own_same, others_keep, others_out}

module _ (w : World) (k : ℕ) (ns : List ℕ) (named : IsNamed w) (new : IsNewGroup k w) (attached : All (λ c. IsTrue (holds ns c.id.0) → IsTrue (is_attached c.standing)) w.cells) where
  each_attached : (c : Cell) → In c w.cells → holds ns c.id.0 ≡ true → is_attached c.standing ≡ true
  each_attached = All-In (λ (c : Cell). IsTrue (holds ns c.id.0) → IsTrue (is_attached c.standing)) w.cells attached

  new_group : (c : Cell) → In c w.cells → is_of_group k c.standing ≡ false
  new_group = All-In (λ (c : Cell). is_of_group k c.standing ≡ false) w.cells new

  pub detached_own : All (λ c. IsTrue (holds ns c.id.0) → (e : Entry) → weak_target w c e ≡ None → target_of (detach k ns w) (put_aside k ns c) e ≡ target_of w c e) w.cells
  detached_own = In-All (λ (c : Cell). IsTrue (holds ns c.id.0) → (e : Entry) → weak_target w c e ≡ None → target_of (detach k ns w) (put_aside k ns c) e ≡ target_of w c e) w.cells
      (λ c i q e f. own_same w named k ns new_group each_attached c i q e f)

  pub detached_others : All (λ c. holds ns c.id.0 ≡ false → (e : Entry) → is_target_in ns (target_of w c e) ≡ false → target_of (detach k ns w) c e ≡ target_of w c e) w.cells
  detached_others = In-All (λ (c : Cell). holds ns c.id.0 ≡ false → (e : Entry) → is_target_in ns (target_of w c e) ≡ false → target_of (detach k ns w) c e ≡ target_of w c e) w.cells
      (λ c i q e f. ap (λ (z : Cell). target_of (detach k ns w) z e) (sym (put_out k ns c q)) ∙ others_keep w named k ns new_group each_attached c i q e f)

  pub detached_lost : All (λ c. holds ns c.id.0 ≡ false → (e : Entry) → is_target_in ns (target_of (detach k ns w) c e) ≡ false) w.cells
  detached_lost = In-All (λ (c : Cell). holds ns c.id.0 ≡ false → (e : Entry) → is_target_in ns (target_of (detach k ns w) c e) ≡ false) w.cells
      (λ c i q e. ap (λ (z : Cell). is_target_in ns (target_of (detach k ns w) z e)) (sym (put_out k ns c q)) ∙ others_out w named k ns new_group each_attached c i q e)
