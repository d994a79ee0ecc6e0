-- The cells that are removed are exactly the detached ones that nobody keeps.
use Rattle.std.proofs.Common.{◌≡◌, refl, sym, ◌∙◌, ap, subst, ℕ, Bool, true, false, ◌&&◌, ◌||◌, List, true≢false, Some}
use Rattle.std.specs.Prelude.{filter, find, ◌==◌, nat_lt, not}
use Rattle.std.specs.List.{list_any}
use Rattle.std.proofs.lemmas.Bool.{eqb-true, eq-eqb, or_left, and_from}
use Rattle.std.proofs.Math.Bool.{or-true}
use Rattle.cell_num.specs.Lists.{holds, each_pair, In}
use Rattle.cell_world.specs.declared.state.LinkRow.{LinkRow}
use Rattle.cell_world.specs.World.{World, Cell, Task, cell_of, is_attached}
use Rattle.cell_world.specs.Answer.{numbers_of}
use Rattle.cell_world.specs.Kept.{Holding, IsKept, holding_of, claim_of, kept_in, has_link_to, has_word_in, writable_words, is_claimed_by, is_held_directly}
use Rattle.cell_world.specs.Commands.UnloadCommand.{garbage_of}
use Rattle.cell_world.specs.Coherent.{IsCoherent}
use Rattle.cell_lemmas.specs.Present.{JoinsPresent}
use Rattle.cell_num.proofs.Elements.{All-In, any-In, filter-In, In-filtered, filter-Passes, found-In, map-In, In-map}
use Rattle.cell_lemmas.proofs.Targeting.Present.{links_present, some_same}
use Rattle.cell_lemmas.proofs.Targeting.Targets.{In-find}
use Rattle.cell_lemmas.proofs.Holding.KeptPaths.{In-holds, holds-In, kept_complete, kept_sound, kept_on, directly_kept}
use Rattle.cell_lemmas.proofs.Naming.Lookups.{unnot}
use Rattle.cell_lemmas.proofs.Targeting.TargetsLeft.{Closed}

abbrev is_detached : Cell → Bool
is_detached c = not (is_attached c.standing)

pub number_holds : (cells : List Cell) (c : Cell) → In c cells → holds (numbers_of cells) c.id.0 ≡ true
number_holds cells c i = In-holds (numbers_of cells) c.id.0 (map-In (λ (x : Cell). x.id.0) cells c i)

pub present_holds : (w : World) (n : ℕ) (c : Cell) → cell_of w n ≡ Some c → holds (numbers_of w.cells) n ≡ true
present_holds w n c e =
    let f = found-In (λ (x : Cell). x.id.0 == n) w.cells c e in
    subst (λ m. holds (numbers_of w.cells) m ≡ true) (eqb-true c.id.0 n f.1) (number_holds w.cells c f.0)

pub same_cell : (cells : List Cell) → each_pair (λ (a b : Cell). nat_lt a.id.0 b.id.0) cells ≡ true → (c d : Cell) → In c cells → In d cells → c.id.0 ≡ d.id.0 → c ≡ d
same_cell cells rises c d i j e =
    some_same c d (sym (In-find cells rises c i) ∙ subst (λ (n : ℕ). find (λ x. x.id.0 == n) cells ≡ Some d) (sym e) (In-find cells rises d j))

-- both ends of each link are of present cells
abbrev pub JoinsCells : World → Type 0
JoinsCells v = (l : LinkRow) → In l v.links → (holds (numbers_of v.cells) l.user.cell.0 ≡ true) × (holds (numbers_of v.cells) l.target.cell.0 ≡ true)

pub joins_cells : (w : World) → IsCoherent w → JoinsCells w
joins_cells w h l i =
    let j : JoinsPresent w l = All-In (JoinsPresent w) w.links (links_present w h) l i in
    (present_holds w l.user.cell.0 j.user.cell j.user.present, present_holds w l.target.cell.0 j.target.cell j.target.present)

module _ (v : World) where
  abbrev h : Holding
  h = holding_of v

  attached_kept : (c : Cell) → In c v.cells → is_attached c.standing ≡ true → IsKept h c.id.0
  attached_kept c i a =
      directly_kept h c.id.0 (number_holds v.cells c i)
      (or_left (holds h.attached c.id.0) (list_any (is_claimed_by h c.id.0) h.claims) (number_holds (filter (λ (x : Cell). is_attached x.standing) v.cells) c (filter-In (λ (x : Cell). is_attached x.standing) v.cells c i a)))

  -- a present cell that isn't removed is kept
  pub stays_kept : (c : Cell) → In c v.cells → holds (garbage_of v) c.id.0 ≡ false → IsKept h c.id.0
  stays_kept c i s = go (is_attached c.standing) refl (holds (kept_in h) c.id.0) refl
    where
      go : (a : Bool) → is_attached c.standing ≡ a → (k : Bool) → holds (kept_in h) c.id.0 ≡ k → IsKept h c.id.0
      go true a k e = attached_kept c i a
      go false a true e = kept_sound h c.id.0 (holds-In (kept_in h) c.id.0 e)
      go false a false e =
          absurd (true≢false (sym (In-holds (garbage_of v) c.id.0
          (filter-In (λ n. not (holds (kept_in h) n)) (numbers_of (filter is_detached v.cells)) c.id.0
          (map-In (λ (x : Cell). x.id.0) (filter is_detached v.cells) c (filter-In is_detached v.cells c i (ap not a)))
          (ap not e))) ∙ s))

  -- and what is kept is not removed
  pub kept_stays : (n : ℕ) → IsKept h n → holds (garbage_of v) n ≡ false
  kept_stays n k = go (holds (garbage_of v) n) refl
    where
      go : (b : Bool) → holds (garbage_of v) n ≡ b → b ≡ false
      go false e = refl
      go true e =
          absurd (true≢false (sym (In-holds (kept_in h) n (kept_complete h n k))
          ∙ unnot (holds (kept_in h) n) (filter-Passes (λ m. not (holds (kept_in h) m)) (numbers_of (filter is_detached v.cells)) n (holds-In (garbage_of v) n e))))

  pub garbage_closed : JoinsCells v → Closed v (garbage_of v)
  garbage_closed joins l i s =
      let p = joins l i in
      let c = In-map (λ (x : Cell). x.id.0) v.cells l.user.cell.0 (holds-In (numbers_of v.cells) l.user.cell.0 p.0) in
      kept_stays l.target.cell.0 (kept_on h l.user.cell.0 l.target.cell.0 (user c) p.1 (or_left (has_link_to h l.user.cell.0 l.target.cell.0) (has_word_in h l.target.cell.0 (writable_words h l.user.cell.0)) linked))
    where
      user : (c : Cell) × In c v.cells × (l.user.cell.0 ≡ c.id.0) → IsKept h l.user.cell.0
      user c = subst (IsKept h) (sym c.2) (stays_kept c.0 c.1 (subst (λ n. holds (garbage_of v) n ≡ false) c.2 s))

      linked : has_link_to h l.user.cell.0 l.target.cell.0 ≡ true
      linked = any-In (λ (link : LinkRow). link.user.cell.0 == l.user.cell.0 && link.target.cell.0 == l.target.cell.0) v.links l i
          (and_from (l.user.cell.0 == l.user.cell.0) (l.target.cell.0 == l.target.cell.0) (eq-eqb l.user.cell.0 l.user.cell.0 refl) (eq-eqb l.target.cell.0 l.target.cell.0 refl))

  -- a live task's root is kept
  pub root_stays : (t : Task) → In t v.tasks → holds (numbers_of v.cells) t.root ≡ true → holds (garbage_of v) t.root ≡ false
  root_stays t i present = kept_stays t.root (directly_kept h t.root present held)
    where
      claimed : list_any (is_claimed_by h t.root) h.claims ≡ true
      claimed = any-In (is_claimed_by h t.root) h.claims (claim_of v t) (map-In (claim_of v) v.tasks t i) (or_left (t.root == t.root) _ (eq-eqb t.root t.root refl))

      held : is_held_directly h t.root ≡ true
      held = subst (λ b. (holds h.attached t.root || b) ≡ true) (sym claimed) (or-true (holds h.attached t.root))

  -- what is removed is detached and not kept
  pub garbage_free : each_pair (λ (a b : Cell). nat_lt a.id.0 b.id.0) v.cells ≡ true → (c : Cell) → In c v.cells → holds (garbage_of v) c.id.0 ≡ true → (is_attached c.standing ≡ false) × (IsKept h c.id.0 → ⊥)
  garbage_free rises c i g = (detached (In-map (λ (x : Cell). x.id.0) (filter is_detached v.cells) c.id.0 (In-filtered (λ n. not (holds (kept_in h) n)) (numbers_of (filter is_detached v.cells)) c.id.0 (holds-In (garbage_of v) c.id.0 g))), λ k. true≢false (sym g ∙ kept_stays c.id.0 k))
    where
      detached : (d : Cell) × In d (filter is_detached v.cells) × (c.id.0 ≡ d.id.0) → is_attached c.standing ≡ false
      detached d =
          subst (λ (x : Cell). is_attached x.standing ≡ false) (sym (same_cell v.cells rises c d.0 i (In-filtered is_detached v.cells d.0 d.1) d.2))
          (unnot (is_attached d.0.standing) (filter-Passes is_detached v.cells d.0 d.1))
