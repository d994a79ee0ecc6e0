-- After an accepted `purge` or `unload` each cell that is present is kept, and nothing leads into one that went.
use Rattle.std.proofs.Common.{◌≡◌, refl, sym, ◌∙◌, ap, subst, ℕ, suc, ◌⊎◌, inl, inr, Bool, true, false, cond, List, [], ◌∷◌, ◌++◌, map, Ok, true≢false}
use Rattle.std.specs.Prelude.{All, filter, flat_map, not, ◌==◌, ◌&&◌, ◌||◌}
use Rattle.std.specs.List.{list_any}
use Rattle.std.proofs.lemmas.Bool.{or_cases, or_left, or_right, or_parts, and_parts, or_from, eqb-true, false_from_ne_true, true_from_ne_false}
use Rattle.cell_num.specs.Lists.{holds, In}
use Rattle.cell_world.specs.declared.command.CellName.{CellName}
use Rattle.cell_world.specs.declared.state.LinkRow.{LinkRow}
use Rattle.cell_world.specs.declared.state.Placed.{Placed}
use Rattle.cell_world.specs.World.{World, Cell, Task, is_attached}
use Rattle.cell_world.specs.declared.state.Standing.TheVariants.{Detached}
use Rattle.cell_world.specs.Answer.{Done, numbers_of}
use Rattle.cell_world.specs.Kept.{Holding, Claim, IsKept, holding_of, claim_of, placed_in, reaches, is_held_directly, is_claimed_by, is_inside, is_word_in, has_word_in, has_link_to, words_inside, writable_words}
use Rattle.cell_world.specs.Commands.UnloadCommand.{without_cells, garbage_of, purged, put_aside, detach, next_unload, next_purge}
use Rattle.cell_world.specs.Coherent.{IsCoherent}
use Rattle.cell_lemmas.proofs.Naming.Appended.{ok_same}
use Rattle.cell_num.proofs.Elements.{In-All, any-In, any-Has, In-map, map-In, In-filtered, filter-In, filter-Passes}
use Rattle.cell_lemmas.specs.Left.{IsUnreached}
use Rattle.cell_lemmas.proofs.Holding.KeptPaths.{holds-In, kept_on, kept_present, directly_kept}
use Rattle.cell_lemmas.proofs.Naming.Lookups.{unnot}
use Rattle.cell_lemmas.proofs.Placement.Freed.{number_holds, stays_kept, kept_stays}
use Rattle.cell_lemmas.proofs.Naming.PutAside.{put_number, put_detached, put_other, numbers_aside, closed_aside, roots_aside}
use Rattle.cell_lemmas.proofs.Holding.Removals.{Unloaded, unloaded, cells_left}
use Rattle.cell_lemmas.proofs.Holding.WordsLeft.{claim_left, claims_left, writable_left, word_left}
use Rattle.cell_lemmas.proofs.Holding.PathsLeft.{kept_again}

-- a cell that is put aside has its sections where they were
sections_aside : (k : ℕ) (ns : List ℕ) (cells : List Cell) → flat_map placed_in (map (put_aside k ns) cells) ≡ flat_map placed_in cells
sections_aside k ns [] = refl
sections_aside k ns (c ∷ cells) = go (holds ns c.id.0) (sections_aside k ns cells)
  where
    go : (b : Bool) → flat_map placed_in (map (put_aside k ns) cells) ≡ flat_map placed_in cells
        → placed_in (cond b (record c { standing = Detached k }) c) ++ flat_map placed_in (map (put_aside k ns) cells) ≡ placed_in c ++ flat_map placed_in cells
    go true ih = ap (λ (ps : List Placed). placed_in c ++ ps) ih
    go false ih = ap (λ (ps : List Placed). placed_in c ++ ps) ih

module _ (w : World) (h : IsCoherent w) (k : ℕ) (ns : List ℕ) where
  abbrev aside : World
  aside = detach k ns w

  abbrev gone : List ℕ
  gone = garbage_of aside

  abbrev left : World
  left = without_cells w gone

  abbrev before : Holding
  before = holding_of aside

  abbrev after : Holding
  after = holding_of left

  abbrev stay : Cell → Bool
  stay c = not (holds gone c.id.0)

  abbrev link_stays : LinkRow → Bool
  link_stays l = not (holds gone l.user.cell.0 || holds gone l.target.cell.0)

  abbrev is_up : Cell → Bool
  is_up c = is_attached c.standing

  -- the same words lie in a cell, whether or not the named ones are put aside
  words_aside : (c : ℕ) (words : List ℕ) → has_word_in before c words ≡ has_word_in (holding_of w) c words
  words_aside c words = ap (λ (ps : List Placed). list_any (λ word. list_any (is_inside c word) ps) words) (sections_aside k ns w.cells)

  writable_aside : (a : ℕ) → writable_words before a ≡ writable_words (holding_of w) a
  writable_aside a = ap (λ (ps : List Placed). flat_map (words_inside w.regions) (filter (λ s. s.key.cell.0 == a && s.write) ps)) (sections_aside k ns w.cells)

  claimed_aside : (c : ℕ) (t : Task) → is_claimed_by before c (claim_of w t) ≡ is_claimed_by (holding_of w) c (claim_of w t)
  claimed_aside c t = ap (λ b. t.root == c || b) (words_aside c (claim_of w t).words)

  -- the words that were in a cell that stays are in it
  words_left : (c : ℕ) → holds gone c ≡ false → (words : List ℕ) → has_word_in (holding_of w) c words ≡ true → has_word_in after c words ≡ true
  words_left c s words e =
      let x : (x : ℕ) × In x words × (is_word_in (holding_of w) c x ≡ true) = any-Has (is_word_in (holding_of w) c) words e in
      any-In (is_word_in after c) words x.0 x.1 (word_left w h gone (closed_aside w h k ns) (roots_aside w h k ns) c s x.0 x.2)

  -- a cell that is there and stays is left
  is_left : (c : Cell) → In c w.cells → holds gone c.id.0 ≡ false → In c left.cells
  is_left c i s = filter-In stay w.cells c i (ap not s)

  number_left : (c : ℕ) → IsKept before c → (x : Cell) × In x left.cells × (c ≡ x.id.0)
  number_left c p = go (In-map (λ (x : Cell). x.id.0) w.cells c (subst (λ (n : List ℕ). In c n) (numbers_aside w h k ns) (kept_present before c p)))
    where
      go : (x : Cell) × In x w.cells × (c ≡ x.id.0) → (x : Cell) × In x left.cells × (c ≡ x.id.0)
      go x = (x.0, is_left x.0 x.1 (subst (λ n. holds gone n ≡ false) x.2 (kept_stays aside c p)), x.2)

  there : (c : ℕ) → IsKept before c → holds after.cells c ≡ true
  there c p = let x = number_left c p in subst (λ n. holds after.cells n ≡ true) (sym x.2) (number_holds left.cells x.0 x.1)

  attached_left : (c : ℕ) → IsKept before c → holds before.attached c ≡ true → holds after.attached c ≡ true
  attached_left c p e = go (In-map (λ (x : Cell). x.id.0) (filter is_up aside.cells) c (holds-In before.attached c e))
    where
      one : (y : Cell) → In y w.cells → is_attached (put_aside k ns y).standing ≡ true → c ≡ y.id.0 → (b : Bool) → holds ns y.id.0 ≡ b → holds after.attached c ≡ true
      one y i u n true q = absurd (true≢false (sym u ∙ put_detached k ns y q))
      one y i u n false q =
          subst (λ m. holds after.attached m ≡ true) (sym n)
          (number_holds (filter is_up left.cells) y
          (filter-In is_up left.cells y (is_left y i (subst (λ m. holds gone m ≡ false) n (kept_stays aside c p)))
          (sym (ap is_up (put_other k ns y q)) ∙ u)))

      go : (x : Cell) × In x (filter is_up aside.cells) × (c ≡ x.id.0) → holds after.attached c ≡ true
      go x =
          let y : (y : Cell) × In y w.cells × (x.0 ≡ put_aside k ns y) = In-map (put_aside k ns) w.cells x.0 (In-filtered is_up aside.cells x.0 x.1) in
          one y.0 y.1 (subst (λ (v : Cell). is_attached v.standing ≡ true) y.2 (filter-Passes is_up aside.cells x.0 x.1))
          (x.2 ∙ (ap (λ (v : Cell). v.id.0) y.2 ∙ put_number k ns y.0)) (holds ns y.0.id.0) refl

  claimed_left : (c : ℕ) → holds gone c ≡ false → (t : Task) → is_claimed_by before c (claim_of w t) ≡ true → is_claimed_by after c (claim_of w t) ≡ true
  claimed_left c s t e = go (or_cases (t.root == c) (has_word_in (holding_of w) c (claim_of w t).words) (sym (claimed_aside c t) ∙ e))
    where
      go : ((t.root == c) ≡ true) ⊎ (has_word_in (holding_of w) c (claim_of w t).words ≡ true) → is_claimed_by after c (claim_of w t) ≡ true
      go (inl r) = or_left (t.root == c) (has_word_in after c (claim_of w t).words) r
      go (inr r) = or_right (t.root == c) (has_word_in after c (claim_of w t).words) (words_left c s (claim_of w t).words r)

  claims_same : after.claims ≡ before.claims
  claims_same = claims_left w h gone (closed_aside w h k ns) (roots_aside w h k ns)

  directly_left : (c : ℕ) → IsKept before c → is_held_directly before c ≡ true → is_held_directly after c ≡ true
  directly_left c p e = go (or_cases (holds before.attached c) (list_any (is_claimed_by before c) before.claims) e)
    where
      claimed : (u : Claim) × In u before.claims × (is_claimed_by before c u ≡ true) → list_any (is_claimed_by after c) after.claims ≡ true
      claimed u =
          let t : (t : Task) × In t w.tasks × (u.0 ≡ claim_of w t) = In-map (claim_of w) w.tasks u.0 u.1 in
          any-In (is_claimed_by after c) after.claims u.0 (subst (λ (us : List Claim). In u.0 us) (sym claims_same) u.1)
          (subst (λ (x : Claim). is_claimed_by after c x ≡ true) (sym t.2) (claimed_left c (kept_stays aside c p) t.0 (subst (λ (x : Claim). is_claimed_by before c x ≡ true) t.2 u.2)))

      go : (holds before.attached c ≡ true) ⊎ (list_any (is_claimed_by before c) before.claims ≡ true) → is_held_directly after c ≡ true
      go (inl s) = or_left (holds after.attached c) (list_any (is_claimed_by after c) after.claims) (attached_left c p s)
      go (inr s) = or_right (holds after.attached c) (list_any (is_claimed_by after c) after.claims) (claimed (any-Has (is_claimed_by before c) before.claims s))

  -- the words of a cell that stays, as they are left, are those that it had
  writable_same : (a : ℕ) → holds gone a ≡ false → writable_words after a ≡ writable_words before a
  writable_same a s = writable_left w h gone (closed_aside w h k ns) (roots_aside w h k ns) a s ∙ sym (writable_aside a)

  onward_left : (a b : ℕ) → IsKept before a → IsKept before b → reaches before a b ≡ true → reaches after a b ≡ true
  onward_left a b p q e = go (or_cases (has_link_to before a b) (has_word_in before b (writable_words before a)) e)
    where
      joins : LinkRow → Bool
      joins l = l.user.cell.0 == a && l.target.cell.0 == b

      linked : (l : LinkRow) × In l w.links × (joins l ≡ true) → has_link_to after a b ≡ true
      linked l =
          let n = and_parts (l.0.user.cell.0 == a) (l.0.target.cell.0 == b) l.2 in
          any-In joins left.links l.0
          (filter-In link_stays w.links l.0 l.1
          (ap not (or_from (holds gone l.0.user.cell.0) (holds gone l.0.target.cell.0)
          (subst (λ m. holds gone m ≡ false) (sym (eqb-true l.0.user.cell.0 a n.0)) (kept_stays aside a p))
          (subst (λ m. holds gone m ≡ false) (sym (eqb-true l.0.target.cell.0 b n.1)) (kept_stays aside b q)))))
          l.2

      go : (has_link_to before a b ≡ true) ⊎ (has_word_in before b (writable_words before a) ≡ true) → reaches after a b ≡ true
      go (inl s) = or_left (has_link_to after a b) (has_word_in after b (writable_words after a)) (linked (any-Has joins w.links s))
      go (inr s) = or_right (has_link_to after a b) (has_word_in after b (writable_words after a))
          (subst (λ (words : List ℕ). has_word_in after b words ≡ true) (sym (writable_same a (kept_stays aside a p)))
          (words_left b (kept_stays aside b q) (writable_words before a) (sym (words_aside b (writable_words before a)) ∙ s)))

  -- with the named cells put aside, a cell that is left is kept
  left_kept : (c : Cell) → In c left.cells → IsKept before c.id.0
  left_kept c i = subst (IsKept before) (put_number k ns c)
      (stays_kept aside (put_aside k ns c) (map-In (put_aside k ns) w.cells c (In-filtered stay w.cells c i))
      (subst (λ n. holds gone n ≡ false) (sym (put_number k ns c)) (unnot (holds gone c.id.0) (filter-Passes stay w.cells c i))))

  -- and with what is left it is kept again
  pub all_kept : All (λ c. IsKept (holding_of left) c.id.0) left.cells
  all_kept = In-All (λ (c : Cell). IsKept after c.id.0) left.cells
      (λ c i. kept_again before after (record { there = there; directly = directly_left; onward = onward_left }) c.id.0 (left_kept c i))

  -- a cell that went
  module _ (c : Cell) (here : In c w.cells) (went : holds (numbers_of left.cells) c.id.0 ≡ false) where
    is_gone : holds gone c.id.0 ≡ true
    is_gone = true_from_ne_false (holds gone c.id.0) (λ s. true≢false (sym (number_holds left.cells c (is_left c here s)) ∙ went))

    not_kept : IsKept before c.id.0 → ⊥
    not_kept p = true≢false (sym is_gone ∙ kept_stays aside c.id.0 p)

    was_there : holds before.cells c.id.0 ≡ true
    was_there = subst (λ (n : List ℕ). holds n c.id.0 ≡ true) (sym (numbers_aside w h k ns)) (number_holds w.cells c here)

    no_step : (a : Cell) → In a left.cells → reaches before a.id.0 c.id.0 ≡ true → ⊥
    no_step a i e = not_kept (kept_on before a.id.0 c.id.0 (left_kept a i) was_there e)

    no_claim : (t : Task) → In t w.tasks → is_claimed_by (holding_of w) c.id.0 (claim_of left t) ≡ true → ⊥
    no_claim t i e =
        let now : is_claimed_by before c.id.0 (claim_of w t) ≡ true = claimed_aside c.id.0 t ∙ subst (λ (u : Claim). is_claimed_by (holding_of w) c.id.0 u ≡ true) (claim_left w h gone (closed_aside w h k ns) (roots_aside w h k ns) t i) e in
        not_kept (directly_kept before c.id.0 was_there
        (or_right (holds before.attached c.id.0) (list_any (is_claimed_by before c.id.0) before.claims) (any-In (is_claimed_by before c.id.0) before.claims (claim_of w t) (map-In (claim_of w) w.tasks t i) now)))

    no_target : (l : LinkRow) → In l left.links → (l.target.cell.0 == c.id.0) ≡ true → ⊥
    no_target l i e =
        let s = or_parts (holds gone l.user.cell.0) (holds gone l.target.cell.0) (unnot (holds gone l.user.cell.0 || holds gone l.target.cell.0) (filter-Passes link_stays w.links l i)) in
        true≢false (sym is_gone ∙ (sym (ap (holds gone) (eqb-true l.target.cell.0 c.id.0 e)) ∙ s.1))

    no_word : (a : Cell) → In a left.cells → has_word_in (holding_of w) c.id.0 (writable_words after a.id.0) ≡ true → ⊥
    no_word a i e =
        no_step a i (or_right (has_link_to before a.id.0 c.id.0) (has_word_in before c.id.0 (writable_words before a.id.0))
        (subst (λ (words : List ℕ). has_word_in before c.id.0 words ≡ true) (writable_same a.id.0 (unnot (holds gone a.id.0) (filter-Passes stay w.cells a i)))
        (words_aside c.id.0 (writable_words after a.id.0) ∙ e)))

    unreached : IsUnreached w left c
    unreached = record {
      tasks = In-All (λ (t : Task). is_claimed_by (holding_of w) c.id.0 (claim_of left t) ≡ false) w.tasks (λ t i. false_from_ne_true _ (no_claim t i));
      links = In-All (λ (l : LinkRow). (l.target.cell.0 == c.id.0) ≡ false) left.links (λ l i. false_from_ne_true _ (no_target l i));
      no_links_before = In-All (λ (a : Cell). has_link_to (holding_of w) a.id.0 c.id.0 ≡ false) left.cells
          (λ a i. false_from_ne_true _ (λ e. no_step a i (or_left (has_link_to before a.id.0 c.id.0) (has_word_in before c.id.0 (writable_words before a.id.0)) e)));
      words = In-All (λ (a : Cell). has_word_in (holding_of w) c.id.0 (writable_words after a.id.0) ≡ false) left.cells (λ a i. false_from_ne_true _ (no_word a i));
    }

  pub all_unreached : All (λ c. holds (numbers_of left.cells) c.id.0 ≡ false → IsUnreached w left c) w.cells
  all_unreached = In-All (λ (c : Cell). holds (numbers_of left.cells) c.id.0 ≡ false → IsUnreached w left c) w.cells unreached

-- a `purge` is an `unload` that names no cell

none_aside : (k : ℕ) (cells : List Cell) → map (put_aside k []) cells ≡ cells
none_aside k [] = refl
none_aside k (c ∷ cells) = ap (λ (cs : List Cell). c ∷ cs) (none_aside k cells)

purge_unloads : (w : World) (d : Done) → next_purge w ≡ Ok d → Unloaded w [] d
purge_unloads w d e = record {
  none = refl;
  is = ap (λ (cells : List Cell). purged (record w { cells = cells })) (none_aside (suc w.swaps) w.cells) ∙ ap (λ (x : Done). x.world) (ok_same _ d e);
}

module _ (w : World) (h : IsCoherent w) (cells : List Cell) (d : Done) (u : Unloaded w cells d) where
  leaves_kept : All (λ c. IsKept (holding_of d.world) c.id.0) d.world.cells
  leaves_kept = subst (λ (v : World). All (λ c. IsKept (holding_of v) c.id.0) v.cells) (cells_left w h cells d u) (all_kept w h (suc w.swaps) (numbers_of cells))

  leaves_unreached : All (λ c. holds (numbers_of d.world.cells) c.id.0 ≡ false → IsUnreached w d.world c) w.cells
  leaves_unreached = subst (λ (v : World). All (λ c. holds (numbers_of v.cells) c.id.0 ≡ false → IsUnreached w v c) w.cells) (cells_left w h cells d u)
      (all_unreached w h (suc w.swaps) (numbers_of cells))

pub purge_keeps : (w : World) (d : Done) → IsCoherent w → next_purge w ≡ Ok d → All (λ c. IsKept (holding_of d.world) c.id.0) d.world.cells
purge_keeps w d h e = leaves_kept w h [] d (purge_unloads w d e)

pub unload_keeps : (w : World) (names : List CellName) (d : Done) → IsCoherent w → next_unload w names ≡ Ok d → All (λ c. IsKept (holding_of d.world) c.id.0) d.world.cells
unload_keeps w names d h e = let u = unloaded w names d e in leaves_kept w h u.0 d u.2

pub purge_unreached : (w : World) (d : Done) → IsCoherent w → next_purge w ≡ Ok d → All (λ c. holds (numbers_of d.world.cells) c.id.0 ≡ false → IsUnreached w d.world c) w.cells
purge_unreached w d h e = leaves_unreached w h [] d (purge_unloads w d e)

pub unload_unreached : (w : World) (names : List CellName) (d : Done) → IsCoherent w → next_unload w names ≡ Ok d → All (λ c. holds (numbers_of d.world.cells) c.id.0 ≡ false → IsUnreached w d.world c) w.cells
unload_unreached w names d h e = let u = unloaded w names d e in leaves_unreached w h u.0 d u.2
