-- The cells that the worklist ends with are the kept ones.
use Rattle.std.proofs.Common.{◌≡◌, refl, sym, ◌∙◌, ap, subst, arith, ℕ, ◌+◌, ◌≤◌, ◌⊎◌, inl, inr, Bool, true, false, cond, ◌&&◌, not, List, [], ◌∷◌, map, length, take_all}
use Rattle.std.specs.Prelude.{◌==◌, nat_le}
use Rattle.std.specs.List.{list_all, list_any}
use Rattle.std.specs.List.Sorted.{IsNonDecreasingBy, IsPermutation}
use Rattle.std.proofs.lemmas.Bool.{and_parts, and_from, false≢true, or_cases, or_left, or_right, eqb-true, eq-eqb, leb-true}
use Rattle.std.proofs.lemmas.List.Sorted.{list_any-IsPermutation, sum_by-IsPermutation}
use Rattle.cell_num.specs.declared.ids.CellId.{CellId}
use Rattle.cell_num.specs.Lists.{holds, In}
use Rattle.cell_graph.specs.Links.{Links, is_same}
use Rattle.cell_mem.specs.State.{MemoryState}
use Rattle.cell_world.specs.declared.state.LinkRow.{LinkRow}
use Rattle.cell_world.specs.declared.state.Placed.{Placed}
use Rattle.cell_world.specs.Kept.{Holding, IsKept, Leads, has_link_to, has_word_in, is_held_directly, is_inside, kept_in, reaches, writable_words}
use Rattle.cell_world.specs.Running.Words.{words_of}
use Rattle.cell_num.proofs.Elements.{all-In, any-In, any-Has, In-map, map-In}
use Rattle.cell_lemmas.proofs.Holding.KeptPaths.{In-holds, holds-In, directly_kept, kept_complete, kept_on, kept_present, kept_rises, kept_sound}
use Rattle.cell_hold.specs.declared.roots.Root.{Root}
use Rattle.cell_hold.specs.declared.roots.Root.TheVariants.{Attached, Task, Word}
use Rattle.cell_hold.specs.Adds.{Adds, IsOnceEach, Spreads, has_cell, has_or_full}
use Rattle.cell_hold.specs.Places.{HasTargets, has_section, is_cells_at}
use Rattle.cell_hold.specs.Reached.{linked, links_lead, reaches_anew, reaches_on, root_holds, rooted, touches, words_reach}
use Rattle.cell_hold.specs.Roots.{AreCells, HasRoom, holding_by, is_attached, named_by, task_of}
use Rattle.cell_hold.specs.Uses.{Uses, is_used_by}
use Rattle.cell_hold.proofs.Adding.{full_more, has_left}
use Rattle.cell_hold.proofs.Counting.{at_most, one_more, rising, same_rising}
use Rattle.cell_hold.proofs.Opening.{in_others, root_others, root_within, words_others, words_within}
use Rattle.cell_hold.proofs.Reaching.{reaches_by}
use Rattle.cell_hold.proofs.Rooting.{by_roots}
use Rattle.cell_hold.proofs.Using.{any_goes}

-- how the list grows from the attached cells, `old`: by what is held, by what links of those lead into, and by what all these reach
pub record AddsKept (graph : Links) (memory : MemoryState) (places : List Placed) (roots : List Root) (room : ℕ) (old new : List CellId) : Type 0 where
  pub others : List Placed
  pub held : List CellId
  pub used : List CellId
  -- the sections of the other cells
  pub unfound : (p : Placed → Bool) → list_any p others ≡ list_any (λ s. not (has_cell old s.key.cell.0) && p s) places
  pub holds : Adds (is_held_directly (rooted memory others roots)) room old held
  pub uses : Uses graph.rows others room held used
  pub spreads : Spreads (reaches_on graph memory places others) (reaches_anew graph memory places others old) room room used new

module _ (graph : Links) (memory : MemoryState) (places : List Placed) (roots : List Root) where
  abbrev all_of : List ℕ → Holding
  all_of cells = holding_by cells graph memory places roots

  -- what words, links and roots lead into is named
  module _ (cells : List ℕ) (named : AreCells cells places roots) where
    place_named : (s : Placed) → In s places → (b : ℕ) → s.key.cell.0 ≡ b → holds cells b ≡ true
    place_named s i b e = subst (λ n. holds cells n ≡ true) e (all-In (λ (t : Placed). holds cells t.key.cell.0) places named.of_places s i)

    word_named : (b w : ℕ) → is_cells_at b w places ≡ true → holds cells b ≡ true
    word_named b w h =
        let r : (s : Placed) × In s places × (is_inside b w s ≡ true) = any-Has (is_inside b w) places h in
        let p : ((r.0.key.cell.0 == b && nat_le r.0.start w) ≡ true) × (nat_le w (r.0.start + r.0.size) ≡ true) = and_parts (r.0.key.cell.0 == b && nat_le r.0.start w) (nat_le w (r.0.start + r.0.size)) r.2 in
        let q : ((r.0.key.cell.0 == b) ≡ true) × (nat_le r.0.start w ≡ true) = and_parts (r.0.key.cell.0 == b) (nat_le r.0.start w) p.0 in
        place_named r.0 r.1 b (eqb-true r.0.key.cell.0 b q.0)

    words_named : (b : ℕ) (words : List ℕ) → touches places words b ≡ true → holds cells b ≡ true
    words_named b words h = let r : (w : ℕ) × In w words × (is_cells_at b w places ≡ true) = any-Has (λ w. is_cells_at b w places) words h in word_named b r.0 r.2

    link_named : HasTargets graph places → (a b : ℕ) → has_link_to (linked graph memory places) a b ≡ true → holds cells b ≡ true
    link_named whole a b h =
        let r : (row : LinkRow) × In row graph.rows × ((row.user.cell.0 == a && row.target.cell.0 == b) ≡ true) = any-Has (λ (row : LinkRow). row.user.cell.0 == a && row.target.cell.0 == b) graph.rows h in
        let p : ((r.0.user.cell.0 == a) ≡ true) × ((r.0.target.cell.0 == b) ≡ true) = and_parts (r.0.user.cell.0 == a) (r.0.target.cell.0 == b) r.2 in
        let there : has_section places r.0.target ≡ true = all-In (λ (row : LinkRow). has_section places row.target) graph.rows whole r.0 r.1 in
        let q : (s : Placed) × In s places × (is_same s.key r.0.target ≡ true) = any-Has (λ (s : Placed). is_same s.key r.0.target) places there in
        let m : ((q.0.key.cell.0 == r.0.target.cell.0) ≡ true) × ((q.0.key.section == r.0.target.section) ≡ true) = and_parts (q.0.key.cell.0 == r.0.target.cell.0) (q.0.key.section == r.0.target.section) q.2 in
        place_named q.0 q.1 b (eqb-true q.0.key.cell.0 r.0.target.cell.0 m.0 ∙ eqb-true r.0.target.cell.0 b p.1)

    reached_named : HasTargets graph places → (a b : ℕ) → reaches (linked graph memory places) a b ≡ true → holds cells b ≡ true
    reached_named whole a b h = go (or_cases (has_link_to (linked graph memory places) a b) (has_word_in (linked graph memory places) b (writable_words (linked graph memory places) a)) h)
      where
        go : (has_link_to (linked graph memory places) a b ≡ true) ⊎ (has_word_in (linked graph memory places) b (writable_words (linked graph memory places) a) ≡ true) → holds cells b ≡ true
        go (inl k) = link_named whole a b k
        go (inr k) = words_named b (writable_words (linked graph memory places) a) k

    root_named : (root : Root) → list_all (holds cells) (named_by root) ≡ true → (c : ℕ) → root_holds memory places root c ≡ true → holds cells c ≡ true
    root_named (Attached cell) n c h = subst (λ k. holds cells k ≡ true) (eqb-true cell.0 c h) (and_parts (holds cells cell.0) true n).0
    root_named (Task t) n c h = go (or_cases (t.root.0 == c) (touches places (words_of memory.regions (task_of t)) c) h)
      where
        go : ((t.root.0 == c) ≡ true) ⊎ (touches places (words_of memory.regions (task_of t)) c ≡ true) → holds cells c ≡ true
        go (inl k) = subst (λ k. holds cells k ≡ true) (eqb-true t.root.0 c k) (and_parts (holds cells t.root.0) true n).0
        go (inr k) = words_named c (words_of memory.regions (task_of t)) k
    root_named (Word task word) n c h = word_named c word h

    held_named : (c : ℕ) → is_held_directly (rooted memory places roots) c ≡ true → holds cells c ≡ true
    held_named c h =
        let r : (root : Root) × In root roots × (root_holds memory places root c ≡ true) = any-Has (λ root. root_holds memory places root c) roots (by_roots memory places c roots ∙ h) in
        root_named r.0 (all-In (λ root. list_all (holds cells) (named_by root)) roots named.of_roots r.0 r.1) c r.2

  -- a cell of an attached root is held directly
  attached_held : (c : ℕ) (rs : List Root) → list_any (λ root. is_attached root c) rs ≡ true → list_any (λ root. root_holds memory places root c) rs ≡ true
  attached_held c rs h = any_goes (λ root. is_attached root c) (λ root. root_holds memory places root c) rs goes h
    where
      goes : (root : Root) → is_attached root c ≡ true → root_holds memory places root c ≡ true
      goes (Attached cell) t = t
      goes (Task t) h = absurd (false≢true h)
      goes (Word task word) h = absurd (false≢true h)

  module _ (whole : HasTargets graph places) (room : ℕ) (has_room : HasRoom places roots room) (attached new : List CellId)
      (begun : Adds (λ c. list_any (λ root. is_attached root c) roots) room [] attached)
      (kept : AddsKept graph memory places roots room attached new) where
    held_places : (c : ℕ) → is_held_directly (rooted memory kept.others roots) c ≡ true → is_held_directly (rooted memory places roots) c ≡ true
    held_places c d =
        sym (by_roots memory places c roots)
        ∙ any_goes (λ root. root_holds memory kept.others root c) (λ root. root_holds memory places root c) roots
        (λ root t. root_within memory places kept.others attached kept.unfound root c t) (by_roots memory kept.others c roots ∙ d)

    held_unfound : (c : ℕ) → has_cell attached c ≡ false → is_held_directly (rooted memory places roots) c ≡ true → is_held_directly (rooted memory kept.others roots) c ≡ true
    held_unfound c none d =
        sym (by_roots memory kept.others c roots)
        ∙ any_goes (λ root. root_holds memory places root c) (λ root. root_holds memory kept.others root c) roots
        (λ root t. root_others memory places kept.others attached kept.unfound root c none t) (by_roots memory places c roots ∙ d)

    reaches_places : (a b : ℕ) → reaches_on graph memory places kept.others a b ≡ true → reaches (linked graph memory places) a b ≡ true
    reaches_places a b h = go (or_cases (links_lead graph a b) (words_reach memory places kept.others a b) h)
      where
        go : (links_lead graph a b ≡ true) ⊎ (words_reach memory places kept.others a b ≡ true) → reaches (linked graph memory places) a b ≡ true
        go (inl k) = sym (reaches_by memory places a b graph) ∙ or_left (links_lead graph a b) (words_reach memory places places a b) k
        go (inr k) = sym (reaches_by memory places a b graph) ∙ or_right (links_lead graph a b) (words_reach memory places places a b) (words_within memory places kept.others attached kept.unfound a b k)

    sound : (cells : List ℕ) → AreCells cells places roots → (c : ℕ) → has_cell new c ≡ true → IsKept (all_of cells) c
    sound cells named c h =
        kept_sound (all_of cells) c (holds-In (kept_in (all_of cells)) c
        (kept.spreads.only is_kept (λ a b k r. goes_on a b k (reaches_places a b r)) (kept.uses.only is_kept links_go begins) c h))
      where
        is_kept : ℕ → Bool
        is_kept = holds (kept_in (all_of cells))

        goes_on : (a b : ℕ) → is_kept a ≡ true → reaches (linked graph memory places) a b ≡ true → is_kept b ≡ true
        goes_on a b k r =
            In-holds (kept_in (all_of cells)) b
            (kept_complete (all_of cells) b (kept_on (all_of cells) a b (kept_sound (all_of cells) a (holds-In (kept_in (all_of cells)) a k)) (reached_named cells named whole a b r) r))

        links_go : (r : LinkRow) → In r graph.rows → is_kept r.user.cell.0 ≡ true → is_kept r.target.cell.0 ≡ true
        links_go r i k =
            goes_on r.user.cell.0 r.target.cell.0 k
            (or_left (has_link_to (linked graph memory places) r.user.cell.0 r.target.cell.0) (has_word_in (linked graph memory places) r.target.cell.0 (writable_words (linked graph memory places) r.user.cell.0))
            (any-In (λ (x : LinkRow). x.user.cell.0 == r.user.cell.0 && x.target.cell.0 == r.target.cell.0) graph.rows r i
            (and_from (r.user.cell.0 == r.user.cell.0) (r.target.cell.0 == r.target.cell.0) (eq-eqb r.user.cell.0 r.user.cell.0 refl) (eq-eqb r.target.cell.0 r.target.cell.0 refl))))

        held_kept : (b : ℕ) → is_held_directly (rooted memory places roots) b ≡ true → is_kept b ≡ true
        held_kept b d = In-holds (kept_in (all_of cells)) b (kept_complete (all_of cells) b (directly_kept (all_of cells) b (held_named cells named b d) d))

        begins : (b : ℕ) → has_cell kept.held b ≡ true → is_kept b ≡ true
        begins b k = go (or_cases (has_cell attached b) (is_held_directly (rooted memory kept.others roots) b) (kept.holds.only b k))
          where
            go : (has_cell attached b ≡ true) ⊎ (is_held_directly (rooted memory kept.others roots) b ≡ true) → is_kept b ≡ true
            go (inl j) = held_kept b (sym (by_roots memory places b roots) ∙ attached_held b roots (begun.only b j))
            go (inr j) = held_kept b (held_places b j)

    once : IsOnceEach new
    once = kept.spreads.once (kept.uses.once (kept.holds.once (begun.once (λ c. omega arith))))

    within : (c : ℕ) → has_cell new c ≡ true → holds has_room.cells c ≡ true
    within c h = In-holds has_room.cells c (kept_present (all_of has_room.cells) c (sound has_room.cells has_room.named c h))

    fits : length new ≤ room
    fits = omega (arith, at_most new has_room.cells once within, has_room.fits)

    -- a full list has all cells that are named
    filled : (c : ℕ) → holds has_room.cells c ≡ true → has_or_full new room c ≡ true → has_cell new c ≡ true
    filled c n h = go (has_cell new c) refl (or_cases (has_cell new c) (nat_le room (length new)) h)
      where
        go : (b : Bool) → has_cell new c ≡ b → (has_cell new c ≡ true) ⊎ (nat_le room (length new) ≡ true) → has_cell new c ≡ true
        go true e k = e
        go false e (inl k) = k
        go false e (inr k) = absurd (omega (arith, leb-true room (length new) k, has_room.fits, one_more new has_room.cells c once within n e))

    from_held : (c : ℕ) → has_or_full kept.held room c ≡ true → has_or_full new room c ≡ true
    from_held c h =
        subst (λ xs. has_or_full xs room c ≡ true) (sym kept.spreads.is) (full_more kept.used kept.spreads.more room c
        (subst (λ xs. has_or_full xs room c ≡ true) (sym kept.uses.is) (full_more kept.held kept.uses.more room c h)))

    from_attached : (c : ℕ) → has_cell attached c ≡ true → has_or_full kept.held room c ≡ true
    from_attached c h = subst (λ xs. has_or_full xs room c ≡ true) (sym kept.holds.is) (full_more attached kept.holds.more room c (or_left (has_cell attached c) (nat_le room (length attached)) h))

    -- what links of attached cells lead into has been looked for from there
    link_followed : (a b : ℕ) → has_cell attached a ≡ true → has_cell attached b ≡ false → has_link_to (linked graph memory places) a b ≡ true → has_or_full new room b ≡ true
    link_followed a b here none h =
        subst (λ xs. has_or_full xs room b ≡ true) (sym kept.spreads.is) (full_more kept.used kept.spreads.more room b (kept.uses.has b
        (any_goes (λ s. is_same s.key row.target) (λ s. s.key.cell.0 == b && is_used_by graph.rows kept.held s.key) kept.others of_b there)))
      where
        found : (row : LinkRow) × In row graph.rows × ((row.user.cell.0 == a && row.target.cell.0 == b) ≡ true)
        found = any-Has (λ (row : LinkRow). row.user.cell.0 == a && row.target.cell.0 == b) graph.rows h

        row : LinkRow
        row = found.0

        ends : ((row.user.cell.0 == a) ≡ true) × ((row.target.cell.0 == b) ≡ true)
        ends = and_parts (row.user.cell.0 == a) (row.target.cell.0 == b) found.2

        same_cell : (s : Placed) → is_same s.key row.target ≡ true → s.key.cell.0 ≡ b
        same_cell s t = eqb-true s.key.cell.0 row.target.cell.0 (and_parts (s.key.cell.0 == row.target.cell.0) (s.key.section == row.target.section) t).0 ∙ eqb-true row.target.cell.0 b ends.1

        there : list_any (λ s. is_same s.key row.target) kept.others ≡ true
        there = in_others memory places kept.others attached kept.unfound b none (λ s. is_same s.key row.target) same_cell (all-In (λ (r : LinkRow). has_section places r.target) graph.rows whole row found.1)

        user_there : has_cell kept.held row.user.cell.0 ≡ true
        user_there = subst (λ n. has_cell kept.held n ≡ true) (sym (eqb-true row.user.cell.0 a ends.0)) (subst (λ xs. has_cell xs a ≡ true) (sym kept.holds.is) (has_left attached kept.holds.more a here))

        same_turned : (s : Placed) → is_same s.key row.target ≡ true → is_same row.target s.key ≡ true
        same_turned s t =
            let p = and_parts (s.key.cell.0 == row.target.cell.0) (s.key.section == row.target.section) t in
            and_from (row.target.cell.0 == s.key.cell.0) (row.target.section == s.key.section)
            (eq-eqb row.target.cell.0 s.key.cell.0 (sym (eqb-true s.key.cell.0 row.target.cell.0 p.0))) (eq-eqb row.target.section s.key.section (sym (eqb-true s.key.section row.target.section p.1)))

        of_b : (s : Placed) → is_same s.key row.target ≡ true → (s.key.cell.0 == b && is_used_by graph.rows kept.held s.key) ≡ true
        of_b s t =
            and_from (s.key.cell.0 == b) (is_used_by graph.rows kept.held s.key) (eq-eqb s.key.cell.0 b (same_cell s t))
            (any-In (λ (r : LinkRow). is_same r.target s.key && has_cell kept.held r.user.cell.0) graph.rows row found.1
            (and_from (is_same row.target s.key) (has_cell kept.held row.user.cell.0) (same_turned s t) user_there))

    complete : (cells : List ℕ) → AreCells cells places roots → (c : ℕ) → IsKept (all_of cells) c → has_cell new c ≡ true
    complete cells named c k = along k.0 k.1 (first k.0 k.3) k.4
      where
        first : (a : ℕ) → is_held_directly (all_of cells) a ≡ true → has_cell new a ≡ true
        first a d = filled a (held_named has_room.cells has_room.named a d) (from_held a (go (has_cell attached a) refl))
          where
            go : (b : Bool) → has_cell attached a ≡ b → has_or_full kept.held room a ≡ true
            go true e = from_attached a e
            go false e = kept.holds.has a (held_unfound a e d)

        next : (a b : ℕ) → has_cell new a ≡ true → reaches (linked graph memory places) a b ≡ true → has_or_full new room b ≡ true
        next a b h r = to (has_cell attached b) refl
          where
            anew : Bool
            anew = reaches_anew graph memory places kept.others attached a b

            spread : anew ≡ true → has_or_full new room b ≡ true
            spread t = kept.spreads.has a b (subst (λ xs. has_cell xs a ≡ true) (sym (take_all room new fits)) h) t

            by_link : (known : Bool) → has_cell attached a ≡ known → has_cell attached b ≡ false → links_lead graph a b ≡ true → has_or_full new room b ≡ true
            by_link true e none l = link_followed a b e none l
            by_link false e none l =
                spread (or_left (not (has_cell attached a) && links_lead graph a b) (words_reach memory places kept.others a b)
                (and_from (not (has_cell attached a)) (links_lead graph a b) (ap not e) l))

            by_way : has_cell attached b ≡ false → (links_lead graph a b ≡ true) ⊎ (words_reach memory places places a b ≡ true) → has_or_full new room b ≡ true
            by_way none (inl l) = by_link (has_cell attached a) refl none l
            by_way none (inr w) =
                spread (or_right (not (has_cell attached a) && links_lead graph a b) (words_reach memory places kept.others a b)
                (words_others memory places kept.others attached kept.unfound a b none w))

            to : (known : Bool) → has_cell attached b ≡ known → has_or_full new room b ≡ true
            to true e = from_held b (from_attached b e)
            to false e = by_way e (or_cases (links_lead graph a b) (words_reach memory places places a b) (reaches_by memory places a b graph ∙ r))

        along : (a : ℕ) (path : List ℕ) → has_cell new a ≡ true → Leads (all_of cells) a path c → has_cell new c ≡ true
        along a [] h r = subst (λ b. has_cell new b ≡ true) r h
        along a (b ∷ path) h r = along b path (filled b (reached_named has_room.cells has_room.named whole a b r.1) (next a b h r.1)) r.2

    module _ (sorted : List CellId) (moved : IsPermutation new sorted) (up : IsNonDecreasingBy (λ x. x.0) sorted) where
      same : (c : ℕ) → has_cell new c ≡ has_cell sorted c
      same c = list_any-IsPermutation (λ (x : CellId). x.0 == c) new sorted moved

      sorted_once : IsOnceEach sorted
      sorted_once c = omega (arith, once c, sum_by-IsPermutation (λ (x : CellId). cond (x.0 == c) 1 0) new sorted moved)

      -- in order, these are the kept cells
      pub are_kept : (cells : List ℕ) → AreCells cells places roots → map (λ x. x.0) sorted ≡ kept_in (all_of cells)
      are_kept cells named =
          same_rising (map (λ (x : CellId). x.0) sorted) (kept_in (all_of cells)) (rising sorted up sorted_once) (kept_rises (all_of cells) named.rise) to from
        where
          to : (c : ℕ) → In c (map (λ (x : CellId). x.0) sorted) → In c (kept_in (all_of cells))
          to c i =
              let r : (x : CellId) × In x sorted × (c ≡ x.0) = In-map (λ (x : CellId). x.0) sorted c i in
              let h : has_cell sorted c ≡ true = any-In (λ (x : CellId). x.0 == c) sorted r.0 r.1 (eq-eqb r.0.0 c (sym r.2)) in
              kept_complete (all_of cells) c (sound cells named c (same c ∙ h))

          from : (c : ℕ) → In c (kept_in (all_of cells)) → In c (map (λ (x : CellId). x.0) sorted)
          from c i =
              let h : has_cell sorted c ≡ true = sym (same c) ∙ complete cells named c (kept_sound (all_of cells) c i) in
              let r : (x : CellId) × In x sorted × ((x.0 == c) ≡ true) = any-Has (λ (x : CellId). x.0 == c) sorted h in
              subst (λ n. In n (map (λ (x : CellId). x.0) sorted)) (eqb-true r.0.0 c r.2) (map-In (λ (x : CellId). x.0) sorted r.0 r.1)

-- the same, from an empty list, with room that stays
pub kept_after : (graph : Links) (memory : MemoryState) (places : List Placed) (roots : List Root) → HasTargets graph places → (room now : ℕ) → HasRoom places roots room → (old mid new sorted : List CellId) → old ≡ [] → now ≡ room
    → Adds (λ c. list_any (λ root. is_attached root c) roots) room old mid → AddsKept graph memory places roots now mid new → IsPermutation new sorted → IsNonDecreasingBy (λ x. x.0) sorted
    → (cells : List ℕ) → AreCells cells places roots → map (λ x. x.0) sorted ≡ kept_in (holding_by cells graph memory places roots)
kept_after graph memory places roots whole room now has_room old mid new sorted none same begun kept moved up =
    are_kept graph memory places roots whole room has_room mid new
    (subst (λ xs. Adds (λ c. list_any (λ root. is_attached root c) roots) room xs mid) none begun)
    (subst (λ r. AddsKept graph memory places roots r mid new) same kept)
    sorted moved up
