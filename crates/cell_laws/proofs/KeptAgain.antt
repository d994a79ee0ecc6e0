-- What is kept once a task has begun again is what is kept before, where three words stand for the task.
use Rattle.std.proofs.Common.{◌≡◌, refl, sym, ◌∙◌, ap, subst, arith, ℕ, zero, suc, ◌+◌, ◌-◌, ◌≤◌, ◌⊎◌, inl, inr, Bool, true, false, cond, ◌&&◌, ◌||◌, List, [], ◌∷◌, ◌++◌, map, length, replicate, true≢false, Option, Some, None}
use Rattle.std.specs.Prelude.{filter, flat_map, take, drop, unwrap_or, option_map, option_and_then, slice_range, nat_le, ◌==◌, if◌then◌else◌}
use Rattle.std.specs.List.{list_any}
use Rattle.std.proofs.lemmas.Bool.{or_cases, or_left, or_right, and_parts, eqb-true, eq-eqb, leb-true, false_from_ne_true}
use Rattle.std.proofs.lemmas.List.{drop_all}
use Rattle.cell_num.specs.Bits.{little}
use Rattle.cell_num.specs.Limits.{stack_size}
use Rattle.cell_num.specs.Lists.{holds, where_true, In}
use Rattle.cell_object.specs.declared.object.Section.{Section as ObjectSection}
use Rattle.cell_world.specs.declared.state.Placed.{Placed}
use Rattle.cell_world.specs.declared.state.Standing.TheVariants.{Attached}
use Rattle.cell_world.specs.World.{World, Cell, Region, Task, cell_of, is_attached}
use Rattle.cell_world.specs.Answer.{numbers_of}
use Rattle.cell_world.specs.Coherent.{IsCoherent, ends_before, is_in_space}
use Rattle.cell_world.specs.Kept.{Claim, Holding, claim_of, holding_of, placed_at, placed_in, is_inside, is_word_in, has_word_in, is_claimed_by, is_held_directly, aligned_words, words_inside, writable_words, has_link_to, reaches, kept_in}
use Rattle.cell_world.specs.Running.Memory.{covers, end_of, pasted, part_of, read_in, region_in}
use Rattle.cell_world.specs.Names.{Provider, attached_provider}
use Rattle.cell_world.specs.Commands.SpawnCommand.{entry_named, entry_address, first_registers}
use Rattle.cell_world.specs.Linked.Target.{start_of}
use Rattle.cell_world.specs.Running.Words.{words_in, words_of, stack_words, stack_from}
use Rattle.cell_world.specs.Running.Restart.{cleared, entry_again, restart, restarted}
use Rattle.cell_num.proofs.Elements.{all-In, any-In, any-Has, filter-In, In-none, In-append, In-left, In-map, map-In, In-flat_map, flat_map-In, In-filtered, found-In, flat_same, pairs-In}
use Rattle.cell_num.proofs.Sublists.{filter_same}
use Rattle.cell_lemmas.proofs.Fields.FieldsInside.{section_region}
use Rattle.cell_lemmas.proofs.Fields.Writes.{covered, written_in, written_out}
use Rattle.cell_lemmas.proofs.Holding.KeptPaths.{In-holds, holds-In, kept_sound, kept_complete, kept_order, kept_present}
use Rattle.cell_lemmas.proofs.Holding.PathsLeft.{KeepsSteps, kept_again}
use Rattle.cell_lemmas.proofs.Naming.Asked.{provider_asks}
use Rattle.cell_lemmas.proofs.Tasks.Restarted.{zeros, zeros_length, own_region, region_apart, stack_written}
use Rattle.cell_lemmas.proofs.Tasks.Stacks.{stack_alone}
use Rattle.cell_lemmas.proofs.Tasks.Stores.{keeps_bytes, one_covers}
use Rattle.cell_laws.specs.Recovery.{words_again, word_claim, claims_in_place, claims_again, holding_again}

-- where zero doesn't pass, a task's first registers pass only by its argument or its x2
module _ (p : ℕ → Bool) (zero_fails : p 0 ≡ false) where
  skip : (n : ℕ) (xs : List ℕ) → list_any p (replicate n 0 ++ xs) ≡ true → list_any p xs ≡ true
  skip zero xs h = h
  skip (suc n) xs h = skip n xs (go (or_cases (p 0) (list_any p (replicate n 0 ++ xs)) h))
    where
      go : (p 0 ≡ true) ⊎ (list_any p (replicate n 0 ++ xs) ≡ true) → list_any p (replicate n 0 ++ xs) ≡ true
      go (inl x) = absurd (true≢false (sym x ∙ zero_fails))
      go (inr x) = x

  registers_pass : (arg stack : ℕ) → list_any p (take 31 (drop 1 (first_registers arg stack))) ≡ true → (p arg ≡ true) ⊎ (p (stack + stack_size - 16) ≡ true)
  registers_pass arg stack h = go (or_cases (p (stack + stack_size - 16)) (list_any p (replicate 7 0 ++ arg ∷ (replicate 21 0 ++ []))) (skip 1 ((stack + stack_size - 16) ∷ (replicate 7 0 ++ arg ∷ (replicate 21 0 ++ []))) h))
    where
      last : (p arg ≡ true) ⊎ (list_any p (replicate 21 0 ++ []) ≡ true) → (p arg ≡ true) ⊎ (p (stack + stack_size - 16) ≡ true)
      last (inl x) = inl x
      last (inr x) = absurd (true≢false (sym (skip 21 [] x)))

      go : (p (stack + stack_size - 16) ≡ true) ⊎ (list_any p (replicate 7 0 ++ arg ∷ (replicate 21 0 ++ [])) ≡ true) → (p arg ≡ true) ⊎ (p (stack + stack_size - 16) ≡ true)
      go (inl x) = inr x
      go (inr x) = last (or_cases (p arg) (list_any p (replicate 21 0 ++ [])) (skip 7 (arg ∷ (replicate 21 0 ++ [])) x))

-- and those two are among them
registers_have : (p : ℕ → Bool) (arg stack : ℕ) → (p arg ≡ true) ⊎ (p (stack + stack_size - 16) ≡ true) → list_any p (take 31 (drop 1 (first_registers arg stack))) ≡ true
registers_have p arg stack (inl x) = any-In p (take 31 (drop 1 (first_registers arg stack))) arg (inr (inr (inr (inr (inr (inr (inr (inr (inr (inl refl)))))))))) x
registers_have p arg stack (inr x) = any-In p (take 31 (drop 1 (first_registers arg stack))) (stack + stack_size - 16) (inr (inl refl)) x

module _ {X : Type 0} where
  In-drop : (n : ℕ) (xs : List X) (x : X) → In x (drop n xs) → In x xs
  In-drop zero xs x i = i
  In-drop (suc n) [] x i = i
  In-drop (suc n) (y ∷ xs) x i = inr (In-drop n xs x i)

  In-take : (n : ℕ) (xs : List X) (x : X) → In x (take n xs) → In x xs
  In-take zero xs x i = absurd i
  In-take (suc n) [] x i = i
  In-take (suc n) (y ∷ xs) x (inl e) = inl e
  In-take (suc n) (y ∷ xs) x (inr i) = inr (In-take n xs x i)

  In-replicate : (n : ℕ) (y x : X) → In x (replicate n y) → x ≡ y
  In-replicate zero y x i = absurd i
  In-replicate (suc n) y x (inl e) = e
  In-replicate (suc n) y x (inr i) = In-replicate n y x i

abbrev AreZero : List ℕ → Type 0
AreZero xs = (x : ℕ) → In x xs → x ≡ 0

-- words of zeros are zero
words_zero : (bytes : List ℕ) → AreZero bytes → AreZero (words_in bytes)
words_zero (a ∷ b ∷ c ∷ d ∷ e ∷ f ∷ g ∷ h ∷ rest) z x (inl q) = q ∙ (number a b c d e f g h (z a (inl refl)) (z b (inr (inl refl))) (z c (inr (inr (inl refl)))) (z d (inr (inr (inr (inl refl)))))
    (z e (inr (inr (inr (inr (inl refl)))))) (z f (inr (inr (inr (inr (inr (inl refl))))))) (z g (inr (inr (inr (inr (inr (inr (inl refl)))))))) (z h (inr (inr (inr (inr (inr (inr (inr (inl refl))))))))))
  where
    number : (a b c d e f g h : ℕ) → a ≡ 0 → b ≡ 0 → c ≡ 0 → d ≡ 0 → e ≡ 0 → f ≡ 0 → g ≡ 0 → h ≡ 0 → little (a ∷ b ∷ c ∷ d ∷ e ∷ f ∷ g ∷ h ∷ []) ≡ 0
    number a b c d e f g h ea eb ec ed ee ef eg eh = omega (arith, ea, eb, ec, ed, ee, ef, eg, eh)
words_zero (a ∷ b ∷ c ∷ d ∷ e ∷ f ∷ g ∷ h ∷ rest) z x (inr i) = words_zero rest (λ y j. z y (inr (inr (inr (inr (inr (inr (inr (inr j))))))))) x i
words_zero [] z x i = absurd i
words_zero (a ∷ []) z x i = absurd i
words_zero (a ∷ b ∷ []) z x i = absurd i
words_zero (a ∷ b ∷ c ∷ []) z x i = absurd i
words_zero (a ∷ b ∷ c ∷ d ∷ []) z x i = absurd i
words_zero (a ∷ b ∷ c ∷ d ∷ e ∷ []) z x i = absurd i
words_zero (a ∷ b ∷ c ∷ d ∷ e ∷ f ∷ []) z x i = absurd i
words_zero (a ∷ b ∷ c ∷ d ∷ e ∷ f ∷ g ∷ []) z x i = absurd i

-- what is read is of a region that is found
read_from : (regions : List Region) (addr n x : ℕ) → In x (unwrap_or (read_in regions addr n) []) → (r : Region) × In r regions × (covers r addr ≡ true) × In x r.bytes
read_from regions addr n x i = go (region_in regions addr) refl i
  where
    part : (r : Region) (b : Bool) → In x (unwrap_or (where_true b (slice_range r.bytes (addr - r.start) (addr - r.start + n))) []) → In x r.bytes
    part r true j = In-drop (addr - r.start) r.bytes x (In-take _ (drop (addr - r.start) r.bytes) x j)
    part r false j = absurd j

    go : (o : Option Region) → region_in regions addr ≡ o → In x (unwrap_or (option_and_then (λ r. part_of r addr n) o) []) → (r : Region) × In r regions × (covers r addr ≡ true) × In x r.bytes
    go None e j = absurd j
    go (Some r) e j = let f = found-In (λ y. covers y addr) regions r e in (r, f.0, f.1, part r (nat_le (addr + n) (end_of r)) j)

in_space_low : (w : World) (r : Region) → is_in_space w r ≡ true → w.base ≤ r.start
in_space_low w r e = leb-true w.base r.start (and_parts (nat_le w.base r.start) _ (and_parts _ _ (and_parts _ _ (and_parts _ _ e).0).0).0).0

abbrev IsAttachedIn : World → ℕ → Type 0
IsAttachedIn w n = holds (numbers_of (filter (λ c. is_attached c.standing) w.cells)) n ≡ true

-- where a task may begin there is an attached cell
entry_attached : (w : World) (ns : ℕ) (symbol : List ℕ) (e : ℕ × ℕ) → entry_named w ns symbol ≡ Some e → IsAttachedIn w e.0
entry_attached w ns symbol e q = go (attached_provider w ns symbol) refl q
  where
    some_same : (a b : ℕ × ℕ) → Some a ≡ Some b → a ≡ b
    some_same a b r = cc

    last : (c : Cell) (n : ℕ) → c.id.0 ≡ n → IsAttachedIn w n → (o : Option ℕ) → option_map (λ addr. (c.id.0, addr)) o ≡ Some e → IsAttachedIn w e.0
    last c n s t None r = absurd cc
    last c n s t (Some addr) r = subst (λ (x : ℕ × ℕ). IsAttachedIn w x.0) (some_same (c.id.0, addr) e r) (subst (IsAttachedIn w) (sym s) t)

    among : (p : Provider) → attached_provider w ns symbol ≡ Some p → IsAttachedIn w p.cell
    among p f =
        let d = provider_asks w Attached ns symbol p f in
        In-holds (numbers_of (filter (λ c. is_attached c.standing) w.cells)) p.cell
        (subst (λ m. In m (numbers_of (filter (λ c. is_attached c.standing) w.cells))) (sym d.2)
        (map-In (λ (c : Cell). c.id.0) (filter (λ c. is_attached c.standing) w.cells) d.0 (filter-In (λ (c : Cell). is_attached c.standing) w.cells d.0 d.1 d.3)))

    mid : (p : Provider) → attached_provider w ns symbol ≡ Some p → (o : Option Cell) → cell_of w p.cell ≡ o → option_and_then (λ c. option_map (λ addr. (c.id.0, addr)) (entry_address c p.symbol)) o ≡ Some e → IsAttachedIn w e.0
    mid p f None k r = absurd cc
    mid p f (Some c) k r = last c p.cell (eqb-true c.id.0 p.cell (found-In (λ (x : Cell). x.id.0 == p.cell) w.cells c k).1) (among p f) (entry_address c p.symbol) r

    go : (o : Option Provider) → attached_provider w ns symbol ≡ o → option_and_then (λ p. option_and_then (λ c. option_map (λ addr. (c.id.0, addr)) (entry_address c p.symbol)) (cell_of w p.cell)) o ≡ Some e → IsAttachedIn w e.0
    go None f r = absurd cc
    go (Some p) f r = mid p f (cell_of w p.cell) refl r

module _ (w : World) (h : IsCoherent w) (t : Task) (live : In t w.tasks) (entry : ℕ × ℕ) (named : entry_again w t ≡ Some entry) where
  abbrev after : World
  after = restart (restarted t entry) w

  abbrev again : Task
  again = restarted t entry

  abbrev then_held : Holding
  then_held = holding_of after

  abbrev by_words : Holding
  by_words = holding_again w t entry

  -- bytes outside the stack are as they were
  bytes_still : (p n : ℕ) → (p + n ≤ t.stack) ⊎ (t.stack + stack_size ≤ p) → read_in after.regions p n ≡ read_in w.regions p n
  bytes_still p n away = keeps_bytes w.regions h.ready.apart t.stack zeros (stack_written w h t live) p n (go away)
    where
      go : (p + n ≤ t.stack) ⊎ (t.stack + stack_size ≤ p) → (p + n ≤ t.stack) ⊎ (t.stack + length zeros ≤ p)
      go (inl x) = inl x
      go (inr x) = inr (omega (arith, x, zeros_length))

  section_at : (s : Placed) → In s (flat_map placed_in w.cells) → (c : Cell) × In c w.cells × ((x : ObjectSection) × In x c.object.sections × (s ≡ placed_at c x))
  section_at s i = let c = In-flat_map placed_in w.cells s i in (c.0, c.1, In-map (placed_at c.0) c.0.object.sections s c.2)

  section_still : (s : Placed) → In s (flat_map placed_in w.cells) → words_inside after.regions s ≡ words_inside w.regions s
  section_still s i =
      let c = section_at s i in
      subst (λ (x : Placed). words_inside after.regions x ≡ words_inside w.regions x) (sym c.2.2) (one c.0 c.1 c.2.0 c.2.1)
    where
      one : (c : Cell) → In c w.cells → (x : ObjectSection) → In x c.object.sections → words_inside after.regions (placed_at c x) ≡ words_inside w.regions (placed_at c x)
      one c k x m =
          let q = section_region w h.ready.regions h.ready.apart h.ready.placed h.ready.objects c k x m in
          ap (λ (b : Option (List ℕ)). aligned_words (start_of c.placed x.number) (unwrap_or b []))
          (bytes_still (start_of c.placed x.number) x.size (go q.0 q.2 q.3 (region_apart w h t live c k q.0 q.1 q.4.0 q.4.1)))
        where
          go : (q : Region) → q.start ≤ start_of c.placed x.number → start_of c.placed x.number + x.size ≤ q.start + length q.bytes → (q.start + length q.bytes ≤ t.stack) ⊎ (t.stack + stack_size ≤ q.start)
              → (start_of c.placed x.number + x.size ≤ t.stack) ⊎ (t.stack + stack_size ≤ start_of c.placed x.number)
          go q a b (inl y) = inl (omega (arith, b, y))
          go q a b (inr y) = inr (omega (arith, a, y))

  writable_still : (a : ℕ) → writable_words then_held a ≡ writable_words by_words a
  writable_still a = flat_same (words_inside after.regions) (words_inside w.regions) (filter (λ s. s.key.cell.0 == a && s.write) (flat_map placed_in w.cells))
      (λ s i. section_still s (In-filtered (λ (s : Placed). s.key.cell.0 == a && s.write) (flat_map placed_in w.cells) s i))

  reaches_still : (a b : ℕ) → reaches then_held a b ≡ reaches by_words a b
  reaches_still a b = ap (λ (words : List ℕ). has_link_to by_words a b || has_word_in by_words b words) (writable_still a)

  -- no section has the address 0
  nowhere : (c : ℕ) → is_word_in by_words c 0 ≡ false
  nowhere c = In-none (is_inside c 0) (flat_map placed_in w.cells) (λ s i. let k = section_at s i in subst (λ (x : Placed). is_inside c 0 x ≡ false) (sym k.2.2) (one k.0 k.1 k.2.0 k.2.1))
    where
      one : (d : Cell) → In d w.cells → (x : ObjectSection) → In x d.object.sections → is_inside c 0 (placed_at d x) ≡ false
      one d k x m =
          let q = section_region w h.ready.regions h.ready.apart h.ready.placed h.ready.objects d k x m in
          let low : w.base ≤ q.0.start = in_space_low w q.0 (all-In (is_in_space w) w.regions h.ready.in_space q.0 q.1) in
          false_from_ne_true (is_inside c 0 (placed_at d x)) (λ e.
          let p = and_parts (d.id.0 == c && nat_le (start_of d.placed x.number) 0) (nat_le 0 (start_of d.placed x.number + x.size)) e in
          let r = and_parts (d.id.0 == c) (nat_le (start_of d.placed x.number) 0) p.0 in
          omega (arith, leb-true (start_of d.placed x.number) 0 r.1, q.2, low, h.ready.space.lowest))

  -- the cleared stack
  stack_zero : AreZero (unwrap_or (read_in after.regions t.stack stack_size) [])
  stack_zero x i =
      let r = read_from after.regions t.stack stack_size x i in
      let y = In-map (cleared t.stack) w.regions r.0 r.1 in
      go y.0 y.1 (subst (λ (q : Region). covers q t.stack ≡ true) y.2 r.2) (subst (λ (q : Region). In x q.bytes) y.2 r.3)
    where
      held : (q : Region) → In q w.regions → covers q t.stack ≡ true → q ≡ (own_region w h t live).0
      held q k c =
          let own = own_region w h t live in
          one_covers w.regions h.ready.apart q own.0 t.stack k own.1 c (covered own.0 t.stack (omega (arith, own.2)) (omega (arith, own.2, own.3)))

      parts : (q : Region) → q.start ≡ t.stack → length q.bytes ≡ stack_size → In x (pasted q.bytes (t.stack - q.start) zeros) → x ≡ 0
      parts q s l j =
          let none : t.stack - q.start ≡ 0 = omega (arith, s) in
          pick q l (In-append (take 0 q.bytes ++ zeros) (drop (0 + length zeros) q.bytes) x (subst (λ n. In x (pasted q.bytes n zeros)) none j))
        where
          pick : (q : Region) → length q.bytes ≡ stack_size → In x (take 0 q.bytes ++ zeros) ⊎ In x (drop (0 + length zeros) q.bytes) → x ≡ 0
          pick q l (inl m) = In-replicate stack_size 0 x m
          pick q l (inr m) = absurd (subst (In x) (drop_all (0 + length zeros) q.bytes (omega (arith, l, zeros_length))) m)

      go : (q : Region) → In q w.regions → covers (cleared t.stack q) t.stack ≡ true → In x (cleared t.stack q).bytes → x ≡ 0
      go q k c j = pick (covers q t.stack) refl
        where
          pick : (b : Bool) → covers q t.stack ≡ b → x ≡ 0
          pick false e = absurd (true≢false (sym c ∙ (ap (λ (z : Region). covers z t.stack) (written_out q t.stack zeros e) ∙ e)))
          pick true e =
              let own = own_region w h t live in
              let s : q ≡ own.0 = held q k e in
              parts q (ap (λ (z : Region). z.start) s ∙ own.2) (ap (λ (z : Region). length z.bytes) s ∙ own.3)
              (subst (λ (z : Region). In x z.bytes) (written_in q t.stack zeros e) j)

  abbrev is_claimed : Claim → ℕ → Bool
  is_claimed claim c = is_claimed_by by_words c claim

  -- the words of the task that begins again: those of the three that lie in the cell
  again_word : (c : ℕ) → has_word_in by_words c (words_of after.regions again) ≡ true → list_any (is_word_in by_words c) (words_again t entry) ≡ true
  again_word c e = first_word (or_cases (is_word_in by_words c entry.1) (list_any (is_word_in by_words c) (take 31 (drop 1 again.registers) ++ stack_words after.regions again)) e)
    where
      any_three : (word : ℕ) → In word (words_again t entry) → is_word_in by_words c word ≡ true → list_any (is_word_in by_words c) (words_again t entry) ≡ true
      any_three word i p = any-In (is_word_in by_words c) (words_again t entry) word i p

      by_register : (is_word_in by_words c t.origin.arg ≡ true) ⊎ (is_word_in by_words c (t.stack + stack_size - 16) ≡ true) → list_any (is_word_in by_words c) (words_again t entry) ≡ true
      by_register (inl x) = any_three t.origin.arg (inr (inl refl)) x
      by_register (inr x) = any_three (t.stack + stack_size - 16) (inr (inr (inl refl))) x

      of_stack : (word : ℕ) × In word (stack_words after.regions again) × (is_word_in by_words c word ≡ true) → list_any (is_word_in by_words c) (words_again t entry) ≡ true
      of_stack word =
          let z : word.0 ≡ 0 = words_zero (drop (stack_from again) (unwrap_or (read_in after.regions t.stack stack_size) [])) (λ x i. stack_zero x (In-drop (stack_from again) (unwrap_or (read_in after.regions t.stack stack_size) []) x i)) word.0 word.1 in
          absurd (true≢false (sym word.2 ∙ (ap (is_word_in by_words c) z ∙ nowhere c)))

      later : (word : ℕ) × In word (take 31 (drop 1 again.registers) ++ stack_words after.regions again) × (is_word_in by_words c word ≡ true) → list_any (is_word_in by_words c) (words_again t entry) ≡ true
      later word = pick (In-append (take 31 (drop 1 again.registers)) (stack_words after.regions again) word.0 word.1)
        where
          pick : In word.0 (take 31 (drop 1 again.registers)) ⊎ In word.0 (stack_words after.regions again) → list_any (is_word_in by_words c) (words_again t entry) ≡ true
          pick (inl i) = by_register (registers_pass (is_word_in by_words c) (nowhere c) t.origin.arg t.stack (any-In (is_word_in by_words c) (take 31 (drop 1 (first_registers t.origin.arg t.stack))) word.0 i word.2))
          pick (inr i) = of_stack (word.0, i, word.2)

      first_word : (is_word_in by_words c entry.1 ≡ true) ⊎ (list_any (is_word_in by_words c) (take 31 (drop 1 again.registers) ++ stack_words after.regions again) ≡ true) → list_any (is_word_in by_words c) (words_again t entry) ≡ true
      first_word (inl x) = any_three entry.1 (inl refl) x
      first_word (inr x) = later (any-Has (is_word_in by_words c) (take 31 (drop 1 again.registers) ++ stack_words after.regions again) x)

  word_again : (c word : ℕ) → In word (words_again t entry) → is_word_in by_words c word ≡ true → has_word_in by_words c (words_of after.regions again) ≡ true
  word_again c word (inl e) p = or_left (is_word_in by_words c entry.1) _ (subst (λ x. is_word_in by_words c x ≡ true) e p)
  word_again c word (inr i) p = or_right (is_word_in by_words c entry.1) _ (go (any-Has (is_word_in by_words c) (take 31 (drop 1 again.registers)) (registers_have (is_word_in by_words c) t.origin.arg t.stack (two i))))
    where
      two : In word (t.origin.arg ∷ (t.stack + stack_size - 16) ∷ []) → (is_word_in by_words c t.origin.arg ≡ true) ⊎ (is_word_in by_words c (t.stack + stack_size - 16) ≡ true)
      two (inl e) = inl (subst (λ x. is_word_in by_words c x ≡ true) e p)
      two (inr (inl e)) = inr (subst (λ x. is_word_in by_words c x ≡ true) e p)
      two (inr (inr z)) = absurd z

      go : (x : ℕ) × In x (take 31 (drop 1 again.registers)) × (is_word_in by_words c x ≡ true) → list_any (is_word_in by_words c) (take 31 (drop 1 again.registers) ++ stack_words after.regions again) ≡ true
      go x = any-In (is_word_in by_words c) (take 31 (drop 1 again.registers) ++ stack_words after.regions again) x.0 (In-left (take 31 (drop 1 again.registers)) (stack_words after.regions again) x.0 x.1) x.2

  -- another task claims what it claimed
  other_still : (u : Task) → In u w.tasks → (u.number == t.number) ≡ false → claim_of after u ≡ claim_of w u
  other_still u i n = ap (λ (b : Option (List ℕ)). record { task = u.number; root = Some u.root; words = u.pc ∷ take 31 (drop 1 u.registers) ++ words_in (drop (stack_from u) (unwrap_or b [])) }) (bytes_still u.stack stack_size away)
    where
      unlike : u ≡ t → ⊥
      unlike e = true≢false (sym (eq-eqb u.number t.number (ap (λ (x : Task). x.number) e)) ∙ n)

      away : (u.stack + stack_size ≤ t.stack) ⊎ (t.stack + stack_size ≤ u.stack)
      away =
          let a = own_region w h u i in
          let b = own_region w h t live in
          go a.0 b.0 a.2 a.3 b.2 b.3 (pairs-In ends_before w.regions h.ready.apart a.0 b.0 a.1 b.1)
        where
          go : (a b : Region) → a.start ≡ u.stack → length a.bytes ≡ stack_size → b.start ≡ t.stack → length b.bytes ≡ stack_size → (a ≡ b) ⊎ ((ends_before a b ≡ true) ⊎ (ends_before b a ≡ true)) → (u.stack + stack_size ≤ t.stack) ⊎ (t.stack + stack_size ≤ u.stack)
          go a b s l p m (inl e) = absurd (unlike (stack_alone w h t live u i (sym s ∙ (ap (λ (x : Region). x.start) e ∙ p))))
          go a b s l p m (inr (inl e)) = inl (omega (arith, leb-true (end_of a) b.start e, s, l, p))
          go a b s l p m (inr (inr e)) = inr (omega (arith, leb-true (end_of b) a.start e, s, m, p))

  abbrev put : Task → Task
  put u = if u.number == again.number then again else u

  held_then : (c : ℕ) → is_held_directly then_held c ≡ true → is_held_directly by_words c ≡ true
  held_then c e = go (or_cases (holds by_words.attached c) (list_any (is_claimed_by then_held c) then_held.claims) e)
    where
      given : (claim : Claim) → In claim (claims_again w t entry) → is_claimed_by by_words c claim ≡ true → is_held_directly by_words c ≡ true
      given claim i p = or_right (holds by_words.attached c) (list_any (is_claimed_by by_words c) (claims_again w t entry)) (any-In (is_claimed_by by_words c) (claims_again w t entry) claim i p)

      in_place : (claim : Claim) (u : Task) → In u w.tasks → In claim (claims_in_place w t entry u) → In claim (claims_again w t entry)
      in_place claim u i m = flat_map-In (claims_in_place w t entry) w.tasks u claim i m

      by_task : (u : Task) → In u w.tasks → is_claimed_by by_words c (claim_of after (put u)) ≡ true → is_held_directly by_words c ≡ true
      by_task u i p = pick (u.number == t.number) refl p
        where
          by_word : (word : ℕ) × In word (words_again t entry) × (is_word_in by_words c word ≡ true) → (u.number == t.number) ≡ true → is_held_directly by_words c ≡ true
          by_word word n =
              given (word_claim t.number word.0)
              (in_place (word_claim t.number word.0) u i (subst (λ b. In (word_claim t.number word.0) (cond b (map (word_claim t.number) (words_again t entry)) (claim_of w u ∷ []))) (sym n) (map-In (word_claim t.number) (words_again t entry) word.0 word.1)))
              (or_left (is_word_in by_words c word.0) false word.2)

          own : (u.number == t.number) ≡ true → (entry.0 == c) ≡ true ⊎ (has_word_in by_words c (words_of after.regions again) ≡ true) → is_held_directly by_words c ≡ true
          own n (inl r) = or_left (holds by_words.attached c) (list_any (is_claimed_by by_words c) (claims_again w t entry)) (subst (λ m. holds by_words.attached m ≡ true) (eqb-true entry.0 c r) (entry_attached w t.origin.ns t.origin.name entry named))
          own n (inr r) = by_word (any-Has (is_word_in by_words c) (words_again t entry) (again_word c r)) n

          pick : (b : Bool) → (u.number == t.number) ≡ b → is_claimed_by by_words c (claim_of after (cond b again u)) ≡ true → is_held_directly by_words c ≡ true
          pick true n q = own n (or_cases (entry.0 == c) (has_word_in by_words c (words_of after.regions again)) q)
          pick false n q = given (claim_of w u)
              (in_place (claim_of w u) u i (subst (λ b. In (claim_of w u) (cond b (map (word_claim t.number) (words_again t entry)) (claim_of w u ∷ []))) (sym n) (inl refl)))
              (subst (λ (x : Claim). is_claimed_by by_words c x ≡ true) (other_still u i n) q)

      by_claim : (claim : Claim) × In claim then_held.claims × (is_claimed_by then_held c claim ≡ true) → is_held_directly by_words c ≡ true
      by_claim claim =
          let v = In-map (claim_of after) after.tasks claim.0 claim.1 in
          let u = In-map put w.tasks v.0 v.1 in
          by_task u.0 u.1 (subst (λ (x : Task). is_claimed_by by_words c (claim_of after x) ≡ true) u.2 (subst (λ (x : Claim). is_claimed_by by_words c x ≡ true) v.2 claim.2))

      go : (holds by_words.attached c ≡ true) ⊎ (list_any (is_claimed_by then_held c) then_held.claims ≡ true) → is_held_directly by_words c ≡ true
      go (inl x) = or_left (holds by_words.attached c) (list_any (is_claimed_by by_words c) (claims_again w t entry)) x
      go (inr x) = by_claim (any-Has (is_claimed_by then_held c) then_held.claims x)

  held_before : (c : ℕ) → is_held_directly by_words c ≡ true → is_held_directly then_held c ≡ true
  held_before c e = go (or_cases (holds by_words.attached c) (list_any (is_claimed_by by_words c) (claims_again w t entry)) e)
    where
      given : (u : Task) → In u w.tasks → is_claimed_by by_words c (claim_of after (put u)) ≡ true → is_held_directly then_held c ≡ true
      given u i p = or_right (holds by_words.attached c) (list_any (is_claimed_by then_held c) then_held.claims)
          (any-In (is_claimed_by then_held c) then_held.claims (claim_of after (put u)) (map-In (claim_of after) after.tasks (put u) (map-In put w.tasks u i)) p)

      by_word : (u : Task) → In u w.tasks → (u.number == t.number) ≡ true → (claim : Claim) → (word : ℕ) × In word (words_again t entry) × (claim ≡ word_claim t.number word) → is_claimed_by by_words c claim ≡ true → is_held_directly then_held c ≡ true
      by_word u i n claim word p =
          let q : is_word_in by_words c word.0 ≡ true = only (is_word_in by_words c word.0) (subst (λ (x : Claim). is_claimed_by by_words c x ≡ true) word.2 p) in
          given u i (subst (λ b. is_claimed_by by_words c (claim_of after (cond b again u)) ≡ true) (sym n) (or_right (entry.0 == c) (has_word_in by_words c (words_of after.regions again)) (word_again c word.0 word.1 q)))
        where
          only : (b : Bool) → (b || false) ≡ true → b ≡ true
          only true x = refl
          only false x = x

      by_task : (u : Task) → In u w.tasks → (claim : Claim) → In claim (claims_in_place w t entry u) → is_claimed_by by_words c claim ≡ true → is_held_directly then_held c ≡ true
      by_task u i claim m p = pick (u.number == t.number) refl m
        where
          pick : (b : Bool) → (u.number == t.number) ≡ b → In claim (cond b (map (word_claim t.number) (words_again t entry)) (claim_of w u ∷ [])) → is_held_directly then_held c ≡ true
          pick true n k = by_word u i n claim (In-map (word_claim t.number) (words_again t entry) claim k) p
          pick false n (inl k) = given u i (subst (λ b. is_claimed_by by_words c (claim_of after (cond b again u)) ≡ true) (sym n) (subst (λ (x : Claim). is_claimed_by by_words c x ≡ true) (k ∙ sym (other_still u i n)) p))
          pick false n (inr k) = absurd k

      by_claim : (claim : Claim) × In claim (claims_again w t entry) × (is_claimed_by by_words c claim ≡ true) → is_held_directly then_held c ≡ true
      by_claim claim = let u = In-flat_map (claims_in_place w t entry) w.tasks claim.0 claim.1 in by_task u.0 u.1 claim.0 u.2 claim.2

      go : (holds by_words.attached c ≡ true) ⊎ (list_any (is_claimed_by by_words c) (claims_again w t entry) ≡ true) → is_held_directly then_held c ≡ true
      go (inl x) = or_left (holds by_words.attached c) (list_any (is_claimed_by then_held c) then_held.claims) x
      go (inr x) = by_claim (any-Has (is_claimed_by by_words c) (claims_again w t entry) x)

  steps_back : KeepsSteps then_held by_words
  steps_back = record {
    there = λ c k. In-holds by_words.cells c (kept_present then_held c k);
    directly = λ c k e. held_then c e;
    onward = λ a b k l e. sym (reaches_still a b) ∙ e;
  }

  steps_on : KeepsSteps by_words then_held
  steps_on = record {
    there = λ c k. In-holds then_held.cells c (kept_present by_words c k);
    directly = λ c k e. held_before c e;
    onward = λ a b k l e. reaches_still a b ∙ e;
  }

  kept_same : (c : ℕ) → holds (kept_in then_held) c ≡ holds (kept_in by_words) c
  kept_same c = go (holds (kept_in then_held) c) refl (holds (kept_in by_words) c) refl
    where
      go : (a : Bool) → holds (kept_in then_held) c ≡ a → (b : Bool) → holds (kept_in by_words) c ≡ b → a ≡ b
      go true p true q = refl
      go false p false q = refl
      go true p false q = absurd (true≢false (sym (In-holds (kept_in by_words) c (kept_complete by_words c (kept_again then_held by_words steps_back c (kept_sound then_held c (holds-In (kept_in then_held) c p))))) ∙ q))
      go false p true q = absurd (true≢false (sym (In-holds (kept_in then_held) c (kept_complete then_held c (kept_again by_words then_held steps_on c (kept_sound by_words c (holds-In (kept_in by_words) c q))))) ∙ p))

  -- what is kept is the same list
  pub kept_by_words : kept_in then_held ≡ kept_in by_words
  kept_by_words = kept_order then_held ∙ (filter_same (holds (kept_in then_held)) (holds (kept_in by_words)) (numbers_of w.cells) (λ c i. kept_same c) ∙ sym (kept_order by_words))
