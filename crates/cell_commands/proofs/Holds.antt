-- What a task holds, by its root and its words, cell by cell.
use Rattle.std.proofs.Common.{◌≡◌, refl, sym, ◌∙◌, ap, ap₂, subst, arith, ℕ, ◌<◌, Bool, true, false, cond, inl, inr, ◌&&◌, ◌||◌, List, [], ◌∷◌, map}
use Rattle.std.specs.Prelude.{◌==◌, filter, flat_map, nat_le, nat_lt, ◌+◌}
use Rattle.std.specs.List.{list_all, list_any}
use Rattle.std.proofs.lemmas.Bool.{and_parts, eq-eqb, eqb-true, false_from_ne_true, ltb-true}
use Rattle.std.proofs.lemmas.List.Folds.{list_any-append}
use Rattle.cell_num.specs.Lists.{In, each_pair}
use Rattle.cell_num.proofs.Elements.{all-In}
use Rattle.cell_object.specs.declared.object.Section.{Section as ObjectSection}
use Rattle.cell_world.specs.Commands.Recovery.{is_rebuilt, rebuild_of}
use Rattle.cell_world.specs.Kept.{claim_of, holding_of, is_claimed_by, is_inside, is_word_in, placed_at, placed_in}
use Rattle.cell_world.specs.Running.Words.{words_of}
use Rattle.cell_world.specs.World.{Cell, Task, World, attached, is_attached}
use Rattle.cell_world.specs.declared.state.NewCell.{NewCell}
use Rattle.cell_space.specs.Joined.{placed_of}
use Rattle.cell_recover.specs.Rebuild.{has_word, is_at, is_held_by}

or_false : (b : Bool) → (b || false) ≡ b
or_false true = refl
or_false false = refl

any_same : {X : Type 0} (f g : X → Bool) → ((x : X) → f x ≡ g x) → (xs : List X) → list_any f xs ≡ list_any g xs
any_same f g same [] = refl
any_same f g same (x ∷ xs) = ap₂ (λ (a b : Bool). a || b) (same x) (any_same f g same xs)

module _ (word : ℕ) where
  own : (d : Cell) (sections : List ObjectSection) → list_any (is_inside d.id.0 word) (map (placed_at d) sections) ≡ list_any (λ s. is_at word (placed_at (attached d.placed) s)) sections
  own d [] = refl
  own d (s ∷ sections) =
      ap₂ (λ (a b : Bool). a || b)
      (ap (λ (b : Bool). b && nat_le (placed_at d s).start word && nat_le word ((placed_at d s).start + (placed_at d s).size)) (eq-eqb d.id.0 d.id.0 refl))
      (own d sections)

  other : (d : Cell) (n : ℕ) → (d.id.0 == n) ≡ false → (sections : List ObjectSection) → list_any (is_inside n word) (map (placed_at d) sections) ≡ false
  other d n apart [] = refl
  other d n apart (s ∷ sections) =
      ap₂ (λ (a b : Bool). a || b)
      (ap (λ (b : Bool). b && nat_le (placed_at d s).start word && nat_le word ((placed_at d s).start + (placed_at d s).size)) apart)
      (other d n apart sections)

  not_same : (a b : ℕ) → a < b → (a == b) ≡ false
  not_same a b less = false_from_ne_true (a == b) (λ e. let same = eqb-true a b e in omega (arith, less, same))

  not_same_back : (a b : ℕ) → a < b → (b == a) ≡ false
  not_same_back a b less = false_from_ne_true (b == a) (λ e. let same = eqb-true b a e in omega (arith, less, same))

  -- none of the cells behind has the number
  behind : (n : ℕ) (cells : List Cell) → ((d : Cell) → In d cells → n < d.id.0) → list_any (is_inside n word) (flat_map placed_in cells) ≡ false
  behind n [] above = refl
  behind n (d ∷ cells) above =
      list_any-append (is_inside n word) (placed_in d) (flat_map placed_in cells)
      ∙ ap₂ (λ (a b : Bool). a || b) (other d n (not_same_back n d.id.0 (above d (inl refl))) d.object.sections) (behind n cells (λ e i. above e (inr i)))

  -- a word lies in a section of the cell, among all sections
  pub among_all : (cells : List Cell) → each_pair (λ (a b : Cell). nat_lt a.id.0 b.id.0) cells ≡ true → (c : Cell) → In c cells → list_any (is_inside c.id.0 word) (flat_map placed_in cells) ≡ has_word c.placed word
  among_all [] order c i = absurd i
  among_all (d ∷ cells) order c i = list_any-append (is_inside c.id.0 word) (placed_in d) (flat_map placed_in cells) ∙ go (λ order_in k. among_all cells order_in c k) i
    where
      parts : (list_all (λ (b : Cell). nat_lt d.id.0 b.id.0) cells ≡ true) × (each_pair (λ (a b : Cell). nat_lt a.id.0 b.id.0) cells ≡ true)
      parts = and_parts (list_all (λ (b : Cell). nat_lt d.id.0 b.id.0) cells) (each_pair (λ (a b : Cell). nat_lt a.id.0 b.id.0) cells) order

      above : (e : Cell) → In e cells → d.id.0 < e.id.0
      above e k = ltb-true d.id.0 e.id.0 (all-In (λ (b : Cell). nat_lt d.id.0 b.id.0) cells parts.0 e k)

      go : (each_pair (λ (a b : Cell). nat_lt a.id.0 b.id.0) cells ≡ true → In c cells → list_any (is_inside c.id.0 word) (flat_map placed_in cells) ≡ has_word c.placed word)
          → In c (d ∷ cells) → (list_any (is_inside c.id.0 word) (placed_in d) || list_any (is_inside c.id.0 word) (flat_map placed_in cells)) ≡ has_word c.placed word
      go among (inl same) =
          subst (λ (x : Cell). (list_any (is_inside x.id.0 word) (placed_in d) || list_any (is_inside x.id.0 word) (flat_map placed_in cells)) ≡ has_word x.placed word) (sym same)
          (ap₂ (λ (a b : Bool). a || b) (own d d.object.sections) (behind d.id.0 cells above) ∙ or_false (has_word d.placed word))
      go among (inr k) =
          ap (λ (b : Bool). b || list_any (is_inside c.id.0 word) (flat_map placed_in cells)) (other d c.id.0 (not_same d.id.0 c.id.0 (above c k)) d.object.sections)
          ∙ among parts.1 k

module _ (w : World) (order : each_pair (λ (a b : Cell). nat_lt a.id.0 b.id.0) w.cells ≡ true) (t : Task) where
  abbrev words : List ℕ
  words = words_of w.regions t

  claimed : (c : Cell) → In c w.cells → is_claimed_by (holding_of w) c.id.0 (claim_of w t) ≡ is_held_by t.root words c.placed
  claimed c i = ap (λ (b : Bool). (t.root == c.id.0) || b) (any_same (is_word_in (holding_of w) c.id.0) (has_word c.placed) (λ word. among_all word w.cells order c i) words)

  held_among : (cells : List Cell) → ((c : Cell) → In c cells → In c w.cells) → filter (is_held_by t.root words) (map placed_of (filter (λ c. is_attached c.standing) cells)) ≡ map placed_of (filter (is_rebuilt w t) cells)
  held_among [] there = refl
  held_among (c ∷ cells) there = go (is_attached c.standing) (is_held_by t.root words c.placed) refl refl (held_among cells (λ d i. there d (inr i)))
    where
      rebuilt : (a : Bool) → is_attached c.standing ≡ a → is_rebuilt w t c ≡ (a && is_held_by t.root words c.placed)
      rebuilt a s = ap₂ (λ (x y : Bool). x && y) s (claimed c (there c (inl refl)))

      go : (a b : Bool) → is_attached c.standing ≡ a → is_held_by t.root words c.placed ≡ b
          → filter (is_held_by t.root words) (map placed_of (filter (λ d. is_attached d.standing) cells)) ≡ map placed_of (filter (is_rebuilt w t) cells)
          → filter (is_held_by t.root words) (map placed_of (filter (λ d. is_attached d.standing) (c ∷ cells))) ≡ map placed_of (filter (is_rebuilt w t) (c ∷ cells))
      go false b s h ih =
          ap (λ (x : Bool). filter (is_held_by t.root words) (map placed_of (cond x (c ∷ filter (λ d. is_attached d.standing) cells) (filter (λ d. is_attached d.standing) cells)))) s
          ∙ (ih ∙ ap (λ (x : Bool). map placed_of (cond x (c ∷ filter (is_rebuilt w t) cells) (filter (is_rebuilt w t) cells))) (sym (rebuilt false s)))
      go true true s h ih =
          ap (λ (x : Bool). filter (is_held_by t.root words) (map placed_of (cond x (c ∷ filter (λ d. is_attached d.standing) cells) (filter (λ d. is_attached d.standing) cells)))) s
          ∙ (ap (λ (x : Bool). cond x (c.placed ∷ filter (is_held_by t.root words) (map placed_of (filter (λ d. is_attached d.standing) cells))) (filter (is_held_by t.root words) (map placed_of (filter (λ d. is_attached d.standing) cells)))) h
          ∙ (ap (λ (ps : List NewCell). c.placed ∷ ps) ih
          ∙ ap (λ (x : Bool). map placed_of (cond x (c ∷ filter (is_rebuilt w t) cells) (filter (is_rebuilt w t) cells))) (sym (rebuilt true s ∙ h))))
      go true false s h ih =
          ap (λ (x : Bool). filter (is_held_by t.root words) (map placed_of (cond x (c ∷ filter (λ d. is_attached d.standing) cells) (filter (λ d. is_attached d.standing) cells)))) s
          ∙ (ap (λ (x : Bool). cond x (c.placed ∷ filter (is_held_by t.root words) (map placed_of (filter (λ d. is_attached d.standing) cells))) (filter (is_held_by t.root words) (map placed_of (filter (λ d. is_attached d.standing) cells)))) h
          ∙ (ih ∙ ap (λ (x : Bool). map placed_of (cond x (c ∷ filter (is_rebuilt w t) cells) (filter (is_rebuilt w t) cells))) (sym (rebuilt true s ∙ h))))

  -- the attached cells that the task holds
  pub rebuilt_are : filter (is_held_by t.root words) (map placed_of (filter (λ c. is_attached c.standing) w.cells)) ≡ map placed_of (rebuild_of w t)
  rebuilt_are = held_among w.cells (λ c i. i)
