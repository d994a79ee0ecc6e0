-- What is left of a list around its gap when the gap opens, moves and is filled.
use Rattle.std.proofs.Common.{◌≡◌, ℕ, zero, suc, ◌+◌, ◌-◌, ◌<◌, ◌≤◌, Bool, true, false, ◌&&◌, ◌||◌, eqb, ltb, List, [], ◌∷◌, ◌++◌, length, take, drop, set, replicate, refl, sym, ap, ap₂, subst, ◌∙◌, arith, tests, append_assoc}
use Rattle.std.specs.List.{AllByRecursion, insert}
use Rattle.std.proofs.lemmas.List.{append-nil, drop-set, drop-take, drop_all, drop_at, length-append, length-drop, length-replicate, length-set, length-take, length-take-le, take-append-drop, take-append-le, take-set-le, take-take, take_all, take_at}
use Rattle.std.proofs.lemmas.List.Edits.{length-paste}
use lib.Seq.{paste}
use Rattle.cell_num.specs.declared.ids.SecKey.{SecKey}
use Rattle.cell_world.specs.declared.state.LinkRow.{LinkRow}
use Rattle.cell_graph.specs.declared.order.RowPlace.{RowPlace}
use Rattle.cell_graph.specs.Gaps.{AreAbove}
use Rattle.cell_graph.specs.Lists.{RowsRise, below_row_place}
use Rattle.cell_graph.specs.Order.{IsCut, Rises, below_link, below_row}
use Rattle.cell_graph.proofs.Cuts.{below_row_trans}
use Rattle.cell_graph.proofs.Ranges.{rises_take}
use Rattle.cell_graph.proofs.Rising.{all_at, all_from}
use Rattle.cell_graph.proofs.Wholes.{cut_within}

module _ {X : Type 0} (list new : List X) where
  -- open behind all
  pub opened : (front k b m : ℕ) (x : X) → front ≡ length list → k ≡ length list → b ≡ front + m → new ≡ take b list ++ replicate (b - k) x
      → (take front new ++ drop b new ≡ list) × (length new ≡ b)
  opened front k b m x from to size is =
      let whole : take b list ≡ list = take_all b list (omega (arith, from, size)) in
      let are : new ≡ list ++ replicate (b - k) x = is ∙ ap (λ (l : List X). l ++ replicate (b - k) x) whole in
      let many = ap (length {A = X}) are ∙ length-append list (replicate (b - k) x) in
      let more = length-replicate (b - k) x in
      let long : length new ≡ b = omega (arith, many, more, from, to, size) in (
        ap₂ (λ (a c : List X). a ++ c) (ap (take front) are ∙ take_at list (replicate (b - k) x) front (sym from)) (drop_all b new (omega (arith, long))) ∙ append-nil list,
        long,
      )

  -- moved to the front, over some of the links
  take_both : (f n : ℕ) → take f list ++ take n (drop f list) ≡ take (f + n) list
  take_both f n =
      ap₂ (λ (a c : List X). a ++ c) (sym (take-take f (f + n) list (omega arith))) (sym (drop-take f n list)) ∙ take-append-drop f (take (f + n) list)

  pub moved : (f g b c : ℕ) → f ≤ g → g ≤ c → c ≤ length list → b + g ≡ c + f → new ≡ paste list b (drop f list) (g - f)
      → (take f new ++ drop b new ≡ take g list ++ drop c list) × (length new ≡ length list)
  moved f g b c low mid high size is =
      let n : ℕ = g - f in
      let many = length-drop f list in
      let front = length-take-le b list (omega arith) in
      let rest : List X = take n (drop f list) ++ drop (b + n) list in
      let are : new ≡ take b list ++ rest = is ∙ append_assoc (take b list) (take n (drop f list)) (drop (b + n) list) in
      let left : take f new ≡ take f list =
      ap (take f) are ∙ take-append-le f (take b list) rest (omega (arith, front)) ∙ take-take f b list (omega arith)
      in
      let right : drop b new ≡ rest = ap (drop b) are ∙ drop_at (take b list) rest b front in
      let up : f + n ≡ g = omega arith in
      let on : b + n ≡ c = omega arith in (
        ap₂ (λ (a d : List X). a ++ d) left right
            ∙ sym (append_assoc (take f list) (take n (drop f list)) (drop (b + n) list))
            ∙ ap (λ (a : List X). a ++ drop (b + n) list) (take_both f n)
            ∙ ap₂ (λ (k m : ℕ). take k list ++ drop m list) up on,
        ap (length {A = X}) is ∙ length-paste list b (drop f list) n (omega arith) (omega (arith, many)),
      )

  -- filled at its end
  pub filled_behind : (b c : ℕ) (x : X) → b + 1 ≡ c → b < length list → new ≡ set list b x → drop b new ≡ x ∷ drop c list
  filled_behind b c x on within is = ap (drop b) is ∙ drop-set list b x within ∙ ap (λ (n : ℕ). x ∷ drop n list) on

  pub filled : (f b c : ℕ) (x : X) → f ≤ b → b + 1 ≡ c → b < length list → new ≡ set list b x → take f new ++ drop b new ≡ insert (take f list ++ drop c list) f x
  filled f b c x low on within is =
      let front = length-take-le f list (omega arith) in
      let rest : List X = drop c list in
      ap₂ (λ (a d : List X). a ++ d) (ap (take f) is ∙ take-set-le f list b x low) (filled_behind b c x on within is)
      ∙ ap₂ (λ (a d : List X). a ++ x ∷ d) (sym (take_at (take f list) rest f front)) (sym (drop_at (take f list) rest f front))

  pub filled_length : (b : ℕ) (x : X) → new ≡ set list b x → length new ≡ length list
  filled_length b x is = ap (length {A = X}) is ∙ length-set list b x

-- a gap with nothing in it
pub closed : {X : Type 0} (list : List X) (f b : ℕ) → b ≡ f → take f list ++ drop b list ≡ list
closed list f b same = ap (λ (n : ℕ). take f list ++ drop n list) same ∙ take-append-drop f list

module _ {X : Type 0} (p : X → Bool) where
  all_joined : (xs ys : List X) → AllByRecursion (λ y. p y ≡ false) xs → AllByRecursion (λ y. p y ≡ false) ys → AllByRecursion (λ y. p y ≡ false) (xs ++ ys)
  all_joined [] ys a b = b
  all_joined (x ∷ xs) ys a b = (a.0, all_joined xs ys a.1 b)

  none_cut : (ys : List X) → AllByRecursion (λ y. p y ≡ false) ys → IsCut p ys 0
  none_cut [] none = refl
  none_cut (y ∷ ys) none = (none.0, none.1)

  -- a cut in a front part
  pub cut_low : (xs : List X) (n m : ℕ) → IsCut p (take m xs) n → n ≤ m
  cut_low xs n m cut =
      let within = cut_within p (take m xs) n cut in
      let long = length-take m xs in
      omega (arith, within, long)

  -- where none of the rest passes
  pub cut_longer : (xs ys : List X) (n : ℕ) → IsCut p xs n → AllByRecursion (λ y. p y ≡ false) ys → IsCut p (xs ++ ys) n
  cut_longer [] ys n cut none = subst (IsCut p ys) (sym cut) (none_cut ys none)
  cut_longer (x ∷ xs) ys zero cut none = (cut.0, all_joined xs ys cut.1 none)
  cut_longer (x ∷ xs) ys (suc n) cut none = (cut.0, cut_longer xs ys n cut.1 none)

module _ {X : Type 0} (lt : X → X → Bool) where
  pub rises_front : (xs ys : List X) → Rises lt (xs ++ ys) → Rises lt xs
  rises_front xs ys rises = subst (Rises lt) (take_at xs ys (length xs) refl) (rises_take lt (length xs) (xs ++ ys) rises)

  pub rises_back : (xs ys : List X) → Rises lt (xs ++ ys) → Rises lt ys
  rises_back [] ys rises = rises
  rises_back (x ∷ xs) ys rises = rises_back xs ys rises.1

never_both : (a b c d e f : ℕ) → (ltb a d || eqb a d && (ltb b e || eqb b e && ltb c f)) ≡ true → (ltb d a || eqb d a && (ltb e b || eqb e b && ltb f c)) ≡ false
never_both a b c d e f h = grind (arith, tests)

-- none of those above a link comes before it
pub none_before : (user : SecKey) (entry : ℕ) (list : List RowPlace) → AreAbove user entry list → AllByRecursion (λ r. below_row r.user r.entry user entry ≡ false) list
none_before user entry [] above = tt
none_before user entry (r ∷ list) above =
    (never_both user.cell.0 entry user.section r.user.cell.0 r.entry r.user.section above.0, none_before user entry list above.1)

-- what comes before a link comes before all behind it
pub above_all : (row r : LinkRow) (at : RowPlace) (front list rest : List RowPlace) → at.user ≡ row.user → at.entry ≡ row.entry → RowsRise (front ++ list) → list ≡ at ∷ rest
    → below_link r row ≡ true → AreAbove r.user r.entry list
above_all row r at front list rest user entry rises is below = subst (AreAbove r.user r.entry) (sym is) (first, later)
  where
    first : below_row r.user r.entry at.user at.entry ≡ true
    first = ap₂ (λ (u : SecKey) (e : ℕ). below_row r.user r.entry u e) user entry ∙ below

    behind : Rises below_row_place (at ∷ rest)
    behind = subst RowsRise is (rises_back below_row_place front list rises)

    later : AreAbove r.user r.entry rest
    later = all_from (λ x. below_row r.user r.entry x.user x.entry ≡ true) rest (λ x has.
        below_row_trans r.user r.entry at.user at.entry x.user x.entry first (all_at (λ z. below_row_place at z ≡ true) rest x behind.0 has))
