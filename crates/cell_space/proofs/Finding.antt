-- What the index finds, and the lowest of several.
use Rattle.std.proofs.Common.{◌≡◌, ℕ, ◌+◌, ◌<◌, Bool, true, false, cond, List, [], ◌∷◌, ◌++◌, Some, None, get_or, refl, ap, sym, subst, ◌∙◌, arith}
use Rattle.std.specs.Prelude.{Option, All, find, filter, filter_map, option_map, option_and_then, is_some, ◌&&◌, ◌||◌, ◌==◌, nat_lt}
use Rattle.std.specs.List.{cons_option, list_any}
use Rattle.std.specs.Cmp.{nat_eq_equiv}
use Rattle.std.specs.Cmp.Lexicographic.{bytes_decides}
use Rattle.std.proofs.lemmas.List.Elements.{All-head, All-tail}
use Rattle.std.proofs.lemmas.Bool.Decides.{nat_tests}
use Rattle.cell_num.specs.Lists.{equals, holds, first}
use Rattle.cell_world.specs.declared.state.Namespace.{Namespace}
use Rattle.cell_world.specs.World.{Alias}
use Rattle.cell_world.specs.Names.{Provider, are_on_one_path, has_name, symbol_in}
use Rattle.cell_world.specs.declared.state.Standing.TheVariants.{Attached}
use Rattle.cell_space.specs.declared.cell.SpaceCell.{SpaceCell}
use Rattle.cell_space.specs.declared.index.Holder.{Holder}
use Rattle.cell_space.specs.declared.index.Holder.TheVariants.{One}
use Rattle.cell_space.specs.declared.word.WordKind.{WordKind}
use Rattle.cell_space.specs.declared.word.WordKind.TheVariants.{Stem, Name, Weak}
use Rattle.cell_space.specs.Hash.{stem_hash}
use Rattle.cell_space.specs.Named.{is_in, is_holder, is_rival, provider_at, first_provider, cell_numbered}
use Rattle.cell_space.specs.Rising.{IsRising, lower}
use Rattle.cell_space.specs.Index.{may_be, IsTaken, IsListed, IsWhole, anywhere, hashes_of, name_hashes, row_hashes, has_word, word_hash, is_at, kept_if}
use Rattle.cell_space.proofs.Holding.{hashes_back, hashes_front}
use Rattle.cell_space.proofs.NameTables.{is_some_symbol}
use Rattle.cell_space.proofs.Searches.{filter-filter}
use Rattle.cell_space.proofs.Rising.{one_at_most, none_passes, find-or, same_number, turned, left, right}

-- what holds of each hash of a cell holds of that of a word that it has
module _ (P : ℕ → Type 0) (kind : WordKind) (q : List ℕ) where
  name_by : (b : Bool) (a : Alias) (rows : List Alias) → equals a.name q ≡ b → All P (word_hash kind a.name ∷ name_hashes kind rows) → (list_any (λ r. equals r.name q) rows ≡ true → P (word_hash kind q))
      → (b || list_any (λ r. equals r.name q) rows) ≡ true → P (word_hash kind q)
  name_by true a rows e all rest has =
      let Q : List ℕ → Type 0 = λ name. P (word_hash kind name) in
      subst Q ((bytes_decides a.name q).0 e) (All-head P (word_hash kind a.name) (name_hashes kind rows) all)
  name_by false a rows e all rest has = rest has

  of_name : (rows : List Alias) → All P (name_hashes kind rows) → has_name rows q ≡ true → P (word_hash kind q)
  of_name [] all has = absurd (cc has)
  of_name (a ∷ rows) all has = name_by (equals a.name q) a rows refl all (of_name rows (All-tail P (word_hash kind a.name) (name_hashes kind rows) all)) has

of_word : (P : ℕ → Type 0) (kind : WordKind) (word : List ℕ) (c : SpaceCell) → All P (hashes_of c) → has_word kind word c ≡ true → P (word_hash kind word)
of_word P Stem word c all has =
    let Q : List ℕ → Type 0 = λ name. P (stem_hash name) in
    subst Q ((bytes_decides c.stem word).0 has) (All-head P (stem_hash c.stem) (row_hashes c) all)
of_word P Name word c all has = of_name P Name word c.names (hashes_back P (name_hashes Weak c.weak) (name_hashes Name c.names) (All-tail P (stem_hash c.stem) (row_hashes c) all)) has
of_word P Weak word c all has = of_name P Weak word c.weak (hashes_front P (name_hashes Weak c.weak) (name_hashes Name c.names) (All-tail P (stem_hash c.stem) (row_hashes c) all)) has

module _ (f : ℕ → ℕ → Option Holder) (ns : ℕ) (kind : WordKind) (word : List ℕ) where
  -- the index answers for a cell that has the word
  answered : (c : SpaceCell) → IsListed f c → is_at ns kind word c ≡ true → may_be c.cell.0 (f ns (word_hash kind word)) ≡ true
  answered c listed at =
      let here = left (is_in Attached c && c.ns == ns) (has_word kind word c) at in
      let P : ℕ → Type 0 = λ hash. IsTaken c.cell.0 (is_in Attached c) (f c.ns hash) in
      let taken : IsTaken c.cell.0 (is_in Attached c) (f c.ns (word_hash kind word)) = of_word P kind word c listed.0 (right (is_in Attached c && c.ns == ns) (has_word kind word c) at) in
      ap (λ m. may_be c.cell.0 (f m (word_hash kind word))) (sym (same_number c.ns ns (right (is_in Attached c) (c.ns == ns) here)))
      ∙ taken.answers (left (is_in Attached c) (c.ns == ns) here)

  pub held_none : (cells : List SpaceCell) → IsWhole f cells → f ns (word_hash kind word) ≡ None → None ≡ find (is_at ns kind word) cells
  held_none cells whole none =
      sym (none_passes (is_at ns kind word) cells (λ k d lt at.
      let c = get_or cells k d in
      let yes : may_be c.cell.0 (f ns (word_hash kind word)) ≡ true = answered c (whole.each k d lt) at in
      let shut : may_be c.cell.0 (f ns (word_hash kind word)) ≡ false = ap (may_be c.cell.0) none in
      absurd (cc (yes, shut))))

  pub held_one : (cells : List SpaceCell) (n : ℕ) → IsRising cells → IsWhole f cells → f ns (word_hash kind word) ≡ Some (One n) → kept_if (is_at ns kind word) (cell_numbered cells n) ≡ find (is_at ns kind word) cells
  held_one cells n rising whole one =
      sym (one_at_most (is_at ns kind word) n cells rising (λ k d lt at.
      let c = get_or cells k d in
      turned n c.cell.0 (sym (ap (may_be c.cell.0) one) ∙ answered c (whole.each k d lt) at)))

-- what a test finds that asks for the word and for an attached cell
module _ (f : ℕ → ℕ → Option Holder) (kind : WordKind) (word : List ℕ) (test : SpaceCell → Bool)
    (asks : (c : SpaceCell) → test c ≡ true → (is_in Attached c ≡ true) × (has_word kind word c ≡ true)) where
  answered_anywhere : (c : SpaceCell) → IsListed f c → test c ≡ true → may_be c.cell.0 (f anywhere (word_hash kind word)) ≡ true
  answered_anywhere c listed passes =
      let P : ℕ → Type 0 = λ hash. IsTaken c.cell.0 (is_in Attached c) (f anywhere hash) in
      let taken : IsTaken c.cell.0 (is_in Attached c) (f anywhere (word_hash kind word)) = of_word P kind word c listed.1 (asks c passes).1 in
      taken.answers (asks c passes).0

  pub none_anywhere : (cells : List SpaceCell) → IsWhole f cells → f anywhere (word_hash kind word) ≡ None → None ≡ find test cells
  none_anywhere cells whole none =
      sym (none_passes test cells (λ k d lt passes.
      let c = get_or cells k d in
      let yes : may_be c.cell.0 (f anywhere (word_hash kind word)) ≡ true = answered_anywhere c (whole.each k d lt) passes in
      let shut : may_be c.cell.0 (f anywhere (word_hash kind word)) ≡ false = ap (may_be c.cell.0) none in
      absurd (cc (yes, shut))))

  pub one_anywhere : (cells : List SpaceCell) (n : ℕ) → IsRising cells → IsWhole f cells → f anywhere (word_hash kind word) ≡ Some (One n) → kept_if test (cell_numbered cells n) ≡ find test cells
  one_anywhere cells n rising whole one =
      sym (one_at_most test n cells rising (λ k d lt passes.
      let c = get_or cells k d in
      turned n c.cell.0 (sym (ap (may_be c.cell.0) one) ∙ answered_anywhere c (whole.each k d lt) passes)))

pub asks_above : (spaces : List ℕ) (kind : WordKind) (word : List ℕ) (c : SpaceCell) → (has_word kind word c && is_holder spaces Attached c) ≡ true → (is_in Attached c ≡ true) × (has_word kind word c ≡ true)
asks_above spaces kind word c e =
    let holder = right (has_word kind word c) (is_holder spaces Attached c) e in
    (left (is_in Attached c) (holds spaces c.ns) holder, left (has_word kind word c) (is_holder spaces Attached c) e)

pub asks_rival : (spaces : List Namespace) (ns : ℕ) (kind : WordKind) (word : List ℕ) (c : SpaceCell) → (has_word kind word c && is_rival spaces ns c) ≡ true → (is_in Attached c ≡ true) × (has_word kind word c ≡ true)
asks_rival spaces ns kind word c e =
    let rival = right (has_word kind word c) (is_rival spaces ns c) e in
    (left (is_in Attached c) (are_on_one_path spaces ns c.ns) rival, left (has_word kind word c) (is_rival spaces ns c) e)

pub find-same : (p q : SpaceCell → Bool) (cells : List SpaceCell) → All (λ c. p c ≡ q c) cells → find p cells ≡ find q cells
find-same p q [] all = refl
find-same p q (c ∷ cells) all =
    ap (λ b. cond b (Some c) (find p cells)) (All-head (λ d. p d ≡ q d) c cells all)
    ∙ ap (λ o. cond (q c) (Some c) o) (find-same p q cells (All-tail (λ d. p d ≡ q d) c cells all))

-- the lowest so far, with those of one more namespace
pub lowest_more : (p q r : SpaceCell → Bool) (cells : List SpaceCell) (so_far more : Option SpaceCell) → IsRising cells → so_far ≡ find p cells → more ≡ find q cells → ((c : SpaceCell) → (p c || q c) ≡ r c)
    → lower so_far more ≡ find r cells
lowest_more p q r cells so_far more rising a b same =
    ap (λ o. lower o more) a
    ∙ ap (lower (find p cells)) b
    ∙ sym (find-or p q cells rising)
    ∙ find-same (λ c. p c || q c) r cells (λ k d lt. same (get_or cells k d))

or_false : (b : Bool) → (b || false) ≡ b
or_false true = refl
or_false false = refl

or_grouped : (a b c : Bool) → (a || (b || c)) ≡ (a || b || c)
or_grouped true b c = refl
or_grouped false b c = refl

holds_more : (xs : List ℕ) (o x : ℕ) → holds (xs ++ o ∷ []) x ≡ (holds xs x || x == o)
holds_more [] o x = or_false (o == x) ∙ nat_eq_equiv.symm o x
holds_more (y ∷ xs) o x = ap (λ b. y == x || b) (holds_more xs o x) ∙ or_grouped (y == x) (holds xs x) (x == o)

spread : (w a h e : Bool) → (w && (a && h) || a && e && w) ≡ (w && (a && (h || e)))
spread true true true e = refl
spread true true false true = refl
spread true true false false = refl
spread true false h e = refl
spread false true h true = refl
spread false true h false = refl
spread false false h e = refl

-- one more namespace of the chain
pub above_more : (kind : WordKind) (word : List ℕ) (passed : List ℕ) (other : ℕ) (c : SpaceCell)
    → (has_word kind word c && is_holder passed Attached c || is_at other kind word c) ≡ (has_word kind word c && is_holder (passed ++ other ∷ []) Attached c)
above_more kind word passed other c =
    spread (has_word kind word c) (is_in Attached c) (holds passed c.ns) (c.ns == other)
    ∙ ap (λ h. has_word kind word c && (is_in Attached c && h)) (sym (holds_more passed other c.ns))

no_holder : (w a : Bool) → (w && (a && false)) ≡ true → ⊥
no_holder true true e = absurd (cc e)
no_holder true false e = absurd (cc e)
no_holder false a e = absurd (cc e)

pub above_none : (kind : WordKind) (word : List ℕ) (cells : List SpaceCell) → None ≡ find (λ c. has_word kind word c && is_holder [] Attached c) cells
above_none kind word cells =
    sym (none_passes (λ c. has_word kind word c && is_holder [] Attached c) cells (λ k d lt on. no_holder (has_word kind word (get_or cells k d)) (is_in Attached (get_or cells k d)) on))

module _ (spaces : List Namespace) (ns : ℕ) (kind : WordKind) (word : List ℕ) where
  -- attached in the other namespace, where that is on one path, is a rival there
  there_by : (e : Bool) (other : ℕ) (c : SpaceCell) → (c.ns == other) ≡ e → are_on_one_path spaces ns other ≡ true
      → (is_in Attached c && e && has_word kind word c) ≡ (has_word kind word c && is_rival spaces ns c && e)
  there_by true other c is path =
      turned_and (is_in Attached c) (has_word kind word c)
      ∙ ap (λ b. has_word kind word c && (is_in Attached c && b) && true) (sym path ∙ ap (are_on_one_path spaces ns) (sym (same_number c.ns other is)))
    where
      turned_and : (a w : Bool) → (a && true && w) ≡ (w && (a && true) && true)
      turned_and true true = refl
      turned_and true false = refl
      turned_and false true = refl
      turned_and false false = refl
  there_by false other c is path = neither (is_in Attached c) (has_word kind word c && is_rival spaces ns c) (has_word kind word c)
    where
      neither : (a r w : Bool) → (a && false && w) ≡ (r && false)
      neither true true w = refl
      neither true false w = refl
      neither false true w = refl
      neither false false w = refl

  pub rival_there : (other : ℕ) (cells : List SpaceCell) → are_on_one_path spaces ns other ≡ true → find (is_at other kind word) cells ≡ find (λ c. has_word kind word c && is_rival spaces ns c && c.ns == other) cells
  rival_there other cells path =
      find-same (is_at other kind word) (λ c. has_word kind word c && is_rival spaces ns c && c.ns == other) cells (λ k d lt. let c = get_or cells k d in there_by (c.ns == other) other c refl path)

  elsewhere : (other : ℕ) (c : SpaceCell) → are_on_one_path spaces ns other ≡ false → (has_word kind word c && is_rival spaces ns c && c.ns == other) ≡ true → ⊥
  elsewhere other c path on =
      let rival = right (has_word kind word c) (is_rival spaces ns c) (left (has_word kind word c && is_rival spaces ns c) (c.ns == other) on) in
      let on_path : are_on_one_path spaces ns c.ns ≡ true = right (is_in Attached c) (are_on_one_path spaces ns c.ns) rival in
      let is : c.ns ≡ other = same_number c.ns other (right (has_word kind word c && is_rival spaces ns c) (c.ns == other) on) in
      let there : are_on_one_path spaces ns other ≡ true = ap (are_on_one_path spaces ns) (sym is) ∙ on_path in
      absurd (cc (there, path))

  pub rival_elsewhere : (other : ℕ) (cells : List SpaceCell) → are_on_one_path spaces ns other ≡ false → None ≡ find (λ c. has_word kind word c && is_rival spaces ns c && c.ns == other) cells
  rival_elsewhere other cells path =
      sym (none_passes (λ c. has_word kind word c && is_rival spaces ns c && c.ns == other) cells (λ k d lt on. elsewhere other (get_or cells k d) path on))

  abbrev pub rival_below : ℕ → SpaceCell → Bool
  rival_below other c = has_word kind word c && is_rival spaces ns c && nat_lt c.ns other

  pub rivals_more : (other : ℕ) (c : SpaceCell) → (rival_below other c || has_word kind word c && is_rival spaces ns c && c.ns == other) ≡ rival_below (other + 1) c
  rivals_more other c = split (has_word kind word c && is_rival spaces ns c) (nat_lt c.ns other) (c.ns == other) ∙ ap (λ b. has_word kind word c && is_rival spaces ns c && b) (next c.ns other)
    where
      split : (r b e : Bool) → (r && b || r && e) ≡ (r && (b || e))
      split true b e = refl
      split false b e = refl

      next : (a b : ℕ) → (nat_lt a b || a == b) ≡ nat_lt a (b + 1)
      next a b = grind (arith, nat_tests)

  pub rivals_none : (cells : List SpaceCell) → None ≡ find (rival_below 0) cells
  rivals_none cells = sym (none_passes (rival_below 0) cells (λ k d lt on. none (get_or cells k d).ns (right (has_word kind word (get_or cells k d) && is_rival spaces ns (get_or cells k d)) (nat_lt (get_or cells k d).ns 0) on)))
    where
      none : (a : ℕ) → nat_lt a 0 ≡ true → ⊥
      none a e = grind (arith, nat_tests)

  pub rivals_all : (count : ℕ) (cells : List SpaceCell) → All (λ c. c.ns < count) cells → find (rival_below count) cells ≡ find (λ c. has_word kind word c && is_rival spaces ns c) cells
  rivals_all count cells inside =
      find-same (rival_below count) (λ c. has_word kind word c && is_rival spaces ns c) cells (λ k d lt.
      let c = get_or cells k d in
      ap (λ b. has_word kind word c && is_rival spaces ns c && b) (below c.ns count (inside k d lt)) ∙ whole (has_word kind word c && is_rival spaces ns c))
    where
      below : (a b : ℕ) → a < b → nat_lt a b ≡ true
      below a b lt = grind (arith, nat_tests)

      whole : (r : Bool) → (r && true) ≡ r
      whole true = refl
      whole false = refl

-- the provider is the lowest cell that has the name
module _ (spaces : List ℕ) (name : List ℕ) where
  abbrev pub has : SpaceCell → Bool
  has c = has_name c.names name && is_holder spaces Attached c

  abbrev pub made : SpaceCell → ℕ → Provider
  made c symbol = record { cell = c.cell.0; symbol = symbol }

  abbrev provided : List SpaceCell → Option Provider
  provided cells = first (filter_map (provider_at name) cells)

  one_provides : (o : Option ℕ) (b : Bool) (c : SpaceCell) (cells : List SpaceCell) (found : Option SpaceCell) → symbol_in c.names name ≡ o → is_some o ≡ b
      → provided cells ≡ option_and_then (provider_at name) found
      → first (cons_option (option_map (made c) o) (filter_map (provider_at name) cells)) ≡ option_and_then (provider_at name) (cond (b && true) (Some c) found)
  one_provides None true c cells found is e rest = absurd (cc e)
  one_provides None false c cells found is e rest = rest
  one_provides (Some s) true c cells found is e rest = sym (ap (option_map (made c)) is)
  one_provides (Some s) false c cells found is e rest = absurd (cc e)

  by_holder : (h : Bool) (c : SpaceCell) (cells : List SpaceCell) → provided (filter (is_holder spaces Attached) cells) ≡ option_and_then (provider_at name) (find has cells)
      → provided (cond h (c ∷ filter (is_holder spaces Attached) cells) (filter (is_holder spaces Attached) cells)) ≡ option_and_then (provider_at name) (cond (has_name c.names name && h) (Some c) (find has cells))
  by_holder true c cells rest =
      one_provides (symbol_in c.names name) (has_name c.names name) c (filter (is_holder spaces Attached) cells) (find has cells) refl (is_some_symbol c.names name) rest
  by_holder false c cells rest = rest ∙ ap (λ b. option_and_then (provider_at name) (cond b (Some c) (find has cells))) (sym (nothing (has_name c.names name)))
    where
      nothing : (b : Bool) → (b && false) ≡ false
      nothing true = refl
      nothing false = refl

  held_found : (cells : List SpaceCell) → provided (filter (is_holder spaces Attached) cells) ≡ option_and_then (provider_at name) (find has cells)
  held_found [] = refl
  held_found (c ∷ cells) = by_holder (is_holder spaces Attached c) c cells (held_found cells)

  pub provider_found : (cells : List SpaceCell) → first_provider spaces Attached name cells ≡ option_and_then (provider_at name) (find has cells)
  provider_found cells = ap provided (filter-filter (is_in Attached) (λ c. holds spaces c.ns) cells) ∙ held_found cells
