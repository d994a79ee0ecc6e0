-- One more name for the cell of a number.
use Rattle.std.proofs.Common.{◌≡◌, refl, sym, ◌∙◌, ap, subst, arith, ℕ, zero, suc, ◌<◌, Bool, true, false, cond, List, [], ◌∷◌, ◌++◌, Some, None, length, get_or, append_assoc}
use Rattle.std.specs.Prelude.{All, Err, IsSomeAnd, Ok, OnErr, OnOk, Option, Result, option_map, ◌==◌, nat_lt}
use Rattle.std.proofs.Math.ListN.{set}
use Rattle.std.proofs.lemmas.Bool.Decides.{nat_tests}
use Rattle.std.proofs.lemmas.List.Elements.{All-append, All-head, All-map, All-tail, All-weaker}
use Rattle.cell_world.specs.declared.state.Namespace.{Namespace}
use Rattle.cell_world.specs.World.{Alias}
use Rattle.cell_world.specs.declared.state.Standing.TheVariants.{Attached}
use Rattle.cell_space.specs.declared.cell.SpaceCell.{SpaceCell}
use Rattle.cell_space.specs.declared.index.Holder.{Holder}
use Rattle.cell_space.specs.declared.word.WordKind.TheVariants.{Name, Weak}
use Rattle.cell_space.specs.Ahead.{AreAhead}
use Rattle.cell_world.specs.Before.{AreBefore}
use Rattle.cell_space.specs.Keys.{number_in}
use Rattle.cell_space.specs.Hash.{name_hash, stem_hash}
use Rattle.cell_space.specs.Index.{AreTaken, Grows, IsListed, IsTaken, anywhere, hashes_of, name_hashes}
use Rattle.cell_space.specs.Named.{LacksName, cell_numbered, is_in, is_numbered, take_name, with_name}
use Rattle.cell_space.specs.Rising.{IsRising}
use Rattle.cell_world.specs.Names.{has_name}
use Rattle.cell_space.specs.Spaces.{SpacesState}
use Rattle.cell_space.proofs.Holding.{whole_more}
use Rattle.cell_world.proofs.InOrder.{none_there, other_there, this_there}
use Rattle.cell_space.proofs.Rising.{itself, numbered_there, rising-map, same_number}
use Rattle.cell_space.proofs.RisingOrder.{rising_pairs}

differs : (a b : ℕ) → a < b → (b == a) ≡ false
differs a b lt = grind (arith, nat_tests)

-- those behind have other numbers
others_stay : (n : ℕ) (a : Alias) (cells : List SpaceCell) → All (λ d. n < d.cell.0) cells → with_name n a cells ≡ cells
others_stay n a [] all = refl
others_stay n a (c ∷ cells) all =
    ap (λ b. cond b (record c { names = c.names ++ a ∷ [] }) c ∷ with_name n a cells) (differs n c.cell.0 (All-head (λ (d : SpaceCell). n < d.cell.0) c cells all))
    ∙ ap (λ rest. c ∷ rest) (others_stay n a cells (All-tail (λ (d : SpaceCell). n < d.cell.0) c cells all))

taken_at : (b : Bool) (a : Alias) (c : SpaceCell) → b ≡ true → (let d : SpaceCell = cond b (record c { names = c.names ++ a ∷ [] }) c in d) ≡ record c { names = c.names ++ a ∷ [] }
taken_at true a c e = refl
taken_at false a c e = absurd (cc e)

-- the cell at its place takes the name
pub name_set : (n : ℕ) (a : Alias) (cells : List SpaceCell) (i : ℕ) (c new : SpaceCell) → IsRising cells → i < length cells → c ≡ get_or cells i c → c.cell.0 ≡ n
    → new ≡ record c { names = c.names ++ a ∷ [] } → set cells i new ≡ with_name n a cells
name_set n a [] i c new rising lt at number is = absurd (omega arith)
name_set n a (d ∷ cells) zero c new rising lt at number is =
    let same : d ≡ c = sym at in
    let own : is_numbered n d ≡ true = ap (λ (x : SpaceCell). x.cell.0 == n) same ∙ ap (λ m. m == n) number ∙ itself n in
    let above : All (λ e. n < e.cell.0) cells = subst (λ m. All (λ e. m < e.cell.0) cells) (ap (λ (x : SpaceCell). x.cell.0) same ∙ number) rising.0 in
    ap (λ x. x ∷ cells) (is ∙ ap (λ (x : SpaceCell). let y : SpaceCell = record x { names = x.names ++ a ∷ [] } in y) (sym same) ∙ sym (taken_at (is_numbered n d) a d own))
    ∙ ap (λ rest. take_name n a d ∷ rest) (sym (others_stay n a cells above))
name_set n a (d ∷ cells) (suc i) c new rising lt at number is =
    let above : d.cell.0 < (get_or cells i c).cell.0 = rising.0 i c (omega (arith, lt)) in
    let e : (get_or cells i c).cell.0 ≡ n = ap (λ (x : SpaceCell). x.cell.0) (sym at) ∙ number in
    ap (λ rest. d ∷ rest) (name_set n a cells i c new rising.1 (omega (arith, lt)) at number is)
    ∙ ap (λ b. cond b (record d { names = d.names ++ a ∷ [] }) d ∷ with_name n a cells) (sym (lower d.cell.0 n (omega (arith, above, e))))
  where
    lower : (k m : ℕ) → k < m → (k == m) ≡ false
    lower k m h = grind (arith, nat_tests)

-- that cell is where those of lower numbers end
module _ (n : ℕ) (name : List ℕ) (cells : List SpaceCell) (rising : IsRising cells) (i : ℕ) (are : AreBefore number_in n cells i) (lacks : LacksName cells n name) where
  lacking : (o : Option SpaceCell) → IsSomeAnd o (λ c. has_name c.names name ≡ false) → cell_numbered cells n ≡ o → (c : SpaceCell) × (cell_numbered cells n ≡ Some c) × (has_name c.names name ≡ false)
  lacking None h e = absurd h
  lacking (Some c) h e = (c, e, h)

  the_one : (c : SpaceCell) × (cell_numbered cells n ≡ Some c) × (has_name c.names name ≡ false)
  the_one = lacking (cell_numbered cells n) lacks refl

  inside_by : (b : Bool) → nat_lt i (length cells) ≡ b → i < length cells
  inside_by true e = grind (arith, nat_tests)
  inside_by false e = absurd (let none = none_there number_in n cells (rising_pairs cells rising) i are (sym e) in cc (none, the_one.1))

  pub place_inside : i < length cells
  place_inside = inside_by (nat_lt i (length cells)) refl

  module _ (c : SpaceCell) (at : c ≡ get_or cells i c) where
    within : true ≡ nat_lt i (length cells)
    within = let lt = place_inside in grind (arith, nat_tests)

    number_by : (b : Bool) → (c.cell.0 == n) ≡ b → c.cell.0 ≡ n
    number_by true e = same_number c.cell.0 n e
    number_by false e =
        absurd (let none = other_there number_in n cells (rising_pairs cells rising) i are c within at (λ same. absurd (let t = ap (λ m. m == n) same ∙ itself n in cc (t, e))) in cc (none, the_one.1))

    pub place_number_is : c.cell.0 ≡ n
    place_number_is = number_by (c.cell.0 == n) refl

    pub place_lacks : has_name c.names name ≡ false
    place_lacks =
        let found = this_there number_in n cells (rising_pairs cells rising) i are c within at place_number_is in
        let same : the_one.0 ≡ c = cc (found, the_one.1) in
        ap (λ (x : SpaceCell). has_name x.names name) (sym same) ∙ the_one.2

pub number-take_name : (n : ℕ) (a : Alias) (c : SpaceCell) → (take_name n a c).cell.0 ≡ c.cell.0
number-take_name n a c = by (is_numbered n c)
  where
    by : (b : Bool) → (let d : SpaceCell = cond b (record c { names = c.names ++ a ∷ [] }) c in d.cell.0) ≡ c.cell.0
    by true = refl
    by false = refl

ns-take_name : (n : ℕ) (a : Alias) (c : SpaceCell) → (take_name n a c).ns ≡ c.ns
ns-take_name n a c = by (is_numbered n c)
  where
    by : (b : Bool) → (let d : SpaceCell = cond b (record c { names = c.names ++ a ∷ [] }) c in d.ns) ≡ c.ns
    by true = refl
    by false = refl

state-take_name : (n : ℕ) (a : Alias) (c : SpaceCell) → is_in Attached (take_name n a c) ≡ is_in Attached c
state-take_name n a c = by (is_numbered n c)
  where
    by : (b : Bool) → (let d : SpaceCell = cond b (record c { names = c.names ++ a ∷ [] }) c in is_in Attached d) ≡ is_in Attached c
    by true = refl
    by false = refl

hashes-more : (front : List ℕ) (names : List Alias) (a : Alias) → front ++ name_hashes Name (names ++ a ∷ []) ≡ (front ++ name_hashes Name names) ++ name_hash a.name ∷ []
hashes-more front names a = ap (λ hs. front ++ hs) (by names) ∙ sym (append_assoc front (name_hashes Name names) (name_hash a.name ∷ []))
  where
    by : (rows : List Alias) → name_hashes Name (rows ++ a ∷ []) ≡ name_hashes Name rows ++ name_hash a.name ∷ []
    by [] = refl
    by (r ∷ rows) = ap (λ hs. name_hash r.name ∷ hs) (by rows)

module _ (g : ℕ → ℕ → Option Holder) (n ns : ℕ) (a : Alias) where
  taken_in : (space number : ℕ) (attached : Bool) (all : List ℕ) → All (λ h. IsTaken number attached (g space h)) all → All (λ h. IsTaken number true (g space h)) (name_hash a.name ∷ [])
      → All (λ h. IsTaken number attached (g space h)) (all ++ name_hash a.name ∷ [])
  taken_in space number attached all before one =
      All-append (λ h. IsTaken number attached (g space h)) all (name_hash a.name ∷ []) before
      (All-weaker (λ h. IsTaken number true (g space h)) (λ h. IsTaken number attached (g space h)) (λ h t. record { there = t.there; answers = λ on. t.answers refl }) (name_hash a.name ∷ []) one)

  listed_named : (b : Bool) (c : SpaceCell) → IsListed g c → (b ≡ true → AreTaken g c.ns c.cell.0 true (name_hash a.name ∷ [])) → IsListed g (cond b (record c { names = c.names ++ a ∷ [] }) c)
  listed_named false c listed more = listed
  listed_named true c listed more =
      let both = more refl in
      let all = hashes-more (stem_hash c.stem ∷ name_hashes Weak c.weak) c.names a in (
        subst (λ hs. All (λ h. IsTaken c.cell.0 (is_in Attached c) (g c.ns h)) hs) (sym all) (taken_in c.ns c.cell.0 (is_in Attached c) (hashes_of c) listed.0 both.0),
        subst (λ hs. All (λ h. IsTaken c.cell.0 (is_in Attached c) (g anywhere h)) hs) (sym all) (taken_in anywhere c.cell.0 (is_in Attached c) (hashes_of c) listed.1 both.1),
      )

module _ (present : SpacesState) (namespaces : List Namespace) (fresh : List SpaceCell) (f : ℕ → ℕ → Option Holder) (ahead : AreAhead present namespaces fresh f) where
  inside_named : (n : ℕ) (a : Alias) → All (λ c. c.ns < length namespaces) (with_name n a fresh)
  inside_named n a =
      All-map (λ (c : SpaceCell). c.ns < length namespaces) (take_name n a) fresh
      (All-weaker (λ (c : SpaceCell). c.ns < length namespaces) (λ (c : SpaceCell). (take_name n a c).ns < length namespaces) (λ c lt. subst (λ m. m < length namespaces) (sym (ns-take_name n a c)) lt) fresh ahead.kept.sound.inside)

  -- the index takes in the name, and the cell has it
  pub ahead_named : (g : ℕ → ℕ → Option Holder) (n ns : ℕ) (a : Alias) → ((c : SpaceCell) → cell_numbered fresh n ≡ Some c → c.ns ≡ ns) → Grows fresh n f g
      → AreTaken g ns n true (name_hash a.name ∷ []) → AreAhead present namespaces (with_name n a fresh) g
  ahead_named g n ns a of grows taken = record {
    same = ahead.same;
    kept = record {
      sound = record { rooted = ahead.kept.sound.rooted; few = ahead.kept.sound.few; inside = inside_named n a };
      rising = rising-map (take_name n a) (number-take_name n a) fresh ahead.kept.rising;
      whole = record {
        each =
            All-map (IsListed g) (take_name n a) fresh (λ k d lt.
            let c : SpaceCell = get_or fresh k d in
            listed_named g n ns a (is_numbered n c) c ((whole_more fresh ahead.kept.rising n f g grows ahead.kept.whole).each k d lt) (λ e.
            let there : c.ns ≡ ns = of c (numbered_there fresh k d n ahead.kept.rising lt e) in
            let number : c.cell.0 ≡ n = same_number c.cell.0 n e in
            subst (λ m. AreTaken g m c.cell.0 true (name_hash a.name ∷ [])) (sym there)
            (subst (λ m. AreTaken g ns m true (name_hash a.name ∷ [])) (sym number) taken)));
      };
    };
    attached =
        All-map (λ (c : SpaceCell). is_in Attached c ≡ true) (take_name n a) fresh
        (All-weaker (λ (c : SpaceCell). is_in Attached c ≡ true) (λ (c : SpaceCell). is_in Attached (take_name n a c) ≡ true) (λ c on. state-take_name n a c ∙ on) fresh ahead.attached);
  }

-- either the change was made, or there was no memory
pub either_way : {A E : Type 0} (P : List SpaceCell → Type 0) (r : Result A E) (items changed old : List SpaceCell) → OnOk r (items ≡ changed) → OnErr r (items ≡ old) → P changed → P old → P items
either_way P (Ok x) items changed old ok err p q = subst P (sym ok) p
either_way P (Err x) items changed old ok err p q = subst P (sym err) q

-- the found cell's namespace
pub ns_found : (cells : List SpaceCell) (n ns : ℕ) → option_map (λ c. c.ns) (cell_numbered cells n) ≡ Some ns → (c : SpaceCell) → cell_numbered cells n ≡ Some c → c.ns ≡ ns
ns_found cells n ns e c found = let same : Some c.ns ≡ Some ns = sym (ap (option_map (λ (d : SpaceCell). d.ns)) found) ∙ e in cc
