-- What the index answers for, after a change of it or of the cells.
use Rattle.std.proofs.Common.{◌≡◌, ℕ, zero, suc, ◌+◌, ◌*◌, ◌<◌, ◌≤◌, take, Bool, true, false, cond, List, [], ◌∷◌, ◌++◌, Some, None, length, get_or, inl, inr, refl, ap, sym, subst, ◌∙◌, arith}
use Rattle.std.specs.Map.{lookup}
use Rattle.std.specs.Prelude.{Option, Result, Ok, Err, OnOk, OnErr, ◌⊎◌, All, IsSome, is_some, slice_get, not, ◌&&◌, ◌||◌, ◌==◌, nat_eq}
use Rattle.std.proofs.lemmas.List.Elements.{All-append, All-filter, All-map, All-head, All-tail, All-same, All-push, All-cons, All-nil, All-weaker, All-take, All-more}
use Rattle.std.proofs.lemmas.List.{take_all, length-map}
use Rattle.cell_world.specs.World.{Alias}
use Rattle.cell_space.specs.Hash.{stem_hash}
use Rattle.cell_space.proofs.Apart.{take_next}
use Rattle.cell_world.specs.declared.state.Standing.TheVariants.{Attached, Detached}
use Rattle.cell_space.specs.declared.cell.SpaceCell.{SpaceCell}
use Rattle.cell_space.specs.declared.index.Index.{Index}
use Rattle.cell_space.specs.declared.index.Holder.{Holder}
use Rattle.cell_space.specs.declared.word.WordKind.{WordKind}
use Rattle.cell_space.specs.declared.index.Holder.TheVariants.{One, Many}
use Rattle.cell_space.specs.Named.{is_numbered, is_in, put_into, with_cell, with_state, without, cell_numbered}
use Rattle.cell_space.specs.Rising.{IsRising}
use Rattle.cell_space.specs.Index.{held, attached_at, claimed, may_be, IsTaken, Grows, AreHeld, AreTaken, IsCellTaken, IsListed, IsWhole, anywhere, hashes_of, name_hashes, word_hash}
use Rattle.cell_space.proofs.Changes.{All-with_cell, All-find}
use Rattle.cell_space.proofs.Rising.{attached_there, numbered_there, same_number, itself, left, right}

or_right : (b c : Bool) → c ≡ true → (b || c) ≡ true
or_right true c e = refl
or_right false c e = e

or_left : (b c : Bool) → b ≡ true → (b || c) ≡ true
or_left true c e = refl
or_left false c e = absurd (cc e)

pub grows_same : (cells : List SpaceCell) (n : ℕ) (f g : ℕ → ℕ → Option Holder) → ((m h : ℕ) → g m h ≡ f m h) → Grows cells n f g
grows_same cells n f g e = record {
  there = λ m h t. ap is_some (e m h) ∙ t;
  answers = λ m h other speaks o. ap (may_be other) (e m h) ∙ o;
}

pub grows_more : (cells : List SpaceCell) (n : ℕ) (f g k : ℕ → ℕ → Option Holder) → Grows cells n f g → Grows cells n g k → Grows cells n f k
grows_more cells n f g k a b = record {
  there = λ m h t. b.there m h (a.there m h t);
  answers = λ m h other speaks o. b.answers m h other speaks (a.answers m h other speaks o);
}

pub held_same : (old new : Index) → new.holders.entries ≡ old.holders.entries → (m h : ℕ) → held new m h ≡ held old m h
held_same old new e m h = ap (λ es. lookup (λ k. nat_eq m k.0 && nat_eq h k.1) es) e

module _ (cells : List SpaceCell) (n : ℕ) (attached : Bool) where
  -- whether it is the cell itself, and whether the other one is attached
  one_by : (a b : Bool) (e other : ℕ) → (other == n) ≡ a → (other == e) ≡ true → (e == n || b) ≡ true
      → may_be e (Some (cond (a || not b) (One n) (cond attached Many (One other)))) ≡ true
  one_by true b e other is own speaks = ap (λ m. m == e) (sym (same_number other n is)) ∙ own
  one_by false true e other is own speaks = by attached
    where
      by : (c : Bool) → may_be e (Some (cond c Many (One other))) ≡ true
      by true = refl
      by false = own
  one_by false false e other is own speaks = absurd (let on : (other == n) ≡ true = ap (λ m. m == n) (same_number other e own) ∙ only (e == n) speaks in cc (on, is))
    where
      only : (b : Bool) → (b || false) ≡ true → b ≡ true
      only true h = refl
      only false h = absurd (cc h)

  open_claimed : (o : Option Holder) (e : ℕ) → (e == n || attached_at cells e) ≡ true → may_be e o ≡ true → may_be e (Some (claimed cells n attached o)) ≡ true
  open_claimed None e speaks own = absurd (cc own)
  open_claimed (Some Many) e speaks own = refl
  open_claimed (Some (One other)) e speaks own =
      one_by (other == n) (attached_at cells other) e other refl own (ap (λ m. e == n || attached_at cells m) (same_number other e own) ∙ speaks)

  taken_by : (a b : Bool) (other : ℕ) → attached ≡ true → may_be n (Some (cond (a || not b) (One n) (cond attached Many (One other)))) ≡ true
  taken_by true b other on = itself n
  taken_by false true other on = ap (λ c. may_be n (Some (cond c Many (One other)))) on
  taken_by false false other on = itself n

  open_taken : (o : Option Holder) → attached ≡ true → may_be n (Some (claimed cells n attached o)) ≡ true
  open_taken None on = itself n
  open_taken (Some Many) on = refl
  open_taken (Some (One other)) on = taken_by (other == n) (attached_at cells other) other on

  pub taken_claimed : (o new : Option Holder) → new ≡ Some (claimed cells n attached o) → IsTaken n attached new
  taken_claimed o new e = record { there = ap is_some e; answers = λ on. ap (may_be n) e ∙ open_taken o on }

  module _ (f g : ℕ → ℕ → Option Holder) (ns hash : ℕ) where
    there_by : (b : Bool) (m h : ℕ) → g m h ≡ cond b (Some (claimed cells n attached (f ns hash))) (f m h) → IsSome (f m h) → IsSome (g m h)
    there_by true m h e t = ap is_some e
    there_by false m h e t = ap is_some e ∙ t

    open_by : (b : Bool) (m h e : ℕ) → (nat_eq ns m && nat_eq hash h) ≡ b → g m h ≡ cond b (Some (claimed cells n attached (f ns hash))) (f m h)
        → (e == n || attached_at cells e) ≡ true → may_be e (f m h) ≡ true → may_be e (g m h) ≡ true
    open_by true m h e is put speaks own =
        ap (may_be e) put
        ∙ open_claimed (f ns hash) e speaks
        (ap (may_be e) (ap (λ a. f a hash) (same_number ns m (left (nat_eq ns m) (nat_eq hash h) is)) ∙ ap (f m) (same_number hash h (right (nat_eq ns m) (nat_eq hash h) is))) ∙ own)
    open_by false m h e is put speaks own = ap (may_be e) put ∙ own

    pub grows_claimed : ((m h : ℕ) → g m h ≡ cond (nat_eq ns m && nat_eq hash h) (Some (claimed cells n attached (f ns hash))) (f m h)) → Grows cells n f g
    grows_claimed put = record {
      there = λ m h t. there_by (nat_eq ns m && nat_eq hash h) m h (put m h) t;
      answers = λ m h e speaks own. open_by (nat_eq ns m && nat_eq hash h) m h e refl (put m h) speaks own;
    }

    pub taken_put : ((m h : ℕ) → g m h ≡ cond (nat_eq ns m && nat_eq hash h) (Some (claimed cells n attached (f ns hash))) (f m h)) → IsTaken n attached (g ns hash)
    taken_put put =
        taken_claimed (f ns hash) (g ns hash)
        (put ns hash ∙ ap (λ b. cond b (Some (claimed cells n attached (f ns hash))) (f ns hash)) (ap (λ b. b && nat_eq hash hash) (itself ns) ∙ itself hash))

  -- the entry is put, or there is no memory and nothing changes
  module _ (old new : Index) (ns hash : ℕ) (holder : Holder) (is : holder ≡ claimed cells n attached (held old ns hash)) where
    abbrev Put : Type 0
    Put = (m h : ℕ) → held new m h ≡ cond (nat_eq ns m && nat_eq hash h) (Some holder) (held old m h)

    put_claimed : Put → (m h : ℕ) → held new m h ≡ cond (nat_eq ns m && nat_eq hash h) (Some (claimed cells n attached (held old ns hash))) (held old m h)
    put_claimed put m h = put m h ∙ ap (λ x. cond (nat_eq ns m && nat_eq hash h) (Some x) (held old m h)) is

    pub grows_put : {A E : Type 0} (r : Result A E) → OnOk r Put → OnErr r (new.holders.entries ≡ old.holders.entries) → Grows cells n (held old) (held new)
    grows_put (Ok x) put unchanged = grows_claimed (held old) (held new) ns hash (put_claimed put)
    grows_put (Err x) put unchanged = grows_same cells n (held old) (held new) (held_same old new unchanged)

    pub taken_ok : {A E : Type 0} (r : Result A E) → OnOk r Put → OnOk r (IsTaken n attached (held new ns hash))
    taken_ok (Ok x) put = taken_put (held old) (held new) ns hash (put_claimed put)
    taken_ok (Err x) put = put

  -- what is taken stays so
  pub taken_more : (f g : ℕ → ℕ → Option Holder) (ns h : ℕ) → Grows cells n f g → IsTaken n attached (f ns h) → IsTaken n attached (g ns h)
  taken_more f g ns h grows taken = record {
    there = grows.there ns h taken.there;
    answers = λ on. grows.answers ns h n (or_left (n == n) (attached_at cells n) (itself n)) (taken.answers on);
  }

module _ (cells : List SpaceCell) (rising : IsRising cells) where
  listed_more : (n : ℕ) (f g : ℕ → ℕ → Option Holder) (c : SpaceCell) → (is_in Attached c ≡ true → attached_at cells c.cell.0 ≡ true) → Grows cells n f g → IsListed f c → IsListed g c
  listed_more n f g c known grows listed = (all_in c.ns listed.0, all_in anywhere listed.1)
    where
      all_in : (ns : ℕ) → All (λ hash. IsTaken c.cell.0 (is_in Attached c) (f ns hash)) (hashes_of c) → All (λ hash. IsTaken c.cell.0 (is_in Attached c) (g ns hash)) (hashes_of c)
      all_in ns all = λ i h below.
          let taken = all i h below in
          let hash = get_or (hashes_of c) i h in
          record {
            there = grows.there ns hash taken.there;
            answers = λ on. grows.answers ns hash c.cell.0 (or_right (c.cell.0 == n) (attached_at cells c.cell.0) (known on)) (taken.answers on);
          }

  abbrev IsKnown : SpaceCell → Type 0
  IsKnown c = is_in Attached c ≡ true → attached_at cells c.cell.0 ≡ true

  all_known : All IsKnown cells
  all_known = λ k d lt on. attached_there cells k d rising lt on

  -- the cells that an index answers for, it answers for when it has grown
  pub whole_more : (n : ℕ) (f g : ℕ → ℕ → Option Holder) → Grows cells n f g → IsWhole f cells → IsWhole g cells
  whole_more n f g grows whole = record { each = λ k d lt. listed_more n f g (get_or cells k d) (all_known k d lt) grows (whole.each k d lt) }

  -- one more of the cells is taken in
  pub front_more : (n : ℕ) (f g : ℕ → ℕ → Option Holder) (i : ℕ) (d : SpaceCell) → i < length cells → Grows cells n f g → IsListed g (get_or cells i d) → All (IsListed f) (take i cells) → All (IsListed g) (take (i + 1) cells)
  front_more n f g i d lt grows one front =
      All-more (IsListed g) cells i d lt
      (λ k e below. listed_more n f g (get_or (take i cells) k e) (All-take IsKnown i cells all_known k e below) grows (front k e below)) one

  back_by : (f : ℕ → ℕ → Option Holder) (b : Bool) (c : SpaceCell) → (b ≡ true → IsCellTaken f true c) → IsListed f c → IsListed f (cond b (record c { state = Attached }) c)
  back_by f true c again listed = again refl
  back_by f false c again listed = listed

  -- a cell comes back that the index answers for as attached
  pub whole_back : (n : ℕ) (f : ℕ → ℕ → Option Holder) → ((c : SpaceCell) → cell_numbered cells n ≡ Some c → IsCellTaken f true c) → IsWhole f cells → IsWhole f (with_state Attached n cells)
  whole_back n f again whole = record {
    each =
        All-map (IsListed f) (put_into Attached n) cells (λ k d lt.
        let c = get_or cells k d in
        back_by f (is_numbered n c) c (λ e. again c (numbered_there cells k d n rising lt e)) (whole.each k d lt));
  }

aside_by : (f : ℕ → ℕ → Option Holder) (b : Bool) (group : ℕ) (c : SpaceCell) → IsListed f c → IsListed f (cond b (record c { state = Detached group }) c)
aside_by f true group c listed = (
  λ i h below. record { there = (listed.0 i h below).there; answers = λ on. absurd (cc on) },
  λ i h below. record { there = (listed.1 i h below).there; answers = λ on. absurd (cc on) },
)
aside_by f false group c listed = listed

pub whole_aside : (n group : ℕ) (f : ℕ → ℕ → Option Holder) (cells : List SpaceCell) → IsWhole f cells → IsWhole f (with_state (Detached group) n cells)
whole_aside n group f cells whole = record {
  each = All-map (IsListed f) (put_into (Detached group) n) cells (λ k d lt. aside_by f (is_numbered n (get_or cells k d)) group (get_or cells k d) (whole.each k d lt));
}

pub whole_with : (f : ℕ → ℕ → Option Holder) (c : SpaceCell) (cells : List SpaceCell) → IsListed f c → IsWhole f cells → IsWhole f (with_cell c cells)
whole_with f c cells listed whole = record { each = All-with_cell (IsListed f) c cells listed whole.each }

pub whole_without : (n : ℕ) (f : ℕ → ℕ → Option Holder) (cells : List SpaceCell) → IsWhole f cells → IsWhole f (without n cells)
whole_without n f cells whole = record { each = All-filter (λ c. not (is_numbered n c)) (IsListed f) cells whole.each }

-- a row at its place among the hashes
at_mapped : (kind : WordKind) (rows : List Alias) (i : ℕ) (row : Alias) → slice_get rows i ≡ Some row → slice_get (name_hashes kind rows) i ≡ Some (word_hash kind row.name)
at_mapped kind [] i row e = absurd (cc e)
at_mapped kind (a ∷ rows) zero row e = let same : a ≡ row = cc in ap (λ r. Some (word_hash kind r.name)) same
at_mapped kind (a ∷ rows) (suc i) row e = at_mapped kind rows i row e

module _ (P : ℕ → Type 0) (kind : WordKind) (rows : List Alias) where
  pub hashes_more : (i : ℕ) (row : Alias) → slice_get rows i ≡ Some row → All P (take i (name_hashes kind rows)) → P (word_hash kind row.name) → All P (take (i + 1) (name_hashes kind rows))
  hashes_more i row at all one =
      All-same P (take (i + 1) (name_hashes kind rows)) (take i (name_hashes kind rows) ++ word_hash kind row.name ∷ [])
      (take_next (name_hashes kind rows) i (word_hash kind row.name) (at_mapped kind rows i row at))
      (All-push P (take i (name_hashes kind rows)) (word_hash kind row.name) all one)

  pub hashes_end : (i : ℕ) → length rows ≤ i → All P (take i (name_hashes kind rows)) → All P (name_hashes kind rows)
  hashes_end i le all =
      All-same P (name_hashes kind rows) (take i (name_hashes kind rows))
      (sym (take_all i (name_hashes kind rows) (omega (arith, length-map rows (λ (a : Alias). word_hash kind a.name))))) all

  pub hash_in : (i : ℕ) (row : Alias) → slice_get rows i ≡ Some row → All P (name_hashes kind rows) → P (word_hash kind row.name)
  hash_in i row at all = by rows i row at all
    where
      by : (rs : List Alias) (j : ℕ) (r : Alias) → slice_get rs j ≡ Some r → All P (name_hashes kind rs) → P (word_hash kind r.name)
      by [] j r e h = absurd (cc e)
      by (a ∷ rs) zero r e h = let same : a ≡ r = cc in subst (λ (x : Alias). P (word_hash kind x.name)) same (All-head P (word_hash kind a.name) (name_hashes kind rs) h)
      by (a ∷ rs) (suc j) r e h = by rs j r e (All-tail P (word_hash kind a.name) (name_hashes kind rs) h)

-- the parts of two lists of hashes
module _ (P : ℕ → Type 0) where
  pub hashes_front : (xs ys : List ℕ) → All P (xs ++ ys) → All P xs
  hashes_front [] ys all = All-nil P
  hashes_front (h ∷ xs) ys all = All-cons P h xs (All-head P h (xs ++ ys) all) (hashes_front xs ys (All-tail P h (xs ++ ys) all))

  pub hashes_back : (xs ys : List ℕ) → All P (xs ++ ys) → All P ys
  hashes_back [] ys all = all
  hashes_back (h ∷ xs) ys all = hashes_back xs ys (All-tail P h (xs ++ ys) all)

module _ (cells : List SpaceCell) (n : ℕ) (f g : ℕ → ℕ → Option Holder) (ns : ℕ) (grows : Grows cells n f g) where
  -- the first names are taken in, and then the others
  pub rows_taken : (attached : Bool) (xs ys : List ℕ) → All (λ h. IsTaken n attached (f ns h)) xs → All (λ h. IsTaken n attached (g ns h)) ys → All (λ h. IsTaken n attached (g ns h)) (xs ++ ys)
  rows_taken attached xs ys front back =
      All-append (λ h. IsTaken n attached (g ns h)) xs ys
      (All-weaker (λ h. IsTaken n attached (f ns h)) (λ h. IsTaken n attached (g ns h)) (λ h t. taken_more cells n attached f g ns h grows t) xs front) back

  -- there is room for the others then, or they are there
  pub back_ready : (xs ys : List ℕ) (a b before now : ℕ) → before ≤ now + a → (a + b ≤ before) ⊎ All (λ h. IsSome (f ns h)) (xs ++ ys) → (b ≤ now) ⊎ All (λ h. IsSome (g ns h)) ys
  back_ready xs ys a b before now room (inl le) = inl (omega arith)
  back_ready xs ys a b before now room (inr all) =
      inr (All-weaker (λ h. IsSome (f ns h)) (λ h. IsSome (g ns h)) (λ h t. grows.there ns h t) ys (hashes_back (λ h. IsSome (f ns h)) xs ys all))

  pub names_more : (attached : Bool) (kind : WordKind) (rows : List Alias) (i : ℕ) (row : Alias) → slice_get rows i ≡ Some row → IsTaken n attached (g ns (word_hash kind row.name))
      → All (λ h. IsTaken n attached (f ns h)) (take i (name_hashes kind rows)) → All (λ h. IsTaken n attached (g ns h)) (take (i + 1) (name_hashes kind rows))
  names_more attached kind rows i row at one all =
      hashes_more (λ h. IsTaken n attached (g ns h)) kind rows i row at
      (All-weaker (λ h. IsTaken n attached (f ns h)) (λ h. IsTaken n attached (g ns h)) (λ h t. taken_more cells n attached f g ns h grows t) (take i (name_hashes kind rows)) all) one

  -- the stem is taken in, and then the names
  pub all_taken : (attached : Bool) (stem : List ℕ) (rows : List ℕ) → IsTaken n attached (f ns (stem_hash stem)) → All (λ h. IsTaken n attached (g ns h)) rows → All (λ h. IsTaken n attached (g ns h)) (stem_hash stem ∷ rows)
  all_taken attached stem rows one all =
      All-cons (λ h. IsTaken n attached (g ns h)) (stem_hash stem) rows (taken_more cells n attached f g ns (stem_hash stem) grows one) all

  -- there is room for the next name, or it is there
  pub name_ready : (kind : WordKind) (rows : List Alias) (i : ℕ) (row : Alias) (before now : ℕ) → slice_get rows i ≡ Some row → i < length rows → before ≤ now + i
      → (length rows ≤ before) ⊎ All (λ h. IsSome (f ns h)) (name_hashes kind rows) → (0 < now) ⊎ IsSome (g ns (word_hash kind row.name))
  name_ready kind rows i row before now at lt room (inl le) = inl (omega arith)
  name_ready kind rows i row before now at lt room (inr all) = inr (grows.there ns (word_hash kind row.name) (hash_in (λ h. IsSome (f ns h)) kind rows i row at all))

  pub names_ready : (stem : List ℕ) (rows : List ℕ) (count before now : ℕ) → before ≤ now + 1
      → (count < before) ⊎ All (λ h. IsSome (f ns h)) (stem_hash stem ∷ rows) → (count ≤ now) ⊎ All (λ h. IsSome (g ns h)) rows
  names_ready stem rows count before now room (inl lt) = inl (omega arith)
  names_ready stem rows count before now room (inr all) =
      inr (All-weaker (λ h. IsSome (f ns h)) (λ h. IsSome (g ns h)) (λ h t. grows.there ns h t) rows (All-tail (λ h. IsSome (f ns h)) (stem_hash stem) rows all))

-- a cell is taken in anywhere, and then in its namespace
module _ (cells : List SpaceCell) (n : ℕ) (f g : ℕ → ℕ → Option Holder) (ns : ℕ) (grows : Grows cells n f g) (all : List ℕ) where
  pub both_taken : (attached : Bool) → All (λ h. IsTaken n attached (f anywhere h)) all → All (λ h. IsTaken n attached (g ns h)) all → AreTaken g ns n attached all
  both_taken attached first second = (second, All-weaker (λ h. IsTaken n attached (f anywhere h)) (λ h. IsTaken n attached (g anywhere h)) (λ h t. taken_more cells n attached f g anywhere h grows t) all first)

  pub second_ready : (count before now : ℕ) → before ≤ now + count + 1 → (2 * count + 1 < before) ⊎ AreHeld f ns all → (count < now) ⊎ All (λ h. IsSome (g ns h)) all
  second_ready count before now room (inl lt) = inl (omega arith)
  second_ready count before now room (inr held) = inr (All-weaker (λ h. IsSome (f ns h)) (λ h. IsSome (g ns h)) (λ h t. grows.there ns h t) all held.0)

pub first_ready : (f : ℕ → ℕ → Option Holder) (ns : ℕ) (all : List ℕ) (count before : ℕ) → (2 * count + 1 < before) ⊎ AreHeld f ns all → (count < before) ⊎ All (λ h. IsSome (f anywhere h)) all
first_ready f ns all count before (inl lt) = inl (omega arith)
first_ready f ns all count before (inr held) = inr held.1

pub front_ready : (f : ℕ → ℕ → Option Holder) (ns : ℕ) (xs ys : List ℕ) (a b before : ℕ) → (a + b ≤ before) ⊎ All (λ h. IsSome (f ns h)) (xs ++ ys) → (a ≤ before) ⊎ All (λ h. IsSome (f ns h)) xs
front_ready f ns xs ys a b before (inl le) = inl (omega arith)
front_ready f ns xs ys a b before (inr all) = inr (hashes_front (λ h. IsSome (f ns h)) xs ys all)

pub stem_ready : (f : ℕ → ℕ → Option Holder) (ns : ℕ) (stem : List ℕ) (rows : List ℕ) (count before : ℕ)
    → (count < before) ⊎ All (λ h. IsSome (f ns h)) (stem_hash stem ∷ rows) → (0 < before) ⊎ IsSome (f ns (stem_hash stem))
stem_ready f ns stem rows count before (inl lt) = inl (omega arith)
stem_ready f ns stem rows count before (inr all) = inr (All-head (λ h. IsSome (f ns h)) (stem_hash stem) rows all)

pub ok_more : {A E : Type 0} (r : Result A E) (P Q : Type 0) → (P → Q) → OnOk r P → OnOk r Q
ok_more (Ok x) P Q more p = more p
ok_more (Err e) P Q more p = p

-- a cell that the index answers for has its hashes there
pub again_ready : (f : ℕ → ℕ → Option Holder) (cells : List SpaceCell) (n : ℕ) (c : SpaceCell) → IsWhole f cells → cell_numbered cells n ≡ Some c → AreHeld f c.ns (hashes_of c)
again_ready f cells n c whole found =
    let listed : IsListed f c = All-find (IsListed f) (is_numbered n) cells c whole.each found in
    (λ i h below. (listed.0 i h below).there, λ i h below. (listed.1 i h below).there)

number_by : (b : Bool) (d c : SpaceCell) (n : ℕ) (rest : Option SpaceCell) → is_numbered n d ≡ b → (rest ≡ Some c → c.cell.0 ≡ n) → cond b (Some d) rest ≡ Some c → c.cell.0 ≡ n
number_by true d c n rest is later e = let found : d ≡ c = cc in ap (λ (x : SpaceCell). x.cell.0) (sym found) ∙ same_number d.cell.0 n is
number_by false d c n rest is later e = later e

pub found_number : (cells : List SpaceCell) (n : ℕ) (c : SpaceCell) → cell_numbered cells n ≡ Some c → c.cell.0 ≡ n
found_number [] n c e = absurd (cc e)
found_number (d ∷ cells) n c e = number_by (is_numbered n d) d c n (cell_numbered cells n) refl (found_number cells n c) e

pub again_taken : (g : ℕ → ℕ → Option Holder) (cells : List SpaceCell) (n : ℕ) (c : SpaceCell) → cell_numbered cells n ≡ Some c → IsCellTaken g true c
    → (d : SpaceCell) → cell_numbered cells n ≡ Some d → IsCellTaken g true d
again_taken g cells n c found taken d other = let same : c ≡ d = cc in subst (IsCellTaken g true) same taken
