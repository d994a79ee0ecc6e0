-- What entries name, one after another.
use Rattle.std.proofs.Common.{◌≡◌, refl, sym, ◌∙◌, ap, ap₂, subst, arith, ℕ, suc, ◌+◌, ◌<◌, Bool, true, false, cond, List, [], ◌∷◌, ◌++◌, length, get_or, map, take, length-take-le}
use Rattle.std.specs.Prelude.{Option, Some, None, option_and_then, option_map, position, slice_get, unwrap_or}
use Rattle.std.specs.List.{position_from}
use Rattle.std.proofs.lemmas.Iterator.Adapters.{position_from-zero}
use Rattle.std.proofs.lemmas.List.{map_more, take_more}
use Rattle.cell_num.specs.Kinds.{is_pcrel_lo12}
use Rattle.cell_num.specs.Lists.{or_else, where_true}
use Rattle.cell_audit.specs.Linking.{is_lacking, lacks_provider}
use Rattle.cell_object.specs.declared.object.Entry.{Entry}
use Rattle.cell_object.specs.declared.object.Object.{Object}
use Rattle.cell_object.specs.declared.object.Symbol.{Symbol}
use Rattle.cell_object.specs.Parts.{high_of}
use Rattle.cell_world.specs.Linked.Target.{numbered_target, symbol_target, target_of}
use Rattle.cell_world.specs.World.{Cell, World}
use Rattle.cell_world.specs.declared.state.Target.{Target}
use Rattle.cell_world.specs.declared.state.Target.TheVariants.{Number}
use Rattle.cell_relinked.specs.Entries.{lacks_numbered}

abbrev by_kind : Bool → Object → Entry → Option Entry
by_kind true object e = high_of object e
by_kind false object e = Some e

naming_is : (b : Bool) (object : Object) (e : Entry) → by_kind b object e ≡ elim b [ true ↦ high_of object e | false ↦ Some e ]
naming_is true object e = refl
naming_is false object e = refl

module _ (w : World) (c : Cell) where
  abbrev of_entry : Option Entry → Option Target
  of_entry o = option_and_then (λ (n : Entry). numbered_target w c n.symbol) o

  pub target_plain : (e : Entry) → is_pcrel_lo12 e.kind ≡ false → numbered_target w c e.symbol ≡ target_of w c e
  target_plain e k = sym (ap of_entry (ap (λ (b : Bool). by_kind b c.object e) k)) ∙ ap of_entry (naming_is (is_pcrel_lo12 e.kind) c.object e)

  pub target_high : (e : Entry) → is_pcrel_lo12 e.kind ≡ true → of_entry (high_of c.object e) ≡ target_of w c e
  target_high e k = sym (ap of_entry (ap (λ (b : Bool). by_kind b c.object e) k)) ∙ ap of_entry (naming_is (is_pcrel_lo12 e.kind) c.object e)

  -- ---- a symbol by its number
  module _ (number place : ℕ) (is : number ≡ suc place) where
    pub target_found : (s : Symbol) → slice_get c.object.symbols place ≡ Some s → symbol_target w c s s.home ≡ numbered_target w c number
    target_found s at =
        sym (ap (option_and_then (λ (x : Symbol). symbol_target w c x x.home)) at) ∙ sym (ap (numbered_target w c) is)

    pub lacking_found : (s : Symbol) → slice_get c.object.symbols place ≡ Some s → is_lacking w c s ≡ lacks_numbered w c number
    lacking_found s at =
        sym (ap (λ (o : Option Symbol). unwrap_or (option_map (is_lacking w c) o) false) at) ∙ sym (ap (lacks_numbered w c) is)

    pub target_missing : slice_get c.object.symbols place ≡ None → None ≡ numbered_target w c number
    target_missing at = sym (ap (option_and_then (λ (x : Symbol). symbol_target w c x x.home)) at) ∙ sym (ap (numbered_target w c) is)

    pub lacking_missing : slice_get c.object.symbols place ≡ None → false ≡ lacks_numbered w c number
    lacking_missing at = sym (ap (λ (o : Option Symbol). unwrap_or (option_map (is_lacking w c) o) false) at) ∙ sym (ap (lacks_numbered w c) is)

-- ---- the first place of those so far
module _ {X : Type 0} (p : X → Bool) where
  from_behind : (k : ℕ) (xs : List X) (x : X) → position_from p k (xs ++ x ∷ []) ≡ or_else (position_from p k xs) (where_true (p x) (k + length xs))
  from_behind k [] x = go (p x)
    where
      go : (b : Bool) → cond b (Some k) None ≡ where_true b (k + 0)
      go true = ap (λ (n : ℕ). Some n) (let n : k ≡ k + 0 = omega arith in n)
      go false = refl
  from_behind k (y ∷ xs) x = go (p y) (from_behind (k + 1) xs x)
    where
      go : (b : Bool) → position_from p (k + 1) (xs ++ x ∷ []) ≡ or_else (position_from p (k + 1) xs) (where_true (p x) (k + 1 + length xs))
          → cond b (Some k) (position_from p (k + 1) (xs ++ x ∷ [])) ≡ or_else (cond b (Some k) (position_from p (k + 1) xs)) (where_true (p x) (k + suc (length xs)))
      go true ih = refl
      go false ih =
          ih
          ∙ ap (λ (n : ℕ). or_else (position_from p (k + 1) xs) (where_true (p x) n)) (let n : k + 1 + length xs ≡ k + suc (length xs) = omega arith in n)

  pub position_more : (xs : List X) (i : ℕ) (d : X) → i < length xs → or_else (position p (take i xs)) (where_true (p (get_or xs i d)) i) ≡ position p (take (i + 1) xs)
  position_more xs i d lt =
      let size = length-take-le i xs (omega (arith, lt)) in
      ap (λ (o : Option ℕ). or_else o (where_true (p (get_or xs i d)) i)) (position_from-zero p (take i xs))
      ∙ (ap (λ (n : ℕ). or_else (position_from p 0 (take i xs)) (where_true (p (get_or xs i d)) n)) (let n : i ≡ 0 + length (take i xs) = omega (arith, size) in n)
      ∙ (sym (from_behind 0 (take i xs) (get_or xs i d))
      ∙ (ap (position_from p 0) (sym (take_more xs i d lt)) ∙ sym (position_from-zero p (take (i + 1) xs)))))

-- one more entry
module _ (w : World) (c : Cell) (read xs : List Entry) (same : read ≡ xs) (i : ℕ) (d : Entry) (lt : i < length read) where
  here : get_or read i d ≡ get_or xs i d
  here = ap (λ (es : List Entry). get_or es i d) same

  inside : i < length xs
  inside = subst (λ (es : List Entry). i < length es) same lt

  abbrev of_one : Entry → Target
  of_one e = unwrap_or (target_of w c e) (Number 0)

  pub named_more : (old new : List Target) (t : Target) (o : Option Target) → new ≡ old ++ t ∷ [] → t ≡ unwrap_or o (Number 0) → o ≡ target_of w c (get_or read i d)
      → old ≡ map (λ (e : Entry). unwrap_or (target_of w c e) (Number 0)) (take i xs) → new ≡ map (λ (e : Entry). unwrap_or (target_of w c e) (Number 0)) (take (i + 1) xs)
  named_more old new t o added is known far =
      added
      ∙ (ap₂ (λ (ts : List Target) (x : Target). ts ++ x ∷ []) far (is ∙ ap (λ (p : Option Target). unwrap_or p (Number 0)) (known ∙ ap (target_of w c) here))
      ∙ sym (map_more (λ (e : Entry). unwrap_or (target_of w c e) (Number 0)) xs i d inside))

  pub lacking_more : (first : Option ℕ) (is_one : Bool) → is_one ≡ lacks_provider w c (get_or read i d) → first ≡ position (lacks_provider w c) (take i xs)
      → or_else first (where_true is_one i) ≡ position (lacks_provider w c) (take (i + 1) xs)
  lacking_more first is_one is far =
      ap₂ (λ (o : Option ℕ) (b : Bool). or_else o (where_true b i)) far (is ∙ ap (lacks_provider w c) here)
      ∙ position_more (lacks_provider w c) xs i d inside
