-- The number of an entry by its operands.
use Rattle.std.proofs.Common.{◌≡◌, ℕ, ◌&&◌, Bool, true, false, Option, Some, None, List, [], ◌∷◌, Result, Ok, refl, sym, ap, ◌∙◌, arith, inl, inr}
use Rattle.std.specs.Prelude.{ℤ, pos, ◌+ℤ◌, ◌-ℤ◌, find, option_map, option_and_then}
use Rattle.std.proofs.lemmas.Bool.{cases_Bool}
use Rattle.cell_num.specs.declared.kinds.RelKind.{RelKind}
use Rattle.cell_num.specs.Kinds.{is_pcrel_hi20, is_pcrel_lo12}
use Rattle.cell_reloc.specs.Relocation.{value_of, does_fit}
use Rattle.cell_reloc.specs.Value.{IsValue}
use Rattle.cell_reloc.specs.declared.values.Unfit.{Unfit}
use Rattle.cell_object.specs.declared.object.Entry.{Entry}
use Rattle.cell_object.specs.Parts.{label_of}
use Rattle.cell_world.specs.declared.state.NewCell.{NewCell}
use Rattle.cell_world.specs.Linked.Field.{Bound, bound_high_of, number_at, number_of, place_of}
use Rattle.cell_world.specs.Linked.Target.{address_of}
use Rattle.cell_link.specs.declared.numbers.Operands.{Operands}
use Rattle.cell_link.specs.Tables.{is_high_at, operands_of, number_by, IsNumber, IsNumberOf}

-- what the field holds doesn't decide whether the number fits
fits_any : (kind : RelKind) (s : ℕ) (a : ℤ) (p v w : ℕ) → does_fit kind (value_of kind s a p v) ≡ does_fit kind (value_of kind s a p w)
fits_any kind s a p v w = grind arith

high_value : (kind : RelKind) (s : ℕ) (a : ℤ) (p v : ℕ) → is_pcrel_hi20 kind ≡ true → value_of kind s a p v ≡ pos s +ℤ a -ℤ pos p
high_value kind s a p v h = grind arith

low_value : (kind : RelKind) (s : ℕ) (a : ℤ) (p v : ℕ) → is_pcrel_lo12 kind ≡ true → value_of kind s a p v ≡ pos s +ℤ a -ℤ pos p
low_value kind s a p v h = grind arith

low_fits : (kind : RelKind) (z : ℤ) → is_pcrel_lo12 kind ≡ true → does_fit kind z ≡ true
low_fits kind z h = grind arith

is_value : (r : Result ℕ Unfit) {a b : Bool} {y z : ℤ} → a ≡ b → y ≡ z → IsValue r a y → IsValue r b z
is_value r e f h = rw (← e, ← f) h

-- an entry of another kind than PCREL_LO12
pub number_plain : (c : NewCell) (bound : List Bound) (b : Bound) (v : ℕ) (r : Result ℕ Unfit)
    → is_pcrel_lo12 b.entry.kind ≡ false → IsNumberOf b.entry.kind (operands_of c b) v r → IsNumber c bound b v r
number_plain c bound b v r h is =
    is_value r (rw (h, number_of) (fits_any b.entry.kind (address_of b.target) b.entry.addend (place_of c b.entry) v 0)) (rw (h, number_of) refl) is

find_passes : {X : Type 0} (p : X → Bool) (xs : List X) (x : X) → find p xs ≡ Some x → p x ≡ true
find_passes p [] x e = absurd cc
find_passes {X = X} p (y ∷ ys) x e = elim (cases_Bool (p y)) [
  | inl h ↦ same y x (rw h at e) h
  | inr h ↦ find_passes p ys x (rw h at e)
]
  where
    same : (y x : X) → Some y ≡ Some x → p y ≡ true → p x ≡ true
    same y x e h = cc

-- the PCREL_HI20 entry that is found is one
high_kind : (c : NewCell) (bound : List Bound) (e : Entry) (h : Bound) → bound_high_of c bound e ≡ Some h → is_pcrel_hi20 h.entry.kind ≡ true
high_kind c bound e h found = go (label_of c.object e) found
  where
    first_of : (a b d : Bool) → (a && b && d) ≡ true → a ≡ true
    first_of true b d t = refl
    first_of false b d t = absurd cc

    go : (label : Option (ℕ × ℕ)) → option_and_then (λ l. find (is_high_at l) bound) label ≡ Some h → is_pcrel_hi20 h.entry.kind ≡ true
    go None g = absurd cc
    go (Some q) g = first_of _ _ _ (find_passes (is_high_at q) bound h g)

-- a PCREL_LO12 entry with the operands of its PCREL_HI20 entry
pub number_low : (c : NewCell) (bound : List Bound) (b : Bound) (v : ℕ) (o : Operands) (r : Result ℕ Unfit)
    → is_pcrel_lo12 b.entry.kind ≡ true → option_map (operands_of c) (bound_high_of c bound b.entry) ≡ Some o
    → IsNumberOf b.entry.kind o v r → IsNumber c bound b v r
number_low c bound b v o r h high is = go (bound_high_of c bound b.entry) (high_kind c bound b.entry) refl high
  where
    one_number : (x : Bound) → is_pcrel_hi20 x.entry.kind ≡ true → operands_of c x ≡ o → number_by b.entry.kind o v ≡ number_at c x v
    one_number x k same =
        ap (λ (p : Operands). number_by b.entry.kind p v) (sym same)
        ∙ low_value b.entry.kind (address_of x.target) x.entry.addend (place_of c x.entry) v h
        ∙ sym (high_value x.entry.kind (address_of x.target) x.entry.addend (place_of c x.entry) v k)

    go : (found : Option Bound) → ((x : Bound) → found ≡ Some x → is_pcrel_hi20 x.entry.kind ≡ true) → bound_high_of c bound b.entry ≡ found
        → option_map (operands_of c) found ≡ Some o → IsNumber c bound b v r
    go None kind_of is_found some = absurd cc
    go (Some x) kind_of is_found some =
        let same : number_at c x v ≡ number_of c bound b v = rw (h, number_of) (rw is_found refl) in
        is_value r (low_fits b.entry.kind _ h ∙ sym (low_fits b.entry.kind _ h)) (one_number x (kind_of x refl) (cc) ∙ same) is

-- a PCREL_LO12 entry without one
pub number_none : (c : NewCell) (bound : List Bound) (b : Bound) (v : ℕ)
    → is_pcrel_lo12 b.entry.kind ≡ true → option_map (operands_of c) (bound_high_of c bound b.entry) ≡ None
    → IsNumber c bound b v (Ok 0)
number_none c bound b v h high = go (bound_high_of c bound b.entry) refl high
  where
    go : (found : Option Bound) → bound_high_of c bound b.entry ≡ found → option_map (operands_of c) found ≡ None → IsNumber c bound b v (Ok 0)
    go None is_found none = (low_fits b.entry.kind _ h, rw (h, number_of) (rw is_found refl))
    go (Some x) is_found none = absurd cc

pub ruleset numbers = (number_plain, number_low, number_none)
