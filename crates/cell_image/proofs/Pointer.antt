-- The example can be written.
use Rattle.std.proofs.Common.{◌≡◌, ℕ, zero, suc, true≢false, [], ◌∷◌, refl, sym, subst, arith, lit<}
use Rattle.std.proofs.Math.Facts.{sfits_lit}
use Rattle.std.specs.Prelude.{slice_get, Some}
use Rattle.cell_object.specs.Before.{with_before}
use Rattle.cell_object.specs.Strings.{string_table}
use Rattle.cell_object.specs.Rows.{stored, fields, symbol_bytes, entry_bytes}
use Rattle.cell_object.specs.ImageParts.{padded, entries_for, relocated, symbols_part, symbol_strings, section_strings}
use Rattle.cell_object.specs.Writable.{IsStorableSection, IsStorableSymbol, IsStorableEntry, IsWritable}
use Rattle.cell_object.specs.Sound.{IsSoundObject}
use Rattle.cell_object.specs.Readable.{IsReadable, plain}
use Rattle.cell_image.specs.Example.{constants, defined, wanted, place, pointer}

-- what holds of the one element of a list
only : {X : Type 0} (P : ℕ → X → Type 0) (x : X) → P 0 x → (k : ℕ) (y : X) → slice_get (x ∷ []) k ≡ Some y → P k y
only P x h zero y e = let same : x ≡ y = cc in subst (P 0) same h
only P x h (suc k) y e = absurd cc

-- of each of two
both : {X : Type 0} (P : ℕ → X → Type 0) (x z : X) → P 0 x → P 1 z → (k : ℕ) (y : X) → slice_get (x ∷ z ∷ []) k ≡ Some y → P k y
both P x z h g zero y e = let same : x ≡ y = cc in subst (P 0) same h
both P x z h g (suc zero) y e = let same : z ≡ y = cc in subst (P 1) same g
both P x z h g (suc (suc k)) y e = absurd cc

section_is : IsStorableSection 0 constants
section_is = record { numbered = refl; name = refl; bare = λ e. absurd cc }

defined_is : IsStorableSymbol pointer 0 defined
defined_is = record {
  name = refl;
  first = λ h. absurd (omega (arith, h));
  last = λ h. refl;
  filed = λ h. absurd (true≢false (sym h));
  value = lit< tt;
  size = lit< tt;
}

wanted_is : IsStorableSymbol pointer 1 wanted
wanted_is = record {
  name = refl;
  first = λ h. absurd (omega (arith, h));
  last = λ h. refl;
  filed = λ h. absurd (true≢false (sym h));
  value = lit< tt;
  size = lit< tt;
}

pointer_sound : IsSoundObject (plain pointer)
pointer_sound = record { numbers = refl; sections = refl; symbols = refl; names = refl; entries = refl; apart = refl }

pointer_readable : IsReadable pointer
pointer_readable = record { sound = pointer_sound; bare = refl }

pub pointer_writable : IsWritable pointer
unfolding entries_for relocated with_before string_table symbol_strings section_strings symbols_part padded symbol_bytes entry_bytes fields stored
pointer_writable = record {
  readable = pointer_readable;
  sections = only IsStorableSection constants section_is;
  symbols = both (IsStorableSymbol pointer) defined wanted defined_is wanted_is;
  entries = only (λ k e. IsStorableEntry e) place (record { offset = lit< tt; symbol = lit< tt; addend = sfits_lit tt });
  fits = record { grouped = refl; headers = lit< tt; locals = lit< tt; texts = lit< tt; names = lit< tt; size = lit< tt };
}
