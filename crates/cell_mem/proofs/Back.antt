-- Putting back what a write displaced is a write into the one region that covers the address, where it has all the bytes.
use Rattle.std.proofs.Common.{◌≡◌, ℕ, ◌+◌, ◌-◌, ◌<◌, ◌≤◌, Bool, true, false, cond, List, [], ◌∷◌, Option, Some, None, map, leb, refl, sym, ap, ◌∙◌, arith}
use Rattle.std.specs.Borrow.{Bor}
use Rattle.std.specs.Prelude.{is_some, option_and_then, option_map, slice_range}
use Rattle.std.specs.List.{find}
use Rattle.std.proofs.lemmas.Bool.{leb-true, le-leb}
use Rattle.cell_num.specs.Bits.{bytes_of}
use Rattle.cell_num.specs.Lists.{where_true}
use Rattle.cell_world.specs.declared.transfer.Record.{Record}
use Rattle.cell_world.specs.World.{Region}
use Rattle.cell_world.specs.Running.Memory.{covers, end_of, part_of, written}
use Rattle.cell_world.specs.Running.Undo.{put_back, put_back_in, put_in}
use Rattle.cell_mem.specs.Index.{IsLaid}
use Rattle.cell_mem.specs.State.{MemoryState, bytes_at, write_at}
use Rattle.cell_mem.specs.Writing.{put}
use Rattle.cell_mem.proofs.Laid.{covers_high, find_here, find_skip, not_below}
use Rattle.cell_mem.proofs.Writes.{untouched}

module _ (x : Record) where
  abbrev before : List ℕ
  before = bytes_of x.width x.before

  abbrev over : Region → Region
  over r = written r x.addr before

  written_off : (r : Region) → covers r x.addr ≡ false → over r ≡ r
  written_off r c = ap (λ b. cond b (put x.addr before r) r) c

  back_off : (r : Region) → covers r x.addr ≡ false → put_back_in x r ≡ r
  back_off r c = go (leb (x.addr + x.width) (end_of r))
    where
      go : (b : Bool) → cond b (over r) r ≡ r
      go true = written_off r c
      go false = refl

  back_untouched : (low : ℕ) (rs : List Region) (high : ℕ) → IsLaid low rs high → x.addr < low → map (put_back_in x) rs ≡ rs
  back_untouched low [] high h lt = refl
  back_untouched low (r ∷ rs) high h lt =
      ap (λ s. s ∷ map (put_back_in x) rs) (back_off r (not_below r x.addr (omega (arith, h.0))))
      ∙ ap (λ ss. r ∷ ss) (back_untouched (end_of r) rs high h.2 (omega (arith, h.0)))

  abbrev all_back : List Region → List Region
  all_back rs = map (put_back_in x) rs

  -- where the region that covers the address has all the bytes
  back_fits : (low : ℕ) (rs : List Region) (high : ℕ) → IsLaid low rs high → ((r : Region) → find (λ s. covers s x.addr) rs ≡ Some r → x.addr + x.width ≤ end_of r)
      → map over rs ≡ all_back rs
  back_fits low [] high h fits = refl
  back_fits low (r ∷ rs) high h fits = go (covers r x.addr) refl (back_fits (end_of r) rs high h.2)
    where
      go : (b : Bool) → covers r x.addr ≡ b → (((s : Region) → find (λ t. covers t x.addr) rs ≡ Some s → x.addr + x.width ≤ end_of s) → map over rs ≡ all_back rs)
          → map over (r ∷ rs) ≡ all_back (r ∷ rs)
      go true c rest =
          let below = covers_high r x.addr c in
          ap (λ ss. over r ∷ ss) (untouched (end_of r) rs high x.addr before h.2 below ∙ sym (back_untouched (end_of r) rs high h.2 below))
          ∙ ap (λ b. cond b (over r) r ∷ all_back rs) (sym (le-leb (x.addr + x.width) (end_of r) (fits r (find_here (λ s. covers s x.addr) r rs c))))
      go false c rest =
          ap (λ s. s ∷ map over rs) (written_off r c ∙ sym (back_off r c))
          ∙ ap (λ ss. put_back_in x r ∷ ss) (rest (λ s e. fits s (find_skip (λ t. covers t x.addr) r rs c ∙ e)))

  -- where it hasn't
  back_short : (low : ℕ) (rs : List Region) (high : ℕ) → IsLaid low rs high → ((r : Region) → find (λ s. covers s x.addr) rs ≡ Some r → leb (x.addr + x.width) (end_of r) ≡ false)
      → rs ≡ all_back rs
  back_short low [] high h short = refl
  back_short low (r ∷ rs) high h short = go (covers r x.addr) refl (back_short (end_of r) rs high h.2)
    where
      go : (b : Bool) → covers r x.addr ≡ b → (((s : Region) → find (λ t. covers t x.addr) rs ≡ Some s → leb (x.addr + x.width) (end_of s) ≡ false) → rs ≡ all_back rs)
          → r ∷ rs ≡ all_back (r ∷ rs)
      go true c rest =
          ap (λ ss. r ∷ ss) (sym (back_untouched (end_of r) rs high h.2 (covers_high r x.addr c)))
          ∙ ap (λ b. cond b (over r) r ∷ all_back rs) (sym (short r (find_here (λ s. covers s x.addr) r rs c)))
      go false c rest =
          ap (λ ss. r ∷ ss) (rest (λ s e. short s (find_skip (λ t. covers t x.addr) r rs c ∙ e)))
          ∙ ap (λ s. s ∷ all_back rs) (sym (back_off r c))

module _ (m : MemoryState) (x : Record) (high : ℕ) (laid : IsLaid m.base m.regions high) where
  abbrev part : Region → Option (List ℕ)
  part r = part_of r x.addr x.width

  has_part : (r : Region) (b : Bool) → leb (x.addr + x.width) (end_of r) ≡ b → is_some (part r) ≡ b
  has_part r b e = go b e
    where
      bytes : List ℕ
      bytes = slice_range r.bytes (x.addr - r.start) (x.addr - r.start + x.width)

      go : (b : Bool) → leb (x.addr + x.width) (end_of r) ≡ b → is_some (part r) ≡ b
      go true e = ap (λ c. is_some (where_true c bytes)) e
      go false e = ap (λ c. is_some (where_true c bytes)) e

  abbrev found : Option Region
  found = find (λ s. covers s x.addr) m.regions

  fits_of : (b : Bool) → is_some (bytes_at m x.addr x.width) ≡ b → (r : Region) → found ≡ Some r → leb (x.addr + x.width) (end_of r) ≡ b
  fits_of b e r f = go (leb (x.addr + x.width) (end_of r)) refl (sym (ap (λ o. is_some (option_and_then part o)) f) ∙ e)
    where
      go : (c : Bool) → leb (x.addr + x.width) (end_of r) ≡ c → is_some (part r) ≡ b → leb (x.addr + x.width) (end_of r) ≡ b
      go c l t = l ∙ sym (has_part r c l) ∙ t

  -- where all the bytes are mapped
  pub back_there : is_some (bytes_at m x.addr x.width) ≡ true → put_in m.regions (write_at x.addr x.width x.before) ≡ put_back m.regions x
  back_there e = back_fits x m.base m.regions high laid (λ r f. leb-true (x.addr + x.width) (end_of r) (fits_of true e r f))

  -- and where they aren't
  pub back_gone : is_some (bytes_at m x.addr x.width) ≡ false → m.regions ≡ put_back m.regions x
  back_gone e = back_short x m.base m.regions high laid (λ r f. fits_of false e r f)

-- whether there are bytes, seen through a loan
pub are_there : (o : Option (Bor (List ℕ))) (b : Bool) (bytes : Option (List ℕ)) → option_map (λ x. x.now) o ≡ bytes → b ≡ is_some o → is_some bytes ≡ b
are_there None b bytes e t = ap is_some (sym e) ∙ sym t
are_there (Some x) b bytes e t = ap is_some (sym e) ∙ sym t
