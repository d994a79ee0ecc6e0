-- Entries that are passed over.
use Rattle.std.proofs.Common.{◌≡◌, ℕ, zero, suc, ◌+◌, ◌-◌, ◌*◌, ◌<◌, ◌≤◌, true, List, [], ◌++◌, refl, sym, ap, ◌∙◌, subst, arith}
use Rattle.std.specs.List.{flat_map}
use Rattle.std.proofs.lemmas.List.{append-nil}
use Rattle.cell_num.specs.Kinds.{is_passed_over}
use Rattle.cell_object.specs.Bytes.{between}
use Rattle.cell_object.specs.declared.headers.SectionHeader.{SectionHeader}
use Rattle.cell_object.specs.Relocations.{rela_row_at, rela_row, entry_place, entry_of, entries_below, entry_rules, pair_rules, slot_rules}
use Rattle.cell_file.specs.Cover.{IsSkip}
use Rattle.cell_object.proofs.Between.{flat_map-between-more}
use Rattle.cell_elf.proofs.Tables.{passed_over_none, entry_rules_passed}
use Rattle.cell_elf.proofs.LastPass.{pair_rules_none}
use Rattle.cell_elf.proofs.SlotPass.{slot_rules_none}

-- where entries are passed over, they give nothing
pub skipped : {X : Type 0} (f : ℕ → List X) (n a b : ℕ) → b ≡ a + n → ((k : ℕ) → a ≤ k → k < b → f k ≡ []) → flat_map f (between 0 b) ≡ flat_map f (between 0 a)
skipped f zero a b e none = ap (λ m. flat_map f (between 0 m)) (let same : b ≡ a = omega (arith, e) in same)
skipped {X = X} f (suc n) a b e none =
    let m : ℕ = a + n in
    let same : b ≡ m + 1 = omega (arith, e) in
    let last : f m ≡ [] = none m (omega arith) (omega (arith, same)) in
    ap (λ i. flat_map f (between 0 i)) same
    ∙ flat_map-between-more f 0 m (omega arith)
    ∙ ap (λ xs. flat_map f (between 0 m) ++ xs) last
    ∙ append-nil (flat_map f (between 0 m))
    ∙ skipped f n a m refl (λ k low high. none k low (omega (arith, same)))

-- the entries from a to b - 1 of a table are passed over
abbrev pub ArePassed : List ℕ → SectionHeader → ℕ → ℕ → Type 0
ArePassed file h a b = (k : ℕ) → a ≤ k → k < b → is_passed_over (rela_row file h k).r_type ≡ true

-- from the place of an entry on
pub skips_rows : (file : List ℕ) (h : SectionHeader) (a count at b : ℕ) → at ≡ entry_place h a → IsSkip file at count → b ≤ a + count → ArePassed file h a b
skips_rows file h a count at b e s few k low high =
    let same : entry_place h k ≡ at + 24 * (k - a) = omega (arith, e) in
    subst (λ (p : ℕ). is_passed_over (rela_row_at p file).r_type ≡ true) (sym same) (s (k - a) (omega arith))

pub skips_none : (file : List ℕ) (h : SectionHeader) (a b : ℕ) → b ≤ a → ArePassed file h a b
skips_none file h a b e k low high = absurd (omega arith)

entry_none : (file : List ℕ) (h : SectionHeader) (k : ℕ) → is_passed_over (rela_row file h k).r_type ≡ true → entry_of file h k ≡ []
unfolding entry_of
entry_none file h k e = rw (passed_over_none (rela_row file h k).r_type e) refl

pub rules_skipped : (file : List ℕ) (h : SectionHeader) (a b : ℕ) → a ≤ b → ArePassed file h a b → flat_map (entry_rules file h) (between 0 b) ≡ flat_map (entry_rules file h) (between 0 a)
rules_skipped file h a b le p = skipped (entry_rules file h) (b - a) a b (omega arith) (λ k low high. entry_rules_passed file h k (p k low high))

pub entries_skipped : (file : List ℕ) (h : SectionHeader) (a b : ℕ) → a ≤ b → ArePassed file h a b → entries_below file h b ≡ entries_below file h a
entries_skipped file h a b le p = skipped (entry_of file h) (b - a) a b (omega arith) (λ k low high. entry_none file h k (p k low high))

pub pairs_skipped : (file : List ℕ) (h : SectionHeader) (a b : ℕ) → a ≤ b → ArePassed file h a b → flat_map (pair_rules file h) (between 0 b) ≡ flat_map (pair_rules file h) (between 0 a)
pairs_skipped file h a b le p =
    skipped (pair_rules file h) (b - a) a b (omega arith) (λ k low high. pair_rules_none file h k (passed_over_none (rela_row file h k).r_type (p k low high)))

pub slots_skipped : (file : List ℕ) (h : SectionHeader) (a b : ℕ) → a ≤ b → ArePassed file h a b → flat_map (slot_rules file h) (between 0 b) ≡ flat_map (slot_rules file h) (between 0 a)
slots_skipped file h a b le p =
    skipped (slot_rules file h) (b - a) a b (omega arith) (λ k low high. slot_rules_none file h k (passed_over_none (rela_row file h k).r_type (p k low high)))

pub ruleset rows = (skips_none)
