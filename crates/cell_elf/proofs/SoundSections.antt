-- What the rules leave true of the sections of an object.
use Rattle.std.proofs.Common.{◌≡◌, ℕ, ◌+◌, ◌-◌, ◌<◌, ◌≤◌, refl, sym, subst, arith, ◌⊎◌, inl, inr, Bool, true, false, not, ◌||◌, ◌&&◌, List, [], ◌∷◌, ◌++◌, length, Some, Ok, drop, length-take-le, length-drop}
use Rattle.std.specs.Prelude.{◌==◌, ◌^◌, nat_lt, nat_le, unwrap_or, if◌then◌else◌}
use Rattle.std.specs.List.{find, list_any, list_all, range_with_len, slice_range}
use Rattle.std.proofs.lemmas.Bool.Decides.{nat_tests}
use Rattle.cell_num.specs.Lists.{each_pair, upto, In}
use Rattle.cell_object.specs.declared.headers.SectionHeader.{SectionHeader}
use Rattle.cell_object.specs.declared.object.Section.{Section}
use Rattle.cell_object.specs.declared.object.Fill.TheVariants.{Prog, Note}
use Rattle.cell_object.specs.Bytes.{string_at, checked, between}
use Rattle.cell_object.specs.Header.{file_header, section_place, section_header}
use Rattle.cell_object.specs.Sections.{is_alloc, is_nobits, is_note, has_flag, is_alignment, section_bytes, section_names, section_rules, sections_rules, rule_8, rule_9, rule_10, rule_11, rule_12}
use Rattle.cell_object.specs.Reads.{fill_of, loaded_section, loaded_sections}
use Rattle.cell_object.specs.Sound.{is_zero, is_sound_section}
use Rattle.cell_elf.specs.Loadable.{Loadable}
use Rattle.cell_num.proofs.Ranges.{In-one, In-range, find-range, pairs-range}
use Rattle.cell_num.proofs.Elements.{In-all}
use Rattle.cell_elf.proofs.Loads.{checked-both, not_broken, loadable, round_passed}

pub yes_or_no : (b : Bool) → (b ≡ true) ⊎ (b ≡ false)
yes_or_no true = inl refl
yes_or_no false = inr refl

-- a loaded section, as an object has it
abbrev pub section_from : List ℕ → ℕ → Section
section_from file n =
    let h = section_header file n in
    record {
      number = n;
      name = unwrap_or (string_at h.sh_name (section_names file)) [];
      write = has_flag 1 h;
      exec = has_flag 4 h;
      fill = fill_of h;
      align = if h.sh_addralign == 0 then 1 else h.sh_addralign;
      size = h.sh_size;
      bytes = if is_nobits h then [] else section_bytes file h;
    }

pub loaded_is : (file : List ℕ) (n : ℕ) → is_alloc (section_header file n) ≡ true → loaded_section file n ≡ section_from file n ∷ []
unfolding loaded_section
loaded_is file n e = rw e refl

loaded_none : (file : List ℕ) (n : ℕ) → is_alloc (section_header file n) ≡ false → loaded_section file n ≡ []
unfolding loaded_section
loaded_none file n e = rw e refl

loaded_at : (file : List ℕ) (n : ℕ) (s : Section) → In s (loaded_section file n) → (is_alloc (section_header file n) ≡ true) × (s ≡ section_from file n)
loaded_at file n s i = elim (yes_or_no (is_alloc (section_header file n))) [
  | inl a ↦ (a, In-one s (section_from file n) (subst (λ (xs : List Section). In s xs) (loaded_is file n a) i))
  | inr b ↦ absurd (subst (λ (xs : List Section). In s xs) (loaded_none file n b) i)
]

lt_true : (m n : ℕ) → m < n → nat_lt m n ≡ true
lt_true m n h = grind (arith, nat_tests)

le_true : (m n : ℕ) → m ≤ n → nat_le m n ≡ true
le_true m n h = grind (arith, nat_tests)

eq_true : (m n : ℕ) → m ≡ n → (m == n) ≡ true
eq_true m n h = grind (arith, nat_tests)

eq_false : (m n : ℕ) → m < n → (m == n) ≡ false
eq_false m n h = grind (arith, nat_tests)

pub in_range : (k n : ℕ) → 1 ≤ n → n < 1 + (k - 1) → n < k
in_range k n h l = omega arith

pub range_in : (k n : ℕ) → 1 ≤ n → n < k → n < 1 + (k - 1)
range_in k n h l = omega arith

-- the numbers of the loaded sections rise
pub numbers_rise : (file : List ℕ) → each_pair (λ a b. nat_lt a.number b.number) (loaded_sections file) ≡ true
unfolding between
numbers_rise file =
    pairs-range (λ a b. nat_lt a.number b.number) (loaded_section file) ((file_header file).e_shnum - 1) 1 (λ n low high. alone n)
    (λ m n x y low less high i j. across m n x y less (loaded_at file m x i).1 (loaded_at file n y j).1)
  where
    alone : (n : ℕ) → each_pair (λ a b. nat_lt a.number b.number) (loaded_section file n) ≡ true
    alone n = elim (yes_or_no (is_alloc (section_header file n))) [
      | inl a ↦ rw (loaded_is file n a) refl
      | inr b ↦ rw (loaded_none file n b) refl
    ]

    across : (m n : ℕ) (x y : Section) → m < n → x ≡ section_from file m → y ≡ section_from file n → nat_lt x.number y.number ≡ true
    across m n x y less e f = rw (e, f) (lt_true m n less)

unmixed_of : (alloc unknown write exec : Bool) → (alloc && (unknown || write && exec)) ≡ false → alloc ≡ true → not (write && exec) ≡ true
unmixed_of true true write exec e a = absurd cc
unmixed_of true false true true e a = absurd cc
unmixed_of true false true false e a = refl
unmixed_of true false false exec e a = refl
unmixed_of false unknown write exec e a = absurd cc

-- a loaded section isn't both writable and executable
unmixed : (file : List ℕ) (n : ℕ) → checked (section_rules file n) ≡ Ok tt → is_alloc (section_header file n) ≡ true
    → not (has_flag 1 (section_header file n) && has_flag 4 (section_header file n)) ≡ true
unfolding section_rules
unmixed file n e a =
    let h = section_header file n in
    let at = section_place file n in
    let p8 = checked-both (rule_8 file at h) (rule_9 file at h ++ (rule_10 file n at h ++ (rule_11 at h ++ rule_12 at h))) e in
    let p9 = checked-both (rule_9 file at h) (rule_10 file n at h ++ (rule_11 at h ++ rule_12 at h)) p8.1 in
    let p10 = checked-both (rule_10 file n at h) (rule_11 at h ++ rule_12 at h) p9.1 in
    let p11 = checked-both (rule_11 at h) (rule_12 at h) p10.1 in
    unmixed_of (is_alloc h) _ (has_flag 1 h) (has_flag 4 h) (not_broken _ _ _ p11.0) a

power : (align : ℕ) → is_alignment align ≡ true → list_any (λ k. (if align == 0 then 1 else align) == 2 ^ k) (upto 13) ≡ true
power align e = go (align == 0) e
  where
    go : (b : Bool) → (b || list_any (λ k. align == 2 ^ k) (range_with_len 0 13)) ≡ true → list_any (λ k. (if b then 1 else align) == 2 ^ k) (upto 13) ≡ true
    go true e = refl
    go false e = e

kept_length : (file : List ℕ) (from size : ℕ) → from + size ≤ length file → length (slice_range file from (from + size)) ≡ size
kept_length file from size h =
    let e : (from + size) - from ≡ size = omega arith in
    let k : size ≤ length (drop from file) = rw (length-drop from file) (omega arith) in
    rw e (length-take-le size (drop from file) k)

filled : (file : List ℕ) (h : SectionHeader) → (is_nobits h ≡ false → h.sh_offset + h.sh_size ≤ length file)
    → (is_zero (fill_of h) || length (if is_nobits h then [] else section_bytes file h) == h.sh_size) ≡ true
filled file h inside = elim (yes_or_no (is_nobits h)) [
  | inl a ↦ rw a refl
  | inr b ↦ rw b (kept (is_zero (if is_note h then Note else Prog)) (eq_true _ _ (kept_length file h.sh_offset h.sh_size (inside b))))
]
  where
    kept : (a : Bool) → (length (section_bytes file h) == h.sh_size) ≡ true → (a || length (section_bytes file h) == h.sh_size) ≡ true
    kept true e = refl
    kept false e = e

pub and_three : (a b c : Bool) → a ≡ true → b ≡ true → c ≡ true → (a && b && c) ≡ true
and_three a b c p q r = rw (p, q, r) refl

pub and_four : (a b c d : Bool) → a ≡ true → b ≡ true → c ≡ true → d ≡ true → (a && b && c && d) ≡ true
and_four a b c d p q r s = rw (p, q, r, s) refl

section_sound : (file : List ℕ) (n : ℕ) → checked (section_rules file n) ≡ Ok tt → is_alloc (section_header file n) ≡ true → is_sound_section (section_from file n) ≡ true
section_sound file n e a =
    let h = section_header file n in
    let fits : Loadable file h = loadable file n e a in
    and_four _ _ _ _ (unmixed file n e a) (power h.sh_addralign fits.aligned) (le_true h.sh_size 16777216 fits.small) (filled file h fits.inside)

-- each loaded section is sound
pub sections_sound : (file : List ℕ) → checked (sections_rules file) ≡ Ok tt → list_all is_sound_section (loaded_sections file) ≡ true
unfolding between
sections_sound file passed =
    let count = (file_header file).e_shnum in
    In-all is_sound_section (loaded_sections file) (λ s i.
    let at = In-range (loaded_section file) (count - 1) 1 s i in
    let is = loaded_at file at.0 s at.3 in
    let rules = round_passed (section_rules file) 1 at.0 count passed at.1 (in_range count at.0 at.1 at.2) in
    subst (λ (v : Section). is_sound_section v ≡ true) (sym is.1) (section_sound file at.0 rules is.0))

-- the loaded section of a number
pub section_found : (file : List ℕ) (n : ℕ) → 1 ≤ n → n < (file_header file).e_shnum → is_alloc (section_header file n) ≡ true
    → find (λ s. s.number == n) (loaded_sections file) ≡ Some (section_from file n)
unfolding between
section_found file n from there a =
    let count = (file_header file).e_shnum in
    find-range (λ s. s.number == n) (loaded_section file) (count - 1) 1 n (section_from file n) from (range_in count n from there) (loaded_is file n a) (eq_true n n refl)
    (λ m y less i. other m y less (loaded_at file m y i).1)
  where
    other : (m : ℕ) (y : Section) → m < n → y ≡ section_from file m → (y.number == n) ≡ false
    other m y less e = rw e (eq_false m n less)

-- a section number more has 16 bits
pub numbers_below : (file : List ℕ) → (file_header file).e_shnum ≤ 65279 → list_all (λ s. nat_lt s.number 65535) (loaded_sections file) ≡ true
unfolding between
numbers_below file few =
    let count = (file_header file).e_shnum in
    In-all (λ (s : Section). nat_lt s.number 65535) (loaded_sections file) (λ s i.
    let at = In-range (loaded_section file) (count - 1) 1 s i in
    let is = loaded_at file at.0 s at.3 in
    subst (λ (v : Section). nat_lt v.number 65535 ≡ true) (sym is.1) (below at.0 (in_range count at.0 at.1 at.2)))
  where
    below : (n : ℕ) → n < (file_header file).e_shnum → nat_lt n 65535 ≡ true
    below n h = lt_true n 65535 (omega (arith, h, few))
