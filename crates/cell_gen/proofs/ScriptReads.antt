-- What the generated script says.
use Rattle.std.proofs.Common.{◌≡◌, refl, ap, ap₂, sym, ◌∙◌, arith, ℕ, zero, suc, ◌+◌, ◌*◌, ◌<◌, ◌≤◌, ◌^◌, ◌||◌, ◌==◌, Bool, true, false, not, List, [], ◌∷◌, ◌++◌, length, length-append, take, drop, map, append_assoc}
use Rattle.std.specs.Prelude.{Some, Ok, Option, codes, flat_map, option_and_then, unwrap_or}
use Rattle.std.specs.Char.{is_ascii_digit}
use Rattle.std.specs.Fmt.{decimal}
use Rattle.std.specs.List.{range_with_len}
use Rattle.std.proofs.lemmas.Bool.Decides.{nat_tests}
use Rattle.std.proofs.lemmas.List.Splits.{slice_split_none}
use Rattle.std.proofs.Math.Seq.{take-append_seam, drop-append-add}
use Rattle.cell_object.specs.Symbols.{is_name_byte as is_visible_byte}
use Rattle.cell_text.specs.Text.{lines_in}
use Rattle.cell_world.specs.declared.command.Command.{Command}
use Rattle.cell_world.specs.declared.command.Command.TheVariants.{Load, Swap, Purge}
use Rattle.cell_world.specs.declared.command.SwapItem.{SwapItem}
use Rattle.cell_script.specs.Grammar.{is_name, is_name_byte, is_file, is_equals, first_equals, cell_part, file_part, swap_item, swap_words, swap_items, swap_of, item_count, item_called, cell_called, cell_name, both, file, usual_budget}
use Rattle.cell_script.specs.Script.{add_line, does, reading_of, script_from, script_of}
use Rattle.cell_script.specs.declared.line.Line.{Line}
use Rattle.cell_script.specs.declared.command.Reading.TheVariants.{Does}
use Rattle.cell_gen.specs.Generated.{crates_to, load_text, swap_text, load_command, swap_command, line_numbered, lines_behind, generated_script, generated_lines}
use Rattle.cell_gen.proofs.Decimals.{IsShortNumeral, digits_pass, digits_before, is_word, short_decimal}
use Rattle.cell_gen.proofs.Pieces.{lacks, pieces-at, pieces_none, position_at, lacks_all}

-- the tests by which lines and words are cut
abbrev is_blank : ℕ → Bool
is_blank b = b == 32 || b == 9

abbrev is_line_feed : ℕ → Bool
is_line_feed b = b == 10

name_digit : (b : ℕ) → is_ascii_digit b ≡ true → is_name_byte b ≡ true
name_digit b h = grind (arith, nat_tests)

visible_digit : (b : ℕ) → is_ascii_digit b ≡ true → is_visible_byte b ≡ true
visible_digit b h = grind (arith, nat_tests)

no_blank : (b : ℕ) → is_ascii_digit b ≡ true → not (is_blank b) ≡ true
no_blank b h = grind (arith, nat_tests)

no_line_feed : (b : ℕ) → is_ascii_digit b ≡ true → not (is_line_feed b) ≡ true
no_line_feed b h = grind (arith, nat_tests)

no_equals : (b : ℕ) → is_ascii_digit b ≡ true → not (is_equals b) ≡ true
no_equals b h = grind (arith, nat_tests)

no_slash : (b : ℕ) → is_ascii_digit b ≡ true → not (b == 47) ≡ true
no_slash b h = grind (arith, nat_tests)

-- one item and no option
module _ (word : List ℕ) (item : SwapItem) where
  abbrev swap_counted : ℕ → Option Command
  swap_counted n = option_and_then (swap_of (drop n (word ∷ []))) (swap_items (take n (word ∷ [])))

  abbrev swap_said : Option SwapItem → Option Command
  swap_said said = option_and_then (swap_of []) (option_and_then (λ x. Some (x ∷ [])) said)

  one_item : (i : ℕ) → first_equals word ≡ Some i → swap_item word ≡ Some item → swap_words (word ∷ []) ≡ Some (Swap (item ∷ []) false false [] usual_budget)
  one_item i sign said =
      let count : item_count (word ∷ []) ≡ 1 = rw sign refl in
      ap swap_counted count ∙ ap swap_said said

module _ (d : List ℕ) (h : IsShortNumeral d) where
  abbrev crate : List ℕ
  crate = codes "g" ++ d

  is_name-crate : is_name crate ≡ true
  is_name-crate = is_word is_name_byte 64 crate (omega arith) (omega (arith, h.few)) (digits_pass is_name_byte d name_digit h)

  pub load_reads : reading_of (codes "load k g" ++ d) ≡ Does (Load (codes "k") crate)
  load_reads = rw (pieces_none is_blank d (digits_pass (λ b. not (is_blank b)) d no_blank h), is_name-crate) refl

  abbrev replacing : List ℕ
  replacing = codes "n#g" ++ (d ++ codes "-2.o")

  abbrev cell_word : List ℕ
  cell_word = codes "k/g" ++ d

  is_file-replacing : is_file replacing ≡ true
  is_file-replacing =
      is_word is_visible_byte 255 replacing (omega arith) (omega (arith, h.few, length-append d (codes "-2.o")))
      (digits_before is_visible_byte d (codes "-2.o") visible_digit h refl)

  abbrev item_word : List ℕ
  item_word = cell_word ++ (codes "=" ++ replacing)

  equals_sign : first_equals item_word ≡ Some (length cell_word)
  equals_sign = position_at is_equals cell_word 61 replacing (digits_pass (λ b. not (is_equals b)) d no_equals h) refl

  abbrev item : SwapItem
  item = record { ns = codes "k"; stem = crate; file = replacing }

  abbrev cut_at : Option ℕ → ℕ
  cut_at o = unwrap_or o (length item_word)

  cell_part_is : cell_part item_word ≡ cell_word
  cell_part_is = ap (λ o. take (cut_at o) item_word) equals_sign ∙ take-append_seam cell_word (61 ∷ replacing)

  file_part_is : file_part item_word ≡ replacing
  file_part_is = ap (λ o. drop (cut_at o + 1) item_word) equals_sign ∙ drop-append-add cell_word (61 ∷ replacing) 1

  cell_said : cell_name cell_word ≡ Some (cell_called (codes "k") crate)
  cell_said = rw (slice_split_none (λ b. b == 47) d (lacks_all (λ b. b == 47) d (digits_pass (λ b. not (b == 47)) d no_slash h)), is_name-crate) refl

  abbrev item_of : List ℕ → List ℕ → Option SwapItem
  item_of cell file_name = both cell_name file item_called (cell ∷ file_name ∷ [])

  item_says : swap_item item_word ≡ Some item
  item_says = ap₂ item_of cell_part_is file_part_is ∙ rw (cell_said, is_file-replacing) refl

  pub swap_reads : reading_of (codes "swap " ++ item_word) ≡ Does (Swap (item ∷ []) false false [] usual_budget)
  swap_reads =
      rw (pieces_none is_blank (d ++ (codes "=" ++ replacing)) (digits_before (λ b. not (is_blank b)) d (codes "=" ++ replacing) no_blank h (digits_before (λ b. not (is_blank b)) d (codes "-2.o") no_blank h refl)))
      (ap does (one_item item_word item (length cell_word) equals_sign item_says))

-- the text is a line that says the command, and a line feed
record Says (text : List ℕ) (command : Command) : Type 0 where
  pub line : List ℕ
  pub is : text ≡ line ++ 10 ∷ []
  pub plain : lacks is_line_feed line ≡ true
  pub reading : reading_of line ≡ Does command

load_says : (i : ℕ) → i < 2 ^ 32 → Says (load_text i) (load_command i)
load_says i small =
    let h = short_decimal i small in
    record {
      line = codes "load k g" ++ decimal i;
      is = refl;
      plain = digits_pass (λ b. not (is_line_feed b)) (decimal i) no_line_feed h;
      reading = load_reads (decimal i) h;
    }

swap_says : (i : ℕ) → i < 2 ^ 32 → Says (swap_text i) (swap_command i)
swap_says i small =
    let h = short_decimal i small in
    record {
      line = codes "swap " ++ item_word (decimal i) h;
      is = ap (λ x. codes "swap k/g" ++ x) (sym (append_assoc (decimal i) (codes "=" ++ replacing (decimal i) h) (10 ∷ [])));
      plain = digits_before (λ b. not (is_line_feed b)) (decimal i) (codes "=" ++ replacing (decimal i) h) no_line_feed h
          (digits_before (λ b. not (is_line_feed b)) (decimal i) (codes "-2.o") no_line_feed h refl);
      reading = swap_reads (decimal i) h;
    }

one_line : (text rest : List ℕ) (command : Command) (m : ℕ) (lines : List Line) → Says text command
    → script_from (m + 1) (lines_in rest) ≡ Ok lines → script_from m (lines_in (text ++ rest)) ≡ Ok (line_numbered m command ∷ lines)
one_line text rest command m lines s later =
    let front : text ++ rest ≡ s.line ++ 10 ∷ rest = ap (λ t. t ++ rest) s.is ∙ append_assoc s.line (10 ∷ []) rest in
    ap (λ t. script_from m (lines_in t)) front
    ∙ ap (script_from m) (pieces-at is_line_feed s.line 10 rest s.plain refl)
    ∙ ap₂ (add_line m) s.reading later

module _ (text : ℕ → List ℕ) (command : ℕ → Command) (before : ℕ) (rest : List ℕ) (last : List Line) where
  many_lines : (k a m end : ℕ) → m ≡ before + a → end ≡ before + (a + k) → ((i : ℕ) → a ≤ i → i < a + k → Says (text i) (command i))
      → script_from end (lines_in rest) ≡ Ok last
      → script_from m (lines_in (flat_map text (range_with_len a k) ++ rest)) ≡ Ok (map (λ i. line_numbered (before + i) (command i)) (range_with_len a k) ++ last)
  many_lines zero a m end at ends says later =
      let same : m ≡ end = omega arith in
      ap (λ x. script_from x (lines_in rest)) same ∙ later
  many_lines (suc k) a m end at ends says later =
      let lines = map (λ i. line_numbered (before + i) (command i)) (range_with_len (a + 1) k) ++ last in
      ap (λ t. script_from m (lines_in t)) (append_assoc (text a) (flat_map text (range_with_len (a + 1) k)) rest)
      ∙ one_line (text a) (flat_map text (range_with_len (a + 1) k) ++ rest) (command a) m lines (says a (omega arith) (omega arith))
      (many_lines k (a + 1) (m + 1) end (omega arith) (omega arith) (λ i low high. says i (omega arith) (omega arith)) later)
      ∙ ap (λ x. Ok (line_numbered x (command a) ∷ lines)) at

pub script_reads : (n : ℕ) → n ≤ 400 → script_of (generated_script n) ≡ Ok (generated_lines n)
script_reads n few =
    let purge : script_from (2 * n + 1) (lines_in (codes "purge\n")) ≡ Ok (line_numbered (2 * n + 1) Purge ∷ []) = refl in
    let swaps = many_lines swap_text swap_command n (codes "purge\n") (line_numbered (2 * n + 1) Purge ∷ []) n 1 (n + 1) (2 * n + 1) refl (omega arith)
    (λ i low high. swap_says i (omega arith)) purge in
    ap (λ t. script_from 1 (lines_in t)) (append_assoc (flat_map load_text (crates_to n)) (flat_map swap_text (crates_to n)) (codes "purge\n"))
    ∙ many_lines load_text load_command 0 (flat_map swap_text (crates_to n) ++ codes "purge\n") (lines_behind n swap_command n ++ line_numbered (2 * n + 1) Purge ∷ [])
    n 1 1 (n + 1) refl (omega arith) (λ i low high. load_says i (omega arith)) swaps
    ∙ ap Ok (sym (append_assoc (lines_behind 0 load_command n) (lines_behind n swap_command n) (line_numbered (2 * n + 1) Purge ∷ [])))
