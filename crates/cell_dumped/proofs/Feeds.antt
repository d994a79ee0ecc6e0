-- No line's text has a line feed.
use Rattle.std.proofs.Common.{◌≡◌, refl, arith, ℕ, ◌<◌, true, false, List, [], ◌∷◌, ◌++◌, inl, inr, length, Option, Some, None}
use Rattle.std.specs.Prelude.{◌/◌, ◌%◌, IfSome, codes, nat_le, nat_lt, ◌==◌}
use Rattle.std.specs.Fmt.{decimal}
use Rattle.std.specs.List.{flat_map, list_all}
use Rattle.std.proofs.lemmas.Bool.Decides.{nat_tests}
use Rattle.cell_num.specs.Lists.{In}
use Rattle.cell_num.proofs.Elements.{All-In}
use Rattle.cell_object.specs.Symbols.{is_global_name, is_name_byte as is_visible_byte}
use Rattle.cell_text.specs.Number.{hex, hex_byte, is_hex_digit}
use Rattle.cell_world.specs.declared.line.DumpLine.{DumpLine}
use Rattle.cell_world.specs.declared.line.DumpLine.TheVariants.{Space, Ns, Cell as CellLine, Place, Alias as AliasLine, Link, Provider, Content, End}
use Rattle.cell_dumped.specs.Readings.{Word}
use Rattle.cell_script.specs.Grammar.{is_file, is_name, is_name_byte}
use Rattle.cell_dumped.specs.Texts.{group_words, joined, line_text, parent_word, part_word}
use Rattle.cell_dumped.specs.Writable.{IsWritable, SmallNumber}
use Rattle.cell_dumped.proofs.Says.{Lacks, decimal_lacks, glyph_hex, hex_apart, hex_lacks, lacks_by, lacks_joined, part_lacks, third}

name_byte_apart : (b : ℕ) → is_name_byte b ≡ true → (b == 10) ≡ false
name_byte_apart b h = grind (arith, nat_tests)

visible_apart : (b : ℕ) → is_visible_byte b ≡ true → (b == 10) ≡ false
visible_apart b h = grind (arith, nat_tests)

name_feedless : (word : Word) → is_name word ≡ true → Lacks 10 word
name_feedless word h = lacks_by is_name_byte 10 word name_byte_apart (third (nat_lt 0 (length word)) (nat_le (length word) 64) (list_all is_name_byte word) h)

file_feedless : (word : Word) → is_file word ≡ true → Lacks 10 word
file_feedless word h = lacks_by is_visible_byte 10 word visible_apart (third (nat_lt 0 (length word)) (nat_le (length word) 255) (list_all is_visible_byte word) h)

symbol_feedless : (word : Word) → is_global_name word ≡ true → Lacks 10 word
symbol_feedless word h = lacks_by is_visible_byte 10 word visible_apart (third (nat_le 1 (length word)) (nat_le (length word) 1024) (list_all is_visible_byte word) h)

bytes_feedless : (bytes : List ℕ) → ((b : ℕ) → In b bytes → b < 256) → Lacks 10 (flat_map hex_byte bytes)
bytes_feedless bytes f = lacks_by is_hex_digit 10 (flat_map hex_byte bytes) (λ b k. hex_apart 10 b (omega arith) k) (go bytes f)
  where
    go : (bs : List ℕ) → ((b : ℕ) → In b bs → b < 256) → list_all is_hex_digit (flat_map hex_byte bs) ≡ true
    go [] f = refl
    go (b ∷ bs) f =
        rw (glyph_hex (b / 16) (let l = f b (inl refl) in omega (arith, l)), glyph_hex (b % 16) (omega arith), go bs (λ c i. f c (inr i))) refl

parent_feedless : (p : Option ℕ) → IfSome p SmallNumber → Lacks 10 (parent_word p)
parent_feedless None h = refl
parent_feedless (Some n) h = decimal_lacks 10 n (omega arith) h

abbrev AllFeedless : List Word → Type 0
AllFeedless [] = Unit {0}
AllFeedless (word ∷ words) = Lacks 10 word × AllFeedless words

group_feedless : (g : Option ℕ) → IfSome g SmallNumber → AllFeedless (group_words g)
group_feedless None h = (refl, tt)
group_feedless (Some n) h = (refl, (decimal_lacks 10 n (omega arith) h, tt))

joined_feedless : (word : Word) (words : List Word) → AllFeedless (word ∷ words) → Lacks 10 (joined (word ∷ words))
joined_feedless word words h = lacks_joined 10 word (flat_map (λ w. 32 ∷ w) words) h.0 (go words h.1)
  where
    go : (ws : List Word) → AllFeedless ws → Lacks 10 (flat_map (λ w. 32 ∷ w) ws)
    go [] h = refl
    go (w ∷ ws) h = lacks_joined 10 w (flat_map (λ w. 32 ∷ w) ws) h.0 (go ws h.1)

pub text_feedless : (l : DumpLine) → IsWritable l → Lacks 10 (line_text l)
text_feedless (Space base pages) h = joined_feedless (codes "space") (hex base ∷ decimal pages ∷ []) (refl, (hex_lacks 10 base (omega arith) h.0, (decimal_lacks 10 pages (omega arith) h.1, tt)))
text_feedless (Ns n called p) h = joined_feedless (codes "ns") (decimal n ∷ called ∷ parent_word p ∷ []) (refl, (decimal_lacks 10 n (omega arith) h.0, (name_feedless called h.1, (parent_feedless p h.2, tt))))
text_feedless (CellLine c ns stem called g) h =
    joined_feedless (codes "cell") (decimal c ∷ decimal ns ∷ stem ∷ called ∷ group_words g)
    (refl, (decimal_lacks 10 c (omega arith) h.0, (decimal_lacks 10 ns (omega arith) h.1, (name_feedless stem h.2, (file_feedless called h.3, group_feedless g h.4)))))
text_feedless (Place c s start) h =
    joined_feedless (codes "place") (decimal c ∷ decimal s ∷ hex start ∷ []) (refl, (decimal_lacks 10 c (omega arith) h.0, (decimal_lacks 10 s (omega arith) h.1, (hex_lacks 10 start (omega arith) h.2, tt))))
text_feedless (AliasLine c k called) h =
    joined_feedless (codes "alias") (decimal c ∷ decimal k ∷ called ∷ []) (refl, (decimal_lacks 10 c (omega arith) h.0, (decimal_lacks 10 k (omega arith) h.1, (symbol_feedless called h.2, tt))))
text_feedless (Link user entry target) h =
    joined_feedless (codes "link") (part_word user ∷ decimal entry ∷ part_word target ∷ []) (refl, (part_lacks 10 user (omega arith) h.0, (decimal_lacks 10 entry (omega arith) h.1, (part_lacks 10 target (omega arith) h.2, tt))))
text_feedless (Provider ns called at offset) h =
    joined_feedless (codes "name") (decimal ns ∷ called ∷ (part_word at ++ codes "+" ++ hex offset) ∷ []) (
      refl,
      (
        decimal_lacks 10 ns (omega arith) h.0,
        (
          symbol_feedless called h.1,
          (lacks_joined 10 (part_word at ++ codes "+") (hex offset) (lacks_joined 10 (part_word at) (codes "+") (part_lacks 10 at (omega arith) h.2) refl) (hex_lacks 10 offset (omega arith) h.3), tt),
        ),
      ),
    )
text_feedless (Content at addr bytes) h =
    joined_feedless (codes "bytes") (part_word at ∷ hex addr ∷ flat_map hex_byte bytes ∷ [])
    (refl, (part_lacks 10 at (omega arith) h.0, (hex_lacks 10 addr (omega arith) h.1, (bytes_feedless bytes (All-In (λ (b : ℕ). b < 256) bytes h.2), tt))))
text_feedless End h = refl
