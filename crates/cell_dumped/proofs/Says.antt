-- The text of a line says the line.
use Rattle.std.proofs.Common.{◌≡◌, refl, sym, ◌∙◌, ap, subst, arith, ℕ, zero, suc, ◌<◌, inl, inr, Bool, true, false, cond, not, ◌||◌, ◌&&◌, List, [], ◌∷◌, ◌++◌, length, true≢false, Option, Some, None, append_assoc}
use Rattle.std.specs.Prelude.{◌/◌, ◌%◌, ◌^◌, IfSome, All, codes, nat_lt, nat_le, ◌==◌}
use Rattle.std.specs.Char.{digit_value, is_ascii_digit}
use Rattle.std.specs.Fmt.{decimal, digit_glyph}
use Rattle.std.specs.List.{flat_map, list_all, list_any, onto_first, slice_split}
use Rattle.std.specs.Str.Parse.{digits_value}
use Rattle.std.proofs.lemmas.Bool.{and_parts, eq-eqb}
use Rattle.std.proofs.lemmas.Bool.Decides.{nat_tests}
use Rattle.std.proofs.lemmas.List.{append-nil}
use Rattle.cell_num.specs.Lists.{In}
use Rattle.cell_num.proofs.Elements.{All-In}
use Rattle.cell_object.specs.Symbols.{is_global_name, is_name_byte as is_visible_byte}
use Rattle.cell_text.specs.Number.{are_digits, are_hex_digits, has_leading_zero, hex, hex_byte, hex_number_in, is_hex_digit}
use Rattle.cell_text.specs.Text.{is_filled}
use Rattle.cell_text.proofs.Decimal.{and_parts as three_parts, digits_value-decimal, is_canonical-decimal, small_number}
use Rattle.cell_text.proofs.Hexadecimal.{is_canonical_hex-hex, small_hex, value-hex}
use Rattle.cell_world.specs.declared.line.DumpLine.{DumpLine}
use Rattle.cell_world.specs.declared.line.DumpLine.TheVariants.{Space, Ns, Cell as CellLine, Place, Alias as AliasLine, Link, Provider, Content, End}
use Rattle.cell_world.specs.declared.line.Part.{Part}
use Rattle.cell_dumped.specs.Readings.{Word, around, byte_values, forms, group, line_said, number, parent, part, said_by, said_in, two}
use Rattle.cell_script.specs.Grammar.{is_file, is_name, is_name_byte}
use Rattle.cell_dumped.specs.Texts.{group_words, joined, line_text, parent_word, part_word}
use Rattle.cell_dumped.specs.Writable.{IsWritable, IsWritablePart, SmallNumber}

abbrev pub Lacks : ℕ → Word → Type 0
Lacks sep word = list_any (λ b. b == sep) word ≡ false

or_none : (a b : Bool) → (a || b) ≡ false → (a ≡ false) × (b ≡ false)
or_none true b e = absurd (true≢false e)
or_none false b e = (refl, e)

split_alone : (sep : ℕ) (word : Word) → Lacks sep word → slice_split (λ b. b == sep) word ≡ word ∷ []
split_alone sep [] h = refl
split_alone sep (b ∷ word) h =
    let p = or_none (b == sep) (list_any (λ c. c == sep) word) h in
    ap (λ (t : Bool). cond t ([] ∷ slice_split (λ c. c == sep) word) (onto_first b (slice_split (λ c. c == sep) word))) p.0
    ∙ ap (onto_first b) (split_alone sep word p.1)

pub split_front : (sep : ℕ) (word rest : Word) → Lacks sep word → slice_split (λ b. b == sep) (word ++ sep ∷ rest) ≡ word ∷ slice_split (λ b. b == sep) rest
split_front sep [] rest h = ap (λ (t : Bool). cond t ([] ∷ slice_split (λ c. c == sep) rest) (onto_first sep (slice_split (λ c. c == sep) rest))) (eq-eqb sep sep refl)
split_front sep (b ∷ word) rest h =
    let p = or_none (b == sep) (list_any (λ c. c == sep) word) h in
    ap (λ (t : Bool). cond t ([] ∷ slice_split (λ c. c == sep) (word ++ sep ∷ rest)) (onto_first b (slice_split (λ c. c == sep) (word ++ sep ∷ rest)))) p.0
    ∙ ap (onto_first b) (split_front sep word rest p.1)

abbrev AllLack : List Word → Type 0
AllLack [] = Unit {0}
AllLack (word ∷ words) = Lacks 32 word × AllLack words

split_joined : (word : Word) (words : List Word) → AllLack (word ∷ words) → slice_split (λ b. b == 32) (joined (word ∷ words)) ≡ word ∷ words
split_joined word [] h = ap (slice_split (λ b. b == 32)) (append-nil word) ∙ split_alone 32 word h.0
split_joined word (next ∷ words) h =
    split_front 32 word (next ++ flat_map (λ w. 32 ∷ w) words) h.0
    ∙ ap (λ (ws : List Word). word ∷ ws) (split_joined next words h.1)

-- what has bytes of one kind alone lacks others
pub lacks_by : (p : ℕ → Bool) (sep : ℕ) (word : Word) → ((b : ℕ) → p b ≡ true → (b == sep) ≡ false) → list_all p word ≡ true → Lacks sep word
lacks_by p sep [] f h = refl
lacks_by p sep (b ∷ word) f h =
    let k = and_parts (p b) (list_all p word) h in
    both (b == sep) (list_any (λ c. c == sep) word) (f b k.0) (lacks_by p sep word f k.1)
  where
    both : (x y : Bool) → x ≡ false → y ≡ false → (x || y) ≡ false
    both x y e g = rw (e, g) refl

pub lacks_joined : (sep : ℕ) (xs ys : Word) → Lacks sep xs → Lacks sep ys → Lacks sep (xs ++ ys)
lacks_joined sep [] ys h k = k
lacks_joined sep (x ∷ xs) ys h k =
    let p = or_none (x == sep) (list_any (λ c. c == sep) xs) h in
    both (x == sep) (list_any (λ c. c == sep) (xs ++ ys)) p.0 (lacks_joined sep xs ys p.1 k)
  where
    both : (x y : Bool) → x ≡ false → y ≡ false → (x || y) ≡ false
    both x y e g = rw (e, g) refl

-- numbers
digit_apart : (sep b : ℕ) → sep < 48 → is_ascii_digit b ≡ true → (b == sep) ≡ false
digit_apart sep b s h = grind (arith, nat_tests)

pub hex_apart : (sep b : ℕ) → sep < 48 → is_hex_digit b ≡ true → (b == sep) ≡ false
hex_apart sep b s h = grind (arith, nat_tests)

pub decimal_lacks : (sep n : ℕ) → sep < 48 → n < 2 ^ 64 → Lacks sep (decimal n)
decimal_lacks sep n s h =
    lacks_by is_ascii_digit sep (decimal n) (λ b k. digit_apart sep b s k)
    (three_parts (is_filled (decimal n)) (not (has_leading_zero (decimal n))) (are_digits (decimal n)) (is_canonical-decimal n h)).2

pub hex_lacks : (sep n : ℕ) → sep < 48 → n < 2 ^ 64 → Lacks sep (hex n)
hex_lacks sep n s h =
    lacks_by is_hex_digit sep (hex n) (λ b k. hex_apart sep b s k)
    (three_parts (is_filled (hex n)) (not (has_leading_zero (hex n))) (are_hex_digits (hex n)) (is_canonical_hex-hex n h)).2

pub number_said : (n : ℕ) → n < 2 ^ 64 → number (decimal n) ≡ Some n
number_said n h = small_number 18446744073709551615 n (decimal n) (is_canonical-decimal n h) (sym (digits_value-decimal n (decimal n) h refl)) (omega (arith, h))

hex_said : (n : ℕ) → n < 2 ^ 64 → hex_number_in (hex n) ≡ Some n
hex_said n h = small_hex (hex n) (is_canonical_hex-hex n h) (subst (λ (m : ℕ). m < 2 ^ 64) (sym (value-hex n h)) h) ∙ ap Some (value-hex n h)

-- names
name_byte_apart : (b : ℕ) → is_name_byte b ≡ true → (b == 32) ≡ false
name_byte_apart b h = grind (arith, nat_tests)

visible_apart : (b : ℕ) → is_visible_byte b ≡ true → (b == 32) ≡ false
visible_apart b h = grind (arith, nat_tests)

pub third : (a b c : Bool) → (a && b && c) ≡ true → c ≡ true
third a b c h = (and_parts (a && b) c h).1

name_lacks : (word : Word) → is_name word ≡ true → Lacks 32 word
name_lacks word h = lacks_by is_name_byte 32 word name_byte_apart (third (nat_lt 0 (length word)) (nat_le (length word) 64) (list_all is_name_byte word) h)

file_lacks : (word : Word) → is_file word ≡ true → Lacks 32 word
file_lacks word h = lacks_by is_visible_byte 32 word visible_apart (third (nat_lt 0 (length word)) (nat_le (length word) 255) (list_all is_visible_byte word) h)

symbol_lacks : (word : Word) → is_global_name word ≡ true → Lacks 32 word
symbol_lacks word h = lacks_by is_visible_byte 32 word visible_apart (third (nat_le 1 (length word)) (nat_le (length word) 1024) (list_all is_visible_byte word) h)

-- parts
pub part_lacks : (sep : ℕ) (p : Part) → sep < 46 → IsWritablePart p → Lacks sep (part_word p)
part_lacks sep p s h =
    lacks_joined sep (decimal p.cell ++ codes ".") (decimal p.section)
    (lacks_joined sep (decimal p.cell) (codes ".") (decimal_lacks sep p.cell (omega (arith, s)) h.0) (dot sep s))
    (decimal_lacks sep p.section (omega (arith, s)) h.1)
  where
    dot : (sep : ℕ) → sep < 46 → Lacks sep (codes ".")
    dot sep s = let e : (46 == sep) ≡ false = grind (arith, nat_tests) in rw e refl

part_said : (p : Part) → IsWritablePart p → part (part_word p) ≡ Some p
part_said p h =
    let split : slice_split (λ b. b == 46) (part_word p) ≡ decimal p.cell ∷ decimal p.section ∷ [] =
    ap (slice_split (λ b. b == 46)) (append_assoc (decimal p.cell) (codes ".") (decimal p.section))
    ∙ (split_front 46 (decimal p.cell) (decimal p.section) (decimal_lacks 46 p.cell (omega arith) h.0)
    ∙ ap (λ (ws : List Word). decimal p.cell ∷ ws) (split_alone 46 (decimal p.section) (decimal_lacks 46 p.section (omega arith) h.1))) in
    rw (split, number_said p.cell h.0, number_said p.section h.1) refl

glyph_value : (v : ℕ) → v < 16 → digit_value (digit_glyph false v) ≡ v
glyph_value zero h = refl
glyph_value (suc zero) h = refl
glyph_value (suc (suc zero)) h = refl
glyph_value (suc (suc (suc zero))) h = refl
glyph_value (suc (suc (suc (suc zero)))) h = refl
glyph_value (suc (suc (suc (suc (suc zero))))) h = refl
glyph_value (suc (suc (suc (suc (suc (suc zero)))))) h = refl
glyph_value (suc (suc (suc (suc (suc (suc (suc zero))))))) h = refl
glyph_value (suc (suc (suc (suc (suc (suc (suc (suc zero)))))))) h = refl
glyph_value (suc (suc (suc (suc (suc (suc (suc (suc (suc zero))))))))) h = refl
glyph_value (suc (suc (suc (suc (suc (suc (suc (suc (suc (suc zero)))))))))) h = refl
glyph_value (suc (suc (suc (suc (suc (suc (suc (suc (suc (suc (suc zero))))))))))) h = refl
glyph_value (suc (suc (suc (suc (suc (suc (suc (suc (suc (suc (suc (suc zero)))))))))))) h = refl
glyph_value (suc (suc (suc (suc (suc (suc (suc (suc (suc (suc (suc (suc (suc zero))))))))))))) h = refl
glyph_value (suc (suc (suc (suc (suc (suc (suc (suc (suc (suc (suc (suc (suc (suc zero)))))))))))))) h = refl
glyph_value (suc (suc (suc (suc (suc (suc (suc (suc (suc (suc (suc (suc (suc (suc (suc zero))))))))))))))) h = refl
glyph_value (suc (suc (suc (suc (suc (suc (suc (suc (suc (suc (suc (suc (suc (suc (suc (suc n)))))))))))))))) h = absurd (omega (arith, h))

pub glyph_hex : (v : ℕ) → v < 16 → is_hex_digit (digit_glyph false v) ≡ true
glyph_hex zero h = refl
glyph_hex (suc zero) h = refl
glyph_hex (suc (suc zero)) h = refl
glyph_hex (suc (suc (suc zero))) h = refl
glyph_hex (suc (suc (suc (suc zero)))) h = refl
glyph_hex (suc (suc (suc (suc (suc zero))))) h = refl
glyph_hex (suc (suc (suc (suc (suc (suc zero)))))) h = refl
glyph_hex (suc (suc (suc (suc (suc (suc (suc zero))))))) h = refl
glyph_hex (suc (suc (suc (suc (suc (suc (suc (suc zero)))))))) h = refl
glyph_hex (suc (suc (suc (suc (suc (suc (suc (suc (suc zero))))))))) h = refl
glyph_hex (suc (suc (suc (suc (suc (suc (suc (suc (suc (suc zero)))))))))) h = refl
glyph_hex (suc (suc (suc (suc (suc (suc (suc (suc (suc (suc (suc zero))))))))))) h = refl
glyph_hex (suc (suc (suc (suc (suc (suc (suc (suc (suc (suc (suc (suc zero)))))))))))) h = refl
glyph_hex (suc (suc (suc (suc (suc (suc (suc (suc (suc (suc (suc (suc (suc zero))))))))))))) h = refl
glyph_hex (suc (suc (suc (suc (suc (suc (suc (suc (suc (suc (suc (suc (suc (suc zero)))))))))))))) h = refl
glyph_hex (suc (suc (suc (suc (suc (suc (suc (suc (suc (suc (suc (suc (suc (suc (suc zero))))))))))))))) h = refl
glyph_hex (suc (suc (suc (suc (suc (suc (suc (suc (suc (suc (suc (suc (suc (suc (suc (suc n)))))))))))))))) h = absurd (omega (arith, h))

-- two digits a byte
byte_said : (b : ℕ) → b < 256 → digits_value 16 (hex_byte b) ≡ b
byte_said b h =
    let high : digit_value (digit_glyph false (b / 16)) ≡ b / 16 = glyph_value (b / 16) (omega (arith, h)) in
    let low : digit_value (digit_glyph false (b % 16)) ≡ b % 16 = glyph_value (b % 16) (omega arith) in
    omega (arith, high, low)

bytes_said : (bytes : List ℕ) → All (λ b. b < 256) bytes → byte_values (flat_map hex_byte bytes) ≡ Some bytes
bytes_said bytes h = go bytes (λ b i. All-In (λ (b : ℕ). b < 256) bytes h b i)
  where
    go : (bs : List ℕ) → ((b : ℕ) → In b bs → b < 256) → byte_values (flat_map hex_byte bs) ≡ Some bs
    go [] f = refl
    go (b ∷ bs) f =
        rw (glyph_hex (b / 16) (let l = f b (inl refl) in omega (arith, l)), glyph_hex (b % 16) (omega arith), go bs (λ c i. f c (inr i)))
        (ap (λ (x : ℕ). Some (x ∷ bs)) (byte_said b (f b (inl refl))))

bytes_lack : (bytes : List ℕ) → All (λ b. b < 256) bytes → Lacks 32 (flat_map hex_byte bytes)
bytes_lack bytes h = lacks_by is_hex_digit 32 (flat_map hex_byte bytes) (λ b k. hex_apart 32 b (omega arith) k) (go bytes (λ b i. All-In (λ (b : ℕ). b < 256) bytes h b i))
  where
    go : (bs : List ℕ) → ((b : ℕ) → In b bs → b < 256) → list_all is_hex_digit (flat_map hex_byte bs) ≡ true
    go [] f = refl
    go (b ∷ bs) f =
        rw (glyph_hex (b / 16) (let l = f b (inl refl) in omega (arith, l)), glyph_hex (b % 16) (omega arith), go bs (λ c i. f c (inr i))) refl

parent_said : (p : Option ℕ) → IfSome p SmallNumber → parent (parent_word p) ≡ Some p
parent_said None h = refl
parent_said (Some n) h = go (decimal n) refl
  where
    no_dash : (b : ℕ) → is_ascii_digit b ≡ true → (b == 45) ≡ false
    no_dash b k = digit_apart 45 b (omega arith) k

    go : (word : Word) → decimal n ≡ word → parent word ≡ Some (Some n)
    go [] e = absurd (filled_not n h e)
      where
        filled_not : (n : ℕ) → n < 2 ^ 64 → decimal n ≡ [] → ⊥
        filled_not n h e = absurd (true≢false (sym (three_parts (is_filled (decimal n)) (not (has_leading_zero (decimal n))) (are_digits (decimal n)) (is_canonical-decimal n h)).0 ∙ ap is_filled e))
    go (b ∷ word) e =
        let all : are_digits (b ∷ word) ≡ true = subst (λ (w : Word). are_digits w ≡ true) e (three_parts (is_filled (decimal n)) (not (has_leading_zero (decimal n))) (are_digits (decimal n)) (is_canonical-decimal n h)).2 in
        let dash : (b == 45) ≡ false = no_dash b (and_parts (is_ascii_digit b) (are_digits word) all).0 in
        let said : number (b ∷ word) ≡ Some n = ap number (sym e) ∙ number_said n h in
        rw (dash, said) refl

parent_lacks : (p : Option ℕ) → IfSome p SmallNumber → Lacks 32 (parent_word p)
parent_lacks None h = refl
parent_lacks (Some n) h = decimal_lacks 32 n (omega arith) h

group_said : (g : Option ℕ) → IfSome g SmallNumber → group (group_words g) ≡ Some g
group_said None h = refl
group_said (Some n) h = rw (number_said n h) refl

group_lacks : (g : Option ℕ) → IfSome g SmallNumber → AllLack (group_words g)
group_lacks None h = (refl, tt)
group_lacks (Some n) h = (refl, (decimal_lacks 32 n (omega arith) h, tt))

provider_word : (at : Part) (offset : ℕ) → IsWritablePart at → SmallNumber offset → around 43 (part_word at ++ codes "+" ++ hex offset) ≡ Some (part_word at, hex offset)
provider_word at offset h k =
    let split : slice_split (λ b. b == 43) (part_word at ++ codes "+" ++ hex offset) ≡ part_word at ∷ hex offset ∷ [] =
    ap (slice_split (λ b. b == 43)) (append_assoc (part_word at) (codes "+") (hex offset))
    ∙ (split_front 43 (part_word at) (hex offset) (part_lacks 43 at (omega arith) h)
    ∙ ap (λ (ws : List Word). part_word at ∷ ws) (split_alone 43 (hex offset) (hex_lacks 43 offset (omega arith) k))) in
    ap two split

-- the text says what its words say
by_words : (word : Word) (words : List Word) → AllLack (word ∷ words) → (l : DumpLine) → said_in forms word words ≡ Some l → line_said (joined (word ∷ words)) ≡ Some l
by_words word words h l e = ap said_by (split_joined word words h) ∙ e

pub text_says : (l : DumpLine) → IsWritable l → line_said (line_text l) ≡ Some l
text_says (Space base pages) h =
    by_words (codes "space") (hex base ∷ decimal pages ∷ []) (refl, (hex_lacks 32 base (omega arith) h.0, (decimal_lacks 32 pages (omega arith) h.1, tt))) (Space base pages)
    (rw (hex_said base h.0, number_said pages h.1) refl)
text_says (Ns n called p) h =
    by_words (codes "ns") (decimal n ∷ called ∷ parent_word p ∷ []) (refl, (decimal_lacks 32 n (omega arith) h.0, (name_lacks called h.1, (parent_lacks p h.2, tt)))) (Ns n called p)
    (rw (number_said n h.0, h.1, parent_said p h.2) refl)
text_says (CellLine c ns stem called g) h =
    by_words (codes "cell") (decimal c ∷ decimal ns ∷ stem ∷ called ∷ group_words g)
    (refl, (decimal_lacks 32 c (omega arith) h.0, (decimal_lacks 32 ns (omega arith) h.1, (name_lacks stem h.2, (file_lacks called h.3, group_lacks g h.4))))) (CellLine c ns stem called g)
    (rw (number_said c h.0, number_said ns h.1, h.2, h.3, group_said g h.4) refl)
text_says (Place c s start) h =
    by_words (codes "place") (decimal c ∷ decimal s ∷ hex start ∷ []) (refl, (decimal_lacks 32 c (omega arith) h.0, (decimal_lacks 32 s (omega arith) h.1, (hex_lacks 32 start (omega arith) h.2, tt)))) (Place c s start)
    (rw (number_said c h.0, number_said s h.1, hex_said start h.2) refl)
text_says (AliasLine c k called) h =
    by_words (codes "alias") (decimal c ∷ decimal k ∷ called ∷ []) (refl, (decimal_lacks 32 c (omega arith) h.0, (decimal_lacks 32 k (omega arith) h.1, (symbol_lacks called h.2, tt)))) (AliasLine c k called)
    (rw (number_said c h.0, number_said k h.1, h.2) refl)
text_says (Link user entry target) h =
    by_words (codes "link") (part_word user ∷ decimal entry ∷ part_word target ∷ []) (refl, (part_lacks 32 user (omega arith) h.0, (decimal_lacks 32 entry (omega arith) h.1, (part_lacks 32 target (omega arith) h.2, tt)))) (Link user entry target)
    (rw (part_said user h.0, number_said entry h.1, part_said target h.2) refl)
text_says (Provider ns called at offset) h =
    by_words (codes "name") (decimal ns ∷ called ∷ (part_word at ++ codes "+" ++ hex offset) ∷ []) (
      refl,
      (
        decimal_lacks 32 ns (omega arith) h.0,
        (
          symbol_lacks called h.1,
          (lacks_joined 32 (part_word at ++ codes "+") (hex offset) (lacks_joined 32 (part_word at) (codes "+") (part_lacks 32 at (omega arith) h.2) refl) (hex_lacks 32 offset (omega arith) h.3), tt),
        ),
      ),
    ) (Provider ns called at offset)
    (rw (number_said ns h.0, h.1, provider_word at offset h.2 h.3, part_said at h.2, hex_said offset h.3) refl)
text_says (Content at addr bytes) h =
    by_words (codes "bytes") (part_word at ∷ hex addr ∷ flat_map hex_byte bytes ∷ [])
    (refl, (part_lacks 32 at (omega arith) h.0, (hex_lacks 32 addr (omega arith) h.1, (bytes_lack bytes h.2, tt)))) (Content at addr bytes)
    (rw (part_said at h.0, hex_said addr h.1, bytes_said bytes h.2, h.3) refl)
text_says End h = refl
