-- A text that says a line is the line as it is written.
use Rattle.std.proofs.Common.{◌≡◌, refl, sym, ◌∙◌, ap, subst, arith, ℕ, ◌<◌, inl, inr, Bool, true, false, cond, ◌&&◌, List, [], ◌∷◌, ◌++◌, length, Option, Some, None, append_assoc}
use Rattle.std.specs.Prelude.{◌/◌, ◌%◌, ◌^◌, bytes_eq, codes, nat_le, nat_lt, option_map, option_and_then, ◌==◌}
use Rattle.std.specs.Char.{digit_value}
use Rattle.std.specs.Fmt.{decimal, digit_glyph}
use Rattle.std.specs.List.{flat_map, onto_first, slice_split}
use Rattle.std.specs.Str.Parse.{digits_value}
use Rattle.std.proofs.lemmas.Bool.{and_parts, eqb-true, leb-true, ltb-true}
use Rattle.std.proofs.lemmas.Bool.Decides.{nat_tests}
use Rattle.std.proofs.lemmas.List.{append-nil}
use Rattle.std.proofs.lemmas.Slice.Eq.{bytes_eq-Decides}
use Rattle.cell_num.specs.Lists.{In, where_true}
use Rattle.cell_object.specs.Symbols.{is_global_name}
use Rattle.cell_text.specs.Number.{hex, hex_byte, hex_number_in, is_canonical, is_canonical_hex, is_hex_digit}
use Rattle.cell_text.proofs.Decimal.{decimal-value}
use Rattle.cell_text.proofs.Hexadecimal.{hex-value}
use Rattle.cell_world.specs.declared.line.DumpLine.{DumpLine}
use Rattle.cell_world.specs.declared.line.DumpLine.TheVariants.{Space, Ns, Cell as CellLine, Place, Alias as AliasLine, Link, Provider, Content, End}
use Rattle.cell_world.specs.declared.line.Part.{Part}
use Rattle.cell_dumped.specs.Readings.{Form, Word, ◌>>=◌, alias_said, around, byte_values, cell_said, content, content_said, end_said, forms, group, line_said, link_said, ns_said, number, parent, part, place_said, provider_said, said_by, said_in, space_said, two}
use Rattle.cell_script.specs.Grammar.{file, is_file, is_name, name, symbol}
use Rattle.cell_dumped.specs.Texts.{group_words, joined, line_text, line_words, parent_word, part_word}

bind_some : {A B : Type 0} (o : Option A) (f : A → Option B) (y : B) → (o >>= f) ≡ Some y → (x : A) × (o ≡ Some x) × (f x ≡ Some y)
bind_some None f y e = absurd cc
bind_some (Some x) f y e = (x, refl, e)

some_is : {A : Type 0} (x y : A) → Some x ≡ Some y → x ≡ y
some_is x y e = cc

where_same : (b : Bool) (w x : Word) → where_true b w ≡ Some x → x ≡ w
where_same true w x e = sym (some_is w x e)
where_same false w x e = absurd cc

number_back : (w : Word) (n : ℕ) → number w ≡ Some n → decimal n ≡ w
number_back w n e = go (is_canonical w) refl (nat_le (digits_value 10 w) 18446744073709551615) refl e
  where
    go : (a : Bool) → is_canonical w ≡ a → (b : Bool) → nat_le (digits_value 10 w) 18446744073709551615 ≡ b → cond (a && b) (Some (digits_value 10 w)) None ≡ Some n → decimal n ≡ w
    go true c true l k = ap decimal (sym (some_is (digits_value 10 w) n k)) ∙ decimal-value w c (let z = leb-true (digits_value 10 w) 18446744073709551615 l in omega (arith, z))
    go true c false l k = absurd cc
    go false c b l k = absurd cc

hex_back : (w : Word) (n : ℕ) → hex_number_in w ≡ Some n → hex n ≡ w
hex_back w n e = go (is_canonical_hex w) refl (nat_lt (digits_value 16 w) (2 ^ 64)) refl e
  where
    go : (a : Bool) → is_canonical_hex w ≡ a → (b : Bool) → nat_lt (digits_value 16 w) (2 ^ 64) ≡ b → cond (a && b) (Some (digits_value 16 w)) None ≡ Some n → hex n ≡ w
    go true c true l k = ap hex (sym (some_is (digits_value 16 w) n k)) ∙ hex-value w c (ltb-true (digits_value 16 w) (2 ^ 64) l)
    go true c false l k = absurd cc
    go false c b l k = absurd cc

-- what was split, put together again
abbrev glued : ℕ → List Word → Word
glued sep [] = []
glued sep (word ∷ words) = word ++ flat_map (λ w. sep ∷ w) words

glue_back : (sep : ℕ) (text : Word) → glued sep (slice_split (λ b. b == sep) text) ≡ text
glue_back sep [] = refl
glue_back sep (b ∷ text) = go (b == sep) refl (slice_split (λ c. c == sep) text) refl (glue_back sep text)
  where
    filled : (xs : Word) → slice_split (λ c. c == sep) xs ≡ [] → ⊥
    filled [] e = cc
    filled (x ∷ xs) e = at (x == sep) (slice_split (λ c. c == sep) xs) e
      where
        at : (t : Bool) (ws : List Word) → cond t ([] ∷ ws) (onto_first x ws) ≡ [] → ⊥
        at true ws e = cc
        at false [] e = cc
        at false (w ∷ ws) e = cc

    go : (t : Bool) → (b == sep) ≡ t → (ws : List Word) → slice_split (λ c. c == sep) text ≡ ws → glued sep ws ≡ text → glued sep (cond t ([] ∷ ws) (onto_first b ws)) ≡ b ∷ text
    go t e [] s k = absurd (filled text s)
    go true e (w ∷ ws) s k = ap (λ (c : ℕ). c ∷ glued sep (w ∷ ws)) (sym (eqb-true b sep e)) ∙ ap (λ (x : Word). b ∷ x) k
    go false e (w ∷ ws) s k = ap (λ (x : Word). b ∷ x) k

around_back : (sep : ℕ) (w : Word) (p : Word × Word) → around sep w ≡ Some p → p.0 ++ sep ∷ p.1 ≡ w
around_back sep w p e = go (slice_split (λ b. b == sep) w) refl e
  where
    go : (ws : List Word) → slice_split (λ b. b == sep) w ≡ ws → two ws ≡ Some p → p.0 ++ sep ∷ p.1 ≡ w
    go [] s k = absurd cc
    go (a ∷ []) s k = absurd cc
    go (a ∷ b ∷ []) s k =
        subst (λ (q : Word × Word). q.0 ++ sep ∷ q.1 ≡ w) (some_is (a, b) p k)
        (ap (λ (x : Word). a ++ sep ∷ x) (sym (append-nil b)) ∙ (ap (glued sep) (sym s) ∙ glue_back sep w))
    go (a ∷ b ∷ c ∷ ws) s k = absurd cc

part_back : (w : Word) (p : Part) → part w ≡ Some p → part_word p ≡ w
part_back w p e =
    let both = bind_some (around 46 w) _ p e in
    let c = bind_some (number both.0.0) _ p both.2 in
    let s = bind_some (number both.0.1) _ p c.2 in
    subst (λ (q : Part). part_word q ≡ w) (some_is (record { cell = c.0; section = s.0 }) p s.2)
    (append_assoc (decimal c.0) (codes ".") (decimal s.0)
    ∙ (ap (λ (x : Word). x ++ 46 ∷ decimal s.0) (number_back both.0.0 c.0 c.1)
    ∙ (ap (λ (x : Word). both.0.0 ++ 46 ∷ x) (number_back both.0.1 s.0 s.1) ∙ around_back 46 w both.0 both.1)))

parent_back : (w : Word) (p : Option ℕ) → parent w ≡ Some p → parent_word p ≡ w
parent_back w p e = go (bytes_eq w (codes "-")) refl (number w) refl e
  where
    go : (b : Bool) → bytes_eq w (codes "-") ≡ b → (o : Option ℕ) → number w ≡ o → cond b (let n : Option ℕ = None in Some n) (option_map (λ n. Some n) o) ≡ Some p → parent_word p ≡ w
    go true s o r k = ap parent_word (sym (some_is None p k)) ∙ sym ((bytes_eq-Decides w (codes "-")).0 s)
    go false s None r k = absurd cc
    go false s (Some n) r k = ap parent_word (sym (some_is (Some n) p k)) ∙ number_back w n r

group_back : (ws : List Word) (g : Option ℕ) → group ws ≡ Some g → group_words g ≡ ws
group_back [] g e = absurd cc
group_back (w ∷ []) g e = go (bytes_eq w (codes "attached")) refl e
  where
    go : (b : Bool) → bytes_eq w (codes "attached") ≡ b → cond b (let n : Option ℕ = None in Some n) None ≡ Some g → group_words g ≡ w ∷ []
    go true s k = ap group_words (sym (some_is None g k)) ∙ ap (λ (x : Word). x ∷ []) (sym ((bytes_eq-Decides w (codes "attached")).0 s))
    go false s k = absurd cc
group_back (w ∷ swap ∷ []) g e = go (bytes_eq w (codes "group")) refl (number swap) refl e
  where
    go : (b : Bool) → bytes_eq w (codes "group") ≡ b → (o : Option ℕ) → number swap ≡ o → cond b (option_map (λ n. Some n) o) None ≡ Some g → group_words g ≡ w ∷ swap ∷ []
    go true s None r k = absurd cc
    go true s (Some n) r k =
        ap group_words (sym (some_is (Some n) g k))
        ∙ (ap (λ (x : Word). x ∷ decimal n ∷ []) (sym ((bytes_eq-Decides w (codes "group")).0 s)) ∙ ap (λ (x : Word). w ∷ x ∷ []) (number_back swap n r))
    go false s o r k = absurd cc
group_back (w ∷ a ∷ b ∷ ws) g e = absurd cc

glyph_small : (c : ℕ) → is_hex_digit c ≡ true → digit_value c < 16
glyph_small c h = grind (arith, nat_tests)

glyph_back : (c : ℕ) → is_hex_digit c ≡ true → digit_glyph false (digit_value c) ≡ c
glyph_back c h = grind (arith, nat_tests)

byte_back : (a b : ℕ) → is_hex_digit a ≡ true → is_hex_digit b ≡ true → hex_byte (digits_value 16 (a ∷ b ∷ [])) ≡ a ∷ b ∷ []
byte_back a b h k =
    let x = glyph_small a h in
    let y = glyph_small b k in
    let high : digits_value 16 (a ∷ b ∷ []) / 16 ≡ digit_value a = omega (arith, x, y) in
    let low : digits_value 16 (a ∷ b ∷ []) % 16 ≡ digit_value b = omega (arith, x, y) in
    ap (λ (v : ℕ). digit_glyph false v ∷ digit_glyph false (digits_value 16 (a ∷ b ∷ []) % 16) ∷ []) high
    ∙ (ap (λ (v : ℕ). digit_glyph false (digit_value a) ∷ digit_glyph false v ∷ []) low
    ∙ (ap (λ (v : ℕ). v ∷ digit_glyph false (digit_value b) ∷ []) (glyph_back a h) ∙ ap (λ (v : ℕ). a ∷ v ∷ []) (glyph_back b k)))

bytes_back : (w : Word) (bytes : List ℕ) → byte_values w ≡ Some bytes → flat_map hex_byte bytes ≡ w
bytes_back [] bytes e = ap (flat_map hex_byte) (sym (some_is [] bytes e))
bytes_back (a ∷ []) bytes e = absurd cc
bytes_back (a ∷ b ∷ rest) bytes e = go (is_hex_digit a && is_hex_digit b) refl (byte_values rest) refl (λ more k. bytes_back rest more k) e
  where
    go : (t : Bool) → (is_hex_digit a && is_hex_digit b) ≡ t → (o : Option (List ℕ)) → byte_values rest ≡ o → ((more : List ℕ) → byte_values rest ≡ Some more → flat_map hex_byte more ≡ rest)
        → cond t (option_map (λ bytes. digits_value 16 (a ∷ b ∷ []) ∷ bytes) o) None ≡ Some bytes → flat_map hex_byte bytes ≡ a ∷ b ∷ rest
    go true h None r f k = absurd cc
    go true h (Some more) r f k =
        let p = and_parts (is_hex_digit a) (is_hex_digit b) h in
        ap (flat_map hex_byte) (sym (some_is (digits_value 16 (a ∷ b ∷ []) ∷ more) bytes k))
        ∙ (ap (λ (x : Word). x ++ flat_map hex_byte more) (byte_back a b p.0 p.1) ∙ ap (λ (x : Word). a ∷ b ∷ x) (f more r))
    go false h o r f k = absurd cc

content_back : (w : Word) (bytes : List ℕ) → content w ≡ Some bytes → flat_map hex_byte bytes ≡ w
content_back w bytes e = go (byte_values w) refl e
  where
    go : (o : Option (List ℕ)) → byte_values w ≡ o → option_and_then (λ bytes. where_true (nat_lt 0 (length bytes) && nat_le (length bytes) 64) bytes) o ≡ Some bytes → flat_map hex_byte bytes ≡ w
    go None r k = absurd cc
    go (Some xs) r k = ap (flat_map hex_byte) (where_same (nat_lt 0 (length xs) && nat_le (length xs) 64) xs bytes k) ∙ bytes_back w xs r

-- what the words behind the first say is written as they are
abbrev IsBack : Form → Type 0
IsBack f = (rest : List Word) (l : DumpLine) → f.said rest ≡ Some l → line_words l ≡ f.word ∷ rest

space_back : (rest : List Word) (l : DumpLine) → space_said rest ≡ Some l → line_words l ≡ codes "space" ∷ rest
space_back [] l e = absurd cc
space_back (a ∷ []) l e = absurd cc
space_back (a ∷ b ∷ []) l e =
    let x = bind_some (hex_number_in a) _ l e in
    let y = bind_some (number b) _ l x.2 in
    ap line_words (sym (some_is (Space x.0 y.0) l y.2))
    ∙ (ap (λ (w : Word). codes "space" ∷ w ∷ decimal y.0 ∷ []) (hex_back a x.0 x.1) ∙ ap (λ (w : Word). codes "space" ∷ a ∷ w ∷ []) (number_back b y.0 y.1))
space_back (a ∷ b ∷ c ∷ rest) l e = absurd cc

ns_back : (rest : List Word) (l : DumpLine) → ns_said rest ≡ Some l → line_words l ≡ codes "ns" ∷ rest
ns_back [] l e = absurd cc
ns_back (a ∷ []) l e = absurd cc
ns_back (a ∷ b ∷ []) l e = absurd cc
ns_back (a ∷ b ∷ c ∷ []) l e =
    let x = bind_some (number a) _ l e in
    let y = bind_some (name b) _ l x.2 in
    let z = bind_some (parent c) _ l y.2 in
    ap line_words (sym (some_is (Ns x.0 y.0 z.0) l z.2))
    ∙ (ap (λ (w : Word). codes "ns" ∷ w ∷ y.0 ∷ parent_word z.0 ∷ []) (number_back a x.0 x.1)
    ∙ (ap (λ (w : Word). codes "ns" ∷ a ∷ w ∷ parent_word z.0 ∷ []) (where_same (is_name b) b y.0 y.1) ∙ ap (λ (w : Word). codes "ns" ∷ a ∷ b ∷ w ∷ []) (parent_back c z.0 z.1)))
ns_back (a ∷ b ∷ c ∷ d ∷ rest) l e = absurd cc

cell_back : (rest : List Word) (l : DumpLine) → cell_said rest ≡ Some l → line_words l ≡ codes "cell" ∷ rest
cell_back [] l e = absurd cc
cell_back (a ∷ []) l e = absurd cc
cell_back (a ∷ b ∷ []) l e = absurd cc
cell_back (a ∷ b ∷ c ∷ []) l e = absurd cc
cell_back (a ∷ b ∷ c ∷ d ∷ rest) l e =
    let v = bind_some (number a) _ l e in
    let w = bind_some (number b) _ l v.2 in
    let x = bind_some (name c) _ l w.2 in
    let y = bind_some (file d) _ l x.2 in
    let z = bind_some (group rest) _ l y.2 in
    ap line_words (sym (some_is (CellLine v.0 w.0 x.0 y.0 z.0) l z.2))
    ∙ (ap (λ (u : Word). codes "cell" ∷ u ∷ decimal w.0 ∷ x.0 ∷ y.0 ∷ group_words z.0) (number_back a v.0 v.1)
    ∙ (ap (λ (u : Word). codes "cell" ∷ a ∷ u ∷ x.0 ∷ y.0 ∷ group_words z.0) (number_back b w.0 w.1)
    ∙ (ap (λ (u : Word). codes "cell" ∷ a ∷ b ∷ u ∷ y.0 ∷ group_words z.0) (where_same (is_name c) c x.0 x.1)
    ∙ (ap (λ (u : Word). codes "cell" ∷ a ∷ b ∷ c ∷ u ∷ group_words z.0) (where_same (is_file d) d y.0 y.1)
    ∙ ap (λ (us : List Word). codes "cell" ∷ a ∷ b ∷ c ∷ d ∷ us) (group_back rest z.0 z.1)))))

place_back : (rest : List Word) (l : DumpLine) → place_said rest ≡ Some l → line_words l ≡ codes "place" ∷ rest
place_back [] l e = absurd cc
place_back (a ∷ []) l e = absurd cc
place_back (a ∷ b ∷ []) l e = absurd cc
place_back (a ∷ b ∷ c ∷ []) l e =
    let x = bind_some (number a) _ l e in
    let y = bind_some (number b) _ l x.2 in
    let z = bind_some (hex_number_in c) _ l y.2 in
    ap line_words (sym (some_is (Place x.0 y.0 z.0) l z.2))
    ∙ (ap (λ (w : Word). codes "place" ∷ w ∷ decimal y.0 ∷ hex z.0 ∷ []) (number_back a x.0 x.1)
    ∙ (ap (λ (w : Word). codes "place" ∷ a ∷ w ∷ hex z.0 ∷ []) (number_back b y.0 y.1) ∙ ap (λ (w : Word). codes "place" ∷ a ∷ b ∷ w ∷ []) (hex_back c z.0 z.1)))
place_back (a ∷ b ∷ c ∷ d ∷ rest) l e = absurd cc

alias_back : (rest : List Word) (l : DumpLine) → alias_said rest ≡ Some l → line_words l ≡ codes "alias" ∷ rest
alias_back [] l e = absurd cc
alias_back (a ∷ []) l e = absurd cc
alias_back (a ∷ b ∷ []) l e = absurd cc
alias_back (a ∷ b ∷ c ∷ []) l e =
    let x = bind_some (number a) _ l e in
    let y = bind_some (number b) _ l x.2 in
    let z = bind_some (symbol c) _ l y.2 in
    ap line_words (sym (some_is (AliasLine x.0 y.0 z.0) l z.2))
    ∙ (ap (λ (w : Word). codes "alias" ∷ w ∷ decimal y.0 ∷ z.0 ∷ []) (number_back a x.0 x.1)
    ∙ (ap (λ (w : Word). codes "alias" ∷ a ∷ w ∷ z.0 ∷ []) (number_back b y.0 y.1) ∙ ap (λ (w : Word). codes "alias" ∷ a ∷ b ∷ w ∷ []) (where_same (is_global_name c) c z.0 z.1)))
alias_back (a ∷ b ∷ c ∷ d ∷ rest) l e = absurd cc

link_back : (rest : List Word) (l : DumpLine) → link_said rest ≡ Some l → line_words l ≡ codes "link" ∷ rest
link_back [] l e = absurd cc
link_back (a ∷ []) l e = absurd cc
link_back (a ∷ b ∷ []) l e = absurd cc
link_back (a ∷ b ∷ c ∷ []) l e =
    let x = bind_some (part a) _ l e in
    let y = bind_some (number b) _ l x.2 in
    let z = bind_some (part c) _ l y.2 in
    ap line_words (sym (some_is (Link x.0 y.0 z.0) l z.2))
    ∙ (ap (λ (w : Word). codes "link" ∷ w ∷ decimal y.0 ∷ part_word z.0 ∷ []) (part_back a x.0 x.1)
    ∙ (ap (λ (w : Word). codes "link" ∷ a ∷ w ∷ part_word z.0 ∷ []) (number_back b y.0 y.1) ∙ ap (λ (w : Word). codes "link" ∷ a ∷ b ∷ w ∷ []) (part_back c z.0 z.1)))
link_back (a ∷ b ∷ c ∷ d ∷ rest) l e = absurd cc

provider_back : (rest : List Word) (l : DumpLine) → provider_said rest ≡ Some l → line_words l ≡ codes "name" ∷ rest
provider_back [] l e = absurd cc
provider_back (a ∷ []) l e = absurd cc
provider_back (a ∷ b ∷ []) l e = absurd cc
provider_back (a ∷ b ∷ c ∷ []) l e =
    let v = bind_some (number a) _ l e in
    let w = bind_some (symbol b) _ l v.2 in
    let x = bind_some (around 43 c) _ l w.2 in
    let y = bind_some (part x.0.0) _ l x.2 in
    let z = bind_some (hex_number_in x.0.1) _ l y.2 in
    ap line_words (sym (some_is (Provider v.0 w.0 y.0 z.0) l z.2))
    ∙ (ap (λ (u : Word). codes "name" ∷ u ∷ w.0 ∷ (part_word y.0 ++ codes "+" ++ hex z.0) ∷ []) (number_back a v.0 v.1)
    ∙ (ap (λ (u : Word). codes "name" ∷ a ∷ u ∷ (part_word y.0 ++ codes "+" ++ hex z.0) ∷ []) (where_same (is_global_name b) b w.0 w.1)
    ∙ ap (λ (u : Word). codes "name" ∷ a ∷ b ∷ u ∷ [])
    (append_assoc (part_word y.0) (codes "+") (hex z.0)
    ∙ (ap (λ (u : Word). u ++ 43 ∷ hex z.0) (part_back x.0.0 y.0 y.1)
    ∙ (ap (λ (u : Word). x.0.0 ++ 43 ∷ u) (hex_back x.0.1 z.0 z.1) ∙ around_back 43 c x.0 x.1)))))
provider_back (a ∷ b ∷ c ∷ d ∷ rest) l e = absurd cc

content_line_back : (rest : List Word) (l : DumpLine) → content_said rest ≡ Some l → line_words l ≡ codes "bytes" ∷ rest
content_line_back [] l e = absurd cc
content_line_back (a ∷ []) l e = absurd cc
content_line_back (a ∷ b ∷ []) l e = absurd cc
content_line_back (a ∷ b ∷ c ∷ []) l e =
    let x = bind_some (part a) _ l e in
    let y = bind_some (hex_number_in b) _ l x.2 in
    let z = bind_some (content c) _ l y.2 in
    ap line_words (sym (some_is (Content x.0 y.0 z.0) l z.2))
    ∙ (ap (λ (w : Word). codes "bytes" ∷ w ∷ hex y.0 ∷ flat_map hex_byte z.0 ∷ []) (part_back a x.0 x.1)
    ∙ (ap (λ (w : Word). codes "bytes" ∷ a ∷ w ∷ flat_map hex_byte z.0 ∷ []) (hex_back b y.0 y.1) ∙ ap (λ (w : Word). codes "bytes" ∷ a ∷ b ∷ w ∷ []) (content_back c z.0 z.1)))
content_line_back (a ∷ b ∷ c ∷ d ∷ rest) l e = absurd cc

end_back : (rest : List Word) (l : DumpLine) → end_said rest ≡ Some l → line_words l ≡ codes "end" ∷ rest
end_back [] l e = ap line_words (sym (some_is End l e))
end_back (a ∷ rest) l e = absurd cc

forms_back : (f : Form) → In f forms → IsBack f
forms_back f (inl e) = subst IsBack (sym e) space_back
forms_back f (inr (inl e)) = subst IsBack (sym e) ns_back
forms_back f (inr (inr (inl e))) = subst IsBack (sym e) cell_back
forms_back f (inr (inr (inr (inl e)))) = subst IsBack (sym e) place_back
forms_back f (inr (inr (inr (inr (inl e))))) = subst IsBack (sym e) alias_back
forms_back f (inr (inr (inr (inr (inr (inl e)))))) = subst IsBack (sym e) link_back
forms_back f (inr (inr (inr (inr (inr (inr (inl e))))))) = subst IsBack (sym e) provider_back
forms_back f (inr (inr (inr (inr (inr (inr (inr (inl e)))))))) = subst IsBack (sym e) content_line_back
forms_back f (inr (inr (inr (inr (inr (inr (inr (inr (inl e))))))))) = subst IsBack (sym e) end_back
forms_back f (inr (inr (inr (inr (inr (inr (inr (inr (inr e))))))))) = absurd e

in_forms : (fs : List Form) (word : Word) (rest : List Word) (l : DumpLine) → said_in fs word rest ≡ Some l → (f : Form) × In f fs × (word ≡ f.word) × (f.said rest ≡ Some l)
in_forms [] word rest l e = absurd cc
in_forms (f ∷ fs) word rest l e = go (bytes_eq word f.word) refl e (in_forms fs word rest l)
  where
    go : (b : Bool) → bytes_eq word f.word ≡ b → cond b (f.said rest) (said_in fs word rest) ≡ Some l → (said_in fs word rest ≡ Some l → (g : Form) × In g fs × (word ≡ g.word) × (g.said rest ≡ Some l))
        → (g : Form) × In g (f ∷ fs) × (word ≡ g.word) × (g.said rest ≡ Some l)
    go true s k h = (f, inl refl, (bytes_eq-Decides word f.word).0 s, k)
    go false s k h = let r = h k in (r.0, inr r.1, r.2, r.3)

pub said_written : (text : List ℕ) (l : DumpLine) → line_said text ≡ Some l → line_text l ≡ text
said_written text l e = go (slice_split (λ b. b == 32) text) refl e
  where
    go : (ws : List Word) → slice_split (λ b. b == 32) text ≡ ws → said_by ws ≡ Some l → line_text l ≡ text
    go [] s k = absurd cc
    go (word ∷ rest) s k =
        let f = in_forms forms word rest l k in
        ap joined (forms_back f.0 f.1 rest l f.3 ∙ ap (λ (w : Word). w ∷ rest) (sym f.2))
        ∙ (ap (glued 32) (sym s) ∙ glue_back 32 text)
