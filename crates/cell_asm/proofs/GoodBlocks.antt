-- What the bytes of a statement are, and the entries for them.
--     AreMarks content size marks      good entries for so many bytes
--     IsGoodBlock content b            instructions, or numbers
--     IsGoodStatement s                a statement has such bytes
--     piece_sound                      bytes stay sound with a good piece more
use Rattle.std.specs.Prelude.{◌≡◌, ◌≤◌, ◌+◌, ◌*◌, ◌^◌, ◌%◌, ◌/◌, ◌∷◌, ◌++◌, ◌⊎◌, ◌||◌}
use Rattle.cell_asm.proofs.Facts.{ℕ, zero, suc, Bool, true, false, List, [], length, inl, inr, pos, Some, None, refl, sym, subst, ap, ◌∙◌, length-append, arith, map, true≢false, or_right, and-false, w64, list_any, Option, FitsSigned, bytes_of, width_of, is_instruction, is_stacking, is_pcrel_lo12}
use Rattle.cell_asm.proofs.Facts.{is_upper_pcrel, is_shared, is_clash, marks_at, marks_of, appended, empty, entry_of, entries_of, marks_in, is_made, taken, takes, lays_nothing, RelKind, PcrelHi20, PcrelLo12I, PcrelLo12S, Mark, Block, Content, Code, Narrow, Wide, Fix, Piece, Statement}
use Rattle.cell_asm.proofs.Facts.{StatementZeros as Zeros, StatementAlign as Align, Bytes, Entry, Part, Text, Rodata, Data, Bss, Laid, In, In-append, In-map, In-one, GotHi20, is_got_hi20}
use Rattle.cell_asm.proofs.ListLemmas.{Pairwise, pairwise_one, pairwise_join, itself, le_trans, least, not_less, same_test}

abbrev pub is_code : Content → Bool
is_code Code = true
is_code Narrow = false
is_code Wide = false

-- the kinds that name the label of another entry, and that entry's, are of instructions
label_code : (kind : RelKind) → (is_pcrel_lo12 kind || is_upper_pcrel kind) ≡ true → is_instruction kind ≡ true
label_code PcrelHi20 e = refl
label_code GotHi20 e = refl
label_code PcrelLo12I e = refl
label_code PcrelLo12S e = refl
label_code _ e = absurd cc

pub lo12_code : (kind : RelKind) → is_pcrel_lo12 kind ≡ true → is_instruction kind ≡ true
lo12_code kind e = label_code kind (ap (λ b. b || is_upper_pcrel kind) e)

pub upper_code : (kind : RelKind) → is_upper_pcrel kind ≡ true → is_instruction kind ≡ true
upper_code kind e = label_code kind (or_right (is_pcrel_lo12 kind) (is_upper_pcrel kind) e)

-- the kinds to whose symbol nothing is added
abbrev pub is_unmoved : RelKind → Bool
is_unmoved kind = is_pcrel_lo12 kind || is_got_hi20 kind

pub record IsGoodFix (content : Content) (f : Fix) : Type 0 where
  pub addend : FitsSigned w64 f.addend
  -- the kinds of instructions stand at instructions alone
  pub code : is_instruction f.kind ≡ is_code content
  pub plain : is_unmoved f.kind ≡ true → f.addend ≡ pos 0
  pub made : is_made f.target ≡ true → is_pcrel_lo12 f.kind ≡ true

-- two kinds that add to a field of one width
pub record AreStacking (f s : Fix) : Type 0 where
  pub first : is_stacking f.kind ≡ true
  pub second : is_stacking s.kind ≡ true
  pub same : width_of s.kind ≡ width_of f.kind

-- the second behind the first, or at the same bytes where both add to a field
abbrev pub AreApart : Mark → Mark → Type 0
AreApart m n = (m.at + width_of m.fix.kind ≤ n.at) ⊎ ((n.at ≡ m.at) × AreStacking m.fix n.fix)

abbrev pub AllApart : List Mark → Type 0
AllApart marks = Pairwise AreApart marks

abbrev pub InFours : Content → ℕ → Type 0
InFours content n = (content ≡ Narrow → ⊥) → n % 4 ≡ 0

-- a good entry for bytes between two places
pub record IsWithin (content : Content) (low high : ℕ) (m : Mark) : Type 0 where
  pub fix : IsGoodFix content m.fix
  pub from : low ≤ m.at
  pub inside : m.at + width_of m.fix.kind ≤ high
  pub fours : InFours content m.at
  -- a %pcrel_hi or %got_pcrel_hi stands first
  pub head : is_upper_pcrel m.fix.kind ≡ true → m.at ≡ 0

abbrev pub AreWithin : Content → ℕ → ℕ → List Mark → Type 0
AreWithin content low high marks = ((m : Mark) → In m marks → IsWithin content low high m) × AllApart marks

-- entries for so many bytes
pub record AreMarks (content : Content) (size : ℕ) (marks : List Mark) : Type 0 where
  pub stand : AreWithin content 0 size marks
  pub few : length marks ≤ 2 * size

pub record IsSound (content : Content) (b : Block) : Type 0 where
  pub marks_are : AreMarks content (length b.bytes) b.marks
  pub whole : InFours content (length b.bytes)

abbrev pub any_upper : List Mark → Bool
any_upper marks = list_any (λ m. is_upper_pcrel m.fix.kind) marks

pub record IsGoodBlock (content : Content) (b : Block) : Type 0 where
  pub sound : IsSound content b
  -- where a label is made, there is a %pcrel_hi
  pub made : list_any (λ m. is_made m.fix.target) b.marks ≡ true → any_upper b.marks ≡ true

-- a power of two, of at most 4096
abbrev pub IsUnit : ℕ → Type 0
IsUnit unit = (k : ℕ) × (k ≤ 12) × (unit ≡ 2 ^ k)

abbrev pub IsGoodStatement : Statement → Type 0
IsGoodStatement (Align unit) = IsUnit unit
IsGoodStatement (Bytes content b) = IsGoodBlock content b
IsGoodStatement _ = Unit {0}

-- ENTRIES BETWEEN TWO PLACES

bytes_count : (k n : ℕ) → length (bytes_of k n) ≡ k
bytes_count zero n = refl
bytes_count (suc k) n = ap suc (bytes_count k (n / 256))

more : (n w : ℕ) → n ≤ n + w
more n w = omega arith

module _ (content : Content) where
  widen : (a b c d : ℕ) (m : Mark) → c ≤ a → b ≤ d → IsWithin content a b m → IsWithin content c d m
  widen a b c d m l h g = record { fix = g.fix; from = le_trans c a m.at l g.from; inside = le_trans (m.at + width_of m.fix.kind) b d g.inside h; fours = g.fours; head = g.head }

  pub join : (a b d : ℕ) (xs ys : List Mark) → a ≤ b → b ≤ d → AreWithin content a b xs → AreWithin content b d ys → AreWithin content a d (xs ++ ys)
  join a b d xs ys l h f g =
      (λ m k. go m (In-append xs ys m k), pairwise_join AreApart xs ys f.1 g.1 (λ m i n j. inl (le_trans (m.at + width_of m.fix.kind) b n.at (f.0 m i).inside (g.0 n j).from)))
    where
      go : (m : Mark) → In m xs ⊎ In m ys → IsWithin content a d m
      go m (inl i) = widen a b a d m (itself a) h (f.0 m i)
      go m (inr j) = widen b d a d m l (itself d) (g.0 m j)

  pub one_there : (low high : ℕ) (m : Mark) → IsWithin content low high m → AreWithin content low high (m ∷ [])
  one_there low high m g = ((λ n k. subst (IsWithin content low high) (sym (In-one n m k)) g), pairwise_one AreApart m)

  pub both_there : (low high : ℕ) (m n : Mark) → IsWithin content low high m → IsWithin content low high n → AreApart m n → AreWithin content low high (m ∷ n ∷ [])
  both_there low high m n f g a = (all, ((λ x k. subst (AreApart m) (sym (In-one x n k)) a), pairwise_one AreApart n))
    where
      all : (x : Mark) → In x (m ∷ n ∷ []) → IsWithin content low high x
      all x (inl e) = subst (IsWithin content low high) (sym e) f
      all x (inr k) = subst (IsWithin content low high) (sym (In-one x n k)) g

-- PIECES

pub record IsGoodPiece (content : Content) (p : Piece) : Type 0 where
  pub low : 1 ≤ p.width
  pub in_fours : InFours content p.width
  pub stands : (n : ℕ) → InFours content n → AreWithin content n (n + p.width) (marks_of n p)

one_most : (at : ℕ) (o : Option Fix) → length (marks_at at o) ≤ 1
one_most at None = omega arith
one_most at (Some f) = omega arith

pub piece_sound : (content : Content) (b : Block) (p : Piece) → IsSound content b → IsGoodPiece content p → IsSound content (appended b p)
piece_sound content b p h g =
    let n : ℕ = length b.bytes in
    let size : length (appended b p).bytes ≡ n + p.width = length-append b.bytes (bytes_of p.width p.value) ∙ ap (λ k. n + k) (bytes_count p.width p.value) in
    record {
      marks_are = record {
        stand = subst (λ k. AreWithin content 0 k (appended b p).marks) (sym size) (join content 0 n (n + p.width) b.marks (marks_of n p) (least n) (more n p.width) h.marks_are.stand (g.stands n h.whole));
        few = omega (arith, h.marks_are.few, one_most n p.fix, one_most n p.second, length-append b.marks (marks_of n p), length-append (marks_at n p.fix) (marks_at n p.second), g.low, size);
      };
      whole = λ wide. omega (arith, (h.whole wide), (g.in_fours wide), size);
    }

pub no_marks : (content : Content) (n : ℕ) → AreMarks content n []
no_marks content n = record { stand = (λ m k. absurd k, tt); few = least (2 * n) }

pub empty_sound : (content : Content) → IsSound content empty
empty_sound content = record { marks_are = no_marks content 0; whole = λ wide. refl }

-- The entries of a line, which are those of its marks.
--     line_origin       each is one of a mark, within the bytes of the line
--     line_apart        no two of them share a byte, unless they add to one field

abbrev pub content_of : Statement → Content
content_of (Bytes content b) = content
content_of _ = Code

pub statement_marks : (s : Statement) (offset : ℕ) → IsGoodStatement s → AreMarks (content_of s) (taken s offset) (marks_in s)
statement_marks (Zeros n) offset g = no_marks Code n
statement_marks (Align unit) offset g = no_marks Code (taken (Align unit) offset)
statement_marks (Bytes content b) offset g = g.sound.marks_are
statement_marks _ offset g = no_marks Code 0

-- what a section takes: instructions only .text, one or two bytes not .text, and .bss none
pub record IsTaken (part : Part) (content : Content) : Type 0 where
  pub coded : is_code content ≡ true → part ≡ Text
  pub wide : part ≡ Text → content ≡ Narrow → ⊥
  pub filled : part ≡ Bss → ⊥

bytes_taken : (part : Part) (content : Content) (b : Block) → takes part (Bytes content b) ≡ true → IsTaken part content
bytes_taken Text Code b t = record { coded = λ _. refl; wide = λ p c. absurd cc; filled = λ p. absurd cc }
bytes_taken Text Wide b t = record { coded = λ _. refl; wide = λ p c. absurd cc; filled = λ p. absurd cc }
bytes_taken Rodata Narrow b t = record { coded = λ c. absurd cc; wide = λ p c. absurd cc; filled = λ p. absurd cc }
bytes_taken Rodata Wide b t = record { coded = λ c. absurd cc; wide = λ p c. absurd cc; filled = λ p. absurd cc }
bytes_taken Data Narrow b t = record { coded = λ c. absurd cc; wide = λ p c. absurd cc; filled = λ p. absurd cc }
bytes_taken Data Wide b t = record { coded = λ c. absurd cc; wide = λ p c. absurd cc; filled = λ p. absurd cc }
bytes_taken _ _ b t = absurd cc

pub statement_taken : (part : Part) (s : Statement) (m : Mark) → takes part s ≡ true → In m (marks_in s) → IsTaken part (content_of s)
statement_taken part (Bytes content b) m t k = bytes_taken part content b t
statement_taken part _ m t k = absurd k

-- what lays nothing has no entries
pub none_laid : (s : Statement) (m : Mark) → lays_nothing s ≡ true → In m (marks_in s) → ⊥
none_laid (Bytes content b) m e k = true≢false (sym e)
none_laid _ m e k = k

-- THE ENTRIES OF A LINE

-- an entry of a mark, within the bytes of the line
pub record IsFrom (lines : List Laid) (part : Part) (l : Laid) (e : Entry) : Type 0 where
  pub m : Mark
  pub there : In m (marks_in l.line.statement)
  pub is : e ≡ entry_of lines part l m
  pub within : IsWithin (content_of l.line.statement) 0 (taken l.line.statement l.offset) m
  pub low : l.offset ≤ e.offset
  pub high : e.offset + width_of e.kind ≤ l.offset + taken l.line.statement l.offset

pub line_origin : (lines : List Laid) (part : Part) (l : Laid) (e : Entry) → IsGoodStatement l.line.statement → In e (entries_of lines part l) → IsFrom lines part l e
line_origin lines part l e g k =
    let r : (m : Mark) × In m (marks_in l.line.statement) × (e ≡ entry_of lines part l m) = In-map (entry_of lines part l) (marks_in l.line.statement) e k in
    let a : IsWithin (content_of l.line.statement) 0 (taken l.line.statement l.offset) r.0 = (statement_marks l.line.statement l.offset g).stand.0 r.0 r.1 in
    let at : e.offset ≡ l.offset + r.0.at = ap (λ x. x.offset) r.2 in
    record { m = r.0; there = r.1; is = r.2; within = a; low = omega (arith, at); high = omega (arith, a.inside, at, ap (λ x. width_of x.kind) r.2) }

-- APART

abbrev pub Apart : List Entry → Type 0
Apart es = Pairwise (λ e f. is_clash f e ≡ false) es

-- an entry behind another
pub behind : (e f : Entry) (mid : ℕ) → e.offset + width_of e.kind ≤ mid → mid ≤ f.offset → is_clash f e ≡ false
behind e f mid h k = rw (not_less f.offset (e.offset + width_of e.kind) (omega (arith, h, k))) refl

-- two entries that add to one field
together : (e f : Entry) → f.offset ≡ e.offset → width_of f.kind ≡ width_of e.kind → is_stacking f.kind ≡ true → is_stacking e.kind ≡ true → is_clash f e ≡ false
together e f at wide a b = rw (same_test f.offset e.offset at, same_test (width_of f.kind) (width_of e.kind) wide, a, b) (and-false (is_shared f e))

module _ (lines : List Laid) (part : Part) (l : Laid) where
  never_clash : (m n : Mark) → AreApart m n → is_clash (entry_of lines part l n) (entry_of lines part l m) ≡ false
  never_clash m n (inl h) = behind (entry_of lines part l m) (entry_of lines part l n) (l.offset + n.at) (omega (arith, h)) (itself (l.offset + n.at))
  never_clash m n (inr h) = together (entry_of lines part l m) (entry_of lines part l n) (ap (λ a. l.offset + a) h.0) h.1.same h.1.second h.1.first

  marks_apart : (marks : List Mark) → AllApart marks → Apart (map (entry_of lines part l) marks)
  marks_apart [] h = tt
  marks_apart (m ∷ marks) h = (each, marks_apart marks h.1)
    where
      each : (f : Entry) → In f (map (entry_of lines part l) marks) → is_clash f (entry_of lines part l m) ≡ false
      each f k =
          let r : (n : Mark) × In n marks × (f ≡ entry_of lines part l n) = In-map (entry_of lines part l) marks f k in
          subst (λ x. is_clash x (entry_of lines part l m) ≡ false) (sym r.2) (never_clash m r.0 (h.0 r.0 r.1))

  pub line_apart : IsGoodStatement l.line.statement → Apart (entries_of lines part l)
  line_apart g = marks_apart (marks_in l.line.statement) (statement_marks l.line.statement l.offset g).stand.1
