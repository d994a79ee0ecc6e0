-- The words that bytes are.
use Rattle.std.proofs.Common.{◌≡◌, refl, sym, ap, ◌∙◌, arith, ℕ, ◌+◌, ◌-◌, ◌*◌, ◌/◌, ◌<◌, ◌≤◌, Bool, true, false, List, [], ◌∷◌, ◌++◌, Option, Some, None, length, take, drop, leb, append_assoc, append-nil, length-drop}
use Rattle.std.specs.Prelude.{Ok, Err, OnOk, Result, slice_range, option_and_then}
use Rattle.std.proofs.lemmas.Bool.{leb-true}
use Rattle.std.proofs.lemmas.List.{take_rest, drop-drop, length-take-le}
use Rattle.byteorder.specs.Endian.{little_number}
use Rattle.cell_num.specs.Bits.{little}
use Rattle.cell_num.specs.Lists.{where_true}
use Rattle.cell_world.specs.World.{Region}
use Rattle.cell_world.specs.Running.Memory.{covers, end_of, region_in, part_of, read_in}
use Rattle.cell_world.specs.Running.Words.{words_in}
use Rattle.cell_mem.proofs.Laid.{covers_low, found_passes}
use Rattle.cell_mem.proofs.Little.{little_number_is}

-- the first word and the others
pub words_first : (xs : List ℕ) → 8 ≤ length xs → words_in xs ≡ little (take 8 xs) ∷ words_in (drop 8 xs)
words_first (a ∷ b ∷ c ∷ d ∷ e ∷ f ∷ g ∷ h ∷ rest) le = refl
words_first _ le = absurd (omega (arith, le))

-- fewer than eight bytes are no word
pub words_none : (xs : List ℕ) → length xs < 8 → words_in xs ≡ []
words_none (a ∷ b ∷ c ∷ d ∷ e ∷ f ∷ g ∷ h ∷ rest) lt = absurd (omega (arith, lt))
words_none _ lt = refl

pub word_step : (bytes : List ℕ) (k value : ℕ) (front new all : List ℕ) → k < length bytes / 8 → value ≡ little_number 8 (take (length bytes - 8 * k) (drop (8 * k) bytes))
    → new ≡ front ++ value ∷ [] → front ++ words_in (drop (8 * k) bytes) ≡ all → new ++ words_in (drop (8 * (k + 1)) bytes) ≡ all
word_step bytes k value front new all lt read now before =
    let xs : List ℕ = drop (8 * k) bytes in
    let enough : 8 ≤ length xs = omega (arith, length-drop (8 * k) bytes) in
    let value_is : value ≡ little (take 8 xs) = read ∙ ap (little_number 8) (take_rest bytes (8 * k)) ∙ little_number_is 8 0 xs (omega arith) in
    let place : 8 * (k + 1) ≡ 8 * k + 8 = omega arith in
    let later : drop (8 * (k + 1)) bytes ≡ drop 8 xs = ap (λ n. drop n bytes) place ∙ sym (drop-drop 8 (8 * k) bytes) in
    ap (λ ys. ys ++ words_in (drop (8 * (k + 1)) bytes)) now
    ∙ ap (λ ys. (front ++ value ∷ []) ++ words_in ys) later
    ∙ append_assoc front (value ∷ []) (words_in (drop 8 xs))
    ∙ ap (λ v. front ++ v ∷ words_in (drop 8 xs)) value_is
    ∙ ap (λ ys. front ++ ys) (sym (words_first xs enough))
    ∙ before

pub words_end : (bytes : List ℕ) (k : ℕ) (front all : List ℕ) → length bytes / 8 ≤ k → front ++ words_in (drop (8 * k) bytes) ≡ all → front ≡ all
words_end bytes k front all le before =
    let few : length (drop (8 * k) bytes) < 8 = omega (arith, length-drop (8 * k) bytes) in
    sym (append-nil front) ∙ ap (λ ys. front ++ ys) (sym (words_none (drop (8 * k) bytes) few)) ∙ before

-- bytes that are read are as many as were asked for
pub length-read : (regions : List Region) (addr n : ℕ) (bytes : List ℕ) → Some bytes ≡ read_in regions addr n → length bytes ≡ n
length-read regions addr n bytes e = go (region_in regions addr) refl e
  where
    here : (r : Region) → covers r addr ≡ true → (b : Bool) → leb (addr + n) (end_of r) ≡ b → Some bytes ≡ where_true b (slice_range r.bytes (addr - r.start) (addr - r.start + n)) → length bytes ≡ n
    here r c false t e = absurd cc
    here r c true t e =
        let low = covers_low r addr c in
        let inside = leb-true (addr + n) (end_of r) t in
        let same : bytes ≡ slice_range r.bytes (addr - r.start) (addr - r.start + n) = cc in
        let count : addr - r.start + n - (addr - r.start) ≡ n = omega arith in
        ap length same ∙ ap (λ k. length (take k (drop (addr - r.start) r.bytes))) count
        ∙ length-take-le n (drop (addr - r.start) r.bytes) (omega (arith, low, inside, length-drop (addr - r.start) r.bytes))

    go : (o : Option Region) → region_in regions addr ≡ o → Some bytes ≡ option_and_then (λ r. part_of r addr n) o → length bytes ≡ n
    go None f e = absurd cc
    go (Some r) f e = here r (found_passes (λ s. covers s addr) regions r f) (leb (addr + n) (end_of r)) refl e

-- the pc, the registers and the words of the stack stand behind what was there
pub put_all : {E : Type 0} (result : Result (Unit {0}) E) (pc : ℕ) (old one two three new numbers words stack : List ℕ) → one ≡ old → two ≡ one ++ pc ∷ [] → three ≡ two ++ numbers → words ≡ stack
    → OnOk result (new ≡ three ++ words) → OnOk result (new ≡ old ++ pc ∷ (numbers ++ stack))
put_all (Err e) pc old one two three new numbers words stack a b c d done = tt
put_all (Ok u) pc old one two three new numbers words stack a b c d done =
    done
    ∙ ap (λ xs. xs ++ words) (c ∙ ap (λ xs. xs ++ numbers) (b ∙ ap (λ xs. xs ++ pc ∷ []) a) ∙ append_assoc old (pc ∷ []) numbers)
    ∙ append_assoc old (pc ∷ numbers) words
    ∙ ap (λ xs. old ++ pc ∷ (numbers ++ xs)) d
