-- How much is generated.
use Rattle.std.proofs.Common.{◌≡◌, refl, sym, arith, ◌-◌, inl, inr, ℕ, zero, suc, ◌+◌, ◌*◌, ◌<◌, ◌≤◌, ◌^◌, Bool, true, false, cond, List, [], ◌∷◌, ◌++◌, length, length-append}
use Rattle.std.specs.Prelude.{All, Result, Ok, Err, codes, flat_map, nat_le}
use Rattle.std.specs.Fmt.{decimal}
use Rattle.std.specs.List.{range_with_len}
use Rattle.std.proofs.lemmas.Bool.{leb-true}
use Rattle.std.proofs.lemmas.List.FromFn.{length-map-range_with_len}
use Rattle.std.proofs.lemmas.List.Elements.{All-nil, All-cons}
use Rattle.cell_num.specs.Lists.{In}
use Rattle.cell_num.proofs.Ranges.{In-range, length-range}
use Rattle.cell_assemble.specs.SourceImage.{image_of_source}
use Rattle.cell_asm.specs.declared.kind.AsmKind.{AsmKind}
use Rattle.cell_world.specs.declared.file.File.{File}
use Rattle.cell_world.specs.declared.command.Command.TheVariants.{Purge}
use Rattle.cell_num.specs.Limits.{max_file_bytes}
use Rattle.cell_script.specs.Script.{are_said}
use Rattle.cell_script.proofs.Said.{script_said}
use Rattle.cell_text.specs.Text.{lines_in}
use Rattle.cell_gen.specs.Generated.{crates_to, drawn, files_naming, files_of_crate, generated_files, generated_lines, generated_script, image_of, image_or_none, line_numbered, lines_behind, load_command, load_text, source, swap_command, swap_text}
use Rattle.cell_gen.proofs.Decimals.{length-decimal, short_decimal}
use Rattle.cell_gen.proofs.ScriptReads.{script_reads}

length-each : {X : Type 0} (f : ℕ → List X) (m k a : ℕ) → ((i : ℕ) → length (f i) ≡ m) → length (flat_map f (range_with_len a k)) ≡ m * k
length-each f m zero a each = omega arith
length-each f m (suc k) a each = omega (arith, length-append (f a) (flat_map f (range_with_len (a + 1) k)), each a, length-each f m k (a + 1) each)

pub two_each : (n seed : ℕ) → length (generated_files n seed) ≡ 2 * n
two_each n seed = length-each (files_of_crate n seed) 2 n 1 (λ i. refl)

length-load_text : (i : ℕ) → i < 2 ^ 32 → length (load_text i) ≤ 40
length-load_text i small = omega (arith, (short_decimal i small).few, length-append (decimal i) (codes "\n"))

length-swap_text : (i : ℕ) → i < 2 ^ 32 → length (swap_text i) ≤ 40
length-swap_text i small =
    let d = decimal i in
    omega (arith, (short_decimal i small).few, length-append d (codes "=n#g" ++ ((d ++ codes "-2.o") ++ codes "\n")), length-append (d ++ codes "-2.o") (codes "\n"), length-append d (codes "-2.o"))

pub short_source : (i : ℕ) (body : List ℕ) (p q r : ℕ) → length body ≤ 16 → length (source i body p q r) < 2 ^ 31
short_source i body p q r h = simp length-append (omega (arith, h, length-decimal i, length-decimal p, length-decimal q, length-decimal r))

pub short_script : (n : ℕ) → n ≤ 400 → length (generated_script n) < 2 ^ 20
short_script n few =
    let loads = flat_map load_text (crates_to n) in
    let swaps = flat_map swap_text (crates_to n) in
    omega (
      arith,
      length-append (loads ++ swaps) (codes "purge\n"),
      length-append loads swaps,
      length-range load_text 40 n 1 (λ i low high. length-load_text i (omega arith)),
      length-range swap_text 40 n 1 (λ i low high. length-swap_text i (omega arith)),
    )

pub few_lines : (n : ℕ) → length (generated_lines n) ≡ 2 * n + 1
few_lines n =
    let loads = lines_behind 0 load_command n in
    let swaps = lines_behind n swap_command n in
    omega (
      arith,
      length-append (loads ++ swaps) (line_numbered (2 * n + 1) Purge ∷ []),
      length-append loads swaps,
      length-map-range_with_len (λ i. line_numbered (0 + i) (load_command i)) 1 n,
      length-map-range_with_len (λ i. line_numbered (n + i) (swap_command i)) 1 n,
    )

-- what a script says can be said
pub lines_said : (n : ℕ) → n ≤ 400 → are_said (generated_lines n) ≡ true
lines_said n few = rw (script_reads n few) at (script_said 1 (lines_in (generated_script n)))

short_or_none : (bytes : List ℕ) (b : Bool) → b ≡ nat_le (length bytes) max_file_bytes → length (cond b bytes []) ≤ max_file_bytes
short_or_none bytes true e = leb-true (length bytes) max_file_bytes (sym e)
short_or_none bytes false e = omega arith

image_short : (r : Result (List ℕ) (ℕ × AsmKind)) → length (image_or_none r) ≤ max_file_bytes
image_short (Ok bytes) = short_or_none bytes (nat_le (length bytes) max_file_bytes) refl
image_short (Err fault) = omega arith

pub length-image_of : (text : List ℕ) → length (image_of text) ≤ max_file_bytes
unfolding image_of
length-image_of text = image_short (image_of_source text)

file_small : (i p q r : ℕ) (f : File) → In f (files_naming i p q r) → length f.bytes ≤ max_file_bytes
file_small i p q r f (inl loaded) = rw loaded (length-image_of (source i (codes "ret") p q r))
file_small i p q r f (inr (inl replacing)) = rw replacing (length-image_of (source i (codes "nop\nret") p q r))
file_small i p q r f (inr (inr none)) = absurd none

In-All : {X : Type 0} (P : X → Type 0) (xs : List X) → ((x : X) → In x xs → P x) → All P xs
In-All P [] each = All-nil P
In-All P (x ∷ xs) each = All-cons P x xs (each x (inl refl)) (In-All P xs (λ y here. each y (inr here)))

pub files_small : (n seed : ℕ) → All (λ f. length f.bytes ≤ max_file_bytes) (generated_files n seed)
files_small n seed = In-All (λ (f : File). length f.bytes ≤ max_file_bytes) (generated_files n seed) (λ f here.
    let at = In-range (files_of_crate n seed) n 1 f here in file_small at.0 (drawn n seed (3 * at.0 - 2)) (drawn n seed (3 * at.0 - 1)) (drawn n seed (3 * at.0)) f at.3)

pub ruleset sizes = (two_each, files_small, short_script, script_reads, lines_said, few_lines)
