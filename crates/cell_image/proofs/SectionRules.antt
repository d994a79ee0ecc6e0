-- An image breaks no rule on sections.
use Rattle.std.proofs.Common.{◌≡◌, ℕ, suc, ◌+◌, ◌<◌, ◌≤◌, Bool, true, false, not, true≢false, ◌&&◌, ◌||◌, List, [], ◌++◌, length, take, get_or, ap, ◌∙◌, refl, arith, bit_and, bit_or}
use Rattle.std.specs.Prelude.{◌==◌, nat_lt, nat_le, is_none, is_some}
use Rattle.std.proofs.lemmas.Bool.{le-leb, le-ltb}
use Rattle.cell_object.specs.declared.object.Object.{Object}
use Rattle.cell_object.specs.declared.object.Section.{Section}
use Rattle.cell_object.specs.declared.object.Fill.{Fill}
use Rattle.cell_object.specs.declared.object.Fill.TheVariants.{Prog, Note, Zero}
use Rattle.cell_object.specs.declared.headers.SectionHeader.{SectionHeader}
use Rattle.cell_object.specs.Bytes.{broken_where}
use Rattle.cell_object.specs.Header.{section_place}
use Rattle.cell_object.specs.Sections.{is_alignment, symtab_below, rule_8, rule_9, rule_10, rule_11, rule_12, section_rules}
use Rattle.cell_object.specs.Strings.{name_place}
use Rattle.cell_object.specs.ImageParts.{offset_after, contents, content, own_names}
use Rattle.cell_object.specs.Image.{section_row, fill_type, flag, image}
use Rattle.cell_image.proofs.Headers.{FitsImage, own_header, content_split, part_inside}
use Rattle.cell_image.proofs.OwnSections.{IsPlainSection, own_name}
use Rattle.cell_image.proofs.HeaderRules.{unbroken}

-- a section that breaks no rule of its own
pub record IsSoundSection (s : Section) : Type 0 where
  pub apart : (s.write && s.exec) ≡ false
  pub align : is_alignment s.align ≡ true
  pub small : s.size ≤ 16777216

inside_test : (f : Fill) (b : Bool) → ((fill_type f == 8) ≡ false → b ≡ true) → (not (fill_type f == 0) && not (fill_type f == 8) && not b) ≡ false
inside_test Prog b h = ap not (h refl)
inside_test Note b h = ap not (h refl)
inside_test Zero b h = refl

kind_test : (f : Fill) (a c : Bool) → (fill_type f == 9 || fill_type f == 17 || fill_type f == 2 && c || a && not (fill_type f == 1 || fill_type f == 8 || fill_type f == 7)) ≡ false
kind_test Prog true c = refl
kind_test Prog false c = refl
kind_test Note true c = refl
kind_test Note false c = refl
kind_test Zero true c = refl
kind_test Zero false c = refl

flags_test : (w x : Bool) → (w && x) ≡ false → (not (bit_and (2 + flag w 1 + flag x 4) 2 == 0) && (not (bit_or (2 + flag w 1 + flag x 4) 0x77 == 0x77) || not (bit_and (2 + flag w 1 + flag x 4) 1 == 0) && not (bit_and (2 + flag w 1 + flag x 4) 4 == 0))) ≡ false
flags_test true true h = absurd (true≢false h)
flags_test true false h = refl
flags_test false true h = refl
flags_test false false h = refl

pub and_false : (a b : Bool) → b ≡ false → (a && b) ≡ false
and_false true b h = h
and_false false b h = refl

-- the own section k breaks no rule
pub own_rules : (object : Object) (k : ℕ) (d : Section) → FitsImage object → k < length object.sections → IsPlainSection (suc k) (get_or object.sections k d) → IsSoundSection (get_or object.sections k d)
    → section_rules (image object) (suc k) ≡ []
unfolding section_rules
own_rules object k d f lt p q =
    let s : Section = get_or object.sections k d in
    let file : List ℕ = image object in
    let at : ℕ = section_place file (suc k) in
    let place : ℕ = name_place (own_names (take k object.sections)) s.name in
    let offset : ℕ = offset_after (contents (take k object.sections)) in
    let h : SectionHeader = (section_row place offset s) in
    let inside : (fill_type s.fill == 8) ≡ false → nat_le (offset + s.size) (length file) ≡ true = λ e.
    le-leb (offset + s.size) (length file) (omega (arith, part_inside object (contents (take k object.sections)) _ (content s) (content_split object k d lt), p.size e, ap length p.bytes)) in
    let alloc : Bool = not (bit_and (2 + flag s.write 1 + flag s.exec 4) 2 == 0) in
    let eight : rule_8 file at h ≡ [] = unbroken _ 8 (at + 24) (inside_test s.fill (nat_le (offset + s.size) (length file)) inside) in
    let nine : rule_9 file at h ≡ [] = ap (λ v. broken_where (is_none v) 9 at) (own_name object k d f lt p.name) in
    let ten : rule_10 file (suc k) at h ≡ [] = unbroken _ 10 (at + 4) (kind_test s.fill alloc (is_some (symtab_below file (suc k)))) in
    let eleven : rule_11 at h ≡ [] = unbroken _ 11 (at + 8) (flags_test s.write s.exec q.apart) in
    let aligned : (alloc && not (is_alignment s.align)) ≡ false = and_false alloc (not (is_alignment s.align)) (ap not q.align) in
    let small : (alloc && nat_lt 16777216 s.size) ≡ false = and_false alloc (nat_lt 16777216 s.size) (le-ltb 16777216 s.size q.small) in
    let twelve : rule_12 at h ≡ [] = λ i. unbroken (alloc && not (is_alignment s.align)) 12 (at + 48) aligned i ++ unbroken (alloc && nat_lt 16777216 s.size) 12 (at + 32) small i in
    ap (λ r. rule_8 file at r ++ (rule_9 file at r ++ (rule_10 file (suc k) at r ++ (rule_11 at r ++ rule_12 at r)))) (own_header object k d f lt)
    ∙ (λ i. eight i ++ (nine i ++ (ten i ++ (eleven i ++ twelve i))))
