-- Whether what is read is an object.
use Rattle.std.proofs.Common.{◌≡◌, ◌&&◌, Bool, true, false, List, [], ◌∷◌, Option, Ok, ℕ, refl, sym, ap, subst, ◌∙◌}
use Rattle.cell_object.specs.declared.object.Object.{Object}
use Rattle.cell_object.specs.declared.object.Section.{Section}
use Rattle.cell_object.specs.declared.object.Symbol.{Symbol}
use Rattle.cell_object.specs.declared.object.Entry.{Entry}
use Rattle.cell_object.specs.Bytes.{Broken, checked}
use Rattle.cell_object.specs.Reads.{object_unless}
use Rattle.cell_file.specs.Kept.{IsLike, is_full}
use Rattle.cell_file.specs.Outcome.{Tells}
use Rattle.cell_elf.proofs.Keeping.{whole_is, whole_not}

-- it is the object exactly where each of its lists is
tells_parts : (object other : Object) (a b c : Bool)
    → (a ≡ true → other.sections ≡ object.sections) → (a ≡ false → other.sections ≡ object.sections → ⊥)
    → (b ≡ true → other.symbols ≡ object.symbols) → (b ≡ false → other.symbols ≡ object.symbols → ⊥)
    → (c ≡ true → other.entries ≡ object.entries) → (c ≡ false → other.entries ≡ object.entries → ⊥) → Tells object (Ok (a && b && c)) (Ok other)
tells_parts object other true true true s1 s0 y1 y0 e1 e0 =
    let s = s1 refl in let y = y1 refl in let e = e1 refl in
    λ i. Ok (record { sections = s i; symbols = y i; entries = e i })
tells_parts object other true true false s1 s0 y1 y0 e1 e0 = λ same. e0 refl (ap (λ (o : Object). o.entries) same)
tells_parts object other true false c s1 s0 y1 y0 e1 e0 = λ same. y0 refl (ap (λ (o : Object). o.symbols) same)
tells_parts object other false b c s1 s0 y1 y0 e1 e0 = λ same. s0 refl (ap (λ (o : Object). o.sections) same)

-- what a comparison says where no rule is broken
tells_object : (rules : List Broken) (object other : Object) (x y z : Option ℕ) → checked rules ≡ Ok tt
    → IsLike object.sections x other.sections → IsLike object.symbols y other.symbols → IsLike object.entries z other.entries
    → Tells object (Ok (is_full object.sections x && is_full object.symbols y && is_full object.entries z)) (object_unless rules other)
tells_object [] object other x y z passed s t e =
    tells_parts object other (is_full object.sections x) (is_full object.symbols y) (is_full object.entries z)
    (whole_is object.sections x other.sections s) (whole_not object.sections x other.sections s)
    (whole_is object.symbols y other.symbols t) (whole_not object.symbols y other.symbols t)
    (whole_is object.entries z other.entries e) (whole_not object.entries z other.entries e)
tells_object (b ∷ bs) object other x y z passed s t e = absurd cc

-- the same, at the lists that it was compared with
pub tells_whole : (rules : List Broken) (object other : Object) (ss : List Section) (ys : List Symbol) (es : List Entry) (x y z : Option ℕ) (whole : Bool) → checked rules ≡ Ok tt
    → whole ≡ (is_full ss x && is_full ys y && is_full es z)
    → (ss ≡ object.sections) × IsLike object.sections x other.sections → (ys ≡ object.symbols) × IsLike object.symbols y other.symbols → (es ≡ object.entries) × IsLike object.entries z other.entries
    → Tells object (Ok whole) (object_unless rules other)
tells_whole rules object other ss ys es x y z whole passed e s t u =
    let same : whole ≡ (is_full object.sections x && is_full object.symbols y && is_full object.entries z) = e ∙ rw (s.0, t.0, u.0) refl in
    subst (λ (b : Bool). Tells object (Ok b) (object_unless rules other)) (sym same) (tells_object rules object other x y z passed s.1 t.1 u.1)
