-- The same dump with something else in it, and what its audit says.
use Rattle.std.specs.Prelude.{ℕ, List, [], ◌∷◌, ◌++◌, ◌+◌, codes, drop, take}
use Rattle.cell_audit.specs.declared.fail.AuditFail.{AuditFail}
use Rattle.cell_audit.specs.declared.fail.AuditFail.TheVariants.{Unreadable, NoObject, Misplaced, Unlinked, Differs}
use Rattle.cell_audit_rows.specs.Dumped.{lines}

pub record Case : Type 0 where
  pub lines : List (List ℕ)
  pub fault : AuditFail

abbrev pub case : List (List ℕ) → AuditFail → Case
case lines fault = record { lines = lines; fault = fault }

-- the lines before that place, other ones, and those behind so many of them
abbrev pub changed : ℕ → ℕ → List (List ℕ) → List (List ℕ)
changed place count new = take place lines ++ new ++ drop (place + count) lines

-- another byte of writable data is no fault
abbrev pub written : List (List ℕ)
written = changed 9 1 (codes "bytes 1.1 10000000 0600000000000000" ∷ [])

abbrev pub cases : List Case
cases =
    -- a byte of a field
    case (changed 10 1 (codes "bytes 2.1 10001000 05000010000000000100000000000000" ∷ [])) (Differs 14 (codes "bytes 2.1 10001000 05000010000000000100000000000000") (codes "bytes 2.1 10001000 04000010000000000100000000000000")) ∷
    -- no end
    case (changed 11 1 ([])) (Unreadable 0) ∷
    -- a number with a leading zero
    case (changed 3 1 (codes "place 1 01 10000000" ∷ [])) (Unreadable 7) ∷
    -- a space too many
    case (changed 3 1 (codes "place 1 1  10000000" ∷ [])) (Unreadable 7) ∷
    -- a letter that no hex digit is
    case (changed 3 1 (codes "place 1 1 1000000g" ∷ [])) (Unreadable 7) ∷
    -- no namespace
    case (changed 1 1 ([])) (Unreadable 5) ∷
    -- a namespace that is its own parent
    case (changed 2 0 (codes "ns 1 u 1" ∷ [])) (Unreadable 6) ∷
    -- cells that don't rise
    case (changed 4 1 (codes "cell 1 0 b k#b.o attached" ∷ [])) (Unreadable 8) ∷
    -- a place of another cell
    case (changed 5 1 (codes "place 1 1 10001000" ∷ [])) (Unreadable 9) ∷
    -- an alias before a place
    case (changed 3 0 (codes "alias 1 0 a::m" ∷ [])) (Unreadable 8) ∷
    -- a link behind the names
    case (changed 6 3 (codes "name 0 a::n 1.1+0" ∷ codes "name 0 b::p 2.1+0" ∷ codes "link 2.1 0 1.1" ∷ [])) (Unreadable 12) ∷
    -- no such file
    case (changed 4 1 (codes "cell 2 0 b k#c.o attached" ∷ [])) (NoObject 8) ∷
    -- a place too few
    case (changed 5 1 ([])) (Misplaced 8) ∷
    -- no multiple of the alignment
    case (changed 5 1 (codes "place 2 1 10001004" ∷ [])) (Misplaced 9) ∷
    -- past the end of the space
    case (changed 5 1 (codes "place 2 1 10400000" ∷ [])) (Misplaced 9) ∷
    -- on the other section
    case (changed 5 1 (codes "place 2 1 10000000" ∷ [])) (Misplaced 9) ∷
    -- an alias on a symbol that isn't defined
    case (changed 6 0 (codes "alias 2 1 b::q" ∷ [])) (Misplaced 10) ∷
    -- a need without a provider
    case (changed 2 1 (codes "cell 1 0 a k#a.o group 1" ∷ [])) (Unlinked 8 0) ∷
    -- a link too few
    case (changed 6 1 ([])) (Differs 10 (codes "name 0 a::n 1.1+0") (codes "link 2.1 0 1.1")) ∷
    -- a link elsewhere
    case (changed 6 1 (codes "link 2.1 0 2.1" ∷ [])) (Differs 10 (codes "link 2.1 0 2.1") (codes "link 2.1 0 1.1")) ∷
    -- a name too few
    case (changed 7 1 ([])) (Differs 11 (codes "name 0 b::p 2.1+0") (codes "name 0 a::n 1.1+0")) ∷
    -- a name elsewhere
    case (changed 7 1 (codes "name 0 a::n 1.1+8" ∷ [])) (Differs 11 (codes "name 0 a::n 1.1+8") (codes "name 0 a::n 1.1+0")) ∷
    -- an alias without its name
    case (changed 6 0 (codes "alias 2 0 b::q" ∷ [])) (Differs 14 (codes "bytes 1.1 10000000 0700000000000000") (codes "name 0 b::q 2.1+0")) ∷
    -- a section moved, with what names it left alone
    case (changed 3 7 (codes "place 1 1 10002000" ∷ codes "cell 2 0 b k#b.o attached" ∷ codes "place 2 1 10001000" ∷ codes "link 2.1 0 1.1" ∷ codes "name 0 a::n 1.1+0" ∷ codes "name 0 b::p 2.1+0" ∷ codes "bytes 1.1 10002000 0700000000000000" ∷ [])) (Differs 14 (codes "bytes 2.1 10001000 04000010000000000100000000000000") (codes "bytes 2.1 10001000 04200010000000000100000000000000")) ∷
    []
