-- The pieces of a text.
--     pieces test text      what stands between the bytes at which the test holds
--     lines_in text         the lines of a text, without their line feeds
--     words_of line         the words of a line
--     spans_of line         their places
use Rattle.std.specs.Prelude.{ℕ, ◌+◌, ◌<◌, ◌≤◌, nat_lt, Bool, true, false, ◌||◌, ◌==◌, List, [], ◌∷◌, length, filter, slice_range, get_or, if◌then◌else◌}
use Rattle.cell_text.specs.declared.pieces.Span.{Span}
use Rattle.cell_text.specs.declared.pieces.Separator.{Separator}
use Rattle.cell_text.specs.declared.pieces.Separator.TheVariants.{Blank, LineFeed}

-- a byte at the front of the first piece
abbrev pub onto : ℕ → List (List ℕ) → List (List ℕ)
onto b [] = (b ∷ []) ∷ []
onto b (piece ∷ rest) = (b ∷ piece) ∷ rest

-- one piece more than there are separators
abbrev pub pieces : (ℕ → Bool) → List ℕ → List (List ℕ)
pieces test [] = [] ∷ []
pieces test (b ∷ bs) = if test b then [] ∷ pieces test bs else onto b (pieces test bs)

-- the byte is a separator: a space or a tab, or a line feed
abbrev pub separates : Separator → ℕ → Bool
separates Blank b = b == 32 || b == 9
separates LineFeed b = b == 10

-- the lines, of which the last has no line feed and may be empty
abbrev pub lines_in : List ℕ → List (List ℕ)
lines_in text = pieces (separates LineFeed) text

-- each line begins behind as many bytes as there are lines before it
abbrev pub Behind : ℕ → List (List ℕ) → Type 0
Behind size lines = (k : ℕ) → k < length lines → k + length (get_or lines k []) ≤ size

abbrev pub is_filled : List ℕ → Bool
is_filled [] = false
is_filled (b ∷ bs) = true

-- the words of a line, which spaces and tabs separate
abbrev pub words_of : List ℕ → List (List ℕ)
words_of line = filter is_filled (pieces (separates Blank) line)

-- the places of pieces, of which each has one separator behind it, from a place on
abbrev pub places : ℕ → List (List ℕ) → List Span
places at [] = []
places at (piece ∷ rest) = record { start = at; end = at + length piece } ∷ places (at + length piece + 1) rest

abbrev pub is_filled_span : Span → Bool
is_filled_span span = nat_lt span.start span.end

-- the places of the words of a line
abbrev pub spans_of : List ℕ → List Span
spans_of line = filter is_filled_span (places 0 (pieces (separates Blank) line))

-- what stands there
abbrev pub text_at : List ℕ → Span → List ℕ
text_at line span = slice_range line span.start span.end

pub record IsInside (line : List ℕ) (span : Span) : Type 0 where
  pub forward : span.start ≤ span.end
  pub within : span.end ≤ length line
