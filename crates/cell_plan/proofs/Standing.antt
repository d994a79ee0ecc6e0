-- Spans stand for their fields: which task stands in which, and which is the lowest.
use Rattle.std.proofs.Common.{◌≡◌, ℕ, ◌+◌, ◌&&◌, false, Option, Some, None, List, [], ◌∷◌, refl, sym, ap, ◌∙◌, arith, inl, inr}
use Rattle.std.specs.Prelude.{◌==◌, nat_lt, nat_le, map, filter, fold, option_map}
use Rattle.std.proofs.lemmas.Bool.{cases_Bool}
use Rattle.std.proofs.lemmas.Bool.Decides.{nat_tests}
use Rattle.cell_num.specs.Lists.{or_else}
use Rattle.cell_num.specs.declared.kinds.RelKind.{RelKind}
use Rattle.cell_num.specs.declared.kinds.RelKind.TheVariants.{Call, CallPlt, PcrelHi20, Hi20}
use Rattle.cell_object.specs.declared.object.Entry.{Entry}
use Rattle.cell_world.specs.declared.state.NewCell.{NewCell}
use Rattle.cell_world.specs.World.{Task}
use Rattle.cell_world.specs.Linked.Field.{place_of}
use Rattle.cell_world.specs.Changed.{FieldAt}
use Rattle.cell_world.specs.Torn.{is_inside, is_torn, is_lower, lower_of, last_low, torn_of, torn_refusal, first_torn}
use Rattle.cell_plan.specs.declared.torn.Torn.{Torn}
use Rattle.cell_plan.specs.Spans.{first_inside, last_inside, span_at, is_in, lower_span, torn_at, torn_in, torn_among, pc_of, refusal_of}

only : (pc place : ℕ) → (pc == place) ≡ (nat_le place pc && nat_le pc place)
only pc place = grind (arith, nat_tests)

behind : (pc place last : ℕ) → (nat_lt place pc && nat_le pc last) ≡ (nat_le (place + 1) pc && nat_le pc last)
behind pc place last = ap (λ b. b && nat_le pc last) (up pc place)
  where
    up : (pc place : ℕ) → nat_lt place pc ≡ nat_le (place + 1) pc
    up pc place = grind (arith, nat_tests)

nowhere : (pc place : ℕ) → false ≡ (nat_le (place + 1) pc && nat_le pc place)
nowhere pc place = grind (arith, nat_tests)

inside_same : (kind : RelKind) (c : NewCell) (f : Entry) (pc : ℕ) → is_inside kind c f pc ≡ (nat_le (first_inside kind c f) pc && nat_le pc (last_inside kind c f))
inside_same Call c f pc = only pc (place_of c f + 4)
inside_same CallPlt c f pc = only pc (place_of c f + 4)
inside_same Hi20 c f pc = behind pc (place_of c f) (last_low c f)
inside_same PcrelHi20 c f pc = behind pc (place_of c f) (last_low c f)
inside_same _ c f pc = nowhere pc (place_of c f)

torn_same : (t : Task) (f : FieldAt) → is_torn t f ≡ is_in t.pc (span_at f)
torn_same t f = inside_same f.field.kind f.cell.placed f.field t.pc

lower_same : (acc : Option FieldAt) (f : FieldAt) → option_map span_at (lower_of acc f) ≡ lower_span (option_map span_at acc) (span_at f)
lower_same None f = refl
lower_same (Some g) f = elim (cases_Bool (is_lower f g)) [
  | inl t ↦ rw t refl
  | inr t ↦ rw t refl
]

lowest_same : (t : Task) (acc : Option FieldAt) (fields : List FieldAt)
    → option_map span_at (fold lower_of acc (filter (is_torn t) fields)) ≡ fold lower_span (option_map span_at acc) (filter (is_in t.pc) (map span_at fields))
lowest_same t acc [] = refl
lowest_same t acc (f ∷ fields) = elim (cases_Bool (is_torn t f)) [
  | inl inside ↦ rw (inside, sym (torn_same t f) ∙ inside) (lowest_same t (lower_of acc f) fields ∙ ap (λ o. fold lower_span o (filter (is_in t.pc) (map span_at fields))) (lower_same acc f))
  | inr outside ↦ rw (outside, sym (torn_same t f) ∙ outside) (lowest_same t acc fields)
]

task_same : (t : Task) (fields : List FieldAt) → option_map refusal_of (torn_in (map span_at fields) (pc_of t)) ≡ torn_of fields t
task_same t fields = rw (← lowest_same t None fields) (answers (fold lower_of None (filter (is_torn t) fields)))
  where
    answers : (o : Option FieldAt) → option_map refusal_of (option_map (torn_at (pc_of t)) (option_map span_at o)) ≡ option_map (torn_refusal t) o
    answers None = refl
    answers (Some f) = refl

pub first_same : (fields : List FieldAt) (tasks : List Task) → option_map refusal_of (torn_among (map span_at fields) (map pc_of tasks)) ≡ first_torn fields tasks
first_same fields [] = refl
first_same fields (t ∷ tasks) =
    or_else_map (torn_in (map span_at fields) (pc_of t)) (torn_among (map span_at fields) (map pc_of tasks))
    ∙ rw (task_same t fields, first_same fields tasks) refl
  where
    or_else_map : (a b : Option Torn) → option_map refusal_of (or_else a b) ≡ or_else (option_map refusal_of a) (option_map refusal_of b)
    or_else_map None b = refl
    or_else_map (Some x) b = refl
