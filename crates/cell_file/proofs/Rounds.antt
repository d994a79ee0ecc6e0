-- Rules that are tried for one number after the other.
use Rattle.std.proofs.Common.{◌≡◌, ℕ, ◌+◌, ◌<◌, ◌≤◌, List, ◌++◌, Ok, ap, ◌∙◌}
use Rattle.std.specs.List.{flat_map}
use Rattle.cell_object.specs.Bytes.{Broken, checked, between}
use Rattle.cell_file.specs.declared.fail.ReadFail.{ReadFail}
use Rattle.cell_file.specs.Outcome.{Fails}
use Rattle.cell_object.proofs.Between.{flat_map-between-split, flat_map-between-more, flat_map-between-none, between-none}
use Rattle.cell_file.proofs.Passing.{checked-passed, Fails-append}

-- one more number passes
pub round_passes : (f : ℕ → List Broken) (a j : ℕ) → a ≤ j → checked (flat_map f (between a j)) ≡ Ok tt → checked (f j) ≡ Ok tt → checked (flat_map f (between a (j + 1))) ≡ Ok tt
round_passes f a j h before here =
    ap checked (flat_map-between-more f a j h) ∙ checked-passed (flat_map f (between a j)) (f j) before ∙ here

-- the first number that fails decides
pub round_fails : (e : ReadFail) (f : ℕ → List Broken) (a j n : ℕ) → a ≤ j → j < n → checked (flat_map f (between a j)) ≡ Ok tt → Fails e (checked (f j)) → Fails e (checked (flat_map f (between a n)))
round_fails e f a j n h k before here =
    rw (flat_map-between-split f a j n h k, checked-passed (flat_map f (between a j)) (f j ++ flat_map f (between (j + 1) n)) before) (Fails-append e (f j) (flat_map f (between (j + 1) n)) here)

pub ruleset rounds = (checked-passed, Fails-append, round_passes, round_fails, between-none, flat_map-between-none, flat_map-between-more)
