use Rattle.std.proofs.Common.{rules}
use Rattle.std.proofs.lemmas.List.Sorted.{answers_always}
use Rattle.cell_hold.proofs.Starts.{place_key, starts_rise}
use Rattle.cell_hold.proofs.spots.sort_by_start.Goals as goal

pub returns-clause-rising : goal.returns-clause-rising
returns-clause-rising c = starts_rise _ (c.sort_unstable_by_key.ensures.sorted place_key (answers_always _ _ _ (λ f a r g h. search rules)))
