use Rattle.std.proofs.Common.{◌≡◌, ◌+◌, ◌-◌, ◌<◌, ℕ, Bool, false, List, [], ◌∷◌, ◌++◌, length, get_or, ap, ◌∙◌, arith, length-append, below_more}
use Rattle.std.proofs.lemmas.List.{get_or_append_left, get_or-append_right}
use Rattle.cell_world.specs.Names.{are_on_one_path}
use Rattle.cell_space.proofs.path.path_of.Goals as goal

-- one mark more
marked_more : (marks : List Bool) (n : ℕ) (mark : Bool) (f : ℕ → Bool) → length marks ≡ n → mark ≡ f n → ((k : ℕ) → k < n → get_or marks k false ≡ f k)
    → (k : ℕ) → k < n + 1 → get_or (marks ++ mark ∷ []) k false ≡ f k
marked_more marks n mark f count is so_far =
    below_more (λ k. get_or (marks ++ mark ∷ []) k false ≡ f k) n
    (λ k lt. get_or_append_left marks (mark ∷ []) false k (omega (arith, count)) ∙ so_far k lt)
    (get_or-append_right marks (mark ∷ []) n n false count (omega arith) ∙ ap (λ i. get_or (mark ∷ []) i false) (let none : n - n ≡ 0 = omega arith in none) ∙ is)

pub loop-other-preserved : goal.loop-other-preserved
loop-other-preserved c = record {
  count = ap length c.in_ok-push.ensures.items ∙ length-append c.loop-other.marks.items (c.are_on_one_path.result ∷ []) ∙ ap (λ n. n + 1) c.loop-other.invariant.count;
  marked = λ k lt.
      ap (λ (marks : List Bool). get_or marks k false) c.in_ok-push.ensures.items
      ∙ marked_more c.loop-other.marks.items c.loop-other.other c.are_on_one_path.result (are_on_one_path c.args.namespaces.now c.args.ns) c.loop-other.invariant.count c.are_on_one_path.ensures c.loop-other.invariant.marked k lt;
}

pub returns-clause-is : goal.returns-clause-is
returns-clause-is c = record {
  there = c.requires.there;
  whole = omega (arith, c.loop-other.invariant.count);
  marked = λ k lt. c.loop-other.invariant.marked k (omega (arith, lt, c.loop-other.invariant.count));
}
