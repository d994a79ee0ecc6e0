use Rattle.std.proofs.Common.{◌≡◌, ℕ, ◌+◌, ◌*◌, List, Option, Bool, None, [], length, map, replicate, subst, sym, ap, ◌∙◌, arith}
use Rattle.std.proofs.lemmas.List.{length-replicate, get_or-replicate}
use Rattle.cell_world.specs.World.{Region}
use Rattle.cell_world.specs.Running.Undo.{AreBytes}
use Rattle.cell_mem.specs.Inside.{is_mark}
use Rattle.cell_mem.specs.Index.{AreInPlace, IsLaid, IsIndex, held}
use Rattle.cell_mem.specs.State.{MemoryState, empty_memory}
use Rattle.cell_mem.proofs.Held.{none_held, none_in_place}
use Rattle.cell_mem.proofs.Seals.{marks_repeated}
use Rattle.cell_mem.proofs.memory.Memory.new.Goals as goal

none_indexed : (base n : ℕ) → IsIndex base [] (replicate n None)
none_indexed base n page lt = get_or-replicate n page None None (omega (arith, lt, length-replicate n (let none : Option ℕ = None in none)))

pub invariant_of-result : goal.invariant_of-result
invariant_of-result c =
    let n = c.args.pages in
    let regions : c.in_ok-nothing.field-0.items ≡ replicate n None = c.in_ok-nothing.ensures {u = tt} in
    let firsts : c.in_ok-repeated.field-0.items ≡ replicate n None = c.in_ok-repeated.ensures {u = tt} in
    let sealed : c.in_ok-repeated-2.field-0.items ≡ replicate (4096 * n) 0 = c.in_ok-repeated-2.ensures {u = tt} in
    let none : held c.in_ok-nothing.field-0.items ≡ [] = ap held regions ∙ none_held n in
    record {
      space = c.requires;
      regions = ap length regions ∙ length-replicate n None;
      in_place = subst (AreInPlace c.args.base) (sym regions) (none_in_place c.args.base n);
      laid = subst (λ (rs : List Region). IsLaid c.args.base rs (c.args.base + 4096 * n)) (sym none) (omega arith);
      bytes = subst (λ (rs : List Region). AreBytes rs) (sym none) (λ k d lt. absurd (omega (arith, lt)));
      firsts = ap length firsts ∙ length-replicate n None;
      index = subst (λ (rs : List Region). IsIndex c.args.base rs c.in_ok-repeated.field-0.items) (sym none)
          (subst (λ (xs : List (Option ℕ)). IsIndex c.args.base [] xs) (sym firsts) (none_indexed c.args.base n));
      sealed = ap length sealed ∙ length-replicate (4096 * n) 0;
      near = omega (arith, c.requires.fewest);
      few = omega (arith, ap length none);
    }

pub returns : goal.returns
returns c =
    let n = c.args.pages in
    let none : held c.in_ok-nothing.field-0.items ≡ [] = ap held (c.in_ok-nothing.ensures {u = tt}) ∙ none_held n in
    ap (λ (rs : List Region). let m : MemoryState = record (empty_memory c.args.base n) { regions = rs; sealed = map is_mark c.in_ok-repeated-2.field-0.items } in m) none
    ∙ ap (λ (marks : List Bool). let m : MemoryState = record (empty_memory c.args.base n) { sealed = marks } in m) (ap (map is_mark) (c.in_ok-repeated-2.ensures {u = tt}) ∙ marks_repeated (4096 * n) 0)
