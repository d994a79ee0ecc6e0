use Rattle.std.proofs.Common.{rules, ◌≡◌, sym, ◌∙◌, ap, subst, ℕ, ◌<◌, ◌||◌, List, length}
use Rattle.std.specs.Prelude.{All}
use Rattle.std.proofs.lemmas.List.Elements.{All-rest}
use Rattle.cell_world.specs.Names.{chain}
use Rattle.cell_space.specs.Ahead.{is_there_in}
use Rattle.cell_space.proofs.Chains.{chain_inside}
use Rattle.cell_space.proofs.ahead.Ahead.climb_for.Goals as goal

pub loop-space-init : goal.loop-space-init
loop-space-init c =
    let same : c.into_iter-space-iterator.result ≡ chain c.args.self.now.namespaces c.args.ns = search rules in
    record {
      left = ap (λ (spaces : List ℕ). is_there_in spaces c.args.stem.now c.args.self.now.cells) same;
      inside = subst (λ (spaces : List ℕ). All (λ n. n < length c.args.self.now.namespaces) spaces) (sym same) (chain_inside c.args.self.now.namespaces c.args.ns);
    }

pub loop-space-preserved : goal.loop-space-preserved
loop-space-preserved c = record {
  left =
      sym (ap (λ b. b || is_there_in c.next.new.self c.args.stem.now c.args.self.now.cells) (sym c.is_at.ensures ∙ c.if-is_at.false))
      ∙ ap (λ (spaces : List ℕ). is_there_in spaces c.args.stem.now c.args.self.now.cells) (sym c.in-Some.ensures.steps)
      ∙ c.loop-space.invariant.left;
  inside = All-rest (λ (n : ℕ). n < length c.args.self.now.namespaces) c.in-Some.space c.next.new.self c.loop-space.space-iterator c.in-Some.ensures.steps c.loop-space.invariant.inside;
}
