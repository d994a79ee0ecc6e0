use Rattle.std.proofs.Common.{rules, ◌≡◌, sym, ap, subst, ℕ, ◌<◌, List, length, map}
use Rattle.std.specs.Prelude.{All}
use Rattle.std.proofs.lemmas.List.Elements.{All-rest}
use Rattle.cell_world.specs.Names.{chain}
use Rattle.cell_gather.specs.Choosing.{nearest_now, one_in, space_name}
use Rattle.cell_world.specs.Gather.{source_of, depot_files}
use Rattle.cell_space.proofs.Chains.{chain_inside}
use Rattle.cell_gather.proofs.Nearests.{nearest_on, nothing_there}
use Rattle.cell_gather.proofs.load.Load.nearest.Goals as goal

pub loop-space-init : goal.loop-space-init
loop-space-init c =
    let all : List ℕ = chain c.args.self.now.spaces.now.namespaces c.args.ns in
    let same : c.into_iter-space-iterator.result ≡ all = search rules in
    record {
      left = ap (λ (spaces : List ℕ). nearest_now (map source_of c.args.self.now.depot.now) c.args.self.now.spaces.now.namespaces spaces c.args.stem.now) same;
      inside = subst (λ (spaces : List ℕ). All (λ n. n < length c.args.self.now.spaces.now.namespaces) spaces) (sym same) (chain_inside c.args.self.now.spaces.now.namespaces c.args.ns);
    }

pub loop-space-preserved : goal.loop-space-preserved
loop-space-preserved c =
    let sources = map source_of c.args.self.now.depot.now in
    let namespaces = c.args.self.now.spaces.now.namespaces in
    record {
      left =
          nearest_on sources namespaces c.args.stem.now (chain namespaces c.args.ns) c.loop-space.space-iterator c.next.new.self c.in-Some.space c.loop-space.invariant.left c.in-Some.ensures.steps
          (nothing_there c.in_ok-file.field-0 (one_in (depot_files sources (space_name namespaces c.in-Some.space) c.args.stem.now)) c.in_default.is c.in_ok-file.ensures.file);
      inside = All-rest (λ (n : ℕ). n < length namespaces) c.in-Some.space c.next.new.self c.loop-space.space-iterator c.in-Some.ensures.steps c.loop-space.invariant.inside;
    }
