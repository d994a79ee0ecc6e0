use Rattle.std.proofs.Common.{arith, length, ◌-◌, subst, ℕ, ◌++◌, ◌≡◌}
use Rattle.std.specs.Prelude.{Option}
use Rattle.std.proofs.lemmas.Bool.Decides.{nat_tests}
use Rattle.cell_world.specs.Names.{chain}
use Rattle.cell_relinked.proofs.Chaining.{all_steps, none_left, none_there, absent, one_more, onward}
use Rattle.cell_relinked.proofs.Gotten.{got}
use Rattle.cell_relinked.proofs.chain.chain_of.Goals.{else-loop-test, then-loop-test+in_default, then-loop-test+in-Some+in_default-get}
use Rattle.cell_relinked.proofs.chain.chain_of.Goals as goal

pub loop-preserved : goal.loop-preserved
loop-preserved c =
    let spaces = c.args.namespaces.now in
    let all = chain spaces c.args.ns in
    let at = c.in-Some-get.ensures.lookup in
    one_more spaces c.loop.spaces.items c.push.new.self.items all c.loop.counter c.in-Some.here c.in-Some-get.space.now (omega arith)
    (got spaces c.in-Some.here c.in-Some-get.space.now (grind (arith, nat_tests)) at.1) c.in_ok-push.ensures.items
    (subst (λ (o : Option ℕ). c.loop.spaces.items ++ onward spaces (length spaces - c.loop.counter) o ≡ all) c.in-Some.is c.loop.invariant)

pub returns : goal.returns
returns c =
    let spaces = c.args.namespaces.now in
    let all = chain spaces c.args.ns in
    let steps = length spaces - c.loop.counter in
    elim c.loop-test.branch [
      | else-loop-test w ↦ let past = w.loop-test.false in all_steps spaces c.loop.spaces.items all steps c.loop.next (omega (arith, past)) c.loop.invariant
      | then-loop-test+in_default w ↦ none_left spaces c.loop.spaces.items all steps (subst (λ (o : Option ℕ). c.loop.spaces.items ++ onward spaces steps o ≡ all) w.in_default.is c.loop.invariant)
      | then-loop-test+in-Some+in_default-get w ↦
          let at = w.in_default-get.ensures.lookup in
          none_there spaces c.loop.spaces.items all steps w.in-Some.here (absent spaces w.in-Some.here (grind (arith, nat_tests)))
          (subst (λ (o : Option ℕ). c.loop.spaces.items ++ onward spaces steps o ≡ all) w.in-Some.is c.loop.invariant)
    ]
