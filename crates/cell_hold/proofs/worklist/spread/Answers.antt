use Rattle.std.proofs.Common.{◌∙◌, inl, inr, refl, arith, ◌<◌, ◌≤◌, ◌≡◌, ◌&&◌, ◌||◌, ℕ, Bool, not, true, length, take}
use Rattle.std.specs.Prelude.{nat_lt}
use Rattle.std.proofs.lemmas.Bool.{ltb-true}
use Rattle.cell_hold.specs.Adds.{has_cell}
use Rattle.cell_hold.specs.Reached.{links_lead, words_reach}
use Rattle.cell_hold.proofs.Spreading.{any_known, known_there, must_known, spread_begun, spread_more, spread_done}
use Rattle.cell_hold.proofs.worklist.spread.Goals as goal

pub loop-next-init : goal.loop-next-init
loop-next-init c = record { spread = spread_begun _ _ _ _; room = refl }

pub loop-next-preserved : goal.loop-next-preserved
loop-next-preserved c =
    let there : c.loop-next.next < length c.loop-next.into.items = omega (arith, c.if-next-len.false, c.len.ensures) in
    let so_far = c.loop-next.invariant.spread in
    let cell = c.at-cell.result in
    let known = nat_lt c.loop-next.next c.args.known in
    let first = has_cell (take c.args.known c.args.into.now.items) cell.0 in
    let link : ℕ → Bool = links_lead c.args.reading.now.graph.now cell.0 in
    let word : ℕ → Bool = words_reach c.args.reading.now.memory.now c.args.reading.now.places.now c.args.reading.now.others.now.items cell.0 in
    let among : known ≡ true → first ≡ true =
    λ h. known_there c.args.into.now.items c.loop-next.into.items so_far.more c.args.known c.loop-next.next cell so_far.is c.requires (ltb-true c.loop-next.next c.args.known h) c.at-cell.ensures in
    record {
      spread =
          spread_more _ _ _ _ (λ k. not known && link k || word k) _ _ _ _ cell there c.at-cell.ensures c.loop-next.invariant.room (λ k h. any_known known (link k) (word k) h)
          (λ k h. must_known known first (link k) (word k) among h) so_far c.add_reached-near.ensures.added;
      room = c.add_reached-near.ensures.room ∙ c.loop-next.invariant.room;
    }

pub returns-then-next-len-clause-spread : goal.returns-then-next-len-clause-spread
returns-then-next-len-clause-spread c =
    let all : length c.loop-next.into.items ≤ c.loop-next.next = omega (arith, c.if-next-len.true, c.len.ensures) in
    spread_done _ _ _ _ _ _ (inl all) c.loop-next.invariant.spread

pub returns-clause-spread : goal.returns-clause-spread
returns-clause-spread c =
    let all : c.args.into.now.room ≤ c.loop-next.next = omega (arith, c.room-next-end.ensures, c.loop-next-test.false) in
    spread_done _ _ _ _ _ _ (inr all) c.loop-next.invariant.spread
