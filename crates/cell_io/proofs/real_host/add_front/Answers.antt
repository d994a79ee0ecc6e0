use Rattle.std.proofs.Common.{◌≡◌, ◌≤◌, ◌+◌, length, arith, List, ℕ, ap, subst, sym}
use Rattle.std.proofs.lemmas.List.{length-take}
use Rattle.std.specs.Io.KnownBytes.{Consumes}
use Rattle.cell_io.proofs.Streams.{consumes_none, taken_full, taken_whole, takes_on}
use Rattle.cell_io.proofs.real_host.add_front.Goals as goal

pub loop-init : goal.loop-init
loop-init g c =
    let left = g.F.Read.remaining c.args.file.now in
    let none : length c.args.into.now.items ≡ 0 = ap length c.requires in
    record {
      most = omega (arith, none);
      taken = subst (λ (v : List ℕ). Consumes left left v) (sym c.requires) (consumes_none left);
    }

pub returns-then-room-eq0-clause-bytes : goal.returns-then-room-eq0-clause-bytes
returns-then-room-eq0-clause-bytes g c =
    let full : length c.loop.into.items ≡ c.args.limit + 1 = omega (arith, c.if-room-eq0.true, c.min-room.ensures, c.saturating_sub.ensures, c.len.ensures, c.loop.into.ok.0, c.loop.invariant.most) in
    taken_full (g.F.Read.remaining c.args.file.now) (g.F.Read.remaining c.loop.file) c.loop.into.items c.args.limit c.loop.invariant.taken full

pub returns-then-not-more-clause-bytes : goal.returns-then-not-more-clause-bytes
returns-then-not-more-clause-bytes g c =
    let first = g.F.Read.remaining c.args.file.now in
    let last = g.F.Read.remaining c.add_some.new.file in
    let got = c.add_some.new.into.items in
    let all = takes_on first (g.F.Read.remaining c.loop.file) last c.loop.into.items got c.loop.invariant.taken c.in_ok-more.ensures.taken in
    let most : length got ≤ c.args.limit + 1 = omega (arith, c.min-room.ensures, c.saturating_sub.ensures, c.len.ensures, c.loop.into.ok.0, c.loop.invariant.most, c.in_ok-more.ensures.most, length-take {A = ℕ}) in
    taken_whole first last got c.args.limit all (c.in_ok-more.ensures.end c.if-not-more.true) most

pub loop-preserved : goal.loop-preserved
loop-preserved g c =
    let first = g.F.Read.remaining c.args.file.now in
    record {
      most = omega (arith, c.min-room.ensures, c.saturating_sub.ensures, c.len.ensures, c.loop.into.ok.0, c.loop.invariant.most, c.in_ok-more.ensures.most, length-take {A = ℕ});
      taken = takes_on first (g.F.Read.remaining c.loop.file) (g.F.Read.remaining c.add_some.new.file) c.loop.into.items c.add_some.new.into.items c.loop.invariant.taken c.in_ok-more.ensures.taken;
    }
