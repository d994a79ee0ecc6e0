use Rattle.std.proofs.Common.{take, length, ◌+◌, ◌-◌, drop, ap, subst, arith, List, ℕ, ◌∙◌, take_all}
use Rattle.std.specs.Io.KnownBytes.{Appends}
use Rattle.cell_io.proofs.Streams.{appends_none, appends_more, appends_kept, appends_front, keeps_self, taken_on, within_on, on_err, on_ok}
use Rattle.cell_io.proofs.std_sink.write_through.Goals as goal

pub loop-init : goal.loop-init
loop-init g c = record { within = omega arith; written = appends_none (g.W.Write.contents c.args.stream.now) (g.W.Write.contents c.args.stream.now) (keeps_self (g.W.Write.contents c.args.stream.now)) }

pub loop-preserved : goal.loop-preserved
loop-preserved g c =
    let old = g.W.Write.contents c.args.stream.now in
    let new = g.W.Write.contents c.write_some.new.stream in
    let piece = c.args.piece.now in
    record {
      within = within_on piece c.loop.at c.in_ok-at.field-0 c.loop.invariant.within c.in_ok-at.ensures.within;
      written = subst (λ (v : List ℕ). Appends old new v) (taken_on piece c.loop.at c.in_ok-at.field-0)
          (appends_more old (g.W.Write.contents c.loop.stream) new (take c.loop.at piece) _ c.loop.invariant.written c.in_ok-at.ensures.taken);
    }

pub returns-then-at-piece-clause-whole : goal.returns-then-at-piece-clause-whole
returns-then-at-piece-clause-whole g c =
    let old = g.W.Write.contents c.args.stream.now in
    let all = subst (λ (v : List ℕ). Appends old (g.W.Write.contents c.loop.stream) v) (ap (λ (n : ℕ). take n c.args.piece.now) c.if-at-piece.true ∙ take_all (length c.args.piece.now) c.args.piece.now (omega arith)) c.loop.invariant.written in
    on_ok c.flush.result (appends_kept old (g.W.Write.contents c.loop.stream) (g.W.Write.contents c.flush.new.stream) c.args.piece.now all c.flush.ensures)

pub returns-then-at-piece-clause-part : goal.returns-then-at-piece-clause-part
returns-then-at-piece-clause-part g c =
    let old = g.W.Write.contents c.args.stream.now in
    let new = g.W.Write.contents c.flush.new.stream in
    on_err c.flush.result (appends_front old new c.args.piece.now c.loop.at (appends_kept old (g.W.Write.contents c.loop.stream) new (take c.loop.at c.args.piece.now) c.loop.invariant.written c.flush.ensures))

pub returns-in_err-at-clause-part : goal.returns-in_err-at-clause-part
returns-in_err-at-clause-part g c =
    let old = g.W.Write.contents c.args.stream.now in
    let new = g.W.Write.contents c.write_some.new.stream in
    on_err c.from_residual.result (appends_front old new c.args.piece.now c.loop.at (appends_kept old (g.W.Write.contents c.loop.stream) new (take c.loop.at c.args.piece.now) c.loop.invariant.written c.in_err-at.ensures.taken))

pub returns-clause-part : goal.returns-clause-part
returns-clause-part g c =
    appends_front (g.W.Write.contents c.args.stream.now) (g.W.Write.contents c.loop.stream) c.args.piece.now c.loop.at c.loop.invariant.written
