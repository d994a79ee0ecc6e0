use Rattle.std.proofs.Common.{sym, ap, ◌∙◌, ◌==◌, ◌&&◌, Bool, Some, cond}
use Rattle.cell_bearers.specs.Seeing.{first_at}
use Rattle.cell_bearers.proofs.FirstSeen.{put_here}
use Rattle.cell_bearers.proofs.firsts.put_first.Goals as goal

pub returns-then-is_seen-clause-first : goal.returns-then-is_seen-clause-first
returns-then-is_seen-clause-first c = λ o.
    let firsts = c.args.firsts.now.items in
    put_here firsts c.args.object c.args.place o c.requires
    ∙ ap (λ (t : Bool). cond (t && c.args.object == o) (Some c.args.place) (first_at firsts o)) (sym c.if-is_seen.true)

pub returns-else-is_seen-clause-first : goal.returns-else-is_seen-clause-first
returns-else-is_seen-clause-first c = λ o.
    let firsts = c.args.firsts.now.items in
    ap (λ (t : Bool). cond (t && c.args.object == o) (Some c.args.place) (first_at firsts o)) (sym c.if-is_seen.false)
