use Rattle.std.proofs.Common.{rules, ◌≡◌, true, false}
use Rattle.cell_relinked.proofs.FirstSeen.{first_on, none_on, seen_on}
use Rattle.cell_relinked.proofs.firsts.first_entries.Goals.{then-branch+in_ok-push, else-branch}
use Rattle.cell_relinked.proofs.firsts.first_entries.Goals as goal

pub loop-index-preserved : goal.loop-index-preserved
loop-index-preserved c =
    let read = c.as_slice-entries.result.now in
    let xs = c.args.object.now.entries in
    let far = c.loop-index.invariant in
    record {
      seen = seen_on read xs c.as_slice-entries.ensures c.loop-index.index _ c.loop-index-test.true c.loop-index.seen far.seen c.note.new.seen c.in_ok-note.ensures.seen;
      firsts = elim c.if-branch.branch [
        | then-branch+in_ok-push w ↦
            let t : c.in_ok-note.field-0 ≡ true = search rules in
            rw w.firsts-is (first_on read xs c.as_slice-entries.ensures c.loop-index.index _ c.loop-index-test.true c.loop-index.seen far.seen c.loop-index.firsts.items far.firsts c.in_ok-note.field-0 c.in_ok-note.ensures.is_new t _ w.in_ok-push.ensures.items)
        | else-branch w ↦
            let f : c.in_ok-note.field-0 ≡ false = search rules in
            rw w.firsts-is (none_on read xs c.as_slice-entries.ensures c.loop-index.index _ c.loop-index-test.true c.loop-index.seen far.seen c.loop-index.firsts.items far.firsts c.in_ok-note.field-0 c.in_ok-note.ensures.is_new f)
      ];
    }
