use Rattle.std.proofs.Common.{refl}
use Rattle.cell_task.specs.State.{seen_as}
use Rattle.cell_task.proofs.Wording.{put_all}
use Rattle.cell_task.proofs.words.put_words.Goals as goal

pub returns : goal.returns
returns c =
    put_all c.put_whole_words.result _ _ _ _ _ _ _ _ _ c.in_ok-reserve.ensures.items c.in_ok-push.ensures.items c.in_ok-extend_from_slice.ensures.items
    (c.stack_bytes-stack.ensures (seen_as 0 c.args.live.now) refl refl) c.put_whole_words.ensures
