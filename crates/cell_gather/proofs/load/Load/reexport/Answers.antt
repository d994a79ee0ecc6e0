use Rattle.std.proofs.Common.{◌+◌, ◌∙◌, drop, sym, ap, arith, ◌∷◌}
use Rattle.std.proofs.lemmas.List.{drop_more}
use Rattle.cell_gather.specs.declared.want.Want.{Want}
use Rattle.cell_gather.specs.Growing.{new_of}
use Rattle.cell_gather.proofs.Handing.{want_handed}
use Rattle.cell_gather.proofs.load.Load.reexport.Goals as goal

pub loop-place-preserved : goal.loop-place-preserved
loop-place-preserved c =
    let done = c.in_ok-hand_on.ensures {u = tt} in
    let wants = c.args.wants.now in
    let want = c.index-wants-place.result in
    let i = c.loop-place.invariant in
    record {
      growing = done.growing;
      many = done.many ∙ i.many;
      left =
          want_handed c.args.self.now.spaces.now c.args.self.now.next c.loop-place.place (new_of c.args.gathered.now) (new_of c.loop-place.gathered) (new_of c.hand_on.new.gathered) wants
          (drop c.loop-place.place wants) (drop (c.loop-place.place + 1) wants) want
          (drop_more wants c.loop-place.place want (omega arith) ∙ ap (λ (x : Want). x ∷ drop (c.loop-place.place + 1) wants) (sym c.index-wants-place.is)) i.left done.named;
    }
