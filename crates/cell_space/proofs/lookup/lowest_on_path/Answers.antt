use Rattle.std.proofs.Common.{◌≡◌, ◌∙◌, ◌+◌, length, ap, arith}
use Rattle.std.specs.Prelude.{◌&&◌, ◌==◌, find, option_map}
use Rattle.cell_space.specs.Named.{is_rival}
use Rattle.cell_space.specs.Index.{has_word}
use Rattle.cell_space.proofs.Finding.{rivals_none, rivals_more, rivals_all, rival_below, lowest_more}
use Rattle.cell_space.proofs.lookup.lowest_on_path.Goals as goal

pub loop-other-init : goal.loop-other-init
loop-other-init c = rivals_none c.args.namespaces.now c.args.path.now.ns c.args.word.now.kind c.args.word.now.text.now c.args.cells.now

pub loop-other-preserved : goal.loop-other-preserved
loop-other-preserved c =
    let spaces = c.args.namespaces.now in
    let other = c.loop-other.other in
    c.lower-lowest.ensures
    ∙ lowest_more (rival_below spaces c.args.path.now.ns c.args.word.now.kind c.args.word.now.text.now other) (λ d. has_word c.args.word.now.kind c.args.word.now.text.now d && is_rival spaces c.args.path.now.ns d && d.ns == other) (rival_below spaces c.args.path.now.ns c.args.word.now.kind c.args.word.now.text.now (other + 1))
    c.args.cells.now (option_map (λ r. r.now) c.loop-other.lowest) (option_map (λ r. r.now) c.rival_in.result) c.requires.rising
    c.loop-other.invariant c.rival_in.ensures (rivals_more spaces c.args.path.now.ns c.args.word.now.kind c.args.word.now.text.now other)

pub returns : goal.returns
returns c =
    let spaces = c.args.namespaces.now in
    let all : c.loop-other.other ≡ length spaces = omega arith in
    c.loop-other.invariant
    ∙ ap (λ m. find (rival_below spaces c.args.path.now.ns c.args.word.now.kind c.args.word.now.text.now m) c.args.cells.now) all
    ∙ rivals_all spaces c.args.path.now.ns c.args.word.now.kind c.args.word.now.text.now (length spaces) c.args.cells.now c.requires.inside
