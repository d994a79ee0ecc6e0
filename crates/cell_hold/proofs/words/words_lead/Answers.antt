use Rattle.std.proofs.Common.{◌∙◌, refl, sym, arith}
use Rattle.cell_hold.specs.Places.{is_at}
use Rattle.cell_hold.proofs.Nearing.{at_own}
use Rattle.cell_hold.proofs.Wording.{lead_more, lead_found, lead_none}
use Rattle.cell_hold.proofs.words.words_lead.Goals as goal

pub loop-rest-init : goal.loop-rest-init
loop-rest-init c = refl

pub returns-then-is_in_one : goal.returns-then-is_in_one
returns-then-is_in_one c =
    let word = c.first_word-word.result in
    lead_found c.args.places.now c.args.cell.0 c.args.bytes.now c.loop-rest.rest.now word (omega arith) c.first_word-word.ensures
    (sym (at_own c.args.places.now c.args.cell.0 word) ∙ (sym (c.own-own.ensures (is_at word)) ∙ (sym c.is_in_one.ensures ∙ c.if-is_in_one.true))) c.loop-rest.invariant

pub loop-rest-preserved : goal.loop-rest-preserved
loop-rest-preserved c =
    let word = c.first_word-word.result in
    lead_more c.args.places.now c.args.cell.0 c.args.bytes.now c.loop-rest.rest.now c.after-rest.result.now word (omega arith) c.first_word-word.ensures c.after-rest.ensures
    (sym (at_own c.args.places.now c.args.cell.0 word) ∙ (sym (c.own-own.ensures (is_at word)) ∙ (sym c.is_in_one.ensures ∙ c.if-is_in_one.false))) c.loop-rest.invariant

pub returns : goal.returns
returns c = lead_none c.args.places.now c.args.cell.0 c.args.bytes.now c.loop-rest.rest.now (omega arith) c.loop-rest.invariant
