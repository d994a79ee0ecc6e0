use Rattle.std.proofs.Common.{rules, ◌≡◌, ◌∙◌, ap, sym}
use Rattle.cell_hold.proofs.Using.{links_decide, no_user, some_used, user_found, user_passed}
use Rattle.cell_hold.proofs.used.is_used.Goals as goal

pub loop-link-init : goal.loop-link-init
loop-link-init c =
    let same : c.into_iter-link-iterator.result ≡ c.users_of-link-items.result = search rules in
    ap (some_used c.args.found.now.items) same ∙ links_decide c.args.graph.now.rows c.args.found.now.items c.args.section c.users_of-link-items.result c.users_of-link-items.ensures

pub returns-then-has : goal.returns-then-has
returns-then-has c = user_found c.args.found.now.items c.loop-link.link-iterator c.next.new.self c.in-Some.link _ (c.in-Some.ensures {u = tt}).steps (sym c.has.ensures ∙ c.if-has.true) c.loop-link.invariant

pub loop-link-preserved : goal.loop-link-preserved
loop-link-preserved c = user_passed c.args.found.now.items c.loop-link.link-iterator c.next.new.self c.in-Some.link _ (c.in-Some.ensures {u = tt}).steps (sym c.has.ensures ∙ c.if-has.false) c.loop-link.invariant

pub returns : goal.returns
returns c = no_user c.args.found.now.items c.loop-link.link-iterator _ (c.in-None.ensures {u = tt}).steps.0 c.loop-link.invariant
