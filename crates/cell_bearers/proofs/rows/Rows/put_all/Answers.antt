use Rattle.std.proofs.Common.{◌∙◌, ap, ap₂, subst, sym, Bool, cond, get_or, refl, take, List}
use Rattle.std.specs.List.{list_any}
use Rattle.std.proofs.lemmas.List.{take_all}
use Rattle.std.proofs.lemmas.List.Folds.{list_any_more}
use Rattle.cell_bearers.specs.Namings.{Named, is_owners}
use Rattle.cell_bearers.specs.Rows.{IsThere, owned_at}
use Rattle.cell_bearers.specs.declared.named.Owner.{Owner}
use Rattle.cell_bearers.specs.declared.rows.Row.{Row}
use Rattle.cell_bearers.proofs.Rowing.{more_put, same_widths, still_there, widths_join}
use Rattle.cell_bearers.proofs.rows.Rows.put_all.Goals as goal

pub loop-index-init : goal.loop-index-init
loop-index-init c = record { widths = same_widths c.args.self.now; rows = λ o. refl }

pub put-requires : goal.put-requires
put-requires c =
    let ns = c.args.namings.now in
    let i = c.loop-index.index in
    let x = c.index-namings-index.result in
    subst (λ (owner : Owner). IsThere c.loop-index.self owner) (sym (c.owner.ensures ∙ ap (λ (n : Named). n.owner) c.index-namings-index.is))
    (still_there c.args.self.now c.loop-index.self c.loop-index.invariant.widths (get_or ns i x).owner (c.requires i x c.loop-index-test.true))

pub loop-index-preserved : goal.loop-index-preserved
loop-index-preserved c =
    let ns = c.args.namings.now in
    let i = c.loop-index.index in
    let x = c.index-namings-index.result in
    record {
      widths = widths_join c.args.self.now c.loop-index.self c.put.new.self c.loop-index.invariant.widths c.put.ensures.widths;
      rows = λ o.
          c.put.ensures.rows o
          ∙ (ap₂ (λ (b : Bool) (r : Row). cond b c.args.row r) (ap (λ (owner : Owner). is_owners o owner) (c.owner.ensures ∙ ap (λ (n : Named). n.owner) c.index-namings-index.is)) (c.loop-index.invariant.rows o)
          ∙ (more_put (list_any (λ (n : Named). is_owners o n.owner) (take i ns)) (is_owners o (get_or ns i x).owner) c.args.row (owned_at c.args.self.now o)
          ∙ ap (λ (b : Bool). cond b c.args.row (owned_at c.args.self.now o)) (sym (list_any_more (λ (n : Named). is_owners o n.owner) ns i x c.loop-index-test.true))));
    }

pub returns-clause-rows : goal.returns-clause-rows
returns-clause-rows c = λ o.
    let past = c.loop-index-test.false in
    c.loop-index.invariant.rows o
    ∙ ap (λ (ns : List Named). cond (list_any (λ (n : Named). is_owners o n.owner) ns) c.args.row (owned_at c.args.self.now o)) (take_all c.loop-index.index c.args.namings.now past)
