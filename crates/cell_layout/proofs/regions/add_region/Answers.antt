use Rattle.std.proofs.Common.{◌∙◌, sym}
use Rattle.cell_layout.proofs.Runs.{none_added, made_added}
use Rattle.cell_layout.proofs.regions.add_region.Goals as goal

pub returns-in_ok-push : goal.returns-in_ok-push
returns-in_ok-push c =
    c.in_ok-push.ensures.items
    ∙ made_added c.args.start c.args.class c.args.sections.now (sym c.has_class.ensures ∙ c.if-has_class.true) c.permission.result c.from_vec.result
    c.permission.ensures (c.from_vec.ensures ∙ c.in_ok-image.ensures) c.args.regions.now.items

pub returns-else-has_class : goal.returns-else-has_class
returns-else-has_class c = none_added c.args.start c.args.class c.args.sections.now (sym c.has_class.ensures ∙ c.if-has_class.false) c.args.regions.now.items
