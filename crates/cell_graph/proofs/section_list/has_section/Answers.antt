use Rattle.std.proofs.Common.{Bool, sym, subst, map, Contains}
use Rattle.std.specs.Prelude.{IsTrue}
use Rattle.cell_graph.specs.declared.order.SectionPlace.{SectionPlace}
use Rattle.cell_graph.proofs.Sights.{seen_at_cut, unseen_past}
use Rattle.cell_graph.proofs.section_list.has_section.Goals as goal

pub returns-then-index-list : goal.returns-then-index-list
returns-then-index-list c =
    let d : SectionPlace = record { key = record { cell = record { 0 = 0 }; section = 0 }; place = 0 } in
    subst (λ (b : Bool). (IsTrue b → Contains (map (λ s. s.key) c.args.list.now) c.args.key) × (Contains (map (λ s. s.key) c.args.list.now) c.args.key → IsTrue b))
    (sym c.is_same.ensures) (seen_at_cut c.args.list.now c.section_cut-index.result c.args.key d c.requires c.section_cut-index.ensures c.if-index-list.true)

pub returns-else-index-list : goal.returns-else-index-list
returns-else-index-list c = (
  λ h. absurd (cc h),
  λ has. absurd (unseen_past c.args.list.now c.section_cut-index.result c.args.key c.requires c.section_cut-index.ensures c.if-index-list.false has),
)
