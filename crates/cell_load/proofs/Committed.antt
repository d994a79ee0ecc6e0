-- The sections that a commit leaves, and the links that it changes.
use Rattle.std.proofs.Common.{◌≡◌, sym, ap, ◌∙◌, subst, arith, ◌≤◌, ◌+◌, List, ◌++◌, length, map}
use Rattle.std.specs.Prelude.{All, Contains, flat_map}
use Rattle.cell_num.specs.declared.ids.SecKey.{SecKey}
use Rattle.cell_world.specs.declared.state.NewCell.{NewCell}
use Rattle.cell_world.specs.declared.state.LinkRow.{LinkRow}
use Rattle.cell_lemmas.specs.LinkSteps.{LinkStep, afters}
use Rattle.cell_graph.specs.Links.{Links}
use Rattle.cell_commit.specs.Cells.{keys_in}
use Rattle.cell_commit.specs.Rewiring.{CanRewire, IsRewiring}
use Rattle.cell_commit.specs.declared.wiring.Rewiring.{Rewiring}
use Rattle.cell_commit.specs.declared.sections.CellSections.{CellSections}
use Rattle.cell_machine.specs.Machine.{keys_of}
use Rattle.cell_machine.proofs.Above.{all_keys_listed}
use Rattle.cell_load.specs.Adding.{listed, numbers_in}
use Rattle.cell_load.specs.declared.prepared.Prepared.{Prepared}

-- those that were there, and those of the new cells
pub sections_are : (before : List SecKey) (p : Prepared) (cells : List NewCell) (given : List CellSections) (after : List SecKey) → map listed p.sections.items ≡ map numbers_in cells → given ≡ p.sections.items
    → after ≡ before ++ flat_map keys_in given → after ≡ before ++ keys_of cells
sections_are before p cells given after are same added =
    added
    ∙ (ap (λ (list : List CellSections). before ++ flat_map keys_in list) same
    ∙ ap (λ (ks : List SecKey). before ++ ks) (all_keys_listed p.sections.items cells are))

-- the links of others can change once the new sections are there
abbrev pub can_rewire : (old g : Links) (keys : List SecKey) (links : Rewiring) (steps : List LinkStep) → IsRewiring old.rows links.unbinds.items links.binds.items links.moves.items steps
    → All (λ r. Contains (old.sections ++ keys) r.user × Contains (old.sections ++ keys) r.target) (afters steps) → length links.binds.items ≤ g.spare_rows + length links.unbinds.items
    → g.rows ≡ old.rows → g.sections ≡ old.sections ++ keys → (gone new led : List LinkRow) → gone ≡ links.unbinds.items → new ≡ links.binds.items → led ≡ links.moves.items → CanRewire g gone new led
can_rewire old g keys links steps is present room rows sections gone new led a b c = record {
  steps = steps;
  is = record {
    steps_are = record { are = rows ∙ is.are; one = is.one; rise = is.rise };
    gone_are = a ∙ is.gone_are;
    new_are = b ∙ is.new_are;
    led_are = c ∙ is.led_are;
  };
  present = subst (λ (ks : List SecKey). All (λ (r : LinkRow). Contains ks r.user × Contains ks r.target) (afters steps)) (sym sections) present;
  room = let few = ap (length {A = LinkRow}) a in let many = ap (length {A = LinkRow}) b in omega (arith, room, few, many);
}
