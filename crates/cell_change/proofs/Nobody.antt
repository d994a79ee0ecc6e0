-- Where no cell is replaced and none has a WEAK symbol, nothing changes, and no task stands inside nothing.
use Rattle.std.proofs.Common.{◌≡◌, refl, ◌∙◌, ap₂, Bool, false, ◌||◌, List, [], ◌∷◌, map, None}
use Rattle.std.specs.Prelude.{filter, ◌==◌}
use Rattle.std.specs.List.{list_any}
use Rattle.cell_num.specs.declared.ids.CellId.{CellId}
use Rattle.cell_num.specs.Lists.{holds}
use Rattle.cell_num.proofs.Elements.{filter_none}
use Rattle.cell_world.specs.declared.state.LinkRow.{LinkRow}
use Rattle.cell_world.specs.declared.state.NewCell.{NewCell}
use Rattle.cell_world.specs.Changed.{FieldAt}
use Rattle.cell_world.specs.Torn.{first_torn}
use Rattle.cell_world.specs.World.{Task}
use Rattle.cell_lemmas.proofs.Targeting.Plain.{none_torn}
use Rattle.cell_plan.specs.Spans.{span_at}
use Rattle.cell_plan.specs.Users.{may_change}

none_leads : (rows : List LinkRow) → list_any (λ l. holds [] l.target.cell.0) rows ≡ false
none_leads [] = refl
none_leads (l ∷ rows) = none_leads rows

pub nobody_changes : (old soft : List CellId) → old ≡ [] → soft ≡ [] → (rows : List LinkRow) (cells : List NewCell) → filter (may_change (map (λ c. c.0) old) (map (λ c. c.0) soft) rows) cells ≡ []
nobody_changes old soft none hard rows cells =
    ap₂ (λ (ids others : List CellId). filter (may_change (map (λ c. c.0) ids) (map (λ c. c.0) others) rows) cells) none hard
    ∙ filter_none (may_change [] [] rows) cells (λ c i.
    let none_here = none_leads (filter (λ l. l.user.cell.0 == c.id.0) rows) in
    ap₂ (λ (a b : Bool). a || (b || false)) none_here none_here)

pub nothing_torn : (fields : List FieldAt) → map span_at fields ≡ [] → (tasks : List Task) → first_torn fields tasks ≡ None
nothing_torn [] e tasks = none_torn tasks
nothing_torn (f ∷ fields) e tasks = absurd (cc e)
