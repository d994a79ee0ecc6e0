-- The last low entry that goes with each high one.
--     may_go e                 the entry is a low one, which may go with a high one
--     goes_to object q e       the entry goes with a high one at that section and offset
--     end_of c some q          the greatest address of such entries among some, 0 where there is none
--     IsLasts c some ends      the map has that for each place
--     IsLastAfter c e old new  the map after one more entry
use Rattle.std.specs.Prelude.{◌≡◌, ℕ, ◌==◌, ◌&&◌, ◌||◌, Bool, false, max, List, Some, None, map, filter, fold, unwrap_or, if◌then◌else◌}
use Rattle.std.specs.BTreeMap.{BTreeMap, get}
use Rattle.cell_object.specs.declared.object.Object.{Object}
use Rattle.cell_object.specs.declared.object.Entry.{Entry}
use Rattle.cell_world.specs.declared.state.NewCell.{NewCell}
use Rattle.cell_world.specs.Linked.Field.{place_of}
use Rattle.cell_num.specs.Kinds.{is_pcrel_lo12}
use Rattle.cell_world.specs.Torn.{is_low, partner_of}
use Rattle.cell_link.specs.Tables.{spot_cmp}

abbrev pub may_go : Entry → Bool
may_go e = is_pcrel_lo12 e.kind || is_low e.kind

abbrev pub goes_to : Object → ℕ × ℕ → Entry → Bool
goes_to object q e = elim (partner_of object e) [ None ↦ false | Some h ↦ h.section == q.0 && h.offset == q.1 ]

abbrev pub end_of : NewCell → List Entry → ℕ × ℕ → ℕ
end_of c some q = fold max 0 (map (place_of c) (filter (goes_to c.object q) some))

abbrev pub Ends : Type 0
Ends = BTreeMap (ℕ × ℕ) ℕ

abbrev pub IsLasts : NewCell → List Entry → Ends → Type 0
IsLasts c some ends = (q : ℕ × ℕ) → unwrap_or (get spot_cmp ends q) 0 ≡ end_of c some q

abbrev pub IsLastAfter : NewCell → Entry → Ends → Ends → Type 0
IsLastAfter c e old new =
    (q : ℕ × ℕ)
    → unwrap_or (get spot_cmp new q) 0
    ≡ (if goes_to c.object q e then max (unwrap_or (get spot_cmp old q) 0) (place_of c e) else unwrap_or (get spot_cmp old q) 0)
