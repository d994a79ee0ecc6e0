-- Gathered cells that are placed and linked have landed, and are staged.
use Rattle.std.proofs.Common.{◌≡◌, refl, sym, ◌∙◌, ap, subst, arith, ℕ, Bool, true, List, [], ◌∷◌, ◌++◌, map, length, Option}
use Rattle.std.specs.Prelude.{Ok, Err, All, nat_lt}
use Rattle.std.proofs.lemmas.List.{length-map}
use Rattle.cell_num.specs.Lists.{each_pair, In}
use Rattle.cell_object.specs.declared.object.Object.{Object}
use Rattle.cell_object.specs.Sound.{IsSoundObject}
use Rattle.cell_world.specs.declared.fail.Fail.{Fail}
use Rattle.cell_world.specs.declared.fail.Fail.TheVariants.{Refused, OutOfMemory}
use Rattle.cell_world.specs.declared.layout.Starts.{Starts}
use Rattle.cell_world.specs.declared.state.NewCell.{NewCell}
use Rattle.cell_world.specs.World.{World, Cell}
use Rattle.cell_world.specs.declared.state.Standing.TheVariants.{Attached}
use Rattle.cell_world.specs.Linked.Fit.{first_misfit}
use Rattle.cell_world.specs.Outcome.{Outcome, ◌>>=◌, ◌>>◌, refused_by}
use Rattle.cell_world.specs.Placed.Layout.{places_in}
use Rattle.cell_world.specs.Placed.Place.{page_table}
use Rattle.cell_world.specs.Linked.Target.{targets_of}
use Rattle.cell_lemmas.specs.Grown.{links_from}
use Rattle.cell_num.proofs.Elements.{All-In, In-All, In-map, In-right}
use Rattle.cell_lemmas.specs.Loads.{ManyTaken, all_regions, objects_of, placed_after, placed_cells, take_all}
use Rattle.cell_place.specs.Space.{SpaceState}
use Rattle.cell_space.specs.declared.cell.SpaceCell.{SpaceCell}
use Rattle.cell_space.specs.Ahead.{AheadState}
use Rattle.cell_space.specs.Machine.{called}
use Rattle.cell_space.specs.Joined.{AreJoined, cells_of, placed_of}
use Rattle.cell_space.proofs.Joined.{cells_are as joined_are, cells_both, joined_both, joined_by}
use Rattle.cell_layout.specs.declared.cells.TakenRuns.{TakenRuns}
use Rattle.cell_layout.specs.Placing.{extra_start}
use Rattle.cell_layout.specs.Many.{ArePlaced, all_in_places, objects}
use Rattle.cell_gather.specs.declared.gathering.Gathered.{Gathered}
use Rattle.cell_machine.specs.declared.machine.Machine.{Machine}
use Rattle.cell_machine.specs.declared.staged.Staged.{Staged}
use Rattle.cell_machine.specs.Machine.{world_of}
use Rattle.cell_machine.specs.Staged.{AreNewIn, IsStaged, all_attached, all_fields}
use Rattle.cell_target.specs.Scene.{AreCells, seen}
use Rattle.cell_placed.specs.Low.{IsLow}
use Rattle.cell_target.proofs.Seen.{targets_seen}
use Rattle.cell_machine.proofs.Lists.{map-map, pairs-map}
use Rattle.cell_machine.proofs.Low.{is_low}
use Rattle.cell_machine.proofs.StagedWorld.{kept_placed, standing_placed}
use Rattle.cell_load.specs.declared.link.Linked.{Linked}
use Rattle.cell_load.specs.Linking.{AreLinked, CanLink, LinksAll}
use Rattle.cell_load.specs.Places.{Stands}
use Rattle.cell_load.specs.declared.landing.Landed.{Landed}
use Rattle.cell_load.specs.Stages.{CanStage, IsLanded, Lands, Names, new_cells}
use Rattle.cell_load.proofs.Linked.{fields_same, misfits_same, rows_are}
use Rattle.cell_load.proofs.Low.{can_link}
use Rattle.cell_load.proofs.Places.{none_placed, sound_objects}
use Rattle.cell_load.proofs.Plain.{fields_plain, misfits_plain, rows_plain}

-- cells in places, with what they are called and without
placed_both : (starts : List Starts) (cells : List Cell) → length starts ≡ length cells → all_in_places starts (map placed_of cells) ≡ map placed_of (placed_cells starts cells)
placed_both [] [] long = refl
placed_both [] (c ∷ cells) long = absurd (omega (arith, long))
placed_both (s ∷ starts) [] long = absurd (omega (arith, long))
placed_both (s ∷ starts) (c ∷ cells) long = ap (λ (cs : List NewCell). record c.placed { places = places_in s c.object } ∷ cs) (placed_both starts cells (omega (arith, long)))

module _ (m : Machine) (g : Gathered) (can : CanStage m g) (extra : ℕ) where
  abbrev u : World
  u = world_of m

  abbrev new : List Cell
  new = new_cells g

  pub sound : All (λ c. IsSoundObject c.object) g.cells.items
  sound = sound_objects g.cells.items can.gathered.objects

  objects_are : objects g.cells.items ≡ objects_of new
  objects_are = ap objects (sym can.gathered.placed) ∙ map-map (λ (c : NewCell). c.object) placed_of new

  space_is : take_all m.space.base m.space.taken (objects g.cells.items) ≡ take_all u.base (page_table u) (objects_of new)
  space_is =
      ap (λ (b : ℕ). take_all b m.space.taken (objects g.cells.items)) can.parts.base
      ∙ (ap (λ (t : List Bool). take_all u.base t (objects g.cells.items)) can.parts.table
      ∙ ap (λ (os : List Object). take_all u.base (page_table u) os) objects_are)

  -- no run is long enough
  pub place_failed : (fail : Fail) (now : List NewCell) → Stands m.space g.cells.items extra (Err fail) now → Lands m g extra (Err fail)
  place_failed (Refused r) now e =
      none_placed (take_all u.base (page_table u) (objects_of new)) (λ t. extra_start u.base t.table extra) (λ t. refused_by (first_misfit (placed_after t.starts u new) (placed_cells t.starts new))) r
      (ap (λ (o : Outcome ManyTaken). o >>= (λ t. extra_start u.base t.table extra)) (sym space_is) ∙ (ap (λ b. take_all m.space.base m.space.taken (objects g.cells.items) >>= (λ t. extra_start b t.table extra)) (sym can.parts.base) ∙ e.0))
  place_failed OutOfMemory now e = tt

  module _ (space : SpaceState) (runs : TakenRuns) (cells : List NewCell) (stand : ArePlaced m.space g.cells.items extra runs space cells) where
    abbrev taken : ManyTaken
    taken = record { starts = stand.starts; table = space.taken }

    taken_are : take_all u.base (page_table u) (objects_of new) ≡ Ok taken
    taken_are = sym space_is ∙ stand.runs

    -- where the extra run starts
    extra_is : extra_start u.base space.taken extra ≡ Ok runs.extra
    extra_is = ap (λ b. extra_start b space.taken extra) (sym can.parts.base) ∙ stand.extra

    abbrev W : World
    W = placed_after stand.starts u new

    abbrev F : List Cell
    F = placed_cells stand.starts new

    there : AreNewIn u W F
    there = can.stand taken taken_are

    long : length stand.starts ≡ length new
    long = stand.each ∙ (ap length (sym can.gathered.placed) ∙ length-map new placed_of)

    placed_are : cells ≡ map placed_of F
    placed_are = stand.cells ∙ (ap (all_in_places stand.starts) (sym can.gathered.placed) ∙ placed_both stand.starts new long)

    standing : (c : Cell) → In c F → c.standing ≡ Attached
    standing = standing_placed stand.starts new (All-In (λ (c : Cell). c.standing ≡ Attached) new can.gathered.attached)

    abbrev all : List NewCell
    all = m.cells.items ++ cells

    -- what the new cells are called, which they were before they had places
    called_are : map called new ≡ map called F
    called_are = sym (kept_placed called (λ s c. refl) stand.starts new)

    new_joined : AreJoined cells (map called new)
    new_joined = joined_by F cells (map called new) placed_are called_are

    all_joined : AreJoined all g.ahead.cells
    all_joined = subst (AreJoined all) (sym can.gathered.cells) (joined_both m.cells.items cells m.spaces.cells (map called new) can.parts.joined new_joined)

    cells_are : W.cells ≡ cells_of all g.ahead.cells
    cells_are =
        sym (cells_both m.cells.items cells m.spaces.cells (map called new) can.parts.joined new_joined
        ∙ ap (λ (cs : List Cell). u.cells ++ cs) (joined_are F cells (map called new) placed_are called_are))
        ∙ ap (cells_of all) (sym can.gathered.cells)

    places_are : map placed_of W.cells ≡ all
    places_are = ap (map placed_of) cells_are ∙ all_joined.placed

    in_place : (c : NewCell) → In c all → (d : Cell) × In d W.cells × (c ≡ d.placed)
    in_place c i = In-map placed_of W.cells c (subst (λ (cs : List NewCell). In c cs) (sym places_are) i)

    ordered : each_pair (λ (a b : NewCell). nat_lt a.id.0 b.id.0) all ≡ true
    ordered =
        ap (each_pair (λ (a b : NewCell). nat_lt a.id.0 b.id.0)) (sym places_are)
        ∙ (pairs-map (λ (a b : NewCell). nat_lt a.id.0 b.id.0) placed_of W.cells ∙ there.linkable.cell_order)

    pub are_cells : AreCells g.ahead.cells all
    are_cells = record {
      joined = all_joined;
      ordered = ordered;
      low = λ c i. let d = in_place c i in subst IsLow (sym d.2) (is_low W there.linkable can.low d.0 d.1);
    }

    pub can_link_all : All (CanLink m.spaces.namespaces) cells
    can_link_all = In-All (CanLink m.spaces.namespaces) cells (λ c i.
        let d = in_place c (In-right m.cells.items cells c i) in
        subst (CanLink m.spaces.namespaces) (sym d.2) (can_link W there.linkable can.low d.0 d.1))

    abbrev v : World
    v = seen m.spaces.namespaces all g.ahead.cells

    same : (c : Cell) → targets_of W c ≡ targets_of v c
    same c = targets_seen W m.spaces.namespaces all g.ahead.cells refl cells_are c

    misfits_are : first_misfit W F ≡ first_misfit v (all_attached cells)
    misfits_are =
        misfits_plain W F standing
        ∙ (ap (λ (cs : List NewCell). first_misfit W (all_attached cs)) (sym placed_are) ∙ misfits_same v W same cells)

    -- an entry doesn't fit
    pub link_failed : (fail : Fail) → LinksAll v cells (Err fail) → Lands m g extra (Err fail)
    link_failed (Refused r) e =
        ap (λ (o : Outcome ManyTaken). o >>= (λ t. extra_start u.base t.table extra >> refused_by (first_misfit (placed_after t.starts u new) (placed_cells t.starts new)))) taken_are
        ∙ (ap (λ (o : Outcome (Option ℕ)). o >> refused_by (first_misfit W F)) extra_is ∙ ap (λ o. refused_by o) (misfits_are ∙ e))
    link_failed OutOfMemory e = tt

    pub landed : (l : Linked) → AreLinked v cells l → (d : Landed) → d.ahead ≡ g.ahead → d.cells.items ≡ cells → d.space ≡ space → d.regions.items ≡ runs.regions.items
        → d.fields.items ≡ l.fields.items → d.rows.items ≡ l.rows.items → d.extra ≡ runs.extra → Lands m g extra (Ok d)
    landed l linked d ahead these at regions fields rows behind = (is_landed, extra_then)
      where
        is_landed : IsLanded m g d
        is_landed = record {
          linked = record {
            starts = stand.starts;
            each = long;
            runs = taken_are ∙ ap (λ (t : List Bool). let x : ManyTaken = record { starts = stand.starts; table = t } in let o : Outcome ManyTaken = Ok x in o) (ap (λ (x : SpaceState). x.taken) (sym at));
            base = ap (λ (x : SpaceState). x.base) at ∙ (stand.base ∙ can.parts.base);
            cells = these ∙ placed_are;
            regions = regions ∙ (stand.regions ∙ ap (λ (os : List Object). all_regions stand.starts os) objects_are);
            fit = misfits_are ∙ linked.fit;
            fields =
                fields
                ∙ (linked.fields
                ∙ (sym (fields_same v W same cells)
                ∙ (ap (λ (cs : List NewCell). all_fields W (all_attached cs)) placed_are ∙ sym (fields_plain W F standing))));
            rows =
                rows
                ∙ (linked.rows
                ∙ (sym (rows_are v W same cells)
                ∙ (ap (λ (cs : List NewCell). links_from W (all_attached cs)) placed_are ∙ sym (rows_plain W F standing))));
          };
          same = ahead;
          are = subst (λ (cs : List NewCell). AreCells g.ahead.cells (m.cells.items ++ cs)) (sym these) are_cells;
          targets = λ (c : Cell). same c ∙ ap (λ (cs : List NewCell). targets_of (seen m.spaces.namespaces (m.cells.items ++ cs) g.ahead.cells) c) (sym these);
        }

        extra_then : extra_start m.memory.base d.space.taken extra ≡ Ok d.extra
        extra_then =
            ap (λ (s : SpaceState). extra_start u.base s.taken extra) at
            ∙ (extra_is ∙ ap (λ (start : Option ℕ). let o : Outcome (Option ℕ) = Ok start in o) (sym behind))

-- what has landed is staged once its names are listed
pub staged : (m : Machine) (g : Gathered) → CanStage m g → (l : Landed) → IsLanded m g l → (s : Staged) → Names l s → IsStaged (world_of m) (new_cells g) s
staged m g can l landed s named = record {
  linked = record {
    starts = landed.starts;
    each = landed.each;
    runs = landed.runs ∙ ap (λ (t : List Bool). let x : ManyTaken = record { starts = landed.starts; table = t } in let o : Outcome ManyTaken = Ok x in o) (ap (λ (x : SpaceState). x.taken) (sym named.space));
    base = ap (λ (x : SpaceState). x.base) named.space ∙ landed.base;
    cells = named.cells ∙ landed.cells;
    regions = named.regions ∙ landed.regions;
    fit = landed.fit;
    fields = named.fields ∙ landed.fields;
    rows = named.rows ∙ landed.rows;
  };
  attached = can.gathered.attached;
  names =
      named.names
      ∙ (ap (λ (a : AheadState). map (λ (c : SpaceCell). c.names) a.fresh) landed.same
      ∙ (ap (map (λ (c : SpaceCell). c.names)) can.gathered.fresh ∙ map-map (λ (c : SpaceCell). c.names) called (new_cells g)));
}
