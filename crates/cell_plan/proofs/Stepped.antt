-- The links of a cell by its entries, before and by now.
use Rattle.std.proofs.Common.{◌≡◌, refl, sym, ◌∙◌, ap, ap₂, arith, ℕ, zero, suc, ◌<◌, Bool, true, false, cond, ◌&&◌, ◌||◌, ◌==◌, List, [], ◌∷◌, map, Option, Some, None}
use Rattle.std.specs.Prelude.{filter, filter_map, unwrap_or}
use Rattle.std.specs.List.{cons_option, list_any}
use Rattle.std.proofs.lemmas.Bool.{eq-eqb, ne_eqb}
use Rattle.std.proofs.lemmas.List.Elements.{filter_agree}
use Rattle.cell_num.specs.Lists.{numbered, numbered_from, where_true, In}
use Rattle.cell_num.proofs.Elements.{map_same}
use Rattle.cell_object.specs.declared.object.Entry.{Entry}
use Rattle.cell_world.specs.declared.state.LinkRow.{LinkRow}
use Rattle.cell_world.specs.declared.state.NewCell.{NewCell}
use Rattle.cell_world.specs.declared.state.Target.{Target}
use Rattle.cell_world.specs.declared.state.Target.TheVariants.{Section, Number}
use Rattle.cell_world.specs.World.{World, Cell, attached, key_of}
use Rattle.cell_world.specs.Linked.Relink.{link_of, link_to}
use Rattle.cell_world.specs.Linked.Target.{target_of, targets_of}
use Rattle.cell_world.specs.Changed.{differs, is_changed, now_in}
use Rattle.cell_world.specs.Linked.Field.{fields_of}
use Rattle.cell_lemmas.specs.LinkSteps.{LinkStep, cell_steps, is_other_link}
use Rattle.cell_link.specs.Applied.{spot_of}
use Rattle.cell_plan.specs.Firsts.{is_entry_at}
use Rattle.cell_plan.specs.Staying.{IsTold, links_in}
use Rattle.cell_plan.specs.Steps.{behind, changed_fields, front, is_change, is_marked_spot, marks_of, steps_from, steps_of}

module _ (v : World) (c : Cell) where
  abbrev rows : ℕ → List Entry → List LinkRow
  rows k es = filter_map (link_of v c) (numbered_from k es)

  abbrev row : ℕ → Entry → Option Target → Option LinkRow
  row k e o = elim o as (λ _. Option LinkRow) [ None ↦ None | Some target ↦ link_to c k e target ]

  -- the links of later entries are none of an earlier one
  later : (k j : ℕ) → k < j → (es : List Entry) → (front k (rows j es) ≡ None) × (behind k (rows j es) ≡ rows j es)
  later k j lt [] = (refl, refl)
  later k j lt (e ∷ es) = go (target_of v c e) (later k (suc j) (omega (arith, lt)) es)
    where
      other : (j == k) ≡ false
      other = ne_eqb j k (λ same. omega (arith, same, lt))

      go : (o : Option Target) → (front k (rows (suc j) es) ≡ None) × (behind k (rows (suc j) es) ≡ rows (suc j) es)
          → (front k (cons_option (row j e o) (rows (suc j) es)) ≡ None) × (behind k (cons_option (row j e o) (rows (suc j) es)) ≡ cons_option (row j e o) (rows (suc j) es))
      go None h = h
      go (Some (Number value)) h = h
      go (Some (Section key offset addr)) h = (
        ap (λ (b : Bool). where_true b (record { user = key_of c.id.0 e.section; entry = j; target = key })) other,
        ap (λ (b : Bool). cond b (rows (suc j) es) (record { user = key_of c.id.0 e.section; entry = j; target = key } ∷ rows (suc j) es)) other,
      )

  -- the link of an entry is the first of those that are left, where it has one
  here : (k : ℕ) (e : Entry) (es : List Entry) → (front k (rows k (e ∷ es)) ≡ link_of v c (k, e)) × (behind k (rows k (e ∷ es)) ≡ rows (suc k) es)
  here k e es = go (target_of v c e)
    where
      same : (k == k) ≡ true
      same = eq-eqb k k refl

      go : (o : Option Target) → (front k (cons_option (row k e o) (rows (suc k) es)) ≡ row k e o) × (behind k (cons_option (row k e o) (rows (suc k) es)) ≡ rows (suc k) es)
      go None = later k (suc k) (omega arith) es
      go (Some (Number value)) = later k (suc k) (omega arith) es
      go (Some (Section key offset addr)) = (
        ap (λ (b : Bool). where_true b (record { user = key_of c.id.0 e.section; entry = k; target = key })) same,
        ap (λ (b : Bool). cond b (rows (suc k) es) (record { user = key_of c.id.0 e.section; entry = k; target = key } ∷ rows (suc k) es)) same,
      )

module _ (v w : World) (c : Cell) (same : (now_in w c).placed ≡ c.placed) where
  abbrev now : Cell
  now = now_in w c

  abbrev named : Entry → Target
  named e = unwrap_or (target_of w now e) (Number 0)

  abbrev step_at : ℕ × Entry → LinkStep
  step_at p = record { before = link_of v c p; after = link_of w now p }

  after_is : (k : ℕ) (e : Entry) → link_to (attached c.placed) k e (named e) ≡ link_of w now (k, e)
  after_is k e = go (target_of w now e)
    where
      go : (o : Option Target) → link_to (attached c.placed) k e (unwrap_or o (Number 0)) ≡ (elim o as (λ _. Option LinkRow) [ None ↦ None | Some target ↦ link_to now k e target ])
      go None = refl
      go (Some (Number value)) = refl
      go (Some (Section key offset addr)) = ap (λ (p : NewCell). let r : LinkRow = record { user = key_of p.id.0 e.section; entry = k; target = key } in Some r) (sym same)

  steps_along : (k : ℕ) (es : List Entry) → steps_from c.placed k es (map named es) (rows v c k es) ≡ map step_at (numbered_from k es)
  steps_along k [] = refl
  steps_along k (e ∷ es) =
      let h = here v c k e es in
      ap₂ (λ (b a : Option LinkRow). let s : LinkStep = record { before = b; after = a } in s ∷ steps_from c.placed (suc k) es (map named es) (behind k (rows v c k (e ∷ es)))) h.0 (after_is k e)
      ∙ (ap (λ (ls : List LinkRow). step_at (k, e) ∷ steps_from c.placed (suc k) es (map named es) ls) h.1
      ∙ ap (λ (ss : List LinkStep). step_at (k, e) ∷ ss) (steps_along (suc k) es))

  targets_are : targets_of w now ≡ map named c.object.entries
  targets_are = ap (λ (p : NewCell). map named p.object.entries) same

  steps_same_here : steps_of c.placed (targets_of w now) (links_in v c) ≡ cell_steps v w c
  steps_same_here = ap (λ (ts : List Target). steps_of c.placed ts (links_in v c)) targets_are ∙ steps_along 0 c.object.entries

  marked_any : (g : Entry → Bool) (es : List Entry) (q : ℕ × ℕ) → is_marked_spot es (map g es) q ≡ list_any (λ e. is_entry_at q e && g e) es
  marked_any g [] q = refl
  marked_any g (e ∷ es) q = ap (λ b. is_entry_at q e && g e || b) (marked_any g es q)

  changes_map : (ps : List (ℕ × Entry)) → map is_change (map step_at ps) ≡ map (λ p. is_other_link (link_of v c p) (link_of w now p)) ps
  changes_map [] = refl
  changes_map (p ∷ ps) = ap (λ (bs : List Bool). is_other_link (link_of v c p) (link_of w now p) ∷ bs) (changes_map ps)

  entries_map : (k : ℕ) (es : List Entry) → map (λ p. differs v w c p.1) (numbered_from k es) ≡ map (differs v w c) es
  entries_map k [] = refl
  entries_map k (e ∷ es) = ap (λ (bs : List Bool). differs v w c e ∷ bs) (entries_map (suc k) es)

  module _ (told : IsTold v w c) where
    marks_are : marks_of c.placed (targets_of w now) (links_in v c) ≡ map (differs v w c) c.object.entries
    marks_are =
        ap (map is_change) steps_same_here
        ∙ (changes_map (numbered c.object.entries)
        ∙ (map_same (λ (p : ℕ × Entry). is_other_link (link_of v c p) (link_of w now p)) (λ (p : ℕ × Entry). differs v w c p.1) (numbered c.object.entries) (λ p i. sym (told p i))
        ∙ entries_map 0 c.object.entries))

    fields_changed_here : changed_fields c.placed (targets_of w now) (links_in v c) ≡ filter (is_changed v w c) (fields_of c.object)
    fields_changed_here =
        ap (λ (ms : List Bool). filter (λ (f : Entry). is_marked_spot c.object.entries ms (spot_of f)) (fields_of c.object)) marks_are
        ∙ filter_agree (λ (f : Entry). is_marked_spot c.object.entries (map (differs v w c) c.object.entries) (spot_of f)) (is_changed v w c) (λ f. marked_any (differs v w c) c.object.entries (spot_of f)) (fields_of c.object)

pub steps_same : (v w : World) (c : Cell) → (now_in w c).placed ≡ c.placed → steps_of c.placed (targets_of w (now_in w c)) (links_in v c) ≡ cell_steps v w c
steps_same = steps_same_here

pub fields_changed : (v w : World) (c : Cell) → (now_in w c).placed ≡ c.placed → IsTold v w c → changed_fields c.placed (targets_of w (now_in w c)) (links_in v c) ≡ filter (is_changed v w c) (fields_of c.object)
fields_changed = fields_changed_here
