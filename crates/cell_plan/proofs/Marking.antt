-- The marks of the entries of a table, and the places of those that are marked.
use Rattle.std.proofs.Common.{◌≡◌, ℕ, zero, suc, ◌+◌, ◌<◌, ◌&&◌, ◌||◌, Bool, true, false, List, [], ◌∷◌, length, get_or, map, take, refl, sym, ap, ap₂, subst, ◌∙◌, ◌++◌, arith}
use Rattle.std.specs.Prelude.{◌==◌, Ok, filter}
use Rattle.std.proofs.lemmas.Bool.Decides.{nat_tests}
use Rattle.std.specs.BTreeSet.{BTreeSet, contains}
use Rattle.std.proofs.lemmas.List.{ext_get_or, length-map, take_more}
use Rattle.std.proofs.lemmas.List.Elements.{filter_agree}
use Rattle.cell_object.specs.declared.object.Entry.{Entry}
use Rattle.cell_world.specs.declared.state.LinkRow.{LinkRow}
use Rattle.cell_world.specs.declared.state.NewCell.{NewCell}
use Rattle.cell_world.specs.declared.state.Target.{Target}
use Rattle.cell_world.specs.Linked.Field.{fields_among, fields_of}
use Rattle.cell_link.specs.declared.value.FieldValue.{FieldValue}
use Rattle.cell_link.specs.Applied.{spot_of}
use Rattle.cell_link.specs.Linked.{value_at}
use Rattle.cell_link.specs.LinksBy.{LinksBy}
use Rattle.cell_link.specs.Tables.{spot_cmp}
use Rattle.cell_commit.specs.declared.wiring.Rewiring.{Rewiring}
use Rattle.cell_plan.specs.declared.span.Span.{Span}
use Rattle.cell_plan.specs.declared.changed.Changed.{Changed}
use Rattle.cell_plan.specs.declared.changes.Change.{Change}
use Rattle.cell_plan.specs.Changes.{IsSpots, change_by}
use Rattle.cell_plan.specs.Firsts.{is_entry_at}
use Rattle.cell_plan.specs.Rising.{rises}
use Rattle.cell_plan.specs.Spans.{span_in}
use Rattle.cell_plan.specs.Steps.{HasSteps, behind, is_change, is_marked_spot, marked_fields, marks_of, steps_from, steps_of}
use Rattle.cell_plan.specs.Taking.{HasTaken}
use Rattle.cell_plan.proofs.Climbing.{at_place, own_fields}
use Rattle.cell_plan.proofs.Lists.{change_fields, change_values, get_map}
use Rattle.cell_plan.proofs.Scanning.{here}

or_none : (b : Bool) → (b || false) ≡ b
or_none true = refl
or_none false = refl

behind_same : (k j : ℕ) → (suc k == suc j) ≡ (k == j)
behind_same k j = grind (arith, nat_tests)

first_only : (k : ℕ) → (suc k == zero) ≡ false
first_only k = grind (arith, nat_tests)

later_only : (j : ℕ) → (zero == suc j) ≡ false
later_only j = grind (arith, nat_tests)

-- no entry is at the place
none_marked : (es : List Entry) (marks : List Bool) (q : ℕ × ℕ) → ((k : ℕ) (d : Entry) → k < length es → is_entry_at q (get_or es k d) ≡ false) → is_marked_spot es marks q ≡ false
none_marked [] marks q none = refl
none_marked (e ∷ es) [] q none = refl
none_marked (e ∷ es) (b ∷ marks) q none =
    ap₂ (λ (a c : Bool). a && b || c) (none zero e (omega arith)) (none_marked es marks q (λ k d lt. none (suc k) d (omega (arith, lt))))

-- where one entry alone is at the place, its mark tells
one_marked : (es : List Entry) (marks : List Bool) (q : ℕ × ℕ) (i : ℕ) (b : Bool) → i < length es → length marks ≡ length es → ((k : ℕ) (d : Entry) → k < length es → is_entry_at q (get_or es k d) ≡ (k == i))
    → is_marked_spot es marks q ≡ get_or marks i b
one_marked [] marks q i b lt long only = absurd (omega (arith, lt))
one_marked (e ∷ es) [] q i b lt long only = absurd (omega (arith, lt, long))
one_marked (e ∷ es) (m ∷ marks) q zero b lt long only =
    ap₂ (λ (a c : Bool). a && m || c) (only zero e (omega arith)) (none_marked es marks q (λ k d below. only (suc k) d (omega (arith, below)) ∙ first_only k)) ∙ or_none m
one_marked (e ∷ es) (m ∷ marks) q (suc j) b lt long only =
    ap (λ (a : Bool). a && m || is_marked_spot es marks q) (only zero e (omega arith) ∙ later_only j)
    ∙ one_marked es marks q j b (omega (arith, lt)) (omega (arith, long)) (λ k d below. only (suc k) d (omega (arith, below)) ∙ behind_same k j)

-- the places of the marked entries, with one more entry
pub spots_more : (es : List Entry) (marks : List Bool) (i : ℕ) (e : Entry) (b : Bool) (q : ℕ × ℕ) → i < length es → length marks ≡ length es
    → is_marked_spot (take (i + 1) es) (take (i + 1) marks) q ≡ (is_marked_spot (take i es) (take i marks) q || is_entry_at q (get_or es i e) && get_or marks i b)
spots_more [] marks i e b q lt long = absurd (omega (arith, lt))
spots_more (x ∷ es) [] i e b q lt long = absurd (omega (arith, lt, long))
spots_more (x ∷ es) (m ∷ marks) zero e b q lt long = or_none (is_entry_at q x && m)
spots_more (x ∷ es) (m ∷ marks) (suc i) e b q lt long =
    ap (λ (k : ℕ). is_marked_spot (take k (x ∷ es)) (take k (m ∷ marks)) q) one
    ∙ (ap (λ (c : Bool). is_entry_at q x && m || c) (spots_more es marks i e b q (omega (arith, lt)) (omega (arith, long)))
    ∙ joined (is_entry_at q x && m) (is_marked_spot (take i es) (take i marks) q) (is_entry_at q (get_or es i e) && get_or marks i b))
  where
    one : suc i + 1 ≡ suc (i + 1)
    one = omega arith

    joined : (a c d : Bool) → (a || (c || d)) ≡ ((a || c) || d)
    joined true c d = refl
    joined false c d = refl

pub spots_kept : (es : List Entry) (marks : List Bool) (i : ℕ) (e : Entry) (b : Bool) (q : ℕ × ℕ) (was now : Bool) → now ≡ (was || is_entry_at q (get_or es i e) && get_or marks i b) → was ≡ is_marked_spot (take i es) (take i marks) q → i < length es
    → length marks ≡ length es → now ≡ is_marked_spot (take (i + 1) es) (take (i + 1) marks) q
spots_kept es marks i e b q was now added before lt long =
    added
    ∙ (ap (λ (c : Bool). c || is_entry_at q (get_or es i e) && get_or marks i b) before ∙ sym (spots_more es marks i e b q lt long))

-- each entry of a table that rises has its mark
abbrev marked_at : List Entry → List Bool → Entry → Bool
marked_at es marks f = is_marked_spot es marks (spot_of f)

pub by_marks : (es : List Entry) (marks : List Bool) → rises 0 es ≡ true → length marks ≡ length es → marks ≡ map (marked_at es marks) es
by_marks es marks up long =
    ext_get_or false marks (map (marked_at es marks) es) (long ∙ sym (length-map es (marked_at es marks)))
    (λ i below.
    let at = here es i (omega (arith, below, long)) in
    sym (one_marked es marks (spot_of (get_or es i at.0)) i false (omega (arith, below, long)) long (λ k d lt. at_place_of i k at.0 d (omega (arith, below, long)) lt))
    ∙ sym (get_map (marked_at es marks) es i at.0 false (omega (arith, below, long))))
  where
    at_place_of : (i k : ℕ) (e d : Entry) → i < length es → k < length es → is_entry_at (spot_of (get_or es i e)) (get_or es k d) ≡ (k == i)
    at_place_of i k e d lt below =
        let x = here es i lt in
        let y = here es k below in
        ap₂ (λ (a b : Entry). is_entry_at (spot_of a) b) (x.2 e ∙ sym (x.2 d)) (y.2 d ∙ sym (y.2 d)) ∙ at_place es up i k d lt below

-- each entry has a step and a mark
steps_long : (c : NewCell) (i : ℕ) (es : List Entry) (ts : List Target) (ls : List LinkRow) → length ts ≡ length es → length (steps_from c i es ts ls) ≡ length es
steps_long c i [] ts ls each = refl
steps_long c i (e ∷ es) [] ls each = absurd (omega (arith, each))
steps_long c i (e ∷ es) (t ∷ ts) ls each = let rest = steps_long c (suc i) es ts (behind i ls) (omega (arith, each)) in omega (arith, rest)

pub marks_long : (c : NewCell) (targets : List Target) (links : List LinkRow) → length targets ≡ length c.object.entries → length (marks_of c targets links) ≡ length c.object.entries
marks_long c targets links each = length-map (steps_of c targets links) is_change ∙ steps_long c 0 c.object.entries targets links each

-- the fields that are at the places of marked entries
pub fields_marked : (value : Entry → FieldValue) (entries : List Entry) (marks : List Bool) (spots : BTreeSet (ℕ × ℕ)) → IsSpots entries marks spots → (firsts fields : List Entry) → firsts ≡ fields → (changes : List Change)
    → changes ≡ map (change_by value) (filter (λ f. contains spot_cmp spots (spot_of f)) firsts) → changes ≡ map (change_by value) (filter (λ f. is_marked_spot entries marks (spot_of f)) fields)
fields_marked value entries marks spots are firsts fields same changes is =
    is
    ∙ ap (map (change_by value))
    (filter_agree (λ f. contains spot_cmp spots (spot_of f)) (λ f. is_marked_spot entries marks (spot_of f)) (λ f. are (spot_of f)) firsts
    ∙ ap (filter (λ f. is_marked_spot entries marks (spot_of f))) same)

-- what is added by the fields of any table is what changes in the cell
module _ (c : NewCell) (targets : List Target) (links : List LinkRow) (values : List FieldValue) (linked : LinksBy c targets (Ok values)) where
  pub fields_long : (read : List FieldValue) → read ≡ values → length read ≡ length (fields_of c.object)
  fields_long read same = ap (length {A = FieldValue}) (same ∙ linked.1) ∙ length-map (fields_of c.object) (value_at c targets)

  pub all_taken : (marks : List Bool) (changes : List Change) (was mid now : Changed) → marks ≡ marks_of c targets links → changes ≡ map (change_by (value_at c targets)) (marked_fields c marks)
      → HasSteps (steps_of c targets links) was.links mid.links → now.links ≡ mid.links → mid.patches.items ≡ was.patches.items → mid.spans.items ≡ was.spans.items
      → now.patches.items ≡ mid.patches.items ++ map (λ f. f.value) changes → now.spans.items ≡ mid.spans.items ++ map (span_in c) (map (λ f. f.field) changes)
      → HasTaken c targets links was now
  all_taken marks changes was mid now are told steps left same_patches same_spans patches spans = record {
    fit = linked.0;
    patches =
        patches
        ∙ (ap (λ (vs : List FieldValue). vs ++ map (λ (f : Change). f.value) changes) same_patches
        ∙ ap (λ (vs : List FieldValue). was.patches.items ++ vs) (ap (map (λ (f : Change). f.value)) told ∙ (change_values (value_at c targets) (marked_fields c marks) ∙ ap (λ (ms : List Bool). map (value_at c targets) (marked_fields c ms)) are)));
    steps = subst (λ (r : Rewiring). HasSteps (steps_of c targets links) was.links r) (sym left) steps;
    spans =
        spans
        ∙ (ap (λ (ss : List Span). ss ++ map (span_in c) (map (λ (f : Change). f.field) changes)) same_spans
        ∙ ap (λ (es : List Entry). was.spans.items ++ map (span_in c) es)
        (ap (map (λ (f : Change). f.field)) told ∙ (change_fields (value_at c targets) (marked_fields c marks) ∙ ap (λ (ms : List Bool). marked_fields c ms) are)));
  }

module _ (c lasts : NewCell) (targets : List Target) (values : List FieldValue) (up : rises 0 c.object.entries ≡ true) (same : lasts ≡ c) (linked : LinksBy c targets (Ok values)) where
  -- each entry has its value
  valued : values ≡ map (value_at c targets) lasts.object.entries
  valued = linked.1 ∙ (ap (map (value_at c targets)) (own_fields c.object.entries up) ∙ ap (λ (d : NewCell). map (value_at c targets) d.object.entries) (sym same))

  pub values_long : length values ≡ length lasts.object.entries
  values_long = ap (length {A = FieldValue}) valued ∙ length-map lasts.object.entries (value_at c targets)

  -- what is added by the marks is what changes in the cell
  pub taken : (links : List LinkRow) (was mid now : Changed) (marks : List Bool) → marks ≡ marks_of c targets links → length marks ≡ length c.object.entries
      → HasSteps (steps_of c targets links) was.links mid.links → now.links ≡ mid.links → mid.patches.items ≡ was.patches.items → mid.spans.items ≡ was.spans.items
      → ((value : Entry → FieldValue) (kept : Entry → Bool) → values ≡ map value lasts.object.entries → marks ≡ map kept lasts.object.entries → now.patches.items ≡ mid.patches.items ++ map value (filter kept lasts.object.entries))
      → ((kept : Entry → Bool) → marks ≡ map kept lasts.object.entries → now.spans.items ≡ mid.spans.items ++ map (span_in lasts) (filter kept lasts.object.entries))
      → HasTaken c targets links was now
  taken links was mid now marks are long steps left same_patches same_spans patches spans = record {
    fit = linked.0;
    patches =
        patches (value_at c targets) kept valued marked
        ∙ (ap (λ (vs : List FieldValue). vs ++ map (value_at c targets) (filter kept lasts.object.entries)) same_patches
        ∙ ap (λ (es : List Entry). was.patches.items ++ map (value_at c targets) es) fields_kept);
    steps = subst (λ (r : Rewiring). HasSteps (steps_of c targets links) was.links r) (sym left) steps;
    spans =
        spans kept marked
        ∙ (ap (λ (ss : List Span). ss ++ map (span_in lasts) (filter kept lasts.object.entries)) same_spans
        ∙ (ap (λ (d : NewCell). was.spans.items ++ map (span_in d) (filter kept lasts.object.entries)) same
        ∙ ap (λ (es : List Entry). was.spans.items ++ map (span_in c) es) fields_kept));
  }
    where
      kept : Entry → Bool
      kept = marked_at c.object.entries marks

      fields : lasts.object.entries ≡ fields_among [] c.object.entries
      fields = ap (λ (d : NewCell). d.object.entries) same ∙ sym (own_fields c.object.entries up)

      fields_kept : filter kept lasts.object.entries ≡ filter (marked_at c.object.entries (marks_of c targets links)) (fields_among [] c.object.entries)
      fields_kept = ap (filter kept) fields ∙ ap (λ (ms : List Bool). filter (marked_at c.object.entries ms) (fields_among [] c.object.entries)) are

      marked : marks ≡ map kept lasts.object.entries
      marked = by_marks c.object.entries marks up long ∙ ap (λ (d : NewCell). map kept d.object.entries) (sym same)
