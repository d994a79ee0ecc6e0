-- The links of a cell as its entries are gone along.
use Rattle.std.proofs.Common.{◌≡◌, refl, sym, ◌∙◌, ap, ap₂, subst, arith, ℕ, zero, suc, ◌+◌, ◌<◌, ◌≤◌, not, Bool, true, false, cond, ◌&&◌, List, [], ◌∷◌, ◌++◌, length, drop, get_or, map, append_assoc, append-nil, Option, Some, None}
use Rattle.std.specs.Prelude.{◌==◌, filter_map}
use Rattle.std.specs.List.{cons_option}
use Rattle.std.proofs.lemmas.Bool.{eq-eqb, ne_eqb}
use Rattle.std.proofs.lemmas.Bool.Decides.{nat_tests}
use Rattle.std.proofs.lemmas.List.{drop_all, drop_more, map-append}
use Rattle.std.proofs.lemmas.List.Elements.{filter_map-append}
use Rattle.cell_num.specs.declared.ids.SecKey.{SecKey}
use Rattle.cell_num.specs.Lists.{where_true}
use Rattle.cell_object.specs.declared.object.Entry.{Entry}
use Rattle.cell_world.specs.declared.state.LinkRow.{LinkRow}
use Rattle.cell_world.specs.declared.state.NewCell.{NewCell}
use Rattle.cell_world.specs.declared.state.Target.{Target}
use Rattle.cell_world.specs.Changed.{is_same_key}
use Rattle.cell_world.specs.Linked.Relink.{link_to}
use Rattle.cell_world.specs.World.{attached}
use Rattle.cell_lemmas.specs.LinkSteps.{LinkStep, bound_row, moved_row, unbound_row}
use Rattle.cell_commit.specs.declared.wiring.Rewiring.{Rewiring}
use Rattle.cell_plan.specs.Steps.{HasSteps, behind, front, is_change, marks_of, steps_from, steps_of}

-- steps are added part by part

pub none_added : (was : Rewiring) → HasSteps [] was was
none_added was = record {
  moves_are = sym (append-nil was.moves.items);
  backs_are = sym (append-nil was.backs.items);
  binds_are = sym (append-nil was.binds.items);
  unbinds_are = sym (append-nil was.unbinds.items);
}

part_added : (f : LinkStep → Option LinkRow) (a b : List LinkStep) (was mid now : List LinkRow) → mid ≡ was ++ filter_map f a → now ≡ mid ++ filter_map f b → now ≡ was ++ filter_map f (a ++ b)
part_added f a b was mid now first second =
    second
    ∙ (ap (λ (rs : List LinkRow). rs ++ filter_map f b) first
    ∙ (append_assoc was (filter_map f a) (filter_map f b) ∙ ap (λ (rs : List LinkRow). was ++ rs) (sym (filter_map-append f a b))))

pub steps_added : (a b : List LinkStep) (was mid now : Rewiring) → HasSteps a was mid → HasSteps b mid now → HasSteps (a ++ b) was now
steps_added a b was mid now first second = record {
  moves_are = part_added (λ (s : LinkStep). moved_row s.before s.after) a b was.moves.items mid.moves.items now.moves.items first.moves_are second.moves_are;
  backs_are = part_added (λ (s : LinkStep). moved_row s.after s.before) a b was.backs.items mid.backs.items now.backs.items first.backs_are second.backs_are;
  binds_are = part_added (λ (s : LinkStep). bound_row s.before s.after) a b was.binds.items mid.binds.items now.binds.items first.binds_are second.binds_are;
  unbinds_are = part_added (λ (s : LinkStep). unbound_row s.before s.after) a b was.unbinds.items mid.unbinds.items now.unbinds.items first.unbinds_are second.unbinds_are;
}

-- one step

equals_turned : (a b c d : ℕ) → (a == b && c == d) ≡ (b == a && d == c)
equals_turned a b c d = grind (arith, nat_tests)

pub key_turned : (a b : SecKey) → is_same_key a b ≡ is_same_key b a
key_turned a b = equals_turned a.cell.0 b.cell.0 a.section b.section

-- a link that leads to another section
pub move_added : (l m : LinkRow) (was now : Rewiring) → is_same_key l.target m.target ≡ false → now.moves.items ≡ was.moves.items ++ m ∷ [] → now.backs.items ≡ was.backs.items ++ l ∷ [] → now.binds.items ≡ was.binds.items
    → now.unbinds.items ≡ was.unbinds.items → HasSteps (record { before = Some l; after = Some m } ∷ []) was now
move_added l m was now other moves backs binds unbinds = record {
  moves_are = moves ∙ ap (λ (b : Bool). was.moves.items ++ cons_option (where_true (not b) m) []) (sym other);
  backs_are = backs ∙ ap (λ (b : Bool). was.backs.items ++ cons_option (where_true (not b) l) []) (sym (key_turned m.target l.target ∙ other));
  binds_are = binds ∙ sym (append-nil was.binds.items);
  unbinds_are = unbinds ∙ sym (append-nil was.unbinds.items);
}

-- and one that doesn't
pub same_added : (l m : LinkRow) (was : Rewiring) → is_same_key l.target m.target ≡ true → HasSteps (record { before = Some l; after = Some m } ∷ []) was was
same_added l m was same = record {
  moves_are = sym (append-nil was.moves.items) ∙ ap (λ (b : Bool). was.moves.items ++ cons_option (where_true (not b) m) []) (sym same);
  backs_are = sym (append-nil was.backs.items) ∙ ap (λ (b : Bool). was.backs.items ++ cons_option (where_true (not b) l) []) (sym (key_turned m.target l.target ∙ same));
  binds_are = sym (append-nil was.binds.items);
  unbinds_are = sym (append-nil was.unbinds.items);
}

pub nothing_added : (was : Rewiring) → HasSteps (record { before = None; after = None } ∷ []) was was
nothing_added was = record {
  moves_are = sym (append-nil was.moves.items);
  backs_are = sym (append-nil was.backs.items);
  binds_are = sym (append-nil was.binds.items);
  unbinds_are = sym (append-nil was.unbinds.items);
}

pub bind_added : (m : LinkRow) (was now : Rewiring) → now ≡ record was { binds = now.binds } → now.binds.items ≡ was.binds.items ++ m ∷ [] → HasSteps (record { before = None; after = Some m } ∷ []) was now
bind_added m was now rest binds = record {
  moves_are = ap (λ (r : Rewiring). r.moves.items) rest ∙ sym (append-nil was.moves.items);
  backs_are = ap (λ (r : Rewiring). r.backs.items) rest ∙ sym (append-nil was.backs.items);
  binds_are = binds;
  unbinds_are = ap (λ (r : Rewiring). r.unbinds.items) rest ∙ sym (append-nil was.unbinds.items);
}

pub unbind_added : (l : LinkRow) (was now : Rewiring) → now ≡ record was { unbinds = now.unbinds } → now.unbinds.items ≡ was.unbinds.items ++ l ∷ [] → HasSteps (record { before = Some l; after = None } ∷ []) was now
unbind_added l was now rest unbinds = record {
  moves_are = ap (λ (r : Rewiring). r.moves.items) rest ∙ sym (append-nil was.moves.items);
  backs_are = ap (λ (r : Rewiring). r.backs.items) rest ∙ sym (append-nil was.backs.items);
  binds_are = ap (λ (r : Rewiring). r.binds.items) rest ∙ sym (append-nil was.binds.items);
  unbinds_are = unbinds;
}

-- the link at a place of the list

module _ (links : List LinkRow) (place entry : ℕ) where
  pub front_past : length links ≤ place → (None ≡ front entry (drop place links)) × (drop place links ≡ behind entry (drop place links))
  front_past le =
      let none : drop place links ≡ [] = drop_all place links le in
      (sym (ap (front entry) none), none ∙ sym (ap (behind entry) none))

  module _ (lt : place < length links) (d : LinkRow) where
    left : drop place links ≡ get_or links place d ∷ drop (place + 1) links
    left = drop_more links place d lt

    pub front_taken : (get_or links place d).entry ≡ entry → (Some (get_or links place d) ≡ front entry (drop place links)) × (drop (place + 1) links ≡ behind entry (drop place links))
    front_taken is = let same = eq-eqb (get_or links place d).entry entry is in (
      sym (ap (front entry) left ∙ ap (λ (b : Bool). where_true b (get_or links place d)) same),
      sym (ap (behind entry) left ∙ ap (λ (b : Bool). cond b (drop (place + 1) links) (get_or links place d ∷ drop (place + 1) links)) same),
    )

    pub front_left : ((get_or links place d).entry ≡ entry → ⊥) → (None ≡ front entry (drop place links)) × (drop place links ≡ behind entry (drop place links))
    front_left isnt = let other = ne_eqb (get_or links place d).entry entry isnt in (
      sym (ap (front entry) left ∙ ap (λ (b : Bool). where_true b (get_or links place d)) other),
      left ∙ sym (ap (behind entry) left ∙ ap (λ (b : Bool). cond b (drop (place + 1) links) (get_or links place d ∷ drop (place + 1) links)) other),
    )

-- the entries so far

pub record AreTaken (c : NewCell) (targets : List Target) (links : List LinkRow) (was : Rewiring) (i place : ℕ) (marks : List Bool) (now : Rewiring) : Type 0 where
  pub within : place ≤ length links
  pub done : List LinkStep
  pub all : done ++ steps_from c i (drop i c.object.entries) (drop i targets) (drop place links) ≡ steps_of c targets links
  pub marks_are : marks ≡ map is_change done
  pub links_are : HasSteps done was now

pub none_taken : (c : NewCell) (targets : List Target) (links : List LinkRow) (was : Rewiring) (marks : List Bool) → marks ≡ [] → AreTaken c targets links was 0 0 marks was
none_taken c targets links was marks none = record { within = omega arith; done = []; all = refl; marks_are = none; links_are = none_added was }

module _ (c : NewCell) (targets : List Target) (links : List LinkRow) (was : Rewiring) (each : length targets ≡ length c.object.entries) (i place : ℕ) (marks : List Bool) (now : Rewiring) (so_far : AreTaken c targets links was i place marks now) where
  module _ (es : List Entry) (same : es ≡ c.object.entries) (lt : i < length es) (e : Entry) (t : Target) where
    abbrev step : Option LinkRow → LinkStep
    step before = record { before = before; after = link_to (attached c) i (get_or es i e) (get_or targets i t) }

    next_steps : (ls : List LinkRow) → steps_from c i (drop i c.object.entries) (drop i targets) ls ≡ step (front i ls) ∷ steps_from c (i + 1) (drop (i + 1) c.object.entries) (drop (i + 1) targets) (behind i ls)
    next_steps ls =
        let long : length es ≡ length c.object.entries = ap (length {A = Entry}) same in
        let one : suc i ≡ i + 1 = omega arith in
        ap₂ (λ (xs : List Entry) (ts : List Target). steps_from c i xs ts ls) (drop_more c.object.entries i e (omega (arith, lt, long))) (drop_more targets i t (omega (arith, lt, long, each)))
        ∙ (ap (λ (x : Entry). let s : LinkStep = record { before = front i ls; after = link_to (attached c) i x (get_or targets i t) } in s ∷ steps_from c (suc i) (drop (i + 1) c.object.entries) (drop (i + 1) targets) (behind i ls)) (ap (λ (xs : List Entry). get_or xs i e) (sym same))
        ∙ ap (λ (k : ℕ). step (front i ls) ∷ steps_from c k (drop (i + 1) c.object.entries) (drop (i + 1) targets) (behind i ls)) one)

    pub taken_more : (before after : Option LinkRow) (next : ℕ) (change : Bool) (more : List Bool) (new : Rewiring) → before ≡ front i (drop place links) → drop next links ≡ behind i (drop place links) → next ≤ length links
        → after ≡ link_to (attached c) i (get_or es i e) (get_or targets i t) → change ≡ is_change (record { before = before; after = after }) → more ≡ marks ++ change ∷ [] → HasSteps (record { before = before; after = after } ∷ []) now new
        → AreTaken c targets links was (i + 1) next more new
    taken_more before after next change more new first rest within last told added steps =
        let s : LinkStep = record { before = before; after = after } in
        let is : s ≡ step (front i (drop place links)) = ap₂ (λ (b a : Option LinkRow). let x : LinkStep = record { before = b; after = a } in x) first last in
        record {
          within = within;
          done = so_far.done ++ s ∷ [];
          all =
              append_assoc so_far.done (s ∷ []) (steps_from c (i + 1) (drop (i + 1) c.object.entries) (drop (i + 1) targets) (drop next links))
              ∙ (ap₂ (λ (x : LinkStep) (ls : List LinkRow). so_far.done ++ x ∷ steps_from c (i + 1) (drop (i + 1) c.object.entries) (drop (i + 1) targets) ls) is rest
              ∙ (ap (λ (ss : List LinkStep). so_far.done ++ ss) (sym (next_steps (drop place links))) ∙ so_far.all));
          marks_are =
              added
              ∙ (ap₂ (λ (ms : List Bool) (b : Bool). ms ++ b ∷ []) so_far.marks_are told ∙ sym (map-append is_change so_far.done (s ∷ [])));
          links_are = steps_added so_far.done (s ∷ []) was now new so_far.links_are steps;
        }

  module _ (es : List Entry) (same : es ≡ c.object.entries) (past : length es ≤ i) where
    done_all : so_far.done ≡ steps_of c targets links
    done_all =
        sym (append-nil so_far.done)
        ∙ (ap (λ (xs : List Entry). so_far.done ++ steps_from c i xs (drop i targets) (drop place links)) (sym (drop_all i c.object.entries (let long : length es ≡ length c.object.entries = ap (length {A = Entry}) same in omega (arith, past, long))))
        ∙ so_far.all)

    pub marks_taken : marks ≡ marks_of c targets links
    marks_taken = so_far.marks_are ∙ ap (map is_change) done_all

    pub links_taken : HasSteps (steps_of c targets links) was now
    links_taken = subst (λ (ss : List LinkStep). HasSteps ss was now) done_all so_far.links_are
