use Rattle.std.proofs.Common.{◌≡◌, ◌+◌, inl, inr, true, List, [], ◌∷◌, ap, sym, subst, ◌∙◌, refl, arith, Contains}
use Rattle.std.proofs.lemmas.List.Sorted.{Contains-permutation, IsPermutation-sym, length_permutation}
use Rattle.slab.proofs.SlabLemmas.{Contains-cons, Contains-cons_cases}
use Rattle.cell_world.specs.declared.state.LinkRow.{LinkRow}
use Rattle.cell_graph.specs.Links.{links_to}
use Rattle.cell_graph.specs.Removal.{is_listed}
use Rattle.cell_graph.proofs.Outside.{in_links, of_links}
use Rattle.cell_graph.proofs.Rising.{Contains-head, no_element}
use Rattle.cell_graph.proofs.graph.Graph.outside_user.Goals as goal

pub loop-row-init : goal.loop-row-init
loop-row-init g c =
    let all = links_to c.args.sec c.args.self.now.rows in
    let users = c.users_of-users.result in
    record {
      only = λ r has. Contains-permutation users all r (IsPermutation-sym all users c.users_of-users.ensures) has;
      rest = λ r has. inl (Contains-permutation all users r c.users_of-users.ensures has);
      steps = ap (λ k. c.args.steps.now + k) (length_permutation all users c.users_of-users.ensures);
    }

pub returns-then-not-is_listed-clause-some : goal.returns-then-not-is_listed-clause-some
returns-then-not-is_listed-clause-some g c =
    let row = c.in-Some.row in
    let step : c.loop-row.users ≡ row ∷ c.step.new.self = (c.in-Some.ensures {u = tt}).goes in
    let has = of_links c.args.sec c.args.self.now.rows row (c.loop-row.invariant.only row (subst (λ (l : List LinkRow). Contains l row) (sym step) (Contains-head row c.step.new.self))) in
    record { row = row; has = has.0; user_is = refl; target_is = has.1; outside = sym c.is_listed.ensures ∙ c.if-not-is_listed.true }

pub loop-row-preserved : goal.loop-row-preserved
loop-row-preserved g c =
    let row = c.in-Some.row in
    let step : c.loop-row.users ≡ row ∷ c.step.new.self = (c.in-Some.ensures {u = tt}).goes in
    let here : is_listed c.args.cells.now row.user ≡ true = sym c.is_listed.ensures ∙ c.if-not-is_listed.false in
    record {
      only = λ r has. c.loop-row.invariant.only r (subst (λ (l : List LinkRow). Contains l r) (sym step) (Contains-cons row r c.step.new.self has));
      rest = λ r has. elim (c.loop-row.invariant.rest r has) [
        | inl left ↦ elim (Contains-cons_cases row r c.step.new.self (subst (λ (l : List LinkRow). Contains l r) step left)) [
          | inl same ↦ inr (subst (λ (x : LinkRow). is_listed c.args.cells.now x.user ≡ true) same here)
          | inr later ↦ inl later
        ]
        | inr done ↦ inr done
      ];
      steps = omega (arith, c.step.ensures.steps, c.loop-row.invariant.steps);
    }

pub returns-clause-none : goal.returns-clause-none
returns-clause-none g c =
    let none : c.loop-row.users ≡ [] = (c.in_default.ensures {u = tt}).goes.0 in
    λ r has to. elim (c.loop-row.invariant.rest r (in_links c.args.sec c.args.self.now.rows r has to)) [
      | inl left ↦ absurd (no_element r (subst (λ (l : List LinkRow). Contains l r) none left))
      | inr done ↦ done
    ]
