-- What is made of the crates, one after another.
use Rattle.std.proofs.Common.{◌≡◌, refl, ap, ap₂, sym, ◌∙◌, arith, ℕ, suc, ◌+◌, ◌-◌, ◌*◌, ◌≤◌, List, ◌++◌, append_assoc}
use Rattle.std.specs.Prelude.{flat_map}
use Rattle.cell_object.specs.Bytes.{between}
use Rattle.cell_object.proofs.Between.{flat_map-between-more}
use Rattle.cell_world.specs.declared.file.File.{File}
use Rattle.cell_gen.specs.Generated.{crate_drawn, crates_to, drawn, files_naming, files_of_crate, next_state, state_after}

-- the crates before that one
abbrev pub crates_before : ℕ → List ℕ
crates_before i = crates_to (i - 1)

pub flat_map_more : {X : Type 0} (f : ℕ → List X) (i : ℕ) → 1 ≤ i → flat_map f (crates_before (i + 1)) ≡ flat_map f (crates_before i) ++ f i
unfolding between
flat_map_more f i h = flat_map-between-more f 1 i h

pub lines_more : (f : ℕ → List ℕ) (i : ℕ) (old now new : List ℕ) → 1 ≤ i → now ≡ old ++ flat_map f (crates_before i) → new ≡ now ++ f i → new ≡ old ++ flat_map f (crates_before (i + 1))
lines_more f i old now new from_one so_far step =
    step ∙ ap (λ x. x ++ f i) so_far ∙ append_assoc old (flat_map f (crates_before i)) (f i) ∙ ap (λ x. old ++ x) (sym (flat_map_more f i from_one))

state_next : (seed k j : ℕ) → j ≡ k + 1 → state_after seed j ≡ next_state (state_after seed k)
unfolding state_after
state_next seed k j e =
    let next : j ≡ suc k = omega arith in
    ap (state_after seed) next

pub state_none : (seed : ℕ) → state_after seed 0 ≡ seed
unfolding state_after
state_none seed = refl

-- three draws on
module _ (n seed i : ℕ) (from_one : 1 ≤ i) (state : ℕ) (before : state ≡ state_after seed (3 * (i - 1))) where
  one : state_after seed (3 * i - 2) ≡ next_state state
  one = state_next seed (3 * (i - 1)) (3 * i - 2) (omega arith) ∙ ap next_state (sym before)

  two : state_after seed (3 * i - 1) ≡ next_state (next_state state)
  two = state_next seed (3 * i - 2) (3 * i - 1) (omega arith) ∙ ap next_state one

  three : state_after seed (3 * i) ≡ next_state (next_state (next_state state))
  three = state_next seed (3 * i - 1) (3 * i) (omega arith) ∙ ap next_state two

  pub state_more : next_state (next_state (next_state state)) ≡ state_after seed (3 * ((i + 1) - 1))
  state_more =
      let same : 3 * i ≡ 3 * ((i + 1) - 1) = omega arith in
      sym three ∙ ap (state_after seed) same

  abbrev files_drawn : ℕ → List File
  files_drawn m = files_naming i (crate_drawn m (next_state state)) (crate_drawn m (next_state (next_state state))) (crate_drawn m (next_state (next_state (next_state state))))

  files_are : files_drawn n ≡ files_of_crate n seed i
  files_are = sym (ap (λ x. files_naming i (crate_drawn n x) (drawn n seed (3 * i - 1)) (drawn n seed (3 * i))) one
      ∙ ap (λ x. files_naming i (crate_drawn n (next_state state)) (crate_drawn n x) (drawn n seed (3 * i))) two
      ∙ ap (λ x. files_naming i (crate_drawn n (next_state state)) (crate_drawn n (next_state (next_state state))) (crate_drawn n x)) three)

  pub files_more : (m : ℕ) (now new : List File) → m ≡ n → now ≡ flat_map (files_of_crate n seed) (crates_before i) → new ≡ now ++ files_drawn m
      → new ≡ flat_map (files_of_crate n seed) (crates_before (i + 1))
  files_more m now new same so_far step =
      step ∙ ap₂ (λ xs k. xs ++ files_drawn k) so_far same
      ∙ ap (λ x. flat_map (files_of_crate n seed) (crates_before i) ++ x) files_are
      ∙ sym (flat_map_more (files_of_crate n seed) i from_one)
