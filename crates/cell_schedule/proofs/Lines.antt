-- The lines of the live tasks, one after another.
use Rattle.std.proofs.Common.{◌≡◌, refl, sym, ◌∙◌, ap, arith, ℕ, zero, suc, ◌+◌, ◌⊎◌, inl, inr, true, List, [], ◌∷◌, ◌++◌, map, take, drop, Some, None}
use Rattle.std.specs.Prelude.{◌==◌, find, nat_lt}
use Rattle.std.proofs.lemmas.Bool.{eq-eqb, eqb-true, ltb-true}
use Rattle.std.proofs.lemmas.List.{map-append}
use Rattle.cell_num.specs.Lists.{each_pair, In}
use Rattle.cell_world.specs.World.{Task}
use Rattle.cell_world.specs.Commands.TaskCommands.{task_line as line_of}
use Rattle.cell_num.proofs.Elements.{find_there, found-In, pairs-In}

-- the task at a place of the list, whose number comes next
pub record Turn (ts : List Task) (n number : ℕ) (rest : List ℕ) : Type 0 where
  pub task : Task
  pub there : In task ts
  pub is : task.number ≡ number
  pub more : take (suc n) ts ≡ take n ts ++ task ∷ []
  pub left : rest ≡ drop (suc n) (map (λ t. t.number) ts)

pub turn_at : (ts : List Task) (n number : ℕ) (rest : List ℕ) → number ∷ rest ≡ drop n (map (λ t. t.number) ts) → Turn ts n number rest
turn_at [] zero number rest e = cc
turn_at [] (suc n) number rest e = cc
turn_at (t ∷ ts) zero number rest e = record { task = t; there = inl refl; is = head_is number t.number rest (map (λ t. t.number) ts) e; more = refl; left = tail_is number t.number rest (map (λ t. t.number) ts) e }
  where
    head_is : (a b : ℕ) (xs ys : List ℕ) → a ∷ xs ≡ b ∷ ys → b ≡ a
    head_is a b xs ys e = cc

    tail_is : (a b : ℕ) (xs ys : List ℕ) → a ∷ xs ≡ b ∷ ys → xs ≡ ys
    tail_is a b xs ys e = cc
turn_at (t ∷ ts) (suc n) number rest e =
    let r : Turn ts n number rest = turn_at ts n number rest e in
    record { task = r.task; there = inr r.there; is = r.is; more = ap (λ (us : List Task). t ∷ us) r.more; left = r.left }

-- each task is found by its number
pub found_own : (ts : List Task) → each_pair (λ (a b : Task). nat_lt a.number b.number) ts ≡ true → (t : Task) → In t ts → find (λ u. u.number == t.number) ts ≡ Some t
found_own ts order t i =
    let y = find_there (λ u. u.number == t.number) ts t i (eq-eqb t.number t.number refl) in
    let k = found-In (λ u. u.number == t.number) ts y.0 y.1 in
    y.1 ∙ ap (λ (u : Task). Some u) (go y.0 (pairs-In (λ (a b : Task). nat_lt a.number b.number) ts order y.0 t k.0 i) (eqb-true y.0.number t.number k.1))
  where
    go : (u : Task) → (u ≡ t) ⊎ ((nat_lt u.number t.number ≡ true) ⊎ (nat_lt t.number u.number ≡ true)) → u.number ≡ t.number → u ≡ t
    go u (inl e) s = e
    go u (inr (inl l)) s = absurd (omega (arith, ltb-true u.number t.number l, s))
    go u (inr (inr l)) s = absurd (omega (arith, ltb-true t.number u.number l, s))

module _ (ts : List Task) (order : each_pair (λ (a b : Task). nat_lt a.number b.number) ts ≡ true) (n number : ℕ) (rest : List ℕ) (e : number ∷ rest ≡ drop n (map (λ t. t.number) ts)) where
  next : Turn ts n number rest
  next = turn_at ts n number rest e

  turn_found : find (λ u. u.number == number) ts ≡ Some next.task
  turn_found = ap (λ (k : ℕ). find (λ (u : Task). u.number == k) ts) (sym next.is) ∙ found_own ts order next.task next.there

  pub never_missing : None ≡ find (λ u. u.number == number) ts → ⊥
  never_missing h = let both : None ≡ Some next.task = h ∙ turn_found in absurd cc

  pub lines_more : (u : Task) → Some u ≡ find (λ u. u.number == number) ts → map line_of (take n ts) ++ line_of u ∷ [] ≡ map line_of (take (n + 1) ts)
  lines_more u h =
      let both : Some u ≡ Some next.task = h ∙ turn_found in
      let same : u ≡ next.task = cc in
      let one : suc n ≡ n + 1 = omega arith in
      ap (λ (v : Task). map line_of (take n ts) ++ line_of v ∷ []) same ∙ (sym (map-append line_of (take n ts) (next.task ∷ [])) ∙ (ap (map line_of) (sym next.more) ∙ ap (λ (k : ℕ). map line_of (take k ts)) one))

  pub left_more : rest ≡ drop (n + 1) (map (λ t. t.number) ts)
  left_more = let one : suc n ≡ n + 1 = omega arith in next.left ∙ ap (λ (k : ℕ). drop k (map (λ (t : Task). t.number) ts)) one
