-- The roots of the live tasks, one after another.
use Rattle.std.proofs.Common.{◌≡◌, refl, sym, ◌∙◌, ap, ap₂, arith, ℕ, zero, suc, ◌+◌, ◌⊎◌, inl, inr, true, List, [], ◌∷◌, ◌++◌, map, take, drop, Some, None}
use Rattle.std.specs.Prelude.{◌==◌, find, flat_map, nat_lt}
use Rattle.std.proofs.lemmas.Bool.{eq-eqb, eqb-true, ltb-true}
use Rattle.std.proofs.lemmas.List.{append-nil, append_assoc, map-append}
use Rattle.std.proofs.lemmas.List.Concat.{flat_map-append}
use Rattle.cell_num.specs.Lists.{each_pair, In}
use Rattle.cell_world.specs.World.{Task}
use Rattle.cell_num.proofs.Elements.{find_there, found-In, pairs-In}
use Rattle.cell_hold.specs.declared.roots.Root.{Root}
use Rattle.cell_unload.specs.Begun.{root_of_task}

-- the task at a place of the list, whose number comes next
record Turn (ts : List Task) (n number : ℕ) (rest : List ℕ) : Type 0 where
  task : Task
  there : In task ts
  is : task.number ≡ number
  more : take (suc n) ts ≡ take n ts ++ task ∷ []
  left : rest ≡ drop (suc n) (map (λ t. t.number) ts)

turn_at : (ts : List Task) (n number : ℕ) (rest : List ℕ) → number ∷ rest ≡ drop n (map (λ t. t.number) ts) → Turn ts n number rest
turn_at [] zero number rest e = cc
turn_at [] (suc n) number rest e = cc
turn_at (t ∷ ts) zero number rest e = record { task = t; there = inl refl; is = head_is number t.number rest (map (λ t. t.number) ts) e; more = refl; left = tail_is number t.number rest (map (λ t. t.number) ts) e }
  where
    head_is : (a b : ℕ) (xs ys : List ℕ) → a ∷ xs ≡ b ∷ ys → b ≡ a
    head_is a b xs ys e = cc

    tail_is : (a b : ℕ) (xs ys : List ℕ) → a ∷ xs ≡ b ∷ ys → xs ≡ ys
    tail_is a b xs ys e = cc
turn_at (t ∷ ts) (suc n) number rest e =
    let r : Turn ts n number rest = turn_at ts n number rest e in
    record { task = r.task; there = inr r.there; is = r.is; more = ap (λ (us : List Task). t ∷ us) r.more; left = r.left }

-- each task is found by its number
found_own : (ts : List Task) → each_pair (λ (a b : Task). nat_lt a.number b.number) ts ≡ true → (t : Task) → In t ts → find (λ u. u.number == t.number) ts ≡ Some t
found_own ts order t i =
    let y = find_there (λ u. u.number == t.number) ts t i (eq-eqb t.number t.number refl) in
    let k = found-In (λ u. u.number == t.number) ts y.0 y.1 in
    y.1 ∙ ap (λ (u : Task). Some u) (go y.0 (pairs-In (λ (a b : Task). nat_lt a.number b.number) ts order y.0 t k.0 i) (eqb-true y.0.number t.number k.1))
  where
    go : (u : Task) → (u ≡ t) ⊎ ((nat_lt u.number t.number ≡ true) ⊎ (nat_lt t.number u.number ≡ true)) → u.number ≡ t.number → u ≡ t
    go u (inl e) s = e
    go u (inr (inl l)) s = absurd (omega (arith, ltb-true u.number t.number l, s))
    go u (inr (inr l)) s = absurd (omega (arith, ltb-true t.number u.number l, s))

module _ (ts : List Task) (order : each_pair (λ (a b : Task). nat_lt a.number b.number) ts ≡ true) (n number : ℕ) (rest : List ℕ) (e : number ∷ rest ≡ drop n (map (λ t. t.number) ts)) where
  next : Turn ts n number rest
  next = turn_at ts n number rest e

  turn_found : find (λ u. u.number == number) ts ≡ Some next.task
  turn_found = ap (λ (k : ℕ). find (λ (u : Task). u.number == k) ts) (sym next.is) ∙ found_own ts order next.task next.there

  pub never_missing : None ≡ find (λ u. u.number == number) ts → ⊥
  never_missing h = let both : None ≡ Some next.task = h ∙ turn_found in absurd cc

  -- the task that was found is the next
  roots_next : (u : Task) → Some u ≡ find (λ u. u.number == number) ts → map root_of_task (take n ts) ++ root_of_task u ∷ [] ≡ map root_of_task (take (n + 1) ts)
  roots_next u h =
      let both : Some u ≡ Some next.task = h ∙ turn_found in
      let same : u ≡ next.task = cc in
      let one : suc n ≡ n + 1 = omega arith in
      ap (λ (v : Task). map root_of_task (take n ts) ++ root_of_task v ∷ []) same ∙ (sym (map-append root_of_task (take n ts) (next.task ∷ [])) ∙ (ap (map root_of_task) (sym next.more) ∙ ap (λ (k : ℕ). map root_of_task (take k ts)) one))

  pub roots_more : (u : Task) → Some u ≡ find (λ u. u.number == number) ts → (before so_far now : List Root) (root : Root) → so_far ≡ before ++ map root_of_task (take n ts) → root ≡ root_of_task u → now ≡ so_far ++ root ∷ []
      → now ≡ before ++ map root_of_task (take (n + 1) ts)
  roots_more u h before so_far now root so is added =
      added
      ∙ (ap (λ (r : Root). so_far ++ r ∷ []) is
      ∙ (ap (λ (rs : List Root). rs ++ root_of_task u ∷ []) so
      ∙ (append_assoc before (map root_of_task (take n ts)) (root_of_task u ∷ [])
      ∙ ap (λ (rs : List Root). before ++ rs) (roots_next u h))))

  -- the same of what each task gives
  pub parts_more : {X : Type 0} (f : Task → List X) (u : Task) → Some u ≡ find (λ u. u.number == number) ts → (so_far now : List X) → so_far ≡ flat_map f (take n ts) → now ≡ so_far ++ f u → now ≡ flat_map f (take (n + 1) ts)
  parts_more {X = X} f u h so_far now so added =
      let both : Some u ≡ Some next.task = h ∙ turn_found in
      let same : u ≡ next.task = cc in
      let one : suc n ≡ n + 1 = omega arith in
      added
      ∙ (ap₂ (λ (xs : List X) (v : Task). xs ++ f v) so same
      ∙ (ap (λ (xs : List X). flat_map f (take n ts) ++ xs) (sym (append-nil (f next.task)))
      ∙ (sym (flat_map-append f (take n ts) (next.task ∷ []))
      ∙ (ap (flat_map f) (sym next.more) ∙ ap (λ (k : ℕ). flat_map f (take k ts)) one))))

  pub left_more : rest ≡ drop (n + 1) (map (λ t. t.number) ts)
  left_more = let one : suc n ≡ n + 1 = omega arith in next.left ∙ ap (λ (k : ℕ). drop k (map (λ (t : Task). t.number) ts)) one
