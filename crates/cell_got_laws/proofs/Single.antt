-- A field that one entry alone sets holds what that entry stands for.
use Rattle.std.proofs.Common.{◌≡◌, refl, sym, ◌∙◌, ap, subst, arith, ◌+◌, ◌<◌, ◌⊎◌, inl, inr, Bool, true, false, cond, not, ◌||◌, ◌&&◌, List, [], ◌∷◌, map, true≢false}
use Rattle.std.specs.Prelude.{filter, fold, nat_le, unwrap_or, ◌==◌}
use Rattle.std.specs.List.{list_all, list_any}
use Rattle.std.proofs.lemmas.Bool.{and_parts, and_from, eqb-true, eq-eqb}
use Rattle.std.proofs.lemmas.Bool.Decides.{nat_tests}
use Rattle.cell_num.specs.Lists.{each_pair, In}
use Rattle.cell_num.specs.Kinds.{width_of, is_stacking}
use Rattle.cell_num.proofs.Elements.{all-In, In-filtered, In-none}
use Rattle.cell_num.proofs.Sublists.{map_filter}
use Rattle.cell_object.specs.declared.object.Entry.{Entry}
use Rattle.cell_object.specs.Sound.{IsSoundObject, may_share}
use Rattle.cell_reloc.specs.Relocation.{inserted}
use Rattle.cell_world.specs.Linked.Field.{Bound, field_value_of, fields_among, fields_of, is_at, number_of, own_number}
use Rattle.cell_world.specs.Linked.Relink.{bound_entries}
use Rattle.cell_world.specs.Linked.Target.{target_of}
use Rattle.cell_world.specs.World.{World, Cell}
use Rattle.cell_world.specs.declared.state.Target.{Target}
use Rattle.cell_world.specs.declared.state.Target.TheVariants.{Number}
use Rattle.cell_lemmas.proofs.Placement.Inside.{wide}
use Rattle.cell_lemmas.proofs.Fields.Values.{bound_map, bind}

-- of elements each two of which pass a test, one passes another that excludes it
filter_one : {X : Type 0} (t : X → X → Bool) (p : X → Bool) (xs : List X) (x : X) → each_pair t xs ≡ true → In x xs → p x ≡ true
    → ((y : X) → (t x y ≡ true) ⊎ (t y x ≡ true) → p y ≡ false) → filter p xs ≡ x ∷ []
filter_one t p [] x h i k apart = absurd i
filter_one {X} t p (z ∷ xs) x h (inl e) k apart =
    let q = and_parts (list_all (t z) xs) (each_pair t xs) h in
    subst (λ (y : X). filter p (y ∷ xs) ≡ x ∷ []) e
    (ap (λ (b : Bool). cond b (x ∷ filter p xs) (filter p xs)) k ∙ ap (λ (ys : List X). x ∷ ys) (none xs (λ y i. apart y (inl (subst (λ (v : X). t v y ≡ true) (sym e) (all-In (t z) xs q.0 y i))))))
  where
    none : (ys : List X) → ((y : X) → In y ys → p y ≡ false) → filter p ys ≡ []
    none [] f = refl
    none (y ∷ ys) f = ap (λ (b : Bool). cond b (y ∷ filter p ys) (filter p ys)) (f y (inl refl)) ∙ none ys (λ v i. f v (inr i))
filter_one {X} t p (z ∷ xs) x h (inr i) k apart =
    let q = and_parts (list_all (t z) xs) (each_pair t xs) h in
    ap (λ (b : Bool). cond b (z ∷ filter p xs) (filter p xs)) (apart z (inr (all-In (t z) xs q.0 x i))) ∙ filter_one t p xs x q.1 i k apart

-- an entry that no earlier one stands with is the first of its field
first_of_field : (t : Entry → Entry → Bool) (before entries : List Entry) (f : Entry) → each_pair t entries ≡ true → In f entries
    → ((g : Entry) → (t f g ≡ true) ⊎ (t g f ≡ true) → is_at f g ≡ false) → ((g : Entry) → In g before → is_at f g ≡ false) → In f (fields_among before entries)
first_of_field t before [] f h i apart early = absurd i
first_of_field t before (g ∷ entries) f h i apart early =
    let q = and_parts (list_all (t g) entries) (each_pair t entries) h in
    go (list_any (is_at g) before) refl i (λ k. first_of_field t before entries f q.1 k apart early)
    (λ k. first_of_field t (g ∷ before) entries f q.1 k apart (more (all-In (t g) entries q.0 f k)))
  where
    more : t g f ≡ true → (y : Entry) → In y (g ∷ before) → is_at f y ≡ false
    more s y (inl e) = subst (λ (v : Entry). is_at f v ≡ false) (sym e) (apart g (inr s))
    more s y (inr k) = early y k

    go : (b : Bool) → list_any (is_at g) before ≡ b → In f (g ∷ entries) → (In f entries → In f (fields_among before entries)) → (In f entries → In f (fields_among (g ∷ before) entries))
        → In f (elim b as (λ _. List Entry) [ true ↦ fields_among before entries | false ↦ g ∷ fields_among (g ∷ before) entries ])
    go true e (inl same) a b = absurd (true≢false (sym e ∙ In-none (is_at g) before (λ y k. subst (λ (v : Entry). is_at v y ≡ false) same (early y k))))
    go true e (inr k) a b = a k
    go false e (inl same) a b = inl same
    go false e (inr k) a b = inr (b k)

-- two fields of which one has bytes and doesn't stack are at different places
no_sharing : (f g : Entry) → is_stacking f.kind ≡ false → (may_share f g ≡ true) ⊎ (may_share g f ≡ true) → is_at f g ≡ false
no_sharing f g s h = go (is_at f g) refl h
  where
    wide_f : 0 < width_of f.kind
    wide_f = wide f.kind

    wide_g : 0 < width_of g.kind
    wide_g = wide g.kind

    last_false : (a b c d : Bool) → a ≡ false → b ≡ false → c ≡ false → (a || b || c || d && false) ≡ true → ⊥
    last_false a b c true h k l e = absurd (true≢false (sym e ∙ rw (h, k, l) refl))
    last_false a b c false h k l e = absurd (true≢false (sym e ∙ rw (h, k, l) refl))

    last_false_first : (a b c d e : Bool) → a ≡ false → b ≡ false → c ≡ false → (a || b || c || d && false && e) ≡ true → ⊥
    last_false_first a b c true e h k l m = absurd (true≢false (sym m ∙ rw (h, k, l) refl))
    last_false_first a b c false e h k l m = absurd (true≢false (sym m ∙ rw (h, k, l) refl))

    go : (b : Bool) → is_at f g ≡ b → (may_share f g ≡ true) ⊎ (may_share g f ≡ true) → b ≡ false
    go false e h = refl
    go true e (inl m) =
        let k = and_parts (g.section == f.section) (g.offset == f.offset) e in
        let o = eqb-true g.offset f.offset k.1 in
        let a : not (f.section == g.section) ≡ false = ap not (eq-eqb f.section g.section (sym (eqb-true g.section f.section k.0))) in
        let b : nat_le (f.offset + width_of f.kind) g.offset ≡ false = let w = wide_f in grind (arith, nat_tests) in
        let c : nat_le (g.offset + width_of g.kind) f.offset ≡ false = let w = wide_g in grind (arith, nat_tests) in
        absurd (last_false_first (not (f.section == g.section)) (nat_le (f.offset + width_of f.kind) g.offset) (nat_le (g.offset + width_of g.kind) f.offset) ((f.offset == g.offset) && (width_of f.kind == width_of g.kind)) (is_stacking g.kind) a b c
        (subst (λ (x : Bool). (not (f.section == g.section) || nat_le (f.offset + width_of f.kind) g.offset || nat_le (g.offset + width_of g.kind) f.offset || (f.offset == g.offset) && (width_of f.kind == width_of g.kind) && x && is_stacking g.kind) ≡ true) s m))
    go true e (inr m) =
        let k = and_parts (g.section == f.section) (g.offset == f.offset) e in
        let o = eqb-true g.offset f.offset k.1 in
        let a : not (g.section == f.section) ≡ false = ap not k.0 in
        let b : nat_le (g.offset + width_of g.kind) f.offset ≡ false = let w = wide_g in grind (arith, nat_tests) in
        let c : nat_le (f.offset + width_of f.kind) g.offset ≡ false = let w = wide_f in grind (arith, nat_tests) in
        absurd (last_false (not (g.section == f.section)) (nat_le (g.offset + width_of g.kind) f.offset) (nat_le (f.offset + width_of f.kind) g.offset) ((g.offset == f.offset) && (width_of g.kind == width_of f.kind) && is_stacking g.kind) a b c
        (subst (λ (x : Bool). (not (g.section == f.section) || nat_le (g.offset + width_of g.kind) f.offset || nat_le (f.offset + width_of f.kind) g.offset || (g.offset == f.offset) && (width_of g.kind == width_of f.kind) && is_stacking g.kind && x) ≡ true) s m))

module _ (w : World) (c : Cell) (sound : IsSoundObject c.object) (f : Entry) (i : In f c.object.entries) (alone : is_stacking f.kind ≡ false) where
  abbrev pub named : Entry → Target
  named e = unwrap_or (target_of w c e) (Number 0)

  at_itself : is_at f f ≡ true
  at_itself = and_from (f.section == f.section) (f.offset == f.offset) (eq-eqb f.section f.section refl) (eq-eqb f.offset f.offset refl)

  pub is_field : In f (fields_of c.object)
  is_field = first_of_field may_share [] c.object.entries f sound.apart i (λ g h. no_sharing f g alone h) (λ g k. absurd k)

  only_bound : filter (λ b. is_at f b.entry) (bound_entries w c) ≡ record { entry = f; target = named f } ∷ []
  only_bound =
      ap (filter (λ b. is_at f b.entry)) (bound_map named c.object.entries)
      ∙ (sym (map_filter (bind named) (λ b. is_at f b.entry) c.object.entries)
      ∙ ap (map (bind named)) (filter_one may_share (is_at f) c.object.entries f sound.apart i at_itself (λ g h. no_sharing f g alone h)))

  pub field_is : field_value_of c.placed (bound_entries w c) f
      ≡ inserted f.kind (own_number c.object f) (number_of c.placed (bound_entries w c) (record { entry = f; target = named f }) (own_number c.object f))
  field_is =
      ap (λ (bs : List Bound). fold (λ v b. inserted b.entry.kind v (number_of c.placed (bound_entries w c) b v)) (own_number c.object f) bs) only_bound

  pub bound_there : In (record { entry = f; target = named f }) (bound_entries w c)
  bound_there =
      In-filtered (λ (b : Bound). is_at f b.entry) (bound_entries w c) (record { entry = f; target = named f })
      (subst (λ (bs : List Bound). In (record { entry = f; target = named f }) bs) (sym only_bound) (inl refl))
