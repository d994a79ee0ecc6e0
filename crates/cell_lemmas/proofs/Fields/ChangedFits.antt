-- Where cells have come and others have changed, each entry of the cells that were there fits, if those at fields that change do.
use Rattle.std.proofs.Common.{◌≡◌, refl, sym, ◌∙◌, ap, subst, inl, inr, Bool, true, false, cond, not, ◌&&◌, List, [], ◌∷◌, map, true≢false, Some, None}
use Rattle.std.specs.Prelude.{find, is_none, ◌==◌}
use Rattle.std.proofs.lemmas.Bool.{and_from, eq-eqb}
use Rattle.cell_num.specs.Lists.{In}
use Rattle.cell_object.specs.declared.object.Entry.{Entry}
use Rattle.cell_world.specs.World.{World, Cell}
use Rattle.cell_world.specs.Linked.Field.{Bound, is_at, fits, misfit_of}
use Rattle.cell_world.specs.Linked.Relink.{bound_entries}
use Rattle.cell_world.specs.Linked.Fit.{overflow_at}
use Rattle.cell_world.specs.Changed.{now_in, differs, is_changed, changed_misfit, first_changed_misfit}
use Rattle.cell_world.specs.Coherent.{IsReady, is_fitting}
use Rattle.cell_lemmas.specs.Linkable.{IsLinkable}
use Rattle.cell_lemmas.specs.Grown.{IsRegrown}
use Rattle.cell_num.proofs.Elements.{all-In, In-map, map-In, none-In, unfound-In, none_is, or_else_parts}
use Rattle.cell_lemmas.proofs.Naming.Appended.{unmapped}
use Rattle.cell_lemmas.proofs.Fields.Values.{bind}
use Rattle.cell_lemmas.proofs.Fields.Unchanged.{named_in, bound_is, bound_now, fits_same}

pub not_fits : (b : Bool) → not b ≡ false → b ≡ true
not_fits true e = refl
not_fits false e = absurd (true≢false e)

both_false : (a b : Bool) → (a && b) ≡ false → a ≡ true → b ≡ false
both_false true b h k = h
both_false false b h k = absurd (true≢false (sym k))

pub unfound_all : {X : Type 0} (p : X → Bool) (xs : List X) → ((x : X) → In x xs → p x ≡ false) → find p xs ≡ None
unfound_all p [] f = refl
unfound_all p (x ∷ xs) f = ap (λ b. cond b (Some x) (find p xs)) (f x (inl refl)) ∙ unfound_all p xs (λ y i. f y (inr i))

no_changed_misfit : (v w : World) (cells : List Cell) → first_changed_misfit v w cells ≡ None → (c : Cell) → In c cells → changed_misfit v w c ≡ None
no_changed_misfit v w [] e c i = absurd i
no_changed_misfit v w (d ∷ cells) e c (inl q) = subst (λ (x : Cell). changed_misfit v w x ≡ None) (sym q) (or_else_parts _ _ e).0
no_changed_misfit v w (d ∷ cells) e c (inr i) = no_changed_misfit v w cells (or_else_parts _ _ e).1 c i

module _ (v w : World) (new : List Cell) (h : IsReady v) (link : IsLinkable w) (g : IsRegrown v w new) where
  -- an entry that names what it named fits
  pub unchanged_fits : (c : Cell) → In c v.cells → (e : Entry) → In e c.object.entries → differs v w c e ≡ false
      → fits (now_in w c).placed (bound_entries w (now_in w c)) (bind (named_in w (now_in w c)) e) ≡ true
  unchanged_fits c i e j same =
      fits_same v w new h link g c i e same
      ∙ not_fits _ (unfound-In (λ (x : Bound). not (fits c.placed (bound_entries v c) x)) (bound_entries v c)
      (none_is (misfit_of c.placed (bound_entries v c)) (all-In (is_fitting v) v.cells h.fitting c i)) (bind (named_in v c) e)
      (subst (λ (xs : List Bound). In (bind (named_in v c) e) xs) (sym (bound_is v c))
      (map-In (bind (named_in v c)) c.object.entries e j)))

  -- what changes fits, and so does what doesn't
  module _ (fit : first_changed_misfit v w v.cells ≡ None) where
    entry_fits : (c : Cell) → In c v.cells → (e : Entry) → In e c.object.entries
        → fits (now_in w c).placed (bound_entries w (now_in w c)) (bind (named_in w (now_in w c)) e) ≡ true
    entry_fits c i e j = go (is_changed v w c e) refl
      where
        itself : is_at e e ≡ true
        itself = and_from (e.section == e.section) (e.offset == e.offset) (eq-eqb e.section e.section refl) (eq-eqb e.offset e.offset refl)

        go : (a : Bool) → is_changed v w c e ≡ a → fits (now_in w c).placed (bound_entries w (now_in w c)) (bind (named_in w (now_in w c)) e) ≡ true
        go true q = not_fits _ (both_false (is_changed v w c e) _
            (unfound-In (λ (x : Bound). is_changed v w c x.entry && not (fits (now_in w c).placed (bound_entries w (now_in w c)) x)) (bound_entries w (now_in w c))
            (unmapped (overflow_at (now_in w c)) _ (no_changed_misfit v w v.cells fit c i)) (bind (named_in w (now_in w c)) e)
            (subst (λ (xs : List Bound). In (bind (named_in w (now_in w c)) e) xs) (sym (bound_now v w new h link g c i))
            (map-In (bind (named_in w (now_in w c))) c.object.entries e j))) q)
        go false q =
            unchanged_fits c i e j
            (both_false (is_at e e) (differs v w c e) (none-In (λ (x : Entry). is_at e x && differs v w c x) c.object.entries q e j) itself)

    pub cell_fits : (c : Cell) → In c v.cells → is_fitting w (now_in w c) ≡ true
    cell_fits c i = ap is_none (ap (find (λ (x : Bound). not (fits (now_in w c).placed (bound_entries w (now_in w c)) x))) (bound_now v w new h link g c i)
        ∙ unfound_all (λ (x : Bound). not (fits (now_in w c).placed (bound_entries w (now_in w c)) x)) (map (bind (named_in w (now_in w c))) c.object.entries)
        (λ x m. let e = In-map (bind (named_in w (now_in w c))) c.object.entries x m in
        subst (λ (y : Bound). not (fits (now_in w c).placed (bound_entries w (now_in w c)) y) ≡ false) (sym e.2) (ap not (entry_fits c i e.0 e.1))))
