-- Cells that are placed one after another.
use Rattle.std.proofs.Common.{◌≡◌, refl, sym, ◌∙◌, ap, ap₂, subst, arith, ℕ, ◌+◌, ◌≤◌, ◌<◌, inl, drop, get_or, take, Bool, List, [], ◌∷◌, ◌++◌, length, length-append, append_assoc, append-nil, Ok, Err}
use Rattle.std.specs.Prelude.{All}
use Rattle.std.proofs.lemmas.List.{drop_more, map-append, take-append-drop, take_all as take_all_items, take_more}
use Rattle.std.proofs.lemmas.List.Elements.{All-append, All-cons, All-nil}
use Rattle.cell_object.specs.declared.object.Object.{Object}
use Rattle.cell_object.specs.Sound.{IsSoundObject}
use Rattle.cell_world.specs.declared.refusal.Refusal.{Refusal}
use Rattle.cell_world.specs.declared.refusal.Refusal.TheVariants.{Exhausted}
use Rattle.cell_world.specs.declared.state.NewCell.{NewCell}
use Rattle.cell_world.specs.declared.state.SecPlace.{SecPlace}
use Rattle.cell_world.specs.World.{Region}
use Rattle.cell_world.specs.Outcome.{Outcome, ◌>>=◌}
use Rattle.cell_world.specs.declared.layout.Starts.{Starts}
use Rattle.cell_world.specs.Placed.Layout.{places_in}
use Rattle.cell_num.specs.Lists.{In}
use Rattle.cell_num.proofs.Elements.{All-In, In-right}
use Rattle.cell_lemmas.specs.Loads.{AllTaken, ManyTaken, take_runs, take_all, all_regions, regions_at}
use Rattle.cell_lemmas.proofs.Binds.{bind_err}
use Rattle.cell_lemmas.proofs.Placement.Placing.{all_append}
use Rattle.cell_place.specs.Space.{SpaceState}
use Rattle.cell_layout.specs.declared.placements.Placements.{Placements}
use Rattle.cell_layout.specs.declared.placement.Placement.{Placement}
use Rattle.cell_layout.specs.declared.placement.PlaceFail.{PlaceFail}
use Rattle.cell_layout.specs.declared.placement.PlaceFail.TheVariants.{NoRoom, OutOfMemory}
use Rattle.cell_layout.specs.Many.{AreFound, FindsAll, all_places, objects}
use Rattle.cell_layout.specs.Placing.{IsPlacement, Places}

abbrev Few : NewCell → Type 0
Few c = length c.object.sections ≤ 65536

pub placed_none : (s : SpaceState) (p : Placements) → p.places.items ≡ [] → p.regions.items ≡ [] → AreFound s [] p s
placed_none s p places regions = record { starts = []; each = refl; runs = refl; base = refl; few = All-nil Few; places = places; regions = regions }

places_more : (starts : List Starts) (cells : List NewCell) (s : Starts) (c : NewCell) → length starts ≡ length cells → all_places (starts ++ s ∷ []) (cells ++ c ∷ []) ≡ all_places starts cells ++ places_in s c.object ∷ []
places_more [] [] s c e = refl
places_more [] (d ∷ cells) s c e = absurd (omega (arith, e))
places_more (t ∷ starts) [] s c e = absurd (omega (arith, e))
places_more (t ∷ starts) (d ∷ cells) s c e = ap (λ (ps : List (List SecPlace)). places_in t d.object ∷ ps) (places_more starts cells s c (omega (arith, e)))

regions_more : (starts : List Starts) (cells : List NewCell) (s : Starts) (c : NewCell) → length starts ≡ length cells → all_regions (starts ++ s ∷ []) (objects (cells ++ c ∷ [])) ≡ all_regions starts (objects cells) ++ regions_at s c.object
regions_more [] [] s c e = append-nil (regions_at s c.object)
regions_more [] (d ∷ cells) s c e = absurd (omega (arith, e))
regions_more (t ∷ starts) [] s c e = absurd (omega (arith, e))
regions_more (t ∷ starts) (d ∷ cells) s c e =
    ap (λ (rs : List Region). regions_at t d.object ++ rs) (regions_more starts cells s c (omega (arith, e)))
    ∙ sym (append_assoc (regions_at t d.object) (all_regions starts (objects cells)) (regions_at s c.object))

-- the runs of one more
one_run : (base : ℕ) (table : List Bool) (o : Object) (t : AllTaken) → take_runs base table o ≡ Ok t → take_all base table (o ∷ []) ≡ Ok (record { starts = t.starts ∷ []; table = t.table })
one_run base table o t e = ap (λ r. r >>= (λ t. Ok (record { starts = t.starts ∷ []; table = t.table }))) e

module _ (old now : SpaceState) (done : List NewCell) (p : Placements) (k : AreFound old done p now) (c : NewCell) where
  abbrev so_far : ManyTaken
  so_far = record { starts = k.starts; table = now.taken }

  abbrev with_more : List Object → ManyTaken → Outcome ManyTaken
  with_more rest m = take_all old.base m.table rest >>= (λ k. Ok (record { starts = m.starts ++ k.starts; table = k.table }))

  behind : (rest : List NewCell) → take_all old.base old.taken (objects (done ++ rest)) ≡ with_more (objects rest) so_far
  behind rest =
      ap (take_all old.base old.taken) (map-append (λ (c : NewCell). c.object) done rest)
      ∙ (all_append old.base old.taken (objects done) (objects rest)
      ∙ ap (λ o. o >>= with_more (objects rest)) k.runs)

  -- one more cell has its places
  pub placed_more : (placement : Placement) (new : SpaceState) (q : Placements) → IsPlacement now c.object placement new
      → q.places.items ≡ p.places.items ++ placement.places ∷ [] → q.regions.items ≡ p.regions.items ++ placement.regions.items
      → AreFound old (done ++ c ∷ []) q new
  placed_more placement new q is places regions =
      let runs : take_runs old.base now.taken c.object ≡ Ok (record { starts = is.starts; table = new.taken }) = subst (λ b. take_runs b now.taken c.object ≡ Ok (record { starts = is.starts; table = new.taken })) k.base is.runs in
      record {
        starts = k.starts ++ is.starts ∷ [];
        each = let e = k.each in omega (arith, e, length-append k.starts (is.starts ∷ []), length-append done (c ∷ []));
        runs = behind (c ∷ []) ∙ ap (λ o. o >>= (λ m. Ok (record { starts = k.starts ++ m.starts; table = m.table }))) (one_run old.base now.taken c.object (record { starts = is.starts; table = new.taken }) runs);
        base = is.base ∙ k.base;
        few = All-append Few done (c ∷ []) k.few (All-cons Few c [] is.few (All-nil Few));
        places = places ∙ (ap₂ (λ (xs : List (List SecPlace)) (x : List SecPlace). xs ++ x ∷ []) k.places is.places ∙ sym (places_more k.starts done is.starts c k.each));
        regions = regions ∙ (ap₂ (λ (xs ys : List Region). xs ++ ys) k.regions is.regions ∙ sym (regions_more k.starts done is.starts c k.each));
      }

  -- the next cell has no room
  pub place_stops : (rest : List NewCell) (r : Refusal) → take_runs now.base now.taken c.object ≡ Err r → take_all old.base old.taken (objects (done ++ c ∷ rest)) ≡ Err r
  place_stops rest r e =
      behind (c ∷ rest)
      ∙ bind_err (take_all old.base now.taken (objects (c ∷ rest))) _ r
      (bind_err (take_runs old.base now.taken c.object) _ r (subst (λ b. take_runs b now.taken c.object ≡ Err r) k.base e))

module _ (old now : SpaceState) (from : List NewCell) (i : ℕ) (c : NewCell) (p : Placements) (lt : i < length from) (is : c ≡ get_or from i c) (way : AreFound old (take i from) p now) where
  here : take i from ++ c ∷ drop (i + 1) from ≡ from
  here = ap (λ (x : NewCell). take i from ++ x ∷ drop (i + 1) from) is ∙ (ap (λ (cs : List NewCell). take i from ++ cs) (sym (drop_more from i c lt)) ∙ take-append-drop i from)

  pub sound_here : All (λ (c : NewCell). IsSoundObject c.object) from → IsSoundObject c.object
  sound_here all = All-In (λ (c : NewCell). IsSoundObject c.object) from all c (subst (In c) here (In-right (take i from) (c ∷ drop (i + 1) from) c (inl refl)))

  pub one_further : (placement : Placement) (new : SpaceState) (q : Placements) → IsPlacement now c.object placement new
      → q.places.items ≡ p.places.items ++ placement.places ∷ [] → q.regions.items ≡ p.regions.items ++ placement.regions.items
      → AreFound old (take (i + 1) from) q new
  one_further placement new q found places regions =
      subst (λ (cs : List NewCell). AreFound old cs q new) (ap (λ (x : NewCell). take i from ++ x ∷ []) is ∙ sym (take_more from i c lt))
      (placed_more old now (take i from) p way c placement new q found places regions)

  pub stops_here : (e : PlaceFail) (new last : SpaceState) → Places now c.object (Err e) new → FindsAll old from (Err e) last
  stops_here (NoRoom none) new last full =
      ap (λ (cs : List NewCell). take_all old.base old.taken (objects cs)) (sym here)
      ∙ place_stops old now (take i from) p way c (drop (i + 1) from) (Exhausted none.wanted none.largest) full
  stops_here OutOfMemory new last full = tt

pub all_placed : (old now : SpaceState) (from : List NewCell) (i : ℕ) (p : Placements) → length from ≤ i → AreFound old (take i from) p now → AreFound old from p now
all_placed old now from i p past way = subst (λ (cs : List NewCell). AreFound old cs p now) (take_all_items i from past) way
