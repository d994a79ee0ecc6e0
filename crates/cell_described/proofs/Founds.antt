-- Cells with their objects, one after another.
use Rattle.std.proofs.Common.{◌≡◌, ◌<◌, length, ℕ, ◌⊎◌, inl, inr, Bool, cond, List, [], ◌∷◌, ◌++◌, map, Option, Some, None, Err, refl, sym, ap, subst, ◌∙◌, append_assoc, arith}
use Rattle.std.specs.Prelude.{All, find, is_none, option_map}
use Rattle.std.specs.Option.{option_or}
use Rattle.std.proofs.lemmas.List.{append-nil, map_push}
use Rattle.std.proofs.lemmas.List.Elements.{All-nil, All-push, All-weaker}
use Rattle.std.proofs.lemmas.List.Folds.{find-append}
use Rattle.cell_num.specs.Lists.{In}
use Rattle.cell_num.proofs.Elements.{All-In, In-append, In-left, In-map, In-right}
use Rattle.cell_num.proofs.Ranges.{In-one, none_found-In}
use Rattle.cell_object.specs.declared.object.Object.{Object}
use Rattle.cell_world.specs.Gather.{Source}
use Rattle.cell_audit.specs.Described.{object_of}
use Rattle.cell_audit.specs.declared.written.WrittenCell.{WrittenCell}
use Rattle.cell_described.specs.declared.fail.DescribeFail.{DescribeFail}
use Rattle.cell_described.specs.declared.fail.DescribeFail.TheVariants.{NoObject, Misplaced, OutOfMemory}
use Rattle.cell_described.specs.declared.finding.FoundCell.{FoundCell}
use Rattle.cell_described.specs.declared.objects.Objects.{Objects}
use Rattle.cell_described.specs.Finding.{AreFound, Finds, FindsOne, IsFound, is_lacking, lacking_line}
use Rattle.cell_described.specs.Objects.{AreKept, HasObject, place_named}
use Rattle.cell_described.proofs.Kept.{get_below, held_more}

module _ (sources : List Source) where
  abbrev Held : List Object → List FoundCell → Type 0
  Held objects found = All (λ f. HasObject sources f.cell.file objects f.object) found

  -- the cells so far have their objects, which are kept by the names of their files, and no other object is there
  pub record IsFinding (o : Objects) (found : List FoundCell) : Type 0 where
    pub held : Held o.items.items found
    pub kept : AreKept sources o
    pub named : (f : FoundCell) → In f found → place_named o f.cell.file ≡ Some f.object
    pub used : (place : ℕ) → place < length o.items.items → (f : FoundCell) × In f found × (f.object ≡ place)

  pub none_yet : (o : Objects) (found : List FoundCell) → found ≡ [] → o.items.items ≡ [] → AreKept sources o → IsFinding o found
  none_yet o found none empty k =
      subst (IsFinding o) (sym none)
      (record {
        held = All-nil (λ (f : FoundCell). HasObject sources f.cell.file o.items.items f.object);
        kept = k;
        named = λ f i. absurd i;
        used = λ place lt. let n : length o.items.items ≡ 0 = ap length empty in absurd (omega (arith, lt, n));
      })

  -- one more cell has its object
  module _ (old new : Objects) (found : List FoundCell) (cell : WrittenCell) (f : FoundCell) (h : IsFinding old found) (a : IsFound sources cell old new f) where
    object_here : HasObject sources f.cell.file new.items.items f.object
    object_here = subst (λ (c : WrittenCell). HasObject sources c.file new.items.items f.object) (sym a.cell_is) a.sought.found

    held_more_cells : Held new.items.items (found ++ f ∷ [])
    held_more_cells =
        All-push (λ (g : FoundCell). HasObject sources g.cell.file new.items.items g.object) found f
        (All-weaker (λ (g : FoundCell). HasObject sources g.cell.file old.items.items g.object) (λ (g : FoundCell). HasObject sources g.cell.file new.items.items g.object)
        (λ g k. held_more sources g.cell.file old.items.items new.items.items g.object a.sought.grows.more k) found h.held)
        object_here

    named_more : (g : FoundCell) → In g found ⊎ In g (f ∷ []) → place_named new g.cell.file ≡ Some g.object
    named_more g (inl i) = a.sought.grows.stay g.cell.file g.object (h.named g i)
    named_more g (inr i) =
        let same = In-one g f i in
        ap (λ (x : FoundCell). place_named new x.cell.file) same
        ∙ ap (λ (c : WrittenCell). place_named new c.file) a.cell_is
        ∙ a.sought.grows.named f.object refl
        ∙ ap (λ (x : FoundCell). Some x.object) (sym same)

    used_more : (place : ℕ) → (place < length old.items.items) ⊎ (Some f.object ≡ Some place) → (g : FoundCell) × In g (found ++ f ∷ []) × (g.object ≡ place)
    used_more place (inl lt) = let u = h.used place lt in (u.0, In-left found (f ∷ []) u.0 u.1, u.2)
    used_more place (inr e) = (f, In-right found (f ∷ []) f (inl refl), cc)

    pub one_more : (all : List FoundCell) → all ≡ found ++ f ∷ [] → IsFinding new all
    one_more all is =
        subst (IsFinding new) (sym is)
        (record {
          held = held_more_cells;
          kept = a.sought.kept;
          named = λ g i. named_more g (In-append found (f ∷ []) g i);
          used = λ place lt. used_more place (a.sought.grows.only place lt);
        })

    pub rest_same : (all : List FoundCell) → all ≡ found ++ f ∷ [] → (rest cells : List WrittenCell) → map (λ f. f.cell) found ++ cell ∷ rest ≡ cells → map (λ f. f.cell) all ++ rest ≡ cells
    rest_same all is rest cells so_far =
        ap (λ (fs : List FoundCell). map (λ f. f.cell) fs ++ rest) is
        ∙ ap (λ (cs : List WrittenCell). cs ++ rest) (map_push (λ (f : FoundCell). f.cell) found f)
        ∙ append_assoc (map (λ f. f.cell) found) (f.cell ∷ []) rest
        ∙ ap (λ (c : WrittenCell). map (λ f. f.cell) found ++ c ∷ rest) a.cell_is
        ∙ so_far

  -- all have theirs
  pub finished : (o : Objects) (found : List FoundCell) (rest cells : List WrittenCell) → IsFinding o found → map (λ f. f.cell) found ++ rest ≡ cells → rest ≡ [] → AreFound sources cells o.items.items found
  finished o found rest cells h so_far none =
      record {
        cells_are = sym (append-nil (map (λ f. f.cell) found)) ∙ ap (λ (cs : List WrittenCell). map (λ f. f.cell) found ++ cs) (sym none) ∙ so_far;
        held = h.held;
        loadable = h.kept.loadable;
        shared = λ f g i j same. one_place f.object g.object (sym (h.named f i) ∙ ap (place_named o) same ∙ h.named g j);
        used = h.used;
      }
    where
      one_place : (a b : ℕ) → Some a ≡ Some b → a ≡ b
      one_place a b e = cc

  -- and their objects are among all
  pub all_there : (objects : List Object) (found : List FoundCell) → Held objects found → All (λ f. f.object < length objects) found
  all_there objects found h =
      All-weaker (λ (f : FoundCell). HasObject sources f.cell.file objects f.object) (λ (f : FoundCell). f.object < length objects) (λ f k. get_below objects f.object k.object k.at) found h

  none_lacks : (objects : List Object) (found : List FoundCell) → Held objects found → find (is_lacking sources) (map (λ f. f.cell) found) ≡ None
  none_lacks objects found h =
      none_found-In (is_lacking sources) (map (λ f. f.cell) found)
      (λ c i. let from = In-map (λ (f : FoundCell). f.cell) found c i in
      ap (is_lacking sources) from.2 ∙ ap is_none (All-In (λ (f : FoundCell). HasObject sources f.cell.file objects f.object) found h from.0 from.1).is)

  -- no cell lacks an object
  pub all_found : (cells : List WrittenCell) (objects : List Object) (found : List FoundCell) → AreFound sources cells objects found → lacking_line sources cells ≡ None
  all_found cells objects found a =
      ap (lacking_line sources) (sym a.cells_are) ∙ ap (option_map (λ (c : WrittenCell). c.line)) (none_lacks objects found a.held)

  module _ (cells : List WrittenCell) (o : Objects) (found : List FoundCell) (cell : WrittenCell) (rest : List WrittenCell)
      (so_far : map (λ f. f.cell) found ++ cell ∷ rest ≡ cells) (h : IsFinding o found) where
    lacking_here : object_of sources cell.file ≡ None → lacking_line sources cells ≡ Some cell.line
    lacking_here none =
        ap (lacking_line sources) (sym so_far)
        ∙ ap (option_map (λ (c : WrittenCell). c.line))
        (find-append (is_lacking sources) (map (λ f. f.cell) found) (cell ∷ rest)
        ∙ ap (λ (x : Option WrittenCell). option_or x (find (is_lacking sources) (cell ∷ rest))) (none_lacks o.items.items found h.held)
        ∙ ap (λ (b : Bool). cond b (Some cell) (find (is_lacking sources) rest)) (ap is_none none))

    -- the cell has no object, and those before it have theirs
    pub stops_here : (new : Objects) (fail : DescribeFail) → FindsOne sources cell o new (Err fail) → Finds sources cells (Err fail)
    stops_here new (NoObject line) h = lacking_here h.0 ∙ ap (λ (n : ℕ). Some n) (sym h.1)
    stops_here new (Misplaced line) h = h
    stops_here new OutOfMemory h = tt
