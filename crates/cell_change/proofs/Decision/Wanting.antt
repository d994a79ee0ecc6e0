-- What a change gathers is what gathering its wants gives.
use Rattle.std.proofs.Common.{◌≡◌, ◌<◌, refl, sym, ◌∙◌, ap, ap₂, subst, ℕ, suc, inl, inr, Bool, true, false, cond, List, [], ◌∷◌, ◌++◌, length, Option, Some, None}
use Rattle.std.specs.Prelude.{Err, IsTrue, Ok, filter_map, fold, option_and_then, option_map}
use Rattle.std.specs.List.{cons_option}
use Rattle.std.specs.Option.{ForSome}
use Rattle.cell_num.specs.Lists.{In, equals}
use Rattle.cell_num.specs.declared.ids.CellId.{CellId}
use Rattle.cell_world.specs.declared.refusal.Refusal.TheVariants.{Unknown}
use Rattle.cell_world.specs.Change.{Change as ChangeSaid, Copy, Want as Wanted, append_copy, append_want, exchange_at, exchanges_from, gather as gather_said, old_of, replaced, set_aside, with_names}
use Rattle.cell_world.specs.Coherent.{AreSound, IsCoherent}
use Rattle.cell_world.specs.Gather.{Source, append_cell, bring, file_named}
use Rattle.cell_world.specs.Names.{names_of}
use Rattle.cell_world.specs.Outcome.{Outcome, ◌>>=◌, each, found}
use Rattle.cell_world.specs.Reexport.{Exchange, take_on, with_reexports}
use Rattle.cell_world.specs.World.{Alias, Cell, World, cell_of, is_attached}
use Rattle.cell_num.proofs.Elements.{In-All, found-In, map-In}
use Rattle.cell_lemmas.proofs.Targeting.Present.{In-filter_map}
use Rattle.cell_lemmas.proofs.Targeting.Targets.{In-find}
use Rattle.cell_gather.specs.declared.want.Want.{Want}
use Rattle.cell_gather.specs.Gathering.{append_wanted, exchange_of, exchanges_from as exchanges_by, gather, renamed as renamed_by}
use Rattle.cell_lemmas.proofs.Targeting.Detached.{put, put_same}
use Rattle.cell_change_law.specs.Sound.{IsSound}
use Rattle.cell_change_law.proofs.Gathering.{at, base_world}
use Rattle.cell_change.specs.declared.request.Change.{Change}
use Rattle.cell_change.specs.declared.request.Options.{Options}
use Rattle.cell_change.specs.Asking.{AreWantsOf, IsAsked, IsWantOf, as_said}

-- exchanges whose old cells have the same names
abbrev HaveSame : List Exchange → List Exchange → Type 0
HaveSame [] [] = Unit {0}
HaveSame [] (y ∷ ys) = ⊥
HaveSame (x ∷ xs) [] = ⊥
HaveSame (x ∷ xs) (y ∷ ys) = ((names_of x.old ≡ names_of y.old) × (x.fresh ≡ y.fresh)) × HaveSame xs ys

same_names : (xs ys : List Exchange) → HaveSame xs ys → (w : World) → with_reexports w xs ≡ with_reexports w ys
same_names [] [] h w = refl
same_names [] (y ∷ ys) h w = absurd h
same_names (x ∷ xs) [] h w = absurd h
same_names (x ∷ xs) (y ∷ ys) h w =
    ap₂ (λ (names : List Alias) (n : ℕ). with_reexports (fold (take_on n) w names) xs) h.0.0 h.0.1 ∙ same_names xs ys h.1 (fold (take_on y.fresh) w (names_of y.old))

-- of each want there is one of the definition, and the other way round
pub one_wanted : (sources : List Source) (v : World) (all : List Wanted) (wants : List Want) → AreWantsOf sources v all wants → (want : Want) → In want wants → (wanted : Wanted) × In wanted all × IsWantOf sources v wanted want
one_wanted sources v [] [] are want i = absurd i
one_wanted sources v [] (x ∷ wants) are want i = absurd are
one_wanted sources v (y ∷ all) [] are want i = absurd i
one_wanted sources v (y ∷ all) (x ∷ wants) are want (inl e) = (y, inl refl, subst (IsWantOf sources v y) (sym e) are.0)
one_wanted sources v (y ∷ all) (x ∷ wants) are want (inr i) = let r = one_wanted sources v all wants are.1 want i in (r.0, inr r.1, r.2)

pub one_want : (sources : List Source) (v : World) (all : List Wanted) (wants : List Want) → AreWantsOf sources v all wants → (wanted : Wanted) → In wanted all → (want : Want) × IsWantOf sources v wanted want
one_want sources v [] [] are wanted i = absurd i
one_want sources v [] (x ∷ wants) are wanted i = absurd i
one_want sources v (y ∷ all) [] are wanted i = absurd are
one_want sources v (y ∷ all) (x ∷ wants) are wanted (inl e) = (x, subst (λ (w : Wanted). IsWantOf sources v w x) (sym e) are.0)
one_want sources v (y ∷ all) (x ∷ wants) are wanted (inr i) = one_want sources v all wants are.1 wanted i

file_In : (sources : List Source) (name : List ℕ) (f : Source) → file_named sources name ≡ Some f → In f sources
file_In sources name f e = (found-In (λ (x : Source). equals x.name name) sources f e).0

-- a want that replaces a cell
old_In : (wants : List Wanted) (c : Cell) → In c (filter_map (λ (want : Wanted). want.replaces) wants) → (want : Wanted) × In want wants × (want.replaces ≡ Some c)
old_In wants c i = In-filter_map (λ (want : Wanted). want.replaces) wants c i

-- what is asked for is there
module _ (sources : List Source) (v : World) (change : Change) (a : IsAsked sources v change) where
  of_each : (wanted : Wanted) → In wanted a.wants → (want : Want) × IsWantOf sources v wanted want
  of_each = one_want sources v a.wants change.wants.items a.are

  pub asked_sound : IsSound sources v (as_said change.options a.wants a.copies)
  asked_sound = record {
    files = In-All (λ (want : Wanted). In want.file sources) a.wants (λ want i. let x = of_each want i in file_In sources x.0.file want.file x.1.file);
    spaces = In-All (λ (want : Wanted). want.ns < length v.namespaces) a.wants (λ want i. (of_each want i).1.there);
    present = In-All (λ (old : Cell). In old v.cells) (replaced (as_said change.options a.wants a.copies)) (λ old i. let x = old_In a.wants old i in (of_each x.0 x.1).1.present old x.2);
    attached = In-All (λ (old : Cell). IsTrue (is_attached old.standing)) (replaced (as_said change.options a.wants a.copies)) (λ old i. let x = old_In a.wants old i in (of_each x.0 x.1).1.attached old x.2);
    originals = a.originals;
    copied = a.copied;
  }

module _ (sources : List Source) (sound : AreSound sources) (v : World) (h : IsCoherent v) (o : Options) (wants : List Wanted) (copies : List Copy) (good : IsSound sources v (as_said o wants copies)) where
  abbrev wish : ChangeSaid
  wish = as_said o wants copies

  abbrev old : List ℕ
  old = old_of wish

  abbrev u : World
  u = base_world sources sound v h wish good

  module _ (wanted : Wanted) (want : Want) (is : IsWantOf sources v wanted want) where
    one_appended : (w : World) → append_wanted sources w want ≡ append_want w wanted
    one_appended w =
        ap (λ (o : Option Source). found o (Unknown want.file) >>= (λ f. append_cell w f want.ns)) is.file
        ∙ ap (append_cell w wanted.file) is.ns

    -- a replaced cell, as it stands aside
    aside : (c : Cell) → In c v.cells → cell_of u c.id.0 ≡ Some (put (suc v.swaps) old c)
    aside c i =
        ap (cell_of u) (sym (put_same (suc v.swaps) old (λ (x : Cell). x.id.0) c refl))
        ∙ In-find u.cells (at sources sound v h wish good).ranks.order (put (suc v.swaps) old c) (map-In (put (suc v.swaps) old) v.cells c i)

    abbrev exchange_by : ℕ → Option CellId → Option Exchange
    exchange_by number o = option_map (λ (c : Cell). record { old = c; fresh = number }) (option_and_then (λ (id : CellId). cell_of u id.0) o)

    one_exchange : (number : ℕ) (more : List Exchange) (rest : List Exchange) → HaveSame more rest → HaveSame (cons_option (exchange_of u number want) more) (exchange_at number wanted.replaces ++ rest)
    one_exchange number more rest same =
        subst (λ (x : Option CellId). HaveSame (cons_option (exchange_by number x) more) (exchange_at number wanted.replaces ++ rest)) (sym is.replaces) (go wanted.replaces is.present)
      where
        go : (x : Option Cell) → ForSome x (λ c. In c v.cells) → HaveSame (cons_option (exchange_by number (option_map (λ (c : Cell). c.id) x)) more) (exchange_at number x ++ rest)
        go None there = same
        go (Some c) there =
            subst (λ (y : Option Cell). HaveSame (cons_option (option_map (λ (d : Cell). let e : Exchange = record { old = d; fresh = number } in e) y) more) (record { old = c; fresh = number } ∷ rest)) (sym (aside c (there c refl)))
            ((put_same (suc v.swaps) old names_of c refl, refl), same)

  all_appended : (all : List Wanted) (list : List Want) → AreWantsOf sources v all list → (w : World) → each (append_wanted sources) w list ≡ each append_want w all
  all_appended [] [] are w = refl
  all_appended [] (x ∷ list) are w = absurd are
  all_appended (x ∷ all) [] are w = absurd are
  all_appended (x ∷ all) (y ∷ list) are w = ap (λ (o : Outcome World). o >>= (λ w. each (append_wanted sources) w list)) (one_appended x y are.0 w) ∙ go (append_want w x) (all_appended all list are.1)
    where
      go : (o : Outcome World) → ((w : World) → each (append_wanted sources) w list ≡ each append_want w all) → (o >>= (λ w. each (append_wanted sources) w list)) ≡ (o >>= (λ w. each append_want w all))
      go (Ok w) more = more w
      go (Err r) more = refl

  all_exchanges : (all : List Wanted) (list : List Want) → AreWantsOf sources v all list → (number : ℕ) → HaveSame (exchanges_by u number list) (exchanges_from number all)
  all_exchanges [] [] are number = tt
  all_exchanges [] (x ∷ list) are number = absurd are
  all_exchanges (x ∷ all) [] are number = absurd are
  all_exchanges (x ∷ all) (y ∷ list) are number =
      one_exchange x y are.0 number (exchanges_by u (suc number) list) (exchanges_from (suc number) all) (all_exchanges all list are.1 (suc number))

  module _ (list : List Want) (are : AreWantsOf sources v wants list) where
    renamed_so : (w : World) → renamed_by u list o.reexport w ≡ with_names v.next_cell wish w
    renamed_so w = go o.reexport
      where
        go : (b : Bool) → renamed_by u list b w ≡ cond b (with_reexports w (exchanges_from v.next_cell wants)) w
        go true = same_names (exchanges_by u v.next_cell list) (exchanges_from v.next_cell wants) (all_exchanges wants list are v.next_cell) w
        go false = refl

    abbrev pub copied : World → Outcome World
    copied brought = each append_copy brought copies

    -- the copies come last
    pub gathered_so : (gather sources u list o.reexport >>= copied) ≡ gather_said sources v wish
    gathered_so =
        ap (λ (x : Outcome World). (x >>= (λ appended. bring sources u.next_cell (renamed_by u list o.reexport appended))) >>= copied)
        (all_appended wants list are u ∙ ap (λ (w : World). each append_want w wants) (at sources sound v h wish good).is)
        ∙ go (each append_want (set_aside v wish) wants)
      where
        go : (x : Outcome World) → ((x >>= (λ appended. bring sources u.next_cell (renamed_by u list o.reexport appended))) >>= copied) ≡ (x >>= (λ appended. bring sources v.next_cell (with_names v.next_cell wish appended) >>= copied))
        go (Ok w) = ap (λ (named : World). bring sources v.next_cell named >>= copied) (renamed_so w)
        go (Err r) = refl
