-- Items looked up, one after another.
use Rattle.std.proofs.Common.{◌≡◌, refl, sym, ◌∙◌, ap, subst, arith, ℕ, ◌+◌, ◌≤◌, ◌<◌, inl, Bool, true, false, cond, List, [], ◌∷◌, ◌++◌, drop, get_or, length, map}
use Rattle.std.specs.Prelude.{Option, Some, None, Ok, Err, filter_map, find, nat_lt, option_map, ◌==◌, ◌&&◌}
use Rattle.std.specs.List.{cons_option}
use Rattle.std.specs.Option.{ForSome}
use Rattle.std.proofs.lemmas.Bool.{and_parts, ltb-true}
use Rattle.std.proofs.lemmas.List.{drop_more, length-append, map-append}
use Rattle.std.proofs.lemmas.List.Elements.{All-nil, filter_map-append}
use Rattle.std.proofs.Math.ListN.{drop_of_length-le}
use Rattle.cell_num.specs.declared.ids.CellId.{CellId}
use Rattle.cell_world.specs.declared.command.SwapItem.{SwapItem}
use Rattle.cell_world.specs.declared.fail.Fail.{Fail}
use Rattle.cell_world.specs.declared.fail.Fail.TheVariants.{Refused, OutOfMemory}
use Rattle.cell_world.specs.declared.file.File.{File}
use Rattle.cell_world.specs.declared.refusal.Refusal.{Refusal}
use Rattle.cell_world.specs.declared.refusal.Refusal.TheVariants.{Unknown}
use Rattle.cell_world.specs.declared.state.NewCell.{NewCell}
use Rattle.cell_world.specs.Gather.{Source, file_named, source_of}
use Rattle.cell_world.specs.Outcome.{Outcome, ◌>>=◌, each, found}
use Rattle.cell_world.specs.Answer.{numbers_of}
use Rattle.cell_world.specs.Commands.Asked.{want_of}
use Rattle.cell_world.specs.Change.{Copy, Want as Wanted}
use Rattle.cell_world.specs.Coherent.{IsCoherent, is_known_cell}
use Rattle.cell_lemmas.proofs.Naming.Known.{known_parts}
use Rattle.cell_world.specs.World.{World, Cell, is_attached, cell_of}
use Rattle.cell_depot.specs.Files.{has_name}
use Rattle.cell_gather.specs.declared.want.Want.{Want}
use Rattle.cell_change.specs.declared.request.Change.{Change}
use Rattle.cell_world.specs.Commands.UnloadCommand.{attached_cell, cell_word}
use Rattle.cell_world.specs.declared.command.CellName.{CellName}
use Rattle.cell_world.specs.Names.{cell_at, namespace_named}
use Rattle.cell_num.specs.Lists.{each_pair, equals, In}
use Rattle.cell_num.proofs.Elements.{all-In, found-In}
use Rattle.cell_lemmas.proofs.Targeting.Targets.{In-find}
use Rattle.cell_unload.specs.Sweep.{cell_numbered}
use Rattle.cell_change.specs.declared.request.Options.{Options}
use Rattle.cell_change.specs.declared.request.CellCopy.{CellCopy}
use Rattle.cell_change.specs.Asking.{AreWantsOf, IsAsked, IsWantOf}
use Rattle.cell_commands.specs.Items.{old_placed, AddsWant, AreAsked, Asks, HasWant}

-- a file is found by its name among the sources
pub file_found : (files : List File) (name : List ℕ) → file_named (map source_of files) name ≡ option_map source_of (find (has_name name) files)
file_found [] name = refl
file_found (f ∷ files) name = go (has_name name f) (file_found files name)
  where
    go : (b : Bool) → file_named (map source_of files) name ≡ option_map source_of (find (has_name name) files)
        → cond b (Some (source_of f)) (file_named (map source_of files) name) ≡ option_map source_of (cond b (Some f) (find (has_name name) files))
    go true e = refl
    go false e = e

-- what a lookup by a name's bytes gave
module _ (files : List File) (name bytes : List ℕ) (same : bytes ≡ name) (o : Option File) (is : o ≡ find (has_name bytes) files) where
  pub the_file : found (file_named (map source_of files) name) (Unknown name) ≡ (let said : Outcome Source = found (option_map source_of o) (Unknown name) in said)
  the_file =
      ap (λ (x : Option Source). found x (Unknown name)) (file_found files name)
      ∙ (ap (λ (n : List ℕ). found (option_map source_of (find (has_name n) files)) (Unknown name)) (sym same)
      ∙ ap (λ (x : Option File). found (option_map source_of x) (Unknown name)) (sym is))

pub found_ok : {A : Type 0} (o : Option A) (r : Refusal) (a : A) → found o r ≡ Ok a → o ≡ Some a
found_ok None r a e = cc
found_ok (Some x) r a e = cc

-- the cell that a name names
module _ (w : World) (order : each_pair (λ (a b : Cell). nat_lt a.id.0 b.id.0) w.cells ≡ true) (name : CellName) where
  pub attached_in : (c : Cell) → attached_cell w name ≡ Ok c → In c w.cells
  attached_in c e = go (namespace_named w name.ns) e
    where
      go : (o : Option ℕ) → (found o (Unknown (cell_word name)) >>= (λ ns. found (cell_at w ns name.stem) (Unknown (cell_word name)))) ≡ Ok c → In c w.cells
      go None h = cc
      go (Some ns) h = (found-In (λ (x : Cell). is_attached x.standing && x.ns == ns && equals x.stem name.stem) w.cells c (found_ok (cell_at w ns name.stem) (Unknown (cell_word name)) c h)).0

  pub named_attached : (c : Cell) → attached_cell w name ≡ Ok c → is_attached c.standing ≡ true
  named_attached c e = go (namespace_named w name.ns) e
    where
      stands : (ns : ℕ) → cell_at w ns name.stem ≡ Some c → is_attached c.standing ≡ true
      stands ns f =
          let t = (found-In (λ (x : Cell). is_attached x.standing && x.ns == ns && equals x.stem name.stem) w.cells c f).1 in
          (and_parts (is_attached c.standing) (c.ns == ns) (and_parts (is_attached c.standing && c.ns == ns) (equals c.stem name.stem) t).0).0

      go : (o : Option ℕ) → (found o (Unknown (cell_word name)) >>= (λ ns. found (cell_at w ns name.stem) (Unknown (cell_word name)))) ≡ Ok c → is_attached c.standing ≡ true
      go None h = cc
      go (Some ns) h = stands ns (found_ok (cell_at w ns name.stem) (Unknown (cell_word name)) c h)

  record IsNamed (n : ℕ) : Type 0 where
    cell : Cell
    is : attached_cell w name ≡ Ok cell
    number : cell.id.0 ≡ n

  named_by : (o : Outcome Cell) (n : ℕ) → (o >>= (λ c. Ok c.id.0)) ≡ Ok n → attached_cell w name ≡ o → IsNamed n
  named_by (Err r) n e same = absurd (refused r n e)
    where
      refused : (r : Refusal) (n : ℕ) → (let said : Outcome ℕ = Err r in said) ≡ Ok n → ⊥
      refused r n e = cc
  named_by (Ok c) n e same = record { cell = c; is = same; number = as_ok c.id.0 n e }
    where
      as_ok : (a b : ℕ) → (let said : Outcome ℕ = Ok a in said) ≡ Ok b → a ≡ b
      as_ok a b e = cc

  module _ (n : ℕ) (h : cell_numbered w name ≡ Ok n) where
    named : IsNamed n
    named = named_by (attached_cell w name) n h refl

    by_number : cell_of w n ≡ Some named.cell
    by_number = ap (cell_of w) (sym named.number) ∙ In-find w.cells order named.cell (attached_in named.cell named.is)

    module _ (o : Option NewCell) (said : o ≡ option_map (λ c. c.placed) (cell_of w n)) where
      found_it : o ≡ Some named.cell.placed
      found_it = said ∙ ap (option_map (λ (c : Cell). c.placed)) by_number

      pub some_cell : o ≡ None → ⊥
      some_cell none = apart named.cell.placed (sym none ∙ found_it)
        where
          apart : (c : NewCell) → (let got : Option NewCell = None in got) ≡ Some c → ⊥
          apart c e = cc

      pub the_cell : (old : NewCell) → o ≡ Some old → (attached_cell w name >>= (λ c. Ok c.placed)) ≡ Ok old
      the_cell old is = ap (λ (r : Outcome Cell). r >>= (λ c. Ok c.placed)) named.is ∙ ap (λ (x : NewCell). Ok x) (same named.cell.placed old (sym found_it ∙ is))
        where
          same : (a b : NewCell) → Some a ≡ Some b → a ≡ b
          same a b e = cc

-- a cell and a file that items name
module _ (sources : List Source) (w : World) (h : IsCoherent w) (item : SwapItem) where
  abbrev name : CellName
  name = record { ns = item.ns; stem = item.stem }

  abbrev with_file : Cell → Outcome Wanted
  with_file old = found (file_named sources item.file) (Unknown item.file) >>= (λ file. Ok (record { file = file; ns = old.ns; replaces = Some old }))

  record IsOld (old : NewCell) : Type 0 where
    cell : Cell
    is : attached_cell w name ≡ Ok cell
    placed : cell.placed ≡ old

  old_by : (o : Outcome Cell) (old : NewCell) → (o >>= (λ c. Ok c.placed)) ≡ Ok old → attached_cell w name ≡ o → IsOld old
  old_by (Err r) old e same = absurd (apart e)
    where
      apart : (let got : Outcome NewCell = Err r in got) ≡ Ok old → ⊥
      apart e = cc
  old_by (Ok c) old e same = record { cell = c; is = same; placed = as_ok c.placed old e }
    where
      as_ok : (a b : NewCell) → (let said : Outcome NewCell = Ok a in said) ≡ Ok b → a ≡ b
      as_ok a b e = cc

  module _ (old : NewCell) (k : old_placed w item ≡ Ok old) where
    that : IsOld old
    that = old_by (attached_cell w name) old k refl

    so_far : want_of sources w item ≡ with_file that.cell
    so_far = ap (λ (o : Outcome Cell). o >>= with_file) that.is

    module _ (file : Source) (f : found (file_named sources item.file) (Unknown item.file) ≡ Ok file) where
      there : In that.cell w.cells
      there = attached_in w h.ready.cell_order name that.cell that.is

      abbrev wanted : Wanted
      wanted = record { file = file; ns = that.cell.ns; replaces = Some that.cell }

      only : (P : Cell → Type 0) → P that.cell → ForSome (Some that.cell) P
      only P p x e = subst P (same that.cell x e) p
        where
          same : (a b : Cell) → Some a ≡ Some b → a ≡ b
          same a b e = cc

      pub has_want : (want : Want) → want ≡ record { ns = old.ns; file = item.file; replaces = Some old.id } → (asked new : Change) → new.wants.items ≡ asked.wants.items ++ want ∷ [] → new.replaced.items ≡ asked.replaced.items ++ old.id ∷ [] → new.copies.items ≡ asked.copies.items → new.options ≡ asked.options → HasWant sources w (want_of sources w item) asked new
      has_want want e asked new wants numbers copies options = record {
        wanted = wanted;
        cell = that.cell;
        want = want;
        is = so_far ∙ ap (λ (o : Outcome Source). o >>= (λ file. let got : Outcome Wanted = Ok (record { file = file; ns = that.cell.ns; replaces = Some that.cell }) in got)) f;
        of = record {
          file = ap (λ (x : Want). file_named sources x.file) e ∙ found_ok (file_named sources item.file) (Unknown item.file) file f;
          ns = ap (λ (x : Want). x.ns) e ∙ sym (ap (λ (x : NewCell). x.ns) that.placed);
          there = ltb-true that.cell.ns (length w.namespaces) (known_parts w that.cell (all-In (is_known_cell w) w.cells h.ready.cells that.cell there)).ns;
          replaces = ap (λ (x : Want). x.replaces) e ∙ sym (ap (λ (x : NewCell). Some x.id) that.placed);
          present = only (λ (c : Cell). In c w.cells) there;
          attached = only (λ (c : Cell). is_attached c.standing ≡ true) (named_attached w h.ready.cell_order name that.cell that.is);
        };
        replaces = refl;
        wants = wants;
        numbers = numbers ∙ ap (λ (n : CellId). asked.replaced.items ++ n ∷ []) (sym (ap (λ (x : NewCell). x.id) that.placed));
        copies = copies;
        options = options;
      }

are_more : (sources : List Source) (v : World) (all : List Wanted) (wants : List Want) → AreWantsOf sources v all wants → (wanted : Wanted) (want : Want) → IsWantOf sources v wanted want → AreWantsOf sources v (all ++ wanted ∷ []) (wants ++ want ∷ [])
are_more sources v [] [] are wanted want is = (is, tt)
are_more sources v [] (x ∷ wants) are wanted want is = absurd are
are_more sources v (x ∷ all) [] are wanted want is = absurd are
are_more sources v (x ∷ all) (y ∷ wants) are wanted want is = (are.0, are_more sources v all wants are.1 wanted want is)

-- the numbers of the replaced cells, with one more
old_more : (all : List Wanted) (wanted : Wanted) (c : Cell) → wanted.replaces ≡ Some c
    → numbers_of (filter_map (λ (want : Wanted). want.replaces) (all ++ wanted ∷ [])) ≡ numbers_of (filter_map (λ (want : Wanted). want.replaces) all) ++ c.id.0 ∷ []
old_more all wanted c e =
    ap (λ (cs : List Cell). numbers_of cs) (filter_map-append (λ (want : Wanted). want.replaces) all (wanted ∷ []))
    ∙ (map-append (λ (x : Cell). x.id.0) (filter_map (λ (want : Wanted). want.replaces) all) (filter_map (λ (want : Wanted). want.replaces) (wanted ∷ []))
    ∙ ap (λ (o : Option Cell). numbers_of (filter_map (λ (want : Wanted). want.replaces) all) ++ numbers_of (cons_option o [])) e)

-- what is asked for one after the other, each by `one`
module _ (sources : List Source) (v : World) (o : Options) {X : Type 0} (one : X → Outcome Wanted) where
  abbrev more : List Wanted → X → Outcome (List Wanted)
  more wants x = one x >>= (λ want. Ok (wants ++ want ∷ []))

  abbrev all_of : List X → Outcome (List Wanted)
  all_of items = each more [] items

  -- what was asked by so many items, and what the others ask
  pub record IsAskedTo (items : List X) (place : ℕ) (asked : Change) : Type 0 where
    pub asked_so : IsAsked sources v asked
    pub rest : all_of items ≡ each more asked_so.wants (drop place items)
    pub count : length asked.replaced.items ≡ place
    pub none : asked_so.copies ≡ []
    pub empty : asked.copies.items ≡ []
    pub options : asked.options ≡ o

  pub nothing_asked : (items : List X) (asked : Change) → asked.wants.items ≡ [] → asked.replaced.items ≡ [] → asked.copies.items ≡ [] → asked.options ≡ o → IsAskedTo items 0 asked
  nothing_asked items asked wants old empty options = record {
    asked_so = record {
      wants = [];
      are = subst (AreWantsOf sources v []) (sym wants) tt;
      old = ap (map (λ (c : CellId). c.0)) old;
      copies = [];
      copies_are = ap (map (λ (c : CellCopy). (c.original.0, c.ns))) empty;
      originals = All-nil (λ (c : Copy). In c.original v.cells);
      spaces = All-nil (λ (c : Copy). c.ns < length v.namespaces);
      copied = inl refl;
    };
    rest = refl;
    count = ap length old;
    none = refl;
    empty = empty;
    options = options;
  }

  module _ (items : List X) (place : ℕ) (asked : Change) (to : IsAskedTo items place asked) where
    abbrev wants : List Wanted
    wants = to.asked_so.wants

    pub all_asked : length items ≤ place → AreAsked sources v (all_of items) (length items) o asked
    all_asked past = record {
      asked = to.asked_so;
      all_are = to.rest ∙ ap (each more wants) (drop_of_length-le items {i = place} past);
      none = to.none;
      enough = let count = to.count in omega (arith, past, count);
      options = to.options;
    }

    module _ (here : place < length items) (item : X) (at : item ≡ get_or items place item) where
      next : all_of items ≡ (more wants item >>= (λ wants. each more wants (drop (place + 1) items)))
      next = to.rest ∙ ap (each more wants) (drop_more items place item here ∙ ap (λ (x : X). x ∷ drop (place + 1) items) (sym at))

      pub item_failed : (fail : Fail) (new : Change) → AddsWant sources v (one item) asked (Err fail) new → Asks sources v (all_of items) (length items) o (Err fail)
      item_failed (Refused refusal) new e = next ∙ ap (λ (x : Outcome Wanted). (x >>= (λ want. Ok (wants ++ want ∷ []))) >>= (λ wants. each more wants (drop (place + 1) items))) e
      item_failed OutOfMemory new e = tt

      pub item_asked : (new : Change) → HasWant sources v (one item) asked new → IsAskedTo items (place + 1) new
      item_asked new has = record {
        asked_so = record {
          wants = wants ++ has.wanted ∷ [];
          are = subst (AreWantsOf sources v (wants ++ has.wanted ∷ [])) (sym has.wants) (are_more sources v wants asked.wants.items to.asked_so.are has.wanted has.want has.of);
          old =
              ap (map (λ (c : CellId). c.0)) has.numbers
              ∙ (map-append (λ (c : CellId). c.0) asked.replaced.items (has.cell.id ∷ [])
              ∙ (ap (λ (ns : List ℕ). ns ++ has.cell.id.0 ∷ []) to.asked_so.old ∙ sym (old_more wants has.wanted has.cell has.replaces)));
          copies = [];
          copies_are = ap (map (λ (c : CellCopy). (c.original.0, c.ns))) (has.copies ∙ to.empty);
          originals = All-nil (λ (c : Copy). In c.original v.cells);
          spaces = All-nil (λ (c : Copy). c.ns < length v.namespaces);
          copied = inl refl;
        };
        rest = next ∙ ap (λ (x : Outcome Wanted). (x >>= (λ want. Ok (wants ++ want ∷ []))) >>= (λ wants. each more wants (drop (place + 1) items))) has.is;
        count =
            let longer = ap length has.numbers in
            let both = length-append asked.replaced.items (has.cell.id ∷ []) in
            let before = to.count in
            omega (arith, longer, both, before);
        none = refl;
        empty = has.copies ∙ to.empty;
        options = has.options ∙ to.options;
      }
