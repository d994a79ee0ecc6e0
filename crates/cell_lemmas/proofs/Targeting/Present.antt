-- In a machine that is ready, what an entry names is a number or a place in a section of a present cell.
use Rattle.std.proofs.Common.{◌≡◌, refl, sym, ◌∙◌, ap, subst, ℕ, zero, suc, ◌+◌, Bool, true, false, cond, List, [], ◌∷◌, inl, inr, true≢false, Option, Some, None}
use Rattle.std.specs.Prelude.{All, filter_map, option_map, option_and_then, unwrap_or, slice_get, nat_lt, nat_le, ◌==◌}
use Rattle.std.specs.List.{cons_option}
use Rattle.std.proofs.lemmas.Bool.{leb-true, and_parts}
use Rattle.cell_num.specs.Lists.{each_pair, numbered, or_else, In}
use Rattle.cell_object.specs.declared.object.Section.{Section as ObjectSection}
use Rattle.cell_object.specs.declared.object.Symbol.{Symbol}
use Rattle.cell_object.specs.declared.object.Entry.{Entry}
use Rattle.cell_object.specs.declared.object.Home.{Home}
use Rattle.cell_object.specs.declared.object.Home.TheVariants.{Undef, Abs, Inside, Elsewhere}
use Rattle.cell_object.specs.Parts.{is_local, is_weak, section_of, symbol_at}
use Rattle.cell_object.specs.Sound.{is_sound_home, is_sound_symbol, is_sound_entry_in}
use Rattle.cell_world.specs.declared.state.LinkRow.{LinkRow}
use Rattle.cell_world.specs.declared.state.Target.{Target}
use Rattle.cell_world.specs.declared.state.Target.TheVariants.{Section, Number}
use Rattle.cell_world.specs.World.{World, Cell, cell_of, key_of}
use Rattle.cell_world.specs.Names.{Provider, strong_provider, provider_of}
use Rattle.cell_world.specs.Linked.Target.{start_of, own_target, provided_target, unasked_target, symbol_target, numbered_target, naming_entry, target_of}
use Rattle.cell_world.specs.Linked.Relink.{link_to, link_of, links_of}
use Rattle.cell_world.specs.Coherent.{IsCoherent, IsLoadable, is_supplied}
use Rattle.cell_lemmas.specs.Linkable.{IsLinkable}
use Rattle.cell_lemmas.specs.Present.{HasSection, IsInSection, IsThere, NamesPresent, JoinsPresent}
use Rattle.cell_num.proofs.Elements.{Has, all-In, found-In, get-In, In-All, In-flat_map, In-numbered}
use Rattle.cell_lemmas.proofs.Naming.Known.{object_sound}
use Rattle.cell_lemmas.proofs.Targeting.Targets.{In-find, entry_parts, target_has}

pub and_then_ok : {X Y : Type 0} (f : X → Option Y) (o : Option X) (y : Y) → option_and_then f o ≡ Some y → (x : X) × (o ≡ Some x) × (f x ≡ Some y)
and_then_ok f None y h = cc
and_then_ok f (Some x) y h = (x, refl, h)

pub some_same : {X : Type 0} (x y : X) → Some x ≡ Some y → x ≡ y
some_same x y h = cc

pub In-filter_map : {X Y : Type 0} (f : X → Option Y) (xs : List X) (y : Y) → In y (filter_map f xs) → (x : X) × In x xs × (f x ≡ Some y)
In-filter_map f [] y h = absurd h
In-filter_map {X = X} {Y = Y} f (x ∷ xs) y h = go (f x) refl h (In-filter_map f xs y)
  where
    go : (o : Option Y) → f x ≡ o → In y (cons_option o (filter_map f xs)) → (In y (filter_map f xs) → (z : X) × In z xs × (f z ≡ Some y)) → (z : X) × In z (x ∷ xs) × (f z ≡ Some y)
    go None e k g = let r = g k in (r.0, inr r.1, r.2)
    go (Some v) e (inl k) g = (x, inl refl, e ∙ ap (λ u. Some u) (sym k))
    go (Some v) e (inr k) g = let r = g k in (r.0, inr r.1, r.2)

module _ (w : World) (order : each_pair (λ a b. nat_lt a.id.0 b.id.0) w.cells ≡ true) (objects : All (λ c. IsLoadable c.object) w.cells) where
  abbrev has_section : (c : Cell) → In c w.cells → (n : ℕ) (s : ObjectSection) → section_of c.object n ≡ Some s → HasSection w (key_of c.id.0 n)
  has_section c k n s h = record { cell = c; present = In-find w.cells order c k; section = s; has = h }

  own_there : (c : Cell) → In c w.cells → (s : Symbol) → In s c.object.symbols → (home : Home) → s.home ≡ home → (t : Target) → own_target c.placed s home ≡ Some t → IsThere w t
  own_there c k s i Undef e t h = cc
  own_there c k s i Abs e t h = subst (IsThere w) (some_same (Number s.value) t h) tt
  own_there c k s i Elsewhere e t h = cc
  own_there c k s i (Inside n) e t h = subst (IsThere w) (some_same _ t h) (go (section_of c.object n) refl home)
    where
      whole : is_sound_symbol c.object s ≡ true
      whole = all-In (is_sound_symbol c.object) c.object.symbols (object_sound w objects c k).symbols s i

      home : is_sound_home c.object s (Inside n) ≡ true
      home = subst (λ (x : Home). is_sound_home c.object s x ≡ true) e (and_parts (is_sound_home c.object s s.home) _ whole).0

      go : (o : Option ObjectSection) → section_of c.object n ≡ o → unwrap_or (option_map (λ section. nat_le s.value section.size) o) false ≡ true → IsInSection w (key_of c.id.0 n) s.value (start_of c.placed n + s.value)
      go None g b = absurd (true≢false (sym b))
      go (Some section) g b = record { is = has_section c k n section g; inside = leb-true s.value section.size b; stands = refl }

  provided_there : (p : Provider) (t : Target) → provided_target w p ≡ Some t → IsThere w t
  provided_there p t h =
      let a = and_then_ok _ (cell_of w p.cell) t h in
      let b = and_then_ok (λ s. own_target a.0.placed s s.home) (symbol_at a.0.object p.symbol) t a.2 in
      own_there a.0 (found-In (λ (c : Cell). c.id.0 == p.cell) w.cells a.0 a.1).0 b.0 (symbol-In a.0 p.symbol b.0 b.1) b.0.home refl t b.2
    where
      symbol-In : (c : Cell) (n : ℕ) (s : Symbol) → symbol_at c.object n ≡ Some s → In s c.object.symbols
      symbol-In c zero s h = cc
      symbol-In c (suc n) s h = get-In c.object.symbols n s h

  -- what is given by whoever is asked, or else what there is without asking
  asked_there : (o : Option Provider) (other : Option Target) (t : Target) → (other ≡ Some t → IsThere w t) → or_else (option_and_then (provided_target w) o) other ≡ Some t → IsThere w t
  asked_there None other t f h = f h
  asked_there (Some p) other t f h = go (provided_target w p) refl h
    where
      go : (o : Option Target) → provided_target w p ≡ o → or_else o other ≡ Some t → IsThere w t
      go None e g = f g
      go (Some u) e g = provided_there p t (e ∙ g)

  symbol_there : (c : Cell) → In c w.cells → (s : Symbol) → In s c.object.symbols → (home : Home) → s.home ≡ home → (t : Target) → symbol_target w c s home ≡ Some t → IsThere w t
  symbol_there c k s i Undef e t h = asked_there (cond (is_local s.bind) None (provider_of w c s.name)) (unasked_target c s Undef) t (zero_there (is_weak s.bind)) h
    where
      zero_there : (b : Bool) → cond b (Some (Number 0)) None ≡ Some t → IsThere w t
      zero_there true g = subst (IsThere w) (some_same (Number 0) t g) tt
      zero_there false g = cc
  symbol_there c k s i Abs e t h = own_there c k s i Abs e t h
  symbol_there c k s i (Inside n) e t h =
      asked_there (cond (is_weak s.bind) (strong_provider w c.standing c.ns s.name) None) (own_target c.placed s (Inside n)) t (own_there c k s i (Inside n) e t) h
  symbol_there c k s i Elsewhere e t h = own_there c k s i Elsewhere e t h

  numbered_there : (c : Cell) → In c w.cells → (n : ℕ) (t : Target) → numbered_target w c n ≡ Some t → IsThere w t
  numbered_there c k zero t h = subst (IsThere w) (some_same (Number 0) t h) tt
  numbered_there c k (suc n) t h =
      let a = and_then_ok (λ s. symbol_target w c s s.home) (slice_get c.object.symbols n) t h in
      symbol_there c k a.0 (get-In c.object.symbols n a.0 a.1) a.0.home refl t a.2

  -- what an entry of a present cell names is there
  pub target_there : (c : Cell) → In c w.cells → (e : Entry) (t : Target) → target_of w c e ≡ Some t → IsThere w t
  target_there c k e t h = let a = and_then_ok (λ n. numbered_target w c n.symbol) (naming_entry c.object e) t h in numbered_there c k a.0.symbol t a.2

  entry_section : (c : Cell) → In c w.cells → (e : Entry) → In e c.object.entries → HasSection w (key_of c.id.0 e.section)
  entry_section c k e i = go (section_of c.object e.section) refl (entry_parts c.object (object_sound w objects c k) e i).0
    where
      go : (o : Option ObjectSection) → section_of c.object e.section ≡ o → unwrap_or (option_map (is_sound_entry_in e) o) false ≡ true → HasSection w (key_of c.id.0 e.section)
      go None g b = absurd (true≢false (sym b))
      go (Some s) g b = has_section c k e.section s g

  link_joins : (c : Cell) → In c w.cells → (p : ℕ × Entry) → In p.1 c.object.entries → (l : LinkRow) → link_of w c p ≡ Some l → JoinsPresent w l
  link_joins c k p i l h = go (target_of w c p.1) refl h
    where
      with_target : (t : Target) → IsThere w t → link_to c p.0 p.1 t ≡ Some l → JoinsPresent w l
      with_target (Section key offset addr) s g = subst (JoinsPresent w) (some_same _ l g) (record { user = entry_section c k p.1 i; target = s.is })
      with_target (Number value) s g = cc

      go : (o : Option Target) → target_of w c p.1 ≡ o → elim o as (λ _. Option LinkRow) [ None ↦ None | Some target ↦ link_to c p.0 p.1 target ] ≡ Some l → JoinsPresent w l
      go None e g = cc
      go (Some t) e g = with_target t (target_there c k p.1 t e) g

  links_join : All (JoinsPresent w) (links_of w)
  links_join = In-All (JoinsPresent w) (links_of w) each
    where
      each : (l : LinkRow) → In l (links_of w) → JoinsPresent w l
      each l h =
          let c = In-flat_map (λ c. filter_map (link_of w c) (numbered c.object.entries)) w.cells l h in
          let p = In-filter_map (link_of w c.0) (numbered c.0.object.entries) l c.2 in
          let n = In-numbered c.0.object.entries 0 p.0 p.1 in
          link_joins c.0 c.1 p.0 (get-In c.0.object.entries n.0 p.0.1 n.1) l p.2

pub links_present : (w : World) → IsCoherent w → All (JoinsPresent w) w.links
links_present w c = subst (λ (ls : List LinkRow). All (JoinsPresent w) ls) (ap (λ (u : World). u.links) c.linked) (links_join w c.ready.cell_order c.ready.objects)

pub targets_present : (w : World) → IsLinkable w → All (λ c. All (NamesPresent w c) c.object.entries) w.cells
targets_present w r = In-All (λ (c : Cell). All (NamesPresent w c) c.object.entries) w.cells (λ c k. In-All (NamesPresent w c) c.object.entries (λ e i. names c k e i))
  where
    names : (c : Cell) → In c w.cells → (e : Entry) → In e c.object.entries → NamesPresent w c e
    names c k e i =
        let t : Has (target_of w c e) = target_has w r.cell_order r.cells c (object_sound w r.objects c k) (all-In (is_supplied w) w.cells r.supplied c k) e i in
        (t.0, t.1, target_there w r.cell_order r.objects c k e t.0 t.1)
