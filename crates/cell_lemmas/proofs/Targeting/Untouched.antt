-- A cell that awaits no name which comes goes on naming what it named, but for what it named in cells that leave or yield.
use Rattle.std.proofs.Common.{◌≡◌, refl, sym, ◌∙◌, ap, subst, ℕ, zero, suc, Bool, true, false, cond, ◌&&◌, ◌||◌, List, ◌++◌, length, true≢false, Option, Some, None}
use Rattle.std.specs.Prelude.{filter, find, is_some, nat_lt, option_map, option_and_then, slice_get, ◌==◌}
use Rattle.std.specs.List.{list_any}
use Rattle.std.proofs.lemmas.Slice.Eq.{bytes_eq-Decides}
use Rattle.cell_num.specs.Lists.{equals, holds, or_else, In}
use Rattle.cell_object.specs.declared.object.Symbol.{Symbol}
use Rattle.cell_object.specs.declared.object.Entry.{Entry}
use Rattle.cell_object.specs.declared.object.Home.{Home}
use Rattle.cell_object.specs.declared.object.Home.TheVariants.{Undef, Abs, Inside, Elsewhere}
use Rattle.cell_object.specs.Parts.{is_local, is_weak}
use Rattle.cell_world.specs.declared.state.Target.{Target}
use Rattle.cell_world.specs.declared.state.Target.TheVariants.{Section, Number}
use Rattle.cell_world.specs.World.{World, Cell, Alias, Standing}
use Rattle.cell_world.specs.Names.{Provider, provider_for, provider_of, strong_provider, weak_provider, symbol_named, weak_symbol_named, weak_definitions_of}
use Rattle.cell_world.specs.Answer.{numbers_of}
use Rattle.cell_world.specs.Linked.Target.{own_target, provided_target, symbol_target, numbered_target, naming_entry, target_of}
use Rattle.cell_lemmas.specs.Named.{IsNamed}
use Rattle.cell_lemmas.specs.Targets.{is_target_in}
use Rattle.cell_lemmas.specs.Touched.{awaits, holds_name, yields, touched}
use Rattle.cell_num.proofs.Elements.{all-In, none-In, In-none, In-left, In-right, found-In, filter-In, map-In, get-In}
use Rattle.cell_lemmas.proofs.Naming.Attach.{Grows, strong_more}
use Rattle.cell_lemmas.proofs.Naming.Comers.{HoldsNot, provider_still}
use Rattle.cell_lemmas.proofs.Holding.KeptPaths.{In-holds}
use Rattle.cell_lemmas.proofs.Targeting.Targets.{provides}
use Rattle.cell_lemmas.proofs.Targeting.TargetsLeft.{IsInProvider, provided}

-- a number that isn't in two lists is in neither
pub holds_left : (xs ys : List ℕ) (n : ℕ) → holds (xs ++ ys) n ≡ false → holds xs n ≡ false
holds_left xs ys n h = In-none (λ y. y == n) xs (λ y i. none-In (λ y. y == n) (xs ++ ys) h y (In-left xs ys y i))

pub holds_right : (xs ys : List ℕ) (n : ℕ) → holds (xs ++ ys) n ≡ false → holds ys n ≡ false
holds_right xs ys n h = In-none (λ y. y == n) ys (λ y i. none-In (λ y. y == n) (xs ++ ys) h y (In-right xs ys y i))

neither : (a b : Bool) → (a || b) ≡ false → (a ≡ false) × (b ≡ false)
neither true b h = absurd (true≢false h)
neither false b h = (refl, h)

nothing : {X : Type 0} (o : Option X) → is_some o ≡ false → o ≡ None
nothing None h = refl
nothing (Some x) h = absurd (true≢false h)

module _ (v : World) (old : List ℕ) (comers : List Cell) where
  -- a cell that isn't touched yields to none of those that come
  pub unyielding : (d : Cell) → In d v.cells → holds (touched v old comers) d.id.0 ≡ false → yields comers d ≡ false
  unyielding d i h = go (yields comers d) refl
    where
      go : (b : Bool) → yields comers d ≡ b → b ≡ false
      go false e = refl
      go true e =
          absurd (true≢false (sym (In-holds (numbers_of (filter (yields comers) v.cells)) d.id.0 (map-In (λ (c : Cell). c.id.0) (filter (yields comers) v.cells) d (filter-In (yields comers) v.cells d i e)))
          ∙ holds_right old (numbers_of (filter (yields comers) v.cells)) d.id.0 h))

  -- so nobody who comes holds a name that it holds weakly
  pub nobody_holds : (d : Cell) (name : List ℕ) (symbol : ℕ) → weak_symbol_named d name ≡ Some symbol → yields comers d ≡ false → (n : Cell) → In n comers → HoldsNot name n
  nobody_holds d name symbol e y n j = go (find (λ (a : Alias). equals a.name name) (weak_definitions_of d.object)) refl e
    where
      go : (o : Option Alias) → find (λ (a : Alias). equals a.name name) (weak_definitions_of d.object) ≡ o → option_map (λ (a : Alias). a.symbol) o ≡ Some symbol → HoldsNot name n
      go None f k = cc
      go (Some a) f k =
          let r = found-In (λ (a : Alias). equals a.name name) (weak_definitions_of d.object) a f in
          let s : a.name ≡ name = (bytes_eq-Decides a.name name).0 r.1 in
          let x : holds_name n a.name ≡ false = none-In (λ (m : Cell). holds_name m a.name) comers (none-In (λ (b : Alias). list_any (λ (m : Cell). holds_name m b.name) comers) (weak_definitions_of d.object) y a r.0) n j in
          let z = neither (is_some (symbol_named n name)) (is_some (weak_symbol_named n name)) (subst (λ (m : List ℕ). holds_name n m ≡ false) s x) in
          (nothing (symbol_named n name) z.0, nothing (weak_symbol_named n name) z.1)

  -- nor, where a cell awaits no name, the name of a WEAK symbol of it
  pub unawaited : (c : Cell) → awaits comers c ≡ false → (s : Symbol) → In s c.object.symbols → is_weak s.bind ≡ true → (n : Cell) → In n comers → HoldsNot s.name n
  unawaited c q s i b n j =
      let a : (is_weak s.bind && list_any (λ (m : Cell). holds_name m s.name) comers) ≡ false =
      none-In (λ (x : Symbol). is_weak x.bind && list_any (λ (m : Cell). holds_name m x.name) comers) c.object.symbols q s i in
      let y : list_any (λ (m : Cell). holds_name m s.name) comers ≡ false = sym (ap (λ (x : Bool). x && list_any (λ (m : Cell). holds_name m s.name) comers) b) ∙ a in
      let z = neither (is_some (symbol_named n s.name)) (is_some (weak_symbol_named n s.name)) (none-In (λ (m : Cell). holds_name m s.name) comers y n j) in
      (nothing (symbol_named n s.name) z.0, nothing (weak_symbol_named n s.name) z.1)

-- who has the name of a WEAK symbol strongly, or that nobody has, stays so where he doesn't leave; and where nobody provided it nobody does
pub record IsLeftAlone (v w : World) (c : Cell) (standing : Standing) (numbers : List ℕ) (name : List ℕ) : Type 0 where
  pub strong : (o : Option Provider) → strong_provider v c.standing c.ns name ≡ o → ((q : Provider) → o ≡ Some q → holds numbers q.cell ≡ false) → strong_provider w standing c.ns name ≡ o
  pub nobody : provider_of v c name ≡ None → provider_for w standing c.ns name ≡ None

-- from u to w cells come; where nobody of them holds a name weakly held, its provider stays
module _ (u w : World) (g : Grows u w) (ns : ℕ) (there : nat_lt ns (length u.namespaces) ≡ true) (s : Standing) (name : List ℕ) where
  pub strong_stays : (q : Provider) → strong_provider u s ns name ≡ Some q → provider_for w s ns name ≡ Some q
  strong_stays q e = ap (λ o. or_else o (weak_provider w s ns name)) (strong_more u w g s ns (g.spaces ns there) name q e)

  pub untaken_stays : ((n : Cell) → In n g.new → HoldsNot name n) → (q : Provider) → provider_for u s ns name ≡ Some q → provider_for w s ns name ≡ Some q
  untaken_stays f q e = provider_still u w g name f ns there s ∙ e

-- what an entry names, where its cell finds whom it found, and nobody for a WEAK symbol who wasn't there
module _ (v w : World) (h : IsNamed v) (c : Cell) (standing : Standing) (numbers : List ℕ) (still : (s : Symbol) → In s c.object.symbols → is_weak s.bind ≡ true → IsLeftAlone v w c standing numbers s.name)
    (kept : (name : List ℕ) (q : Provider) → provider_of v c name ≡ Some q → holds numbers q.cell ≡ false → provider_for w standing c.ns name ≡ Some q)
    (given : (q : Provider) (t : Target) → provided_target v q ≡ Some t → provided_target w q ≡ Some t) where
  abbrev now : Cell
  now = record c { standing = standing }

  asked_stays : (s : Symbol) → (b : Bool) → (b ≡ true → provider_of v c s.name ≡ None → provider_for w standing c.ns s.name ≡ None)
      → (t : Target) → or_else (option_and_then (provided_target v) (provider_of v c s.name)) (cond b (Some (Number 0)) None) ≡ Some t → is_target_in numbers (Some t) ≡ false
      → or_else (option_and_then (provided_target w) (provider_for w standing c.ns s.name)) (cond b (Some (Number 0)) None) ≡ Some t
  asked_stays s b nobody t k o = go (provider_of v c s.name) refl k
    where
      -- where nobody provides it the symbol is WEAK, and names 0
      unprovided : (x : Bool) → b ≡ x → provider_of v c s.name ≡ None → cond x (Some (Number 0)) None ≡ Some t
          → or_else (option_and_then (provided_target w) (provider_for w standing c.ns s.name)) (cond x (Some (Number 0)) None) ≡ Some t
      unprovided true e y q = ap (λ (x : Option Provider). or_else (option_and_then (provided_target w) x) (Some (Number 0))) (nobody e y) ∙ q
      unprovided false e y q = let z : None ≡ Some t = q in cc

      go : (x : Option Provider) → provider_of v c s.name ≡ x → or_else (option_and_then (provided_target v) x) (cond b (Some (Number 0)) None) ≡ Some t
          → or_else (option_and_then (provided_target w) (provider_for w standing c.ns s.name)) (cond b (Some (Number 0)) None) ≡ Some t
      go None y q = unprovided b refl y q
      go (Some p) y q =
          let i : IsInProvider v p = provided v h p (provides v c.standing c.ns s.name p y) in
          let z : Some (Section i.0 i.1 i.2) ≡ Some t = sym (ap (λ (x : Option Target). or_else x (cond b (Some (Number 0)) None)) i.3) ∙ q in
          let out : holds numbers p.cell ≡ false = subst (λ n. holds numbers n ≡ false) i.4 (ap (is_target_in numbers) z ∙ o) in
          ap (λ (x : Option Provider). or_else (option_and_then (provided_target w) x) (cond b (Some (Number 0)) None)) (kept s.name p y out)
          ∙ ap (λ (x : Option Target). or_else x (cond b (Some (Number 0)) None)) (given p t (i.3 ∙ z))

  -- a weak definition names whoever has the name strongly, or itself
  yielding_stays : (s : Symbol) → (own : Option Target) → IsLeftAlone v w c standing numbers s.name → (t : Target) → is_target_in numbers (Some t) ≡ false
      → or_else (option_and_then (provided_target v) (strong_provider v c.standing c.ns s.name)) own ≡ Some t
      → or_else (option_and_then (provided_target w) (strong_provider w standing c.ns s.name)) own ≡ Some t
  yielding_stays s own l t o k = go (strong_provider v c.standing c.ns s.name) refl k
    where
      go : (x : Option Provider) → strong_provider v c.standing c.ns s.name ≡ x → or_else (option_and_then (provided_target v) x) own ≡ Some t
          → or_else (option_and_then (provided_target w) (strong_provider w standing c.ns s.name)) own ≡ Some t
      go None y q = ap (λ (x : Option Provider). or_else (option_and_then (provided_target w) x) own) (l.strong None y (λ r z. let n : None ≡ Some r = z in cc)) ∙ q
      go (Some p) y q =
          let i : IsInProvider v p = provided v h p (provides v c.standing c.ns s.name p (ap (λ (x : Option Provider). or_else x (weak_provider v c.standing c.ns s.name)) y)) in
          let z : Some (Section i.0 i.1 i.2) ≡ Some t = sym (ap (λ (x : Option Target). or_else x own) i.3) ∙ q in
          let out : holds numbers p.cell ≡ false = subst (λ n. holds numbers n ≡ false) i.4 (ap (is_target_in numbers) z ∙ o) in
          ap (λ (x : Option Provider). or_else (option_and_then (provided_target w) x) own)
          (l.strong (Some p) y (λ r z. let n : p ≡ r = cc in subst (λ (x : Provider). holds numbers x.cell ≡ false) n out))
          ∙ ap (λ (x : Option Target). or_else x own) (given p t (i.3 ∙ z))

  symbol_stays : (s : Symbol) → In s c.object.symbols → (home : Home) (t : Target) → symbol_target v c s home ≡ Some t → is_target_in numbers (Some t) ≡ false → symbol_target w now s home ≡ Some t
  symbol_stays s i Abs t e o = e
  symbol_stays s i Elsewhere t e o = e
  symbol_stays s i (Inside n) t e o = go (is_weak s.bind) refl e
    where
      go : (b : Bool) → is_weak s.bind ≡ b → or_else (option_and_then (provided_target v) (cond b (strong_provider v c.standing c.ns s.name) None)) (own_target c.placed s (Inside n)) ≡ Some t
          → or_else (option_and_then (provided_target w) (cond (is_weak s.bind) (strong_provider w standing c.ns s.name) None)) (own_target c.placed s (Inside n)) ≡ Some t
      go true f k =
          ap (λ (b : Bool). or_else (option_and_then (provided_target w) (cond b (strong_provider w standing c.ns s.name) None)) (own_target c.placed s (Inside n))) f
          ∙ yielding_stays s (own_target c.placed s (Inside n)) (still s i f) t o k
      go false f k = ap (λ (b : Bool). or_else (option_and_then (provided_target w) (cond b (strong_provider w standing c.ns s.name) None)) (own_target c.placed s (Inside n))) f ∙ k
  symbol_stays s i Undef t e o = go (is_local s.bind) e
    where
      go : (b : Bool) → or_else (option_and_then (provided_target v) (cond b None (provider_of v c s.name))) (cond (is_weak s.bind) (Some (Number 0)) None) ≡ Some t
          → or_else (option_and_then (provided_target w) (cond b None (provider_for w standing c.ns s.name))) (cond (is_weak s.bind) (Some (Number 0)) None) ≡ Some t
      go true k = k
      go false k = asked_stays s (is_weak s.bind) (λ f y. (still s i f).nobody y) t k o

  numbered_stays : (n : ℕ) (t : Target) → numbered_target v c n ≡ Some t → is_target_in numbers (Some t) ≡ false → numbered_target w now n ≡ Some t
  numbered_stays zero t e o = e
  numbered_stays (suc n) t e o = go (slice_get c.object.symbols n) refl e
    where
      go : (x : Option Symbol) → slice_get c.object.symbols n ≡ x → option_and_then (λ s. symbol_target v c s s.home) x ≡ Some t → option_and_then (λ s. symbol_target w now s s.home) x ≡ Some t
      go None y q = q
      go (Some s) y q = symbol_stays s (get-In c.object.symbols n s y) s.home t q o

  pub target_stays : (e : Entry) (t : Target) → target_of v c e ≡ Some t → is_target_in numbers (Some t) ≡ false → target_of w now e ≡ Some t
  target_stays e t k o = go (naming_entry c.object e) k
    where
      go : (x : Option Entry) → option_and_then (λ (n : Entry). numbered_target v c n.symbol) x ≡ Some t → option_and_then (λ (n : Entry). numbered_target w now n.symbol) x ≡ Some t
      go None q = q
      go (Some n) q = numbered_stays n.symbol t q o
