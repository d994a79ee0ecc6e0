-- Attached cells that are put aside as a new group name what they named but for what weak holders gave; others lose what they named in them, and no more.
use Rattle.std.proofs.Common.{◌≡◌, refl, sym, ◌∙◌, ap, subst, ℕ, zero, suc, ◌⊎◌, inl, inr, Bool, true, false, cond, not, ◌||◌, List, [], ◌∷◌, map, true≢false, Option, Some, None}
use Rattle.std.specs.Prelude.{filter, filter_map, find, option_map, option_and_then, slice_get, ◌==◌}
use Rattle.std.proofs.lemmas.Bool.{eqb-true, eq-eqb}
use Rattle.cell_num.specs.Lists.{holds, or_else, In}
use Rattle.cell_object.specs.declared.object.Symbol.{Symbol}
use Rattle.cell_object.specs.declared.object.Entry.{Entry}
use Rattle.cell_object.specs.declared.object.Home.{Home}
use Rattle.cell_object.specs.declared.object.Home.TheVariants.{Undef, Abs, Inside, Elsewhere}
use Rattle.cell_object.specs.Parts.{symbol_at, is_local, is_weak}
use Rattle.cell_world.specs.declared.state.Target.{Target}
use Rattle.cell_world.specs.declared.state.Target.TheVariants.{Section}
use Rattle.cell_world.specs.World.{World, Cell, Standing, is_attached, is_of_group, cell_of}
use Rattle.cell_world.specs.declared.state.Standing.TheVariants.{Attached, Detached}
use Rattle.cell_world.specs.Names.{Provider, by_spaces, chain, symbol_named, weak_symbol_named, first_provider, nearest_provider, strong_provider, weak_provider, provider_for, provider_of}
use Rattle.cell_world.specs.Linked.Target.{own_target, provided_target, unasked_target, symbol_target, numbered_target, naming_entry, target_of}
use Rattle.cell_world.specs.Commands.UnloadCommand.{put_aside, detach}
use Rattle.cell_lemmas.specs.Named.{IsNamed}
use Rattle.cell_num.proofs.Elements.{Has as IsSome, In-map, map-In, filter-In, In-filtered, filter-Passes, first-In, first_has}
use Rattle.cell_lemmas.specs.Firm.{strong_given, firm_symbol_target, firm_numbered_target, firm_target, weak_given, weak_symbol_target, weak_numbered_target, weak_target}
use Rattle.cell_lemmas.proofs.Naming.Asked.{IsAsked, asks, weakly_offered, by_spaces-In, In-by_spaces, nearest_stays, or_else_has, or_else_from}
use Rattle.cell_lemmas.proofs.Targeting.Targets.{Provides, provides, strong_provides, weak_provides}
use Rattle.cell_lemmas.proofs.Targeting.Present.{In-filter_map}
use Rattle.cell_lemmas.proofs.Naming.Lookups.{filter_map-In}
use Rattle.cell_lemmas.proofs.Targeting.TargetsLeft.{IsInProvider, provided}
use Rattle.cell_lemmas.specs.Targets.{is_target_in}
use Rattle.cell_lemmas.proofs.Naming.NotIn.{target_out}
use Rattle.cell_lemmas.proofs.Fields.Values.{find_map}
use Rattle.cell_lemmas.proofs.Naming.Unique.{offered, first_only, first_none, Candidate, one_candidate}

pub find_equal : {X : Type 0} (p q : X → Bool) (xs : List X) → ((x : X) → p x ≡ q x) → find p xs ≡ find q xs
find_equal p q [] f = refl
find_equal p q (x ∷ xs) f = ap (λ b. cond b (Some x) (find p xs)) (f x) ∙ ap (λ o. cond (q x) (Some x) o) (find_equal p q xs f)

-- the provider, where it is in one of the cells, and where it isn't
abbrev pub within : List ℕ → Option Provider → Option Provider
within ns None = None
within ns (Some p) = cond (holds ns p.cell) (Some p) None

abbrev pub without : List ℕ → Option Provider → Option Provider
without ns None = None
without ns (Some p) = cond (holds ns p.cell) None (Some p)

either_way : (ns : List ℕ) (o : Option Provider) → or_else (within ns o) (without ns o) ≡ o
either_way ns None = refl
either_way ns (Some p) = go (holds ns p.cell)
  where
    go : (b : Bool) → or_else (cond b (Some p) None) (cond b None (Some p)) ≡ Some p
    go true = refl
    go false = refl

-- what is offered says whose it is
pub offered_parts : (name : List ℕ) (c : Cell) (p : Provider) → offered name c ≡ Some p → (p.cell ≡ c.id.0) × (symbol_named c name ≡ Some p.symbol)
offered_parts name c p h = go (symbol_named c name) refl h
  where
    go : (o : Option ℕ) → symbol_named c name ≡ o → option_map {T = ℕ} {U = Provider} (λ symbol. record { cell = c.id.0; symbol = symbol }) o ≡ Some p → (p.cell ≡ c.id.0) × (symbol_named c name ≡ Some p.symbol)
    go None e k = cc
    go (Some n) e k =
        let q : Provider = record { cell = c.id.0; symbol = n } in
        let s : Some q ≡ Some p = k in
        let t : q ≡ p = cc in
        (ap (λ (x : Provider). x.cell) (sym t), e ∙ ap (λ (x : Provider). Some x.symbol) t)

module _ (k : ℕ) (ns : List ℕ) where
  abbrev pub put : Cell → Cell
  put c = put_aside k ns c

  -- what doesn't ask for the standing
  pub put_same : {A : Type 0} (f : Cell → A) (c : Cell) → f (record c { standing = Detached k }) ≡ f c → f (put c) ≡ f c
  put_same {A = A} f c e = go (holds ns c.id.0)
    where
      go : (b : Bool) → f (cond b (record c { standing = Detached k }) c) ≡ f c
      go true = e
      go false = refl

  pub put_out : (c : Cell) → holds ns c.id.0 ≡ false → put c ≡ c
  put_out c e = ap (λ b. cond b (record c { standing = Detached k }) c) e

  pub put_in : (c : Cell) → holds ns c.id.0 ≡ true → put c ≡ record c { standing = Detached k }
  put_in c e = ap (λ b. cond b (record c { standing = Detached k }) c) e

module _ (w : World) (h : IsNamed w) (k : ℕ) (ns : List ℕ)
    (new_group : (c : Cell) → In c w.cells → is_of_group k c.standing ≡ false)
    (all_attached : (c : Cell) → In c w.cells → holds ns c.id.0 ≡ true → is_attached c.standing ≡ true) where
  abbrev aside : World
  aside = detach k ns w

  -- a cell that is put aside, or isn't attached any more
  put_group : (c : Cell) → In c w.cells → is_of_group k (put k ns c).standing ≡ true → holds ns c.id.0 ≡ true
  put_group c i e = go (holds ns c.id.0) refl
    where
      go : (b : Bool) → holds ns c.id.0 ≡ b → b ≡ true
      go true q = refl
      go false q = absurd (true≢false (sym e ∙ (ap (λ (x : Cell). is_of_group k x.standing) (put_out k ns c q) ∙ new_group c i)))

  put_still : (c : Cell) → is_attached (put k ns c).standing ≡ true → (holds ns c.id.0 ≡ false) × (is_attached c.standing ≡ true)
  put_still c e = go (holds ns c.id.0) refl
    where
      go : (b : Bool) → holds ns c.id.0 ≡ b → (b ≡ false) × (is_attached c.standing ≡ true)
      go true q = absurd (true≢false (sym e ∙ ap (λ (x : Cell). is_attached x.standing) (put_in k ns c q)))
      go false q = (refl, sym (ap (λ (x : Cell). is_attached x.standing) (put_out k ns c q)) ∙ e)

  module _ (m : ℕ) (name : List ℕ) where
    abbrev spaces : List ℕ
    spaces = chain w.namespaces m

    abbrev Fits : Cell → Type 0
    Fits c = Candidate w h.names m name c

    one : (c d : Cell) → Fits c → Fits d → c ≡ d
    one = one_candidate w h.names m name

    -- a cell of w that gives a provider of the machine with cells put aside
    record Gives (test : Standing → Bool) (p : Provider) : Type 0 where
      cell : Cell
      present : In cell w.cells
      passes : test (put k ns cell).standing ≡ true
      in_chain : holds spaces cell.ns ≡ true
      offers : offered name cell ≡ Some p

    gives : (test : Standing → Bool) (z : Cell) (p : Provider) → In z (filter (λ c. holds spaces c.ns) (filter (λ c. test c.standing) (map (put k ns) w.cells))) → offered name z ≡ Some p → Gives test p
    gives test z p i e =
        let j : In z (filter (λ c. test c.standing) (map (put k ns) w.cells)) = In-filtered (λ (c : Cell). holds spaces c.ns) (filter (λ c. test c.standing) (map (put k ns) w.cells)) z i in
        let c = In-map (put k ns) w.cells z (In-filtered (λ (c : Cell). test c.standing) (map (put k ns) w.cells) z j) in
        record {
          cell = c.0;
          present = c.1;
          passes = subst (λ (x : Cell). test x.standing ≡ true) c.2 (filter-Passes (λ (c : Cell). test c.standing) (map (put k ns) w.cells) z j);
          in_chain = sym (put_same k ns (λ x. holds spaces x.ns) c.0 refl) ∙ subst (λ (x : Cell). holds spaces x.ns ≡ true) c.2 (filter-Passes (λ (c : Cell). holds spaces c.ns) (filter (λ c. test c.standing) (map (put k ns) w.cells)) z i);
          offers = sym (put_same k ns (offered name) c.0 refl) ∙ subst (λ (x : Cell). offered name x ≡ Some p) c.2 e;
        }

    put_There : (test : Standing → Bool) (d : Cell) → In d w.cells → test (put k ns d).standing ≡ true → holds spaces d.ns ≡ true → In (put k ns d) (filter (λ c. holds spaces c.ns) (filter (λ c. test c.standing) (map (put k ns) w.cells)))
    put_There test d i t s =
        filter-In (λ (c : Cell). holds spaces c.ns) (filter (λ c. test c.standing) (map (put k ns) w.cells)) (put k ns d)
        (filter-In (λ (c : Cell). test c.standing) (map (put k ns) w.cells) (put k ns d) (map-In (put k ns) w.cells d i) t)
        (put_same k ns (λ x. holds spaces x.ns) d refl ∙ s)

    -- the attached provider of w, and that there is none
    record Has (p : Provider) : Type 0 where
      cell : Cell
      fits : Fits cell
      offers : offered name cell ≡ Some p

    has : (p : Provider) → strong_provider w Attached m name ≡ Some p → Has p
    has p e =
        let f = In-filter_map (offered name) (filter (λ (c : Cell). holds spaces c.ns) (filter (λ c. is_attached c.standing) w.cells)) p (first-In _ p e) in
        let j : In f.0 (filter (λ c. is_attached c.standing) w.cells) = In-filtered (λ (c : Cell). holds spaces c.ns) (filter (λ c. is_attached c.standing) w.cells) f.0 f.1 in
        record {
          cell = f.0;
          fits = record {
            present = In-filtered (λ (c : Cell). is_attached c.standing) w.cells f.0 j;
            attached = filter-Passes (λ (c : Cell). is_attached c.standing) w.cells f.0 j;
            in_chain = filter-Passes (λ (c : Cell). holds spaces c.ns) (filter (λ c. is_attached c.standing) w.cells) f.0 f.1;
            symbol = p.symbol;
            has = (offered_parts name f.0 p f.2).1;
          };
          offers = f.2;
        }

    has_none : strong_provider w Attached m name ≡ None → (c : Cell) (p : Provider) → Fits c → offered name c ≡ Some p → ⊥
    has_none e c p f o =
        let i = filter_map-In (offered name) (filter (λ (c : Cell). holds spaces c.ns) (filter (λ c. is_attached c.standing) w.cells)) c p
        (filter-In (λ (c : Cell). holds spaces c.ns) (filter (λ c. is_attached c.standing) w.cells) c (filter-In (λ (c : Cell). is_attached c.standing) w.cells c f.present f.attached) f.in_chain) o in
        let g = first_has (filter_map (offered name) (filter (λ (c : Cell). holds spaces c.ns) (filter (λ c. is_attached c.standing) w.cells))) p i in
        let z : None ≡ Some g.0 = sym e ∙ g.1 in cc

    fits_of : (test : Standing → Bool) (p : Provider) (g : Gives test p) → is_attached g.cell.standing ≡ true → Fits g.cell
    fits_of test p g a = record { present = g.present; attached = a; in_chain = g.in_chain; symbol = p.symbol; has = (offered_parts name g.cell p g.offers).1 }

    same_offer : (p q : Provider) (c d : Cell) → c ≡ d → offered name c ≡ Some q → offered name d ≡ Some p → q ≡ p
    same_offer p q c d e x y = let z : Some q ≡ Some p = sym x ∙ (ap (offered name) e ∙ y) in cc

    group_fits : (p : Provider) (g : Gives (is_of_group k) p) → Fits g.cell
    group_fits p g = fits_of (is_of_group k) p g (all_attached g.cell g.present (put_group g.cell g.present g.passes))

    still_fits : (p : Provider) (g : Gives is_attached p) → Fits g.cell
    still_fits p g = fits_of is_attached p g (put_still g.cell g.passes).1

    -- the provider for those that are put aside is the one among them
    group_provider : first_provider spaces name (filter (λ c. is_of_group k c.standing) aside.cells) ≡ within ns (strong_provider w Attached m name)
    group_provider = go (strong_provider w Attached m name) refl
      where
        go : (o : Option Provider) → strong_provider w Attached m name ≡ o → first_provider spaces name (filter (λ c. is_of_group k c.standing) aside.cells) ≡ within ns o
        go None e = first_none (offered name) _ (λ z p i o. let g = gives (is_of_group k) z p i o in has_none e g.cell p (group_fits p g) g.offers)
        go (Some p) e = pick (holds ns p.cell) refl
          where
            d : Has p
            d = has p e

            number : p.cell ≡ d.cell.id.0
            number = (offered_parts name d.cell p d.offers).0

            pick : (b : Bool) → holds ns p.cell ≡ b → first_provider spaces name (filter (λ c. is_of_group k c.standing) aside.cells) ≡ cond b (Some p) None
            pick true q =
                let i : holds ns d.cell.id.0 ≡ true = subst (λ n. holds ns n ≡ true) number q in
                first_only (offered name) _ (put k ns d.cell) p
                (put_There (is_of_group k) d.cell d.fits.present (ap (λ (x : Cell). is_of_group k x.standing) (put_in k ns d.cell i) ∙ eq-eqb k k refl) d.fits.in_chain)
                (put_same k ns (offered name) d.cell refl ∙ d.offers)
                (λ z v j o. let g = gives (is_of_group k) z v j o in same_offer p v g.cell d.cell (one g.cell d.cell (group_fits v g) d.fits) g.offers d.offers)
            pick false q = first_none (offered name) _ (λ z v j o.
                let g = gives (is_of_group k) z v j o in
                let s : g.cell ≡ d.cell = one g.cell d.cell (group_fits v g) d.fits in
                true≢false (sym (put_group g.cell g.present g.passes) ∙ (ap (λ (x : Cell). holds ns x.id.0) s ∙ subst (λ n. holds ns n ≡ false) number q)))

    -- the attached provider is the one that was, if it isn't put aside
    pub still_provider : strong_provider aside Attached m name ≡ without ns (strong_provider w Attached m name)
    still_provider = go (strong_provider w Attached m name) refl
      where
        go : (o : Option Provider) → strong_provider w Attached m name ≡ o → first_provider spaces name (filter (λ c. is_attached c.standing) aside.cells) ≡ without ns o
        go None e = first_none (offered name) _ (λ z p i o. let g = gives is_attached z p i o in has_none e g.cell p (still_fits p g) g.offers)
        go (Some p) e = pick (holds ns p.cell) refl
          where
            d : Has p
            d = has p e

            number : p.cell ≡ d.cell.id.0
            number = (offered_parts name d.cell p d.offers).0

            pick : (b : Bool) → holds ns p.cell ≡ b → first_provider spaces name (filter (λ c. is_attached c.standing) aside.cells) ≡ cond b None (Some p)
            pick false q =
                let i : holds ns d.cell.id.0 ≡ false = subst (λ n. holds ns n ≡ false) number q in
                first_only (offered name) _ (put k ns d.cell) p
                (put_There is_attached d.cell d.fits.present (ap (λ (x : Cell). is_attached x.standing) (put_out k ns d.cell i) ∙ d.fits.attached) d.fits.in_chain)
                (put_same k ns (offered name) d.cell refl ∙ d.offers)
                (λ z v j o. let g = gives is_attached z v j o in same_offer p v g.cell d.cell (one g.cell d.cell (still_fits v g) d.fits) g.offers d.offers)
            pick true q = first_none (offered name) _ (λ z v j o.
                let g = gives is_attached z v j o in
                let s : g.cell ≡ d.cell = one g.cell d.cell (still_fits v g) d.fits in
                true≢false (sym (subst (λ n. holds ns n ≡ true) number q) ∙ (ap (λ (x : Cell). holds ns x.id.0) (sym s) ∙ (put_still g.cell g.passes).0)))

    pub own_strong : strong_provider aside (Detached k) m name ≡ strong_provider w Attached m name
    own_strong =
        ap (λ o. or_else o (strong_provider aside Attached m name)) group_provider
        ∙ (ap (or_else (within ns (strong_provider w Attached m name))) still_provider ∙ either_way ns (strong_provider w Attached m name))

    -- other groups are as they were, and have none of the cells
    other_group : (j : ℕ) → (j ≡ k → ⊥) → filter (λ c. is_of_group j c.standing) (map (put k ns) w.cells) ≡ filter (λ c. is_of_group j c.standing) w.cells
    other_group j n = go w.cells (λ c i. i)
      where
        not_of : (j == k) ≡ false
        not_of = pick (j == k) refl
          where
            pick : (b : Bool) → (j == k) ≡ b → b ≡ false
            pick true e = absurd (n (eqb-true j k e))
            pick false e = refl

        flipped : (k == j) ≡ false
        flipped = pick (k == j) refl
          where
            pick : (b : Bool) → (k == j) ≡ b → b ≡ false
            pick true e = absurd (n (sym (eqb-true k j e)))
            pick false e = refl

        go : (cells : List Cell) → ((c : Cell) → In c cells → In c w.cells) → filter (λ c. is_of_group j c.standing) (map (put k ns) cells) ≡ filter (λ c. is_of_group j c.standing) cells
        go [] f = refl
        go (c ∷ cells) f = step (holds ns c.id.0) refl (go cells (λ d i. f d (inr i)))
          where
            detached : (s : Standing) → is_attached s ≡ true → is_of_group j s ≡ false
            detached Attached a = refl
            detached (Detached l) a = absurd (true≢false (sym a))

            step : (b : Bool) → holds ns c.id.0 ≡ b → filter (λ c. is_of_group j c.standing) (map (put k ns) cells) ≡ filter (λ c. is_of_group j c.standing) cells
                → filter (λ c. is_of_group j c.standing) (put k ns c ∷ map (put k ns) cells) ≡ filter (λ c. is_of_group j c.standing) (c ∷ cells)
            step true e ih =
                ap (λ (x : Cell). filter (λ c. is_of_group j c.standing) (x ∷ map (put k ns) cells)) (put_in k ns c e)
                ∙ (ap (λ b. cond b (record c { standing = Detached k } ∷ filter (λ c. is_of_group j c.standing) (map (put k ns) cells)) (filter (λ c. is_of_group j c.standing) (map (put k ns) cells))) flipped
                ∙ (ih ∙ ap (λ b. cond b (c ∷ filter (λ c. is_of_group j c.standing) cells) (filter (λ c. is_of_group j c.standing) cells)) (sym (detached c.standing (all_attached c (f c (inl refl)) e)))))
            step false e ih =
                ap (λ (x : Cell). filter (λ c. is_of_group j c.standing) (x ∷ map (put k ns) cells)) (put_out k ns c e)
                ∙ ap (λ (xs : List Cell). cond (is_of_group j c.standing) (c ∷ xs) xs) ih

    group_apart : (j : ℕ) (p : Provider) → first_provider spaces name (filter (λ c. is_of_group j c.standing) w.cells) ≡ Some p → holds ns p.cell ≡ false
    group_apart j p e =
        let f = In-filter_map (offered name) (filter (λ (c : Cell). holds spaces c.ns) (filter (λ c. is_of_group j c.standing) w.cells)) p (first-In _ p e) in
        let i : In f.0 (filter (λ c. is_of_group j c.standing) w.cells) = In-filtered (λ (c : Cell). holds spaces c.ns) (filter (λ c. is_of_group j c.standing) w.cells) f.0 f.1 in
        go f.0 (In-filtered (λ (c : Cell). is_of_group j c.standing) w.cells f.0 i) (filter-Passes (λ (c : Cell). is_of_group j c.standing) w.cells f.0 i) (offered_parts name f.0 p f.2).0
      where
        go : (c : Cell) → In c w.cells → is_of_group j c.standing ≡ true → p.cell ≡ c.id.0 → holds ns p.cell ≡ false
        go c i g n = pick (holds ns p.cell) refl
          where
            both : (s : Standing) → is_of_group j s ≡ true → is_attached s ≡ true → ⊥
            both Attached x y = true≢false (sym x)
            both (Detached l) x y = true≢false (sym y)

            pick : (b : Bool) → holds ns p.cell ≡ b → b ≡ false
            pick true e = absurd (both c.standing g (all_attached c i (subst (λ m. holds ns m ≡ true) n e)))
            pick false e = refl

    pub other_strong : (s : Standing) → is_of_group k s ≡ false → strong_provider aside s m name ≡ without ns (strong_provider w s m name)
    other_strong Attached e = still_provider
    other_strong (Detached j) e =
        ap (λ (cells : List Cell). or_else (first_provider spaces name cells) (strong_provider aside Attached m name)) (other_group j (λ q. true≢false (sym (eq-eqb j k q) ∙ e)))
        ∙ go (first_provider spaces name (filter (λ c. is_of_group j c.standing) w.cells)) refl
      where
        go : (o : Option Provider) → first_provider spaces name (filter (λ c. is_of_group j c.standing) w.cells) ≡ o → or_else o (strong_provider aside Attached m name) ≡ without ns (or_else o (strong_provider w Attached m name))
        go None q = still_provider
        go (Some p) q = sym (ap (λ b. cond b None (Some p)) (group_apart j p q))

    -- of those who hold the name weakly, the ones that are attached still are asked in the same order
    attached_left : (cells : List Cell) → filter (λ c. is_attached c.standing) (map (put k ns) cells) ≡ filter (λ c. not (holds ns c.id.0)) (filter (λ c. is_attached c.standing) cells)
    attached_left [] = refl
    attached_left (c ∷ cells) = go (holds ns c.id.0) refl (is_attached c.standing) (attached_left cells)
      where
        go : (b : Bool) → holds ns c.id.0 ≡ b → (a : Bool) → filter (λ c. is_attached c.standing) (map (put k ns) cells) ≡ filter (λ c. not (holds ns c.id.0)) (filter (λ c. is_attached c.standing) cells)
            → filter (λ c. is_attached c.standing) (put k ns c ∷ map (put k ns) cells) ≡ filter (λ c. not (holds ns c.id.0)) (filter (λ c. is_attached c.standing) (c ∷ cells))
        go true e a ih = ap (λ (x : Cell). filter (λ c. is_attached c.standing) (x ∷ map (put k ns) cells)) (put_in k ns c e) ∙ (ih ∙ sym (drop (is_attached c.standing)))
          where
            drop : (a : Bool) → filter (λ (c : Cell). not (holds ns c.id.0)) (cond a (c ∷ filter (λ c. is_attached c.standing) cells) (filter (λ c. is_attached c.standing) cells)) ≡ filter (λ c. not (holds ns c.id.0)) (filter (λ c. is_attached c.standing) cells)
            drop true = ap (λ b. cond (not b) (c ∷ filter (λ (c : Cell). not (holds ns c.id.0)) (filter (λ c. is_attached c.standing) cells)) (filter (λ (c : Cell). not (holds ns c.id.0)) (filter (λ c. is_attached c.standing) cells))) e
            drop false = refl
        go false e a ih = ap (λ (x : Cell). filter (λ c. is_attached c.standing) (x ∷ map (put k ns) cells)) (put_out k ns c e) ∙ keep (is_attached c.standing)
          where
            keep : (a : Bool) → cond a (c ∷ filter (λ (c : Cell). is_attached c.standing) (map (put k ns) cells)) (filter (λ c. is_attached c.standing) (map (put k ns) cells)) ≡ filter (λ (c : Cell). not (holds ns c.id.0)) (cond a (c ∷ filter (λ c. is_attached c.standing) cells) (filter (λ c. is_attached c.standing) cells))
            keep true =
                ap (λ (xs : List Cell). c ∷ xs) ih
                ∙ sym (ap (λ b. cond (not b) (c ∷ filter (λ (c : Cell). not (holds ns c.id.0)) (filter (λ c. is_attached c.standing) cells)) (filter (λ (c : Cell). not (holds ns c.id.0)) (filter (λ c. is_attached c.standing) cells))) e)
            keep false = ih

    weak_still : (o : Option Provider) → weak_provider w Attached m name ≡ o → ((p : Provider) → o ≡ Some p → holds ns p.cell ≡ false) → weak_provider aside Attached m name ≡ o
    weak_still o e f =
        ap (nearest_provider spaces name) (attached_left w.cells)
        ∙ nearest_stays spaces name (λ c. not (holds ns c.id.0)) (filter (λ c. is_attached c.standing) w.cells) o e (λ c p n q. ap not (subst (λ x. holds ns x ≡ false) n (f p q)))

    other_weak : (s : Standing) → is_of_group k s ≡ false → (o : Option Provider) → weak_provider w s m name ≡ o → ((p : Provider) → o ≡ Some p → holds ns p.cell ≡ false) → weak_provider aside s m name ≡ o
    other_weak Attached g o e f = weak_still o e f
    other_weak (Detached j) g o e f =
        ap (λ (cells : List Cell). or_else (nearest_provider spaces name cells) (weak_provider aside Attached m name)) (other_group j (λ q. true≢false (sym (eq-eqb j k q) ∙ g)))
        ∙ go (nearest_provider spaces name (filter (λ c. is_of_group j c.standing) w.cells)) e
      where
        go : (x : Option Provider) → or_else x (weak_provider w Attached m name) ≡ o → or_else x (weak_provider aside Attached m name) ≡ o
        go None q = weak_still o q f
        go (Some p) q = q

    -- who provides the name for a cell that isn't put aside goes on where it stays
    pub other_provider : (s : Standing) → is_of_group k s ≡ false → (o : Option Provider) → provider_for w s m name ≡ o → ((p : Provider) → o ≡ Some p → holds ns p.cell ≡ false) → provider_for aside s m name ≡ o
    other_provider s g o e f =
        ap (λ x. or_else x (weak_provider aside s m name)) (other_strong s g) ∙ go (strong_provider w s m name) e
      where
        go : (x : Option Provider) → or_else x (weak_provider w s m name) ≡ o → or_else (without ns x) (weak_provider aside s m name) ≡ o
        go None q = other_weak s g o q f
        go (Some p) q = ap (λ b. or_else (cond b None (Some p)) (weak_provider aside s m name)) (f p (sym q)) ∙ q

    -- the set's own: whom nobody attached gave the name weakly, nobody gives it still
    own_weak_none : weak_provider w Attached m name ≡ None → weak_provider aside (Detached k) m name ≡ None
    own_weak_none e =
        ap (λ x. or_else x (weak_provider aside Attached m name)) (first_none (weakly_offered name) _ none)
        ∙ weak_still None e (λ p q. let z : None ≡ Some p = q in cc)
      where
        none : (z : Cell) (v : Provider) → In z (by_spaces spaces (filter (λ c. is_of_group k c.standing) (map (put k ns) w.cells))) → weakly_offered name z ≡ Some v → ⊥
        none z v i o =
            let r = In-by_spaces spaces (filter (λ c. is_of_group k c.standing) (map (put k ns) w.cells)) z i in
            let c = In-map (put k ns) w.cells z (In-filtered (λ (c : Cell). is_of_group k c.standing) (map (put k ns) w.cells) z r.0) in
            let g : is_of_group k (put k ns c.0).standing ≡ true = subst (λ (x : Cell). is_of_group k x.standing ≡ true) c.2 (filter-Passes (λ (c : Cell). is_of_group k c.standing) (map (put k ns) w.cells) z r.0) in
            let a : is_attached c.0.standing ≡ true = all_attached c.0 c.1 (put_group c.0 c.1 g) in
            let n : holds spaces c.0.ns ≡ true = sym (put_same k ns (λ x. holds spaces x.ns) c.0 refl) ∙ subst (λ (x : Cell). holds spaces x.ns ≡ true) c.2 r.1 in
            let f : weakly_offered name c.0 ≡ Some v = sym (put_same k ns (weakly_offered name) c.0 refl) ∙ subst (λ (x : Cell). weakly_offered name x ≡ Some v) c.2 o in
            let j : In c.0 (by_spaces spaces (filter (λ c. is_attached c.standing) w.cells)) = by_spaces-In spaces (filter (λ c. is_attached c.standing) w.cells) c.0 (filter-In (λ (c : Cell). is_attached c.standing) w.cells c.0 c.1 a) n in
            let h = first_has (filter_map (weakly_offered name) (by_spaces spaces (filter (λ c. is_attached c.standing) w.cells))) v (filter_map-In (weakly_offered name) (by_spaces spaces (filter (λ c. is_attached c.standing) w.cells)) c.0 v j f) in
            let q : None ≡ Some h.0 = sym e ∙ h.1 in cc

    -- where nobody of the set holds the name weakly, the set goes on asking the others
    own_weak_kept : ((c : Cell) → In c w.cells → holds ns c.id.0 ≡ true → weak_symbol_named c name ≡ None) → (o : Option Provider) → weak_provider w Attached m name ≡ o → ((p : Provider) → o ≡ Some p → holds ns p.cell ≡ false)
        → weak_provider aside (Detached k) m name ≡ o
    own_weak_kept f o e g = ap (λ x. or_else x (weak_provider aside Attached m name)) (first_none (weakly_offered name) _ none) ∙ weak_still o e g
      where
        none : (z : Cell) (v : Provider) → In z (by_spaces spaces (filter (λ c. is_of_group k c.standing) (map (put k ns) w.cells))) → weakly_offered name z ≡ Some v → ⊥
        none z v i o =
            let r = In-by_spaces spaces (filter (λ c. is_of_group k c.standing) (map (put k ns) w.cells)) z i in
            let c = In-map (put k ns) w.cells z (In-filtered (λ (c : Cell). is_of_group k c.standing) (map (put k ns) w.cells) z r.0) in
            let q : is_of_group k (put k ns c.0).standing ≡ true = subst (λ (x : Cell). is_of_group k x.standing ≡ true) c.2 (filter-Passes (λ (c : Cell). is_of_group k c.standing) (map (put k ns) w.cells) z r.0) in
            let s : weakly_offered name c.0 ≡ Some v = sym (put_same k ns (weakly_offered name) c.0 refl) ∙ subst (λ (x : Cell). weakly_offered name x ≡ Some v) c.2 o in
            let n : weakly_offered name c.0 ≡ None = ap (option_map {T = ℕ} {U = Provider} (λ symbol. record { cell = c.0.id.0; symbol = symbol })) (f c.0 c.1 (put_group c.0 c.1 q)) in
            let t : None ≡ Some v = sym n ∙ s in cc

    pub own_kept : ((c : Cell) → In c w.cells → holds ns c.id.0 ≡ true → weak_symbol_named c name ≡ None) → (p : Provider) → provider_for w Attached m name ≡ Some p → holds ns p.cell ≡ false → provider_for aside (Detached k) m name ≡ Some p
    own_kept f p e o = ap (λ x. or_else x (weak_provider aside (Detached k) m name)) own_strong ∙ go (strong_provider w Attached m name) e
      where
        go : (x : Option Provider) → or_else x (weak_provider w Attached m name) ≡ Some p → or_else x (weak_provider aside (Detached k) m name) ≡ Some p
        go (Some r) q = q
        go None q = own_weak_kept f (Some p) q (λ r s. let z : p ≡ r = cc in subst (λ (x : Provider). holds ns x.cell ≡ false) z o)

    -- and whom nobody gave the name at all
    pub own_none : provider_for w Attached m name ≡ None → provider_for aside (Detached k) m name ≡ None
    own_none e = ap (λ x. or_else x (weak_provider aside (Detached k) m name)) own_strong ∙ go (strong_provider w Attached m name) e
      where
        go : (x : Option Provider) → or_else x (weak_provider w Attached m name) ≡ None → or_else x (weak_provider aside (Detached k) m name) ≡ None
        go None q = own_weak_none q
        go (Some r) q = let z : Some r ≡ None = q in cc

    own_weak_some : IsSome (weak_provider w Attached m name) → IsSome (weak_provider aside (Detached k) m name)
    own_weak_some h = go (holds ns c.0.id.0) refl
      where
        c : (c : Cell) × In c (by_spaces spaces (filter (λ c. is_attached c.standing) w.cells)) × (weakly_offered name c ≡ Some h.0)
        c = In-filter_map (weakly_offered name) (by_spaces spaces (filter (λ c. is_attached c.standing) w.cells)) h.0 (first-In _ h.0 h.1)

        r : In c.0 (filter (λ c. is_attached c.standing) w.cells) × (holds spaces c.0.ns ≡ true)
        r = In-by_spaces spaces (filter (λ c. is_attached c.standing) w.cells) c.0 c.1

        present : In c.0 w.cells
        present = In-filtered (λ (c : Cell). is_attached c.standing) w.cells c.0 r.0

        among : (test : Standing → Bool) → test (put k ns c.0).standing ≡ true → IsSome (nearest_provider spaces name (filter (λ c. test c.standing) aside.cells))
        among test t =
            first_has (filter_map (weakly_offered name) (by_spaces spaces (filter (λ c. test c.standing) (map (put k ns) w.cells)))) h.0
            (filter_map-In (weakly_offered name) (by_spaces spaces (filter (λ c. test c.standing) (map (put k ns) w.cells))) (put k ns c.0) h.0
            (by_spaces-In spaces (filter (λ c. test c.standing) (map (put k ns) w.cells)) (put k ns c.0)
            (filter-In (λ (c : Cell). test c.standing) (map (put k ns) w.cells) (put k ns c.0) (map-In (put k ns) w.cells c.0 present) t)
            (put_same k ns (λ x. holds spaces x.ns) c.0 refl ∙ r.1))
            (put_same k ns (weakly_offered name) c.0 refl ∙ c.2))

        go : (b : Bool) → holds ns c.0.id.0 ≡ b → IsSome (weak_provider aside (Detached k) m name)
        go true e = or_else_has (nearest_provider spaces name (filter (λ c. is_of_group k c.standing) aside.cells)) (weak_provider aside Attached m name)
            (inl (among (is_of_group k) (ap (λ (x : Cell). is_of_group k x.standing) (put_in k ns c.0 e) ∙ eq-eqb k k refl)))
        go false e = or_else_has (nearest_provider spaces name (filter (λ c. is_of_group k c.standing) aside.cells)) (weak_provider aside Attached m name)
            (inr (among is_attached (ap (λ (x : Cell). is_attached x.standing) (put_out k ns c.0 e) ∙ filter-Passes (λ (c : Cell). is_attached c.standing) w.cells c.0 r.0)))

    own_some : IsSome (provider_for w Attached m name) → IsSome (provider_for aside (Detached k) m name)
    own_some h = or_else_has (strong_provider aside (Detached k) m name) (weak_provider aside (Detached k) m name)
        (go (or_else_from (strong_provider w Attached m name) (weak_provider w Attached m name) h.0 h.1))
      where
        go : (strong_provider w Attached m name ≡ Some h.0) ⊎ ((strong_provider w Attached m name ≡ None) × (weak_provider w Attached m name ≡ Some h.0))
            → IsSome (strong_provider aside (Detached k) m name) ⊎ IsSome (weak_provider aside (Detached k) m name)
        go (inl e) = inl (h.0, own_strong ∙ e)
        go (inr e) = inr (own_weak_some (h.0, e.1))

  -- whoever provides a name for a cell that isn't put aside isn't either
  asked_out : (s : Standing) → is_of_group k s ≡ false → (p : Provider) → IsAsked aside s p → holds ns p.cell ≡ false
  asked_out s g p r = go (holds ns p.cell) refl
    where
      flipped : (j : ℕ) → (j == k) ≡ false → (k == j) ≡ false
      flipped j e = pick (k == j) refl
        where
          pick : (b : Bool) → (k == j) ≡ b → b ≡ false
          pick true x = absurd (true≢false (sym (eq-eqb j k (sym (eqb-true k j x))) ∙ e))
          pick false x = refl

      unasked : (s : Standing) → is_of_group k s ≡ false → asks s (Detached k) ≡ false
      unasked Attached e = refl
      unasked (Detached j) e = ap (λ b. b || false) (flipped j e)

      c : (c : Cell) × In c w.cells × (r.0 ≡ put k ns c)
      c = In-map (put k ns) w.cells r.0 r.1

      number : p.cell ≡ c.0.id.0
      number = r.2 ∙ (ap (λ (x : Cell). x.id.0) c.2 ∙ put_same k ns (λ x. x.id.0) c.0 refl)

      go : (b : Bool) → holds ns p.cell ≡ b → b ≡ false
      go false e = refl
      go true e = absurd (true≢false (sym r.3 ∙ (ap (λ (x : Cell). asks s x.standing) (c.2 ∙ put_in k ns c.0 (subst (λ n. holds ns n ≡ true) number e)) ∙ unasked s g)))

  -- one that is put aside is found by its number, and where it was
  cell_aside : (n : ℕ) → cell_of aside n ≡ option_map (put k ns) (cell_of w n)
  cell_aside n =
      find_map (λ c. c.id.0 == n) (put k ns) w.cells
      ∙ ap (option_map (put k ns)) (find_equal (λ c. (put k ns c).id.0 == n) (λ c. c.id.0 == n) w.cells (λ c. put_same k ns (λ x. x.id.0 == n) c refl))

  abbrev symbol_in : Provider → Cell → Option Target
  symbol_in p c = option_and_then (λ s. own_target c.placed s s.home) (symbol_at c.object p.symbol)

  pub provided_aside : (p : Provider) → provided_target aside p ≡ provided_target w p
  provided_aside p = ap (option_and_then (symbol_in p)) (cell_aside p.cell) ∙ go (cell_of w p.cell)
    where
      go : (o : Option Cell) → option_and_then (symbol_in p) (option_map (put k ns) o) ≡ option_and_then (symbol_in p) o
      go None = refl
      go (Some c) = put_same k ns (symbol_in p) c refl

  attached_is : (s : Standing) → is_attached s ≡ true → s ≡ Attached
  attached_is Attached e = refl
  attached_is (Detached l) e = absurd (true≢false (sym e))

  module _ (c : Cell) (i : In c w.cells) where
    attached_in : holds ns c.id.0 ≡ true → c.standing ≡ Attached
    attached_in in_set = attached_is c.standing (all_attached c i in_set)

    -- the set's own needs
    pub own_needs : holds ns c.id.0 ≡ true → (name : List ℕ) → IsSome (provider_of w c name) → IsSome (provider_of aside (put k ns c) name)
    own_needs in_set name f =
        subst (λ (x : Cell). IsSome (provider_of aside x name)) (sym (put_in k ns c in_set))
        (own_some c.ns name (subst (λ (x : Standing). IsSome (provider_for w x c.ns name)) (attached_in in_set) f))

    -- what is given is what was given, wherever whoever gives it stands
    given_aside : (o : Option Provider) → option_and_then (provided_target aside) o ≡ option_and_then (provided_target w) o
    given_aside None = refl
    given_aside (Some p) = provided_aside p

    -- a provider's symbol is in a section of its cell
    given_in : (p : Provider) → Provides w p → (other : Option Target) → (or_else (provided_target w p) other ≡ provided_target w p) × (is_target_in ns (provided_target w p) ≡ holds ns p.cell)
    given_in p r other =
        let q : IsInProvider w p = provided w h p r in
        (ap (λ o. or_else o other) q.3 ∙ sym q.3, ap (is_target_in ns) q.3 ∙ ap (holds ns) q.4)

    -- the set's own entries
    module _ (in_set : holds ns c.id.0 ≡ true) where
      abbrev own : Cell
      own = record c { standing = Detached k }

      strong_is : (name : List ℕ) → strong_provider aside (Detached k) c.ns name ≡ strong_provider w c.standing c.ns name
      strong_is name = own_strong c.ns name ∙ ap (λ (x : Standing). strong_provider w x c.ns name) (sym (attached_in in_set))

      own_asked : (s : Symbol) (b : Bool) → cond b None (weak_given w c s (strong_provider w c.standing c.ns s.name)) ≡ None
          → option_and_then (provided_target aside) (cond b None (provider_for aside (Detached k) c.ns s.name)) ≡ option_and_then (provided_target w) (cond b None (provider_of w c s.name))
      own_asked s true e = refl
      own_asked s false e =
          ap (λ o. option_and_then (provided_target aside) (or_else o (weak_provider aside (Detached k) c.ns s.name))) (strong_is s.name)
          ∙ go (strong_provider w c.standing c.ns s.name) e (weak_provider w c.standing c.ns s.name) refl
        where
          go : (o : Option Provider) → weak_given w c s o ≡ None → (x : Option Provider) → weak_provider w c.standing c.ns s.name ≡ x
              → option_and_then (provided_target aside) (or_else o (weak_provider aside (Detached k) c.ns s.name)) ≡ option_and_then (provided_target w) (or_else o (weak_provider w c.standing c.ns s.name))
          go (Some p) q x y = provided_aside p
          go None q None y =
              ap (option_and_then (provided_target aside)) (own_weak_none c.ns s.name (subst (λ (z : Standing). weak_provider w z c.ns s.name ≡ None) (attached_in in_set) y))
              ∙ ap (option_and_then (provided_target w)) (sym y)
          go None q (Some p) y =
              let i : IsInProvider w p = provided w h p (weak_provides w c.standing c.ns s.name p y) in
              let z : None ≡ Some (Section i.0 i.1 i.2) = sym q ∙ (ap (option_and_then (provided_target w)) y ∙ i.3) in cc

      own_symbol : (s : Symbol) (home : Home) → weak_symbol_target w c s home ≡ None → symbol_target aside own s home ≡ symbol_target w c s home
      own_symbol s Abs e = refl
      own_symbol s (Inside n) e =
          ap (λ (o : Option Provider). or_else (option_and_then (provided_target aside) (cond (is_weak s.bind) o None)) (own_target c.placed s (Inside n))) (strong_is s.name)
          ∙ ap (λ (o : Option Target). or_else o (own_target c.placed s (Inside n))) (given_aside (cond (is_weak s.bind) (strong_provider w c.standing c.ns s.name) None))
      own_symbol s Elsewhere e = refl
      own_symbol s Undef e = ap (λ (o : Option Target). or_else o (unasked_target c s Undef)) (own_asked s (is_local s.bind) e)

      own_numbered : (n : ℕ) → weak_numbered_target w c n ≡ None → numbered_target aside own n ≡ numbered_target w c n
      own_numbered zero e = refl
      own_numbered (suc n) e = go (slice_get c.object.symbols n) e
        where
          go : (o : Option Symbol) → option_and_then (λ s. weak_symbol_target w c s s.home) o ≡ None → option_and_then (λ s. symbol_target aside own s s.home) o ≡ option_and_then (λ s. symbol_target w c s s.home) o
          go None e = refl
          go (Some s) e = own_symbol s s.home e

      -- at most what a weak holder gave changes
      pub own_same : (e : Entry) → weak_target w c e ≡ None → target_of aside (put k ns c) e ≡ target_of w c e
      own_same e f = ap (λ (x : Cell). target_of aside x e) (put_in k ns c in_set) ∙ go (naming_entry c.object e) f
        where
          go : (o : Option Entry) → option_and_then (λ (n : Entry). weak_numbered_target w c n.symbol) o ≡ None
              → option_and_then (λ (n : Entry). numbered_target aside own n.symbol) o ≡ option_and_then (λ (n : Entry). numbered_target w c n.symbol) o
          go None e = refl
          go (Some n) e = own_numbered n.symbol e

      given_own : (s : Symbol) → strong_given aside own s ≡ strong_given w c s
      given_own s = ap (option_and_then (provided_target aside)) (strong_is s.name) ∙ given_aside (strong_provider w c.standing c.ns s.name)

      firm_own_symbol : (s : Symbol) (home : Home) → firm_symbol_target aside own s home ≡ firm_symbol_target w c s home
      firm_own_symbol s Abs = refl
      firm_own_symbol s (Inside n) = ap (λ (o : Option Target). cond (is_weak s.bind) o (own_target c.placed s (Inside n))) (given_own s)
      firm_own_symbol s Elsewhere = refl
      firm_own_symbol s Undef = ap (λ (o : Option Target). cond (is_local s.bind) None o) (given_own s)

      firm_own_numbered : (n : ℕ) → firm_numbered_target aside own n ≡ firm_numbered_target w c n
      firm_own_numbered zero = refl
      firm_own_numbered (suc n) = go (slice_get c.object.symbols n)
        where
          go : (o : Option Symbol) → option_and_then (λ s. firm_symbol_target aside own s s.home) o ≡ option_and_then (λ s. firm_symbol_target w c s s.home) o
          go None = refl
          go (Some s) = firm_own_symbol s s.home

      -- what is firm is the same
      pub firm_own : (e : Entry) → firm_target aside (put k ns c) e ≡ firm_target w c e
      firm_own e = ap (λ (x : Cell). firm_target aside x e) (put_in k ns c in_set) ∙ go (naming_entry c.object e)
        where
          go : (o : Option Entry) → option_and_then (λ (n : Entry). firm_numbered_target aside own n.symbol) o ≡ option_and_then (λ (n : Entry). firm_numbered_target w c n.symbol) o
          go None = refl
          go (Some n) = firm_own_numbered n.symbol

    -- and all other entries
    module _ (not_in_set : holds ns c.id.0 ≡ false) where
      -- where the target isn't in the set
      kept_asked : (a b : Option Provider) (other : Option Target) → ((p : Provider) → a ≡ Some p → Provides w p) → (((p : Provider) → a ≡ Some p → holds ns p.cell ≡ false) → b ≡ a)
          → is_target_in ns (or_else (option_and_then (provided_target w) a) other) ≡ false → or_else (option_and_then (provided_target aside) b) other ≡ or_else (option_and_then (provided_target w) a) other
      kept_asked None b other r f e = ap (λ (o : Option Provider). or_else (option_and_then (provided_target aside) o) other) (f (λ p q. let z : None ≡ Some p = q in cc))
      kept_asked (Some p) b other r f e =
          let g = given_in p (r p refl) other in
          let out : holds ns p.cell ≡ false = sym g.1 ∙ (ap (is_target_in ns) (sym g.0) ∙ e) in
          ap (λ (o : Option Provider). or_else (option_and_then (provided_target aside) o) other) (f (λ q y. let z : p ≡ q = cc in subst (λ (x : Provider). holds ns x.cell ≡ false) z out))
          ∙ ap (λ o. or_else o other) (provided_aside p)

      strong_kept : (name : List ℕ) → ((p : Provider) → strong_provider w c.standing c.ns name ≡ Some p → holds ns p.cell ≡ false) → strong_provider aside c.standing c.ns name ≡ strong_provider w c.standing c.ns name
      strong_kept name f = other_strong c.ns name c.standing (new_group c i) ∙ go (strong_provider w c.standing c.ns name) f
        where
          go : (o : Option Provider) → ((p : Provider) → o ≡ Some p → holds ns p.cell ≡ false) → without ns o ≡ o
          go None f = refl
          go (Some p) f = ap (λ b. cond b None (Some p)) (f p refl)

      kept_symbol : (s : Symbol) (home : Home) → is_target_in ns (symbol_target w c s home) ≡ false → symbol_target aside c s home ≡ symbol_target w c s home
      kept_symbol s Abs e = refl
      kept_symbol s Elsewhere e = refl
      kept_symbol s (Inside n) e = go (is_weak s.bind) e
        where
          go : (b : Bool) → is_target_in ns (or_else (option_and_then (provided_target w) (cond b (strong_provider w c.standing c.ns s.name) None)) (own_target c.placed s (Inside n))) ≡ false
              → or_else (option_and_then (provided_target aside) (cond b (strong_provider aside c.standing c.ns s.name) None)) (own_target c.placed s (Inside n))
              ≡ or_else (option_and_then (provided_target w) (cond b (strong_provider w c.standing c.ns s.name) None)) (own_target c.placed s (Inside n))
          go true q = kept_asked (strong_provider w c.standing c.ns s.name) (strong_provider aside c.standing c.ns s.name) (own_target c.placed s (Inside n)) (strong_provides w c.standing c.ns s.name) (strong_kept s.name) q
          go false q = refl
      kept_symbol s Undef e = go (is_local s.bind) e
        where
          go : (b : Bool) → is_target_in ns (or_else (option_and_then (provided_target w) (cond b None (provider_of w c s.name))) (unasked_target c s Undef)) ≡ false
              → or_else (option_and_then (provided_target aside) (cond b None (provider_of aside c s.name))) (unasked_target c s Undef)
              ≡ or_else (option_and_then (provided_target w) (cond b None (provider_of w c s.name))) (unasked_target c s Undef)
          go true q = refl
          go false q = kept_asked (provider_of w c s.name) (provider_of aside c s.name) (unasked_target c s Undef) (provides w c.standing c.ns s.name) (other_provider c.ns s.name c.standing (new_group c i) (provider_of w c s.name) refl) q

      kept_numbered : (n : ℕ) → is_target_in ns (numbered_target w c n) ≡ false → numbered_target aside c n ≡ numbered_target w c n
      kept_numbered zero e = refl
      kept_numbered (suc n) e = go (slice_get c.object.symbols n) e
        where
          go : (o : Option Symbol) → is_target_in ns (option_and_then (λ s. symbol_target w c s s.home) o) ≡ false → option_and_then (λ s. symbol_target aside c s s.home) o ≡ option_and_then (λ s. symbol_target w c s s.home) o
          go None e = refl
          go (Some s) e = kept_symbol s s.home e

      pub others_keep : (e : Entry) → is_target_in ns (target_of w c e) ≡ false → target_of aside (put k ns c) e ≡ target_of w c e
      others_keep e f = ap (λ (x : Cell). target_of aside x e) (put_out k ns c not_in_set) ∙ go (naming_entry c.object e) f
        where
          go : (o : Option Entry) → is_target_in ns (option_and_then (λ (n : Entry). numbered_target w c n.symbol) o) ≡ false
              → option_and_then (λ (n : Entry). numbered_target aside c n.symbol) o ≡ option_and_then (λ (n : Entry). numbered_target w c n.symbol) o
          go None e = refl
          go (Some n) e = kept_numbered n.symbol e

      given_kept : (s : Symbol) (t : Target) → strong_given w c s ≡ Some t → is_target_in ns (Some t) ≡ false → strong_given aside c s ≡ Some t
      given_kept s t e o = go (strong_provider w c.standing c.ns s.name) refl e
        where
          go : (x : Option Provider) → strong_provider w c.standing c.ns s.name ≡ x → option_and_then (provided_target w) x ≡ Some t → option_and_then (provided_target aside) (strong_provider aside c.standing c.ns s.name) ≡ Some t
          go None y q = cc
          go (Some p) y q =
              let g = given_in p (strong_provides w c.standing c.ns s.name p y) None in
              let out : holds ns p.cell ≡ false = sym g.1 ∙ (ap (is_target_in ns) q ∙ o) in
              ap (option_and_then (provided_target aside)) (other_strong c.ns s.name c.standing (new_group c i) ∙ (ap (without ns) y ∙ ap (λ b. cond b None (Some p)) out))
              ∙ (provided_aside p ∙ q)

      firm_kept_symbol : (s : Symbol) (home : Home) (t : Target) → firm_symbol_target w c s home ≡ Some t → is_target_in ns (Some t) ≡ false → firm_symbol_target aside c s home ≡ Some t
      firm_kept_symbol s Abs t e o = e
      firm_kept_symbol s Elsewhere t e o = e
      firm_kept_symbol s (Inside n) t e o = go (is_weak s.bind) e
        where
          go : (b : Bool) → cond b (strong_given w c s) (own_target c.placed s (Inside n)) ≡ Some t → cond b (strong_given aside c s) (own_target c.placed s (Inside n)) ≡ Some t
          go true q = given_kept s t q o
          go false q = q
      firm_kept_symbol s Undef t e o = go (is_local s.bind) e
        where
          go : (b : Bool) → cond b None (strong_given w c s) ≡ Some t → cond b None (strong_given aside c s) ≡ Some t
          go true q = q
          go false q = given_kept s t q o

      firm_kept_numbered : (n : ℕ) (t : Target) → firm_numbered_target w c n ≡ Some t → is_target_in ns (Some t) ≡ false → firm_numbered_target aside c n ≡ Some t
      firm_kept_numbered zero t e o = e
      firm_kept_numbered (suc n) t e o = go (slice_get c.object.symbols n) e
        where
          go : (x : Option Symbol) → option_and_then (λ s. firm_symbol_target w c s s.home) x ≡ Some t → option_and_then (λ s. firm_symbol_target aside c s s.home) x ≡ Some t
          go None q = q
          go (Some s) q = firm_kept_symbol s s.home t q o

      -- what is firm and not in the set stays firm
      pub firm_kept : (e : Entry) (t : Target) → firm_target w c e ≡ Some t → is_target_in ns (Some t) ≡ false → firm_target aside (put k ns c) e ≡ Some t
      firm_kept e t f o = ap (λ (x : Cell). firm_target aside x e) (put_out k ns c not_in_set) ∙ go (naming_entry c.object e) f
        where
          go : (x : Option Entry) → option_and_then (λ (n : Entry). firm_numbered_target w c n.symbol) x ≡ Some t → option_and_then (λ (n : Entry). firm_numbered_target aside c n.symbol) x ≡ Some t
          go None q = q
          go (Some n) q = firm_kept_numbered n.symbol t q o

      -- no other entry names anything in the set any more
      pub others_out : (e : Entry) → is_target_in ns (target_of aside (put k ns c) e) ≡ false
      others_out e = ap (λ (x : Cell). is_target_in ns (target_of aside x e)) (put_out k ns c not_in_set) ∙ target_out aside ns c not_in_set (asked_out c.standing (new_group c i)) e
