-- Attached cells that stand in no namespace of a cell's chain change nothing that the cell's entries name.
use Rattle.std.proofs.Common.{◌≡◌, refl, sym, ◌∙◌, ap, ap₂, subst, ℕ, Bool, true, false, List, ◌++◌, true≢false, Option, Some, None}
use Rattle.std.specs.Prelude.{filter, filter_map, option_and_then, ◌==◌}
use Rattle.std.proofs.lemmas.Bool.{eqb-true, false_from_ne_true}
use Rattle.std.proofs.lemmas.List.{append-nil}
use Rattle.std.proofs.lemmas.List.Elements.{filter-append}
use Rattle.cell_num.specs.Lists.{each_pair, first, holds, or_else, In}
use Rattle.cell_object.specs.declared.object.Entry.{Entry}
use Rattle.cell_object.specs.Parts.{symbol_at}
use Rattle.std.specs.Prelude.{nat_lt}
use Rattle.cell_world.specs.declared.state.Standing.TheVariants.{Attached, Detached}
use Rattle.cell_world.specs.World.{World, Cell, Standing, cell_of, is_attached, is_of_group}
use Rattle.cell_world.specs.Names.{Provider, chain, first_provider, nearest_provider, provider_for, provider_of, strong_provider, weak_provider}
use Rattle.cell_world.specs.Linked.Target.{own_target, provided_target, target_of}
use Rattle.cell_num.proofs.Elements.{In-filtered, filter_none, flat_same}
use Rattle.cell_lemmas.specs.Grown.{HasAttached}
use Rattle.cell_lemmas.proofs.Holding.KeptPaths.{In-holds}
use Rattle.cell_lemmas.proofs.Naming.Asked.{IsAsked, provider_asks, strong_asks, weakly_offered}
use Rattle.cell_lemmas.proofs.Naming.Attach.{Grows, cell_grown, same_group}
use Rattle.cell_lemmas.proofs.Naming.Unique.{offered}
use Rattle.cell_lemmas.proofs.Targeting.Targets.{In-find}
use Rattle.cell_isolation_laws.proofs.Given.{given_target}

module _ (v w : World) (new : List Cell) (a : HasAttached v w new) (order : each_pair (λ (x y : Cell). nat_lt x.id.0 y.id.0) v.cells ≡ true) where
  grows : Grows v w
  grows = record { spaces = λ ns k. ap (λ spaces. chain spaces ns) a.spaces; new = new; cells = a.cells; attached = a.attached }

  module _ (c : Cell) (apart : (d : Cell) → In d new → holds (chain v.namespaces c.ns) d.ns ≡ false) where
    abbrev path : List ℕ
    path = chain v.namespaces c.ns

    same_path : chain w.namespaces c.ns ≡ path
    same_path = ap (λ spaces. chain spaces c.ns) a.spaces

    abbrev there : World → List Cell
    there u = filter (λ (d : Cell). is_attached d.standing) u.cells

    -- of those that are attached, a test that no new one passes picks the same
    picked : (p : Cell → Bool) → ((d : Cell) → In d new → p d ≡ false) → filter p (there w) ≡ filter p (there v)
    picked p none =
        ap (λ (cs : List Cell). filter p (filter (λ (d : Cell). is_attached d.standing) cs)) a.cells
        ∙ (ap (filter p) (filter-append (λ (d : Cell). is_attached d.standing) v.cells new)
        ∙ (filter-append p (there v) (filter (λ (d : Cell). is_attached d.standing) new)
        ∙ (ap (λ (cs : List Cell). filter p (there v) ++ cs) (filter_none p (filter (λ (d : Cell). is_attached d.standing) new) (λ d i. none d (In-filtered (λ (x : Cell). is_attached x.standing) new d i)))
        ∙ append-nil (filter p (there v)))))

    in_space : (m : ℕ) → holds path m ≡ true → filter (λ (d : Cell). d.ns == m) (there w) ≡ filter (λ (d : Cell). d.ns == m) (there v)
    in_space m on = picked (λ (d : Cell). d.ns == m)
        (λ d i. false_from_ne_true (d.ns == m) (λ e. true≢false (sym on ∙ subst (λ n. holds path n ≡ false) (eqb-true d.ns m e) (apart d i))))

    strong_attached : (name : List ℕ) → strong_provider w Attached c.ns name ≡ strong_provider v Attached c.ns name
    strong_attached name =
        ap (λ (xs : List ℕ). first_provider xs name (there w)) same_path
        ∙ ap (λ (cs : List Cell). first (filter_map (offered name) cs)) (picked (λ (d : Cell). holds path d.ns) apart)

    strong_same : (s : Standing) (name : List ℕ) → strong_provider w s c.ns name ≡ strong_provider v s c.ns name
    strong_same Attached name = strong_attached name
    strong_same (Detached k) name =
        ap₂ (λ (x y : Option Provider). or_else x y)
        (ap (λ (xs : List ℕ). first_provider xs name (filter (λ (d : Cell). is_of_group k d.standing) w.cells)) same_path ∙ ap (first_provider path name) (same_group v w grows k))
        (strong_attached name)

    weak_attached : (name : List ℕ) → weak_provider w Attached c.ns name ≡ weak_provider v Attached c.ns name
    weak_attached name =
        ap (λ (xs : List ℕ). nearest_provider xs name (there w)) same_path
        ∙ ap (λ (cs : List Cell). first (filter_map (weakly_offered name) cs))
        (flat_same (λ m. filter (λ (d : Cell). d.ns == m) (there w)) (λ m. filter (λ (d : Cell). d.ns == m) (there v)) path (λ m i. in_space m (In-holds path m i)))

    weak_same : (s : Standing) (name : List ℕ) → weak_provider w s c.ns name ≡ weak_provider v s c.ns name
    weak_same Attached name = weak_attached name
    weak_same (Detached k) name =
        ap₂ (λ (x y : Option Provider). or_else x y)
        (ap (λ (xs : List ℕ). nearest_provider xs name (filter (λ (d : Cell). is_of_group k d.standing) w.cells)) same_path ∙ ap (nearest_provider path name) (same_group v w grows k))
        (weak_attached name)

    whole_same : (s : Standing) (name : List ℕ) → provider_for w s c.ns name ≡ provider_for v s c.ns name
    whole_same s name = ap₂ (λ (x y : Option Provider). or_else x y) (strong_same s name) (weak_same s name)

    -- who provides a name has its symbol where it had it
    provided : (s : Standing) (p : Provider) → IsAsked v s p → provided_target w p ≡ provided_target v p
    provided s p d =
        let found : cell_of v d.0.id.0 ≡ Some d.0 = In-find v.cells order d.0 d.1 in
        ap (option_and_then (λ x. option_and_then (λ y. own_target x.placed y y.home) (symbol_at x.object p.symbol)))
        (ap (cell_of w) d.2 ∙ (cell_grown v w grows d.0.id.0 d.0 found ∙ (sym found ∙ sym (ap (cell_of v) d.2))))

    pub unmoved : (e : Entry) → target_of w c e ≡ target_of v c e
    unmoved = given_target v w c
        (λ name. ap (option_and_then (provided_target w)) (strong_same c.standing name) ∙ strong_given name (strong_provider v c.standing c.ns name) refl)
        (λ name. ap (option_and_then (provided_target w)) (whole_same c.standing name) ∙ whole_given name (provider_of v c name) refl)
      where
        strong_given : (name : List ℕ) (o : Option Provider) → strong_provider v c.standing c.ns name ≡ o → option_and_then (provided_target w) o ≡ option_and_then (provided_target v) o
        strong_given name None e = refl
        strong_given name (Some p) e = provided c.standing p (strong_asks v c.standing c.ns name p e)

        whole_given : (name : List ℕ) (o : Option Provider) → provider_of v c name ≡ o → option_and_then (provided_target w) o ≡ option_and_then (provided_target v) o
        whole_given name None e = refl
        whole_given name (Some p) e = provided c.standing p (provider_asks v c.standing c.ns name p e)
