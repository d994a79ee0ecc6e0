-- Chains, link by link.
use Rattle.std.proofs.Common.{◌≡◌, ◌≢◌, ◌⊎◌, inl, inr, ℕ, suc, true, false, cond, eqb, List, [], ◌∷◌, Option, Some, None, length, refl, sym, ap, subst, ◌∙◌, arith, tests}
use Rattle.std.specs.Prelude.{option_map}
use Rattle.std.proofs.lemmas.Bool.{cases_eq}
use Rattle.std.proofs.lemmas.Option.{same_Some}
use Rattle.cell_num.specs.declared.ids.SecKey.{SecKey}
use Rattle.cell_graph.specs.declared.rows.ChainRow.{ChainRow}
use Rattle.cell_graph.specs.Chains.{Has, Lacks, IsApart, IsAt, IsLinked}
use Rattle.cell_graph.specs.Edits.{edited, without, placed}
use Rattle.cell_graph.specs.Skips.{skip, less}

-- tests on places
pub eqb_yes : (a b : ℕ) → a ≡ b → eqb a b ≡ true
eqb_yes a b h = grind (arith, tests)

pub eqb_no : (a b : ℕ) → a ≢ b → eqb a b ≡ false
eqb_no a b h = grind (arith, tests)

pub none_some : {A : Type 0} (a : A) (o : Option A) → o ≡ None → o ≡ Some a → ⊥
none_some a o h k = absurd (cc)

-- whether a place is named
pub named : (o : Option ℕ) (p : ℕ) → (o ≡ Some p) ⊎ (o ≢ Some p)
named None p = inr (λ h. absurd (cc h))
named (Some q) p = elim (cases_eq q p) [ inl same ↦ inl (ap Some same) | inr other ↦ inr (λ h. other (same_Some q p h)) ]

pub skip_hit : (o : Option ℕ) (place : ℕ) (x : Option ℕ) → o ≡ Some place → skip o place x ≡ x
skip_hit None place x h = absurd (cc h)
skip_hit (Some q) place x h = ap (λ b. cond b x (Some q)) (eqb_yes q place (same_Some q place h))

pub skip_miss : (o : Option ℕ) (place : ℕ) (x : Option ℕ) → o ≢ Some place → skip o place x ≡ o
skip_miss None place x h = refl
skip_miss (Some q) place x h = ap (λ b. cond b x (Some q)) (eqb_no q place (λ e. h (ap Some e)))

pub edited_hit : (at : ℕ → Option ChainRow) (o : Option ℕ) (change : ChainRow → ChainRow) (p : ℕ) → o ≡ Some p → edited at o change p ≡ option_map change (at p)
edited_hit at None change p h = absurd (cc h)
edited_hit at (Some q) change p h = ap (λ b. cond b (option_map change (at p)) (at p)) (eqb_yes p q (sym (same_Some q p h)))

pub edited_miss : (at : ℕ → Option ChainRow) (o : Option ℕ) (change : ChainRow → ChainRow) (p : ℕ) → o ≢ Some p → edited at o change p ≡ at p
edited_miss at None change p h = refl
edited_miss at (Some q) change p h = ap (λ b. cond b (option_map change (at p)) (at p)) (eqb_no p q (λ e. h (ap Some (sym e))))

pub without_hit : (at : ℕ → Option ChainRow) (place p : ℕ) → p ≡ place → without at place p ≡ None
without_hit at place p h = ap (λ b. cond b None (at p)) (eqb_yes p place h)

pub without_miss : (at : ℕ → Option ChainRow) (place p : ℕ) → p ≢ place → without at place p ≡ at p
without_miss at place p h = ap (λ b. cond b None (at p)) (eqb_no p place h)

pub placed_hit : (at : ℕ → Option ChainRow) (place : ℕ) (row : ChainRow) (p : ℕ) → p ≡ place → placed at place row p ≡ Some row
placed_hit at place row p h = ap (λ b. cond b (Some row) (at p)) (eqb_yes p place h)

pub placed_miss : (at : ℕ → Option ChainRow) (place : ℕ) (row : ChainRow) (p : ℕ) → p ≢ place → placed at place row p ≡ at p
placed_miss at place row p h = ap (λ b. cond b (Some row) (at p)) (eqb_no p place h)

-- lists of places
pub lacks_has : (places : List ℕ) (p q : ℕ) → Lacks places p → Has places q → q ≢ p
lacks_has [] p q lacks has = absurd has
lacks_has (r ∷ places) p q lacks has = elim has [ inl same ↦ λ e. lacks.0 (same ∙ e) | inr later ↦ lacks_has places p q lacks.1 later ]

pub less_same : (place : ℕ) (places : List ℕ) → Lacks places place → less place places ≡ places
less_same place [] lacks = refl
less_same place (p ∷ places) lacks =
    ap (λ b. cond b places (p ∷ less place places)) (eqb_no p place lacks.0) ∙ ap (λ ps. p ∷ ps) (less_same place places lacks.1)

pub less_head : (place p : ℕ) (places : List ℕ) → p ≡ place → less place (p ∷ places) ≡ places
less_head place p places h = ap (λ b. cond b places (p ∷ less place places)) (eqb_yes p place h)

pub less_tail : (place p : ℕ) (places : List ℕ) → p ≢ place → less place (p ∷ places) ≡ p ∷ less place places
less_tail place p places h = ap (λ b. cond b places (p ∷ less place places)) (eqb_no p place h)

pub has_less : (place p : ℕ) (places : List ℕ) → p ≢ place → Has places p → Has (less place places) p
has_less place p [] other has = absurd has
has_less place p (q ∷ places) other has =
    elim (cases_eq q place) [
      | inl same ↦ subst (λ ps. Has ps p) (sym (less_head place q places same)) (elim has [ inl here ↦ absurd (other (sym here ∙ same)) | inr later ↦ later ])
      | inr differs ↦ subst (λ ps. Has ps p) (sym (less_tail place q places differs)) (elim has [ inl here ↦ inl here | inr later ↦ inr (has_less place p places other later) ])
    ]

pub has_of_less : (place p : ℕ) (places : List ℕ) → Has (less place places) p → Has places p
has_of_less place p [] has = has
has_of_less place p (q ∷ places) has =
    elim (cases_eq q place) [
      | inl same ↦ inr (subst (λ ps. Has ps p) (less_head place q places same) has)
      | inr differs ↦ elim (subst (λ ps. Has ps p) (less_tail place q places differs) has) [ inl here ↦ inl here | inr later ↦ inr (has_of_less place p places later) ]
    ]

pub lacks_less : (place p : ℕ) (places : List ℕ) → Lacks places p → Lacks (less place places) p
lacks_less place p [] lacks = tt
lacks_less place p (q ∷ places) lacks =
    elim (cases_eq q place) [
      | inl same ↦ subst (λ ps. Lacks ps p) (sym (less_head place q places same)) lacks.1
      | inr differs ↦ subst (λ ps. Lacks ps p) (sym (less_tail place q places differs)) (lacks.0, lacks_less place p places lacks.1)
    ]

pub apart_less : (place : ℕ) (places : List ℕ) → IsApart places → IsApart (less place places)
apart_less place [] apart = tt
apart_less place (q ∷ places) apart =
    elim (cases_eq q place) [
      | inl same ↦ subst IsApart (sym (less_head place q places same)) apart.1
      | inr differs ↦ subst IsApart (sym (less_tail place q places differs)) (lacks_less place q places apart.0, apart_less place places apart.1)
    ]

pub lacks_gone : (place : ℕ) (places : List ℕ) → IsApart places → Lacks (less place places) place
lacks_gone place [] apart = tt
lacks_gone place (q ∷ places) apart =
    elim (cases_eq q place) [
      | inl same ↦ subst (λ ps. Lacks ps place) (sym (less_head place q places same)) (subst (λ p. Lacks places p) same apart.0)
      | inr differs ↦ subst (λ ps. Lacks ps place) (sym (less_tail place q places differs)) (differs, lacks_gone place places apart.1)
    ]

pub length-less : (place : ℕ) (places : List ℕ) → Has places place → suc (length (less place places)) ≡ length places
length-less place [] has = absurd has
length-less place (q ∷ places) has =
    elim (cases_eq q place) [
      | inl same ↦ ap (λ ps. suc (length ps)) (less_head place q places same)
      | inr differs ↦
          ap (λ ps. suc (length ps)) (less_tail place q places differs)
          ∙ ap suc (length-less place places (elim has [ inl here ↦ absurd (differs here) | inr later ↦ later ]))
    ]

-- chains
module _ (at : ℕ → Option ChainRow) (key : SecKey) where
  row_at : {before after : Option ℕ} (p : ℕ) (row : ChainRow) → (w : IsAt at key p before after) → at p ≡ Some row → w.row ≡ row
  row_at p row w h = same_Some w.row row (sym w.is ∙ h)

  -- each place of a chain has a link to its section
  pub linked_at : (before first : Option ℕ) (places : List ℕ) (p : ℕ) → IsLinked at key before first places → Has places p
      → (row : ChainRow) × (at p ≡ Some row) × (row.row.target ≡ key)
  linked_at before first [] p linked has = absurd has
  linked_at before first (q ∷ places) p linked has =
      elim has [
        | inl here ↦ (linked.2.row, ap at (sym here) ∙ linked.2.is, linked.2.target)
        | inr later ↦ linked_at (Some q) linked.1 places p linked.3 later
      ]

  -- the first place is none that the chain lacks
  pub first_other : (before first : Option ℕ) (places : List ℕ) (p : ℕ) → IsLinked at key before first places → Lacks places p → first ≢ Some p
  first_other before first [] p linked lacks = λ h. none_some p first linked h
  first_other before first (q ∷ places) p linked lacks = λ h. lacks.0 (same_Some q p (sym linked.0 ∙ h))

  -- the next link names this one before it
  pub next_at : (before first : Option ℕ) (places : List ℕ) (p q : ℕ) (row : ChainRow)
      → IsLinked at key before first places → Has places p → at p ≡ Some row → row.after ≡ Some q
      → (other : ChainRow) × (at q ≡ Some other) × (other.before ≡ Some p) × (other.row.target ≡ key)
  next_at before first [] p q row linked has is after = absurd has
  next_at before first (r ∷ places) p q row linked has is after =
      elim has [
        | inl here ↦
            let same = row_at r row linked.2 (ap at here ∙ is) in
            let next : linked.1 ≡ Some q = sym linked.2.after_is ∙ ap (λ x. x.after) same ∙ after in
            go r here linked.1 places next linked.3
        | inr later ↦ next_at (Some r) linked.1 places p q row linked.3 later is after
      ]
    where
      go : (r : ℕ) → r ≡ p → (f : Option ℕ) (ps : List ℕ) → f ≡ Some q → IsLinked at key (Some r) f ps
          → (other : ChainRow) × (at q ≡ Some other) × (other.before ≡ Some p) × (other.row.target ≡ key)
      go r here f [] e l = absurd (none_some q f l e)
      go r here f (s ∷ ps) e l =
          let there : s ≡ q = same_Some s q (sym l.0 ∙ e) in
          (l.2.row, ap at (sym there) ∙ l.2.is, l.2.before_is ∙ ap Some here, l.2.target)

  -- a link is the first, or the one before it names it
  pub previous_at : (before first : Option ℕ) (places : List ℕ) (p : ℕ) (row : ChainRow)
      → IsLinked at key before first places → Has places p → at p ≡ Some row
      → ((row.before ≡ before) × (first ≡ Some p))
      ⊎ ((q : ℕ) × (other : ChainRow) × (row.before ≡ Some q) × (at q ≡ Some other) × (other.after ≡ Some p) × (other.row.target ≡ key))
  previous_at before first [] p row linked has is = absurd has
  previous_at before first (r ∷ places) p row linked has is =
      elim has [
        | inl here ↦ inl (sym (ap (λ x. x.before) (row_at r row linked.2 (ap at here ∙ is))) ∙ linked.2.before_is, linked.0 ∙ ap Some here)
        | inr later ↦ elim (previous_at (Some r) linked.1 places p row linked.3 later is) [
          | inl head ↦ inr (r, linked.2.row, head.0, linked.2.is, linked.2.after_is ∙ head.1, linked.2.target)
          | inr inner ↦ inr inner
        ]
      ]

module _ (at new : ℕ → Option ChainRow) (key : SecKey) where
  -- what stands at the places of a chain is all that it needs
  pub linked_same : (before first : Option ℕ) (places : List ℕ) → ((p : ℕ) → Has places p → new p ≡ at p)
      → IsLinked at key before first places → IsLinked new key before first places
  linked_same before first [] same linked = linked
  linked_same before first (p ∷ places) same linked =
      let w = linked.2 in (
        linked.0,
        linked.1,
        record { row = w.row; is = same p (inl refl) ∙ w.is; target = w.target; before_is = w.before_is; after_is = w.after_is },
        linked_same (Some p) linked.1 places (λ q has. same q (inr has)) linked.3,
      )

abbrev pub skipped : ℕ → ChainRow → ChainRow → ChainRow
skipped place gone row = record { row = row.row; before = skip row.before place gone.before; after = skip row.after place gone.after }

module _ (at new : ℕ → Option ChainRow) (key : SecKey) (place : ℕ) (gone : ChainRow) (stood : at place ≡ Some gone) where
  -- a chain that one link is taken out of
  pub unlinked : (before first : Option ℕ) (places : List ℕ)
      → ((p : ℕ) → Has places p → p ≢ place → (row : ChainRow) → at p ≡ Some row → new p ≡ Some (skipped place gone row))
      → IsApart places → IsLinked at key before first places
      → IsLinked new key (skip before place gone.before) (skip first place gone.after) (less place places)
  unlinked before first [] fits apart linked = ap (λ f. skip f place gone.after) linked
  unlinked before first (p ∷ places) fits apart linked =
      let w = linked.2 in
      let after = linked.1 in
      let later = unlinked (Some p) after places (λ q has. fits q (inr has)) apart.1 linked.3 in
      elim (cases_eq p place) [
        | inl here ↦
            let same : w.row ≡ gone = same_Some w.row gone (sym w.is ∙ ap at here ∙ stood) in
            let gone_before : gone.before ≡ before = sym (ap (λ x. x.before) same) ∙ w.before_is in
            let gone_after : gone.after ≡ after = sym (ap (λ x. x.after) same) ∙ w.after_is in
            let lacks : Lacks places place = subst (λ q. Lacks places q) here apart.0 in
            let b : skip (Some p) place gone.before ≡ skip before place gone.before =
            skip_hit (Some p) place gone.before (ap Some here) ∙ back before gone.before gone_before in
            let f : skip after place gone.after ≡ skip first place gone.after =
            skip_miss after place gone.after (first_other at key (Some p) after places place linked.3 lacks)
            ∙ sym gone_after
            ∙ sym (skip_hit first place gone.after (linked.0 ∙ ap Some here))
            in
            let l : less place places ≡ less place (p ∷ places) = less_same place places lacks ∙ sym (less_head place p places here) in
            subst (λ (x : Option ℕ). IsLinked new key x (skip first place gone.after) (less place (p ∷ places))) b
            (subst (λ (x : Option ℕ). IsLinked new key (skip (Some p) place gone.before) x (less place (p ∷ places))) f
            (subst (λ (x : List ℕ). IsLinked new key (skip (Some p) place gone.before) (skip after place gone.after) x) l later))
        | inr other ↦
            let keeps : (x : Option ℕ) → skip (Some p) place x ≡ Some p = λ x. skip_miss (Some p) place x (λ h. other (same_Some p place h)) in
            let here : IsAt new key p (skip before place gone.before) (skip after place gone.after) =
            record {
              row = skipped place gone w.row;
              is = fits p (inl refl) other w.row w.is;
              target = w.target;
              before_is = ap (λ x. skip x place gone.before) w.before_is;
              after_is = ap (λ x. skip x place gone.after) w.after_is;
            }
            in
            subst (λ (x : List ℕ). IsLinked new key (skip before place gone.before) (skip first place gone.after) x) (sym (less_tail place p places other)) (
              ap (λ x. skip x place gone.after) linked.0 ∙ keeps gone.after,
              skip after place gone.after,
              here,
              subst (λ (x : Option ℕ). IsLinked new key x (skip after place gone.after) (less place places)) (keeps gone.before) later,
            )
      ]
    where
      back : (before b : Option ℕ) → b ≡ before → b ≡ skip before place b
      back before b h = elim (named before place) [
        | inl hit ↦ sym (skip_hit before place b hit)
        | inr miss ↦ h ∙ sym (skip_miss before place b miss)
      ]
