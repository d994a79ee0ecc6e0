-- Putting a link into a chain, and taking one out, on the arenas.
use Rattle.std.proofs.Common.{◌≡◌, ◌≢◌, inl, inr, ℕ, ◌+◌, ◌<◌, ◌≤◌, true, cond, List, [], ◌∷◌, Option, Some, None, is_some, IsSome, length, refl, sym, ap, subst, ◌∙◌, arith}
use Rattle.std.specs.Prelude.{is_none, option_map, IfSome}
use Rattle.std.proofs.lemmas.Option.{same_Some}
use Rattle.cell_world.specs.declared.state.LinkRow.{LinkRow}
use Rattle.slab.specs.Slab.{Slab, get, slab_len, ContainsKey, with_value}
use Rattle.slab.proofs.SlabLemmas.{Updates-with_value}
use Rattle.cell_graph.specs.declared.rows.ChainRow.{ChainRow}
use Rattle.cell_graph.specs.declared.section.Section.{Section}
use Rattle.cell_graph.specs.Chains.{Has, Lacks, IsChain, IsHome, AreChained}
use Rattle.cell_graph.specs.Edits.{edited, without, placed, before_set, after_set}
use Rattle.cell_graph.proofs.Linked.{none_some, without_hit, without_miss, edited_hit, edited_miss, linked_at, named}
use Rattle.cell_graph.proofs.Chained.{IsChanged, closed, headed, link_chained, unlink_chained, before_gone, after_gone, first_has}
use Rattle.cell_graph.proofs.Crowd.{crowd}

some_is : {A : Type 0} (x : Option A) (a : A) → x ≡ Some a → is_some x ≡ true
some_is x a h = ap is_some h

module _ (at : ℕ → Option ChainRow) (place : ℕ) (s : Section) (chain : IsChain (without at place) s) where
  stands : (p : ℕ) → Has chain.places p → (p ≢ place) × (is_some (at p) ≡ true)
  stands p has =
      let w = linked_at (without at place) s.key None s.first chain.places p chain.linked has in
      let other : p ≢ place = λ e. none_some w.0 (without at place p) (without_hit at place p e) w.1 in
      (other, some_is (at p) w.0 (sym (without_miss at place p other) ∙ w.1))

  pub first_stands : IfSome s.first (λ p. IsSome (at p))
  first_stands = go s.first refl
    where
      go : (o : Option ℕ) → s.first ≡ o → IfSome o (λ p. IsSome (at p))
      go None e = tt
      go (Some p) e = (stands p (first_has (without at place) s.key None s.first chain.places p chain.linked e)).1

  lack : (places : List ℕ) → ((p : ℕ) → Has places p → p ≢ place) → Lacks places place
  lack [] others = tt
  lack (p ∷ places) others = (others p (inl refl), lack places (λ q has. others q (inr has)))

-- a chain has room for one more
pub room_for_one : (rows : Slab ChainRow) (place : ℕ) (s : Section) → IsChain (without (get rows) place) s → ContainsKey rows place → s.users + 1 ≤ slab_len rows
room_for_one rows place s chain there =
    let full : (p : ℕ) → Has (place ∷ chain.places) p → is_some (get rows p) ≡ true =
    λ p has. elim has [
      | inl here ↦ ap (λ q. is_some (get rows q)) (sym here) ∙ there
      | inr later ↦ (stands (get rows) place s chain p later).1
    ]
    in
    let most = crowd (place ∷ chain.places) rows.slots (lack (get rows) place s chain chain.places (λ p has. (stands (get rows) place s chain p has).0), chain.apart) full in
    let count = chain.count in
    omega (arith, most, count)

changed_at : (sections : Slab Section) (home : ℕ) (s s' : Section) → get sections home ≡ Some s → s'.key ≡ s.key
    → IsChanged (get sections) (get (with_value sections home s')) home s s'
changed_at sections home s s' was key =
    let updates = Updates-with_value sections home s' (some_is (get sections home) s was) in
    record { was = was; is = updates.changed; others = updates.others; key = key }

pub linked_in : (rows rows1 rows2 : Slab ChainRow) (sections : Slab Section) (home place : ℕ) (row : LinkRow) (s s' : Section)
    → AreChained (without (get rows) place) (get sections) → IsHome (get sections) home row.target → get sections home ≡ Some s
    → s'.key ≡ s.key → s'.first ≡ Some place → s'.users ≡ s.users + 1
    → ((o : ℕ) → get rows1 o ≡ edited (get rows) s.first (before_set (Some place)) o)
    → ((o : ℕ) → get rows2 o ≡ placed (get rows1) place (record { row = row; before = None; after = s.first }) o)
    → AreChained (get rows2) (get (with_value sections home s'))
linked_in rows rows1 rows2 sections home place row s s' chained target was key first users once twice =
    let new : ChainRow = record { row = row; before = None; after = s.first } in
    let one : get rows1 ≡ edited (get rows) s.first (before_set (Some place)) = λ i o. once o i in
    let two : get rows2 ≡ placed (get rows1) place new = λ i o. twice o i in
    let both : get rows2 ≡ headed (get rows) place row s.first = two ∙ ap (λ at. placed at place new) one in
    let named : s.key ≡ row.target = ap (λ x. x.key) (same_Some s target.section (sym was ∙ target.is)) ∙ target.named in
    subst (λ at. AreChained at (get (with_value sections home s'))) (sym both)
    (link_chained (get rows) (get sections) (get (with_value sections home s')) place row home s s' chained named (changed_at sections home s s' was key) first users)

module _ (rows : Slab ChainRow) (sections : Slab Section) (home place : ℕ) (chain : ChainRow) (s : Section)
    (chained : AreChained (get rows) (get sections)) (stood : get rows place ≡ Some chain) (target : IsHome (get sections) home chain.row.target)
    (was : get sections home ≡ Some s) where
  key_of : s.key ≡ chain.row.target
  key_of = ap (λ x. x.key) (same_Some s target.section (sym was ∙ target.is)) ∙ target.named

  own : IsChain (get rows) s
  own = chained.chain home s was

  pub has_users : 0 < s.users
  has_users = go own.places own.count (own.whole place chain stood (sym key_of))
    where
      go : (places : List ℕ) → length places ≡ s.users → Has places place → 0 < s.users
      go [] count has = absurd has
      go (p ∷ places) count has = omega arith

  pub before_stands : IfSome chain.before (ContainsKey rows)
  before_stands = go chain.before refl
    where
      go : (o : Option ℕ) → chain.before ≡ o → IfSome o (ContainsKey rows)
      go None e = tt
      go (Some p) e = let w = before_gone (get rows) (get sections) place chain stood s own key_of p e in some_is (get rows p) w.0 w.1

  pub after_stands : (rows1 : Slab ChainRow) → ((o : ℕ) → get rows1 o ≡ edited (get rows) chain.before (after_set chain.after) o) → IfSome chain.after (ContainsKey rows1)
  after_stands rows1 once = go chain.after refl
    where
      go : (o : Option ℕ) → chain.after ≡ o → IfSome o (ContainsKey rows1)
      go None e = tt
      go (Some p) e =
          let w = after_gone (get rows) (get sections) place chain stood s own key_of p e in
          elim (named chain.before p) [
            | inl hit ↦ some_is (get rows1 p) (after_set chain.after w.0) (once p ∙ edited_hit (get rows) chain.before (after_set chain.after) p hit ∙ ap (option_map (after_set chain.after)) w.1)
            | inr miss ↦ some_is (get rows1 p) w.0 (once p ∙ edited_miss (get rows) chain.before (after_set chain.after) p miss ∙ w.1)
          ]

  pub taken_out : (rows1 rows2 : Slab ChainRow) (s' : Section) → s'.key ≡ s.key → s'.first ≡ cond (is_none chain.before) chain.after s.first → s'.users + 1 ≡ s.users
      → ((o : ℕ) → get rows1 o ≡ edited (get rows) chain.before (after_set chain.after) o)
      → ((o : ℕ) → get rows2 o ≡ edited (get rows1) chain.after (before_set chain.before) o)
      → AreChained (without (get rows2) place) (get (with_value sections home s'))
  taken_out rows1 rows2 s' key first users once twice =
      let one : get rows1 ≡ edited (get rows) chain.before (after_set chain.after) = λ i o. once o i in
      let two : get rows2 ≡ edited (get rows1) chain.after (before_set chain.before) = λ i o. twice o i in
      let both : get rows2 ≡ closed (get rows) chain = two ∙ ap (λ at. edited at chain.after (before_set chain.before)) one in
      subst (λ at. AreChained (without at place) (get (with_value sections home s'))) (sym both)
      (unlink_chained (get rows) (get sections) (get (with_value sections home s')) place chain home s s' chained stood key_of (changed_at sections home s s' was key) first users)
