-- What one link more or less leaves of the chains.
use Rattle.std.proofs.Common.{◌≡◌, ◌≢◌, ◌⊎◌, inl, inr, ℕ, ◌+◌, cond, List, [], ◌∷◌, Option, Some, None, refl, sym, ap, subst, ◌∙◌, arith}
use Rattle.std.specs.Prelude.{option_map, is_none}
use Rattle.std.proofs.lemmas.Bool.{cases_eq}
use Rattle.std.proofs.lemmas.Option.{same_Some}
use Rattle.cell_num.specs.declared.ids.SecKey.{SecKey}
use Rattle.cell_world.specs.declared.state.LinkRow.{LinkRow}
use Rattle.cell_graph.specs.declared.rows.ChainRow.{ChainRow}
use Rattle.cell_graph.specs.declared.section.Section.{Section}
use Rattle.cell_graph.specs.Chains.{Has, Lacks, IsApart, IsLinked, IsChain, IsPresent, AreChained, SameLinks, SameKeys}
use Rattle.cell_graph.specs.Edits.{edited, without, placed, before_set, after_set}
use Rattle.cell_graph.specs.Skips.{skip, less}
use Rattle.cell_graph.proofs.Linked.{none_some, named, skip_hit, skip_miss, edited_hit, edited_miss, without_hit, without_miss, placed_hit, placed_miss, lacks_has, has_less, apart_less, length-less, linked_at, next_at, previous_at, linked_same, skipped, unlinked}

-- an edit keeps the link
edited_row : (at : ℕ → Option ChainRow) (o : Option ℕ) (change : ChainRow → ChainRow) (p : ℕ)
    → ((r : ChainRow) → (change r).row ≡ r.row) → option_map (λ c. c.row) (edited at o change p) ≡ option_map (λ c. c.row) (at p)
edited_row at o change p keeps =
    elim (named o p) [
      | inl hit ↦ ap (option_map (λ c. c.row)) (edited_hit at o change p hit) ∙ go (at p)
      | inr miss ↦ ap (option_map (λ c. c.row)) (edited_miss at o change p miss)
    ]
  where
    go : (x : Option ChainRow) → option_map (λ c. c.row) (option_map change x) ≡ option_map (λ c. c.row) x
    go None = refl
    go (Some r) = ap Some (keeps r)

-- the link that stands where one stands with the same link
pub row_behind : (x : Option ChainRow) (y : Option ChainRow) (row : ChainRow)
    → option_map (λ c. c.row) y ≡ option_map (λ c. c.row) x → y ≡ Some row → (old : ChainRow) × (x ≡ Some old) × (old.row ≡ row.row)
row_behind None y row same is = absurd (none_some row.row _ same (ap (option_map (λ c. c.row)) is))
row_behind (Some old) y row same is = (old, refl, same_Some old.row row.row (sym same ∙ ap (option_map (λ c. c.row)) is))

pub key_behind : (x : Option Section) (y : Option Section) (section : Section)
    → option_map (λ s. s.key) y ≡ option_map (λ s. s.key) x → y ≡ Some section → (old : Section) × (x ≡ Some old) × (old.key ≡ section.key)
key_behind None y section same is = absurd (none_some section.key _ same (ap (option_map (λ s. s.key)) is))
key_behind (Some old) y section same is = (old, refl, same_Some old.key section.key (sym same ∙ ap (option_map (λ s. s.key)) is))

-- the arena once the two neighbours name each other
abbrev pub closed : (ℕ → Option ChainRow) → ChainRow → ℕ → Option ChainRow
closed at gone = edited (edited at gone.before (after_set gone.after)) gone.after (before_set gone.before)

pub closed_links : (at : ℕ → Option ChainRow) (gone : ChainRow) → SameLinks at (closed at gone)
closed_links at gone p =
    edited_row (edited at gone.before (after_set gone.after)) gone.after (before_set gone.before) p (λ r. refl)
    ∙ edited_row at gone.before (after_set gone.after) p (λ r. refl)

-- the first of a chain has none before it
pub first_before : (at : ℕ → Option ChainRow) (key : SecKey) (before first : Option ℕ) (places : List ℕ) (p : ℕ) (row : ChainRow)
    → IsLinked at key before first places → first ≡ Some p → at p ≡ Some row → row.before ≡ before
first_before at key before first [] p row linked is at_p = absurd (none_some p first linked is)
first_before at key before first (q ∷ places) p row linked is at_p =
    let same : q ≡ p = same_Some q p (sym linked.0 ∙ is) in
    let w = linked.2 in
    ap (λ r. r.before) (same_Some row w.row (sym at_p ∙ ap at (sym same) ∙ w.is)) ∙ w.before_is

pub first_has : (at : ℕ → Option ChainRow) (key : SecKey) (before first : Option ℕ) (places : List ℕ) (p : ℕ)
    → IsLinked at key before first places → first ≡ Some p → Has places p
first_has at key before first [] p linked is = absurd (none_some p first linked is)
first_has at key before first (q ∷ places) p linked is = inl (same_Some q p (sym linked.0 ∙ is))

-- one section is changed, and keeps its key
pub record IsChanged (sections new : ℕ → Option Section) (home : ℕ) (old now : Section) : Type 0 where
  pub was : sections home ≡ Some old
  pub is : new home ≡ Some now
  pub others : (other : ℕ) → other ≢ home → new other ≡ sections other
  pub key : now.key ≡ old.key

pub changed_keys : (sections new : ℕ → Option Section) (home : ℕ) (old now : Section) → IsChanged sections new home old now → SameKeys sections new
changed_keys sections new home old now changed p =
    elim (cases_eq p home) [
      | inl same ↦
          ap (λ q. option_map (λ s. s.key) (new q)) same
          ∙ ap (option_map (λ s. s.key)) changed.is
          ∙ ap Some changed.key
          ∙ sym (ap (option_map (λ s. s.key)) changed.was)
          ∙ sym (ap (λ q. option_map (λ s. s.key) (sections q)) same)
      | inr other ↦ ap (option_map (λ s. s.key)) (changed.others p other)
    ]

module _ (sections new : ℕ → Option Section) (keys : SameKeys sections new) where
  present_still : (key : SecKey) → IsPresent sections key → IsPresent new key
  present_still key p =
      let there = key_behind (new p.home) (sections p.home) p.section (sym (keys p.home)) p.is in
      record { home = p.home; section = there.0; is = there.1; named = there.2 ∙ p.named }

  once_still : ((home other : ℕ) (a b : Section) → sections home ≡ Some a → sections other ≡ Some b → a.key ≡ b.key → home ≡ other)
      → (home other : ℕ) (a b : Section) → new home ≡ Some a → new other ≡ Some b → a.key ≡ b.key → home ≡ other
  once_still once home other a b p q same =
      let x = key_behind (sections home) (new home) a (keys home) p in
      let y = key_behind (sections other) (new other) b (keys other) q in
      once home other x.0 y.0 x.1 y.1 (x.2 ∙ same ∙ sym y.2)

module _ (at : ℕ → Option ChainRow) (sections : ℕ → Option Section) (place : ℕ) (gone : ChainRow) (stood : at place ≡ Some gone)
    (s : Section) (chain : IsChain at s) (target : s.key ≡ gone.row.target) where
  pub in_chain : Has chain.places place
  in_chain = chain.whole place gone stood (sym target)

  -- what stands at the places that the link named
  pub before_gone : (p : ℕ) → gone.before ≡ Some p → (row : ChainRow) × (at p ≡ Some row) × (row.after ≡ Some place) × (row.row.target ≡ s.key)
  before_gone p is =
      elim (previous_at at s.key None s.first chain.places place gone chain.linked in_chain stood) [
        | inl head ↦ absurd (none_some p gone.before head.0 is)
        | inr inner ↦
            let same : inner.0 ≡ p = same_Some inner.0 p (sym inner.2 ∙ is) in
            (inner.1, ap at (sym same) ∙ inner.3, inner.4, inner.5)
      ]

  pub after_gone : (p : ℕ) → gone.after ≡ Some p → (row : ChainRow) × (at p ≡ Some row) × (row.before ≡ Some place) × (row.row.target ≡ s.key)
  after_gone p is = next_at at s.key None s.first chain.places place p gone chain.linked in_chain stood is

  -- a link of the chain that is not the one that goes
  fits : (p : ℕ) → Has chain.places p → (row : ChainRow) → at p ≡ Some row → closed at gone p ≡ Some (skipped place gone row)
  fits p has row is =
      elim (named gone.before p) [
        | inl before ↦
            let w = before_gone p before in
            let points : row.after ≡ Some place = ap (λ r. r.after) (same_Some row w.0 (sym is ∙ w.1)) ∙ w.2 in
            second (after_set gone.after row) (edited_hit at gone.before (after_set gone.after) p before ∙ ap (option_map (after_set gone.after)) is)
            refl (sym (skip_hit row.after place gone.after points)) refl
        | inr not_before ↦
            second row (edited_miss at gone.before (after_set gone.after) p not_before ∙ is)
            refl (sym (skip_miss row.after place gone.after (λ h. not_before (back h)))) refl
      ]
    where
      back : row.after ≡ Some place → gone.before ≡ Some p
      back h =
          let w = next_at at s.key None s.first chain.places p place row chain.linked has is h in
          ap (λ r. r.before) (same_Some gone w.0 (sym stood ∙ w.1)) ∙ w.2

      forth : row.before ≡ Some place → gone.after ≡ Some p
      forth h =
          elim (previous_at at s.key None s.first chain.places p row chain.linked has is) [
            | inl head ↦ absurd (none_some place row.before head.0 h)
            | inr inner ↦
                let same : inner.0 ≡ place = same_Some inner.0 place (sym inner.2 ∙ h) in
                ap (λ r. r.after) (same_Some gone inner.1 (sym stood ∙ ap at (sym same) ∙ inner.3)) ∙ inner.4
          ]

      put : (x : ChainRow) (b a : Option ℕ) → x.row ≡ row.row → x.before ≡ b → x.after ≡ a → Some x ≡ Some (record { row = row.row; before = b; after = a })
      put x b a e f g = λ i. Some (record { row = e i; before = f i; after = g i })

      second : (x : ChainRow) → edited at gone.before (after_set gone.after) p ≡ Some x → x.row ≡ row.row
          → x.after ≡ skip row.after place gone.after → x.before ≡ row.before → closed at gone p ≡ Some (skipped place gone row)
      second x once same_row after before =
          elim (named gone.after p) [
            | inl hit ↦
                let w = after_gone p hit in
                let points : row.before ≡ Some place = ap (λ r. r.before) (same_Some row w.0 (sym is ∙ w.1)) ∙ w.2 in
                edited_hit (edited at gone.before (after_set gone.after)) gone.after (before_set gone.before) p hit
                ∙ ap (option_map (before_set gone.before)) once
                ∙ put (before_set gone.before x) (skip row.before place gone.before) (skip row.after place gone.after) same_row (sym (skip_hit row.before place gone.before points)) after
            | inr miss ↦
                edited_miss (edited at gone.before (after_set gone.after)) gone.after (before_set gone.before) p miss
                ∙ once
                ∙ put x (skip row.before place gone.before) (skip row.after place gone.after) same_row (before ∙ sym (skip_miss row.before place gone.before (λ h. miss (forth h)))) after
          ]

  -- a place that has no link to the section is not touched
  untouched : (p : ℕ) (row : ChainRow) → at p ≡ Some row → row.row.target ≢ s.key → closed at gone p ≡ at p
  untouched p row is other =
      edited_miss (edited at gone.before (after_set gone.after)) gone.after (before_set gone.before) p (λ h. let w = after_gone p h in other (ap (λ r. r.row.target) (same_Some row w.0 (sym is ∙ w.1)) ∙ w.3))
      ∙ edited_miss at gone.before (after_set gone.after) p (λ h. let w = before_gone p h in other (ap (λ r. r.row.target) (same_Some row w.0 (sym is ∙ w.1)) ∙ w.3))

  -- the first link, once that one is gone
  first_left : cond (is_none gone.before) gone.after s.first ≡ skip s.first place gone.after
  first_left = go gone.before refl
    where
      go : (b : Option ℕ) → gone.before ≡ b → cond (is_none b) gone.after s.first ≡ skip s.first place gone.after
      go None e =
          elim (previous_at at s.key None s.first chain.places place gone chain.linked in_chain stood) [
            | inl head ↦ sym (skip_hit s.first place gone.after head.1)
            | inr inner ↦ absurd (none_some inner.0 gone.before e inner.2)
          ]
      go (Some q) e =
          sym (skip_miss s.first place gone.after (λ h. none_some q gone.before (first_before at s.key None s.first chain.places place gone chain.linked h stood) e))

-- the arena in which only that link is no longer seen
abbrev pub seen_without : (ℕ → Option ChainRow) → ℕ → ChainRow → ℕ → Option ChainRow
seen_without at place gone = without (closed at gone) place

module _ (at : ℕ → Option ChainRow) (sections sections' : ℕ → Option Section) (place : ℕ) (gone : ChainRow) (home : ℕ) (s s' : Section) where
  behind : (p : ℕ) (row : ChainRow) → seen_without at place gone p ≡ Some row → (p ≢ place) × (old : ChainRow) × (at p ≡ Some old) × (old.row ≡ row.row)
  behind p row is =
      elim (cases_eq p place) [
        | inl same ↦ absurd (none_some row _ (without_hit (closed at gone) place p same) is)
        | inr other ↦
            let w = row_behind (at p) (closed at gone p) row (closed_links at gone p) (sym (without_miss (closed at gone) place p other) ∙ is) in
            (other, w.0, w.1, w.2)
      ]

  pub unlink_chained : AreChained at sections → at place ≡ Some gone → s.key ≡ gone.row.target → IsChanged sections sections' home s s'
      → s'.first ≡ cond (is_none gone.before) gone.after s.first → s'.users + 1 ≡ s.users → AreChained (seen_without at place gone) sections'
  unlink_chained chained stood target changed first users =
      record {
        chain = chain_of;
        present = λ p row is. let w = behind p row is in subst (λ l. IsPresent sections' l.target) w.3 (present_still sections sections' keys w.1.row.target (chained.present p w.1 w.2));
        once = once_still sections sections' keys chained.once;
      }
    where
      keys : SameKeys sections sections'
      keys = changed_keys sections sections' home s s' changed

      own : IsChain at s
      own = chained.chain home s changed.was

      own_left : IsChain (seen_without at place gone) s'
      own_left =
          record {
            places = less place own.places;
            count =
                let one = length-less place own.places (in_chain at sections place gone stood s own target) in
                let all = own.count in
                omega arith;
            apart = apart_less place own.places own.apart;
            linked =
                subst (λ k. IsLinked (seen_without at place gone) k None s'.first (less place own.places)) (sym changed.key)
                (subst (λ f. IsLinked (seen_without at place gone) s.key None f (less place own.places)) (sym (first ∙ first_left at sections place gone stood s own target))
                (unlinked at (seen_without at place gone) s.key place gone stood None s.first own.places
                (λ p has other row is. without_miss (closed at gone) place p other ∙ fits at sections place gone stood s own target p has row is)
                own.apart own.linked));
            whole = λ p row is to.
                let w = behind p row is in
                has_less place p own.places w.0 (own.whole p w.1 w.2 (ap (λ l. l.target) w.3 ∙ to ∙ changed.key));
          }

      other_left : (h : ℕ) (t : Section) → h ≢ home → sections h ≡ Some t → IsChain (seen_without at place gone) t
      other_left h t apart is =
          let c = chained.chain h t is in
          let differs : t.key ≢ s.key = λ e. apart (chained.once h home t s is changed.was e) in
          record {
            places = c.places;
            count = c.count;
            apart = c.apart;
            linked = linked_same at (seen_without at place gone) t.key None t.first c.places (λ p has.
                let w = linked_at at t.key None t.first c.places p c.linked has in
                let away : p ≢ place = λ e. differs (sym w.2 ∙ ap (λ r. r.row.target) (same_Some w.0 gone (sym w.1 ∙ ap at e ∙ stood)) ∙ sym target) in
                without_miss (closed at gone) place p away ∙ untouched at sections place gone stood s own target p w.0 w.1 (λ e. differs (sym w.2 ∙ e))) c.linked;
            whole = λ p row is' to. let w = behind p row is' in c.whole p w.1 w.2 (ap (λ l. l.target) w.3 ∙ to);
          }

      chain_of : (h : ℕ) (t : Section) → sections' h ≡ Some t → IsChain (seen_without at place gone) t
      chain_of h t is =
          elim (cases_eq h home) [
            | inl same ↦ subst (IsChain (seen_without at place gone)) (same_Some s' t (sym changed.is ∙ ap sections' (sym same) ∙ is)) own_left
            | inr apart ↦ other_left h t apart (sym (changed.others h apart) ∙ is)
          ]

-- the arena with one more link before the first
abbrev pub headed : (ℕ → Option ChainRow) → ℕ → LinkRow → Option ℕ → ℕ → Option ChainRow
headed at place link first = placed (edited at first (before_set (Some place))) place (record { row = link; before = None; after = first })

module _ (at : ℕ → Option ChainRow) (sections sections' : ℕ → Option Section) (place : ℕ) (link : LinkRow) (home : ℕ) (s s' : Section) where
  -- the new link stands first; each other one is as it was, but for what is before it
  headed_behind : (p : ℕ) (row : ChainRow) → headed at place link s.first p ≡ Some row
      → ((p ≡ place) × (row.row ≡ link)) ⊎ ((p ≢ place) × (old : ChainRow) × (without at place p ≡ Some old) × (old.row ≡ row.row))
  headed_behind p row is =
      elim (cases_eq p place) [
        | inl same ↦
            let new : ChainRow = record { row = link; before = None; after = s.first } in
            inl (same, ap (λ r. r.row) (same_Some row new (sym is ∙ placed_hit (edited at s.first (before_set (Some place))) place new p same)))
        | inr other ↦
            let new : ChainRow = record { row = link; before = None; after = s.first } in
            let e = sym (placed_miss (edited at s.first (before_set (Some place))) place new p other) ∙ is in
            let w = row_behind (at p) (edited at s.first (before_set (Some place)) p) row (edited_row at s.first (before_set (Some place)) p (λ r. refl)) e in
            inr (other, w.0, without_miss at place p other ∙ w.1, w.2)
      ]

  headed_same : (p : ℕ) → p ≢ place → s.first ≢ Some p → headed at place link s.first p ≡ without at place p
  headed_same p other not_first =
      placed_miss (edited at s.first (before_set (Some place))) place (record { row = link; before = None; after = s.first }) p other
      ∙ edited_miss at s.first (before_set (Some place)) p not_first
      ∙ sym (without_miss at place p other)

  not_place : (p : ℕ) (row : ChainRow) → without at place p ≡ Some row → p ≢ place
  not_place p row is same = none_some row (without at place p) (without_hit at place p same) is

  pub link_chained : AreChained (without at place) sections → s.key ≡ link.target → IsChanged sections sections' home s s'
      → s'.first ≡ Some place → s'.users ≡ s.users + 1 → AreChained (headed at place link s.first) sections'
  link_chained chained target changed first users =
      record {
        chain = chain_of;
        present = λ p row is. elim (headed_behind p row is) [
          | inl new ↦ record { home = home; section = s'; is = changed.is; named = changed.key ∙ target ∙ ap (λ l. l.target) (sym new.1) }
          | inr old ↦ subst (λ l. IsPresent sections' l.target) old.3 (present_still sections sections' keys old.1.row.target (chained.present p old.1 old.2))
        ];
        once = once_still sections sections' keys chained.once;
      }
    where
      keys : SameKeys sections sections'
      keys = changed_keys sections sections' home s s' changed

      own : IsChain (without at place) s
      own = chained.chain home s changed.was

      away : (key : SecKey) (before f : Option ℕ) (places : List ℕ) (p : ℕ) → IsLinked (without at place) key before f places → Has places p → p ≢ place
      away key before f places p linked has = let w = linked_at (without at place) key before f places p linked has in not_place p w.0 w.1

      all_lack : (places : List ℕ) → ((p : ℕ) → Has places p → p ≢ place) → Lacks places place
      all_lack [] others = tt
      all_lack (p ∷ places) others = (others p (inl refl), all_lack places (λ q has. others q (inr has)))

      -- what followed follows the new link
      behind_it : (f : Option ℕ) (places : List ℕ) → s.first ≡ f → IsApart places → IsLinked (without at place) s.key None f places
          → IsLinked (headed at place link s.first) s.key (Some place) f places
      behind_it f [] e apart linked = linked
      behind_it f (n ∷ places) e apart linked =
          let w = linked.2 in
          let other : n ≢ place = not_place n w.row w.is in
          let is : headed at place link s.first n ≡ Some (before_set (Some place) w.row) =
          placed_miss (edited at s.first (before_set (Some place))) place (record { row = link; before = None; after = s.first }) n other
          ∙ edited_hit at s.first (before_set (Some place)) n (e ∙ linked.0)
          ∙ ap (option_map (before_set (Some place))) (sym (without_miss at place n other) ∙ w.is)
          in (
            linked.0,
            linked.1,
            record { row = before_set (Some place) w.row; is = is; target = w.target; before_is = refl; after_is = w.after_is },
            linked_same (without at place) (headed at place link s.first) s.key (Some n) linked.1 places
                (λ p has. headed_same p (away s.key (Some n) linked.1 places p linked.3 has) (λ h. lacks_has places n p apart.0 has (same_Some p n (sym h ∙ e ∙ linked.0))))
                linked.3,
          )

      own_more : IsChain (headed at place link s.first) s'
      own_more =
          record {
            places = place ∷ own.places;
            count = let all = own.count in omega arith;
            apart = (all_lack own.places (λ p has. away s.key None s.first own.places p own.linked has), own.apart);
            linked = (
              first,
              s.first,
              record {
                row = record { row = link; before = None; after = s.first };
                is = placed_hit (edited at s.first (before_set (Some place))) place (record { row = link; before = None; after = s.first }) place refl;
                target = sym (changed.key ∙ target);
                before_is = refl;
                after_is = refl;
              },
              subst (λ k. IsLinked (headed at place link s.first) k (Some place) s.first own.places) (sym changed.key)
                  (behind_it s.first own.places refl own.apart own.linked),
            );
            whole = λ p row is to. elim (headed_behind p row is) [
              | inl new ↦ inl (sym new.0)
              | inr old ↦ inr (own.whole p old.1 old.2 (ap (λ l. l.target) old.3 ∙ to ∙ changed.key))
            ];
          }

      other_same : (h : ℕ) (t : Section) → h ≢ home → sections h ≡ Some t → IsChain (headed at place link s.first) t
      other_same h t apart is =
          let c = chained.chain h t is in
          let differs : t.key ≢ s.key = λ e. apart (chained.once h home t s is changed.was e) in
          record {
            places = c.places;
            count = c.count;
            apart = c.apart;
            linked = linked_same (without at place) (headed at place link s.first) t.key None t.first c.places (λ p has.
                let w = linked_at (without at place) t.key None t.first c.places p c.linked has in
                headed_same p (not_place p w.0 w.1) (λ h'.
                let f = first_has (without at place) s.key None s.first own.places p own.linked h' in
                let v = linked_at (without at place) s.key None s.first own.places p own.linked f in
                differs (sym w.2 ∙ ap (λ r. r.row.target) (same_Some w.0 v.0 (sym w.1 ∙ v.1)) ∙ v.2))) c.linked;
            whole = λ p row is' to. elim (headed_behind p row is') [
              | inl new ↦ absurd (differs (sym to ∙ ap (λ l. l.target) new.1 ∙ sym target))
              | inr old ↦ c.whole p old.1 old.2 (ap (λ l. l.target) old.3 ∙ to)
            ];
          }

      chain_of : (h : ℕ) (t : Section) → sections' h ≡ Some t → IsChain (headed at place link s.first) t
      chain_of h t is =
          elim (cases_eq h home) [
            | inl same ↦ subst (IsChain (headed at place link s.first)) (same_Some s' t (sym changed.is ∙ ap sections' (sym same) ∙ is)) own_more
            | inr apart ↦ other_same h t apart (sym (changed.others h apart) ∙ is)
          ]
