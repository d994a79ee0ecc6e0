-- The world with new cells, before they are placed.
use Rattle.std.proofs.Common.{◌≡◌, refl, sym, ◌∙◌, ap, subst, arith, ℕ, suc, ◌≤◌, ◌⊎◌, inl, inr, true, List, [], ◌∷◌, ◌++◌, length, Ok, length-append, append_assoc}
use Rattle.std.specs.Prelude.{All, slice_get, is_some, nat_lt, nat_le}
use Rattle.std.specs.List.{list_all}
use Rattle.std.proofs.lemmas.Bool.{ltb-true, lt-ltb, leb-true, le-leb}
use Rattle.std.proofs.lemmas.List.{append-nil}
use Rattle.cell_object.specs.declared.object.Object.{Object}
use Rattle.cell_num.specs.Lists.{each_pair, In}
use Rattle.cell_num.specs.Limits.{max_cells, max_cell_number}
use Rattle.cell_world.specs.World.{World, Cell, Standing, is_attached}
use Rattle.cell_world.specs.declared.state.Standing.TheVariants.{Attached, Detached}
use Rattle.cell_world.specs.Names.{chain}
use Rattle.cell_world.specs.Gather.{Source, new_cell, append_cell}
use Rattle.cell_world.specs.Coherent.{IsLoadable, IsLoadableReading, AreSound, may_both_stand, has_each_name_once, is_known_cell, is_sound_standing}
use Rattle.cell_num.proofs.Elements.{all-In, In-all, All-In, In-All, In-append, pairs_push, all_push, there_below}
use Rattle.cell_lemmas.proofs.Naming.Known.{KnownParts, known_parts, known_from}
use Rattle.cell_lemmas.proofs.Naming.Appended.{Appended, with_new, append_ok, append_names, append_own}
use Rattle.cell_lemmas.proofs.Naming.Attach.{Grows}

-- what a coherent world keeps that does not speak of places, bytes and links
pub record Ranks (w : World) : Type 0 where
  pub names : each_pair (may_both_stand w) w.cells ≡ true
  pub own_names : list_all has_each_name_once w.cells ≡ true
  pub order : each_pair (λ a b. nat_lt a.id.0 b.id.0) w.cells ≡ true
  pub known : list_all (is_known_cell w) w.cells ≡ true
  pub objects : All (λ c. IsLoadable c.object) w.cells
  pub few : length w.cells ≤ max_cells
  pub last : w.next_cell ≤ suc max_cell_number

below_next : (n m : ℕ) → nat_lt n m ≡ true → nat_lt n (suc m) ≡ true
below_next n m h = lt-ltb n (suc m) (omega (arith, ltb-true n m h))

module _ (w : World) (f : Source) (ns : ℕ) (w' : World) (app : Appended w f ns w') (object : IsLoadable app.object) (there : nat_lt ns (length w.namespaces) ≡ true) where
  known_more : Ranks w → list_all (is_known_cell w') w'.cells ≡ true
  known_more r =
      let after : World = with_new w f ns app.object in
      subst (λ (v : World). list_all (is_known_cell v) v.cells ≡ true) app.is
      (all_push (is_known_cell after) w.cells (new_cell w ns f app.object)
      (In-all (is_known_cell after) w.cells (λ c k. later c (known_parts w c (all-In (is_known_cell w) w.cells r.known c k))))
      (known_from after (new_cell w ns f app.object) (record { number = lt-ltb w.next_cell (suc w.next_cell) (omega arith); ns = there; standing = refl; aliases = refl })))
    where
      later : (c : Cell) → KnownParts w c → is_known_cell (with_new w f ns app.object) c ≡ true
      later c p = known_from (with_new w f ns app.object) c (record { number = below_next c.id.0 w.next_cell p.number; ns = p.ns; standing = standing c.standing p.standing; aliases = p.aliases })
        where
          standing : (s : Standing) → is_sound_standing w s ≡ true → is_sound_standing (with_new w f ns app.object) s ≡ true
          standing Attached h = refl
          standing (Detached k) h = h

  objects_more : Ranks w → All (λ c. IsLoadable c.object) w'.cells
  objects_more r =
      subst (λ (v : World). All (λ c. IsLoadable c.object) v.cells) app.is
      (In-All (λ (c : Cell). IsLoadable c.object) (w.cells ++ new_cell w ns f app.object ∷ []) (λ c k. pick c (In-append w.cells (new_cell w ns f app.object ∷ []) c k)))
    where
      pick : (c : Cell) → In c w.cells ⊎ In c (new_cell w ns f app.object ∷ []) → IsLoadable c.object
      pick c (inl k) = All-In (λ (c : Cell). IsLoadable c.object) w.cells r.objects c k
      pick c (inr (inl e)) = subst (λ (x : Cell). IsLoadable x.object) (sym e) object
      pick c (inr (inr z)) = absurd z

  pub append_ranks : Ranks w → Ranks w'
  append_ranks r = record {
    names = append_names w f ns w' app r.names;
    own_names = append_own w f ns w' app object.sound r.own_names;
    order = subst (λ (v : World). each_pair (λ (a : Cell) (b : Cell). nat_lt a.id.0 b.id.0) v.cells ≡ true) app.is
        (pairs_push (λ a b. nat_lt a.id.0 b.id.0) w.cells (new_cell w ns f app.object) r.order (λ c k. (known_parts w c (all-In (is_known_cell w) w.cells r.known c k)).number));
    known = known_more r;
    objects = objects_more r;
    few = subst (λ (v : World). length v.cells ≤ max_cells) app.is (omega (arith, length-append w.cells (new_cell w ns f app.object ∷ []), ltb-true (length w.cells) max_cells app.room));
    last = subst (λ (v : World). v.next_cell ≤ suc max_cell_number) app.is (omega (arith, leb-true w.next_cell max_cell_number app.numbers));
  }

-- w with new cells and a greater next number, and nothing else changed
pub record Extends (w w' : World) : Type 0 where
  pub new : List Cell
  pub next : ℕ
  pub is : record w { cells = w.cells ++ new; next_cell = next } ≡ w'
  pub attached : list_all (λ c. is_attached c.standing) new ≡ true
  pub fresh : list_all (λ c. nat_le w.next_cell c.id.0) new ≡ true
  pub rises : w.next_cell ≤ next

pub extends_none : (w : World) → Extends w w
extends_none w = record { new = []; next = w.next_cell; is = ap (λ (cs : List Cell). record w { cells = cs }) (append-nil w.cells); attached = refl; fresh = refl; rises = omega arith }

pub extends_more : (v w : World) (f : Source) (ns : ℕ) (w' : World) → Appended w f ns w' → Extends v w → Extends v w'
extends_more v w f ns w' app x =
    let n : x.next ≡ w.next_cell = ap (λ (u : World). u.next_cell) x.is in
    record {
      new = x.new ++ new_cell w ns f app.object ∷ [];
      next = suc w.next_cell;
      is = ap (λ (cs : List Cell). record v { cells = cs; next_cell = suc w.next_cell }) (sym (append_assoc v.cells x.new (new_cell w ns f app.object ∷ [])))
          ∙ (ap (λ (u : World). record u { cells = u.cells ++ new_cell w ns f app.object ∷ []; next_cell = suc w.next_cell }) x.is ∙ app.is);
      attached = all_push (λ c. is_attached c.standing) x.new (new_cell w ns f app.object) x.attached refl;
      fresh = all_push (λ c. nat_le v.next_cell c.id.0) x.new (new_cell w ns f app.object) x.fresh (le-leb v.next_cell w.next_cell (omega (arith, x.rises)));
      rises = omega (arith, x.rises);
    }

pub extends_grows : (w w' : World) → Extends w w' → Grows w w'
extends_grows w w' x = record { spaces = λ ns k. ap (λ (u : World). chain u.namespaces ns) (sym x.is); new = x.new; cells = ap (λ (u : World). u.cells) (sym x.is); attached = x.attached }

pub loadable : (f : Source) (object : Object) → f.reading ≡ Ok object → IsLoadableReading f.reading → IsLoadable object
loadable f object e h = subst IsLoadableReading e h

module _ (sources : List Source) (sound : AreSound sources) (v : World) where
  abbrev pub Good : World → Type 0
  Good w = Ranks w × Extends v w

  pub good_append : (w : World) (f : Source) (ns : ℕ) (w' : World) → In f sources → is_some (slice_get w.namespaces ns) ≡ true → append_cell w f ns ≡ Ok w' → Good w → Good w'
  good_append w f ns w' k t h g =
      let app : Appended w f ns w' = append_ok w f ns w' h in (
        append_ranks w f ns w' app (loadable f app.object app.reading (All-In (λ (f : Source). IsLoadableReading f.reading) sources sound f k)) (lt-ltb ns (length w.namespaces) (there_below w.namespaces ns t)) g.0,
        extends_more v w f ns w' app g.1,
      )
