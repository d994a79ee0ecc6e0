-- Objects that are kept, with one more.
use Rattle.std.proofs.Common.{◌≡◌, ◌⊎◌, inl, inr, ℕ, zero, suc, ◌+◌, ◌≤◌, ◌<◌, Bool, true, false, cond, List, [], ◌∷◌, ◌++◌, length, map, Option, Some, None, refl, sym, ap, subst, ◌∙◌, arith}
use Rattle.std.specs.Prelude.{All, find, option_and_then, option_map, slice_get}
use Rattle.std.specs.Result.{result_ok}
use Rattle.std.proofs.lemmas.Bool.{cases_lt}
use Rattle.std.proofs.lemmas.List.{append-nil, length_push}
use Rattle.std.proofs.lemmas.List.Elements.{All-push}
use Rattle.std.proofs.lemmas.Slice.Eq.{bytes_eq-Decides}
use Rattle.cell_num.specs.Lists.{equals}
use Rattle.cell_num.proofs.Elements.{found-In}
use Rattle.cell_object.specs.declared.object.Object.{Object}
use Rattle.cell_world.specs.declared.file.File.{File}
use Rattle.cell_world.specs.Coherent.{IsLoadable}
use Rattle.cell_world.specs.Gather.{Source, file_named, source_of}
use Rattle.cell_depot.specs.Files.{has_name}
use Rattle.cell_audit.specs.Described.{object_of}
use Rattle.cell_described.specs.declared.objects.Objects.{Objects}
use Rattle.cell_described.specs.Objects.{AreKept, Extends, Grows, HasObject, IsAdded, IsSought, Keeps, place_named}

pub get_left : {X : Type 0} (xs ys : List X) (n : ℕ) (x : X) → slice_get xs n ≡ Some x → slice_get (xs ++ ys) n ≡ Some x
get_left [] ys n x e = absurd cc
get_left (z ∷ xs) ys zero x e = e
get_left (z ∷ xs) ys (suc n) x e = get_left xs ys n x e

pub get_last : {X : Type 0} (xs : List X) (x : X) (n : ℕ) → n ≡ length xs → slice_get (xs ++ x ∷ []) n ≡ Some x
get_last [] x zero e = refl
get_last [] x (suc n) e = absurd (omega (arith, e))
get_last (z ∷ xs) x zero e = absurd (omega (arith, e))
get_last (z ∷ xs) x (suc n) e = get_last xs x n (omega (arith, e))

pub get_below : {X : Type 0} (xs : List X) (n : ℕ) (x : X) → slice_get xs n ≡ Some x → n < length xs
get_below [] n x e = absurd cc
get_below (z ∷ xs) zero x e = omega arith
get_below (z ∷ xs) (suc n) x e = let k = get_below xs n x e in omega (arith, k)

-- nothing changes
pub extends_itself : (objects : List Object) → Extends objects objects
extends_itself objects = record { more = []; is = sym (append-nil objects) }

not_grown : (name : List ℕ) (o : Objects) → Grows name None o o
not_grown name o = record { more = extends_itself o.items.items; stay = λ q p e. e; named = λ p e. absurd (none_some p e); only = λ p lt. inl lt }
  where
    none_some : (p : ℕ) → None ≡ Some p → ⊥
    none_some p e = cc

-- an object stays where it stands
pub held_more : (sources : List Source) (name : List ℕ) (old new : List Object) (place : ℕ) → Extends old new → HasObject sources name old place → HasObject sources name new place
held_more sources name old new place x h =
    record {
      object = h.object;
      at = subst (λ (os : List Object). slice_get os place ≡ Some h.object) (sym x.is) (get_left old x.more place h.object h.at);
      is = h.is;
    }

pub named_source : (files : List File) (name : List ℕ) → file_named (map source_of files) name ≡ option_map source_of (find (has_name name) files)
named_source [] name = refl
named_source (f ∷ files) name = go (equals f.name name) (named_source files name)
  where
    go : (b : Bool) → file_named (map source_of files) name ≡ option_map source_of (find (has_name name) files)
        → cond b (Some (source_of f)) (file_named (map source_of files) name) ≡ option_map source_of (cond b (Some f) (find (has_name name) files))
    go true ih = refl
    go false ih = ih

module _ (files : List File) (name : List ℕ) where
  object_found : (o : Option File) → find (has_name name) files ≡ o → object_of (map source_of files) name ≡ option_and_then (λ f. result_ok (source_of f).reading) o
  object_found o e =
      ap (option_and_then (λ (f : Source). result_ok f.reading)) (named_source files name ∙ ap (option_map source_of) e) ∙ go o
    where
      go : (o : Option File) → option_and_then (λ f. result_ok f.reading) (option_map source_of o) ≡ option_and_then (λ f. result_ok (source_of f).reading) o
      go None = refl
      go (Some f) = refl

  -- no file has the name
  pub sought_nowhere : (o : Objects) → AreKept (map source_of files) o → None ≡ find (has_name name) files → IsSought (map source_of files) name o o None
  sought_nowhere o k e = record { found = object_found None (sym e); kept = k; grows = not_grown name o }

  module _ (file : File) (e : Some file ≡ find (has_name name) files) where
    own_name : file.name ≡ name
    own_name = (bytes_eq-Decides file.name name).0 (found-In (has_name name) files file (sym e)).1

    own_object : object_of (map source_of files) name ≡ result_ok (source_of file).reading
    own_object = object_found (Some file) (sym e)

    -- a name that is kept
    pub sought_kept : (o : Objects) (place : ℕ) → AreKept (map source_of files) o → place_named o file.name ≡ Some place
        → IsSought (map source_of files) name o o (Some place)
    sought_kept o place k at =
        let named : place_named o name ≡ Some place = ap (place_named o) (sym own_name) ∙ at in
        record {
          found = k.known name place named;
          kept = k;
          grows = record { more = extends_itself o.items.items; stay = λ q p e. e; named = λ p e. named ∙ e; only = λ p lt. inl lt };
        }

    module _ (old new : Objects) (place : ℕ) (k : AreKept (map source_of files) old) (absent : place_named old file.name ≡ None) (a : IsAdded file old new place) where
      more : Extends old.items.items new.items.items
      more = record { more = a.object ∷ []; is = a.items }

      here : (q : List ℕ) (p : ℕ) → file.name ≡ q → place ≡ p → HasObject (map source_of files) q new.items.items p
      here q p same at =
          record {
            object = a.object;
            at = ap (λ (os : List Object). slice_get os p) a.items ∙ get_last old.items.items a.object p (sym at ∙ a.last);
            is = ap (object_of (map source_of files)) (sym same ∙ own_name) ∙ own_object ∙ a.read;
          }

      by_name : (b : Bool) (q : List ℕ) (p : ℕ) → equals file.name q ≡ b → cond b (Some place) (place_named old q) ≡ Some p → HasObject (map source_of files) q new.items.items p
      by_name true q p e at = here q p ((bytes_eq-Decides file.name q).0 e) cc
      by_name false q p e at = held_more (map source_of files) q old.items.items new.items.items p more (k.known q p at)

      stays : (b : Bool) (q : List ℕ) (p : ℕ) → equals file.name q ≡ b → place_named old q ≡ Some p → cond b (Some place) (place_named old q) ≡ Some p
      stays true q p e at = absurd (none_some p (sym (ap (place_named old) (sym ((bytes_eq-Decides file.name q).0 e)) ∙ absent) ∙ at))
        where
          none_some : (p : ℕ) → None ≡ Some p → ⊥
          none_some p e = cc
      stays false q p e at = at

      only : (p : ℕ) → p < length new.items.items → (p < length old.items.items) ⊎ (Some place ≡ Some p)
      only p lt = go (cases_lt p (length old.items.items))
        where
          count : length new.items.items ≡ length old.items.items + 1
          count = ap length a.items ∙ length_push old.items.items a.object

          go : (p < length old.items.items) ⊎ (length old.items.items ≤ p) → (p < length old.items.items) ⊎ (Some place ≡ Some p)
          go (inl below) = inl below
          go (inr above) = let same : place ≡ p = let n = count in let m = a.last in omega (arith, lt, n, m, above) in inr (ap (λ (x : ℕ). Some x) same)

      added : IsSought (map source_of files) name old new (Some place)
      added = record {
        found = here name place own_name refl;
        kept = record {
          known = λ q p at. by_name (equals file.name q) q p refl (sym (a.places q) ∙ at);
          loadable = subst (All IsLoadable) (sym a.items) (All-push IsLoadable old.items.items a.object k.loadable a.loadable);
        };
        grows = record {
          more = more;
          stay = λ q p at. a.places q ∙ stays (equals file.name q) q p refl at;
          named = λ p e. a.places name ∙ ap (λ (b : Bool). cond b (Some place) (place_named old name)) ((bytes_eq-Decides file.name name).1 own_name) ∙ e;
          only = only;
        };
      }

    -- what holds once a file that wasn't kept is read
    pub sought_read : (old new : Objects) (place : Option ℕ) → AreKept (map source_of files) old → place_named old file.name ≡ None → Keeps file old new place
        → IsSought (map source_of files) name old new place
    sought_read old new None k absent a =
        subst (λ (o : Objects). IsSought (map source_of files) name old o None) (sym a.1)
        (record { found = own_object ∙ a.0; kept = k; grows = not_grown name old })
    sought_read old new (Some place) k absent a = added old new place k absent a
