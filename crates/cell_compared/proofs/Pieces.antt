-- Lines that are left in a loop: those of one more element, and the others.
use Rattle.std.proofs.Common.{◌≡◌, refl, sym, ◌∙◌, ap, subst, ℕ, suc, ◌+◌, ◌<◌, Bool, true, false, true≢false, cond, List, [], ◌∷◌, ◌++◌, length, get_or, drop, map, add-one}
use Rattle.std.specs.Prelude.{Option, Some, None, filter, filter_map, flat_map, is_some, unwrap_or}
use Rattle.std.specs.List.{cons_option}
use Rattle.std.proofs.lemmas.List.{drop_more}
use Rattle.std.proofs.lemmas.List.Elements.{filter_map-append}
use Rattle.cell_audit.specs.declared.written.WrittenAlias.{WrittenAlias}
use Rattle.cell_described.specs.Describes.{alias_seen}
use Rattle.cell_num.specs.Lists.{numbered_from}
use Rattle.cell_audit.specs.Described.{standing_of}
use Rattle.cell_world.specs.DumpLines.{link_line, provider_line, provider_lines}
use Rattle.cell_object.specs.declared.object.Entry.{Entry}
use Rattle.cell_object.specs.declared.object.Symbol.{Symbol}
use Rattle.cell_world.specs.Names.{definitions_of, is_definition}
use Rattle.cell_world.specs.Linked.Relink.{link_of, link_to}
use Rattle.cell_world.specs.Linked.Target.{target_of}
use Rattle.cell_world.specs.World.{Alias, Cell, Standing, World, is_attached, key_of}
use Rattle.cell_world.specs.declared.state.LinkRow.{LinkRow}
use Rattle.cell_world.specs.declared.state.Target.{Target}
use Rattle.cell_world.specs.declared.state.Target.TheVariants.{Number}
use Rattle.cell_compared.specs.Shown.{definition_line, name_lines, names_shown}
use Rattle.cell_bearers.proofs.NamingLemmas.{definitions_from}

module _ {X : Type 0} (read xs : List X) (same : read ≡ xs) (i : ℕ) (x : X) (below : i < length read) (here : x ≡ get_or read i x) where
  begins : drop i xs ≡ x ∷ drop (i + 1) xs
  begins =
      drop_more xs i x (subst (λ (ys : List X). i < length ys) same below)
      ∙ ap (λ (y : X). y ∷ drop (i + 1) xs) (sym (subst (λ (ys : List X). x ≡ get_or ys i x) same here))

  pub mapped : {Y : Type 0} (f : X → Y) → map f (drop i xs) ≡ f x ∷ [] ++ map f (drop (i + 1) xs)
  mapped f = ap (map f) begins

  pub mapped_twice : {Y Z : Type 0} (f : X → Y) (g : Y → Z) → map g (map f (drop i xs)) ≡ g (f x) ∷ [] ++ map g (map f (drop (i + 1) xs))
  mapped_twice f g = ap (λ (ys : List X). map g (map f ys)) begins

  pub flattened : {Y Z : Type 0} (f : X → Y) (g : Y → List Z) → flat_map g (map f (drop i xs)) ≡ g (f x) ++ flat_map g (map f (drop (i + 1) xs))
  flattened f g = ap (λ (ys : List X). flat_map g (map f ys)) begins

  pub flat_on : {Z : Type 0} (g : X → List Z) → flat_map g (drop i xs) ≡ g x ++ flat_map g (drop (i + 1) xs)
  flat_on g = ap (flat_map g) begins

  pub numbered : {Y : Type 0} (f : ℕ × X → Y) → map f (numbered_from i (drop i xs)) ≡ f (i, x) ∷ [] ++ map f (numbered_from (i + 1) (drop (i + 1) xs))
  numbered f = ap (λ (ys : List X). map f (numbered_from i ys)) begins ∙ ap (λ n. f (i, x) ∷ map f (numbered_from n (drop (i + 1) xs))) (sym (add-one i))

cons_append : {X : Type 0} (o : Option X) (xs : List X) → cons_option o xs ≡ cons_option o [] ++ xs
cons_append None xs = refl
cons_append (Some x) xs = refl

cons_mapped : {X Y : Type 0} (f : X → Y) (o : Option X) (xs : List X) → map f (cons_option o xs) ≡ map f (cons_option o []) ++ map f xs
cons_mapped f None xs = refl
cons_mapped f (Some x) xs = refl

-- the link of an entry, by its target or else the number 0
link_by : (w : World) (c : Cell) (i : ℕ) (e : Entry) → link_of w c (i, e) ≡ link_to c i e (unwrap_or (target_of w c e) (Number 0))
link_by w c i e = go (target_of w c e)
  where
    go : (o : Option Target) → elim o as (λ _. Option LinkRow) [ None ↦ None | Some target ↦ link_to c i e target ] ≡ link_to c i e (unwrap_or o (Number 0))
    go None = refl
    go (Some target) = refl

module _ (w : World) (c : Cell) (xs : List Entry) (i : ℕ) (d : Entry) (below : i < length xs) (t : Target) (is : t ≡ unwrap_or (target_of w c (get_or xs i d)) (Number 0)) where
  abbrev e : Entry
  e = get_or xs i d

  pub linked : map link_line (filter_map (link_of w c) (numbered_from i (drop i xs)))
      ≡ map link_line (cons_option (link_to c i e t) []) ++ map link_line (filter_map (link_of w c) (numbered_from (i + 1) (drop (i + 1) xs)))
  linked =
      ap (λ (ys : List Entry). map link_line (filter_map (link_of w c) (numbered_from i ys))) (drop_more xs i d below)
      ∙ cons_mapped link_line (link_of w c (i, e)) (filter_map (link_of w c) (numbered_from (suc i) (drop (i + 1) xs)))
      ∙ ap (λ o. map link_line (cons_option o []) ++ map link_line (filter_map (link_of w c) (numbered_from (suc i) (drop (i + 1) xs)))) (link_by w c i e ∙ ap (link_to c i e) (sym is))
      ∙ ap (λ n. map link_line (cons_option (link_to c i e t) []) ++ map link_line (filter_map (link_of w c) (numbered_from n (drop (i + 1) xs)))) (sym (add-one i))

pub user_is : (id : ℕ) (read xs : List Entry) → read ≡ xs → (i : ℕ) (d : Entry) → key_of id (get_or read i d).section ≡ key_of id (get_or xs i d).section
user_is id read xs same i d = ap (λ (es : List Entry). key_of id (get_or es i d).section) same

module _ (w : World) (ns : ℕ) where
  one_name : (a : Alias) (names : List Alias) → name_lines w ns (a ∷ names) ≡ name_lines w ns (a ∷ []) ++ name_lines w ns names
  one_name a names = cons_append (provider_line w ns a.name) (name_lines w ns names)

  module _ (file : List ℕ) (xs : List WrittenAlias) (i : ℕ) (x : WrittenAlias) (below : i < length xs) (here : x ≡ get_or xs i x) where
    pub named_on : name_lines w ns (map (alias_seen file) (drop i xs)) ≡ name_lines w ns (alias_seen file x ∷ []) ++ name_lines w ns (map (alias_seen file) (drop (i + 1) xs))
    named_on = ap (λ (ys : List WrittenAlias). name_lines w ns (map (alias_seen file) ys)) (begins xs xs refl i x below here) ∙ one_name (alias_seen file x) (map (alias_seen file) (drop (i + 1) xs))

  module _ (read xs : List Symbol) (same : read ≡ xs) (i : ℕ) (s : Symbol) (below : i < length read) (here : s ≡ get_or read i s) where
    at : name_lines w ns (definitions_from (suc i) (drop i xs)) ≡ name_lines w ns (definitions_from (suc i) (s ∷ drop (i + 1) xs))
    at = ap (λ (ys : List Symbol). name_lines w ns (definitions_from (suc i) ys)) (begins read xs same i s below here)

    chosen : (b : Bool) → is_definition s ≡ b → definitions_from (suc i) (s ∷ drop (i + 1) xs) ≡ cond b (record { name = s.name; symbol = suc i } ∷ definitions_from (suc (i + 1)) (drop (i + 1) xs)) (definitions_from (suc (i + 1)) (drop (i + 1) xs))
    chosen b e =
        ap (λ (t : Bool). map (λ (p : ℕ × Symbol). let a : Alias = record { name = p.1.name; symbol = p.0 } in a) (cond t ((suc i, s) ∷ filter (λ p. is_definition p.1) (numbered_from (suc (suc i)) (drop (i + 1) xs))) (filter (λ p. is_definition p.1) (numbered_from (suc (suc i)) (drop (i + 1) xs))))) e
        ∙ (either b ∙ ap (λ n. cond b (record { name = s.name; symbol = suc i } ∷ definitions_from (suc n) (drop (i + 1) xs)) (definitions_from (suc n) (drop (i + 1) xs))) (sym (add-one i)))
      where
        either : (b : Bool) → map (λ (p : ℕ × Symbol). let a : Alias = record { name = p.1.name; symbol = p.0 } in a) (cond b ((suc i, s) ∷ filter (λ p. is_definition p.1) (numbered_from (suc (suc i)) (drop (i + 1) xs))) (filter (λ p. is_definition p.1) (numbered_from (suc (suc i)) (drop (i + 1) xs))))
            ≡ cond b (record { name = s.name; symbol = suc i } ∷ definitions_from (suc (suc i)) (drop (i + 1) xs)) (definitions_from (suc (suc i)) (drop (i + 1) xs))
        either true = refl
        either false = refl

    -- the line of one symbol more
    pub one_symbol : name_lines w ns (definitions_from (suc i) (drop i xs)) ≡ definition_line w ns s ++ name_lines w ns (definitions_from (suc (i + 1)) (drop (i + 1) xs))
    one_symbol = at ∙ go (is_definition s) refl
      where
        go : (b : Bool) → is_definition s ≡ b → name_lines w ns (definitions_from (suc i) (s ∷ drop (i + 1) xs)) ≡ cond b (cons_option (provider_line w ns s.name) []) [] ++ name_lines w ns (definitions_from (suc (i + 1)) (drop (i + 1) xs))
        go true e = ap (name_lines w ns) (chosen true e) ∙ one_name (record { name = s.name; symbol = suc i }) (definitions_from (suc (i + 1)) (drop (i + 1) xs))
        go false e = ap (name_lines w ns) (chosen false e)

-- the names of a cell that is attached, and of one that was put aside
pub names_attached : (w : World) (c : Cell) (group : Option ℕ) → c.standing ≡ standing_of group → is_some group ≡ false → names_shown w c ≡ name_lines w c.ns (definitions_of c.object) ++ name_lines w c.ns c.aliases
names_attached w c None s e = ap (λ (t : Standing). cond (is_attached t) (provider_lines w c) []) s ∙ filter_map-append (λ (a : Alias). provider_line w c.ns a.name) (definitions_of c.object) c.aliases
names_attached w c (Some k) s e = absurd (true≢false e)

pub names_aside : (w : World) (c : Cell) (group : Option ℕ) → c.standing ≡ standing_of group → is_some group ≡ true → names_shown w c ≡ []
names_aside w c None s e = absurd (true≢false (sym e))
names_aside w c (Some k) s e = ap (λ (t : Standing). cond (is_attached t) (provider_lines w c) []) s
