-- The names of present cells are spelled as those of GLOBALs.
use Rattle.std.proofs.Common.{◌≡◌, refl, sym, ◌∙◌, ap, subst, ℕ, ◌⊎◌, inl, inr, Bool, true, false, ◌&&◌, ◌||◌, List, true≢false}
use Rattle.std.specs.Prelude.{filter}
use Rattle.std.proofs.lemmas.Bool.{and_parts}
use Rattle.cell_num.specs.Lists.{In, numbered_from}
use Rattle.cell_num.proofs.Elements.{All-In, all-In, filter-Passes, get-In, In-append, In-filtered, In-map, In-numbered}
use Rattle.cell_object.specs.Parts.{is_defined, is_global, is_local}
use Rattle.cell_object.specs.Sound.{is_plain_sort, is_sound_home, is_sound_symbol}
use Rattle.cell_object.specs.Symbols.{is_global_name}
use Rattle.cell_object.specs.declared.object.Bind.{Bind}
use Rattle.cell_object.specs.declared.object.Bind.TheVariants.{Local, Global, Weak}
use Rattle.cell_object.specs.declared.object.Object.{Object}
use Rattle.cell_object.specs.declared.object.Symbol.{Symbol}
use Rattle.cell_world.specs.Coherent.{IsCoherent}
use Rattle.cell_world.specs.Names.{definitions_of, is_definition, names_of}
use Rattle.cell_world.specs.World.{World, Cell, Alias}
use Rattle.cell_lemmas.proofs.Naming.Known.{object_sound}
use Rattle.cell_origin_law.specs.Spelled.{IsSpelledCell}

unlocal : (b : Bind) → is_global b ≡ true → is_local b ≡ false
unlocal Local e = absurd (true≢false (sym e))
unlocal Global e = refl
unlocal Weak e = absurd (true≢false (sym e))

of_symbol : (object : Object) (s : Symbol) → is_sound_symbol object s ≡ true → is_definition s ≡ true → is_global_name s.name ≡ true
of_symbol object s sound defines =
    let g = (and_parts (is_global s.bind) (is_defined s.home) defines).0 in
    let k = (and_parts (is_sound_home object s s.home) (is_local s.bind || is_global_name s.name && is_plain_sort s.sort) sound).1 in
    (and_parts (is_global_name s.name) (is_plain_sort s.sort) (ap (λ (b : Bool). b || is_global_name s.name && is_plain_sort s.sort) (sym (unlocal s.bind g)) ∙ k)).0

pub named_well : (w : World) → IsCoherent w → (c : Cell) → In c w.cells → IsSpelledCell c → (a : Alias) → In a (names_of c) → is_global_name a.name ≡ true
named_well w h c i spelled a m = go (In-append (definitions_of c.object) c.aliases a m)
  where
    go : In a (definitions_of c.object) ⊎ In a c.aliases → is_global_name a.name ≡ true
    go (inl j) =
        let p = In-map (λ (p : ℕ × Symbol). let x : Alias = record { name = p.1.name; symbol = p.0 } in x) (filter (λ p. is_definition p.1) (numbered_from 1 c.object.symbols)) a j in
        let d = filter-Passes (λ (p : ℕ × Symbol). is_definition p.1) (numbered_from 1 c.object.symbols) p.0 p.1 in
        let n = In-numbered c.object.symbols 1 p.0 (In-filtered (λ (p : ℕ × Symbol). is_definition p.1) (numbered_from 1 c.object.symbols) p.0 p.1) in
        let name : a.name ≡ p.0.1.name = ap (λ (x : Alias). x.name) p.2 in
        subst (λ (x : List ℕ). is_global_name x ≡ true) (sym name)
        (of_symbol c.object p.0.1 (all-In (is_sound_symbol c.object) c.object.symbols (object_sound w h.ready.objects c i).symbols p.0.1 (get-In c.object.symbols n.0 p.0.1 n.1)) d)
    go (inr j) = All-In (λ (a : Alias). is_global_name a.name ≡ true) c.aliases spelled.aliases a j
