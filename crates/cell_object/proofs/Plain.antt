-- What an object that is sound but for its GOT_HI20 entries says of its own parts.
--     IsPlainOf e p            p is the entry in the plain object
--     is_readable_entry o e    what is sound of the plain entry, said of the entry
--     AreReadable o            what is sound of the plain object, said of the object
use Rattle.std.proofs.Common.{◌≡◌, refl, sym, ◌∙◌, ap, ℕ, ◌+◌, Bool, true, false, cond, not, ◌||◌, ◌&&◌, List, [], ◌∷◌, map, true≢false, Option, Some, None}
use Rattle.std.specs.Prelude.{pos, ◌%◌, ◌==◌, find, unwrap_or, option_map, option_and_then, is_some, nat_le, nat_lt}
use Rattle.std.specs.List.{list_all}
use Rattle.std.specs.Ordering.{int_eq}
use Rattle.cell_num.specs.Lists.{each_pair, In}
use Rattle.cell_num.specs.Kinds.{width_of, is_instruction, is_stacking, is_pcrel_lo12, is_pcrel_hi20, is_got_hi20, is_upper_pcrel}
use Rattle.cell_num.specs.declared.kinds.RelKind.{RelKind}
use Rattle.cell_num.specs.declared.kinds.RelKind.TheVariants.{GotHi20, PcrelHi20}
use Rattle.cell_num.proofs.Elements.{all-In, In-all, map-In, In-map, pairs-map, pairs_same}
use Rattle.cell_object.specs.declared.object.Object.{Object}
use Rattle.cell_object.specs.declared.object.Symbol.{Symbol}
use Rattle.cell_object.specs.declared.object.Entry.{Entry}
use Rattle.cell_object.specs.declared.object.Home.{Home}
use Rattle.cell_object.specs.declared.object.Home.TheVariants.{Undef, Abs, Inside, Elsewhere}
use Rattle.cell_object.specs.Symbols.{is_global_name}
use Rattle.cell_object.specs.Parts.{is_local, section_of, symbol_at, label_of, high_of, inside_of}
use Rattle.cell_object.specs.Sound.{is_sound_section, is_sound_home, is_sound_symbol, is_nameable, is_sound_entry_in, is_sound_entry, is_known_kind, is_zero, is_plain_sort, may_share, may_both_be}
use Rattle.cell_object.specs.Readable.{is_got, plain_entry, plain, is_bare, IsReadable}

got_is : (kind : RelKind) → is_got_hi20 kind ≡ true → kind ≡ GotHi20
got_is GotHi20 e = refl
got_is _ e = absurd cc

known_of : (kind : RelKind) → is_got_hi20 kind ≡ false → is_known_kind kind ≡ true
known_of GotHi20 e = absurd cc
known_of _ e = refl

or_none : (a b : Bool) → b ≡ false → (a || b) ≡ a
or_none true b e = refl
or_none false b e = e

-- the plain entry has the same field
pub record IsPlainOf (e p : Entry) : Type 0 where
  pub section : p.section ≡ e.section
  pub offset : p.offset ≡ e.offset
  pub symbol : p.symbol ≡ e.symbol
  pub addend : p.addend ≡ e.addend
  pub width : width_of p.kind ≡ width_of e.kind
  pub instruction : is_instruction p.kind ≡ is_instruction e.kind
  pub stacking : is_stacking p.kind ≡ is_stacking e.kind
  pub low : is_pcrel_lo12 p.kind ≡ is_pcrel_lo12 e.kind
  pub high : is_pcrel_hi20 p.kind ≡ is_upper_pcrel e.kind
  pub known : is_known_kind p.kind ≡ true

pub plain_is : (e : Entry) → IsPlainOf e (plain_entry e)
plain_is e = go (is_got e) refl
  where
    go : (b : Bool) → is_got e ≡ b → IsPlainOf e (elim b as (λ _. Entry) [ true ↦ record e { kind = PcrelHi20 } | false ↦ e ])
    go true g =
        let is : GotHi20 ≡ e.kind = sym (got_is e.kind g) in
        record {
          section = refl;
          offset = refl;
          symbol = refl;
          addend = refl;
          width = ap width_of is;
          instruction = ap is_instruction is;
          stacking = ap is_stacking is;
          low = ap is_pcrel_lo12 is;
          high = ap is_upper_pcrel is;
          known = refl;
        }
    go false g =
        record {
          section = refl;
          offset = refl;
          symbol = refl;
          addend = refl;
          width = refl;
          instruction = refl;
          stacking = refl;
          low = refl;
          high = sym (or_none (is_pcrel_hi20 e.kind) (is_got_hi20 e.kind) g);
          known = known_of e.kind g;
        }

abbrev at_high : ℕ × ℕ → Entry → Bool
at_high label h = is_pcrel_hi20 h.kind && h.section == label.0 && h.offset == label.1

abbrev at_upper : ℕ × ℕ → Entry → Bool
at_upper label h = is_upper_pcrel h.kind && h.section == label.0 && h.offset == label.1

-- the entry with the upper part at the label of an entry
abbrev pub upper_of : Object → Entry → Option Entry
upper_of o e =
    option_and_then (λ label. find (λ h. is_upper_pcrel h.kind && h.section == label.0 && h.offset == label.1) o.entries) (label_of o e)

found_map : {X Y : Type 0} (f : X → Y) (q : Y → Bool) (p : X → Bool) → ((x : X) → q (f x) ≡ p x) → (xs : List X) → is_some (find q (map f xs)) ≡ is_some (find p xs)
found_map f q p same [] = refl
found_map {X = X} f q p same (x ∷ xs) = go (q (f x)) (p x) (same x) (found_map f q p same xs)
  where
    go : (a b : Bool) → a ≡ b → is_some (find q (map f xs)) ≡ is_some (find p xs) → is_some (cond a (Some (f x)) (find q (map f xs))) ≡ is_some (cond b (Some x) (find p xs))
    go true true e h = refl
    go false false e h = h
    go true false e h = absurd (true≢false e)
    go false true e h = absurd (true≢false (sym e))

module _ (o : Object) where
  -- the field of an entry is in its section, it names what it may, and a lower part has its upper part
  abbrev pub is_readable_entry : Entry → Bool
  is_readable_entry e =
      unwrap_or (option_map (is_sound_entry_in e) (section_of o e.section)) false
      && (e.symbol == 0 || unwrap_or (option_map (λ s. is_nameable s s.home) (symbol_at o e.symbol)) false)
      && (not (is_pcrel_lo12 e.kind)
      || int_eq e.addend (pos 0) && is_some (upper_of o e)
      && unwrap_or (option_map (λ label. label.0 == e.section) (label_of o e)) false)

  -- a PCREL_HI20 entry of the plain object stands where an upper part of the object does
  highs_same : (r : Option (ℕ × ℕ)) → is_some (option_and_then (λ label. find (at_high label) (map plain_entry o.entries)) r) ≡ is_some (option_and_then (λ label. find (at_upper label) o.entries) r)
  highs_same None = refl
  highs_same (Some label) = found_map plain_entry (at_high label) (at_upper label) same o.entries
    where
      same : (x : Entry) → at_high label (plain_entry x) ≡ at_upper label x
      same x = let b = plain_is x in λ i. (b.high i && b.section i == label.0 && b.offset i == label.1)

  entry_same : (e p : Entry) → IsPlainOf e p → is_sound_entry (plain o) p ≡ is_readable_entry e
  entry_same e p a =
      λ i. (a.known i && field i && named i && (not (a.low i) || int_eq (a.addend i) (pos 0) && upper i && label i))
    where
      field : unwrap_or (option_map (is_sound_entry_in p) (section_of o p.section)) false ≡ unwrap_or (option_map (is_sound_entry_in e) (section_of o e.section)) false
      field =
          λ i. unwrap_or (option_map (λ s. not (is_zero s.fill) && nat_le (a.offset i + a.width i) s.size && (not (a.instruction i) || s.exec && (a.offset i % 4 == 0))) (section_of o (a.section i))) false

      named : (p.symbol == 0 || unwrap_or (option_map (λ s. is_nameable s s.home) (symbol_at o p.symbol)) false) ≡ (e.symbol == 0 || unwrap_or (option_map (λ s. is_nameable s s.home) (symbol_at o e.symbol)) false)
      named = λ i. (a.symbol i == 0 || unwrap_or (option_map (λ s. is_nameable s s.home) (symbol_at o (a.symbol i))) false)

      label : unwrap_or (option_map (λ (label : ℕ × ℕ). label.0 == p.section) (label_of o p)) false ≡ unwrap_or (option_map (λ (label : ℕ × ℕ). label.0 == e.section) (label_of o e)) false
      label =
          λ i. unwrap_or (option_map (λ (label : ℕ × ℕ). label.0 == a.section i) (option_and_then (λ s. option_map (λ section. (section, s.value)) (inside_of s.home)) (symbol_at o (a.symbol i)))) false

      upper : is_some (high_of (plain o) p) ≡ is_some (upper_of o e)
      upper =
          ap (λ (n : ℕ). is_some (option_and_then (λ label. find (at_high label) (map plain_entry o.entries)) (option_and_then (λ s. option_map (λ section. (section, s.value)) (inside_of s.home)) (symbol_at o n)))) a.symbol
          ∙ highs_same (label_of o e)

  share_same : (e f p q : Entry) → IsPlainOf e p → IsPlainOf f q → may_share p q ≡ may_share e f
  share_same e f p q a b =
      λ i. (not (a.section i == b.section i)
      || nat_le (a.offset i + a.width i) (b.offset i) || nat_le (b.offset i + b.width i) (a.offset i)
      || (a.offset i == b.offset i) && (a.width i == b.width i) && a.stacking i && b.stacking i)

  home_same : (s : Symbol) (home : Home) → is_sound_home (plain o) s home ≡ is_sound_home o s home
  home_same s Undef = refl
  home_same s Abs = refl
  home_same s (Inside n) = refl
  home_same s Elsewhere = refl

  symbol_same : (s : Symbol) → is_sound_symbol (plain o) s ≡ is_sound_symbol o s
  symbol_same s = ap (λ (b : Bool). b && (is_local s.bind || is_global_name s.name && is_plain_sort s.sort)) (home_same s s.home)

  pub record AreReadable : Type 0 where
    pub numbers : each_pair (λ a b. nat_lt a.number b.number) o.sections ≡ true
    pub sections : list_all is_sound_section o.sections ≡ true
    pub symbols : list_all (is_sound_symbol o) o.symbols ≡ true
    pub names : each_pair may_both_be o.symbols ≡ true
    pub entries : list_all is_readable_entry o.entries ≡ true
    pub apart : each_pair may_share o.entries ≡ true
    pub bare : list_all is_bare o.entries ≡ true

  pub readable_by : AreReadable → IsReadable o
  readable_by r = record {
    sound = record {
      numbers = r.numbers;
      sections = r.sections;
      symbols = In-all (is_sound_symbol (plain o)) o.symbols (λ s i. symbol_same s ∙ all-In (is_sound_symbol o) o.symbols r.symbols s i);
      names = r.names;
      entries =
          In-all (is_sound_entry (plain o)) (map plain_entry o.entries)
          (λ p i.
          let from = In-map plain_entry o.entries p i in
          ap (is_sound_entry (plain o)) from.2
          ∙ (entry_same from.0 (plain_entry from.0) (plain_is from.0) ∙ all-In is_readable_entry o.entries r.entries from.0 from.1));
      apart =
          pairs-map may_share plain_entry o.entries
          ∙ pairs_same may_share (λ x y. may_share (plain_entry x) (plain_entry y)) o.entries
          (λ x y i j k. share_same x y (plain_entry x) (plain_entry y) (plain_is x) (plain_is y) ∙ k) r.apart;
    };
    bare = r.bare;
  }

  pub parts_readable : IsReadable o → AreReadable
  parts_readable r = record {
    numbers = r.sound.numbers;
    sections = r.sound.sections;
    symbols = In-all (is_sound_symbol o) o.symbols (λ s i. sym (symbol_same s) ∙ all-In (is_sound_symbol (plain o)) o.symbols r.sound.symbols s i);
    names = r.sound.names;
    entries =
        In-all is_readable_entry o.entries
        (λ e i. sym (entry_same e (plain_entry e) (plain_is e)) ∙ all-In (is_sound_entry (plain o)) (map plain_entry o.entries) r.sound.entries (plain_entry e) (map-In plain_entry o.entries e i));
    apart =
        pairs_same (λ x y. may_share (plain_entry x) (plain_entry y)) may_share o.entries
        (λ x y i j k. sym (share_same x y (plain_entry x) (plain_entry y) (plain_is x) (plain_is y)) ∙ k)
        (sym (pairs-map may_share plain_entry o.entries) ∙ r.sound.apart);
    bare = r.bare;
  }
