-- What keeps the rules is read again.
use Rattle.std.proofs.Common.{◌≡◌, ℕ, suc, ◌+◌, ◌-◌, ◌^◌, ◌<◌, true, false, true≢false, List, [], ◌∷◌, ◌++◌, length, take, drop, get_or, sym, ap, subst, ◌∙◌, refl, arith, map, lit<, pos, not}
use Rattle.std.specs.Prelude.{◌==◌, Ok}
use Rattle.std.specs.Int.{w64}
use Rattle.std.proofs.Math.Facts.{Fits-of_z}
use Rattle.std.proofs.lemmas.Bool.{ne_eqb}
use Rattle.std.proofs.lemmas.List.{map-append}
use Rattle.std.proofs.lemmas.Option.{slice_get-get_or, slice_get_within, get_or_from_slice_get}
use Rattle.cell_num.specs.declared.kinds.RelKind.{RelKind}
use Rattle.cell_num.specs.declared.kinds.RelKind.TheVariants.{Abs32, Abs64, Branch, Jal, Call, CallPlt, GotHi20, PcrelHi20, PcrelLo12I, PcrelLo12S, Hi20, Lo12I, Lo12S, Add8, Add16, Add32, Add64, Sub8, Sub16, Sub32, Sub64, Sub6, Set6, Set8, Set16, Set32, Pcrel32}
use Rattle.cell_object.specs.declared.object.Object.{Object}
use Rattle.cell_object.specs.declared.object.Section.{Section}
use Rattle.cell_object.specs.declared.object.Symbol.{Symbol}
use Rattle.cell_object.specs.declared.object.Entry.{Entry}
use Rattle.cell_object.specs.declared.object.Bind.{Bind}
use Rattle.cell_object.specs.declared.object.Bind.TheVariants.{Local}
use Rattle.cell_object.specs.declared.object.Sort.TheVariants as sorts
use Rattle.cell_object.specs.declared.object.Home.{Home}
use Rattle.cell_object.specs.declared.object.Home.TheVariants.{Undef, Abs, Inside, Elsewhere}
use Rattle.cell_object.specs.declared.object.Fill.{Fill}
use Rattle.cell_object.specs.declared.object.Fill.TheVariants.{Prog, Note, Zero}
use Rattle.cell_object.specs.Reads.{reads, broken, object_unless}
use Rattle.cell_object.specs.Strings.{string_table, name_place}
use Rattle.cell_object.specs.Rows.{kind_number}
use Rattle.cell_object.specs.ImageParts.{filled, symbol_strings, entries_for}
use Rattle.cell_object.specs.Image.{fill_type, image}
use Rattle.cell_image.proofs.Ruled.{IsWhole, IsWritableSection, IsWritableHome, IsWritableSymbol, IsRuled}
use Rattle.cell_image.proofs.Places.{split_at}
use Rattle.cell_image.proofs.OwnSections.{IsPlainSection, sections_are_read}
use Rattle.cell_image.proofs.HeaderRules.{header_rules_hold}
use Rattle.cell_image.proofs.SectionRules.{IsSoundSection}
use Rattle.cell_image.proofs.LastRules.{sections_rules_hold}
use Rattle.cell_image.proofs.Symbols.{IsHome, names_before, symbols_are_read}
use Rattle.cell_image.proofs.SymbolRules.{IsRightHome, AreSymbols, symbols_rules_hold, table_rules_hold}
use Rattle.cell_image.proofs.Entries.{ArePlain, entries_are_read}
use Rattle.cell_image.proofs.Relocations.{IsSoundEntry, AreEntries, relocations_rules_hold, pairs_rules_hold, slots_rules_hold}
use Rattle.cell_image.proofs.Fitting.{IsSmall, image_fits, name_inside}

no_section : Section
no_section = record { number = 0; name = []; write = false; exec = false; fill = Zero; align = 0; size = 0; bytes = [] }

no_symbol : Symbol
no_symbol = record { name = []; bind = Local; sort = sorts.NoType; home = Undef; value = 0; size = 0 }

no_entry : Entry
no_entry = record { section = 0; offset = 0; kind = Abs32; symbol = 0; addend = pos 0 }

whole_bytes : (f : Fill) (bytes : List ℕ) (size : ℕ) → IsWhole f bytes size → bytes ≡ filled f bytes
whole_bytes Prog bytes size h = refl
whole_bytes Note bytes size h = refl
whole_bytes Zero bytes size h = h

whole_size : (f : Fill) (bytes : List ℕ) (size : ℕ) → IsWhole f bytes size → (fill_type f == 8) ≡ false → length bytes ≡ size
whole_size Prog bytes size h e = h
whole_size Note bytes size h e = h
whole_size Zero bytes size h e = absurd (true≢false e)

not_zero : (f : Fill) → (f ≡ Zero → ⊥) → (fill_type f == 8) ≡ false
not_zero Prog h = refl
not_zero Note h = refl
not_zero Zero h = absurd (h refl)

home_inside : (sections : List Section) (b : Bind) (value : ℕ) (h : Home) → IsWritableHome sections b value h → IsHome (length sections) h
home_inside sections b value Undef h = tt
home_inside sections b value Abs h = tt
home_inside sections b value (Inside n) h = let lt = slice_get_within sections (n - 1) h.section h.there in (h.low, omega (arith, lt, h.low))
home_inside sections b value Elsewhere h = tt

home_right : (sections : List Section) (d : Section) (b : Bind) (value : ℕ) (h : Home) → IsWritableHome sections b value h → IsRightHome sections d b value h
home_right sections d b value Undef h = tt
home_right sections d b value Abs h = (h, ap not h)
home_right sections d b value (Inside n) h =
    let e = get_or_from_slice_get sections (n - 1) h.section d h.there in
    let size : (get_or sections (n - 1) d).size ≡ h.section.size = ap (λ s. s.size) e in
    omega (arith, size, h.value_inside)
home_right sections d b value Elsewhere h = h

few_kinds : (k : RelKind) → kind_number k < 256 ^ 4
unfolding kind_number
few_kinds Abs32 = lit< tt
few_kinds Abs64 = lit< tt
few_kinds Branch = lit< tt
few_kinds Jal = lit< tt
few_kinds Call = lit< tt
few_kinds CallPlt = lit< tt
few_kinds GotHi20 = lit< tt
few_kinds PcrelHi20 = lit< tt
few_kinds PcrelLo12I = lit< tt
few_kinds PcrelLo12S = lit< tt
few_kinds Hi20 = lit< tt
few_kinds Lo12I = lit< tt
few_kinds Lo12S = lit< tt
few_kinds Add8 = lit< tt
few_kinds Add16 = lit< tt
few_kinds Add32 = lit< tt
few_kinds Add64 = lit< tt
few_kinds Sub8 = lit< tt
few_kinds Sub16 = lit< tt
few_kinds Sub32 = lit< tt
few_kinds Sub64 = lit< tt
few_kinds Sub6 = lit< tt
few_kinds Set6 = lit< tt
few_kinds Set8 = lit< tt
few_kinds Set16 = lit< tt
few_kinds Set32 = lit< tt
few_kinds Pcrel32 = lit< tt

module _ (object : Object) (w : IsRuled object) where
  own : (k : ℕ) → k < length object.sections → IsWritableSection (k + 1) (get_or object.sections k no_section)
  own k lt = w.sections k (get_or object.sections k no_section) (slice_get-get_or object.sections k no_section lt)

  small : IsSmall object no_section
  small = record {
    headers = w.fits.headers;
    locals = w.fits.locals;
    names = w.fits.names;
    size = w.fits.size;
    sections = λ k lt. let h = own k lt in (h.small, h.most);
  }

  plain_sections : (k : ℕ) → k < length object.sections → IsPlainSection (suc k) (get_or object.sections k no_section)
  plain_sections k lt =
      let h = own k lt in
      let s : Section = get_or object.sections k no_section in
      let n : k + 1 ≡ suc k = omega arith in
      record {
        is = h.numbered ∙ n;
        name = h.name;
        align = ne_eqb s.align 0 (λ e. omega (arith, e, h.some));
        bytes = whole_bytes s.fill s.bytes s.size h.whole;
        size = whole_size s.fill s.bytes s.size h.whole;
      }

  sound_sections : (k : ℕ) → k < length object.sections → IsSoundSection (get_or object.sections k no_section)
  sound_sections k lt = let h = own k lt in record { apart = h.apart; align = h.aligned; small = h.small }

  one : (k : ℕ) → k < length object.symbols → IsWritableSymbol object k (get_or object.symbols k no_symbol)
  one k lt = w.symbols k (get_or object.symbols k no_symbol) (slice_get-get_or object.symbols k no_symbol lt)

  place_fits : (k : ℕ) → k < length object.symbols → name_place (names_before object k) (get_or object.symbols k no_symbol).name < 256 ^ 4
  unfolding symbol_strings
  place_fits k lt =
      let s : Symbol = get_or object.symbols k no_symbol in
      let after : List (List ℕ) = map (λ x. x.name) (drop (suc k) object.symbols) in
      let names : map (λ x. x.name) object.symbols ≡ names_before object k ++ (s.name ∷ after) =
      ap (map (λ x. x.name)) (split_at object.symbols k no_symbol lt) ∙ map-append (λ x. x.name) (take k object.symbols) (s ∷ drop (suc k) object.symbols) in
      let inside = name_inside (names_before object k) after s.name in
      let all : length (symbol_strings object) ≡ length (string_table (names_before object k ++ (s.name ∷ after))) = ap (λ v. length (string_table v)) names in
      omega (arith, inside, all, w.fits.texts)

  all_symbols : AreSymbols object no_symbol no_section
  all_symbols = record {
    plain = λ k lt.
        let h = one k lt in
        let s : Symbol = get_or object.symbols k no_symbol in
        record { name = h.name; filed = h.filed; home = home_inside object.sections s.bind s.value s.home h.home; value = h.value; size = h.size };
    fits = place_fits;
    sound = λ k lt.
        let h = one k lt in
        let s : Symbol = get_or object.symbols k no_symbol in
        record { first = h.first; last = h.last; sort = h.sort; home = home_right object.sections no_section s.bind s.value s.home h.home; named = h.named };
  }

  plain_entries : ArePlain object.entries no_entry
  plain_entries k lt =
      let e : Entry = get_or object.entries k no_entry in
      let h = w.storable k e (slice_get-get_or object.entries k no_entry lt) in
      record {
        fits = record { offset = omega (arith, h.offset); symbol = h.symbol; addend = h.addend; kind = few_kinds e.kind; bits = (Fits-of_z {w = w64} {z = e.addend} h.addend).fits };
      }

  all_entries : AreEntries object no_section no_entry
  all_entries = record {
    plain = plain_entries;
    sound = λ n k lt inside.
        let s : Section = get_or object.sections n no_section in
        let m : n + 1 ≡ 1 + n = omega arith in
        let here : k < length (entries_for object.entries (n + 1)) = subst (λ (i : ℕ). k < length (entries_for object.entries i)) (sym m) inside in
        let e : Entry = get_or (entries_for object.entries (n + 1)) k no_entry in
        let h = w.entries n s (slice_get-get_or object.sections n no_section lt) k e (slice_get-get_or (entries_for object.entries (n + 1)) k no_entry here) in
        let sound : IsSoundEntry object s (take k (entries_for object.entries (n + 1))) (entries_for object.entries (n + 1)) e = record {
          filled = not_zero s.fill h.filled;
          symbol = h.symbol;
          usable = h.usable;
          inside = h.inside;
          code = h.code;
          apart = h.apart;
          paired = h.paired;
          bare = h.bare;
        } in
        subst (λ (i : ℕ). IsSoundEntry object s (take k (entries_for object.entries i)) (entries_for object.entries i) (get_or (entries_for object.entries i) k no_entry)) m sound;
  }

  pub read_again : reads (image object) ≡ Ok object
  read_again =
      let f = image_fits object no_section small in
      let sections = sections_are_read object no_section f plain_sections in
      let symbols = symbols_are_read object no_symbol no_section f w.fits.headers all_symbols.plain place_fits in
      let entries = entries_are_read object no_section no_entry f plain_entries w.fits.grouped in
      let none : broken (image object) ≡ [] = λ i.
      header_rules_hold object f w.fits.headers i
      ++ (sections_rules_hold object no_section f plain_sections sound_sections i
      ++ (table_rules_hold object no_section f i
      ++ (symbols_rules_hold object no_symbol no_section f w.fits.headers all_symbols i
      ++ (relocations_rules_hold object no_section no_entry f symbols all_entries i
      ++ (pairs_rules_hold object no_section no_entry f symbols all_entries i ++ slots_rules_hold object no_section no_entry f all_entries i))))) in
      λ i. object_unless (none i) (record { sections = sections i; symbols = symbols i; entries = entries i })
