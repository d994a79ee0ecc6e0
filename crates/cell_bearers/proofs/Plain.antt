-- The first cell that is seen and has a name strongly, and the nearest that has it weakly, as a plain look at all cells finds them.
use Rattle.std.proofs.Common.{◌≡◌, refl, sym, ◌∙◌, ap, ap₂, arith, ℕ, suc, ◌+◌, ◌<◌, ◌==◌, Bool, true, false, cond, ◌&&◌, List, [], ◌∷◌, ◌++◌, length, map}
use Rattle.std.specs.Prelude.{Option, Some, None, All, filter, filter_map, option_map, slice_get, unwrap_or}
use Rattle.std.specs.List.{cons_option}
use Rattle.std.proofs.lemmas.List.Elements.{filter_map-append}
use Rattle.std.proofs.lemmas.Option.{slice_get-get_or}
use Rattle.cell_num.specs.Lists.{first, holds, or_else}
use Rattle.cell_num.proofs.Elements.{All-In, get-In}
use Rattle.cell_object.specs.declared.object.Object.{Object}
use Rattle.cell_audit.specs.Described.{no_object}
use Rattle.cell_described.specs.Describes.{cell_seen}
use Rattle.cell_described.specs.declared.cell.DescribedCell.{DescribedCell}
use Rattle.cell_world.specs.Names.{Provider, by_spaces, symbol_named, weak_symbol_named}
use Rattle.cell_world.specs.World.{Cell}
use Rattle.cell_bearers.specs.Asked.{first_in, nearest_in, number_at, provider_at, provider_by, stands_as}
use Rattle.cell_bearers.specs.Bearers.{answer_of, bearers_of}
use Rattle.cell_bearers.specs.Found.{at_place, found_from, found_near, weak_place}
use Rattle.cell_bearers.specs.Seeing.{sees, stands_at}
use Rattle.cell_bearers.specs.declared.bearer.Bearer.{Bearer}
use Rattle.cell_bearers.specs.declared.first.FirstBearer.{FirstBearer}
use Rattle.cell_bearers.proofs.Answering.{answered}
use Rattle.cell_bearers.proofs.NamingLemmas.{weakly_is}

abbrev as_provider : ℕ → ℕ → Provider
as_provider cell symbol = record { cell = cell; symbol = symbol }

-- cells that are counted from i on have these numbers, and the symbols that are said are those that they have under the name
pub record AreRight (named : Cell → Option ℕ) (seen : DescribedCell → Cell) (number : ℕ → ℕ) (said : ℕ × DescribedCell → Option ℕ) (i : ℕ) (cells : List DescribedCell) : Type 0 where
  pub numbers : (m j : ℕ) (c : DescribedCell) → m ≡ i + j → slice_get cells j ≡ Some c → number m ≡ (seen c).id.0
  pub symbols : (m j : ℕ) (c : DescribedCell) → m ≡ i + j → slice_get cells j ≡ Some c → option_map (λ n. suc n) (said (m, c)) ≡ named (seen c)

-- of those that a cell asks, the ones inside of some namespaces
module _ (group : Option ℕ) (inside : Cell → Bool) (named : Cell → Option ℕ) where
  abbrev found : Cell → Option Provider
  found c = option_map (as_provider c.id.0) (named c)

  abbrev asked : List Cell → List Cell
  asked cells = filter (λ c. stands_as group c.standing) cells

  abbrev pub first_inside : List Cell → Option Provider
  first_inside cells = first (filter_map found (filter inside (asked cells)))

  abbrev is_asked : Cell → Bool
  is_asked c = stands_as group c.standing && inside c

  one_more : (c : Cell) (cells : List Cell) → first_inside (c ∷ cells) ≡ cond (is_asked c) (or_else (found c) (first_inside cells)) (first_inside cells)
  one_more c cells = go (stands_as group c.standing)
    where
      one : (o : Option Provider) → first (cons_option o (filter_map found (filter inside (asked cells)))) ≡ or_else o (first_inside cells)
      one None = refl
      one (Some p) = refl

      inner : (b : Bool) → first (filter_map found (cond b (c ∷ filter inside (asked cells)) (filter inside (asked cells)))) ≡ cond b (or_else (found c) (first_inside cells)) (first_inside cells)
      inner true = one (found c)
      inner false = refl

      go : (b : Bool) → first (filter_map found (filter inside (cond b (c ∷ asked cells) (asked cells)))) ≡ cond (b && inside c) (or_else (found c) (first_inside cells)) (first_inside cells)
      go true = inner (inside c)
      go false = refl

  module _ (test : DescribedCell → Bool) (seen : DescribedCell → Cell) (like : (c : DescribedCell) → is_asked (seen c) ≡ test c) (number : ℕ → ℕ) (said : ℕ × DescribedCell → Option ℕ) where
    later : (i : ℕ) (c : DescribedCell) (cells : List DescribedCell) → AreRight named seen number said i (c ∷ cells) → AreRight named seen number said (suc i) cells
    later i c cells right = record {
      numbers = λ m j d e at. right.numbers m (suc j) d (omega (arith, e)) at;
      symbols = λ m j d e at. right.symbols m (suc j) d (omega (arith, e)) at;
    }

    pub found_first : (i : ℕ) (cells : List DescribedCell) → AreRight named seen number said i cells → option_map (provider_by number) (found_from test said i cells) ≡ first_inside (map seen cells)
    found_first i [] right = refl
    found_first i (c ∷ cells) right =
        go (test c) (found_first (suc i) cells (later i c cells right))
        ∙ (sym (ap (λ (b : Bool). cond b (or_else (found (seen c)) (first_inside (map seen cells))) (first_inside (map seen cells))) (like c)) ∙ sym (one_more (seen c) (map seen cells)))
      where
        inner : (o n : Option ℕ) → option_map (λ n. suc n) o ≡ n → option_map (provider_by number) (found_from test said (suc i) cells) ≡ first_inside (map seen cells)
            → option_map (provider_by number) (or_else (option_map (at_place i) o) (found_from test said (suc i) cells)) ≡ or_else (option_map (as_provider (seen c).id.0) n) (first_inside (map seen cells))
        inner None n e ih = ih ∙ ap (λ (q : Option ℕ). or_else (option_map (as_provider (seen c).id.0) q) (first_inside (map seen cells))) e
        inner (Some s) n e ih =
            ap (λ (k : ℕ). Some (as_provider k (suc s))) (right.numbers i 0 c (omega arith) refl)
            ∙ ap (λ (q : Option ℕ). or_else (option_map (as_provider (seen c).id.0) q) (first_inside (map seen cells))) e

        go : (b : Bool) → option_map (provider_by number) (found_from test said (suc i) cells) ≡ first_inside (map seen cells)
            → option_map (provider_by number) (or_else (option_map (at_place i) (cond b (said (i, c)) None)) (found_from test said (suc i) cells))
            ≡ cond b (or_else (option_map (as_provider (seen c).id.0) (named (seen c))) (first_inside (map seen cells))) (first_inside (map seen cells))
        go true ih = inner (said (i, c)) (named (seen c)) (right.symbols i 0 c (omega arith) refl) ih
        go false ih = ih

-- one namespace after the other
nearest_more : (group : Option ℕ) (cells : List Cell) (ns : ℕ) (spaces name : List ℕ)
    → nearest_in cells group (ns ∷ spaces) name ≡ or_else (first_inside group (λ c. c.ns == ns) (λ c. weak_symbol_named c name) cells) (nearest_in cells group spaces name)
nearest_more group cells ns spaces name =
    let asked = filter (λ (c : Cell). stands_as group c.standing) cells in
    let here = filter (λ (c : Cell). c.ns == ns) asked in
    let rest = by_spaces spaces asked in
    ap first (filter_map-append (λ (c : Cell). option_map (as_provider c.id.0) (weak_symbol_named c name)) here rest)
    ∙ first-append (filter_map (λ (c : Cell). option_map (as_provider c.id.0) (weak_symbol_named c name)) here) (filter_map (λ (c : Cell). option_map (as_provider c.id.0) (weak_symbol_named c name)) rest)
  where
    first-append : (xs ys : List Provider) → first (xs ++ ys) ≡ or_else (first xs) (first ys)
    first-append [] ys = refl
    first-append (x ∷ xs) ys = refl

module _ (file : List ℕ) (objects : List Object) (cells : List DescribedCell) (there : All (λ c. c.object < length objects) cells) (group : Option ℕ) (spaces name : List ℕ) where
  abbrev seen : DescribedCell → Cell
  seen c = cell_seen file objects c

  has_object : (j : ℕ) (c : DescribedCell) → slice_get cells j ≡ Some c → c.object < length objects
  has_object j c at = All-In (λ (d : DescribedCell). d.object < length objects) cells there c (get-In cells j c at)

  number_is : (m j : ℕ) (c : DescribedCell) → m ≡ 0 + j → slice_get cells j ≡ Some c → number_at cells m ≡ c.id.0
  number_is m j c e at =
      ap (λ (k : ℕ). number_at cells k) (let k : m ≡ j = omega (arith, e) in k)
      ∙ ap (λ (o : Option DescribedCell). unwrap_or (option_map (λ d. d.id.0) o) 0) at

  strongly : AreRight (λ c. symbol_named c name) seen (number_at cells) (answer_of (bearers_of file objects cells name)) 0 cells
  strongly = record {
    numbers = number_is;
    symbols = λ m j c e at.
        ap (λ (n : ℕ). option_map (λ n. suc n) (answer_of (bearers_of file objects cells name) (n, c))) (let k : m ≡ j = omega (arith, e) in k)
        ∙ answered file name j c objects cells _ (slice_get-get_or objects c.object no_object (has_object j c at)) at;
  }

  weakly : AreRight (λ c. weak_symbol_named c name) seen (number_at cells) (weak_place objects name) 0 cells
  weakly = record {
    numbers = number_is;
    symbols = λ m j c e at.
        weakly_is name (seen c).object.symbols;
  }

  pub first_named : (bearers : List Bearer) → bearers ≡ bearers_of file objects cells name
      → option_map (provider_at cells) (found_from (sees group spaces) (answer_of bearers) 0 cells) ≡ first_in (map seen cells) group spaces name
  first_named bearers is =
      ap (λ (bs : List Bearer). option_map (provider_at cells) (found_from (sees group spaces) (answer_of bs) 0 cells)) is
      ∙ found_first group (λ c. holds spaces c.ns) (λ c. symbol_named c name) (sees group spaces) seen (λ c. refl) (number_at cells) (answer_of (bearers_of file objects cells name)) 0 cells strongly

  module _ (said : ℕ × DescribedCell → Option ℕ) (right : AreRight (λ c. weak_symbol_named c name) seen (number_at cells) said 0 cells) where
    by_turns : (ways : List ℕ) → option_map (provider_at cells) (found_near (stands_at group) said cells ways) ≡ nearest_in (map seen cells) group ways name
    by_turns [] = refl
    by_turns (ns ∷ ways) =
        mapped_or (found_from (stands_at group ns) said 0 cells) (found_near (stands_at group) said cells ways)
        ∙ (ap₂ (λ (a b : Option Provider). or_else a b)
        (found_first group (λ c. c.ns == ns) (λ c. weak_symbol_named c name) (stands_at group ns) seen (λ c. refl) (number_at cells) said 0 cells right)
        (by_turns ways)
        ∙ sym (nearest_more group (map seen cells) ns ways name))
      where
        mapped_or : (a b : Option FirstBearer) → option_map (provider_at cells) (or_else a b) ≡ or_else (option_map (provider_at cells) a) (option_map (provider_at cells) b)
        mapped_or None b = refl
        mapped_or (Some x) b = refl

  pub nearest_named : option_map (provider_at cells) (found_near (stands_at group) (weak_place objects name) cells spaces) ≡ nearest_in (map seen cells) group spaces name
  nearest_named = by_turns (weak_place objects name) weakly spaces
