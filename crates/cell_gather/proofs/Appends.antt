-- Appending, over each machine that the spaces are those of.
use Rattle.std.proofs.Common.{◌≡◌, refl, sym, ◌∙◌, ap, ℕ, ◌+◌, ◌<◌, ◌≤◌, Bool, true, false, cond, List, [], ◌∷◌, ◌++◌, length, map, get_or, drop}
use Rattle.std.specs.Prelude.{Option, Some, None, Result, Ok, Err, find, option_map}
use Rattle.std.proofs.lemmas.List.{drop_more, drop_all}
use Rattle.cell_num.specs.declared.ids.CellId.{CellId}
use Rattle.cell_num.specs.Lists.{equals}
use Rattle.cell_world.specs.declared.file.File.{File}
use Rattle.cell_world.specs.declared.refusal.Refusal.{Refusal}
use Rattle.cell_world.specs.declared.refusal.Refusal.TheVariants.{Unknown}
use Rattle.cell_world.specs.declared.state.NewCell.{NewCell}
use Rattle.cell_world.specs.World.{World, Cell, attached}
use Rattle.cell_world.specs.Gather.{Source, Need, source_of, file_named, append_cell, bring_one, bring, grown}
use Rattle.cell_world.specs.Outcome.{Outcome, ◌>>=◌, found, each}
use Rattle.cell_depot.specs.Files.{has_name}
use Rattle.cell_space.specs.Spaces.{SpacesState}
use Rattle.cell_world.specs.declared.fail.Fail.{Fail}
use Rattle.cell_world.specs.declared.fail.Fail.TheVariants.{Refused, OutOfMemory}
use Rattle.cell_gather.specs.declared.want.Want.{Want}
use Rattle.cell_gather.specs.Appending.{append_now}
use Rattle.cell_gather.specs.Choosing.{choose_now}
use Rattle.cell_world.specs.Following.{FailsAs}
use Rattle.cell_gather.specs.Gathering.{IsOf, append_wanted, gather, renamed}
use Rattle.cell_gather.specs.Growing.{Ends, with_new}
use Rattle.cell_gather.proofs.Brings.{bring_is}
use Rattle.cell_gather.proofs.Worlds.{append_grown, grown_is, grown_none}

-- the file of a name, by bytes that are it
pub named_by : (files : List File) (word name : List ℕ) (o : Option File) → word ≡ name → o ≡ find (has_name word) files → find (has_name name) files ≡ o
named_by files word name o same e = sym (e ∙ ap (λ (n : List ℕ). find (has_name n) files) same)

module _ (spaces : SpacesState) (next : ℕ) where
  -- what is said otherwise comes to the same
  pub ends_same : (said other : World → Outcome World) (r : Result (Unit {0}) Fail) (new : List Cell) → ((w : World) → IsOf spaces next w → other w ≡ said w)
      → Ends spaces next said r new → Ends spaces next other r new
  ends_same said other (Ok x) new same ends = λ w is. same w is ∙ ends w is
  ends_same said other (Err (Refused refusal)) new same ends = λ w is. same w is ∙ ends w is
  ends_same said other (Err OutOfMemory) new same ends = tt

  -- a first step that is refused
  pub ends_refused : {X : Type 0} (said : World → Outcome World) (step : Outcome X) (go : World → X → Outcome World) (fail : Fail) (new : List Cell)
      → ((w : World) → IsOf spaces next w → said w ≡ (step >>= go w)) → FailsAs fail step → Ends spaces next said (Err fail) new
  ends_refused said step go (Refused refusal) new same e = λ w is. same w is ∙ ap (λ o. o >>= go w) e
  ends_refused said step go OutOfMemory new same e = tt

  module _ (cells : List Cell) (f : File) (ns : ℕ) where
    abbrev appended : Outcome NewCell
    appended = append_now (with_new spaces cells) (length spaces.cells + length cells) (next + length cells) f ns

    abbrev said : World → Outcome World
    said w = append_cell (grown w cells) (source_of f) ns

    pub append_refused : (fail : Fail) (new : List Cell) → FailsAs fail appended → Ends spaces next said (Err fail) new
    append_refused fail new e =
        ends_refused said appended (λ w c. Ok (grown w (cells ++ attached c ∷ []))) fail new (λ w is. append_grown spaces next w is cells f ns) e

    pub append_done : (c : NewCell) (new : List Cell) → appended ≡ Ok c → new ≡ cells ++ attached c ∷ [] → (w : World) → IsOf spaces next w → said w ≡ Ok (grown w new)
    append_done c new e are w is =
        append_grown spaces next w is cells f ns
        ∙ ap (λ (o : Outcome NewCell). o >>= (λ d. Ok (grown w (cells ++ attached d ∷ [])))) e
        ∙ ap (λ cs. Ok (grown w cs)) (sym are)

  one_named : (b : Bool) (f : File) (o : Option Source) (rest : Option File) → o ≡ option_map source_of rest → cond b (Some (source_of f)) o ≡ option_map source_of (cond b (Some f) rest)
  one_named true f o rest e = refl
  one_named false f o rest e = e

  named_is : (name : List ℕ) (files : List File) → file_named (map source_of files) name ≡ option_map source_of (find (has_name name) files)
  named_is name [] = refl
  named_is name (f ∷ files) = one_named (equals f.name name) f (file_named (map source_of files) name) (find (has_name name) files) (named_is name files)

  module _ (files : List File) (cells : List Cell) (want : Want) where
    abbrev with_file : World → Option Source → Outcome World
    with_file w o = found o (Unknown want.file) >>= (λ f. append_cell (grown w cells) f want.ns)

    pub wanted_found : (f : File) (r : Result (Unit {0}) Fail) (new : List Cell) → find (has_name want.file) files ≡ Some f
        → Ends spaces next (λ w. append_cell (grown w cells) (source_of f) want.ns) r new
        → Ends spaces next (λ w. append_wanted (map source_of files) (grown w cells) want) r new
    wanted_found f r new e =
        ends_same (λ w. append_cell (grown w cells) (source_of f) want.ns) (λ w. append_wanted (map source_of files) (grown w cells) want) r new
        (λ w is. ap (with_file w) (named_is want.file files ∙ ap (option_map source_of) e))

    pub wanted_unknown : (word : List ℕ) → word ≡ want.file → find (has_name want.file) files ≡ None → (w : World)
        → append_wanted (map source_of files) (grown w cells) want ≡ Err (Unknown word)
    wanted_unknown word is e w = ap (with_file w) (named_is want.file files ∙ ap (option_map source_of) e) ∙ ap (λ (x : List ℕ). Err (Unknown x)) (sym is)

  module _ (files : List File) (cells : List Cell) (ns : ℕ) (id : CellId) (name : List ℕ) where
    abbrev chosen : Outcome (ℕ × Source)
    chosen = choose_now (map source_of files) (with_new spaces cells) ns id name

    abbrev brings : Cell → World → Outcome World
    brings c w = bring_one (map source_of files) (grown w cells) (let lack : Need = record { cell = c; name = name } in lack)

    abbrev goes_on : World → ℕ × Source → Outcome World
    goes_on w p = append_cell (grown w cells) p.1 p.0

    brings_is : (c : Cell) → c.ns ≡ ns → c.id ≡ id → (w : World) → IsOf spaces next w → brings c w ≡ (chosen >>= goes_on w)
    brings_is c at numbered w is =
        bring_is (map source_of files) (with_new spaces cells) (next + length cells) (grown w cells) (grown_is spaces next w is cells) c name
        ∙ ap (λ (m : ℕ). choose_now (map source_of files) (with_new spaces cells) m c.id name >>= goes_on w) at
        ∙ ap (λ (i : CellId). choose_now (map source_of files) (with_new spaces cells) ns i name >>= goes_on w) numbered

    pub bring_refused : (fail : Fail) (new : List Cell) → FailsAs fail chosen → (c : Cell) → c.ns ≡ ns → c.id ≡ id → Ends spaces next (brings c) (Err fail) new
    bring_refused fail new e c at numbered = ends_refused (brings c) chosen goes_on fail new (brings_is c at numbered) e

    pub bring_chosen : (space : ℕ) (f : File) (r : Result (Unit {0}) Fail) (new : List Cell) → (let p : ℕ × Source = (space, source_of f) in chosen ≡ Ok p)
        → Ends spaces next (λ w. append_cell (grown w cells) (source_of f) space) r new
        → (c : Cell) → c.ns ≡ ns → c.id ≡ id → Ends spaces next (brings c) r new
    bring_chosen space f r new e ends c at numbered =
        ends_same (λ w. append_cell (grown w cells) (source_of f) space) (brings c) r new
        (λ w is. brings_is c at numbered w is ∙ ap (λ (o : Outcome (ℕ × Source)). o >>= goes_on w) e) ends

  -- cells that are appended one after another, each by the same step
  module _ {A : Type 0} (one : World → A → Outcome World) where
    abbrev pub all_from : World → List Cell → List A → Outcome World
    all_from w cells wants = each one (grown w cells) wants

    -- those that are left lead to what all lead to
    abbrev pub AreLeft : List Cell → List A → List Cell → List A → Type 0
    AreLeft old wants cells left = (w : World) → IsOf spaces next w → all_from w cells left ≡ all_from w old wants

    pub one_appended : (old cells new : List Cell) (wants : List A) (i : ℕ) (want : A) → i < length wants → want ≡ get_or wants i want
        → AreLeft old wants cells (drop i wants) → ((w : World) → IsOf spaces next w → one (grown w cells) want ≡ Ok (grown w new))
        → AreLeft old wants new (drop (i + 1) wants)
    one_appended old cells new wants i want lt item far done w is =
        sym (ap (λ o. o >>= (λ u. each one u (drop (i + 1) wants))) (done w is))
        ∙ ap (all_from w cells) (sym (drop_more wants i want lt ∙ ap (λ x. x ∷ drop (i + 1) wants) (sym item)))
        ∙ far w is

    pub one_refused : (old cells new : List Cell) (wants : List A) (i : ℕ) (want : A) (fail : Fail) → i < length wants → want ≡ get_or wants i want
        → AreLeft old wants cells (drop i wants) → Ends spaces next (λ w. one (grown w cells) want) (Err fail) new
        → Ends spaces next (λ w. all_from w old wants) (Err fail) new
    one_refused old cells new wants i want OutOfMemory lt item far ends = tt
    one_refused old cells new wants i want (Refused refusal) lt item far ends = λ w is.
        sym (far w is)
        ∙ ap (all_from w cells) (drop_more wants i want lt ∙ ap (λ x. x ∷ drop (i + 1) wants) (sym item))
        ∙ ap (λ o. o >>= (λ u. each one u (drop (i + 1) wants))) (ends w is)

    pub all_appended : (old cells : List Cell) (wants : List A) (i : ℕ) → length wants ≤ i → AreLeft old wants cells (drop i wants)
        → (w : World) → IsOf spaces next w → all_from w old wants ≡ Ok (grown w cells)
    all_appended old cells wants i le far w is = sym (far w is) ∙ ap (all_from w cells) (drop_all i wants le)

  -- the whole gathering
  module _ (files : List File) (wants : List Want) (reexport : Bool) (w : World) (is : IsOf spaces next w) where
    abbrev then_brings : Outcome World → ℕ → Outcome World
    then_brings o from = o >>= (λ appended. bring (map source_of files) from (renamed w wants reexport appended))

    begins : (said : Outcome World) → all_from (append_wanted (map source_of files)) w [] wants ≡ said → gather (map source_of files) w wants reexport ≡ then_brings said next
    begins said e =
        ap (λ (u : World). then_brings (each (append_wanted (map source_of files)) u wants) w.next_cell) (sym (grown_none spaces next w is))
        ∙ ap (λ (o : Outcome World). then_brings o w.next_cell) e
        ∙ ap (then_brings said) is.number

    pub gather_refused : (refusal : Refusal) → all_from (append_wanted (map source_of files)) w [] wants ≡ Err refusal → gather (map source_of files) w wants reexport ≡ Err refusal
    gather_refused refusal e = begins (Err refusal) e

    pub gather_brings : (mid named : List Cell) (said : Outcome World) → all_from (append_wanted (map source_of files)) w [] wants ≡ Ok (grown w mid) → renamed w wants reexport (grown w mid) ≡ grown w named
        → bring (map source_of files) next (grown w named) ≡ said → gather (map source_of files) w wants reexport ≡ said
    gather_brings mid named said e names brought = begins (Ok (grown w mid)) e ∙ ap (bring (map source_of files) next) names ∙ brought
