-- Turns of bringing, one after another.
use Rattle.std.proofs.Common.{◌≡◌, refl, sym, ◌∙◌, ap, arith, ℕ, zero, suc, ◌+◌, ◌-◌, ◌<◌, ◌≤◌, List, [], ◌∷◌, ◌++◌, length, map, append_assoc, append-nil, length-append}
use Rattle.std.specs.Prelude.{Option, Some, None, Result, Ok, Err}
use Rattle.std.proofs.lemmas.List.Elements.{All-append, All-cons, All-nil}
use Rattle.cell_world.specs.declared.file.File.{File}
use Rattle.cell_world.specs.declared.refusal.Refusal.{Refusal}
use Rattle.cell_world.specs.World.{World, Cell}
use Rattle.cell_world.specs.Gather.{Source, Need, source_of, first_lack, fresh_cells, bring_one, bring_within, grown}
use Rattle.cell_world.specs.Outcome.{Outcome, ◌>>=◌}
use Rattle.cell_space.specs.Spaces.{SpacesState}
use Rattle.cell_world.specs.declared.fail.Fail.{Fail}
use Rattle.cell_world.specs.declared.fail.Fail.TheVariants.{Refused, OutOfMemory}
use Rattle.cell_gather.specs.Gathering.{IsOf}
use Rattle.cell_gather.specs.Growing.{Ends, IsLed, IsOneMore, Leads}

module _ (sources : List Source) (next : ℕ) (u : World) where
  abbrev turn : ℕ → Option Need → Outcome World
  turn turns o = elim o as (λ _. Outcome World) [ None ↦ Ok u | Some lack ↦ bring_one sources u lack >>= (λ more. bring_within turns sources next more) ]

  -- a turn brings the first need
  turn_brings : (turns : ℕ) (lack : Need) → first_lack u (fresh_cells next u) ≡ Some lack
      → bring_within (suc turns) sources next u ≡ (bring_one sources u lack >>= (λ more. bring_within turns sources next more))
  turn_brings turns lack e = ap (turn turns) e

  turn_ends : (turns : ℕ) → first_lack u (fresh_cells next u) ≡ None → bring_within turns sources next u ≡ Ok u
  turn_ends zero e = refl
  turn_ends (suc turns) e = ap (turn turns) e

module _ (files : List File) (spaces : SpacesState) (next : ℕ) where
  abbrev within : ℕ → World → Outcome World
  within turns w = bring_within turns (map source_of files) next w

  pub led_nowhere : (cells : List Cell) → IsLed files spaces next cells cells
  led_nowhere cells = record {
    added = [];
    is = sym (append-nil cells);
    plain = All-nil (λ (c : Cell). c.aliases ≡ []);
    same = λ w is turns. ap (λ (n : ℕ). within n (grown w cells)) (let e : turns + 0 ≡ turns = omega arith in e);
  }

  pub led_on : (old mid new : List Cell) → IsLed files spaces next old mid → IsLed files spaces next mid new → IsLed files spaces next old new
  led_on old mid new a b = record {
    added = a.added ++ b.added;
    is = b.is ∙ ap (λ cs. cs ++ b.added) a.is ∙ append_assoc old a.added b.added;
    plain = All-append (λ (c : Cell). c.aliases ≡ []) a.added b.added a.plain b.plain;
    same = λ w is turns.
        ap (λ (n : ℕ). within n (grown w old)) (let l = length-append a.added b.added in let e : turns + length (a.added ++ b.added) ≡ turns + length b.added + length a.added = omega (arith, l) in e)
        ∙ a.same w is (turns + length b.added) ∙ b.same w is turns;
  }

  -- in each machine this is the first need
  abbrev pub Lacks : List Cell → Need → Type 0
  Lacks cells lack = (w : World) → IsOf spaces next w → first_lack (grown w cells) (fresh_cells next (grown w cells)) ≡ Some lack

  pub led_once : (cells new : List Cell) (lack : Need) → Lacks cells lack → IsOneMore cells new
      → ((w : World) → IsOf spaces next w → bring_one (map source_of files) (grown w cells) lack ≡ Ok (grown w new)) → IsLed files spaces next cells new
  led_once cells new lack lacks more brought = record {
    added = more.cell ∷ [];
    is = more.is;
    plain = All-cons (λ (c : Cell). c.aliases ≡ []) more.cell [] more.plain (All-nil (λ (c : Cell). c.aliases ≡ []));
    same = λ w is turns.
        ap (λ (n : ℕ). within n (grown w cells)) (let e : turns + length (more.cell ∷ []) ≡ suc turns = omega arith in e)
        ∙ turn_brings (map source_of files) next (grown w cells) turns lack (lacks w is)
        ∙ ap (λ o. o >>= (λ u. within turns u)) (brought w is);
  }

  length_led : (old new : List Cell) (led : IsLed files spaces next old new) → length new ≡ length old + length led.added
  length_led old new led = ap length led.is ∙ length-append old led.added

  -- what comes after some turns comes after the turns before them too
  pub leads_on : (old mid new : List Cell) (r : Result (Unit {0}) Fail) → IsLed files spaces next old mid → length spaces.cells + length mid ≤ 1024
      → Leads files spaces next mid r new → Leads files spaces next old r new
  leads_on old mid new (Ok x) led few leads = led_on old mid new led leads
  leads_on old mid new (Err OutOfMemory) led few leads = tt
  leads_on old mid new (Err (Refused refusal)) led few leads = λ w is turns enough.
      let long = length_led old mid led in
      let left : ℕ = turns - length led.added in
      let e : turns ≡ left + length led.added = omega (arith, long, few, enough) in
      ap (λ (n : ℕ). within n (grown w old)) e ∙ led.same w is left ∙ leads w is left (omega (arith, long, few, enough, e))

  pub refused_turn : (cells new : List Cell) (lack : Need) (refusal : Refusal) → Lacks cells lack → length spaces.cells + length cells ≤ 1024
      → ((w : World) → IsOf spaces next w → bring_one (map source_of files) (grown w cells) lack ≡ Err refusal)
      → Leads files spaces next cells (Err (Refused refusal)) new
  refused_turn cells new lack refusal lacks few brought = λ w is turns enough. go w is turns (omega (arith, few, enough))
    where
      go : (w : World) → IsOf spaces next w → (turns : ℕ) → 0 < turns → within turns (grown w cells) ≡ Err refusal
      go w is zero lt = absurd (omega (arith, lt))
      go w is (suc turns) lt =
          turn_brings (map source_of files) next (grown w cells) turns lack (lacks w is)
          ∙ ap (λ o. o >>= (λ u. within turns u)) (brought w is)

  -- one turn of a need, whatever it comes to
  pub turn_leads : (cells new : List Cell) (lack : Need) (fail : Fail) → Lacks cells lack → length spaces.cells + length cells ≤ 1024
      → Ends spaces next (λ w. bring_one (map source_of files) (grown w cells) lack) (Err fail) new → Leads files spaces next cells (Err fail) new
  turn_leads cells new lack OutOfMemory lacks few ends = tt
  turn_leads cells new lack (Refused refusal) lacks few ends = refused_turn cells new lack refusal lacks few ends

  small : (p n : ℕ) → (0 < n → p + n ≤ 1024) → n ≤ 1024
  small p zero few = omega arith
  small p (suc n) few = let le = few (omega arith) in omega (arith, le)

  -- where nothing lacks, bringing is done
  pub done : (old new : List Cell) (turns : ℕ) → IsLed files spaces next old new → (0 < length new → length spaces.cells + length new ≤ 1024) → 1024 < turns
      → ((w : World) → IsOf spaces next w → first_lack (grown w new) (fresh_cells next (grown w new)) ≡ None)
      → (w : World) → IsOf spaces next w → within turns (grown w old) ≡ Ok (grown w new)
  done old new turns led few enough none w is =
      let long = length_led old new led in
      let le = small (length spaces.cells) (length new) few in
      let left : ℕ = turns - length led.added in
      let e : turns ≡ left + length led.added = omega (arith, long, le, enough) in
      ap (λ (n : ℕ). within n (grown w old)) e ∙ led.same w is left ∙ turn_ends (map source_of files) next (grown w new) left (none w is)

  pub refused : (old new : List Cell) (turns : ℕ) (fail : Fail) → 1024 < turns → Leads files spaces next old (Err fail) new
      → Ends spaces next (λ w. within turns (grown w old)) (Err fail) new
  refused old new turns OutOfMemory enough leads = tt
  refused old new turns (Refused refusal) enough leads = λ w is. leads w is turns (omega (arith, enough))
