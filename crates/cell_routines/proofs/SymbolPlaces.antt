-- A task may begin at a symbol exactly where a routine may.
use Rattle.std.proofs.Common.{◌≡◌, refl, ℕ, Bool, true, false, Option, None, Some}
use Rattle.std.specs.Prelude.{is_some, option_and_then, option_map, unwrap_or}
use Rattle.cell_num.specs.Lists.{where_true}
use Rattle.cell_object.specs.declared.object.Symbol.{Symbol}
use Rattle.cell_object.specs.Parts.{section_of}
use Rattle.cell_world.specs.declared.state.NewCell.{NewCell}
use Rattle.cell_world.specs.Commands.SpawnCommand.{inside_of, is_entry_in}
use Rattle.cell_routines.specs.declared.entries.Begin.{Begin}
use Rattle.cell_routines.specs.Begins.{begin_at, begin_in}

pub same_place : (c : NewCell) (s : Symbol)
    → is_some (begin_in c s) ≡ is_some (option_and_then {T = ℕ} {U = ℕ × ℕ} (λ section. where_true (unwrap_or (option_map (is_entry_in c.object s.value) (section_of c.object section)) false) (section, s.value)) (inside_of s.home))
same_place c s = go (inside_of s.home)
  where
    by : (section : ℕ) (b : Bool) → is_some (where_true b (let x : Begin = record { cell = c.id; section = section; offset = s.value } in x)) ≡ is_some {T = ℕ × ℕ} (where_true b (section, s.value))
    by section true = refl
    by section false = refl

    go : (o : Option ℕ) → is_some (option_and_then {T = ℕ} {U = Begin} (λ section. begin_at c section s.value) o)
        ≡ is_some (option_and_then {T = ℕ} {U = ℕ × ℕ} (λ section. where_true (unwrap_or (option_map (is_entry_in c.object s.value) (section_of c.object section)) false) (section, s.value)) o)
    go None = refl
    go (Some section) = by section (unwrap_or (option_map (is_entry_in c.object s.value) (section_of c.object section)) false)
