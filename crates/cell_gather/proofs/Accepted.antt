-- A cell that may be appended.
use Rattle.std.proofs.Common.{◌≡◌, refl, sym, ◌∙◌, ap, arith, ℕ, ◌<◌, ◌≤◌, true}
use Rattle.std.specs.Prelude.{Ok, Err, nat_lt, nat_le}
use Rattle.std.proofs.lemmas.Bool.Decides.{nat_tests}
use Rattle.cell_object.specs.declared.object.Object.{Object}
use Rattle.cell_world.specs.declared.file.File.{File}
use Rattle.cell_world.specs.declared.refusal.Refusal.TheVariants.{TooMany}
use Rattle.cell_world.specs.declared.refusal.Many.TheVariants.{Cells, CellNumbers}
use Rattle.cell_world.specs.declared.state.NewCell.{NewCell}
use Rattle.cell_world.specs.Names.{definitions_of}
use Rattle.cell_world.specs.Gather.{source_of, stem_of_file, object_in}
use Rattle.cell_world.specs.Outcome.{Outcome, ◌>>=◌, ◌>>◌, need}
use Rattle.cell_space.specs.Spaces.{SpacesState}
use Rattle.cell_gather.specs.Appending.{names_free, room_now, cell_from, append_now}
use Rattle.cell_gather.proofs.Outcomes.{then_ok, bind_ok, need_ok, ok_same}

pub record IsAccepted (s : SpacesState) (total next ns : ℕ) (c : NewCell) : Type 0 where
  pub number : c.id.0 ≡ next
  pub ns_is : c.ns ≡ ns
  pub room : total < 1024
  pub small : next ≤ 65535
  pub free : names_free s c.ns c.stem (definitions_of c.object) ≡ Ok tt

lower : (a b : ℕ) → nat_lt a b ≡ true → a < b
lower a b e = grind (arith, nat_tests)

at_most : (a b : ℕ) → nat_le a b ≡ true → a ≤ b
at_most a b e = grind (arith, nat_tests)

unit_ok : (o : Outcome (Unit {0})) (x : Unit {0}) → o ≡ Ok x → o ≡ Ok tt
unit_ok (Ok x) y h = refl
unit_ok (Err r) y h = cc

pub accepted : (s : SpacesState) (total next ns : ℕ) (f : File) (c : NewCell) → append_now s total next f ns ≡ Ok c → IsAccepted s total next ns c
accepted s total next ns f c h =
    let object_cell : Object → Outcome NewCell = λ object. names_free s ns (stem_of_file f.name) (definitions_of object) >> Ok (cell_from next ns f object) in
    let room = then_ok (room_now total next) (object_in (source_of f) >>= object_cell) c h in
    let rooms = then_ok (need (nat_lt total 1024) (TooMany Cells 1024)) (need (nat_le next 65535) (TooMany CellNumbers 65535)) room.0 room.1 in
    let read = bind_ok (object_in (source_of f)) object_cell c room.2 in
    let free = then_ok (names_free s ns (stem_of_file f.name) (definitions_of read.0)) (Ok (cell_from next ns f read.0)) c read.2 in
    let is : cell_from next ns f read.0 ≡ c = ok_same (cell_from next ns f read.0) c free.2 in
    record {
      number = ap (λ (d : NewCell). d.id.0) (sym is);
      ns_is = ap (λ (d : NewCell). d.ns) (sym is);
      room = lower total 1024 (need_ok (nat_lt total 1024) (TooMany Cells 1024) rooms.0 rooms.1);
      small = at_most next 65535 (need_ok (nat_le next 65535) (TooMany CellNumbers 65535) room.0 rooms.2);
      free =
          ap (λ (d : NewCell). names_free s d.ns d.stem (definitions_of d.object)) (sym is)
          ∙ unit_ok (names_free s ns (stem_of_file f.name) (definitions_of read.0)) free.0 free.1;
    }
