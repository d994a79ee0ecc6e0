use Rattle.std.proofs.Common.{◌≤◌, ◌∙◌, sym, ap, length, map}
use Rattle.std.proofs.lemmas.Result.{IfOk-weaker}
use Rattle.cell_num.proofs.Elements.{All-In, found-In}
use Rattle.cell_world.specs.declared.file.File.{File}
use Rattle.cell_world.specs.Gather.{source_of}
use Rattle.cell_num.specs.Limits.{max_file_bytes}
use Rattle.cell_depot.specs.Files.{has_name}
use Rattle.cell_described.specs.Objects.{IsSought, Keeps, place_named}
use Rattle.cell_described.proofs.Kept.{sought_kept, sought_nowhere, sought_read}
use Rattle.cell_described.proofs.objects.Objects.find.Goals as goal

pub returns-in_default : goal.returns-in_default
returns-in_default c = sought_nowhere c.args.depot.now c.args.name.now c.args.self.now c.requires.kept c.in_default.ensures

pub returns-in-Some-get : goal.returns-in-Some-get
returns-in-Some-get c =
    sought_kept c.args.depot.now c.args.name.now c.in-Some.file.now c.in-Some.ensures c.args.self.now c.in-Some-get.place.now c.requires.kept
    (ap (place_named c.args.self.now) (sym c.bytes-own.ensures) ∙ sym c.in-Some-get.ensures.value)

pub keep-requires : goal.keep-requires
keep-requires c =
    All-In (λ (f : File). length f.bytes ≤ max_file_bytes) c.args.depot.now c.requires.small c.in-Some.file.now
    (found-In (has_name c.args.name.now) c.args.depot.now c.in-Some.file.now (sym c.in-Some.ensures)).0

pub returns : goal.returns
returns c =
    IfOk-weaker c.keep.result (Keeps c.in-Some.file.now c.args.self.now c.keep.new.self) (IsSought (map source_of c.args.depot.now) c.args.name.now c.args.self.now c.keep.new.self)
    (λ place k. sought_read c.args.depot.now c.args.name.now c.in-Some.file.now c.in-Some.ensures c.args.self.now c.keep.new.self place c.requires.kept
    (ap (place_named c.args.self.now) (sym c.bytes-own.ensures) ∙ sym c.in_default-get.ensures.value) k) c.keep.ensures
