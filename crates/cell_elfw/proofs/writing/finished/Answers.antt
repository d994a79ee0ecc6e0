use Rattle.std.proofs.Common.{◌++◌, ◌/◌, length, drop, ap, sym, ◌∙◌}
use Rattle.cell_object.specs.Rows.{header_bytes}
use Rattle.cell_elfw.proofs.Whole.{header_put, header_length, write_back, front_fits}
use Rattle.cell_elfw.proofs.writing.finished.Goals as goal

pub put_in_front-requires : goal.put_in_front-requires
put_in_front-requires c =
    let count = length c.args.headers.now / 64 in
    let head = c.in_ok-put_header.ensures ∙ ap (λ v. v ++ header_bytes c.len.result count c.args.shstrndx) c.new-header.ensures.items in
    front_fits c.deref.result.now c.args.file.items c.deref_mut.result.now c.args.headers.now c.len.result count c.args.shstrndx
    (c.deref.ensures.value ∙ head) (c.deref_mut.ensures.value ∙ c.in_ok-extend_from_slice.ensures.items) c.requires

pub returns : goal.returns
returns c =
    let count = length c.args.headers.now / 64 in
    let head = c.in_ok-put_header.ensures ∙ ap (λ v. v ++ header_bytes c.len.result count c.args.shstrndx) c.new-header.ensures.items in
    let rest = drop 64 c.args.file.items ++ c.args.headers.now in
    write_back c.extend_from_slice.new.self.len c.extend_from_slice.new.self.items c.put_in_front.new.file (c.put_in_front.auto.file ∙ ap length c.deref_mut.ensures.value) (sym c.extend_from_slice.new.self.ok.0)
    ∙ header_put c.args.file.items c.args.headers.now c.deref_mut.result.now c.deref.result.now c.put_in_front.new.file (c.deref_mut.ensures.value ∙ c.in_ok-extend_from_slice.ensures.items)
    (ap length (c.deref.ensures.value ∙ head) ∙ header_length c.len.result count c.args.shstrndx) c.requires c.put_in_front.ensures
    ∙ ap (λ v. v ++ rest) (c.deref.ensures.value ∙ head)
    ∙ ap (λ k. header_bytes k count c.args.shstrndx ++ rest) (c.len.ensures ∙ c.args.file.ok.0)
