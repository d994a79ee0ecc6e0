use Rattle.std.specs.Prelude.{◌≡◌}
use Rattle.cell_asm.proofs.Facts.{ℕ, List, None, sym, ap, ◌∙◌, rules, bytes_eq, bytes_eq-Decides, known}
use Rattle.std.proofs.lemmas.Map.Text.{btree_map_updates_str}
use Rattle.cell_asm.proofs.SymbolLemmas.{taken}
use Rattle.cell_asm.proofs.known.Known.add.Goals as goal

pub returns-in_ok-insert : goal.returns-in_ok-insert
returns-in_ok-insert g c = λ q.
    let name : List ℕ = c.args.name.now in
    let absent : known c.args.self.now c.args.name.now ≡ None = search rules in
    btree_map_updates_str name c.args.self.now.names c.insert.new.self _ c.in_ok-insert.ensures.updates q
    ∙ taken (bytes_eq name q) c.args.value (known c.args.self.now q) (λ t. ap (known c.args.self.now) (sym ((bytes_eq-Decides name q).0 t)) ∙ absent)
