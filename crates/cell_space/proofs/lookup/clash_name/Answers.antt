use Rattle.std.proofs.Common.{◌∙◌, sym, ap, ℕ, List}
use Rattle.std.specs.Prelude.{◌&&◌, find, option_map}
use Rattle.cell_world.specs.Names.{has_name}
use Rattle.cell_space.specs.declared.word.WordKind.{WordKind}
use Rattle.cell_space.specs.declared.word.WordKind.TheVariants.{Name}
use Rattle.cell_space.specs.Index.{has_word}
use Rattle.cell_space.specs.Named.{is_rival, number_of}
use Rattle.cell_space.proofs.Searches.{find-filter}
use Rattle.cell_space.proofs.lookup.clash_name.Goals as goal

pub returns-in-Some : goal.returns-in-Some
returns-in-Some c =
    ap (λ o. number_of (option_map (λ r. r.now) o)) (sym c.in-Some.is)
    ∙ ap number_of
    (c.lowest_rival.ensures
    ∙ ap (λ (kind : WordKind). find (λ x. has_word kind c.of-word.result.text.now x && is_rival c.args.namespaces.now c.args.path.now.ns x) c.args.cells.now) c.of-word.ensures.kind
    ∙ ap (λ (text : List ℕ). find (λ x. has_word Name text x && is_rival c.args.namespaces.now c.args.path.now.ns x) c.args.cells.now) c.of-word.ensures.text
    ∙ sym (find-filter (λ x. has_name x.names c.args.name.now) (is_rival c.args.namespaces.now c.args.path.now.ns) c.args.cells.now))

pub returns-in-None : goal.returns-in-None
returns-in-None c =
    ap (λ o. number_of (option_map (λ r. r.now) o)) (sym c.in-None.is)
    ∙ ap number_of
    (c.lowest_rival.ensures
    ∙ ap (λ (kind : WordKind). find (λ x. has_word kind c.of-word.result.text.now x && is_rival c.args.namespaces.now c.args.path.now.ns x) c.args.cells.now) c.of-word.ensures.kind
    ∙ ap (λ (text : List ℕ). find (λ x. has_word Name text x && is_rival c.args.namespaces.now c.args.path.now.ns x) c.args.cells.now) c.of-word.ensures.text
    ∙ sym (find-filter (λ x. has_name x.names c.args.name.now) (is_rival c.args.namespaces.now c.args.path.now.ns) c.args.cells.now))
