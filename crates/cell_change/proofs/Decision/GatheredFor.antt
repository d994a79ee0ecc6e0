-- What is gathered for a change is what its definition gathers: first its wants and what they bring, and then its copies.
use Rattle.std.proofs.Common.{◌≡◌, refl, sym, ◌∙◌, ap, inl, inr, List, [], ◌∷◌}
use Rattle.std.specs.Prelude.{All, Ok, Err}
use Rattle.cell_num.specs.Lists.{In}
use Rattle.cell_num.proofs.Elements.{All-In}
use Rattle.cell_world.specs.declared.fail.Fail.{Fail}
use Rattle.cell_world.specs.declared.fail.Fail.TheVariants.{Refused, OutOfMemory}
use Rattle.cell_world.specs.declared.file.File.{File}
use Rattle.cell_world.specs.Gather.{grown}
use Rattle.cell_world.specs.Outcome.{Outcome, ◌>>=◌, each}
use Rattle.cell_world.specs.World.{Cell, World}
use Rattle.cell_space.proofs.Joined.{cells_are}
use Rattle.cell_gather.specs.declared.gathering.Gathered.{Gathered}
use Rattle.cell_gather.specs.declared.copies.Original.{Original}
use Rattle.cell_gather.specs.Copying.{append_original}
use Rattle.cell_gather.specs.Gathering.{Gathers, IsGathered, IsOf, gather}
use Rattle.cell_gather.specs.Growing.{Ends, IsGrowing, new_of}
use Rattle.cell_world.specs.Change.{Copy, append_copy, gather as gather_said}
use Rattle.cell_machine.specs.declared.machine.Machine.{Machine}
use Rattle.cell_change.specs.declared.request.CellCopy.{CellCopy}
use Rattle.cell_change.specs.declared.request.Change.{Change}
use Rattle.cell_change.specs.Copying.{AreOriginals}
use Rattle.cell_change.specs.Planning.{GathersFor, IsBegun, IsGatheredFor, wish}
use Rattle.cell_change.proofs.Decision.Began.{are, good, h, is_of, side_is, sources, u, v}
use Rattle.cell_change.proofs.Decision.ChangeLanded.{ungathered}
use Rattle.cell_change.proofs.Decision.Originals.{AreSame, one_same, parts_same}
use Rattle.cell_change.proofs.Decision.Wanting.{gathered_so}

module _ (files : List File) (asked : Change) (m : Machine) (b : IsBegun files asked m) where
  abbrev copying : World → Outcome World
  copying brought = each append_copy brought b.found.copies

  -- the steps of both are the same
  same_steps : (gather (sources files asked m b) (u files asked m b) asked.wants.items asked.options.reexport >>= copying) ≡ gather_said (sources files asked m b) (v files asked m b) (wish b)
  same_steps =
      gathered_so (sources files asked m b) (are files asked m b) (v files asked m b) (h files asked m b) asked.options b.found.wants b.found.copies (good files asked m b) asked.wants.items b.found.are

  -- so the wants are refused as the definition refuses the change
  pub wants_refused : (fail : Fail) → Gathers files m.spaces m.next asked.wants.items asked.options.reexport (Err fail) → GathersFor files asked m b (Err fail)
  wants_refused (Refused r) e =
      ungathered (sources files asked m b) (v files asked m b) (wish b) r (sym same_steps ∙ ap (λ (o : Outcome World). o >>= copying) (e (u files asked m b) (is_of files asked m b)))
  wants_refused OutOfMemory e = tt

  -- the originals of copies are those of the definition's
  same_copies : (list : List CellCopy) (copies : List Copy) (all : List Original) → AreSame list copies
      → ((c : Copy) → In c copies → In c.original (v files asked m b).cells) → AreOriginals m list all → (w : World) → each append_original w all ≡ each append_copy w copies
  same_copies [] [] [] same there is w = refl
  same_copies [] [] (o ∷ all) same there is w = absurd is
  same_copies [] (c ∷ copies) all same there is w = absurd (cc same)
  same_copies (copy ∷ list) [] all same there is w = absurd (cc same)
  same_copies (copy ∷ list) (c ∷ copies) [] same there is w = absurd is
  same_copies (copy ∷ list) (c ∷ copies) (o ∷ all) same there is w =
      let parts = parts_same copy c list copies same in
      ap (λ (o : Outcome World). o >>= (λ y. each append_original y all)) (one_same files asked m b c (there c (inl refl)) copy parts.0 parts.1.0 o is.0 w)
      ∙ go (append_copy w c) (same_copies list copies all parts.1.1 (λ d i. there d (inr i)) is.1)
    where
      go : (x : Outcome World) → ((w : World) → each append_original w all ≡ each append_copy w copies) → (x >>= (λ y. each append_original y all)) ≡ (x >>= (λ y. each append_copy y copies))
      go (Ok y) more = more y
      go (Err r) more = refl

  module _ (first : Gathered) (is : IsGathered files m.spaces m.next asked.wants.items asked.options.reexport first) (all : List Original) (all_are : AreOriginals m asked.copies.items all) where
    first_are : new_of first ≡ is.new
    first_are = cells_are is.new first.cells.items first.ahead.fresh (sym is.placed) is.fresh

    abbrev copied : World → Outcome World
    copied w = each append_original (grown w (new_of first)) all

    -- what follows the wanted cells
    said_is : gather_said (sources files asked m b) (v files asked m b) (wish b) ≡ copied (u files asked m b)
    said_is =
        sym same_steps
        ∙ ap (λ (o : Outcome World). o >>= copying) (is.gathered (u files asked m b) (is_of files asked m b) ∙ ap (λ (cs : List Cell). let o : Outcome World = Ok (grown (u files asked m b) cs) in o) (sym first_are))
        ∙ sym (same_copies asked.copies.items b.found.copies all b.found.copies_are (λ c i. All-In (λ (x : Copy). In x.original (v files asked m b).cells) b.found.copies b.found.originals c i) all_are (grown (u files asked m b) (new_of first)))

    pub copies_refused : (fail : Fail) (new : List Cell) → Ends m.spaces m.next copied (Err fail) new → GathersFor files asked m b (Err fail)
    copies_refused (Refused r) new ends = ungathered (sources files asked m b) (v files asked m b) (wish b) r (said_is ∙ ends (u files asked m b) (is_of files asked m b))
    copies_refused OutOfMemory new ends = tt

    pub all_gathered : (g : Gathered) → IsGrowing m.spaces m.next g → ((w : World) → IsOf m.spaces m.next w → copied w ≡ Ok (grown w (new_of g))) → IsGatheredFor files asked m b g
    all_gathered g growing ends = record {
      gathered = said_is ∙ ends (u files asked m b) (is_of files asked m b) ∙ ap (λ (w : World). let o : Outcome World = Ok (grown w (new_of g)) in o) (side_is files asked m b);
      are = record {
        namespaces = growing.namespaces;
        placed = growing.joined.placed;
        cells = growing.cells;
        fresh = sym growing.joined.called;
        attached = growing.attached;
        objects = growing.loadable;
      };
    }
