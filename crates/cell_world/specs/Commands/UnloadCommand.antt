-- `unload NS/STEM ...` and `purge`
use Rattle.std.specs.Prelude.{ℕ, suc, not, ◌||◌, List, [], ◌∷◌, ◌++◌, Option, None, Ok, map, filter, filter_map, flat_map, option_map, if◌then◌else◌}
use Rattle.cell_num.specs.Lists.{holds, or_else}
use Rattle.cell_world.specs.declared.refusal.Refusal.{Refusal}
use Rattle.cell_world.specs.declared.refusal.Refusal.TheVariants.{Unknown, Held}
use Rattle.cell_world.specs.declared.reply.Reply.TheVariants.{Unload as UnloadDone, Purge as PurgeDone}
use Rattle.cell_world.specs.declared.command.CellName.{CellName}
use Rattle.cell_world.specs.World.{World, Cell, is_attached}
use Rattle.cell_world.specs.declared.state.Standing.TheVariants.{Detached}
use Rattle.cell_world.specs.Names.{namespace_named, cell_at}
use Rattle.cell_world.specs.Linked.Relink.{class_start}
use Rattle.cell_world.specs.declared.layout.Class.TheVariants.{Text, ReadOnly, Writable}
use Rattle.cell_world.specs.Kept.{Holding, holding_of, kept_in, holder_in}
use Rattle.cell_world.specs.Outcome.{Outcome, ◌>>=◌, ◌>>◌, found, refused_by, each}
use Rattle.cell_world.specs.Answer.{Done, done, ids, numbers_of}

-- where a cell's regions start
abbrev pub starts_of : Cell → List ℕ
starts_of c = filter_map (class_start c) (Text ∷ ReadOnly ∷ Writable ∷ [])

-- a cell goes with its regions and links
abbrev pub without_cells : World → List ℕ → World
without_cells w numbers =
    let starts = flat_map starts_of (filter (λ c. holds numbers c.id.0) w.cells) in
    record w {
      cells = filter (λ c. not (holds numbers c.id.0)) w.cells;
      links = filter (λ link. not (holds numbers link.user.cell.0 || holds numbers link.target.cell.0)) w.links;
      regions = filter (λ r. not (holds starts r.start)) w.regions;
    }

-- the cells that swaps put aside
abbrev pub detached_of : World → List ℕ
detached_of w = numbers_of (filter (λ c. not (is_attached c.standing)) w.cells)

-- the detached cells that nobody keeps
abbrev pub garbage_of : World → List ℕ
garbage_of w = let kept = kept_in (holding_of w) in filter (λ n. not (holds kept n)) (detached_of w)

abbrev pub purged : World → World
purged w = without_cells w (garbage_of w)

-- the cells of these numbers put aside by swap k
abbrev pub put_aside : ℕ → List ℕ → Cell → Cell
put_aside k numbers c = if holds numbers c.id.0 then record c { standing = Detached k } else c

abbrev pub detach : ℕ → List ℕ → World → World
detach k numbers w = record w { cells = map (put_aside k numbers) w.cells }

-- `NS/STEM`
abbrev pub cell_word : CellName → List ℕ
cell_word name = name.ns ++ 47 ∷ name.stem

abbrev pub attached_cell : World → CellName → Outcome Cell
attached_cell w name = do
  ns ← found (namespace_named w name.ns) (Unknown (cell_word name))
  found (cell_at w ns name.stem) (Unknown (cell_word name))

abbrev pub held_refusal : Holding → ℕ → Option Refusal
held_refusal h c = option_map (λ holder. Held (record { 0 = c }) holder) (holder_in h c)

-- the first of the cells that is kept, with its holder
abbrev pub first_held : Holding → List ℕ → Option Refusal
first_held h [] = None
first_held h (c ∷ cells) = or_else (if holds (kept_in h) c then held_refusal h c else None) (first_held h cells)

abbrev pub named_cells : World → List CellName → Outcome (List Cell)
named_cells w names = each (λ cells name. attached_cell w name >>= (λ c. Ok (cells ++ c ∷ []))) [] names

-- what is kept and who holds it is read with the named cells put aside
abbrev pub next_unload : World → List CellName → Outcome Done
next_unload w names = do
  cells ← named_cells w names
  let aside = detach (suc w.swaps) (numbers_of cells) w in do
    refused_by (first_held (holding_of aside) (numbers_of cells))
    done (UnloadDone (ids (garbage_of aside))) (purged aside)

abbrev pub next_purge : World → Outcome Done
next_purge w = done (PurgeDone (ids (garbage_of w))) (purged w)
