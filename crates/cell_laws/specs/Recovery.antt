-- What a recovery asks for, and what an accepted one comes to.
--     own_item w c                          the cell as an item of a swap, which puts a fresh instance of its own file in its place
--     IsOfFile sources c                    the cell's object is what the file of its name is read as
--     AreRenewals sources cells wants       each cell is wanted anew, of its own file, which is read as its object
--     HasRenewed sources w t cells said d   the cells were swapped for fresh instances, and the task has begun again
--     words_again t entry                   what of the task may lie in cells once it begins again: its pc, its argument and its x2
--     holding_again w t entry               what holds cells in w, with these three words in the place of the task
use Rattle.std.specs.Prelude.{ℕ, ◌≡◌, ◌+◌, ◌-◌, ◌<◌, ◌==◌, All, List, [], ◌∷◌, None, Some, Ok, flat_map, length, map, option_map, if◌then◌else◌}
use Rattle.cell_num.specs.Limits.{stack_size}
use Rattle.cell_num.specs.declared.ids.CellId.{CellId}
use Rattle.cell_world.specs.declared.command.SwapItem.{SwapItem}
use Rattle.cell_world.specs.declared.reply.Reply.{Reply}
use Rattle.cell_world.specs.Answer.{Done}
use Rattle.cell_world.specs.Change.{Plan, Want, made_by, plan_of, replaced}
use Rattle.cell_world.specs.Commands.Asked.{exchange_reply, renewals, renewing}
use Rattle.cell_world.specs.Commands.UnloadCommand.{purged}
use Rattle.cell_world.specs.Gather.{Source, file_named, name_of_ns}
use Rattle.cell_world.specs.Kept.{Claim, Holding, claim_of, holding_of}
use Rattle.cell_world.specs.Running.Restart.{entry_again, restart, restarted}
use Rattle.cell_world.specs.World.{Cell, Task, World}

abbrev pub own_item : World → Cell → SwapItem
own_item w c = record { ns = name_of_ns w c.ns; stem = c.stem; file = c.file }

abbrev pub IsOfFile : List Source → Cell → Type 0
IsOfFile sources c = option_map (λ f. f.reading) (file_named sources c.file) ≡ Some (Ok c.object)

pub record IsRenewal (sources : List Source) (want : Want) : Type 0 where
  pub old : Cell
  pub replaces : want.replaces ≡ Some old
  pub ns : want.ns ≡ old.ns
  pub file : file_named sources old.file ≡ Some want.file
  pub reading : want.file.reading ≡ Ok old.object

pub record AreRenewals (sources : List Source) (cells : List Cell) (wants : List Want) : Type 0 where
  pub olds : map (λ want. want.replaces) wants ≡ map (λ c. Some c) cells
  pub own : All (IsRenewal sources) wants

-- the removal is the last step, and its only one
pub record HasRenewed (sources : List Source) (w : World) (t : Task) (cells : List Cell) (said : ℕ → List CellId → ℕ → List CellId → List CellId → Reply) (d : Done) : Type 0 where
  pub some : 0 < length cells
  pub wants : List Want
  pub renews : renewals sources cells ≡ Ok wants
  pub olds : replaced (renewing wants t.number) ≡ cells
  pub plan : Plan
  pub planned : plan_of sources w (renewing wants t.number) ≡ Ok plan
  pub entry : ℕ × ℕ
  pub begins : entry_again plan.linked t ≡ Some entry
  pub reply : exchange_reply said (made_by (renewing wants t.number) plan (restart (restarted t entry) plan.linked)) ≡ d.reply
  pub world : purged (restart (restarted t entry) plan.linked) ≡ d.world

-- all its other registers are 0, and so is its stack
abbrev pub words_again : Task → ℕ × ℕ → List ℕ
words_again t entry = entry.1 ∷ t.origin.arg ∷ (t.stack + stack_size - 16) ∷ []

abbrev pub word_claim : ℕ → ℕ → Claim
word_claim task word = record { task = task; root = None; words = word ∷ [] }

-- each other task claims what it claims
abbrev pub claims_in_place : World → Task → ℕ × ℕ → Task → List Claim
claims_in_place w t entry u = if u.number == t.number then map (word_claim t.number) (words_again t entry) else claim_of w u ∷ []

abbrev pub claims_again : World → Task → ℕ × ℕ → List Claim
claims_again w t entry = flat_map (claims_in_place w t entry) w.tasks

abbrev pub holding_again : World → Task → ℕ × ℕ → Holding
holding_again w t entry = record (holding_of w) { claims = claims_again w t entry }
