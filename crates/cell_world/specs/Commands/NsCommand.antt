-- `ns NAME under PARENT`: one more namespace.
--     if_new_space w name go     go on, where a namespace of that name may come
--     with_namespace w name up   w with it, under that one
use Rattle.std.specs.Prelude.{ℕ, nat_lt, List, [], ◌∷◌, ◌++◌, Some, length, is_none}
use Rattle.cell_world.specs.declared.refusal.Many.TheVariants.{Namespaces}
use Rattle.cell_world.specs.declared.refusal.Refusal.TheVariants.{NameTaken, TooMany}
use Rattle.cell_world.specs.declared.reply.Reply.TheVariants.{Ns as NsDone}
use Rattle.cell_num.specs.Limits.{max_namespaces}
use Rattle.cell_world.specs.World.{World}
use Rattle.cell_world.specs.Names.{namespace_named}
use Rattle.cell_world.specs.Outcome.{Outcome, ◌>>=◌, ◌>>◌, need}
use Rattle.cell_world.specs.Answer.{Done, done, space_of}

abbrev pub with_namespace : World → List ℕ → ℕ → World
with_namespace w name parent = record w { namespaces = w.namespaces ++ record { name = name; parent = Some parent } ∷ [] }

abbrev pub if_new_space : World → List ℕ → Outcome Done → Outcome Done
if_new_space w name go = do
  need (is_none (namespace_named w name)) (NameTaken name)
  need (nat_lt (length w.namespaces) max_namespaces) (TooMany Namespaces max_namespaces)
  go

abbrev pub next_ns : World → List ℕ → List ℕ → Outcome Done
next_ns w name parent = do
  up ← space_of w parent
  if_new_space w name (done (NsDone name) (with_namespace w name up))
