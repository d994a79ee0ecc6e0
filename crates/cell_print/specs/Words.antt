-- Words for things of which there are a few kinds.
--     many_word many        what there may be only so much of
--     kind_word kind        a kind of relocation
--     cause_word cause      why a task's turn was its last
use Rattle.std.specs.Prelude.{ℕ, List, codes}
use Rattle.cell_num.specs.declared.ids.Cause.{Cause}
use Rattle.cell_num.specs.declared.ids.Cause.TheVariants.{Fetch, Jump, Illegal, Break, LoadAlign, Load, StoreAlign, Store, Call as CallTrap}
use Rattle.cell_num.specs.declared.kinds.RelKind.{RelKind}
use Rattle.cell_num.specs.declared.kinds.RelKind.TheVariants.{Abs32, Abs64, Branch, Jal, Call, CallPlt, GotHi20, PcrelHi20, PcrelLo12I, PcrelLo12S, Hi20, Lo12I, Lo12S, Add8, Add16, Add32, Add64, Sub8, Sub16, Sub32, Sub64, Sub6, Set6, Set8, Set16, Set32, Pcrel32}
use Rattle.cell_world.specs.declared.refusal.Many.{Many}
use Rattle.cell_world.specs.declared.refusal.Many.TheVariants.{Namespaces, Cells, CellNumbers, Tasks, TaskNumbers}

-- what there may be only so much of
abbrev pub many_word : Many → List ℕ
many_word Namespaces = codes "namespaces"
many_word Cells = codes "cells"
many_word CellNumbers = codes "cell-numbers"
many_word Tasks = codes "tasks"
many_word TaskNumbers = codes "task-numbers"

-- a kind of relocation, without its first R_RISCV_
abbrev pub kind_word : RelKind → List ℕ
kind_word Abs32 = codes "32"
kind_word Abs64 = codes "64"
kind_word Branch = codes "BRANCH"
kind_word Jal = codes "JAL"
kind_word Call = codes "CALL"
kind_word CallPlt = codes "CALL_PLT"
kind_word GotHi20 = codes "GOT_HI20"
kind_word PcrelHi20 = codes "PCREL_HI20"
kind_word PcrelLo12I = codes "PCREL_LO12_I"
kind_word PcrelLo12S = codes "PCREL_LO12_S"
kind_word Hi20 = codes "HI20"
kind_word Lo12I = codes "LO12_I"
kind_word Lo12S = codes "LO12_S"
kind_word Add8 = codes "ADD8"
kind_word Add16 = codes "ADD16"
kind_word Add32 = codes "ADD32"
kind_word Add64 = codes "ADD64"
kind_word Sub8 = codes "SUB8"
kind_word Sub16 = codes "SUB16"
kind_word Sub32 = codes "SUB32"
kind_word Sub64 = codes "SUB64"
kind_word Sub6 = codes "SUB6"
kind_word Set6 = codes "SET6"
kind_word Set8 = codes "SET8"
kind_word Set16 = codes "SET16"
kind_word Set32 = codes "SET32"
kind_word Pcrel32 = codes "32_PCREL"

-- the trap that ended a task's turns
abbrev pub cause_word : Cause → List ℕ
cause_word Fetch = codes "fetch"
cause_word Jump = codes "jump"
cause_word Illegal = codes "illegal"
cause_word Break = codes "break"
cause_word LoadAlign = codes "load-align"
cause_word Load = codes "load"
cause_word StoreAlign = codes "store-align"
cause_word Store = codes "store"
cause_word CallTrap = codes "call"
