-- Transfers by hand, computed.
use Rattle.std.proofs.Common.{◌≡◌, refl, [], ◌∷◌, None, Some, map}
use Rattle.cell_num.specs.declared.ids.Cause.TheVariants.{Call}
use Rattle.cell_num.specs.declared.ids.Why.TheVariants.{Budget, Returned, Trap}
use Rattle.cell_isa.specs.Instruction.{decode}
use Rattle.cell_laws.specs.Worked.{asking, failed, holding, pc_after, stores, storing}

pub returns_7 : storing 7 10 ≡ record { regions = stores 7 ∷ holding 9 ∷ []; failure = failed (Returned 7) }
unfolding decode
returns_7 = refl

pub runs_out : storing 0 5 ≡ record { regions = stores 0 ∷ holding 9 ∷ []; failure = failed Budget }
unfolding decode
runs_out = refl

pub succeeds : storing 0 6 ≡ record { regions = stores 0 ∷ holding 9 ∷ []; failure = None }
unfolding decode
succeeds = refl

pub turn_by_turn : map (pc_after 0) (0 ∷ 1 ∷ 2 ∷ 3 ∷ 4 ∷ 5 ∷ 6 ∷ []) ≡ Some 0x10000 ∷ Some 0x10004 ∷ Some 0x10008 ∷ Some 0x1000c ∷ Some 0x10010 ∷ Some 0x10014 ∷ None ∷ []
unfolding decode
turn_by_turn = refl

pub asks_old : (asking 4).failure ≡ failed (Returned 0x4000)
unfolding decode
asks_old = refl

pub asks_new : (asking 5).failure ≡ failed (Returned 0x5000)
unfolding decode
asks_new = refl

pub asks_other : (asking 6).failure ≡ failed (Trap Call 0x1000c)
unfolding decode
asks_other = refl
