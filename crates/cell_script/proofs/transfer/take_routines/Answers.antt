use Rattle.std.proofs.Common.{◌++◌, ◌∙◌, ap, sym, arith, inl, inr, map, append-nil}
use Rattle.std.specs.Prelude.{bytes_eq}
use Rattle.cell_script.proofs.Routines.{IsBehindRoutines, is_behind}
use Rattle.cell_script.proofs.transfer.take_routines.Goals as goal
use Rattle.cell_script.proofs.transfer.take_routines.Goals.{then-behind-lt2, in-len2-up+else-eq}

pub returns : goal.returns
returns c =
    let behind : IsBehindRoutines (map (λ word. word.now) c.loop-behind.behind.now) = elim c.if-behind-lt2.branch [
      | then-behind-lt2 w ↦ is_behind c.loop-behind.behind.now (inl (grind arith))
      | in-len2-up+else-eq w ↦ is_behind c.loop-behind.behind.now (inr (ap (bytes_eq _) (sym w.as_slice.ensures) ∙ (sym w.eq.ensures ∙ w.if-eq.false)))
    ] in
    record {
      symbols = sym (append-nil _) ∙ (ap (λ later. map (λ symbol. symbol.now) c.loop-behind.symbols.items ++ later) (sym behind.none) ∙ c.loop-behind.invariant.symbols);
      behind = sym behind.all ∙ c.loop-behind.invariant.behind;
    }
