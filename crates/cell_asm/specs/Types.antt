-- The types that the definitions speak of, each under one name here.
pub use Rattle.cell_num.specs.Bits.{bytes_of, modulo_2}
pub use Rattle.cell_num.specs.Kinds.{is_upper_pcrel, is_pcrel_lo12, is_got_hi20}
pub use Rattle.cell_num.specs.Lists.{equals, holds_name, last, numbered_from, or_else, where_true}
pub use Rattle.cell_text.specs.Text.{is_filled, lines_in}
pub use Rattle.std.specs.BTreeMap.{get, get_by}
pub use Rattle.std.specs.List.{after_last, before_first, before_last, cons_option, ends_with, list_all, list_any, position_or_len, prefix_len, slice_split, starts_with, suffix_len, take_while}
pub use Rattle.std.specs.Option.{option_map_or, unwrap_or}
pub use Rattle.std.specs.Ordering.{nat_cmp}
pub use Rattle.std.specs.Prelude.{All, Bool, Err, List, None, Ok, Option, Result, Some, [], bytes_eq, codes, count_by, decimal, drop, false, filter, filter_map, find, flat_map, fold, if◌then◌else◌, int_le, is_none, is_some, length, map, max, nat_eq, nat_le, nat_lt, neg_ℤ, negsuc, not, ok_or}
pub use Rattle.std.specs.Prelude.{option_and_then, option_map, pos, position, replicate, suc, sum_by, take, true, ℕ, ℤ, ◌%◌, ◌&&◌, ◌*◌, ◌++◌, ◌+◌, ◌-◌, ◌/◌, ◌<◌, ◌==◌, ◌^◌, ◌||◌, ◌∷◌, ◌≡◌, ◌≤◌}
pub use Rattle.cell_asm.specs.declared.statement.Block.{Block}
pub use Rattle.cell_asm.specs.declared.statement.Draft.{Draft}
pub use Rattle.cell_asm.specs.declared.statement.Mark.{Mark}
pub use Rattle.cell_asm.specs.declared.directive.Layout.{Layout}
pub use Rattle.cell_asm.specs.declared.kind.Stop.{Stop}
pub use Rattle.cell_asm.specs.declared.kind.Stop.TheVariants.{Fault as StopFault, OutOfMemory as StopOutOfMemory}
pub use Rattle.cell_asm.specs.declared.instruction.Fields.{Fields}
pub use Rattle.cell_asm.specs.declared.kind.AsmFail.{AsmFail}
pub use Rattle.cell_asm.specs.declared.kind.AsmFail.TheVariants.{Fault as AsmFailFault, OutOfMemory as AsmFailOutOfMemory}
pub use Rattle.cell_asm.specs.declared.kind.AsmKind.{AsmKind}
pub use Rattle.cell_asm.specs.declared.kind.AsmKind.TheVariants.{Word as AsmKindWord, Label as AsmKindLabel, Section as AsmKindSection, Twice, Long, Operand as AsmKindOperand, Range}
pub use Rattle.cell_asm.specs.declared.known.Known.{Known}
pub use Rattle.cell_asm.specs.declared.statement.Spot.{Spot}
pub use Rattle.cell_asm.specs.declared.statement.Key.{Key}
pub use Rattle.cell_asm.specs.declared.statement.Key.TheVariants.{Named as KeyNamed, Made as KeyMade}
pub use Rattle.cell_asm.specs.declared.statement.Label.{Label}
pub use Rattle.cell_asm.specs.declared.statement.Laid.{Laid}
pub use Rattle.cell_asm.specs.declared.mnemonic.Directive.{Directive}
pub use Rattle.cell_asm.specs.declared.mnemonic.Directive.TheVariants.{Choose as DirectiveChoose, Bind as DirectiveBind, Numbers, Zeros as DirectiveZeros, Align as DirectiveAlign}
pub use Rattle.cell_asm.specs.declared.mnemonic.Mnemonic.{Mnemonic}
pub use Rattle.cell_asm.specs.declared.mnemonic.Fixed.{Fixed}
pub use Rattle.cell_asm.specs.declared.mnemonic.Then.{Then}
pub use Rattle.cell_asm.specs.declared.mnemonic.Width.{Width}
pub use Rattle.cell_asm.specs.declared.mnemonic.Width.TheVariants.{Byte, Half, Word as WidthWord, Quad}
pub use Rattle.cell_asm.specs.declared.symbol.Numbering.{Numbering}
pub use Rattle.cell_asm.specs.declared.operand.Expression.{Expression}
pub use Rattle.cell_asm.specs.declared.operand.Expression.TheVariants.{Name as ExpressionName, Sum, Difference}
pub use Rattle.cell_asm.specs.declared.operand.Immediate.{Immediate}
pub use Rattle.cell_asm.specs.declared.operand.Immediate.TheVariants.{Number, Part as ImmediatePart}
pub use Rattle.cell_asm.specs.declared.operand.Modifier.{Modifier}
pub use Rattle.cell_asm.specs.declared.operand.Modifier.TheVariants.{Whole, Hi, Lo, PcrelHi, PcrelLo, GotPcrelHi}
pub use Rattle.cell_asm.specs.declared.operand.Operand.{Operand}
pub use Rattle.cell_asm.specs.declared.operand.Operand.TheVariants.{Value as OperandValue, Memory as OperandMemory}
pub use Rattle.cell_asm.specs.declared.place.Progress.{Progress}
pub use Rattle.cell_asm.specs.declared.reference.Reference.{Reference}
pub use Rattle.cell_asm.specs.declared.section.Bodies.{Bodies}
pub use Rattle.cell_asm.specs.declared.section.Body.{Body}
pub use Rattle.cell_asm.specs.declared.mnemonic.Form.{Form}
pub use Rattle.cell_asm.specs.declared.mnemonic.Form.TheVariants.{Low, LowStore, Upper as FormUpper, UpperPcrel as FormUpperPcrel, Shift as FormShift, ShiftWord as FormShiftWord, Small, Branch as FormBranch, Jump as FormJump, Call as FormCall, Address}
pub use Rattle.cell_asm.specs.declared.mnemonic.Slot.{Slot}
pub use Rattle.cell_asm.specs.declared.mnemonic.Slot.TheVariants.{Rd, Rs1, Rs2, Value as SlotValue, Memory as SlotMemory}
pub use Rattle.cell_asm.specs.declared.statement.Content.{Content}
pub use Rattle.cell_asm.specs.declared.statement.Content.TheVariants.{Code, Narrow, Wide}
pub use Rattle.cell_asm.specs.declared.statement.Field.{Field}
pub use Rattle.cell_asm.specs.declared.statement.Binding.{Binding}
pub use Rattle.cell_asm.specs.declared.statement.Binding.TheVariants.{Global as BindingGlobal, Weak as BindingWeak}
pub use Rattle.cell_asm.specs.declared.statement.Fix.{Fix}
pub use Rattle.cell_asm.specs.declared.statement.Line.{Line}
pub use Rattle.cell_asm.specs.declared.statement.Part.{Part}
pub use Rattle.cell_asm.specs.declared.statement.Part.TheVariants.{Text, Bss, Rodata, Data}
pub use Rattle.cell_asm.specs.declared.statement.Piece.{Piece}
pub use Rattle.cell_asm.specs.declared.statement.Statement.{Statement}
pub use Rattle.cell_asm.specs.declared.statement.Statement.TheVariants.{Bytes, Nothing, Choose as StatementChoose, Bind as StatementBind, Zeros as StatementZeros, Align as StatementAlign}
pub use Rattle.cell_asm.specs.declared.statement.Target.{Target}
pub use Rattle.cell_asm.specs.declared.statement.Target.TheVariants.{Named as TargetNamed, Made as TargetMade}
pub use Rattle.cell_asm.specs.declared.symbol.Symbols.{Symbols}
pub use Rattle.cell_isa.specs.declared.insn.Op.{Op}
pub use Rattle.cell_num.specs.declared.kinds.RelKind.{RelKind}
pub use Rattle.cell_num.specs.declared.kinds.RelKind.TheVariants.{PcrelHi20, PcrelLo12I, PcrelLo12S, Abs64, CallPlt, Hi20, Add32, Sub32, Lo12I, Lo12S, GotHi20}
pub use Rattle.cell_object.specs.declared.object.Bind.{Bind}
pub use Rattle.cell_object.specs.declared.object.Bind.TheVariants.{Global as BindGlobal, Local, Weak as BindWeak}
pub use Rattle.cell_object.specs.declared.object.Entry.{Entry}
pub use Rattle.cell_object.specs.declared.object.Fill.{Fill}
pub use Rattle.cell_object.specs.declared.object.Fill.TheVariants.{Prog, Note, Zero}
pub use Rattle.cell_object.specs.declared.object.Home.{Home}
pub use Rattle.cell_object.specs.declared.object.Home.TheVariants.{Inside, Undef}
pub use Rattle.cell_object.specs.declared.object.Object.{Object}
pub use Rattle.cell_object.specs.declared.object.Section.{Section}
pub use Rattle.cell_object.specs.declared.object.Sort.TheVariants.{NoType}
pub use Rattle.cell_object.specs.declared.object.Symbol.{Symbol}
