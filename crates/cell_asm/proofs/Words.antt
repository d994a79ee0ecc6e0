-- The words of the contracts, each under one name for the proofs.
pub use Rattle.cell_asm.specs.Types.{Abs64, Add32, Address, All, AsmFail, AsmFailFault, AsmFailOutOfMemory, AsmKind, AsmKindLabel, AsmKindSection, AsmKindWord, Bind, BindGlobal, BindWeak, Block, Bool, Bss, Byte, Bytes, CallPlt, Code, Content, Data, Difference, Directive, Entry, Expression}
pub use Rattle.cell_asm.specs.Types.{ExpressionName, Field, Fields, Fill, Fix, Form, Half, Hi, Hi20, Home, Immediate, ImmediatePart, Inside, Key, KeyMade, KeyNamed, Label, Laid, Line, List, Lo, Local, Long, Mark, Mnemonic, Modifier, Narrow, NoType, None, Note, Number, Numbering, Object, Op, Operand}
pub use Rattle.cell_asm.specs.Types.{OperandMemory, OperandValue, Option, Part, PcrelHi, PcrelHi20, PcrelLo, PcrelLo12I, PcrelLo12S, Piece, Prog, Progress, Quad, Rd, Reference, RelKind, Rodata, Rs1, Rs2, Section, Slot, Spot, Statement, StatementAlign, StatementChoose, StatementZeros, Stop, StopFault}
pub use Rattle.cell_asm.specs.Types.{StopOutOfMemory, Sub32, Sum, Symbol, Symbols, Target, TargetMade, TargetNamed, Text, Then, Twice, Undef, Whole, Wide, Width, WidthWord, Zero, [], after_last, before_first, bytes_eq, bytes_of, codes, cons_option, decimal, equals, false, filter, find, flat_map, fold}
pub use Rattle.cell_asm.specs.Types.{get, holds_name, int_le, is_none, is_upper_pcrel, is_pcrel_lo12, is_some, last, length, lines_in, list_all, list_any, map, max, modulo_2, nat_cmp, nat_le, nat_lt, neg_ℤ, negsuc, not, numbered_from, ok_or, option_and_then, option_map, option_map_or, or_else, pos}
pub use Rattle.cell_asm.specs.Types.{position, position_or_len, prefix_len, replicate, slice_split, suffix_len, sum_by, unwrap_or, where_true, ℕ, GotHi20, GotPcrelHi, is_got_hi20, Binding, BindingGlobal, BindingWeak, StatementBind}
pub use Rattle.cell_asm.specs.Assembled.{Assembles, add_line, assembled, has_lost, has_upper, is_lost, is_lost_mark, is_upper_label, object_from, object_unless, placed_line, placed_lines, placed_texts, placed_unless, with_line}
pub use Rattle.cell_asm.specs.Blocks.{appended, drafted, empty, marks_at, marks_of}
pub use Rattle.cell_asm.specs.Faults.{Gives, both, earlier, gathered, joined, rank, with_value}
pub use Rattle.cell_asm.specs.Instructions.{behind, block, filled, instruction, made_fix, miscounted, put, single, unfilled}
pub use Rattle.cell_asm.specs.Lines.{after_word, code_of, first_word, has_label, is_blank, is_inked, label_name, labelled, line_of, operand_texts, operands, read_with, spelled, statement_in, trimmed}
pub use Rattle.cell_asm.specs.Mnemonics.{Row, directive, mnemonic, mnemonics, row_of, said}
pub use Rattle.cell_asm.specs.Names.{begins, begins_with_digit, decimal_number, ends, held, hex_number, is_hex_digit, is_letter, is_name, is_name_byte, number, numbered_register, register, register_names, unsigned_number}
pub use Rattle.cell_asm.specs.Numberings.{Lists, Locals, Mentions, entry_kept, has_key, home_in, keys_with, local_in, locals_in, mentioned, number_kept, number_of, other_in, part_entries, section_kept, symbol_in, is_bound_in}
pub use Rattle.cell_asm.specs.Objects.{adds_choice, adds_name, adds_part, alignment, alignment_asked, bytes_at, contents, entries, entries_in, entries_of, entry_of, fill_of, first_alignment, home_at, is_text, key_name, label_named, label_names, local_labels, local_symbol, may_write, mentions}
pub use Rattle.cell_asm.specs.Objects.{number_from, number_in, object_of, other_names, padding, part_name, part_number, parts_of, section_of, sections, statement_names, symbol, symbol_keys, symbol_number, symbols, target_key, target_names, is_bound, bind_given, other_symbol}
pub use Rattle.cell_asm.specs.Operands.{expression, front, immediate, inside, is_open, is_sign, less, memory, modified, modifier, operand, with_rest}
pub use Rattle.cell_asm.specs.Places.{choice, choices, fault_at, fault_by, gap, holds_key, is_at, is_in, is_key, is_long, is_made, is_same_part, is_twice, keys_of, label, labels, labels_at, largest, lays_nothing, made_in, made_key, makes_label, marks_in, may_stand, own_key, placed, size_at, size_in, taken, takes, given, binding_in, is_other, is_rebound}
pub use Rattle.cell_asm.specs.Progress.{Adds, AreInside, Follows, Goes, HasRoom, Places, body_of, bytes_laid, failure, fault_after, grown, grown_in, grown_with, is_upper_at, is_upper_spot, key_lost_by, known, laid_after, lost_by, names_in, offset_of, reference_at, references_of, spot_among, spot_at, spot_here, twice_of, rebound_of}
pub use Rattle.cell_asm.specs.Statements.{count, datum, directed, layout, layout_of, none, numbers, one, statement, stored, unit, unit_of, worded}
pub use Rattle.cell_asm.specs.Wanted.{entry, field, fitting, fix, is_bare, kind_of, name, plain, under, value, within}
pub use Rattle.cell_num.specs.Kinds.{is_instruction, is_stacking, width_of}
pub use Rattle.cell_object.specs.Image.{image, local_count, section_rows}
pub use Rattle.cell_object.specs.ImageParts.{content, has_entries, names_before_tables, offset_after, own_names, parts_before_names, parts_before_strings, parts_before_tables, symbols_part, table, table_name}
pub use Rattle.cell_object.specs.Relocations.{is_clash, is_label, is_label_symbol, is_past_slot, is_shared, is_stack, is_unpaired, is_unusable, is_unusable_symbol}
pub use Rattle.cell_object.specs.Readable.{IsReadable}
pub use Rattle.cell_object.specs.Symbols.{defines, is_global_name}
pub use Rattle.cell_object.specs.Writable.{IsPlain, IsWritable}
pub use Rattle.cell_text.specs.Text.{Behind, onto, pieces}
pub use Rattle.std.specs.Char.{digit_value, is_ascii_digit}
pub use Rattle.std.specs.Int.{w64}
pub use Rattle.std.specs.List.{join_with_byte, onto_first, range_with_len}
pub use Rattle.std.specs.Option.{option_or}
pub use Rattle.std.specs.Ordering.{is_eq}
pub use Rattle.std.specs.Prelude.{FitsSigned, IfOk, IfSome, IsTrue, OnOk, min, ◌≤ℤ◌, ◌⊎◌}
pub use Rattle.std.specs.Str.Parse.{digits_value, digits_value_after}
