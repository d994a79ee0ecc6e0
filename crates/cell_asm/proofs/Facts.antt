-- What the proofs use of other crates, and the words of the definitions, each under one name here.
pub use Rattle.cell_asm.proofs.Words.{Abs64, Add32, Address, Adds, All, AreInside, AsmFail, AsmFailFault, AsmFailOutOfMemory, AsmKind, AsmKindLabel, AsmKindSection, AsmKindWord, Assembles, Behind, Bind, BindGlobal, BindWeak, Block, Bss, Byte, Bytes, CallPlt, Code, Content, Data, Difference, Directive}
pub use Rattle.cell_asm.proofs.Words.{Entry, Expression, ExpressionName, Field, Fields, Fill, FitsSigned, Fix, Follows, Form, Gives, Goes, Half, HasRoom, Hi, Hi20, Home, IfOk, IfSome, Immediate, ImmediatePart, Inside, IsPlain, IsWritable, Key, KeyMade, KeyNamed, Label, Laid, Line, Lists, Lo, Local}
pub use Rattle.cell_asm.proofs.Words.{Locals, Long, Mark, Mentions, Mnemonic, Modifier, Narrow, NoType, Note, Number, Numbering, Object, Op, Operand, OperandMemory, OperandValue, Option, Part, PcrelHi, PcrelHi20, PcrelLo, PcrelLo12I, PcrelLo12S, Piece, Places, Prog, Progress, Quad, Rd, Reference}
pub use Rattle.cell_asm.proofs.Words.{RelKind, Rodata, Row, Rs1, Rs2, Section, Slot, Spot, Statement, StatementAlign, StatementChoose, StatementZeros, Stop, StopFault, StopOutOfMemory, Sub32, Sum, Symbol, Symbols, Target, TargetMade, TargetNamed, Text, Then, Twice, Undef, Whole, Wide, Width, WidthWord}
pub use Rattle.cell_asm.proofs.Words.{Zero, add_line, adds_choice, adds_name, adds_part, after_last, after_word, alignment, alignment_asked, appended, assembled, before_first, begins, begins_with_digit, block, body_of, bytes_at, bytes_laid, bytes_of, choice, choices, code_of, cons_option, content}
pub use Rattle.cell_asm.proofs.Words.{contents, count, datum, defines, digit_value, digits_value, digits_value_after, directed, directive, drafted, empty, ends, entries, entries_in, entries_of, entry, entry_kept, entry_of, equals, expression, failure, fault_after, fault_at, fault_by, field, fill_of}
pub use Rattle.cell_asm.proofs.Words.{filled, first_alignment, first_word, fitting, fix, flat_map, fold, front, gap, gathered, get, grown_in, grown_with, has_entries, has_key, has_label, has_lost, has_upper, held, holds_key, holds_name, home_at, home_in, image, immediate, inside, instruction, int_le}
pub use Rattle.cell_asm.proofs.Words.{is_ascii_digit, is_at, is_bare, is_blank, is_clash, is_eq, is_global_name, is_hex_digit, is_in, is_inked, is_instruction, is_key, is_label, is_label_symbol, is_letter, is_long, is_lost, is_lost_mark, is_made, is_name, is_name_byte, is_none, is_open, is_upper_pcrel}
pub use Rattle.cell_asm.proofs.Words.{is_pcrel_lo12, is_same_part, is_shared, is_sign, is_stack, is_stacking, is_text, is_twice, is_unpaired, is_unusable, is_unusable_symbol, is_upper_at, is_upper_label, is_upper_spot, join_with_byte, joined, key_lost_by, key_name, keys_of, keys_with, kind_of, known}
pub use Rattle.cell_asm.proofs.Words.{label, label_name, label_named, label_names, labelled, labels, labels_at, laid_after, largest, last, layout_of, lays_nothing, less, line_of, lines_in, list_all, list_any, local_count, local_in, local_labels, local_symbol, locals_in, lost_by, made_fix, made_in}
pub use Rattle.cell_asm.proofs.Words.{made_key, makes_label, marks_at, marks_in, marks_of, may_stand, may_write, mentioned, mentions, miscounted, mnemonic, mnemonics, modified, modifier, name, names_before_tables, names_in, nat_cmp, neg_ℤ, none, number, number_from, number_in, number_of, numbered_from}
pub use Rattle.cell_asm.proofs.Words.{numbers, object_from, object_of, object_unless, offset_after, offset_of, ok_or, one, onto, onto_first, operand, operand_texts, operands, option_and_then, option_map, option_map_or, option_or, or_else, other_in, other_names, own_key, own_names, padding, part_entries}
pub use Rattle.cell_asm.proofs.Words.{part_name, part_number, parts_before_names, parts_before_strings, parts_before_tables, parts_of, pieces, placed, placed_line, placed_lines, placed_texts, placed_unless, plain, position, position_or_len, prefix_len, put, range_with_len, read_with, reference_at}
pub use Rattle.cell_asm.proofs.Words.{references_of, register_names, row_of, said, section_kept, section_of, section_rows, sections, size_at, size_in, slice_split, spelled, spot_among, spot_at, spot_here, statement, statement_in, statement_names, stored, suffix_len, sum_by, symbol, symbol_in}
pub use Rattle.cell_asm.proofs.Words.{symbol_keys, symbol_number, symbols, symbols_part, table, table_name, taken, takes, target_key, target_names, trimmed, twice_of, under, unfilled, unit, unit_of, unwrap_or, value, w64, where_true, width_of, with_line, with_rest, with_value, within, worded, GotHi20}
pub use Rattle.cell_asm.proofs.Words.{GotPcrelHi, is_got_hi20, IsReadable, is_past_slot, Binding, BindingGlobal, BindingWeak, StatementBind, given, binding_in, is_other, is_rebound, is_bound, bind_given, other_symbol, is_bound_in, rebound_of}
pub use Rattle.std.proofs.Common.{Bool, Bor, Err, List, None, Ok, Result, Some, [], add-one, add-zero, add_assoc, ap, append-nil, append_assoc, arith, bytes_eq, codes, cond, decimal, div-add-mod', drop, false, filter, find, get_or, inl, inr, int_eq, is_some, length, length-append, lit≤, map, max}
pub use Rattle.std.proofs.Common.{nat_le, nat_lt, negsuc, not, one-add, pos, pow-suc, refl, replicate, rules, slice_get, slice_index_or, subst, suc, sym, take, take-append-drop, tests, true, true≢false, zero, zero-add, ℕ, ℤ, ◌%◌, ◌&&◌, ◌*◌, ◌++◌, ◌+◌, ◌-◌, ◌/◌, ◌<◌, ◌==◌, ◌^◌, ◌||◌, ◌∙◌, ◌∷◌, ◌≡◌, ◌≤◌}
pub use Rattle.std.proofs.Common.{◌⊎◌}
pub use Rattle.cell_image.proofs.Ruled.{IsRuled, IsStorable, IsWhole, IsWithin, IsWritableEntry, IsWritableHome, IsWritableSection, IsWritableSymbol}
pub use Rattle.cell_num.proofs.Elements.{In, In-All, In-all, In-append, In-filtered, In-flat_map, In-left, In-map, In-none, In-numbered, In-right, all-In, any-Has, any-In, filter-In, filter-Passes, filter_all, filter_none, find_there, flat_map-In, flat_same, fold_same, found-In, get-In, map-In, map_same, none-In, unfound-In}
pub use Rattle.cell_num.proofs.Ranges.{In-numbers, In-one}
pub use Rattle.cell_num.proofs.Sublists.{filter_same, length-filter_le}
pub use Rattle.std.proofs.Math.Bool.{and-false, or-false}
pub use Rattle.std.proofs.lemmas.Bool.{and_from, and_parts, and_right, cases_lt, le-leb, lt-ltb, ltb-true, ne_eqb, not-false, or_from, or_left, or_right}
pub use Rattle.std.proofs.lemmas.Bool.Decides.{nat_tests}
pub use Rattle.std.proofs.lemmas.List.{drop_more, length-drop, length-map, length-replicate, length-take, length_push, map-append, map_more, replicate-append-replicate, take-map, take_all}
pub use Rattle.std.proofs.lemmas.List.Concat.{flat_map-append, length-flat_map}
pub use Rattle.std.proofs.lemmas.List.Elements.{filter-append, filter_map-append}
pub use Rattle.std.proofs.lemmas.List.Folds.{find-append, list_any-append}
pub use Rattle.std.proofs.lemmas.List.Sums.{fold-append, prefix_len-drop_all, prefix_len-drop_no, prefix_len-drop_yes, prefix_len-le-length, suffix_len-le-length, suffix_len-take_no, suffix_len-take_yes, sum_by-append, sum_by-cons}
pub use Rattle.std.proofs.lemmas.Option.{slice_get-map, slice_get_within}
pub use Rattle.std.proofs.lemmas.Slice.Eq.{bytes_eq-Decides}
