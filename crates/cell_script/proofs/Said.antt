-- Each command of a script is one that a line can say.
use Rattle.std.proofs.Common.{◌≡◌, refl, ap, ◌∙◌, arith, ℕ, ◌+◌, Bool, true, false, cond, ◌&&◌, List, [], ◌∷◌}
use Rattle.std.proofs.lemmas.Bool.{lt-ltb}
use Rattle.std.specs.Prelude.{Option, Some, None, Result, Ok, Err, bytes_eq, codes, drop, length, map, nat_lt, option_and_then, option_map, take}
use Rattle.cell_num.specs.Lists.{where_true}
use Rattle.cell_world.specs.declared.command.SwapItem.{SwapItem}
use Rattle.cell_world.specs.declared.command.Command.{Command}
use Rattle.cell_world.specs.declared.command.Command.TheVariants.{Ns, Load, Spawn, Step, Run, Kill, Unload, Purge, Find, Map, Tasks, Deps, Users, Dump, DumpAll, Recover, Rebuild, Clone}
use Rattle.cell_script.specs.declared.command.Reading.{Reading}
use Rattle.cell_script.specs.declared.command.Reading.TheVariants.{Nothing, Does, Bad}
use Rattle.cell_script.specs.declared.line.Line.{Line}
use Rattle.cell_script.specs.Grammar.{Form, after_option, all_three, alone, are_different, argument, both, both_around, cell_names, cell_part, command_in, each_said, forms, has_option, is_name, item_count, name, number, several, single, swap_by, swap_item, swap_items, swap_of, swap_words, symbol, transfer_of, turns_of_one, turns_of_run}
use Rattle.cell_script.specs.Script.{add_line, are_said, does, is_comment, is_said, reading_in, reading_of, script_from}
use Rattle.cell_text.specs.Text.{words_of}

abbrev IsSaid : Option Command → Type 0
IsSaid None = Unit {0}
IsSaid (Some command) = is_said command ≡ true

module _ {A : Type 0} (made : A → Command) (h : (a : A) → is_said (made a) ≡ true) where
  mapped : (o : Option A) → IsSaid (option_map made o)
  mapped None = tt
  mapped (Some a) = h a

  single_said : (said : List ℕ → Option A) (words : List (List ℕ)) → IsSaid (single said made words)
  single_said said [] = tt
  single_said said (a ∷ []) = mapped (said a)
  single_said said (a ∷ b ∷ words) = tt

  several_said : (said : List (List ℕ) → Option A) (words : List (List ℕ)) → IsSaid (several said made words)
  several_said said [] = tt
  several_said said (word ∷ words) = mapped (said (word ∷ words))

module _ {A B : Type 0} (one : List ℕ → Option A) (other : List ℕ → Option B) (made : A → B → Command) (h : (a : A) (b : B) → is_said (made a b) ≡ true) where
  both_said : (words : List (List ℕ)) → IsSaid (both one other made words)
  both_said [] = tt
  both_said (a ∷ []) = tt
  both_said (a ∷ b ∷ []) = go (one a)
    where
      go : (o : Option A) → IsSaid (option_and_then (λ x. option_map (made x) (other b)) o)
      go None = tt
      go (Some x) = mapped (made x) (h x) (other b)
  both_said (a ∷ b ∷ c ∷ words) = tt

-- a namespace's name is spelled as such
ns_said : (words : List (List ℕ)) → IsSaid (both_around (codes "under") name name (λ fresh parent. Ns fresh parent) words)
ns_said [] = tt
ns_said (a ∷ []) = tt
ns_said (a ∷ m ∷ []) = tt
ns_said (a ∷ m ∷ b ∷ []) = go (bytes_eq m (codes "under")) (is_name a) refl (name b)
  where
    go : (t n : Bool) → is_name a ≡ n → (o : Option (List ℕ)) → IsSaid (cond t (option_and_then (λ (x : List ℕ). option_map (λ (y : List ℕ). Ns x y) o) (where_true n a)) None)
    go false n e o = tt
    go true false e o = tt
    go true true e None = tt
    go true true e (Some y) = e
ns_said (a ∷ m ∷ b ∷ c ∷ words) = tt

-- of a sibling too
clone_said : (words : List (List ℕ)) → IsSaid (both_around (codes "as") name name (λ ns fresh. Clone ns fresh) words)
clone_said [] = tt
clone_said (a ∷ []) = tt
clone_said (a ∷ m ∷ []) = tt
clone_said (a ∷ m ∷ b ∷ []) = go (bytes_eq m (codes "as")) (name a) (is_name b) refl
  where
    go : (t : Bool) (o : Option (List ℕ)) (n : Bool) → is_name b ≡ n → IsSaid (cond t (option_and_then (λ (x : List ℕ). option_map (λ (y : List ℕ). Clone x y) (where_true n b)) o) None)
    go false o n e = tt
    go true None n e = tt
    go true (Some x) false e = tt
    go true (Some x) true e = e
clone_said (a ∷ m ∷ b ∷ c ∷ words) = tt

three_said : {A B C : Type 0} (one : List ℕ → Option A) (other : List ℕ → Option B) (last : List ℕ → Option C) (made : A → B → C → Command) → ((a : A) (b : B) (c : C) → is_said (made a b c) ≡ true)
    → (words : List (List ℕ)) → IsSaid (all_three one other last made words)
three_said one other last made h [] = tt
three_said one other last made h (a ∷ []) = tt
three_said one other last made h (a ∷ b ∷ []) = tt
three_said {A} one other last made h (a ∷ b ∷ c ∷ []) = go (one a)
  where
    go : (o : Option A) → IsSaid (option_and_then (λ x. both other last (made x) (b ∷ c ∷ [])) o)
    go None = tt
    go (Some x) = both_said other last (made x) (h x) (b ∷ c ∷ [])
three_said one other last made h (a ∷ b ∷ c ∷ d ∷ words) = tt

alone_said : (command : Command) → is_said command ≡ true → (words : List (List ℕ)) → IsSaid (alone command words)
alone_said command h [] = h
alone_said command h (word ∷ words) = tt

-- a swap names one cell at least
abbrev Filled : Option (List SwapItem) → Type 0
Filled None = Unit {0}
Filled (Some items) = nat_lt 0 (length items) ≡ true

each_filled : (word : List ℕ) (words : List (List ℕ)) → Filled (each_said swap_item (word ∷ words))
each_filled word words = go (swap_item word)
  where
    one : (x : SwapItem) (o : Option (List SwapItem)) → Filled (option_map (λ rest. x ∷ rest) o)
    one x None = tt
    one x (Some rest) = lt-ltb 0 (length (x ∷ rest)) (omega arith)

    go : (o : Option SwapItem) → Filled (option_and_then (λ x. option_map (λ rest. x ∷ rest) (each_said swap_item words)) o)
    go None = tt
    go (Some x) = one x (each_said swap_item words)

items_filled : (words : List (List ℕ)) → Filled (swap_items words)
items_filled [] = tt
items_filled (word ∷ words) = go (are_different (map cell_part (word ∷ words)))
  where
    go : (b : Bool) → Filled (cond b (each_said swap_item (word ∷ words)) None)
    go true = each_filled word words
    go false = tt

items_said : (options : List (List ℕ)) (items : List SwapItem) → nat_lt 0 (length items) ≡ true → IsSaid (swap_of options items)
items_said options items filled = mapped (swap_by items (has_option (codes "reexport") options) (has_option (codes "strict") after)) (λ transfer. filled) (transfer_of (after_option (codes "strict") after))
  where
    after : List (List ℕ)
    after = after_option (codes "reexport") options

swap_said : (words : List (List ℕ)) → IsSaid (swap_words words)
swap_said words = go (swap_items (take (item_count words) words)) (items_filled (take (item_count words) words))
  where
    go : (o : Option (List SwapItem)) → Filled o → IsSaid (option_and_then (swap_of (drop (item_count words) words)) o)
    go None filled = tt
    go (Some items) filled = items_said (drop (item_count words) words) items filled

abbrev AreSaid : List Form → Type 0
AreSaid [] = Unit {0}
AreSaid (form ∷ rest) = ((words : List (List ℕ)) → IsSaid (form.arguments words)) × AreSaid rest

in_forms : (fs : List Form) → AreSaid fs → (word : List ℕ) (words : List (List ℕ)) → IsSaid (command_in fs word words)
in_forms [] all word words = tt
in_forms (form ∷ rest) all word words = go (bytes_eq word form.word) (in_forms rest all.1 word words)
  where
    go : (t : Bool) → IsSaid (command_in rest word words) → IsSaid (cond t (form.arguments words) (command_in rest word words))
    go true later = all.0 words
    go false later = later

all_forms : AreSaid forms
all_forms = (
  ns_said,
  (
    both_said name name (λ ns stem. Load ns stem) (λ a b. refl),
    (
      three_said name symbol argument (λ ns what arg. Spawn ns what arg) (λ a b c. refl),
      (
        both_said number turns_of_one (λ task turns. Step task turns) (λ a b. refl),
        (
          single_said (λ turns. Run turns) (λ a. refl) turns_of_run,
          (
            single_said (λ task. Kill task) (λ a. refl) number,
            (
              swap_said,
              (
                several_said (λ cells. Unload cells) (λ a. refl) cell_names,
                (
                  alone_said Purge refl,
                  (
                    both_said name symbol (λ ns what. Find ns what) (λ a b. refl),
                    (
                      alone_said Map refl,
                      (
                        alone_said Tasks refl,
                        (
                          single_said (λ cell. Deps cell) (λ a. refl) number,
                          (
                            single_said (λ cell. Users cell) (λ a. refl) number,
                            (
                              both_said number number (λ cell section. Dump cell section) (λ a b. refl),
                              (
                                alone_said DumpAll refl,
                                (
                                  single_said (λ task. Recover task) (λ a. refl) number,
                                  (
                                    single_said (λ task. Rebuild task) (λ a. refl) number,
                                    (clone_said, tt),
                                  ),
                                ),
                              ),
                            ),
                          ),
                        ),
                      ),
                    ),
                  ),
                ),
              ),
            ),
          ),
        ),
      ),
    ),
  ),
)

abbrev IsReading : Reading → Type 0
IsReading (Does command) = is_said command ≡ true
IsReading _ = Unit {0}

does_said : (o : Option Command) → IsSaid o → IsReading (does o)
does_said None h = tt
does_said (Some command) h = h

reading_said : (words : List (List ℕ)) → IsReading (reading_in words)
reading_said [] = tt
reading_said (word ∷ words) = go (is_comment word)
  where
    go : (t : Bool) → IsReading (cond t Nothing (does (command_in forms word words)))
    go true = tt
    go false = does_said (command_in forms word words) (in_forms forms all_forms word words)

abbrev pub AreCommands : Result (List Line) ℕ → Type 0
AreCommands (Ok lines) = are_said lines ≡ true
AreCommands (Err n) = Unit {0}

one_more : (n : ℕ) (r : Reading) (later : Result (List Line) ℕ) → IsReading r → AreCommands later → AreCommands (add_line n r later)
one_more n Nothing later h all = all
one_more n Bad later h all = tt
one_more n (Does command) (Ok lines) h all = ap (λ b. b && are_said lines) h ∙ all
one_more n (Does command) (Err m) h all = tt

pub script_said : (n : ℕ) (texts : List (List ℕ)) → AreCommands (script_from n texts)
script_said n [] = refl
script_said n (text ∷ texts) = one_more n (reading_of text) (script_from (n + 1) texts) (reading_said (words_of text)) (script_said (n + 1) texts)
