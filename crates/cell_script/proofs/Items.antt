-- Where the items of a swap end, and what they and the options say.
use Rattle.std.proofs.Common.{◌≡◌, refl, ap, ap₂, sym, ◌∙◌, ℕ, ◌+◌, ◌-◌, Bool, not, cond, List, [], ◌∷◌, Option, Some, None, Bor, map, length, position, is_none, nat_lt, take, drop}
use Rattle.std.specs.Prelude.{option_and_then, option_map, unwrap_or, codes}
use Rattle.std.specs.List.{position_or_len}
use Rattle.std.proofs.lemmas.List.{drop-map, length-drop, length-map, take-map}
use Rattle.std.proofs.Math.Seq.{take-length}
use Rattle.cell_world.specs.declared.command.Command.{Command}
use Rattle.cell_world.specs.declared.command.SwapItem.{SwapItem}
use Rattle.cell_script.specs.Grammar.{after_option, first_equals, has_option, item_count, swap_by, swap_items, swap_of, swap_words, transfer_of}
use Rattle.cell_script.specs.declared.transfer.Transfer.{Transfer}

module _ {A B : Type 0} (p : B → Bool) (f : A → B) where
  place_of_map : (xs : List A) → position_or_len p (map f xs) ≡ position_or_len (λ x. p (f x)) xs
  place_of_map [] = refl
  place_of_map (x ∷ xs) = ap (λ n. cond (not (p (f x))) (1 + n) 0) (place_of_map xs)

  abbrev found_below : ℕ → ℕ → Option ℕ
  found_below n end = cond (nat_lt n end) (Some n) None

  position_of_map : (xs : List A) → position p (map f xs) ≡ position (λ x. p (f x)) xs
  position_of_map xs =
      ap (λ n. found_below n (length (map f xs))) (place_of_map xs)
      ∙ ap (found_below (position_or_len (λ x. p (f x)) xs)) (length-map xs f)

abbrev is_last : List ℕ → Bool
is_last word = is_none (first_equals word)

-- where the first word without an equals sign stands, or behind the last
pub counted : (words : List (Bor (List ℕ))) (o : Option ℕ) → o ≡ position (λ word. is_none (first_equals word.now)) words
    → unwrap_or o (length words) ≡ item_count (map (λ word. word.now) words)
counted words o e =
    ap (λ x. unwrap_or x (length words)) (e ∙ sym (position_of_map is_last (λ (word : Bor (List ℕ)). word.now) words))
    ∙ ap (unwrap_or (position is_last (map (λ word. word.now) words))) (sym (length-map words (λ (word : Bor (List ℕ)). word.now)))

abbrev seen : List (Bor (List ℕ)) → List (List ℕ)
seen words = map (λ word. word.now) words

-- a swap of those items with those options, if the words that are left name routines
abbrev swap_with : List SwapItem → Bool → Bool → List (List ℕ) → Option Command
swap_with items reexport strict left = option_map (swap_by items reexport strict) (transfer_of left)

-- what the two options are, and what is left after each
pub record AreOptions (options : List (List ℕ)) (one two : List ℕ) (reexport strict : Bool) (after left : List (List ℕ)) : Type 0 where
  pub one_is : one ≡ codes "reexport"
  pub reexports : reexport ≡ has_option one options
  pub behind : after ≡ after_option one options
  pub two_is : two ≡ codes "strict"
  pub stricts : strict ≡ has_option two after
  pub end : left ≡ after_option two after

options_read : (items : List SwapItem) (options : List (List ℕ)) (one two : List ℕ) (reexport strict : Bool) (after left : List (List ℕ)) → AreOptions options one two reexport strict after left
    → swap_with items reexport strict left ≡ swap_of options items
options_read items options one two reexport strict after left are =
    ap₂ (swap_with items reexport) are.stricts are.end
    ∙ (ap (λ option. swap_with items reexport (has_option option after) (after_option option after)) are.two_is
    ∙ (ap₂ (λ (given : Bool) (rest : List (List ℕ)). swap_with items given (has_option (codes "strict") rest) (after_option (codes "strict") rest)) are.reexports are.behind
    ∙ ap
    (λ option. swap_with items (has_option option options) (has_option (codes "strict") (after_option option options)) (after_option (codes "strict") (after_option option options)))
    are.one_is))

module _ (words : List (Bor (List ℕ))) (n : ℕ) (is : n ≡ item_count (seen words)) where
  front : seen (take n words) ≡ take (item_count (seen words)) (seen words)
  front = sym (take-map (λ (word : Bor (List ℕ)). word.now) n words) ∙ ap (λ k. take k (seen words)) is

  rest : take (length words - n) (drop n words) ≡ drop n words
  rest = ap (λ k. take k (drop n words)) (sym (length-drop n words)) ∙ take-length (drop n words)

  back : seen (take (length words - n) (drop n words)) ≡ drop (item_count (seen words)) (seen words)
  back = ap seen rest ∙ (sym (drop-map (λ (word : Bor (List ℕ)). word.now) n words) ∙ ap (λ k. drop k (seen words)) is)

  abbrev options : List (List ℕ)
  options = seen (take (length words - n) (drop n words))

  of_items : (items : Option (List SwapItem)) → items ≡ swap_items (seen (take n words)) → option_and_then (swap_of options) items ≡ swap_words (seen words)
  of_items items first = ap₂ (λ (options : List (List ℕ)) (found : Option (List SwapItem)). option_and_then (swap_of options) found) back (first ∙ ap swap_items front)

  pub no_items : None ≡ swap_items (seen (take n words)) → None ≡ swap_words (seen words)
  no_items = of_items None

  pub swap_is : (items : List SwapItem) → Some items ≡ swap_items (seen (take n words))
      → (one two : List ℕ) (reexport strict : Bool) (after left : List (Bor (List ℕ))) → AreOptions options one two reexport strict (seen after) (seen left)
      → (transfer : Option Transfer) → transfer ≡ transfer_of (seen left) → option_map (swap_by items reexport strict) transfer ≡ swap_words (seen words)
  swap_is items first one two reexport strict after left are transfer e =
      ap (option_map (swap_by items reexport strict)) e ∙ (options_read items options one two reexport strict (seen after) (seen left) are ∙ of_items (Some items) first)
