-- The parts of a symbol's name, place by place.
use Rattle.std.proofs.Common.{◌≡◌, refl, sym, ◌∙◌, ap, arith, ℕ, ◌+◌, ◌<◌, ◌≤◌, Bool, true, false, cond, List, [], ◌∷◌, ◌++◌, get_or, drop, take, length, append_assoc, append-nil, length-drop}
use Rattle.std.specs.Prelude.{Option, Some, None, option_map, ◌==◌, ◌&&◌}
use Rattle.std.proofs.lemmas.List.{drop_more, take_more}
use Rattle.cell_world.specs.Names.{crate_of, base_name, is_hash}

-- what stands before it, with the text that is passed already
abbrev pub crate_after : List ℕ → List ℕ → Option (List ℕ)
crate_after passed rest = option_map (λ front. passed ++ front) (crate_of rest)

passed_more : (passed : List ℕ) (b : ℕ) (found : Option (List ℕ)) → option_map (λ front. passed ++ front) (option_map (λ front. b ∷ front) found) ≡ option_map (λ front. (passed ++ b ∷ []) ++ front) found
passed_more passed b None = refl
passed_more passed b (Some front) = ap (λ x. Some x) (sym (append_assoc passed (b ∷ []) front))

crate_short : (xs : List ℕ) → length xs ≤ 1 → crate_of xs ≡ None
crate_short [] le = refl
crate_short (a ∷ []) le = refl
crate_short (a ∷ b ∷ rest) le = absurd (omega arith)

module _ (name : List ℕ) (i : ℕ) where
  -- the two bytes there are a `::`
  abbrev pub is_path : Bool
  is_path = get_or name i 0 == 58 && get_or name (i + 1) 0 == 58

  front_is : i + 1 < length name → crate_of (drop i name) ≡ cond is_path (Some []) (option_map (λ front. get_or name i 0 ∷ front) (crate_of (drop (i + 1) name)))
  front_is lt =
      let two : drop (i + 1) name ≡ get_or name (i + 1) 0 ∷ drop (i + 1 + 1) name = drop_more name (i + 1) 0 lt in
      let one : drop i name ≡ get_or name i 0 ∷ drop (i + 1) name = drop_more name i 0 (omega arith) in
      ap crate_of (one ∙ ap (λ xs. get_or name i 0 ∷ xs) two)
      ∙ ap (λ xs. cond is_path (Some []) (option_map (λ front. get_or name i 0 ∷ front) (crate_of xs))) (sym two)

  pub crate_here : (b : Bool) (all : Option (List ℕ)) → i + 1 < length name → b ≡ is_path → b ≡ true → crate_after (take i name) (drop i name) ≡ all → Some (take i name) ≡ all
  crate_here b all lt is here so_far =
      sym (ap (option_map (λ front. take i name ++ front)) (front_is lt ∙ ap (λ t. cond t (Some []) (option_map (λ front. get_or name i 0 ∷ front) (crate_of (drop (i + 1) name)))) (sym is ∙ here))
      ∙ ap (λ x. Some x) (append-nil (take i name))) ∙ so_far

  pub crate_behind : (b : Bool) (all : Option (List ℕ)) → i + 1 < length name → b ≡ is_path → b ≡ false → crate_after (take i name) (drop i name) ≡ all → crate_after (take (i + 1) name) (drop (i + 1) name) ≡ all
  crate_behind b all lt is here so_far =
      ap (λ passed. crate_after passed (drop (i + 1) name)) (take_more name i 0 (omega arith))
      ∙ (sym (passed_more (take i name) (get_or name i 0) (crate_of (drop (i + 1) name)))
      ∙ (sym (ap (option_map (λ front. take i name ++ front)) (front_is lt ∙ ap (λ t. cond t (Some []) (option_map (λ front. get_or name i 0 ∷ front) (crate_of (drop (i + 1) name)))) (sym is ∙ here))) ∙ so_far))

  pub crate_none : (all : Option (List ℕ)) → length name ≤ i + 1 → crate_after (take i name) (drop i name) ≡ all → None ≡ all
  crate_none all le so_far = sym (ap (option_map (λ front. take i name ++ front)) (crate_short (drop i name) (omega (arith, length-drop i name)))) ∙ so_far

-- a place at which no hash stands
pub base_behind : (name text : List ℕ) (i : ℕ) (b : Bool) → i < length name → text ≡ drop i name → b ≡ is_hash text → b ≡ false
    → take i name ++ base_name (drop i name) ≡ base_name name
    → take (i + 1) name ++ base_name (drop (i + 1) name) ≡ base_name name
base_behind name text i b lt is h off so_far =
    let front : drop i name ≡ get_or name i 0 ∷ drop (i + 1) name = drop_more name i 0 lt in
    let not_hash : is_hash (get_or name i 0 ∷ drop (i + 1) name) ≡ false = sym (ap is_hash (is ∙ front)) ∙ sym h ∙ off in
    let one : base_name (drop i name) ≡ get_or name i 0 ∷ base_name (drop (i + 1) name) =
    ap base_name front ∙ ap (λ t. cond t [] (get_or name i 0 ∷ base_name (drop (i + 1) name))) not_hash
    in
    ap (λ front. front ++ base_name (drop (i + 1) name)) (take_more name i 0 lt)
    ∙ append_assoc (take i name) (get_or name i 0 ∷ []) (base_name (drop (i + 1) name))
    ∙ ap (λ rest. take i name ++ rest) (sym one)
    ∙ so_far
