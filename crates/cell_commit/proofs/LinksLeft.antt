-- The links that are left, while those before them are bound.
use Rattle.std.proofs.Common.{◌≡◌, sym, ap, ◌∙◌, subst, ℕ, ◌+◌, ◌<◌, ◌≤◌, false, List, [], ◌∷◌, ◌++◌, length, drop, get_or, append_assoc, append-nil}
use Rattle.std.specs.Prelude.{All, Contains}
use Rattle.std.proofs.lemmas.List.{drop_more, drop_all}
use Rattle.cell_num.specs.declared.ids.SecKey.{SecKey}
use Rattle.cell_world.specs.declared.state.LinkRow.{LinkRow}
use Rattle.cell_graph.specs.Links.{is_bound}
use Rattle.cell_graph.specs.Order.{below_link, with_link, Rises}
use Rattle.cell_graph.proofs.Calling.{unbound_next, with_link_next}

abbrev pub IsPresent : List SecKey → LinkRow → Type 0
IsPresent sections r = Contains sections r.user × Contains sections r.target

-- what stands past the end of a list of links
abbrev pub no_link : LinkRow
no_link = let key : SecKey = record { cell = record { 0 = 0 }; section = 0 } in record { user = key; entry = 0; target = key }

pub present_here : (now sections : List SecKey) (rows : List LinkRow) (i : ℕ) → i < length rows → now ≡ sections
    → All (IsPresent sections) rows → IsPresent now (get_or rows i no_link)
present_here now sections rows i lt same all = subst (λ (ss : List SecKey). IsPresent ss (get_or rows i no_link)) (sym same) (all i no_link lt)

-- the links so far with those that are left are all, and rise
module _ (rows : List LinkRow) (i : ℕ) (lt : i < length rows) (bound all : List LinkRow) (whole : bound ++ drop i rows ≡ all) (rising : Rises below_link all) where
  abbrev r : LinkRow
  r = get_or rows i no_link

  left : drop i rows ≡ r ∷ drop (i + 1) rows
  left = drop_more rows i no_link lt

  rises : Rises below_link (bound ++ r ∷ drop (i + 1) rows)
  rises = subst (Rises below_link) (sym whole ∙ ap (λ (rs : List LinkRow). bound ++ rs) left) rising

  pub unbound_here : is_bound bound r.user r.entry ≡ false
  unbound_here = unbound_next r (drop (i + 1) rows) bound rises

  pub bound_more : (new : List LinkRow) → new ≡ with_link r bound → new ++ drop (i + 1) rows ≡ all
  bound_more new e =
      ap (λ (rs : List LinkRow). rs ++ drop (i + 1) rows) (e ∙ with_link_next r (drop (i + 1) rows) bound rises)
      ∙ append_assoc bound (r ∷ []) (drop (i + 1) rows)
      ∙ ap (λ (rs : List LinkRow). bound ++ rs) (sym left)
      ∙ whole

pub bound_done : (bound all rows : List LinkRow) (i : ℕ) → length rows ≤ i → bound ++ drop i rows ≡ all → bound ≡ all
bound_done bound all rows i le before = sym (append-nil bound) ∙ ap (λ (rs : List LinkRow). bound ++ rs) (sym (drop_all i rows le)) ∙ before
