-- Cells that are linked one after another, and in a machine with the same targets.
use Rattle.std.proofs.Common.{◌≡◌, refl, sym, ◌∙◌, ap, ap₂, arith, ℕ, zero, suc, ◌+◌, ◌<◌, ◌≤◌, List, [], ◌∷◌, ◌++◌, map, length, drop, get_or, append_assoc, append-nil}
use Rattle.std.specs.Prelude.{Option, Some, None, Err, filter_map, option_map, unwrap_or}
use Rattle.std.specs.List.{cons_option}
use Rattle.std.proofs.lemmas.List.{drop_more}
use Rattle.cell_num.specs.Lists.{numbered_from, or_else}
use Rattle.cell_object.specs.declared.object.Entry.{Entry}
use Rattle.cell_world.specs.declared.refusal.Refusal.{Refusal}
use Rattle.cell_world.specs.declared.state.LinkRow.{LinkRow}
use Rattle.cell_world.specs.declared.state.NewCell.{NewCell}
use Rattle.cell_world.specs.declared.state.Target.{Target}
use Rattle.cell_world.specs.declared.state.Target.TheVariants.{Number}
use Rattle.cell_world.specs.World.{World, Cell, attached}
use Rattle.cell_world.specs.Linked.Field.{bound_by, misfit_of}
use Rattle.cell_world.specs.Linked.Fit.{first_misfit, misfit_in, overflow_at}
use Rattle.cell_world.specs.Linked.Relink.{link_of, link_to}
use Rattle.cell_world.specs.Linked.Target.{target_of, targets_of}
use Rattle.cell_lemmas.specs.Grown.{links_from}
use Rattle.cell_link.specs.declared.value.FieldValue.{FieldValue}
use Rattle.cell_link.specs.Linked.{field_values}
use Rattle.cell_machine.specs.Staged.{all_attached, all_fields}
use Rattle.cell_load.specs.declared.link.Linked.{Linked}
use Rattle.cell_world.specs.declared.fail.Fail.{Fail}
use Rattle.cell_world.specs.declared.fail.Fail.TheVariants.{Refused, OutOfMemory}
use Rattle.cell_load.specs.Linking.{IsLinked, Links, LinksAll, all_rows, rows_by, rows_from, targets_in}

-- so many of the cells are linked
pub record IsLinkedTo (w : World) (cells : List NewCell) (place : ℕ) (l : Linked) : Type 0 where
  pub fit : first_misfit w (all_attached (drop place cells)) ≡ first_misfit w (all_attached cells)
  pub fields : l.fields.items ++ all_fields w (all_attached (drop place cells)) ≡ all_fields w (all_attached cells)
  pub rows : l.rows.items ++ all_rows w (drop place cells) ≡ all_rows w cells

pub none_linked : (w : World) (cells : List NewCell) (l : Linked) → l.fields.items ≡ [] → l.rows.items ≡ [] → IsLinkedTo w cells 0 l
none_linked w cells l fields rows =
    record { fit = refl; fields = ap (λ xs. xs ++ all_fields w (all_attached cells)) fields; rows = ap (λ xs. xs ++ all_rows w cells) rows }

past : {X : Type 0} (xs : List X) (k : ℕ) → length xs ≤ k → drop k xs ≡ []
past [] zero le = refl
past [] (suc k) le = refl
past (x ∷ xs) zero le = absurd (omega (arith, le))
past (x ∷ xs) (suc k) le = past xs k (omega (arith, le))

module _ (w : World) (cells : List NewCell) (place : ℕ) (l : Linked) (to : IsLinkedTo w cells place l) where
  -- all are linked
  module _ (end : length cells ≤ place) where
    pub all_fit : first_misfit w (all_attached cells) ≡ None
    all_fit = sym to.fit ∙ ap (λ (cs : List NewCell). first_misfit w (all_attached cs)) (past cells place end)

    pub fields_all : l.fields.items ≡ all_fields w (all_attached cells)
    fields_all = sym (append-nil l.fields.items) ∙ (ap (λ (cs : List NewCell). l.fields.items ++ all_fields w (all_attached cs)) (sym (past cells place end)) ∙ to.fields)

    pub rows_all : l.rows.items ≡ all_rows w cells
    rows_all = sym (append-nil l.rows.items) ∙ (ap (λ (cs : List NewCell). l.rows.items ++ all_rows w cs) (sym (past cells place end)) ∙ to.rows)

  -- the next one
  module _ (here : place < length cells) (c : NewCell) (at : c ≡ get_or cells place c) where
    next : drop place cells ≡ c ∷ drop (place + 1) cells
    next = drop_more cells place c here ∙ ap (λ (x : NewCell). x ∷ drop (place + 1) cells) (sym at)

    first_unfit : (refusal : Refusal) → misfit_in w (attached c) ≡ Some refusal → first_misfit w (all_attached cells) ≡ Some refusal
    first_unfit refusal e =
        sym to.fit
        ∙ (ap (λ (cs : List NewCell). first_misfit w (all_attached cs)) next
        ∙ ap (λ o. or_else o (first_misfit w (all_attached (drop (place + 1) cells)))) e)

    pub refused : (fail : Fail) → Links w c (Err fail) → LinksAll w cells (Err fail)
    refused (Refused refusal) e = first_unfit refusal e
    refused OutOfMemory e = tt

    module _ (one more : Linked) (linked : IsLinked w c one) (fields : more.fields.items ≡ l.fields.items ++ one.fields.items) (rows : more.rows.items ≡ l.rows.items ++ one.rows.items) where
      pub linked_more : IsLinkedTo w cells (place + 1) more
      linked_more = record {
        fit =
            sym
            (ap (λ (cs : List NewCell). first_misfit w (all_attached cs)) next
            ∙ ap (λ o. or_else o (first_misfit w (all_attached (drop (place + 1) cells)))) linked.fit)
            ∙ to.fit;
        fields =
            ap (λ xs. xs ++ all_fields w (all_attached (drop (place + 1) cells))) (fields ∙ ap (λ xs. l.fields.items ++ xs) linked.fields)
            ∙ (append_assoc l.fields.items (field_values c (targets_in w c)) (all_fields w (all_attached (drop (place + 1) cells)))
            ∙ (ap (λ (cs : List NewCell). l.fields.items ++ all_fields w (all_attached cs)) (sym next) ∙ to.fields));
        rows =
            ap (λ xs. xs ++ all_rows w (drop (place + 1) cells)) (rows ∙ ap (λ xs. l.rows.items ++ xs) linked.rows)
            ∙ (append_assoc l.rows.items (rows_by c (targets_in w c)) (all_rows w (drop (place + 1) cells))
            ∙ (ap (λ (cs : List NewCell). l.rows.items ++ all_rows w cs) (sym next) ∙ to.rows));
      }

-- the links by the targets are the links of the entries
rows_of : (w : World) (c : NewCell) (i : ℕ) (entries : List Entry) → filter_map (link_of w (attached c)) (numbered_from i entries) ≡ rows_from c i entries (map (λ e. unwrap_or (target_of w (attached c) e) (Number 0)) entries)
rows_of w c i [] = refl
rows_of w c i (e ∷ entries) = go (target_of w (attached c) e) (rows_of w c (suc i) entries)
  where
    go : (o : Option Target) → filter_map (link_of w (attached c)) (numbered_from (suc i) entries) ≡ rows_from c (suc i) entries (map (λ e. unwrap_or (target_of w (attached c) e) (Number 0)) entries)
        → cons_option (elim o as (λ _. Option LinkRow) [ None ↦ None | Some target ↦ link_to (attached c) i e target ]) (filter_map (link_of w (attached c)) (numbered_from (suc i) entries))
        ≡ cons_option (link_to (attached c) i e (unwrap_or o (Number 0))) (rows_from c (suc i) entries (map (λ e. unwrap_or (target_of w (attached c) e) (Number 0)) entries))
    go None ih = ih
    go (Some t) ih = ap (λ rows. cons_option (link_to (attached c) i e t) rows) ih

-- where the entries name the same
module _ (v w : World) (same : (c : Cell) → targets_of w c ≡ targets_of v c) where
  misfit_same : (c : NewCell) → misfit_in w (attached c) ≡ misfit_in v (attached c)
  misfit_same c = ap (λ (ts : List Target). option_map (overflow_at (attached c)) (misfit_of c (bound_by c.object.entries ts))) (same (attached c))

  pub misfits_same : (cells : List NewCell) → first_misfit w (all_attached cells) ≡ first_misfit v (all_attached cells)
  misfits_same [] = refl
  misfits_same (c ∷ cells) = ap₂ or_else (misfit_same c) (misfits_same cells)

  pub fields_same : (cells : List NewCell) → all_fields w (all_attached cells) ≡ all_fields v (all_attached cells)
  fields_same [] = refl
  fields_same (c ∷ cells) = ap₂ (λ (xs ys : List FieldValue). xs ++ ys) (ap (field_values c) (same (attached c))) (fields_same cells)

  pub rows_are : (cells : List NewCell) → links_from w (all_attached cells) ≡ all_rows v cells
  rows_are [] = refl
  rows_are (c ∷ cells) =
      ap₂ (λ (xs ys : List LinkRow). xs ++ ys)
      (rows_of w c 0 c.object.entries ∙ ap (rows_by c) (same (attached c)))
      (rows_are cells)
