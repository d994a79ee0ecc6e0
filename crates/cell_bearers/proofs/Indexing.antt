-- Rows of all namings, in their order, are the index of names.
use Rattle.std.proofs.Common.{◌≡◌, refl, sym, ◌∙◌, ap, subst, ℕ, Bool, true, false, cond, List, length, map, replicate}
use Rattle.std.specs.Prelude.{filter, filter_map}
use Rattle.std.proofs.lemmas.Slice.Eq.{bytes_eq-Decides}
use Rattle.cell_num.specs.Lists.{In}
use Rattle.cell_num.proofs.Elements.{In-filtered, filter-In}
use Rattle.cell_object.specs.declared.object.Object.{Object}
use Rattle.cell_object.specs.Parts.{is_definition}
use Rattle.cell_described.specs.declared.cell.DescribedCell.{DescribedCell}
use Rattle.cell_bearers.specs.Bearers.{alias_text, bearers_of}
use Rattle.cell_bearers.specs.Index.{IsIndex, IsRowed}
use Rattle.cell_bearers.specs.Namings.{AreFaithful, Named, bearer_of, bearers_among, distinct, is_called, named, namings_of, symbol_owner}
use Rattle.cell_bearers.specs.Rows.{IsThere, listed, no_row, owned_at, row_at}
use Rattle.cell_bearers.specs.declared.index.Index.{Index}
use Rattle.cell_bearers.specs.declared.named.Owner.TheVariants.{Need, Definition, Alias}
use Rattle.cell_bearers.specs.declared.rows.Rows.{Rows}
use Rattle.cell_bearers.proofs.Borne.{bearers_made}
use Rattle.cell_bearers.proofs.Owned.{alias_In, faithful, has_room, symbol_In}

-- a list with the same of each name has the same elements
called_In : (xs ys : List Named) → ((name : List ℕ) → filter (is_called name) xs ≡ filter (is_called name) ys) → (n : Named) → In n ys → In n xs
called_In xs ys same n k =
    In-filtered (is_called n.name) xs n
    (subst (λ (zs : List Named). In n zs) (sym (same n.name)) (filter-In (is_called n.name) ys n k ((bytes_eq-Decides n.name n.name).1 refl)))

module _ (file : List ℕ) (objects : List Object) (cells : List DescribedCell) (ns : List Named) (same : (name : List ℕ) → filter (is_called name) ns ≡ filter (is_called name) (namings_of file objects cells)) where
  all_In : (n : Named) → In n ns → In n (namings_of file objects cells)
  all_In = called_In (namings_of file objects cells) ns (λ name. sym (same name))

  own_In : (n : Named) → In n (namings_of file objects cells) → In n ns
  own_In = called_In ns (namings_of file objects cells) same

  pub still_faithful : AreFaithful ns
  still_faithful m n k l e = faithful file objects cells m n (all_In m k) (all_In n l) e

  pub still_room : (rows : Rows) → rows.symbols.items ≡ map (λ (o : Object). replicate (length o.symbols) no_row) objects
      → rows.aliases.items ≡ map (λ (c : DescribedCell). replicate (length c.aliases.items) no_row) cells → (n : Named) → In n ns → IsThere rows n.owner
  still_room rows symbols aliases n k = has_room file objects cells rows symbols aliases n (all_In n k)

  bearers_are : (name : List ℕ) → bearers_among name ns ≡ bearers_of file objects cells name
  bearers_are name = ap (λ (xs : List Named). distinct (filter_map bearer_of xs)) (same name) ∙ bearers_made file name objects cells

  module _ (index : Index) (rowed : (n : Named) → In n ns → IsRowed ns index n) where
    symbol_row : (d : Bool) (i k : ℕ) → row_at index.rows.symbols.items i k ≡ owned_at index.rows (cond d (Definition i k) (Need i k))
    symbol_row true i k = refl
    symbol_row false i k = refl

    pub indexed : IsIndex file objects cells index
    indexed = record {
      symbols = λ i k object s at in_it shared.
          let n = named s.name (symbol_owner i (k, s)) in
          ap (listed index.bearers.items) (symbol_row (is_definition s) i k)
          ∙ ((rowed n (own_In n (symbol_In file objects cells i k object s at in_it shared))).bearers ∙ bearers_are s.name);
      aliases = λ i k c a at in_it.
          let n = named (alias_text file a) (Alias i k a.symbol) in
          (rowed n (own_In n (alias_In file objects cells i k c a at in_it))).bearers ∙ bearers_are (alias_text file a);
    }
