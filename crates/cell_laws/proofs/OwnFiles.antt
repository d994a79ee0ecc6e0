-- Where each cell is what its file is read as, each may be had anew, of its own file.
use Rattle.std.proofs.Common.{◌≡◌, refl, ◌∙◌, ap, ap₂, sym, subst, ◌⊎◌, inl, inr, List, [], ◌∷◌, ◌++◌, map, Option, Some, None, Ok, append_assoc}
use Rattle.std.specs.Prelude.{All, option_map}
use Rattle.std.proofs.lemmas.List.{append-nil}
use Rattle.cell_num.specs.Lists.{In}
use Rattle.cell_num.proofs.Elements.{All-In, In-All}
use Rattle.cell_world.specs.declared.refusal.Refusal.TheVariants.{Unknown}
use Rattle.cell_world.specs.Change.{Want}
use Rattle.cell_world.specs.Commands.Asked.{renewal, renewals, wants_of}
use Rattle.cell_world.specs.Coherent.{IsCoherent}
use Rattle.cell_world.specs.Gather.{Source, file_named}
use Rattle.cell_world.specs.Outcome.{Outcome, ◌>>=◌, each, found}
use Rattle.cell_world.specs.World.{Cell, World}
use Rattle.cell_change_law.proofs.Asking.{AreAttached}
use Rattle.cell_laws.specs.Recovery.{AreRenewals, IsOfFile, IsRenewal, own_item}
use Rattle.cell_laws.proofs.OwnItems.{items_renew}

abbrev own_want : Source → Cell → Want
own_want f c = record { file = f; ns = c.ns; replaces = Some c }

module _ (sources : List Source) where
  -- a cell and its own file
  one_renewed : (c : Cell) → IsOfFile sources c → (want : Want) × (renewal sources c ≡ Ok want) × (want.replaces ≡ Some c) × IsRenewal sources want
  one_renewed c read = go (file_named sources c.file) refl read
    where
      go : (o : Option Source) → file_named sources c.file ≡ o → option_map (λ (f : Source). f.reading) o ≡ Some (Ok c.object) → (want : Want) × (renewal sources c ≡ Ok want) × (want.replaces ≡ Some c) × IsRenewal sources want
      go None e r = absurd cc
      go (Some f) e r = (
        own_want f c,
        ap (λ (x : Option Source). found x (Unknown c.file) >>= (λ file. let y : Outcome Want = Ok (own_want file c) in y)) e,
        refl,
        record { old = c; replaces = refl; ns = refl; file = e; reading = cc },
      )

  -- and many
  push_renewed : (cells : List Cell) → ((c : Cell) → In c cells → IsOfFile sources c) → (before : List Want)
      → (wants : List Want) × (each (λ wants c. renewal sources c >>= (λ want. Ok (wants ++ want ∷ []))) before cells ≡ Ok (before ++ wants)) × AreRenewals sources cells wants
  push_renewed [] read before = ([], ap (λ (x : List Want). let y : Outcome (List Want) = Ok x in y) (sym (append-nil before)), record { olds = refl; own = In-All (IsRenewal sources) [] (λ x i. absurd i) })
  push_renewed (c ∷ cells) read before =
      let o = one_renewed c (read c (inl refl)) in
      let r = push_renewed cells (λ d i. read d (inr i)) (before ++ o.0 ∷ []) in (
        o.0 ∷ r.0,
        ap (λ (x : Outcome Want). (x >>= (λ want. let y : Outcome (List Want) = Ok (before ++ want ∷ []) in y)) >>= (λ y. each (λ wants c. renewal sources c >>= (λ want. Ok (wants ++ want ∷ []))) y cells)) o.1
            ∙ (r.1 ∙ ap (λ (x : List Want). let y : Outcome (List Want) = Ok x in y) (append_assoc before (o.0 ∷ []) r.0)),
        record {
          olds = ap₂ (λ (x : Option Cell) (xs : List (Option Cell)). x ∷ xs) o.2 r.2.olds;
          own = In-All (IsRenewal sources) (o.0 ∷ r.0) (λ x i. pick o.0 o.3 r.0 r.2.own x i);
        },
      )
    where
      pick : (want : Want) → IsRenewal sources want → (rest : List Want) → All (IsRenewal sources) rest → (x : Want) → (x ≡ want) ⊎ In x rest → IsRenewal sources x
      pick want own rest all x (inl q) = subst (IsRenewal sources) (sym q) own
      pick want own rest all x (inr i) = All-In (IsRenewal sources) rest all x i

  module _ (w : World) (h : IsCoherent w) (read : All (IsOfFile sources) w.cells) (cells : List Cell) (all : AreAttached w cells) where
    -- the swap command is asked for the same
    pub own_files : (wants : List Want) × (renewals sources cells ≡ Ok wants) × (wants_of sources w (map (own_item w) cells) ≡ Ok wants) × AreRenewals sources cells wants
    own_files =
        let r = push_renewed cells (λ c i. All-In (IsOfFile sources) w.cells read c (all c i).0) [] in
        (r.0, r.1, items_renew w h sources cells all ∙ r.1, r.2)
