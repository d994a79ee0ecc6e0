-- The steps of reading a folder, one after another.
use Rattle.std.proofs.Common.{◌≡◌, ℕ, List, [], ◌∷◌, Bool, true, false, cond, map, length, Ok, Err, refl, ◌∙◌}
use Rattle.std.specs.Prelude.{All, Contains, bytes_eq, nat_lt, filter, fold}
use Rattle.std.specs.List.{list_any}
use Rattle.std.specs.Ordering.{nat_cmp}
use Rattle.std.specs.Cmp.Lexicographic.{slice_cmp}
use Rattle.std.specs.BTreeSet.{insert_key}
use Rattle.std.specs.declared.result.Result.{Result}
use Rattle.std.proofs.lemmas.List.Elements.{All-nil, All-head, All-tail, All-filter, All-contains_itself}
use Rattle.std.proofs.lemmas.Map.Views.{All-insert_key}
use Rattle.cell_num.specs.Limits.{max_names, max_files}
use Rattle.cell_world.specs.declared.file.File.{File}
use Rattle.cell_io.specs.declared.stop.Stop.{Stop}
use Rattle.cell_io.specs.Files.{File as HostFile, bytes_named}
use Rattle.cell_input.specs.declared.folder.Folder.{Folder}
use Rattle.cell_input.specs.declared.folder.Refusals.{Refusals}
use Rattle.cell_io.specs.Within.{within, ◌>>=◌, Stops}
use Rattle.cell_input.specs.Taking.{listing, objects_among, files_after, folder_from}
use Rattle.cell_depot.specs.ObjectName.{is_object_name}
use Rattle.cell_input.specs.Objects.{objects_of}
use Rattle.cell_io.proofs.Binds.{stops_first, stops_next, goes_on, then_whole, listed}

found : {R : Type 0} (why : Refusals R) (there full : Bool) (objects got : List (List ℕ)) → cond there (cond full (Err why.files) (Ok objects)) (Err why.absent) ≡ Ok got → (there ≡ true) × (objects ≡ got)
found why false full objects got e = cc
found why true true objects got e = cc
found why true false objects got e = (refl, cc)

opened : {R : Type 0} (why : Refusals R) (name : List ℕ) (names got : List (List ℕ)) → listing why name names ≡ Ok got → (list_any (bytes_eq name) names ≡ true) × (objects_of names ≡ got)
unfolding listing
opened why name names got e =
    found why (list_any (bytes_eq name) names) (nat_lt max_files (length (objects_of names))) (objects_of names) got (then_whole max_names why.names names (objects_among why name) got e)

-- the file beside stands in the folder
pub name_listed : {R : Type 0} (why : Refusals R) (name : List ℕ) (names got : List (List ℕ)) → listing why name names ≡ Ok got → Contains names name
name_listed why name names got e = listed name names (opened why name names got e).0

all_put_in : (P : List ℕ → Type 0) (acc xs : List (List ℕ)) → All P acc → All P xs → All P (fold (insert_key (slice_cmp nat_cmp)) acc xs)
all_put_in P acc [] a x = a
all_put_in P acc (y ∷ ys) a x = all_put_in P (insert_key (slice_cmp nat_cmp) acc y) ys (All-insert_key (slice_cmp nat_cmp) y P acc a (All-head P y ys x)) (All-tail P y ys x)

-- the object files stand in the folder
pub objects_listed : {R : Type 0} (why : Refusals R) (name : List ℕ) (names got : List (List ℕ)) → listing why name names ≡ Ok got → All (Contains names) got
objects_listed why name names got e =
    let P : List ℕ → Type 0 = Contains names in
    let all : All P (objects_of names) = all_put_in P [] (filter is_object_name names) (All-nil P) (All-filter is_object_name P names (All-contains_itself names)) in
    rw (← (opened why name names got e).1) all

module _ {R : Type 0} (why : Refusals R) (limit : ℕ) (name : List ℕ) (files : List HostFile) where
  -- what follows the text
  abbrev pub after_text : List (List ℕ) → List ℕ → Result Folder R
  after_text objects text = files_after why 0 objects files >>= (λ taken. Ok (record { text = text; files = taken }))

  -- what follows the listing
  abbrev pub after_objects : List (List ℕ) → Result Folder R
  after_objects objects = within limit why.text_bytes (bytes_named name files) >>= after_text objects

  pub no_listing : (stop : Stop R) → Stops stop (listing why name (map (λ f. f.name) files)) → Stops stop (folder_from why limit name files)
  unfolding folder_from
  no_listing stop h = stops_first stop _ after_objects h

  pub no_text : (objects : List (List ℕ)) (stop : Stop R) → listing why name (map (λ f. f.name) files) ≡ Ok objects
      → Stops stop (within limit why.text_bytes (bytes_named name files)) → Stops stop (folder_from why limit name files)
  unfolding folder_from
  no_text objects stop e h = stops_next stop objects _ after_objects e (stops_first stop _ (after_text objects) h)

  pub no_files : (objects : List (List ℕ)) (text : List ℕ) (stop : Stop R) → listing why name (map (λ f. f.name) files) ≡ Ok objects
      → within limit why.text_bytes (bytes_named name files) ≡ Ok text → Stops stop (files_after why 0 objects files) → Stops stop (folder_from why limit name files)
  unfolding folder_from
  no_files objects text stop e t h =
      stops_next stop objects _ after_objects e (stops_next stop text _ (after_text objects) t (stops_first stop _ (λ taken. Ok (record { text = text; files = taken })) h))

  pub all_steps : (objects : List (List ℕ)) (text : List ℕ) (taken : List File) → listing why name (map (λ f. f.name) files) ≡ Ok objects
      → within limit why.text_bytes (bytes_named name files) ≡ Ok text → files_after why 0 objects files ≡ Ok taken → folder_from why limit name files ≡ Ok (record { text = text; files = taken })
  unfolding folder_from
  all_steps objects text taken e t f = goes_on objects _ after_objects e ∙ goes_on text _ (after_text objects) t ∙ goes_on taken _ (λ xs. Ok (record { text = text; files = xs })) f
