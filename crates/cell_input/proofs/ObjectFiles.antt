-- The object files of a folder.
use Rattle.std.proofs.Common.{◌≡◌, ℕ, ◌+◌, ◌<◌, List, [], ◌∷◌, ◌++◌, append_assoc, Ok, Err, true, false, cond, map, length, length-drop, get_or, take, drop, ◌-◌, ◌≤◌, refl, sym, ap, ◌∙◌, Global, String, string_bytes}
use Rattle.std.specs.Prelude.{filter, fold}
use Rattle.std.specs.Ordering.{nat_cmp, match_ordering}
use Rattle.std.specs.declared.cmp.Ordering.{Ordering}
use Rattle.std.specs.declared.cmp.Ordering.TheVariants.{Less, Equal, Greater}
use Rattle.std.specs.Cmp.Lexicographic.{slice_cmp}
use Rattle.std.specs.String.{string_cmp}
use Rattle.std.specs.BTreeSet.{insert_key}
use Rattle.std.proofs.lemmas.List.{drop_more}
use Rattle.std.specs.Prelude.{All, Contains}
use Rattle.std.proofs.lemmas.List.Elements.{All-head, All-same, All-rest, All-append, All-cons, All-nil}
use Rattle.std.proofs.Math.Seq.{take-length}
use Rattle.cell_num.specs.Limits.{max_file_bytes}
use Rattle.cell_io.specs.Files.{File as HostFile, names_in, folder}
use Rattle.cell_world.specs.declared.file.File.{File}
use Rattle.std.specs.declared.result.Result.{Result}
use Rattle.cell_input.specs.declared.folder.Refusals.{Refusals}
use Rattle.cell_io.specs.declared.stop.Stop.{Stop}
use Rattle.cell_io.specs.declared.stop.Stop.TheVariants.{Refused, ReadFault, OutOfMemory}
use Rattle.cell_io.specs.Within.{◌>>=◌, Stops}
use Rattle.cell_input.specs.Taking.{file_after, files_after}
use Rattle.cell_depot.specs.ObjectName.{is_object_name}
use Rattle.cell_io.proofs.Binds.{stops_first, stops_same, goes_on}

-- text keys stand as their bytes do
abbrev placed : Ordering → String Global → String Global → List (String Global) → List (String Global) → List (String Global)
placed o k x xs ys = match_ordering o (k ∷ x ∷ xs) (x ∷ xs) (x ∷ ys)

map-placed : (o : Ordering) (k x : String Global) (xs ys : List (String Global)) (zs : List (List ℕ)) → map string_bytes ys ≡ zs
    → map string_bytes (placed o k x xs ys) ≡ match_ordering o (string_bytes k ∷ string_bytes x ∷ map string_bytes xs) (string_bytes x ∷ map string_bytes xs) (string_bytes x ∷ zs)
map-placed Less k x xs ys zs e = refl
map-placed Equal k x xs ys zs e = refl
map-placed Greater k x xs ys zs e = ap (λ v. string_bytes x ∷ v) e

pub map-insert_key : (ks : List (String Global)) (k : String Global) → map string_bytes (insert_key string_cmp ks k) ≡ insert_key (slice_cmp nat_cmp) (map string_bytes ks) (string_bytes k)
map-insert_key [] k = refl
map-insert_key (x ∷ ks) k = map-placed (string_cmp k x) k x ks (insert_key string_cmp ks k) _ (map-insert_key ks k)

abbrev ins : List (List ℕ) → List ℕ → List (List ℕ)
ins = insert_key (slice_cmp nat_cmp)

abbrev later_names : List (String Global) → List (List ℕ)
later_names names = filter is_object_name (map string_bytes names)

-- a name of an object file goes among the others
pub goes_in : (acc all : List (List ℕ)) (names : List (String Global)) (i : ℕ) (d : String Global) → i < length names → is_object_name (string_bytes (get_or names i d)) ≡ true
    → fold (insert_key (slice_cmp nat_cmp)) acc (filter is_object_name (map string_bytes (drop i names))) ≡ all
    → fold (insert_key (slice_cmp nat_cmp)) (insert_key (slice_cmp nat_cmp) acc (string_bytes (get_or names i d))) (filter is_object_name (map string_bytes (drop (i + 1) names))) ≡ all
goes_in acc all names i d lt here so_far =
    sym (ap (λ b. fold ins acc (cond b (string_bytes (get_or names i d) ∷ later_names (drop (i + 1) names)) (later_names (drop (i + 1) names)))) here)
    ∙ sym (ap (λ ns. fold ins acc (later_names ns)) (drop_more names i d lt))
    ∙ so_far

-- any other is passed over
pub passed_over : (acc all : List (List ℕ)) (names : List (String Global)) (i : ℕ) (d : String Global) → i < length names → is_object_name (string_bytes (get_or names i d)) ≡ false
    → fold (insert_key (slice_cmp nat_cmp)) acc (filter is_object_name (map string_bytes (drop i names))) ≡ all
    → fold (insert_key (slice_cmp nat_cmp)) acc (filter is_object_name (map string_bytes (drop (i + 1) names))) ≡ all
passed_over acc all names i d lt other so_far =
    sym (ap (λ b. fold ins acc (cond b (string_bytes (get_or names i d) ∷ later_names (drop (i + 1) names)) (later_names (drop (i + 1) names)))) other)
    ∙ sym (ap (λ ns. fold ins acc (later_names ns)) (drop_more names i d lt))
    ∙ so_far

-- the names stand in the folder
abbrev pub AreListed : List ℕ → List (String Global) → List HostFile → Type 0
AreListed dir keys all = All (Contains (names_in dir all)) (map string_bytes keys)

pub first_listed : (dir : List ℕ) (key : String Global) (keys rest : List (String Global)) (all : List HostFile) → keys ≡ key ∷ rest → AreListed dir keys all → Contains (names_in dir all) (string_bytes key)
first_listed dir key keys rest all e listed = All-head (Contains (names_in dir all)) (string_bytes key) (map string_bytes rest) (All-same (Contains (names_in dir all)) (map string_bytes (key ∷ rest)) (map string_bytes keys) (ap (map string_bytes) (sym e)) listed)

pub rest_listed : (dir : List ℕ) (key : String Global) (keys rest : List (String Global)) (all : List HostFile) → keys ≡ key ∷ rest → AreListed dir keys all → AreListed dir rest all
rest_listed dir key keys rest all e listed = All-rest (Contains (names_in dir all)) (string_bytes key) (map string_bytes rest) (map string_bytes keys) (ap (map string_bytes) e) listed

-- files before those that later names give
abbrev pub prepend : {R : Type 0} → List File → Result (List File) R → Result (List File) R
prepend files (Ok later) = Ok (files ++ later)
prepend files (Err why) = Err why

prepend-more : {R : Type 0} (files : List File) (file : File) (later : Result (List File) R) → prepend files (later >>= λ rest. Ok (file ∷ rest)) ≡ prepend (files ++ file ∷ []) later
prepend-more files file (Ok rest) = ap Ok (sym (append_assoc files (file ∷ []) rest))
prepend-more files file (Err why) = refl

pub prepend-none : {R : Type 0} (later : Result (List File) R) → prepend [] later ≡ later
prepend-none (Ok rest) = refl
prepend-none (Err why) = refl

stops_prepend : {R : Type 0} (stop : Stop R) (files : List File) (later : Result (List File) R) → Stops stop later → Stops stop (prepend files later)
stops_prepend (Refused reason) files later e = ap (prepend files) e
stops_prepend ReadFault files later e = tt
stops_prepend OutOfMemory files later e = tt

-- the files of these names, where those before have so many bytes
abbrev pub taken_after : {R : Type 0} → Refusals R → ℕ → List ℕ → List (String Global) → List HostFile → Result (List File) R
taken_after why total dir keys all = files_after why total (map string_bytes keys) (folder dir all)

abbrev and_later : {R : Type 0} → Refusals R → ℕ → List ℕ → List (String Global) → List HostFile → File → Result (List File) R
and_later why total dir rest all file = taken_after why (total + length file.bytes) dir rest all >>= λ later. Ok (file ∷ later)

-- one more file was taken
pub takes_more : {R : Type 0} (why : Refusals R) (dir : List ℕ) (key : String Global) (keys rest : List (String Global)) (all : List HostFile) (total : ℕ) (file : File) (files : List File) (whole : Result (List File) R) → keys ≡ key ∷ rest
    → file_after why total (string_bytes key) (folder dir all) ≡ Ok file → prepend files (taken_after why total dir keys all) ≡ whole
    → prepend (files ++ file ∷ []) (taken_after why (total + length file.bytes) dir rest all) ≡ whole
takes_more why dir key keys rest all total file files whole e taken far =
    sym (prepend-more files file (taken_after why (total + length file.bytes) dir rest all))
    ∙ ap (prepend files) (sym (goes_on file (file_after why total (string_bytes key) (folder dir all)) (and_later why total dir rest all) taken))
    ∙ ap (λ ks. prepend files (taken_after why total dir ks all)) (sym e)
    ∙ far

-- one more file was refused
pub stops_more : {R : Type 0} (why : Refusals R) (dir : List ℕ) (key : String Global) (keys rest : List (String Global)) (all : List HostFile) (total : ℕ) (stop : Stop R) (files : List File) (whole : Result (List File) R) → keys ≡ key ∷ rest
    → Stops stop (file_after why total (string_bytes key) (folder dir all)) → prepend files (taken_after why total dir keys all) ≡ whole → Stops stop whole
stops_more why dir key keys rest all total stop files whole e refused far =
    let here = stops_first stop (file_after why total (string_bytes key) (folder dir all)) (and_later why total dir rest all) refused in
    stops_same stop (prepend files (taken_after why total dir (key ∷ rest) all)) whole
    (sym far ∙ ap (λ ks. prepend files (taken_after why total dir ks all)) e)
    (stops_prepend stop files (taken_after why total dir (key ∷ rest) all) here)

pub rest_of : (t : List ℕ) (i : ℕ) → take (length t - i) (drop i t) ≡ drop i t
rest_of t i = ap (λ k. take k (drop i t)) (sym (length-drop i t)) ∙ take-length (drop i t)

abbrev pub IsSmall : File → Type 0
IsSmall file = length file.bytes ≤ max_file_bytes

pub small_more : (files : List File) (file : File) → All IsSmall files → length file.bytes ≤ max_file_bytes → All IsSmall (files ++ file ∷ [])
small_more files file all small = All-append IsSmall files (file ∷ []) all (All-cons IsSmall file [] small (All-nil IsSmall))

-- one more file has one more of the names
pub one_named : (files : List File) (file : File) (key : String Global) (rest : List (String Global)) → file.name ≡ string_bytes key
    → map (λ (f : File). f.name) (files ++ file ∷ []) ++ map string_bytes rest ≡ map (λ (f : File). f.name) files ++ map string_bytes (key ∷ rest)
one_named [] file key rest same = ap (λ (name : List ℕ). name ∷ map string_bytes rest) same
one_named (f ∷ files) file key rest same = ap (λ (names : List (List ℕ)). f.name ∷ names) (one_named files file key rest same)
