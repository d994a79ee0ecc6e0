-- The runs that are taken by the ends of the classes are those of the object, and no address is high.
use Rattle.std.proofs.Common.{◌≡◌, ℕ, ◌/◌, ◌<◌, ◌^◌, Bool, true, List, [], ◌∷◌, refl, sym, ap, ◌∙◌, arith}
use Rattle.std.specs.Prelude.{Ok, unwrap_or}
use Rattle.std.specs.List.{list_all}
use Rattle.cell_object.specs.declared.object.Object.{Object}
use Rattle.cell_object.specs.declared.object.Section.{Section as ObjectSection}
use Rattle.cell_object.specs.Sound.{IsSoundObject, is_sound_section}
use Rattle.cell_world.specs.Outcome.{Outcome, ◌>>=◌}
use Rattle.cell_world.specs.Placed.Layout.{is_in_class, sections_in, place_in, start_in, class_of, laid_end, run_size}
use Rattle.cell_world.specs.declared.layout.Class.TheVariants.{Text, ReadOnly, Writable}
use Rattle.cell_world.specs.declared.layout.Class.{Class}
use Rattle.cell_world.specs.declared.layout.Starts.{Starts}
use Rattle.cell_num.specs.Lists.{In}
use Rattle.cell_lemmas.specs.Loads.{Taken, AllTaken, take_run, take_for, take_class, take_runs}
use Rattle.cell_lemmas.proofs.Binds.{bind_same}
use Rattle.cell_num.proofs.Sublists.{all-filter, pairs-filter}
use Rattle.cell_num.proofs.Elements.{filter-In}
use Rattle.cell_lemmas.proofs.Placement.LoadOffsets.{run_rounded, run_within}
use Rattle.cell_layout.specs.declared.layout.Ends.{Ends}
use Rattle.cell_layout.specs.Layout.{in_class, end_for, end_of, AreEnds, AreSmall}
use Rattle.cell_layout.specs.Placing.{taken_by, all_taken_by}
use Rattle.cell_layout.proofs.Layouts.{self_in, end_or_zero}

class_sound : (o : Object) → IsSoundObject o → (class : Class) → list_all is_sound_section (in_class class o.sections) ≡ true
class_sound o sound class = all-filter is_sound_section (is_in_class class) o.sections sound.sections

taken_is : (base : ℕ) (table : List Bool) (ss : List ObjectSection) → list_all is_sound_section ss ≡ true → taken_by base table (end_of ss) ≡ take_for base table ss
taken_is base table [] sound = refl
taken_is base table (s ∷ rest) sound = ap (λ n. take_run base table (n / 4096)) (sym (run_rounded s rest sound))

module _ (o : Object) (sound : IsSoundObject o) (ends : Ends) (are : AreEnds ends o.sections) (base : ℕ) where
  class_is : (class : Class) (table : List Bool) → taken_by base table (end_for ends class) ≡ take_class base table class o
  class_is class table = ap (taken_by base table) (are class) ∙ taken_is base table (in_class class o.sections) (class_sound o sound class)

  abbrev three : Taken → Taken → Taken → Outcome AllTaken
  three text read_only writable =
      let starts : Starts = record { text = text.start; read_only = read_only.start; writable = writable.start } in
      Ok (record { starts = starts; table = writable.table })

  pub all_taken_is : (table : List Bool) → all_taken_by base table ends ≡ take_runs base table o
  all_taken_is table =
      ap (λ (a : Outcome Taken). a >>= (λ text. taken_by base text.table ends.read_only >>= (λ read_only. taken_by base read_only.table ends.writable >>= (λ writable. three text read_only writable)))) (class_is Text table)
      ∙ bind_same (take_class base table Text o) _ _ (λ text e.
      ap (λ (a : Outcome Taken). a >>= (λ read_only. taken_by base read_only.table ends.writable >>= (λ writable. three text read_only writable))) (class_is ReadOnly text.table)
      ∙ bind_same (take_class base text.table ReadOnly o) _ _ (λ read_only f.
      ap (λ (a : Outcome Taken). a >>= (λ writable. three text read_only writable)) (class_is Writable read_only.table)))

abbrev pub LowStarts : Starts → Type 0
LowStarts starts = (starts.text < 2 ^ 60) × (starts.read_only < 2 ^ 60) × (starts.writable < 2 ^ 60)

module _ (o : Object) (sound : IsSoundObject o) (ends : Ends) (are : AreEnds ends o.sections) (small : AreSmall ends) (starts : Starts) (low : LowStarts starts) where
  end_small : (class : Class) → laid_end (in_class class o.sections) < 2 ^ 42
  end_small class =
      let e : unwrap_or (end_for ends class) 0 ≡ laid_end (in_class class o.sections) = ap (λ x. unwrap_or x 0) (are class) ∙ end_or_zero (in_class class o.sections) in
      let s = of_class class in
      omega (arith, e, s)
    where
      of_class : (class : Class) → unwrap_or (end_for ends class) 0 < 2 ^ 42
      of_class Text = small.text
      of_class ReadOnly = small.read_only
      of_class Writable = small.writable

  start_low : (class : Class) → start_in starts class < 2 ^ 60
  start_low Text = low.0
  start_low ReadOnly = low.1
  start_low Writable = low.2

  size_small : (ss : List ObjectSection) → list_all is_sound_section ss ≡ true → laid_end ss < 2 ^ 42 → run_size ss < 2 ^ 43
  size_small [] h l = omega arith
  size_small (s ∷ rest) h l = let r = run_rounded s rest h in omega (arith, r, l)

  pub places_low : (s : ObjectSection) → In s o.sections → (place_in starts o s).start < 2 ^ 63
  places_low s i =
      let class = class_of s in
      let there : In s (sections_in class o) = filter-In (is_in_class class) o.sections s i (self_in s) in
      let within = run_within (sections_in class o) (class_sound o sound class) (pairs-filter _ (is_in_class class) o.sections sound.numbers) s there in
      let size = size_small (sections_in class o) (class_sound o sound class) (end_small class) in
      let start = start_low class in
      omega (arith, within, size, start)
