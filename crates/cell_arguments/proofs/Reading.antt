-- The words of a command line, read by the command.
use Rattle.std.proofs.Common.{◌≡◌, ◌⊎◌, inl, inr, ℕ, List, [], ◌∷◌, true, None, Err, refl, sym, ap, ◌∙◌}
use Rattle.std.specs.declared.option.Option.{Option}
use Rattle.clap.specs.Words.{Kinds, IsAmong, Row, fault_of, is_simple, is_simple_and_free, matches_of}
use Rattle.clap.specs.declared.error.kind.ErrorKind.{ErrorKind}
use Rattle.clap.specs.declared.error.kind.ErrorKind.TheVariants as kind
use Rattle.clap.proofs.OnLiterals.{clap_on_literals}
use Rattle.cell_arguments.specs.declared.arguments.ArgumentsFault.{ArgumentsFault}
use Rattle.cell_arguments.specs.declared.arguments.ArgumentsFault.TheVariants.{Usage, OutOfMemory}
use Rattle.cell_arguments.specs.Arguments.{command, Said, arguments_in, arguments_of, unless_fault, ReadsArguments}

pub is_simple-command : is_simple command ≡ true
unfolding command clap_on_literals
is_simple-command = refl

pub is_free-command : is_simple_and_free command ≡ true
unfolding command clap_on_literals
is_free-command = refl

-- an error that isn't want of memory has one of the kinds
pub has_fault : (k : ErrorKind) (kinds : Kinds) → (k ≡ kind.OutOfMemory) ⊎ IsAmong k kinds → (k ≡ kind.OutOfMemory → ⊥) → kinds ≡ [] → ⊥
has_fault k kinds (inl e) other empty = other e
has_fault k [] (inr h) other empty = h
has_fault k (x ∷ xs) (inr h) other empty = cc

no_reading : (kinds : Kinds) (said : Option Said) → (kinds ≡ [] → ⊥) → unless_fault kinds said ≡ None
no_reading [] said some = absurd (some refl)
no_reading (k ∷ kinds) said some = refl

not_taken : (words : List (List ℕ)) → (fault_of command words ≡ [] → ⊥) → arguments_of words ≡ None
unfolding arguments_of
not_taken words some = no_reading (fault_of command words) (arguments_in (matches_of command words)) some

pub refused_words : (fault : ArgumentsFault) (words : List (List ℕ)) → (fault ≡ Usage → fault_of command words ≡ [] → ⊥) → ReadsArguments (Err fault) (arguments_of words)
refused_words Usage words h = not_taken words (h refl)
refused_words OutOfMemory words h = tt

pub taken : (words : List (List ℕ)) (rows : List Row) (said : Option Said) → fault_of command words ≡ [] → rows ≡ matches_of command words → said ≡ arguments_in rows → arguments_of words ≡ said
unfolding arguments_of
taken words rows said none same e =
    ap (λ k. unless_fault k (arguments_in (matches_of command words))) none ∙ ap arguments_in (sym same) ∙ sym e
