-- What the command takes, and what it refuses.
use Rattle.std.proofs.Common.{◌≡◌, true, false, List, [], ◌∷◌, None, refl, sym, subst}
use Rattle.clap.specs.Words.{App, IsAmong, Kinds, Row, Text, fault_of, is_simple, is_simple_and_free, matches_of}
use Rattle.clap.specs.declared.error.kind.ErrorKind.{ErrorKind}
use Rattle.rf_words.specs.Command.{command}
use Rattle.rf_words.specs.WordsOf.{is_clear, said_by, words_of}

-- the command is one of those of which `clap` says what it takes
pub command_is_simple : (app : App) → app ≡ command → is_simple app ≡ true
command_is_simple app same = subst (λ a. is_simple a ≡ true) (sym same) refl

pub command_is_free : (app : App) → app ≡ command → is_simple_and_free app ≡ true
command_is_free app same = subst (λ a. is_simple_and_free a ≡ true) (sym same) refl

-- where there is no fault the words say what their rows say
pub taken : (app : App) (words : List Text) (rows : List Row) → app ≡ command → fault_of app words ≡ [] → rows ≡ matches_of app words → said_by rows ≡ words_of words
unfolding words_of
taken app words rows same clear read =
    let clear_too : fault_of command words ≡ [] = subst (λ a. fault_of a words ≡ []) same clear in
    let read_too : rows ≡ matches_of command words = subst (λ a. rows ≡ matches_of a words) same read in
    rw (clear_too, read_too)

-- where a fault is among the kinds they aren't clear
not_clear : (kind : ErrorKind) (kinds : Kinds) → IsAmong kind kinds → is_clear kinds ≡ false
not_clear kind [] among = absurd among
not_clear kind (first ∷ rest) among = refl

-- where there is a fault the words say nothing
pub refused : (app : App) (words : List Text) (kind : ErrorKind) → app ≡ command → IsAmong kind (fault_of app words) → words_of words ≡ None
unfolding words_of
refused app words kind same among =
    let there : IsAmong kind (fault_of command words) = subst (λ a. IsAmong kind (fault_of a words)) same among in
    rw (not_clear kind (fault_of command words) there)
