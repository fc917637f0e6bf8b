-- What the steps of a reply hand on.
use Rattle.std.proofs.Common.{◌≡◌, ℕ, ◌*◌, ◌<◌, ◌≤◌, inl, inr, List, [], ◌∷◌, length, length-append, Option, Some, Result, Err, refl, sym, ap, subst, arith}
use Rattle.std.specs.Global.{Global}
use Rattle.std.specs.Prelude.{String}
use Rattle.std.specs.Result.{IsErrOf}
use Rattle.std.specs.Option.{IfSome}
use Rattle.std.specs.Char.{encode_utf8}
use Rattle.std.specs.Str.{chars, IsUtf8, encode_utf8_all}
use Rattle.std.proofs.lemmas.Str.{encodes-chars, length-encode, len_utf8_bounds}
use Rattle.rf_base_grammar.specs.declared.TheConstants.{SOURCE_LIMIT}
use Rattle.rf_edges.specs.declared.reading.ReadError.{ReadError}
use Rattle.rf_edges.specs.declared.reading.ReadError.TheVariants as read
use Rattle.rf_style.specs.declared.style.Style.{Style}
use Rattle.rf_words.specs.WordsOf.{Said}
use Rattle.rf_top.specs.Asking.{said_by, styled, IsBase}
use Rattle.rf_top.specs.Answer.{Answer, IsAnswer, IsAnswerIn, IsAnswerTo, stopped}
use Rattle.rf_top.specs.Lines.{SourceStops, StyleStops}
use Rattle.rf_top.specs.Running.{OrOutside}
use Rattle.rf_top.specs.Stopping.{read_stop}
use Rattle.rf_top.specs.declared.stops.Stop.{Stop}
use Rattle.rf_top.specs.declared.stops.Stop.TheVariants as stop

-- a fault of reading stops the run
pub read_stopped : {T : Type 0} (style : Style) (r : Result T ReadError) (left : Option (List ℕ)) (source : List ℕ) (e : ReadError) → r ≡ Err e → left ≡ Some source →
    IfSome left (λ all. IsErrOf r read.TooLong → SOURCE_LIMIT < length all) → OrOutside (read_stop e) (SourceStops style source (read_stop e))
read_stopped style r left source read.Fault was told long = tt
read_stopped style r left source read.TooLong was told long = rw told at long was
read_stopped style r left source (read.Memory e) was told long = tt

-- a cause of a reason that isn't of the outside, and what follows from it
pub outside_or : {A B : Type 0} (s : Stop) → (A → B) → OrOutside s A → OrOutside s B
outside_or stop.Read f h = h
outside_or stop.Memory f h = h
outside_or s f h = f h

-- what the style file that the words name stops is answered so
pub style_answered : (words : List (String Global)) (said : Said) (file source : List ℕ) (s : Stop) → said_by words ≡ Some said →
    StyleStops said.style file s → IsAnswer words file source (stopped s)
style_answered words said file source s is stops =
    subst (λ (o : Option Said). IsAnswerTo o file source (stopped s)) (sym is) (inl (s, stops, refl))

-- what is answered of a source in the style that the words ask for answers the words
pub source_answered : (words : List (String Global)) (said : Said) (base style : Style) (file source bytes : List ℕ) (answer : Answer) → said_by words ≡ Some said →
    IsBase said.style file base → style ≡ styled said base → bytes ≡ source → IsAnswerIn said.mode style bytes answer → IsAnswer words file source answer
source_answered words said base style file source bytes answer is stands asked same h =
    subst (λ (o : Option Said). IsAnswerTo o file source answer) (sym is)
    (inr (base, stands, subst (λ (s : Style). IsAnswerIn said.mode s source answer) asked (subst (λ (l : List ℕ). IsAnswerIn said.mode style l answer) same h)))

-- a text's bytes are at most four times its characters
encodes_at_most : (cs : List ℕ) → length (encode_utf8_all cs) ≤ 4 * length cs
encodes_at_most [] = omega arith
encodes_at_most (c ∷ cs) =
    omega (arith, encodes_at_most cs, length-append (encode_utf8 c) (encode_utf8_all cs), length-encode c, (len_utf8_bounds c).1)

pub bytes_at_most : (bytes : List ℕ) → IsUtf8 bytes → length bytes ≤ 4 * length (chars bytes)
bytes_at_most bytes utf8 = let same : length (encode_utf8_all (chars bytes)) ≡ length bytes = ap length (encodes-chars bytes utf8) in omega (arith, encodes_at_most (chars bytes), same)
