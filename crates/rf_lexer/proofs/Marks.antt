-- Characters that are told apart byte by byte: those of ASCII.
use Rattle.std.proofs.Common.{◌≡◌, ℕ, zero, suc, ◌≤◌, Bool, List, [], ◌∷◌, ◌++◌, length, drop, refl, ap, sym, ◌∙◌, arith, subst, length-append, append_assoc}
use Rattle.std.specs.Char.{encode_utf8}
use Rattle.std.specs.Str.{chars, IsUtf8, IsCharBoundary}
use Rattle.std.proofs.lemmas.Str.{encode_ascii, chars_past_char, IsUtf8-past_char, IsCharBoundary-start, IsCharBoundary-after_ascii}
use Rattle.rf_base_grammar.specs.Characters.{Each}
use Rattle.rf_base_grammar.specs.Cuts.{span}
use Rattle.rf_base_grammar.proofs.Spans.{Each-append}
use Rattle.rf_lexer.specs.Classes.{BeginsWithMarks, IsBehindMarks}
use Rattle.rf_lexer.proofs.Spans.{span_more}

-- so many ASCII bytes are as many characters
pub marks_behind : (test : ℕ → Bool) (bs : List ℕ) (n : ℕ) → IsUtf8 bs → n ≤ length bs → BeginsWithMarks test bs n → IsBehindMarks test (chars bs) (chars (drop n bs))
marks_behind test bs zero u l h = ([], tt, refl)
marks_behind test [] (suc n) u l h = absurd (omega arith)
marks_behind test (b ∷ bs) (suc n) u l h =
    let mark = h 0 (omega arith) in
    let is : b ∷ bs ≡ encode_utf8 b ++ bs = ap (λ xs. xs ++ bs) (sym (encode_ascii b mark.0)) in
    let more = marks_behind test bs n (IsUtf8-past_char (b ∷ bs) bs b u is) (omega arith) (λ k below. h (suc k) (omega arith)) in (
      b ∷ more.0,
      (mark.1, more.1),
      chars_past_char (b ∷ bs) bs b u is ∙ ap (λ xs. b ∷ xs) more.2,
    )

-- a text may be cut behind them
pub marks_end : (test : ℕ → Bool) (bs : List ℕ) (n : ℕ) → IsUtf8 bs → n ≤ length bs → BeginsWithMarks test bs n → IsCharBoundary bs n
marks_end test bs zero u l h = IsCharBoundary-start bs u
marks_end test bs (suc n) u l h =
    subst (λ k. IsCharBoundary bs k) (omega arith) (IsCharBoundary-after_ascii bs n u (omega arith) (h n (omega arith)).0)

-- what is behind them has no more characters
pub marks_len : (test : ℕ → Bool) (text rest : List ℕ) → IsBehindMarks test text rest → length rest ≤ length text
marks_len test text rest m = omega (arith, ap (length {A = ℕ}) m.2, length-append m.0 rest)

-- such characters, and then more of them
pub marks_more : (test : ℕ → Bool) (text rest more : List ℕ) → IsBehindMarks test text rest → IsBehindMarks test rest more → IsBehindMarks test text more
marks_more test text rest more m n =
    (m.0 ++ n.0, Each-append test m.0 n.0 m.1 n.1, m.2 ∙ ap (λ xs. m.0 ++ xs) n.2 ∙ sym (append_assoc m.0 n.0 more))

span_marks : (test : ℕ → Bool) (marks rest : List ℕ) → Each test marks → (span test (marks ++ rest)).behind ≡ (span test rest).behind
span_marks test [] rest e = refl
span_marks test (c ∷ marks) rest e = span_more test c (marks ++ rest) e.0 ∙ span_marks test marks rest e.1

-- the characters of the class go on behind them
pub span_past : (test : ℕ → Bool) (text rest : List ℕ) → IsBehindMarks test text rest → (span test text).behind ≡ (span test rest).behind
span_past test text rest m = ap (λ xs. (span test xs).behind) m.2 ∙ span_marks test m.0 rest m.1
