-- What is told of a document on one line passes to documents that are laid out likewise there.
use Rattle.std.proofs.Common.{◌≡◌, ℕ, ◌+◌, Bool, true, false, ◌||◌, List, [], ◌∷◌, ◌++◌, refl, sym, ◌∙◌, ap, subst, Option, Some, None, arith}
use Rattle.std.proofs.lemmas.List.{append_assoc, append-nil}
use Rattle.std.proofs.Math.Bool.{or_assoc}
use Rattle.rf_base_document.specs.declared.directions.Dir.{Dir}
use Rattle.rf_base_document.specs.Document.{Doc, Text, Concat, Nest, Align, Flatten}
use Rattle.std.specs.Option.{option_map}
use Rattle.std.proofs.lemmas.Bool.{or_left, or_right}
use Rattle.rf_base_document.specs.Simple.{simple, simple_concat}
use Rattle.rf_base_document.specs.Sequence.{seq}
use Rattle.rf_base_cut.specs.OneLine.{both_lengths}
use Rattle.rf_base_cut.specs.Documents.{flat_length_in}
use Rattle.rf_base_cut.specs.DocumentLines.{never_free_in, OneLineIn}
use Rattle.rf_base_cut.proofs.FlatTexts.{both_are}
use Rattle.rf_base_cut.proofs.Halves.{seq_by_parts}
use Rattle.rf_frontier.specs.declared.hows.How.{How}
use Rattle.rf_frontier.specs.Ways.{choices_of}
use Rattle.rf_outline.specs.declared.facts.Line.{Line}
use Rattle.rf_outline.specs.declared.facts.Line.TheVariants.{Nothing, Never, Long, Unsure, Text as OneText}
use Rattle.rf_outline.specs.Known.{LineHolds}
use Rattle.rf_outline.proofs.Concats.{concat_none}
use Rattle.rf_rows.specs.Nodes.{nothing}
use Rattle.rf_rows.specs.Knowing.{chain, Passes}

-- what is told of one document, flat or not, holds of the other
pub line_passes : (ways : List How) (d e : Doc) (flat : Bool) (l : Line) → Passes d e flat → LineHolds ways d flat l → LineHolds ways e flat l
line_passes ways d e flat Nothing p h = (p.never h.0, p.nothing h.1)
line_passes ways d e flat Never p h = p.never h
line_passes ways d e flat (Long len how) p h = (h.0, p.line len (choices_of ways how.0) h.1)
line_passes ways d e flat (OneText len how) p h = (h.0, p.line len (choices_of ways how.0) h.1, p.text len h.2)
line_passes ways d e flat Unsure p h = tt

pub passes_same : (d : Doc) (flat : Bool) → Passes d d flat
passes_same d flat = record { never = λ h. h; line = λ len how h. h; text = λ len e. e; nothing = λ e. e }

pub passes_is : (d e : Doc) (flat : Bool) → d ≡ e → Passes d e flat
passes_is d e flat is = subst (λ (x : Doc). Passes d x flat) is (passes_same d flat)

pub passes_then : (a b c : Doc) (flat : Bool) → Passes a b flat → Passes b c flat → Passes a c flat
passes_then a b c flat p q =
    record {
      never = λ h. q.never (p.never h);
      line = λ len how h. q.line len how (p.line len how h);
      text = λ len e. q.text len (p.text len e);
      nothing = λ e. q.nothing (p.nothing e);
    }

-- both parts
or_map : (a b c d : Bool) → (a ≡ true → c ≡ true) → (b ≡ true → d ≡ true) → (a || b) ≡ true → (c || d) ≡ true
or_map true b c d f g h = or_left c d (f refl)
or_map false b c d f g h = or_right c d (g h)

lengths_map : (a b c d : Option ℕ) (len : ℕ) → ((n : ℕ) → a ≡ Some n → c ≡ Some n) → ((n : ℕ) → b ≡ Some n → d ≡ Some n) → both_lengths a b ≡ Some len → both_lengths c d ≡ Some len
lengths_map a b c d len f g e =
    let s = both_are a b len e in
    ap (λ (o : Option ℕ). both_lengths o d) (f s.0 s.2) ∙ ap (λ (o : Option ℕ). both_lengths (Some s.0) o) (g s.1 s.3) ∙ ap (λ (n : ℕ). Some n) s.4

none_map : (a b c d : Option Doc) → (a ≡ None → c ≡ None) → (b ≡ None → d ≡ None) → simple_concat a b ≡ None → simple_concat c d ≡ None
none_map None b c d f g e = ap (λ (o : Option Doc). simple_concat o d) (f refl)
none_map (Some a) None c d f g e = ap (simple_concat c) (g refl) ∙ concat_none c
none_map (Some a) (Some b) c d f g e = cc

pub passes_both : (a b c d : Doc) (flat : Bool) → Passes a c flat → Passes b d flat → Passes (Concat a b) (Concat c d) flat
unfolding never_free_in OneLineIn flat_length_in simple
passes_both a b c d flat p q =
    record {
      never = or_map (never_free_in a flat) (never_free_in b flat) (never_free_in c flat) (never_free_in d flat) p.never q.never;
      line = λ len how h. (h.0, h.1, h.2, h.3, h.4, h.5, p.line h.0 h.2 h.6, q.line h.1 h.3 h.7);
      text = λ len e. lengths_map (flat_length_in a flat) (flat_length_in b flat) (flat_length_in c flat) (flat_length_in d flat) len p.text q.text e;
      nothing = none_map (simple a flat) (simple b flat) (simple c flat) (simple d flat) p.nothing q.nothing;
    }

-- parts that are taken together otherwise
lengths_right : (o p q : Option ℕ) → both_lengths (both_lengths o p) q ≡ both_lengths o (both_lengths p q)
lengths_right (Some a) (Some b) (Some c) = ap (λ (n : ℕ). Some n) (omega arith)
lengths_right _ _ _ = refl

none_right : (o p q : Option Doc) → simple_concat (simple_concat o p) q ≡ None → simple_concat o (simple_concat p q) ≡ None
none_right (Some a) (Some b) (Some c) e = cc
none_right _ _ _ e = refl

none_left : (o p q : Option Doc) → simple_concat o (simple_concat p q) ≡ None → simple_concat (simple_concat o p) q ≡ None
none_left (Some a) (Some b) (Some c) e = cc
none_left _ _ _ e = refl

-- texts behind one another as one
none_apart : (o : Option Doc) (s t u : Doc) → simple_concat o (Some s) ≡ None → simple_concat (simple_concat o (Some t)) (Some u) ≡ None
none_apart None s t u e = refl
none_apart (Some a) s t u e = cc

pub passes_texts : (d : Doc) (s : List ℕ) (a b sum : ℕ) (flat : Bool) → sum ≡ a + b → Passes (Concat d (Text [] sum)) (Concat (Concat d (Text [] a)) (Text s b)) flat
unfolding never_free_in OneLineIn flat_length_in simple
passes_texts d s a b sum flat is =
    record {
      never = λ h. or_left (never_free_in (Concat d (Text [] a)) flat) false h;
      line = λ len how h. (
        h.0 + a,
        b,
        h.2 ++ [],
        [],
        omega (arith, h.4, h.7.0, is),
        h.5 ∙ ap (λ (w : List Dir). h.2 ++ w) h.7.1 ∙ sym (append-nil (h.2 ++ [])),
        (h.0, a, h.2, [], refl, refl, h.6, (refl, refl)),
        (refl, refl),
      );
      text = λ len e. lengths_right (flat_length_in d flat) (Some a) (Some b) ∙ ap (λ (n : ℕ). both_lengths (flat_length_in d flat) (Some n)) (sym is) ∙ e;
      nothing = λ e. none_apart (simple d flat) (Text [] sum) (Text [] a) (Text s b) e;
    }

passes_right : (a b c : Doc) (flat : Bool) → Passes (Concat (Concat a b) c) (Concat a (Concat b c)) flat
unfolding never_free_in OneLineIn flat_length_in simple
passes_right a b c flat =
    record {
      never = λ h. sym (or_assoc (never_free_in a flat) (never_free_in b flat) (never_free_in c flat)) ∙ h;
      line = λ len how h.
          let m = h.6 in (
            m.0,
            m.1 + h.1,
            m.2,
            m.3 ++ h.3,
            omega (arith, h.4, m.4),
            h.5 ∙ ap (λ (w : List Dir). w ++ h.3) m.5 ∙ append_assoc m.2 m.3 h.3,
            m.6,
            (m.1, h.1, m.3, h.3, refl, refl, m.7, h.7),
          );
      text = λ len e. sym (lengths_right (flat_length_in a flat) (flat_length_in b flat) (flat_length_in c flat)) ∙ e;
      nothing = none_right (simple a flat) (simple b flat) (simple c flat);
    }

passes_left : (a b c : Doc) (flat : Bool) → Passes (Concat a (Concat b c)) (Concat (Concat a b) c) flat
unfolding never_free_in OneLineIn flat_length_in simple
passes_left a b c flat =
    record {
      never = λ h. or_assoc (never_free_in a flat) (never_free_in b flat) (never_free_in c flat) ∙ h;
      line = λ len how h.
          let m = h.7 in (
            h.0 + m.0,
            m.1,
            h.2 ++ m.2,
            m.3,
            omega (arith, h.4, m.4),
            h.5 ∙ ap (λ (w : List Dir). h.2 ++ w) m.5 ∙ sym (append_assoc h.2 m.2 m.3),
            (h.0, m.0, h.2, m.2, refl, refl, h.6, m.6),
            m.7,
          );
      text = λ len e. lengths_right (flat_length_in a flat) (flat_length_in b flat) (flat_length_in c flat) ∙ e;
      nothing = none_left (simple a flat) (simple b flat) (simple c flat);
    }

-- no text before a document, and behind it
or_false : (a : Bool) → (a || false) ≡ a
or_false true = refl
or_false false = refl

zero_before : (o : Option ℕ) → both_lengths (Some 0) o ≡ o
zero_before None = refl
zero_before (Some n) = ap (λ (m : ℕ). Some m) (omega arith)

zero_behind : (o : Option ℕ) → both_lengths o (Some 0) ≡ o
zero_behind None = refl
zero_behind (Some n) = ap (λ (m : ℕ). Some m) (omega arith)

moved : (d : Doc) (flat : Bool) (i j : ℕ) (x y : List Dir) → i ≡ j → x ≡ y → OneLineIn d flat i x → OneLineIn d flat j y
moved d flat i j x y e f h = subst (λ (n : ℕ). OneLineIn d flat n y) e (subst (λ (w : List Dir). OneLineIn d flat i w) f h)

none_before : (d : Doc) (o : Option Doc) → simple_concat (Some d) o ≡ None → o ≡ None
none_before d None e = refl
none_before d (Some a) e = cc

none_behind : (d : Doc) (o : Option Doc) → simple_concat o (Some d) ≡ None → o ≡ None
none_behind d None e = refl
none_behind d (Some a) e = cc

passes_off_before : (d : Doc) (flat : Bool) → Passes (Concat nothing d) d flat
unfolding never_free_in OneLineIn flat_length_in simple
passes_off_before d flat =
    record {
      never = λ h. h;
      line = λ len how h. moved d flat h.1 len h.3 how (omega (arith, h.4, h.6.0)) (ap (λ (w : List Dir). w ++ h.3) (sym h.6.1) ∙ sym h.5) h.7;
      text = λ len e. sym (zero_before (flat_length_in d flat)) ∙ e;
      nothing = none_before nothing (simple d flat);
    }

pub passes_off_behind : (d : Doc) (flat : Bool) → Passes (Concat d nothing) d flat
unfolding never_free_in OneLineIn flat_length_in simple
passes_off_behind d flat =
    record {
      never = λ h. sym (or_false (never_free_in d flat)) ∙ h;
      line = λ len how h.
          moved d flat h.0 len h.2 how (omega (arith, h.4, h.7.0)) (sym (append-nil h.2) ∙ ap (λ (w : List Dir). h.2 ++ w) (sym h.7.1) ∙ sym h.5) h.6;
      text = λ len e. sym (zero_behind (flat_length_in d flat)) ∙ e;
      nothing = none_behind nothing (simple d flat);
    }

passes_before_nothing : (d : Doc) (flat : Bool) → Passes d (Concat d nothing) flat
unfolding never_free_in OneLineIn flat_length_in simple
passes_before_nothing d flat =
    record {
      never = λ h. or_false (never_free_in d flat) ∙ h;
      line = λ len how h. (len, 0, how, [], omega arith, sym (append-nil how), h, (refl, refl));
      text = λ len e. zero_behind (flat_length_in d flat) ∙ e;
      nothing = λ e. ap (λ (o : Option Doc). simple_concat o (Some nothing)) e;
    }

passes_behind_nothing : (d : Doc) (flat : Bool) → Passes d (Concat nothing d) flat
unfolding never_free_in OneLineIn flat_length_in simple
passes_behind_nothing d flat =
    record {
      never = λ h. h;
      line = λ len how h. (0, len, [], how, omega arith, refl, (refl, refl), h);
      text = λ len e. zero_before (flat_length_in d flat) ∙ e;
      nothing = λ e. ap (simple_concat (Some nothing)) e;
    }

-- documents that change the indentation alone, and one that is flat in both cases
pub passes_aligned : (d e : Doc) (flat : Bool) → Passes d e flat → Passes d (Align e) flat
unfolding never_free_in OneLineIn flat_length_in simple
passes_aligned d e flat p = record { never = p.never; line = p.line; text = p.text; nothing = λ h. ap (option_map Align) (p.nothing h) }

pub passes_nested : (n : ℕ) (d e : Doc) (flat : Bool) → Passes d e flat → Passes d (Nest n e) flat
unfolding never_free_in OneLineIn flat_length_in simple
passes_nested n d e flat p = record { never = p.never; line = p.line; text = p.text; nothing = λ h. ap (option_map (Nest n)) (p.nothing h) }

pub flat_line_holds : (ways : List How) (d : Doc) (flat : Bool) (l : Line) → LineHolds ways d true l → LineHolds ways (Flatten (Align d)) flat l
unfolding never_free_in OneLineIn flat_length_in simple
flat_line_holds ways d flat Nothing h = (h.0, ap (option_map Align) h.1)
flat_line_holds ways d flat Unsure h = tt
flat_line_holds ways d flat _ h = h

-- documents one behind another
pub chain_together : (xs ys : List Doc) (flat : Bool) → Passes (Concat (chain xs) (chain ys)) (chain (xs ++ ys)) flat
unfolding chain
chain_together [] ys flat = passes_off_before (chain ys) flat
chain_together (x ∷ xs) ys flat =
    passes_then (Concat (Concat x (chain xs)) (chain ys)) (Concat x (Concat (chain xs) (chain ys))) (Concat x (chain (xs ++ ys))) flat (passes_right x (chain xs) (chain ys) flat)
    (passes_both x (Concat (chain xs) (chain ys)) x (chain (xs ++ ys)) flat (passes_same x flat) (chain_together xs ys flat))

pub chain_apart : (xs ys : List Doc) (flat : Bool) → Passes (chain (xs ++ ys)) (Concat (chain xs) (chain ys)) flat
unfolding chain
chain_apart [] ys flat = passes_behind_nothing (chain ys) flat
chain_apart (x ∷ xs) ys flat =
    passes_then (Concat x (chain (xs ++ ys))) (Concat x (Concat (chain xs) (chain ys))) (Concat (Concat x (chain xs)) (chain ys)) flat
    (passes_both x (chain (xs ++ ys)) x (Concat (chain xs) (chain ys)) flat (passes_same x flat) (chain_apart xs ys flat)) (passes_left x (chain xs) (chain ys) flat)

pub chain_one_more : (xs : List Doc) (d : Doc) (flat : Bool) → Passes (Concat (chain xs) d) (chain (xs ++ d ∷ [])) flat
unfolding chain
chain_one_more xs d flat =
    passes_then (Concat (chain xs) d) (Concat (chain xs) (Concat d nothing)) (chain (xs ++ d ∷ [])) flat
    (passes_both (chain xs) d (chain xs) (Concat d nothing) flat (passes_same (chain xs) flat) (passes_before_nothing d flat)) (chain_together xs (d ∷ []) flat)

pub chain_seq : (ds : List Doc) (flat : Bool) → Passes (chain ds) (seq ds) flat
unfolding chain
chain_seq ds flat =
    seq_by_parts (λ xs d. Passes (chain xs) d flat) (passes_same nothing flat) (λ d. passes_off_behind d flat)
    (λ d e xs ys a b p q.
    passes_then (chain (d ∷ (xs ++ (e ∷ ys)))) (Concat (chain (d ∷ xs)) (chain (e ∷ ys))) (Concat a b) flat (chain_apart (d ∷ xs) (e ∷ ys) flat)
    (passes_both (chain (d ∷ xs)) (chain (e ∷ ys)) a b flat p q)) ds

-- one document in place of several, among others
pub chain_around : (xs ys zs : List Doc) (d : Doc) (flat : Bool) → Passes (chain ys) d flat → Passes (chain (xs ++ (ys ++ zs))) (seq (xs ++ (d ∷ zs))) flat
unfolding chain
chain_around xs ys zs d flat p =
    passes_then (chain (xs ++ (ys ++ zs))) (Concat (chain xs) (chain (ys ++ zs))) (seq (xs ++ (d ∷ zs))) flat (chain_apart xs (ys ++ zs) flat)
    (passes_then (Concat (chain xs) (chain (ys ++ zs))) (Concat (chain xs) (chain (d ∷ zs))) (seq (xs ++ (d ∷ zs))) flat
    (passes_both (chain xs) (chain (ys ++ zs)) (chain xs) (Concat d (chain zs)) flat (passes_same (chain xs) flat)
    (passes_then (chain (ys ++ zs)) (Concat (chain ys) (chain zs)) (Concat d (chain zs)) flat (chain_apart ys zs flat)
    (passes_both (chain ys) (chain zs) d (chain zs) flat p (passes_same (chain zs) flat))))
    (passes_then (Concat (chain xs) (chain (d ∷ zs))) (chain (xs ++ (d ∷ zs))) (seq (xs ++ (d ∷ zs))) flat (chain_together xs (d ∷ zs) flat) (chain_seq (xs ++ (d ∷ zs)) flat)))

-- others in place of the last two of three rows
pub chain_of_three : (xs ys zs us vs : List Doc) (flat : Bool) → Passes (chain ys) (chain us) flat → Passes (chain zs) (chain vs) flat →
    Passes (chain (xs ++ (ys ++ zs))) (chain (xs ++ (us ++ vs))) flat
chain_of_three xs ys zs us vs flat p q =
    passes_then (chain (xs ++ (ys ++ zs))) (Concat (chain xs) (chain (ys ++ zs))) (chain (xs ++ (us ++ vs))) flat (chain_apart xs (ys ++ zs) flat)
    (passes_then (Concat (chain xs) (chain (ys ++ zs))) (Concat (chain xs) (chain (us ++ vs))) (chain (xs ++ (us ++ vs))) flat
    (passes_both (chain xs) (chain (ys ++ zs)) (chain xs) (chain (us ++ vs)) flat (passes_same (chain xs) flat)
    (passes_then (chain (ys ++ zs)) (Concat (chain ys) (chain zs)) (chain (us ++ vs)) flat (chain_apart ys zs flat)
    (passes_then (Concat (chain ys) (chain zs)) (Concat (chain us) (chain vs)) (chain (us ++ vs)) flat (passes_both (chain ys) (chain zs) (chain us) (chain vs) flat p q) (chain_together us vs flat))))
    (chain_together xs (us ++ vs) flat))

-- a row that is never on one line, among three
pub second_never : (xs us vs : List Doc) (flat : Bool) → never_free_in (chain us) flat ≡ true → never_free_in (chain (xs ++ (us ++ vs))) flat ≡ true
unfolding never_free_in
second_never xs us vs flat h =
    (chain_together xs (us ++ vs) flat).never (or_right (never_free_in (chain xs) flat) (never_free_in (chain (us ++ vs)) flat)
    ((chain_together us vs flat).never (or_left (never_free_in (chain us) flat) (never_free_in (chain vs) flat) h)))

pub third_none : (xs us vs : List Doc) (flat : Bool) → simple (chain vs) flat ≡ None → simple (chain (xs ++ (us ++ vs))) flat ≡ None
unfolding simple
third_none xs us vs flat h =
    (chain_together xs (us ++ vs) flat).nothing (ap (simple_concat (simple (chain xs) flat)) rest ∙ concat_none (simple (chain xs) flat))
  where
    rest : simple (chain (us ++ vs)) flat ≡ None
    rest = (chain_together us vs flat).nothing (ap (simple_concat (simple (chain us) flat)) h ∙ concat_none (simple (chain us) flat))

pub third_never : (xs us vs : List Doc) (flat : Bool) → never_free_in (chain vs) flat ≡ true → never_free_in (chain (xs ++ (us ++ vs))) flat ≡ true
unfolding never_free_in
third_never xs us vs flat h =
    (chain_together xs (us ++ vs) flat).never (or_right (never_free_in (chain xs) flat) (never_free_in (chain (us ++ vs)) flat)
    ((chain_together us vs flat).never (or_right (never_free_in (chain us) flat) (never_free_in (chain vs) flat) h)))
