-- The items that are runs, or begin with one: what the reader finds where the definitions say that they stand.
use Rattle.std.proofs.Common.{◌≡◌, ℕ, ◌&&◌, inl, inr, not, Bool, true, false, Some, List, [], ◌∷◌, ◌++◌, refl, sym, ap, ◌∙◌, eqb, arith}
use Rattle.std.specs.Prelude.{codes}
use Rattle.std.specs.List.{AllByRecursion, list_all, concat}
use Rattle.std.specs.Char.{is_ascii_digit}
use Rattle.std.specs.Str.{bytes_eq}
use Rattle.std.proofs.lemmas.Bool.{eqb-true, and_parts, and_from, or_left, or_right, not-true, not_from_false, false≢true}
use Rattle.std.proofs.lemmas.List.{append_assoc, append-nil}
use Rattle.rf_base_grammar.specs.Characters.{is_white, is_delimiter, BeginsWith, IsOneOf, MadeOf}
use Rattle.rf_base_grammar.specs.Runs.{hash, backslash, bar, IsRunPart, IsRun, IsShortNumber, booleans, atom_beginnings, BeginsWithOneOf, IsGraphReference, IsAtomRun}
use Rattle.rf_base_grammar.specs.Spelled.{EndsOrDelimits}
use Rattle.rf_base_grammar.specs.Cuts.{Cut, Bare, run_cut}
use Rattle.rf_base_grammar.specs.Reader.{Answer, Found, is_nothing, begins, among, begins_among, is_short, is_number_word, is_atom_run, atom_item, run_item, label_item, front_item}
use Rattle.rf_base_grammar.specs.declared.kinds.Kind.TheVariants.{Dot, Atom}
use Rattle.rf_base_grammar.proofs.Words.{among_one, begins_among_one, begins_not, nothing_not, same_from, same_not}
use Rattle.rf_base_grammar.proofs.Spans.{Stops, span_same}
use Rattle.rf_base_grammar.proofs.RunCuts.{run_cut_parts}
use Rattle.rf_base_grammar.proofs.Beginnings.{plain_front, is_free, free_front, number_front, short_from}

-- what is true of each word is true of each of them
pub of_all : (p : List ℕ → Bool) (words : List (List ℕ)) (text : List ℕ) → list_all p words ≡ true →
    IsOneOf words text → p text ≡ true
of_all p [] text a h = absurd h
of_all p (word ∷ words) text a (inl e) = rw e (and_parts _ _ a).0
of_all p (word ∷ words) text a (inr h) = of_all p words text (and_parts _ _ a).1 h

pub of_all_begun : (p : List ℕ → Bool) (words : List (List ℕ)) (text : List ℕ) → list_all p words ≡ true →
    BeginsWithOneOf words text → (word : List ℕ) × (p word ≡ true) × BeginsWith word text
of_all_begun p [] text a h = absurd h
of_all_begun p (word ∷ words) text a (inl b) = (word, (and_parts _ _ a).0, b)
of_all_begun p (word ∷ words) text a (inr h) = of_all_begun p words text (and_parts _ _ a).1 h

-- the first character of a run is no delimiter
first_of_parts : (c : ℕ) (text : List ℕ) (parts : List (List ℕ)) → AllByRecursion IsRunPart parts →
    c ∷ text ≡ concat parts → is_delimiter c ≡ false
unfolding is_delimiter is_white
first_of_parts c text [] h e = absurd cc
first_of_parts c text (part ∷ parts) h e = by_part h.0
  where
    by_part : IsRunPart part → is_delimiter c ≡ false
    by_part (inl p) =
        let whole : c ∷ text ≡ p.0 ∷ concat parts = e ∙ ap (λ xs. xs ++ concat parts) p.1 in
        let same : c ≡ p.0 = cc in
        rw same p.2
    by_part (inr (inl p)) =
        let whole : c ∷ text ≡ backslash ∷ p.0 ∷ concat parts = e ∙ ap (λ xs. xs ++ concat parts) p.1 in
        let same : c ≡ backslash = cc in
        rw same refl
    by_part (inr (inr p)) =
        let whole : c ∷ text ≡ bar ∷ ((p.0 ++ bar ∷ []) ++ concat parts) = e ∙ ap (λ xs. xs ++ concat parts) p.1 in
        let same : c ≡ bar = cc in
        rw same refl

pub run_first : (c : ℕ) (text : List ℕ) → MadeOf IsRunPart (c ∷ text) → is_delimiter c ≡ false
run_first c text h = first_of_parts c text h.0 h.1 h.2

-- what a run and what is behind it are read as
pub run_answer : (run behind : List ℕ) → MadeOf IsRunPart run → EndsOrDelimits behind →
    run_item (run_cut Bare (run ++ behind)) ≡ atom_item (bytes_eq run (codes ".")) (is_atom_run run) run behind
run_answer run behind h e = ap run_item (run_cut_parts run behind h e)

-- a text that begins with no hash sign is read as a run
pub plain_run : (language : Bool) (run behind : List ℕ) → IsRun run → (BeginsWith (codes "#") run → ⊥) →
    front_item language (run ++ behind) ≡ run_item (run_cut Bare (run ++ behind))
plain_run language [] behind h n = absurd (h.0 refl)
plain_run language (c ∷ run) behind h n =
    plain_front language c (run ++ behind) (λ e. n (run, rw e refl)) (run_first c run h.1)

-- a hash sign and a character that no word and no number goes on with
abbrev pub is_hash_word : List ℕ → Bool
is_hash_word [] = false
is_hash_word (x ∷ []) = false
is_hash_word (x ∷ c ∷ word) = eqb x hash && (is_free false c && not (is_ascii_digit c))

label_not : (c : ℕ) (text : List ℕ) (other : Answer) → is_ascii_digit c ≡ false →
    label_item (Some (c ∷ text)) other ≡ other
label_not c text other h = rw h refl

pub hash_run : (language : Bool) (word text : List ℕ) → is_hash_word word ≡ true → BeginsWith word text →
    front_item language text ≡ run_item (run_cut Bare text)
hash_run language [] text h b = absurd (false≢true h)
hash_run language (x ∷ []) text h b = absurd (false≢true h)
hash_run language (x ∷ c ∷ word) text h b =
    let first = and_parts _ _ h in
    let second = and_parts (is_free false c) (not (is_ascii_digit c)) first.1 in
    let behind = word ++ b.0 in
    let shape : text ≡ hash ∷ c ∷ behind = b.1 ∙ ap (λ y. y ∷ c ∷ behind) (eqb-true x hash first.0) in
    rw shape
    (free_front language c behind second.0
    ∙ label_not c behind (run_item (run_cut Bare (hash ∷ c ∷ behind))) (not-true (is_ascii_digit c) second.1))

pub begins_more : (word run behind : List ℕ) → BeginsWith word run → BeginsWith word (run ++ behind)
begins_more word run behind b = (b.0 ++ behind, ap (λ xs. xs ++ behind) b.1 ∙ append_assoc word b.0 behind)

-- an atom's run is read as a run
atom_front : (language : Bool) (run behind : List ℕ) → IsRun run → IsAtomRun run →
    front_item language (run ++ behind) ≡ run_item (run_cut Bare (run ++ behind))
atom_front language run behind r (inl h) = plain_run language run behind r h.0
atom_front language run behind r (inr (inl h)) =
    hash_run language run (run ++ behind) (of_all is_hash_word booleans run refl h) (behind, refl)
atom_front language run behind r (inr (inr (inl h))) =
    let w = of_all_begun is_hash_word atom_beginnings run refl h in
    hash_run language w.0 (run ++ behind) w.1 (begins_more w.0 run behind w.2)
atom_front language run behind r (inr (inr (inr h))) =
    let shape : run ++ behind ≡ hash ∷ (h.0 ++ hash ∷ behind) =
    ap (λ xs. xs ++ behind) h.1 ∙ ap (λ xs. hash ∷ xs) (append_assoc h.0 (hash ∷ []) behind) in
    rw shape (number_front language h.0 (hash ∷ behind) h.2 refl)

-- a number word is told as one
pub number_word : (end digits : List ℕ) → IsShortNumber digits → Stops is_ascii_digit end →
    is_number_word end (hash ∷ (digits ++ end)) ≡ true
number_word end digits h s =
    ap (λ (k : Cut). is_short k.front && bytes_eq end k.behind) (span_same is_ascii_digit digits end h.0 s)
    ∙ and_from _ _ (short_from digits h) (same_from end end refl)

reference_told : (run : List ℕ) → IsGraphReference run → is_number_word (codes "#") run ≡ true
reference_told run h = rw h.1 (number_word (codes "#") h.0 h.2 refl)

atom_told : (run : List ℕ) → (run ≡ [] → ⊥) → IsAtomRun run → is_atom_run run ≡ true
atom_told run n (inl h) =
    or_left _ _ (and_from _ _ (not_from_false (is_nothing run) (nothing_not run n))
    (not_from_false (begins (codes "#") run) (begins_not (codes "#") run h.0)))
atom_told run n (inr (inl h)) = or_right _ _ (or_left _ _ (among_one booleans run h))
atom_told run n (inr (inr (inl h))) = or_right _ _ (or_right _ _ (or_left _ _ (begins_among_one atom_beginnings run h)))
atom_told run n (inr (inr (inr h))) =
    or_right (not (is_nothing run) && not (begins (codes "#") run)) _
    (or_right (among booleans run) _ (or_right (begins_among atom_beginnings run) _ (reference_told run h)))

-- what begins with a hash sign is no dot
hash_no_dot : (run : List ℕ) → BeginsWith (codes "#") run → run ≡ codes "." → ⊥
hash_no_dot run b e = let both : hash ∷ b.0 ≡ codes "." = sym b.1 ∙ e in cc

word_begins_hash : (word run : List ℕ) → is_hash_word word ≡ true → BeginsWith word run → BeginsWith (codes "#") run
word_begins_hash [] run h b = absurd (false≢true h)
word_begins_hash (x ∷ []) run h b = absurd (false≢true h)
word_begins_hash (x ∷ c ∷ word) run h b =
    (c ∷ (word ++ b.0), b.1 ∙ ap (λ y. y ∷ c ∷ (word ++ b.0)) (eqb-true x hash (and_parts _ _ h).0))

itself_begins : (run : List ℕ) → BeginsWith run run
itself_begins run = ([], sym (append-nil run))

reference_begins_hash : (run : List ℕ) → IsGraphReference run → BeginsWith (codes "#") run
reference_begins_hash run h = (h.0 ++ hash ∷ [], h.1)

no_dot : (run : List ℕ) → IsAtomRun run → run ≡ codes "." → ⊥
no_dot run (inl h) = h.1
no_dot run (inr (inl h)) =
    hash_no_dot run (word_begins_hash run run (of_all is_hash_word booleans run refl h) (itself_begins run))
no_dot run (inr (inr (inl h))) =
    let w = of_all_begun is_hash_word atom_beginnings run refl h in
    hash_no_dot run (word_begins_hash w.0 run w.1 w.2)
no_dot run (inr (inr (inr h))) = hash_no_dot run (reference_begins_hash run h)

-- an atom that is a run is found
pub atom_found : (language : Bool) (run behind : List ℕ) → IsRun run → IsAtomRun run → EndsOrDelimits behind →
    front_item language (run ++ behind) ≡ Found Atom run behind
atom_found language run behind r h e =
    atom_front language run behind r h
    ∙ run_answer run behind r.1 e
    ∙ rw (same_not run (codes ".") (no_dot run h), atom_told run r.0 h) refl

-- the dot is found
pub dot_found : (language : Bool) (behind : List ℕ) → EndsOrDelimits behind →
    front_item language (codes "." ++ behind) ≡ Found Dot (codes ".") behind
unfolding is_delimiter is_white
dot_found language behind e =
    let part : IsRunPart (codes ".") = inl (46, refl, refl, (λ f. omega arith), (λ f. omega arith)) in
    plain_front language 46 behind (λ f. omega arith) refl
    ∙ run_answer (codes ".") behind (codes "." ∷ [], (part, tt), refl) e
