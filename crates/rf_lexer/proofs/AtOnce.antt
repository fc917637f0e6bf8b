-- Items that are told at once, by their bytes.
use Rattle.std.proofs.Common.{◌≡◌, ◌≢◌, ℕ, zero, suc, ◌<◌, Bool, true, false, Option, Some, None, List, [], ◌∷◌, ◌++◌, length, drop, refl, ap, sym, ◌∙◌, ◌⊎◌, inl, inr, arith, subst}
use Rattle.std.proofs.lemmas.Bool.{ne_eqb}
use Rattle.std.proofs.lemmas.Str.{encode_ascii, chars_past_char, IsUtf8-past_char}
use Rattle.std.specs.Borrow.{Bor}
use Rattle.std.specs.Char.{encode_utf8}
use Rattle.std.specs.Prelude.{slice_index, IfSome}
use Rattle.std.specs.Str.{chars, IsUtf8, IsCharBoundary}
use Rattle.rf_base_grammar.specs.Characters.{is_delimiter, is_white}
use Rattle.rf_base_grammar.specs.Cuts.{Cut, run_cut, cut, also, Bare}
use Rattle.rf_base_grammar.specs.Reader.{Answer, Found, front_item, run_item}
use Rattle.rf_base_grammar.specs.declared.kinds.Kind.{Kind}
use Rattle.rf_base_grammar.specs.declared.kinds.Kind.TheVariants.{Atom, Dot}
use Rattle.rf_lexer.specs.Classes.{is_plain, IsMark, BeginsWithMarks}
use Rattle.rf_lexer.specs.Fronts.{Tells, BeginsWord, closed_by, is_quote}
use Rattle.rf_lexer.specs.Places.{IsBehind}
use Rattle.rf_lexer.specs.Runs.{IsPlainRun}
use Rattle.rf_lexer.specs.declared.front.Front.{Front}
use Rattle.rf_lexer.specs.declared.front.Front.TheVariants.{Read}
use Rattle.rf_lexer.specs.declared.runs.Quoting.TheVariants.{Plain}
use Rattle.rf_lexer.proofs.Cuts.{run_past, plain_ends, plain_goes_on}
use Rattle.rf_lexer.proofs.Marks.{marks_behind, marks_end}
use Rattle.rf_lexer.proofs.Openings.{other, run_is}
use Rattle.rf_lexer.proofs.RunParts.{plain_atom}

-- a text whose first byte is an ASCII character begins with it
pub mark_front : (test : ℕ → Bool) (bs : List ℕ) → IsUtf8 bs → 0 < length bs → IsMark test (slice_index bs 0) → chars bs ≡ slice_index bs 0 ∷ chars (drop 1 bs)
mark_front test [] u some mark = absurd (omega arith)
mark_front test (b ∷ bs) u some mark =
    chars_past_char (b ∷ bs) bs b u (ap (λ xs. xs ++ bs) (sym (encode_ascii b mark.0)))

pub one_mark : (test : ℕ → Bool) (bs : List ℕ) → IsMark test (slice_index bs 0) → BeginsWithMarks test bs 1
one_mark test bs mark zero l = mark
one_mark test bs mark (suc k) l = absurd (omega arith)

-- the delimiter behind a run of no bytes
pub no_run : (bs : List ℕ) (n : ℕ) → IsPlainRun bs n → n ≡ 0 → IsMark is_delimiter (slice_index bs 0)
no_run bs n run none = rw none at run.ends

-- a mark that makes an item by itself
pub mark_told : (language : Bool) (bs : List ℕ) (kind : Kind) (r : Bor (List ℕ)) → IsUtf8 bs → 0 < length bs → IsMark is_delimiter (slice_index bs 0) → r.now ≡ drop 1 bs → ((behind : List ℕ) → front_item language (slice_index bs 0 ∷ behind) ≡ Found kind (slice_index bs 0 ∷ []) behind) → Tells (front_item language (chars bs)) (Read kind r)
mark_told language bs kind r u some mark is alone =
    rw (mark_front is_delimiter bs u some mark, alone (chars (drop 1 bs))) (refl, ap chars is)

index_drop : (bs : List ℕ) (n : ℕ) → n < length bs → slice_index (drop n bs) 0 ≡ slice_index bs n
index_drop [] n l = absurd (omega arith)
index_drop (b ∷ bs) zero l = refl
index_drop (b ∷ bs) (suc n) l = index_drop bs n (omega arith)

some_left : (bs : List ℕ) (n : ℕ) → n < length bs → 0 < length (drop n bs)
some_left [] n l = absurd (omega arith)
some_left (b ∷ bs) zero l = omega arith
some_left (b ∷ bs) (suc n) l = some_left bs n (omega arith)

-- nothing is left of the run before the delimiter
no_more : (bs : List ℕ) (n : ℕ) → IsUtf8 (drop n bs) → IsPlainRun bs n → run_cut Bare (chars (drop n bs)) ≡ Some (cut [] (chars (drop n bs)))
no_more bs n w run =
    let mark : IsMark is_delimiter (slice_index (drop n bs) 0) = rw (index_drop bs n run.within) run.ends in
    let front = mark_front is_delimiter (drop n bs) w (some_left bs n run.within) mark in
    rw front (plain_ends (slice_index (drop n bs) 0) mark.1 (chars (drop 1 (drop n bs))))

-- the run ends before the delimiter
pub run_behind : (bs : List ℕ) (n : ℕ) (r : Bor (List ℕ)) → IsUtf8 bs → IsUtf8 r.now → r.now ≡ drop n bs → IsPlainRun bs n → IsBehind (run_cut Bare (chars bs)) (Some r)
run_behind bs n r u v is run =
    let past = marks_behind is_plain bs n u (omega (arith, run.within)) run.marks in
    let here : IsBehind (run_cut Bare (chars (drop n bs))) (Some r) = rw (no_more bs n (subst IsUtf8 is v) run) (ap chars (sym is)) in
    run_past (chars bs) (chars (drop n bs)) (Some r) past here

plain_isnt : (c a : ℕ) → is_plain c ≡ true → is_plain a ≡ false → c ≢ a
plain_isnt c a h g e =
    let same : is_plain a ≡ true = subst (λ n. is_plain n ≡ true) e h in
    absurd (cc)

-- what stands for itself in a run, but no hash sign, begins a run
pub plain_front : (language : Bool) (c : ℕ) (behind : List ℕ) → is_plain c ≡ true → c ≢ 35 → front_item language (c ∷ behind) ≡ run_item (run_cut Bare (c ∷ behind))
unfolding is_delimiter is_white
plain_front language c behind plain hash =
    let closes : closed_by c ≡ None = rw (ne_eqb c 41 (plain_isnt c 41 plain refl), ne_eqb c 93 (plain_isnt c 93 plain refl), ne_eqb c 125 (plain_isnt c 125 plain refl)) refl in
    let quotes : is_quote c ≡ false = rw (other 39 c (plain_isnt c 39 plain refl), other 96 c (plain_isnt c 96 plain refl)) refl in
    run_is language c behind hash (plain_isnt c 59 plain refl) closes (plain_isnt c 44 plain refl) quotes

-- a dot before a delimiter is a dot
pub dot_front : (language : Bool) (bs : List ℕ) (r : Bor (List ℕ)) → IsUtf8 bs → IsUtf8 r.now → r.now ≡ drop 1 bs → IsPlainRun bs 1 → slice_index bs 0 ≡ 46 → Tells (front_item language (chars bs)) (Read Dot r)
unfolding is_delimiter is_white
dot_front language bs r u v is run dot =
    let front = mark_front is_plain bs u (omega (arith, run.within)) (run.marks 0 (omega arith)) in
    let one = plain_goes_on 46 Plain refl refl (chars (drop 1 bs)) ∙ ap (also 46) (no_more bs 1 (subst IsUtf8 is v) run) in
    rw (front, dot, plain_front language 46 (chars (drop 1 bs)) refl (λ e. absurd (cc)), one) (refl, ap chars is)

-- a run that doesn't begin with a hash sign or a dot is an atom
pub atom_front : (language : Bool) (bs : List ℕ) (n : ℕ) (r : Bor (List ℕ)) → IsUtf8 bs → IsUtf8 r.now → r.now ≡ drop n bs → IsPlainRun bs n → n ≢ 0 → slice_index bs 0 ≢ 35 → slice_index bs 0 ≢ 46 → Tells (front_item language (chars bs)) (Read Atom r)
atom_front language bs n r u v is run some hash dot =
    let c = slice_index bs 0 in
    let mark = run.marks 0 (omega arith) in
    let front = mark_front is_plain bs u (omega (arith, run.within)) mark in
    let told = plain_atom (chars bs) c r (chars (drop 1 bs), front, mark.1, hash, dot) (run_behind bs n r u v is run) in
    rw (front, plain_front language c (chars (drop 1 bs)) mark.1 hash) (rw front at told)

-- the hash sign at the front of a run and the byte behind it are ASCII characters
two_marks : (bs : List ℕ) (n : ℕ) → IsPlainRun bs n → n ≢ 0 → (slice_index bs 0 < 128) × (slice_index bs 1 < 128)
two_marks bs zero run some = absurd (some refl)
two_marks bs (suc zero) run some = ((run.marks 0 (omega arith)).0, run.ends.0)
two_marks bs (suc (suc n)) run some = ((run.marks 0 (omega arith)).0, (run.marks 1 (omega arith)).0)

-- a text may be cut behind them
pub two_end : (bs : List ℕ) (n : ℕ) → IsUtf8 bs → IsPlainRun bs n → n ≢ 0 → IsCharBoundary bs 2
two_end bs n u run some =
    let marks = two_marks bs n run some in
    marks_end (λ c. true) bs 2 u (omega (arith, run.within)) (λ k below. two_below bs marks k below)
  where
    two_below : (bs : List ℕ) → (slice_index bs 0 < 128) × (slice_index bs 1 < 128) → (k : ℕ) → k < 2 → IsMark (λ c. true) (slice_index bs k)
    two_below bs marks zero l = (marks.0, refl)
    two_below bs marks (suc zero) l = (marks.1, refl)
    two_below bs marks (suc (suc k)) l = absurd (omega arith)

two_front : (bs : List ℕ) → IsUtf8 bs → 1 < length bs → (slice_index bs 0 < 128) × (slice_index bs 1 < 128) → chars bs ≡ slice_index bs 0 ∷ slice_index bs 1 ∷ chars (drop 2 bs)
two_front [] u some marks = absurd (omega arith)
two_front (a ∷ []) u some marks = absurd (omega arith)
two_front (a ∷ b ∷ bs) u some marks =
    let is : a ∷ b ∷ bs ≡ encode_utf8 a ++ (b ∷ bs) = ap (λ xs. xs ++ b ∷ bs) (sym (encode_ascii a marks.0)) in
    let next : b ∷ bs ≡ encode_utf8 b ++ bs = ap (λ xs. xs ++ bs) (sym (encode_ascii b marks.1)) in
    chars_past_char (a ∷ b ∷ bs) (b ∷ bs) a u is
    ∙ ap (λ xs. a ∷ xs) (chars_past_char (b ∷ bs) bs b (IsUtf8-past_char (a ∷ b ∷ bs) (b ∷ bs) a u is) next)

-- the hash sign, the character behind it, and the rest
pub hash_front : (bs : List ℕ) (n : ℕ) → IsUtf8 bs → IsPlainRun bs n → n ≢ 0 → slice_index bs 0 ≡ 35 → chars bs ≡ 35 ∷ slice_index bs 1 ∷ chars (drop 2 bs)
hash_front bs n u run some hash =
    two_front bs u (omega (arith, run.within)) (two_marks bs n run some) ∙ ap (λ c. c ∷ slice_index bs 1 ∷ chars (drop 2 bs)) hash

-- what a reader told of a text, where it is an item
pub read_told : (answer : Bool → Answer) (front : Front) (r : Option (Kind × Bor (List ℕ))) → ((language : Bool) → Tells (answer language) front) → IfSome r (λ item. front ≡ Read item.0 item.1) → IfSome r (λ item. (language : Bool) → Tells (answer language) (Read item.0 item.1))
read_told answer front None told is = tt
read_told answer front (Some item) told is = λ language. subst (λ f. Tells (answer language) f) is (told language)

-- a mark that makes an item with the hash sign before it
pub hash_told : (language : Bool) (bs : List ℕ) (n : ℕ) (kind : Kind) (r : Bor (List ℕ)) → IsUtf8 bs → IsPlainRun bs n → n ≢ 0 → slice_index bs 0 ≡ 35 → r.now ≡ drop 2 bs → ((behind : List ℕ) → front_item language (35 ∷ slice_index bs 1 ∷ behind) ≡ Found kind (35 ∷ slice_index bs 1 ∷ []) behind) → Tells (front_item language (chars bs)) (Read kind r)
hash_told language bs n kind r u run some hash is alone =
    rw (hash_front bs n u run some hash, alone (chars (drop 2 bs))) (refl, ap chars is)

long_run : (c : ℕ) (behind : List ℕ) → (c ≡ 58) ⊎ (c ≡ 37) → run_cut Bare (35 ∷ c ∷ behind) ≡ also 35 (also c (run_cut Bare behind))
unfolding run_cut is_delimiter is_white
long_run c behind (inl e) = rw e refl
long_run c behind (inr e) = rw e refl

long_word : (language : Bool) (c : ℕ) (behind : List ℕ) → (c ≡ 58) ⊎ (c ≡ 37) → front_item language (35 ∷ c ∷ behind) ≡ run_item (run_cut Bare (35 ∷ c ∷ behind))
unfolding front_item
long_word language c behind (inl e) = rw e refl
long_word language c behind (inr e) = rw e refl

long_told : (c : ℕ) (k : Option Cut) (r : Bor (List ℕ)) → (c ≡ 58) ⊎ (c ≡ 37) → IsBehind (also 35 (also c k)) (Some r) → Tells (run_item (also 35 (also c k))) (Read Atom r)
long_told c None r is h = absurd h
long_told c (Some k) r (inl e) h = rw e (refl, sym h)
long_told c (Some k) r (inr e) h = rw e (refl, sym h)

short_word : (language : Bool) (c : ℕ) (behind : List ℕ) → (c ≡ 116) ⊎ (c ≡ 102) → run_cut Bare behind ≡ Some (cut [] behind) → front_item language (35 ∷ c ∷ behind) ≡ Found Atom (35 ∷ c ∷ []) behind
unfolding front_item run_cut is_delimiter is_white
short_word language c behind (inl e) ended = rw (e, ended) refl
short_word language c behind (inr e) ended = rw (e, ended) refl

-- a run that a hash sign begins and that is an atom by the character behind this
pub word_front : (language : Bool) (bs : List ℕ) (n : ℕ) (r : Bor (List ℕ)) → IsUtf8 bs → IsUtf8 r.now → r.now ≡ drop n bs → IsPlainRun bs n → n ≢ 0 → slice_index bs 0 ≡ 35 → BeginsWord (slice_index bs 1) n → Tells (front_item language (chars bs)) (Read Atom r)
word_front language bs n r u v is run some hash (inl long) =
    let c = slice_index bs 1 in
    let behind = chars (drop 2 bs) in
    let front = hash_front bs n u run some hash in
    let cut_is : run_cut Bare (chars bs) ≡ also 35 (also c (run_cut Bare behind)) = ap (run_cut Bare) front ∙ long_run c behind long in
    let found = subst (λ k. IsBehind k (Some r)) cut_is (run_behind bs n r u v is run) in
    let told = long_told c (run_cut Bare behind) r long found in
    rw (front, long_word language c behind long, long_run c behind long) told
word_front language bs n r u v is run some hash (inr short) =
    let two : IsPlainRun bs 2 = rw short.1 at run in
    let cut_at : r.now ≡ drop 2 bs = rw short.1 at is in
    let w : IsUtf8 (drop 2 bs) = subst IsUtf8 cut_at v in
    let front = hash_front bs n u run some hash in
    rw (front, short_word language (slice_index bs 1) (chars (drop 2 bs)) short.0 (no_more bs 2 w two)) (refl, ap chars cut_at)
