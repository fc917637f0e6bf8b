-- The parts of a text that begins with a run.
use Rattle.std.proofs.Common.{◌≡◌, ◌≢◌, ◌==◌, ℕ, Bool, true, false, Option, None, Some, List, [], ◌∷◌, ◌++◌, refl, ap, sym, ◌∙◌}
use Rattle.std.specs.Borrow.{Bor}
use Rattle.std.specs.Str.{chars, bytes_eq}
use Rattle.std.specs.Prelude.{codes}
use Rattle.rf_base_grammar.specs.Characters.{is_delimiter}
use Rattle.rf_base_grammar.specs.Cuts.{Cut, cut, also, run_cut, unless_ended, Quoting, Bare, Escaped, Barred, quoting_behind, barred_behind}
use Rattle.rf_base_grammar.specs.Reader.{Found, run_item, atom_item, headed_item, is_atom_run}
use Rattle.rf_base_grammar.specs.declared.kinds.Kind.TheVariants.{Dot, Atom}
use Rattle.rf_base_grammar.specs.declared.refusals.LexKind.TheVariants.{OpenBar}
use Rattle.std.proofs.lemmas.Bool.{ne_eqb}
use Rattle.rf_lexer.specs.Fronts.{Tells, BeginsAtom}
use Rattle.rf_lexer.specs.declared.front.Front.TheVariants.{Read, Unread}
use Rattle.rf_lexer.proofs.Cuts.{plain_run}
use Rattle.rf_lexer.specs.Places.{IsBehind}

-- the cut is of the text
AreParts : Option Cut → List ℕ → Type 0
AreParts None text = Unit {0}
AreParts (Some k) text = text ≡ k.front ++ k.behind

parts_also : (c : ℕ) (k : Option Cut) (text : List ℕ) → AreParts k text → AreParts (also c k) (c ∷ text)
unfolding AreParts
parts_also c None text h = tt
parts_also c (Some k) text h = ap (λ xs. c ∷ xs) h

parts_unless : (b : Bool) (c : ℕ) (k : Option Cut) (text : List ℕ) → AreParts k text → AreParts (unless_ended b c text k) (c ∷ text)
unfolding AreParts
parts_unless true c k text h = refl
parts_unless false c k text h = parts_also c k text h

run_whole : (q : Quoting) (text : List ℕ) → AreParts (run_cut q text) text
unfolding AreParts run_cut
run_whole Bare [] = refl
run_whole Escaped [] = tt
run_whole Barred [] = tt
run_whole Bare (c ∷ text) = parts_unless (is_delimiter c) c (run_cut (quoting_behind c) text) text (run_whole (quoting_behind c) text)
run_whole Escaped (c ∷ text) = parts_also c (run_cut Bare text) text (run_whole Bare text)
run_whole Barred (c ∷ text) = parts_also c (run_cut (barred_behind c) text) text (run_whole (barred_behind c) text)

-- the run before the rest
pub record Run (text : List ℕ) (k : Option Cut) (rest : List ℕ) : Type 0 where
  pub front : List ℕ
  pub cut_is : k ≡ Some (cut front rest)
  pub whole : text ≡ front ++ rest

run_from : (text : List ℕ) (k : Option Cut) (r : Bor (List ℕ)) → AreParts k text → IsBehind k (Some r) → Run text k (chars r.now)
unfolding AreParts
run_from text None r h e = absurd e
run_from text (Some k) r h e =
    record { front = k.front; cut_is = ap (λ xs. Some (cut k.front xs)) e; whole = h ∙ ap (λ xs. k.front ++ xs) e }

pub run_parts : (text : List ℕ) (r : Bor (List ℕ)) → IsBehind (run_cut Bare text) (Some r) → Run text (run_cut Bare text) (chars r.now)
run_parts text r e = run_from text (run_cut Bare text) r (run_whole Bare text) e

run_item_is : (k : Option Cut) (run front rest : List ℕ) → k ≡ Some (cut front rest) → run ≡ front → run_item k ≡ atom_item (bytes_eq run (codes ".")) (is_atom_run run) run rest
run_item_is k run front rest e is = rw (e, is) refl

-- the item that the run makes
module _ (text run : List ℕ) (r : Bor (List ℕ)) (h : IsBehind (run_cut Bare text) (Some r)) (run_is : (front : List ℕ) → text ≡ front ++ chars r.now → run ≡ front) where
  made : run_item (run_cut Bare text) ≡ atom_item (bytes_eq run (codes ".")) (is_atom_run run) run (chars r.now)
  made =
      let parts = run_parts text r h in
      run_item_is (run_cut Bare text) run parts.front (chars r.now) parts.cut_is (run_is parts.front parts.whole)

  pub dot_is : bytes_eq run (codes ".") ≡ true → run_item (run_cut Bare text) ≡ Found Dot run (chars r.now)
  dot_is e = made ∙ ap (λ b. atom_item b (is_atom_run run) run (chars r.now)) e

  pub atom_is : bytes_eq run (codes ".") ≡ false → is_atom_run run ≡ true → run_item (run_cut Bare text) ≡ Found Atom run (chars r.now)
  atom_is e f = made ∙ ap (λ b. atom_item b (is_atom_run run) run (chars r.now)) e ∙ ap (λ b. atom_item false b run (chars r.now)) f

  pub head_is : bytes_eq run (codes ".") ≡ false → is_atom_run run ≡ false → run_item (run_cut Bare text) ≡ headed_item run (chars r.now)
  head_is e f = made ∙ ap (λ b. atom_item b (is_atom_run run) run (chars r.now)) e ∙ ap (λ b. atom_item false b run (chars r.now)) f

-- the atom that a run makes whose first character is no hash sign and no dot
atom_told : (c : ℕ) (k : Option Cut) (r : Bor (List ℕ)) → c ≢ 35 → c ≢ 46 → IsBehind (also c k) (Some r) → Tells (run_item (also c k)) (Read Atom r)
atom_told c None r hash dot h = absurd h
atom_told c (Some k) r hash dot h =
    let no_hash : (35 == c) ≡ false = ne_eqb 35 c (λ e. hash (sym e)) in
    let no_dot : (c == 46) ≡ false = ne_eqb c 46 dot in
    rw (no_hash, no_dot) (refl, sym h)

pub plain_atom : (text : List ℕ) (c : ℕ) (r : Bor (List ℕ)) → BeginsAtom c text → IsBehind (run_cut Bare text) (Some r) → Tells (run_item (run_cut Bare text)) (Read Atom r)
plain_atom text c r b h =
    let step : run_cut Bare text ≡ also c (run_cut (quoting_behind c) b.0) = rw b.1 (plain_run c b.0 b.2) in
    let found : IsBehind (also c (run_cut (quoting_behind c) b.0)) (Some r) = rw step at h in
    rw step (atom_told c (run_cut (quoting_behind c) b.0) r b.3 b.4 found)

pub open_run : (k : Option Cut) → IsBehind k None → Tells (run_item k) (Unread OpenBar 0)
open_run None h = (refl, refl)
open_run (Some k) h = absurd h
