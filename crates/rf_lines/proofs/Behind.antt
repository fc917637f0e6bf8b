-- What is written behind what stands on a stretch, one thing behind the other.
use Rattle.std.proofs.Common.{◌≡◌, ℕ, ◌+◌, ◌≤◌, Bool, true, List, [], ◌∷◌, ◌++◌, length, slice_range, append_assoc, append-nil, refl, sym, ◌∙◌, ap, subst, Option, Some, None}
use Rattle.std.specs.Str.{chars}
use Rattle.rf_base_document.specs.declared.directions.Dir.{Dir}
use Rattle.rf_base_document.specs.Document.{Doc}
use Rattle.rf_base_lines.specs.Spelled.{Spelled, spelled, spelled_text, spelled_nothing, spelled_both, spelled_behind, spelled_all}
use Rattle.rf_base_lines.specs.Flattenable.{EachIsFlattenable}
use Rattle.rf_base_lines.proofs.FlatRows.{row_flat}
use Rattle.rf_base_lines.proofs.SpelledRows.{both_nothing, nothing_both, all_append, all_one, same_spelled, both_assoc}
use Rattle.rf_lines.specs.Written.{IsBehind, Stretch, stretch_at, longer, line_on, flat_line_on, chars_on, shown, IsPart, IsGrown, IsLineOf}
use Rattle.rf_lines.specs.Nodes.{IsWritten}
use Rattle.rf_lines.specs.declared.writer.Writer.{Writer}
use Rattle.rf_lines.proofs.Texts.{seam, part_empty}

pub behind_same : (a b : Spelled) (o p : Option Spelled) → o ≡ p → IsBehind a b o → IsBehind a b p
behind_same a b o p e h = subst (λ (z : Option Spelled). IsBehind a b z) e h

behind_nothing : (a : Spelled) → IsBehind a a (Some spelled_nothing)
behind_nothing a = sym (both_nothing (Some a))

pub behind_both : (a b c : Spelled) (o p : Option Spelled) → IsBehind a b o → IsBehind b c p → IsBehind a c (spelled_both o p)
behind_both a b c o p h k = both_assoc (Some a) o p ∙ ap (λ (z : Option Spelled). spelled_both z p) h ∙ k

behind_text : (len : ℕ) (how : List Dir) (text more : List ℕ) (words : ℕ) (s : List ℕ) (columns : ℕ) → more ≡ text ++ s →
    IsBehind (spelled len how text words) (spelled (len + columns) how more (words + 1)) (Some (spelled_text s columns))
behind_text len how text more words s columns e =
    same_spelled (len + columns) (len + columns) (how ++ []) how (text ++ s) more (words + 1) (words + 1) refl (append-nil how) (sym e) refl

pub behind_some : (a b : Spelled) (o : Option Spelled) → IsBehind a b o → (l : Spelled) × (o ≡ Some l)
behind_some a b None h = cc
behind_some a b (Some l) h = (l, refl)

-- behind choices
pub behind_turned : (len : ℕ) (how dirs : List Dir) (text : List ℕ) (words : ℕ) (b : Spelled) (o : Option Spelled) → IsBehind (spelled len (how ++ dirs) text words) b o →
    (l : Spelled) × (o ≡ Some l) × IsBehind (spelled len how text words) b (Some (spelled_behind dirs l))
behind_turned len how dirs text words b None h = cc
behind_turned len how dirs text words b (Some l) h = (
  l,
  refl,
  ap (λ (hs : List Dir). Some (spelled (len + l.len) hs (text ++ l.text) (words + l.words))) (sym (append_assoc how dirs l.how)) ∙ h,
)

-- documents in a row
pub written_nothing : (writer : Writer) (flat : Bool) (a b : Stretch) → a ≡ b → IsWritten writer flat a b []
unfolding spelled_all
written_nothing writer flat a b e on =
    let src = writer.tree.now.src.now in
    subst (λ (c : Stretch). IsGrown src flat a c []) e
    (record { stands = on; line = behind_nothing (line_on src a); flat_line = behind_nothing (flat_line_on src a); flattenable = tt })

pub written_as : (writer : Writer) (flat : Bool) (a b : Stretch) (ds es : List Doc) → ((f : Bool) → spelled_all ds f ≡ spelled_all es f) →
    ((l : Spelled) → spelled_all es flat ≡ Some l → EachIsFlattenable ds → EachIsFlattenable es) → IsWritten writer flat a b ds → IsWritten writer flat a b es
written_as writer flat a b ds es e free h on =
    let src = writer.tree.now.src.now in
    let g = h on in
    let line : IsBehind (line_on src a) (line_on src b) (spelled_all es flat) =
    behind_same (line_on src a) (line_on src b) (spelled_all ds flat) (spelled_all es flat) (e flat) g.line in
    let some = behind_some (line_on src a) (line_on src b) (spelled_all es flat) line in
    record {
      stands = g.stands;
      line = line;
      flat_line = behind_same (flat_line_on src a) (flat_line_on src b) (spelled_all ds true) (spelled_all es true) (e true) g.flat_line;
      flattenable = free some.0 some.1 g.flattenable;
    }

-- where all is flat
pub written_flat_as : (writer : Writer) (a b : Stretch) (ds es : List Doc) → spelled_all ds true ≡ spelled_all es true →
    (EachIsFlattenable ds → EachIsFlattenable es) → IsWritten writer true a b ds → IsWritten writer true a b es
written_flat_as writer a b ds es e free h on =
    let src = writer.tree.now.src.now in
    let g = h on in
    record {
      stands = g.stands;
      line = behind_same (line_on src a) (line_on src b) (spelled_all ds true) (spelled_all es true) e g.line;
      flat_line = behind_same (flat_line_on src a) (flat_line_on src b) (spelled_all ds true) (spelled_all es true) e g.flat_line;
      flattenable = free g.flattenable;
    }

pub written_both : (writer : Writer) (flat : Bool) (a b c : Stretch) (ds es : List Doc) → IsWritten writer flat a b ds → IsWritten writer flat b c es → IsWritten writer flat a c (ds ++ es)
written_both writer flat a b c ds es h k on =
    let src = writer.tree.now.src.now in
    let g = h on in
    let m = k g.stands in
    record {
      stands = m.stands;
      line =
          behind_same (line_on src a) (line_on src c) (spelled_both (spelled_all ds flat) (spelled_all es flat)) (spelled_all (ds ++ es) flat) (sym (all_append ds es flat))
          (behind_both (line_on src a) (line_on src b) (line_on src c) (spelled_all ds flat) (spelled_all es flat) g.line m.line);
      flat_line =
          behind_same (flat_line_on src a) (flat_line_on src c) (spelled_both (spelled_all ds true) (spelled_all es true)) (spelled_all (ds ++ es) true) (sym (all_append ds es true))
          (behind_both (flat_line_on src a) (flat_line_on src b) (flat_line_on src c) (spelled_all ds true) (spelled_all es true) g.flat_line m.flat_line);
      flattenable = row_flat ds es g.flattenable m.flattenable;
    }

-- a text that stands in the source behind the stretch
pub written_text : (writer : Writer) (flat : Bool) (old new : Stretch) (end columns : ℕ) (s : List ℕ) (ds : List Doc) →
    new ≡ longer old end columns → IsPart writer.tree.now.src.now old.to end → chars (slice_range writer.tree.now.src.now old.to end) ≡ s →
    ((f : Bool) → spelled_all ds f ≡ Some (spelled_text s columns)) → EachIsFlattenable ds → IsWritten writer flat old new ds
written_text writer flat old new end columns s ds e part are told free on =
    let src = writer.tree.now.src.now in
    let both = seam src old.from old.to end on part in
    let text : chars (slice_range src old.from end) ≡ chars_on src old ++ s = both.1 ∙ ap (λ (t : List ℕ). chars_on src old ++ t) are in
    subst (λ (z : Stretch). IsGrown src flat old z ds) (sym e)
    (record {
      stands = both.0;
      line =
          behind_same (line_on src old) (line_on src (longer old end columns)) (Some (spelled_text s columns)) (spelled_all ds flat) (sym (told flat))
          (behind_text old.len old.how (chars_on src old) (chars (slice_range src old.from end)) old.words s columns text);
      flat_line =
          behind_same (flat_line_on src old) (flat_line_on src (longer old end columns)) (Some (spelled_text s columns)) (spelled_all ds true) (sym (told true))
          (behind_text old.len old.flat_how (chars_on src old) (chars (slice_range src old.from end)) old.words s columns text);
      flattenable = free;
    })

-- on an empty stretch
first_line : (a b : Spelled) (o : Option Spelled) → a ≡ spelled_nothing → IsBehind a b o → o ≡ Some b
first_line a b o e h = nothing_both o ∙ ap (λ (s : Spelled). spelled_both (Some s) o) (sym e) ∙ h

pub written_alone : (writer : Writer) (flat : Bool) (at : ℕ) (old new : Stretch) (d : Doc) (text : List ℕ) → old ≡ stretch_at at → at ≤ length writer.tree.now.src.now →
    text ≡ slice_range writer.tree.now.src.now new.from new.to → IsWritten writer flat old new (d ∷ []) → IsLineOf flat (shown (chars text) new) d
written_alone writer flat at old new d text e within is h =
    let src = writer.tree.now.src.now in
    let empty = part_empty src at within in
    let g : IsGrown src flat (stretch_at at) new (d ∷ []) = subst (λ (s : Stretch). IsWritten writer flat s new (d ∷ [])) e h empty.0 in
    subst (λ (t : List ℕ). IsLineOf flat (shown (chars t) new) d) (sym is)
    (record {
      line =
          sym (all_one d flat)
          ∙ first_line (line_on src (stretch_at at)) (line_on src new) (spelled_all (d ∷ []) flat) (ap (λ (t : List ℕ). spelled 0 [] t 0) empty.1) g.line;
      flat_line =
          sym (all_one d true)
          ∙ first_line (flat_line_on src (stretch_at at)) (flat_line_on src new) (spelled_all (d ∷ []) true) (ap (λ (t : List ℕ). spelled 0 [] t 0) empty.1) g.flat_line;
      flattenable = g.flattenable.0;
    })
