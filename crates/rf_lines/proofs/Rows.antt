-- What is written between the brackets of a list, and the list.
use Rattle.std.proofs.Common.{◌≡◌, ℕ, Bool, true, false, Option, None, Some, List, [], ◌∷◌, ◌++◌, append_assoc, length, refl, sym, ◌∙◌, ap, subst}
use Rattle.std.specs.Prelude.{leb, if◌then◌else◌}
use Rattle.rf_base_document.specs.declared.directions.Dir.{Dir}
use Rattle.rf_base_document.specs.declared.directions.Dir.TheVariants.{Left}
use Rattle.rf_base_document.specs.Document.{Doc}
use Rattle.rf_base_grammar.specs.Token.{Token}
use Rattle.rf_base_tree.specs.declared.separators.Want.{Want}
use Rattle.rf_base_tree.specs.declared.separators.Want.TheVariants as want
use Rattle.rf_base_file.specs.declared.shapes.Shape.{Shape}
use Rattle.rf_base_file.specs.declared.shapes.Way.{Way}
use Rattle.rf_base_file.specs.Rows.{Part, mark_doc, gap_docs, prefixed_doc, Step, step, steps_docs, steps_last, steps_wanting, inner_docs}
use Rattle.rf_base_file.specs.FileDocument.{list_doc}
use Rattle.rf_base_lines.specs.Spelled.{Spelled, spelled, spelled_both, spelled_behind, spelled_line, spelled_all}
use Rattle.rf_base_lines.specs.Lists.{between_docs, EachMayBreak, PartsMayBreak, BreaksWhere, MayBreak, IsUncharged, Turns, turns, turns_unless_flat, may_be_one_line, turns_of}
use Rattle.rf_base_lines.specs.Flattenable.{EachIsFlattenable, PartsAreFlattenable}
use Rattle.rf_base_lines.proofs.FlatRows.{prefixed_flat}
use Rattle.rf_base_lines.proofs.FlatShapes.{list_flat}
use Rattle.rf_base_lines.proofs.SpelledRows.{all_append, all_one, prefixed_spelled}
use Rattle.rf_base_lines.proofs.SpelledSteps.{inner_first}
use Rattle.rf_base_lines.proofs.SpelledShapes.{lists_spelled}
use Rattle.rf_lines.specs.Written.{Stretch, spaced, MayStand, IsBehind, turned, line_on, flat_line_on, flat_dirs}
use Rattle.rf_lines.specs.Nodes.{IsWritten, WritesPart, WritesParts}
use Rattle.rf_lines.specs.declared.writer.Writer.{Writer}
use Rattle.rf_lines.proofs.Behind.{behind_same, behind_both, behind_some, behind_turned, written_nothing, written_as, written_both}

-- a gap and a part, and what is behind them
pub step_written : (writer : Writer) (flat : Bool) (a b c : Stretch) (gap : List Doc) (d : Doc) (rest : List Doc) →
    IsWritten writer flat a b (gap ++ d ∷ []) → IsWritten writer flat b c rest → IsWritten writer flat a c (gap ++ d ∷ rest)
step_written writer flat a b c gap d rest h k =
    subst (λ (ds : List Doc). IsWritten writer flat a c ds) (append_assoc gap (d ∷ []) rest) (written_both writer flat a b c (gap ++ d ∷ []) rest h k)

-- a gap, and a part behind it
pub part_written : (writer : Writer) (ts : List Token) (before first : ℕ) (w : Want) (p : Part) (flat : Bool) (a b c : Stretch) (last : ℕ) → first ≡ p.first → MayStand ts before first w →
    IsWritten writer flat a b (gap_docs ts before first (spaced w)) → last ≡ p.last → IsWritten writer flat b c (p.doc ∷ []) → WritesPart writer ts before w p flat a c last
part_written writer ts before first w p flat a b c last same may gap ends doc = (
  subst (λ (n : ℕ). MayStand ts before n w) same may,
  ends,
  written_both writer flat a b c (gap_docs ts before p.first (spaced w)) (p.doc ∷ []) (subst (λ (n : ℕ). IsWritten writer flat a b (gap_docs ts before n (spaced w))) same gap) doc,
)

-- no part, and a part and others behind it
pub parts_none : (writer : Writer) (ts : List Token) (before : ℕ) (flat : Bool) (page : Stretch) → WritesParts writer ts before [] flat page page before
unfolding EachMayBreak steps_last steps_docs
parts_none writer ts before flat page = (tt, refl, written_nothing writer flat page page refl)

pub parts_more : (writer : Writer) (ts : List Token) (before : ℕ) (p : Part) (parts : List Part) (flat : Bool) (a b c : Stretch) (end last : ℕ) →
    WritesPart writer ts before want.Line p flat a b end → WritesParts writer ts end parts flat b c last → WritesParts writer ts before (p ∷ parts) flat a c last
unfolding EachMayBreak steps_last steps_docs
parts_more writer ts before p parts flat a b c end last first others =
    let rest = subst (λ (n : ℕ). WritesParts writer ts n parts flat b c last) first.1 others in (
      (first.0, rest.0),
      rest.1,
      step_written writer flat a b c (gap_docs ts before p.first want.Space) p.doc (steps_docs ts p.last (steps_wanting want.Space parts)) first.2 rest.2,
    )

-- parts, and one behind them
pub parts_end : (writer : Writer) (ts : List Token) (before : ℕ) (parts : List Part) (p : Part) (flat : Bool) (a b c : Stretch) (mid last : ℕ) →
    WritesParts writer ts before parts flat a b mid → WritesPart writer ts mid want.Line p flat b c last → WritesParts writer ts before (parts ++ p ∷ []) flat a c last
unfolding EachMayBreak steps_last steps_docs
parts_end writer ts before parts p flat a b c mid last first end =
    let spaces : List Step = steps_wanting want.Space parts in
    let behind = subst (λ (n : ℕ). WritesPart writer ts n want.Line p flat b c last) first.1 end in
    let ends = end_at before parts in (
      may_at before parts first.0 behind.0,
      behind.1 ∙ sym ends.0,
      subst (λ (ds : List Doc). IsWritten writer flat a c ds) (sym ends.1) (written_both writer flat a b c (steps_docs ts before spaces) (gap_docs ts (steps_last before spaces) p.first want.Space ++ p.doc ∷ []) first.2 behind.2),
    )
  where
    may_at : (n : ℕ) (ps : List Part) → EachMayBreak ts n ps → MayBreak ts (steps_last n (steps_wanting want.Space ps)) p.first → EachMayBreak ts n (ps ++ p ∷ [])
    may_at n [] h k = (k, tt)
    may_at n (q ∷ ps) h k = (h.0, may_at q.last ps h.1 k)

    end_at : (n : ℕ) (ps : List Part) → (steps_last n (steps_wanting want.Space (ps ++ p ∷ [])) ≡ p.last)
        × (steps_docs ts n (steps_wanting want.Space (ps ++ p ∷ []))
        ≡ steps_docs ts n (steps_wanting want.Space ps) ++ (gap_docs ts (steps_last n (steps_wanting want.Space ps)) p.first want.Space ++ p.doc ∷ []))
    end_at n [] = (refl, refl)
    end_at n (q ∷ ps) =
        let rest = end_at q.last ps in (
          rest.0,
          ap (λ (ds : List Doc). gap_docs ts n q.first want.Space ++ q.doc ∷ ds) rest.1
              ∙ sym (append_assoc (gap_docs ts n q.first want.Space) (q.doc ∷ steps_docs ts q.last (steps_wanting want.Space ps)) (gap_docs ts (steps_last q.last (steps_wanting want.Space ps)) p.first want.Space ++ p.doc ∷ [])),
        )

-- what stands between brackets: the first, the others, and the gap before the closer
pub between_written : (writer : Writer) (ts : List Token) (opener : ℕ) (p : Part) (others : List Part) (closer : ℕ) (flat : Bool) (a b c d : Stretch) →
    IsWritten writer flat a b (gap_docs ts opener p.first want.Nothing ++ p.doc ∷ []) →
    IsWritten writer flat b c (steps_docs ts p.last (steps_wanting want.Space others)) →
    IsWritten writer flat c d (gap_docs ts (steps_last p.last (steps_wanting want.Space others)) closer want.Nothing) →
    IsWritten writer flat a d (between_docs ts opener (p ∷ others) closer)
between_written writer ts opener p others closer flat a b c d first rest ends =
    let steps : List Step = steps_wanting want.Space others in
    let gap : List Doc = gap_docs ts (steps_last p.last steps) closer want.Nothing in
    let both : IsWritten writer flat b d (inner_docs ts p.last steps closer) = written_both writer flat b c d (steps_docs ts p.last steps) gap rest ends in
    subst (λ (ds : List Doc). IsWritten writer flat a d ds) (sym (inner_first ts opener (step want.Nothing p) steps closer))
    (step_written writer flat a b d (gap_docs ts opener p.first want.Nothing) p.doc (inner_docs ts p.last steps closer) first both)

-- a list's line: its opener, its choices, what stands between its brackets, and its closer
list_line : (ts : List Token) (w : Way) (opener : ℕ) (parts : List Part) (closer : ℕ) (flat breaks : Bool) (t : Turns) (a b c d : Spelled) →
    IsUncharged w.charges → PartsMayBreak ts parts → BreaksWhere breaks ts opener parts closer → turns_of w.shape (length parts) flat breaks ≡ Some t →
    IsBehind a b (spelled_all (mark_doc ts opener ∷ []) flat) →
    IsBehind (spelled b.len (b.how ++ t.dirs) b.text b.words) c (spelled_all (between_docs ts opener parts closer) t.flat) →
    IsBehind c d (spelled_all (mark_doc ts closer ∷ []) flat) → IsBehind a d (spelled_all (list_doc ts w opener parts closer ∷ []) flat)
list_line ts w opener parts closer flat breaks t a b c d free may none turns begins inside ends =
    let first : Option Spelled = spelled_line (mark_doc ts opener) flat in
    let last : Option Spelled = spelled_line (mark_doc ts closer) flat in
    let line = behind_turned b.len b.how t.dirs b.text b.words c (spelled_all (between_docs ts opener parts closer) t.flat) inside in
    let body : Option Spelled = Some (spelled_behind t.dirs line.0) in
    behind_same a d (spelled_both first (spelled_both body last)) (spelled_all (list_doc ts w opener parts closer ∷ []) flat)
    (sym (all_one (list_doc ts w opener parts closer) flat ∙ lists_spelled ts w opener parts closer flat breaks t line.0 free may none turns line.1))
    (behind_both a b d first (spelled_both body last) (behind_same a b (spelled_all (mark_doc ts opener ∷ []) flat) first (all_one (mark_doc ts opener) flat) begins)
    (behind_both b c d body last line.2 (behind_same c d (spelled_all (mark_doc ts closer ∷ []) flat) last (all_one (mark_doc ts closer) flat) ends)))

-- parts between brackets are flattenable where all is
pub each_before : (ds es : List Doc) → EachIsFlattenable (ds ++ es) → EachIsFlattenable ds
each_before [] es h = tt
each_before (d ∷ ds) es h = (h.0, each_before ds es h.1)

pub each_behind : (ds es : List Doc) → EachIsFlattenable (ds ++ es) → EachIsFlattenable es
each_behind [] es h = h
each_behind (d ∷ ds) es h = each_behind ds es h.1

others_flat : (ts : List Token) (before : ℕ) (parts : List Part) → EachIsFlattenable (steps_docs ts before (steps_wanting want.Space parts)) → PartsAreFlattenable parts
unfolding steps_docs
others_flat ts before [] h = tt
others_flat ts before (p ∷ parts) h =
    let rest : List Doc = steps_docs ts p.last (steps_wanting want.Space parts) in
    let behind = each_behind (gap_docs ts before p.first want.Space) (p.doc ∷ rest) h in
    (behind.0, others_flat ts p.last parts behind.1)

parts_flat : (ts : List Token) (opener : ℕ) (parts : List Part) (closer : ℕ) → EachIsFlattenable (between_docs ts opener parts closer) → PartsAreFlattenable parts
parts_flat ts opener [] closer h = tt
parts_flat ts opener (p ∷ others) closer h =
    let steps : List Step = steps_wanting want.Space others in
    let gap : List Doc = gap_docs ts (steps_last p.last steps) closer want.Nothing in
    let all = subst (λ (ds : List Doc). EachIsFlattenable ds) (inner_first ts opener (step want.Nothing p) steps closer) h in
    let behind = each_behind (gap_docs ts opener p.first want.Nothing) (p.doc ∷ inner_docs ts p.last steps closer) all in
    (behind.0, others_flat ts p.last others (each_before (steps_docs ts p.last steps) gap behind.1))

-- a list that has a layout on one line has one where all is flat
turns_if_flat : (shape : Shape) (n : ℕ) (few may flat breaks : Bool) (t : Turns) →
    (if few then Some (turns [] flat) else if may then Some (if flat then turns (Left ∷ []) true else turns_unless_flat shape n breaks) else None) ≡ Some t →
    (if few then Some (turns [] true) else if may then Some (turns (Left ∷ []) true) else None) ≡ Some (turns (if few then [] else Left ∷ []) true)
turns_if_flat shape n false false flat breaks t e = cc
turns_if_flat shape n _ _ flat breaks t e = refl

flat_turns : (shape : Shape) (n : ℕ) (flat breaks : Bool) (t : Turns) → turns_of shape n flat breaks ≡ Some t → turns_of shape n true breaks ≡ Some (turns (flat_dirs n) true)
flat_turns shape n flat breaks t e = turns_if_flat shape n (leb n 1) (may_be_one_line shape) flat breaks t e

-- a list
pub list_written : (writer : Writer) (ts : List Token) (w : Way) (opener : ℕ) (parts : List Part) (closer : ℕ) (flat breaks : Bool) (t : Turns) (flats : List Dir) (a b c d : Stretch) →
    IsUncharged w.charges → PartsMayBreak ts parts → BreaksWhere breaks ts opener parts closer → turns_of w.shape (length parts) flat breaks ≡ Some t → flats ≡ flat_dirs (length parts) →
    IsWritten writer flat a b (mark_doc ts opener ∷ []) → IsWritten writer t.flat (turned b t.dirs flats) c (between_docs ts opener parts closer) →
    IsWritten writer flat c d (mark_doc ts closer ∷ []) → IsWritten writer flat a d (list_doc ts w opener parts closer ∷ [])
list_written writer ts w opener parts closer flat breaks t flats a b c d free may none layout same begins inside ends on =
    let src = writer.tree.now.src.now in
    let g = begins on in
    let i = inside g.stands in
    let e = ends i.stands in
    let opens = behind_some (line_on src a) (line_on src b) (spelled_all (mark_doc ts opener ∷ []) flat) g.line in
    let inner = behind_some (line_on src (turned b t.dirs flats)) (line_on src c) (spelled_all (between_docs ts opener parts closer) t.flat) i.line in
    let closes = behind_some (line_on src c) (line_on src d) (spelled_all (mark_doc ts closer ∷ []) flat) e.line in
    let all : turns_of w.shape (length parts) true breaks ≡ Some (turns flats true) =
    flat_turns w.shape (length parts) flat breaks t layout ∙ ap (λ (dirs : List Dir). Some (turns dirs true)) (sym same) in
    record {
      stands = e.stands;
      line = list_line ts w opener parts closer flat breaks t (line_on src a) (line_on src b) (line_on src c) (line_on src d) free may none layout g.line i.line e.line;
      flat_line =
          list_line ts w opener parts closer true breaks (turns flats true) (flat_line_on src a) (flat_line_on src b) (flat_line_on src c) (flat_line_on src d) free may none all
          g.flat_line i.flat_line e.flat_line;
      flattenable = (
        list_flat ts w opener parts closer flat breaks t opens.0 inner.0 closes.0 free layout (parts_flat ts opener parts closer i.flattenable)
            (sym (all_one (mark_doc ts opener) flat) ∙ opens.1) inner.1 (sym (all_one (mark_doc ts closer) flat) ∙ closes.1),
        tt,
      );
    }

-- a prefix: its mark, its gap and its datum
prefixed_all : (ts : List Token) (item : ℕ) (inner : Part) (f : Bool) →
    spelled_all (mark_doc ts item ∷ (gap_docs ts item inner.first want.Nothing ++ inner.doc ∷ [])) f ≡ spelled_all (prefixed_doc ts item [] inner ∷ []) f
unfolding spelled_all
prefixed_all ts item inner f =
    let gap : List Doc = gap_docs ts item inner.first want.Nothing in
    let mark : Option Spelled = spelled_line (mark_doc ts item) f in
    ap (spelled_both mark) (all_append gap (inner.doc ∷ []) f ∙ ap (spelled_both (spelled_all gap f)) (all_one inner.doc f))
    ∙ sym (prefixed_spelled ts item inner f) ∙ sym (all_one (prefixed_doc ts item [] inner) f)

pub prefixed_written : (writer : Writer) (ts : List Token) (item : ℕ) (inner : Part) (flat : Bool) (a b c d : Stretch) →
    IsWritten writer flat a b (mark_doc ts item ∷ []) → IsWritten writer flat b c (gap_docs ts item inner.first want.Nothing) →
    IsWritten writer flat c d (inner.doc ∷ []) → IsWritten writer flat a d (prefixed_doc ts item [] inner ∷ [])
prefixed_written writer ts item inner flat a b c d mark gap datum =
    let docs : List Doc = gap_docs ts item inner.first want.Nothing in
    written_as writer flat a d (mark_doc ts item ∷ (docs ++ inner.doc ∷ [])) (prefixed_doc ts item [] inner ∷ []) (prefixed_all ts item inner)
    (λ l some all. (prefixed_flat ts item inner flat l (each_behind docs (inner.doc ∷ []) all.1).0 (sym (all_one (prefixed_doc ts item [] inner) flat) ∙ some), tt))
    (written_both writer flat a b d (mark_doc ts item ∷ []) (docs ++ inner.doc ∷ []) mark (written_both writer flat b c d docs (inner.doc ∷ []) gap datum))

-- what stands between the brackets of a list: nothing, or parts
pub body_none : (writer : Writer) (ts : List Token) (opener closer : ℕ) (parts : List Part) (flat : Bool) (page : Stretch) → parts ≡ [] →
    PartsMayBreak ts parts × IsWritten writer flat page page (between_docs ts opener parts closer)
body_none writer ts opener closer parts flat page e =
    subst (λ (ps : List Part). PartsMayBreak ts ps × IsWritten writer flat page page (between_docs ts opener ps closer)) (sym e)
    (tt, written_nothing writer flat page page refl)

pub body_some : (writer : Writer) (ts : List Token) (opener closer : ℕ) (all : List Part) (p : Part) (parts : List Part) (flat : Bool) (a b c d : Stretch) (begun last : ℕ) → all ≡ p ∷ parts →
    WritesPart writer ts opener want.Nothing p flat a b begun → WritesParts writer ts begun parts flat b c last → IsWritten writer flat c d (gap_docs ts last closer want.Nothing) →
    PartsMayBreak ts all × IsWritten writer flat a d (between_docs ts opener all closer)
body_some writer ts opener closer all p parts flat a b c d begun last e first others gap =
    let rest = subst (λ (n : ℕ). WritesParts writer ts n parts flat b c last) first.1 others in
    subst (λ (ps : List Part). PartsMayBreak ts ps × IsWritten writer flat a d (between_docs ts opener ps closer)) (sym e) (
      rest.0,
      between_written writer ts opener p parts closer flat a b c d first.2 rest.2
          (subst (λ (n : ℕ). IsWritten writer flat c d (gap_docs ts n closer want.Nothing)) rest.1 gap),
    )
