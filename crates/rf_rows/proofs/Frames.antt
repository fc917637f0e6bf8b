-- Documents one after another are walked as the document that they are.
use Rattle.std.proofs.Common.{◌≡◌, ℕ, ◌+◌, ◌≤◌, ◌<◌, ◌||◌, ◌==◌, if◌then◌else◌, ◌⊎◌, inl, inr, Bool, true, false, List, [], ◌∷◌, ◌++◌, length, Option, None, Some, slice_get, ap, sym, subst, ◌∙◌, refl, append_assoc, append-nil, arith}
use Rattle.std.proofs.lemmas.Bool.Decides.{nat_tests}
use Rattle.std.proofs.lemmas.List.{nil_from_length}
use Rattle.std.specs.List.{slice_range}
use Rattle.std.specs.Option.{option_map}
use Rattle.rf_base_document.specs.declared.directions.Dir.{Dir}
use Rattle.rf_base_document.specs.declared.directions.Dir.TheVariants.{Left, Right}
use Rattle.rf_base_document.specs.Document.{Doc, Text, Newline, Hard, Nest, Align, Reset, Choice, Charge}
use Rattle.rf_base_document.specs.Sequence.{seq}
use Rattle.rf_base_document.proofs.Sequence.{seq_of_none}
use Rattle.rf_base_file.specs.Shapes.{charged}
use Rattle.rf_base_document.specs.Render.{Piece, Word, Break, Fee, column_after}
use Rattle.rf_base_document.specs.Simple.{simple}
use Rattle.rf_outline.specs.Sequences.{Joined, One, Both, in_order, joined, IsSequence}
use Rattle.rf_walk.specs.declared.walking.Frame.{Frame}
use Rattle.rf_outline.proofs.Sequences.{seq_is_sequence}
use Rattle.rf_walk.specs.Papers.{EndsAt, Gains, GainsChoice, Passes, PassesByChoice}
use Rattle.rf_walk.specs.Walked.{then_walked, deeper, walk_frame, walk_all, newline_piece, Ending, ended, CanGoOn}
use Rattle.rf_walk.proofs.Steps.{text_goes_on, text_too_long, newline_goes_on, newline_too_long, hard_goes_on, hard_too_long, nest_goes_on, align_goes_on, reset_goes_on, flatten_goes_on, charge_goes_on, choice_has_more, choice_goes_on, choice_too_long}
use Rattle.rf_walk.proofs.CoreWalks.{concat_walked}
use Rattle.rf_walk.proofs.Joins.{then_walked-assoc, then_walked-same, then_walked-none, walk_all-snoc}
use Rattle.rf_rows.specs.declared.laying.Spot.{Spot}
use Rattle.rf_rows.specs.declared.layouts.Row.{Row}
use Rattle.rf_rows.specs.declared.layouts.Row.TheVariants.{Dropped, Hanging, Hung, InLine, Lines, InColumn, Columns, Column}
use Rattle.rf_rows.specs.declared.cells.Cell as declared
use Rattle.rf_rows.specs.declared.layouts.Strip.{Strip}
use Rattle.rf_rows.specs.declared.layouts.Inner.{Inner}
use Rattle.rf_rows.specs.declared.layouts.Inner.TheVariants.{Aligned, Nested}
use Rattle.rf_rows.specs.declared.layouts.Marks.{Marks}
use Rattle.rf_flat.specs.Taken.{side_of}
use Rattle.rf_rows.specs.declared.layouts.Layout.{Layout}
use Rattle.rf_rows.specs.declared.pieces.Fill.{Fill}
use Rattle.rf_rows.specs.declared.pieces.Fill.TheVariants as fill
use Rattle.rf_rows.specs.declared.pieces.Piece as rows_piece
use Rattle.rf_rows.specs.Layouts.{flattened, strip_of, inner_docs, strip_docs, unpaid_doc}
use Rattle.rf_rows.specs.Cells.{piece_doc, pieces_of}
use Rattle.rf_rows.specs.Nodes.{strip_length}
use Rattle.rf_rows.specs.declared.laid.LaidRows.{LaidRows}
use Rattle.rf_rows.specs.Laid.{laid_cell, laid_pieces, laid_row, laid_layout, laid_docs}
use Rattle.rf_rows.specs.Laying.{framed, frames_of, MayGoOn, AreLaid, ArePast, MayLay, IsLaid, IsPast, IsPaid}
use Rattle.rf_rows.proofs.Opened.{cell_length}
use Rattle.rf_rows.proofs.Slices.{slice_of_none, get_mapped}
use Rattle.rf_rows.proofs.Splits.{slice_first}
use Rattle.rf_rows.proofs.Strips.{row_is_seq}

-- documents stand for themselves
abbrev pub same : Doc → Doc
same d = d

-- with these choices a walk goes on with other frames, behind which others may wait, and has the ending that it had
pub record GoesOn {P : Type 0} (holds : P → P → List Piece → ℕ → Type 0) (old new : P) (fs : List (Frame Doc))
    (cs : List Dir) (waits : List (Frame Doc) → List (Frame Doc)) (gs : List (Frame Doc)) (left : List Dir) : Type 0 where
  pub on : (blank : P) (others : List (Frame Doc)) (end : Ending) →
      CanGoOn (holds blank old) same (others ++ fs) cs end → CanGoOn (holds blank new) same (waits others ++ gs) left end

-- the same of one document at a spot, in place of one
abbrev pub Becomes : {P : Type 0} → (P → P → List Piece → ℕ → Type 0) → P → P → Spot → Doc → List Dir → Spot → Doc →
    List Dir → Type 0
Becomes holds old new spot d cs inside e left = GoesOn holds old new (framed spot d ∷ []) cs (λ o. o) (framed inside e ∷ []) left

module _ {P : Type 0} {holds : P → P → List Piece → ℕ → Type 0} {old new : P} {fs gs : List (Frame Doc)}
    {cs left : List Dir} where
  -- where the walk has some ending, it has one then
  pub may_go : {waits : List (Frame Doc) → List (Frame Doc)} → GoesOn holds old new fs cs waits gs left →
      MayGoOn holds old fs cs → MayGoOn holds new gs left
  may_go {waits} step may = (may.0, waits may.1, may.2, step.on may.0 may.1 may.2 may.3)

  -- where it is too long then, it was so before
  pub past_from : {waits : List (Frame Doc) → List (Frame Doc)} → GoesOn holds old new fs cs waits gs left →
      ArePast holds new gs left → ArePast holds old fs cs
  past_from {waits} step past = λ blank others end can. past blank (waits others) end (step.on blank others end can)

  -- where these are laid out, so are those before
  pub are_laid : {newer : P} {rest : List Dir} → GoesOn holds old new fs cs (λ o. o) gs left →
      AreLaid holds new newer gs left rest → AreLaid holds old newer fs cs rest
  are_laid step laid = λ blank others end can. laid blank others end (step.on blank others end can)

  -- one step behind another
  pub and_on : {newer : P} {hs : List (Frame Doc)} {waits : List (Frame Doc) → List (Frame Doc)} {rest : List Dir} →
      GoesOn holds old new fs cs (λ o. o) gs left → GoesOn holds new newer gs left waits hs rest →
      GoesOn holds old newer fs cs waits hs rest
  and_on a b = record { on = λ blank others end can. b.on blank others end (a.on blank others end can) }

  -- what waits goes on once these are laid out
  pub then_laid : {newer : P} {hs : List (Frame Doc)} {waits : List (Frame Doc) → List (Frame Doc)}
      {rest : List Dir} → GoesOn holds old new fs cs (λ o. waits o ++ hs) gs left →
      AreLaid holds new newer gs left rest → GoesOn holds old newer fs cs waits hs rest
  then_laid {newer} {hs} {waits} step laid =
      record { on = λ blank others end can. laid blank (waits others ++ hs) end (step.on blank others end can) }

-- the frames of documents in a row
pub frames_append : (spot : Spot) (xs ys : List Doc) → frames_of spot (xs ++ ys) ≡ frames_of spot ys ++ frames_of spot xs
unfolding frames_of
frames_append spot [] ys = sym (append-nil (frames_of spot ys))
frames_append spot (x ∷ xs) ys =
    ap (λ l. l ++ framed spot x ∷ []) (frames_append spot xs ys) ∙ append_assoc (frames_of spot ys) (frames_of spot xs) (framed spot x ∷ [])

-- a walk over frames in a row
pub walk_append : {N : Type 0} (doc : N → Doc) (fs gs : List (Frame N)) (c : ℕ) (cs : List Dir) →
    walk_all doc (fs ++ gs) c cs ≡ then_walked (walk_all doc gs c cs) (λ last left. walk_all doc fs last left)
unfolding walk_all
walk_append doc [] gs c cs = sym (then_walked-none doc (walk_all doc gs c cs))
walk_append doc (x ∷ fs) gs c cs =
    ap (λ o. then_walked o (λ last left. walk_frame doc x last left)) (walk_append doc fs gs c cs)
    ∙ then_walked-assoc (walk_all doc gs c cs) (λ last left. walk_all doc fs last left) (λ last left. walk_frame doc x last left)

one_walk : (spot : Spot) (d : Doc) (c : ℕ) (cs : List Dir) → walk_all same (framed spot d ∷ []) c cs ≡ walk_frame same (framed spot d) c cs
one_walk spot d c cs = walk_all-snoc same [] (framed spot d) c cs ∙ then_walked-none same (walk_frame same (framed spot d) c cs)

joined_walk : (spot : Spot) (t : Joined) (c : ℕ) (cs : List Dir) →
    walk_all same (frames_of spot (in_order t)) c cs ≡ walk_frame same (framed spot (joined t)) c cs
unfolding in_order joined frames_of simple
joined_walk spot (One d) c cs = one_walk spot d c cs
joined_walk spot (Both a b) c cs =
    ap (λ fs. walk_all same fs c cs) (frames_append spot (in_order a) (in_order b))
    ∙ walk_append same (frames_of spot (in_order b)) (frames_of spot (in_order a)) c cs
    ∙ ap (λ o. then_walked o (λ last left. walk_all same (frames_of spot (in_order b)) last left)) (joined_walk spot a c cs)
    ∙ then_walked-same (walk_frame same (framed spot (joined a)) c cs) (λ last left. walk_all same (frames_of spot (in_order b)) last left)
    (λ last left. walk_frame same (framed spot (joined b)) last left) (λ last left. joined_walk spot b last left)
    ∙ sym (concat_walked (simple (joined a) spot.flat) (simple (joined b) spot.flat) c spot.indentation cs)

-- frames that are walked alike
alike_goes_on : (holds : List Piece → ℕ → Type 0) (fs gs hs : List (Frame Doc)) (cs : List Dir) (end : Ending) →
    ((c : ℕ) (l : List Dir) → walk_all same gs c l ≡ walk_all same hs c l) → CanGoOn holds same (fs ++ gs) cs end → CanGoOn holds same (fs ++ hs) cs end
alike_goes_on holds fs gs hs cs end alike can =
    let c : ℕ = column_after 0 can.pieces in
    record {
      pieces = can.pieces;
      weight = can.weight;
      held = can.held;
      ends =
          ap (λ o. ended can.pieces can.weight o)
          (walk_append same fs hs c cs ∙ ap (λ o. then_walked o (λ last left. walk_all same fs last left)) (sym (alike c cs)) ∙ sym (walk_append same fs gs c cs))
          ∙ can.ends;
    }

pub sequence_goes_on : (holds : List Piece → ℕ → Type 0) (spot : Spot) (ds : List Doc) (d : Doc) → IsSequence ds d →
    (fs : List (Frame Doc)) (cs : List Dir) (end : Ending) → CanGoOn holds same (fs ++ framed spot d ∷ []) cs end → CanGoOn holds same (fs ++ frames_of spot ds) cs end
sequence_goes_on holds spot ds d all fs cs end can =
    subst (λ (l : List Doc). CanGoOn holds same (fs ++ frames_of spot l) cs end) all.1
    (alike_goes_on holds fs (framed spot (joined all.0) ∷ []) (frames_of spot (in_order all.0)) cs end
    (λ c l. one_walk spot (joined all.0) c l ∙ sym (joined_walk spot all.0 c l))
    (subst (λ (x : Doc). CanGoOn holds same (fs ++ framed spot x ∷ []) cs end) (sym all.2) can))

-- how many rows stand in one another in a row
abbrev pub depth_of : Row → ℕ
depth_of Hanging = 1
depth_of InLine = 1
depth_of InColumn = 2
depth_of Columns = 1
depth_of _ = 0

-- a hard newline without indentation
abbrev unindented : Spot → Spot
unindented spot = record { flat = spot.flat; indentation = 0 }

-- the parts of a row
pub row_is_none : (laid : LaidRows) (k : ℕ) {c : declared.Cell} (row : Row) (s : Strip) →
    slice_get laid.rows.now.cells.items k ≡ Some c → s ≡ strip_of c.marks c.count row → strip_length s ≡ 0 →
    laid_row laid c row ≡ Text [] 0
row_is_none laid k {c} row s is at none =
    row_is_seq c.marks c.count (laid_pieces laid c) row
    ∙ ap seq (nil_from_length (laid_docs laid c row) (cell_length laid.rows.now.pieces.items laid.rows.now.cells.items k c row laid.rows.now.stand.cells is ∙ ap strip_length (sym at) ∙ none)) ∙ seq_of_none

-- what waits in a row behind the row in it
abbrev pub waiting : LaidRows → declared.Cell → Strip → Spot → List (Frame Doc) → List (Frame Doc)
waiting laid c s spot others = others ++ frames_of spot (slice_range (laid_pieces laid c s.fill) s.tail s.tail_end)

-- what is charged, and what isn't
charge_is : (k : ℕ) (d : Doc) → 0 < k → charged k d ≡ Charge k d
charge_is k d some = let told : (k == 0) ≡ false = grind (arith, nat_tests) in ap (λ (b : Bool). if b then d else Charge k d) told

module _ {P : Type 0} (holds : P → P → List Piece → ℕ → Type 0) where
  -- texts, newlines and hard newlines
  pub text_laid : {old new : P} (spot : Spot) {d : Doc} {cs : List Dir} {len : ℕ} {s : List ℕ} → d ≡ Text s len →
      Gains holds old new (λ column. Word column s len) 1 → IsLaid holds old new spot d cs cs
  text_laid {old} {new} spot {d} {cs} {len} {s} is gains = λ blank others. text_goes_on (holds blank old) (holds blank new) same others (framed spot d) cs len s is (gains blank)

  pub text_past : {old : P} (spot : Spot) {d : Doc} {cs : List Dir} {len : ℕ} {s : List ℕ} → d ≡ Text s len →
      Passes holds old (λ column. Word column s len) 1 → IsPast holds old spot d cs
  text_past {old} spot {d} {cs} {len} {s} is passes = λ blank others. text_too_long (holds blank old) same others (framed spot d) cs len s is (passes blank)

  pub newline_laid : {old new : P} (spot : Spot) {d : Doc} {cs : List Dir} → d ≡ Newline →
      Gains holds old new (newline_piece spot.flat spot.indentation) 1 → IsLaid holds old new spot d cs cs
  newline_laid {old} {new} spot {d} {cs} is gains = λ blank others. newline_goes_on (holds blank old) (holds blank new) same others (framed spot d) cs is (gains blank)

  pub newline_past : {old : P} (spot : Spot) {d : Doc} {cs : List Dir} → d ≡ Newline →
      Passes holds old (newline_piece spot.flat spot.indentation) 1 → IsPast holds old spot d cs
  newline_past {old} spot {d} {cs} is passes = λ blank others. newline_too_long (holds blank old) same others (framed spot d) cs is (passes blank)

  pub hard_laid : {old new : P} (spot : Spot) {d : Doc} {cs : List Dir} → d ≡ Hard →
      Gains holds old new (λ column. Break spot.indentation) 1 → IsLaid holds old new spot d cs cs
  hard_laid {old} {new} spot {d} {cs} is gains = λ blank others. hard_goes_on (holds blank old) (holds blank new) same others (framed spot d) cs is (gains blank)

  pub hard_past : {old : P} (spot : Spot) {d : Doc} {cs : List Dir} → d ≡ Hard →
      Passes holds old (λ column. Break spot.indentation) 1 → IsPast holds old spot d cs
  hard_past {old} spot {d} {cs} is passes = λ blank others. hard_too_long (holds blank old) same others (framed spot d) cs is (passes blank)

  -- a hard newline without indentation
  reset_on : {paper : P} (spot : Spot) {d : Doc} {cs : List Dir} → d ≡ Reset Hard →
      Becomes holds paper paper spot d cs (unindented spot) Hard cs
  reset_on {paper} spot {d} {cs} is = record {
    on = λ blank others. reset_goes_on (holds blank paper) same others (others ++ framed (unindented spot) Hard ∷ []) (framed spot d) (framed (unindented spot) Hard) Hard cs is refl refl refl refl;
  }

  pub bare_laid : {old new : P} (spot : Spot) {d : Doc} {cs : List Dir} → d ≡ Reset Hard →
      Gains holds old new (λ column. Break 0) 1 → IsLaid holds old new spot d cs cs
  bare_laid spot is gains = are_laid (reset_on spot is) (hard_laid (unindented spot) refl gains)

  pub bare_past : {old : P} (spot : Spot) {d : Doc} {cs : List Dir} → d ≡ Reset Hard →
      Passes holds old (λ column. Break 0) 1 → IsPast holds old spot d cs
  bare_past spot is passes = past_from (reset_on spot is) (hard_past (unindented spot) refl passes)

  -- an aligned part, and a nested one
  align_on : (paper : P) {spot inside : Spot} {d a : Doc} {cs : List Dir} → d ≡ Align a →
      EndsAt holds paper inside.indentation → inside.flat ≡ spot.flat →
      Becomes holds paper paper spot d cs inside a cs
  align_on paper {spot} {inside} {d} {a} {cs} is at so = record {
    on = λ blank others. align_goes_on (holds blank paper) same others (others ++ framed inside a ∷ []) (framed spot d) (framed inside a) a inside.indentation cs is refl refl refl so (at blank);
  }

  nest_on : (paper : P) {spot inside : Spot} {d a : Doc} (n : ℕ) {cs : List Dir} → d ≡ Nest n a →
      inside.indentation ≡ deeper spot.indentation n → inside.flat ≡ spot.flat →
      Becomes holds paper paper spot d cs inside a cs
  nest_on paper {spot} {inside} {d} {a} n {cs} is at so = record {
    on = λ blank others. nest_goes_on (holds blank paper) same others (others ++ framed inside a ∷ []) (framed spot d) (framed inside a) n a cs is refl refl at so;
  }

  -- aligned documents in a row, of which there are some
  pub aligned_docs_on : (paper : P) {spot inside : Spot} {d : Doc} (docs : List Doc) {cs : List Dir} →
      d ≡ Align (seq docs) → 0 < length docs → EndsAt holds paper inside.indentation → inside.flat ≡ spot.flat →
      GoesOn holds paper paper (framed spot d ∷ []) cs (λ o. o) (frames_of inside docs) cs
  aligned_docs_on paper {spot} {inside} {d} docs {cs} is some at so = record {
    on = λ blank others end can.
        sequence_goes_on (holds blank paper) inside docs (seq docs) (seq_is_sequence docs some) others cs end
        ((align_on paper is at so).on blank others end can);
  }

  -- a choice goes on with the side that the first direction takes
  choice_on : {old new : P} {spot : Spot} {d a b s : Doc} {cs rest : List Dir} (dir : Dir) → d ≡ Choice a b →
      cs ≡ dir ∷ rest → s ≡ side_of dir a b → GainsChoice holds old new → Becomes holds old new spot d cs spot s rest
  choice_on {old} {new} {spot} {d} {a} {b} {s} {cs} {rest} dir is first side gains = record {
    on = λ blank others. choice_goes_on (holds blank old) (holds blank new) same others (others ++ framed spot s ∷ []) (framed spot d) (framed spot s) a b s cs rest dir is first side refl refl refl refl (gains blank);
  }

  -- the left one
  pub left_on : {old new : P} {spot : Spot} {d a b : Doc} {cs rest : List Dir} {dir : Dir} → d ≡ Choice a b →
      cs ≡ dir ∷ rest → dir ≡ Left → GainsChoice holds old new → Becomes holds old new spot d cs spot a rest
  left_on {a = a} {b = b} {dir = dir} is first side gains = choice_on dir is first (ap (λ x. side_of x a b) (sym side)) gains

  -- the right one
  pub right_on : {old new : P} {spot : Spot} {d a b : Doc} {cs rest : List Dir} {dir : Dir} → d ≡ Choice a b →
      cs ≡ dir ∷ rest → dir ≡ Right → GainsChoice holds old new → Becomes holds old new spot d cs spot b rest
  right_on {a = a} {b = b} {dir = dir} is first side gains = choice_on dir is first (ap (λ x. side_of x a b) (sym side)) gains

  pub choice_past : {old : P} (spot : Spot) {d a b : Doc} {cs rest : List Dir} {dir : Dir} → d ≡ Choice a b →
      cs ≡ dir ∷ rest → PassesByChoice holds old → IsPast holds old spot d cs
  choice_past {old} spot {d} {a} {b} {cs} {rest} {dir} is first passes = λ blank others.
      choice_too_long (holds blank old) same others (framed spot d) a b cs rest dir is first (passes blank)

  pub choice_more : {paper : P} {spot : Spot} {d a b : Doc} {cs : List Dir} → d ≡ Choice a b →
      MayLay holds paper spot d cs → 0 < length cs
  choice_more {paper} {spot} {d} {a} {b} {cs} is may = choice_has_more (holds may.0 paper) same may.1 (framed spot d) a b cs may.2 is may.3

  -- a row goes on with the pieces at its head
  pub row_on : {paper : P} {spot : Spot} {choices : List Dir} (laid : LaidRows) (k : ℕ) {c : declared.Cell}
      (row : Row) (s : Strip) → slice_get laid.rows.now.cells.items k ≡ Some c → s ≡ strip_of c.marks c.count row →
      0 < strip_length s →
      GoesOn holds paper paper (framed spot (laid_row laid c row) ∷ []) choices
      (λ o. waiting laid c s spot o ++ frames_of spot (inner_docs (laid_row laid c) s.inner))
      (frames_of spot (slice_range (laid_pieces laid c fill.Space) s.head s.head_end)) choices
  row_on {paper} {spot} {choices} laid k {c} row s is at some = record {
    on = λ blank others end can.
        subst (λ (l : List (Frame Doc)). CanGoOn (holds blank paper) same l choices end) (frames others)
        (sequence_goes_on (holds blank paper) spot docs whole (all.0, all.1, all.2 ∙ sym (row_is_seq c.marks c.count (laid_pieces laid c) row)) others choices end can);
  }
    where
      whole : Doc
      whole = laid_row laid c row

      docs : List Doc
      docs = laid_docs laid c row

      all : IsSequence docs (seq docs)
      all = seq_is_sequence docs (omega (arith, some, cell_length laid.rows.now.pieces.items laid.rows.now.cells.items k c row laid.rows.now.stand.cells is, ap strip_length at))

      first : List Doc
      first = slice_range (laid_pieces laid c fill.Space) s.head s.head_end

      inner : List Doc
      inner = inner_docs (laid_row laid c) s.inner

      last : List Doc
      last = slice_range (laid_pieces laid c s.fill) s.tail s.tail_end

      frames : (others : List (Frame Doc)) → others ++ frames_of spot docs ≡ (waiting laid c s spot others ++ frames_of spot inner) ++ frames_of spot first
      frames others =
          ap (λ t. others ++ frames_of spot (strip_docs (laid_pieces laid c) (laid_row laid c) t)) (sym at)
          ∙ ap (λ l. others ++ l) (frames_append spot first (inner ++ last) ∙ ap (λ l. l ++ frames_of spot first) (frames_append spot inner last))
          ∙ sym (append_assoc others (frames_of spot last ++ frames_of spot inner) (frames_of spot first))
          ∙ ap (λ l. l ++ frames_of spot first) (sym (append_assoc others (frames_of spot last) (frames_of spot inner)))

  -- a layout that is paid for is a row, aligned
  pub layout_on : (old paper : P) {spot inside : Spot} (laid : LaidRows) (c : declared.Cell) (l : Layout)
      {cs : List Dir} → IsPaid holds old paper l.charge → EndsAt holds paper inside.indentation →
      inside.flat ≡ (l.flat || spot.flat) →
      Becomes holds old paper spot (laid_layout laid c l) cs inside (laid_row laid c l.row) cs
  layout_on old paper {spot} {inside} laid c l {cs} pays at so = and_on (record { on = λ blank. pays spot whole cs blank }) (by_flat l.flat refl) where
    row : Doc
    row = laid_row laid c l.row

    whole : Doc
    whole = unpaid_doc c.marks c.count (laid_pieces laid c) l

    by_flat : (b : Bool) → l.flat ≡ b → Becomes holds paper paper spot whole cs inside row cs
    by_flat false is = align_on paper (ap (λ (b : Bool). flattened b (Align row)) is) at (so ∙ ap (λ (b : Bool). b || spot.flat) is)
    by_flat true is = and_on (record { on = λ blank others. flattens blank others }) (align_on paper refl at (so ∙ ap (λ (b : Bool). b || spot.flat) is)) where
      flat : Spot
      flat = record { flat = true; indentation = spot.indentation }

      flattens : (blank : P) (others : List (Frame Doc)) (end : Ending) →
          CanGoOn (holds blank paper) same (others ++ framed spot whole ∷ []) cs end →
          CanGoOn (holds blank paper) same (others ++ framed flat (Align row) ∷ []) cs end
      flattens blank others = flatten_goes_on (holds blank paper) same others (others ++ framed flat (Align row) ∷ []) (framed spot whole) (framed flat (Align row)) (Align row) cs
          (ap (λ (b : Bool). flattened b (Align row)) is) refl refl refl refl

  pub paid : (old new : P) (k : ℕ) → 0 < k → Gains holds old new (λ column. Fee k) 0 → IsPaid holds old new k
  paid old new k some gains spot d cs blank others end can =
      charge_goes_on (holds blank old) (holds blank new) same others (others ++ framed spot d ∷ []) (framed spot (charged k d)) (framed spot d) k d cs (charge_is k d some) refl refl refl refl (gains blank) end can

  -- a document that is another one
  pub go_as : {paper : P} {spot : Spot} {d e : Doc} {cs : List Dir} → d ≡ e →
      Becomes holds paper paper spot d cs spot e cs
  go_as {paper} {spot} {d} {e} {cs} is =
      record { on = λ blank others end can. subst (λ (x : Doc). CanGoOn (holds blank paper) same (others ++ framed spot x ∷ []) cs end) is can }

  -- the next of documents in a row
  pub next_of : {paper : P} {spot : Spot} (docs : List Doc) {at to : ℕ} {d : Doc} {cs : List Dir} → at < to →
      slice_get docs at ≡ Some d →
      GoesOn holds paper paper (frames_of spot (slice_range docs at to)) cs
      (λ o. o ++ frames_of spot (slice_range docs (at + 1) to)) (framed spot d ∷ []) cs
  unfolding frames_of
  next_of {paper} {spot} docs {at} {to} {d} {cs} less there = record {
    on = λ blank others end can.
        subst (λ (l : List (Frame Doc)). CanGoOn (holds blank paper) same l cs end)
        (ap (λ l. others ++ frames_of spot l) (slice_first docs at to (at + 1) d less refl there)
        ∙ sym (append_assoc others (frames_of spot (slice_range docs (at + 1) to)) (framed spot d ∷ [])))
        can;
  }

  -- the next of the pieces of a cell
  next_on : {paper : P} {spot : Spot} (laid : LaidRows) (c : declared.Cell) (fill : Fill) {at to : ℕ}
      {p : rows_piece.Piece} {cs : List Dir} → at < to →
      slice_get (pieces_of laid.rows.now.pieces.items c) at ≡ Some p →
      GoesOn holds paper paper (frames_of spot (slice_range (laid_pieces laid c fill) at to)) cs
      (λ o. o ++ frames_of spot (slice_range (laid_pieces laid c fill) (at + 1) to))
      (framed spot (piece_doc (laid_cell laid) fill p) ∷ []) cs
  next_on laid c fill {at} less is =
      let told = piece_doc (laid_cell laid) fill in
      next_of (laid_pieces laid c fill) less (get_mapped told (pieces_of laid.rows.now.pieces.items c) at ∙ ap (option_map told) is)

  -- the next behind those that were laid out
  pub next_behind : {old paper : P} {spot : Spot} (laid : LaidRows) (c : declared.Cell) (fill : Fill) (from : ℕ)
      {at to : ℕ} {p : rows_piece.Piece} {cs left : List Dir} →
      GoesOn holds old paper (frames_of spot (slice_range (laid_pieces laid c fill) from to)) cs (λ o. o)
      (frames_of spot (slice_range (laid_pieces laid c fill) at to)) left →
      at < to → slice_get (pieces_of laid.rows.now.pieces.items c) at ≡ Some p →
      GoesOn holds old paper (frames_of spot (slice_range (laid_pieces laid c fill) from to)) cs
      (λ o. o ++ frames_of spot (slice_range (laid_pieces laid c fill) (at + 1) to))
      (framed spot (piece_doc (laid_cell laid) fill p) ∷ []) left
  next_behind laid c fill from start less is = and_on start (next_on laid c fill less is)

  -- no frames
  pub no_frames : (paper : P) (spot : Spot) (ds : List Doc) (cs : List Dir) → ds ≡ [] →
      AreLaid holds paper paper (frames_of spot ds) cs cs
  unfolding frames_of
  no_frames paper spot ds cs is = λ blank others end can.
      subst (λ (l : List (Frame Doc)). CanGoOn (holds blank paper) same l cs end) (ap (λ l. others ++ frames_of spot l) is ∙ append-nil others) can

  pub pieces_end : (paper : P) (spot : Spot) (docs : List Doc) (at to : ℕ) (cs : List Dir) → at ≡ to →
      AreLaid holds paper paper (frames_of spot (slice_range docs at to)) cs cs
  pieces_end paper spot docs at to cs is =
      no_frames paper spot (slice_range docs at to) cs (ap (λ n. slice_range docs at n) (sym is) ∙ slice_of_none docs at)

  -- the row in another row
  inner_on : {paper : P} {spot : Spot} {ds : List Doc} {d : Doc} {cs : List Dir} → ds ≡ d ∷ [] →
      GoesOn holds paper paper (frames_of spot ds) cs (λ o. o) (framed spot d ∷ []) cs
  unfolding frames_of
  inner_on {paper} {spot} {ds} {d} {cs} is =
      record { on = λ blank others end can. subst (λ l. CanGoOn (holds blank paper) same (others ++ frames_of spot l) cs end) is can }

  -- where it is aligned
  pub aligned_on : (paper : P) (spot : Spot) {inside : Spot} (f : Row → Doc) {i : Option Inner} {row : Row}
      {cs : List Dir} → i ≡ Some (Aligned row) → EndsAt holds paper inside.indentation → inside.flat ≡ spot.flat →
      GoesOn holds paper paper (frames_of spot (inner_docs f i)) cs (λ o. o) (framed inside (f row) ∷ []) cs
  aligned_on paper spot f is at so = and_on (inner_on (ap (inner_docs f) is)) (align_on paper refl at so)

  -- where it is nested
  pub nested_on : (paper : P) (spot : Spot) {inside : Spot} (f : Row → Doc) {i : Option Inner} {row : Row}
      {cs : List Dir} → i ≡ Some (Nested row) → inside.indentation ≡ deeper spot.indentation 1 →
      inside.flat ≡ spot.flat →
      GoesOn holds paper paper (frames_of spot (inner_docs f i)) cs (λ o. o) (framed inside (f row) ∷ []) cs
  nested_on paper spot f is at so = and_on (inner_on (ap (inner_docs f) is)) (nest_on paper 1 refl at so)

no_inner : {i : Inner} → None ≡ Some i → ⊥
no_inner e = cc

abbrev row_of_inner : Inner → Row
row_of_inner (Aligned row) = row
row_of_inner (Nested row) = row

abbrev or_dropped : Option Inner → Row
or_dropped None = Dropped
or_dropped (Some i) = row_of_inner i

lower : (i j : Option Inner) (row other : Row) (n : ℕ) → i ≡ j → or_dropped i ≡ row → or_dropped j ≡ other → depth_of row < n → depth_of other < n
lower i j row other n is first second less = subst (λ (r : Row). depth_of r < n) (sym first ∙ ap or_dropped is ∙ second) less

named : (i : Option Inner) (other : Row) → (i ≡ Some (Aligned other)) ⊎ (i ≡ Some (Nested other)) → or_dropped i ≡ other
named i other (inl is) = ap or_dropped is
named i other (inr is) = ap or_dropped is

-- a row in another row isn't there where none is
none_in : {i : Option Inner} {other : Row} → None ≡ i → (i ≡ Some (Aligned other)) ⊎ (i ≡ Some (Nested other)) → ⊥
none_in is (inl a) = no_inner (is ∙ a)
none_in is (inr a) = no_inner (is ∙ a)

pub inner_lower : (m : Marks) (count : ℕ) (row other : Row) (i : Option Inner) → (strip_of m count row).inner ≡ i → (i ≡ Some (Aligned other)) ⊎ (i ≡ Some (Nested other)) →
    depth_of other < depth_of row
inner_lower m count Hanging other i is h = lower (Some (Aligned Hung)) i Hung other 1 is refl (named i other h) (omega arith)
inner_lower m count InLine other i is h = lower (Some (Nested Lines)) i Lines other 1 is refl (named i other h) (omega arith)
inner_lower m count InColumn other i is h = lower (Some (Nested Columns)) i Columns other 2 is refl (named i other h) (omega arith)
inner_lower m count Columns other i is h = lower (Some (Aligned Column)) i Column other 1 is refl (named i other h) (omega arith)
inner_lower m count _ other i is h = absurd (none_in is h)

pub depth_small : (row : Row) → depth_of row ≤ 2
depth_small Dropped = omega arith
depth_small Hanging = omega arith
depth_small Hung = omega arith
depth_small InLine = omega arith
depth_small Lines = omega arith
depth_small InColumn = omega arith
depth_small Columns = omega arith
depth_small Column = omega arith
