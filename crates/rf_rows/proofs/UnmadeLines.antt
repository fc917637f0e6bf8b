-- Lines of lists that aren't made, as cells and choices are put behind the others.
use Rattle.std.proofs.Common.{◌≡◌, ℕ, ◌+◌, ◌-◌, ◌≤◌, Bool, true, false, List, [], ◌∷◌, ◌++◌, length, take, append_assoc, append-nil, refl, sym, inl, inr, ◌∙◌, ap, ap₂, subst, ◌<◌, Some, slice_get, arith}
use Rattle.std.proofs.lemmas.List.{length-append, drop_at, take_at}
use Rattle.std.specs.List.{slice_range}
use Rattle.std.specs.Str.{chars}
use Rattle.rf_base_document.specs.declared.directions.Dir.{Dir}
use Rattle.rf_base_document.proofs.Graph.{slice_get-added}
use Rattle.rf_rows.specs.declared.cells.Cell.{Cell}
use Rattle.rf_rows.specs.declared.layouts.Layouts.{Layouts}
use Rattle.rf_rows.specs.declared.layouts.Layouts.TheVariants.{Bare, One, Two, Three}
use Rattle.rf_rows.specs.declared.layouts.Layouts.TheVariants as layouts
use Rattle.rf_rows.specs.declared.unmade.ListLine.{ListLine}
use Rattle.rf_rows.specs.declared.unmade.Unmade.{Unmade}
use Rattle.rf_rows.specs.Layouts.{AreLayouts, AreCellLayouts}
use Rattle.rf_base_lines.specs.Spelled.{Spelled, spelled_line}
use Rattle.rf_rows.specs.Unmade.{list_doc, written, IsLineOf, IsKept, IsUnmade, HasLine, HaveLines, IsMade, AllAreMade, turns_of}
use Rattle.rf_rows.proofs.Unfolding.{slice_kept}
use Rattle.rf_rows.proofs.Opened.{cell_is}
use Rattle.std.proofs.Math.Seq.{take-length}
use Rattle.rf_base_document.specs.Document.{Doc}
use Rattle.rf_base_cut.specs.DocumentLines.{OneLineIn}
use Rattle.rf_base_lines.specs.Lengths.{HasLength}
use Rattle.rf_base_lines.proofs.LongTrees.{tree_long}
use Rattle.rf_base_lines.proofs.OneLines.{spelled_one_line_in, spelled_text_is}
use Rattle.rf_style.specs.StyleOf.{seen}
use Rattle.rf_ways.specs.NodeDocuments.{tokens_in, tree_at}
use Rattle.rf_frontier.specs.declared.hows.How.{How}
use Rattle.rf_frontier.specs.declared.hows.HowId.{HowId}
use Rattle.rf_frontier.specs.Ways.{choices_of, KeepsWays}
use Rattle.rf_outline.specs.declared.facts.Line.TheVariants.{Long, Text}
use Rattle.rf_outline.specs.Known.{LineHolds}
use Rattle.rf_rows.specs.declared.pieces.Piece.{Piece}
use Rattle.rf_rows.specs.declared.layouts.Marks.{Marks}
use Rattle.rf_rows.specs.Layouts.{Filled, cell_doc}
use Rattle.rf_rows.specs.Cells.{cell_at, CellsStand}

-- the layouts of pieces
pub made_layouts : (l : Layouts) (n : ℕ) → AreLayouts l n → AreCellLayouts l n
made_layouts Bare n h = h
made_layouts (One a) n h = h
made_layouts (Two a b) n h = h
made_layouts (Three a b c) n h = h
made_layouts (layouts.Unmade u) n h = absurd h

pub made_line : (turns : List Dir) (l : Layouts) (n : ℕ) → AreLayouts l n → HasLine turns l
made_line turns Bare n h = tt
made_line turns (One a) n h = tt
made_line turns (Two a b) n h = tt
made_line turns (Three a b c) n h = tt
made_line turns (layouts.Unmade u) n h = absurd h

pub layouts_are_made : (l : Layouts) (n : ℕ) → AreLayouts l n → IsMade l
layouts_are_made Bare n h = tt
layouts_are_made (One a) n h = tt
layouts_are_made (Two a b) n h = tt
layouts_are_made (Three a b c) n h = tt
layouts_are_made (layouts.Unmade u) n h = absurd h

pub layouts_made : (l : Layouts) (n : ℕ) → IsMade l → AreCellLayouts l n → AreLayouts l n
layouts_made Bare n m h = h
layouts_made (One a) n m h = h
layouts_made (Two a b) n m h = h
layouts_made (Three a b c) n m h = h
layouts_made (layouts.Unmade u) n m h = absurd m

pub made_at : (cs : List Cell) (k : ℕ) (c : Cell) → AllAreMade cs → slice_get cs k ≡ Some c → IsMade c.layouts
unfolding AllAreMade
made_at cs k c all is = all k c is

-- the line of a cell
pub line_at : (cs : List Cell) (turns : List Dir) (k : ℕ) (c : Cell) (u : Unmade) → HaveLines cs turns → slice_get cs k ≡ Some c → c.layouts ≡ layouts.Unmade u → IsUnmade turns u
unfolding HaveLines
line_at cs turns k c u all is kind = subst (λ (l : Layouts). HasLine turns l) kind (all k c is)

-- no cell, and one cell more
pub no_lines : (cs : List Cell) (turns : List Dir) → cs ≡ [] → HaveLines cs turns
unfolding HaveLines
no_lines [] turns none k c is = cc
no_lines (d ∷ cs) turns none k c is = cc

pub lines_more : (cs ds : List Cell) (turns : List Dir) (c : Cell) → HaveLines cs turns → HasLine turns c.layouts → ds ≡ cs ++ c ∷ [] → HaveLines ds turns
unfolding HaveLines
lines_more cs ds turns c all line one k e is =
    elim (slice_get-added cs c k e (ap (λ (l : List Cell). slice_get l k) (sym one) ∙ is)) [
      | inl before ↦ all k e before
      | inr new ↦ subst (λ (x : Cell). HasLine turns x.layouts) new.1 line
    ]

pub none_made : (cs : List Cell) → cs ≡ [] → AllAreMade cs
unfolding AllAreMade
none_made [] none k c is = cc
none_made (d ∷ cs) none k c is = cc

pub made_more : (cs ds : List Cell) (c : Cell) → AllAreMade cs → IsMade c.layouts → ds ≡ cs ++ c ∷ [] → AllAreMade ds
unfolding AllAreMade
made_more cs ds c all made one k e is =
    elim (slice_get-added cs c k e (ap (λ (l : List Cell). slice_get l k) (sym one) ∙ is)) [
      | inl before ↦ all k e before
      | inr new ↦ subst (λ (x : Cell). IsMade x.layouts) new.1 made
    ]

-- choices behind the others
range_kept : (xs more : List Dir) (a n : ℕ) → a + n ≤ length xs → slice_range (xs ++ more) a (a + n) ≡ slice_range xs a (a + n)
range_kept xs more a n within = slice_kept xs more a n within

unmade_kept : (old more : List Dir) (u : Unmade) → IsUnmade old u → IsUnmade (old ++ more) u
unmade_kept old more u h = record {
  within = omega (arith, h.within, length-append old more);
  line = subst (λ (l : List Dir). IsLineOf u.line l (turns_of (old ++ more) u true)) (sym (range_kept old more u.turns u.loose (omega (arith, h.within))))
      (subst (λ (l : List Dir). IsLineOf u.line (turns_of old u false) l) (sym (range_kept old more (u.turns + u.loose) u.flat (omega (arith, h.within)))) h.line);
}

line_kept : (old more : List Dir) (l : Layouts) → HasLine old l → HasLine (old ++ more) l
line_kept old more Bare h = tt
line_kept old more (One a) h = tt
line_kept old more (Two a b) h = tt
line_kept old more (Three a b c) h = tt
line_kept old more (layouts.Unmade u) h = unmade_kept old more u h

pub lines_kept : (cs : List Cell) (old new more : List Dir) → new ≡ old ++ more → HaveLines cs old → HaveLines cs new
unfolding HaveLines
lines_kept cs old new more is all k c here =
    subst (λ (l : List Dir). HasLine l c.layouts) (sym is) (line_kept old more c.layouts (all k c here))

-- the choices of a line that was kept
middle_of : (xs ys zs : List Dir) (a n : ℕ) → a ≡ length xs → n ≡ length ys → slice_range (xs ++ (ys ++ zs)) a (a + n) ≡ ys
middle_of xs ys zs a n first many =
    ap (λ (l : List Dir). take (a + n - a) l) (drop_at xs (ys ++ zs) a (sym first))
    ∙ ap (λ (m : ℕ). take m (ys ++ zs)) (omega (arith, many)) ∙ take_at ys zs (length ys) refl

kept_loose : (old loose flat : List Dir) (a n : ℕ) → a ≡ length old → n ≡ length loose → slice_range (old ++ (loose ++ flat)) a (a + n) ≡ loose
kept_loose old loose flat a n first many = middle_of old loose flat a n first many

kept_flat : (old loose flat : List Dir) (a n : ℕ) → a ≡ length old + length loose → n ≡ length flat → slice_range (old ++ (loose ++ flat)) a (a + n) ≡ flat
kept_flat old loose flat a n first many =
    ap (λ (l : List Dir). slice_range l a (a + n)) (ap (λ (l : List Dir). old ++ (loose ++ l)) (sym (append-nil flat)) ∙ sym (append_assoc old loose (flat ++ [])))
    ∙ middle_of (old ++ loose) flat [] a n (omega (arith, first, length-append old loose)) many

pub kept_unmade : (old new : List Dir) (line : ListLine) (loose flat : List Dir) (u : Unmade) → IsKept old new line loose flat u → IsLineOf line loose flat → IsUnmade new u
kept_unmade old new line loose flat u h is =
    subst (λ (l : List Dir). IsUnmade l u) (sym h.turns_are) (record {
      within = omega (arith, h.first, h.loose_many, h.flat_many, length-append old (loose ++ flat), length-append loose flat);
      line = subst (λ (l : List Dir). IsLineOf u.line l (turns_of all u true)) (sym (kept_loose old loose flat u.turns u.loose h.first h.loose_many))
          (subst (λ (l : List Dir). IsLineOf u.line loose l) (sym (kept_flat old loose flat (u.turns + u.loose) u.flat (omega (arith, h.first, h.loose_many)) h.flat_many))
          (subst (λ (l : ListLine). IsLineOf l loose flat) (sym h.line_is) is));
    })
  where
    all : List Dir
    all = old ++ (loose ++ flat)

-- the line as it is written, where its parts are told one by one
pub written_so : (d : Doc) (flat : Bool) (line : ListLine) (turns : List Dir) (l : Spelled) → spelled_line d flat ≡ Some l →
    line.columns ≡ l.len → turns ≡ l.how → chars line.text.now ≡ l.text → line.words ≡ l.words → spelled_line d flat ≡ Some (written line turns)
written_so d flat line turns l is len how text words = rw (len, how, text, words) is

-- the list's own line, flat or not
pub line_of : (turns : List Dir) (u : Unmade) (flat : Bool) → IsUnmade turns u → spelled_line (list_doc u.line) flat ≡ Some (written u.line (turns_of turns u flat))
line_of turns u false h = h.line.loose_is
line_of turns u true h = h.line.flat_is

-- the list stands on the stack
pub unmade_put : (xs ys : List Doc) (n : ℕ) (m : Marks) (count : ℕ) (r : Filled) (u : Unmade) (line : ListLine) → n ≡ length xs → u.line ≡ line →
    ys ≡ take n xs ++ cell_doc m count r (layouts.Unmade u) ∷ [] → ys ≡ xs ++ list_doc line ∷ []
unfolding cell_doc
unmade_put xs ys n m count r u line all is put =
    put ∙ ap₂ (λ (ds : List Doc) (d : Doc). ds ++ d ∷ []) (ap (λ (k : ℕ). take k xs) all ∙ take-length xs) (ap list_doc is)

-- its document is the cell's
pub unmade_is : (ps : List Piece) (cs : List Cell) (k : ℕ) (c : Cell) (u : Unmade) → CellsStand ps cs → slice_get cs k ≡ Some c → c.layouts ≡ layouts.Unmade u →
    cell_at ps cs k ≡ list_doc u.line
unfolding cell_doc
unmade_is ps cs k c u stand is kind = cell_is ps cs k c (layouts.Unmade u) stand is kind

-- what is known of it
has_length : (line : ListLine) → HasLength (list_doc line)
has_length line =
    tree_long (seen line.placed.style.now) (tokens_in line.placed.tree.now) (tree_at (tokens_in line.placed.tree.now) line.placed.tree.now.nodes line.placed.at.0)
    line.placed.quoted line.placed.role

pub loose_known : (ways : List How) (line : ListLine) (loose flat : List Dir) (way : HowId) → IsLineOf line loose flat → way.0 < length ways → choices_of ways way.0 ≡ loose →
    LineHolds ways (list_doc line) false (Long line.columns way)
loose_known ways line loose flat way h in_ways is =
    (in_ways, subst (λ (how : List Dir). OneLineIn (list_doc line) false line.columns how) (sym is) (spelled_one_line_in (list_doc line) false (written line loose) (has_length line) h.loose_is))

pub flat_known : (ways : List How) (line : ListLine) (loose flat : List Dir) (way : HowId) → IsLineOf line loose flat → way.0 < length ways → choices_of ways way.0 ≡ flat →
    LineHolds ways (list_doc line) true (Text line.columns way)
flat_known ways line loose flat way h in_ways is = (
  in_ways,
  subst (λ (how : List Dir). OneLineIn (list_doc line) true line.columns how) (sym is) (spelled_one_line_in (list_doc line) true (written line flat) (has_length line) h.flat_is),
  spelled_text_is (list_doc line) (written line flat) (has_length line) h.flattenable h.flat_is,
)

-- a way that newer ways keep
pub way_there : (old new : List How) (way : HowId) → KeepsWays old new → way.0 < length old → way.0 < length new
unfolding KeepsWays
way_there old new way keeps less = omega (arith, keeps.0, less)

pub way_same : (old new : List How) (way : HowId) → KeepsWays old new → way.0 < length old → choices_of new way.0 ≡ choices_of old way.0
unfolding KeepsWays
way_same old new way keeps less = keeps.1 way.0 less

-- a list that isn't made is none of rows all of whose cells are made
pub never_made : (cs : List Cell) (k : ℕ) (c : Cell) (u : Unmade) → AllAreMade cs → slice_get cs k ≡ Some c → c.layouts ≡ layouts.Unmade u → ⊥
never_made cs k c u all is kind = subst (λ (l : Layouts). IsMade l) kind (made_at cs k c all is)
