-- The lines so far, and those that are left, are the lines of the text.
use Rattle.std.proofs.Common.{◌≡◌, ◌==◌, ◌≤◌, ◌+◌, ◌*◌, List, ◌++◌, length}
use denote.Text.{Utf8}
use denote.Shadow.{shadow}
use Rattle.std.specs.Str.{chars}
use Rattle.std.specs.List.{slice_split}
use Rattle.rf_base_document.specs.Document.{Doc}
use Rattle.rf_base_grammar.specs.Itemised.{line_ends}
use Rattle.rf_base_file.specs.Rows.{lines_docs}
use Rattle.rf_rows.specs.Sizes.{rows_size}
use Rattle.rf_rows.specs.Puts.{Puts}
use Rattle.rf_slot_rows.proofs.items.put_lines.Given as goal

abbrev pub invariant-loop-line : goal.invariant-loop-line
invariant-loop-line l =
    record {
      utf8 : shadow (Utf8 l.rest);
      short : length l.rest ≤ 4194304;
      grown : rows_size l.rows + 8 * line_ends (chars l.rest) ≤ rows_size l.fn.rows + 8 * line_ends (chars l.text);
      written : (docs : List Doc) × Puts l.fn.rows l.rows docs
          × (lines_docs l.columns (slice_split (λ c. c == 10) (chars l.text)) ≡ docs ++ lines_docs l.columns (slice_split (λ c. c == 10) (chars l.rest)));
    }

abbrev pub decreases-loop-line : goal.decreases-loop-line
decreases-loop-line l = length l.rest
