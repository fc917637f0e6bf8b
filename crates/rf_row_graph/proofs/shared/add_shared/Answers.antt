-- The text stands on one line, and each node stands for itself in the graph of them all.
use Rattle.std.proofs.Common.{[], ◌∷◌, refl}
use Rattle.std.specs.Str.{chars}
use Rattle.rf_base_document.specs.Document.{Hard}
use Rattle.rf_base_document.proofs.Document.{IsOneLine-from_test}
use Rattle.rf_doc.proofs.Extending.{extends_keeps, extends_both}
use Rattle.rf_row_graph.proofs.shared.add_shared.Goals as goal

pub text-requires-clause-one_line : goal.text-requires-clause-one_line
unfolding chars
text-requires-clause-one_line c = IsOneLine-from_test (32 ∷ []) refl

pub returns-clause-stand : goal.returns-clause-stand
unfolding chars
returns-clause-stand c =
    let bare = c.in_ok-bare_break.ensures.added.at_end in
    let from_hard = extends_both _ _ _ c.in_ok-hard.ensures.added.at_end bare in
    record {
      space = extends_keeps _ _ (extends_both _ _ _ c.in_ok-newline.ensures.added.at_end from_hard) _ _ c.in_ok-space.ensures.document;
      newline = extends_keeps _ _ from_hard _ _ c.in_ok-newline.ensures.document;
      hard = extends_keeps _ _ bare _ _ c.in_ok-hard.ensures.document;
      bare_break = c.in_ok-bare_break.ensures.document Hard c.in_ok-hard.ensures.document;
    }
