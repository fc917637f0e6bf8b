-- A resolution has as many texts and newlines as its layout has words and breaks.
use Rattle.std.proofs.Common.{◌≡◌, ℕ, Bool, sym, Some}
use Rattle.rf_base_document.specs.Document.{Doc}
use Rattle.rf_base_document.specs.Render.{Laid, render}
use Rattle.rf_base_document.specs.Picks.{leaves_of, marks_of}
use Rattle.rf_base_document.proofs.Running.{lays_out}

pub leaves_marks : (e : Doc) (c i : ℕ) (flat : Bool) (whole : Laid) → render e c i flat ≡ Some whole →
    leaves_of e ≡ marks_of whole.pieces
leaves_marks e c i flat whole h = sym (lays_out e c i flat whole h).marks
