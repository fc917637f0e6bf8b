-- The characters of a text after a write, and a page with a piece more.
use Rattle.std.proofs.Common.{◌≡◌, ℕ, zero, suc, ◌+◌, List, [], ◌∷◌, ◌++◌, String, ap, sym, ◌∙◌, lit<}
use Rattle.std.proofs.Math.ListN.{replicate}
use Rattle.std.specs.Str.{chars, IsAscii}
use Rattle.std.specs.String.{string_bytes}
use Rattle.std.proofs.lemmas.Str.{chars-append, chars-nil, chars-IsAscii, IsUtf8-string_bytes}
use Rattle.rf_base_document.specs.Render.{Piece, piece_text, layout, column_after}
use Rattle.rf_base_document.proofs.Render.{layout-append}
use Rattle.rf_base_document.proofs.Running.{layout-snoc}
use Rattle.rf_walk.specs.Papers.{with_piece}
use Rattle.rf_walk.specs.Extents.{Covers}
use Rattle.rf_render.specs.declared.pages.Page.{Page}
use Rattle.rf_render.specs.Pages.{page_text, Shows}
use Rattle.rf_render.proofs.Spaces.{spaces_ascii}

pub chars_pushed : {Z : Type 0} (old new : String Z) (s : List ℕ) → string_bytes new ≡ string_bytes old ++ s →
    chars (string_bytes new) ≡ chars (string_bytes old) ++ chars s
chars_pushed old new s e = ap chars e ∙ chars-append (string_bytes old) s (IsUtf8-string_bytes old)

-- a line feed and spaces are ASCII
break_ascii : (n : ℕ) → IsAscii (10 ∷ replicate n 32)
break_ascii n zero = lit< tt
break_ascii n (suc i) = spaces_ascii n i

pub chars_broken : {Z : Type 0} (old new : String Z) (n : ℕ) → string_bytes new ≡ string_bytes old ++ (10 ∷ replicate n 32) →
    chars (string_bytes new) ≡ chars (string_bytes old) ++ (10 ∷ replicate n 32)
chars_broken old new n e =
    chars_pushed old new (10 ∷ replicate n 32) e ∙ ap (λ s. chars (string_bytes old) ++ s) (chars-IsAscii (10 ∷ replicate n 32) (break_ascii n))

-- a page with a piece more, whose characters were written
pub wrote : (old new : Page) (piece : ℕ → Piece) (by : ℕ) →
    ((pieces : List Piece) (weight : ℕ) → Covers old.extent pieces weight → Covers new.extent (with_piece pieces piece) (weight + by)) →
    ((column : ℕ) → page_text new ≡ page_text old ++ piece_text (piece column)) →
    (pieces : List Piece) (weight : ℕ) → Shows old pieces weight → Shows new (with_piece pieces piece) (weight + by)
wrote old new piece by gains text ps weight shows =
    let p : Piece = piece (column_after 0 ps) in
    record {
      text = text (column_after 0 ps) ∙ ap (λ l. l ++ piece_text p) shows.text ∙ sym (layout-snoc ps p);
      covers = gains ps weight shows.covers;
    }

-- a page with pieces more, whose characters were written
pub wrote_line : (old new : Page) (s : List ℕ) (pieces line : List Piece) (weight more : ℕ) → Shows old pieces weight → Covers new.extent (pieces ++ line) more → layout line ≡ s →
    page_text new ≡ page_text old ++ s → Shows new (pieces ++ line) more
wrote_line old new s pieces line weight more shows covers is text = record {
  text = text ∙ ap (λ l. l ++ s) shows.text ∙ ap (λ l. layout pieces ++ l) (sym is) ∙ sym (layout-append pieces line);
  covers = covers;
}

-- no piece
pub blank : (page : Page) → string_bytes page.text ≡ [] → Covers page.extent [] 0 → Shows page [] 0
unfolding layout
blank page none covers = record { text = ap chars none ∙ chars-nil; covers = covers }
