-- An extent with pieces more.
use Rattle.std.proofs.Common.{◌≡◌, ℕ, ◌+◌, ◌*◌, ◌<◌, ◌≤◌, inl, List, [], ◌∷◌, ◌++◌, length, length-append, ap, refl, sym, ◌∙◌, arith}
use Rattle.std.proofs.lemmas.List.{length-replicate}
use Rattle.rf_base_document.specs.declared.limits.TheConstants.{LAYOUT_LIMIT}
use Rattle.rf_base_document.specs.Render.{Piece, Break, Fee, piece_text, layout, column_after}
use Rattle.rf_base_document.proofs.Running.{layout-snoc, column_after-snoc, column_after-append}
use Rattle.rf_walk.specs.declared.extents.Extent.{Extent}
use Rattle.rf_walk.specs.Papers.{IsPastLimits, with_piece}
use Rattle.rf_walk.specs.Extents.{Covers, Weighed, HasRoom}
use Rattle.rf_walk.proofs.Joins.{layout_one, layout_length}

-- an extent with pieces more, after their weight and their characters were counted
pub covered : (old mid room new : Extent) (ps qs : List Piece) (weight by count : ℕ) → Covers old ps weight → Weighed old by mid → HasRoom mid count room →
    new.characters ≡ room.characters → new.weight ≡ room.weight → new.column ≡ column_after (column_after 0 ps) qs → count ≡ length (layout qs) →
    new.column ≤ 2 * room.characters → Covers new (ps ++ qs) (weight + by)
covered old mid room new ps qs weight by count covers weighed roomy characters weight_is column size near = record {
  counted = omega (arith, layout_length ps qs, covers.counted, roomy.characters, weighed.characters, characters, size);
  weighed = omega (arith, covers.weighed, weighed.weight, roomy.weight, weight_is);
  ends = column ∙ sym (column_after-append 0 ps qs);
  short = omega (arith, roomy.short, characters);
  light = omega (arith, weighed.light, roomy.weight, weight_is);
  near = omega (arith, characters, near);
}

-- a break's characters, and the column that it ends at
pub break_length : (indentation : ℕ) → 1 + indentation ≡ length (layout (Break indentation ∷ []))
break_length indentation =
    let one : length (layout (Break indentation ∷ [])) ≡ length (piece_text (Break indentation)) = ap (λ (l : List ℕ). length l) (layout_one (Break indentation)) in
    omega (arith, one, length-replicate {A = ℕ} indentation 32)

pub break_ends : (column indentation : ℕ) → indentation ≡ column_after column (Break indentation ∷ [])
unfolding column_after
break_ends column indentation = refl

-- no piece
pub none_covered : (extent : Extent) → extent.characters ≡ 0 → extent.weight ≡ 0 → extent.column ≡ 0 → Covers extent [] 0
unfolding layout column_after
none_covered extent characters weight column = record {
  counted = characters;
  weighed = weight;
  ends = column;
  short = omega arith;
  light = omega arith;
  near = omega arith;
}

-- a line ends at a column of at most two for each character
pub line_near : (old mid room : Extent) (ps : List Piece) (weight by count len n : ℕ) → Covers old ps weight → Weighed old by mid → HasRoom mid count room → len ≤ 2 * n → count ≡ n →
    old.column + len ≤ 2 * room.characters
line_near old mid room ps weight by count len n covers weighed roomy few is = omega (arith, covers.near, weighed.characters, roomy.characters)

-- too many characters with pieces more
pub past : (old : Extent) (ps qs : List Piece) (weight by count : ℕ) → Covers old ps weight → count ≡ length (layout qs) → LAYOUT_LIMIT < old.characters + count →
    IsPastLimits (ps ++ qs) (weight + by)
past old ps qs weight by count covers size many = inl (omega (arith, many, layout_length ps qs, covers.counted, size))

-- the characters with a charge more
with_piece_length : (ps : List Piece) (p : Piece) → length (layout (ps ++ p ∷ [])) ≡ length (layout ps) + length (piece_text p)
with_piece_length ps p = ap (λ (l : List ℕ). length l) (layout-snoc ps p) ∙ length-append (layout ps) (piece_text p)

-- a charge more
pub charged : (extent : Extent) (k : ℕ) (ps : List Piece) (weight : ℕ) → Covers extent ps weight → Covers extent (with_piece ps (λ column. Fee k)) (weight + 0)
charged extent k ps weight covers = record {
  counted = omega (arith, covers.counted, with_piece_length ps (Fee k));
  weighed = omega (arith, covers.weighed);
  ends = covers.ends ∙ sym (column_after-snoc 0 ps (Fee k));
  short = covers.short;
  light = covers.light;
  near = covers.near;
}
