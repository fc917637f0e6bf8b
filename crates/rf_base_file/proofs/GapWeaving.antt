-- What is drawn of a file's strands is woven of its items.
use Rattle.std.proofs.Common.{◌≡◌, ℕ, zero, suc, ◌+◌, ◌||◌, not, if◌then◌else◌, inl, inr, Bool, true, false, List, [], ◌∷◌, ◌++◌, replicate, refl, sym, ap, ap₂, ◌∙◌, subst, append_assoc, append-nil, arith, eqb}
use Rattle.std.proofs.lemmas.Bool.{or_parts, both_ways, eqb-true}
use Rattle.std.specs.List.{slice_split, join_with_byte}
use Rattle.std.proofs.lemmas.List.Splits.{join_with_byte-slice_split}
use Rattle.rf_base_grammar.specs.Token.{Token, is_line_comment}
use Rattle.rf_base_grammar.specs.Woven.{Needs, ends_line, trails, EndsLines, MayShareLine, KeepsLine, MayPart, WovenBehind, Woven}
use Rattle.rf_base_tree.specs.Cut.{needs_gap, needs_break}
use Rattle.rf_base_tree.proofs.Separating.{needs_told}
use Rattle.rf_base_file.specs.Signature.{Strand, Exact, Tight, Loose, Firm, IsBreak, IsDrawn, Drawn, one_space}
use Rattle.rf_base_file.specs.Strands.{line_end, gap_strands, strands_of_lines, spelling_strands, strands_behind, file_strands}
use Rattle.rf_base_file.proofs.DrawnTexts.{Drawn-cut, one_drawn}

-- what is drawn of lines' strands is the lines with a line end between neighbours
lines_drawn : (s : List ℕ) (lines : List (List ℕ)) (text : List ℕ) → Drawn (strands_of_lines (s ∷ lines)) text →
    text ≡ join_with_byte 10 (s ∷ lines)
unfolding Drawn
lines_drawn s [] text h = h.2 ∙ ap₂ (λ x y. x ++ y) h.3 h.4 ∙ append-nil s
lines_drawn s (next ∷ lines) text h =
    let end = h.4 in
    h.2 ∙ ap₂ (λ x y. x ++ y) h.3 (end.2 ∙ ap₂ (λ x y. x ++ y) end.3 (lines_drawn next lines end.1 end.4))

any_lines_drawn : (lines : List (List ℕ)) (text : List ℕ) → Drawn (strands_of_lines lines) text →
    text ≡ join_with_byte 10 lines
unfolding Drawn
any_lines_drawn [] text h = h
any_lines_drawn (s ∷ lines) text h = lines_drawn s lines text h

-- what is drawn of an item's strands is its characters
spelling_drawn : (spelling text : List ℕ) → Drawn (spelling_strands spelling) text → text ≡ spelling
spelling_drawn spelling text h =
    any_lines_drawn (slice_split (λ c. eqb c 10) spelling) text h ∙ join_with_byte-slice_split 10 spelling

-- line ends and a break are one line end more, and spaces
one_more : (n : ℕ) → replicate {A = ℕ} (suc n + 1) 10 ≡ 10 ∷ replicate (n + 1) 10
one_more n =
    let e : suc n + 1 ≡ suc (n + 1) = omega arith in
    ap (λ m. replicate m 10) e

blanks_drawn : (blanks : ℕ) (text : List ℕ) → Drawn (replicate blanks line_end ++ Firm ∷ []) text →
    EndsLines (blanks + 1) text
unfolding Drawn
blanks_drawn zero text h = one_drawn Firm text h
blanks_drawn (suc blanks) text h =
    let found = blanks_drawn blanks h.1 h.4 in
    (found.0, h.2 ∙ ap₂ (λ x y. x ++ y) h.3 found.1 ∙ ap (λ xs. xs ++ replicate found.0 32) (sym (one_more blanks)))

-- neighbours that need no break, of which the second doesn't trail
record Shares (a b : Token) : Type 0 where
  trails_not : trails b ≡ false
  may : MayShareLine a b

shares : (a b : Token) → trails b ≡ false → needs_break a b ≡ false → Shares a b
shares a b t n =
    let parts = or_parts (ends_line a.kind || is_line_comment b.kind) (not (eqb b.blanks 0)) n in
    let kinds = or_parts (ends_line a.kind) (is_line_comment b.kind) parts.0 in
    record { trails_not = t; may = (kinds.1, no_blanks (eqb b.blanks 0) refl parts.1, kinds.0) }
  where
    no_blanks : (none : Bool) → eqb b.blanks 0 ≡ none → not none ≡ false → b.blanks ≡ 0
    no_blanks true e k = eqb-true b.blanks 0 e
    no_blanks false e k = cc

on_one_line : (a b : Token) (gap : List ℕ) → Shares a b → KeepsLine a b gap → MayPart a b gap
on_one_line a b gap h k = inr (h.trails_not, inr (h.may, k))

on_two_lines : (a b : Token) (gap : List ℕ) → Shares a b → IsBreak gap → MayPart a b gap
on_two_lines a b gap h k =
    inr (h.trails_not, inl (k.0, k.1 ∙ ap (λ n. replicate (n + 1) 10 ++ replicate k.0 32) (sym h.may.1)))

loose_parts : (a b : Token) (gap : List ℕ) → Shares a b → IsDrawn Loose gap → MayPart a b gap
loose_parts a b gap h (inl s) = on_one_line a b gap h (inr s)
loose_parts a b gap h (inr e) = on_two_lines a b gap h e

tight_parts : (a b : Token) (gap : List ℕ) → Shares a b → (Needs a b → ⊥) → IsDrawn Tight gap → MayPart a b gap
tight_parts a b gap h n (inl e) = on_one_line a b gap h (inl (e, n))
tight_parts a b gap h n (inr k) = loose_parts a b gap h k

-- what is drawn of a gap's strands may part the neighbours, by the three tests
tests_part : (a b : Token) (gap : List ℕ) (trailing breaks needs : Bool) → trails b ≡ trailing →
    needs_break a b ≡ breaks → needs_gap a.kind a.spelling b.spelling ≡ needs →
    Drawn (if trailing then Exact one_space ∷ [] else if breaks then replicate b.blanks line_end ++ Firm
    ∷ [] else if needs then Loose ∷ [] else Tight ∷ []) gap → MayPart a b gap
tests_part a b gap true breaks needs t k n h = inl (t, one_drawn (Exact one_space) gap h)
tests_part a b gap false true needs t k n h = inr (t, inl (blanks_drawn b.blanks gap h))
tests_part a b gap false false true t k n h = loose_parts a b gap (shares a b t k) (one_drawn Loose gap h)
tests_part a b gap false false false t k n h =
    tight_parts a b gap (shares a b t k) (λ m. both_ways (needs_gap a.kind a.spelling b.spelling) n
    ((needs_told a.kind a.spelling b.spelling).0 m))
    (one_drawn Tight gap h)

gap_parts : (a b : Token) (gap : List ℕ) → Drawn (gap_strands a b) gap → MayPart a b gap
gap_parts a b gap h =
    tests_part a b gap (trails b) (needs_break a b) (needs_gap a.kind a.spelling b.spelling) refl refl refl h

-- four lists in a row
regrouped : (ws xs ys zs : List Strand) → (ws ++ (xs ++ ys)) ++ zs ≡ ws ++ (xs ++ (ys ++ zs))
regrouped ws xs ys zs = append_assoc ws (xs ++ ys) zs ∙ ap (λ us. ws ++ us) (append_assoc xs ys zs)

-- what is drawn of the strands behind an item is woven of the items
behind_drawn : (a : Token) (ts : List Token) (text : List ℕ) → Drawn (strands_behind a ts ++ line_end ∷ []) text →
    WovenBehind a ts text
unfolding strands_behind WovenBehind
behind_drawn a [] text h = one_drawn line_end text h
behind_drawn a (b ∷ ts) text h =
    let end : List Strand = line_end ∷ [] in
    let item_first : List Strand = spelling_strands b.spelling ++ (strands_behind b ts ++ end) in
    let gap =
    Drawn-cut (gap_strands a b) item_first text
    (subst (λ (xs : List Strand). Drawn xs text)
    (regrouped (gap_strands a b) (spelling_strands b.spelling) (strands_behind b ts) end) h) in
    let item = Drawn-cut (spelling_strands b.spelling) (strands_behind b ts ++ end) gap.behind gap.second in
    let spelled : gap.behind ≡ b.spelling ++ item.behind =
    item.text_is ∙ ap (λ xs. xs ++ item.behind) (spelling_drawn b.spelling item.before item.first) in (
      gap.before,
      item.behind,
      gap.text_is ∙ ap (λ xs. gap.before ++ xs) spelled,
      gap_parts a b gap.before gap.first,
      behind_drawn b ts item.behind item.second,
    )

-- what is drawn of a file's strands is woven of its items
pub drawn_woven : (ts : List Token) (text : List ℕ) → Drawn (file_strands ts) text → Woven ts text
unfolding Drawn
drawn_woven [] text h = h
drawn_woven (t ∷ ts) text h =
    let item = Drawn-cut (spelling_strands t.spelling) (strands_behind t ts ++ line_end ∷ []) text h in (
      item.behind,
      item.text_is ∙ ap (λ xs. xs ++ item.behind) (spelling_drawn t.spelling item.before item.first),
      behind_drawn t ts item.behind item.second,
    )
