-- A file's document is that of its slots as paragraphs.
use Rattle.std.proofs.Common.{◌≡◌, ℕ, suc, ◌+◌, ◌<◌, Bool, true, false, not, ◌&&◌, ◌||◌, ◌==◌, List, [], ◌∷◌, ◌++◌, length, map, slice_get, Option, Some, None, refl, sym, ◌∙◌, ap, subst, append_assoc, arith, option_map}
use Rattle.std.specs.List.{AllByRecursion, range_with_len}
use Rattle.std.specs.Prelude.{if◌then◌else◌}
use Rattle.std.proofs.lemmas.Bool.Decides.{nat_tests}
use Rattle.std.proofs.lemmas.Bool.{false_from_ne_true}
use Rattle.rf_base_document.specs.Document.{Doc, Hard}
use Rattle.rf_base_document.specs.Sequence.{seq}
use Rattle.rf_base_document.specs.Simple.{simple}
use Rattle.rf_base_optimum.specs.Paragraphs.{line_ends, paragraphs_docs, chosen_of, chosen_apart}
use Rattle.rf_base_grammar.specs.Itemised.{Itemised}
use Rattle.rf_base_grammar.specs.Token.{Token, is_line_comment}
use Rattle.rf_base_grammar.specs.Woven.{ends_line, trails}
use Rattle.rf_base_grammar.specs.declared.kinds.Kind.{Kind}
use Rattle.rf_base_grammar.specs.declared.kinds.Kind.TheVariants.{Opener, Prefix, Skip, Dot, Line}
use Rattle.rf_base_style.specs.Table.{StyleView}
use Rattle.rf_base_tree.specs.declared.separators.Want.TheVariants as want
use Rattle.rf_base_tree.specs.declared.separators.Separator.TheVariants as separator
use Rattle.rf_base_tree.specs.Trees.{Tree, Leaf, Point, Comment, Prefixed, DatumComment, Listed, Forest, Empty, Then, kind_at}
use Rattle.rf_base_tree.specs.Formed.{is_whole, IsFormed, AreFormed, Treed}
use Rattle.rf_base_tree.specs.Slots.{Sort, Remark, Entry, Slot, perhaps, slot_entries, MayStandTogether, MayTrail, BeginsNot, MayEnd, AreSlots, remark_of, datum_of, keyword_or_datum, is_keyword_of, sort_of, entries_of}
use Rattle.rf_base_tree.specs.Cut.{slot, needs_gap, needs_break, as_wanted, separator_between}
use Rattle.rf_base_tree.proofs.Cuts.{slots_of_cut}
use Rattle.rf_base_file.specs.Rows.{Part, Step, docs_between, gap_docs, separator_docs, steps_docs, steps_last, steps_wanting, whats, datum_steps, slot_steps, part_of}
use Rattle.rf_base_file.specs.FileDocument.{tree_piece, top_slot, style_doc, top_part, file_docs, file_doc}
use Rattle.rf_base_file.specs.LaidOut.{kept, source_doc, Objective}
use Rattle.rf_base_file.specs.ByForms.{blanks_before, parts_paragraphs, top_slots, file_paragraphs, chosen_by_slots, by_forms}
use Rattle.rf_base_file.proofs.Parts.{PartsSigned}
use Rattle.rf_base_file.proofs.SameTrees.{Treed-same}
use Rattle.rf_base_file.proofs.TreeStrands.{file_parts-signed, settled_bare}
use Rattle.rf_base_file.proofs.Following.{parts_follow, item_there, NoneTrailsBehindLine, none_trails_behind_line}

-- an item that trails is a line comment
line_of : (k : Kind) (own : Bool) → (is_line_comment k && not own) ≡ true → k ≡ Line
line_of Line own e = refl
line_of _ own e = cc

kind_there : (ts : List Token) (n : ℕ) (b : Token) (k : Kind) → slice_get ts n ≡ Some b → kind_at ts n ≡ Some k →
    trails b ≡ true → k ≡ Line
kind_there ts n b k e f t =
    let is : Some b.kind ≡ Some k = ap (option_map (λ (z : Token). z.kind)) (sym e) ∙ f in
    let same : b.kind ≡ k = cc in
    sym same ∙ line_of b.kind b.own_line t

-- a tree whose first item trails is a comment that does
first_trails : (style : StyleView) (ts : List Token) (t : Tree) (b : Token) → IsFormed ts t →
    slice_get ts (tree_piece style ts t).first ≡ Some b →
    trails b ≡ true → sort_of ts t ≡ Remark true
unfolding tree_piece IsFormed
first_trails style ts (Leaf item) b h e k =
    let line = kind_there ts item b h.0 e h.1 k in
    let whole : is_whole Line ≡ true = subst (λ (z : Kind). is_whole z ≡ true) line h.2 in
    cc
first_trails style ts (Point item) b h e k = let line = kind_there ts item b Dot e h k in cc
first_trails style ts (Comment item) b h e k = ap remark_of e ∙ ap Remark k
first_trails style ts (Prefixed item lead inner) b h e k = let line = kind_there ts item b Prefix e h.0 k in cc
first_trails style ts (DatumComment item lead inner) b h e k = let line = kind_there ts item b Skip e h.0 k in cc
first_trails style ts (Listed opener entries closer) b h e k =
    let line = kind_there ts opener b (Opener h.0) e h.1 k in cc

datum_is_no_remark : (b : Bool) → keyword_or_datum b ≡ Remark true → ⊥
datum_is_no_remark true e = cc
datum_is_no_remark false e = cc

leaf_is_no_remark : (o : Option Token) → datum_of o ≡ Remark true → ⊥
leaf_is_no_remark None e = cc
leaf_is_no_remark (Some t) e = datum_is_no_remark (is_keyword_of t.kind t.spelling) e

remark_is : (o : Option Token) → remark_of o ≡ Remark true → (b : Token) × (o ≡ Some b) × (trails b ≡ true)
remark_is None e = cc
remark_is (Some b) e = (b, refl, cc)

-- a comment that trails ends with an item that does
last_trails : (style : StyleView) (ts : List Token) (t : Tree) → sort_of ts t ≡ Remark true →
    (b : Token) × (slice_get ts (tree_piece style ts t).last ≡ Some b) × (trails b ≡ true)
unfolding tree_piece
last_trails style ts (Leaf item) e = absurd (leaf_is_no_remark (slice_get ts item) e)
last_trails style ts (Comment item) e = remark_is (slice_get ts item) e
last_trails style ts _ e = cc

-- an entry of a formed tree, of the tree's sort
abbrev IsEntry : List Token → Entry Tree → Type 0
IsEntry ts e = (e.sort ≡ sort_of ts e.what) × IsFormed ts e.what

abbrev AreEntries : List Token → List (Entry Tree) → Type 0
AreEntries ts entries = AllByRecursion (λ e. IsEntry ts e) entries

are_entries : (ts : List Token) (trees : Forest) → AreFormed ts trees → AreEntries ts (entries_of ts trees)
unfolding AreFormed
are_entries ts Empty h = tt
are_entries ts (Then t rest) h = ((refl, h.0), are_entries ts rest h.1)

entries_apart : (ts : List Token) (es fs : List (Entry Tree)) → AreEntries ts (es ++ fs) →
    AreEntries ts es × AreEntries ts fs
entries_apart ts [] fs h = (tt, h)
entries_apart ts (e ∷ es) fs h = let rest = entries_apart ts es fs h.1 in ((h.0, rest.0), rest.1)

-- the first of the entries is of this sort
abbrev BeginsSo : Sort → List (Entry Tree) → Type 0
BeginsSo sort [] = ⊥
BeginsSo sort (e ∷ es) = e.sort ≡ sort

-- where a slot's first item trails, its first entry is a comment that does
slot_begins : (style : StyleView) (ts : List Token) (leads : List (Entry Tree))
    (key datum trailing : Option (Entry Tree)) (after : List (Entry Tree)) (b : Token) →
    MayStandTogether false leads key datum → AreEntries ts (slot_entries (slot leads key datum trailing)) →
    slice_get ts (top_part style ts (slot leads key datum trailing)).first ≡ Some b → trails b ≡ true →
    BeginsSo (Remark true) (slot_entries (slot leads key datum trailing) ++ after)
slot_begins style ts (e ∷ leads) key datum trailing after b h good f t =
    good.0.0 ∙ first_trails style ts e.what b good.0.1 f t
slot_begins style ts [] (Some k) (Some d) trailing after b h good f t = cc
slot_begins style ts [] (Some k) None trailing after b h good f t = absurd h
slot_begins style ts [] None (Some d) trailing after b h good f t =
    good.0.0 ∙ first_trails style ts d.what b good.0.1 f t
slot_begins style ts [] None None trailing after b h good f t = absurd (h refl)

both_ways_begin : (es : List (Entry Tree)) → BeginsSo (Remark true) es → BeginsNot (Remark true) es → ⊥
both_ways_begin [] h k = h
both_ways_begin (e ∷ es) h k = k h

-- so the slot before it ends with a comment that trails
ends_trailing : (key datum trailing : Option (Entry Tree)) (after : List (Entry Tree)) → MayTrail datum trailing →
    MayEnd false key datum trailing after →
    BeginsSo (Remark true) after →
    (d : Entry Tree) × (c : Entry Tree) × (datum ≡ Some d) × (trailing ≡ Some c) × (c.sort ≡ Remark true)
ends_trailing key None trailing after m h b = absurd (subst (λ (es : List (Entry Tree)). BeginsSo (Remark true) es) h b)
ends_trailing key (Some d) (Some c) after m h b = (d, c, refl, refl, m)
ends_trailing (Some k) (Some d) None after m h b = absurd (both_ways_begin after b h)
ends_trailing None (Some d) None after m h b = absurd (both_ways_begin after b h.0)

-- the last item of a slot with a comment behind its datum
pub last-append : (n : ℕ) (xs ys : List Step) → steps_last n (xs ++ ys) ≡ steps_last (steps_last n xs) ys
unfolding steps_last
last-append n [] ys = refl
last-append n (s ∷ xs) ys = last-append s.part.last xs ys

slot_last : (style : StyleView) (ts : List Token) (leads : List (Entry Tree)) (key : Option (Entry Tree))
    (d c : Entry Tree) →
    (top_part style ts (slot leads key (Some d) (Some c))).last ≡ (tree_piece style ts c.what).last
unfolding steps_last
slot_last style ts [] None d c = refl
slot_last style ts [] (Some k) d c = refl
slot_last style ts (e ∷ leads) key d c =
    let inner = top_slot style ts (slot leads key (Some d) (Some c)) in
    let rest : List Step = datum_steps want.Line inner.key inner.datum inner.trailing in
    last-append (tree_piece style ts e.what).last (steps_wanting want.Line (whats inner.leads)) rest
    ∙ by_key key (steps_last (tree_piece style ts e.what).last (steps_wanting want.Line (whats inner.leads)))
  where
    by_key : (key : Option (Entry Tree)) (n : ℕ) →
        let inner = top_slot style ts (slot leads key (Some d) (Some c)) in
        steps_last n (datum_steps want.Line inner.key inner.datum inner.trailing) ≡ (tree_piece style ts c.what).last
    by_key None n = refl
    by_key (Some k) n = refl

no_blanks : (a b : Token) → needs_break a b ≡ false → b.blanks ≡ 0
no_blanks a b e = by_test (ends_line a.kind) (is_line_comment b.kind) e
  where
    zero_of : (n : ℕ) → not (n == 0) ≡ false → n ≡ 0
    zero_of n f = grind (arith, nat_tests)

    by_test : (x y : Bool) → (x || y || not (b.blanks == 0)) ≡ false → b.blanks ≡ 0
    by_test true y f = cc
    by_test false true f = cc
    by_test false false f = zero_of b.blanks f

must_is_hard : (needs : Bool) → as_wanted needs want.Must ≡ separator.Hard 0
must_is_hard true = refl
must_is_hard false = refl

separator_is : (a b : Token) → trails b ≡ false → separator_between a b want.Must ≡ separator.Hard b.blanks
separator_is a b e = by_trail (trails b) e
  where
    by_break : (x : Bool) → needs_break a b ≡ x →
        (if x then separator.Hard b.blanks else as_wanted (needs_gap a.kind a.spelling b.spelling) want.Must)
        ≡ separator.Hard b.blanks
    by_break true f = refl
    by_break false f = must_is_hard (needs_gap a.kind a.spelling b.spelling) ∙ ap separator.Hard (sym (no_blanks a b f))

    by_trail : (t : Bool) → t ≡ false →
        (if t then separator.Space else if needs_break a b then separator.Hard b.blanks else as_wanted
        (needs_gap a.kind a.spelling b.spelling) want.Must)
        ≡ separator.Hard b.blanks
    by_trail true f = cc
    by_trail false f = by_break (needs_break a b) refl

between_is : (o p : Option Token) (a b : Token) → o ≡ Some a → p ≡ Some b → trails b ≡ false →
    docs_between o p want.Must ≡ line_ends (blanks_before p)
between_is o p a b e f t = rw (e, f) (ap separator_docs (separator_is a b t))

-- the gap between two slots in a row
slots_gap : (style : StyleView) (ts : List Token) (s u : Slot Tree) (slots : List (Slot Tree))
    (entries : List (Entry Tree)) (items : List ℕ) (n m : ℕ) →
    NoneTrailsBehindLine ts → AreEntries ts entries → AreSlots false entries (s ∷ u ∷ slots) →
    PartsSigned ts (map (top_part style ts) (s ∷ u ∷ slots)) items →
    items ≡ range_with_len n m → n + m ≡ length ts →
    gap_docs ts (top_part style ts s).last (top_part style ts u).first want.Must
    ≡ line_ends (blanks_before (slice_get ts (top_part style ts u).first))
unfolding NoneTrailsBehindLine
slots_gap style ts s u slots entries items n m none good cut h e len =
    let p : Part = top_part style ts s in
    let q : Part = top_part style ts u in
    let follow = parts_follow ts p q (map (top_part style ts) slots) items n m h e len in
    let next : q.first ≡ suc p.last = follow.5 in
    let there : suc p.last < length ts = follow.6 in
    let a = item_there ts p.last (omega arith) in
    let b = item_there ts q.first (omega arith) in
    let behind : slice_get ts (suc p.last) ≡ Some b.0 = ap (slice_get ts) (sym next) ∙ b.1 in
    let all =
    entries_apart ts (slot_entries s) cut.0 (subst (λ (es : List (Entry Tree)). AreEntries ts es) cut.1 good) in
    let second = cut.6 in
    let apart =
    entries_apart ts (slot_entries u) second.0 (subst (λ (es : List (Entry Tree)). AreEntries ts es) second.1 all.1) in
    let no_trail : trails b.0 ≡ true → ⊥ = λ t.
    let begins = subst (λ (es : List (Entry Tree)). BeginsSo (Remark true) es) (sym second.1)
    (slot_begins style ts u.leads u.key u.datum u.trailing second.0 b.0 second.3 apart.0 b.1 t) in
    let ends = ends_trailing s.key s.datum s.trailing cut.0 cut.4 cut.5 begins in
    trailing_line s.leads s.key s.datum s.trailing ends.0 ends.1 b.0 all.0 ends.2 ends.3 ends.4 behind t in
    between_is (slice_get ts p.last) (slice_get ts q.first) a.0 b.0 a.1 b.1 (false_from_ne_true (trails b.0) no_trail)
  where
    last_entry : (leads : List (Entry Tree)) (key : Option (Entry Tree)) (d c : Entry Tree) →
        AreEntries ts (leads ++ perhaps key (d ∷ c ∷ [])) → IsEntry ts c
    last_entry [] None d c h = h.1.0
    last_entry [] (Some k) d c h = h.1.1.0
    last_entry (e ∷ leads) key d c h = last_entry leads key d c h.1

    trailing_line : (leads : List (Entry Tree)) (key datum trailing : Option (Entry Tree)) (d c : Entry Tree)
        (b : Token) →
        AreEntries ts (slot_entries (slot leads key datum trailing)) → datum ≡ Some d → trailing ≡ Some c →
        c.sort ≡ Remark true →
        slice_get ts (suc (top_part style ts (slot leads key datum trailing)).last) ≡ Some b → trails b ≡ true → ⊥
    trailing_line leads key None trailing d c b good f g k at t = cc
    trailing_line leads key (Some x) None d c b good f g k at t = cc
    trailing_line leads key (Some x) (Some y) d c b good f g k at t =
        let same : y ≡ c = cc in
        let entry = last_entry leads key x y good in
        let sort : sort_of ts y.what ≡ Remark true = sym entry.0 ∙ ap (λ (z : Entry Tree). z.sort) same ∙ k in
        let a = last_trails style ts y.what sort in
        let last = slot_last style ts leads key x y in
        none (tree_piece style ts y.what).last a.0 b a.1 (ap (λ (i : ℕ). slice_get ts (suc i)) (sym last) ∙ at)
        (line_of a.0.kind a.0.own_line a.2) t

pub part_doc : (steps : List Step) (d : Doc) → (part_of steps d).doc ≡ d
part_doc [] d = refl
part_doc (s ∷ steps) d = refl

-- slots in a row, with what stands between them
slots_row : (style : StyleView) (ts : List Token) (s : Slot Tree) (slots : List (Slot Tree))
    (entries : List (Entry Tree)) (items : List ℕ) (n m : ℕ) →
    NoneTrailsBehindLine ts → AreEntries ts entries → AreSlots false entries (s ∷ slots) →
    PartsSigned ts (map (top_part style ts) (s ∷ slots)) items →
    items ≡ range_with_len n m → n + m ≡ length ts →
    file_docs ts (map (top_part style ts) (s ∷ slots))
    ≡ paragraphs_docs (parts_paragraphs ts (map (top_part style ts) (s ∷ slots)))
unfolding steps_docs paragraphs_docs parts_paragraphs
slots_row style ts s [] entries items n m none good cut h e len = refl
slots_row style ts s (u ∷ slots) entries items n m none good cut h e len =
    let p : Part = top_part style ts s in
    let q : Part = top_part style ts u in
    let follow = parts_follow ts p q (map (top_part style ts) slots) items n m h e len in
    let all =
    entries_apart ts (slot_entries s) cut.0 (subst (λ (es : List (Entry Tree)). AreEntries ts es) cut.1 good) in
    let gap = slots_gap style ts s u slots entries items n m none good cut h e len in
    let rest =
    slots_row style ts u slots cut.0 follow.1 (suc p.last) follow.0 none all.1 cut.6 follow.2 follow.3 follow.4 in
    let behind : List Doc = steps_docs ts q.last (steps_wanting want.Must (map (top_part style ts) slots)) in
    ap (λ (xs : List Doc). p.doc ∷ xs)
    (append_assoc (gap_docs ts p.last q.first want.Must) (q.doc ∷ behind) (Hard ∷ [])
    ∙ ap (λ (xs : List Doc). xs ++ (q.doc ∷ (behind ++ Hard ∷ []))) gap
    ∙ ap (λ (xs : List Doc). line_ends (blanks_before (slice_get ts q.first)) ++ xs) rest)

file_row : (style : StyleView) (ts : List Token) (trees : Forest) (slots : List (Slot Tree)) → NoneTrailsBehindLine ts →
    AreEntries ts (entries_of ts trees) →
    AreSlots false (entries_of ts trees) slots → (items : List ℕ) →
    PartsSigned ts (map (top_part style ts) slots) items → items ≡ range_with_len 0 (length ts) →
    file_docs ts (map (top_part style ts) slots) ≡ paragraphs_docs (parts_paragraphs ts (map (top_part style ts) slots))
unfolding paragraphs_docs parts_paragraphs
file_row style ts trees [] none good cut items h e = refl
file_row style ts trees (s ∷ slots) none good cut items h e =
    slots_row style ts s slots (entries_of ts trees) items 0 (length ts) none good cut h e (omega arith)

pub file_is_paragraphs : (style : StyleView) (source : List ℕ) (ts : List Token) (trees : Forest) → Itemised source ts →
    Treed ts trees →
    source_doc style ts trees ≡ seq (paragraphs_docs (file_paragraphs style (kept style ts) trees))
unfolding file_doc
file_is_paragraphs style source ts trees itemised treed =
    let all : List Token = kept style ts in
    let again = Treed-same ts all trees style.blanks treed refl in
    ap seq (file_row style all trees (top_slots all trees) (none_trails_behind_line source ts style.blanks itemised)
    (are_entries all trees again.formed)
    (slots_of_cut false (entries_of all trees)) _
    (file_parts-signed style all trees (settled_bare true style.blanks ts) again) again.items_are)

-- what is chosen form by form is what is chosen of each paragraph
slots_chosen : {C : Type 0} (objective : Objective C) (style : StyleView) (ts : List Token) (slots : List (Slot Tree)) →
    chosen_by_slots objective style ts slots
    ≡ chosen_apart objective.costs objective.limit (parts_paragraphs ts (map (top_part style ts) slots))
unfolding chosen_by_slots chosen_apart parts_paragraphs
slots_chosen objective style ts [] = refl
slots_chosen objective style ts (s ∷ slots) =
    let rest = chosen_apart objective.costs objective.limit (parts_paragraphs ts (map (top_part style ts) slots)) in
    ap (λ xs. chosen_of objective.costs objective.limit (simple (style_doc style ts s) false) ++ xs)
    (slots_chosen objective style ts slots)
    ∙ ap (λ (d : Doc). chosen_of objective.costs objective.limit (simple d false) ++ rest)
    (sym (part_doc (slot_steps (top_slot style ts s)) (style_doc style ts s)))

pub by_forms_is : {C : Type 0} (objective : Objective C) (style : StyleView) (ts : List Token) (trees : Forest) →
    by_forms objective style ts trees ≡ chosen_apart objective.costs objective.limit (file_paragraphs style ts trees)
by_forms_is objective style ts trees = slots_chosen objective style ts (top_slots ts trees)
