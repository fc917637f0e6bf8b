-- A source passage by passage: passages one behind the other, and what they are together.
use Rattle.std.proofs.Common.{◌≡◌, ◌≢◌, ℕ, ◌+◌, min, inl, inr, Bool, true, false, List, [], ◌∷◌, ◌++◌, append_assoc, append-nil, length, refl, sym, ◌∙◌, ap, ap₂, subst, Result, Ok, Err}
use Rattle.std.proofs.lemmas.List.{nil_from_length}
use Rattle.std.specs.Prelude.{◌==◌, IfOk}
use Rattle.std.proofs.lemmas.Bool.{eqb-true, false≢true}
use Rattle.std.proofs.lemmas.Str.{chars-nil, encodes-chars}
use Rattle.std.proofs.Math.Utf8.{encodes}
use Rattle.std.specs.Str.{chars, IsUtf8}
use Rattle.std.specs.String.{string_bytes}
use Rattle.rf_base_cost.specs.Cost.{Costs, IsColumn, Lawful}
use Rattle.rf_base_optimum.specs.Paragraphs.{Paragraph}
use Rattle.rf_base_grammar.specs.Characters.{byte_len, BeginsWith}
use Rattle.rf_base_grammar.specs.Itemised.{Leads, Itemised}
use Rattle.rf_base_grammar.specs.Token.{Token}
use Rattle.rf_base_style.specs.Table.{StyleView, IsStyle}
use Rattle.rf_base_tree.specs.Trees.{Tree, Leaf, Point, Comment, Prefixed, DatumComment, Listed, Forest, Empty, Then}
use Rattle.rf_base_tree.specs.Formed.{Treed, IsDatum}
use Rattle.rf_tree.specs.Next.{followed_by}
use Rattle.rf_joins.specs.Moved.{moved, all_moved, joined, HaveNoLanguage, EndInDatum}
use Rattle.rf_joins.specs.Paragraphs.{trees_paragraphs}
use Rattle.rf_joins.proofs.ItemsJoin.{first_stands, Leads-more}
use Rattle.rf_joins.proofs.TreesJoin.{length_joined}
use Rattle.rf_joins.proofs.ParagraphsJoin.{paragraphs_joined}
use Rattle.rf_base_file.specs.Formatted.{Layout}
use Rattle.rf_whole.specs.declared.passages.Passage.{Passage}
use Rattle.rf_whole.specs.Laid.{AreLinesOf}
use Rattle.rf_whole.specs.Passages.{EndsOrFeeds, blanks_ahead, IsPassage, IsFirstPassage, ArePutTogether}
use Rattle.rf_whole.specs.Whole.{sought, IsWhole}
use Rattle.rf_whole.proofs.Accepted.{both_accepted, fed, feeds_front}
use Rattle.rf_whole.proofs.WholeFile.{whole_of}

-- a text of no byte has no character, and one of no character no byte
pub no_chars : (text : List ℕ) (empty : Bool) → empty ≡ (length text == 0) → empty ≡ true → chars text ≡ []
no_chars text empty is e = ap chars (nil_from_length text (eqb-true (length text) 0 (sym is ∙ e))) ∙ chars-nil

pub some_chars : (text : List ℕ) (empty : Bool) → IsUtf8 text → empty ≡ (length text == 0) → empty ≡ false → chars text ≡ [] → ⊥
some_chars text empty utf8 is e none =
    let nothing : text ≡ [] = sym (encodes-chars text utf8) ∙ ap encodes none in
    let zero : length text ≡ 0 = ap length nothing in
    false≢true (sym e ∙ is ∙ ap (λ (n : ℕ). n == 0) zero)

-- trees that end in a datum do so moved, and behind others
datum_moved : (n : ℕ) (t : Tree) → IsDatum t → IsDatum (moved n t)
unfolding moved
datum_moved n (Leaf item) h = h
datum_moved n (Point item) h = h
datum_moved n (Comment item) h = h
datum_moved n (Prefixed item lead inner) h = h
datum_moved n (DatumComment item lead inner) h = h
datum_moved n (Listed opener entries closer) h = h

ends_moved : (n : ℕ) (f : Forest) → EndInDatum f → EndInDatum (all_moved n f)
unfolding all_moved
ends_moved n Empty h = h
ends_moved n (Then t Empty) h = datum_moved n t h
ends_moved n (Then t (Then u f)) h = ends_moved n (Then u f) h

ends_behind : (f g : Forest) → EndInDatum g → EndInDatum (followed_by f g)
ends_behind Empty g h = h
ends_behind (Then t Empty) Empty h = absurd h
ends_behind (Then t Empty) (Then u g) h = h
ends_behind (Then t (Then u f)) g h = ends_behind (Then u f) g h

-- tokens without a language line, and others behind them
none_behind : (n : ℕ) (us vs : List Token) → HaveNoLanguage us → HaveNoLanguage vs → HaveNoLanguage (joined n us vs)
none_behind n [] [] h k = tt
none_behind n [] (v ∷ vs) h k = (k.0, none_behind n [] vs tt k.1)
none_behind n (u ∷ us) vs h k = (h.0, none_behind n us vs h.1 k)

-- the items of a text are those of the text with another one behind it, where a line end begins that
leads_on : (text left rest : List ℕ) (ts : List Token) → EndsOrFeeds left → Leads [] 0 text ts rest →
    Leads [] 0 (text ++ left) ts (rest ++ left)
leads_on text left rest ts (inl e) l =
    subst (λ (x : List ℕ). Leads [] 0 (text ++ x) ts (rest ++ x)) (sym e)
    (subst (λ (x : List ℕ). Leads [] 0 x ts (rest ++ [])) (sym (append-nil text))
    (subst (λ (x : List ℕ). Leads [] 0 text ts x) (sym (append-nil rest)) l))
leads_on text left rest ts (inr feeds) l = Leads-more [] 0 text left ts rest feeds l

-- the paragraphs of a passage and of one behind it are those of both
paragraphs_both : (style : StyleView) (n behind : ℕ) (us vs : List Token) (f g : Forest)
    (b left rest : List ℕ) → Treed us f → EndInDatum f → Treed vs g → vs ≢ [] → EndsOrFeeds left →
    Leads [] 0 b vs rest →
    trees_paragraphs style (joined n us vs) behind (followed_by f (all_moved (length us) g))
    ≡ trees_paragraphs style us (blanks_ahead style (b ++ left)) f ++ trees_paragraphs style vs behind g
paragraphs_both style n behind us [] f g b left rest treed ends others some feeds l = absurd (some refl)
paragraphs_both style n behind us (v ∷ vs) f g b left rest treed ends others some feeds l =
    let first = first_stands (b ++ left) (rest ++ left) v vs (leads_on b left rest (v ∷ vs) feeds l) in
    paragraphs_joined style n behind us vs v f g treed ends others first.1
    ∙ ap (λ (k : ℕ). trees_paragraphs style us (min k style.blanks) f ++ trees_paragraphs style (v ∷ vs) behind g) first.0

-- a passage and one behind it are one passage; behind both more may stand
pub passages_joined : {C : Type 0} (costs : Costs C) (w : ℕ) (style : StyleView) (first last : Bool)
    (a b left : List ℕ) (behind : ℕ) (before more both : Passage C) → BeginsWith (10 ∷ []) b → EndsOrFeeds left →
    IsPassage costs w style first false a (blanks_ahead style (b ++ left)) before →
    IsPassage costs w style false last b behind more → ArePutTogether costs before more both →
    IsPassage costs w style first last (a ++ b) behind both
passages_joined costs w style first last a b left behind before more both feeds on one two put =
    let ends = one.stands.ends refl in
    let free = two.stands.begins refl in
    let n : ℕ = byte_len a in
    let us : List Token = one.tokens in
    let vs : List Token = two.tokens in
    let all = both_accepted a b two.itemised.0 us vs one.trees two.trees one.stands.some
    (subst (λ (r : List ℕ). Leads [] 0 a us r) ends.0 one.itemised.1) one.treed feeds two.itemised.1 free
    two.treed in
    record {
      tokens = joined n us vs;
      trees = followed_by one.trees (all_moved (length us) two.trees);
      itemised = (two.itemised.0, all.1, two.itemised.2);
      treed = all.2;
      stands = record {
        some = all.0;
        begins = λ e. none_behind n us vs (one.stands.begins e) free;
        ends = λ e. (
          (two.stands.ends e).0,
          ends_behind one.trees (all_moved (length us) two.trees) (ends_moved (length us) two.trees (two.stands.ends e).1),
        );
      };
      lines_are = subst (λ (ps : List Paragraph). AreLinesOf costs w ps both.lines)
          (sym (paragraphs_both style n behind us vs one.trees two.trees b left two.itemised.0 one.treed ends.1 two.treed
          two.stands.some on two.itemised.1)) (put.lines_are w _ _ one.lines_are two.lines_are);
      count = put.count ∙ ap₂ (λ (x y : ℕ). x + y) one.count two.count ∙ sym (length_joined n us vs);
    }

-- a first passage has the lines of some paragraphs
pub first_lines : {C : Type 0} (costs : Costs C) (w : ℕ) (style : StyleView) (first last : Bool) (text : List ℕ)
    (behind : ℕ) (passage : Passage C) (rest : List ℕ) → IsFirstPassage costs w style first last text behind passage rest →
    (v : ℕ) × (ps : List Paragraph) × AreLinesOf costs v ps passage.lines
first_lines costs w style first last text behind passage [] h =
    let p = h.whole refl in
    (w, trees_paragraphs style p.tokens behind p.trees, p.lines_are)
first_lines costs w style first last text behind passage (x ∷ rest) h =
    let p = h.part (λ e. cc) in
    (w, trees_paragraphs style p.tokens (blanks_ahead style (x ∷ rest)) p.trees, p.lines_are)

-- the passages so far, and the next one
pub next_joined : {C : Type 0} (costs : Costs C) (w : ℕ) (style : StyleView) (first last : Bool)
    (text rest left : List ℕ) (behind : ℕ) (all more both : Passage C) →
    IsFirstPassage costs w style first last text behind all rest → rest ≢ [] →
    IsFirstPassage costs w style false last rest behind more left → ArePutTogether costs all more both →
    IsFirstPassage costs w style first last text behind both left
next_joined costs w style first last text rest left behind all more both h some k put =
    let before : IsPassage costs w style first false h.front (blanks_ahead style (k.front ++ left)) all =
    subst (λ (x : List ℕ). IsPassage costs w style first false h.front (blanks_ahead style x) all) k.text_is (h.part some) in
    record {
      front = h.front ++ k.front;
      text_is = h.text_is ∙ ap (λ (x : List ℕ). h.front ++ x) k.text_is ∙ sym (append_assoc h.front k.front left);
      feeds = k.feeds;
      whole = λ e.
          let two = k.whole e in
          passages_joined costs w style first last h.front k.front left behind all more both
          (feeds_front k.front left two.itemised.0 two.tokens two.stands.some two.itemised.1
          (subst (λ (x : List ℕ). BeginsWith (10 ∷ []) x) k.text_is (fed rest h.feeds some))) k.feeds before two put;
      part = λ e.
          let two = k.part e in
          passages_joined costs w style first false h.front k.front left (blanks_ahead style left) all more both
          (feeds_front k.front left two.itemised.0 two.tokens two.stands.some two.itemised.1
          (subst (λ (x : List ℕ). BeginsWith (10 ∷ []) x) k.text_is (fed rest h.feeds some))) k.feeds before two put;
    }

-- the passages up to the end of the text
pub all_joined : {C : Type 0} (costs : Costs C) (w : ℕ) (style : StyleView) (first last : Bool) (text rest : List ℕ)
    (behind : ℕ) (all : Passage C) → IsFirstPassage costs w style first last text behind all rest → rest ≡ [] →
    IsPassage costs w style first last text behind all
all_joined costs w style first last text rest behind all h e =
    subst (λ (x : List ℕ). IsPassage costs w style first last x behind all)
    (sym (h.text_is ∙ ap (λ (x : List ℕ). h.front ++ x) e ∙ append-nil h.front)) (h.whole e)

-- a passage that is a whole source
pub whole_passage : {C : Type 0} (costs : Costs C) (laws : Lawful costs) (w : ℕ) (style : StyleView) (text : List ℕ)
    (passage : Passage C) (given : Layout C) → IsColumn w → IsStyle style →
    IsPassage costs w style true true text 0 passage → given.choices ≡ passage.lines.choices.items →
    given.text ≡ chars (string_bytes passage.lines.text) → given.cost ≡ passage.lines.cost →
    given.within ≡ passage.lines.within →
    (ts : List Token) × Itemised text ts × (passage.items ≡ length ts)
    × ((trees : Forest) × Treed ts trees × IsWhole (sought costs w) style ts trees given)
whole_passage costs laws w style text passage given column is h choices_are text_is cost_is within_is = (
  h.tokens,
  h.itemised,
  h.count,
  (
    h.trees,
    h.treed,
    whole_of (sought costs w) style text h.tokens h.trees given passage.lines.characters passage.lines.weight is h.itemised
        h.treed laws column (rw (choices_are, text_is, cost_is, within_is) h.lines_are),
  ),
)

-- the passage that an answer gives
pub passage_found : {A E : Type 0} (P : A → Type 0) (answer : Result A E) → IfOk answer P → {x : A} → answer ≡ Ok x → P x
passage_found P answer h ok = subst (λ a. IfOk a P) ok h

-- two halves of a text, put together
pub both_joined : {C E : Type 0} (costs : Costs C) (w : ℕ) (style : StyleView) (first last : Bool) (text a b : List ℕ)
    (behind between : ℕ) (before more : Passage C) (answer : Result (Passage C) E) → text ≡ a ++ b → EndsOrFeeds b →
    b ≢ [] → between ≡ blanks_ahead style b → IsPassage costs w style first false a between before →
    IsPassage costs w style false last b behind more → IfOk answer (ArePutTogether costs before more) →
    IfOk answer (IsPassage costs w style first last text behind)
both_joined costs w style first last text a b behind between before more (Ok both) whole feeds some is one two put =
    let same : between ≡ blanks_ahead style (b ++ []) = is ∙ ap (λ (x : List ℕ). blanks_ahead style x) (sym (append-nil b)) in
    subst (λ (x : List ℕ). IsPassage costs w style first last x behind both) (sym whole)
    (passages_joined costs w style first last a b [] behind before more both (fed b feeds some) (inl refl)
    (subst (λ (n : ℕ). IsPassage costs w style first false a n before) same one) two put)
both_joined costs w style first last text a b behind between before more (Err e) whole feeds some is one two put = tt
