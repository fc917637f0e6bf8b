-- A comment of one line is one text, laid out first or on the line behind an item.
use Rattle.std.proofs.Common.{◌≡◌, ℕ, Option, None, Some, List, [], ◌∷◌, ◌++◌, slice_get, append_assoc, sym, ap, subst, ◌∙◌}
use Rattle.rf_base_document.specs.Document.{Doc, Text, Hard, IsOneLine}
use Rattle.rf_base_document.specs.Render.{Piece}
use Rattle.rf_base_document.specs.Sequence.{seq}
use Rattle.rf_base_document.proofs.Sequence.{seq_of_one}
use Rattle.rf_base_grammar.specs.Token.{Token}
use Rattle.rf_base_style.specs.Columns.{length_in}
use Rattle.rf_base_style.specs.Table.{StyleView}
use Rattle.rf_base_tree.specs.declared.separators.Separator.{Separator}
use Rattle.rf_base_tree.specs.declared.separators.Separator.TheVariants as separator
use Rattle.rf_base_tree.specs.declared.separators.Want.TheVariants as want
use Rattle.rf_base_tree.specs.Trees.{Tree, spelling_at}
use Rattle.rf_base_file.specs.Rows.{Part, part, line_doc, spelling_doc, separator_docs, gap_docs}
use Rattle.rf_tree.specs.Nodes.{UnfoldsTo}
use Rattle.rf_style.specs.StyleOf.{seen}
use Rattle.rf_tree.specs.declared.nodes.At.{At}
use Rattle.rf_tree.specs.Told as node
use Rattle.rf_walk.specs.declared.walking.Frame.{Frame}
use Rattle.rf_walk.specs.Walked.{CanGoOn, Ending}
use Rattle.rf_ways.specs.declared.places.Place.{Place}
use Rattle.rf_ways.specs.Nodes.{node_in}
use Rattle.rf_ways.specs.Steps.{docs_behind}
use Rattle.rf_ways.proofs.LineCuts.{lines_last}
use Rattle.rf_rows.specs.declared.laying.Spot.{Spot}
use Rattle.rf_rows.specs.Laying.{framed, frames_of, AreLaid, ArePast, IsLaid, IsPast}
use Rattle.rf_rows.proofs.Frames.{same}
use Rattle.rf_slot_rows.specs.declared.context.Context.{Context}
use Rattle.rf_slot_rows.specs.Leads.{line_docs}
use Rattle.rf_slot_rows.proofs.Walking.{comment_part}

-- the comment that was found at the node, as a part
pub comment_text : (context : Context) (place : Place) (at : At) (ts : List Token) (t : Tree) (item : ℕ)
    (s : List ℕ) (len : ℕ) → slice_get context.tree.now.nodes at.0 ≡ Some (node.Comment item) →
    UnfoldsTo ts context.tree.now.nodes at.0 t → s ≡ spelling_at ts item → IsOneLine s →
    len ≡ length_in context.style.now.columns s →
    node_in (seen context.style.now) ts place.quoted place.role t ≡ part item item (Text s len)
comment_text context place at ts t item s len found unfolds spelled one columns =
    let style = seen context.style.now in
    let nodes = context.tree.now.nodes in
    sym (comment_part style ts nodes at.0 item t place.quoted place.role found unfolds)
    ∙ ap (λ (d : Doc). part item item d)
    (ap (spelling_doc style.columns) (sym spelled) ∙ ap seq (lines_last style.columns s one)
    ∙ seq_of_one (line_doc style.columns s) ∙ ap (λ (n : ℕ). Text s n) (sym columns))

-- its documents where it stands first, and where it stands on the line behind an item
pub first_docs : (place : Place) (style : StyleView) (ts : List Token) {before : Option ℕ} (item : ℕ) (t : Tree)
    (d : Doc) → before ≡ None → node_in style ts place.quoted place.role t ≡ part item item d →
    line_docs place style ts before t ≡ d ∷ []
unfolding docs_behind
first_docs place style ts item t d none is =
    ap (λ (o : Option ℕ). line_docs place style ts o t) none ∙ ap (λ (p : Part). p.doc ∷ []) is

pub next_docs : (place : Place) (style : StyleView) (ts : List Token) {before : Option ℕ} (last item : ℕ) (t : Tree)
    (d : Doc) {gap : Separator} → before ≡ Some last → node_in style ts place.quoted place.role t ≡ part item item d →
    gap ≡ separator.Hard 0 → separator_docs gap ≡ gap_docs ts last item want.Line →
    line_docs place style ts before t ≡ Hard ∷ d ∷ []
unfolding docs_behind
next_docs place style ts last item t d behind is hard between =
    ap (λ (o : Option ℕ). line_docs place style ts o t) behind
    ∙ ap (λ (p : Part). gap_docs ts last p.first want.Line ++ p.doc ∷ []) is
    ∙ ap (λ (ds : List Doc). ds ++ d ∷ []) (sym between ∙ ap separator_docs hard)

module _ {P : Type 0} (holds : P → P → List Piece → ℕ → Type 0) where
  -- one document
  pub one_laid : {old new : P} (spot : Spot) {ds : List Doc} {d : Doc} → ds ≡ d ∷ [] → IsLaid holds old new spot d [] [] →
      AreLaid holds old new (frames_of spot ds) [] []
  unfolding frames_of
  one_laid {old} {new} spot is laid = subst (λ (l : List Doc). AreLaid holds old new (frames_of spot l) [] []) (sym is) laid

  pub one_past : {old : P} (spot : Spot) {ds : List Doc} {d : Doc} → ds ≡ d ∷ [] → IsPast holds old spot d [] →
      ArePast holds old (frames_of spot ds) []
  unfolding frames_of
  one_past {old} spot is past = subst (λ (l : List Doc). ArePast holds old (frames_of spot l) []) (sym is) past

  -- two documents, the first of which is next
  first_next : {old : P} (spot : Spot) {ds : List Doc} {d e : Doc} → ds ≡ d ∷ e ∷ [] → (blank : P)
      (others : List (Frame Doc)) (end : Ending) →
      CanGoOn (holds blank old) same (others ++ frames_of spot ds) [] end →
      CanGoOn (holds blank old) same ((others ++ framed spot e ∷ []) ++ framed spot d ∷ []) [] end
  unfolding frames_of
  first_next {old} spot {ds} {d} {e} is blank others end can =
      subst (λ (l : List (Frame Doc)). CanGoOn (holds blank old) same l [] end)
      (ap (λ (l : List Doc). others ++ frames_of spot l) is ∙ sym (append_assoc others (framed spot e ∷ []) (framed spot d ∷ []))) can

  pub both_laid : {old middle new : P} (spot : Spot) {ds : List Doc} {d e : Doc} → ds ≡ d ∷ e ∷ [] →
      IsLaid holds old middle spot d [] [] → IsLaid holds middle new spot e [] [] →
      AreLaid holds old new (frames_of spot ds) [] []
  both_laid spot {ds} {d} {e} is first second = λ blank others end can.
      second blank others end (first blank (others ++ framed spot e ∷ []) end (first_next spot is blank others end can))

  pub first_past : {old : P} (spot : Spot) {ds : List Doc} {d e : Doc} → ds ≡ d ∷ e ∷ [] → IsPast holds old spot d [] →
      ArePast holds old (frames_of spot ds) []
  first_past spot {ds} {d} {e} is past = λ blank others end can.
      past blank (others ++ framed spot e ∷ []) end (first_next spot is blank others end can)

  pub second_past : {old middle : P} (spot : Spot) {ds : List Doc} {d e : Doc} → ds ≡ d ∷ e ∷ [] →
      IsLaid holds old middle spot d [] [] → IsPast holds middle spot e [] → ArePast holds old (frames_of spot ds) []
  second_past spot {ds} {d} {e} is first past = λ blank others end can.
      past blank others end (first blank (others ++ framed spot e ∷ []) end (first_next spot is blank others end can))
