-- The shapes of lists: which layouts a list of two slots or more may have.
use Rattle.std.specs.Prelude.{ℕ, ◌-◌, ◌==◌, leb, if◌then◌else◌, Bool, true, false, List, [], ◌∷◌, ◌++◌, take, drop}
use Rattle.rf_base_document.specs.Document.{Doc, Nest, Align, Flatten, Choice, Charge}
use Rattle.rf_base_document.specs.Sequence.{seq}
use Rattle.rf_base_grammar.specs.Token.{Token}
use Rattle.rf_base_style.specs.declared.rules.Charges.{Charges}
use Rattle.rf_base_tree.specs.declared.separators.Want.{Want}
use Rattle.rf_base_tree.specs.declared.separators.Want.TheVariants as want
use Rattle.rf_base_file.specs.declared.shapes.Shape.{Shape}
use Rattle.rf_base_file.specs.declared.shapes.Shape.TheVariants.{Application, Hanging, Plain, Body}
use Rattle.rf_base_file.specs.Rows.{Part, part, step, gap_docs, steps_docs, steps_last, steps_wanting, inner_docs}

-- the slots of a list of two slots or more between its brackets
pub record Slots : Type 0 where
  pub opener : ℕ
  pub first : Part
  pub second : Part
  pub others : List Part
  pub closer : ℕ

-- each slot on a line of its own, below the first one
abbrev pub drop_doc : List Token → ℕ → Part → List Part → ℕ → Doc
drop_doc ts opener s slots closer =
    Align (seq (inner_docs ts opener (step want.Nothing s ∷ steps_wanting want.Line slots) closer))

-- the first slot behind the opener, and what stands behind it
abbrev pub first_then : List Token → Slots → List Doc → Doc
first_then ts l behind = Align (seq (steps_docs ts l.opener (step want.Nothing l.first ∷ []) ++ behind))

-- the second slot and the others below it, up to the closer and with the gap before that
abbrev pub hung_doc : List Token → Part → List Part → ℕ → Doc
hung_doc ts next slots closer = Align (seq (next.doc ∷ inner_docs ts next.last (steps_wanting want.Line slots) closer))

-- these behind an item on its line
abbrev pub hung_docs : List Token → ℕ → Part → List Part → ℕ → List Doc
hung_docs ts before next slots closer = gap_docs ts before next.first want.Space ++ hung_doc ts next slots closer ∷ []

-- the first slot and, on its line, the second; the others are below the second
abbrev pub hang_doc : List Token → Slots → Doc
hang_doc ts l = first_then ts l (hung_docs ts l.first.last l.second l.others l.closer)

-- the first slot and the headers on one line, and the bodies below, each with this want before it
abbrev pub in_line_doc : List Token → Slots → ℕ → Want → Doc
in_line_doc ts l headers w =
    first_then ts l (Nest 1 (seq (inner_docs ts l.first.last
    (steps_wanting want.Space (take headers (l.second ∷ l.others))
    ++ steps_wanting w (drop headers (l.second ∷ l.others))) l.closer))
    ∷ [])

-- the second slot and headers below it as one part
abbrev pub column_part : List Token → Part → List Part → Part
column_part ts next headers =
    part next.first (steps_last next.last (steps_wanting want.Line headers))
    (Align (seq (next.doc ∷ steps_docs ts next.last (steps_wanting want.Line headers))))

-- the second slot and headers below it, and bodies, each with this want before it, up to the closer; the gap before the
-- closer stands behind the last header where there is no body
abbrev pub column_docs : List Token → Slots → List Part → Want → List Part → List Doc
column_docs ts l headers w [] = hung_docs ts l.first.last l.second headers l.closer
column_docs ts l headers w (b ∷ bodies) =
    inner_docs ts l.first.last
    (step want.Space (column_part ts l.second headers) ∷ steps_wanting w (b ∷ bodies)) l.closer

-- the first slot and, on its line, the second; so many more headers below the second, and the bodies below the first
-- slot
abbrev pub in_column_doc : List Token → Slots → ℕ → Want → Doc
in_column_doc ts l more w =
    first_then ts l (Nest 1 (seq (column_docs ts l (take more l.others) w (drop more l.others))) ∷ [])

-- what is wanted before each body: a line break, which no flat layout has unless all may stand on one line
abbrev pub body_want : Bool → Want
body_want true = want.Line
body_want false = want.Must

-- a layout that costs so much more
abbrev pub charged : ℕ → Doc → Doc
charged k d = if k == 0 then d else Charge k d

-- a choice among layouts, of which the earlier stand first
unfoldable pub choice_of : Doc → List Doc → Doc
choice_of d [] = d
choice_of d (e ∷ others) = Choice d (choice_of e others)

-- layouts, of which there is a first one
pub record Layouts : Type 0 where
  pub first : Doc
  pub others : List Doc

-- headers below one another, where there are two or more
abbrev pub column_layouts : List Token → Slots → ℕ → Want → ℕ → List Doc
column_layouts ts l headers w k = if leb 2 headers then charged k (in_column_doc ts l (headers - 1) w) ∷ [] else []

-- all on one line, where that is allowed
abbrev pub line_layouts : Bool → Doc → ℕ → List Doc
line_layouts true d k = charged k (Flatten d) ∷ []
line_layouts false d k = []

-- the layouts of a list of two slots or more by its shape and its charges
abbrev pub layouts_of : Shape → Charges → List Token → Slots → Layouts
layouts_of Application charges ts l =
    let dropped = drop_doc ts l.opener l.first (l.second ∷ l.others) l.closer in
    record {
      first = charged charges.broken dropped;
      others = charged charges.hung (hang_doc ts l) ∷ charged charges.flat (Flatten dropped) ∷ [];
    }
layouts_of Hanging charges ts l =
    let dropped = drop_doc ts l.opener l.first (l.second ∷ l.others) l.closer in
    record { first = charged charges.hung (hang_doc ts l); others = charged charges.flat (Flatten dropped) ∷ [] }
layouts_of Plain charges ts l =
    let dropped = drop_doc ts l.opener l.first (l.second ∷ l.others) l.closer in
    record { first = charged charges.broken dropped; others = charged charges.flat (Flatten dropped) ∷ [] }
layouts_of (Body headers one_line) charges ts l =
    let w = body_want one_line in
    let in_line = in_line_doc ts l headers w in
    record {
      first = charged charges.broken in_line;
      others = column_layouts ts l headers w charges.hung ++ line_layouts one_line in_line charges.flat;
    }

-- the choice among the layouts of a list
abbrev pub shape_doc : Shape → Charges → List Token → Slots → Doc
shape_doc shape charges ts l =
    let layouts = layouts_of shape charges ts l in
    choice_of layouts.first layouts.others
