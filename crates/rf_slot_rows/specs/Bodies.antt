-- The bodies of lists as pieces, where their slots stand among these, and how they are laid out.
use Rattle.std.specs.Prelude.{ℕ, zero, suc, ◌-◌, leb, Bool, true, false, List, [], ◌∷◌}
use Rattle.rf_base_document.specs.Document.{Doc}
use Rattle.rf_base_grammar.specs.Token.{Token}
use Rattle.rf_base_style.specs.declared.rules.Charges.{Charges}
use Rattle.rf_base_tree.specs.declared.separators.Want.{Want}
use Rattle.rf_base_tree.specs.declared.separators.Want.TheVariants as want
use Rattle.rf_base_file.specs.declared.shapes.Shape.{Shape}
use Rattle.rf_base_file.specs.declared.shapes.Shape.TheVariants as shape
use Rattle.rf_base_file.specs.declared.shapes.Roles.{Roles}
use Rattle.rf_base_file.specs.Rows.{Part, step, gap_docs, steps_docs, steps_wanting, inner_docs}
use Rattle.rf_base_file.specs.Ways.{later_roles}
use Rattle.rf_rows.specs.declared.pieces.Fill.{Fill}
use Rattle.rf_rows.specs.declared.pieces.Fill.TheVariants as fill
use Rattle.rf_rows.specs.declared.layouts.Row.{Row}
use Rattle.rf_rows.specs.declared.layouts.Row.TheVariants.{Dropped, Hanging, InLine, InColumn}
use Rattle.rf_rows.specs.declared.layouts.Marks.{Marks}
use Rattle.rf_rows.specs.declared.layouts.Layout.{Layout}
use Rattle.rf_rows.specs.declared.layouts.Layouts.{Layouts}
use Rattle.rf_rows.specs.declared.layouts.Layouts.TheVariants.{One, Two, Three}
use Rattle.rf_rows.specs.Layouts.{Filled}
use Rattle.rf_slot_rows.specs.declared.layouts.Places.{Places}

-- what is wanted in a gap that is filled so
abbrev pub want_of : Fill → Want
want_of fill.Space = want.Space
want_of fill.Newline = want.Line
want_of fill.Hard = want.Must

-- slots behind this item, whose gaps are free
abbrev pub free_steps : List Token → ℕ → List Part → Filled
free_steps ts before parts = λ f. steps_docs ts before (steps_wanting (want_of f) parts)

-- the same up to the closer and with the gap before that
abbrev pub free_inner : List Token → ℕ → List Part → ℕ → Filled
free_inner ts before parts closer = λ f. inner_docs ts before (steps_wanting (want_of f) parts) closer

-- the first slot of a list behind its opener
abbrev pub first_docs : List Token → ℕ → Part → List Doc
first_docs ts opener first = steps_docs ts opener (step want.Nothing first ∷ [])

-- the free gap before the second slot
abbrev pub second_gap : List Token → ℕ → ℕ → Filled
second_gap ts before next = λ f. gap_docs ts before next (want_of f)

-- headers behind this item that have these bodies behind them: up to the closer and with the gap before that where
-- there is no body
abbrev pub headers_docs : List Token → ℕ → List Part → List Part → ℕ → Filled
headers_docs ts before headers [] closer = free_inner ts before headers closer
headers_docs ts before headers (b ∷ bodies) closer = free_steps ts before headers

-- how many headers of this shape stand behind the second slot
abbrev pub more_headers : Shape → ℕ
more_headers (shape.Body headers one_line) = headers - 1
more_headers _ = 0

-- what stands in the gaps before bodies of this shape
abbrev pub body_fill : Shape → Fill
body_fill (shape.Body headers false) = fill.Hard
body_fill _ = fill.Newline

-- the marks of a list of this shape, whose slots stand at these heights above this one; of a body without headers each
-- slot behind the first one is a body
abbrev pub marks_by : ℕ → ℕ → ℕ → Fill → Marks
marks_by first second bodies f = record { first = first; second = second; bodies = bodies; fill = f }

abbrev pub marks_at : Shape → ℕ → Places → Marks
marks_at (shape.Body zero one_line) height p =
    marks_by (p.first - height) (p.first - height) (p.first - height) (body_fill (shape.Body zero one_line))
marks_at s height p = marks_by (p.first - height) (p.second - height) (p.bodies - height) (body_fill s)

-- a layout
abbrev pub layout : Row → Bool → ℕ → Layout
layout row flat charge = record { row = row; flat = flat; charge = charge }

-- the layouts of a body, with headers below one another in one of them or in none, and all on one line or not
abbrev pub body_layouts : Bool → Bool → Charges → Layouts
body_layouts true true charges =
    Three (layout InLine false charges.broken) (layout InColumn false charges.hung) (layout InLine true charges.flat)
body_layouts true false charges = Two (layout InLine false charges.broken) (layout InColumn false charges.hung)
body_layouts false true charges = Two (layout InLine false charges.broken) (layout InLine true charges.flat)
body_layouts false false charges = One (layout InLine false charges.broken)

-- the layouts of a list of two slots or more by its shape and its charges
abbrev pub layouts_of : Shape → Charges → Layouts
layouts_of shape.Application charges =
    Three (layout Dropped false charges.broken) (layout Hanging false charges.hung) (layout Dropped true charges.flat)
layouts_of shape.Hanging charges = Two (layout Hanging false charges.hung) (layout Dropped true charges.flat)
layouts_of shape.Plain charges = Two (layout Dropped false charges.broken) (layout Dropped true charges.flat)
layouts_of (shape.Body headers one_line) charges = body_layouts (leb 2 headers) one_line charges

-- the roles of the slots behind so many
unfoldable pub roles_behind : ℕ → Roles → Roles
roles_behind zero roles = roles
roles_behind (suc n) roles = roles_behind n (later_roles roles)
