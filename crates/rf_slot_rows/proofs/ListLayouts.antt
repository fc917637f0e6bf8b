-- The marks and the layouts of lists keep what is asked of those of cells.
use Rattle.std.proofs.Common.{ℕ, zero, suc, ◌-◌, ◌≤◌, Bool, true, false, arith}
use Rattle.rf_base_style.specs.declared.rules.Charges.{Charges}
use Rattle.rf_base_style.specs.Table.{AreCharges}
use Rattle.rf_base_file.specs.declared.shapes.Shape.{Shape}
use Rattle.rf_base_file.specs.declared.shapes.Shape.TheVariants as shape
use Rattle.rf_rows.specs.Layouts.{AreMarks, AreLayouts}
use Rattle.rf_slot_rows.specs.declared.layouts.Places.{Places}
use Rattle.rf_slot_rows.specs.Bodies.{marks_at, body_layouts, layouts_of}

pub marks_stand : (s : Shape) (h : ℕ) (p : Places) (n : ℕ) → h ≤ p.first → p.first ≤ p.second → p.second ≤ p.bodies → p.bodies ≤ n →
    AreMarks (marks_at s h p) (n - h)
marks_stand shape.Application h p n a b c d = record { first = omega (arith, a, b, c, d); second = omega (arith, a, b, c, d); bodies = omega (arith, a, b, c, d) }
marks_stand shape.Hanging h p n a b c d = record { first = omega (arith, a, b, c, d); second = omega (arith, a, b, c, d); bodies = omega (arith, a, b, c, d) }
marks_stand shape.Plain h p n a b c d = record { first = omega (arith, a, b, c, d); second = omega (arith, a, b, c, d); bodies = omega (arith, a, b, c, d) }
marks_stand (shape.Body zero one_line) h p n a b c d = record { first = omega arith; second = omega arith; bodies = omega (arith, a, b, c, d) }
marks_stand (shape.Body (suc k) one_line) h p n a b c d = record { first = omega (arith, a, b, c, d); second = omega (arith, a, b, c, d); bodies = omega (arith, a, b, c, d) }

by_body : (column one_line : Bool) (charges : Charges) (n : ℕ) → AreCharges charges → AreLayouts (body_layouts column one_line charges) n
by_body true true charges n h = (h.broken, (h.hung, h.flat))
by_body true false charges n h = (h.broken, h.hung)
by_body false true charges n h = (h.broken, h.flat)
by_body false false charges n h = h.broken

pub layouts_stand : (s : Shape) (charges : Charges) (n : ℕ) → AreCharges charges → AreLayouts (layouts_of s charges) n
layouts_stand shape.Application charges n h = (h.broken, (h.hung, h.flat))
layouts_stand shape.Hanging charges n h = (h.hung, h.flat)
layouts_stand shape.Plain charges n h = (h.broken, h.flat)
layouts_stand (shape.Body headers one_line) charges n h = by_body _ one_line charges n h
