-- One blank line more.
use Rattle.std.proofs.Common.{◌≡◌, ℕ, ◌+◌, [], ◌∷◌, ◌++◌, replicate, ap, arith}
use Rattle.std.proofs.lemmas.List.{replicate-append-replicate}
use Rattle.rf_base_file.specs.Rows.{bare_break}
use Rattle.rf_slot_rows.proofs.Putting.{puts_none, puts_same, fills_both}
use Rattle.rf_slot_rows.proofs.gaps.put_blanks.Goals as goal

pub loop-i-init : goal.loop-i-init
loop-i-init c = record { put = puts_none c.args.rows.now; grown = omega arith }

pub loop-i-preserved : goal.loop-i-preserved
loop-i-preserved c =
    let i = c.loop-i._i in
    record {
      put = puts_same c.args.rows.now c.bare_break.new.self (replicate i bare_break ++ bare_break ∷ []) (replicate (i + 1) bare_break)
          (replicate-append-replicate i 1 bare_break)
          (fills_both c.args.rows.now c.loop-i.rows c.bare_break.new.self (λ f. replicate i bare_break) (λ f. bare_break ∷ []) c.loop-i.invariant.put c.in_ok-bare_break.ensures.put);
      grown = omega (arith, c.loop-i.invariant.grown, c.in_ok-bare_break.ensures.grown);
    }

pub returns-clause-put : goal.returns-clause-put
returns-clause-put c =
    let all : c.loop-i._i ≡ c.args.blanks = omega arith in
    puts_same c.args.rows.now c.loop-i.rows (replicate c.loop-i._i bare_break) (replicate c.args.blanks bare_break)
    (ap (λ (n : ℕ). replicate n bare_break) all) c.loop-i.invariant.put

pub returns-clause-grown : goal.returns-clause-grown
returns-clause-grown c =
    let all : c.loop-i._i ≡ c.args.blanks = omega arith in
    omega (arith, c.loop-i.invariant.grown, all)
