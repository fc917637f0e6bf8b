-- A charge is no character.
use Rattle.std.proofs.Common.{append-nil, sym}
use Rattle.std.specs.Str.{chars}
use Rattle.std.specs.String.{string_bytes}
use Rattle.rf_base_document.specs.Render.{Fee}
use Rattle.rf_whole.proofs.Writing.{kept_more, widest_fee}
use Rattle.rf_whole.proofs.sheets.SheetPaper.fee.Goals as goal

pub fee-requires-clause-held : goal.fee-requires-clause-held
fee-requires-clause-held g c = let held = c.requires.held in (held.0.tally, held.1, held.2, (held.3.0, held.3.1.counts))

pub returns : goal.returns
returns g c = λ blank pieces weight held.
    let gains = c.fee.ensures blank.tally pieces weight (held.0, held.1.counts) in (
      gains.0,
      kept_more _ _ _ _ _ _ (λ column. Fee c.args.k) pieces _ held.1.text_is gains.1 (sym (append-nil (chars (string_bytes c.args.self.now.text))))
          (widest_fee c.args.self.now.widest c.args.k pieces held.1.widest_is),
    )
